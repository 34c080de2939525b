-- The first misfit of an expression, from those of its sides.
use Rattle.std.proofs.Common.{sym, not, ◌≡◌, ℕ, Bool, true, false, List, [], ◌∷◌, ◌++◌, Option, Some, None, refl, ap, ◌∙◌, find, if◌then◌else◌, option_map}
use Rattle.std.specs.Option.{option_or}
use Rattle.std.proofs.lemmas.List.Folds.{find-append}
use Rattle.ss_expr.specs.Kinds.{misfit, own_misfit, is_misfit, fits, takes, kind_of, unary_kind, same_kind}
use Rattle.ss_expr.specs.Tree.{Tree, unary, binary, place, nodes}
use Rattle.ss_expr.specs.declared.kind.ValueKind.{ValueKind}
use Rattle.ss_expr.specs.declared.kind.ValueKind.TheVariants.{Num, Text, Truth}
use Rattle.ss_expr.specs.declared.operators.UnaryOp.{UnaryOp}
use Rattle.ss_expr.specs.declared.operators.BinaryOp.{BinaryOp}

map-or : (xs ys : Option Tree) → option_map place (option_or xs ys) ≡ option_or (option_map place xs) (option_map place ys)
map-or None ys = refl
map-or (Some e) ys = refl

among_one : (e : Tree) → option_map place (find is_misfit (e ∷ [])) ≡ own_misfit e
among_one e = elim (is_misfit e) as (λ b. option_map place (if b then Some e else None) ≡ (if b then Some (place e) else None)) [ true ↦ refl | false ↦ refl ]

among : (xs ys : List Tree) → option_map place (find is_misfit (xs ++ ys)) ≡ option_or (option_map place (find is_misfit xs)) (option_map place (find is_misfit ys))
among xs ys = ap (option_map place) (find-append is_misfit xs ys) ∙ map-or (find is_misfit xs) (find is_misfit ys)

pub misfit-unary : (op : UnaryOp) (at : ℕ) (e : Tree) → misfit (unary op at e) ≡ option_or (misfit e) (own_misfit (unary op at e))
misfit-unary op at e = among (nodes e) (unary op at e ∷ []) ∙ ap (option_or (misfit e)) (among_one (unary op at e))

pub misfit-binary : (op : BinaryOp) (at : ℕ) (l r : Tree) → misfit (binary op at l r) ≡ option_or (option_or (misfit l) (misfit r)) (own_misfit (binary op at l r))
misfit-binary op at l r =
    among (nodes l ++ nodes r) (binary op at l r ∷ [])
    ∙ ap (λ x. option_or x (option_map place (find is_misfit (binary op at l r ∷ [])))) (among (nodes l) (nodes r))
    ∙ ap (option_or (option_or (misfit l) (misfit r))) (among_one (binary op at l r))

pub ruleset misfits = (misfit-unary, misfit-binary)

-- what the first operand of two says of their first misfit
or_none : (x y : Option ℕ) → option_or x y ≡ None → (x ≡ None) × (y ≡ None)
or_none None y h = (refl, h)
or_none (Some at) y h = cc

own_none : (b : Bool) (at : ℕ) → (if not b then Some at else None) ≡ None → b ≡ true
own_none true at h = refl
own_none false at h = cc

pub fitting-operand : (op : UnaryOp) (at : ℕ) (e : Tree) → misfit (unary op at e) ≡ None → misfit e ≡ None
fitting-operand op at e h = (or_none (misfit e) _ (sym (misfit-unary op at e) ∙ h)).0

pub fitting-unary : (op : UnaryOp) (at : ℕ) (e : Tree) → misfit (unary op at e) ≡ None → same_kind (kind_of e) (unary_kind op) ≡ true
fitting-unary op at e h = own_none (fits (unary op at e)) at (or_none (misfit e) _ (sym (misfit-unary op at e) ∙ h)).1

pub fitting-left : (op : BinaryOp) (at : ℕ) (l r : Tree) → misfit (binary op at l r) ≡ None → misfit l ≡ None
fitting-left op at l r h = (or_none (misfit l) (misfit r) (or_none (option_or (misfit l) (misfit r)) _ (sym (misfit-binary op at l r) ∙ h)).0).0

pub fitting-right : (op : BinaryOp) (at : ℕ) (l r : Tree) → misfit (binary op at l r) ≡ None → misfit r ≡ None
fitting-right op at l r h = (or_none (misfit l) (misfit r) (or_none (option_or (misfit l) (misfit r)) _ (sym (misfit-binary op at l r) ∙ h)).0).1

pub fitting-binary : (op : BinaryOp) (at : ℕ) (l r : Tree) → misfit (binary op at l r) ≡ None → takes op (kind_of l) (kind_of r) ≡ true
fitting-binary op at l r h = own_none (fits (binary op at l r)) at (or_none (option_or (misfit l) (misfit r)) _ (sym (misfit-binary op at l r) ∙ h)).1

pub same_kind-true : (k m : ValueKind) → same_kind k m ≡ true → k ≡ m
same_kind-true Num Num h = refl
same_kind-true Text Text h = refl
same_kind-true Truth Truth h = refl
same_kind-true Num Text h = cc
same_kind-true Num Truth h = cc
same_kind-true Text Num h = cc
same_kind-true Text Truth h = cc
same_kind-true Truth Num h = cc
same_kind-true Truth Text h = cc

pub ruleset fitting = (fitting-operand, fitting-unary, fitting-left, fitting-right, fitting-binary, same_kind-true)

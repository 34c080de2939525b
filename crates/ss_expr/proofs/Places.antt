-- Tokens at other places form the same, at those places.
use Rattle.std.proofs.Common.{◌≡◌, ◌≤◌, ℕ, ◌+◌, max, List, [], ◌∷◌, ◌++◌, refl, ap, sym, ◌∙◌, subst}
use Rattle.ss_expr.specs.Grammar.{Form, single, bracketed, prefixed, joined, print, unary_token, tree_of_form, form_binding, left_binding, right_binding, unary_binding, IsFormed, levels}
use Rattle.ss_expr.specs.Printing.{kinds_of, unplaced}
use Rattle.ss_expr.specs.Tree.{Tree, unary, binary}
use Rattle.ss_expr.specs.declared.token.Token.{Token}
use Rattle.ss_expr.specs.declared.token.Token.TheVariants as token
use Rattle.ss_expr.specs.declared.token.Placed.{Placed}

pub kinds_of-append : (xs ys : List Placed) → kinds_of (xs ++ ys) ≡ kinds_of xs ++ kinds_of ys
kinds_of-append [] ys = refl
kinds_of-append (x ∷ xs) ys = ap (λ (ts : List Token). x.token ∷ ts) (kinds_of-append xs ys)

-- the first of some tokens, at its place
record Front (ps : List Placed) (t : Token) (ts : List Token) : Type 0 where
  at : ℕ
  behind : List Placed
  is : record { at = at; token = t } ∷ behind ≡ ps
  kinds : kinds_of behind ≡ ts

front_of : (ps : List Placed) (t : Token) (ts : List Token) → kinds_of ps ≡ t ∷ ts → Front ps t ts
front_of [] t ts h = cc
front_of (p ∷ ps) t ts h =
    let same : t ≡ p.token = cc in
    let rest : kinds_of ps ≡ ts = cc in
    record { at = p.at; behind = ps; is = ap (λ (k : Token). record { at = p.at; token = k } ∷ ps) same; kinds = rest }

nothing : (ps : List Placed) → kinds_of ps ≡ [] → [] ≡ ps
nothing [] h = refl
nothing (p ∷ ps) h = cc

record Halves (ps : List Placed) (xs ys : List Token) : Type 0 where
  first : List Placed
  second : List Placed
  is : first ++ second ≡ ps
  firsts : kinds_of first ≡ xs
  seconds : kinds_of second ≡ ys

halves_of : (xs ys : List Token) (ps : List Placed) → kinds_of ps ≡ xs ++ ys → Halves ps xs ys
halves_of [] ys ps h = record { first = []; second = ps; is = refl; firsts = refl; seconds = h }
halves_of (x ∷ xs) ys ps h =
    let f = front_of ps x (xs ++ ys) h in
    let rest = halves_of xs ys f.behind f.kinds in
    let p : Placed = record { at = f.at; token = x } in
    record { first = p ∷ rest.first; second = rest.second; is = ap (λ (qs : List Placed). p ∷ qs) rest.is ∙ f.is; firsts = ap (λ (ts : List Token). x ∷ ts) rest.firsts; seconds = rest.seconds }

-- a form of the same shape at the places of these tokens
pub record Moved (f : Form) (ps : List Placed) : Type 0 where
  pub form : Form
  pub printed : print form ≡ ps
  pub tree : unplaced (tree_of_form form) ≡ unplaced (tree_of_form f)
  pub binds : form_binding form ≡ form_binding f
  pub formed : IsFormed f → IsFormed form
  pub deep : levels form ≡ levels f

pub moved : (f : Form) (ps : List Placed) → kinds_of ps ≡ kinds_of (print f) → Moved f ps
moved (single at a) ps h =
    let p = front_of ps (token.Atom a) [] h in
    record { form = single p.at a; printed = ap (λ (qs : List Placed). record { at = p.at; token = token.Atom a } ∷ qs) (nothing p.behind p.kinds) ∙ p.is; tree = refl; binds = refl; formed = λ _. tt; deep = refl }
moved (bracketed from f to) ps h =
    let inside = kinds_of-append (print f) (record { at = to; token = token.Close } ∷ []) in
    let p = front_of ps token.Open (kinds_of (print f) ++ token.Close ∷ []) (h ∙ ap (λ (ts : List Token). token.Open ∷ ts) inside) in
    let s = halves_of (kinds_of (print f)) (token.Close ∷ []) p.behind p.kinds in
    let m = moved f s.first s.firsts in
    let q = front_of s.second token.Close [] s.seconds in
    let close : Placed = record { at = q.at; token = token.Close } in
    let last = ap (λ (qs : List Placed). close ∷ qs) (nothing q.behind q.kinds) ∙ q.is in
    let body = ap (λ (qs : List Placed). qs ++ close ∷ []) m.printed ∙ ap (λ (qs : List Placed). s.first ++ qs) last ∙ s.is in
    record {
      form = bracketed p.at m.form q.at;
      printed = ap (λ (qs : List Placed). record { at = p.at; token = token.Open } ∷ qs) body ∙ p.is;
      tree = m.tree;
      binds = refl;
      formed = m.formed;
      deep = ap (λ (n : ℕ). n + 1) m.deep;
    }
moved (prefixed op at f) ps h =
    let p = front_of ps (unary_token op) (kinds_of (print f)) h in
    let m = moved f p.behind p.kinds in
    record {
      form = prefixed op p.at m.form;
      printed = ap (λ (qs : List Placed). record { at = p.at; token = unary_token op } ∷ qs) m.printed ∙ p.is;
      tree = ap (λ (e : Tree). unary op 0 e) m.tree;
      binds = refl;
      formed = λ h. (subst (λ n. unary_binding op ≤ n) (sym m.binds) h.0, m.formed h.1);
      deep = ap (λ (n : ℕ). n + 1) m.deep;
    }
moved (joined op at l r) ps h =
    let s = halves_of (kinds_of (print l)) (token.Operator op ∷ kinds_of (print r)) ps (h ∙ kinds_of-append (print l) (record { at = at; token = token.Operator op } ∷ print r)) in
    let left = moved l s.first s.firsts in
    let p = front_of s.second (token.Operator op) (kinds_of (print r)) s.seconds in
    let right = moved r p.behind p.kinds in
    let between : Placed = record { at = p.at; token = token.Operator op } in
    record {
      form = joined op p.at left.form right.form;
      printed = ap (λ (qs : List Placed). qs ++ between ∷ print right.form) left.printed ∙ ap (λ (qs : List Placed). s.first ++ between ∷ qs) right.printed ∙ ap (λ (qs : List Placed). s.first ++ qs) p.is ∙ s.is;
      tree = ap (λ (e : Tree). binary op 0 e (unplaced (tree_of_form right.form))) left.tree ∙ ap (λ (e : Tree). binary op 0 (unplaced (tree_of_form l)) e) right.tree;
      binds = refl;
      formed = λ h. (subst (λ n. left_binding op ≤ n) (sym left.binds) h.0, subst (λ n. right_binding op ≤ n) (sym right.binds) h.1, left.formed h.2, right.formed h.3);
      deep = ap (λ (n : ℕ). max n (levels right.form)) left.deep ∙ ap (λ (n : ℕ). max (levels l) n) right.deep;
    }

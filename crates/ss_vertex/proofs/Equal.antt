-- Instances that stand are the same where their numbers are.
use Rattle.std.proofs.Common.{◌≡◌, ℕ, ◌+◌, List, ◌++◌, length, drop, Option, Some, None, option_map, IfSome, refl, sym, ap, ◌∙◌, subst, arith, length-append}
use Rattle.std.proofs.lemmas.List.{drop_at}
use Rattle.ss_elem.specs.declared.element.Element.{Element}
use Rattle.ss_meaning.specs.Meaning.{vertex}
use Rattle.ss_meaning.specs.Positions.{out}
use Rattle.ss_plan.specs.Plan.{PlanText, vertices_of}
use Rattle.ss_state.specs.State.{InstNumbers}
use Rattle.ss_vertex.specs.Arriving.{last_given}
use Rattle.ss_vertex.specs.Inst.{OperatorState, Running, InstState, running_numbers}
use Rattle.ss_vertex.specs.Laws.{ReplicasAreEqual}
use Rattle.ss_vertex.specs.Standing.{Stands, IsEndOf, list_len, operator_at}

ends_same : (xs ys all : List Element) → IsEndOf xs all → IsEndOf ys all → length xs ≡ length ys → xs ≡ ys
ends_same xs ys all h k e =
    let a : List Element = h.0 in
    let b : List Element = k.0 in
    let one : length all ≡ length a + length xs = ap length h.1 ∙ length-append a xs in
    let other : length all ≡ length b + length ys = ap length k.1 ∙ length-append b ys in
    let same : length a ≡ length b = omega arith in
    sym (drop_at a xs (length a) refl)
    ∙ ap (drop (length a)) (sym h.1 ∙ k.1)
    ∙ ap (λ n. drop n (b ++ ys)) same
    ∙ drop_at b ys (length b) refl

abbrev running_of : ℕ → ℕ → List Element → Option OperatorState → Running
running_of n next left operator = record { n = n; next = next; left = left; operator = operator }

running_is : (a b : Running) → a.n ≡ b.n → a.next ≡ b.next → a.left ≡ b.left → a.operator ≡ b.operator → a ≡ b
running_is a b n next left operator =
    ap (λ m. running_of m a.next a.left a.operator) n
    ∙ ap (λ m. running_of b.n m a.left a.operator) next
    ∙ ap (λ (xs : List Element). running_of b.n b.next xs a.operator) left
    ∙ ap (running_of b.n b.next b.left) operator

same_up : (plan : PlanText) (v : ℕ) (a b : Running) → Stands plan v a → Stands plan v b → running_numbers a ≡ running_numbers b → a ≡ b
same_up plan v a b h k e =
    let n : a.n ≡ b.n = ap (λ (i : InstNumbers). i.n) e in
    let count : length a.left ≡ length b.left = ap (λ (i : InstNumbers). i.left) e in
    let there : IsEndOf b.left (last_given (vertices_of plan) v a.n) = subst (λ m. IsEndOf b.left (last_given (vertices_of plan) v m)) (sym n) k.left in
    let one = h.next in
    let other : b.next + length b.left ≡ out (vertices_of plan) v a.n = k.next ∙ ap (out (vertices_of plan) v) (sym n) in
    running_is a b n (omega arith) (ends_same a.left b.left (last_given (vertices_of plan) v a.n) h.left there count)
    (h.operator ∙ ap (operator_at plan v) n ∙ sym k.operator)

same_running : (plan : PlanText) (v : ℕ) (r q : Option Running) → IfSome r (Stands plan v) → IfSome q (Stands plan v)
    → option_map running_numbers r ≡ option_map running_numbers q → r ≡ q
same_running plan v None None h k e = refl
same_running plan v None (Some b) h k e = cc
same_running plan v (Some a) None h k e = cc
same_running plan v (Some a) (Some b) h k e =
    let same : running_numbers a ≡ running_numbers b = cc in
    ap (λ (up : Running). Some up) (same_up plan v a b h k same)

abbrev inst_of : ℕ → Option ℕ → Option Running → InstState
inst_of v list running = record { v = v; list = list; running = running }

inst_is : (a b : InstState) → a.v ≡ b.v → a.list ≡ b.list → a.running ≡ b.running → a ≡ b
inst_is a b v list running =
    ap (λ u. inst_of u a.list a.running) v
    ∙ ap (λ (l : Option ℕ). inst_of b.v l a.running) list
    ∙ ap (inst_of b.v b.list) running

pub replicas_equal : ReplicasAreEqual
replicas_equal plan a b h k v numbers =
    let there : IfSome b.running (Stands plan a.v) = subst (λ u. IfSome b.running (Stands plan u)) (sym v) k.running in
    inst_is a b v
    (h.list ∙ ap (λ u. list_len (vertex (vertices_of plan) u)) v ∙ sym k.list)
    (same_running plan a.v a.running b.running h.running there numbers)

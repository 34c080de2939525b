use Rattle.std.proofs.Common.{◌≡◌, ℕ, ◌-◌, ◌≤◌, List, ◌++◌, length, take, drop, sym, ap, ◌∙◌, arith}
use Rattle.std.specs.Prelude.{map}
use Rattle.std.proofs.lemmas.List.{append-nil, length-map}
use Rattle.std.proofs.Math.ListN.{drop_of_length-le}
use Rattle.std.proofs.Math.Seq.{take-length}
use Rattle.ss_outside.specs.Pieces.{are_ends, pieces, start_at}
use Rattle.ss_outside.proofs.PieceLists.{are_ends-drop, are_ends-out, pieces-out, start-le}
use Rattle.ss_outside.proofs.records.take_out.Goals as goal

-- a list of the same length is written over another
written : (n : ℕ) (new old : List ℕ) → n ≡ length new → length old ≤ length new → take n (new ++ drop (length new) old) ≡ new
written n new old len le =
    ap (λ (xs : List ℕ). take n (new ++ xs)) (drop_of_length-le old le)
    ∙ ap (take n) (append-nil new) ∙ ap (λ (k : ℕ). take k new) len ∙ take-length new

pub keep_from-requires : goal.keep_from-requires
keep_from-requires c =
    let ends = c.args.ends.now.items in
    let len : ℕ = length c.args.bytes.now.items in
    let start : c.start_of-start.result ≡ start_at 0 ends c.args.count =
    c.start_of-start.ensures ∙ ap (λ (xs : List ℕ). start_at 0 xs c.args.count) c.deref.ensures.value in
    let within = start-le (drop c.args.count ends) (start_at 0 ends c.args.count) len
    (are_ends-drop ends 0 len c.args.count c.requires.ends c.requires.count) in
    omega (arith, start, within)

pub returns-clause-left : goal.returns-clause-left
returns-clause-left c =
    let ends = c.args.ends.now.items in
    let bytes = c.args.bytes.now.items in
    let by : ℕ = start_at 0 ends c.args.count in
    let start : c.start_of-start.result ≡ by =
    c.start_of-start.ensures ∙ ap (λ (xs : List ℕ). start_at 0 xs c.args.count) c.deref.ensures.value in
    let left = c.keep_from-2.new.items.items in
    let lowered : c.lower.new.numbers ≡ map (λ n. n - by) (drop c.args.count ends) =
    c.lower.ensures ∙ ap (λ (n : ℕ). map (λ m. m - n) c.deref_mut.result.now) start
    ∙ ap (map (λ n. n - by)) (c.deref_mut.ensures.value ∙ c.keep_from-2.ensures) in
    let len : length c.lower.new.numbers ≡ length left =
    ap length lowered ∙ length-map (drop c.args.count ends) (λ n. n - by) ∙ ap length (sym c.keep_from-2.ensures) in
    ap (λ (xs : List ℕ). pieces xs 0 (take c.keep_from-2.new.items.len (c.lower.new.numbers ++ drop (length c.lower.new.numbers) left)))
    (c.keep_from.ensures ∙ ap (λ (n : ℕ). drop n bytes) start)
    ∙ ap (pieces (drop by bytes) 0)
    (written c.keep_from-2.new.items.len c.lower.new.numbers left (omega (arith, len)) (omega (arith, len)) ∙ lowered)
    ∙ pieces-out bytes ends c.args.count c.requires.ends c.requires.count

pub returns-clause-ends : goal.returns-clause-ends
returns-clause-ends c =
    let ends = c.args.ends.now.items in
    let bytes = c.args.bytes.now.items in
    let by : ℕ = start_at 0 ends c.args.count in
    let start : c.start_of-start.result ≡ by =
    c.start_of-start.ensures ∙ ap (λ (xs : List ℕ). start_at 0 xs c.args.count) c.deref.ensures.value in
    let left = c.keep_from-2.new.items.items in
    let lowered : c.lower.new.numbers ≡ map (λ n. n - by) (drop c.args.count ends) =
    c.lower.ensures ∙ ap (λ (n : ℕ). map (λ m. m - n) c.deref_mut.result.now) start
    ∙ ap (map (λ n. n - by)) (c.deref_mut.ensures.value ∙ c.keep_from-2.ensures) in
    let len : length c.lower.new.numbers ≡ length left =
    ap length lowered ∙ length-map (drop c.args.count ends) (λ n. n - by) ∙ ap length (sym c.keep_from-2.ensures) in
    ap (λ (xs : List ℕ). are_ends 0 (take c.keep_from-2.new.items.len (c.lower.new.numbers ++ drop (length c.lower.new.numbers) left)) (length xs))
    (c.keep_from.ensures ∙ ap (λ (n : ℕ). drop n bytes) start)
    ∙ ap (λ (xs : List ℕ). are_ends 0 xs (length (drop by bytes)))
    (written c.keep_from-2.new.items.len c.lower.new.numbers left (omega (arith, len)) (omega (arith, len)) ∙ lowered)
    ∙ are_ends-out bytes ends c.args.count c.requires.ends c.requires.count

-- The lines of rows, one row more.
use Rattle.std.proofs.Common.{◌≡◌, ◌∙◌, ℕ, suc, ◌+◌, List, ◌++◌, Result, Ok, Err, ap, sym, arith, append_assoc}
use Rattle.std.specs.Prelude.{OnErr}
use Rattle.std.proofs.lemmas.List.{append-nil}
use Rattle.ss_gen.specs.Events.{Drawn, cti_text, drawn_of, row_text, rows_text}
use Rattle.ss_gen.specs.Texts.{Extends}

pub no_rows : (seed : ℕ) (old : List ℕ) → old ≡ old ++ rows_text seed 0
unfolding rows_text
no_rows seed old = sym (append-nil old)

pub more_rows : (seed i : ℕ) (old before between after : List ℕ) (row : Drawn) → before ≡ old ++ rows_text seed i → row ≡ drawn_of seed i
    → between ≡ before ++ row_text row → after ≡ between ++ cti_text i → after ≡ old ++ rows_text seed (i + 1)
unfolding rows_text
more_rows seed i old before between after row told drawn line cti =
    let rows : List ℕ = rows_text seed i in
    let text : List ℕ = row_text (drawn_of seed i) in
    cti
    ∙ ap (λ (t : List ℕ). t ++ cti_text i) (line ∙ ap (λ (r : Drawn). before ++ row_text r) drawn ∙ ap (λ (t : List ℕ). t ++ text) told ∙ append_assoc old rows text)
    ∙ append_assoc old (rows ++ text) (cti_text i)
    ∙ ap (λ (n : ℕ). old ++ rows_text seed n) (let e : suc i ≡ i + 1 = omega arith in e)

-- where memory runs out in a line
pub part_of : {A E : Type 0} → (old more before after : List ℕ) (r : Result A E) → before ≡ old ++ more → Extends before after → OnErr r (Extends old after)
part_of old more before after (Ok a) told part = tt
part_of old more before after (Err e) told part =
    (more ++ part.0, part.1 ∙ ap (λ (t : List ℕ). t ++ part.0) told ∙ append_assoc old more part.0)

-- Rows that are read one after another.
use Rattle.std.proofs.Common.{◌≡◌, ℕ, suc, ◌+◌, List, [], ◌∷◌, ◌++◌, drop, Some, None, Result, Ok, Err, refl, sym, ap, ◌∙◌}
use Rattle.std.specs.Option.{option_map_or}
use Rattle.std.proofs.lemmas.List.{append_assoc, append-nil}
use Rattle.ss_elem.specs.declared.element.Event.{Event}
use Rattle.ss_image.specs.declared.row_form.RowForm.{RowForm}
use Rattle.ss_image.specs.Images.{row_len}
use Rattle.ss_join.specs.ImageTests.{row_read, rows_read, with_first}

-- rows in front of others, where those are read
abbrev pub with_front : List Event → Result (List Event) ℕ → Result (List Event) ℕ
with_front rows (Ok more) = Ok (rows ++ more)
with_front rows (Err at) = Err at

with_front-first : (rows : List Event) (row : Event) (read : Result (List Event) ℕ) → with_front rows (with_first row read) ≡ with_front (rows ++ row ∷ []) read
with_front-first rows row (Ok more) = ap (λ (all : List Event). let r : Result (List Event) ℕ = Ok all in r) (sym (append_assoc rows (row ∷ []) more))
with_front-first rows row (Err at) = refl

pub rows_read-some : (form : RowForm) (bound n at : ℕ) (rows : List Event) (row : Event) (bytes : List ℕ) → Some row ≡ row_read form bound bytes
    → with_front rows (rows_read form bound (suc n) at bytes) ≡ with_front (rows ++ row ∷ []) (rows_read form bound n (at + row_len form) (drop (row_len form) bytes))
unfolding rows_read
rows_read-some form bound n at rows row bytes h =
    ap (λ o. with_front rows (option_map_or (λ x. with_first x (rows_read form bound n (at + row_len form) (drop (row_len form) bytes))) o (Err at))) (sym h)
    ∙ with_front-first rows row (rows_read form bound n (at + row_len form) (drop (row_len form) bytes))

pub rows_read-none : (form : RowForm) (bound n at : ℕ) (rows : List Event) (bytes : List ℕ) → None ≡ row_read form bound bytes
    → with_front rows (rows_read form bound (suc n) at bytes) ≡ Err at
unfolding rows_read
rows_read-none form bound n at rows bytes h =
    ap (λ o. with_front rows (option_map_or (λ x. with_first x (rows_read form bound n (at + row_len form) (drop (row_len form) bytes))) o (Err at))) (sym h)

pub rows_read-done : (form : RowForm) (bound n at : ℕ) (rows : List Event) (bytes : List ℕ) → n ≡ 0 → with_front rows (rows_read form bound n at bytes) ≡ Ok rows
unfolding rows_read
rows_read-done form bound n at rows bytes h =
    ap (λ m. with_front rows (rows_read form bound m at bytes)) h
    ∙ ap (λ (all : List Event). let r : Result (List Event) ℕ = Ok all in r) (append-nil rows)

pub with_front-nil : (read : Result (List Event) ℕ) → with_front [] read ≡ read
with_front-nil (Ok rows) = refl
with_front-nil (Err at) = refl

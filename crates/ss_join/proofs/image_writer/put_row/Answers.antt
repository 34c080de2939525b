use Rattle.std.proofs.Common.{◌≡◌, ℕ, List, ◌++◌, sym, ap, ◌∙◌, ℤ}
use Rattle.std.proofs.lemmas.List.{append_assoc}
use Rattle.std.proofs.lemmas.Int.{to_z-of_z}
use Rattle.std.specs.Int.{w64, cast_unsigned}
use Rattle.ss_image.specs.Numbers.{number_bytes}
use Rattle.ss_image.specs.declared.row_form.RowForm.{RowForm}
use Rattle.ss_image.specs.Images.{narrow_bytes, wide_bytes, row_bytes}
use Rattle.ss_join.proofs.image_writer.put_row.Goals as goal

regrouped : (old a b c : List ℕ) → old ++ a ++ b ++ c ≡ old ++ (a ++ b ++ c)
regrouped old a b c = simp append_assoc

three : (old a b c p q r : List ℕ) → p ≡ old ++ a → q ≡ p ++ b → r ≡ q ++ c → r ≡ old ++ (a ++ b ++ c)
three old a b c p q r h i j = j ∙ (ap (λ x. x ++ c) (i ∙ ap (λ x. x ++ b) h) ∙ regrouped old a b c)

pub returns-in-Wide-clause-items : goal.returns-in-Wide-clause-items
unfolding wide_bytes
returns-in-Wide-clause-items c =
    let row = c.args.row.now in
    let bytes : ℤ → List ℕ = λ v. number_bytes 8 (cast_unsigned w64 v) in
    let third = to_z-of_z w64 c.third_value.result (record { sfits = c.third_value.type_inv }) ∙ c.third_value.ensures in
    let fourth = to_z-of_z w64 c.fourth_value.result (record { sfits = c.fourth_value.type_inv }) ∙ c.fourth_value.ensures in
    three c.args.out.now.items (narrow_bytes row) (bytes row.c) (bytes row.d)
    c.put_narrow.new.out.items c.put_value.new.out.items c.put_value-in-Wide.new.out.items
    c.put_narrow.ensures.items
    (c.put_value.ensures.items ∙ ap (λ (v : ℤ). c.put_narrow.new.out.items ++ bytes v) third)
    (c.put_value-in-Wide.ensures.items ∙ ap (λ (v : ℤ). c.put_value.new.out.items ++ bytes v) fourth)
    ∙ ap (λ (form : RowForm). c.args.out.now.items ++ row_bytes form row) (sym c.in-Wide.is)

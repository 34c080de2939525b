use Rattle.std.proofs.Common.{◌≡◌, ℕ, List, ◌++◌, length, ap, ◌∙◌}
use Rattle.std.proofs.lemmas.List.{append_assoc}
use Rattle.std.specs.List.{flat_map}
use Rattle.ss_image.specs.Numbers.{number_bytes}
use Rattle.ss_image.specs.declared.row_form.RowForm.{RowForm}
use Rattle.ss_image.specs.Images.{row_bytes, image_in, join_image}
use Rattle.ss_join.proofs.image_writer.put_image.Goals as goal

regrouped : (old a b c d : List ℕ) → old ++ a ++ b ++ c ++ d ≡ old ++ (a ++ b ++ c ++ d)
regrouped old a b c d = simp append_assoc

four : (old p a b c d a' b' q r s t : List ℕ) → p ≡ old → q ≡ p ++ a → r ≡ q ++ b → s ≡ r ++ c → t ≡ s ++ d → a ≡ a' → b ≡ b'
    → t ≡ old ++ (a' ++ b' ++ c ++ d)
four old p a b c d a' b' q r s t g h i j k ea eb =
    k ∙ (ap (λ x. x ++ d) (j ∙ ap (λ x. x ++ c) (i ∙ ap (λ x. x ++ b) (h ∙ ap (λ x. x ++ a) g)))
    ∙ (ap (λ x. old ++ x ++ b ++ c ++ d) ea ∙ (ap (λ x. old ++ a' ++ x ++ c ++ d) eb ∙ regrouped old a' b' c d)))

pub returns-clause-ok : goal.returns-clause-ok
unfolding join_image
returns-clause-ok c =
    four c.args.out.now.items c.reserve.new.self.items c.bytes_of_u32.result c.bytes_of_u32-2.result
    (flat_map (row_bytes c.of_sides-form.result) c.args.left.now) (flat_map (row_bytes c.of_sides-form.result) c.args.right.now)
    (number_bytes 4 (length c.args.left.now)) (number_bytes 4 (length c.args.right.now))
    c.put.new.out.items c.put-2.new.out.items c.put_rows.new.out.items c.put_rows-2.new.out.items
    c.in_ok-reserve.ensures.items c.put.ensures.items c.put-2.ensures.items c.put_rows.ensures.items c.put_rows-2.ensures.items
    c.bytes_of_u32.ensures c.bytes_of_u32-2.ensures
    ∙ ap (λ (form : RowForm). c.args.out.now.items ++ image_in form c.args.left.now c.args.right.now) c.of_sides-form.ensures

use Rattle.std.proofs.Common.{◌≡◌, ℕ, List, ◌++◌, ap, ◌∙◌, ℤ}
use Rattle.std.proofs.lemmas.List.{append_assoc}
use Rattle.std.proofs.lemmas.Int.{to_z-of_z}
use Rattle.std.specs.Int.{w128, cast_unsigned}
use Rattle.ss_image.specs.Numbers.{number_bytes, key_bytes}
use Rattle.ss_image.specs.Images.{entry_bytes}
use Rattle.ss_window.proofs.image_writer.put_entry.Goals as goal

joined : (old a b c d : List ℕ) → old ++ a ++ b ++ c ++ d ≡ old ++ (a ++ b ++ c ++ d)
joined old a b c d = simp append_assoc

four : (old a b c d a' b' c' d' p q r s : List ℕ) → p ≡ old ++ a → q ≡ p ++ b → r ≡ q ++ c → s ≡ r ++ d
    → a ≡ a' → b ≡ b' → c ≡ c' → d ≡ d' → s ≡ old ++ (a' ++ b' ++ c' ++ d')
four old a b c d a' b' c' d' p q r s h i j k ea eb ec ed =
    k ∙ (ap (λ x. x ++ d) (j ∙ ap (λ x. x ++ c) (i ∙ ap (λ x. x ++ b) h))
    ∙ (ap (λ x. old ++ x ++ b ++ c ++ d) ea ∙ (ap (λ x. old ++ a' ++ x ++ c ++ d) eb ∙ (ap (λ x. old ++ a' ++ b' ++ x ++ d) ec
    ∙ (ap (λ x. old ++ a' ++ b' ++ c' ++ x) ed ∙ joined old a' b' c' d')))))

pub returns-clause-items : goal.returns-clause-items
unfolding entry_bytes
returns-clause-items c =
    let value = to_z-of_z w128 c.value.result (record { sfits = c.value.type_inv }) ∙ c.value.ensures in
    four c.args.out.now.items c.bytes_of_u64.result c.bytes_of_key.result c.bytes_of_i128.result c.bytes_of_u64-2.result
    (number_bytes 8 c.args.end) (key_bytes c.args.key.now) (number_bytes 16 (cast_unsigned w128 c.args.total.now.value)) (number_bytes 8 c.args.total.now.rows)
    c.put.new.out.items c.put-2.new.out.items c.put-3.new.out.items c.put-4.new.out.items
    c.put.ensures.items c.put-2.ensures.items c.put-3.ensures.items c.put-4.ensures.items
    c.bytes_of_u64.ensures c.bytes_of_key.ensures
    (c.bytes_of_i128.ensures ∙ ap (λ (v : ℤ). number_bytes 16 (cast_unsigned w128 v)) value)
    (c.bytes_of_u64-2.ensures ∙ ap (number_bytes 8) c.rows.ensures)

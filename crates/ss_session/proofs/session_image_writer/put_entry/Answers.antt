use Rattle.std.proofs.Common.{◌≡◌, ℕ, List, ◌++◌, ap, ◌∙◌, ℤ}
use Rattle.std.proofs.lemmas.List.{append_assoc}
use Rattle.std.proofs.lemmas.Int.{to_z-of_z}
use Rattle.std.specs.Int.{w128, cast_unsigned}
use Rattle.ss_image.specs.Numbers.{number_bytes, key_bytes}
use Rattle.ss_image.specs.Images.{session_bytes}
use Rattle.ss_session.proofs.session_image_writer.put_entry.Goals as goal

joined : (old a b c d e : List ℕ) → old ++ a ++ b ++ c ++ d ++ e ≡ old ++ (a ++ b ++ c ++ d ++ e)
joined old a b c d e = simp append_assoc

five : (old a b c d e a' b' c' d' e' p q r s t : List ℕ) → p ≡ old ++ a → q ≡ p ++ b → r ≡ q ++ c → s ≡ r ++ d → t ≡ s ++ e
    → a ≡ a' → b ≡ b' → c ≡ c' → d ≡ d' → e ≡ e' → t ≡ old ++ (a' ++ b' ++ c' ++ d' ++ e')
five old a b c d e a' b' c' d' e' p q r s t h i j k l ea eb ec ed ee =
    l ∙ (ap (λ x. x ++ e) (k ∙ ap (λ x. x ++ d) (j ∙ ap (λ x. x ++ c) (i ∙ ap (λ x. x ++ b) h)))
    ∙ (ap (λ x. old ++ x ++ b ++ c ++ d ++ e) ea ∙ (ap (λ x. old ++ a' ++ x ++ c ++ d ++ e) eb ∙ (ap (λ x. old ++ a' ++ b' ++ x ++ d ++ e) ec
    ∙ (ap (λ x. old ++ a' ++ b' ++ c' ++ x ++ e) ed ∙ (ap (λ x. old ++ a' ++ b' ++ c' ++ d' ++ x) ee ∙ joined old a' b' c' d' e'))))))

pub returns-clause-items : goal.returns-clause-items
unfolding session_bytes
returns-clause-items c =
    let value = to_z-of_z w128 c.value.result (record { sfits = c.value.type_inv }) ∙ c.value.ensures in
    five c.args.out.now.items c.bytes_of_key.result c.bytes_of_u64.result c.bytes_of_u64-2.result c.bytes_of_i128.result c.bytes_of_u64-3.result
    (key_bytes c.args.entry.now.key) (number_bytes 8 c.args.entry.now.first) (number_bytes 8 c.args.entry.now.last)
    (number_bytes 16 (cast_unsigned w128 c.args.entry.now.value)) (number_bytes 8 c.args.entry.now.rows)
    c.put.new.out.items c.put-2.new.out.items c.put-3.new.out.items c.put-4.new.out.items c.put-5.new.out.items
    c.put.ensures.items c.put-2.ensures.items c.put-3.ensures.items c.put-4.ensures.items c.put-5.ensures.items
    (c.bytes_of_key.ensures ∙ ap key_bytes c.key.ensures) (c.bytes_of_u64.ensures ∙ ap (number_bytes 8) c.first.ensures)
    (c.bytes_of_u64-2.ensures ∙ ap (number_bytes 8) c.last.ensures.last)
    (c.bytes_of_i128.ensures ∙ ap (λ (v : ℤ). number_bytes 16 (cast_unsigned w128 v)) value)
    (c.bytes_of_u64-3.ensures ∙ ap (number_bytes 8) c.rows.ensures)

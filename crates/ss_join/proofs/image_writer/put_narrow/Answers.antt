use Rattle.std.proofs.Common.{◌≡◌, ℕ, List, ◌++◌, refl, ap, ◌∙◌, ℤ}
use Rattle.std.proofs.lemmas.List.{append_assoc}
use Rattle.std.proofs.lemmas.Int.{to_z-of_z}
use Rattle.std.specs.Int.{w64, cast_unsigned}
use Rattle.ss_image.specs.Numbers.{number_bytes, key_bytes}
use Rattle.ss_image.specs.Images.{narrow_bytes}
use Rattle.ss_join.proofs.image_writer.put_narrow.Goals as goal

regrouped : (old a b c d e : List ℕ) → old ++ a ++ b ++ c ++ d ++ e ≡ old ++ (a ++ b ++ c ++ d ++ e)
regrouped old a b c d e = simp append_assoc

five : (old a b c d e p q r s t : List ℕ) → p ≡ old ++ a → q ≡ p ++ b → r ≡ q ++ c → s ≡ r ++ d → t ≡ s ++ e
    → t ≡ old ++ (a ++ b ++ c ++ d ++ e)
five old a b c d e p q r s t h i j k l =
    l ∙ (ap (λ x. x ++ e) (k ∙ ap (λ x. x ++ d) (j ∙ ap (λ x. x ++ c) (i ∙ ap (λ x. x ++ b) h))) ∙ regrouped old a b c d e)

same_parts : (old a b c d e a' b' c' d' e' : List ℕ) → a ≡ a' → b ≡ b' → c ≡ c' → d ≡ d' → e ≡ e'
    → old ++ (a ++ b ++ c ++ d ++ e) ≡ old ++ (a' ++ b' ++ c' ++ d' ++ e')
same_parts old a b c d e a' b' c' d' e' ea eb ec ed ee =
    ap (λ x. old ++ (x ++ b ++ c ++ d ++ e)) ea ∙ (ap (λ x. old ++ (a' ++ x ++ c ++ d ++ e)) eb
    ∙ (ap (λ x. old ++ (a' ++ b' ++ x ++ d ++ e)) ec ∙ (ap (λ x. old ++ (a' ++ b' ++ c' ++ x ++ e)) ed
    ∙ ap (λ x. old ++ (a' ++ b' ++ c' ++ d' ++ x)) ee)))

pub returns-clause-items : goal.returns-clause-items
unfolding narrow_bytes
returns-clause-items c =
    let old = c.args.out.now.items in
    let row = c.args.row.now in
    let bytes : ℤ → List ℕ = λ v. number_bytes 8 (cast_unsigned w64 v) in
    let a = to_z-of_z w64 c.first_value.result (record { sfits = c.first_value.type_inv }) ∙ c.first_value.ensures in
    let b = to_z-of_z w64 c.second_value.result (record { sfits = c.second_value.type_inv }) ∙ c.second_value.ensures in
    five old c.bytes_of_u64.result c.bytes_of_u64-2.result c.bytes_of_key.result (bytes row.a) (bytes row.b)
    c.put.new.out.items c.put-2.new.out.items c.put-3.new.out.items c.put_value.new.out.items c.put_value-2.new.out.items
    c.put.ensures.items c.put-2.ensures.items c.put-3.ensures.items
    (c.put_value.ensures.items ∙ ap (λ (v : ℤ). c.put-3.new.out.items ++ bytes v) a)
    (c.put_value-2.ensures.items ∙ ap (λ (v : ℤ). c.put_value.new.out.items ++ bytes v) b)
    ∙ same_parts old c.bytes_of_u64.result c.bytes_of_u64-2.result c.bytes_of_key.result (bytes row.a) (bytes row.b)
    (number_bytes 8 row.start) (number_bytes 8 row.end) (key_bytes row.key) (bytes row.a) (bytes row.b)
    c.bytes_of_u64.ensures c.bytes_of_u64-2.ensures c.bytes_of_key.ensures refl refl

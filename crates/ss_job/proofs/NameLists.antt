-- The names of an index, and the keys of its set.
use Rattle.std.proofs.Common.{◌≡◌, ℕ, Bool, false, not, ◌||◌, cond, List, [], ◌∷◌, ◌++◌, map, String, Global, bytes_eq, string_bytes, refl, ap, ◌∙◌}
use Rattle.std.proofs.lemmas.List.{length-map, map-append}
use Rattle.std.specs.List.{list_any, position, prefix_len}
use Rattle.std.specs.String.{string_eq}
use Rattle.ss_job.specs.Wrong.{is_among}

prefix_len-names : (test : List ℕ → Bool) (keys : List (String Global)) → prefix_len (λ key. not (test (string_bytes key))) keys ≡ prefix_len (λ name. not (test name)) (map string_bytes keys)
prefix_len-names test [] = refl
prefix_len-names test (key ∷ keys) = rw (prefix_len-names test keys)

pub position-names : (test : List ℕ → Bool) (keys : List (String Global)) → position (λ key. test (string_bytes key)) keys ≡ position test (map string_bytes keys)
position-names test keys = rw (prefix_len-names test keys, length-map keys string_bytes)

pub list_any-names : (test : List ℕ → Bool) (keys : List (String Global)) → list_any (λ key. test (string_bytes key)) keys ≡ list_any test (map string_bytes keys)
list_any-names test [] = refl
list_any-names test (key ∷ keys) = ap (λ rest. test (string_bytes key) || rest) (list_any-names test keys)

-- a new key goes last
pub names-added : (name : List ℕ) (names : List (List ℕ)) (key : String Global) (keys after : List (String Global)) → is_among name names ≡ false → map string_bytes keys ≡ names → string_bytes key ≡ name
    → after ≡ cond (list_any (string_eq key) keys) keys (keys ++ key ∷ []) → map string_bytes after ≡ names ++ name ∷ []
names-added name names key keys after new seen same added =
    let none : list_any (string_eq key) keys ≡ false = list_any-names (bytes_eq (string_bytes key)) keys ∙ rw (seen, same) new in
    ap (map string_bytes) added ∙ rw (none, map-append string_bytes keys (key ∷ []), seen, same)

-- A field that a table may not have is not there.
use Rattle.std.proofs.Common.{◌≡◌, ℕ, true, false, List, Some, None, bytes_eq, Ordering, Less, Equal, Greater, nat_cmp, refl, sym, ap, ◌∙◌}
use Rattle.std.proofs.lemmas.Bool.{and_parts, false≢true}
use Rattle.std.proofs.lemmas.Map.Text.{is_eq-slice_cmp}
use Rattle.std.proofs.lemmas.Slice.Eq.{bytes_eq-Decides}
use Rattle.std.specs.Cmp.Lexicographic.{slice_cmp}
use Rattle.std.specs.List.{list_any}
use Rattle.std.specs.Ordering.{match_ordering, is_eq}
use Rattle.toml.specs.Data.{Data, Members, no_members, member, get_member}
use Rattle.ss_job.specs.Document.{has_only}

other_key : (order : Ordering) (key other : List ℕ) (fields : List (List ℕ)) (value : Data) (rest : Members) → order ≡ slice_cmp nat_cmp key other
    → list_any (λ field. bytes_eq field other) fields ≡ true → list_any (λ field. bytes_eq field key) fields ≡ false → get_member key rest ≡ None → match_ordering order (get_member key rest) (Some value) (get_member key rest) ≡ None
other_key Less key other fields value rest order here absent none = none
other_key Equal key other fields value rest order here absent none =
    let same : key ≡ other = (bytes_eq-Decides key other).0 (sym (is_eq-slice_cmp key other) ∙ ap is_eq (sym order)) in absurd (false≢true (sym absent ∙ rw same here))
other_key Greater key other fields value rest order here absent none = none

pub get_member-absent : (key : List ℕ) (fields : List (List ℕ)) (table : Members) → has_only fields table ≡ true → list_any (λ field. bytes_eq field key) fields ≡ false → get_member key table ≡ None
get_member-absent key fields no_members only absent = refl
get_member-absent key fields (member other value rest) only absent =
    let (here, more) = and_parts (list_any (λ field. bytes_eq field other) fields) (has_only fields rest) only in
    other_key (slice_cmp nat_cmp key other) key other fields value rest refl here absent (get_member-absent key fields rest more absent)

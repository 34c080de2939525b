-- The fields from a place on, one by one.
use Rattle.std.proofs.Common.{◌≡◌, ℕ, zero, suc, List, [], ◌∷◌, ◌&&◌, drop, refl}
use Rattle.std.specs.List.{list_all}
use Rattle.csv.specs.Records.{field_at}
use Rattle.ss_events.specs.Fields.{is_blank, is_empty}

pub blank-more : (fields : List (List ℕ)) (place : ℕ)
    → list_all is_empty (drop place fields) ≡ (is_blank place fields && list_all is_empty (drop (suc place) fields))
unfolding field_at
blank-more [] zero = refl
blank-more [] (suc place) = refl
blank-more (field ∷ fields) zero = refl
blank-more (field ∷ fields) (suc place) = blank-more fields place

-- Worked examples of the definitions.
use Rattle.std.specs.Prelude.{◌≡◌, ℕ, ◌-◌, ◌^◌, true, false, [], ◌∷◌, Some, None, refl}
use Rattle.ss_turns.specs.declared.view.View.{View}
use Rattle.ss_turns.specs.View.{raised, record_of, fresh, took, missed, gave_back, fewer, one_share, merged}
use Rattle.ss_turns.specs.Stands.{at_home}

-- slot 3 was taken with the numbers 5 and 6, and then slot 8; slot 3 was given back with 5 and 7
abbrev busy : View ℕ
busy = gave_back (took (took (fresh (Some 9) 4) 3 (5 ∷ 6 ∷ [])) 8 (1 ∷ [])) 3 (5 ∷ 7 ∷ [])

busy_has : busy.has ≡ 8 ∷ []
busy_has = refl

busy_takes : busy.takes ≡ 2
busy_takes = refl

busy_record : record_of busy.log 3 ≡ record { slot = 3; number = 1; taken = 5 ∷ 6 ∷ []; given = Some (5 ∷ 7 ∷ []) }
busy_record = refl

still_out : record_of busy.log 8 ≡ record { slot = 8; number = 2; taken = 1 ∷ []; given = None }
still_out = refl

never_taken : record_of busy.log 4 ≡ record { slot = 4; number = 0; taken = []; given = None }
never_taken = refl

missed_once : (missed busy).misses ≡ 1
missed_once = refl

highest : raised (2 ^ 64 - 1) 1 ≡ 18446744073709551615
highest = refl

split_shares : (fewer busy).share ≡ 3
split_shares = refl

joined_again : (merged (fewer busy) (took (one_share busy) 8 [])).takes ≡ 3
joined_again = refl

-- turn 1 was taken at the close, and slot 2 is empty; the last word is the stop word
three_slots : at_home {T = ℕ} (0 ∷ 1 ∷ 0 ∷ 0 ∷ []) (Some 5 ∷ Some 6 ∷ None ∷ []) ≡ true ∷ false ∷ false ∷ []
three_slots = refl

use Rattle.std.proofs.Common.{◌≡◌, ℕ, ◌+◌, ◌^◌, ◌<◌, length, map, None}
use Rattle.std.specs.Prelude.{nat_eq}
use Rattle.std.specs.Set.{is_member}
use Rattle.ss_join.specs.States.{row_keys}
use Rattle.ss_join.proofs.Keys.{first_keys}
use Rattle.ss_join.proofs.side.Side.keys_beside.Given as goal

abbrev pub invariant-loop-place : goal.invariant-loop-place
invariant-loop-place l = record {
  count : l.count + length (first_keys (is_member nat_eq (row_keys l.other)) l.before (map (λ (p : ℕ × ℕ). p.0) l.place-iterator))
      ≡ length (first_keys (is_member nat_eq (row_keys l.other)) None (map (λ (p : ℕ × ℕ). p.0) l.initial.place-iterator));
  small : l.count + length l.place-iterator < 2 ^ 63;
}

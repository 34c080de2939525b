use Rattle.std.proofs.Common.{arith, ◌≡◌, ◌<◌, length, ap, inl, inr}
use Rattle.std.proofs.lemmas.Bool.{cases_order}
use Rattle.ss_water.specs.Starts.{n_at}
use Rattle.ss_water.proofs.snap_row.start_of.Goals as goal

-- a snapshot behind the one found has given too much, and one before it had accepted less
pub returns-clause-greatest : goal.returns-clause-greatest
returns-clause-greatest c rises k within given =
    let rows = c.args.rows.now in
    let start = c.loop-place.start in
    let passed : c.requires.0 < c.loop-place.place = omega arith in
    let found = c.loop-place.invariant.found c.requires.0 passed c.requires.2 in
    let below : start < length rows = omega arith in
    elim (cases_order k start) [
      | inl same ↦ let equal : n_at rows k ≡ n_at rows start = ap (λ j. n_at rows j) same in omega arith
      | inr apart ↦ elim apart [
        | inl before ↦ let fewer = rises k start before below in omega arith
        | inr behind ↦
            let end : k < c.loop-place.place = omega arith in
            let more = c.loop-place.invariant.last k behind end in
            omega arith
      ]
    ]

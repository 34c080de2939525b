use Rattle.std.proofs.Common.{◌≡◌, ◌+◌, ◌*◌, ◌^◌, pos, neg_ℤ, ◌≤ℤ◌, sym, ap, subst, ◌∙◌, arith, w64, FitsSigned, to_z, of_z, ℤ}
use Rattle.std.specs.Int.{w128}
use Rattle.std.proofs.lemmas.Int.{ints, to_z-of_z}
use Rattle.std.specs.Prelude.{Some}
use Rattle.ss_window.specs.Held.{EntryTotal, join_of, grown_total}
use Rattle.ss_window.proofs.Joins.{join-least, join-most, fits-held}
use Rattle.ss_window.proofs.total.Total.add.Goals as goal

joined : (c : goal.After-self-2-1) → to_z w128 (of_z w128 c.join-self-inside.result) ≡ join_of c.args.agg c.self.inside.value c.args.value
joined c =
    let x_fits : FitsSigned w128 c.self.inside.value = fits-held c.self.inside.value c.self.inside.rows c.self.invariant.few c.self.invariant.least c.self.invariant.most in
    let x = to_z-of_z w128 c.self.inside.value x_fits in
    let v = to_z-of_z w64 c.args.value c.ranges.value in
    to_z-of_z w128 c.join-self-inside.result (record { sfits = c.join-self-inside.type_inv })
    ∙ (c.join-self-inside.ensures ∙ (ap (λ (y : ℤ). join_of c.args.agg y (to_z w64 (of_z w64 c.args.value))) x ∙ ap (join_of c.args.agg c.self.inside.value) v))

pub invariant_of-self : goal.invariant_of-self
invariant_of-self c =
    let fits : FitsSigned w64 c.args.value = c.ranges.value in
    let low : neg_ℤ (pos (2 ^ 63)) ≤ℤ c.args.value = omega (arith, ints, fits) in
    let high : c.args.value ≤ℤ pos (2 ^ 63) = omega (arith, ints, fits) in
    record {
      few = omega (arith, c.requires, ap (λ (e : EntryTotal). e.rows) c.self.view_is);
      least = subst (λ r. neg_ℤ (pos ((c.self.inside.rows + 1) * 2 ^ 63)) ≤ℤ r) (sym (joined c)) (join-least c.args.agg c.self.inside.value c.args.value c.self.inside.rows c.self.invariant.least low);
      most = subst (λ r. r ≤ℤ pos ((c.self.inside.rows + 1) * 2 ^ 63)) (sym (joined c)) (join-most c.args.agg c.self.inside.value c.args.value c.self.inside.rows c.self.invariant.most high);
    }

pub returns : goal.returns
returns c =
    let new : ℤ → EntryTotal = λ r. record { value = r; rows = c.self.inside.rows + 1 } in
    ap new (joined c) ∙ ap (λ (e : EntryTotal). grown_total (join_of c.args.agg) c.args.value (Some e)) c.self.view_is

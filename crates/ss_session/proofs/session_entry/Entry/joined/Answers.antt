use Rattle.std.proofs.Common.{◌≡◌, ◌+◌, ◌*◌, ◌^◌, pos, neg_ℤ, ◌≤ℤ◌, sym, ap, subst, ◌∙◌, arith, to_z, of_z, ℤ}
use Rattle.std.specs.Int.{w128}
use Rattle.std.proofs.lemmas.Int.{to_z-of_z}
use Rattle.ss_meaning.specs.Session.{SessionEntry}
use Rattle.ss_session.specs.SessionHeld.{join_of}
use Rattle.ss_session.proofs.SessionJoins.{join-least, join-most, fits-held}
use Rattle.ss_session.proofs.session_entry.Entry.joined.Goals as goal

joined : (c : goal.After-join) → to_z w128 (of_z w128 c.join.result) ≡ join_of c.args.agg c.self.inside.value c.other.inside.value
joined c =
    let x = to_z-of_z w128 c.self.inside.value (fits-held c.self.inside.value c.self.inside.rows c.self.invariant.few c.self.invariant.least c.self.invariant.most) in
    let y = to_z-of_z w128 c.other.inside.value (fits-held c.other.inside.value c.other.inside.rows c.other.invariant.few c.other.invariant.least c.other.invariant.most) in
    to_z-of_z w128 c.join.result (record { sfits = c.join.type_inv })
    ∙ (c.join.ensures ∙ (ap (λ (v : ℤ). join_of c.args.agg v (to_z w128 (of_z w128 c.other.inside.value))) x ∙ ap (join_of c.args.agg c.self.inside.value) y))

pub invariant_of-result : goal.invariant_of-result
invariant_of-result c =
    let mine = ap (λ (s : SessionEntry). s.rows) c.self.view_is in
    let others = ap (λ (s : SessionEntry). s.rows) c.other.view_is in
    let a = c.self.invariant.times in let b = c.other.invariant.times in
    let p = c.self.invariant.late in let q = c.other.invariant.late in
    record {
      times = omega (arith, c.min.ensures, c.max.ensures, a, b);
      late = omega (arith, c.max.ensures, p, q);
      some = omega (arith, c.self.invariant.some);
      few = omega (arith, c.requires, mine, others);
      least = subst (λ r. neg_ℤ (pos ((c.self.inside.rows + c.other.inside.rows) * 2 ^ 63)) ≤ℤ r) (sym (joined c))
          (join-least c.args.agg c.self.inside.value c.other.inside.value c.self.inside.rows c.other.inside.rows c.self.invariant.least c.other.invariant.least);
      most = subst (λ r. r ≤ℤ pos ((c.self.inside.rows + c.other.inside.rows) * 2 ^ 63)) (sym (joined c))
          (join-most c.args.agg c.self.inside.value c.other.inside.value c.self.inside.rows c.other.inside.rows c.self.invariant.most c.other.invariant.most);
    }

use Rattle.std.proofs.Common.{◌≡◌, ℕ, List, Some, length, refl, sym, subst}
use Rattle.std.proofs.lemmas.Bool.{ltb-true}
use Rattle.std.proofs.lemmas.Option.{slice_get_read}
use Rattle.std.specs.List.{slice_get}
use Rattle.std.specs.Prelude.{IsUtf8}
use Rattle.ss_command.proofs.read.name_in.Goals as goal

pub unreachable-requires : goal.unreachable-requires
unreachable-requires c =
    let at : slice_get c.args.roles.now c.args.v ≡ Some c.in-Some.role.now =
    let lookup = c.in-Some.ensures.lookup in
    slice_get_read c.args.roles.now (length c.args.roles.now) c.args.v c.in-Some.role.now refl
    (ltb-true c.args.v (length c.args.roles.now) (sym lookup.0)) lookup.1 in
    c.in-Err.ensures.cases.0 (subst (λ (b : List ℕ). IsUtf8 b) (sym c.as_slice.ensures.bytes) (c.requires c.args.v c.in-Some.role.now at))

use Rattle.std.proofs.Common.{List, sym, subst}
use Rattle.ss_fail.specs.declared.role.Role.{Role}
use Rattle.ss_command.specs.Streams.{AreTextNames}
use Rattle.ss_command.proofs.NameTexts.{names_are_text}
use Rattle.ss_command.proofs.read.name_of.Goals as goal

pub name_in-requires : goal.name_in-requires
name_in-requires c = subst (λ (roles : List Role). AreTextNames roles) (sym c.roles.ensures) (names_are_text c.args.job.now c.graph.ensures.sound)

-- The list is long enough.
use Rattle.std.proofs.Common.{ℕ, ◌≤◌, Option, IsSomeAnd, sym, subst, arith}
use Rattle.tests_vertex.proofs.listed.list_from.Goals as goal

pub load_source-requires : goal.load_source-requires
load_source-requires g c =
    subst (λ (o : Option ℕ). IsSomeAnd o (λ len. c.args.n ≤ len)) (sym c.len_of-len.ensures) (omega arith)

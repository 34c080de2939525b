use Rattle.std.proofs.Common.{◌<◌, ◌≤◌, arith}
use Rattle.ss_vault.specs.Told.{VaultTold, durable_of, numbers_of}
use Rattle.ss_vault.proofs.Answering.{read_due, read_item}
use Rattle.ss_vault.proofs.Looking.{only_where}
use Rattle.ss_vault.proofs.vault.Vault.read.Goals as goal

pub returns-in-Ok-clause-answer : goal.returns-in-Ok-clause-answer
returns-in-Ok-clause-answer g c =
    let v = c.args.self.now in
    let s : VaultTold = record { held = v.numbers; halted = v.halted; started = v.started; depot = g.D.Depot.told v.depot; outputs = g.O.Outputs.told v.outputs } in
    let least : (durable_of s c.args.v).base ≤ c.args.n = omega (arith, c.base-base.ensures, c.if-n-base.false) in
    let below : c.args.n < (durable_of s c.args.v).dur = omega (arith, c.dur-dur.ensures, c.if-n-dur.false) in
    let a = c.in-Ok.ensures.answer in
    (read_item c.args.plan.now (numbers_of s).ledger c.args.v c.args.n c.in-Ok.x least below a.0, a.0, a.1)

pub returns-in-Err-clause-answer : goal.returns-in-Err-clause-answer
returns-in-Err-clause-answer g c =
    let v = c.args.self.now in
    let s : VaultTold = record { held = v.numbers; halted = v.halted; started = v.started; depot = g.D.Depot.told v.depot; outputs = g.O.Outputs.told v.outputs } in
    let least : (durable_of s c.args.v).base ≤ c.args.n = omega (arith, c.base-base.ensures, c.if-n-base.false) in
    let below : c.args.n < (durable_of s c.args.v).dur = omega (arith, c.dur-dur.ensures, c.if-n-dur.false) in
    let a = c.in-Err.ensures.answer in
    (a.0, only_where _ c.in-Err.fault (read_due c.args.plan.now (numbers_of s).ledger c.args.v c.args.n least below), a.1)

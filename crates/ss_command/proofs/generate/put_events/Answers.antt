use Rattle.std.proofs.Common.{◌+◌, ◌%◌, ◌^◌, [], ◌∷◌, List, codes}
use Rattle.ss_gen.specs.Events.{events_text}
use Rattle.ss_report.specs.StateText.{state_text}
use Rattle.ss_report.specs.declared.state_row.StateRow.TheVariants.{Written}
use Rattle.ss_command.specs.Puts.{Put, put_of}
use Rattle.ss_command.proofs.Wrote.{wrote-behind, wrote-stopped}
use Rattle.ss_command.proofs.generate.put_events.Goals as goal

pub returns-in-Err : goal.returns-in-Err
returns-in-Err g c =
    let old = g.O.Outputs.told c.args.outputs.now in
    let mid = g.O.Outputs.told c.put_made.new.outputs in
    let first : List Put = put_of (codes "gen-a.csv") (events_text c.args.seed) ∷ [] in
    let rest : List Put = put_of (codes "gen-b.csv") (events_text ((c.args.seed + 1) % 2 ^ 64)) ∷ put_of (codes "-") (state_text [] Written) ∷ [] in
    wrote-stopped old mid first rest c.in-Err.fault (c.in-Err.ensures (events_text c.args.seed) c.events_bytes.ensures)

pub returns : goal.returns
returns g c =
    let old = g.O.Outputs.told c.args.outputs.now in
    let mid = g.O.Outputs.told c.put_made.new.outputs in
    let new = g.O.Outputs.told c.put_rest.new.outputs in
    let first : List Put = put_of (codes "gen-a.csv") (events_text c.args.seed) ∷ [] in
    let rest : List Put = put_of (codes "gen-b.csv") (events_text ((c.args.seed + 1) % 2 ^ 64)) ∷ put_of (codes "-") (state_text [] Written) ∷ [] in
    wrote-behind old mid new first rest c.put_rest.result (c.in-Ok.ensures (events_text c.args.seed) c.events_bytes.ensures) c.put_rest.ensures

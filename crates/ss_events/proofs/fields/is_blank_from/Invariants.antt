use Rattle.std.proofs.Common.{◌≡◌, drop}
use Rattle.std.specs.List.{list_all}
use Rattle.csv.specs.Records.{fields_of}
use Rattle.ss_events.specs.Fields.{is_empty}
use Rattle.ss_events.proofs.fields.is_blank_from.Given as goal

abbrev pub invariant-loop-place : goal.invariant-loop-place
invariant-loop-place l =
    list_all is_empty (drop l.place (fields_of l.row)) ≡ list_all is_empty (drop l.first (fields_of l.row))

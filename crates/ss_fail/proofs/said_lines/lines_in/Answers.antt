use Rattle.std.proofs.Common.{◌≡◌, ◌+◌, ◌<◌, ◌≤◌, ◌++◌, length, ap, ◌∙◌, arith}
use Rattle.std.specs.Prelude.{map, option_to_list}
use Rattle.std.specs.Str.Lines.{lines_of_parts}
use Rattle.std.proofs.lemmas.List.{length-map}
use Rattle.ss_fail.specs.Lines.{said_line, said_lines}
use Rattle.ss_fail.specs.SaidLine.{line_in, said}
use Rattle.ss_fail.proofs.Parts.{at_end, goes_on}
use Rattle.ss_fail.proofs.said_lines.lines_in.Goals as goal

pub loop-place-preserved : goal.loop-place-preserved
loop-place-preserved c =
    let parts = map (λ part. part.now) c.args.parts.now in
    let place = c.loop-place.place in
    let lt : place < length parts = rw length-map (omega arith) in
    let found = c.in_ok-found.ensures ∙ ap (said_line (place + 1)) c.line_at-line.ensures in
    let more : map said c.push_found.new.lines.items ≡ map said c.loop-place.said.items ++ option_to_list (said_line (place + 1) (line_in parts place)) =
    c.in_ok-push_found.ensures ∙ ap (λ o. map said c.loop-place.said.items ++ option_to_list o) found in
    rw more (goes_on parts place (map said c.loop-place.said.items) (said_lines 1 (lines_of_parts parts)) lt c.loop-place.invariant)

pub returns : goal.returns
returns c =
    let parts = map (λ part. part.now) c.args.parts.now in
    let le : length parts ≤ c.loop-place.place = rw length-map (omega arith) in
    at_end parts c.loop-place.place (map said c.loop-place.said.items) (said_lines 1 (lines_of_parts parts)) le c.loop-place.invariant

-- The loop that tests that each stream is read.
use Rattle.std.proofs.Common.{◌≡◌, ℕ, ◌+◌, ◌<◌, ◌≤◌, true, false, not, ◌&&◌, List, [], length, drop, drop_of_length-le, Ok, Err}
use Rattle.std.proofs.lemmas.List.{drop_more}
use Rattle.ss_job.specs.Faults.{fault_of_vertex}
use Rattle.ss_job.specs.Reading.{read_streams}
use Rattle.ss_job.specs.declared.fault.JobWhy.TheVariants.{Unread}
use Rattle.ss_water.specs.Graph.{is_stream, is_read}
use Rattle.ss_water.specs.declared.node.Kind.TheVariants.{Source}
use Rattle.ss_water.specs.declared.node.Node.{Node}

-- a node to name where a list has none
abbrev any_node : Node
any_node = record { kind = Source; inputs = []; width = 0 }

pub streams-more : (nodes : List Node) (v : ℕ) → v < length nodes → (is_stream nodes v && not (is_read nodes v)) ≡ false → read_streams nodes v (drop v nodes) ≡ read_streams nodes (v + 1) (drop (v + 1) nodes)
unfolding read_streams
streams-more nodes v within read = rw (drop_more nodes v any_node within, read)

pub streams-stop : (nodes : List Node) (v : ℕ) → v < length nodes → (is_stream nodes v && not (is_read nodes v)) ≡ true → read_streams nodes v (drop v nodes) ≡ Err (fault_of_vertex v Unread)
unfolding read_streams
streams-stop nodes v within unread = rw (drop_more nodes v any_node within, unread)

pub streams-end : (nodes : List Node) (v : ℕ) → length nodes ≤ v → read_streams nodes v (drop v nodes) ≡ Ok tt
unfolding read_streams
streams-end nodes v past = rw (drop_of_length-le nodes past)

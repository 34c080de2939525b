-- Where a vertex stands that has taken the first elements of what arrives.
use Rattle.std.specs.Prelude.{ℕ, List, length, take, map}
use Rattle.std.specs.List.{range_with_len}
use Rattle.ss_meaning.specs.Merge.{from_input}
use Rattle.ss_meaning.specs.Emit.{output}
use Rattle.ss_meaning.specs.Meaning.{Vertex, Source, Inner, Sink, reads, vertex, meaning, merged}

-- how many elements a vertex of this form takes: all that arrive, and of a source or a sink those of its stream
abbrev pub mlen_of : Vertex → List Vertex → ℕ → ℕ
mlen_of (Source list) job v = length (meaning job v)
mlen_of (Inner kind inputs) job v = length (merged job v)
mlen_of (Sink input) job v = length (meaning job v)

-- how many elements vertex v takes in all
abbrev pub mlen : List Vertex → ℕ → ℕ
mlen job v = mlen_of (vertex job v) job v

-- how many of the first n elements that arrive at v come from an input
abbrev pub pos : List Vertex → ℕ → ℕ → ℕ → ℕ
pos job v n input = length (from_input input (take n (merged job v)))

-- the same for each input
abbrev pub positions : List Vertex → ℕ → ℕ → List ℕ
positions job v n = map (pos job v n) (range_with_len 0 (length (reads (vertex job v))))

-- how many elements a vertex of this form has given after the first n
abbrev pub out_of : Vertex → List Vertex → ℕ → ℕ → ℕ
out_of (Source list) job v n = n
out_of (Inner kind inputs) job v n = length (output kind (length inputs) (take n (merged job v)))
out_of (Sink input) job v n = n

-- how many elements vertex v has given after the first n
abbrev pub out : List Vertex → ℕ → ℕ → ℕ
out job v n = out_of (vertex job v) job v n

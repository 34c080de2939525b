-- The names of vertices are text.
use Rattle.std.proofs.Common.{◌≡◌, ℕ, zero, suc, ◌<◌, Bool, true, false, List, [], ◌∷◌, ◌&&◌, length, refl, arith}
use Rattle.std.specs.List.{list_all}
use Rattle.std.specs.Prelude.{slice_index}
use Rattle.std.specs.Str.{IsAscii}
use Rattle.std.proofs.lemmas.Bool.Decides.{nat_tests}
use Rattle.std.proofs.lemmas.Option.{slice_get_within}
use Rattle.std.proofs.lemmas.Str.{IsUtf8-from_ascii}
use Rattle.ss_job.specs.JobText.{JobText}
use Rattle.ss_job.specs.LegalNames.{is_name_byte, is_vertex_name}
use Rattle.ss_job.specs.Sound.{IsJob}
use Rattle.ss_command.specs.Streams.{AreTextNames}
use Rattle.ss_command.proofs.Vertices.{item_at}

pub and_left : (a b : Bool) → (a && b) ≡ true → a ≡ true
and_left true b h = refl
and_left false b h = h

pub and_right : (a b : Bool) → (a && b) ≡ true → b ≡ true
and_right true b h = h
and_right false b h = absurd (cc h)

pub name_byte_small : (byte : ℕ) → is_name_byte byte ≡ true → byte < 128
name_byte_small byte h = grind (arith, nat_tests)

pub ascii-more : (b : ℕ) (bs : List ℕ) → b < 128 → IsAscii bs → (i : ℕ) → slice_index (b ∷ bs) i < 128
ascii-more b bs h k zero = h
ascii-more b bs h k (suc i) = k i

pub ascii-none : (i : ℕ) → slice_index [] i < 128
ascii-none zero = omega arith
ascii-none (suc i) = omega arith

pub names_ascii : (bs : List ℕ) → list_all is_name_byte bs ≡ true → IsAscii bs
names_ascii [] h = ascii-none
names_ascii (b ∷ bs) h =
    ascii-more b bs (name_byte_small b (and_left (is_name_byte b) (list_all is_name_byte bs) h))
    (names_ascii bs (and_right (is_name_byte b) (list_all is_name_byte bs) h))

pub vertex_name_ascii : (name : List ℕ) → is_vertex_name name ≡ true → IsAscii name
vertex_name_ascii [] h = ascii-none
vertex_name_ascii (b ∷ bs) h = names_ascii (b ∷ bs) (and_right _ (list_all is_name_byte (b ∷ bs)) h)

pub names_are_text : (job : JobText) → IsJob job → AreTextNames job.roles
names_are_text job sound v role here =
    let inside : v < length job.roles = slice_get_within job.roles v role here in
    let in_graph : v < length job.graph = omega (arith, inside, sound.roles) in
    let in_vertices : v < length job.vertices = omega (arith, in_graph, sound.vertices) in
    let (node, at_node) = item_at job.graph v in_graph in
    let (vertex, at_vertex) = item_at job.vertices v in_vertices in
    let is = sound.each v role node vertex here at_node.here at_vertex.here in
    IsUtf8-from_ascii role.name (vertex_name_ascii role.name is.name)

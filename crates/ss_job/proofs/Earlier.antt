-- What the vertices before one have made of the job, and what their tables say.
use Rattle.std.proofs.Common.{◌≡◌, ℕ, ◌<◌, zero, suc, Bool, true, false, not, ◌&&◌, ◌||◌, cond, List, [], ◌∷◌, ◌++◌, length, map, Option, Some, None, bytes_eq, refl, sym, ap, ◌∙◌, arith, append_assoc}
use Rattle.std.proofs.lemmas.Bool.{cases_Bool}
use Rattle.std.proofs.Common.{inl, inr, append-nil}
use Rattle.std.proofs.lemmas.Slice.Eq.{bytes_eq-Decides}
use Rattle.std.proofs.lemmas.List.{map-append}
use Rattle.std.specs.Prelude.{codes, unwrap_or, option_and_then, filter}
use Rattle.std.specs.List.{list_any}
use Rattle.std.specs.Option.{option_map_or}
use Rattle.toml.specs.Data.{Members}
use Rattle.ss_job.specs.JobIn.{nodes_in}
use Rattle.ss_job.specs.JobIn.{op_or_source, kind_of, role_in, node_in, nodes_after, vertex_in, vertex_with, file_in}
use Rattle.ss_job.specs.Lookup.{text_in, op_named}
use Rattle.ss_job.specs.Vertices.{DraftText, writes_to}
use Rattle.ss_job.specs.Wrong.{is_sink, is_sink_at, names_in, sink_files, is_among}
use Rattle.ss_job.specs.declared.field_name.FieldName.TheVariants.{Name, Op, File}
use Rattle.ss_job.specs.declared.op.Op.{Op as Operator}
use Rattle.ss_job.specs.declared.op.Op.TheVariants as op
use Rattle.ss_water.specs.Graph as graph

-- what these tables have made of the job
abbrev pub draft_in : List Members → DraftText
draft_in earlier =
    record {
      names = names_in earlier;
      roles = map role_in earlier;
      nodes = nodes_in earlier;
      vertices = map vertex_in earlier;
    }

-- ---- sinks

abbrev pub is_sink_op : Operator → Bool
is_sink_op op.Sink = true
is_sink_op _ = false

-- the op with this word, or that of a source
abbrev pub op_or : Option (List ℕ) → Operator
op_or word = unwrap_or (option_and_then op_named word) op.Source

no_sink_word : (a b c d e f g : Bool) → is_sink_op (unwrap_or (cond a (Some op.Source) (cond b (Some op.Select) (cond c (Some op.Union) (cond d (Some op.Window) (cond e (Some op.Join) (cond f (Some op.Session) (cond g (Some op.Except) None))))))) op.Source) ≡ false
no_sink_word true b c d e f g = refl
no_sink_word false true c d e f g = refl
no_sink_word false false true d e f g = refl
no_sink_word false false false true e f g = refl
no_sink_word false false false false true f g = refl
no_sink_word false false false false false true g = refl
no_sink_word false false false false false false true = refl
no_sink_word false false false false false false false = refl

sink_of_word : (word : List ℕ) → bytes_eq word (codes "sink") ≡ is_sink_op (op_or (Some word))
sink_of_word word =
    elim (cases_Bool (bytes_eq word (codes "sink"))) [
      | inl same ↦ let e : word ≡ codes "sink" = (bytes_eq-Decides word (codes "sink")).0 same in rw e
      | inr other ↦ rw (other, no_sink_word (bytes_eq word (codes "source")) (bytes_eq word (codes "select")) (bytes_eq word (codes "union")) (bytes_eq word (codes "window")) (bytes_eq word (codes "join")) (bytes_eq word (codes "session")) (bytes_eq word (codes "except")))
    ]

sink_of_words : (word : Option (List ℕ)) → option_map_or (λ word. bytes_eq word (codes "sink")) word false ≡ is_sink_op (op_or word)
sink_of_words None = refl
sink_of_words (Some word) = sink_of_word word

-- a table says that it is a sink's exactly where its op is that
pub is_sink-op : (t : Members) → is_sink t ≡ is_sink_op (op_or_source t)
is_sink-op t = sink_of_words (text_in Op t)

kind_is_sink : (o : Operator) → graph.is_sink (kind_of o) ≡ is_sink_op o
kind_is_sink op.Source = refl
kind_is_sink op.Select = refl
kind_is_sink op.Union = refl
kind_is_sink op.Window = refl
kind_is_sink op.Join = refl
kind_is_sink op.Session = refl
kind_is_sink op.Except = refl
kind_is_sink op.Sink = refl

pub kind-is_sink : (t : Members) → graph.is_sink (kind_of (op_or_source t)) ≡ is_sink t
kind-is_sink t = kind_is_sink (op_or_source t) ∙ sym (is_sink-op t)

-- ---- one table more

pub nodes_after-push : (before earlier : List Members) (t : Members) → nodes_after before (earlier ++ t ∷ []) ≡ nodes_after before earlier ++ node_in (before ++ earlier) t ∷ []
nodes_after-push before [] t = ap (λ some. node_in some t ∷ []) (sym (append-nil before))
nodes_after-push before (first ∷ earlier) t =
    ap (λ rest. node_in before first ∷ rest) (nodes_after-push (before ++ first ∷ []) earlier t ∙ ap (λ some. nodes_after (before ++ first ∷ []) earlier ++ node_in some t ∷ []) (append_assoc before (first ∷ []) earlier))

unwrapped : (o : Option (List ℕ)) → option_map_or (λ name. name) o [] ≡ unwrap_or o []
unwrapped None = refl
unwrapped (Some name) = refl

pub draft_in-push : (earlier : List Members) (t : Members)
    → draft_in (earlier ++ t ∷ []) ≡ record { names = names_in earlier ++ unwrap_or (text_in Name t) [] ∷ []; roles = map role_in earlier ++ role_in t ∷ []; nodes = nodes_in earlier ++ node_in earlier t ∷ []; vertices = map vertex_in earlier ++ vertex_in t ∷ [] }
draft_in-push earlier t =
    rw (map-append (λ (table : Members). option_map_or (λ name. name) (text_in Name table) []) earlier (t ∷ []), map-append role_in earlier (t ∷ []), nodes_after-push [] earlier t, map-append vertex_in earlier (t ∷ []), unwrapped (text_in Name t))

-- ---- which vertices give a stream

pub streams_within : (before tables : List Members) (v : ℕ) → v < length tables → graph.is_stream (nodes_after before tables) v ≡ not (is_sink_at tables v)
streams_within before [] v within = absurd (omega arith)
streams_within before (t ∷ tables) zero within = ap not (kind-is_sink t)
streams_within before (t ∷ tables) (suc v) within = streams_within (before ++ t ∷ []) tables v (omega arith)

-- ---- the files of the sinks

file_of_sink : (o : Operator) (t : Members) (file : List ℕ) → writes_to file (vertex_with o t) ≡ (is_sink_op o && bytes_eq file (file_in t))
file_of_sink op.Source t file = refl
file_of_sink op.Select t file = refl
file_of_sink op.Union t file = refl
file_of_sink op.Window t file = refl
file_of_sink op.Join t file = refl
file_of_sink op.Session t file = refl
file_of_sink op.Except t file = refl
file_of_sink op.Sink t file = refl

one_file : (file other : List ℕ) (files : List (List ℕ)) (sink : Bool) → ((sink && bytes_eq file other) || is_among file files) ≡ is_among file (cond sink (other ∷ files) files)
one_file file other files true = refl
one_file file other files false = refl

map-cond : (sink : Bool) (t : Members) (tables : List Members) (file : Members → List ℕ) → map file (cond sink (t ∷ tables) tables) ≡ cond sink (file t ∷ map file tables) (map file tables)
map-cond true t tables file = refl
map-cond false t tables file = refl

pub written-files : (file : List ℕ) (earlier : List Members) → list_any (writes_to file) (map vertex_in earlier) ≡ is_among file (sink_files earlier)
written-files file [] = refl
written-files file (t ∷ earlier) =
    rw (file_of_sink (op_or_source t) t file, ← is_sink-op t, written-files file earlier, map-cond (is_sink t) t (filter is_sink earlier) (λ table. option_map_or (λ name. name) (text_in File table) []), unwrapped (text_in File t))
    (one_file file (file_in t) (sink_files earlier) (is_sink t))

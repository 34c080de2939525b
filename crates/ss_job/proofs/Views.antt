-- What the code sees of a table or an array, and what its data say.
use Rattle.std.proofs.Common.{◌≡◌, ℕ, Bool, ◌&&◌, ◌||◌, bytes_eq, string_bytes, List, [], ◌∷◌, map, length, Bor, refl, ap, arith}
use Rattle.std.specs.List.{list_any, list_all}
use Rattle.std.specs.Map.{keys_of}
use Rattle.toml.proofs.Views.{Entry}
use Rattle.std.specs.Prelude.{is_some}
use Rattle.toml.specs.Data.{as_str, as_table}
use Rattle.toml.specs.View.{view, items_view, members_view}
use Rattle.toml.specs.declared.value.Value.{Value}
use Rattle.ss_job.specs.Document.{has_only}
use Rattle.ss_job.specs.Owned.{vertex_text}
use Rattle.ss_job.specs.Vertices.{writes_to}
use Rattle.ss_job.specs.declared.vertex.Vertex.{Vertex}
use Rattle.ss_job.specs.Faults.{are_tables, item_count}
use Rattle.ss_job.specs.Format.{are_texts}

-- a test of what references point to
pub list_any-map : (test : List ℕ → Bool) (texts : List (Bor (List ℕ))) → list_any (λ text. test text.now) texts ≡ list_any test (map (λ text. text.now) texts)
list_any-map test [] = refl
list_any-map test (text ∷ texts) = ap (λ rest. test text.now || rest) (list_any-map test texts)

-- a test of each key
pub has_only-view : (fields : List (List ℕ)) (entries : List Entry) → list_all (λ key. list_any (λ field. bytes_eq field (string_bytes key)) fields) (keys_of entries) ≡ has_only fields (members_view entries)
has_only-view fields [] = refl
has_only-view fields (entry ∷ entries) =
    ap (λ rest. list_any (λ field. bytes_eq field (string_bytes entry.0)) fields && rest) (has_only-view fields entries)

-- a test of each item
pub are_texts-view : (values : List Value) → list_all (λ value. is_some (as_str (view value))) values ≡ are_texts (items_view values)
are_texts-view [] = refl
are_texts-view (value ∷ values) = ap (λ rest. is_some (as_str (view value)) && rest) (are_texts-view values)

pub are_tables-view : (values : List Value) → list_all (λ value. is_some (as_table (view value))) values ≡ are_tables (items_view values)
are_tables-view [] = refl
are_tables-view (value ∷ values) = ap (λ rest. is_some (as_table (view value)) && rest) (are_tables-view values)

pub item_count-view : (values : List Value) → item_count (items_view values) ≡ length values
item_count-view [] = refl
item_count-view (value ∷ values) = omega (arith, item_count-view values)

-- a test of each vertex
pub written-view : (file : List ℕ) (vertices : List Vertex) → list_any (λ vertex. writes_to file (vertex_text vertex)) vertices ≡ list_any (writes_to file) (map vertex_text vertices)
written-view file [] = refl
written-view file (vertex ∷ vertices) = ap (λ rest. writes_to file (vertex_text vertex) || rest) (written-view file vertices)

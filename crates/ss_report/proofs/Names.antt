-- The names of a job's vertices are words.
use Rattle.std.proofs.Common.{◌≡◌, ℕ, ◌<◌, true, false, List, [], ◌∷◌, length, get_or, refl, arith}
use Rattle.std.specs.Prelude.{IsTrue}
use Rattle.std.proofs.lemmas.Bool.{and_parts}
use Rattle.std.proofs.lemmas.List.Sums.{AllPass-from_list_all, list_all-from_AllPass}
use Rattle.std.proofs.lemmas.Option.{slice_get-get_or}
use Rattle.ss_job.specs.JobText.{JobText}
use Rattle.ss_job.specs.LegalNames.{is_name_byte, is_vertex_name}
use Rattle.ss_job.specs.Sound.{IsJob}
use Rattle.ss_report.specs.ReadAgain.{HasNames, IsWord, is_word_byte}
use Rattle.ss_report.proofs.Words.{word_byte}

name_word : (name : List ℕ) → IsTrue (is_vertex_name name) → IsWord name
name_word [] e = let f : false ≡ true = e in absurd (cc)
name_word (first ∷ rest) e = (
  omega arith,
  list_all-from_AllPass is_word_byte (first ∷ rest) (λ k d lt.
      word_byte is_name_byte (get_or (first ∷ rest) k d) (AllPass-from_list_all is_name_byte (first ∷ rest) (and_parts _ _ e).1 k d lt)
      refl refl refl refl refl),
)

some_of : {A : Type 0} (xs : List A) (k : ℕ) → k < length xs → A
some_of [] k lt = absurd (omega (arith, lt))
some_of (x ∷ xs) k lt = x

pub job_names : (job : JobText) → IsJob job → HasNames job.roles
job_names job is = record {
  words = λ k d lt.
      let in_graph : k < length job.graph = omega (arith, lt, is.roles) in
      let in_vertices : k < length job.vertices = omega (arith, in_graph, is.vertices) in
      let node = some_of job.graph k in_graph in
      let vertex = some_of job.vertices k in_vertices in
      name_word (get_or job.roles k d).name
      (is.each k (get_or job.roles k d) (get_or job.graph k node) (get_or job.vertices k vertex)
      (slice_get-get_or job.roles k d lt) (slice_get-get_or job.graph k node in_graph)
      (slice_get-get_or job.vertices k vertex in_vertices)).name;
  distinct = is.names;
}

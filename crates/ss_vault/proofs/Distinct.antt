-- Sinks have files of their own.
use Rattle.std.proofs.Common.{◌≡◌, ℕ, zero, suc, true, false, List, [], ◌∷◌, Option, Some, refl, sym, ap, ◌∙◌, subst}
use Rattle.std.proofs.lemmas.Bool.{true≢false}
use Rattle.std.proofs.lemmas.Slice.Eq.{bytes_eq-Decides}
use Rattle.std.specs.List.{AllByRecursion, IsDistinct, filter_map, slice_get}
use Rattle.std.specs.Prelude.{option_and_then, bytes_eq}
use Rattle.ss_job.specs.JobText.{VertexText, source, inner, sink, sink_file_of_vertex}

-- the file of the vertex at a place, where it is a sink
abbrev file_at : List VertexText → ℕ → Option (List ℕ)
file_at texts k = option_and_then sink_file_of_vertex (slice_get texts k)

same_bytes : (file : List ℕ) → bytes_eq file file ≡ true
same_bytes file = (bytes_eq-Decides file file).1 refl

differs : (file other : List ℕ) → bytes_eq file other ≡ false → Some other ≡ Some file → ⊥
differs file other h e =
    let same : other ≡ file = cc in
    true≢false (sym (same_bytes file) ∙ subst (λ (x : List ℕ). bytes_eq file x ≡ false) same h)

-- a file that differs from all files of sinks is the file of none
not_among : (file : List ℕ) (texts : List VertexText) (k : ℕ)
    → AllByRecursion (λ (other : List ℕ). bytes_eq file other ≡ false) (filter_map sink_file_of_vertex texts)
    → file_at texts k ≡ Some file → ⊥
not_among file [] zero all h = absurd cc
not_among file [] (suc k) all h = absurd cc
not_among file (source from late ∷ texts) zero all h = absurd cc
not_among file (source from late ∷ texts) (suc k) all h = not_among file texts k all h
not_among file (inner spec policy ∷ texts) zero all h = absurd cc
not_among file (inner spec policy ∷ texts) (suc k) all h = not_among file texts k all h
not_among file (sink other ∷ texts) zero all h = differs file other all.0 h
not_among file (sink other ∷ texts) (suc k) all h = not_among file texts k all.1 h

same_file : (file other : List ℕ) → Some other ≡ Some file → other ≡ file
same_file file other e = cc

pub files_differ : (texts : List VertexText) → IsDistinct bytes_eq (filter_map sink_file_of_vertex texts) → (j k : ℕ) (file : List ℕ)
    → file_at texts j ≡ Some file → file_at texts k ≡ Some file → j ≡ k
unfolding IsDistinct
files_differ [] distinct zero k file f g = absurd cc
files_differ [] distinct (suc j) k file f g = absurd cc
files_differ (source from late ∷ texts) distinct zero k file f g = absurd cc
files_differ (source from late ∷ texts) distinct (suc j) zero file f g = absurd cc
files_differ (source from late ∷ texts) distinct (suc j) (suc k) file f g = ap (λ (n : ℕ). suc n) (files_differ texts distinct j k file f g)
files_differ (inner spec policy ∷ texts) distinct zero k file f g = absurd cc
files_differ (inner spec policy ∷ texts) distinct (suc j) zero file f g = absurd cc
files_differ (inner spec policy ∷ texts) distinct (suc j) (suc k) file f g = ap (λ (n : ℕ). suc n) (files_differ texts distinct j k file f g)
files_differ (sink other ∷ texts) distinct zero zero file f g = refl
files_differ (sink other ∷ texts) distinct zero (suc k) file f g =
    absurd (not_among other texts k distinct.0 (g ∙ ap (λ (x : List ℕ). Some x) (sym (same_file file other f))))
files_differ (sink other ∷ texts) distinct (suc j) zero file f g =
    absurd (not_among other texts j distinct.0 (f ∙ ap (λ (x : List ℕ). Some x) (sym (same_file file other g))))
files_differ (sink other ∷ texts) distinct (suc j) (suc k) file f g =
    ap (λ (n : ℕ). suc n) (files_differ texts distinct.1 j k file f g)

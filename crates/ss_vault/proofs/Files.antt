-- The files of a vault's sinks, after a put.
use Rattle.std.proofs.Common.{◌≡◌, ◌≢◌, ℕ, ◌+◌, ◌<◌, Bool, true, false, Option, Some, None, IfSome, List, [], ◌∷◌, ◌++◌, length, take, refl, sym, ap, ◌∙◌, subst, ⊎_elim, if◌then◌else◌}
use Rattle.std.specs.Prelude.{bytes_eq, option_map, slice_get}
use Rattle.std.proofs.lemmas.Bool.{cases_eq, eq-eqb, ne_eqb}
use Rattle.std.proofs.lemmas.List.{append-nil, take_more}
use Rattle.std.proofs.lemmas.Grind.{flat_map-append}
use Rattle.std.proofs.lemmas.List.Concat.{flat_map-cons}
use Rattle.std.proofs.lemmas.Option.{get_or_from_slice_get, slice_get_within}
use Rattle.std.proofs.lemmas.Slice.Eq.{bytes_eq-Decides}
use Rattle.ss_elem.specs.Line.{line_of, text_of}
use Rattle.ss_elem.specs.declared.element.Element.{Element}
use Rattle.ss_outside.specs.Told.{Appends, OutputsTold, bytes_behind}
use Rattle.ss_plan.specs.Plan.{PlanText}
use Rattle.ss_state.specs.Journal.{took}
use Rattle.ss_state.specs.State.{Ledger, LedgerRow, row_at}
use Rattle.ss_vault.specs.Facts.{PlanFacts}
use Rattle.ss_vault.specs.Sound.{FilesHave, behind_lines_of, nothing_behind, sink_file, stream_put, text_put}
use Rattle.ss_vault.proofs.Changes.{took_same, took_other}

same_bytes : (file : List ℕ) → bytes_eq file file ≡ true
same_bytes file = (bytes_eq-Decides file file).1 refl

bytes_same : (x y : List ℕ) → bytes_eq x y ≡ true → x ≡ y
bytes_same x y h = (bytes_eq-Decides x y).0 h

bool_cases : (b : Bool) → (b ≡ true → ⊥) → b ≡ false
bool_cases true h = absurd (h refl)
bool_cases false h = refl

-- what a name has after a put to it, and to another one
IfSome-behind : (had : Option (List ℕ)) (text more : List ℕ) → IfSome had (λ bytes. bytes ≡ text)
    → IfSome (option_map (λ bytes. bytes ++ more) had) (λ bytes. bytes ≡ text ++ more)
IfSome-behind None text more h = h
IfSome-behind (Some bytes) text more h = ap (λ (b : List ℕ). b ++ more) h

IfSome-here : (here : Bool) (had : Option (List ℕ)) (text more : List ℕ) → here ≡ true → IfSome had (λ bytes. bytes ≡ text)
    → IfSome (bytes_behind here more had) (λ bytes. bytes ≡ text ++ more)
IfSome-here true had text more e h = IfSome-behind had text more h
IfSome-here false had text more e h = absurd cc

IfSome-there : (here : Bool) (had : Option (List ℕ)) (text more : List ℕ) → here ≡ false → IfSome had (λ bytes. bytes ≡ text)
    → IfSome (bytes_behind here more had) (λ bytes. bytes ≡ text)
IfSome-there true had text more e h = absurd cc
IfSome-there false had text more e h = h

abbrev HasText : Option (List ℕ) → List ℕ → Type 0
HasText had text = IfSome had (λ bytes. bytes ≡ text)

-- bytes were put behind the lines of sink k
pub files_gain : (plan : PlanText) → PlanFacts plan → (l : Ledger) (k : ℕ) (file more : List ℕ) (old new : OutputsTold)
    → sink_file plan k ≡ Some file → Appends old new file more
    → FilesHave plan l nothing_behind old → FilesHave plan l (behind_lines_of k more) new
files_gain plan facts l k file more old new is_file appends files = record {
  sinks = λ j other is_other. ⊎_elim
      (λ (same : j ≡ k).
      let is : sink_file plan k ≡ Some other = ap (sink_file plan) (sym same) ∙ is_other in
      let name : other ≡ file = some_is other file (sym is ∙ is_file) in
      let here : bytes_eq other file ≡ true = ap (λ (x : List ℕ). bytes_eq x file) name ∙ same_bytes file in
      let had : HasText (old.bytes other) (text_put plan l j) =
      subst (λ (text : List ℕ). HasText (old.bytes other) text) (append-nil (text_put plan l j)) (files.sinks j other is_other) in
      let gained : HasText (new.bytes other) (text_put plan l j ++ more) =
      subst (λ (o : Option (List ℕ)). HasText o (text_put plan l j ++ more)) (sym (appends.bytes other))
      (IfSome-here (bytes_eq other file) (old.bytes other) (text_put plan l j) more here had) in
      subst (λ (m : List ℕ). HasText (new.bytes other) (text_put plan l j ++ m)) (sym (behind_same j k more same)) gained)
      (λ (differ : j ≢ k).
      let there : bytes_eq other file ≡ false = bool_cases (bytes_eq other file) (λ h.
      differ (facts.files j k file (is_other ∙ ap (λ (x : List ℕ). Some x) (bytes_same other file h)) is_file)) in
      let gained : HasText (new.bytes other) (text_put plan l j ++ []) =
      subst (λ (o : Option (List ℕ)). HasText o (text_put plan l j ++ [])) (sym (appends.bytes other))
      (IfSome-there (bytes_eq other file) (old.bytes other) (text_put plan l j ++ []) more there (files.sinks j other is_other)) in
      subst (λ (m : List ℕ). HasText (new.bytes other) (text_put plan l j ++ m)) (sym (behind_other j k more differ)) gained)
      (cases_eq j k);
  others = λ name none.
      let there : bytes_eq name file ≡ false = bool_cases (bytes_eq name file) (λ h.
      none k (is_file ∙ ap (λ (x : List ℕ). Some x) (sym (bytes_same name file h)))) in
      subst (λ (o : Option (List ℕ)). HasText o []) (sym (appends.bytes name))
      (IfSome-there (bytes_eq name file) (old.bytes name) [] more there (files.others name none));
}
  where
    some_is : (x y : List ℕ) → Some x ≡ Some y → x ≡ y
    some_is x y e = cc

    behind_same : (j k : ℕ) (more : List ℕ) → j ≡ k → behind_lines_of k more j ≡ more
    behind_same j k more e = rw (eq-eqb j k e) refl

    behind_other : (j k : ℕ) (more : List ℕ) → j ≢ k → behind_lines_of k more j ≡ []
    behind_other j k more e = rw (ne_eqb j k e) refl

-- nothing was put
pub files_stay : (plan : PlanText) (l : Ledger) (behind : ℕ → List ℕ) (old new : OutputsTold) → new.bytes ≡ old.bytes
    → FilesHave plan l behind old → FilesHave plan l behind new
files_stay plan l behind old new same files = record {
  sinks = λ k file is_file. subst (λ (b : List ℕ → Option (List ℕ)). HasText (b file) (text_put plan l k ++ behind k)) (sym same) (files.sinks k file is_file);
  others = λ name none. subst (λ (b : List ℕ → Option (List ℕ)). HasText (b name) []) (sym same) (files.others name none);
}

-- the lines up to the next element
text_more : (xs : List Element) (n : ℕ) (x : Element) → slice_get xs n ≡ Some x
    → text_of (take (n + 1) xs) ≡ text_of (take n xs) ++ line_of x
text_more xs n x is_item =
    let within = slice_get_within xs n x is_item in
    ap text_of (take_more xs n x within
    ∙ ap (λ (y : Element). take n xs ++ y ∷ []) (get_or_from_slice_get xs n x x is_item))
    ∙ flat_map-append line_of (take n xs) (x ∷ [])
    ∙ ap (λ (more : List ℕ). text_of (take n xs) ++ more) (flat_map-cons line_of x [] ∙ append-nil (line_of x))

-- the line of the next element of sink k stands behind those that it has taken
pub files_took : (plan : PlanText) (l m : Ledger) (k : ℕ) (x : Element) (outputs : OutputsTold) → k < length l.rows → m ≡ took l k
    → slice_get (stream_put plan k) (row_at l k).taken ≡ Some x
    → FilesHave plan l (behind_lines_of k (line_of x)) outputs → FilesHave plan m nothing_behind outputs
files_took plan l m k x outputs within is_took is_next files = record {
  sinks = λ j file is_file. subst (λ (text : List ℕ). HasText (outputs.bytes file) text) (texts j) (files.sinks j file is_file);
  others = files.others;
}
  where
    texts : (j : ℕ) → text_put plan l j ++ behind_lines_of k (line_of x) j ≡ text_put plan m j ++ []
    texts j = ⊎_elim
        (λ (same : j ≡ k).
        let taken : (row_at m k).taken ≡ (row_at l k).taken + 1 = ap (λ (r : LedgerRow). r.taken) (took_same l m k within is_took) in
        subst (λ (i : ℕ). text_put plan l i ++ behind_lines_of k (line_of x) i ≡ text_put plan m i ++ []) (sym same)
        (ap (λ (b : Bool). text_put plan l k ++ (if b then line_of x else [])) (eq-eqb k k refl)
        ∙ sym (text_more (stream_put plan k) (row_at l k).taken x is_next)
        ∙ ap (λ (n : ℕ). text_of (take n (stream_put plan k))) (sym taken)
        ∙ sym (append-nil (text_put plan m k))))
        (λ (differ : j ≢ k).
        let same : row_at m j ≡ row_at l j = took_other l m k j differ is_took in
        ap (λ (b : Bool). text_put plan l j ++ (if b then line_of x else [])) (ne_eqb j k differ)
        ∙ ap (λ (r : LedgerRow). text_of (take r.taken (stream_put plan j)) ++ []) (sym same))
        (cases_eq j k)

-- Elements that are appended one behind the other.
use Rattle.std.proofs.Common.{◌≡◌, ◌≢◌, ℕ, ◌+◌, ◌<◌, ◌==◌, Bool, List, [], ◌∷◌, ◌++◌, length, get_or, take, refl, sym, ap, ◌∙◌, subst, arith, ⊎_elim, if◌then◌else◌, All, append_assoc, length-append}
use Rattle.std.proofs.lemmas.Bool.{cases_eq, eq-eqb}
use Rattle.std.proofs.lemmas.List.{append-nil, length-take-le, take_more}
use Rattle.std.proofs.lemmas.List.Elements.{All-append, All-cons, All-nil}
use Rattle.ss_codec.specs.Record.{HasRecord, record_bytes}
use Rattle.ss_elem.specs.declared.element.Element.{Element}
use Rattle.ss_outside.specs.Depot.{Contents, DepotTold, Leaves, Refuses, next_number, with_record}
use Rattle.ss_vault.specs.Devices.{Appended, HasMore}
use Rattle.ss_vault.specs.Sound.{records_from}
use Rattle.ss_vault.proofs.Flushed.{chosen_other, chosen_same}
use Rattle.ss_vault.proofs.Records.{records_from-append, records_from-length}

-- none yet
none_more : (a : Contents) (v : ℕ) → HasMore a a v []
none_more a v = record {
  first = λ w. refl;
  records = λ w. ⊎_elim
      (λ (same : w ≡ v). ap a.records same ∙ sym (append-nil (a.records v)) ∙ sym (ap (λ (b : Bool). if b then a.records v ++ [] else a.records w) (eq-eqb w v same)))
      (λ (other : w ≢ v). sym (chosen_other w v (a.records v ++ []) (a.records w) other))
      (cases_eq w v);
  frames = λ w n. refl;
}

pub appended_none : (a : DepotTold) (v n : ℕ) (elements : List Element) → Appended a a v n elements 0
appended_none a v n elements = record {
  within = omega arith;
  contents = none_more a.contents v;
  records = All-nil HasRecord;
  faults = omega arith;
  shorts = omega arith;
}

-- one more
more_on : (a b c : Contents) (v : ℕ) (records : List (List ℕ)) (bytes : List ℕ) → HasMore a b v records → c ≡ with_record v bytes b
    → HasMore a c v (records ++ bytes ∷ [])
more_on a b c v records bytes more e = record {
  first = λ w. ap (λ (x : Contents). x.first w) e ∙ more.first w;
  records = λ w. ap (λ (x : Contents). x.records w) e ∙ ⊎_elim
      (λ (same : w ≡ v). subst (λ (i : ℕ). (if i == v then b.records v ++ bytes ∷ [] else b.records i) ≡ (if i == v then a.records v ++ (records ++ bytes ∷ []) else a.records i)) (sym same)
      (chosen_same v (b.records v ++ bytes ∷ []) (b.records v)
      ∙ ap (λ (x : List (List ℕ)). x ++ bytes ∷ []) (more.records v ∙ chosen_same v (a.records v ++ records) (a.records v))
      ∙ append_assoc (a.records v) records (bytes ∷ [])
      ∙ sym (chosen_same v (a.records v ++ (records ++ bytes ∷ [])) (a.records v))))
      (λ (other : w ≢ v).
      chosen_other w v (b.records v ++ bytes ∷ []) (b.records w) other
      ∙ more.records w ∙ chosen_other w v (a.records v ++ records) (a.records w) other
      ∙ sym (chosen_other w v (a.records v ++ (records ++ bytes ∷ [])) (a.records w) other))
      (cases_eq w v);
  frames = λ w n. ap (λ (x : Contents). x.frames w n) e ∙ more.frames w n;
}

pub appended_more : (a b c : DepotTold) (v n : ℕ) (elements : List Element) (count : ℕ) (x : Element) → Appended a b v n elements count
    → count < length elements → x ≡ get_or elements count x → HasRecord x → Leaves b c (with_record v (record_bytes v (n + count) x) b.contents)
    → Appended a c v n elements (count + 1)
appended_more a b c v n elements count x had below is_next has leaves =
    let one : take (count + 1) elements ≡ take count elements ++ x ∷ [] =
    take_more elements count x below ∙ ap (λ (y : Element). take count elements ++ y ∷ []) (sym is_next) in
    let long : length (take count elements) ≡ count = length-take-le count elements (omega (arith, below)) in
    let records : records_from v n (take count elements) ++ record_bytes v (n + count) x ∷ [] ≡ records_from v n (take (count + 1) elements) =
    sym (ap (records_from v n) one ∙ records_from-append v n (take count elements) (x ∷ [])
    ∙ ap (λ (k : ℕ). records_from v n (take count elements) ++ record_bytes v (n + k) x ∷ []) long) in
    record {
      within = omega (arith, below);
      contents = subst (λ (r : List (List ℕ)). HasMore a.contents c.contents v r) records
          (more_on a.contents b.contents c.contents v (records_from v n (take count elements)) (record_bytes v (n + count) x) had.contents leaves.contents);
      records = subst (λ (xs : List Element). All HasRecord xs) (sym one)
          (All-append HasRecord (take count elements) (x ∷ []) had.records (All-cons HasRecord x [] has (All-nil HasRecord)));
      faults = omega (arith, had.faults, leaves.faults);
      shorts = omega (arith, had.shorts, leaves.shorts);
    }

-- the number of the next
pub appended_next : (a b : DepotTold) (v n : ℕ) (elements : List Element) (count : ℕ) → Appended a b v n elements count
    → n ≡ next_number a.contents v → n + count ≡ next_number b.contents v
appended_next a b v n elements count had e =
    let records : b.contents.records v ≡ a.contents.records v ++ records_from v n (take count elements) =
    had.contents.records v ∙ chosen_same v (a.contents.records v ++ records_from v n (take count elements)) (a.contents.records v) in
    let first = had.contents.first v in
    let long : length (b.contents.records v) ≡ length (a.contents.records v) + count =
    ap length records ∙ length-append (a.contents.records v) (records_from v n (take count elements))
    ∙ ap (λ (k : ℕ). length (a.contents.records v) + k) (records_from-length v n (take count elements) ∙ length-take-le count elements had.within) in
    omega (arith, e, first, long)

-- a step that was refused leaves what was appended
pub appended_refused : (a b c : DepotTold) (v n : ℕ) (elements : List Element) (count : ℕ) → Appended a b v n elements count
    → Refuses b c → Appended a c v n elements count
appended_refused a b c v n elements count had refuses = record {
  within = had.within;
  contents = subst (λ (x : Contents). HasMore a.contents x v (records_from v n (take count elements))) (sym refuses.contents) had.contents;
  records = had.records;
  faults = omega (arith, had.faults, refuses.faults);
  shorts = omega (arith, had.shorts, refuses.shorts);
}

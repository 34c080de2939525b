-- What a plain reader gives: a value, unless something is wrong, and then the first of it.
use Rattle.std.proofs.Common.{◌≡◌, Bool, true, false, List, [], ◌∷◌, ◌++◌, map, Result, Ok, Option, Some, None, refl, append_assoc}
use Rattle.std.specs.Prelude.{is_none, unwrap_or}
use Rattle.ss_job.specs.Faults.{first_fault_or}
use Rattle.ss_job.specs.Fields.{◌>>=◌, refuse, required}
use Rattle.ss_job.specs.Reading.{faulty}
use Rattle.ss_job.specs.Wrong.{fault_if}
use Rattle.ss_job.specs.declared.fault.JobFault.{JobFault}
use Rattle.ss_job.specs.declared.fault.JobWhy.{JobWhy}

-- the reader gives the value, unless something of the list is wrong
pub record Reads {A F : Type 0} (r : Result A F) (wrong : List F) (value : A) : Type 0 where
  pub is : r ≡ first_fault_or wrong value

-- one reader after another: the second is asked only where nothing is wrong before
pub then : {A B F : Type 0} {r : Result A F} {f g : List F} {v : A} {w : B} (k : A → Result B F) → Reads r f v → (f ≡ [] → Reads (k v) g w) → Reads (r >>= k) (f ++ g) w
then {f} k first second = record { is = rw first.is (chained f _ _ _ k (λ none. (second none).is)) }
  where
    chained : {A B F : Type 0} (f g : List F) (v : A) (w : B) (k : A → Result B F) → (f ≡ [] → k v ≡ first_fault_or g w) → (first_fault_or f v >>= k) ≡ first_fault_or (f ++ g) w
    chained [] g v w k second = second refl
    chained (fault ∷ f) g v w k second = refl

pub done : {A F : Type 0} (v : A) → Reads {F = F} (Ok v) [] v
done v = record { is = refl }

pub refused : (test : Bool) (why : JobWhy) → Reads (refuse test why) (fault_if test why) tt
refused true why = record { is = refl }
refused false why = record { is = refl }

-- the same at a place
pub placed : {A : Type 0} {r : Result A JobWhy} {f : List JobWhy} {v : A} (place : JobWhy → JobFault) → Reads r f v → Reads (faulty place r) (map place f) v
placed {f} place reads = record { is = rw reads.is (lifted f _ place) }
  where
    lifted : {A : Type 0} (f : List JobWhy) (v : A) (place : JobWhy → JobFault) → faulty place (first_fault_or f v) ≡ first_fault_or (map place f) v
    lifted [] v place = refl
    lifted (why ∷ f) v place = refl

pub found : {A : Type 0} (o : Option A) (default : A) (why : JobWhy) → Reads (required o why) (fault_if (is_none o) why) (unwrap_or o default)
found None default why = record { is = refl }
found (Some x) default why = record { is = refl }

-- a value made of what was read
pub made : {A B F : Type 0} {r : Result A F} {f : List F} {v : A} (make : A → B) → Reads r f v → Reads (r >>= (λ x. Ok (make x))) f (make v)
made {f} make reads = record { is = rw reads.is (remade f _ make) }
  where
    remade : {A B F : Type 0} (f : List F) (v : A) (make : A → B) → (first_fault_or f v >>= (λ x. Ok (make x))) ≡ first_fault_or f (make v)
    remade [] v make = refl
    remade (fault ∷ f) v make = refl

-- what is wrong, in other groups
pub regrouped : {A F : Type 0} {r : Result A F} {v : A} (f g h : List F) → Reads r (f ++ (g ++ h)) v → Reads r ((f ++ g) ++ h) v
regrouped f g h reads = rw (append_assoc f g h) reads

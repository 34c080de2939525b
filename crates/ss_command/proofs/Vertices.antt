-- The vertices of a job one by one.
use Rattle.std.proofs.Common.{◌≡◌, ℕ, zero, suc, ◌+◌, ◌<◌, true, false, List, [], ◌∷◌, ◌++◌, length, take, drop, Some, refl, ap, add-one, arith}
use Rattle.std.specs.List.{slice_get, list_any}
use Rattle.std.specs.Option.{option_map}
use Rattle.ss_job.specs.JobText.{JobText, VertexText, op_of_vertex}
use Rattle.ss_job.specs.declared.op.Op.{Op}
use Rattle.ss_command.specs.Output.{shows, writes_to_output}

-- a list at a place within it
pub record IsAt {A : Type 0} (xs : List A) (v : ℕ) (x : A) : Type 0 where
  pub here : slice_get xs v ≡ Some x
  pub left : drop v xs ≡ x ∷ drop (v + 1) xs
  pub passed : take (v + 1) xs ≡ take v xs ++ x ∷ []

pub item_at : {A : Type 0} (xs : List A) (v : ℕ) → v < length xs → (x : A) × IsAt xs v x
item_at {A = A} [] v h = absurd (omega (arith, h))
item_at {A = A} (x ∷ xs) zero h = (x, record { here = refl; left = refl; passed = refl })
item_at {A = A} (x ∷ xs) (suc v) h =
    let (y, at) = item_at xs v (omega (arith, h)) in (
      y,
      record {
        here = at.here;
        left = rw (add-one (suc v)) (rw (add-one v) at at.left);
        passed = rw (add-one (suc v)) (ap (λ (l : List A). x ∷ l) (rw (add-one v) at at.passed));
      },
    )

pub op_at : (xs : List VertexText) (v : ℕ) (x : VertexText) (op : Op) → slice_get xs v ≡ Some x → option_map op_of_vertex (slice_get xs v) ≡ Some op → op_of_vertex x ≡ op
op_at xs v x op here is = let known : option_map op_of_vertex (slice_get xs v) ≡ Some (op_of_vertex x) = ap (option_map op_of_vertex) here in cc

pub shows-at : (job : JobText) (v : ℕ) (x : VertexText) → slice_get job.vertices v ≡ Some x → shows job v ≡ writes_to_output x
shows-at job v x here = rw here refl

pub shown_here : (x : VertexText) (xs : List VertexText) → writes_to_output x ≡ true → list_any writes_to_output (x ∷ xs) ≡ true
shown_here x xs h = rw h refl

pub shown_later : (x : VertexText) (xs : List VertexText) → writes_to_output x ≡ false → list_any writes_to_output (x ∷ xs) ≡ list_any writes_to_output xs
shown_later x xs h = rw h refl

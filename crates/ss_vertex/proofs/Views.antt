-- What the fields of an instance are to its callers.
use Rattle.std.proofs.Common.{◌≡◌, ℕ, ◌+◌, ◌<◌, List, [], length, drop, Option, Some, None, option_map, IsSome, refl, sym, ap, ◌∙◌, arith}
use Rattle.std.proofs.lemmas.List.{drop-drop}
use Rattle.std.specs.Option.{option_map_or}
use Rattle.ss_elem.specs.OutList.{OutList}
use Rattle.ss_elem.specs.declared.element.Element.{Element}
use Rattle.ss_vertex.specs.Inst.{Running, InstState, one_done, with_one_done, loaded_at}
use Rattle.ss_vertex.specs.Kept.{inst_kept, left_kept, list_kept, listing_kept, merging_kept, n_kept, running_kept}
use Rattle.ss_vertex.specs.declared.operating.Operating.{Operating}
use Rattle.ss_vertex.specs.declared.work.Work.{Work}
use Rattle.ss_vertex.specs.declared.work.Work.TheVariants.{Listing, Merging}

-- how many are left, where the instance is up

left_some : (r : Option ℕ) (next : ℕ) (left : List Element) → 0 < option_map_or (λ (up : Running). length up.left) (option_map (listing_kept next left) r) 0
    → 0 < length left
left_some None next left h = absurd (omega arith)
left_some (Some n) next left h = h

left_more : (r : Option Operating) (next : ℕ) (left : List Element) → 0 < option_map_or (λ (up : Running). length up.left) (option_map (merging_kept next left) r) 0
    → 0 < length left
left_more None next left h = absurd (omega arith)
left_more (Some o) next left h = h

pub some_left : (work : Work) (next : ℕ) (left : List Element) → 0 < option_map_or (λ (up : Running). length up.left) (running_kept work next left) 0
    → 0 < length left
some_left (Listing len n) next left h = left_some n next left h
some_left (Merging o) next left h = left_more o next left h

-- one more is done with

done_list : (r : Option ℕ) (next : ℕ) (left : List Element)
    → option_map (listing_kept (next + 1) (drop 1 left)) r ≡ option_map one_done (option_map (listing_kept next left) r)
done_list None next left = refl
done_list (Some n) next left = refl

done_merge : (r : Option Operating) (next : ℕ) (left : List Element)
    → option_map (merging_kept (next + 1) (drop 1 left)) r ≡ option_map one_done (option_map (merging_kept next left) r)
done_merge None next left = refl
done_merge (Some o) next left = refl

done_running : (work : Work) (next : ℕ) (left : List Element) → running_kept work (next + 1) (drop 1 left) ≡ option_map one_done (running_kept work next left)
done_running (Listing len n) next left = done_list n next left
done_running (Merging o) next left = done_merge o next left

abbrev pub inst_of : ℕ → Option ℕ → Option Running → InstState
inst_of v list running = record { v = v; list = list; running = running }

pub inst_done : (v next : ℕ) (given : OutList) (done : ℕ) (work : Work)
    → inst_kept v (next + 1) given (done + 1) work ≡ with_one_done (inst_kept v next given done work)
inst_done v next given done work =
    ap (λ (left : List Element). inst_of v (list_kept work) (running_kept work (next + 1) left)) (sym (drop-drop 1 done given.elements))
    ∙ ap (inst_of v (list_kept work)) (done_running work next (left_kept given done))

-- what an instance that is up has

pub record Up (work : Work) (next : ℕ) (left : List Element) : Type 0 where
  pub up : Running
  pub is : running_kept work next left ≡ Some up
  pub next_is : up.next ≡ next
  pub left_is : up.left ≡ left
  pub n_is : up.n ≡ n_kept work

pub up_of : (work : Work) (next : ℕ) (left : List Element) → IsSome (running_kept work next left) → Up work next left
up_of (Listing len None) next left h = cc
up_of (Listing len (Some n)) next left h = record { up = listing_kept next left n; is = refl; next_is = refl; left_is = refl; n_is = refl }
up_of (Merging None) next left h = cc
up_of (Merging (Some o)) next left h = record { up = merging_kept next left o; is = refl; next_is = refl; left_is = refl; n_is = refl }

pub n_same : (work : Work) (next : ℕ) (left : List Element) → option_map_or (λ (up : Running). up.n) (running_kept work next left) 0 ≡ n_kept work
n_same (Listing len None) next left = refl
n_same (Listing len (Some n)) next left = refl
n_same (Merging None) next left = refl
n_same (Merging (Some o)) next left = refl

up_where_left : (r : Option Running) → 0 < option_map_or (λ (up : Running). length up.left) r 0 → IsSome r
up_where_left None h = absurd (omega arith)
up_where_left (Some up) h = refl

pub left_up : (work : Work) (next : ℕ) (left : List Element) → 0 < option_map_or (λ (up : Running). length up.left) (running_kept work next left) 0
    → Up work next left
left_up work next left h = up_of work next left (up_where_left (running_kept work next left) h)

-- going on behind the first n elements of a list

pub listed_view : (v n next done : ℕ) (given new : OutList) (work again : Work) → new.elements ≡ [] → list_kept again ≡ list_kept work
    → ((next : ℕ) (left : List Element) → running_kept again next left ≡ Some (listing_kept next left n))
    → inst_kept v n new 0 again ≡ loaded_at (inst_kept v next given done work) n
listed_view v n next done given new work again none list up =
    ap (λ (left : List Element). inst_of v (list_kept again) (running_kept again n left)) none
    ∙ ap (λ (l : Option ℕ). inst_of v l (running_kept again n [])) list
    ∙ ap (inst_of v (list_kept work)) (up n [])

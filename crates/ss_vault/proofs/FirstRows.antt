-- The rows of a vault's numbers before anything is stored.
use Rattle.std.proofs.Common.{◌≡◌, ℕ, ◌+◌, ◌<◌, not, Some, Vec, List, [], ◌∷◌, ◌++◌, length, get_or, map, replicate, take, refl, sym, ap, ap₂, ◌∙◌, arith}
use Rattle.std.specs.Prelude.{slice_get, slice_index}
use Rattle.std.specs.declared.alloc.Global.{Global}
use Rattle.std.proofs.lemmas.List.{ext_get_or, get_or-map, get_or-replicate, length-map, length-replicate, map-append, take_more}
use Rattle.std.proofs.lemmas.Option.{get_or_from_slice_get, slice_get_within}
use Rattle.ss_state.specs.State.{LedgerRow, empty_row, first_snaps}
use Rattle.ss_state.specs.declared.entry.Entry.{Entry}
use Rattle.ss_water.specs.Graph.{is_sink}
use Rattle.ss_water.specs.declared.node.Kind.{Kind}
use Rattle.ss_water.specs.declared.node.Kind.TheVariants.{Source, Inner, Sink}
use Rattle.ss_water.specs.declared.node.Node.{Node}
use Rattle.ss_water.specs.declared.snap_row.SnapRow.{SnapRow}
use Rattle.ss_vault.specs.Numbers.{AreNumbers, Columns, numbers_held, rows_from, snaps_from}
use Rattle.ss_vault.specs.NumbersHeld.{AreFirst, first_row_of, first_rows}
use Rattle.ss_vault.proofs.Rows.{row_is, rows_length}

-- one more of the nodes
take_one : (nodes : List Node) (v : ℕ) (node : Node) → slice_get nodes v ≡ Some node → take (v + 1) nodes ≡ take v nodes ++ node ∷ []
take_one nodes v node at =
    take_more nodes v node (slice_get_within nodes v node at) ∙ ap (λ (n : Node). take v nodes ++ n ∷ []) (get_or_from_slice_get nodes v node node at)

pub map_more : {A B : Type 0} (f : A → B) (g : Node → B) (nodes : List Node) (v : ℕ) (node : Node) (xs : List A) (x : A)
    → map f xs ≡ map g (take v nodes) → f x ≡ g node → slice_get nodes v ≡ Some node → map f (xs ++ x ∷ []) ≡ map g (take (v + 1) nodes)
map_more {B = B} f g nodes v node xs x had here at =
    map-append f xs (x ∷ []) ∙ ap₂ (λ (ys : List B) (y : B). ys ++ y ∷ []) had here
    ∙ sym (ap (map g) (take_one nodes v node at) ∙ map-append g (take v nodes) (node ∷ []))

pub list_more : {B : Type 0} (g : Node → B) (nodes : List Node) (v : ℕ) (node : Node) (xs : List B) (x : B)
    → xs ≡ map g (take v nodes) → x ≡ g node → slice_get nodes v ≡ Some node → xs ++ x ∷ [] ≡ map g (take (v + 1) nodes)
list_more {B = B} g nodes v node xs x had here at =
    ap₂ (λ (ys : List B) (y : B). ys ++ y ∷ []) had here
    ∙ sym (ap (map g) (take_one nodes v node at) ∙ map-append g (take v nodes) (node ∷ []))

-- ---- all of them

first_numbers : (kind : Kind) → map (λ (s : SnapRow). s.n) (first_rows kind) ≡ first_snaps kind
first_numbers Source = refl
first_numbers Inner = refl
first_numbers Sink = refl

abbrev row_with : ℕ → ℕ → List ℕ → ℕ → ℕ → LedgerRow
row_with base dur snaps mark taken = record { base = base; dur = dur; snaps = snaps; mark = mark; taken = taken }

zeros : (b d m t : ℕ) (s r : List ℕ) → b ≡ 0 → d ≡ 0 → m ≡ 0 → t ≡ 0 → s ≡ r → row_with b d s m t ≡ row_with 0 0 r 0 0
zeros b d m t s r is_b is_d is_m is_t is_s =
    ap₂ (λ (x y : ℕ). row_with x y s m t) is_b is_d
    ∙ ap₂ (λ (x y : ℕ). row_with 0 0 s x y) is_m is_t
    ∙ ap (λ (x : List ℕ). row_with 0 0 x 0 0) is_s

abbrev no_node : Node
no_node = record { kind = Sink; inputs = []; width = 0 }

pub record AreZeros (nodes : List Node) (c : Columns) : Type 0 where
  pub base : c.base ≡ replicate (length nodes) 0
  pub dur : c.dur ≡ replicate (length nodes) 0
  pub mark : c.mark ≡ replicate (length nodes) 0
  pub taken : c.taken ≡ replicate (length nodes) 0
  pub ended : c.ended ≡ map (λ (node : Node). not (is_sink node.kind)) nodes
  pub snaps : snaps_from c ≡ map (λ (node : Node). first_rows node.kind) nodes

pub first_held : (nodes : List Node) (c : Columns) (journal : Vec Entry Global) → AreZeros nodes c → journal.items ≡ []
    → AreFirst nodes (numbers_held c 0 journal)
first_held nodes c journal zero empty = record {
  rows = ext_get_or empty_row (rows_from c) (map (λ (node : Node). first_row_of node.kind) nodes)
      (rows_length c ∙ ap length zero.base ∙ length-replicate (length nodes) 0 ∙ sym (length-map nodes (λ (node : Node). first_row_of node.kind)))
      (λ w less.
      let long = ap length zero.base ∙ length-replicate (length nodes) 0 in
      let inside : w < length c.base = let k = rows_length c in omega (arith, less, k) in
      let within : w < length nodes = omega (arith, inside, long) in
      let node : Node = get_or nodes w no_node in
      let none = λ (xs : List ℕ) (e : xs ≡ replicate (length nodes) 0). ap (λ (ys : List ℕ). slice_index ys w) e ∙ get_or-replicate (length nodes) w 0 0 within in
      row_is c w inside
      ∙ zeros (slice_index c.base w) (slice_index c.dur w) (slice_index c.mark w) (slice_index c.taken w)
      (map (λ (s : SnapRow). s.n) (get_or (snaps_from c) w [])) (first_snaps node.kind)
      (none c.base zero.base) (none c.dur zero.dur) (none c.mark zero.mark) (none c.taken zero.taken)
      (ap (λ (xs : List (List SnapRow)). map (λ (s : SnapRow). s.n) (get_or xs w [])) zero.snaps
      ∙ ap (map (λ (s : SnapRow). s.n)) (get_or-map (λ (n : Node). first_rows n.kind) nodes w no_node [] within) ∙ first_numbers node.kind)
      ∙ sym (get_or-map (λ (n : Node). first_row_of n.kind) nodes w no_node empty_row within));
  since = refl;
  journal = empty;
  snaps = zero.snaps;
  ended = zero.ended;
}

pub zero_numbers : (nodes : List Node) (c : Columns) → AreZeros nodes c → AreNumbers c 0
zero_numbers nodes c zero =
    let base : length c.base ≡ length nodes = ap length zero.base ∙ length-replicate (length nodes) 0 in
    record {
      dur = ap length zero.dur ∙ length-replicate (length nodes) 0 ∙ sym base;
      mark = ap length zero.mark ∙ length-replicate (length nodes) 0 ∙ sym base;
      taken = ap length zero.taken ∙ length-replicate (length nodes) 0 ∙ sym base;
      ended = ap length zero.ended ∙ length-map nodes (λ (node : Node). not (is_sink node.kind)) ∙ sym base;
      snaps = sym (length-map c.snaps (λ (s : Vec SnapRow Global). s.items)) ∙ ap length zero.snaps
          ∙ length-map nodes (λ (node : Node). first_rows node.kind) ∙ sym base;
      since = omega arith;
    }

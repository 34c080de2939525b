-- Entries that may stand in an image are read from it.
use Rattle.std.proofs.Common.{◌≡◌, ℕ, ◌+◌, ◌*◌, ◌%◌, ◌^◌, ◌<◌, ◌==◌, nat_lt, nat_le, Bool, true, false, cond, ◌&&◌, ◌||◌, List, [], ◌∷◌, ◌++◌, length, drop, Option, Some, None, Ok, Err, refl, ap, subst, ◌∙◌, arith, ltb-true, ltb-false, lt-ltb, eq-eqb, le-leb}
use Rattle.std.proofs.lemmas.Bool.{and_parts, and_from, cond-true}
use Rattle.std.proofs.lemmas.List.{length-append, drop_at}
use Rattle.std.proofs.lemmas.List.Elements.{recursion_from_All}
use Rattle.std.specs.List.{AllByRecursion, flat_map}
use Rattle.std.specs.Option.{option_and_then, option_map_or}
use Rattle.ss_elem.specs.Validity.{top}
use Rattle.ss_expr.specs.declared.stream_operator.Agg.{Agg}
use Rattle.ss_meaning.specs.Entries.{WindowEntry}
use Rattle.ss_meaning.specs.EntryLists.{AreInOrder, IsBehind}
use Rattle.ss_window.specs.Held.{IsHeld}
use Rattle.ss_image.specs.Numbers.{number_bytes, number_at}
use Rattle.ss_image.specs.NumberLaws.{NumbersAreReadAgain}
use Rattle.ss_image.specs.Images.{entry_bytes, window_image}
use Rattle.ss_window.specs.ImageTests.{entry_in, entry_read, entries_read, with_first, is_entry, is_open_end, is_count, is_sum_of, summands, follows, has_whole_entries}
use Rattle.ss_window.specs.ImageLaws.{MayStand, EntriesAreReadAgain}
use Rattle.ss_window.proofs.Joins.{fits-held}
use Rattle.ss_window.proofs.Passing.{passing_is_held}
use Rattle.ss_window.proofs.Spellings.{HasParts, entry_bytes-parts, entry_in-bytes, length-entry_bytes}

held : (hop : ℕ) (agg : Agg) (low : ℕ) (e : WindowEntry) → is_entry hop agg low e ≡ true → IsHeld (record { value = e.value; rows = e.rows }) × (e.end < 2 ^ 63)
held hop agg low e h =
    let parts = and_parts (is_open_end hop low e.end) (is_count e.rows && is_sum_of (summands agg e.rows) e.value) h in
    let counts = and_parts (is_count e.rows) (is_sum_of (summands agg e.rows) e.value) parts.1 in
    let ends = and_parts (nat_lt low e.end && nat_lt e.end top) (e.end % hop == 0) parts.0 in
    (passing_is_held agg e counts.0 counts.1, ltb-true e.end top (and_parts (nat_lt low e.end) (nat_lt e.end top) ends.0).1)

parts_of : NumbersAreReadAgain → (hop : ℕ) (agg : Agg) (low : ℕ) (e : WindowEntry) (rest : List ℕ) → MayStand hop agg low e → HasParts e (entry_bytes e ++ rest) rest
parts_of laws hop agg low e rest h =
    let can = held hop agg low e h.passes in
    entry_bytes-parts laws e rest (omega (arith, can.1)) h.is_key (fits-held e.value e.rows can.0.few can.0.least can.0.most) (omega (arith, can.0.few))

entry_read-bytes : NumbersAreReadAgain → (hop : ℕ) (agg : Agg) (low : ℕ) (previous : Option WindowEntry) (e : WindowEntry) (rest : List ℕ) → MayStand hop agg low e
    → follows previous e ≡ true → entry_read hop agg low previous (entry_bytes e ++ rest) ≡ Some e
unfolding entry_read
entry_read-bytes laws hop agg low previous e rest h f =
    let bytes = entry_bytes e ++ rest in
    let parts = parts_of laws hop agg low e rest h in
    let same = entry_in-bytes e bytes rest parts in
    ap (option_and_then (λ key. cond (is_entry hop agg low (entry_in key bytes) && follows previous (entry_in key bytes)) (Some (entry_in key bytes)) None)) parts.key
    ∙ (ap (λ x. cond (is_entry hop agg low x && follows previous x) (Some x) None) same
    ∙ cond-true (is_entry hop agg low e && follows previous e) (Some e) None (and_from (is_entry hop agg low e) (follows previous e) h.passes f))

-- an entry that stands behind another follows it
pub follows_behind : (d e : WindowEntry) → IsBehind d.end d.key e → follows (Some d) e ≡ true
follows_behind d e h = by_case (nat_lt d.end e.end) refl
  where
    by_case : (b : Bool) → nat_lt d.end e.end ≡ b → (b || (d.end == e.end && nat_lt d.key e.key)) ≡ true
    by_case true t = refl
    by_case false t =
        let same : d.end ≡ e.end = omega (arith, h.ends, ltb-false d.end e.end t) in
        and_from (d.end == e.end) (nat_lt d.key e.key) (eq-eqb d.end e.end same) (lt-ltb d.key e.key (h.keys same))

first_follows : (d : WindowEntry) (es : List WindowEntry) → AllByRecursion (IsBehind d.end d.key) es → (e : WindowEntry) (fs : List WindowEntry) → es ≡ e ∷ fs
    → follows (Some d) e ≡ true
first_follows d es h e fs same = follows_behind d e (subst (AllByRecursion (IsBehind d.end d.key)) same h).0

entries_again : NumbersAreReadAgain → (hop : ℕ) (agg : Agg) (low at : ℕ) (previous : Option WindowEntry) (es : List WindowEntry)
    → AreInOrder es → ((e : WindowEntry) (fs : List WindowEntry) → es ≡ e ∷ fs → follows previous e ≡ true) → AllByRecursion (MayStand hop agg low) es
    → entries_read hop agg low (length es) at previous (flat_map entry_bytes es) ≡ Ok es
unfolding entries_read
entries_again laws hop agg low at previous [] h f k = refl
entries_again laws hop agg low at previous (e ∷ es) h f k =
    let rest = flat_map entry_bytes es in
    let read = entry_read-bytes laws hop agg low previous e rest k.0 (f e es refl) in
    let behind = (parts_of laws hop agg low e rest k.0).behind in
    ap (λ o. option_map_or (λ x. with_first x (entries_read hop agg low (length es) (at + 48) (Some x) (drop 48 (entry_bytes e ++ rest)))) o (Err at)) read
    ∙ (ap (λ xs. with_first e (entries_read hop agg low (length es) (at + 48) (Some e) xs)) behind
    ∙ ap (with_first e) (entries_again laws hop agg low (at + 48) (Some e) es h.1 (first_follows e es h.0) k.1))

length-flat_map_entries : NumbersAreReadAgain → (es : List WindowEntry) → length (flat_map entry_bytes es) ≡ 48 * length es
length-flat_map_entries laws [] = omega arith
length-flat_map_entries laws (e ∷ es) =
    let rest = length-flat_map_entries laws es in
    omega (arith, length-append (entry_bytes e) (flat_map entry_bytes es), length-entry_bytes laws e, rest)

pub entries_are_read_again : NumbersAreReadAgain → EntriesAreReadAgain
unfolding window_image
entries_are_read_again laws hop agg low es few order stand =
    let count = number_bytes 4 (length es) in
    let behind = flat_map entry_bytes es in
    let bytes = count ++ behind in
    let said : number_at 4 0 bytes ≡ length es = laws.number 4 0 (length es) bytes behind refl (omega (arith, few)) in
    let long : length bytes ≡ 4 + 48 * length es = omega (arith, length-append count behind, laws.number_len 4 (length es), length-flat_map_entries laws es) in
    let whole : has_whole_entries bytes ≡ true =
    and_from (nat_le 4 (length bytes)) (length bytes == 4 + 48 * number_at 4 0 bytes) (le-leb 4 (length bytes) (omega (arith, long)))
    (eq-eqb (length bytes) (4 + 48 * number_at 4 0 bytes) (omega (arith, long, said))) in
    cond-true (has_whole_entries bytes) (entries_read hop agg low (number_at 4 0 bytes) 4 None (drop 4 bytes)) (Err 0) whole
    ∙ (ap (λ n. entries_read hop agg low n 4 None (drop 4 bytes)) said
    ∙ (ap (entries_read hop agg low (length es) 4 None) (drop_at count behind 4 (laws.number_len 4 (length es)))
    ∙ entries_again laws hop agg low 4 None es order (λ e fs same. refl) (recursion_from_All (MayStand hop agg low) es stand)))

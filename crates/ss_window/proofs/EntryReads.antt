-- Entries that are read one after another.
use Rattle.std.proofs.Common.{◌≡◌, ℕ, zero, suc, ◌+◌, ◌-◌, ◌==◌, ◌⊎◌, nat_lt, Bool, true, false, cond, ◌&&◌, take, inl, inr, subst, ltb-true, eqb-true, List, [], ◌∷◌, ◌++◌, length, drop, Option, Some, None, Result, Ok, Err, refl, sym, ap, ◌∙◌, arith}
use Rattle.std.specs.Prelude.{slice_get}
use Rattle.std.specs.List.{AllByRecursion}
use Rattle.std.specs.Option.{option_map_or}
use Rattle.std.proofs.lemmas.Bool.{and_parts, or_cases}
use Rattle.std.proofs.lemmas.List.{append_assoc, append-nil, length_push}
use Rattle.std.proofs.lemmas.Option.{option_and_then_some, cond_some}
use Rattle.ss_expr.specs.declared.stream_operator.Agg.{Agg}
use Rattle.ss_meaning.specs.Entries.{WindowEntry}
use Rattle.ss_meaning.specs.EntryLists.{AreInOrder, IsBehind, is_before}
use Rattle.ss_image.specs.Numbers.{number_at, key_in}
use Rattle.ss_window.specs.ImageTests.{entry_in, entry_read, entries_read, with_first, is_entry, follows, last, has_whole_entries, image_read}

-- entries in front of others, where those are read
abbrev pub with_front : List WindowEntry → Result (List WindowEntry) ℕ → Result (List WindowEntry) ℕ
with_front es (Ok fs) = Ok (es ++ fs)
with_front es (Err at) = Err at

pub with_front-nil : (read : Result (List WindowEntry) ℕ) → with_front [] read ≡ read
with_front-nil (Ok fs) = refl
with_front-nil (Err at) = refl

with_front-first : (es : List WindowEntry) (e : WindowEntry) (read : Result (List WindowEntry) ℕ) → with_front es (with_first e read) ≡ with_front (es ++ e ∷ []) read
with_front-first es e (Ok fs) = ap (λ (gs : List WindowEntry). let r : Result (List WindowEntry) ℕ = Ok gs in r) (sym (append_assoc es (e ∷ []) fs))
with_front-first es e (Err at) = refl

slice_get-push : (es : List WindowEntry) (e : WindowEntry) → slice_get (es ++ e ∷ []) (length es) ≡ Some e
slice_get-push [] e = refl
slice_get-push (x ∷ es) e = slice_get-push es e

pub last-push : (es : List WindowEntry) (e : WindowEntry) → last (es ++ e ∷ []) ≡ Some e
last-push es e =
    let more = length_push es e in
    let at : length (es ++ e ∷ []) - 1 ≡ length es = omega (arith, more) in
    ap (slice_get (es ++ e ∷ [])) at ∙ slice_get-push es e

pub entries_read-some : (hop : ℕ) (agg : Agg) (low n at : ℕ) (es : List WindowEntry) (e : WindowEntry) (bytes : List ℕ) → Some e ≡ entry_read hop agg low (last es) bytes
    → with_front es (entries_read hop agg low (suc n) at (last es) bytes)
    ≡ with_front (es ++ e ∷ []) (entries_read hop agg low n (at + 48) (last (es ++ e ∷ [])) (drop 48 bytes))
unfolding entries_read
entries_read-some hop agg low n at es e bytes h =
    ap (λ o. with_front es (option_map_or (λ x. with_first x (entries_read hop agg low n (at + 48) (Some x) (drop 48 bytes))) o (Err at))) (sym h)
    ∙ (with_front-first es e (entries_read hop agg low n (at + 48) (Some e) (drop 48 bytes))
    ∙ ap (λ o. with_front (es ++ e ∷ []) (entries_read hop agg low n (at + 48) o (drop 48 bytes))) (sym (last-push es e)))

pub entries_read-none : (hop : ℕ) (agg : Agg) (low n at : ℕ) (es : List WindowEntry) (bytes : List ℕ) → None ≡ entry_read hop agg low (last es) bytes
    → with_front es (entries_read hop agg low (suc n) at (last es) bytes) ≡ Err at
unfolding entries_read
entries_read-none hop agg low n at es bytes h =
    ap (λ o. with_front es (option_map_or (λ x. with_first x (entries_read hop agg low n (at + 48) (Some x) (drop 48 bytes))) o (Err at))) (sym h)

pub entries_read-done : (hop : ℕ) (agg : Agg) (low n at : ℕ) (es : List WindowEntry) (bytes : List ℕ) → n ≡ 0
    → with_front es (entries_read hop agg low n at (last es) bytes) ≡ Ok es
unfolding entries_read
entries_read-done hop agg low n at es bytes h =
    ap (λ m. with_front es (entries_read hop agg low m at (last es) bytes)) h
    ∙ ap (λ (gs : List WindowEntry). let r : Result (List WindowEntry) ℕ = Ok gs in r) (append-nil es)

-- what is read stands in order

pub same_ok : (es fs : List WindowEntry) → ◌≡◌ {A = Result (List WindowEntry) ℕ} (Ok es) (Ok fs) → es ≡ fs
same_ok es fs h = cc

pub err_ok : (at : ℕ) (es : List WindowEntry) → ◌≡◌ {A = Result (List WindowEntry) ℕ} (Err at) (Ok es) → ⊥
err_ok at es h = cc

entry_read-follows : (hop : ℕ) (agg : Agg) (low : ℕ) (previous : Option WindowEntry) (bytes : List ℕ) (e : WindowEntry)
    → entry_read hop agg low previous bytes ≡ Some e → follows previous e ≡ true
unfolding entry_read
entry_read-follows hop agg low previous bytes e h =
    option_and_then_some
    (λ key. cond (is_entry hop agg low (entry_in key bytes) && follows previous (entry_in key bytes)) (Some (entry_in key bytes)) None)
    (key_in (take 16 (drop 8 bytes))) e h
    (λ key of_key found.
    let x = entry_in key bytes in
    let parts = cond_some (is_entry hop agg low x && follows previous x) x e found in
    ap (follows previous) (sym parts.1) ∙ (and_parts (is_entry hop agg low x) (follows previous x) parts.0).1)

behind_both : (d e f : WindowEntry) → IsBehind d.end d.key e → IsBehind e.end e.key f → IsBehind d.end d.key f
behind_both d e f h k = record {
  ends = omega (arith, h.ends, k.ends);
  keys = λ s. let t : d.end ≡ e.end = omega (arith, h.ends, k.ends) in let u : e.end ≡ f.end = omega (arith, t, s) in omega (arith, h.keys t, k.keys u);
}

all_behind : (d e : WindowEntry) (es : List WindowEntry) → IsBehind d.end d.key e → AllByRecursion (IsBehind e.end e.key) es → AllByRecursion (IsBehind d.end d.key) es
all_behind d e [] h k = tt
all_behind d e (f ∷ fs) h k = (behind_both d e f h k.0, all_behind d e fs h k.1)

pub behind : (d e : WindowEntry) → is_before e.end e.key d ≡ true → IsBehind d.end d.key e
behind d e h = by_case (or_cases (nat_lt d.end e.end) (d.end == e.end && nat_lt d.key e.key) h)
  where
    by_case : (nat_lt d.end e.end ≡ true) ⊎ ((d.end == e.end && nat_lt d.key e.key) ≡ true) → IsBehind d.end d.key e
    by_case (inl l) = let less = ltb-true d.end e.end l in record { ends = omega (arith, less); keys = λ s. absurd (omega (arith, less, s)) }
    by_case (inr r) =
        let parts = and_parts (d.end == e.end) (nat_lt d.key e.key) r in
        let same = eqb-true d.end e.end parts.0 in
        let less = ltb-true d.key e.key parts.1 in
        record { ends = omega (arith, same); keys = λ s. less }

behind_first : (d e : WindowEntry) (fs : List WindowEntry) → follows (Some d) e ≡ true → AreInOrder (e ∷ fs) → AreInOrder (d ∷ e ∷ fs)
behind_first d e fs h k = let b = behind d e h in ((b, all_behind d e fs b k.0), k)

entries_read-in_order : (hop : ℕ) (agg : Agg) (low n at : ℕ) (d : WindowEntry) (bytes : List ℕ) (es : List WindowEntry)
    → entries_read hop agg low n at (Some d) bytes ≡ Ok es → AreInOrder (d ∷ es)
unfolding entries_read
entries_read-in_order hop agg low zero at d bytes es h = subst (λ gs. AreInOrder (d ∷ gs)) (same_ok [] es h) (tt, tt)
entries_read-in_order hop agg low (suc n) at d bytes es h =
    by_entry (entry_read hop agg low (Some d) bytes) refl h (λ e. entries_read-in_order hop agg low n (at + 48) e (drop 48 bytes))
  where
    by_rest : (e : WindowEntry) (r : Result (List WindowEntry) ℕ) → follows (Some d) e ≡ true → with_first e r ≡ Ok es
        → ((fs : List WindowEntry) → r ≡ Ok fs → AreInOrder (e ∷ fs)) → AreInOrder (d ∷ es)
    by_rest e (Ok fs) f g rest = subst (λ gs. AreInOrder (d ∷ gs)) (same_ok (e ∷ fs) es g) (behind_first d e fs f (rest fs refl))
    by_rest e (Err place) f g rest = absurd (err_ok place es g)

    by_entry : (o : Option WindowEntry) → entry_read hop agg low (Some d) bytes ≡ o
        → option_map_or (λ x. with_first x (entries_read hop agg low n (at + 48) (Some x) (drop 48 bytes))) o (Err at) ≡ Ok es
        → ((e : WindowEntry) (fs : List WindowEntry) → entries_read hop agg low n (at + 48) (Some e) (drop 48 bytes) ≡ Ok fs → AreInOrder (e ∷ fs))
        → AreInOrder (d ∷ es)
    by_entry None f g rest = absurd (err_ok at es g)
    by_entry (Some e) f g rest =
        by_rest e (entries_read hop agg low n (at + 48) (Some e) (drop 48 bytes)) (entry_read-follows hop agg low (Some d) bytes e f) g (rest e)

pub first_in_order : (hop : ℕ) (agg : Agg) (low n at : ℕ) (bytes : List ℕ) (es : List WindowEntry)
    → entries_read hop agg low n at None bytes ≡ Ok es → AreInOrder es
unfolding entries_read
first_in_order hop agg low zero at bytes es h = subst AreInOrder (same_ok [] es h) tt
first_in_order hop agg low (suc n) at bytes es h = by_entry (entry_read hop agg low None bytes) h
  where
    by_rest : (e : WindowEntry) (r : Result (List WindowEntry) ℕ) → with_first e r ≡ Ok es
        → ((fs : List WindowEntry) → r ≡ Ok fs → AreInOrder (e ∷ fs)) → AreInOrder es
    by_rest e (Ok fs) g rest = subst AreInOrder (same_ok (e ∷ fs) es g) (rest fs refl)
    by_rest e (Err place) g rest = absurd (err_ok place es g)

    by_entry : (o : Option WindowEntry)
        → option_map_or (λ x. with_first x (entries_read hop agg low n (at + 48) (Some x) (drop 48 bytes))) o (Err at) ≡ Ok es
        → AreInOrder es
    by_entry None g = absurd (err_ok at es g)
    by_entry (Some e) g =
        by_rest e (entries_read hop agg low n (at + 48) (Some e) (drop 48 bytes)) g (λ fs. entries_read-in_order hop agg low n (at + 48) e (drop 48 bytes) fs)

pub image_read-in_order : (hop : ℕ) (agg : Agg) (low : ℕ) (bytes : List ℕ) (es : List WindowEntry) → image_read hop agg low bytes ≡ Ok es → AreInOrder es
image_read-in_order hop agg low bytes es h = by_length (has_whole_entries bytes) h
  where
    by_length : (b : Bool) → cond b (entries_read hop agg low (number_at 4 0 bytes) 4 None (drop 4 bytes)) (Err 0) ≡ Ok es → AreInOrder es
    by_length true g = first_in_order hop agg low (number_at 4 0 bytes) 4 (drop 4 bytes) es g
    by_length false g = absurd (err_ok 0 es g)

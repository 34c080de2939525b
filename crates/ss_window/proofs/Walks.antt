-- What stays known from one end of a row to the next.
use Rattle.std.proofs.Common.{◌≡◌, ℕ, suc, ◌+◌, ◌-◌, ◌*◌, ◌<◌, ◌≤◌, Bool, true, false, cond, nat_lt, ℤ, List, [], ◌∷◌, filter, All, ap, ◌∙◌, arith, lt-ltb, le-ltb}
use Rattle.std.proofs.lemmas.List.Elements.{All-from_recursion, recursion_from_All, All-weaker}
use Rattle.std.specs.List.{AllByRecursion}
use Rattle.ss_meaning.specs.Entries.{WindowEntry}
use Rattle.ss_meaning.specs.EntryLists.{is_before, is_of, single_entry, grown_entry, put_value, put_values}
use Rattle.ss_meaning.specs.Window.{multiples}

-- each entry counts at most one row more
few_each : (limit : ℕ) (join : ℤ → ℤ → ℤ) (key : ℕ) (value : ℤ) (w : ℕ) (es : List WindowEntry) → 0 < limit → AllByRecursion (λ (e : WindowEntry). e.rows < limit) es
    → AllByRecursion (λ (e : WindowEntry). e.rows < limit + 1) (put_value join key value w es)
few_each limit join key value w [] l h = (omega (arith, l), tt)
few_each limit join key value w (e ∷ es) l h = by_tests (is_before w key e) (is_of w key e) (weaker es h.1) (few_each limit join key value w es l h.1)
  where
    weaker : (xs : List WindowEntry) → AllByRecursion (λ (x : WindowEntry). x.rows < limit) xs → AllByRecursion (λ (x : WindowEntry). x.rows < limit + 1) xs
    weaker [] k = tt
    weaker (x ∷ xs) k = (omega (arith, k.0), weaker xs k.1)

    by_tests : (p q : Bool) → AllByRecursion (λ (x : WindowEntry). x.rows < limit + 1) es
        → AllByRecursion (λ (x : WindowEntry). x.rows < limit + 1) (put_value join key value w es)
        → AllByRecursion (λ (x : WindowEntry). x.rows < limit + 1)
        (cond p (e ∷ put_value join key value w es) (cond q (grown_entry join value e ∷ es) (single_entry w key value ∷ e ∷ es)))
    by_tests true q more rest = (omega (arith, h.0), rest)
    by_tests false true more rest = (omega (arith, h.0), more)
    by_tests false false more rest = (omega (arith, l), (omega (arith, h.0), more))

pub few_more : (limit : ℕ) (join : ℤ → ℤ → ℤ) (key : ℕ) (value : ℤ) (w : ℕ) (es : List WindowEntry) → 0 < limit → All (λ (e : WindowEntry). e.rows < limit) es
    → All (λ (e : WindowEntry). e.rows < limit + 1) (put_value join key value w es)
few_more limit join key value w es l h =
    All-from_recursion (λ (e : WindowEntry). e.rows < limit + 1) (put_value join key value w es)
    (few_each limit join key value w es l (recursion_from_All (λ (e : WindowEntry). e.rows < limit) es h))

pub few_weaker : (limit more : ℕ) (es : List WindowEntry) → limit ≤ more → All (λ (e : WindowEntry). e.rows < limit) es → All (λ (e : WindowEntry). e.rows < more) es
few_weaker limit more es l h = All-weaker (λ (e : WindowEntry). e.rows < limit) (λ (e : WindowEntry). e.rows < more) (λ e k. omega (arith, k, l)) es h

-- the ends that are left

pub multiples-more : (hop number to : ℕ) → number < to → multiples hop number (to - number) ≡ hop * number ∷ multiples hop (number + 1) (to - (number + 1))
multiples-more hop number to h =
    let count : to - number ≡ suc (to - (number + 1)) = omega (arith, h) in
    ap (multiples hop number) count

pub next_end : (hop number low : ℕ) (to : ℕ) (join : ℤ → ℤ → ℤ) (key : ℕ) (value : ℤ) (es : List WindowEntry) → number < to → low < hop * number
    → put_values join key value (filter (nat_lt low) (multiples hop number (to - number))) es
    ≡ put_values join key value (filter (nat_lt low) (multiples hop (number + 1) (to - (number + 1)))) (put_value join key value (hop * number) es)
next_end hop number low to join key value es h k =
    ap (λ ws. put_values join key value (filter (nat_lt low) ws) es) (multiples-more hop number to h)
    ∙ ap (λ b. put_values join key value (cond b (hop * number ∷ filter (nat_lt low) (multiples hop (number + 1) (to - (number + 1))))
    (filter (nat_lt low) (multiples hop (number + 1) (to - (number + 1))))) es) (lt-ltb low (hop * number) k)

pub skipped_end : (hop number low : ℕ) (to : ℕ) (join : ℤ → ℤ → ℤ) (key : ℕ) (value : ℤ) (es : List WindowEntry) → number < to → hop * number ≤ low
    → put_values join key value (filter (nat_lt low) (multiples hop number (to - number))) es
    ≡ put_values join key value (filter (nat_lt low) (multiples hop (number + 1) (to - (number + 1)))) es
skipped_end hop number low to join key value es h k =
    ap (λ ws. put_values join key value (filter (nat_lt low) ws) es) (multiples-more hop number to h)
    ∙ ap (λ b. put_values join key value (cond b (hop * number ∷ filter (nat_lt low) (multiples hop (number + 1) (to - (number + 1))))
    (filter (nat_lt low) (multiples hop (number + 1) (to - (number + 1))))) es) (le-ltb low (hop * number) k)

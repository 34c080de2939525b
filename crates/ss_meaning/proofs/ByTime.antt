-- What happens at times above one and up to another, in the order of those times.
use Rattle.std.proofs.Common.{◌≡◌, ℕ, suc, ◌<◌, ◌≤◌, ◌==◌, Bool, true, false, cond, ◌⊎◌, inl, inr, ⊎_elim, nat_le, List, [], ◌∷◌, ◌++◌, length, map, filter, refl, sym, ap, ◌∙◌, arith, le-ltb, eq-eqb, eqb-true, append-nil}
use Rattle.std.proofs.lemmas.Bool.{cases_order, ne_eqb, le-leb, lt-leb}
use Rattle.std.specs.List.{AllByRecursion, flat_map}
use Rattle.ss_meaning.specs.ByTime.{put_by_time, by_time}
use Rattle.ss_meaning.specs.Window.{put_once, rising}
use Rattle.ss_meaning.proofs.Each.{each_weaker, each_given, each_passes, each-flat_map}
use Rattle.ss_meaning.proofs.Ends.{In, IsRising, rising-rising, in_rising, in_filter, in_map}
use Rattle.ss_meaning.proofs.EntryEnds.{filter-kept, filter-dropped, put_once-below}
use Rattle.ss_meaning.proofs.GivenRows.{each-rising}

module _ {A : Type 0} (of : A → ℕ) where
  -- the rows that end at a time
  abbrev at : List A → ℕ → List A
  at rows time = filter (λ row. (of row) == time) rows

  at-ends : (rows : List A) (time : ℕ) → AllByRecursion (λ (row : A). (of row) ≡ time) (at rows time)
  at-ends rows time =
      each_weaker (λ (row : A). Unit {0} × (((of row) == time) ≡ true)) (λ row. (of row) ≡ time) (λ row passes. eqb-true (of row) time passes.1) (at rows time)
      (each_passes (λ (row : A). Unit {0}) (λ row. (of row) == time) rows (each_given (λ (row : A). Unit {0}) (λ row. tt) rows))

  all-ends : (rows : List A) (n : ℕ) (times : List ℕ) → AllByRecursion (λ time. n ≤ time) times → AllByRecursion (λ (row : A). n ≤ (of row)) (flat_map (at rows) times)
  all-ends rows n times h =
      each-flat_map (λ time. n ≤ time) (λ (row : A). n ≤ (of row)) (at rows)
      (λ time least. each_weaker (λ (row : A). (of row) ≡ time) (λ row. n ≤ (of row)) (λ row same. omega (arith, same, least)) (at rows time) (at-ends rows time))
      times h

  -- a row before others, and one behind them

  put-first : (row : A) (rows : List A) → AllByRecursion (λ (r : A). (of row) ≤ (of r)) rows → put_by_time of row rows ≡ row ∷ rows
  put-first row [] h = refl
  put-first row (r ∷ rs) h = ap (λ b. cond b (row ∷ r ∷ rs) (r ∷ put_by_time of row rs)) (le-leb (of row) (of r) h.0)

  put-behind : (row : A) (rows more : List A) → AllByRecursion (λ (r : A). (of r) < (of row)) rows → put_by_time of row (rows ++ more) ≡ rows ++ put_by_time of row more
  put-behind row [] more h = refl
  put-behind row (r ∷ rs) more h =
      ap (λ b. cond b (row ∷ r ∷ rs ++ more) (r ∷ put_by_time of row (rs ++ more))) (lt-leb (of row) (of r) h.0)
      ∙ ap (λ (xs : List A). r ∷ xs) (put-behind row rs more h.1)

  -- a row that ends at none of these times makes no difference there
  skip : (row : A) (rows : List A) (times : List ℕ) → AllByRecursion (λ time. (of row) ≡ time → ⊥) times → flat_map (at (row ∷ rows)) times ≡ flat_map (at rows) times
  skip row rows [] h = refl
  skip row rows (time ∷ times) h =
      ap (λ (xs : List A). xs ++ flat_map (at (row ∷ rows)) times) (filter-dropped (λ (r : A). (of r) == time) row rows (ne_eqb (of row) time h.0))
      ∙ ap (λ (xs : List A). at rows time ++ xs) (skip row rows times h.1)

  -- at its own end it stands in front
  in_front : (row : A) (rows : List A) (time : ℕ) → (of row) ≡ time → at (row ∷ rows) time ≡ row ∷ at rows time
  in_front row rows time e = filter-kept (λ (r : A). (of r) == time) row rows (eq-eqb (of row) time e)

  not_among : (n : ℕ) (times : List ℕ) → AllByRecursion (λ time. n < time) times → In times n → ⊥
  not_among n [] h i = i
  not_among n (time ∷ times) h (inl e) = let less = h.0 in omega (arith, e, less)
  not_among n (time ∷ times) h (inr i) = not_among n times h.1 i

  -- one row more
  put_at : (row : A) (rows : List A) (times : List ℕ) → IsRising times → ((In times (of row) → ⊥) → at rows (of row) ≡ [])
      → flat_map (at (row ∷ rows)) (put_once (of row) times) ≡ put_by_time of row (flat_map (at rows) times)
  put_at row rows [] rises none =
      append-nil (at (row ∷ rows) (of row)) ∙ (in_front row rows (of row) refl ∙ ap (λ (xs : List A). row ∷ xs) (none (λ i. i)))
  put_at row rows (time ∷ times) rises none = by_order (cases_order (of row) time) (put_at row rows times rises.1)
    where
      all : List A
      all = flat_map (at rows) (time ∷ times)

      by_order : ((of row) ≡ time) ⊎ (((of row) < time) ⊎ (time < (of row)))
          → (((In times (of row) → ⊥) → at rows (of row) ≡ []) → flat_map (at (row ∷ rows)) (put_once (of row) times) ≡ put_by_time of row (flat_map (at rows) times))
          → flat_map (at (row ∷ rows)) (put_once (of row) (time ∷ times)) ≡ put_by_time of row all
      by_order (inl e) later =
          let above : AllByRecursion (λ t. (of row) < t) times = each_weaker (λ t. time < t) (λ t. (of row) < t) (λ t less. omega (arith, e, less)) times rises.0 in
          let least : AllByRecursion (λ t. (of row) ≤ t) (time ∷ times) = (omega (arith, e), each_weaker (λ t. (of row) < t) (λ t. (of row) ≤ t) (λ t less. omega (arith, less)) times above) in
          ap (λ b. flat_map (at (row ∷ rows)) (cond b ((of row) ∷ time ∷ times) (cond ((of row) == time) (time ∷ times) (time ∷ put_once (of row) times)))) (le-ltb (of row) time (omega (arith, e)))
          ∙ (ap (λ b. flat_map (at (row ∷ rows)) (cond b (time ∷ times) (time ∷ put_once (of row) times))) (eq-eqb (of row) time e)
          ∙ (ap (λ (xs : List A). xs ++ flat_map (at (row ∷ rows)) times) (in_front row rows time e)
          ∙ (ap (λ (xs : List A). row ∷ at rows time ++ xs) (skip row rows times (each_weaker (λ t. (of row) < t) (λ t. (of row) ≡ t → ⊥) (λ t less same. omega (arith, less, same)) times above))
          ∙ sym (put-first row all (all-ends rows (of row) (time ∷ times) least)))))
      by_order (inr (inl less)) later =
          let above : AllByRecursion (λ t. (of row) < t) (time ∷ times) = (less, each_weaker (λ t. time < t) (λ t. (of row) < t) (λ t more. omega (arith, less, more)) times rises.0) in
          ap (flat_map (at (row ∷ rows))) (put_once-below (of row) (time ∷ times) above)
          ∙ (ap (λ (xs : List A). xs ++ flat_map (at (row ∷ rows)) (time ∷ times)) (in_front row rows (of row) refl ∙ ap (λ (xs : List A). row ∷ xs) (none (not_among (of row) (time ∷ times) above)))
          ∙ (ap (λ (xs : List A). row ∷ xs) (skip row rows (time ∷ times) (each_weaker (λ t. (of row) < t) (λ t. (of row) ≡ t → ⊥) (λ t more same. omega (arith, more, same)) (time ∷ times) above))
          ∙ sym (put-first row all (all-ends rows (of row) (time ∷ times) (each_weaker (λ t. (of row) < t) (λ t. (of row) ≤ t) (λ t more. omega (arith, more)) (time ∷ times) above)))))
      by_order (inr (inr more)) later =
          let apart : (of row) ≡ time → ⊥ = λ same. omega (arith, more, same) in
          let none_later : (In times (of row) → ⊥) → at rows (of row) ≡ [] = λ out. none (λ i. ⊎_elim (λ same. apart (sym same)) out i) in
          ap (λ b. flat_map (at (row ∷ rows)) (cond b ((of row) ∷ time ∷ times) (cond ((of row) == time) (time ∷ times) (time ∷ put_once (of row) times)))) (le-ltb (of row) time (omega (arith, more)))
          ∙ (ap (λ b. flat_map (at (row ∷ rows)) (cond b (time ∷ times) (time ∷ put_once (of row) times))) (ne_eqb (of row) time apart)
          ∙ (ap (λ (xs : List A). xs ++ flat_map (at (row ∷ rows)) (put_once (of row) times)) (filter-dropped (λ (r : A). (of r) == time) row rows (ne_eqb (of row) time apart))
          ∙ (ap (λ (xs : List A). at rows time ++ xs) (later none_later)
          ∙ sym (put-behind row (at rows time) (flat_map (at rows) times)
          (each_weaker (λ (r : A). (of r) ≡ time) (λ r. (of r) < (of row)) (λ r same. omega (arith, same, more)) (at rows time) (at-ends rows time))))))

  none_at : (n : ℕ) (rows : List A) → ((row : A) → In rows row → (of row) ≡ n → ⊥) → at rows n ≡ []
  none_at n [] h = refl
  none_at n (row ∷ rows) h =
      filter-dropped (λ (r : A). (of r) == n) row rows (ne_eqb (of row) n (h row (inl refl)))
      ∙ none_at n rows (λ r i. h r (inr i))

  false_true : false ≡ true → ⊥
  false_true h = cc

  -- the rows whose end passes a test, end after end, are those rows in the order of their ends
  pub by_ends : (test : ℕ → Bool) (rows : List A)
      → flat_map (at rows) (rising (filter test (map of rows))) ≡ by_time of (filter (λ (row : A). test (of row)) rows)
  by_ends test [] = refl
  by_ends test (row ∷ rows) = by_test (test (of row)) refl (by_ends test rows)
    where
      ends : List ℕ
      ends = map of rows

      by_test : (b : Bool) → test (of row) ≡ b → flat_map (at rows) (rising (filter test ends)) ≡ by_time of (filter (λ (r : A). test (of r)) rows)
          → flat_map (at (row ∷ rows)) (rising (cond b ((of row) ∷ filter test ends) (filter test ends)))
          ≡ by_time of (cond b (row ∷ filter (λ (r : A). test (of r)) rows) (filter (λ (r : A). test (of r)) rows))
      by_test true e rest =
          put_at row rows (rising (filter test ends)) (rising-rising (filter test ends))
          (λ out. none_at (of row) rows (λ r i same. out (in_rising (filter test ends) (of row) (in_filter test ends (of row) (in_map of rows r (of row) i same) e))))
          ∙ ap (put_by_time of row) rest
      by_test false e rest =
          skip row rows (rising (filter test ends))
          (each-rising (λ time. (of row) ≡ time → ⊥) (filter test ends)
          (each_weaker (λ time. Unit {0} × (test time ≡ true)) (λ time. (of row) ≡ time → ⊥) (λ time passes same. false_true (sym e ∙ (ap test same ∙ passes.1))) (filter test ends)
          (each_passes (λ time. Unit {0}) test ends (each_given (λ (time : ℕ). Unit {0}) (λ time. tt) ends))))
          ∙ rest

  -- and there are as many

  length-put_by_time : (row : A) (rows : List A) → length (put_by_time of row rows) ≡ suc (length rows)
  length-put_by_time row [] = refl
  length-put_by_time row (r ∷ rs) = by_test (nat_le (of row) (of r)) (length-put_by_time row rs)
    where
      by_test : (b : Bool) → length (put_by_time of row rs) ≡ suc (length rs) → length (cond b (row ∷ r ∷ rs) (r ∷ put_by_time of row rs)) ≡ suc (suc (length rs))
      by_test true rest = refl
      by_test false rest = ap suc rest

  pub length-by_time : (rows : List A) → length (by_time of rows) ≡ length rows
  length-by_time [] = refl
  length-by_time (row ∷ rows) = length-put_by_time row (by_time of rows) ∙ ap suc (length-by_time rows)

-- What holds of sessions holds of those that are left of them.
use Rattle.std.proofs.Common.{ℕ, ◌≤◌, Bool, true, false, cond, nat_lt, List, [], ◌∷◌, filter}
use Rattle.std.proofs.lemmas.List.Elements.{All-from_recursion, recursion_from_All}
use Rattle.std.specs.List.{AllByRecursion}
use Rattle.ss_meaning.specs.Session.{SessionEntry, closing}
use Rattle.ss_meaning.specs.SessionLists.{IsApart, AreApart}
use Rattle.ss_session.specs.SessionSteps.{AreOpen, left}

pub each-filter : (P : SessionEntry → Type 0) (test : SessionEntry → Bool) (es : List SessionEntry) → AllByRecursion P es → AllByRecursion P (filter test es)
each-filter P test [] h = tt
each-filter P test (e ∷ es) h = by_test (test e) (each-filter P test es h.1)
  where
    by_test : (b : Bool) → AllByRecursion P (filter test es) → AllByRecursion P (cond b (e ∷ filter test es) (filter test es))
    by_test true rest = (h.0, rest)
    by_test false rest = rest

pub apart-filter : (gap : ℕ) (test : SessionEntry → Bool) (es : List SessionEntry) → AreApart gap es → AreApart gap (filter test es)
apart-filter gap test [] h = tt
apart-filter gap test (e ∷ es) h = by_test (test e) (apart-filter gap test es h.1)
  where
    by_test : (b : Bool) → AreApart gap (filter test es) → AreApart gap (cond b (e ∷ filter test es) (filter test es))
    by_test true rest = (each-filter (IsApart gap e) test es h.0, rest)
    by_test false rest = rest

-- those that a bound leaves open
pub left_open : (gap bound : ℕ) (es : List SessionEntry) → AreOpen gap es → AreOpen gap (left gap bound es)
left_open gap bound es h =
    let test : SessionEntry → Bool = λ s. nat_lt bound (closing gap s) in
    record {
      has_gap = h.has_gap;
      apart = apart-filter gap test es h.apart;
      times = All-from_recursion (λ (s : SessionEntry). s.first ≤ s.last) (filter test es)
          (each-filter (λ (s : SessionEntry). s.first ≤ s.last) test es (recursion_from_All (λ (s : SessionEntry). s.first ≤ s.last) es h.times));
    }

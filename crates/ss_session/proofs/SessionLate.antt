-- What holds of a time before which no session closes.
use Rattle.std.proofs.Common.{◌≡◌, ℕ, ◌<◌, ◌≤◌, Bool, true, false, cond, nat_lt, nat_le, ℤ, List, [], ◌∷◌, refl, sym, ap, subst, ◌++◌, ◌∙◌, arith, lt-ltb}
use Rattle.std.proofs.lemmas.Bool.{cond-true, cond-false, lt-leb}
use Rattle.std.proofs.lemmas.List.Elements.{All-from_recursion, recursion_from_All}
use Rattle.std.proofs.lemmas.List.{append-nil}
use Rattle.std.specs.List.{AllByRecursion}
use Rattle.ss_elem.specs.declared.element.Element.{Element}
use Rattle.ss_meaning.specs.ByTime.{by_time}
use Rattle.ss_meaning.specs.Session.{SessionEntry, closing}
use Rattle.ss_meaning.specs.SessionLists.{is_apart, joined_sessions, put_session}
use Rattle.ss_meaning.specs.SessionLaws.{PutKeepsApart}
use Rattle.ss_session.specs.States.{State, reached}
use Rattle.ss_session.specs.SessionSteps.{NoneCloseBefore, AreHeld, left, rows_of_sessions, given_at}

late-put : (gap : ℕ) (join : ℤ → ℤ → ℤ) (time : ℕ) (s : SessionEntry) (es : List SessionEntry) → time ≤ closing gap s
    → AllByRecursion (λ (e : SessionEntry). time ≤ closing gap e) es → AllByRecursion (λ (e : SessionEntry). time ≤ closing gap e) (put_session gap join s es)
late-put gap join time s [] a h = (a, tt)
late-put gap join time s (e ∷ es) a h =
    by_tests (is_apart gap e s) (is_apart gap s e) (late-put gap join time s es a h.1)
    (late-put gap join time (joined_sessions join e s) es (let b = h.0 in omega (arith, a, b)) h.1)
  where
    by_tests : (p q : Bool) → AllByRecursion (λ (x : SessionEntry). time ≤ closing gap x) (put_session gap join s es)
        → AllByRecursion (λ (x : SessionEntry). time ≤ closing gap x) (put_session gap join (joined_sessions join e s) es)
        → AllByRecursion (λ (x : SessionEntry). time ≤ closing gap x) (cond p (e ∷ put_session gap join s es) (cond q (s ∷ e ∷ es) (put_session gap join (joined_sessions join e s) es)))
    by_tests true q rest more = (h.0, rest)
    by_tests false true rest more = (a, h)
    by_tests false false rest more = more

sooner : (gap time other : ℕ) (es : List SessionEntry) → other ≤ time → AllByRecursion (λ (e : SessionEntry). time ≤ closing gap e) es
    → AllByRecursion (λ (e : SessionEntry). other ≤ closing gap e) es
sooner gap time other [] le h = tt
sooner gap time other (e ∷ es) le h = (omega (arith, le, h.0), sooner gap time other es le h.1)

-- with one more session
pub put_late : (gap : ℕ) (join : ℤ → ℤ → ℤ) (before after : ℕ) (s : SessionEntry) (es : List SessionEntry) → after ≤ before → after ≤ closing gap s
    → NoneCloseBefore gap before es → NoneCloseBefore gap after (put_session gap join s es)
put_late gap join before after s es le a h =
    All-from_recursion (λ (e : SessionEntry). after ≤ closing gap e) (put_session gap join s es)
    (late-put gap join after s es a (sooner gap before after es le (recursion_from_All (λ (e : SessionEntry). before ≤ closing gap e) es h)))

pub put_held : PutKeepsApart → (gap : ℕ) (join : ℤ → ℤ → ℤ) (before after : ℕ) (s : SessionEntry) (es fs : List SessionEntry) → s.first ≤ s.last → after ≤ before
    → after ≤ closing gap s → AreHeld gap before es → fs ≡ put_session gap join s es → AreHeld gap after fs
put_held puts gap join before after s es fs times le a h is =
    let kept = puts gap join s es h.opened.has_gap.least times h.opened.times h.opened.apart in
    subst (AreHeld gap after) (sym is) (record {
      opened = record { has_gap = h.opened.has_gap; apart = kept.0; times = kept.1 };
      late = put_late gap join before after s es le a h.late;
    })

-- at a bound below it nothing closes

none : (gap time bound : ℕ) (es : List SessionEntry) → bound < time → AllByRecursion (λ (e : SessionEntry). time ≤ closing gap e) es
    → (reached gap bound es ≡ []) × (left gap bound es ≡ es)
none gap time bound [] less h = (refl, refl)
none gap time bound (e ∷ es) less h =
    let rest = none gap time bound es less h.1 in
    let above : bound < closing gap e = (let late = h.0 in omega (arith, late, less)) in (
      cond-false (nat_le (closing gap e) bound) (e ∷ reached gap bound es) (reached gap bound es) (lt-leb (closing gap e) bound above) ∙ rest.0,
      cond-true (nat_lt bound (closing gap e)) (e ∷ left gap bound es) (left gap bound es) (lt-ltb bound (closing gap e) above) ∙ ap (λ (l : List SessionEntry). e ∷ l) rest.1,
    )

pub none_reached : (gap time bound : ℕ) (es : List SessionEntry) → bound < time → NoneCloseBefore gap time es → reached gap bound es ≡ []
none_reached gap time bound es less h = (none gap time bound es less (recursion_from_All (λ (e : SessionEntry). time ≤ closing gap e) es h)).0

pub all_left : (gap time bound : ℕ) (es : List SessionEntry) → bound < time → NoneCloseBefore gap time es → left gap bound es ≡ es
all_left gap time bound es less h = (none gap time bound es less (recursion_from_All (λ (e : SessionEntry). time ≤ closing gap e) es h)).1

-- so that nothing is given there
pub none_given : (time bound : ℕ) (s : State) (xs : List Element) → bound < time → NoneCloseBefore s.settings.gap time s.entries → xs ≡ xs ++ given_at bound s
none_given time bound s xs less h =
    sym (ap (λ (l : List SessionEntry). xs ++ rows_of_sessions s.settings.gap (by_time (closing s.settings.gap) l)) (none_reached s.settings.gap time bound s.entries less h) ∙ append-nil xs)

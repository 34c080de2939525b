-- Entries in order are appended one behind another.
use Rattle.std.proofs.Common.{◌≡◌, ℕ, zero, suc, ◌<◌, true, List, [], ◌∷◌, ◌++◌, length, take, get_or, subst, arith}
use Rattle.std.specs.List.{AllByRecursion}
use Rattle.ss_meaning.specs.Entries.{WindowEntry}
use Rattle.ss_meaning.specs.EntryLists.{AreInOrder, IsBehind, is_before}
use Rattle.ss_window.proofs.EntryReads.{behind}
use Rattle.ss_window.proofs.ReadAgain.{follows_behind}

each_at : (P : WindowEntry → Type 0) (xs : List WindowEntry) (i : ℕ) (d : WindowEntry) → AllByRecursion P xs → i < length xs → P (get_or xs i d)
each_at P [] i d h l = absurd (omega (arith, l))
each_at P (x ∷ xs) zero d h l = h.0
each_at P (x ∷ xs) (suc i) d h l = each_at P xs i d h.1 (omega (arith, l))

-- what stands before the place of a list in order stands before its entry
pub all_before : (all : List WindowEntry) (i : ℕ) (e : WindowEntry) → AreInOrder all → i < length all → get_or all i e ≡ e
    → AllByRecursion (λ (f : WindowEntry). is_before e.end e.key f ≡ true) (take i all)
all_before [] zero e h l at = tt
all_before [] (suc i) e h l at = tt
all_before (x ∷ xs) zero e h l at = tt
all_before (x ∷ xs) (suc i) e h l at = (
  follows_behind x e (subst (IsBehind x.end x.key) at (each_at (IsBehind x.end x.key) xs i e h.0 (omega (arith, l)))),
  all_before xs i e h.1 (omega (arith, l)) at,
)

all_pushed : (P : WindowEntry → Type 0) (es : List WindowEntry) (e : WindowEntry) → AllByRecursion P es → P e → AllByRecursion P (es ++ e ∷ [])
all_pushed P [] e h k = (k, tt)
all_pushed P (x ∷ xs) e h k = (h.0, all_pushed P xs e h.1 k)

-- an entry behind all others leaves them in order
pub pushed_order : (es : List WindowEntry) (e : WindowEntry) → AreInOrder es → AllByRecursion (λ (f : WindowEntry). is_before e.end e.key f ≡ true) es
    → AreInOrder (es ++ e ∷ [])
pushed_order [] e h k = (tt, tt)
pushed_order (x ∷ xs) e h k = (all_pushed (IsBehind x.end x.key) xs e h.0 (behind x e k.0), pushed_order xs e h.1 k.1)

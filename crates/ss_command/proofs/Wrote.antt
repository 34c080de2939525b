-- How puts end that are made one after the other.
use Rattle.std.proofs.Common.{◌≡◌, ℕ, ◌+◌, ◌<◌, List, [], ◌∷◌, ◌++◌, length, take, drop, get_or, Result, Ok, Err, refl, sym, ap, ◌∙◌, subst, append_assoc}
use Rattle.std.proofs.lemmas.List.{take_more, take-append-drop, map-append}
use Rattle.ss_elem.specs.declared.element.Element.{Element}
use Rattle.ss_elem.specs.Line.{line_of}
use Rattle.ss_outside.specs.Told.{OutputsTold, Puts}
use Rattle.ss_outside.specs.declared.outputs.PutFault.{PutFault}
use Rattle.ss_outside.specs.declared.outputs.PutFault.TheVariants.{Failed, Memory}
use Rattle.ss_command.specs.Puts.{Put, put_of, first_of, lines_to, Went, WentWhole, PutFailed, StoppedBetween, Wrote}
use Rattle.ss_command.proofs.Puts.{rose-earlier, Went-nil, Went-one, Went-append, WentWhole-one, WentWhole-append}

-- ---- behind puts that stand, and before others that were to follow

pub failed-behind : (a b c : OutputsTold) (p q : List Put) → WentWhole a b p → PutFailed b c q → PutFailed a c (p ++ q)
failed-behind a b c p q h k = record {
  before = p ++ k.before;
  failed = k.failed;
  after = k.after;
  split = ap (λ (puts : List Put). p ++ puts) k.split ∙ sym (append_assoc p k.before (k.failed ∷ k.after));
  kept = k.kept;
  went = subst (Went a c) (sym (append_assoc p k.before (first_of k.kept k.failed ∷ [])))
      (Went-append a b c p (k.before ++ first_of k.kept k.failed ∷ []) h.went k.went);
  rose = rose-earlier a.faults b.faults c.faults h.went.faults k.rose;
}

pub failed-longer : (a b : OutputsTold) (p q : List Put) → PutFailed a b p → PutFailed a b (p ++ q)
failed-longer a b p q k = record {
  before = k.before;
  failed = k.failed;
  after = k.after ++ q;
  split = ap (λ (puts : List Put). puts ++ q) k.split ∙ append_assoc k.before (k.failed ∷ k.after) q;
  kept = k.kept;
  went = k.went;
  rose = k.rose;
}

pub between-behind : (a b c : OutputsTold) (p q : List Put) → WentWhole a b p → StoppedBetween b c q → StoppedBetween a c (p ++ q)
between-behind a b c p q h k = record {
  before = p ++ k.before;
  after = k.after;
  split = ap (λ (puts : List Put). p ++ puts) k.split ∙ sym (append_assoc p k.before k.after);
  went = Went-append a b c p k.before h.went k.went;
}

pub between-longer : (a b : OutputsTold) (p q : List Put) → StoppedBetween a b p → StoppedBetween a b (p ++ q)
between-longer a b p q k = record {
  before = k.before;
  after = k.after ++ q;
  split = ap (λ (puts : List Put). puts ++ q) k.split ∙ append_assoc k.before k.after q;
  went = k.went;
}

-- the end of puts that stand behind others
pub wrote-behind : (a b c : OutputsTold) (p q : List Put) (r : Result (Unit {0}) PutFault) → WentWhole a b p → Wrote b c q r → Wrote a c (p ++ q) r
wrote-behind a b c p q (Ok x) h w = WentWhole-append a b c p q h w
wrote-behind a b c p q (Err Failed) h w = failed-behind a b c p q h w
wrote-behind a b c p q (Err Memory) h w = between-behind a b c p q h w

-- puts that stopped at a fault, where others were to follow
pub wrote-stopped : (a b : OutputsTold) (p q : List Put) (fault : PutFault) → Wrote a b p (Err fault) → Wrote a b (p ++ q) (Err fault)
wrote-stopped a b p q Failed w = failed-longer a b p q w
wrote-stopped a b p q Memory w = between-longer a b p q w

-- puts that stopped at a fault, between those that stand and those that were to follow
pub wrote-between : (a b c : OutputsTold) (p q whole rest : List Put) (fault : PutFault) → whole ≡ (p ++ q) ++ rest → WentWhole a b p →
    Wrote b c q (Err fault) → Wrote a c whole (Err fault)
wrote-between a b c p q whole rest fault split h w =
    subst (λ (puts : List Put). Wrote a c puts (Err fault)) (sym split)
    (wrote-stopped a c (p ++ q) rest fault (wrote-behind a b c p q (Err fault) h w))

-- ---- one put

pub wrote-one : (a b : OutputsTold) (name x : List ℕ) (r : Result (Unit {0}) PutFault) → Puts a b name x r → Wrote a b (put_of name x ∷ []) r
wrote-one a b name x (Ok y) (appended, named) = WentWhole-one a b name x appended named
wrote-one a b name x (Err Failed) (n, appended, rose) = record {
  before = [];
  failed = put_of name x;
  after = [];
  split = refl;
  kept = n;
  went = Went-one a b name (take n x) appended;
  rose = rose;
}
wrote-one a b name x (Err Memory) kept =
    record { before = []; after = put_of name x ∷ []; split = refl; went = Went-nil a b kept.bytes kept.put_to kept.faults }

-- nothing was put yet
pub wrote-nothing : (a : OutputsTold) (puts : List Put) → Went a a [] → Wrote a a puts (Err Memory)
wrote-nothing a puts none = record { before = []; after = puts; split = refl; went = none }

-- ---- the lines of a list

pub lines_to-more : (file : List ℕ) (xs : List Element) (i : ℕ) (x : Element) → i < length xs → x ≡ get_or xs i x →
    lines_to file (take (i + 1) xs) ≡ lines_to file (take i xs) ++ put_of file (line_of x) ∷ []
lines_to-more file xs i x inside item =
    ap (lines_to file) (take_more xs i x inside) ∙ map-append (λ (e : Element). put_of file (line_of e)) (take i xs) (get_or xs i x ∷ [])
    ∙ ap (λ (e : Element). lines_to file (take i xs) ++ put_of file (line_of e) ∷ []) (sym item)

pub lines_to-split : (file : List ℕ) (xs : List Element) (i : ℕ) (x : Element) → i < length xs → x ≡ get_or xs i x →
    lines_to file xs ≡ (lines_to file (take i xs) ++ put_of file (line_of x) ∷ []) ++ lines_to file (drop (i + 1) xs)
lines_to-split file xs i x inside item =
    ap (lines_to file) (sym (take-append-drop (i + 1) xs)) ∙ map-append (λ (e : Element). put_of file (line_of e)) (take (i + 1) xs) (drop (i + 1) xs)
    ∙ ap (λ (p : List Put). p ++ lines_to file (drop (i + 1) xs)) (lines_to-more file xs i x inside item)

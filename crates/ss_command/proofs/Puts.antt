-- What several puts come to.
use Rattle.std.proofs.Common.{◌≡◌, ℕ, ◌≤◌, Bool, true, false, List, [], ◌∷◌, ◌++◌, Option, Some, None, if◌then◌else◌}
use Rattle.std.proofs.Common.{refl, sym, ap, ◌∙◌, append_assoc, arith, ◌||◌}
use Rattle.std.specs.Option.{option_map}
use Rattle.std.specs.Str.{bytes_eq}
use Rattle.std.proofs.lemmas.List.{append-nil}
use Rattle.std.proofs.lemmas.List.Folds.{list_any-append}
use Rattle.std.proofs.lemmas.Slice.Eq.{bytes_eq-Decides}
use Rattle.ss_outside.specs.Faults.{Rose}
use Rattle.ss_outside.specs.Told.{OutputsTold, Appends}
use Rattle.ss_command.specs.Puts.{Put, put_of, bytes_to, is_put_to, Went, WentWhole}

abbrev pub behind : List ℕ → Option (List ℕ) → Option (List ℕ)
behind more held = option_map (λ bytes. bytes ++ more) held

pub behind-nil : (held : Option (List ℕ)) → behind [] held ≡ held
behind-nil None = refl
behind-nil (Some bytes) = ap (λ (b : List ℕ). Some b) (append-nil bytes)

pub behind-behind : (x y : List ℕ) (held : Option (List ℕ)) → behind y (behind x held) ≡ behind (x ++ y) held
behind-behind x y None = refl
behind-behind x y (Some bytes) = ap (λ (b : List ℕ). Some b) (append_assoc bytes x y)

-- ---- counts

pub rose-later : (m n k : ℕ) → Rose m n → n ≤ k → Rose m k
rose-later m n k rose h = let r = rose in omega (arith, r, h)

pub rose-earlier : (m n k : ℕ) → m ≤ n → Rose n k → Rose m k
rose-earlier m n k h rose = let r = rose in omega (arith, r)

-- ---- no put, and one

pub Went-nil : (a b : OutputsTold) → b.bytes ≡ a.bytes → b.put_to ≡ a.put_to → a.faults ≤ b.faults → Went a b []
Went-nil a b h k faults = record {
  behind = λ name. ap (λ (bytes : List ℕ → Option (List ℕ)). bytes name) h ∙ sym (behind-nil (a.bytes name));
  others = λ name none. ap (λ (put_to : List ℕ → Bool). put_to name) k;
  faults = faults;
}

pub Went-same : (a : OutputsTold) → Went a a []
Went-same a = Went-nil a a refl refl (omega arith)

pub chosen-is : (b : Bool) (x : List ℕ) (o : Option (List ℕ)) → (if b then behind x o else o) ≡ behind ((if b then x else []) ++ []) o
chosen-is true x o = ap (λ (m : List ℕ). behind m o) (sym (append-nil x))
chosen-is false x o = sym (behind-nil o)

pub or_false : (b c : Bool) → b ≡ c → (b || false) ≡ c
or_false true c h = h
or_false false c h = h

pub Went-one : (a b : OutputsTold) (name x : List ℕ) → Appends a b name x → Went a b (put_of name x ∷ [])
Went-one a b name x h = record {
  behind = λ other. h.bytes other ∙ chosen-is (bytes_eq other name) x (a.bytes other);
  others = λ other none. h.others other (sym (or_false (bytes_eq other name) (bytes_eq other name) refl) ∙ none);
  faults = h.faults;
}

pub same_name : (x y : List ℕ) → bytes_eq x y ≡ true → x ≡ y
same_name x y h = (bytes_eq-Decides x y).0 h

pub WentWhole-one : (a b : OutputsTold) (name x : List ℕ) → Appends a b name x → b.put_to name ≡ true →
    WentWhole a b (put_of name x ∷ [])
WentWhole-one a b name x h here = record {
  went = Went-one a b name x h;
  named = λ other is.
      let same : other ≡ name = same_name other name (sym (or_false (bytes_eq other name) (bytes_eq other name) refl) ∙ is) in
      ap b.put_to same ∙ here;
}

-- ---- puts behind others

pub bytes_to-append : (name : List ℕ) (p q : List Put) → bytes_to name (p ++ q) ≡ bytes_to name p ++ bytes_to name q
bytes_to-append name [] q = refl
bytes_to-append name (put ∷ p) q =
    ap (λ (m : List ℕ). (if bytes_eq name put.name then put.bytes else []) ++ m) (bytes_to-append name p q)
    ∙ sym (append_assoc (if bytes_eq name put.name then put.bytes else []) (bytes_to name p) (bytes_to name q))

pub first_false : (b c : Bool) → (b || c) ≡ false → b ≡ false
first_false true c h = h
first_false false c h = refl

pub second_false : (b c : Bool) → (b || c) ≡ false → c ≡ false
second_false true c h = absurd (cc h)
second_false false c h = h

pub is_put_to-append : (name : List ℕ) (p q : List Put) → is_put_to name (p ++ q) ≡ (is_put_to name p || is_put_to name q)
is_put_to-append name p q = list_any-append (λ (put : Put). bytes_eq name put.name) p q

-- a name that none of all puts is to, none of the first and none of the others is to
pub not_in_first : (name : List ℕ) (p q : List Put) → is_put_to name (p ++ q) ≡ false → is_put_to name p ≡ false
not_in_first name p q h = first_false (is_put_to name p) (is_put_to name q) (sym (is_put_to-append name p q) ∙ h)

pub not_in_others : (name : List ℕ) (p q : List Put) → is_put_to name (p ++ q) ≡ false → is_put_to name q ≡ false
not_in_others name p q h = second_false (is_put_to name p) (is_put_to name q) (sym (is_put_to-append name p q) ∙ h)

pub Went-append : (a b c : OutputsTold) (p q : List Put) → Went a b p → Went b c q → Went a c (p ++ q)
Went-append a b c p q h k = record {
  behind = λ name. k.behind name ∙ ap (behind (bytes_to name q)) (h.behind name) ∙ behind-behind (bytes_to name p) (bytes_to name q) (a.bytes name)
      ∙ ap (λ (m : List ℕ). behind m (a.bytes name)) (sym (bytes_to-append name p q));
  others = λ name none. k.others name (not_in_others name p q none) ∙ h.others name (not_in_first name p q none);
  faults = omega (arith, h.faults, k.faults);
}

pub named-append : (b c : OutputsTold) (name : List ℕ) (in_first in_others : Bool) → (in_first ≡ true → b.put_to name ≡ true) →
    (in_others ≡ true → c.put_to name ≡ true) → (in_others ≡ false → c.put_to name ≡ b.put_to name) → (in_first || in_others) ≡ true →
    c.put_to name ≡ true
named-append b c name in_first true first others stays h = others refl
named-append b c name true false first others stays h = stays refl ∙ first refl
named-append b c name false false first others stays h = absurd (cc h)

pub WentWhole-append : (a b c : OutputsTold) (p q : List Put) → WentWhole a b p → WentWhole b c q → WentWhole a c (p ++ q)
WentWhole-append a b c p q h k = record {
  went = Went-append a b c p q h.went k.went;
  named = λ name is. named-append b c name (is_put_to name p) (is_put_to name q) (h.named name) (k.named name) (k.went.others name)
      (sym (is_put_to-append name p q) ∙ is);
}

pub WentWhole-nil : (a : OutputsTold) → WentWhole a a []
WentWhole-nil a = record { went = Went-same a; named = λ name is. absurd (cc is) }

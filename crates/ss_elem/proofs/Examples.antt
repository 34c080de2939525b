-- The definitions at a few values.
use Rattle.std.proofs.Common.{◌≡◌, ℕ, ℤ, ◌*◌, ◌^◌, [], ◌∷◌, Some, None, pos, negsuc, codes, refl}
use Rattle.ss_elem.specs.declared.element.Element.{Element}
use Rattle.ss_elem.specs.declared.element.Element.TheVariants.{Row, Cti, End}
use Rattle.ss_elem.specs.Key.{key_number, key_of, key_text}
use Rattle.std.specs.Fmt.{digits}
use Rattle.ss_elem.specs.Line.{line_of}
use Rattle.ss_elem.specs.Validity.{bound_of, top}

-- the first of sixteen places weighs 256 ^ 15
pub key_number-k : key_number (codes "k") ≡ 0x6B * 256 ^ 15
key_number-k = refl

pub key_text-k : key_text (0x6B * 256 ^ 15) ≡ codes "k"
key_text-k = refl

pub key_of-comma : key_of (codes "a,b") ≡ None
key_of-comma = refl

abbrev pub event : ℤ → ℤ → ℤ → ℤ → Element
event a b c d = Row (record { start = 5; end = 9; key = key_number (codes "k"); a = a; b = b; c = c; d = d })

pub line_of-two_values : line_of (event (pos 3) (negsuc 0) (pos 0) (pos 0)) ≡ codes "event,5,9,k,3,-1\n"
unfolding digits
line_of-two_values = refl

pub line_of-third_value : line_of (event (pos 3) (pos 0) (pos 7) (pos 0)) ≡ codes "event,5,9,k,3,0,7,0\n"
unfolding digits
line_of-third_value = refl

-- the third value stands in the line although it is 0
pub line_of-fourth_value : line_of (event (pos 3) (pos 0) (pos 0) (negsuc 6)) ≡ codes "event,5,9,k,3,0,0,-7\n"
unfolding digits
line_of-fourth_value = refl

abbrev pub row : ℕ → ℕ → Element
row start end = Row (record { start = start; end = end; key = key_number (codes "k"); a = pos 3; b = negsuc 0; c = pos 0; d = pos 0 })

pub bound_of-whole : bound_of (row 5 9 ∷ Cti 10 ∷ row 10 11 ∷ End ∷ []) ≡ Some top
bound_of-whole = refl

pub bound_of-unfinished : bound_of (row 5 9 ∷ Cti 10 ∷ []) ≡ Some 10
bound_of-unfinished = refl

-- a row below the last Cti
pub bound_of-early : bound_of (Cti 10 ∷ row 9 12 ∷ []) ≡ None
bound_of-early = refl

-- a Cti at the last Cti's time
pub bound_of-equal : bound_of (Cti 10 ∷ Cti 10 ∷ []) ≡ None
bound_of-equal = refl

pub bound_of-after_end : bound_of (End ∷ End ∷ []) ≡ None
bound_of-after_end = refl

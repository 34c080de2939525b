-- What holds of the images of operators.
use Rattle.std.specs.Prelude.{◌≡◌, ◌+◌, ◌^◌, ◌<◌, ◌≤◌, List, ◌++◌, length, All, Ok}
use Rattle.ss_elem.specs.Rows.{IsKept}
use Rattle.ss_elem.specs.Validity.{Whole}
use Rattle.ss_elem.specs.declared.element.Element.{Element}
use Rattle.ss_expr.specs.Operators.{operator_of, IsComputable}
use Rattle.ss_expr.specs.declared.stream_operator.Spec.{Spec}
use Rattle.ss_image.specs.Images.{image_of}
use Rattle.ss_meaning.specs.Entries.{entries_after, entry_count}
use Rattle.ss_meaning.specs.Jobs.{IsBefore, Takes}
use Rattle.ss_meaning.specs.Inputs.{bounds}
use Rattle.ss_meaning.specs.Merge.{Arrival, merge}
use Rattle.ss_oper.specs.Standing.{remembered}

-- an element of the program's type, with room for the ends of its windows below 2^63
pub record MayArriveAt (x : Arrival) : Type 0 where
  pub kept : IsKept x.element
  pub early : IsBefore (2 ^ 62 + 2 ^ 52) x.element

-- what an operator remembers after the first elements of a merge is read again from its image
abbrev pub ImagesAreReadAgain : Type 0
ImagesAreReadAgain =
    (s : Spec) (lists : List (List Element)) (p rest : List Arrival) → IsComputable s
    → Takes (operator_of s) (length lists) → All Whole lists → merge lists ≡ p ++ rest
    → All MayArriveAt p → length p ≤ 2 ^ 62 → entry_count (entries_after (operator_of s) (length lists) p) < 2 ^ 32
    → remembered s (bounds (length lists) p) (image_of (entries_after (operator_of s) (length lists) p))
    ≡ Ok (entries_after (operator_of s) (length lists) p)

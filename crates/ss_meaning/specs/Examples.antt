-- Worked examples: small jobs with the streams that they mean, each written out by hand.
use Rattle.std.specs.Prelude.{◌≡◌, ℕ, ◌+◌, ◌-◌, ◌^◌, true, ℤ, pos, neg_ℤ, ◌-ℤ◌, List, [], ◌∷◌, codes}
use Rattle.ss_elem.specs.Key.{key_number}
use Rattle.ss_elem.specs.declared.element.Element.{Element}
use Rattle.ss_elem.specs.declared.element.Element.TheVariants.{Row, Cti, End}
use Rattle.ss_meaning.specs.Merge.{Arrival, merge}
use Rattle.ss_meaning.specs.Window.{total, least}
use Rattle.ss_meaning.specs.Emit.{Kind, Select, Union, Hopping, Join}
use Rattle.ss_meaning.specs.Meaning.{Vertex, Source, Inner, Sink, meaning}
use Rattle.ss_meaning.specs.Jobs.{IsJob}

-- a key
abbrev pub k : ℕ
k = key_number (codes "k")

-- a key above k
abbrev pub p : ℕ
p = key_number (codes "p")

-- a key above p
abbrev pub q : ℕ
q = key_number (codes "q")

-- a row of a stream
abbrev pub of_four : ℕ → ℕ → ℕ → ℤ → ℤ → ℤ → ℤ → Element
of_four start end key a b c d = Row (record { start = start; end = end; key = key; a = a; b = b; c = c; d = d })

-- one whose third and fourth value are 0
abbrev pub valued : ℕ → ℕ → ℕ → ℤ → ℤ → Element
valued start end key a b = of_four start end key a b (pos 0) (pos 0)

-- the same with values that are not negative
abbrev pub row : ℕ → ℕ → ℕ → ℕ → ℕ → Element
row start end key a b = valued start end key (pos a) (pos b)

-- a source and an operator that reads it
abbrev pub over : Kind → List Element → List Vertex
over kind list = Source list ∷ Inner kind (0 ∷ []) ∷ []

-- two sources and an operator that reads both
abbrev pub over_two : Kind → List Element → List Element → List Vertex
over_two kind left right = Source left ∷ Source right ∷ Inner kind (0 ∷ 1 ∷ []) ∷ []

-- a source and an operator that reads it twice
abbrev pub over_itself : Kind → List Element → List Vertex
over_itself kind list = Source list ∷ Inner kind (0 ∷ 0 ∷ []) ∷ []

-- a window that sums the first value
abbrev pub sums : ℕ → ℕ → Kind
sums size hop = Hopping (record { size = size; hop = hop; aggregate = total; field = λ row. row.a })

-- a select that exchanges the first two values
abbrev pub swapped : Kind
swapped =
    Select (record { test = λ row. true; a = λ row. row.b; b = λ row. row.a; c = λ row. row.c; d = λ row. row.d })

-- a select that moves the third value to the first place, clears the third, and computes the fourth
abbrev pub moved : Kind
moved =
    Select
    (record { test = λ row. true; a = λ row. row.c; b = λ row. row.b; c = λ row. pos 0; d = λ row. row.a -ℤ row.c })

-- the greatest value of a row
abbrev pub most : ℕ
most = 2 ^ 63 - 1

-- a row belongs to each window whose span it starts in, and the windows that no Cti closes are given at End
abbrev pub WindowsOverlap : Type 0
WindowsOverlap =
    meaning (over (sums 20 10) (row 5 9 k 3 0 ∷ row 12 13 k 4 0 ∷ Cti 20 ∷ End ∷ [])) 1
    ≡ row 10 20 k 3 1 ∷ row 20 30 k 7 2 ∷ Cti 20 ∷ row 30 40 k 4 1 ∷ End ∷ []

-- a row that starts where a window ends belongs to the next one, and its latest window ends at start + size
abbrev pub RowWhereAWindowEnds : Type 0
RowWhereAWindowEnds =
    meaning (over (sums 10 10) (row 5 6 k 3 0 ∷ row 10 11 k 4 0 ∷ End ∷ [])) 1
    ≡ row 10 20 k 3 1 ∷ row 20 30 k 4 1 ∷ End ∷ []

-- no time between two rows is walked, however far apart they lie
abbrev pub WindowsFarApart : Type 0
WindowsFarApart =
    meaning (over (sums 1 1) (row 1 2 k 5 0 ∷ Cti (2 ^ 61) ∷ row (2 ^ 61) (2 ^ 61 + 1) k 6 0 ∷ End ∷ [])) 1
    ≡ row 2 3 k 5 1 ∷ Cti (2 ^ 61) ∷ row (2 ^ 61 + 1) (2 ^ 61 + 2) k 6 1 ∷ End ∷ []

-- the windows next to the latest time that a source may have
abbrev pub WindowsAtTheLatestTimes : Type 0
WindowsAtTheLatestTimes =
    meaning (over (sums 1 1) (row (2 ^ 62 - 2) (2 ^ 62 - 1) k 5 0 ∷ Cti (2 ^ 62 - 1) ∷ End ∷ [])) 1
    ≡ row (2 ^ 62 - 1) (2 ^ 62) k 5 1 ∷ Cti (2 ^ 62 - 1) ∷ End ∷ []

-- the keys of one window stand in their order, whatever the order of the rows
abbrev pub KeysInOrder : Type 0
KeysInOrder =
    meaning (over (sums 10 10) (row 1 2 q 1 0 ∷ row 2 3 p 2 0 ∷ row 3 4 q 4 0 ∷ End ∷ [])) 1
    ≡ row 10 20 p 2 1 ∷ row 10 20 q 5 2 ∷ End ∷ []

-- a sum above the greatest value becomes the greatest value
abbrev pub SumTooGreat : Type 0
SumTooGreat =
    meaning (over (sums 10 10) (row 1 2 k most 0 ∷ row 2 3 k most 0 ∷ End ∷ [])) 1
    ≡ row 10 20 k most 2 ∷ End ∷ []

-- a sum that leaves the range of values on the way and comes back into it is exact: clamped at each step it would be 0
abbrev pub SumComesBack : Type 0
SumComesBack =
    meaning
    (over (sums 10 10) (row 1 2 k most 0 ∷ row 2 3 k 7 0 ∷ valued 3 4 k (neg_ℤ (pos most)) (pos 0) ∷ End ∷ []))
    1
    ≡ row 10 20 k 7 3 ∷ End ∷ []

-- the least of the second value, in three overlapping windows
abbrev pub LeastOfB : Type 0
LeastOfB =
    meaning
    (over (Hopping (record { size = 30; hop = 10; aggregate = least; field = λ row. row.b }))
    (row 1 2 k 0 5 ∷ valued 2 3 k (pos 0) (neg_ℤ (pos 3)) ∷ End ∷ []))
    1
    ≡ valued 10 20 k (neg_ℤ (pos 3)) (pos 2) ∷ valued 20 30 k (neg_ℤ (pos 3)) (pos 2)
    ∷ valued 30 40 k (neg_ℤ (pos 3)) (pos 2) ∷ End ∷ []

-- the sum of the fourth value: a window's own rows have two values
abbrev pub SumOfD : Type 0
SumOfD =
    meaning
    (over (Hopping (record { size = 10; hop = 10; aggregate = total; field = λ row. row.d }))
    (of_four 1 2 k (pos 1) (pos 2) (pos 3) (pos 4) ∷ of_four 2 3 k (pos 5) (pos 6) (pos 7) (neg_ℤ (pos 9)) ∷ End ∷ []))
    1
    ≡ valued 10 20 k (neg_ℤ (pos 5)) (pos 2) ∷ End ∷ []

-- a row joins each earlier row of the other input that it overlaps, also one whose own input is far ahead
abbrev pub RowsJoinWhereTheyOverlap : Type 0
RowsJoinWhereTheyOverlap =
    meaning
    (over_two Join (row 1 10 k 1 0 ∷ Cti 20 ∷ End ∷ [])
    (row 5 7 k 2 0 ∷ Cti 6 ∷ row 9 12 k 3 0 ∷ End ∷ []))
    2
    ≡ row 5 7 k 1 2 ∷ Cti 6 ∷ row 9 10 k 1 3 ∷ Cti 20 ∷ End ∷ []

-- spans of which one ends where the other begins have no time in common
abbrev pub SpansThatTouchDoNotJoin : Type 0
SpansThatTouchDoNotJoin =
    meaning
    (over_two Join (row 1 5 k 1 0 ∷ Cti 5 ∷ End ∷ [])
    (row 5 9 k 2 0 ∷ Cti 5 ∷ End ∷ []))
    2
    ≡ Cti 5 ∷ End ∷ []

-- a stream that is both inputs of a join: each pair of rows comes once from either side, and each row joins itself
abbrev pub JoinWithItself : Type 0
JoinWithItself =
    meaning (over_itself Join (row 1 4 k 1 0 ∷ row 2 6 k 2 0 ∷ End ∷ [])) 1
    ≡ row 1 4 k 1 1 ∷ row 2 4 k 2 1 ∷ row 2 4 k 1 2 ∷ row 2 6 k 2 2 ∷ End ∷ []

-- of each side a join gives the first and the third value, the left one's before the right one's
abbrev pub JoinGivesOfEachSide : Type 0
JoinGivesOfEachSide =
    meaning
    (over_two Join (of_four 1 4 k (pos 1) (pos 2) (pos 3) (pos 4) ∷ End ∷ [])
    (of_four 2 6 k (pos 5) (pos 6) (pos 7) (pos 8) ∷ End ∷ []))
    2
    ≡ of_four 2 4 k (pos 1) (pos 5) (pos 3) (pos 7) ∷ End ∷ []

-- all four new values are computed from the old ones
abbrev pub ValuesMove : Type 0
ValuesMove =
    meaning (over moved (of_four 5 9 k (pos 3) (pos 0) (pos 7) (pos 0) ∷ End ∷ [])) 1
    ≡ of_four 5 9 k (pos 7) (pos 0) (pos 0) (neg_ℤ (pos 4)) ∷ End ∷ []

-- both new values are computed from the old ones
abbrev pub ValuesSwap : Type 0
ValuesSwap =
    meaning (over swapped (row 5 9 k 3 4 ∷ End ∷ [])) 1
    ≡ row 5 9 k 4 3 ∷ End ∷ []

-- at equal bounds the whole segment of the lower input comes first
abbrev pub UnionOfTwo : Type 0
UnionOfTwo =
    meaning
    (over_two Union (row 1 2 p 1 0 ∷ Cti 5 ∷ End ∷ []) (row 1 2 q 2 0 ∷ Cti 5 ∷ End ∷ []))
    2
    ≡ row 1 2 p 1 0 ∷ row 1 2 q 2 0 ∷ Cti 5 ∷ End ∷ []

-- a stream that is both inputs of a union comes twice, and its Cti once
abbrev pub UnionWithItself : Type 0
UnionWithItself =
    meaning (over_itself Union (row 1 2 p 1 0 ∷ Cti 5 ∷ End ∷ [])) 1
    ≡ row 1 2 p 1 0 ∷ row 1 2 p 1 0 ∷ Cti 5 ∷ End ∷ []

-- an element that came from an input
abbrev pub from : ℕ → Element → Arrival
from input x = record { input = input; element = x }

-- at a tie of bounds above 0 the lower input goes first, and the input that is behind goes before both
abbrev pub TieOfBounds : Type 0
TieOfBounds =
    merge ((Cti 5 ∷ row 5 6 p 1 0 ∷ Cti 7 ∷ End ∷ []) ∷ (Cti 3 ∷ Cti 5 ∷ row 6 7 q 2 0 ∷ Cti 8 ∷ End ∷ []) ∷ [])
    ≡ from 0 (Cti 5) ∷ from 1 (Cti 3) ∷ from 1 (Cti 5)
    ∷ from 0 (row 5 6 p 1 0) ∷ from 0 (Cti 7) ∷ from 1 (row 6 7 q 2 0) ∷ from 1 (Cti 8)
    ∷ from 0 End ∷ from 1 End ∷ []

-- a source, a select over it, a join of the two, and a sink
abbrev pub job_of_four : List Vertex
job_of_four =
    Source (row 1 4 k 1 9 ∷ Cti 2 ∷ End ∷ []) ∷ Inner swapped (0 ∷ []) ∷ Inner Join (0 ∷ 1 ∷ []) ∷ Sink 2 ∷ []

-- the laws speak of this job
abbrev pub JobOfFourIsJob : Type 0
JobOfFourIsJob = IsJob job_of_four

-- its sink takes the row joined with what was selected from it
abbrev pub JobOfFour : Type 0
JobOfFour = meaning job_of_four 3 ≡ row 1 4 k 1 9 ∷ Cti 2 ∷ End ∷ []

-- The text of the generated job.
use Rattle.std.specs.Prelude.{ℕ, List, [], ◌∷◌, ◌++◌, codes}
use Rattle.std.specs.List.{flat_map}

-- lines, each with its newline
abbrev pub lines : List (List ℕ) → List ℕ
lines texts = flat_map (λ text. text ++ codes "\n") texts

-- two sources, the rows of one that are above 0, their sums by windows, pairs of both sources, and two sinks
abbrev pub job_text : List ℕ
job_text = lines (
    codes "[job]" ∷
    codes "collect_every = 512" ∷
    codes "[[vertex]]" ∷
    codes "name = \"a\"" ∷
    codes "op = \"source\"" ∷
    codes "file = \"gen-a.csv\"" ∷
    codes "[[vertex]]" ∷
    codes "name = \"b\"" ∷
    codes "op = \"source\"" ∷
    codes "file = \"gen-b.csv\"" ∷
    codes "[[vertex]]" ∷
    codes "name = \"big\"" ∷
    codes "op = \"select\"" ∷
    codes "inputs = [\"a\"]" ∷
    codes "where = \"a > 0\"" ∷
    codes "recover = \"replay\"" ∷
    codes "[[vertex]]" ∷
    codes "name = \"load\"" ∷
    codes "op = \"window\"" ∷
    codes "inputs = [\"big\"]" ∷
    codes "size = 640" ∷
    codes "hop = 160" ∷
    codes "agg = \"sum\"" ∷
    codes "replicas = 2" ∷
    codes "[[vertex]]" ∷
    codes "name = \"pair\"" ∷
    codes "op = \"join\"" ∷
    codes "inputs = [\"a\", \"b\"]" ∷
    codes "[[vertex]]" ∷
    codes "name = \"all\"" ∷
    codes "op = \"union\"" ∷
    codes "inputs = [\"load\", \"pair\"]" ∷
    codes "[[vertex]]" ∷
    codes "name = \"o1\"" ∷
    codes "op = \"sink\"" ∷
    codes "inputs = [\"load\"]" ∷
    codes "file = \"gen-load.csv\"" ∷
    codes "[[vertex]]" ∷
    codes "name = \"o2\"" ∷
    codes "op = \"sink\"" ∷
    codes "inputs = [\"all\"]" ∷
    codes "file = \"gen-all.csv\"" ∷ [])

-- What contracts see of an index of names, and of the inputs of a vertex.
use Rattle.std.specs.Prelude.{◌≡◌, ℕ, ◌≤◌, List, String, map, take, string_bytes}
use Rattle.std.specs.HashSet.{HashSet}
use Rattle.std.specs.declared.alloc.Global.{Global}
use Rattle.ss_job.specs.Vertices.{padded}

-- the names in the order of their numbers
abbrev pub names_of : {S : Type 0} → HashSet (String Global) S → List (List ℕ)
names_of set = map string_bytes set.keys

-- at most 8 inputs, and zeros behind them
pub record AreInputs (numbers : List ℕ) (width : ℕ) : Type 0 where
  pub few : width ≤ 8
  pub zeros : numbers ≡ padded (take width numbers)

-- Which fields a table of a TOML document has.
use Rattle.std.specs.Prelude.{ℕ, Bool, true, ◌&&◌, bytes_eq, List}
use Rattle.std.specs.List.{list_any}
use Rattle.toml.specs.Data.{Members, no_members, member}

-- whether a table has none but these fields
abbrev pub has_only : List (List ℕ) → Members → Bool
has_only fields no_members = true
has_only fields (member key value rest) = list_any (λ field. bytes_eq field key) fields && has_only fields rest

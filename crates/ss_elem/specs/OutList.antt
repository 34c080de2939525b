-- What a list of given elements is.
use Rattle.std.specs.Prelude.{ℕ, List}
use Rattle.ss_elem.specs.declared.element.Element.{Element}

-- the elements given, and how many places are reserved behind them
pub record OutList : Type 0 where
  pub elements : List Element
  pub spare : ℕ

-- The text of streams.
use Rattle.std.specs.Prelude.{ℕ, List, [], ◌++◌, codes, if◌then◌else◌}
use Rattle.std.specs.List.{flat_map}
use Rattle.std.specs.Fmt.{decimal, signed_decimal}
use Rattle.ss_elem.specs.declared.element.Event.{Event}
use Rattle.ss_elem.specs.declared.element.Element.{Element}
use Rattle.ss_elem.specs.declared.element.Element.TheVariants.{Row, Cti, End}
use Rattle.ss_elem.specs.Key.{key_text}
use Rattle.ss_elem.specs.Rows.{has_two_values}

-- the third and the fourth value as they stand in a line, unless both are 0
abbrev pub last_values : Event → List ℕ
last_values event =
    if has_two_values event then []
    else codes "," ++ signed_decimal event.c ++ codes "," ++ signed_decimal event.d

-- an element's line, with its newline
abbrev pub line_of : Element → List ℕ
line_of (Row event) =
    codes "event," ++ decimal event.start ++ codes "," ++ decimal event.end ++ codes "," ++ key_text event.key
    ++ codes "," ++ signed_decimal event.a ++ codes "," ++ signed_decimal event.b ++ last_values event ++ codes "\n"
line_of (Cti time) = codes "cti," ++ decimal time ++ codes "\n"
line_of End = codes "end\n"

-- the lines of a list
abbrev pub text_of : List Element → List ℕ
text_of xs = flat_map line_of xs

-- Which members a line is about.
use Rattle.std.specs.Prelude.{Option, Some, option_map, codes, if◌then◌else◌}
use Rattle.std.specs.Str.{bytes_eq}
use Rattle.ct_grammar.specs.declared.who.Who.{Who}
use Rattle.ct_grammar.specs.declared.who.Who.TheVariants.{One, Some as Several, All}
use Rattle.ct_grammar.specs.Words.{Word}
use Rattle.ct_grammar.specs.Numbers.{number_of, members_of, has_comma, max_u8}

-- `all`, a list of members or one
unfoldable pub who_of : Word → Option Who
who_of word =
    if bytes_eq word (codes "all") then Some All else (
    if has_comma word then option_map Several (members_of word) else option_map One (number_of max_u8 word))

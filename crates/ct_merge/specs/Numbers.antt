-- The numbers of a group, as logs give them.
use Rattle.std.specs.Prelude.{ℕ, Bool, true, ◌==◌, Option, Some, None}
use Rattle.ct_model.specs.When.{when}
use Rattle.ct_grammar.specs.declared.given.Given.{Given}
use Rattle.ct_grammar.specs.declared.given.Given.TheVariants.{Members, Cells, Batch}
use Rattle.ct_merge.specs.declared.numbers.Numbers.{Numbers}

-- none is given
abbrev pub no_numbers : Numbers
no_numbers = record { members = None; cells = None; batch = None }

-- no other number was given in its place
abbrev pub agrees : Option ℕ → ℕ → Bool
agrees None n = true
agrees (Some m) n = m == n

-- with this one too. None: another was given
abbrev pub with_given : Numbers → Given → Option Numbers
with_given s (Members n) = when (agrees s.members n) (record s { members = Some n })
with_given s (Cells n) = when (agrees s.cells n) (record s { cells = Some n })
with_given s (Batch n) = when (agrees s.batch n) (record s { batch = Some n })

-- Turns.
use Rattle.std.specs.Prelude.{ℕ, Bool, false, ◌||◌, length, List, [], ◌∷◌, Result, Ok, Err, codes, if◌then◌else◌}
use Rattle.std.specs.Str.{bytes_eq}
use Rattle.ct_grammar.specs.declared.misfit.Misfit.{Misfit}
use Rattle.ct_grammar.specs.declared.play.Play.{Play}
use Rattle.ct_grammar.specs.declared.play.Play.TheVariants.{Turns, Settle, Until}
use Rattle.ct_grammar.specs.declared.unfit.Unfit.{Unfit}
use Rattle.ct_grammar.specs.declared.unfit.Unfit.TheVariants.{End, Word as Other}
use Rattle.ct_grammar.specs.declared.wanted.Wanted.TheVariants as wanted
use Rattle.ct_grammar.specs.declared.who.Who.{Who}
use Rattle.ct_grammar.specs.Words.{Word}
use Rattle.ct_grammar.specs.Unfits.{◌>>=◌, map_ok}
use Rattle.ct_grammar.specs.Leading.{whole_first, set_first, over}
use Rattle.ct_grammar.specs.Misfits.{told}
use Rattle.ct_grammar.specs.Goals.{goal_in}

-- the members that are suspected, none where `suspecting` does not stand first, and the words behind them
unfoldable pub suspected : List Word → Result (List ℕ × List Word) Unfit
suspected [] = Ok ([], [])
suspected (word ∷ words) = if bytes_eq word (codes "suspecting") then set_first words else Ok ([], word ∷ words)

-- a set of members, alone
unfoldable pub set_alone : List Word → Result (List ℕ) Unfit
set_alone words = do
  r ← set_first words
  _ ← over wanted.Nothing r.1
  Ok r.0

-- the members that are suspected, alone
unfoldable pub lone_suspected : List Word → Result (List ℕ) Unfit
lone_suspected [] = Ok []
lone_suspected (word ∷ words) =
    if bytes_eq word (codes "suspecting") then set_alone words else Err (Other (length words) wanted.Suspecting)

-- so many rounds of turns
unfoldable pub counted : Who → List Word → Result Play Unfit
counted who words = do
  n ← whole_first wanted.Rounds words
  set ← lone_suspected n.1
  Ok (Turns who n.0 set)

-- the words behind `until`
unfoldable pub behind_until : List Word → Result (List Word) Unfit
behind_until [] = Err (End wanted.Until)
behind_until (word ∷ words) = if bytes_eq word (codes "until") then Ok words else Err (Other (length words) wanted.Until)

-- the members that are suspected, and the words behind `until`
unfoldable pub watched : List Word → Result (List ℕ × List Word) Unfit
watched words = do
  r ← suspected words
  goal ← behind_until r.1
  Ok (r.0, goal)

-- turns until a goal holds
unfoldable pub until_of : Who → List Word → Result Play Misfit
until_of who words = do
  r ← told words (watched words)
  goal ← goal_in r.1
  Ok (Until who r.0 goal)

-- `suspecting` or `until` stands first
unfoldable pub says_until : List Word → Bool
says_until [] = false
says_until (word ∷ words) = bytes_eq word (codes "suspecting") || bytes_eq word (codes "until")

-- what stands behind `turns`: how many rounds, or until when
unfoldable pub turns_of : Who → List Word → Result Play Misfit
turns_of who words = if says_until words then until_of who words else told words (counted who words)

-- what stands behind `settle`
unfoldable pub settle_of : Who → List Word → Result Play Unfit
settle_of who words = map_ok (Settle who) (lone_suspected words)

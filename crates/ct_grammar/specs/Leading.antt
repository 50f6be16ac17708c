-- Words that stand first, and what stands behind them.
use Rattle.std.specs.Prelude.{ℕ, List, [], ◌∷◌, length, Result, Ok, Err, codes, if◌then◌else◌}
use Rattle.std.specs.Option.{ok_or}
use Rattle.std.specs.Str.{bytes_eq}
use Rattle.ct_grammar.specs.declared.unfit.Unfit.{Unfit}
use Rattle.ct_grammar.specs.declared.unfit.Unfit.TheVariants.{End, Word as Other}
use Rattle.ct_grammar.specs.declared.wanted.Wanted.{Wanted}
use Rattle.ct_grammar.specs.declared.wanted.Wanted.TheVariants.{Set, Sender, Nothing, And, SenderOrAnd, Or}
use Rattle.ct_grammar.specs.Words.{Word}
use Rattle.ct_grammar.specs.Unfits.{◌>>=◌, map_ok}
use Rattle.ct_grammar.specs.Numbers.{number_in, members_of, max_u8, max_u32}

-- a number from low to high, and the words behind it
unfoldable pub number_first : ℕ → ℕ → Wanted → List Word → Result (ℕ × List Word) Unfit
number_first low high wanted [] = Err (End wanted)
number_first low high wanted (word ∷ words) = map_ok (λ n. (n, words)) (ok_or (number_in low high word) (Other (length words) wanted))

-- a member or a register, and the words behind it
unfoldable pub member_first : Wanted → List Word → Result (ℕ × List Word) Unfit
member_first wanted words = number_first 0 max_u8 wanted words

-- an instance, a round or an amount, and the words behind it
unfoldable pub whole_first : Wanted → List Word → Result (ℕ × List Word) Unfit
whole_first wanted words = number_first 0 max_u32 wanted words

-- a set of members, and the words behind it
unfoldable pub set_first : List Word → Result (List ℕ × List Word) Unfit
set_first [] = Err (End Set)
set_first (word ∷ words) = map_ok (λ set. (set, words)) (ok_or (members_of word) (Other (length words) Set))

-- no words; otherwise the first is left over
unfoldable pub over : Wanted → List Word → Result (Unit {0}) Unfit
over wanted [] = Ok tt
over wanted (word ∷ words) = Err (Other (length words) wanted)

-- what could stand behind a term where this could stand elsewhere: also `and`
abbrev pub or_and : Wanted → Wanted
or_and Sender = SenderOrAnd
or_and wanted = And

-- the same in place of the first of these words; there is no `or`
unfoldable pub behind_term : Wanted → List Word → Wanted
behind_term wanted [] = wanted
behind_term wanted (word ∷ words) = if bytes_eq word (codes "or") then Or else or_and wanted

-- an instance, a round or an amount, alone
unfoldable pub lone_whole : Wanted → List Word → Result ℕ Unfit
lone_whole what words = do
  r ← whole_first what words
  _ ← over (behind_term Nothing r.1) r.1
  Ok r.0

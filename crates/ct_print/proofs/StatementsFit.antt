-- Statements that are read can be written.
use Rattle.std.proofs.Common.{◌≡◌, ℕ, ◌<◌, ◌≤◌, ◌==◌, ◌&&◌, List, [], ◌∷◌, length, refl, arith}
use Rattle.std.specs.Prelude.{codes, Option, Some, None, IfOk, IfSome}
use Rattle.std.specs.Option.{ok_or}
use Rattle.std.specs.Str.{bytes_eq}
use Rattle.ct_grammar.specs.declared.act.Act.{Act}
use Rattle.ct_grammar.specs.declared.act.Act.TheVariants.{Receive}
use Rattle.ct_grammar.specs.declared.carried.Carried.TheVariants.{Data}
use Rattle.ct_grammar.specs.declared.claim.Name.{Name}
use Rattle.ct_grammar.specs.declared.pick.Pick.TheVariants.{Serial, First}
use Rattle.ct_grammar.specs.declared.reports.listed.Listed.{Listed}
use Rattle.ct_grammar.specs.declared.statement.Statement.{Statement}
use Rattle.ct_grammar.specs.declared.statement.Statement.TheVariants as says
use Rattle.ct_grammar.specs.Acts.{command_first}
use Rattle.ct_grammar.specs.Leading.{over}
use Rattle.ct_grammar.specs.Names.{names_within, value_of, glued, more_first, shortened, all_or_some, listed_in, listed_first}
use Rattle.ct_grammar.specs.Numbers.{number_in, max_u32}
use Rattle.ct_grammar.specs.Reports.{ts_of}
use Rattle.ct_grammar.specs.Stated.{says_value, no_statement, with_ts, value_stated, lone_value, lone_command, carried_statement}
use Rattle.ct_grammar.specs.Stated.{pick_statement, statement}
use Rattle.ct_grammar.specs.Words.{Word, begins_with}
use Rattle.ct_print.specs.Writable.{NamesFit, MoreFits, ListedFits, StatementFits, IsCommand, IsValue, IsStatedOf}
use Rattle.ct_print.proofs.Readable.{either, some_either, some_mapped, mapped, bound, found, unless_over, ok_weaker, Gives}
use Rattle.ct_print.proofs.Readable.{number_between, command_fits}
use Rattle.ct_print.proofs.ReportsFit.{some_weaker, within_fit, value_fits, ts_fits}

-- ---- values

-- messages of a value, with words behind them
abbrev pub AreListed : Listed × List Word → Type 0
AreListed r = ListedFits r.0

more_fits : (words : List Word) → IfSome (more_first words) (λ r. r.0 ≤ max_u32)
unfolding more_first
more_fits (and ∷ count ∷ more ∷ words) =
    some_either _ (bytes_eq and (codes "and") && bytes_eq more (codes "more}")) _ None
    (some_mapped (λ (r : ℕ × List Word). r.0 ≤ max_u32) _ (number_in 1 max_u32 count) (number_between 1 max_u32 count _ (λ n h. h.1))) tt
more_fits _ = tt

some_more : (names : List Name) (more : ℕ) → 0 < length names → more ≤ max_u32 → MoreFits names more
some_more [] more some h = absurd (omega (arith, some))
some_more (name ∷ names) more some h = h

no_more : (names : List Name) → MoreFits names 0
no_more [] = refl
no_more (name ∷ names) = omega arith

shortened_fits : (word : Word) (words : List Word) → IfSome (shortened word words) AreListed
unfolding shortened
shortened_fits [] words = tt
shortened_fits (c ∷ cs) words = go (more_first words) refl (more_fits words)
  where
    go : (o : Option (ℕ × List Word)) → more_first words ≡ o → IfSome o (λ r. r.0 ≤ max_u32) → IfSome (shortened (c ∷ cs) words) AreListed
    go None e h = rw e (some_either AreListed (c == 123) None None tt tt)
    go (Some r) e h =
        rw e (some_either AreListed (c == 123) _ None (some_mapped AreListed _ (names_within cs)
        (some_weaker (names_within cs) (within_fit cs) (λ names k. (k.0, some_more names r.0 k.1 h)))) tt)

listed_fits : (word : Word) (words : List Word) → IfSome (listed_first word words) AreListed
unfolding listed_first listed_in
listed_fits word words = go (glued word words).0 (glued word words).1
  where
    either_way : (o : Option (List Name)) (whole : Word) (rest : List Word) → IfSome o NamesFit →
        IfSome (all_or_some o whole rest) AreListed
    either_way None whole rest h = shortened_fits whole rest
    either_way (Some names) whole rest h = (h, no_more names)

    go : (whole : Word) (rest : List Word) → IfSome (listed_in whole rest) AreListed
    go whole rest = either_way (value_of whole) whole rest (value_fits whole)

-- what can be written and is a value
abbrev pub IsValueFit : Statement → Type 0
IsValueFit said = StatementFits said × IsValue said

with_ts_fits : (l : Listed) (words : List Word) → ListedFits l → IfOk (with_ts l words) IsValueFit
with_ts_fits l [] h = (h, tt)
with_ts_fits l (word ∷ words) h =
    mapped IsValueFit (says.Estimate l) (ts_of (word ∷ words)) (ts_fits (word ∷ words) _ (λ ts k. ((h, k), tt)))

stated_fits : (word : Word) (words : List Word) → IfOk (value_stated word words) IsValueFit
unfolding value_stated
stated_fits word words =
    bound IsValueFit (ok_or (listed_first word words) _) _
    (found _ (listed_first word words) _ (some_weaker (listed_first word words) (listed_fits word words) (λ r h. with_ts_fits r.0 r.1 h)))

lone_value_fits : (what : _) (words : List Word) → IfOk (lone_value what words) IsValueFit
unfolding lone_value
lone_value_fits what [] = tt
lone_value_fits what (word ∷ words) = either IsValueFit (begins_with 123 word) _ _ (stated_fits word words) tt

-- ---- commands

abbrev pub IsCommandFit : Statement → Type 0
IsCommandFit said = StatementFits said × IsCommand said

lone_command_fits : (what : _) (words : List Word) → IfOk (lone_command what words) IsCommandFit
unfolding lone_command
lone_command_fits what words =
    bound IsCommandFit (command_first what words) _ (command_fits what words _
    (λ r h. bound IsCommandFit (over _ r.1) _ (unless_over _ _ r.1 (h, tt))))

-- ---- statements

abbrev pub IsStated : Act → Statement → Type 0
IsStated act said = StatementFits said × IsStatedOf act said

none_stated : (P : Statement → Type 0) (what : _) (words : List Word) → IfOk (no_statement what words) P
unfolding no_statement
none_stated P what [] = tt
none_stated P what (word ∷ words) = tt

all_stated : (act : Act) (words : List Word) → IfOk (statement act words) (IsStated act)
unfolding statement pick_statement carried_statement
all_stated (Receive (Serial n)) words =
    either (IsStated (Receive (Serial n))) (says_value words) _ _
    (ok_weaker _ _ (lone_value _ words) (lone_value_fits _ words) (λ said h. (h.0, tt)))
    (ok_weaker _ _ (lone_command _ words) (lone_command_fits _ words) (λ said h. (h.0, tt)))
all_stated (Receive (First (Data o n) from)) words = lone_command_fits _ words
all_stated _ words = first_of (search none_stated, search lone_value_fits)

pub statement_fits : (act : Act) (words : List Word) → Gives (statement act words) (IsStated act)
statement_fits act words Q k = ok_weaker (IsStated act) Q (statement act words) (all_stated act words) k

-- Turns and acts that are read can be written.
use Rattle.std.proofs.Common.{List, [], ◌∷◌, refl}
use Rattle.ct_names.specs.Group.{members}
use Rattle.ct_grammar.specs.declared.act.Act.{Act}
use Rattle.ct_grammar.specs.declared.play.Play.TheVariants.{Act as Acts, Stated}
use Rattle.ct_grammar.specs.declared.who.Who.{Who}
use Rattle.ct_grammar.specs.Leading.{set_first}
use Rattle.ct_grammar.specs.Lines.{settled_or_acted, done_by}
use Rattle.ct_grammar.specs.Stated.{statement, taken, acted}
use Rattle.ct_grammar.specs.Turns.{suspected, set_alone, lone_suspected, counted, behind_until, watched, until_of, turns_of, settle_of}
use Rattle.ct_grammar.specs.Words.{Word}
use Rattle.ct_print.specs.Writable.{IsSet, WhoFits, ActFits, PlayFits}
use Rattle.ct_print.proofs.GoalsFit.{goal_fits}
use Rattle.ct_print.proofs.Readable.{steps, mapped, Gives, Leads, whole_first_fits, set_first_fits, act_fits}
use Rattle.ct_print.proofs.StatementsFit.{statement_fits}

set_rises : (words : List Word) → Leads (set_first words) IsSet
set_rises words Q k = set_first_fits words Q (λ r h. k r h.rising)

suspected_fits : (words : List Word) → Leads (suspected words) IsSet
unfolding suspected members
suspected_fits [] Q k = k ([], []) refl
suspected_fits (word ∷ words) Q k = search (steps, set_rises)

alone_suspected : (words : List Word) → Gives (lone_suspected words) IsSet
unfolding lone_suspected set_alone members
alone_suspected [] Q k = k [] refl
alone_suspected (word ∷ words) Q k = search (steps, set_rises) depth 7

counted_fits : (who : Who) (words : List Word) → WhoFits who → Gives (counted who words) PlayFits
unfolding counted
counted_fits who words h Q k = search (steps, whole_first_fits, alone_suspected) depth 7

behind_fits : (words : List Word) → Gives (behind_until words) (λ _. Unit {0})
unfolding behind_until
behind_fits [] Q k = tt
behind_fits (word ∷ words) Q k = search steps

watched_fits : (words : List Word) → Leads (watched words) IsSet
unfolding watched
watched_fits words Q k = search (steps, suspected_fits, behind_fits)

until_fits : (who : Who) (words : List Word) → WhoFits who → Gives (until_of who words) PlayFits
unfolding until_of
until_fits who words h Q k = search (steps, watched_fits, goal_fits) depth 8

-- ---- what members do

taken_fits : (who : Who) (act : Act) (words : List Word) → WhoFits who → ActFits act → Gives (taken who act words) PlayFits
unfolding taken
taken_fits who act [] h k Q f = f (Acts who act) (h, k)
taken_fits who act (word ∷ words) h k Q f =
    mapped Q (Stated who act) (statement act (word ∷ words))
    (statement_fits act (word ∷ words) _ (λ said s. f (Stated who act said) (h, k, s.0, s.1)))

acted_fits : (who : Who) (words : List Word) → WhoFits who → Gives (acted who words) PlayFits
unfolding acted
acted_fits who words h Q k = search (steps, act_fits, taken_fits)

pub done_fits : (who : Who) (words : List Word) → WhoFits who → Gives (done_by who words) PlayFits
unfolding done_by turns_of settled_or_acted settle_of
done_fits who [] h Q k = tt
done_fits who (name ∷ words) h Q k = search (steps, until_fits, counted_fits, alone_suspected, acted_fits) depth 8

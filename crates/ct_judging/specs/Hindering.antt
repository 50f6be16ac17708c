-- What is told of what stands in the way of all being done.
use Rattle.std.specs.Prelude.{ℕ, List, [], ◌∷◌, ◌++◌, codes, decimal, Option, Some, None}
use Rattle.std.specs.List.{concat}
use Rattle.ct_names.specs.RefusalText.{refusal_text}
use Rattle.ct_names.specs.declared.refusal.Refusal.TheVariants as refusal
use Rattle.ct_model.specs.Actor.{actor}
use Rattle.ct_model.specs.Rehearsal.{Rehearsal}
use Rattle.ct_model.specs.declared.step.Step.{Step}
use Rattle.ct_grammar.specs.declared.claim.Claim.TheVariants.{Fact}
use Rattle.ct_grammar.specs.declared.fact.Fact.TheVariants as fact
use Rattle.ct_grammar.specs.declared.term.Term.{Term}
use Rattle.ct_grammar.specs.declared.term.When.TheVariants.{Now}
use Rattle.ct_grammar.specs.declared.term.Whom.TheVariants.{One}
use Rattle.ct_print.specs.Goals.{term_text}
use Rattle.ct_settled.specs.declared.hindrance.Hindrance.{Hindrance}
use Rattle.ct_settled.specs.declared.hindrance.Hindrance.TheVariants.{Waits, May, Full, Awaits, Few, Lost}
use Rattle.ct_judging.specs.Naming.{envelope_name}
use Rattle.ct_judging.specs.Steps.{act_of, step_line}
use Rattle.ct_judging.specs.Wording.{behind, numbered}

-- the term that a member may take the step
abbrev pub may_term : Rehearsal → Step → Term
may_term w step = record { when = Now; whom = One (actor step); claim = Fact (fact.May (act_of w step)) }

-- what stands in the way, in a clause
unfoldable pub hindrance_text : Rehearsal → Hindrance → List ℕ
hindrance_text w (Waits p k) = envelope_name w k ++ numbered (codes " waits at ") p
hindrance_text w (May step) = term_text (may_term w step)
hindrance_text w (Full step limit) = concat (step_line w step ∷ codes ": " ∷ refusal_text (refusal.Full limit) ∷ [])
hindrance_text w (Awaits p q) = concat (decimal p ∷ codes " waits for " ∷ decimal q ∷ codes ", which crashed" ∷ [])
hindrance_text w Few = codes "no majority is up"
hindrance_text w (Lost p k) = concat (decimal p ∷ codes " waits for " ∷ envelope_name w k ∷ codes ", which was lost" ∷ [])

-- the same behind a fault, where something does
abbrev pub hindered_text : Rehearsal → Option Hindrance → List ℕ
hindered_text w None = []
hindered_text w (Some h) = behind (codes ", but ") (hindrance_text w h)

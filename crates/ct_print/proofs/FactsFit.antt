-- Facts that are read can be written.
use Rattle.std.proofs.Common.{◌≡◌, Bool, true, false, List, [], ◌∷◌, refl, sym, ap, ◌∙◌, true≢false}
use Rattle.std.specs.Prelude.{codes, Result, Ok, Err, IfOk}
use Rattle.std.specs.Str.{bytes_eq}
use Rattle.ct_names.specs.Group.{members}
use Rattle.ct_names.specs.declared.refusal.Refusal.TheVariants.{OutOfMemory, Board}
use Rattle.ct_grammar.specs.declared.fact.Fact.TheVariants.{Received, Decided, Delivered, Table, Estimate}
use Rattle.ct_grammar.specs.declared.reason.Reason.{Reason}
use Rattle.ct_grammar.specs.declared.reason.Reason.TheVariants.{Rules}
use Rattle.ct_grammar.specs.Facts.{short_fact, ended, lone_act, lone_pick, phase_first, reason_first, refusal_of, act_fact}
use Rattle.ct_grammar.specs.Facts.{number_fact, set_or_dash, lone_set, named_fact}
use Rattle.ct_grammar.specs.Reasons.{full_of, step_reason, reason_of}
use Rattle.ct_grammar.specs.Reports.{decisions_of, estimate_of, messages_of, table_of}
use Rattle.ct_grammar.specs.Words.{Word}
use Rattle.ct_print.specs.Writable.{IsSet, PickFits, ActFits, FactFits, IsRules}
use Rattle.ct_print.proofs.Readable.{either, some_either, mapped, steps, May, Gives, pick_fits}
use Rattle.ct_print.proofs.Readable.{act_fits, members_are_set}
use Rattle.ct_print.proofs.ReportsFit.{alone_fits, messages_fit, decisions_fit, table_fits, estimate_fits}

-- ---- reasons

is_rules : Reason → Bool
is_rules (Rules OutOfMemory) = false
is_rules (Rules Board) = false
is_rules _ = true

from_test : (reason : Reason) → is_rules reason ≡ true → IsRules reason
unfolding is_rules
from_test reason h = record {
  memory = λ e. true≢false (sym h ∙ ap is_rules e);
  board = λ e. true≢false (sym h ∙ ap is_rules e);
}

full_fits : (name : Word) → May (full_of name) (λ r. IsRules (Rules r))
unfolding full_of is_rules
full_fits name Q k = search (steps, from_test) depth 12

step_fits : (name : Word) → May (step_reason name) (λ r. IsRules (Rules r))
unfolding step_reason is_rules
step_fits name Q k = search (steps, from_test, full_fits) depth 16

pub reason_rules : (name : Word) → May (reason_of name) IsRules
unfolding reason_of is_rules
reason_rules name Q k = search (steps, from_test, step_fits) depth 14

reason_fits : (words : List Word) → Gives (reason_first words) IsRules
unfolding reason_first
reason_fits [] Q k = tt
reason_fits (word ∷ words) Q k = search (steps, reason_rules) depth 7

-- ---- facts

act_alone_fits : (words : List Word) → Gives (lone_act words) ActFits
unfolding lone_act ended
act_alone_fits words Q k = search (steps, act_fits) depth 7

pick_alone_fits : (words : List Word) → Gives (lone_pick words) PickFits
unfolding lone_pick
pick_alone_fits words Q k = search (steps, pick_fits) depth 7

set_or_dash_fits : (word : Word) → May (set_or_dash word) IsSet
unfolding set_or_dash members
set_or_dash_fits word Q k =
    some_either Q (bytes_eq word (codes "-")) _ _ (k [] refl) (members_are_set word Q (λ set h. k set h.rising))

set_alone_fits : (words : List Word) → Gives (lone_set words) IsSet
unfolding lone_set
set_alone_fits [] Q k = tt
set_alone_fits (word ∷ words) Q k = search (steps, set_or_dash_fits) depth 7

refused_fits : (words : List Word) → IfOk (refusal_of words) FactFits
unfolding refusal_of
refused_fits words = search (steps, act_fits, reason_fits) depth 7

any_fits : {A E : Type 0} (r : Result A E) → IfOk r (λ x. Unit {0})
any_fits (Ok x) = tt
any_fits (Err e) = tt

plain_fits : (name : Word) (words : List Word) → IfOk (number_fact name words) FactFits
unfolding number_fact act_fact short_fact
plain_fits name words =
    search (steps, alone_fits, any_fits (phase_first words), set_alone_fits, refused_fits, act_alone_fits, pick_alone_fits) depth 18

pub fact_fits : (name : Word) (words : List Word) → IfOk (named_fact name words) FactFits
unfolding named_fact
fact_fits name words =
    either FactFits (bytes_eq name (codes "received")) _ _ (mapped FactFits Received (messages_of words) (messages_fit words))
    (either FactFits (bytes_eq name (codes "decided")) _ _ (mapped FactFits Decided (decisions_of words) (decisions_fit words))
    (either FactFits (bytes_eq name (codes "delivered")) _ _ (mapped FactFits Delivered (messages_of words) (messages_fit words))
    (either FactFits (bytes_eq name (codes "table")) _ _ (mapped FactFits Table (table_of words) (table_fits words))
    (either FactFits (bytes_eq name (codes "estimate")) _ _ (mapped FactFits Estimate (estimate_of words) (estimate_fits words))
    (plain_fits name words)))))

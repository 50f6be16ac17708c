-- What lines expect, as they say it.
use Rattle.std.specs.Prelude.{ℕ, List, [], ◌∷◌, codes, decimal}
use Rattle.ct_model.specs.declared.phase.Phase.{Phase}
use Rattle.ct_model.specs.declared.phase.Phase.TheVariants.{Rest, Gather, Wait, Tally}
use Rattle.ct_grammar.specs.declared.fact.Fact.{Fact}
use Rattle.ct_grammar.specs.declared.fact.Fact.TheVariants.{Up, Crashed, Idle, Instance, Round, Phase as InPhase}
use Rattle.ct_grammar.specs.declared.fact.Fact.TheVariants.{Received, Decided, Delivered, Table, Refuses, May}
use Rattle.ct_grammar.specs.declared.fact.Fact.TheVariants.{Waiting, Waits, Heard, Acked, Estimate}
use Rattle.ct_grammar.specs.Words.{Word, text_of}
use Rattle.ct_grammar.specs.Reasons.{reason_text}
use Rattle.ct_print.specs.Acts.{act_text, pick_text}
use Rattle.ct_print.specs.Members.{set_or_dash_text}
use Rattle.ct_print.specs.Reports.{decisions_text, estimate_text, names_text}
use Rattle.ct_text.specs.Lists.{table_text}

abbrev pub phase_word : Phase → Word
phase_word Rest = codes "Rest"
phase_word Gather = codes "Gather"
phase_word Wait = codes "Wait"
phase_word Tally = codes "Tally"

-- a fact
unfoldable pub fact_text : Fact → List ℕ
fact_text Up = codes "up"
fact_text Crashed = codes "crashed"
fact_text Idle = codes "idle"
fact_text (Instance i) = text_of (codes "instance" ∷ decimal i ∷ [])
fact_text (Round r) = text_of (codes "round" ∷ decimal r ∷ [])
fact_text (InPhase phase) = text_of (codes "phase" ∷ phase_word phase ∷ [])
fact_text (Received names) = text_of (codes "received" ∷ names_text 32 names ∷ [])
fact_text (Decided decisions) = text_of (codes "decided" ∷ decisions_text decisions ∷ [])
fact_text (Delivered names) = text_of (codes "delivered" ∷ names_text 32 names ∷ [])
fact_text (Table values) = text_of (codes "table" ∷ table_text values ∷ [])
fact_text (Refuses act reason) = text_of (codes "refuses" ∷ act_text act ∷ reason_text reason ∷ [])
fact_text (May act) = text_of (codes "may" ∷ act_text act ∷ [])
fact_text (Waiting n) = text_of (codes "waiting" ∷ decimal n ∷ [])
fact_text (Waits pick) = text_of (codes "waits" ∷ pick_text pick ∷ [])
fact_text (Heard set) = text_of (codes "heard" ∷ set_or_dash_text set ∷ [])
fact_text (Acked set) = text_of (codes "acked" ∷ set_or_dash_text set ∷ [])
fact_text (Estimate estimate) = text_of (codes "estimate" ∷ estimate_text estimate ∷ [])

-- What lines expect, in words.
use Rattle.std.specs.Prelude.{length, List, [], ◌∷◌, Option, Some, None, Result, Ok, Err, codes, if◌then◌else◌, ℕ}
use Rattle.std.specs.Option.{ok_or}
use Rattle.std.specs.Str.{bytes_eq}
use Rattle.ct_model.specs.declared.phase.Phase.{Phase}
use Rattle.ct_model.specs.declared.phase.Phase.TheVariants.{Rest, Gather, Wait, Tally}
use Rattle.ct_grammar.specs.declared.act.Act.{Act}
use Rattle.ct_grammar.specs.declared.fact.Fact.{Fact}
use Rattle.ct_grammar.specs.declared.fact.Fact.TheVariants.{Up, Crashed, Idle, Instance, Round, Phase as InPhase}
use Rattle.ct_grammar.specs.declared.fact.Fact.TheVariants.{Received, Decided, Delivered, Table, Refuses, May}
use Rattle.ct_grammar.specs.declared.fact.Fact.TheVariants.{Waiting, Waits, Heard, Acked, Estimate}
use Rattle.ct_grammar.specs.declared.pick.Pick.{Pick}
use Rattle.ct_grammar.specs.declared.reason.Reason.{Reason}
use Rattle.ct_grammar.specs.declared.unfit.Unfit.{Unfit}
use Rattle.ct_grammar.specs.declared.unfit.Unfit.TheVariants.{End, Word as Other}
use Rattle.ct_grammar.specs.declared.wanted.Wanted.TheVariants as wanted
use Rattle.ct_grammar.specs.Words.{Word}
use Rattle.ct_grammar.specs.Unfits.{◌>>=◌, map_ok}
use Rattle.ct_grammar.specs.Numbers.{members_of}
use Rattle.ct_grammar.specs.Leading.{behind_term, lone_whole, over}
use Rattle.ct_grammar.specs.Picks.{pick_first, behind_pick}
use Rattle.ct_grammar.specs.Acts.{act_first, behind_act}
use Rattle.ct_grammar.specs.Reasons.{reason_of}
use Rattle.ct_grammar.specs.Reports.{decisions_of, estimate_of, messages_of, table_of}

-- a phase, by its name
unfoldable pub phase_of : Word → Option Phase
phase_of name =
    if bytes_eq name (codes "Rest") then Some Rest else (
    if bytes_eq name (codes "Gather") then Some Gather else (
    if bytes_eq name (codes "Wait") then Some Wait else (
    if bytes_eq name (codes "Tally") then Some Tally else None)))

-- the facts of one word
unfoldable pub short_fact : Word → Option Fact
short_fact name =
    if bytes_eq name (codes "up") then Some Up else (
    if bytes_eq name (codes "crashed") then Some Crashed else (
    if bytes_eq name (codes "idle") then Some Idle else None))

-- the act, where no words stand behind it
unfoldable pub ended : Act → List Word → Result Act Unfit
ended act words = map_ok (λ _. act) (over (behind_term (behind_act act) words) words)

-- an act, alone
unfoldable pub lone_act : List Word → Result Act Unfit
lone_act words = act_first wanted.Act words >>= (λ r. ended r.0 r.1)

-- an envelope, alone
unfoldable pub lone_pick : List Word → Result Pick Unfit
lone_pick words = do
  r ← pick_first wanted.Envelope words
  _ ← over (behind_term (behind_pick r.0) r.1) r.1
  Ok r.0

-- a phase, alone
unfoldable pub phase_first : List Word → Result Phase Unfit
phase_first [] = Err (End wanted.Phase)
phase_first (word ∷ words) = do
  phase ← ok_or (phase_of word) (Other (length words) wanted.Phase)
  _ ← over (behind_term wanted.Nothing words) words
  Ok phase

-- the name of a reason, alone
unfoldable pub reason_first : List Word → Result Reason Unfit
reason_first [] = Err (End wanted.Reason)
reason_first (word ∷ words) = do
  reason ← ok_or (reason_of word) (Other (length words) wanted.Reason)
  _ ← over (behind_term wanted.Nothing words) words
  Ok reason

-- an act, and behind it the name of the reason for which it is refused
unfoldable pub refusal_of : List Word → Result Fact Unfit
refusal_of words = do
  r ← act_first wanted.Act words
  reason ← reason_first r.1
  Ok (Refuses r.0 reason)

-- a fact of one word, alone
abbrev pub plain_fact : Word → List Word → Result Fact Unfit
plain_fact name words = do
  fact ← ok_or (short_fact name) (Other (length words) wanted.Fact)
  _ ← over (behind_term wanted.Nothing words) words
  Ok fact

-- the facts of an act and of an envelope; otherwise those of one word
unfoldable pub act_fact : Word → List Word → Result Fact Unfit
act_fact name words =
    if bytes_eq name (codes "refuses") then refusal_of words else (
    if bytes_eq name (codes "may") then map_ok May (lone_act words) else (
    if bytes_eq name (codes "waits") then map_ok Waits (lone_pick words) else plain_fact name words))

-- a set of members; `-` has none
unfoldable pub set_or_dash : Word → Option (List ℕ)
set_or_dash word = if bytes_eq word (codes "-") then Some [] else members_of word

-- the same, alone
unfoldable pub lone_set : List Word → Result (List ℕ) Unfit
lone_set [] = Err (End wanted.Members)
lone_set (word ∷ words) = do
  set ← ok_or (set_or_dash word) (Other (length words) wanted.Members)
  _ ← over (behind_term wanted.Nothing words) words
  Ok set

-- the facts of a number, of a phase and of a set; otherwise those of an act and of an envelope
unfoldable pub number_fact : Word → List Word → Result Fact Unfit
number_fact name words =
    if bytes_eq name (codes "instance") then map_ok Instance (lone_whole wanted.Instance words) else (
    if bytes_eq name (codes "round") then map_ok Round (lone_whole wanted.Round words) else (
    if bytes_eq name (codes "phase") then map_ok InPhase (phase_first words) else (
    if bytes_eq name (codes "waiting") then map_ok Waiting (lone_whole wanted.Waiting words) else (
    if bytes_eq name (codes "heard") then map_ok Heard (lone_set words) else (
    if bytes_eq name (codes "acked") then map_ok Acked (lone_set words) else act_fact name words)))))

-- the fact of this name
unfoldable pub named_fact : Word → List Word → Result Fact Unfit
named_fact name words =
    if bytes_eq name (codes "received") then map_ok Received (messages_of words) else (
    if bytes_eq name (codes "decided") then map_ok Decided (decisions_of words) else (
    if bytes_eq name (codes "delivered") then map_ok Delivered (messages_of words) else (
    if bytes_eq name (codes "table") then map_ok Table (table_of words) else (
    if bytes_eq name (codes "estimate") then map_ok Estimate (estimate_of words) else number_fact name words))))

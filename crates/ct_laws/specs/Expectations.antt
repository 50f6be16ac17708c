-- What expectations say, in words of states, steps and envelopes.
use Rattle.std.specs.Prelude.{◌≡◌, ◌⊎◌, ◌≤◌, ℕ, true, false, List, length, map, Some, None, Ok}
use Rattle.ct_names.specs.Group.{everyone}
use Rattle.ct_names.specs.Membership.{IsIn}
use Rattle.ct_names.specs.Message.{Message}
use Rattle.ct_names.specs.Value.{Value}
use Rattle.ct_model.specs.Cause.{cause}
use Rattle.ct_model.specs.declared.step.Step.{Step}
use Rattle.ct_model.specs.declared.step.Step.TheVariants as step
use Rattle.ct_model.specs.declared.wire.Wire.{Wire}
use Rattle.ct_model.specs.declared.wire.Wire.TheVariants.{Ack, Est}
use Rattle.ct_model.specs.Received.{decided, received_by}
use Rattle.ct_model.specs.Rehearsal.{Rehearsal, line_of, state_of}
use Rattle.ct_model.specs.State.{delivered, is_crashed}
use Rattle.ct_table.specs.Table.{table}
use Rattle.ct_world.specs.World.{member_of}
use Rattle.ct_grammar.specs.declared.act.Act.{Act}
use Rattle.ct_grammar.specs.declared.act.Act.TheVariants.{Receive, Postpone, Lose, Repeat, LoseFrom}
use Rattle.ct_grammar.specs.declared.claim.Name.{Name}
use Rattle.ct_grammar.specs.declared.reports.decision.Decision.{Decision}
use Rattle.ct_grammar.specs.declared.reports.estimate.Estimate.{Estimate}
use Rattle.ct_grammar.specs.declared.fact.Fact.{Fact}
use Rattle.ct_grammar.specs.declared.fact.Fact.TheVariants.{Up, Crashed, Idle, Instance, Round, Phase as InPhase}
use Rattle.ct_grammar.specs.declared.fact.Fact.TheVariants.{Received, Decided, Delivered, Table, Refuses}
use Rattle.ct_grammar.specs.declared.fact.Fact.TheVariants.{May, Waiting, Waits, Heard, Acked, Estimate as Estimated}
use Rattle.ct_grammar.specs.declared.pick.Pick.{Pick}
use Rattle.ct_grammar.specs.declared.pick.Pick.TheVariants.{Serial, First}
use Rattle.ct_grammar.specs.declared.reason.Reason.{Reason}
use Rattle.ct_grammar.specs.declared.reason.Reason.TheVariants.{NotThere, Across, Rules}
use Rattle.ct_play.specs.Acting.{step_of}
use Rattle.ct_play.specs.Cuts.{is_near}
use Rattle.ct_play.specs.Facts.{decision_count, the_name}
use Rattle.ct_play.specs.Picking.{is_so, sender_of, was_sent}
use Rattle.ct_play.specs.Played.{Played}
use Rattle.ct_laws.specs.Facts.{HasGot, Stands}

-- ---- envelopes

-- an envelope that is so named waits at p
abbrev pub HasWaiting : Rehearsal → ℕ → Pick → Type 0
HasWaiting w p (Serial k) = IsIn k (line_of w p)
HasWaiting w p (First carried from) = (k : ℕ) × IsIn k (line_of w p) × (is_so w carried from k ≡ true)

-- no envelope that waits at p carries that, from there; a serial is taken as it stands
abbrev pub HasNone : Rehearsal → ℕ → Pick → Type 0
HasNone w p (Serial k) = ⊥
HasNone w p (First carried from) = (k : ℕ) → IsIn k (line_of w p) → is_so w carried from k ≡ false

-- no envelope that waits at p was sent by a step of these
abbrev pub HasNoneFrom : Rehearsal → ℕ → List ℕ → Type 0
HasNoneFrom w p set = (k q : ℕ) → IsIn k (line_of w p) → sender_of w k ≡ Some q → IsIn q set → ⊥

-- no envelope that was sent to p is so named
abbrev pub HasNever : Rehearsal → ℕ → Pick → Type 0
HasNever w p (Serial k) = ⊥
HasNever w p (First carried from) = (k : ℕ) → 1 ≤ k → k ≤ length (state_of w).sent → was_sent w p carried from k ≡ false

-- p has no envelope that the act names
abbrev pub IsNotThere : Rehearsal → ℕ → Act → Type 0
IsNotThere w p (Receive pick) = HasNone w p pick
IsNotThere w p (Postpone pick) = HasNone w p pick
IsNotThere w p (Lose pick) = HasNone w p pick
IsNotThere w p (Repeat pick) = HasNever w p pick
IsNotThere w p (LoseFrom set) = HasNoneFrom w p set
IsNotThere w p act = ⊥

-- ---- acts

-- p's act comes to a step of which this is so; of an act of several steps, the first
abbrev pub ComesTo : Rehearsal → ℕ → Act → (Step → Type 0) → Type 0
ComesTo w p act P = (step : Step) × (step_of w p act ≡ Ok step) × P step

-- the cut lets the step pass: it is no receipt of an envelope that was sent on another side
abbrev pub IsOpen : Played → Step → Type 0
IsOpen s (step.Receive p k) = is_near s p k ≡ true
IsOpen s other = Unit {0}

-- it is one
abbrev pub IsAcross : Played → Step → Type 0
IsAcross s (step.Receive p k) = is_near s p k ≡ false
IsAcross s other = ⊥

-- the act is refused for that reason; the rules come first, and then the cut
abbrev pub IsRefusedFor : Played → ℕ → Act → Reason → Type 0
IsRefusedFor s p act NotThere = IsNotThere s.rehearsal p act
IsRefusedFor s p act Across = ComesTo s.rehearsal p act (λ step. (cause s.rehearsal step ≡ None) × IsAcross s step)
IsRefusedFor s p act (Rules refusal) = ComesTo s.rehearsal p act (λ step. cause s.rehearsal step ≡ Some refusal)

-- ---- what was got

-- the set is that of the members of which this is so
abbrev pub IsSetOf : (ℕ → Type 0) → List ℕ → Type 0
IsSetOf P set = (q : ℕ) → IsIn q everyone → (P q → IsIn q set) × (IsIn q set → P q)

-- p got an estimate of q for the round
abbrev pub HasEstimate : Rehearsal → ℕ → ℕ → ℕ → Type 0
HasEstimate w p round q = (v : Value) × (ts : ℕ) × HasGot w p (Est (member_of w p).last round q v ts)

-- ---- messages

-- the names are those of the messages, as many and in any order
abbrev pub AreThose : List Name → List Message → Type 0
AreThose names list = (length names ≡ length list) × ((m : Message) → IsIn m list → IsIn (the_name m) names)

-- it was decided for the instance
abbrev pub IsDecided : List (Wire Value) → Decision → Type 0
IsDecided got d = (v : Value) × (decided got d.instance ≡ Some v) × AreThose d.names v

-- each of these was, and so many decisions were got
abbrev pub AreDecided : List (Wire Value) → List Decision → Type 0
AreDecided got decisions = ((d : Decision) → IsIn d decisions → IsDecided got d) × (decision_count got ≡ length decisions)

-- ---- facts

-- the fact holds of member p
abbrev pub IsSo : Played → ℕ → Fact → Type 0
IsSo s p Up = is_crashed (state_of s.rehearsal) p ≡ false
IsSo s p Crashed = is_crashed (state_of s.rehearsal) p ≡ true
IsSo s p Idle = (member_of s.rehearsal p).current ≡ None
IsSo s p (Instance k) = (member_of s.rehearsal p).last ≡ k
IsSo s p (Round r) = Stands s.rehearsal p (λ c. c.round ≡ r)
IsSo s p (InPhase f) = Stands s.rehearsal p (λ c. c.phase ≡ f)
IsSo s p (Received names) = names ≡ map the_name (received_by (state_of s.rehearsal) p)
IsSo s p (Decided decisions) = AreDecided (member_of s.rehearsal p).got decisions
IsSo s p (Delivered names) = names ≡ map the_name (delivered (member_of s.rehearsal p))
IsSo s p (Table values) = values ≡ table (delivered (member_of s.rehearsal p))
IsSo s p (Refuses act reason) = IsRefusedFor s p act reason
IsSo s p (May act) = ComesTo s.rehearsal p act (λ step. (cause s.rehearsal step ≡ None) × IsOpen s step)
IsSo s p (Waiting k) = length (line_of s.rehearsal p) ≡ k
IsSo s p (Waits pick) = HasWaiting s.rehearsal p pick
IsSo s p (Heard set) = IsSetOf (λ q. Stands s.rehearsal p (λ c. HasEstimate s.rehearsal p c.round q)) set
IsSo s p (Acked set) =
    IsSetOf (λ q. Stands s.rehearsal p (λ c. HasGot s.rehearsal p (Ack (member_of s.rehearsal p).last c.round q))) set
IsSo s p (Estimated estimate) =
    (((member_of s.rehearsal p).current ≡ None) × (estimate ≡ None))
    ⊎ Stands s.rehearsal p (λ c. (e : Estimate) × (estimate ≡ Some e) × AreThose e.names c.estimate × (e.ts ≡ c.ts))

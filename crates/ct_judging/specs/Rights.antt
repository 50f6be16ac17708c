-- What would be right in place of a step that is refused.
use Rattle.std.specs.Prelude.{ℕ, zero, suc, ◌==◌, nat_lt, List, [], ◌∷◌, codes, decimal, fold, Option, Some, None, if◌then◌else◌}
use Rattle.std.specs.List.{concat}
use Rattle.std.specs.Option.{option_or}
use Rattle.ct_names.specs.Group.{majority}
use Rattle.ct_names.specs.Value.{Value}
use Rattle.ct_names.specs.declared.limit.Limit.{Limit}
use Rattle.ct_names.specs.declared.limit.Limit.TheVariants.{Cells}
use Rattle.ct_names.specs.declared.limit.TheConstants.{MAX_CELLS}
use Rattle.ct_names.specs.declared.refusal.Refusal.{Refusal}
use Rattle.ct_names.specs.declared.refusal.Refusal.TheVariants.{Full, NotLargest, TooFew, NoProposal, WrongPhase}
use Rattle.ct_model.specs.Actor.{actor}
use Rattle.ct_model.specs.Rehearsal.{Rehearsal}
use Rattle.ct_model.specs.declared.envelope.Envelope.{Envelope}
use Rattle.ct_model.specs.declared.phase.Phase.{Phase}
use Rattle.ct_model.specs.declared.phase.Phase.TheVariants.{Rest, Gather, Wait, Tally}
use Rattle.ct_model.specs.declared.step.Step.{Step}
use Rattle.ct_model.specs.declared.step.Step.TheVariants.{Receive, Enter, Choose, Adopt, Suspect, Conclude}
use Rattle.ct_model.specs.declared.wire.Wire.{Wire}
use Rattle.ct_model.specs.declared.wire.Wire.TheVariants.{Prop}
use Rattle.ct_world.specs.Standing.{all_heard_by, heard_by, replied_by}
use Rattle.ct_world.specs.World.{member_of, if_member}
use Rattle.ct_text.specs.Shapes.{phase_text}
use Rattle.ct_text.specs.Standing.{instance_of, round_of}
use Rattle.ct_show.specs.Details.{size_of}
use Rattle.ct_show.specs.Wires.{letter_at}
use Rattle.ct_judging.specs.Wording.{numbered, numbered_twice}
use Rattle.ct_judging.specs.declared.right.Right.{Right}
use Rattle.ct_judging.specs.declared.right.Right.TheVariants.{Untold, MoreCells, Phase as OfPhase, Unheard}
use Rattle.ct_judging.specs.declared.right.Right.TheVariants.{Largest, Estimates, Replies, Proposal}

-- ---- the largest ts

-- of two members that were heard the one with the larger ts, and that; the first where they have the same
abbrev pub larger_of : Option (ℕ × ℕ) → ℕ → Option (Value × ℕ) → Option (ℕ × ℕ)
larger_of best q None = best
larger_of None q (Some e) = Some (q, e.1)
larger_of (Some b) q (Some e) = if nat_lt b.1 e.1 then Some (q, e.1) else Some b

-- of the first members that p heard for its round the one with the largest ts, and that
abbrev pub largest_heard : Rehearsal → ℕ → ℕ → Option (ℕ × ℕ)
largest_heard w p zero = None
largest_heard w p (suc k) = larger_of (largest_heard w p k) (suc k) (if_member w p (heard_by (member_of w p) (suc k)))

abbrev pub largest_of : Option (ℕ × ℕ) → Right
largest_of None = Untold
largest_of (Some b) = Largest b.0 b.1

-- that what q sent was not heard, where it wasn't
abbrev pub unless_heard : ℕ → Option (Value × ℕ) → Right → Right
unless_heard q None largest = Unheard q
unless_heard q (Some e) largest = largest

abbrev pub choice_for : Rehearsal → Step → Right
choice_for w (Choose p q) =
    unless_heard q (if_member w p (heard_by (member_of w p) q)) (largest_of (largest_heard w p w.setting.members))
choice_for w step = largest_of (largest_heard w (actor step) w.setting.members)

-- ---- another phase

-- the phase of the steps of this kind
abbrev pub phase_for : Step → Right
phase_for (Enter p) = OfPhase Rest
phase_for (Choose p from) = OfPhase Gather
phase_for (Adopt p) = OfPhase Wait
phase_for (Suspect p) = OfPhase Wait
phase_for (Conclude p) = OfPhase Tally
phase_for step = Untold

-- ---- a proposal of another round

abbrev pub round_in : {V : Type 0} → ℕ → Wire V → Option ℕ
round_in i (Prop k r v) = if k == i then Some r else None
round_in i _ = None

-- the round of a proposal of instance i
abbrev pub proposal_in : ℕ → Option (Envelope (Unit {0})) → Option ℕ
proposal_in i None = None
proposal_in i (Some e) = round_in i e.wire

-- the round of the proposal of its instance that p receives in the step
abbrev pub proposed_in : Rehearsal → ℕ → Step → Option ℕ
proposed_in w p (Receive q k) = if q == p then proposal_in (instance_of w p) (letter_at w k) else None
proposed_in w p step = None

-- the same of the last such step
unfoldable pub last_proposal : Rehearsal → ℕ → Option ℕ
last_proposal w p = fold (λ last step. option_or (proposed_in w p step) last) None w.steps

-- ---- what would be right

-- where a limit is passed: more cells, where there may be more
abbrev pub room_for : Rehearsal → Limit → Right
room_for w Cells = if nat_lt w.cells MAX_CELLS then MoreCells else Untold
room_for w limit = Untold

-- where less than a majority was heard, or replied
abbrev pub enough_for : Rehearsal → Step → Right
enough_for w (Choose p from) =
    Estimates (size_of (if_member w p (all_heard_by (member_of w p)))) (majority w.setting.members)
enough_for w (Conclude p) = Replies (size_of (if_member w p (replied_by (member_of w p)))) (majority w.setting.members)
enough_for w step = Untold

abbrev pub right_of : Rehearsal → Step → Refusal → Right
right_of w step (Full limit) = room_for w limit
right_of w step NotLargest = choice_for w step
right_of w step WrongPhase = phase_for step
right_of w step TooFew = enough_for w step
right_of w step NoProposal = Proposal (round_of w (actor step)) (last_proposal w (actor step))
right_of w step refusal = Untold

-- ---- its text

abbrev pub count_text : ℕ → List ℕ → ℕ → List ℕ
count_text count words needed = concat (codes "; " ∷ decimal count ∷ words ∷ decimal needed ∷ codes " needed" ∷ [])

abbrev pub proposal_text : ℕ → Option ℕ → List ℕ
proposal_text round None = numbered (codes "; has no proposal of round ") round
proposal_text round (Some last) =
    numbered_twice (codes "; has the proposal of round ") last (codes ", none of round ") round

unfoldable pub phase_hint : Phase → List ℕ
phase_hint phase = concat (codes "; a step of the phase " ∷ phase_text phase ∷ [])

unfoldable pub unheard_text : ℕ → List ℕ
unheard_text q = concat (codes "; " ∷ decimal q ∷ codes " was not heard" ∷ [])

unfoldable pub right_text : Right → List ℕ
right_text Untold = []
right_text MoreCells = codes "; cells 1024 at the top gives room for more"
right_text (OfPhase phase) = phase_hint phase
right_text (Unheard q) = unheard_text q
right_text (Largest from ts) = numbered_twice (codes "; the largest ts heard is ") ts (codes ", from ") from
right_text (Estimates heard needed) = count_text heard (codes " heard, ") needed
right_text (Replies came needed) = count_text came (codes " replied, ") needed
right_text (Proposal round last) = proposal_text round last

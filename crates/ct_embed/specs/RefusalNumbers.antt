-- The numbers of refusals, as bindings/ct.h has them.
use Rattle.std.specs.Prelude.{ℕ, Option, Some, None}
use Rattle.ct_names.specs.declared.limit.Limit.{Limit}
use Rattle.ct_names.specs.declared.limit.Limit.TheVariants.{Submissions, Instances, Rounds, Envelopes, Cells, Steps}
use Rattle.ct_names.specs.declared.refusal.Refusal.{Refusal}
use Rattle.ct_names.specs.declared.refusal.Refusal.TheVariants.{NoSuchMember, Crashed, NotWaiting, Busy, Nothing, Idle, WrongPhase}
use Rattle.ct_names.specs.declared.refusal.Refusal.TheVariants.{Decided, TooFew, NotLargest, NoProposal, HasProposal, Undecided}
use Rattle.ct_names.specs.declared.refusal.Refusal.TheVariants.{BadCommand, Full, OutOfMemory, Board, NotSent, StillWaiting}

abbrev pub limit_number : Limit → ℕ
limit_number Submissions = 17
limit_number Instances = 18
limit_number Rounds = 19
limit_number Envelopes = 20
limit_number Cells = 21
limit_number Steps = 22

abbrev pub refusal_number : Refusal → ℕ
refusal_number NoSuchMember = 1
refusal_number Crashed = 2
refusal_number NotWaiting = 3
refusal_number Busy = 4
refusal_number Nothing = 5
refusal_number Idle = 6
refusal_number WrongPhase = 7
refusal_number Decided = 8
refusal_number TooFew = 9
refusal_number NotLargest = 10
refusal_number NoProposal = 11
refusal_number HasProposal = 12
refusal_number Undecided = 13
refusal_number BadCommand = 14
refusal_number NotSent = 15
refusal_number StillWaiting = 16
refusal_number (Full limit) = limit_number limit
refusal_number OutOfMemory = 23
refusal_number Board = 24

-- what is told of whether a step is allowed: 0, or why not
abbrev pub verdict_number : Option Refusal → ℕ
verdict_number None = 0
verdict_number (Some refusal) = refusal_number refusal

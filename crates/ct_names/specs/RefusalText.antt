-- How limits and refusals are shown: by their names.
use Rattle.std.specs.Prelude.{ℕ, List, [], ◌∷◌, codes}
use Rattle.std.specs.List.{concat}
use Rattle.ct_names.specs.declared.limit.Limit.{Limit}
use Rattle.ct_names.specs.declared.limit.Limit.TheVariants.{Submissions, Instances, Rounds, Envelopes, Cells, Steps}
use Rattle.ct_names.specs.declared.refusal.Refusal.{Refusal}
use Rattle.ct_names.specs.declared.refusal.Refusal.TheVariants.{NoSuchMember, Crashed, NotWaiting, Busy, Nothing, Idle, WrongPhase, Decided}
use Rattle.ct_names.specs.declared.refusal.Refusal.TheVariants.{TooFew, NotLargest, NoProposal, HasProposal, Undecided, BadCommand, Full}
use Rattle.ct_names.specs.declared.refusal.Refusal.TheVariants.{OutOfMemory, Board, NotSent, StillWaiting}

abbrev pub limit_text : Limit → List ℕ
limit_text Submissions = codes "Submissions"
limit_text Instances = codes "Instances"
limit_text Rounds = codes "Rounds"
limit_text Envelopes = codes "Envelopes"
limit_text Cells = codes "Cells"
limit_text Steps = codes "Steps"

abbrev pub refusal_text : Refusal → List ℕ
refusal_text NoSuchMember = codes "NoSuchMember"
refusal_text Crashed = codes "Crashed"
refusal_text NotWaiting = codes "NotWaiting"
refusal_text Busy = codes "Busy"
refusal_text Nothing = codes "Nothing"
refusal_text Idle = codes "Idle"
refusal_text WrongPhase = codes "WrongPhase"
refusal_text Decided = codes "Decided"
refusal_text TooFew = codes "TooFew"
refusal_text NotLargest = codes "NotLargest"
refusal_text NoProposal = codes "NoProposal"
refusal_text HasProposal = codes "HasProposal"
refusal_text Undecided = codes "Undecided"
refusal_text BadCommand = codes "BadCommand"
refusal_text (Full limit) = concat (codes "Full(" ∷ limit_text limit ∷ codes ")" ∷ [])
refusal_text OutOfMemory = codes "OutOfMemory"
refusal_text Board = codes "Board"
refusal_text NotSent = codes "NotSent"
refusal_text StillWaiting = codes "StillWaiting"

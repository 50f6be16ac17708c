-- Why acts are refused, by name.
use Rattle.std.specs.Prelude.{ℕ, List, Option, Some, None, option_map, codes, if◌then◌else◌}
use Rattle.std.specs.Str.{bytes_eq}
use Rattle.ct_names.specs.RefusalText.{refusal_text}
use Rattle.ct_names.specs.declared.limit.Limit.TheVariants.{Submissions, Instances, Rounds, Envelopes, Cells, Steps}
use Rattle.ct_names.specs.declared.refusal.Refusal.{Refusal}
use Rattle.ct_names.specs.declared.refusal.Refusal.TheVariants.{NoSuchMember, Crashed, NotWaiting, Busy, Nothing, Idle, WrongPhase, Decided}
use Rattle.ct_names.specs.declared.refusal.Refusal.TheVariants.{TooFew, NotLargest, NoProposal, HasProposal, Undecided, BadCommand, Full}
use Rattle.ct_names.specs.declared.refusal.Refusal.TheVariants.{NotSent, StillWaiting}
use Rattle.ct_grammar.specs.Words.{Word}
use Rattle.ct_grammar.specs.declared.reason.Reason.{Reason}
use Rattle.ct_grammar.specs.declared.reason.Reason.TheVariants.{NotThere, Across, Rules}

-- how a reason is shown: by its name
abbrev pub reason_text : Reason → List ℕ
reason_text NotThere = codes "NotThere"
reason_text Across = codes "Across"
reason_text (Rules refusal) = refusal_text refusal

-- a limit that a step would pass
unfoldable pub full_of : Word → Option Refusal
full_of name =
    if bytes_eq name (codes "Full(Submissions)") then Some (Full Submissions) else (
    if bytes_eq name (codes "Full(Instances)") then Some (Full Instances) else (
    if bytes_eq name (codes "Full(Rounds)") then Some (Full Rounds) else (
    if bytes_eq name (codes "Full(Envelopes)") then Some (Full Envelopes) else (
    if bytes_eq name (codes "Full(Cells)") then Some (Full Cells) else (
    if bytes_eq name (codes "Full(Steps)") then Some (Full Steps) else None)))))

-- a refusal by the state of an instance; otherwise by a limit
unfoldable pub step_reason : Word → Option Refusal
step_reason name =
    if bytes_eq name (codes "Busy") then Some Busy else (
    if bytes_eq name (codes "Nothing") then Some Nothing else (
    if bytes_eq name (codes "Idle") then Some Idle else (
    if bytes_eq name (codes "WrongPhase") then Some WrongPhase else (
    if bytes_eq name (codes "Decided") then Some Decided else (
    if bytes_eq name (codes "TooFew") then Some TooFew else (
    if bytes_eq name (codes "NotLargest") then Some NotLargest else (
    if bytes_eq name (codes "NoProposal") then Some NoProposal else (
    if bytes_eq name (codes "HasProposal") then Some HasProposal else (
    if bytes_eq name (codes "Undecided") then Some Undecided else full_of name)))))))))

-- a reason, by its name; want of memory and a board's refusal are none, as no rule gives them
unfoldable pub reason_of : Word → Option Reason
reason_of name =
    if bytes_eq name (codes "NotThere") then Some NotThere else (
    if bytes_eq name (codes "Across") then Some Across else (
    if bytes_eq name (codes "NoSuchMember") then Some (Rules NoSuchMember) else (
    if bytes_eq name (codes "Crashed") then Some (Rules Crashed) else (
    if bytes_eq name (codes "NotWaiting") then Some (Rules NotWaiting) else (
    if bytes_eq name (codes "BadCommand") then Some (Rules BadCommand) else (
    if bytes_eq name (codes "NotSent") then Some (Rules NotSent) else (
    if bytes_eq name (codes "StillWaiting") then Some (Rules StillWaiting) else option_map Rules (step_reason name))))))))

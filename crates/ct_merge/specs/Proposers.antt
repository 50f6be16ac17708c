-- Proposals that are named without their sender: a round's coordinator alone sends one.
use Rattle.std.specs.Prelude.{ℕ, Bool, true, false, Result, Ok, Err, None, if◌then◌else◌}
use Rattle.ct_names.specs.Group.{coordinator}
use Rattle.ct_grammar.specs.declared.act.Act.{Act}
use Rattle.ct_grammar.specs.declared.act.Act.TheVariants as acts
use Rattle.ct_grammar.specs.declared.carried.Carried.{Carried}
use Rattle.ct_grammar.specs.declared.carried.Carried.TheVariants.{Prop}
use Rattle.ct_grammar.specs.declared.pick.Pick.{Pick}
use Rattle.ct_grammar.specs.declared.pick.Pick.TheVariants.{First}
use Rattle.ct_merge.specs.declared.entry.NoEntry.{NoEntry}
use Rattle.ct_merge.specs.declared.entry.NoEntry.TheVariants.{NoSender}
use Rattle.ct_merge.specs.declared.full_name.FullName.{FullName}
use Rattle.ct_merge.specs.declared.log_act.LogAct.{LogAct}
use Rattle.ct_merge.specs.declared.log_act.LogAct.TheVariants.{Receive}
use Rattle.ct_merge.specs.declared.log_line.LogLine.{LogLine}

-- it is a proposal
abbrev pub is_proposal : Carried → Bool
is_proposal (Prop k r) = true
is_proposal _ = false

abbrev pub pick_lacks_sender : Pick → Bool
pick_lacks_sender (First carried None) = is_proposal carried
pick_lacks_sender _ = false

-- the act receives a proposal that is named without its sender
abbrev pub act_lacks_sender : Act → Bool
act_lacks_sender (acts.Receive pick) = pick_lacks_sender pick
act_lacks_sender _ = false

-- a receipt without a sender: of a proposal, which stands there as no member's until the group is known
abbrev pub without_sender : Carried → Result LogAct NoEntry
without_sender (Prop k r) = Ok (Receive (record { carried = Prop k r; from = 0 }))
without_sender _ = Err NoSender

-- who sends this in a group of n: a proposal its round's coordinator, all else this one
abbrev pub sender_in : ℕ → ℕ → Carried → ℕ
sender_in n p (Prop k r) = coordinator n r
sender_in n p _ = p

abbrev pub name_in : ℕ → FullName → FullName
name_in n name = record name { from = sender_in n name.from name.carried }

abbrev pub act_in : ℕ → LogAct → LogAct
act_in n (Receive name) = Receive (name_in n name)
act_in n act = act

-- the line in a group of n: a proposal that is named without its sender is the round's coordinator's
abbrev pub line_in : ℕ → LogLine → LogLine
line_in n line =
    if line.lacks_sender then record line { act = act_in n line.act; lacks_sender = false } else line

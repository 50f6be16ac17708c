-- Lines of runs that are made smaller, and other lines in their place.
use Rattle.std.specs.Prelude.{ℕ, Option, Some, None, Result, Ok, find, fold, is_none, is_ok, option_map, if◌then◌else◌, List}
use Rattle.std.specs.List.{range_with_len}
use Rattle.std.specs.Option.{option_or}
use Rattle.std.specs.Result.{result_unwrap_or}
use Rattle.ct_model.specs.Cause.{cause}
use Rattle.ct_model.specs.Rehearsal.{Rehearsal}
use Rattle.ct_model.specs.declared.step.Step.TheVariants as step
use Rattle.ct_grammar.specs.declared.act.Act.{Act}
use Rattle.ct_grammar.specs.declared.act.Act.TheVariants.{Receive, Choose, Adopt, Suspect, Deliver, Follow, Postpone, Lose, Repeat}
use Rattle.ct_grammar.specs.declared.pick.Pick.{Pick}
use Rattle.ct_grammar.specs.declared.pick.Pick.TheVariants.{Serial, First}
use Rattle.ct_play.specs.Acting.{go_on, step_of, stepped}
use Rattle.ct_play.specs.Picking.{picked, repeated, sender_of}
use Rattle.ct_play.specs.Played.{Played}
use Rattle.ct_play.specs.declared.line_fault.LineFault.{LineFault}
use Rattle.ct_shrink.specs.declared.line.Line.{Line}

-- ---- what lines lead to

-- after the step of a line
unfoldable pub after_line : Played → Line → Result Played LineFault
after_line s line = go_on (step_of s.rehearsal line.member line.act) (stepped s)

-- after those of lines, one after the other
abbrev pub after_lines : Played → List Line → Result Played LineFault
after_lines s lines = fold (λ r line. go_on r (λ t. after_line t line)) (Ok s) lines

-- ---- other lines

-- another name of an envelope: with the sender of the first one of this name, whoever sent it
abbrev pub other_pick : Rehearsal → ℕ → Pick → Option Pick
other_pick w p (Serial k) = None
other_pick w p (First carried from) = option_map (λ k. First carried (sender_of w k)) (picked w p (First carried None))

-- the same of an envelope that is repeated
abbrev pub other_repeat : Rehearsal → ℕ → Pick → Option Pick
other_repeat w p (Serial k) = None
other_repeat w p (First carried from) = option_map (λ k. First carried (sender_of w k)) (repeated w p (First carried None))

-- the least member whose estimate p may choose: of those that it heard with the largest ts
unfoldable pub best_choice : Rehearsal → ℕ → Option ℕ
best_choice w p = find (λ q. is_none (cause w (step.Choose p q))) (range_with_len 1 w.setting.members)

-- what p may do in place of an act that is refused: take the same from another sender, suspect for adopt, follow for deliver and
-- each the other way, make the best choice
abbrev pub other_act : Rehearsal → ℕ → Act → Option Act
other_act w p (Receive pick) = option_map Receive (other_pick w p pick)
other_act w p (Postpone pick) = option_map Postpone (other_pick w p pick)
other_act w p (Lose pick) = option_map Lose (other_pick w p pick)
other_act w p (Repeat pick) = option_map Repeat (other_repeat w p pick)
other_act w p (Choose q) = option_map Choose (best_choice w p)
other_act w p Adopt = Some Suspect
other_act w p Suspect = Some Adopt
other_act w p Deliver = Some Follow
other_act w p Follow = Some Deliver
other_act w p _ = None

-- the line of that act
unfoldable pub other_line : Rehearsal → Line → Option Line
other_line w line = option_map (λ act. record { member = line.member; act = act }) (other_act w line.member line.act)

-- ---- how lines are taken

-- the line, if it is allowed
unfoldable pub allowed : Played → Option Line → Option Line
allowed s None = None
allowed s (Some line) = if is_ok (after_line s line) then Some line else None

-- the line as it is taken: itself where it is allowed, else the other one where that is; None where it is left out
unfoldable pub taken : Played → Line → Option Line
taken s line = option_or (allowed s (Some line)) (allowed s (other_line s.rehearsal line))

-- after a line that was taken, or left out
unfoldable pub after_taken : Played → Option Line → Played
after_taken s None = s
after_taken s (Some line) = result_unwrap_or (after_line s line) s

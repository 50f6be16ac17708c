-- Names, messages, refusals and steps are written as the values that they are.
use Rattle.ct_json.proofs.Common.{◌≡◌, [], ◌++◌, codes, decimal, refl, ap}
use Rattle.ct_json.proofs.Common.{arith, compact_text, Set, message_text, refusal_text, Step, Submit, step_entry}
use Rattle.ct_json.proofs.Common.{command_data, step_data, phase_text, IsPlain}
use Rattle.json.proofs.OnLiterals.{json_on_literals}
use Rattle.ct_names.specs.declared.command.Command.{Command}
use Rattle.ct_names.specs.declared.limit.Limit.TheVariants.{Submissions}
use Rattle.ct_names.specs.declared.refusal.Refusal.{Refusal}
use Rattle.ct_names.specs.declared.refusal.Refusal.TheVariants.{Full}
use Rattle.ct_names.specs.Message.{Message}
use Rattle.ct_model.specs.declared.phase.Phase.{Phase}
use Rattle.ct_model.specs.declared.phase.Phase.TheVariants.{Rest}
use Rattle.ct_model.specs.StepText.{command_text, step_text}
use Rattle.ct_json.proofs.Unescaped.{both_self, decimal_self, quoted_self}

pub message_plain : (m : Message) → IsPlain (message_text m)
message_plain m = quoted_self (message_text m) (both_self (decimal m.origin) _ (decimal_self m.origin) (
  record { no_quote = λ e. omega arith; no_backslash = λ e. omega arith; no_control = omega arith },
  both_self (decimal m.number) [] (decimal_self m.number) tt,
))

pub name_plain : (s : Step) → IsPlain (step_entry s).name
unfolding json_on_literals
name_plain (Submit p c) = refl
name_plain _ = refl

pub phase_plain : (phase : Phase) → IsPlain (phase_text phase)
unfolding json_on_literals
phase_plain Rest = refl
phase_plain _ = refl

pub refusal_plain : (refusal : Refusal) → IsPlain (refusal_text refusal)
unfolding json_on_literals
refusal_plain (Full Submissions) = refl
refusal_plain _ = refl

-- ---- steps, as a record has them

command_same : (c : Command) → command_text c ≡ compact_text (command_data c)
unfolding command_text json_on_literals
command_same (Set register n) = refl
command_same _ = refl

pub step_same : (s : Step) → step_text s ≡ compact_text (step_data s)
unfolding step_text json_on_literals
step_same (Submit p c) = ap (λ t. codes "[\"submit\"," ++ (decimal p ++ (codes "," ++ (t ++ codes "]")))) (command_same c)
step_same _ = refl

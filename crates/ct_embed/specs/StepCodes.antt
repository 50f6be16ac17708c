-- Steps by their numbers, as bindings/ct.h has them.
use Rattle.std.specs.Prelude.{ℕ, ◌==◌, ◌&&◌, nat_lt, if◌then◌else◌, Option, Some, None, option_map}
use Rattle.ct_names.specs.declared.command.Command.{Command}
use Rattle.ct_names.specs.declared.command.Command.TheVariants.{Set, Add, Copy}
use Rattle.ct_model.specs.declared.step.Step.{Step}
use Rattle.ct_model.specs.declared.step.Step.TheVariants.{Submit, Receive, Begin, Enter, Choose, Adopt, Suspect, Conclude, Deliver}
use Rattle.ct_model.specs.declared.step.Step.TheVariants.{Follow, Crash, Postpone, Lose, Repeat}
use Rattle.ct_embed.specs.declared.step_code.StepCode.{StepCode}

abbrev pub code : ℕ → ℕ → ℕ → ℕ → ℕ → StepCode
code kind member a b c = record { c = c; a = a; b = b; kind = kind; member = member }

-- ---- the numbers of a step

-- of a kind, with one number behind its member
abbrev pub behind_code : ℕ → ℕ → ℕ → StepCode
behind_code kind member a = code kind member a 0 0

abbrev pub step_code : Step → StepCode
step_code (Submit p (Set register value)) = code 1 p 1 register value
step_code (Submit p (Add register amount)) = code 1 p 2 register amount
step_code (Submit p (Copy from to)) = code 1 p 3 from to
step_code (Receive p serial) = behind_code 2 p serial
step_code (Begin p) = behind_code 3 p 0
step_code (Enter p) = behind_code 4 p 0
step_code (Choose p from) = behind_code 5 p from
step_code (Adopt p) = behind_code 6 p 0
step_code (Suspect p) = behind_code 7 p 0
step_code (Conclude p) = behind_code 8 p 0
step_code (Deliver p) = behind_code 9 p 0
step_code (Follow p) = behind_code 10 p 0
step_code (Crash p) = behind_code 11 p 0
step_code (Postpone p serial) = behind_code 12 p serial
step_code (Lose p serial) = behind_code 13 p serial
step_code (Repeat p serial) = behind_code 14 p serial

-- the numbers of no step
abbrev pub no_code : StepCode
no_code = code 0 0 0 0 0

abbrev pub next_code : Option Step → StepCode
next_code None = no_code
next_code (Some step) = step_code step

-- ---- the step that has these numbers

-- a member or a register, as far as it is a byte
abbrev pub with_byte : {A : Type 0} → ℕ → (ℕ → A) → Option A
with_byte n f = if nat_lt n 256 then Some (f n) else None

abbrev pub command_of : StepCode → Option Command
command_of s =
    if s.a == 1 then Some (Set s.b s.c)
    else if s.a == 2 then Some (Add s.b s.c)
    else if s.a == 3 then with_byte s.c (Copy s.b)
    else None

-- of a kind that has nothing behind its member
abbrev pub plain_step : ℕ → ℕ → Option Step
plain_step kind p =
    if kind == 3 then Some (Begin p)
    else if kind == 4 then Some (Enter p)
    else if kind == 6 then Some (Adopt p)
    else if kind == 7 then Some (Suspect p)
    else if kind == 8 then Some (Conclude p)
    else if kind == 9 then Some (Deliver p)
    else if kind == 10 then Some (Follow p)
    else if kind == 11 then Some (Crash p)
    else None

-- of a kind that has at most one number behind its member
abbrev pub short_step : ℕ → ℕ → ℕ → Option Step
short_step kind p a =
    if kind == 2 then Some (Receive p a)
    else if kind == 5 then with_byte a (Choose p)
    else if kind == 12 then Some (Postpone p a)
    else if kind == 13 then Some (Lose p a)
    else if kind == 14 then Some (Repeat p a)
    else if a == 0 then plain_step kind p
    else None

abbrev pub step_of : StepCode → Option Step
step_of s =
    if s.kind == 1 then option_map (Submit s.member) (command_of s)
    else if (s.b == 0) && (s.c == 0) then short_step s.kind s.member s.a
    else None

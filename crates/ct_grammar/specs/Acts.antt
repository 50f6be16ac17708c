-- What members do, in words.
use Rattle.std.specs.Prelude.{ℕ, List, [], ◌∷◌, length, Option, Some, None, Result, Ok, Err, codes, if◌then◌else◌}
use Rattle.std.specs.Option.{ok_or}
use Rattle.std.specs.Str.{bytes_eq}
use Rattle.ct_names.specs.declared.command.Command.{Command}
use Rattle.ct_names.specs.declared.command.Command.TheVariants.{Set, Add, Copy}
use Rattle.ct_grammar.specs.declared.act.Act.{Act}
use Rattle.ct_grammar.specs.declared.act.Act.TheVariants.{Submit, Receive, Begin, Enter, Choose, Adopt, Suspect, Conclude, Deliver}
use Rattle.ct_grammar.specs.declared.act.Act.TheVariants.{Follow, Crash, Postpone, Lose, Repeat, LoseFrom}
use Rattle.ct_grammar.specs.declared.pick.Pick.{Pick}
use Rattle.ct_grammar.specs.declared.unfit.Unfit.{Unfit}
use Rattle.ct_grammar.specs.declared.unfit.Unfit.TheVariants.{End, Word as Other}
use Rattle.ct_grammar.specs.declared.wanted.Wanted.{Wanted}
use Rattle.ct_grammar.specs.declared.wanted.Wanted.TheVariants.{Command as CommandWanted, Register, Amount, Member, Loss, Envelope, Nothing}
use Rattle.ct_grammar.specs.Words.{Word}
use Rattle.ct_grammar.specs.Unfits.{◌>>=◌, map_ok}
use Rattle.ct_grammar.specs.Numbers.{max_u8, max_u64}
use Rattle.ct_grammar.specs.Leading.{number_first, member_first, set_first}
use Rattle.ct_grammar.specs.Picks.{pick_first, behind_pick}

-- a register, and a number up to this one, and the words behind them
unfoldable pub operands : ℕ → Wanted → List Word → Result ((ℕ × ℕ) × List Word) Unfit
operands high wanted words = do
  register ← member_first Register words
  n ← number_first 0 high wanted register.1
  Ok ((register.0, n.0), n.1)

-- the command of this name, and the words behind it
unfoldable pub named_command : Wanted → Word → List Word → Result (Command × List Word) Unfit
named_command wanted name words =
    if bytes_eq name (codes "set") then map_ok (λ r. (Set r.0.0 r.0.1, r.1)) (operands max_u64 Amount words) else (
    if bytes_eq name (codes "add") then map_ok (λ r. (Add r.0.0 r.0.1, r.1)) (operands max_u64 Amount words) else (
    if bytes_eq name (codes "copy") then map_ok (λ r. (Copy r.0.0 r.0.1, r.1)) (operands max_u8 Register words) else (
    Err (Other (length words) wanted))))

-- `set R V`, `add R V` or `copy F T`, and the words behind it
unfoldable pub command_first : Wanted → List Word → Result (Command × List Word) Unfit
command_first wanted [] = Err (End wanted)
command_first wanted (name ∷ words) = named_command wanted name words

-- the acts of one word
unfoldable pub short_act : Word → Option Act
short_act name =
    if bytes_eq name (codes "begin") then Some Begin else (
    if bytes_eq name (codes "enter") then Some Enter else (
    if bytes_eq name (codes "adopt") then Some Adopt else (
    if bytes_eq name (codes "suspect") then Some Suspect else (
    if bytes_eq name (codes "conclude") then Some Conclude else (
    if bytes_eq name (codes "deliver") then Some Deliver else (
    if bytes_eq name (codes "follow") then Some Follow else (
    if bytes_eq name (codes "crash") then Some Crash else None)))))))

-- the loss of an envelope, or of all that certain members sent, and the words behind it
unfoldable pub lose_first : List Word → Result (Act × List Word) Unfit
lose_first [] = Err (End Loss)
lose_first (word ∷ words) =
    if bytes_eq word (codes "from") then map_ok (λ r. (LoseFrom r.0, r.1)) (set_first words) else (
    map_ok (λ r. (Lose r.0, r.1)) (pick_first Loss (word ∷ words)))

-- the act of this name on the envelope
abbrev pub act_on : Word → Pick → Act
act_on name pick =
    if bytes_eq name (codes "receive") then Receive pick else (
    if bytes_eq name (codes "postpone") then Postpone pick else Repeat pick)

-- the acts on an envelope, and the words behind them; otherwise those of one word
unfoldable pub picked_act : Wanted → Word → List Word → Result (Act × List Word) Unfit
picked_act wanted name words =
    if bytes_eq name (codes "receive") then map_ok (λ r. (Receive r.0, r.1)) (pick_first Envelope words) else (
    if bytes_eq name (codes "postpone") then map_ok (λ r. (Postpone r.0, r.1)) (pick_first Envelope words) else (
    if bytes_eq name (codes "repeat") then map_ok (λ r. (Repeat r.0, r.1)) (pick_first Envelope words) else (
    map_ok (λ act. (act, words)) (ok_or (short_act name) (Other (length words) wanted)))))

-- the acts of several words, and the words behind them: `submit` a command, `choose` a member, `lose`, those on an envelope;
-- otherwise those of one word
unfoldable pub long_act : Wanted → Word → List Word → Result (Act × List Word) Unfit
long_act wanted name words =
    if bytes_eq name (codes "submit") then map_ok (λ r. (Submit r.0, r.1)) (command_first CommandWanted words) else (
    if bytes_eq name (codes "choose") then map_ok (λ r. (Choose r.0, r.1)) (member_first Member words) else (
    if bytes_eq name (codes "lose") then lose_first words else picked_act wanted name words))

-- the act that the first words say, and the words behind it
unfoldable pub act_first : Wanted → List Word → Result (Act × List Word) Unfit
act_first wanted [] = Err (End wanted)
act_first wanted (name ∷ words) = long_act wanted name words

-- what could stand behind the act, where nothing is stated
abbrev pub behind_act : Act → Wanted
behind_act (Submit command) = Nothing
behind_act (Receive pick) = behind_pick pick
behind_act Begin = Nothing
behind_act Enter = Nothing
behind_act (Choose p) = Nothing
behind_act Adopt = Nothing
behind_act Suspect = Nothing
behind_act Conclude = Nothing
behind_act Deliver = Nothing
behind_act Follow = Nothing
behind_act Crash = Nothing
behind_act (Postpone pick) = behind_pick pick
behind_act (Lose pick) = behind_pick pick
behind_act (Repeat pick) = behind_pick pick
behind_act (LoseFrom set) = Nothing

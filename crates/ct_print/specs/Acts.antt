-- What members do, as lines say it. A text is its parts, with a space between each two.
use Rattle.std.specs.Prelude.{ℕ, List, [], ◌∷◌, Option, Some, None, codes, decimal}
use Rattle.std.specs.List.{concat}
use Rattle.ct_names.specs.declared.command.Command.{Command}
use Rattle.ct_names.specs.declared.command.Command.TheVariants.{Set, Add, Copy}
use Rattle.ct_grammar.specs.declared.act.Act.{Act}
use Rattle.ct_grammar.specs.declared.act.Act.TheVariants.{Submit, Receive, Begin, Enter, Choose, Adopt, Suspect, Conclude, Deliver}
use Rattle.ct_grammar.specs.declared.act.Act.TheVariants.{Follow, Crash, Postpone, Lose, Repeat, LoseFrom}
use Rattle.ct_grammar.specs.declared.carried.Carried.{Carried}
use Rattle.ct_grammar.specs.declared.carried.Carried.TheVariants.{Data, Est, Prop, Ack, Nack, Dec}
use Rattle.ct_grammar.specs.declared.pick.Pick.{Pick}
use Rattle.ct_grammar.specs.declared.pick.Pick.TheVariants.{Serial, First}
use Rattle.ct_grammar.specs.Words.{Word, text_of}
use Rattle.ct_print.specs.Members.{set_text}

-- a message, as `1.2`
unfoldable pub message_word : ℕ → ℕ → Word
message_word origin number = concat (decimal origin ∷ codes "." ∷ decimal number ∷ [])

-- an instance and a round, as `1/2`
unfoldable pub place_word : ℕ → ℕ → Word
place_word instance round = concat (decimal instance ∷ codes "/" ∷ decimal round ∷ [])

-- what an envelope carries
unfoldable pub carried_text : Carried → List ℕ
carried_text (Data origin number) = text_of (codes "data" ∷ message_word origin number ∷ [])
carried_text (Est i r) = text_of (codes "est" ∷ place_word i r ∷ [])
carried_text (Prop i r) = text_of (codes "prop" ∷ place_word i r ∷ [])
carried_text (Ack i r) = text_of (codes "ack" ∷ place_word i r ∷ [])
carried_text (Nack i r) = text_of (codes "nack" ∷ place_word i r ∷ [])
carried_text (Dec i r) = text_of (codes "dec" ∷ place_word i r ∷ [])

-- what it carries, sent by a member where one is named
unfoldable pub sent_text : Carried → Option ℕ → List ℕ
sent_text carried None = carried_text carried
sent_text carried (Some p) = text_of (carried_text carried ∷ codes "from" ∷ decimal p ∷ [])

-- an envelope
unfoldable pub pick_text : Pick → List ℕ
pick_text (Serial n) = concat (codes "#" ∷ decimal n ∷ [])
pick_text (First carried from) = sent_text carried from

-- a command
unfoldable pub command_text : Command → List ℕ
command_text (Set register value) = text_of (codes "set" ∷ decimal register ∷ decimal value ∷ [])
command_text (Add register amount) = text_of (codes "add" ∷ decimal register ∷ decimal amount ∷ [])
command_text (Copy from to) = text_of (codes "copy" ∷ decimal from ∷ decimal to ∷ [])

-- what a member does
unfoldable pub act_text : Act → List ℕ
act_text (Submit command) = text_of (codes "submit" ∷ command_text command ∷ [])
act_text (Receive pick) = text_of (codes "receive" ∷ pick_text pick ∷ [])
act_text Begin = codes "begin"
act_text Enter = codes "enter"
act_text (Choose p) = text_of (codes "choose" ∷ decimal p ∷ [])
act_text Adopt = codes "adopt"
act_text Suspect = codes "suspect"
act_text Conclude = codes "conclude"
act_text Deliver = codes "deliver"
act_text Follow = codes "follow"
act_text Crash = codes "crash"
act_text (Postpone pick) = text_of (codes "postpone" ∷ pick_text pick ∷ [])
act_text (Lose pick) = text_of (codes "lose" ∷ pick_text pick ∷ [])
act_text (Repeat pick) = text_of (codes "repeat" ∷ pick_text pick ∷ [])
act_text (LoseFrom set) = text_of (codes "lose" ∷ codes "from" ∷ set_text set ∷ [])

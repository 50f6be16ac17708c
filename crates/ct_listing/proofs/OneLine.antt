-- What is written of a line has no line feed.
use Rattle.std.proofs.Common.{◌≡◌, ℕ, true, List, [], ◌∷◌, ◌++◌, refl, Option, Some, None}
use Rattle.std.specs.Prelude.{decimal, codes}
use Rattle.std.specs.List.{concat}
use Rattle.ct_grammar.specs.declared.act.Act.{Act}
use Rattle.ct_grammar.specs.declared.act.Act.TheVariants.{LoseFrom}
use Rattle.ct_grammar.specs.declared.carried.Carried.{Carried}
use Rattle.ct_grammar.specs.declared.carried.Carried.TheVariants.{Data}
use Rattle.ct_grammar.specs.declared.pick.Pick.{Pick}
use Rattle.ct_grammar.specs.declared.pick.Pick.TheVariants.{Serial, First}
use Rattle.ct_names.specs.declared.command.Command.{Command}
use Rattle.ct_names.specs.declared.command.Command.TheVariants.{Set, Add, Copy}
use Rattle.ct_listing.specs.Leading.{one_line}
use Rattle.ct_listing.specs.Expecting.{IsLone}
use Rattle.ct_print.specs.Acts.{message_word, place_word, carried_text, sent_text, pick_text, command_text, act_text}
use Rattle.ct_listing.proofs.Pieces.{decimal_piece, pair_piece, marks_line, line_append}

pub decimal_line : (n : ℕ) → one_line (decimal n) ≡ true
decimal_line n = marks_line (decimal n) (decimal_piece n).marks

-- a word, and a text behind it
pub two_lines : (a b : List ℕ) → one_line a ≡ true → one_line b ≡ true → one_line (a ++ 32 ∷ b) ≡ true
two_lines a b h k = line_append a (32 ∷ b) h k

message_line : (o n : ℕ) → one_line (message_word o n) ≡ true
unfolding message_word
message_line o n = marks_line (concat (decimal o ∷ (46 ∷ []) ∷ decimal n ∷ [])) (pair_piece o 46 n refl).marks

place_line : (i r : ℕ) → one_line (place_word i r) ≡ true
unfolding place_word
place_line i r = marks_line (concat (decimal i ∷ (47 ∷ []) ∷ decimal r ∷ [])) (pair_piece i 47 r refl).marks

carried_line : (carried : Carried) → one_line (carried_text carried) ≡ true
unfolding carried_text
carried_line (Data o n) = message_line o n
carried_line _ = place_line _ _

sent_line : (carried : Carried) (from : Option ℕ) → one_line (sent_text carried from) ≡ true
unfolding sent_text
sent_line carried None = carried_line carried
sent_line carried (Some p) = two_lines (carried_text carried) (codes "from" ++ 32 ∷ decimal p) (carried_line carried) (decimal_line p)

pick_line : (pick : Pick) → one_line (pick_text pick) ≡ true
unfolding pick_text
pick_line (Serial n) = line_append (codes "#") (decimal n ++ []) refl (line_append (decimal n) [] (decimal_line n) refl)
pick_line (First carried from) = sent_line carried from

command_line : (command : Command) → one_line (command_text command) ≡ true
unfolding command_text
command_line (Set r v) = two_lines (decimal r) (decimal v) (decimal_line r) (decimal_line v)
command_line (Add r v) = two_lines (decimal r) (decimal v) (decimal_line r) (decimal_line v)
command_line (Copy f t) = two_lines (decimal f) (decimal t) (decimal_line f) (decimal_line t)

pub act_line : (act : Act) → IsLone act → one_line (act_text act) ≡ true
unfolding act_text
act_line (LoseFrom set) h = absurd h
act_line _ h = search (command_line, pick_line, decimal_line)

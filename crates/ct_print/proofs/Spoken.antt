-- The words of texts that are written.
use Rattle.std.proofs.Common.{◌≡◌, ℕ, ◌<◌, ◌≤◌, ◌==◌, Bool, true, false, List, [], ◌∷◌, ◌++◌, length, map, refl, arith, append-nil, subst}
use Rattle.std.specs.Prelude.{codes, decimal, Option, Some, None}
use Rattle.std.proofs.lemmas.Bool.Decides.{nat_tests}
use Rattle.ct_names.specs.Group.{everyone}
use Rattle.ct_names.specs.MemberSet.{has_member}
use Rattle.ct_names.specs.Membership.{IsIn}
use Rattle.ct_names.specs.declared.command.Command.{Command}
use Rattle.ct_names.specs.declared.command.Command.TheVariants.{Set, Add, Copy}
use Rattle.ct_names.proofs.Lists.{IsIn-filter_from}
use Rattle.ct_names.proofs.MemberSets.{everyone-in}
use Rattle.ct_grammar.specs.declared.act.Act.{Act}
use Rattle.ct_grammar.specs.declared.act.Act.TheVariants.{Submit, Receive, Begin, Enter, Choose, Adopt, Suspect, Conclude, Deliver, Follow}
use Rattle.ct_grammar.specs.declared.act.Act.TheVariants.{Crash, Postpone, Lose, Repeat, LoseFrom}
use Rattle.ct_grammar.specs.declared.carried.Carried.{Carried}
use Rattle.ct_grammar.specs.declared.carried.Carried.TheVariants.{Data, Est, Prop, Ack, Nack, Dec}
use Rattle.ct_grammar.specs.declared.pick.Pick.{Pick}
use Rattle.ct_grammar.specs.declared.pick.Pick.TheVariants.{Serial, First}
use Rattle.ct_grammar.specs.declared.who.Who.{Who}
use Rattle.ct_grammar.specs.declared.who.Who.TheVariants.{One, Some as Several, All}
use Rattle.ct_grammar.specs.Numbers.{max_u8, max_u32}
use Rattle.ct_grammar.specs.Words.{Word}
use Rattle.ct_print.specs.Acts.{act_text, pick_text, sent_text, carried_text, command_text, message_word, place_word}
use Rattle.ct_print.specs.Members.{set_text, list_text, who_text}
use Rattle.ct_print.specs.Writable.{IsSet, IsSomeSet, WhoFits, CommandFits, CarriedFits, PickFits, ActFits}
use Rattle.ct_print.proofs.NoAnd.{Says, said, says_beside, led, numeric_says, member_says, spoken}
use Rattle.ct_print.proofs.Numeric.{IsNumeric, numeric_reads, numeric_behind, decimal_numeric, two_numeric, joined_numeric}
use Rattle.ct_print.proofs.Numeric.{numbers_numeric}
use Rattle.ct_print.proofs.Parts.{AreSmall}
use Rattle.ct_print.proofs.TextWords.{Reads, is_word, word_reads}

-- ---- parts

pub some_length : (p : ℕ) (ps : List ℕ) → (length (p ∷ ps) == 0) ≡ false
some_length p ps = grind (arith, nat_tests)

pub some_set : (p : ℕ) (ps : List ℕ) → IsSet (p ∷ ps) → IsSomeSet (p ∷ ps)
some_set p ps h = record { rising = h; some = omega arith }

pub small_members : (set : List ℕ) → IsSomeSet set → AreSmall set
small_members set h q i =
    everyone-in q (IsIn-filter_from (has_member set) q everyone (subst (λ (s : List ℕ). IsIn q s) h.rising i))

pub set_numeric : (set : List ℕ) → 0 < length set → AreSmall set → IsNumeric (set_text set)
unfolding set_text
set_numeric [] some h = absurd (omega (arith, some))
set_numeric (p ∷ ps) some h = joined_numeric (decimal p) (map decimal ps) (numbers_numeric (p ∷ ps) (λ q i. omega (arith, (h q i).1)))

pub set_says : (set : List ℕ) → IsSomeSet set → Says (set_text set) (set_text set ∷ [])
set_says set h = numeric_says (set_text set) (set_numeric set h.some (small_members set h))

-- ---- members

pub list_numeric : (set : List ℕ) → IsSomeSet set → IsNumeric (list_text set)
unfolding list_text
list_numeric set h = go (length set == 1) refl
  where
    go : (b : Bool) → (length set == 1) ≡ b → IsNumeric (list_text set)
    go true e =
        rw e (numeric_behind (set_text set) (44 ∷ (set_text set ++ [])) (set_numeric set h.some (small_members set h))
        (rw (append-nil (set_text set)) (set_numeric set h.some (small_members set h)).letters))
    go false e = rw e (set_numeric set h.some (small_members set h))

pub who_reads : (who : Who) → WhoFits who → Reads (who_text who) (who_text who ∷ [])
unfolding who_text
who_reads (One p) h = numeric_reads (decimal p) (decimal_numeric p (omega arith))
who_reads (Several set) h = numeric_reads (list_text set) (list_numeric set h)
who_reads All h = word_reads (codes "all") refl

-- ---- acts

abbrev pub command_words : Command → List Word
command_words (Set r v) = codes "set" ∷ decimal r ∷ decimal v ∷ []
command_words (Add r v) = codes "add" ∷ decimal r ∷ decimal v ∷ []
command_words (Copy a b) = codes "copy" ∷ decimal a ∷ decimal b ∷ []

abbrev pub carried_words : Carried → List Word
carried_words (Data o n) = codes "data" ∷ message_word o n ∷ []
carried_words (Est i r) = codes "est" ∷ place_word i r ∷ []
carried_words (Prop i r) = codes "prop" ∷ place_word i r ∷ []
carried_words (Ack i r) = codes "ack" ∷ place_word i r ∷ []
carried_words (Nack i r) = codes "nack" ∷ place_word i r ∷ []
carried_words (Dec i r) = codes "dec" ∷ place_word i r ∷ []

abbrev pub sender_words : Option ℕ → List Word
sender_words None = []
sender_words (Some p) = codes "from" ∷ decimal p ∷ []

abbrev pub pick_words : Pick → List Word
pick_words (Serial n) = (35 ∷ decimal n) ∷ []
pick_words (First carried from) = carried_words carried ++ sender_words from

abbrev pub act_words : Act → List Word
act_words (Submit command) = codes "submit" ∷ command_words command
act_words (Receive pick) = codes "receive" ∷ pick_words pick
act_words Begin = codes "begin" ∷ []
act_words Enter = codes "enter" ∷ []
act_words (Choose p) = codes "choose" ∷ decimal p ∷ []
act_words Adopt = codes "adopt" ∷ []
act_words Suspect = codes "suspect" ∷ []
act_words Conclude = codes "conclude" ∷ []
act_words Deliver = codes "deliver" ∷ []
act_words Follow = codes "follow" ∷ []
act_words Crash = codes "crash" ∷ []
act_words (Postpone pick) = codes "postpone" ∷ pick_words pick
act_words (Lose pick) = codes "lose" ∷ pick_words pick
act_words (Repeat pick) = codes "repeat" ∷ pick_words pick
act_words (LoseFrom set) = codes "lose" ∷ codes "from" ∷ set_text set ∷ []

pub command_says : (command : Command) → CommandFits command → Says (command_text command) (command_words command)
unfolding command_text
command_says (Set r v) h = search spoken
command_says _ h = search spoken

place_numeric : (i r : ℕ) → i ≤ max_u32 → r ≤ max_u32 → IsNumeric (place_word i r)
unfolding place_word
place_numeric i r h k = two_numeric i r 47 (omega arith) (omega arith) refl

pub message_numeric : (o n : ℕ) → o ≤ max_u8 → n ≤ max_u32 → IsNumeric (message_word o n)
unfolding message_word
message_numeric o n h k = two_numeric o n 46 (omega arith) (omega arith) refl

carried_says : (carried : Carried) → CarriedFits carried → Says (carried_text carried) (carried_words carried)
unfolding carried_text
carried_says (Data o n) h = search (spoken, numeric_says, message_numeric)
carried_says _ h = search (spoken, numeric_says, place_numeric)

serial_word : (n : ℕ) → n ≤ max_u32 → is_word (35 ∷ decimal n) ≡ true
serial_word n h =
    let is = decimal_numeric n (omega arith) in
    rw (is.first, is.letters) refl

pub pick_says : (pick : Pick) → PickFits pick → Says (pick_text pick) (pick_words pick)
unfolding pick_text sent_text
pick_says (Serial n) h = rw append-nil (said (35 ∷ decimal n) (serial_word n h) refl)
pick_says (First carried None) h = rw append-nil (carried_says carried h.0)
pick_says (First carried (Some p)) h =
    says_beside (carried_text carried) _ (carried_words carried) (codes "from" ∷ decimal p ∷ []) (carried_says carried h.0)
    (led (codes "from") (decimal p) (decimal p ∷ []) (said _ refl refl) (member_says p h.1))

pub act_says : (act : Act) → ActFits act → Says (act_text act) (act_words act)
unfolding act_text
act_says (LoseFrom set) h = search (spoken, set_says)
act_says _ h = search (spoken, command_says, pick_says)

-- Acts, read from their words.
use Rattle.std.proofs.Common.{◌≡◌, ℕ, ◌<◌, ◌≤◌, ◌^◌, Bool, false, List, [], ◌∷◌, ◌++◌, length, filter, refl, sym, ap, ◌∙◌, arith, subst}
use Rattle.std.specs.Prelude.{codes, decimal, Option, Some, None, Ok}
use Rattle.std.specs.Str.{bytes_eq}
use Rattle.ct_names.specs.Group.{everyone}
use Rattle.ct_names.specs.MemberSet.{has_member}
use Rattle.ct_names.specs.declared.command.Command.{Command}
use Rattle.ct_names.specs.declared.command.Command.TheVariants.{Set, Add, Copy}
use Rattle.ct_grammar.specs.declared.act.Act.{Act}
use Rattle.ct_grammar.specs.declared.act.Act.TheVariants.{Choose, Lose}
use Rattle.ct_grammar.specs.declared.carried.Carried.{Carried}
use Rattle.ct_grammar.specs.declared.carried.Carried.TheVariants.{Data}
use Rattle.ct_grammar.specs.declared.pick.Pick.{Pick}
use Rattle.ct_grammar.specs.declared.pick.Pick.TheVariants.{Serial, First}
use Rattle.ct_grammar.specs.Acts.{operands, named_command, command_first, short_act, lose_first, picked_act, long_act, act_first}
use Rattle.ct_grammar.specs.Leading.{number_first, member_first, whole_first, set_first, lone_whole, over}
use Rattle.ct_grammar.specs.Numbers.{max_u8, max_u32, max_u64, members_of}
use Rattle.ct_grammar.specs.Picks.{serial_of, message_first, place_first, carried_first, sent_pick, pick_first}
use Rattle.ct_grammar.specs.Words.{Word}
use Rattle.ct_print.specs.Acts.{message_word, place_word}
use Rattle.ct_print.specs.Members.{set_text}
use Rattle.ct_print.specs.Writable.{IsSomeSet, CommandFits, CarriedFits, PickFits, ActFits}
use Rattle.ct_print.proofs.Numerals.{number_back, number_in_back}
use Rattle.ct_print.proofs.Parts.{two_back, members_back}
use Rattle.ct_print.proofs.Spoken.{command_words, carried_words, sender_words, pick_words, act_words, small_members}

-- ---- first words

pub number_is_first : (low high n : ℕ) (what : _) (words : List Word) → high < 2 ^ 64 → low ≤ n → n ≤ high →
    number_first low high what (decimal n ∷ words) ≡ Ok (n, words)
unfolding number_first
number_is_first low high n what words h l m = rw (number_in_back low high n h l m) refl

pub member_is_first : (p : ℕ) (what : _) (words : List Word) → p ≤ max_u8 → member_first what (decimal p ∷ words) ≡ Ok (p, words)
unfolding member_first
member_is_first p what words h = number_is_first 0 max_u8 p what words (omega arith) (omega arith) h

pub whole_is_first : (n : ℕ) (what : _) (words : List Word) → n ≤ max_u32 → whole_first what (decimal n ∷ words) ≡ Ok (n, words)
unfolding whole_first
whole_is_first n what words h = number_is_first 0 max_u32 n what words (omega arith) (omega arith) h

pub alone_back : (n : ℕ) (what : _) → n ≤ max_u32 → lone_whole what (decimal n ∷ []) ≡ Ok n
unfolding lone_whole over
alone_back n what h = rw (whole_is_first n what [] h) refl

pub set_back : (set : List ℕ) → IsSomeSet set → members_of (set_text set) ≡ Some set
unfolding set_text
set_back set h = go set h.some refl
  where
    go : (s : List ℕ) → 0 < length s → s ≡ set → members_of (set_text s) ≡ Some set
    go [] some e = absurd (omega (arith, some))
    go (p ∷ ps) some e =
        members_back p ps (small_members (p ∷ ps) (subst IsSomeSet (sym e) h))
        ∙ ap Some (ap (λ (s : List ℕ). filter (has_member s) everyone) e ∙ sym h.rising)

pub set_is_first : (set : List ℕ) (words : List Word) → IsSomeSet set → set_first (set_text set ∷ words) ≡ Ok (set, words)
unfolding set_first
set_is_first set words h = rw (set_back set h) refl

-- ---- commands

operands_back : (register high v : ℕ) (what : _) (words : List Word) → register ≤ max_u8 → high < 2 ^ 64 → v ≤ high →
    operands high what (decimal register ∷ decimal v ∷ words) ≡ Ok ((register, v), words)
unfolding operands
operands_back register high v what words h k l =
    rw (member_is_first register _ (decimal v ∷ words) h, number_is_first 0 high v what words k (omega arith) l) refl

pub command_back : (command : Command) (what : _) (words : List Word) → CommandFits command →
    command_first what (command_words command ++ words) ≡ Ok (command, words)
unfolding command_first named_command
command_back (Copy a b) what words h = rw (operands_back a max_u8 b _ words h.0 (omega arith) h.1) refl
command_back (Set r v) what words h = rw (operands_back r max_u64 v _ words h.0 (omega arith) h.1) refl
command_back (Add r v) what words h = rw (operands_back r max_u64 v _ words h.0 (omega arith) h.1) refl

-- ---- envelopes

message_back : (o n : ℕ) (words : List Word) → (o ≤ max_u8) × (n ≤ max_u32) →
    message_first (message_word o n ∷ words) ≡ Ok (Data o n, words)
unfolding message_first message_word
message_back o n words h = rw (two_back 46 max_u8 max_u32 o n refl (omega arith) (omega arith) h.0 h.1) refl

place_back : (i r : ℕ) (words : List Word) → (i ≤ max_u32) × (r ≤ max_u32) → place_first (place_word i r ∷ words) ≡ Ok ((i, r), words)
unfolding place_first place_word
place_back i r words h = rw (two_back 47 max_u32 max_u32 i r refl (omega arith) (omega arith) h.0 h.1) refl

pub carried_back : (carried : Carried) (what : _) (words : List Word) → CarriedFits carried →
    pick_first what (carried_words carried ++ words) ≡ sent_pick carried words
unfolding pick_first carried_first
carried_back (Data o n) what words h = simp message_back
carried_back _ what words h = simp place_back

-- `from` stands first
abbrev pub from_first : List Word → Bool
from_first [] = false
from_first (word ∷ words) = bytes_eq word (codes "from")

nobody_sent : (carried : Carried) (words : List Word) → from_first words ≡ false → sent_pick carried words ≡ Ok (First carried None, words)
unfolding sent_pick
nobody_sent carried [] e = refl
nobody_sent carried (word ∷ words) e = rw e refl

somebody_sent : (carried : Carried) (p : ℕ) (words : List Word) → p ≤ max_u8 →
    sent_pick carried (codes "from" ∷ decimal p ∷ words) ≡ Ok (First carried (Some p), words)
unfolding sent_pick
somebody_sent carried p words h = rw (member_is_first p _ words h) refl

more_words : (carried : Carried) (from : Option ℕ) (words : List Word) →
    pick_words (First carried from) ++ words ≡ carried_words carried ++ (sender_words from ++ words)
more_words (Data o n) from words = refl
more_words _ from words = refl

pub pick_back : (pick : Pick) (what : _) (words : List Word) → PickFits pick → from_first words ≡ false →
    pick_first what (pick_words pick ++ words) ≡ Ok (pick, words)
unfolding pick_first serial_of
pick_back (Serial n) what words h e = rw (number_back max_u32 n (omega arith) h) refl
pick_back (First carried None) what words h e =
    ap (pick_first what) (more_words carried None words) ∙ (carried_back carried what words h.0 ∙ nobody_sent carried words e)
pick_back (First carried (Some p)) what words h e =
    ap (pick_first what) (more_words carried (Some p) words)
    ∙ (carried_back carried what (codes "from" ∷ decimal p ∷ words) h.0 ∙ somebody_sent carried p words h.1)

-- ---- acts

lost_back : (pick : Pick) (words : List Word) → PickFits pick → from_first words ≡ false →
    lose_first (pick_words pick ++ words) ≡ Ok (Lose pick, words)
unfolding lose_first
lost_back (First (Data o n) from) words h e = rw (pick_back (First (Data o n) from) _ words h e) refl
lost_back pick words h e = rw (pick_back pick _ words h e) refl

pub act_back : (act : Act) (what : _) (words : List Word) → ActFits act → from_first words ≡ false →
    act_first what (act_words act ++ words) ≡ Ok (act, words)
unfolding act_first long_act picked_act short_act lose_first
act_back (Choose p) what words h e = simp member_is_first
act_back _ what words h e = first_of (search, simp (command_back, pick_back, lost_back, set_is_first))

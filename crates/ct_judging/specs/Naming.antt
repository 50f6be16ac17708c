-- How a schedule names envelopes.
use Rattle.std.specs.Prelude.{ℕ, ◌-◌, List, [], ◌∷◌, ◌++◌, codes, decimal, length, take, flat_map, nat_le, Option, Some, None, unwrap_or}
use Rattle.std.specs.Prelude.{if◌then◌else◌}
use Rattle.std.specs.List.{concat}
use Rattle.ct_names.specs.Value.{Value}
use Rattle.ct_model.specs.Rehearsal.{Rehearsal}
use Rattle.ct_model.specs.declared.envelope.Envelope.{Envelope}
use Rattle.ct_model.specs.declared.wire.Wire.{Wire}
use Rattle.ct_model.specs.declared.wire.Wire.TheVariants as wire
use Rattle.ct_text.specs.Lists.{messages_text}
use Rattle.ct_show.specs.Wires.{letter_at, round_text, value_at}
use Rattle.ct_grammar.specs.declared.carried.Carried.{Carried}
use Rattle.ct_grammar.specs.declared.carried.Carried.TheVariants.{Data, Est, Prop, Ack, Nack, Dec}
use Rattle.ct_grammar.specs.declared.pick.Pick.{Pick}
use Rattle.ct_grammar.specs.declared.pick.Pick.TheVariants.{Serial, First}
use Rattle.ct_print.specs.Acts.{command_text}
use Rattle.ct_play.specs.Picking.{carried_of, sender_of}
use Rattle.ct_judging.specs.declared.bounds.TheConstants.{MOST_NAMED}

-- ---- what is named

-- a word, and an instance and a round of it
abbrev pub round_name : List ℕ → ℕ → ℕ → List ℕ
round_name word k r = concat (word ∷ codes " " ∷ round_text k r ∷ [])

-- what an envelope carries
unfoldable pub carried_name : Carried → List ℕ
carried_name (Data o n) = concat (codes "data " ∷ decimal o ∷ codes "." ∷ decimal n ∷ [])
carried_name (Est k r) = round_name (codes "est") k r
carried_name (Prop k r) = round_name (codes "prop") k r
carried_name (Ack k r) = round_name (codes "ack") k r
carried_name (Nack k r) = round_name (codes "nack") k r
carried_name (Dec k r) = round_name (codes "dec") k r

-- who sent it, where that is told
abbrev pub from_name : Option ℕ → List ℕ
from_name None = []
from_name (Some p) = concat (codes " from " ∷ decimal p ∷ [])

-- as a line names an envelope
unfoldable pub pick_name : Pick → List ℕ
pick_name (Serial k) = concat (codes "#" ∷ decimal k ∷ [])
pick_name (First carried from) = carried_name carried ++ from_name from

-- ---- the envelope of a serial

abbrev pub wire_name : Option (Envelope (Unit {0})) → List ℕ
wire_name None = []
wire_name (Some e) = carried_name (carried_of e.wire)

-- its serial, what it carries, and who sent it
unfoldable pub envelope_name : Rehearsal → ℕ → List ℕ
envelope_name w k = concat (codes "#" ∷ decimal k ∷ codes " " ∷ wire_name (letter_at w k) ∷ from_name (sender_of w k) ∷ [])

-- ---- the same with its value

abbrev pub set_name : Value → List ℕ
set_name v = concat (codes "{" ∷ messages_text 44 v ∷ codes "}" ∷ [])

-- a wire's value, and of an estimate the ts
unfoldable pub value_name : {V : Type 0} → Wire V → Value → List ℕ
value_name (wire.Data m) v = codes " " ++ command_text m.command
value_name (wire.Est k r p _ t) v = concat (codes " " ∷ set_name v ∷ codes " ts " ∷ decimal t ∷ [])
value_name (wire.Prop k r _) v = codes " " ++ set_name v
value_name (wire.Ack k r p) v = []
value_name (wire.Nack k r p) v = []
value_name (wire.Dec k r _) v = codes " " ++ set_name v

abbrev pub value_in : Option (Envelope (Unit {0})) → Value → List ℕ
value_in None v = []
value_in (Some e) v = value_name e.wire v

unfoldable pub letter_name : Rehearsal → ℕ → List ℕ
letter_name w k = envelope_name w k ++ value_in (letter_at w k) (unwrap_or (value_at w k) [])

-- ---- several

-- these, by such names, a comma between each two; a dash where there is none
abbrev pub listed : {A : Type 0} → (A → List ℕ) → List A → List ℕ
listed name [] = codes "-"
listed name (k ∷ ks) = name k ++ flat_map (λ j. codes ", " ++ name j) ks

-- of many the first ones, and how many more there are
unfoldable pub shortened : (ℕ → List ℕ) → List ℕ → List ℕ
shortened name ks =
    if nat_le (length ks) MOST_NAMED then listed name ks
    else concat (listed name (take MOST_NAMED ks) ∷ codes " and " ∷ decimal (length ks - MOST_NAMED) ∷ codes " more" ∷ [])

-- Where members stand, by numbers, as bindings/ct.h has them.
use Rattle.std.specs.Prelude.{ℕ, false, List, map, Option, Some, None, replicate}
use Rattle.std.specs.Option.{option_map_or}
use Rattle.ct_names.specs.Group.{everyone}
use Rattle.ct_names.specs.MemberSet.{bits_of}
use Rattle.ct_names.specs.Value.{Value}
use Rattle.ct_model.specs.declared.phase.Phase.{Phase}
use Rattle.ct_model.specs.declared.phase.Phase.TheVariants.{Rest, Gather, Wait, Tally}
use Rattle.ct_model.specs.State.{Member}
use Rattle.ct_world.specs.Standing.{heard_by, all_heard_by, acked_by, replied_by}
use Rattle.ct_embed.specs.declared.standing_code.StandingCode.{StandingCode}

-- the number of a phase
abbrev pub phase_code : Phase → ℕ
phase_code Rest = 1
phase_code Gather = 2
phase_code Wait = 3
phase_code Tally = 4

-- the ts of an estimate; 0 where there is none
abbrev pub ts_code : Option (Value × ℕ) → ℕ
ts_code None = 0
ts_code (Some estimate) = estimate.1

-- the bits of a set; 0 where there is none
abbrev pub set_code : Option (List ℕ) → ℕ
set_code None = 0
set_code (Some set) = bits_of set

-- the numbers of no member
abbrev pub no_standing : StandingCode
no_standing = record {
  instance = 0;
  round = 0;
  ts = 0;
  heard_ts = replicate 16 0;
  heard = 0;
  acked = 0;
  replied = 0;
  member = 0;
  phase = 0;
  has_crashed = false;
}

-- the numbers of the member p, as far as there is one: its last instance, its part in the open one, and its crash mark
abbrev pub standing_code : ℕ → Option Member → StandingCode
standing_code p None = no_standing
standing_code p (Some m) = record {
  instance = m.last;
  round = option_map_or (λ c. c.round) m.current 0;
  ts = option_map_or (λ c. c.ts) m.current 0;
  heard_ts = map (λ from. ts_code (heard_by m from)) everyone;
  heard = set_code (all_heard_by m);
  acked = set_code (acked_by m);
  replied = set_code (replied_by m);
  member = p;
  phase = option_map_or (λ c. phase_code c.phase) m.current 0;
  has_crashed = m.crashed;
}

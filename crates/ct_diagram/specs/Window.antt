-- Which steps are drawn, and what of them.
use Rattle.std.specs.Prelude.{ℕ, ◌+◌, ◌-◌, Bool, true, false, not, ◌&&◌, ◌||◌, nat_le, List, length, Option, Some, None, find}
use Rattle.ct_names.specs.Group.{everyone, is_member}
use Rattle.ct_names.specs.MemberSet.{has_member}
use Rattle.ct_model.specs.declared.step.Step.{Step}
use Rattle.ct_model.specs.declared.wire.Wire.{Wire}
use Rattle.ct_model.specs.declared.wire.Wire.TheVariants.{Data}
use Rattle.ct_model.specs.Rehearsal.{Rehearsal}
use Rattle.ct_world.specs.Replay.{first_steps}
use Rattle.ct_diagram.specs.declared.window.Window.{Window}

-- the step of this number is one of the window's
abbrev pub is_drawn : Window → ℕ → Bool
is_drawn window number = nat_le window.from number && nat_le number window.to

-- the record up to the window's last step
abbrev pub part_of : Window → Rehearsal → Rehearsal
part_of window w = first_steps w.setting w.cells w.steps window.to

-- how many steps of such a record are the window's
abbrev pub steps_in : Window → List Step → ℕ
steps_in window steps = (length steps + 1) - window.from

-- the members that are named, where not all are
abbrev pub has_named : Option (List ℕ) → ℕ → Bool
has_named None p = true
has_named (Some set) p = has_member set p

-- the first member that is named and that a group of so many lacks
abbrev pub stranger_of : ℕ → Option (List ℕ) → Option ℕ
stranger_of members None = None
stranger_of members (Some set) = find (λ p. has_member set p && not (is_member members p)) everyone

-- the first member that is asked for and that the record's group lacks
abbrev pub lacking : Window → Rehearsal → Option ℕ
lacking window w = stranger_of w.setting.members window.members

-- a message alone
abbrev pub is_data : Wire (Unit {0}) → Bool
is_data (Data m) = true
is_data wire = false

-- the envelope with this wire from one member to another is drawn
abbrev pub is_sent_asked : Window → (from to : ℕ) → Wire (Unit {0}) → Bool
is_sent_asked window from to wire =
    (has_named window.members from || has_named window.members to) && not (window.consensus && is_data wire)

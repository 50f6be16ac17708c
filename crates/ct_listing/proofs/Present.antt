-- What is there at a member.
use Rattle.std.proofs.Common.{◌≡◌, ◌≤◌, ℕ, Bool, true, false, refl, sym, eq-eqb, Option, Some, None}
use Rattle.std.specs.Prelude.{is_none, option_map, ◌&&◌}
use Rattle.ct_names.specs.Group.{is_member}
use Rattle.ct_model.specs.declared.phase.Phase.{Phase}
use Rattle.ct_model.specs.declared.phase.Phase.TheVariants.{Rest}
use Rattle.ct_model.specs.Rehearsal.{state_of}
use Rattle.ct_model.specs.State.{is_crashed}
use Rattle.ct_world.specs.World.{member_of}
use Rattle.ct_text.specs.Standing.{instance_of}
use Rattle.ct_grammar.specs.declared.fact.Fact.TheVariants.{Up, Crashed, Idle, Instance, Round, Phase as InPhase}
use Rattle.ct_grammar.specs.Numbers.{max_u32}
use Rattle.ct_print.specs.Facts.{fact_text}
use Rattle.ct_play.specs.Facts.{place_of}
use Rattle.ct_play.specs.Played.{Played}
use Rattle.ct_listing.specs.Expecting.{IsThere}
use Rattle.ct_listing.proofs.OneLine.{decimal_line}

module _ (s : Played) (p : ℕ) where
  crash_mark : (r : Bool) → is_member s.rehearsal.setting.members p ≡ true →
      r ≡ (is_member s.rehearsal.setting.members p && is_crashed (state_of s.rehearsal) p) → is_crashed (state_of s.rehearsal) p ≡ r
  crash_mark r member e = sym (rw member at e)

  pub crashed_there : (r : Bool) → is_member s.rehearsal.setting.members p ≡ true →
      r ≡ (is_member s.rehearsal.setting.members p && is_crashed (state_of s.rehearsal) p) → r ≡ true → IsThere s p Crashed
  unfolding fact_text
  crashed_there r member e is = record { same = rw (crash_mark r member e, is) refl; known = refl; fits = tt; line = refl }

  pub up_there : (r : Bool) → is_member s.rehearsal.setting.members p ≡ true →
      r ≡ (is_member s.rehearsal.setting.members p && is_crashed (state_of s.rehearsal) p) → r ≡ false → IsThere s p Up
  unfolding fact_text
  up_there r member e is = record { same = rw (crash_mark r member e, is) refl; known = refl; fits = tt; line = refl }

  pub instance_there : (i : ℕ) → is_member s.rehearsal.setting.members p ≡ true → i ≡ instance_of s.rehearsal p → i ≤ max_u32 →
      IsThere s p (Instance i)
  unfolding fact_text instance_of
  instance_there i member e small = record {
    same = eq-eqb (member_of s.rehearsal p).last i (sym (rw (member, instance_of) at e));
    known = refl;
    fits = small;
    line = decimal_line i;
  }

  pub idle_there : is_member s.rehearsal.setting.members p ≡ true → place_of s.rehearsal p ≡ None → IsThere s p Idle
  unfolding fact_text
  idle_there member none = record {
    same = closed _ (member_of s.rehearsal p).current (rw member at none);
    known = refl;
    fits = tt;
    line = refl;
  }
    where
      closed : {A B : Type 0} (f : A → B) (o : Option A) → option_map f o ≡ None → is_none o ≡ true
      closed f None e = refl
      closed f (Some x) e = absurd (cc)

  pub round_there : (r : ℕ) (phase : Phase) → place_of s.rehearsal p ≡ Some (r, phase) → r ≤ max_u32 → IsThere s p (Round r)
  unfolding fact_text
  round_there r phase e small = record {
    same = rw e (eq-eqb r r refl);
    known = refl;
    fits = small;
    line = decimal_line r;
  }

  pub phase_there : (r : ℕ) (phase : Phase) → place_of s.rehearsal p ≡ Some (r, phase) → IsThere s p (InPhase phase)
  unfolding fact_text
  phase_there r Rest e = record { same = rw e refl; known = refl; fits = tt; line = refl }
  phase_there r _ e = record { same = rw e refl; known = refl; fits = tt; line = refl }

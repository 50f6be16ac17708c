use Rattle.std.proofs.Common.{◌≡◌, Some, refl, ap, sym, ◌∙◌}
use Rattle.std.specs.Prelude.{is_some}
use Rattle.ct_model.specs.declared.step.Step.TheVariants.{Receive}
use Rattle.ct_model.specs.Cause.{overflow}
use Rattle.ct_model.specs.Rehearsal.{line_of}
use Rattle.ct_model.proofs.Record.Causes.{cause-absent}
use Rattle.ct_model.proofs.Steps.Receive.{cause-receive-away}
use Rattle.ct_network.specs.Network.{place_of}
use Rattle.ct_world.specs.Kept.{rehearsal_of}
use Rattle.ct_world.proofs.Basics.Places.{found_in, stands-there, stands-nowhere}
use Rattle.ct_world.proofs.Steps.Receiving.{cause_by, new_same}
use Rattle.ct_world.proofs.Steps.Verdicts.{not_arrived}
use Rattle.ct_world.proofs.Basics.Waits.{awaited-some}
use Rattle.ct_world.proofs.kept.Kept.find_received.Goals as goal
use Rattle.ct_world.proofs.kept.Kept.find_received.Goals.{In-Some, then-passes_on+in_ok-overflow, else-passes_on+in_ok-overflow-2}

pub returns-in_err-seat : goal.returns-in_err-seat
returns-in_err-seat c =
    not_arrived c.args.self.now c.args.member c.args.serial
    c.from_residual.result c.from_residual.ensures.1
    (cause-absent (rehearsal_of c.args.self.now) (Receive c.args.member c.args.serial) _ c.in_err-seat.ensures)

pub returns-in_default : goal.returns-in_default
returns-in_default c =
    let w = rehearsal_of c.args.self.now in
    let actor = c.in_ok-seat.ensures in
    cause-receive-away w c.args.member c.args.serial actor.present (stands-nowhere c.args.serial (line_of w c.args.member)
    (c.in_default.ensures ∙ found_in c.args.member c.args.serial c.requires actor.present.in_group))

-- where it stands
stands : (c : In-Some) → place_of c.args.serial (line_of (rehearsal_of c.args.self.now) c.args.member) ≡ Some c.in-Some.place
stands c = sym (found_in c.args.member c.args.serial c.requires c.in_ok-seat.ensures.present.in_group) ∙ sym c.in-Some.ensures

pub unwrap-envelope-requires : goal.unwrap-envelope-requires
unwrap-envelope-requires c =
    ap is_some c.envelope.ensures ∙ awaited-some c.args.member c.args.serial c.requires
    (stands-there c.args.serial (line_of (rehearsal_of c.args.self.now) c.args.member)
    (stands (goal.at.unwrap-envelope-requires c).In-Some))

pub returns-in_err-overflow : goal.returns-in_err-overflow
returns-in_err-overflow c =
    let w = rehearsal_of c.args.self.now in
    let at = stands (goal.at.returns-in_err-overflow c).In-Some in
    not_arrived c.args.self.now c.args.member c.args.serial
    c.from_residual-in_err-overflow.result c.from_residual-in_err-overflow.ensures.1
    (cause_by c.args.serial c.requires c.in_ok-seat.ensures refl (stands-there c.args.serial (line_of w c.args.member) at)
    (sym c.envelope.ensures ∙ c.unwrap-envelope.ensures) (sym c.passes_on.ensures ∙ c.if-passes_on.true)
    ∙ sym (ap (overflow w) (c.len.ensures ∙ c.args.self.now.seats.ok.0 ∙ c.requires.seated)) ∙ c.in_err-overflow.ensures)

pub returns-in_err-overflow-2 : goal.returns-in_err-overflow-2
returns-in_err-overflow-2 c =
    let w = rehearsal_of c.args.self.now in
    let at = stands (goal.at.returns-in_err-overflow-2 c).In-Some in
    not_arrived c.args.self.now c.args.member c.args.serial
    c.from_residual-in_err-overflow-2.result c.from_residual-in_err-overflow-2.ensures.1
    (cause_by c.args.serial c.requires c.in_ok-seat.ensures refl (stands-there c.args.serial (line_of w c.args.member) at)
    (sym c.envelope.ensures ∙ c.unwrap-envelope.ensures) (sym c.passes_on.ensures ∙ c.if-passes_on.false)
    ∙ c.in_err-overflow-2.ensures)

pub returns : goal.returns
returns c =
    let w = rehearsal_of c.args.self.now in
    let at = stands (goal.at.returns c).In-Some in
    let there = sym c.envelope.ensures ∙ c.unwrap-envelope.ensures in
    let waits = stands-there c.args.serial (line_of w c.args.member) at in
    record {
      found = record {
        allowed = elim c.if-passes_on.branch [
          | then-passes_on+in_ok-overflow o ↦
              cause_by c.args.serial c.requires c.in_ok-seat.ensures refl waits there (sym c.passes_on.ensures ∙ o.if-passes_on.true)
              ∙ sym (ap (overflow w) (o.len.ensures ∙ c.args.self.now.seats.ok.0 ∙ c.requires.seated)) ∙ o.in_ok-overflow.ensures
          | else-passes_on+in_ok-overflow-2 o ↦
              cause_by c.args.serial c.requires c.in_ok-seat.ensures refl waits there (sym c.passes_on.ensures ∙ o.if-passes_on.false)
              ∙ o.in_ok-overflow-2.ensures
        ];
        placed = at;
      };
      sent = there;
      new = c.is_new-new.ensures ∙ new_same c.in_ok-seat.ensures.sits.keeps
          (c.requires.seat c.args.member c.in_ok-seat.ensures.present.in_group) c.unwrap-envelope.result.wire;
    }

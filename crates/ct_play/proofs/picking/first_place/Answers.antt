use Rattle.std.proofs.Common.{◌∙◌, ◌≡◌, arith, length, refl, subst, sym, zero}
use Rattle.ct_model.specs.Lawful.{IsLawful}
use Rattle.ct_model.specs.Rehearsal.{state_of}
use Rattle.ct_play.specs.Indexing.{is_at}
use Rattle.ct_play.specs.Picking.{first_so, is_so, waiting_at}
use Rattle.ct_play.proofs.Firsts.{IsFound, first_found, found_at, found_none, found_past, named_there, place_is}
use Rattle.ct_play.proofs.picking.first_place.Goals as goal
use Rattle.ct_play.proofs.picking.first_place.Goals.{then-is_so, else-is_so}

pub loop-serial-init : goal.loop-serial-init
loop-serial-init c =
    let s = c.args.stage.now.rehearsal in
    let law : IsLawful s = rw c.world.ensures at c.record.ensures.lawful in
    let at = is_at (state_of s).sent (record { to = c.args.member; carried = c.args.carried }) in
    let past = rw (c.sent.ensures.value, c.world-2.ensures) at c.last_to-serial.ensures in
    rw c.waiting_at-first.ensures
    (found_none (is_so s c.args.carried c.args.from) at (waiting_at s c.args.member) (length (state_of s).sent) c.last_to-serial.result
    (named_there s c.args.member c.args.carried c.args.from law) past)

pub loop-serial-preserved : goal.loop-serial-preserved
loop-serial-preserved c =
    let s = c.args.stage.now.rehearsal in
    let law : IsLawful s = rw c.world.ensures at c.record.ensures.lawful in
    let at = is_at (state_of s).sent (record { to = c.args.member; carried = c.args.carried }) in
    let test = is_so s c.args.carried c.args.from in
    let line = waiting_at s c.args.member in
    let n = length (state_of s).sent in
    let named = named_there s c.args.member c.args.carried c.args.from law in
    let past = c.last_to-serial-in-loop-serial.ensures in
    let serial = c.loop-serial.serial in
    let r = c.last_to-serial-in-loop-serial.result in
    elim c.if-is_so.branch [
      | then-is_so b ↦
          let place = rw b.world-then-is_so.ensures at b.place-place.ensures in
          rw (b.first-is, b.min-first.ensures, b.unwrap_or.ensures)
          (found_at test at line n serial r c.loop-serial.first named past c.loop-serial.invariant b.place-place.result
          (sym c.is_so.ensures ∙ b.if-is_so.true) (place ∙ place_is s c.args.member serial))
      | else-is_so b ↦
          rw b.first-is
          (found_past test at line n serial r c.loop-serial.first named past c.loop-serial.invariant
          (sym c.is_so.ensures ∙ b.if-is_so.false))
    ]

pub returns : goal.returns
unfolding first_so is_so
returns c =
    let s = c.args.stage.now.rehearsal in
    let none : c.loop-serial.serial ≡ zero = omega (arith, c.loop-serial-test.false) in
    let test = is_so s c.args.carried c.args.from in
    let line = waiting_at s c.args.member in
    first_found test line c.loop-serial.first refl (subst (λ k. IsFound test line k c.loop-serial.first) none c.loop-serial.invariant)

use Rattle.std.proofs.Common.{◌+◌, [], take, refl, sym, subst}
use Rattle.std.proofs.lemmas.List.{take_all}
use Rattle.ct_world.specs.Seats.{AreSameSeats}
use Rattle.ct_world.proofs.Basics.SeatLists.{same-more}
use Rattle.ct_world.proofs.seats.copy_seats.Goals as goal

pub loop-i-init : goal.loop-i-init
loop-i-init c = subst (λ copies. AreSameSeats [] copies) (sym c.new-copies.ensures.items) refl

pub loop-i-preserved : goal.loop-i-preserved
loop-i-preserved c =
    subst (λ copies. AreSameSeats (take (c.loop-i.i + 1) c.args.seats.now) copies) (sym c.in_ok-push.ensures.items)
    (same-more c.args.seats.now c.loop-i.copies.items c.loop-i.i c.index-seats-i.result c.in_ok-copy.field-0 c.loop-i.invariant
    c.loop-i-test.true c.index-seats-i.is c.in_ok-copy.ensures)

pub returns : goal.returns
returns c = subst (λ seats. AreSameSeats seats c.loop-i.copies.items) (take_all c.loop-i.i c.args.seats.now c.loop-i-test.false)
    c.loop-i.invariant

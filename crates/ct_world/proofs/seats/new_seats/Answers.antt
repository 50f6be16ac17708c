use Rattle.std.proofs.Common.{◌≡◌, ◌+◌, sym, subst, arith}
use Rattle.ct_world.specs.Seats.{AreNewSeats}
use Rattle.ct_world.proofs.Basics.SeatLists.{new-none, new-more}
use Rattle.ct_world.proofs.seats.new_seats.Goals as goal

pub loop-i-init : goal.loop-i-init
loop-i-init c = subst (λ seats. AreNewSeats c.args.group 0 seats) (sym c.new-seats.ensures.items) (new-none c.args.group)

pub loop-i-preserved : goal.loop-i-preserved
loop-i-preserved c =
    subst (λ seats. AreNewSeats c.args.group (c.loop-i.i + 1) seats) (sym c.in_ok-push.ensures.items)
    (new-more c.args.group c.loop-i.i c.loop-i.seats.items c.new.result c.loop-i.invariant c.new.ensures)

pub returns : goal.returns
returns c =
    let all : c.loop-i.i ≡ c.args.group = omega (arith, c.n-i-end.ensures.value, c.loop-i-test.false, c.loop-i.auto.i-end) in
    subst (λ k. AreNewSeats c.args.group k c.loop-i.seats.items) all c.loop-i.invariant

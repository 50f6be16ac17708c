use Rattle.std.proofs.Common.{◌≡◌, ◌<◌, List, length, get_or, subst, arith}
use Rattle.ct_network.specs.WaitingLine.{WaitingLine}
use Rattle.ct_network.proofs.Order.{rising_at}
use Rattle.ct_network.proofs.network.Network.find.Goals as goal

pub find-requires : goal.find-requires
find-requires c =
    let line = c.in_ok-get.field-0.now in
    let there = c.in_ok-get.ensures.lookup in
    rising_at c.self.inside.envelopes.items c.self.inside.lines.items c.self.inside.moves c.args.member c.in_ok-at.at line
    (omega (arith, c.in_ok-at.ensures.0, c.in_ok-at.ensures.1))
    (subst (λ (lines : List WaitingLine). c.in_ok-at.at < length lines) c.deref.ensures.value there.3.0)
    (subst (λ (lines : List WaitingLine). line ≡ get_or lines c.in_ok-at.at line) c.deref.ensures.value there.1) c.self.invariant.1

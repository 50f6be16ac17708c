use Rattle.std.proofs.Common.{◌≡◌, ◌-◌, ◌<◌, true, length, subst, sym, refl, ap}
use Rattle.std.specs.Prelude.{remove}
use Rattle.ct_names.specs.Group.{is_member}
use Rattle.ct_network.specs.Lines.{serials_of}
use Rattle.ct_network.specs.Network.{NetworkView, line_at}
use Rattle.ct_network.proofs.Order.{order-leave}
use Rattle.ct_network.proofs.Waiting.{serials-changed, waiting_there, place, room-kept}
use Rattle.ct_network.proofs.network.Network.leave.Goals as goal

pub leave-requires : goal.leave-requires
leave-requires c =
    let lines = c.self.inside.lines.items in
    let within : c.args.member - 1 < length lines = place lines c.args.self.now.lines c.args.member
    (ap (λ (v : NetworkView). v.lines) c.self.view_is) c.requires.member in
    waiting_there lines c.args.self.now.lines c.args.member c.args.place c.index_mut.result.now within
    (ap (λ (v : NetworkView). v.lines) c.self.view_is) c.index_mut.ensures.value c.requires.there

pub returns-clause-lines : goal.returns-clause-lines
returns-clause-lines c =
    serials-changed c.self.inside.lines.items c.args.self.now.lines c.args.member (λ line. remove line c.args.place) c.index_mut.result.now
    c.leave.new.self (ap (λ (v : NetworkView). v.lines) c.self.view_is) c.requires.member c.index_mut.ensures.value c.leave.ensures.serials

pub invariant_of-self : goal.invariant_of-self
invariant_of-self c =
    let lines = c.self.inside.lines.items in
    let p = c.args.member in
    let old = c.index_mut.result.now in
    let member : is_member (length (serials_of lines)) p ≡ true =
    subst (λ (v : NetworkView). is_member (length v.lines) p ≡ true) (sym c.self.view_is) c.requires.member in
    let there : c.args.place < length (line_at (serials_of lines) p) =
    subst (λ (v : NetworkView). c.args.place < length (line_at v.lines p)) (sym c.self.view_is) c.requires.there in (
      room-kept lines (p - 1) c.self.inside.spare old c.leave.new.self (place lines (serials_of lines) p refl member)
          c.index_mut.ensures.value c.leave.ensures.room c.self.invariant.0,
      λ sorted.
          rw (serials-changed lines (serials_of lines) p (λ line. remove line c.args.place) old c.leave.new.self refl member
          c.index_mut.ensures.value c.leave.ensures.serials)
          (order-leave c.self.inside.envelopes.items (serials_of lines) c.self.inside.moves (c.self.invariant.1 sorted) p c.args.place
          member there),
    )

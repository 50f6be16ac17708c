use Rattle.std.proofs.Common.{◌≡◌, [], ◌∷◌, ◌++◌, true, length, subst, sym, refl, ap, rules, None}
use Rattle.std.specs.Prelude.{◌&&◌}
use Rattle.ct_names.specs.Group.{is_member}
use Rattle.ct_model.proofs.Basics.Tests.{and_left, and_right}
use Rattle.ct_network.specs.Lines.{serials_of}
use Rattle.ct_network.specs.Network.{NetworkView, line_at, place_of}
use Rattle.ct_network.specs.Moves.{IsTo}
use Rattle.ct_network.proofs.Finding.{absent}
use Rattle.ct_network.proofs.Order.{order-move}
use Rattle.ct_network.proofs.Waiting.{serials-changed}
use Rattle.ct_network.proofs.network.Network.put_back.Goals as goal

pub returns-clause-lines : goal.returns-clause-lines
returns-clause-lines c =
    serials-changed c.self.inside.lines.items c.args.self.now.lines c.args.member (λ ks. ks ++ c.args.serial ∷ []) c.index_mut.result.now
    c.join.new.self (ap (λ (v : NetworkView). v.lines) c.self.view_is) c.requires.member c.index_mut.ensures.value c.join.ensures.serials

pub invariant_of-self : goal.invariant_of-self
invariant_of-self c =
    let inside = c.self.inside in
    let lines = serials_of inside.lines.items in
    let p = c.args.member in
    let k = c.args.serial in
    let member : is_member (length lines) p ≡ true =
    subst (λ (v : NetworkView). is_member (length v.lines) p ≡ true) (sym c.self.view_is) c.requires.member in (
      search rules,
      λ sorted.
          let moved = c.renew.ensures sorted in
          let away : c.is_away-away.result ≡ true = and_right inside.moves.is_sorted c.is_away-away.result moved.was in
          let h = c.self.invariant.1 (and_left inside.moves.is_sorted c.is_away-away.result moved.was) in
          let to = subst (λ (v : NetworkView). IsTo v.sent p k) (sym c.self.view_is) (c.is_away-away.ensures.to away) in
          let none = subst (λ (v : NetworkView). place_of k (line_at v.lines p) ≡ None) (sym c.self.view_is)
          (c.is_away-away.ensures.away away) in
          rw (serials-changed inside.lines.items lines p (λ ks. ks ++ k ∷ []) c.index_mut.result.now c.join.new.self refl member
          c.index_mut.ensures.value c.join.ensures.serials)
          (order-move inside.envelopes.items lines (record inside.moves { is_sorted = inside.moves.is_sorted && c.is_away-away.result }) h
          c.renew.new.self p k c.len.result (line_at lines p) member to (absent k (line_at lines p) none) (h.each p member)
          c.len.ensures moved),
    )

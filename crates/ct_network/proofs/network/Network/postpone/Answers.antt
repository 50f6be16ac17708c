use Rattle.std.proofs.Common.{◌≡◌, ◌-◌, ◌<◌, [], ◌∷◌, ◌++◌, true, length, remove, subst, sym, refl, ap, ◌∙◌, rules}
use Rattle.std.specs.Prelude.{slice_index_or}
use Rattle.ct_names.specs.Group.{is_member}
use Rattle.ct_network.specs.Lines.{serials_of}
use Rattle.ct_network.specs.Network.{NetworkView, line_at, put_last}
use Rattle.ct_network.proofs.Order.{order-postpone}
use Rattle.ct_network.proofs.Waiting.{serials-changed, line_there, place}
use Rattle.ct_network.proofs.network.Network.postpone.Goals as goal

pub returns-clause-lines : goal.returns-clause-lines
returns-clause-lines c =
    let line = c.index_mut-line.result.now in
    let moved : c.join.new.self.serials ≡ put_last line.serials c.args.place =
    c.join.ensures.serials
    ∙ ap (λ ks. ks ++ slice_index_or c.as_slice.result.now c.args.place 0 ∷ []) c.leave.ensures.serials
    ∙ ap (λ ks. remove line.serials c.args.place ++ slice_index_or ks c.args.place 0 ∷ []) c.as_slice.ensures in
    serials-changed c.self.inside.lines.items c.args.self.now.lines c.args.member (λ ks. put_last ks c.args.place) line c.join.new.self
    (ap (λ (v : NetworkView). v.lines) c.self.view_is) c.requires.member c.index_mut-line.ensures.value moved

pub invariant_of-self : goal.invariant_of-self
invariant_of-self c =
    let lines = c.self.inside.lines.items in
    let p = c.args.member in
    let line = c.index_mut-line.result.now in
    let member : is_member (length (serials_of lines)) p ≡ true =
    subst (λ (v : NetworkView). is_member (length v.lines) p ≡ true) (sym c.self.view_is) c.requires.member in
    let there : c.args.place < length (line_at (serials_of lines) p) =
    subst (λ (v : NetworkView). c.args.place < length (line_at v.lines p)) (sym c.self.view_is) c.requires.there in
    let moved : c.join.new.self.serials ≡ put_last line.serials c.args.place =
    c.join.ensures.serials
    ∙ ap (λ ks. ks ++ slice_index_or c.as_slice.result.now c.args.place 0 ∷ []) c.leave.ensures.serials
    ∙ ap (λ ks. remove line.serials c.args.place ++ slice_index_or ks c.args.place 0 ∷ []) c.as_slice.ensures in (
      search rules,
      λ sorted.
          rw (serials-changed lines (serials_of lines) p (λ ks. put_last ks c.args.place) line c.join.new.self refl member
          c.index_mut-line.ensures.value moved)
          (order-postpone c.self.inside.envelopes.items (serials_of lines) c.self.inside.moves
          (c.self.invariant.1 (c.renew.ensures sorted).was) c.renew.new.self p c.args.place
          (slice_index_or c.as_slice.result.now c.args.place 0) c.len.result member there
          (ap (λ ks. slice_index_or ks c.args.place 0) (c.as_slice.ensures
          ∙ line_there lines (p - 1) line (place lines (serials_of lines) p refl member) c.index_mut-line.ensures.value))
          c.len.ensures (c.renew.ensures sorted)),
    )

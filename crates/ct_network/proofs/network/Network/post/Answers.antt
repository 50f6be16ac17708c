use Rattle.std.proofs.Common.{◌≡◌, length, ap, sym, ◌∙◌, rules, arith}
use Rattle.ct_model.specs.declared.mail.Mail.TheVariants.{One, All}
use Rattle.ct_network.proofs.Order.{order-posted}
use Rattle.std.proofs.lemmas.List.{length-map}
use Rattle.ct_model.specs.Wire.{envelopes}
use Rattle.ct_network.specs.Network.{NetworkView}
use Rattle.ct_network.proofs.Posts.{length-all}
use Rattle.ct_network.proofs.network.Network.post.Goals as goal

pub send_to_all-requires-clause-few : goal.send_to_all-requires-clause-few
send_to_all-requires-clause-few c =
    let now = c.args.self.now in
    let sent : length now.sent ≡ length c.self.inside.envelopes.items = ap (λ (v : NetworkView). length v.sent) (sym c.self.view_is) in
    let lines : length now.lines ≡ length c.self.inside.lines.items =
    ap (λ (v : NetworkView). length v.lines) (sym c.self.view_is) ∙ length-map c.self.inside.lines.items (λ l. l.serials) in
    omega (arith, c.requires.few, length-all (length now.lines) c.args.mail c.in-All.wire c.in-All.is)

pub returns-in-All-clause-number : goal.returns-in-All-clause-number
returns-in-All-clause-number c =
    let now = c.args.self.now in
    let lines : length now.lines ≡ length c.self.inside.lines.items =
    ap (λ (v : NetworkView). length v.lines) (sym c.self.view_is) ∙ length-map c.self.inside.lines.items (λ l. l.serials) in
    let all : length (envelopes (length now.lines) c.args.mail) ≡ length now.lines =
    length-all (length now.lines) c.args.mail c.in-All.wire c.in-All.is in
    c.len.ensures ∙ c.send_to_all.new.lines.ok.0 ∙ c.send_to_all.ensures.members ∙ sym lines ∙ sym all

pub invariant_of-self : goal.invariant_of-self
invariant_of-self c =
    let posted = c.send_one.ensures in (
      search rules,
      order-posted _ _ _ _ c.self.inside.moves (One c.in-One.to c.in-One.wire) posted.sent posted.members posted.joined
          c.self.invariant.1,
    )

pub invariant_of-self-in-All : goal.invariant_of-self-in-All
invariant_of-self-in-All c =
    let posted = c.send_to_all.ensures in (
      search rules,
      order-posted _ _ _ _ c.self.inside.moves (All c.in-All.wire) posted.sent posted.members posted.joined
          c.self.invariant.1,
    )

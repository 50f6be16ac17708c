use Rattle.std.proofs.Common.{◌≡◌, ◌+◌, [], ◌∷◌, ◌++◌, length, ap, ◌∙◌}
use Rattle.std.proofs.lemmas.List.{length_push}
use Rattle.ct_network.proofs.Joins.{join_one}
use Rattle.ct_network.proofs.network.sending.send_one.Goals as goal

pub returns-clause-joined : goal.returns-clause-joined
returns-clause-joined c =
    let old = c.index_mut-line.result.now in
    let sent = c.args.sent.now.items in
    let serial : c.len.result ≡ length sent + 1 =
    c.len.ensures ∙ ap length c.add_one.ensures ∙ length_push sent (record { to = c.args.to; wire = c.args.wire }) in
    join_one c.args.lines.now.items c.args.to (length sent) c.args.wire old c.join.new.self c.requires.to
    c.index_mut-line.ensures.value (c.join.ensures.serials ∙ ap (λ s. old.serials ++ s ∷ []) serial)

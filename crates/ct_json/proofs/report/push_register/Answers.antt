use Rattle.ct_json.proofs.Common.{◌≡◌, ℕ, Option, ap, ◌∙◌, slice_index, unwrap_or}
use Rattle.std.proofs.lemmas.Option.{unwrap_or-slice_get}
use Rattle.ct_json.proofs.report.push_register.Goals as goal

pub returns : goal.returns
returns c =
    let is : c.unwrap_or-value.result ≡ slice_index c.args.table.now c.args.register =
    c.unwrap_or-value.ensures ∙ ap (λ (o : Option ℕ). unwrap_or o 0) c.get.ensures.value
    ∙ unwrap_or-slice_get c.args.table.now c.args.register 0 in
    rw (← is) c.write.ensures.bytes

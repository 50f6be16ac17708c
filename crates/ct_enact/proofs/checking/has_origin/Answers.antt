use Rattle.std.proofs.Common.{◌+◌, ◌∙◌, ap, eqb-true, sym}
use Rattle.std.specs.HashMap.{get_by_text}
use Rattle.ct_enact.proofs.checking.has_origin.Goals as goal

pub returns-in-Some-get : goal.returns-in-Some-get
returns-in-Some-get c = λ e. record {
  told = c.in-Some.told.now;
  there = sym c.in-Some.ensures.value;
  place = c.in-Some-get.place.now;
  sent = ap (get_by_text c.args.table.now.sent) (sym c.as_str.ensures.value) ∙ sym c.in-Some-get.ensures.value;
  origin = sym c.origin.ensures ∙ (sym c.from.ensures ∙ (eqb-true _ _ e ∙ ap (λ n. n + 1) c.from-in-Some-get.ensures));
}

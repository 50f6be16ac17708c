use Rattle.std.proofs.Common.{arith, ◌≡◌, ℕ, ◌==◌, Bool, not, Option, ap, ◌∙◌}
use Rattle.std.specs.Prelude.{unwrap_or, slice_index, if◌then◌else◌, Some, None}
use Rattle.std.specs.Bool.{then_some}
use Rattle.std.proofs.lemmas.Option.{unwrap_or-slice_get}
use Rattle.ct_text.specs.Lists.{nonzero}
use Rattle.ct_text.proofs.lists.value_of.Goals as goal

some_if : (b : Bool) (value : ℕ) → then_some (not b) value ≡ (if b then None else Some value)
some_if b value = grind arith

pub returns : goal.returns
returns c =
    let value = c.unwrap_or-value.result in
    let read : value ≡ slice_index c.args.table.now c.args.register =
    c.unwrap_or-value.ensures ∙ ap (λ (o : Option ℕ). unwrap_or o 0) c.get.ensures.value
    ∙ unwrap_or-slice_get c.args.table.now c.args.register 0 in
    c.then_some.ensures ∙ some_if (value == 0) value ∙ ap nonzero read

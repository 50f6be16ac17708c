use Rattle.std.specs.Prelude.{option_map, slice_get}
use Rattle.std.proofs.Common.{◌∙◌, ap}
use Rattle.ct_find.specs.declared.hit.Hit.{Hit}
use Rattle.ct_find.proofs.Hits.{first_hit}
use Rattle.ct_find.proofs.searching.find_in_threads.Goals as goal

pub returns-clause-found : goal.returns-clause-found
returns-clause-found g c =
    c.first_of.ensures
    ∙ (ap (λ hits. option_map (λ (hit : Hit). hit.seed) (slice_get hits 0)) (c.deref.ensures.value ∙ c.in_ok-hits.ensures.hits)
    ∙ first_hit c.args.options.now c.args.goal.now _ c.args.seeds.first)

use Rattle.std.proofs.Common.{rules, tests, ◌∙◌, refl, sym}
use Rattle.std.proofs.lemmas.Iterator.{YieldsList-from_range}
use Rattle.std.proofs.lemmas.Iterator.Adapters.{option_map_id}
use Rattle.std.proofs.lemmas.Iterator.Consumers.{YieldsList-from_filter, nth_from_yields_List}
use Rattle.ct_walk.specs.Turns.{is_open}
use Rattle.ct_walk.proofs.draws.Draws.drawn_script.Goals as goal

pub returns-clause-script : goal.returns-clause-script
returns-clause-script c =
    sym (option_map_id c.nth.result) ∙ nth_from_yields_List c.nth.result c.nth.new.self c.args.place c.nth.ensures.ran
    (YieldsList-from_filter _ (is_open c.args.options.now c.args.self.now) (YieldsList-from_range 0 4 4 c.filter.ensures.source refl)
    c.filter.ensures.closure (λ x b q k. search (rules, tests)))

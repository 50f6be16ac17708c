use Rattle.std.proofs.Common.{rules, tests, ◌≡◌, ◌∙◌, ◌+◌, length, ap₂, refl}
use Rattle.std.proofs.lemmas.Iterator.{YieldsList-from_range}
use Rattle.std.proofs.lemmas.Iterator.Consumers.{YieldsList-from_filter, count_from_yields_List}
use Rattle.ct_walk.specs.Turns.{is_open, open_scripts}
use Rattle.ct_walk.specs.Walking.{workers}
use Rattle.ct_walk.proofs.draws.Draws.workers.Goals as goal

pub returns-clause-value : goal.returns-clause-value
unfolding workers
returns-clause-value c =
    let scripts : c.count-scripts.result ≡ length (open_scripts c.args.options.now c.args.self.now) =
    count_from_yields_List c.filter.result c.count-scripts.result c.count-scripts.ensures.ran
    (YieldsList-from_filter _ (is_open c.args.options.now c.args.self.now) (YieldsList-from_range 0 4 4 c.filter.ensures.source refl)
    c.filter.ensures.closure (λ x b q k. search (rules, tests))) in
    let members : c.from.result ≡ c.args.world.now.rehearsal.setting.members =
    c.from.ensures ∙ (c.n.ensures.value ∙ c.group.ensures) in
    ap₂ (λ m k. m + k) members scripts

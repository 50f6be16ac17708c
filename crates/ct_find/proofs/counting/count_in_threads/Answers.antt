use Rattle.std.proofs.Common.{◌∙◌, ◌≤◌, List, length, subst, sym}
use Rattle.ct_walk.specs.Finding.{seeds_to}
use Rattle.ct_find.specs.declared.hit.Hit.{Hit}
use Rattle.ct_find.proofs.Hits.{hits_few}
use Rattle.ct_find.proofs.counting.count_in_threads.Goals as goal

pub tally_of-requires-clause-few : goal.tally_of-requires-clause-few
tally_of-requires-clause-few g c =
    let all = seeds_to c.args.seeds.first c.args.seeds.last in
    let Few : List Hit → Type 0 = λ hits. length hits ≤ all in
    subst Few (sym (c.deref.ensures.value ∙ c.in_ok-hits.ensures.hits)) (hits_few c.args.options.now c.args.goal.now all c.args.seeds.first)

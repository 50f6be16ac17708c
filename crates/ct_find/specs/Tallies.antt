-- How many seeds show what is looked for.
use Rattle.std.specs.Prelude.{◌≡◌, ◌*◌, ◌/◌, List, length, map}
use Rattle.ct_grammar.specs.declared.goal.Goal.{Goal}
use Rattle.ct_walk.specs.declared.call.Seeds.{Seeds}
use Rattle.ct_walk.specs.declared.options.WalkOptions.{WalkOptions}
use Rattle.ct_walk.specs.Finding.{seeds_to}
use Rattle.ct_find.specs.declared.hit.Hit.{Hit}
use Rattle.ct_find.specs.declared.tally.Tally.{Tally}
use Rattle.ct_find.specs.Hits.{hits_of}
use Rattle.ct_find.specs.Spreads.{IsSpreadOf}

-- of the seeds whose hits these are
pub record IsTally (seeds : Seeds) (hits : List Hit) (tally : Tally) : Type 0 where
  pub seeds_are : tally.seeds ≡ seeds
  pub tried : tally.tried ≡ seeds_to seeds.first seeds.last
  pub shown : tally.shown ≡ length hits
  pub share : tally.share ≡ (length hits * 1000) / seeds_to seeds.first seeds.last
  pub steps : IsSpreadOf (map (λ (hit : Hit). hit.size.steps) hits) tally.steps
  pub rounds : IsSpreadOf (map (λ (hit : Hit). hit.size.round) hits) tally.rounds

-- of the seeds' walks that are made until the goal
abbrev pub IsTallyOf : WalkOptions → Goal → Seeds → Tally → Type 0
IsTallyOf o goal seeds tally = IsTally seeds (hits_of o goal seeds) tally

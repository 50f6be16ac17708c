-- A handle takes a shrinker over.
use Rattle.ct_embed.proofs.AtHeap.{shrinker}
use Rattle.ct_embed.proofs.Holding.{holds}
use Rattle.ct_embed.proofs.handle.Handle.of_shrinker.Statement.{statement}
use Rattle.ct_embed.specs.contracts.handle.Handle.of_shrinker as f
use Rattle.ct_embed.proofs.handle.Handle.of_shrinker.Code as code

pub of_shrinker_spec : {M : Type 1} → statement M
of_shrinker_spec 𝓤 𝓛 𝓜 𝓡 wired = holds shrinker 𝓤 𝓛 𝓜 𝓡 f.Key.name _ _ (code.unfolded 𝓤 𝓛.H 𝓜 𝓡 wired)

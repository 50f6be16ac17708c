-- A handle gives a shrinker up.
use Rattle.ct_embed.proofs.AtHeap.{shrinker}
use Rattle.ct_embed.proofs.Holding.{gives}
use Rattle.ct_embed.proofs.handle.Handle.into_shrinker.Statement.{statement}
use Rattle.ct_embed.specs.contracts.handle.Handle.into_shrinker as f
use Rattle.ct_embed.proofs.handle.Handle.into_shrinker.Code as code

pub into_shrinker_spec : {M : Type 1} → statement M
into_shrinker_spec 𝓤 𝓛 𝓜 𝓡 wired = gives shrinker 𝓤 𝓛 𝓜 𝓡 f.Key.name _ _ (code.unfolded 𝓤 𝓛.H 𝓜 𝓡 wired)

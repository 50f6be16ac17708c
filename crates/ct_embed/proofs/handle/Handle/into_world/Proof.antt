-- A handle gives a world up.
use Rattle.ct_embed.proofs.AtHeap.{world}
use Rattle.ct_embed.proofs.Holding.{gives}
use Rattle.ct_embed.proofs.handle.Handle.into_world.Statement.{statement}
use Rattle.ct_embed.specs.contracts.handle.Handle.into_world as f
use Rattle.ct_embed.proofs.handle.Handle.into_world.Code as code

pub into_world_spec : {M : Type 1} → statement M
into_world_spec 𝓤 𝓛 𝓜 𝓡 wired = gives world 𝓤 𝓛 𝓜 𝓡 f.Key.name _ _ (code.unfolded 𝓤 𝓛.H 𝓜 𝓡 wired)

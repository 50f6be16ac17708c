-- A handle takes a world over.
use Rattle.ct_embed.proofs.AtHeap.{world}
use Rattle.ct_embed.proofs.Holding.{holds}
use Rattle.ct_embed.proofs.handle.Handle.of_world.Statement.{statement}
use Rattle.ct_embed.specs.contracts.handle.Handle.of_world as f
use Rattle.ct_embed.proofs.handle.Handle.of_world.Code as code

pub of_world_spec : {M : Type 1} → statement M
of_world_spec 𝓤 𝓛 𝓜 𝓡 wired = holds world 𝓤 𝓛 𝓜 𝓡 f.Key.name _ _ (code.unfolded 𝓤 𝓛.H 𝓜 𝓡 wired)

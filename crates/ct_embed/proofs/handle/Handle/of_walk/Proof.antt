-- A handle takes a walk over.
use Rattle.ct_embed.proofs.AtHeap.{walk}
use Rattle.ct_embed.proofs.Holding.{holds}
use Rattle.ct_embed.proofs.handle.Handle.of_walk.Statement.{statement}
use Rattle.ct_embed.specs.contracts.handle.Handle.of_walk as f
use Rattle.ct_embed.proofs.handle.Handle.of_walk.Code as code

pub of_walk_spec : {M : Type 1} → statement M
of_walk_spec 𝓤 𝓛 𝓜 𝓡 wired = holds walk 𝓤 𝓛 𝓜 𝓡 f.Key.name _ _ (code.unfolded 𝓤 𝓛.H 𝓜 𝓡 wired)

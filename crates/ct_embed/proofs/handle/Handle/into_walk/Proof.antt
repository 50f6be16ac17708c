-- A handle gives a walk up.
use Rattle.ct_embed.proofs.AtHeap.{walk}
use Rattle.ct_embed.proofs.Holding.{gives}
use Rattle.ct_embed.proofs.handle.Handle.into_walk.Statement.{statement}
use Rattle.ct_embed.specs.contracts.handle.Handle.into_walk as f
use Rattle.ct_embed.proofs.handle.Handle.into_walk.Code as code

pub into_walk_spec : {M : Type 1} → statement M
into_walk_spec 𝓤 𝓛 𝓜 𝓡 wired = gives walk 𝓤 𝓛 𝓜 𝓡 f.Key.name _ _ (code.unfolded 𝓤 𝓛.H 𝓜 𝓡 wired)

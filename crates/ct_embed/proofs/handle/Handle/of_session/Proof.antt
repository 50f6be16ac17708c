-- A handle takes a session over.
use Rattle.ct_embed.proofs.AtHeap.{session}
use Rattle.ct_embed.proofs.Holding.{holds}
use Rattle.ct_embed.proofs.handle.Handle.of_session.Statement.{statement}
use Rattle.ct_embed.specs.contracts.handle.Handle.of_session as f
use Rattle.ct_embed.proofs.handle.Handle.of_session.Code as code

pub of_session_spec : {M : Type 1} → statement M
of_session_spec 𝓤 𝓛 𝓜 𝓡 wired = holds session 𝓤 𝓛 𝓜 𝓡 f.Key.name _ _ (code.unfolded 𝓤 𝓛.H 𝓜 𝓡 wired)

-- A handle gives a session up.
use Rattle.ct_embed.proofs.AtHeap.{session}
use Rattle.ct_embed.proofs.Holding.{gives}
use Rattle.ct_embed.proofs.handle.Handle.into_session.Statement.{statement}
use Rattle.ct_embed.specs.contracts.handle.Handle.into_session as f
use Rattle.ct_embed.proofs.handle.Handle.into_session.Code as code

pub into_session_spec : {M : Type 1} → statement M
into_session_spec 𝓤 𝓛 𝓜 𝓡 wired = gives session 𝓤 𝓛 𝓜 𝓡 f.Key.name _ _ (code.unfolded 𝓤 𝓛.H 𝓜 𝓡 wired)

use Rattle.std.proofs.Common.{inl, refl}
use Rattle.ct_tool.proofs.host.HostNewFiles.make.Goals as goal

pub returns-else-has_made-clause-part : goal.returns-else-has_made-clause-part
returns-else-has_made-clause-part c = inl refl

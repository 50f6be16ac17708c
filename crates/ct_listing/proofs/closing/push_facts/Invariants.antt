use Rattle.std.specs.Prelude.{string_bytes}
use Rattle.ct_listing.specs.Leading.{Leads}
use Rattle.ct_listing.proofs.closing.push_facts.Given as goal

abbrev pub invariant-loop-i : goal.invariant-loop-i
invariant-loop-i l = Leads (string_bytes l.text) l.stage

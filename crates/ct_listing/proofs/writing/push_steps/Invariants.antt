use Rattle.std.proofs.Common.{◌≡◌, take}
use Rattle.std.specs.Prelude.{string_bytes}
use Rattle.ct_listing.specs.Leading.{Leads}
use Rattle.ct_listing.proofs.writing.push_steps.Given as goal

abbrev pub invariant-loop-i : goal.invariant-loop-i
invariant-loop-i l = record {
  leads : Leads (string_bytes l.text) l.stage;
  done : l.stage.rehearsal ≡ record l.fn.stage.rehearsal { steps = take l.i l.steps };
}

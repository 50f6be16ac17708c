use Rattle.std.proofs.Common.{◌≡◌, ◌∙◌, ℕ, List, None, Ok, arith, rules, subst}
use Rattle.std.proofs.lemmas.Grind.{common_steps}
use Rattle.std.specs.Io.KnownBytes.{Appends}
use Rattle.ct_model.specs.Rehearsal.{Rehearsal}
use Rattle.ct_records.specs.declared.program_fault.ProgramFault.TheVariants as of
use Rattle.ct_records.specs.Script.{script}
use Rattle.ct_records.specs.View.{rehearsal_of}
use Rattle.ct_streams.specs.Streams.{WritesPart}
use Rattle.ct_told.specs.declared.show_fault.ShowFault.{ShowFault}
use Rattle.ct_told.specs.declared.show_fault.ShowFault.TheVariants.{NoMember, Unread, Program}
use Rattle.ct_told.proofs.Seen.{fault_seen, record_seen, unread_seen}
use Rattle.ct_diagram.specs.declared.window.Window.{Window}
use Rattle.ct_diagram.specs.Diagram.{FailsWith}
use Rattle.ct_diagram.specs.Running.{FailsOn}
use Rattle.ct_diagram.specs.Window.{lacking}
use Rattle.ct_diagram.proofs.running.draw.Goals as goal

fails : (window : Window) (w : Rehearsal) (fault : ShowFault) (input : List ℕ) → FailsWith window fault w → script input ≡ Ok w →
    FailsOn window fault input
fails window w (NoMember member members) input h e = absurd h.1
fails window w (Unread told) input h e = absurd h.1
fails window w (Program of.Reader) input h e = tt
fails window w (Program of.Write) input h e = tt
fails window w (Program of.Memory) input h e = tt
fails window w _ input h e = rw e h

pub returns-in_err-script-clause-fault : goal.returns-in_err-script-clause-fault
returns-in_err-script-clause-fault g c =
    unread_seen (λ f. f) (FailsOn c.args.window.now) c.from_residual.result _ c.in_err-script.field-0.0 c.from_residual.ensures.1
    c.in_err-script.ensures.fault (λ text input h. h) (λ input. (tt, tt))

pub returns-in_err-text-clause-fault : goal.returns-in_err-text-clause-fault
returns-in_err-text-clause-fault g c =
    let w = rehearsal_of c.in_ok-script.script in
    let fault = c.in_err-text.field-0.0 in
    fault_seen (FailsOn c.args.window.now) c.from_residual-in_err-text.result _ w fault c.from_residual-in_err-text.ensures.1
    c.in_ok-script.ensures.ok (λ input. fails c.args.window.now w fault input c.in_err-text.ensures.err)

pub returns-in-Ok-clause-members : goal.returns-in-Ok-clause-members
returns-in-Ok-clause-members g c =
    record_seen _ (rehearsal_of c.in_ok-script.script) (λ w. lacking c.args.window.now w ≡ None) c.in_ok-script.ensures.ok
    (first_of (search rules, grind (arith, common_steps)))

pub returns-in-Ok-clause-ok : goal.returns-in-Ok-clause-ok
returns-in-Ok-clause-ok g c =
    let h = c.in_ok-text.ensures.ok in
    record_seen _ (rehearsal_of c.in_ok-script.script) _ c.in_ok-script.ensures.ok
    (h.0, h.1, subst (Appends _ _) (c.deref.ensures.value ∙ h.2) c.in-Ok.ensures.bytes)

pub returns-clause-part : goal.returns-clause-part
returns-clause-part g c = λ _.
    let h = c.in_ok-text.ensures.ok in
    record_seen _ (rehearsal_of c.in_ok-script.script) _ c.in_ok-script.ensures.ok
    (h.0, h.1, subst (WritesPart _ _) (c.deref.ensures.value ∙ h.2) c.in-Err.ensures.part)

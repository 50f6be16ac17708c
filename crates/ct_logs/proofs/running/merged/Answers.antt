use Rattle.std.proofs.Common.{ℕ, List, subst}
use Rattle.std.specs.Global.{Vec}
use Rattle.std.proofs.lemmas.Result.{IfErr-weaker, IfOk-weaker}
use Rattle.ct_logs.specs.Files.{texts_of}
use Rattle.ct_logs.specs.Groups.{AreNoLogs}
use Rattle.ct_logs.specs.Silence.{IsNoLogs}
use Rattle.ct_logs.proofs.Merged.{files_fault, files_no_logs, files_text, files_too_long}
use Rattle.ct_logs.proofs.running.merged.Goals as goal

pub returns-in-Err-clause-fault : goal.returns-in-Err-clause-fault
returns-in-Err-clause-fault g c = files_too_long _ _ c.args.presumes c.in-Err.fault c.in-Err.ensures.fault

pub returns-in-Ok-read-clause-ok : goal.returns-in-Ok-read-clause-ok
returns-in-Ok-read-clause-ok g c =
    IfOk-weaker c.merged_in.result _ _
    (λ run h. files_text _ _ (texts_of c.in-Ok.texts.items) c.in-Ok.ensures.ok c.args.presumes c.args.form run.text.items h)
    c.merged_in.ensures.ok

pub returns-in-Ok-read-clause-fault : goal.returns-in-Ok-read-clause-fault
returns-in-Ok-read-clause-fault g c =
    IfErr-weaker c.merged_in.result _ _
    (λ fault h. files_fault _ _ (texts_of c.in-Ok.texts.items) c.in-Ok.ensures.ok c.args.presumes fault h) c.merged_in.ensures.fault

pub returns-in-Err-read-clause-fault : goal.returns-in-Err-read-clause-fault
returns-in-Err-read-clause-fault g c =
    files_no_logs _ _ (texts_of c.in-Ok.texts.items) c.in-Ok.ensures.ok c.args.presumes c.in-Err-read.fault
    (subst (λ (l : List (Vec ℕ)). IsNoLogs (AreNoLogs (texts_of l)) c.in-Err-read.fault) c.deref.ensures.value
    c.in-Err-read.ensures.fault)

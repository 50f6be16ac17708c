use Rattle.std.proofs.Common.{ℕ, subst, sym}
use Rattle.std.specs.Global.{Vec}
use Rattle.std.proofs.lemmas.List.{length-map}
use Rattle.std.proofs.lemmas.Result.{IfErr-weaker, IfOk-weaker}
use Rattle.ct_logs.specs.Files.{texts_of}
use Rattle.ct_logs.specs.Sets.{HasTaken}
use Rattle.ct_logs.proofs.Merged.{ended_fault, ended_text, no_group}
use Rattle.ct_logs.proofs.running.merged_in.Goals as goal

pub returns-in-Ok-clause-ok : goal.returns-in-Ok-clause-ok
returns-in-Ok-clause-ok c =
    let texts = c.args.texts.items in
    let all = subst (λ n. HasTaken (texts_of texts) n c.args.set) (sym (length-map texts (λ (v : Vec ℕ). v.items))) c.requires in
    IfOk-weaker c.end_of.result _ _ (λ run h. ended_text (texts_of texts) c.args.set all c.args.presumes c.judged_in.new.set.expected
    c.in-Ok.judged c.in-Ok.ensures.ok c.args.form run.text.items h) c.end_of.ensures.ok

pub returns-in-Ok-clause-fault : goal.returns-in-Ok-clause-fault
returns-in-Ok-clause-fault c =
    let texts = c.args.texts.items in
    let all = subst (λ n. HasTaken (texts_of texts) n c.args.set) (sym (length-map texts (λ (v : Vec ℕ). v.items))) c.requires in
    IfErr-weaker c.end_of.result _ _ (λ fault h. ended_fault (texts_of texts) c.args.set all c.args.presumes
    c.judged_in.new.set.expected c.in-Ok.judged c.in-Ok.ensures.ok fault h) c.end_of.ensures.fault

pub returns-in-Err-clause-fault : goal.returns-in-Err-clause-fault
returns-in-Err-clause-fault c =
    let texts = c.args.texts.items in
    let all = subst (λ n. HasTaken (texts_of texts) n c.args.set) (sym (length-map texts (λ (v : Vec ℕ). v.items))) c.requires in
    no_group (texts_of texts) c.args.set all c.args.presumes c.in-Err.fault c.in-Err.ensures.fault

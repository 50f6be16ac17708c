-- Runs, and faults, of logs that files have.
use Rattle.std.proofs.Common.{◌≡◌, ℕ, List, Bool, true, false, Option, Some, None, Result, Ok, Err, length, take}
use Rattle.std.proofs.Common.{arith, inl, inr, refl, sym, ap, subst, ◌∙◌}
use Rattle.std.specs.Prelude.{◌⊎◌, IfOk, IfSome, if◌then◌else◌, map}
use Rattle.std.specs.Global.{Vec}
use Rattle.std.proofs.lemmas.List.{take_all}
use Rattle.std.proofs.lemmas.Option.{IfSome_then}
use Rattle.std.proofs.lemmas.Result.{IfOk-weaker}
use Rattle.ct_model.specs.Rehearsal.{Rehearsal}
use Rattle.ct_model.specs.Setting.{Setting}
use Rattle.ct_world.specs.Setup.{setting_of}
use Rattle.ct_world.specs.declared.setup.Setup.{Setup}
use Rattle.ct_merge.specs.Expected.{Expecting, IsUnmet, expected_of}
use Rattle.ct_merge.specs.Logs.{IsLog, IsMerge, log_of}
use Rattle.ct_merge.specs.Proposers.{line_in}
use Rattle.ct_merge.specs.Merging.{IsTakenFrom, Taken, count_of}
use Rattle.ct_merge.specs.Standstills.{AreStopped}
use Rattle.ct_merge.specs.Stops.{IsCulprit}
use Rattle.ct_merge.specs.Verdicts.{IfAccepted, IfRefused, IfStopped, verdict_at}
use Rattle.ct_merge.specs.Waits.{AllBegin, HasNoMerge, NeverMerges, is_ended, is_limit, is_wait}
use Rattle.ct_merge.specs.declared.log_line.LogLine.{LogLine}
use Rattle.ct_merge.specs.declared.stopped_lines.StoppedLines.{StoppedLines}
use Rattle.ct_merge.specs.declared.verdict.Culprit.{Culprit}
use Rattle.ct_merge.specs.declared.verdict.Verdict.{Verdict}
use Rattle.ct_merge.specs.declared.verdict.Verdict.TheVariants.{Accepted, Refused, Incomplete, Limited}
use Rattle.ct_presume.proofs.GoingOn.{cut_ended, cut_none}
use Rattle.ct_logs.specs.Files.{AreTextsIn, IsTooLong, Known}
use Rattle.ct_logs.specs.Groups.{AreLogsIn, AreNoLogs, HaveLogs, HaveNoLogs, Logs}
use Rattle.ct_logs.specs.Judging.{AreMet, AreUnmet, EndsAs, EndsWith, GoOn, IsFaultOf, IsHaltFault, IsJudged, IsJudgedOf, IsMergeOf}
use Rattle.ct_logs.specs.Judging.{IsOpening, IsOpeningOf, IsRunOf, IsUnmetBy, IsUnmetFault, IsUnmetRun, IsVerdictOf, logs_in}
use Rattle.ct_logs.specs.Merged.{IsFaultIn, IsRunIn, IsSomeMerge, IsSomeRun, IsTextOfOne}
use Rattle.ct_logs.specs.Sets.{AreFirstLines, HasTaken, IsSetupOf, LogsSoFar}
use Rattle.ct_logs.specs.Silence.{IsNoLogs, IsSilent}
use Rattle.ct_logs.specs.declared.form.Form.{Form}
use Rattle.ct_logs.specs.declared.judged.Judged.{Judged}
use Rattle.ct_logs.specs.declared.merge_fault.MergeFault.{MergeFault}
use Rattle.ct_logs.specs.declared.merge_fault.MergeFault.TheVariants as faults
use Rattle.ct_logs.proofs.Grouping.{logs_of, setup_back}
use Rattle.ct_logs.proofs.Telling.{no_logs_for, silent_no_logs}
use Rattle.ct_logs.proofs.Slots.{expected_in_first, log_in_first, own_lines, take_both}

-- ---- runs of some logs

-- a merge of these logs is one of some
pub some_merge : (v : Verdict) (logs : List (Vec LogLine)) → IfAccepted v (λ w. IsMerge w logs) → IfAccepted v IsSomeMerge
some_merge (Accepted world) logs h = (logs, h)
some_merge _ logs h = tt

-- the text of a run that is accepted, of some logs
pub some_text : (form : Form) (v : Verdict) (expected : List Expecting) (text : List ℕ) → IfAccepted v IsSomeMerge →
    EndsWith form v expected text → IsTextOfOne IsSomeRun form text
some_text form (Accepted world) expected text merge ends = (world.rehearsal, (ends.1.0, merge), ends.1.1)
some_text form _ expected text merge ends = absurd ends.1

-- ---- runs of first lines

-- a merge of the logs has all their lines
pub whole_opens : (w : Rehearsal) (lines : List (Vec LogLine)) → IsMerge w lines → IsOpening w lines
whole_opens w lines merged p member =
    let log : List LogLine = log_of lines p in
    (length log, subst (λ l. IsLog w p l) (sym (take_all (length log) log (omega arith))) (merged p member))

first_opens : (w : Rehearsal) (first lines : List (Vec LogLine)) → AreFirstLines first lines → IsOpening w first → IsOpening w lines
first_opens w first lines are opens p member =
    let o = opens p member in
    let f = are p in
    let t = take_both o.0 f.0 (log_of lines p) in
    (t.0, subst (λ l. IsLog w p l) (ap (take o.0) f.1 ∙ t.1) o.1)

taken_opens : (w : Rehearsal) (lines : List (Vec LogLine)) (t : Taken) → w ≡ t.rehearsal → IsTakenFrom lines t → IsOpening w lines
taken_opens w lines t same taken = subst (λ v. IsOpening v lines) (sym same) (λ p member. (count_of t.counts p, (taken p member).is))

-- ---- verdicts

-- logs stand where first lines of these do
abbrev pub StandAt : Setup → List (Vec LogLine) → StoppedLines → Type 0
StandAt setup more lines = (first : List (Vec LogLine)) × AreFirstLines first more × AreStopped (setting_of setup) setup.cells first lines

pub stand_own : (setup : Setup) (lines : List (Vec LogLine)) (o : Option StoppedLines) →
    IfSome o (AreStopped (setting_of setup) setup.cells lines) → IfSome o (StandAt setup lines)
stand_own setup lines None h = tt
stand_own setup lines (Some stopped) h = (lines, own_lines lines, h)

pub stand_first : (r : Result Judged MergeFault) (setup : Setup) (first more : List (Vec LogLine)) → AreFirstLines first more →
    IfOk r (λ judged. IfSome judged.stopped (AreStopped (setting_of setup) setup.cells first)) →
    IfOk r (λ judged. IfSome judged.stopped (StandAt setup more))
stand_first r setup first more are h =
    IfOk-weaker r _ _ (λ judged stopped. IfSome_then judged.stopped stopped (λ lines is. (first, are, is))) h

-- the reason of a line says which verdict it is
limited_by : (c : Culprit) (ends limits : Bool) → Limited c ≡ (if ends then Incomplete c else if limits then Limited c else Refused c) →
    limits ≡ true
limited_by c false true e = refl
limited_by c _ _ e = absurd (cc)

-- what is known of a verdict on these lines of the group, of which those that it accepts are more
pub record ComesTo (setup : Setup) (lines more : List (Vec LogLine)) (v : Verdict) : Type 0 where
  pub merged : IfAccepted v (λ w. IsMerge w more)
  pub setting : IfAccepted v (λ w. w.setting ≡ setting_of setup)
  pub cells : IfAccepted v (λ w. w.cells ≡ setup.cells)
  pub culprit : IfStopped v (IsCulprit (setting_of setup) setup.cells lines)
  pub told : IfStopped v (λ culprit. v ≡ verdict_at culprit)
  pub refused : IfRefused v (λ culprit. NeverMerges (setting_of setup) lines)
  pub none : IfStopped v (λ culprit. is_wait culprit.why ≡ true → HasNoMerge (setting_of setup) lines)

module _ (presumes : Bool) (logs : Logs) (more : List (Vec LogLine)) (go_on : GoOn presumes logs.lines more) where
  verdict_as : (v : Verdict) → ComesTo logs.setup logs.lines more v → IsVerdictOf presumes logs v
  verdict_as (Accepted world) is = record { setting = is.setting; cells = is.cells; lines = more; go_on = go_on; merged = is.merged }
  verdict_as (Refused culprit) is = is.refused
  verdict_as (Incomplete culprit) is =
      record {
        stands = record { culprit = culprit; is = is.culprit; why = cut_ended culprit is.told };
        none = cut_none (setting_of logs.setup) logs.lines culprit is.told is.none;
      }
  verdict_as (Limited culprit) is =
      record { culprit = culprit; is = is.culprit; why = limited_by culprit (is_ended culprit.why) (is_limit culprit.why) is.told }

  lines_as : (o : Option StoppedLines) → IfSome o (StandAt logs.setup more) →
      IfSome o (λ lines. IsOpeningOf presumes logs lines.run.rehearsal)
  lines_as None h = tt
  lines_as (Some lines) h =
      let opens = taken_opens lines.run.rehearsal h.0 h.2.so_far h.2.run h.2.taken in
      record {
        setting = ap (λ (w : Rehearsal). w.setting) h.2.run ∙ h.2.group;
        lines = more;
        go_on = go_on;
        opens = first_opens lines.run.rehearsal h.0 more h.1 opens;
      }

  judged_as : (judged : Judged) (v : Verdict) → judged.verdict ≡ v → ComesTo logs.setup logs.lines more v →
      IfSome judged.stopped (StandAt logs.setup more) → IsJudged presumes logs judged
  judged_as judged v same is stand = record {
    verdict = subst (IsVerdictOf presumes logs) (sym same) (verdict_as v is);
    lines = lines_as judged.stopped stand;
  }

-- logs as they are
pub judged_once : (r : Result Judged MergeFault) (setup : Setup) (s : LogsSoFar) (v : Verdict) (lines : List (Vec LogLine)) →
    lines ≡ take setup.group s.logs → IfOk r (λ judged. judged.verdict ≡ v) →
    IfOk r (λ judged. IfSome judged.stopped (AreStopped (setting_of setup) setup.cells lines)) → ComesTo setup lines lines v →
    IfOk r (IsJudged false (logs_in setup s))
judged_once (Err fault) setup s v lines e same stopped is = tt
judged_once (Ok judged) setup s v lines e same stopped is =
    judged_as false (logs_in setup s) lines e judged v same (subst (λ l. ComesTo setup l lines v) e is)
    (stand_own setup lines judged.stopped stopped)

-- logs of which the ends are presumed
pub judged_presumed : (r : Result Judged MergeFault) (setup : Setup) (s : LogsSoFar) (v : Verdict) (lines more : List (Vec LogLine)) →
    lines ≡ take setup.group s.logs → AllBegin lines more → IfOk r (λ judged. judged.verdict ≡ v) →
    IfOk r (λ judged. IfSome judged.stopped (StandAt setup more)) → ComesTo setup lines more v →
    IfOk r (IsJudged true (logs_in setup s))
judged_presumed (Err fault) setup s v lines more e begun same stopped is = tt
judged_presumed (Ok judged) setup s v lines more e begun same stopped is =
    judged_as true (logs_in setup s) more (subst (λ l. AllBegin l more) e begun) judged v same
    (subst (λ l. ComesTo setup l more v) e is) stopped

-- the logs of a set in which senders were named
pub judged_set : (r : Result Judged MergeFault) (presumes : Bool) (setup : Setup) (old named : LogsSoFar) (expected : List Expecting) →
    IsSetupOf old setup → ((p : ℕ) → log_of named.logs p ≡ map (line_in setup.group) (log_of old.logs p)) →
    named.expected ≡ old.expected → expected ≡ named.expected → IfOk r (IsJudged presumes (logs_in setup named)) →
    IfOk r (IsJudgedOf presumes old expected)
judged_set (Err fault) presumes setup old named expected is lines same kept h = tt
judged_set (Ok judged) presumes setup old named expected is lines same kept h = record {
  logs = logs_in setup named;
  are = record {
    setup = is;
    lines = λ p member. log_in_first setup.group named.logs p member ∙ lines p;
    expected = λ p member. expected_in_first setup.group named.expected p member ∙ ap (λ l. expected_of l p) same;
  };
  comes_to = h;
  expected = ap (take setup.group) (sym kept);
}

-- ---- what is written and told

pub no_logs_as : (R : Type 0) (such : Logs → Type 0) (presumes : Bool) (fault : MergeFault) → IsNoLogs R fault →
    IsFaultOf R such presumes fault
no_logs_as R such presumes (faults.NoLogs text) h = h
no_logs_as R such presumes (faults.Refused text) h = absurd h
no_logs_as R such presumes (faults.Incomplete text) h = absurd h
no_logs_as R such presumes (faults.Limit text) h = absurd h
no_logs_as R such presumes fault h = h

module _ (presumes : Bool) (logs : Logs) where
  merge_opens : (w : Rehearsal) → IsMergeOf presumes logs w → IsOpeningOf presumes logs w
  merge_opens w merge =
      record { setting = merge.setting; lines = merge.lines; go_on = merge.go_on; opens = whole_opens w merge.lines merge.merged }

  module _ (expected : List Expecting) (same : logs.expected ≡ take logs.setup.group expected) where
    listed : (w : Rehearsal) → w.setting ≡ setting_of logs.setup → take w.setting.members expected ≡ logs.expected
    listed w setting = ap (λ (s : Setting). take s.members expected) setting ∙ sym same

    run_text : (form : Form) (v : Verdict) (text : List ℕ) → IsVerdictOf presumes logs v → EndsWith form v expected text →
        IsTextOfOne (IsRunOf presumes logs) form text
    run_text form (Accepted world) text is ends =
        let met : AreMet world.rehearsal logs.expected = subst (AreMet world.rehearsal) (listed world.rehearsal is.setting) ends.0 in
        (world.rehearsal, record { lawful = ends.1.0; merged = is; met = met }, ends.1.1)
    run_text form _ text is ends = absurd ends.1

    unmet_run : (w : Rehearsal) → IsOpeningOf presumes logs w → IsUnmetRun w expected → AreUnmet presumes logs
    unmet_run w opens h =
        let is = subst (λ list. IsUnmet w list h.unmet) (listed w opens.setting) h.is in
        record { run = w; lawful = h.lawful; opens = opens; unmet = h.unmet; is = is }

    unmet_by : (v : Verdict) (o : Option StoppedLines) → IsVerdictOf presumes logs v →
        IfSome o (λ lines. IsOpeningOf presumes logs lines.run.rehearsal) → IsUnmetBy v o expected → AreUnmet presumes logs
    unmet_by (Accepted world) o is opens h = unmet_run world.rehearsal (merge_opens world.rehearsal is) h
    unmet_by _ None is opens h = absurd h
    unmet_by _ (Some lines) is opens h = unmet_run lines.run.rehearsal opens h

    module _ (R : Type 0) (such : Logs → Type 0) (are : such logs) where
      silent_as : (fault : MergeFault) → IsSilent fault → IsFaultOf R such presumes fault
      silent_as fault h = no_logs_as R such presumes fault (silent_no_logs R fault h)

      halt_as : (v : Verdict) → IsVerdictOf presumes logs v → (fault : MergeFault) → IsHaltFault v fault →
          IsFaultOf R such presumes fault
      halt_as (Refused culprit) is (faults.Refused text) h = (logs, are, inl is)
      halt_as (Incomplete culprit) is (faults.Incomplete text) h = (logs, are, is)
      halt_as (Limited culprit) is (faults.Limit text) h = (logs, are, is)
      halt_as v is fault h = silent_as fault h

      unmet_as : (judged : Judged) → IsJudged presumes logs judged → (fault : MergeFault) → IsUnmetFault judged expected fault →
          IsFaultOf R such presumes fault
      unmet_as judged is (faults.Refused text) h = (logs, are, inr (unmet_by judged.verdict judged.stopped is.verdict is.lines h))
      unmet_as judged is fault h = silent_as fault h

      fault_as : (judged : Judged) → IsJudged presumes logs judged → (fault : MergeFault) → EndsAs judged expected fault →
          IsFaultOf R such presumes fault
      fault_as judged is fault h =
          elim h [ inl halt ↦ halt_as judged.verdict is.verdict fault halt | inr unmet ↦ unmet_as judged is fault unmet ]

module _ (texts : List (List ℕ)) (s : LogsSoFar) (all : HasTaken texts (length texts) s) (presumes : Bool) where
  module _ (expected : List Expecting) (judged : Judged) (is : IsJudgedOf presumes s expected judged) where
    pub ended_text : (form : Form) (text : List ℕ) → EndsWith form judged.verdict expected text →
        (logs : Logs) × AreLogsIn texts logs × IsTextOfOne (IsRunOf presumes logs) form text
    ended_text form text h = (
      is.logs,
      logs_of texts s is.logs all is.are,
      run_text presumes is.logs expected is.expected form judged.verdict text is.comes_to.verdict h,
    )

    pub ended_fault : (fault : MergeFault) → EndsAs judged expected fault → IsFaultOf (AreNoLogs texts) (AreLogsIn texts) presumes fault
    ended_fault fault h =
        fault_as presumes is.logs expected is.expected (AreNoLogs texts) (AreLogsIn texts) (logs_of texts s is.logs all is.are)
        judged is.comes_to fault h

  pub no_group : (fault : MergeFault) → IsNoLogs ((setup : Setup) → IsSetupOf s setup → ⊥) fault →
      IsFaultOf (AreNoLogs texts) (AreLogsIn texts) presumes fault
  no_group fault h =
      no_logs_as (AreNoLogs texts) (AreLogsIn texts) presumes fault
      (no_logs_for ((setup : Setup) → IsSetupOf s setup → ⊥) (AreNoLogs texts) fault
      (λ never setup group. never setup (setup_back texts s setup all group)) h)

-- ---- the files

module _ (bytes : Known) (names texts : List (List ℕ)) (read : AreTextsIn bytes names texts) (presumes : Bool) where
  pub files_text : (form : Form) (text : List ℕ) →
      ((logs : Logs) × AreLogsIn texts logs × IsTextOfOne (IsRunOf presumes logs) form text) →
      IsTextOfOne (IsRunIn bytes names presumes) form text
  files_text form text h =
      let have : HaveLogs bytes names h.0 = record { texts = texts; read = read; said = h.1 } in
      (h.2.0, (h.0, have, h.2.1), h.2.2)

  pub files_fault : (fault : MergeFault) → IsFaultOf (AreNoLogs texts) (AreLogsIn texts) presumes fault →
      IsFaultIn bytes names presumes fault
  files_fault (faults.NoLogs text) h = inr (record { texts = texts; read = read; none = h })
  files_fault (faults.Refused text) h = (h.0, record { texts = texts; read = read; said = h.1 }, h.2)
  files_fault (faults.Incomplete text) h = (h.0, record { texts = texts; read = read; said = h.1 }, h.2)
  files_fault (faults.Limit text) h = (h.0, record { texts = texts; read = read; said = h.1 }, h.2)
  files_fault fault h = h

  pub files_no_logs : (fault : MergeFault) → IsNoLogs (AreNoLogs texts) fault → IsFaultIn bytes names presumes fault
  files_no_logs fault h = files_fault fault (no_logs_as (AreNoLogs texts) (AreLogsIn texts) presumes fault h)

pub files_too_long : (bytes : Known) (names : List (List ℕ)) (presumes : Bool) (fault : MergeFault) →
    IsNoLogs (IsTooLong bytes names) fault → IsFaultIn bytes names presumes fault
files_too_long bytes names presumes fault h =
    no_logs_as (IsTooLong bytes names ⊎ HaveNoLogs bytes names) (HaveLogs bytes names) presumes fault
    (no_logs_for (IsTooLong bytes names) (IsTooLong bytes names ⊎ HaveNoLogs bytes names) fault (λ long. inl long) h)

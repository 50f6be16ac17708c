-- What a view shows of a record, and the faults of showing it, are those of the input.
use Rattle.std.proofs.Common.{◌≡◌, ◌∙◌, ℕ, List, Option, Some, None, Ok, subst}
use Rattle.std.specs.Prelude.{IfSome}
use Rattle.std.specs.Io.KnownBytes.{Appends}
use Rattle.ct_model.specs.Rehearsal.{Rehearsal}
use Rattle.ct_world.specs.declared.replay_fault.ReplayFault.{ReplayFault}
use Rattle.ct_records.specs.declared.program_fault.ProgramFault.TheVariants as of
use Rattle.ct_streams.specs.Streams.{WritesPart}
use Rattle.ct_records.specs.Script.{script}
use Rattle.ct_views.specs.declared.view.View.{View}
use Rattle.ct_views.specs.Answer.{FailsWith, IsAnswer, Shows, ShowsPart}
use Rattle.ct_told.proofs.Seen.{record_seen}

module _ (left : Option (List ℕ)) (w : Rehearsal) (read : IfSome left (λ input. script input ≡ Ok w)) (view : View) (text out : List ℕ)
    (refused : Option ReplayFault) (old new : Option (List ℕ)) (h : IsAnswer view w text refused) (same : out ≡ text) where
  pub part_seen : WritesPart old new out → IfSome left (λ input. ShowsPart view (script input) old new)
  part_seen a = record_seen left w _ read (text, refused, h, subst (WritesPart old new) same a)

  pub shows_seen : Appends old new out → refused ≡ None → IfSome left (λ input. Shows view (script input) old new)
  shows_seen a none =
      let both : IsAnswer view w text None = subst (λ (r : Option ReplayFault). IsAnswer view w text r) none h in
      record_seen left w _ read (both.0, subst (Appends old new) (same ∙ both.1) a)

  pub fails_seen : Appends old new out → (fault : ReplayFault) → refused ≡ Some fault →
      IfSome left (λ input. FailsWith view (of.Replay fault.at fault.refusal) (script input) old new)
  fails_seen a fault some =
      let both : IsAnswer view w text (Some fault) = subst (λ (r : Option ReplayFault). IsAnswer view w text r) some h in
      record_seen left w _ read (both.0, subst (Appends old new) (same ∙ both.1) a)

use Rattle.std.proofs.Common.{◌≡◌, ◌++◌, ◌∷◌, [], Some, ap, ◌∙◌, subst, sym, replicate}
use Rattle.ct_model.specs.Actor.{actor}
use Rattle.ct_model.specs.Rehearsal.{Rehearsal, state_of}
use Rattle.ct_model.specs.Run.{run}
use Rattle.ct_model.specs.Senders.{senders}
use Rattle.ct_world.specs.World.{WorldView}
use Rattle.ct_text.proofs.Tracing.{senders_more}
use Rattle.ct_play.specs.Indexing.{IsIndexOf}
use Rattle.ct_play.proofs.Indexing.{index_next}
use Rattle.ct_play.proofs.stage.Stage.step.Goals as goal

pub invariant_of-self-2 : goal.invariant_of-self-2
invariant_of-self-2 c =
    let h = c.in-Ok.ensures in
    let old = c.self.inside.stage.rehearsal in
    let new = c.step.new.self.rehearsal in
    let step = c.args.step in
    let sent = c.in-Ok.effect.sent in
    let world : c.world-2.result.now.rehearsal ≡ old =
    ap (λ (v : WorldView). v.rehearsal) c.world-2.ensures in
    let runs : run old.setting old.steps ≡ Some (state_of old) =
    ap (λ (v : Rehearsal). run v.setting v.steps) (sym world)
    ∙ (ap (run c.world-2.result.now.rehearsal.setting) (sym c.record.ensures.value)
    ∙ (c.record.ensures.runs ∙ ap (λ (v : Rehearsal). Some (state_of v)) world)) in
    let more : senders old.setting (old.steps ++ step ∷ []) ≡ senders old.setting old.steps ++ replicate sent (actor step) =
    senders_more old.setting old.steps step (state_of old) (state_of new) sent runs h.ok.next h.ok.sent_more in
    let first : c.world.result.now.rehearsal ≡ old = ap (λ (v : WorldView). v.rehearsal) c.world.ensures in (
      ap (λ from. from ++ replicate sent c.member-self-inside.result) (c.in_ok-note.ensures.ok ∙ c.self.invariant.0)
          ∙ ap (λ p. senders old.setting old.steps ++ replicate sent p) c.member-self-inside.ensures ∙ sym more
          ∙ ap (λ (v : Rehearsal). senders v.setting v.steps) (sym h.ok.joined),
      λ index is. index_next old new step index h.ok.next
          (subst (λ (w : Rehearsal). IsIndexOf w index) first (c.in_ok-note_sent.ensures.kept index is)),
    )

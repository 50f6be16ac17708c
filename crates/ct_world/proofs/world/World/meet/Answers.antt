use Rattle.std.proofs.Common.{◌≡◌, Some, length, refl, take, ap, sym, ◌∙◌, subst, arith}
use Rattle.std.specs.Prelude.{All, IsSome, slice_get, option_map}
use Rattle.std.proofs.lemmas.List.{length-map}
use Rattle.ct_names.specs.Batch.{Batch}
use Rattle.ct_names.specs.Prefix.{IsPrefix}
use Rattle.ct_model.specs.Cause.{order}
use Rattle.ct_model.specs.Rehearsal.{state_of}
use Rattle.ct_model.specs.Run.{run}
use Rattle.ct_board.specs.Known.{somes}
use Rattle.ct_board.specs.Watched.{Watched, batches_told}
use Rattle.ct_board.proofs.Meeting.{IsMet, met}
use Rattle.ct_world.proofs.Reading.Meetings.{finds_more}
use Rattle.ct_world.proofs.world.World.meet.Goals as goal
use Rattle.ct_world.proofs.world.World.meet.Goals.{After-loop-place}

pub loop-place-preserved : goal.loop-place-preserved
loop-place-preserved c =
    let old = c.loop-place.invariant in
    let look = c.in-Some.ensures in
    record {
      cells = ap (λ (w : Watched). w.cells) look.some ∙ old.cells;
      read = ap (λ (w : Watched). w.read) look.some ∙ old.read;
      told = ap (λ (w : Watched). w.told) look.some ∙ old.told;
      batches_read = look.read ∙ old.batches_read;
      batches_told = look.told ∙ old.batches_told;
      keeps = λ place x knows. look.keeps place x (old.keeps place x knows);
      known = finds_more c.args.self.now.rehearsal c.loop-place.watcher.notes c.look.new.self.notes c.loop-place.place c.in-Some.batch.now
          c.unwrap-messages.result.now
          (subst (λ steps. run c.args.self.now.rehearsal.setting steps ≡ Some (state_of c.args.self.now.rehearsal)) c.record.ensures.value
          c.record.ensures.runs)
          (ap (λ list. slice_get list c.loop-place.place) (sym c.foremost-first.ensures.value) ∙ sym c.batch_at.ensures
          ∙ ap (option_map (λ list. list.now)) c.unwrap-messages.ensures)
          (c.if-is_same.ensures.0 refl) old.known look.keeps look.known;
    }

-- when all batches were found

posted : (c : After-loop-place) → c.batches-posted.result ≡ length (order (state_of c.args.self.now.rehearsal))
posted c = grind (arith, length-map (order (state_of c.args.self.now.rehearsal)) (λ (b : Batch). b.messages))

found : (c : After-loop-place) → IsMet (order (state_of c.args.self.now.rehearsal)) c.loop-place.watcher
found c =
    let old = c.loop-place.invariant in
    met (order (state_of c.args.self.now.rehearsal)) c.loop-place.watcher
    (λ k b less at. old.known k b (omega (arith, posted c, c.loop-place-test.false)) at)
    (omega (arith, posted c, old.read, c.read.ensures.number, c.if-posted-read.false))
    (omega (arith, posted c, old.told, c.told.ensures.number, c.if-posted-told.false))

pub tell-requires-clause-known : goal.tell-requires-clause-known
tell-requires-clause-known c =
    let at = (goal.at.tell-requires-clause-known c).After-loop-place in
    subst (λ k. All IsSome (take k c.loop-place.watcher.notes)) (sym (posted at)) (found at).known

pub returns-clause-read : goal.returns-clause-read
returns-clause-read c = subst (λ list. IsPrefix list (order (state_of c.args.self.now.rehearsal))) c.loop-place.invariant.batches_read
    (found (goal.at.returns-clause-read c).After-loop-place).read

pub returns-clause-told : goal.returns-clause-told
returns-clause-told c = subst (λ list. IsPrefix list (order (state_of c.args.self.now.rehearsal))) c.loop-place.invariant.batches_told
    (found (goal.at.returns-clause-told c).After-loop-place).told

pub returns-clause-tells : goal.returns-clause-tells
returns-clause-tells c =
    let at = (goal.at.returns-clause-tells c).After-loop-place in
    ap batches_told c.tell.ensures.told ∙ ap (λ k. somes (take k c.loop-place.watcher.notes)) (posted at) ∙ (found at).same

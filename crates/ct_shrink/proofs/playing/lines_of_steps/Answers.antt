use Rattle.std.proofs.Common.{◌≡◌, ℕ, ◌+◌, ◌<◌, List, [], ◌∷◌, ◌++◌, length, take, drop, get_or, ap, sym, ◌∙◌, append_assoc}
use Rattle.std.proofs.lemmas.List.{at_drop_more, take_more}
use Rattle.std.proofs.lemmas.List.Elements.{All-push, All-same}
use Rattle.std.proofs.lemmas.Option.{slice_get-get_or}
use Rattle.ct_names.specs.declared.command.Command.TheVariants.{Set}
use Rattle.ct_model.specs.Cause.{cause}
use Rattle.ct_model.specs.Rehearsal.{Rehearsal, extended}
use Rattle.ct_model.specs.declared.step.Step.{Step}
use Rattle.ct_model.specs.declared.step.Step.TheVariants.{Submit}
use Rattle.ct_world.specs.Setup.{record_of}
use Rattle.ct_world.specs.declared.setup.Setup.{Setup}
use Rattle.ct_shrink.specs.Naming.{IsByContent}
use Rattle.ct_shrink.specs.Playing.{line_of, lines_behind}
use Rattle.ct_shrink.specs.declared.line.Line.{Line}
use Rattle.ct_shrink.proofs.playing.lines_of_steps.Goals as goal

-- the line of one step more
one_line : (setup : Setup) (steps : List Step) (kept : List Line) (i : ℕ) (d : Step) → i < length steps →
    kept ++ lines_behind (record_of setup (take i steps)) (drop i steps)
    ≡ (kept ++ line_of (record_of setup (take i steps)) (get_or steps i d) ∷ [])
    ++ lines_behind (record_of setup (take (i + 1) steps)) (drop (i + 1) steps)
one_line setup steps kept i d lt =
    let line = line_of (record_of setup (take i steps)) (get_or steps i d) in
    ap (λ l. kept ++ l) (at_drop_more (lines_behind (record_of setup (take i steps))) steps i d lt)
    ∙ ap (λ (l : List Step). kept ++ line ∷ lines_behind (record_of setup l) (drop (i + 1) steps)) (sym (take_more steps i d lt))
    ∙ sym (append_assoc kept (line ∷ []) (lines_behind (record_of setup (take (i + 1) steps)) (drop (i + 1) steps)))

pub line_by-requires : goal.line_by-requires
line_by-requires c =
    let step : Step = get_or c.args.steps.now c.loop-i.i (Submit 0 (Set 0 0)) in
    ap (λ (w : Rehearsal). cause w step) c.loop-i.invariant.stage
    ∙ c.requires c.loop-i.i step c.loop-i-test.true
    (slice_get-get_or c.args.steps.now c.loop-i.i (Submit 0 (Set 0 0)) c.loop-i-test.true)

pub loop-i-preserved : goal.loop-i-preserved
loop-i-preserved c =
    let setup = c.args.setup.now in
    let steps = c.args.steps.now in
    let i = c.loop-i.i in
    let kept = c.loop-i.lines.items in
    let step : Step = get_or steps i (Submit 0 (Set 0 0)) in
    let line : c.in_ok-line.line ≡ line_of (record_of setup (take i steps)) step =
    c.in_ok-line.ensures.line ∙ ap (λ (w : Rehearsal). line_of w step) c.loop-i.invariant.stage in
    record {
      stage = c.in_ok-line.ensures.step ∙ ap (λ (w : Rehearsal). extended w step) c.loop-i.invariant.stage
          ∙ ap (λ l. record_of setup l) (sym (take_more steps i (Submit 0 (Set 0 0)) c.loop-i-test.true));
      lines = ap (λ l. l ++ lines_behind (record_of setup (take (i + 1) steps)) (drop (i + 1) steps))
          (c.in_ok-push_line.ensures ∙ ap (λ (l : Line). kept ++ l ∷ []) line)
          ∙ sym (one_line setup steps kept i (Submit 0 (Set 0 0)) c.loop-i-test.true) ∙ c.loop-i.invariant.lines;
      named = All-same IsByContent _ _ c.in_ok-push_line.ensures
          (All-push IsByContent kept c.in_ok-line.line c.loop-i.invariant.named c.in_ok-line.ensures.named);
    }

use Rattle.std.proofs.Common.{◌≡◌, ◌∙◌, ◌+◌, ◌++◌, ◌∷◌, [], ap, refl, subst, sym}
use Rattle.std.specs.Prelude.{All}
use Rattle.ct_merge.specs.Standstills.{AreToldTo, IsStoppedAt}
use Rattle.ct_merge.proofs.Standstills.{stopped_more, told_before, told_pushed}
use Rattle.ct_merge.proofs.furthest.waiting.Goals as goal
use Rattle.ct_merge.proofs.furthest.waiting.Goals.{then-not-is_told+in_ok-push, else-not-is_told}

pub loop-i-preserved : goal.loop-i-preserved
loop-i-preserved c =
    let logs = c.args.logs.now in
    let t = c.args.progress.now in
    let refused = c.args.refused.now in
    let old = c.loop-i.lines.items in
    let new = c.if-not-is_told.lines.items in
    let i = c.loop-i.i in
    elim c.if-not-is_told.branch [
      | then-not-is_told+in_ok-push w ↦
          let s = w.stopped_at.result in
          let pushed : new ≡ old ++ s ∷ [] = ap (λ v. v.items) w.lines-is ∙ w.in_ok-push.ensures.items in
          record {
            stopped = stopped_more logs t old new s c.loop-i.invariant.stopped w.stopped_at.ensures.stopped pushed;
            each = told_pushed logs t refused old new s i (i + 1) refl c.loop-i.invariant.each w.stopped_at.ensures.member pushed;
          }
      | else-not-is_told w ↦
          let same : new ≡ old = ap (λ v. v.items) w.lines-is in
          record {
            stopped = subst (λ l. All (IsStoppedAt logs t) l) (sym same) c.loop-i.invariant.stopped;
            each =
                subst (λ l. AreToldTo logs t refused l (i + 1)) (sym same)
                (told_before logs t refused old i (i + 1) refl c.loop-i.invariant.each (c.is_told.ensures.told w.if-not-is_told.false));
          }
    ]

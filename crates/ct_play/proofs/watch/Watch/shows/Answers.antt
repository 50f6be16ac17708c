use Rattle.std.proofs.Common.{◌∙◌, ap}
use Rattle.std.specs.Prelude.{option_map}
use Rattle.ct_play.specs.Goals.{Watched, is_shown}
use Rattle.ct_play.proofs.Seeing.{shown_by_looks}
use Rattle.ct_play.proofs.watch.Watch.shows.Goals as goal

pub returns-in-Some : goal.returns-in-Some
returns-in-Some c =
    shown_by_looks (option_map (λ goal. goal.now) c.self.inside.goal) c.in-Some.goal.now c.self.inside.stage c.deref.result.now
    c.deref-in-Some.result.now c.are_due.result c.are_due.ensures (c.deref.ensures.value ∙ c.goal.view_is)
    (c.deref-in-Some.ensures.value ∙ c.self.invariant.0) (ap (option_map (λ goal. goal.now)) c.in-Some.is)
    ∙ ap (λ (v : Watched). is_shown v.goal v.played) c.self.view_is

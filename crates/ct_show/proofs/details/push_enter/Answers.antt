use Rattle.std.specs.Prelude.{[], ◌∷◌, codes, string_bytes}
use Rattle.ct_show.specs.Details.{coordinator_text, enter_text}
use Rattle.ct_text.proofs.Pushed.{pushed_last, pushed_more}
use Rattle.ct_show.proofs.details.push_enter.Goals as goal
use Rattle.ct_show.specs.Wires.{round_text}

pub returns : goal.returns
unfolding enter_text
returns c =
    let at = round_text c.instance_of-instance.result c.round_of-round.result in
    rw (← c.instance_of-instance.ensures, ← c.round_of-round.ensures, ← c.coordinator_of-coordinator.ensures) (pushed_last
    c.push_coordinator.result (codes "enter    round " ∷ at ∷ []) (coordinator_text c.coordinator_of-coordinator.result)
    (string_bytes c.args.text.now) _ _ (pushed_more (codes "enter    round " ∷ []) at (string_bytes c.args.text.now) _ _
    c.in_ok-push_str.ensures.bytes c.in_ok-push_round.ensures) c.push_coordinator.ensures)

use Rattle.std.proofs.Common.{ℕ, List, None, Some, Bor, ap, option_map, ◌∙◌, slice_get}
use Rattle.ct_names.specs.Message.{Message}
use Rattle.ct_names.specs.Value.{Value}
use Rattle.ct_world.proofs.Reading.Standings.{heard_none, heard_some}
use Rattle.ct_world.proofs.Basics.Waits.{world_seen}
use Rattle.ct_world.proofs.world.World.heard_from.Goals as goal

pub returns-in_err-value : goal.returns-in_err-value
returns-in_err-value c =
    let sits = c.in_ok-seat.ensures.seat in
    rw sits.in_group (ap (option_map (λ (e : Bor (List Message) × ℕ). (e.0.now, e.1))) c.from_residual-in_err-value.ensures
    ∙ heard_none sits c.in_ok-current.ensures.value c.in_ok-inbox.ensures.value c.round-round.ensures
    c.args.from (λ e. e.value) c.in_err-value.ensures)

pub returns-in_err-ts : goal.returns-in_err-ts
returns-in_err-ts c =
    let sits = c.in_ok-seat.ensures.seat in
    rw sits.in_group (ap (option_map (λ (e : Bor (List Message) × ℕ). (e.0.now, e.1))) c.from_residual-in_err-ts.ensures
    ∙ heard_none sits c.in_ok-current.ensures.value c.in_ok-inbox.ensures.value c.round-round.ensures
    c.args.from (λ e. e.ts) c.in_err-ts.ensures)

pub returns-in_err-set : goal.returns-in_err-set
returns-in_err-set c =
    let sits = c.in_ok-seat.ensures.seat in
    let got = c.in_err-set.ensures
    ∙ ap (λ (vs : List Value). slice_get vs c.in_ok-value.value) (world_seen c.self.inside c.self.view_is c.self.invariant).values in
    rw sits.in_group (ap (option_map (λ (e : Bor (List Message) × ℕ). (e.0.now, e.1))) c.from_residual-in_err-set.ensures
    ∙ heard_some sits c.in_ok-current.ensures.value c.in_ok-inbox.ensures.value c.round-round.ensures
    c.args.from c.in_ok-value.value c.in_ok-ts.ts None c.in_ok-value.ensures c.in_ok-ts.ensures got)

pub returns : goal.returns
returns c =
    let sits = c.in_ok-seat.ensures.seat in
    let got = c.in_ok-set.ensures
    ∙ ap (λ (vs : List Value). slice_get vs c.in_ok-value.value) (world_seen c.self.inside c.self.view_is c.self.invariant).values in
    rw (sits.in_group, c.items.ensures.value)
    (heard_some sits c.in_ok-current.ensures.value c.in_ok-inbox.ensures.value c.round-round.ensures
    c.args.from c.in_ok-value.value c.in_ok-ts.ts (Some c.in_ok-set.set.now) c.in_ok-value.ensures c.in_ok-ts.ensures got)

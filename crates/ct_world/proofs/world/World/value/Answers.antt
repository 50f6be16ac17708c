use Rattle.std.proofs.Common.{ap, sym, ◌∙◌, Some, option_map, Bor, List}
use Rattle.ct_names.specs.Message.{Message}
use Rattle.ct_model.specs.Rehearsal.{state_of}
use Rattle.ct_world.proofs.Reading.Shown.{carried_none, carried_some}
use Rattle.ct_world.proofs.Basics.Waits.{world_seen}
use Rattle.ct_world.proofs.world.World.value.Goals as goal

pub returns-in_err-value : goal.returns-in_err-value
returns-in_err-value c =
    ap (option_map (λ (list : Bor (List Message)). list.now)) c.from_residual-in_err-value.ensures
    ∙ sym (carried_none c.self.inside.kept.book.values c.self.inside.kept.network.sent (state_of c.args.self.now.rehearsal).sent
    c.args.serial
    (world_seen c.self.inside c.self.view_is c.self.invariant).sent c.in_ok-envelope.envelope (sym c.in_ok-envelope.ensures)
    (sym c.in_err-value.ensures))

pub returns-in_err-set : goal.returns-in_err-set
returns-in_err-set c =
    ap (option_map (λ (list : Bor (List Message)). list.now)) c.from_residual-in_err-set.ensures
    ∙ carried_some c.self.inside.kept.book.values c.self.inside.kept.network.sent (state_of c.args.self.now.rehearsal).sent c.args.serial
    (world_seen c.self.inside c.self.view_is c.self.invariant).sent c.in_ok-envelope.envelope (sym c.in_ok-envelope.ensures)
    c.in_ok-value.field-0 _ (sym c.in_ok-value.ensures) c.in_err-set.ensures

pub returns : goal.returns
returns c =
    ap Some c.items.ensures.value
    ∙ carried_some c.self.inside.kept.book.values c.self.inside.kept.network.sent (state_of c.args.self.now.rehearsal).sent c.args.serial
    (world_seen c.self.inside c.self.view_is c.self.invariant).sent c.in_ok-envelope.envelope (sym c.in_ok-envelope.ensures)
    c.in_ok-value.field-0 _ (sym c.in_ok-value.ensures) c.in_ok-set.ensures

use Rattle.std.proofs.Common.{◌≡◌, ◌-◌, length, take}
use Rattle.std.specs.Prelude.{string_bytes}
use Rattle.ct_model.specs.Senders.{senders}
use Rattle.ct_world.specs.Setup.{record_of, setting_of}
use Rattle.ct_diagram.specs.Diagram.{first_layer, first_trail, shades_layer, arrows_layer, marks_layer}
use Rattle.ct_diagram.proofs.drawing.drawn.Given as goal

abbrev pub invariant-loop-replay : goal.invariant-loop-replay
invariant-loop-replay l = record {
  whole : l.replay.whole ≡ record_of l.fn.setup l.steps;
  senders : l.senders.items ≡ senders (setting_of l.fn.setup) (take l.replay.done l.steps);
  trail : l.canvas.trail.items ≡ first_trail l.window (setting_of l.fn.setup) l.fn.setup.cells l.steps l.replay.done;
  shades : string_bytes l.canvas.shades ≡ first_layer shades_layer l.window (setting_of l.fn.setup) l.fn.setup.cells l.steps l.replay.done;
  arrows : string_bytes l.canvas.arrows ≡ first_layer arrows_layer l.window (setting_of l.fn.setup) l.fn.setup.cells l.steps l.replay.done;
  marks : string_bytes l.canvas.marks ≡ first_layer marks_layer l.window (setting_of l.fn.setup) l.fn.setup.cells l.steps l.replay.done;
}

abbrev pub decreases-loop-replay : goal.decreases-loop-replay
decreases-loop-replay l = length l.replay.whole.steps - l.replay.done

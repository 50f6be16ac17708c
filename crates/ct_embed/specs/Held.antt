-- What contracts see of what a caller holds: the record of a world, what a session was told, where a walk is,
-- or how far a run is made smaller; None where it is closed.
use Rattle.std.specs.Prelude.{Option}
use Rattle.ct_model.specs.Rehearsal.{Rehearsal}
use Rattle.ct_shrink.specs.Making.{Making}
use Rattle.ct_walk.specs.Turns.{Turning}
use Rattle.ct_embed.specs.Content.{world_of, session_of, walk_of, shrinker_of}
use Rattle.ct_embed.specs.Telling.{Talk}
use Rattle.ct_embed.specs.declared.held_session.HeldSession.{HeldSession}
use Rattle.ct_embed.specs.declared.held_shrinker.HeldShrinker.{HeldShrinker}
use Rattle.ct_embed.specs.declared.held_walk.HeldWalk.{HeldWalk}
use Rattle.ct_embed.specs.declared.held_world.HeldWorld.{HeldWorld}

abbrev pub world_in : HeldWorld → Option Rehearsal
world_in held = world_of held.handle.content

abbrev pub talk_in : HeldSession → Option Talk
talk_in held = session_of held.handle.content

abbrev pub walk_in : HeldWalk → Option Turning
walk_in held = walk_of held.handle.content

abbrev pub shrinker_in : HeldShrinker → Option Making
shrinker_in held = shrinker_of held.handle.content

-- What a handle holds: a world, a session, a walk or a run that is made smaller, or nothing.
use Rattle.std.specs.Prelude.{Option, Some, None}
use Rattle.ct_model.specs.Rehearsal.{Rehearsal}
use Rattle.ct_shrink.specs.Making.{Making}
use Rattle.ct_walk.specs.Turns.{Turning}
use Rattle.ct_embed.specs.Telling.{Talk}

pub data Content : Type 0 where
  nothing : Content
  a_world : Rehearsal → Content
  a_session : Talk → Content
  a_walk : Turning → Content
  a_shrinker : Making → Content

abbrev pub world_of : Content → Option Rehearsal
world_of (a_world w) = Some w
world_of c = None

abbrev pub session_of : Content → Option Talk
session_of (a_session s) = Some s
session_of c = None

abbrev pub walk_of : Content → Option Turning
walk_of (a_walk w) = Some w
walk_of c = None

abbrev pub shrinker_of : Content → Option Making
shrinker_of (a_shrinker m) = Some m
shrinker_of c = None

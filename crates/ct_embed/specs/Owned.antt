-- What a handle owns: the box of what it holds.
use base.Fml.{Fml, ftrue}
use denote.RawPtr.{Ptr}
use Rattle.std.specs.declared.alloc.Global.{Global}
use Rattle.std.specs.contracts.impls.GlobalAllocator.TheImpl.{ghosts}
use Rattle.std.specs.Box.Ownership.{box_owns}
use Rattle.ct_embed.specs.Content.{Content, nothing, a_world, a_session, a_walk, a_shrinker}
use Rattle.ct_embed.specs.contracts.own_session.OwnSession as sessions
use Rattle.ct_embed.specs.contracts.own_world.OwnWorld as worlds
use Rattle.ct_shrink.specs.contracts.shrinker.Shrinker as shrinkers
use Rattle.ct_walk.specs.contracts.turns.Turns as walks

abbrev pub owned : Content → Global → Ptr → Fml
owned nothing a p = ftrue
owned (a_world w) a p = box_owns (ghosts.dealloc_token a) worlds.the_row p w
owned (a_session s) a p = box_owns (ghosts.dealloc_token a) sessions.the_row p s
owned (a_walk w) a p = box_owns (ghosts.dealloc_token a) walks.the_row p w
owned (a_shrinker m) a p = box_owns (ghosts.dealloc_token a) shrinkers.the_row p m

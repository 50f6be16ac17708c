-- What a handle holds, in a box at the program's heap. Assumes nothing.
--     the_heap                 `Global`, with what a statement assumes of it
--     Kind                     a type whose values a handle can hold, in a content by which it owns what the box and its parts own
--     world, session, walk, shrinker  the types that are
use Rattle.ct_embed.proofs.Common.{◌≡◌, refl, true, List, [], Val, Al, Bx, B, D}
use mir.Syntax.{impl, tnil, dnil}
use denote.RattleType.{RattleType}
use denote.Param.Laws.{Laws}
use Rattle.std.specs.Prelude.{Option, is_some}
use Rattle.std.specs.contracts.impls.GlobalAllocator.TheImpl.{ghosts}
use Rattle.std.specs.contracts.alloc.Global as heap
use Rattle.std.proofs.alloc.Global.TheLaws as heap_laws
use Rattle.std_alloc.proofs.Flags.{never_true}
use Rattle.ct_embed.specs.Content.{Content, a_world, a_session, a_walk, a_shrinker, world_of, session_of, walk_of, shrinker_of}
use Rattle.ct_embed.specs.contracts.handle.Handle as handles
use Rattle.ct_embed.specs.contracts.parts.Parts as parts
use Rattle.ct_embed.specs.contracts.own_session.OwnSession as sessions
use Rattle.ct_embed.proofs.own_session.OwnSession.TheLaws as session_laws
use Rattle.ct_embed.specs.contracts.own_world.OwnWorld as worlds
use Rattle.ct_embed.proofs.own_world.OwnWorld.TheLaws as world_laws
use Rattle.ct_shrink.specs.contracts.shrinker.Shrinker as shrinkers
use Rattle.ct_shrink.proofs.shrinker.Shrinker.TheLaws as shrinker_laws
use Rattle.ct_walk.specs.contracts.turns.Turns as walks
use Rattle.ct_walk.proofs.turns.Turns.TheLaws as walk_laws

abbrev pub the_heap : Al
the_heap = record { row = heap.the_row; laws = heap_laws.the_row_laws; g = ghosts; d = impl [] tnil dnil; drops = impl [] tnil dnil }

abbrev pub boxed : (R : RattleType) → Laws R → Bx
boxed R laws = record { row = R; laws = laws; al = the_heap }

abbrev pub parted : RattleType → RattleType
parted R = parts.the_row R heap.the_row ghosts

pub record Kind : Type 2 where
  pub row : RattleType
  pub laws : Laws row
  pub content : row.Denot → Content
  pub of : Content → Option row.Denot
  pub is : (c : Content) → is_some (of c) ≡ true → (x : row.Denot) × (c ≡ content x)
  pub owns : (d : D (boxed row laws)) (vs : List Val)
      → ((parted row).own_val (record { ptr = d.ptr; alloc = d.alloc; value = d.value }) vs ≡ (B (boxed row laws)).own_val d vs)
      × (handles.the_row.own_val (record { at = d.ptr; alloc = d.alloc; content = content d.value }) vs ≡ (B (boxed row laws)).own_val d vs)

abbrev pub world : Kind
world = record {
  row = worlds.the_row;
  laws = world_laws.the_row_laws;
  content = a_world;
  of = world_of;
  is = elim [ a_world w ↦ λ t. (w, refl) | c ↦ never_true ];
  owns = λ d vs. (refl, refl);
}

abbrev pub session : Kind
session = record {
  row = sessions.the_row;
  laws = session_laws.the_row_laws;
  content = a_session;
  of = session_of;
  is = elim [ a_session s ↦ λ t. (s, refl) | c ↦ never_true ];
  owns = λ d vs. (refl, refl);
}

abbrev pub walk : Kind
walk = record {
  row = walks.the_row;
  laws = walk_laws.the_row_laws;
  content = a_walk;
  of = walk_of;
  is = elim [ a_walk w ↦ λ t. (w, refl) | c ↦ never_true ];
  owns = λ d vs. (refl, refl);
}

abbrev pub shrinker : Kind
shrinker = record {
  row = shrinkers.the_row;
  laws = shrinker_laws.the_row_laws;
  content = a_shrinker;
  of = shrinker_of;
  is = elim [ a_shrinker m ↦ λ t. (m, refl) | c ↦ never_true ];
  owns = λ d vs. (refl, refl);
}

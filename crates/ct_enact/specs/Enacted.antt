-- Runs that have the deliveries of logs.
use Rattle.std.specs.Prelude.{◌≡◌, ℕ, ◌+◌, ◌≤◌, List, Option, Some, length, slice_get, nat_eq, string_bytes}
use Rattle.std.specs.HashMap.{get, get_by_text}
use Rattle.ct_names.specs.Group.{IsMember}
use Rattle.ct_names.specs.Message.{Message}
use Rattle.ct_model.specs.Rehearsal.{Rehearsal, state_of}
use Rattle.ct_model.specs.Safe.{delivered_by}
use Rattle.ct_order.specs.declared.act.Act.TheVariants.{Broadcast, Deliver}
use Rattle.ct_order.specs.declared.place.Place.{Place}
use Rattle.ct_order.specs.declared.standing.Standing.{Standing}
use Rattle.ct_order.specs.declared.table.Table.{Table}
use Rattle.ct_order.specs.declared.told.Told.{Told}
use Rattle.ct_order.specs.Orders.{IsIn, Said}

-- ---- what is so of lines and a run

-- a line broadcasts the word, in the log whose process is the origin of the message: that at place i is member i + 1
pub record IsSentAs (said : List Said) (x : List ℕ) (m : Message) : Type 0 where
  pub line : Said
  pub is_in : IsIn line said
  pub act : line.act ≡ Broadcast
  pub word : line.word ≡ x
  pub origin : m.origin ≡ line.log + 1

-- the run has the deliveries of the logs that say this and end there
pub record IsEnacted (said : List Said) (ends : List Standing) (w : Rehearsal) : Type 0 where
  -- the message of the run that a word names
  pub message : List ℕ → Option Message
  -- no two words name one
  pub once : (x y : List ℕ) (m : Message) → message x ≡ Some m → message y ≡ Some m → x ≡ y
  -- its origin broadcasts it
  pub broadcast : (x : List ℕ) (m : Message) → message x ≡ Some m → IsSentAs said x m
  -- a member that delivers a message at the position of a line delivers that of its word
  pub same : (p : ℕ) (s : Said) (m : Message) → IsMember w.setting.members p → IsIn s said → s.act ≡ Deliver →
      slice_get (delivered_by (state_of w) p) s.at ≡ Some m → message s.word ≡ Some m
  -- the process of each log is a member
  pub members : (i : ℕ) (end : Standing) → slice_get ends i ≡ Some end → IsMember w.setting.members (i + 1)
  -- it delivers as many messages as the process had at most
  pub lengths : (i : ℕ) (end : Standing) → slice_get ends i ≡ Some end → length (delivered_by (state_of w) (i + 1)) ≡ end.most

-- ---- what is looked at

-- the process of the log at this place is a member that delivers so many messages
abbrev pub HasLength : Rehearsal → ℕ → ℕ → Type 0
HasLength w i most = IsMember w.setting.members (i + 1) × (length (delivered_by (state_of w) (i + 1)) ≡ most)

-- the logs deliver a word behind so many others, and the origin of the message is the process that broadcasts it
pub record IsPlaced (t : Table) (k : ℕ) (m : Message) : Type 0 where
  pub told : Told
  pub there : get nat_eq t.order k ≡ Some told
  pub place : Place
  pub sent : get_by_text t.sent (string_bytes told.word) ≡ Some place
  pub origin : m.origin ≡ place.log + 1

-- what is told of logs, and where they end, is that of the run
pub record Matches (t : Table) (ends : List Standing) (w : Rehearsal) : Type 0 where
  pub first : ℕ
  pub member : IsMember w.setting.members first
  pub longest : (p : ℕ) → IsMember w.setting.members p → length (delivered_by (state_of w) p) ≤ length (delivered_by (state_of w) first)
  pub origins : (k : ℕ) (m : Message) → slice_get (delivered_by (state_of w) first) k ≡ Some m → IsPlaced t k m
  pub lengths : (i : ℕ) (end : Standing) → slice_get ends i ≡ Some end → HasLength w i end.most

-- What lines of logs say, when they are those of one atomic broadcast, and when a line contradicts others.
use Rattle.std.specs.Prelude.{◌≡◌, ◌≢◌, ℕ, ◌<◌, ◌≤◌, ◌⊎◌, List, [], ◌∷◌, Option, Some, string_bytes}
use Rattle.ct_order.specs.declared.act.Act.{Act}
use Rattle.ct_order.specs.declared.act.Act.TheVariants.{Broadcast, Deliver, State, From}
use Rattle.ct_order.specs.declared.clash.Clash.{Clash}
use Rattle.ct_order.specs.declared.clash.Clash.TheVariants.{Other, Again, Back}
use Rattle.ct_order.specs.declared.place.Delivery.{Delivery}
use Rattle.ct_order.specs.declared.place.Place.{Place}

-- a line: the place of its log among the logs, from 0; its number there, from 1; how many deliveries its process has before it; what
-- it says that the process did; and its word, of a message or of a state
pub record Said : Type 0 where
  pub log : ℕ
  pub line : ℕ
  pub at : ℕ
  pub act : Act
  pub word : List ℕ

-- it is one of these
abbrev pub IsIn : Said → List Said → Type 0
IsIn s [] = ⊥
IsIn s (t ∷ ts) = (s ≡ t) ⊎ IsIn s ts

-- the line at this place that says so
abbrev pub said_at : Place → ℕ → Act → List ℕ → Said
said_at place at act word = record { log = place.log; line = place.line; at = at; act = act; word = word }

abbrev pub place_of : Said → Place
place_of s = record { log = s.log; line = s.line }

-- ---- orders

-- an order of messages, as far as one is known at each position, counted from 0; and the state behind so many deliveries. Each line
-- delivers the message of its position and tells of the state there, no message stands at two positions, and a snapshot that is taken
-- over has no fewer deliveries than stand before it
pub record IsOrder (said : List Said) (order states : ℕ → Option (List ℕ)) : Type 0 where
  pub once : (p q : ℕ) (x : List ℕ) → order p ≡ Some x → order q ≡ Some x → p ≡ q
  pub delivered : (s : Said) → IsIn s said → s.act ≡ Deliver → order s.at ≡ Some s.word
  pub stated : (s : Said) → IsIn s said → s.act ≡ State → states s.at ≡ Some s.word
  pub forwards : (s : Said) (n : ℕ) → IsIn s said → s.act ≡ From n → s.at ≤ n

-- there is one
abbrev pub HasOrder : List Said → Type 0
HasOrder said = (order : ℕ → Option (List ℕ)) × (states : ℕ → Option (List ℕ)) × IsOrder said order states

-- some process broadcast the message
abbrev pub IsBroadcast : List Said → List ℕ → Type 0
IsBroadcast said x = (s : Said) × IsIn s said × (s.act ≡ Broadcast) × (s.word ≡ x)

-- each message that is delivered was broadcast
abbrev pub AreBroadcast : List Said → Type 0
AreBroadcast said = (s : Said) → IsIn s said → s.act ≡ Deliver → IsBroadcast said s.word

-- a line of this place delivers a message that none broadcasts
pub record IsUnsent (said : List Said) (d : Delivery) : Type 0 where
  pub word : List ℕ
  pub delivers : IsIn (said_at d.place d.at Deliver word) said
  pub unsent : IsBroadcast said word → ⊥

-- the lines are those of one atomic broadcast
abbrev pub IsAtomic : List Said → Type 0
IsAtomic said = HasOrder said × AreBroadcast said

-- at each position the word of such lines is one
abbrev pub IsOneWord : Act → Type 0
IsOneWord act = (act ≡ Deliver) ⊎ (act ≡ State)

-- the line contradicts what is told of those before it
abbrev pub IsClash : List Said → Said → Clash → Type 0
IsClash before this (Other told) =
    IsOneWord this.act × IsIn (said_at told.place this.at this.act (string_bytes told.word)) before × (string_bytes told.word ≢ this.word)
IsClash before this (Again d) = (this.act ≡ Deliver) × IsIn (said_at d.place d.at Deliver this.word) before × (d.at ≢ this.at)
IsClash before this Back = (n : ℕ) × (this.act ≡ From n) × (n < this.at)

-- What is kept of lines.
use Rattle.std.specs.Prelude.{◌≡◌, ◌≢◌, ℕ, ◌≤◌, List, [], ◌∷◌, ◌++◌, Option, Some, None, is_some, true, nat_eq, string_bytes}
use Rattle.std.specs.HashMap.{get, get_by_text}
use Rattle.std.specs.List.{list_all}
use Rattle.ct_order.specs.declared.act.Act.{Act}
use Rattle.ct_order.specs.declared.act.Act.TheVariants.{Broadcast, Deliver, State, From}
use Rattle.ct_order.specs.declared.clash.Clash.{Clash}
use Rattle.ct_order.specs.declared.clash.Clash.TheVariants.{Other}
use Rattle.ct_order.specs.declared.line.Line.{Line}
use Rattle.ct_order.specs.declared.place.Delivery.{Delivery}
use Rattle.ct_order.specs.declared.place.Place.{Place}
use Rattle.ct_order.specs.declared.table.Table.{Table}
use Rattle.ct_order.specs.declared.told.Told.{Told}
use Rattle.ct_order.specs.Orders.{IsClash, IsIn, Said, said_at}

-- the line as it is said
abbrev pub is_said : Line → Said
is_said line = said_at line.place line.at line.act line.word.now

-- the word is kept for the position
abbrev pub IsKept : (ℕ → Option Told) → ℕ → List ℕ → Type 0
IsKept kept p x = (v : Told) × (kept p ≡ Some v) × (string_bytes v.word ≡ x)

-- for each position that one of these lines has which say the act, its word is kept, and no other
pub record Keeps (act : Act) (kept : ℕ → Option Told) (seen : List Said) : Type 0 where
  pub all : (s : Said) → IsIn s seen → s.act ≡ act → IsKept kept s.at s.word
  pub each : (p : ℕ) (v : Told) → kept p ≡ Some v → IsIn (said_at v.place p act (string_bytes v.word)) seen

-- what is known of a message, and of a position
pub record Known : Type 0 where
  pub sent : List ℕ → Option Place
  pub placed : List ℕ → Option Delivery
  pub order : ℕ → Option Told
  pub states : ℕ → Option Told

abbrev pub IsSent : Known → List ℕ → Type 0
IsSent t x = (l : Place) × (t.sent x ≡ Some l)

-- all that these lines say of messages and states is known, and nothing else
pub record Knows (t : Known) (seen : List Said) : Type 0 where
  pub order : Keeps Deliver t.order seen
  pub states : Keeps State t.states seen
  pub placed : (x : List ℕ) (d : Delivery) → t.placed x ≡ Some d → IsIn (said_at d.place d.at Deliver x) seen
  pub once : (p : ℕ) (v : Told) → t.order p ≡ Some v → (d : Delivery) × (t.placed (string_bytes v.word) ≡ Some d) × (d.at ≡ p)
  pub broadcast : (s : Said) → IsIn s seen → s.act ≡ Broadcast → IsSent t s.word
  pub sent : (x : List ℕ) (l : Place) → t.sent x ≡ Some l → (at : ℕ) × IsIn (said_at l at Broadcast x) seen
  pub forwards : (s : Said) (n : ℕ) → IsIn s seen → s.act ≡ From n → s.at ≤ n

abbrev pub known_in : Table → Known
known_in t = record {
  sent = get_by_text t.sent;
  placed = get_by_text t.placed;
  order = get nat_eq t.order;
  states = get nat_eq t.states;
}

abbrev pub KnowsTable : Table → List Said → Type 0
KnowsTable t seen = Knows (known_in t) seen

-- the line says what is known then, with all before it; or it contradicts a line before it
abbrev pub Tells : Table → Table → Said → Option Clash → Type 0
Tells old new said None = (seen : List Said) → KnowsTable old seen → KnowsTable new (seen ++ said ∷ [])
Tells old new said (Some clash) = (seen : List Said) → KnowsTable old seen → IsClash seen said clash

-- the word is another in this line
abbrev pub IsOther : Told → List ℕ → Clash → Type 0
IsOther v x (Other told) = (told.place ≡ v.place) × (string_bytes told.word ≡ string_bytes v.word) × (string_bytes v.word ≢ x)
IsOther v x _ = ⊥

-- ---- what is broadcast

-- each message at a position was
abbrev pub AreSent : Table → Type 0
AreSent t = list_all (λ e. is_some (get_by_text t.sent (string_bytes e.1.word))) t.order.entries ≡ true

-- the message that this line delivers was not
abbrev pub IsUnsentAt : Table → Delivery → Type 0
IsUnsentAt t d =
    (v : Told) × (get nat_eq t.order d.at ≡ Some v) × (v.place ≡ d.place) × (get_by_text t.sent (string_bytes v.word) ≡ None)

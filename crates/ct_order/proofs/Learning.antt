-- What is known after one more line.
use Rattle.std.proofs.Common.{◌≡◌, ℕ, ◌<◌, ◌≤◌, Bool, true, false, cond, List, [], ◌∷◌, ◌++◌, ◌⊎◌, inl, inr, Option, Some, None, refl}
use Rattle.std.proofs.Common.{sym, ap, ◌∙◌, subst}
use Rattle.std.specs.Prelude.{⊤}
use Rattle.std.proofs.Common.{string_bytes, MatchOption, bytes_eq, nat_eq, true≢false, String, Decides, eq-eqb}
use Rattle.std.specs.HashMap.{HashMap, UpdatesBy, get, get_by_text}
use Rattle.std.specs.String.{string_eq}
use Rattle.std.proofs.lemmas.Bool.{eqb-true}
use Rattle.std.proofs.lemmas.Map.Text.{hash_map_updates_text}
use Rattle.std.proofs.lemmas.Option.{none-some, same_Some}
use Rattle.std.proofs.lemmas.Slice.Eq.{bytes_eq-Decides}
use Rattle.ct_order.specs.declared.act.Act.{Act}
use Rattle.ct_order.specs.declared.act.Act.TheVariants.{Broadcast, Deliver, State, From}
use Rattle.ct_order.specs.declared.clash.Clash.{Clash}
use Rattle.ct_order.specs.declared.clash.Clash.TheVariants as clash
use Rattle.ct_order.specs.declared.place.Delivery.{Delivery}
use Rattle.ct_order.specs.declared.place.Place.{Place}
use Rattle.ct_order.specs.declared.table.Table.{Table}
use Rattle.ct_order.specs.declared.told.Told.{Told}
use Rattle.ct_order.specs.Knowing.{IsKept, IsOther, IsSent, Keeps, Known, Knows, Tells, known_in}
use Rattle.ct_order.specs.Orders.{IsClash, IsIn, IsOneWord, Said, place_of, said_at}

-- ---- one more line

pub in_more : (s t : Said) (seen : List Said) → IsIn s seen → IsIn s (seen ++ t ∷ [])
in_more s t [] h = absurd h
in_more s t (x ∷ xs) (inl e) = inl e
in_more s t (x ∷ xs) (inr h) = inr (in_more s t xs h)

in_last : (t : Said) (seen : List Said) → IsIn t (seen ++ t ∷ [])
in_last t [] = inl refl
in_last t (x ∷ xs) = inr (in_last t xs)

-- what is so of the lines before it and of this one is so of all
each_in : (P : Said → Type 0) (t : Said) (seen : List Said) → ((s : Said) → IsIn s seen → P s) → P t →
    (s : Said) → IsIn s (seen ++ t ∷ []) → P s
each_in P t [] h p s (inl e) = subst P (sym e) p
each_in P t [] h p s (inr i) = absurd i
each_in P t (x ∷ xs) h p s (inl e) = h s (inl e)
each_in P t (x ∷ xs) h p s (inr i) = each_in P t xs (λ r j. h r (inr j)) p s i

same_said : (s : Said) (l : Place) (a : Act) (x : List ℕ) → l ≡ place_of s → s.act ≡ a → x ≡ s.word → said_at l s.at a x ≡ s
same_said s l a x hl ha hx = λ i. said_at (hl i) s.at (sym ha i) (hx i)

-- ---- a map in which one key is set

abbrev pub Sets : {K X : Type 0} → (K → Option X) → (K → Option X) → K → X → Type 0
Sets {K} {X} f g k w = (q : K) → ((q ≡ k) × (g q ≡ Some w)) ⊎ ((q ≡ k → ⊥) × (g q ≡ f q))

sets : {K X : Type 0} (eq : K → K → Bool) → ((a b : K) → Decides (eq a b) (a ≡ b)) → (f g : K → Option X) (k : K) (w : X) →
    ((q : K) → g q ≡ cond (eq k q) (Some w) (f q)) → Sets f g k w
sets {K} {X} eq laws f g k w h q = pick (eq k q) refl
  where
    pick : (b : Bool) → eq k q ≡ b → ((q ≡ k) × (g q ≡ Some w)) ⊎ ((q ≡ k → ⊥) × (g q ≡ f q))
    pick true e = inl (sym ((laws k q).0 e), h q ∙ ap (λ c. cond c (Some w) (f q)) e)
    pick false e = inr (λ at. true≢false (sym ((laws k q).1 (sym at)) ∙ e), h q ∙ ap (λ c. cond c (Some w) (f q)) e)

here : {K X : Type 0} (f g : K → Option X) (k : K) (w : X) → Sets f g k w → g k ≡ Some w
here f g k w h = elim (h k) [ inl (e, is) ↦ is | inr (ne, is) ↦ absurd (ne refl) ]

-- what is not there before stays
stays : {K X : Type 0} (f g : K → Option X) (k : K) (w : X) → Sets f g k w → f k ≡ None → (q : K) (v : X) → f q ≡ Some v → g q ≡ Some v
stays f g k w h free q v at = elim (h q) [
  | inl (e, is) ↦ absurd (none-some v (sym free ∙ (ap f (sym e) ∙ at)))
  | inr (ne, is) ↦ is ∙ at
]

pub sets_number : {X S : Type 0} (m n : HashMap ℕ X S) (k : ℕ) (w : X) → UpdatesBy nat_eq (nat_eq k) m n (Some w) →
    Sets (get nat_eq m) (get nat_eq n) k w
sets_number m n k w h = sets nat_eq (λ a b. (eqb-true a b, eq-eqb a b)) (get nat_eq m) (get nat_eq n) k w h.0

pub sets_text : {Y X S : Type 0} (m n : HashMap (String Y) X S) (key : String Y) (x : List ℕ) (w : X) → string_bytes key ≡ x →
    UpdatesBy string_eq (string_eq key) m n (Some w) → Sets (get_by_text m) (get_by_text n) x w
sets_text m n key x w is h =
    subst (λ (y : List ℕ). Sets (get_by_text m) (get_by_text n) y w) is
    (sets bytes_eq bytes_eq-Decides (get_by_text m) (get_by_text n) (string_bytes key) w
    (hash_map_updates_text (string_bytes key) m n (Some w) h))

-- ---- what is kept of one kind of lines

module _ (a : Act) (f : ℕ → Option Told) (seen : List Said) (h : Keeps a f seen) (s : Said) where
  keeps_more : (s.act ≡ a → IsKept f s.at s.word) → Keeps a f (seen ++ s ∷ [])
  keeps_more new = record {
    all = each_in (λ (r : Said). r.act ≡ a → IsKept f r.at r.word) s seen h.all new;
    each = λ p v at. in_more (said_at v.place p a (string_bytes v.word)) s seen (h.each p v at);
  }

  keeps_new : (g : ℕ → Option Told) (v : Told) → s.act ≡ a → v.place ≡ place_of s → string_bytes v.word ≡ s.word → f s.at ≡ None →
      Sets f g s.at v → Keeps a g (seen ++ s ∷ [])
  keeps_new g v is place word free put = record {
    all = each_in (λ (r : Said). r.act ≡ a → IsKept g r.at r.word) s seen
        (λ r i act. let k = h.all r i act in (k.0, stays f g s.at v put free r.at k.0 k.1, k.2))
        (λ act. (v, here f g s.at v put, word));
    each = λ p w at. elim (put p) [
      | inl (e, now) ↦ subst (λ (n : ℕ). IsIn (said_at w.place n a (string_bytes w.word)) (seen ++ s ∷ [])) (sym e)
          (subst (λ (u : Told). IsIn (said_at u.place s.at a (string_bytes u.word)) (seen ++ s ∷ [])) (same_Some v w (sym now ∙ at))
          (subst (λ (r : Said). IsIn r (seen ++ s ∷ [])) (sym (same_said s v.place a (string_bytes v.word) place is word))
          (in_last s seen)))
      | inr (ne, now) ↦ in_more (said_at w.place p a (string_bytes w.word)) s seen (h.each p w (sym now ∙ at))
    ];
  }

-- ---- what is known

-- the line says what is known, by its act
abbrev pub IsAs : Known → Said → Act → Type 0
IsAs t s Deliver = IsKept t.order s.at s.word
IsAs t s State = IsKept t.states s.at s.word
IsAs t s Broadcast = IsSent t s.word
IsAs t s (From n) = s.at ≤ n
IsAs t s _ = ⊤

module _ (t : Known) (seen : List Said) (h : Knows t seen) (s : Said) where
  forwards_more : ((n : ℕ) → s.act ≡ From n → s.at ≤ n) → (r : Said) (n : ℕ) → IsIn r (seen ++ s ∷ []) → r.act ≡ From n → r.at ≤ n
  forwards_more low r n i act = each_in (λ (q : Said). (m : ℕ) → q.act ≡ From m → q.at ≤ m) s seen (λ q j m. h.forwards q m j) low r i n act

  more : IsAs t s s.act → Knows t (seen ++ s ∷ [])
  more new =
      let by = λ (a : Act) (is : s.act ≡ a). subst (λ (b : Act). IsAs t s b) is new in
      record {
        order = keeps_more Deliver t.order seen h.order s (by Deliver);
        states = keeps_more State t.states seen h.states s (by State);
        placed = λ x e at. in_more (said_at e.place e.at Deliver x) s seen (h.placed x e at);
        once = h.once;
        broadcast = each_in (λ (r : Said). r.act ≡ Broadcast → IsSent t r.word) s seen h.broadcast (by Broadcast);
        sent = λ x l at. let m = h.sent x l at in (m.0, in_more (said_at l m.0 Broadcast x) s seen m.1);
        forwards = forwards_more (λ n. by (From n));
      }

  -- a message is broadcast for the first time
  pub sent_new : (g : List ℕ → Option Place) → s.act ≡ Broadcast → t.sent s.word ≡ None → Sets t.sent g s.word (place_of s) →
      Knows (record t { sent = g }) (seen ++ s ∷ [])
  sent_new g is free put = record {
    order = keeps_more Deliver t.order seen h.order s (λ act. let no : Broadcast ≡ Deliver = sym is ∙ act in cc);
    states = keeps_more State t.states seen h.states s (λ act. let no : Broadcast ≡ State = sym is ∙ act in cc);
    placed = λ x e at. in_more (said_at e.place e.at Deliver x) s seen (h.placed x e at);
    once = h.once;
    broadcast = each_in (λ (r : Said). r.act ≡ Broadcast → IsSent (record t { sent = g }) r.word) s seen
        (λ r i act. let b = h.broadcast r i act in (b.0, stays t.sent g s.word (place_of s) put free r.word b.0 b.1))
        (λ act. (place_of s, here t.sent g s.word (place_of s) put));
    sent = λ x l at. elim (put x) [
      | inl (e, now) ↦ (
        s.at,
        subst (λ (r : Said). IsIn r (seen ++ s ∷ []))
            (sym (same_said s l Broadcast x (sym (same_Some (place_of s) l (sym now ∙ at))) is e)) (in_last s seen),
      )
      | inr (ne, now) ↦ (let m = h.sent x l (sym now ∙ at) in (m.0, in_more (said_at l m.0 Broadcast x) s seen m.1))
    ];
    forwards = forwards_more (λ n act. let no : Broadcast ≡ From n = sym is ∙ act in cc);
  }

  -- a message is delivered for the first time, at a position of which none was told
  pub put_new : (o : ℕ → Option Told) (g : List ℕ → Option Delivery) (v : Told) → s.act ≡ Deliver → v.place ≡ place_of s →
      string_bytes v.word ≡ s.word → t.order s.at ≡ None → t.placed s.word ≡ None → Sets t.order o s.at v →
      Sets t.placed g s.word (record { at = s.at; place = place_of s }) → Knows (record t { order = o; placed = g }) (seen ++ s ∷ [])
  put_new o g v is place word gap free put puts = record {
    order = keeps_new Deliver t.order seen h.order s o v is place word gap put;
    states = keeps_more State t.states seen h.states s (λ act. let no : Deliver ≡ State = sym is ∙ act in cc);
    placed = λ x e at. elim (puts x) [
      | inl (same, now) ↦ subst (λ (c : Delivery). IsIn (said_at c.place c.at Deliver x) (seen ++ s ∷ []))
          (same_Some (record { at = s.at; place = place_of s }) e (sym now ∙ at))
          (subst (λ (r : Said). IsIn r (seen ++ s ∷ [])) (sym (same_said s (place_of s) Deliver x refl is same)) (in_last s seen))
      | inr (ne, now) ↦ in_more (said_at e.place e.at Deliver x) s seen (h.placed x e (sym now ∙ at))
    ];
    once = λ p w at. elim (put p) [
      | inl (same, now) ↦ (
        record { at = s.at; place = place_of s },
        ap g (ap (λ (u : Told). string_bytes u.word) (sym (same_Some v w (sym now ∙ at))) ∙ word)
            ∙ here t.placed g s.word (record { at = s.at; place = place_of s }) puts,
        sym same,
      )
      | inr (ne, now) ↦ (let b = h.once p w (sym now ∙ at) in
          (b.0, stays t.placed g s.word (record { at = s.at; place = place_of s }) puts free (string_bytes w.word) b.0 b.1, b.2))
    ];
    broadcast = each_in (λ (r : Said). r.act ≡ Broadcast → IsSent t r.word) s seen h.broadcast
        (λ act. let no : Deliver ≡ Broadcast = sym is ∙ act in cc);
    sent = λ x l at. let m = h.sent x l at in (m.0, in_more (said_at l m.0 Broadcast x) s seen m.1);
    forwards = forwards_more (λ n act. let no : Deliver ≡ From n = sym is ∙ act in cc);
  }

  -- a state is told of for the first time
  pub state_new : (o : ℕ → Option Told) (v : Told) → s.act ≡ State → v.place ≡ place_of s → string_bytes v.word ≡ s.word →
      t.states s.at ≡ None → Sets t.states o s.at v → Knows (record t { states = o }) (seen ++ s ∷ [])
  state_new o v is place word gap put = record {
    order = keeps_more Deliver t.order seen h.order s (λ act. let no : State ≡ Deliver = sym is ∙ act in cc);
    states = keeps_new State t.states seen h.states s o v is place word gap put;
    placed = λ x e at. in_more (said_at e.place e.at Deliver x) s seen (h.placed x e at);
    once = h.once;
    broadcast = each_in (λ (r : Said). r.act ≡ Broadcast → IsSent t r.word) s seen h.broadcast
        (λ act. let no : State ≡ Broadcast = sym is ∙ act in cc);
    sent = λ x l at. let m = h.sent x l at in (m.0, in_more (said_at l m.0 Broadcast x) s seen m.1);
    forwards = forwards_more (λ n act. let no : State ≡ From n = sym is ∙ act in cc);
  }

  -- ---- what the line contradicts

  -- it delivers again what is delivered elsewhere, where nothing is told of its position
  pub again : s.act ≡ Deliver → t.order s.at ≡ None → (d : Delivery) → t.placed s.word ≡ Some d → IsClash seen s (clash.Again d)
  again is gap d at = (
    is,
    h.placed s.word d at,
    λ same.
        let k = h.order.all (said_at d.place d.at Deliver s.word) (h.placed s.word d at) refl in
        none-some k.0 (sym gap ∙ (ap t.order (sym same) ∙ k.1)),
  )

  -- another word is kept at its position
  pub other : (a : Act) (f : ℕ → Option Told) → Keeps a f seen → IsOneWord a → s.act ≡ a → (v : Told) → f s.at ≡ Some v →
      (c : Clash) → IsOther v s.word c → IsClash seen s c
  other a f k one is v at (clash.Other u) m = (
    subst IsOneWord (sym is) one,
    subst (λ (b : Act). IsIn (said_at u.place s.at b (string_bytes u.word)) seen) (sym is)
        (subst (λ (l : Place). IsIn (said_at l s.at a (string_bytes u.word)) seen) (sym m.0)
        (subst (λ (x : List ℕ). IsIn (said_at v.place s.at a x) seen) (sym m.1) (k.each s.at v at))),
    λ e. m.2 (sym m.1 ∙ e),
  )
  other a f k one is v at c m = absurd m

-- ---- what is told of the table

pub tells_as : (t : Table) (s : Said) (act : Act) → s.act ≡ act → IsAs (known_in t) s act → Tells t t s None
tells_as t s act is new = λ seen h. more (known_in t) seen h s (subst (λ (a : Act). IsAs (known_in t) s a) (sym is) new)

pub tells_kept : (t : Table) (s : Said) (v : Told) (r : Option Clash) →
    MatchOption r (string_bytes v.word ≡ s.word) (λ c. IsOther v s.word c) →
    (s.act ≡ Deliver → (known_in t).order s.at ≡ Some v → Tells t t s r)
    × (s.act ≡ State → (known_in t).states s.at ≡ Some v → Tells t t s r)
tells_kept t s v None e = (λ is at. tells_as t s Deliver is (v, at, e), λ is at. tells_as t s State is (v, at, e))
tells_kept t s v (Some c) m = (
  λ is at seen h. other (known_in t) seen h s Deliver (known_in t).order h.order (inl refl) is v at c m,
  λ is at seen h. other (known_in t) seen h s State (known_in t).states h.states (inr refl) is v at c m,
)

pub tells_back : (t : Table) (s : Said) (count : ℕ) → s.act ≡ From count → (r : Option Clash) →
    MatchOption r (s.at ≤ count) (λ c. (c ≡ clash.Back) × (count < s.at)) → Tells t t s r
tells_back t s count is None low = tells_as t s (From count) is low
tells_back t s count is (Some c) m = λ seen h. subst (λ (x : Clash). IsClash seen s x) (sym m.0) (count, is, m.1)

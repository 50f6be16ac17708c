-- What a table says of all the lines.
use Rattle.std.proofs.Common.{◌≡◌, ℕ, zero, suc, Bool, true, false, List, [], ◌∷◌, ◌++◌, inl, inr, Option, Some, None, slice_get, refl}
use Rattle.std.proofs.Common.{sym, ap, ◌∙◌}
use Rattle.std.proofs.Common.{subst, arith, string_bytes, option_map, is_some, nat_eq, ◌&&◌, true≢false}
use Rattle.std.specs.HashMap.{get_by_text}
use Rattle.std.specs.List.{list_all}
use Rattle.std.proofs.lemmas.Map.Entries.{place_from_lookup}
use Rattle.std.proofs.lemmas.Option.{none-some, same_Some}
use Rattle.ct_order.specs.declared.act.Act.TheVariants.{Broadcast, Deliver}
use Rattle.ct_order.specs.declared.clash.Clash.{Clash}
use Rattle.ct_order.specs.declared.clash.Clash.TheVariants as clash
use Rattle.ct_order.specs.declared.place.Delivery.{Delivery}
use Rattle.ct_order.specs.declared.table.Table.{Table}
use Rattle.ct_order.specs.declared.told.Told.{Told}
use Rattle.ct_order.specs.Knowing.{AreSent, IsUnsentAt, Known, Knows, KnowsTable}
use Rattle.ct_order.specs.Orders.{AreBroadcast, HasOrder, IsClash, IsIn, IsUnsent, Said, said_at}

word_in : Told → List ℕ
word_in v = string_bytes v.word

-- ---- where no line contradicts another there is an order

module _ (t : Known) (seen : List Said) (h : Knows t seen) where
  words : (ℕ → Option Told) → ℕ → Option (List ℕ)
  words f p = option_map word_in (f p)

  -- what is told of the position
  told_at : (f : ℕ → Option Told) (p : ℕ) (x : List ℕ) → words f p ≡ Some x → (v : Told) × (f p ≡ Some v) × (word_in v ≡ x)
  unfolding words
  told_at f p x e = pick (f p) refl
    where
      pick : (o : Option Told) → f p ≡ o → (v : Told) × (f p ≡ Some v) × (word_in v ≡ x)
      pick None is = absurd (none-some x (sym (ap (option_map word_in) is) ∙ e))
      pick (Some v) is = (v, is, same_Some (word_in v) x (sym (ap (option_map word_in) is) ∙ e))

  once : (p q : ℕ) (x : List ℕ) → words t.order p ≡ Some x → words t.order q ≡ Some x → p ≡ q
  unfolding word_in
  once p q x hp hq =
      let a = told_at t.order p x hp in
      let b = told_at t.order q x hq in
      let d = h.once p a.0 a.1 in
      let e = h.once q b.0 b.1 in
      let one : d.0 ≡ e.0 = same_Some d.0 e.0 (sym d.1 ∙ (ap t.placed (a.2 ∙ sym b.2) ∙ e.1)) in
      sym d.2 ∙ (ap (λ (x : Delivery). x.at) one ∙ e.2)

  pub has_order : HasOrder seen
  unfolding words word_in
  has_order = (
    words t.order,
    words t.states,
    record {
      once = once;
      delivered = λ s is act. let v = h.order.all s is act in ap (option_map word_in) v.1 ∙ ap Some v.2;
      stated = λ s is act. let v = h.states.all s is act in ap (option_map word_in) v.1 ∙ ap Some v.2;
      forwards = h.forwards;
    },
  )

-- ---- what is broadcast

both : (a b : Bool) → (a && b) ≡ true → (a ≡ true) × (b ≡ true)
both true b e = (refl, e)
both false b e = absurd (true≢false (sym e))

all_at : {A : Type 0} (p : A → Bool) (xs : List A) (i : ℕ) (x : A) → list_all p xs ≡ true → slice_get xs i ≡ Some x → p x ≡ true
all_at p [] i x all at = absurd (none-some x at)
all_at p (y ∷ xs) zero x all at = ap p (sym (same_Some y x at)) ∙ (both (p y) (list_all p xs) all).0
all_at p (y ∷ xs) (suc i) x all at = all_at p xs i x (both (p y) (list_all p xs) all).1 at

some_of : {A : Type 0} (o : Option A) → is_some o ≡ true → (a : A) × (o ≡ Some a)
some_of None e = absurd (true≢false (sym e))
some_of (Some a) e = (a, refl)

module _ (t : Table) (seen : List Said) (h : KnowsTable t seen) where
  pub all_broadcast : AreSent t → AreBroadcast seen
  all_broadcast sent s is act =
      let v = h.order.all s is act in
      let e = place_from_lookup (nat_eq s.at) t.order.entries v.0 v.1 in
      let l = some_of (get_by_text t.sent (string_bytes v.0.word))
      (all_at (λ (e : ℕ × Told). is_some (get_by_text t.sent (string_bytes e.1.word))) t.order.entries e.0 (e.1, v.0) sent e.2) in
      let b = h.sent (string_bytes v.0.word) l.0 l.1 in
      (said_at l.0 b.0 Broadcast (string_bytes v.0.word), b.1, refl, v.2)

  pub is_unsent_at : (d : Delivery) → IsUnsentAt t d → IsUnsent seen d
  is_unsent_at d i = record {
    word = string_bytes i.0.word;
    delivers = subst (λ l. IsIn (said_at l d.at Deliver (string_bytes i.0.word)) seen) i.2 (h.order.each d.at i.0 i.1);
    unsent = λ b. let l = h.broadcast b.0 b.1 b.2 in none-some l.0 (sym i.3 ∙ (ap (get_by_text t.sent) (sym b.3) ∙ l.1));
  }

-- ---- where a line contradicts one before it there is none

in_left : (s : Said) (xs ys : List Said) → IsIn s xs → IsIn s (xs ++ ys)
in_left s [] ys h = absurd h
in_left s (x ∷ xs) ys (inl e) = inl e
in_left s (x ∷ xs) ys (inr h) = inr (in_left s xs ys h)

in_middle : (s : Said) (xs ys : List Said) → IsIn s (xs ++ s ∷ ys)
in_middle s [] ys = inl refl
in_middle s (x ∷ xs) ys = inr (in_middle s xs ys)

pub no_order : (before after : List Said) (this : Said) (c : Clash) → IsClash before this c → HasOrder (before ++ this ∷ after) → ⊥
no_order before after this (clash.Other u) (inl act, at, ne) (order, states, o) =
    ne (same_Some (string_bytes u.word) this.word
    (sym (o.delivered (said_at u.place this.at this.act (string_bytes u.word)) (in_left _ before (this ∷ after) at) act)
    ∙ o.delivered this (in_middle this before after) act))
no_order before after this (clash.Other u) (inr act, at, ne) (order, states, o) =
    ne (same_Some (string_bytes u.word) this.word
    (sym (o.stated (said_at u.place this.at this.act (string_bytes u.word)) (in_left _ before (this ∷ after) at) act)
    ∙ o.stated this (in_middle this before after) act))
no_order before after this (clash.Again d) (act, at, ne) (order, states, o) =
    ne (o.once d.at this.at this.word (o.delivered (said_at d.place d.at Deliver this.word) (in_left _ before (this ∷ after) at) refl)
    (o.delivered this (in_middle this before after) act))
no_order before after this clash.Back m (order, states, o) =
    let low = o.forwards this m.0 (in_middle this before after) m.1 in
    let high = m.2 in
    absurd (omega arith)

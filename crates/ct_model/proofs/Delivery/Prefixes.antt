-- Of two members' batches one begins the other, and each begins the order of the group; what was delivered was submitted, and delivered
-- once.
use Rattle.std.proofs.Common.{◌≡◌, ℕ, suc, zero, ◌+◌, ◌≤◌, List, [], ◌∷◌, ◌++◌, Some, refl, sym, ap, ◌∙◌, inl, inr, ◌⊎◌}
use Rattle.std.proofs.Common.{arith, append_assoc, append-nil, length, length-append}
use Rattle.std.specs.Prelude.{slice_get}
use Rattle.std.proofs.lemmas.Bool.{cases_lt}
use Rattle.std.proofs.lemmas.Grind.{flat_map-append}
use Rattle.ct_names.specs.Group.{IsMember}
use Rattle.ct_names.specs.Membership.{IsIn, IsWithoutRepeats}
use Rattle.ct_names.specs.Message.{Message}
use Rattle.ct_names.specs.Value.{Value, ordered, minus}
use Rattle.ct_names.proofs.Lists
use Rattle.ct_names.proofs.Values
use Rattle.ct_model.specs.declared.step.Step.{Step}
use Rattle.ct_model.specs.Setting.{Setting}
use Rattle.ct_model.specs.State.{State, joined, member}
use Rattle.ct_names.specs.Batch.{Batch}
use Rattle.ct_model.specs.Run.{run}
use Rattle.ct_model.specs.Cause.{order}
use Rattle.ct_model.specs.Safe.{IsAgreed, IsProposed, delivered_by}
use Rattle.ct_names.specs.Prefix.{IsPrefix}
use Rattle.ct_model.proofs.Delivery.Batches.{deliveries, deliveries-same, decision, decision-is, HasDecision, HasClosed, HaveClosed}
use Rattle.ct_model.proofs.Delivery.Batches.{closed-run}
use Rattle.ct_model.proofs.Delivery.Longest.{lists_of, member-in, of_member, InOneOrder, longest-prefix, longest-in}
use Rattle.ct_model.proofs.Basics.Options.{some-same, some-none}
use Rattle.ct_model.proofs.Delivery.Proposals.{proposes-run}

joined-prefix : (xs ys : List Batch) → IsPrefix xs ys → IsPrefix (joined xs) (joined ys)
joined-prefix xs ys r = (joined r.0, rw (← r.1) (sym (flat_map-append (λ (b : Batch). b.messages) xs r.0)))

-- the batches of fewer instances begin those of more
deliveries-prefix : (f : ℕ → Value) (c d : ℕ) → c ≤ d → IsPrefix (deliveries f c) (deliveries f d)
unfolding deliveries
deliveries-prefix f c zero le = let e : c ≡ 0 = omega arith in rw e ([], refl)
deliveries-prefix f c (suc d) le = elim (cases_lt d c) [
  | inl lt ↦ let e : c ≡ suc d = omega arith in rw e ([], append-nil (deliveries f (suc d)))
  | inr fewer ↦
      let r = deliveries-prefix f c d fewer in
      let last : List Batch = record { instance = suc d; messages = ordered (minus (f (suc d)) (joined (deliveries f d))) } ∷ [] in
      (r.0 ++ last, sym (append_assoc (deliveries f c) r.0 last) ∙ ap (λ z. z ++ last) r.1)
]

joined-deliveries : (f : ℕ → Value) (c : ℕ) → joined (deliveries f (suc c)) ≡ joined (deliveries f c)
    ++ ordered (minus (f (suc c)) (joined (deliveries f c)))
unfolding deliveries
joined-deliveries f c = grind (arith, flat_map-append, append-nil)

once-deliveries : (f : ℕ → Value) (c : ℕ) → IsWithoutRepeats (joined (deliveries f c))
once-deliveries f zero = unfold deliveries in tt
once-deliveries f (suc c) =
    let once = once-deliveries f c in
    grind (arith, joined-deliveries, Lists.IsWithoutRepeats-append, Values.IsWithoutRepeats-ordered, Values.minus-out, Values.ordered-from)

-- the instance whose decision a delivered message comes from
record IsOfInstance (f : ℕ → Value) (c : ℕ) (m : Message) : Type 0 where
  instance : ℕ
  first : 1 ≤ instance
  closed : instance ≤ c
  is_in : IsIn m (f instance)

from-deliveries : (f : ℕ → Value) (c : ℕ) (m : Message) → IsIn m (joined (deliveries f c)) → IsOfInstance f c m
from-deliveries f zero m h = absurd (unfold deliveries in h)
from-deliveries f (suc c) m h =
    let d : List Message = joined (deliveries f c) in
    let new : List Message = minus (f (suc c)) d in
    elim (Lists.IsIn-append_cases m d (ordered new) (rw (joined-deliveries f c) at h)) [
      | inl a ↦ grind (arith, from-deliveries f c m a)
      | inr b ↦ grind (arith, Values.minus-from (f (suc c)) d m (Values.ordered-from new m b))
    ]

-- two members

-- the instances that both closed gave them the same batches
pub agreed-deliveries : (s : Setting) (g : State) → IsAgreed s g → (p q : ℕ) → IsMember s.members p → IsMember s.members q →
    (a : HasClosed (member g p)) (b : HasClosed (member g q)) → a.closed ≤ b.closed →
    deliveries (decision (member g p).got) a.closed ≡ deliveries (decision (member g q).got) a.closed
agreed-deliveries s g agree p q isp isq a b le =
    deliveries-same (decision (member g p).got) (decision (member g q).got) a.closed (λ k lo hi.
    let x = a.decided k lo hi in
    let y = b.decided k lo (omega arith) in
    decision-is (member g p).got k x.value x.is ∙ agree.agreed p q k x.value y.value isp isq x.is y.is
    ∙ sym (decision-is (member g q).got k y.value y.is))

module _ (s : Setting) (g : State) (agree : IsAgreed s g) (all : HaveClosed g) where
  -- the batches of the member that closed fewer instances begin the other's
  fewer : (p q : ℕ) → IsMember s.members p → IsMember s.members q → (all p).closed ≤ (all q).closed →
      IsPrefix (member g p).batches (member g q).batches
  fewer p q isp isq le = rw ((all p).batches, agreed-deliveries s g agree p q isp isq (all p) (all q) le, (all q).batches)
      (deliveries-prefix (decision (member g q).got) (all p).closed (all q).closed le)

  one_order : (p q : ℕ) → IsMember s.members p → IsMember s.members q →
      IsPrefix (member g p).batches (member g q).batches ⊎ IsPrefix (member g q).batches (member g p).batches
  one_order p q isp isq = grind (arith, fewer p q isp isq, fewer q p isq isp)

  -- so are the batches of the whole group
  in_one_order : length g.members ≡ s.members → InOneOrder ([] ∷ lists_of g)
  in_one_order size xs ys (inl e) b = inl (rw e (ys, refl))
  in_one_order size xs ys (inr a) (inl e) = inr (rw e (xs, refl))
  in_one_order size xs ys (inr a) (inr b) =
      let p = of_member g xs a in
      let q = of_member g ys b in
      rw (p.is, q.is) (one_order p.by q.by (p.positive, rw size at p.below) (q.positive, rw size at q.below))

-- the instance of each batch

length-deliveries : (f : ℕ → Value) (c : ℕ) → length (deliveries f c) ≡ c
unfolding deliveries
length-deliveries f zero = refl
length-deliveries f (suc c) = grind (arith, length-append, length-deliveries f c)

at_end : (xs : List Batch) (x b : Batch) (i : ℕ) → slice_get (xs ++ x ∷ []) i ≡ Some b →
    (slice_get xs i ≡ Some b) ⊎ ((i ≡ length xs) × (x ≡ b))
at_end [] x b zero e = inr (refl, some-same x b e)
at_end [] x b (suc i) e = some-none b e
at_end (y ∷ xs) x b zero e = inl e
at_end (y ∷ xs) x b (suc i) e = elim (at_end xs x b i e) [ inl a ↦ inl a | inr a ↦ inr (ap suc a.0, a.1) ]

deliveries-place : (f : ℕ → Value) (c i : ℕ) (b : Batch) → slice_get (deliveries f c) i ≡ Some b → b.instance ≡ i + 1
unfolding deliveries
deliveries-place f zero i b e = some-none b e
deliveries-place f (suc c) i b e = grind (arith, at_end, deliveries-place f c i b, length-deliveries)

-- what holds after every run

module _ (s : Setting) (steps : List Step) (g : State) (runs : run s steps ≡ Some g) where
  pub batches-prefix : IsAgreed s g → (p q : ℕ) → IsMember s.members p → IsMember s.members q →
      IsPrefix (member g p).batches (member g q).batches ⊎ IsPrefix (member g q).batches (member g p).batches
  batches-prefix agree = one_order s g agree (closed-run s steps g runs).1

  pub delivered-prefix : IsAgreed s g → (p q : ℕ) → IsMember s.members p → IsMember s.members q →
      IsPrefix (delivered_by g p) (delivered_by g q) ⊎ IsPrefix (delivered_by g q) (delivered_by g p)
  delivered-prefix agree p q isp isq = grind (arith, batches-prefix agree p q isp isq, joined-prefix)

  pub delivered-once : (p : ℕ) → IsWithoutRepeats (delivered_by g p)
  delivered-once p =
      let a = (closed-run s steps g runs).1 p in
      rw a.batches (once-deliveries (decision (member g p).got) a.closed)

  pub delivered-submitted : IsAgreed s g → (p : ℕ) (m : Message) → IsMember s.members p → IsIn m (delivered_by g p) → IsIn m g.submitted
  delivered-submitted agree p m is h =
      let a = (closed-run s steps g runs).1 p in
      let f : ℕ → Value = decision (member g p).got in
      let from : IsOfInstance f a.closed m = from-deliveries f a.closed m (rw a.batches at h) in
      let one : HasDecision (member g p).got from.instance = a.decided from.instance from.first from.closed in
      let inside : IsIn m one.value = rw (decision-is (member g p).got from.instance one.value one.is) at from.is_in in
      let was : IsProposed s g from.instance one.value = agree.proposed p from.instance one.value is one.is in
      proposes-run s steps g runs (record { member = was.by; instance = from.instance; value = one.value }) was.is_in m inside

  -- each member's batches begin the order of the whole group
  pub order-prefix : IsAgreed s g → (p : ℕ) → IsMember s.members p → IsPrefix (member g p).batches (order g)
  unfolding order
  order-prefix agree p is =
      let f = closed-run s steps g runs in
      longest-prefix [] (lists_of g) (in_one_order s g agree f.1 f.0) (member g p).batches (member-in g p)

  -- the batch at a place from 0 is of the instance of that number from 1
  pub order-place : (p i : ℕ) (b : Batch) → slice_get (member g p).batches i ≡ Some b → b.instance ≡ i + 1
  order-place p i b e =
      let a = (closed-run s steps g runs).1 p in
      deliveries-place (decision (member g p).got) a.closed i b (rw a.batches at e)

  -- and so in the order of the whole group
  pub order-instance : (i : ℕ) (b : Batch) → slice_get (order g) i ≡ Some b → b.instance ≡ i + 1
  unfolding order
  order-instance i b e = elim (longest-in [] (lists_of g)) [
    | inl none ↦ some-none b (rw none at e)
    | inr h ↦ let f = of_member g (order g) h in order-place f.by i b (rw f.is at e)
  ]

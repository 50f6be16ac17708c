-- What runs deliver stands in one order.
use Rattle.std.proofs.Common.{◌≡◌, ℕ, zero, suc, ◌==◌, Bool, true, false, List, [], ◌∷◌, ◌++◌, Option, Some, None, inl, inr, ◌⊎◌}
use Rattle.std.proofs.Common.{refl, sym, ap, ◌∙◌, subst, arith, eqb-true, eq-eqb}
use Rattle.std.specs.Prelude.{if◌then◌else◌, slice_get}
use Rattle.ct_names.specs.Group.{IsMember}
use Rattle.ct_names.specs.Membership.{IsIn as IsAmong, IsWithoutRepeats}
use Rattle.ct_names.specs.Message.{Message}
use Rattle.ct_names.specs.Prefix.{IsPrefix, OneBegins}
use Rattle.ct_model.specs.Lawful.{IsLawful}
use Rattle.ct_model.specs.Rehearsal.{Rehearsal, state_of}
use Rattle.ct_model.specs.Safe.{IsSafe, delivered_by}
use Rattle.ct_model.proofs.Basics.Options.{some-none, some-same}
use Rattle.ct_model.proofs.Delivery.Safety.{safe-run}
use Rattle.ct_model.proofs.Record.Senders.{get-front}
use Rattle.ct_order.specs.declared.act.Act.{Act}
use Rattle.ct_order.specs.declared.act.Act.TheVariants.{Broadcast, Deliver, State, From}
use Rattle.ct_order.specs.Orders.{IsAtomic, IsBroadcast, IsOrder}
use Rattle.ct_laws.specs.Orders.{AreToldOf, Delivers}
use Rattle.ct_order.specs.Orders.{IsIn, Said}

-- ---- places in lists

got_in : {A : Type 0} (xs : List A) (i : ℕ) (x : A) → slice_get xs i ≡ Some x → IsAmong x xs
got_in [] i x e = some-none x e
got_in (y ∷ ys) zero x e = inl (sym (some-same y x e))
got_in (y ∷ ys) (suc i) x e = inr (got_in ys i x e)

one_place : {A : Type 0} (xs : List A) (i j : ℕ) (x : A) → IsWithoutRepeats xs → slice_get xs i ≡ Some x → slice_get xs j ≡ Some x → i ≡ j
one_place [] i j x h a b = some-none x a
one_place (y ∷ ys) zero zero x h a b = refl
one_place (y ∷ ys) zero (suc j) x h a b = absurd (h.0 (subst (λ z. IsAmong z ys) (sym (some-same y x a)) (got_in ys j x b)))
one_place (y ∷ ys) (suc i) zero x h a b = absurd (h.0 (subst (λ z. IsAmong z ys) (sym (some-same y x b)) (got_in ys i x a)))
one_place (y ∷ ys) (suc i) (suc j) x h a b = ap suc (one_place ys i j x h.1 a b)

in_front : {A : Type 0} (xs ys : List A) → IsPrefix xs ys → (i : ℕ) (x : A) → slice_get xs i ≡ Some x → slice_get ys i ≡ Some x
in_front xs ys p i x e = subst (λ l. slice_get l i ≡ Some x) p.1 (get-front xs p.0 i x e)

-- what stands at one place of two lists of which one begins the other
one_there : {A : Type 0} (xs ys : List A) (i : ℕ) (x y : A) → OneBegins xs ys → slice_get xs i ≡ Some x → slice_get ys i ≡ Some y → x ≡ y
one_there xs ys i x y (inl p) a b = some-same x y (sym (in_front xs ys p i x a) ∙ b)
one_there xs ys i x y (inr p) a b = some-same x y (sym a ∙ in_front ys xs p i y b)

-- where it stands in them
same_place : {A : Type 0} (xs ys : List A) (i j : ℕ) (x : A) → IsWithoutRepeats xs → IsWithoutRepeats ys → OneBegins xs ys →
    slice_get xs i ≡ Some x → slice_get ys j ≡ Some x → i ≡ j
same_place xs ys i j x h k (inl p) a b = one_place ys i j x k (in_front xs ys p i x a) b
same_place xs ys i j x h k (inr p) a b = one_place xs i j x h a (in_front ys xs p j x b)

-- ---- what lines deliver at a position

abbrev if_delivers : Act → ℕ → List ℕ → ℕ → Option (List ℕ) → Option (List ℕ)
if_delivers Deliver at word p rest = if at == p then Some word else rest
if_delivers _ at word p rest = rest

abbrev told : List Said → ℕ → Option (List ℕ)
told [] p = None
told (s ∷ ss) p = if_delivers s.act s.at s.word p (told ss p)

record IsToldAt (ss : List Said) (p : ℕ) (x : List ℕ) : Type 0 where
  said : Said
  is_in : IsIn said ss
  act : said.act ≡ Deliver
  at : said.at ≡ p
  word : said.word ≡ x

later : (s : Said) (ss : List Said) (p : ℕ) (x : List ℕ) → IsToldAt ss p x → IsToldAt (s ∷ ss) p x
later s ss p x t = record { said = t.said; is_in = inr t.is_in; act = t.act; at = t.at; word = t.word }

told_case : (s : Said) (ss : List Said) (p : ℕ) (x : List ℕ) (a : Act) → s.act ≡ a → (is : Bool) → (s.at == p) ≡ is →
    (told ss p ≡ Some x → IsToldAt ss p x) → if_delivers a s.at s.word p (told ss p) ≡ Some x → IsToldAt (s ∷ ss) p x
told_case s ss p x Deliver act true is rest e =
    record {
      said = s;
      is_in = inl refl;
      act = act;
      at = eqb-true s.at p is;
      word = some-same s.word x (sym (ap (λ b. if b then Some s.word else told ss p) is) ∙ e);
    }
told_case s ss p x Deliver act false is rest e = later s ss p x (rest (sym (ap (λ b. if b then Some s.word else told ss p) is) ∙ e))
told_case s ss p x _ act is at rest e = later s ss p x (rest e)

told_at : (ss : List Said) (p : ℕ) (x : List ℕ) → told ss p ≡ Some x → IsToldAt ss p x
told_at [] p x e = some-none x e
told_at (s ∷ ss) p x e = told_case s ss p x s.act refl (s.at == p) refl (told_at ss p x) e

some_case : (t : Said) (ts : List Said) (s : Said) (a : Act) → t.act ≡ a → (is : Bool) → (t.at == s.at) ≡ is → s.act ≡ Deliver →
    ((x : List ℕ) × (told ts s.at ≡ Some x)) ⊎ (s ≡ t) → (x : List ℕ) × (if_delivers a t.at t.word s.at (told ts s.at) ≡ Some x)
some_case t ts s Deliver a true is act rest = (t.word, ap (λ b. if b then Some t.word else told ts s.at) is)
some_case t ts s Deliver a false is act (inl r) = (r.0, ap (λ b. if b then Some t.word else told ts s.at) is ∙ r.1)
some_case t ts s Deliver a false is act (inr e) = absurd (grind (arith, eq-eqb, e, is))
some_case t ts s _ a is at act (inl r) = r
some_case t ts s _ a is at act (inr e) = absurd (grind (arith, e, act, a))

some_told : (ss : List Said) (s : Said) → IsIn s ss → s.act ≡ Deliver → (x : List ℕ) × (told ss s.at ≡ Some x)
some_told [] s i act = absurd i
some_told (t ∷ ts) s (inl e) act = some_case t ts s t.act refl (t.at == s.at) refl act (inr e)
some_told (t ∷ ts) s (inr i) act = some_case t ts s t.act refl (t.at == s.at) refl act (inl (some_told ts s i act))

-- ---- runs

module _ (w : Rehearsal) (name : Message → List ℕ) (said : List Said) (law : IsLawful w) (are : AreToldOf w name said) where
  safe : IsSafe w.setting (state_of w)
  safe = safe-run w.setting w.steps (state_of w) law.runs

  delivers : (s : Said) → IsIn s said → s.act ≡ Deliver → Delivers w name s
  delivers s i act = elim (are.each s i) [ inl submits ↦ absurd (grind (arith, submits.act, act)) | inr d ↦ d ]

  submitted : (s : Said) → (d : Delivers w name s) → IsAmong d.message (state_of w).submitted
  submitted s d = safe.submitted d.by d.message d.member (got_in (delivered_by (state_of w) d.by) s.at d.message d.there)

  one_word : (s t : Said) → Delivers w name s → Delivers w name t → s.at ≡ t.at → s.word ≡ t.word
  one_word s t d f same =
      d.word
      ∙ ap name (one_there (delivered_by (state_of w) d.by) (delivered_by (state_of w) f.by) s.at d.message f.message
      (safe.one_order d.by f.by d.member f.member) d.there
      (subst (λ i. slice_get (delivered_by (state_of w) f.by) i ≡ Some f.message) (sym same) f.there))
      ∙ sym f.word

  one_position : (s t : Said) → Delivers w name s → Delivers w name t → s.word ≡ t.word → s.at ≡ t.at
  one_position s t d f same =
      let m : d.message ≡ f.message =
      are.names d.message f.message (submitted s d) (submitted t f) (sym d.word ∙ same ∙ f.word) in
      same_place (delivered_by (state_of w) d.by) (delivered_by (state_of w) f.by) s.at t.at d.message (safe.once d.by d.member)
      (safe.once f.by f.member) (safe.one_order d.by f.by d.member f.member) d.there
      (subst (λ x. slice_get (delivered_by (state_of w) f.by) t.at ≡ Some x) (sym m) f.there)

  neither : (s : Said) → IsIn s said → (a : Act) → s.act ≡ a → (Broadcast ≡ a → ⊥) → (Deliver ≡ a → ⊥) → ⊥
  neither s i a act no_broadcast no_deliver =
      elim (are.each s i) [ inl submits ↦ no_broadcast (sym submits.act ∙ act) | inr d ↦ no_deliver (sym d.act ∙ act) ]

  is_order : IsOrder said (told said) (λ p. None)
  is_order = record {
    once = λ p q x a b.
        let s = told_at said p x a in
        let t = told_at said q x b in
        sym s.at
        ∙ one_position s.said t.said (delivers s.said s.is_in s.act) (delivers t.said t.is_in t.act) (s.word ∙ sym t.word)
        ∙ t.at;
    delivered = λ s i act.
        let some = some_told said s i act in
        let t = told_at said s.at some.0 some.1 in
        some.1 ∙ ap Some (sym t.word ∙ one_word t.said s (delivers t.said t.is_in t.act) (delivers s i act) t.at);
    stated = λ s i act. absurd (neither s i State act (λ e. grind (arith, e)) (λ e. grind (arith, e)));
    forwards = λ s n i act. absurd (neither s i (From n) act (λ e. grind (arith, e)) (λ e. grind (arith, e)));
  }

  pub runs_are_atomic : IsAtomic said
  runs_are_atomic = (
    (told said, (λ p. None), is_order),
    λ s i act. let d = delivers s i act in subst (IsBroadcast said) (sym d.word) (are.all d.message (submitted s d)),
  )

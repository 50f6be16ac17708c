-- The own steps of members in a run.
use Rattle.ct_merge.proofs.Common.{◌≡◌, ℕ, zero, suc, ◌+◌, ◌<◌, ◌==◌, ◌&&◌, Bool, true, false, not, List, [], ◌∷◌, ◌++◌, Some, length, inl}
use Rattle.ct_merge.proofs.Common.{inr, ◌⊎◌, refl, sym, ap, ◌∙◌, subst, arith, replicate, slice_get, nat_tests, IsMember, actor, Wire}
use Rattle.ct_merge.proofs.Common.{Outcome, next, row, plain, wire_to, Rehearsal, state_of, empty, extended, Setting, State, Member, member}
use Rattle.ct_merge.proofs.Common.{new_member, submissions, Nobody, Step, Repeat, some-same, some-none, made-map, p_or_other, get-front}
use Rattle.ct_merge.proofs.Common.{state-first, member-first, submissions-first, IsStep, IsLike, Moment, is_own, is_repeat, IsRun}
use Rattle.ct_merge.specs.Logs.{moments, own}
use Rattle.ct_merge.proofs.SentOnce.{stepping, get_cases, member_mine, member_theirs, count_mine, count_theirs}
use Rattle.ct_merge.proofs.Owning.{at, only, own_grown, own_more}
use Rattle.ct_merge.proofs.Running.{known, by_steps, state_next}

-- ---- places

pub get_last : {A : Type 0} (xs : List A) (x : A) → slice_get (xs ++ x ∷ []) (length xs) ≡ Some x
get_last [] x = refl
get_last (y ∷ xs) x = get_last xs x

pub get_back : {A : Type 0} (xs ys : List A) (j : ℕ) → slice_get (xs ++ ys) (length xs + j) ≡ slice_get ys j
get_back [] ys j = ap (λ i. slice_get ys i) (let e : 0 + j ≡ j = omega arith in e)
get_back (x ∷ xs) ys j =
    let e : suc (length xs) + j ≡ suc (length xs + j) = omega arith in
    ap (λ i. slice_get (x ∷ (xs ++ ys)) i) e ∙ get_back xs ys j

pub get_below : {A : Type 0} (xs : List A) (i : ℕ) (x : A) → slice_get xs i ≡ Some x → i < length xs
get_below [] i x e = some-none x e
get_below (y ∷ xs) zero x e = omega arith
get_below (y ∷ xs) (suc i) x e = let low : i < length xs = get_below xs i x e in omega arith

pub get_there : {A : Type 0} (xs : List A) (i : ℕ) → i < length xs → (x : A) × (slice_get xs i ≡ Some x)
get_there [] i h = absurd (omega arith)
get_there (y ∷ xs) zero h = (y, refl)
get_there (y ∷ xs) (suc i) h = get_there xs i (omega arith)

get_one : {A : Type 0} (x y : A) (i : ℕ) → slice_get (x ∷ []) i ≡ Some y → (i ≡ 0) × (y ≡ x)
get_one x y zero e = (refl, sym (some-same x y e))
get_one x y (suc i) e = some-none y e

pub get_many : (n i x : ℕ) → i < n → slice_get (replicate n x) i ≡ Some x
get_many zero i x h = absurd (omega arith)
get_many (suc n) zero x h = refl
get_many (suc n) (suc i) x h = get_many n i x (omega arith)

-- ---- own steps

pub own_front : (w : Rehearsal) (step : Step) (p i : ℕ) (m : Moment) → slice_get (own w p) i ≡ Some m →
    slice_get (own (extended w step) p) i ≡ Some m
own_front w step p i m e = ap (λ l. slice_get l i) (own_more w p step) ∙ get-front (own w p) (only (is_own p (at w step)) (at w step)) i m e

-- this is p's, and the step is p's own
pub record IsLast (w : Rehearsal) (step : Step) (p i : ℕ) (m : Moment) : Type 0 where
  pub is : m ≡ at w step
  pub place : i ≡ length (own w p)
  pub own : is_own p (at w step) ≡ true

last_of : (w : Rehearsal) (step : Step) (p i j : ℕ) (m : Moment) (b : Bool) → is_own p (at w step) ≡ b → i ≡ length (own w p) + j →
    slice_get (only b (at w step)) j ≡ Some m → IsLast w step p i m
last_of w step p i j m true is place e =
    let f = get_one (at w step) m j e in
    record { is = f.1; place = (let zero_is : j ≡ 0 = f.0 in omega arith); own = is }
last_of w step p i j m false is place e = some-none m e

pub own_cases : (w : Rehearsal) (step : Step) (p i : ℕ) (m : Moment) → slice_get (own (extended w step) p) i ≡ Some m →
    (slice_get (own w p) i ≡ Some m) ⊎ IsLast w step p i m
own_cases w step p i m e =
    elim (get_cases (own w p) (only (is_own p (at w step)) (at w step)) i m (sym (ap (λ l. slice_get l i) (own_more w p step)) ∙ e)) [
      | inl a ↦ inl a.1
      | inr b ↦ inr (last_of w step p i b.0 m (is_own p (at w step)) refl b.1 b.2)
    ]

pub no_own : (s : Setting) (cells p : ℕ) → own (empty s cells) p ≡ []
unfolding own moments
no_own s cells p = refl

pub own_actor : (p : ℕ) (m : Moment) → is_own p m ≡ true → actor m.step ≡ p
own_actor p m e = grind (arith, nat_tests)

-- ---- where an own step stands

-- the record before it is a run of the same group, in which it is the next of p's own and enabled
pub record IsPlaced (w : Rehearsal) (p i : ℕ) (m : Moment) : Type 0 where
  pub run : IsRun m.before
  pub setting : m.before.setting ≡ w.setting
  pub state : State
  pub enabled : next m.before.setting (state_of m.before) m.step ≡ Some state
  pub actor : actor m.step ≡ p
  pub count : length (own m.before p) ≡ i
  pub earlier : (q j : ℕ) (n : Moment) → slice_get (own m.before q) j ≡ Some n → slice_get (own w q) j ≡ Some n

AllPlaced : Rehearsal → Type 0
AllPlaced w = (p i : ℕ) (m : Moment) → slice_get (own w p) i ≡ Some m → IsPlaced w p i m

placed_more : (w : Rehearsal) (step : Step) (h : State) → IsRun w → next w.setting (state_of w) step ≡ Some h → AllPlaced w →
    AllPlaced (extended w step)
unfolding AllPlaced
placed_more w step h r e old p i m there = elim (own_cases w step p i m there) [
  | inl a ↦
      let f = old p i m a in
      record {
        run = f.run;
        setting = f.setting;
        state = f.state;
        enabled = f.enabled;
        actor = f.actor;
        count = f.count;
        earlier = λ q j n x. own_front w step q j n (f.earlier q j n x);
      }
  | inr b ↦
      let here : IsPlaced (extended w step) p (length (own w p)) (at w step) = record {
        run = r;
        setting = refl;
        state = h;
        enabled = e;
        actor = own_actor p (at w step) b.own;
        count = refl;
        earlier = λ q j n x. own_front w step q j n x;
      } in
      subst (λ x. IsPlaced (extended w step) p i x) (sym b.is)
      (subst (λ j. IsPlaced (extended w step) p j (at w step)) (sym b.place) here)
]

pub placed : (w : Rehearsal) → IsRun w → (p i : ℕ) (m : Moment) → slice_get (own w p) i ≡ Some m → IsPlaced w p i m
unfolding AllPlaced
placed = by_steps AllPlaced (λ s cells p i m e. some-none m (sym (ap (λ l. slice_get l i) (no_own s cells p)) ∙ e)) placed_more

-- ---- how a member stands behind its own steps

-- a repetition leaves its member, and sends nothing
pub repeat_is : (s : Setting) (g : State) (p : ℕ) (m : Member) (step : Step) (o : Outcome) → is_repeat step ≡ true →
    row s g p m step ≡ Some o → o ≡ plain m Nobody
repeat_is s g p m (Repeat q k) o is e = sym (made-map (λ (w : Wire). plain m Nobody) (wire_to g p k) o e).gives
repeat_is s g p m step o is e = absurd (cc)

pub not_own : (p q : ℕ) (b : Bool) → ((q == p) && not b) ≡ false → p ≡ q → b ≡ true
not_own p q b e same = grind (arith, nat_tests)

module _ (w : Rehearsal) (step : Step) (h : State) (r : IsRun w) (e : next w.setting (state_of w) step ≡ Some h) where
  abbrev t : IsStep w.setting (state_of w) step h
  t = stepping w step h r e

  stays_mine : is_repeat step ≡ true → IsLike (actor step) (state_of w) h
  stays_mine repeated =
      let facts = known w r in
      let o = repeat_is w.setting (state_of w) (actor step) (member (state_of w) (actor step)) step t.outcome repeated t.row in
      record {
        member = sym (member_mine w.setting (state_of w) step h t facts.holds facts.knows ∙ ap (λ (x : Outcome). x.member) o);
        submitted = sym (count_mine w.setting (state_of w) step h t facts.holds facts.knows
            ∙ (ap (λ (x : Outcome). submissions (state_of w).submitted (actor step) + length x.submitted) o ∙ omega arith));
      }

  -- no step of its own leaves p alike
  pub stays : (p : ℕ) → IsMember w.setting.members p → is_own p (at w step) ≡ false → IsLike p (state_of w) h
  stays p isp other = elim (p_or_other p (actor step)) [
    | inl same ↦
        subst (λ q. IsLike q (state_of w) h) (sym same) (stays_mine (not_own p (actor step) (is_repeat step) other same))
    | inr ne ↦
        let facts = known w r in
        record {
          member = sym (member_theirs w.setting (state_of w) step h t facts.holds facts.knows p isp ne);
          submitted = sym (count_theirs w.setting (state_of w) step h t facts.holds facts.knows p ne);
        }
  ]

pub like_on : (p : ℕ) (f g h : State) → IsLike p f g → IsLike p g h → IsLike p f h
like_on p f g h a b = record { member = a.member ∙ b.member; submitted = a.submitted ∙ b.submitted }

pub like_back : (p : ℕ) (f g : State) → IsLike p f g → IsLike p g f
like_back p f g a = record { member = sym a.member; submitted = sym a.submitted }

-- p is new
pub record IsFresh (p : ℕ) (g : State) : Type 0 where
  pub member : member g p ≡ new_member
  pub submitted : submissions g.submitted p ≡ 0

-- p stands as its last own step left it
pub record IsUpTo (w : Rehearsal) (p : ℕ) : Type 0 where
  pub fresh : length (own w p) ≡ 0 → IsFresh p (state_of w)
  pub last : (i : ℕ) (m : Moment) → slice_get (own w p) i ≡ Some m → suc i ≡ length (own w p) →
      IsLike p (state_of (extended m.before m.step)) (state_of w)

AllUpTo : Rehearsal → Type 0
AllUpTo w = (p : ℕ) → IsMember w.setting.members p → IsUpTo w p

up_to_more : (w : Rehearsal) (step : Step) (h : State) → IsRun w → next w.setting (state_of w) step ≡ Some h → AllUpTo w →
    AllUpTo (extended w step)
unfolding AllUpTo
up_to_more w step h r e old p isp = by_test (is_own p (at w step)) refl
  where
    moved : (g : State) → IsLike p g (state_of w) → is_own p (at w step) ≡ false → IsLike p g (state_of (extended w step))
    moved g like other =
        subst (λ x. IsLike p g x) (sym (state_next w step h e))
        (like_on p g (state_of w) h like (stays w step h r e p isp other))

    by_test : (b : Bool) → is_own p (at w step) ≡ b → IsUpTo (extended w step) p
    by_test true is =
        let more : length (own (extended w step) p) ≡ length (own w p) + 1 = own_grown w p step true is in
        record {
          fresh = λ none. absurd (omega arith);
          last = λ i m there end. elim (own_cases w step p i m there) [
            | inl a ↦ absurd (let low : i < length (own w p) = get_below (own w p) i m a in omega arith)
            | inr b ↦ subst (λ x. IsLike p (state_of (extended x.before x.step)) (state_of (extended w step))) (sym b.is)
                (record { member = refl; submitted = refl })
          ];
        }
    by_test false is =
        let same : length (own (extended w step) p) ≡ length (own w p) + 0 = own_grown w p step false is in
        let before = old p isp in
        record {
          fresh = λ none.
              let f = before.fresh (omega arith) in
              let on = moved (state_of w) (record { member = refl; submitted = refl }) is in
              record { member = sym on.member ∙ f.member; submitted = sym on.submitted ∙ f.submitted };
          last = λ i m there end. elim (own_cases w step p i m there) [
            | inl a ↦ moved (state_of (extended m.before m.step)) (before.last i m a (omega arith)) is
            | inr b ↦ absurd (let own_it = b.own in cc)
          ];
        }

first_up_to : (s : Setting) (cells : ℕ) → AllUpTo (empty s cells)
unfolding AllUpTo
first_up_to s cells p isp = record {
  fresh = λ none. record {
    member = ap (λ x. member x p) (state-first s cells) ∙ member-first s p;
    submitted = ap (λ (x : State). submissions x.submitted p) (state-first s cells) ∙ submissions-first s p;
  };
  last = λ i m there end. some-none m (sym (ap (λ l. slice_get l i) (no_own s cells p)) ∙ there);
}

pub up_to : (w : Rehearsal) → IsRun w → (p : ℕ) → IsMember w.setting.members p → IsUpTo w p
unfolding AllUpTo
up_to = by_steps AllUpTo first_up_to up_to_more

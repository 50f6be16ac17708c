-- From which step to which an arrow goes.
use Rattle.std.proofs.Common.{◌≡◌, ◌⊎◌, ℕ, zero, suc, ◌+◌, ◌<◌, ◌≤◌, Bool, true, false, List, [], ◌∷◌, length, length-take, drop, refl}
use Rattle.std.proofs.Common.{Option, Some, None, ap, sym, ◌∙◌, subst, arith, inl, inr, eq-or-lt_of_le}
use Rattle.std.specs.Prelude.{slice_get, is_some, option_map}
use Rattle.ct_names.specs.Membership.{IsIn}
use Rattle.ct_names.proofs.Lists.{contrary, found-list_any, list_any-found}
use Rattle.ct_model.specs.AtValue.{Envelope as FullEnvelope}
use Rattle.ct_model.specs.Mapped.{without_value}
use Rattle.ct_model.specs.Rehearsal.{Rehearsal, state_of}
use Rattle.ct_model.specs.State.{at_serial}
use Rattle.ct_model.specs.declared.envelope.Envelope.{Envelope}
use Rattle.ct_model.specs.declared.step.Step.{Step}
use Rattle.ct_model.proofs.Basics.Options.{some-none, some-same}
use Rattle.ct_model.proofs.Basics.Tests.{not_true}
use Rattle.ct_records.specs.Replay.{IsAllowed}
use Rattle.ct_show.specs.Facts.{returns, takes}
use Rattle.ct_show.specs.Wires.{letter_at}
use Rattle.ct_diagram.specs.Diagram.{whole_trail}
use Rattle.ct_diagram.specs.Trail.{is_taken, origin, puts}
use Rattle.ct_diagram.specs.Window.{part_of}
use Rattle.ct_diagram.specs.declared.window.Window.{Window}
use Rattle.ct_laws.specs.Diagrams.{Drawn, IsOne, sent_by, wanted}
use Rattle.ct_laws.proofs.DrawnArrows.{DrawnArrow, DrawnBegins, DrawnEnds, HasDrawnArrows, IsDrawnArrow, IsDrawnEnd, IsDrawnWay}
use Rattle.ct_laws.proofs.ArrowLists.{all_arrows, all_has, an_arrow, in_all, in_own, once_all, own_putting, own_taking}
use Rattle.ct_laws.proofs.ArrowTexts.{layer_texts}
use Rattle.ct_laws.proofs.Records.{at_of, onward, part, same_there, within}
use Rattle.ct_laws.proofs.Trails.{IsAt, IsOrigin, at_between, at_one, drawn_at, in_whole}
use Rattle.ct_laws.proofs.Trails.{never_again, never_taken, none_between, origin_is, put_cases, same_number_one, step_is, trail_at}
use Rattle.ct_laws.proofs.Trails.{whole_has}
use Rattle.ct_laws.proofs.Waits.{NonePass, Sends, mail_returned, mail_sent}

-- ---- later steps

in_drop : {A : Type 0} (xs : List A) (n j : ℕ) (x : A) → slice_get xs j ≡ Some x → n ≤ j → IsIn x (drop n xs)
in_drop [] n j x h low = some-none x h
in_drop (y ∷ xs) zero zero x h low = inl (some-same x y (sym h))
in_drop (y ∷ xs) zero (suc j) x h low = inr (in_drop xs zero j x h (omega arith))
in_drop (y ∷ xs) (suc n) zero x h low = absurd (omega arith)
in_drop (y ∷ xs) (suc n) (suc j) x h low = in_drop xs n j x h (omega arith)

out_drop : {A : Type 0} (xs : List A) (n : ℕ) (x : A) → IsIn x (drop n xs) → (j : ℕ) × (n ≤ j) × (slice_get xs j ≡ Some x)
out_drop [] zero x h = absurd h
out_drop [] (suc n) x h = absurd h
out_drop (y ∷ xs) zero x (inl e) = (zero, omega arith, ap Some (sym e))
out_drop (y ∷ xs) zero x (inr h) = let r = out_drop xs zero x h in (suc r.0, omega arith, r.2)
out_drop (y ∷ xs) (suc n) x h = let r = out_drop xs n x h in (suc r.0, omega arith, r.2)

-- the first step from an index on that takes an envelope
record IsFirst (w : Rehearsal) (k from : ℕ) : Type 0 where
  pub index : ℕ
  pub step : Step
  pub low : from ≤ index
  pub there : slice_get w.steps index ≡ Some step
  pub passes : takes step k ≡ true
  pub none : NonePass (λ s. takes s k) w from index

-- or none before another index does
first_of : (w : Rehearsal) (k from to : ℕ) → from ≤ to → to ≤ length w.steps →
    NonePass (λ s. takes s k) w from to ⊎ IsFirst w k from
first_of w k from to up high =
    onward w.steps (λ i. NonePass (λ s. takes s k) w from i ⊎ IsFirst w k from) from to up high
    (inl (λ m step low below there. absurd (omega arith))) (λ i step low _ at before. go i step low at before (takes step k) refl)
  where
    go : (i : ℕ) (step : Step) → from ≤ i → slice_get w.steps i ≡ Some step →
        NonePass (λ s. takes s k) w from i ⊎ IsFirst w k from → (b : Bool) → takes step k ≡ b →
        NonePass (λ s. takes s k) w from (suc i) ⊎ IsFirst w k from
    go i step low at (inr f) b is = inr f
    go i step low at (inl none) true is = inr (record { index = i; step = step; low = low; there = at; passes = is; none = none })
    go i step low at (inl none) false is = inl (λ m s from_m to_m there.
        let up : m ≤ i = omega arith in
        elim (eq-or-lt_of_le up) [
          | inl same ↦ subst (λ x. takes x k ≡ false)
              (some-same step s (sym at ∙ subst (λ j. slice_get w.steps j ≡ Some s) same there)) is
          | inr less ↦ none m s from_m less there
        ])

eq_or_less : (m n : ℕ) → (m ≡ n) ⊎ ((m < n) ⊎ (n < m))
eq_or_less m n = grind arith

module _ (window : Window) (w : Rehearsal) (all : IsAllowed w) where
  -- ---- an arrow that ends

  end_at : (low n k : ℕ) (e : Drawn) → IsAt window w n e → low ≤ n → takes e.step k ≡ true →
      ((m : ℕ) (f : Drawn) → low ≤ m → m < n → IsAt window w m f → puts k f ≡ false) → IsDrawnEnd (whole_trail window w) k low (Some e)
  end_at low n k e at less t none = (
    whole_has window w n e at,
    omega arith,
    t,
    λ d there after before.
        let a = in_whole window w d there in
        never_taken window w all low n k e at t none a.index d (omega arith) (omega arith) a.is,
  )

  way_from : (n k : ℕ) (e : Drawn) → IsAt window w n e → takes e.step k ≡ true → (o : Option Drawn) → IsOrigin window w n k o →
      IsDrawnWay (whole_trail window w) k o (Some e)
  way_from n k e at t None h = (
    end_at zero n k e at (omega arith) t (λ m f from below here. h m f below here),
    λ d there less. let a = in_whole window w d there in h a.index d (omega arith) a.is,
  )
  way_from n k e at t (Some b) h =
      let number : suc h.0 ≡ b.number = omega arith in (
        whole_has window w h.0 b h.2,
        h.3,
        subst (λ i. IsDrawnEnd (whole_trail window w) k i (Some e)) number (end_at (suc h.0) n k e at h.1 t h.4),
      )

  -- the last that put it there is the one that the arrow goes from
  from_is : (n k : ℕ) (e : Drawn) → IsAt window w n e → (from : Option Drawn) → IsDrawnWay (whole_trail window w) k from (Some e) →
      (o : Option Drawn) → IsOrigin window w n k o → o ≡ from
  from_is n k e at None way None h = refl
  from_is n k e at None way (Some b) h =
      contrary (puts k b) h.3 (way.1 b (whole_has window w h.0 b h.2) (omega (arith, h.1)))
  from_is n k e at (Some d) way None h =
      let a = in_whole window w d way.0 in
      contrary (puts k d) way.1 (h a.index d (omega (arith, way.2.1)) a.is)
  from_is n k e at (Some d) way (Some b) h =
      let a = in_whole window w d way.0 in
      let below = h.1 in
      let before = way.2.1 in
      ap Some (elim (eq_or_less a.index h.0) [
        | inl same ↦ at_one window w h.0 b d h.2 (subst (λ i. IsAt window w i d) same a.is)
        | inr (inl less) ↦ absurd (never_again window w all a.index h.0 k d b a.is h.2 less way.1 h.3
            (none_between window w a.index h.0 k h.0 a.is.drawn (omega arith) (omega arith)
            (λ x there low high. way.2.3 x there (omega arith) (omega arith))))
        | inr (inr less) ↦ contrary (puts k d) way.1 (h.4 a.index d less (omega arith) a.is)
      ])

  -- ---- the beginning of one

  end_none : (m k : ℕ) (d : Drawn) → IsAt window w m d → is_taken (drop (m + 1) w.steps) k ≡ false →
      IsDrawnEnd (whole_trail window w) k d.number None
  end_none m k d at none = λ x there low.
      let a = in_whole window w x there in
      not_true (takes x.step k) (λ is. contrary (is_taken (drop (m + 1) w.steps) k)
      (list_any-found (λ step. takes step k) x.step (drop (m + 1) w.steps) (in_drop w.steps (m + 1) a.index x.step a.is.at (omega arith))
      is) none)

  none_end : length w.steps ≤ window.to → (m k : ℕ) (d : Drawn) → IsAt window w m d →
      IsDrawnEnd (whole_trail window w) k d.number None → is_taken (drop (m + 1) w.steps) k ≡ false
  none_end end m k d at none = not_true (is_taken (drop (m + 1) w.steps) k) (λ is.
      let f = found-list_any (λ step. takes step k) (drop (m + 1) w.steps) is in
      let b = out_drop w.steps (m + 1) f.item f.is_in in
      let low = b.1 in
      let less = within w.steps b.0 f.item b.2 in
      let at_b = at_between window w m b.0 b.0 f.item at.drawn (omega arith) (omega arith) (omega arith) b.2 in
      let x = drawn_at window w b.0 f.item in
      contrary (takes x.step k) (subst (λ s. takes s k ≡ true) (sym (step_is window w b.0 f.item)) f.passes)
      (none x (whole_has window w b.0 x at_b) (omega arith)))

  -- ---- each arrow

  pub each_arrow : (a : DrawnArrow) → IsIn a (all_arrows window w (whole_trail window w)) → IsDrawnArrow window w a
  each_arrow a h =
      let o = in_all window w a h in
      elim (in_own window w o.1.index o.0 a o.2) [
        | inl t ↦ record {
          envelope = t.envelope;
          way = subst (λ to. IsDrawnWay (whole_trail window w) a.serial a.from to) (sym t.to)
              (subst (λ from. IsDrawnWay (whole_trail window w) a.serial from (Some o.0)) (sym t.from)
              (way_from o.1.index a.serial o.0 o.1.is t.takes (origin (trail_at window w o.1.index) a.serial)
              (origin_is window w o.1.index a.serial)));
        }
        | inr p ↦ record {
          envelope = p.envelope;
          way = subst (λ to. IsDrawnWay (whole_trail window w) a.serial a.from to) (sym p.to)
              (subst (λ from. IsDrawnWay (whole_trail window w) a.serial from None) (sym p.from)
              (whole_has window w o.1.index o.0 o.1.is, p.puts, end_none o.1.index a.serial o.0 o.1.is p.none));
        }
      ]

module _ (window : Window) (w : Rehearsal) (all : IsAllowed w) (end : length w.steps ≤ window.to) where
  -- ---- all of them

  there_is : (k : ℕ) (sent : ℕ × Envelope (Unit {0})) (from to : Option Drawn) → wanted window w k ≡ Some sent →
      IsDrawnWay (whole_trail window w) k from to → IsIn (an_arrow k sent from to) (all_arrows window w (whole_trail window w))
  there_is k sent from (Some x) is way =
      let a = in_whole window w x (ended from way).0 in
      subst (λ o. IsIn (an_arrow k sent o (Some x)) (all_arrows window w (whole_trail window w)))
      (from_is window w all a.index k x a.is from way (origin (trail_at window w a.index) k) (origin_is window w a.index k))
      (all_has window w a.index x _ a.is (own_taking window w a.index x k sent (ended from way).1 is))
    where
      ended : (o : Option Drawn) → IsDrawnWay (whole_trail window w) k o (Some x) → IsIn x (whole_trail window w) × (takes x.step k ≡ true)
      ended None h = (h.0.0, h.0.2)
      ended (Some d) h = (h.2.0, h.2.2)
  there_is k sent (Some d) None is way =
      let a = in_whole window w d way.0 in
      all_has window w a.index d _ a.is
      (own_putting window w a.index d k sent way.1 (none_end window w all end a.index k d a.is way.2) is)
  there_is k sent None None is way = absurd way

  pub has_arrows : HasDrawnArrows window w
  has_arrows = record {
    arrows = all_arrows window w (whole_trail window w);
    each = each_arrow window w all;
    all = λ a h. there_is a.serial (a.sender, a.envelope) a.from a.to h.envelope h.way;
    once = once_all window w all;
    text = layer_texts window w all;
  }

  -- ---- one of each envelope

  -- it ends somewhere
  ends_at : (m k : ℕ) (d : Drawn) → IsAt window w m d → (to : Option Drawn) × IsDrawnEnd (whole_trail window w) k d.number to
  ends_at m k d at = go (first_of w k (suc m) (length w.steps) at.within (omega arith))
    where
      go : NonePass (λ s. takes s k) w (suc m) (length w.steps) ⊎ IsFirst w k (suc m) →
          (to : Option Drawn) × IsDrawnEnd (whole_trail window w) k d.number to
      go (inl none) = (None, λ x there low. let a = in_whole window w x there in none a.index x.step (omega arith) a.is.within a.is.at)
      go (inr f) =
          let low = f.low in
          let less = within w.steps f.index f.step f.there in
          let at_f = at_between window w m f.index f.index f.step at.drawn (omega arith) (omega arith) (omega arith) f.there in
          let e = drawn_at window w f.index f.step in (
            Some e,
            (
              whole_has window w f.index e at_f,
              omega arith,
              subst (λ s. takes s k ≡ true) (sym (step_is window w f.index f.step)) f.passes,
              λ x there behind before.
                  let a = in_whole window w x there in
                  f.none a.index x.step (omega arith) (omega arith) a.is.at,
            ),
          )

  -- and nowhere else
  one_end : (k after : ℕ) (a b : Option Drawn) → IsDrawnEnd (whole_trail window w) k after a →
      IsDrawnEnd (whole_trail window w) k after b → a ≡ b
  one_end k after None None h i = refl
  one_end k after (Some x) None h i = contrary (takes x.step k) h.2 (i x h.0 h.1)
  one_end k after None (Some y) h i = contrary (takes y.step k) i.2 (h y i.0 i.1)
  one_end k after (Some x) (Some y) h i =
      ap Some (elim (eq_or_less x.number y.number) [
        | inl same ↦ same_number_one window w x y h.0 i.0 same
        | inr (inl less) ↦ contrary (takes x.step k) h.2 (i.3 x h.0 h.1 less)
        | inr (inr less) ↦ contrary (takes y.step k) i.2 (h.3 y i.0 i.1 less)
      ])

  same_arrow : (a : DrawnArrow) (k : ℕ) (sent : ℕ × Envelope (Unit {0})) (from to : Option Drawn) → IsDrawnArrow window w a →
      wanted window w k ≡ Some sent → a.serial ≡ k → a.from ≡ from → a.to ≡ to → a ≡ an_arrow k sent from to
  same_arrow a k sent from to is wants h i j =
      let same : (a.sender, a.envelope) ≡ sent =
      some-same (a.sender, a.envelope) sent (sym is.envelope ∙ ap (wanted window w) h ∙ wants) in
      λ x. record { serial = h x; sender = (same x).0; envelope = (same x).1; from = i x; to = j x }

  pub begins_one : (d : Drawn) (k : ℕ) → IsIn d (whole_trail window w) → puts k d ≡ true → is_some (wanted window w k) ≡ true →
      IsOne (DrawnBegins window w k d)
  begins_one d k there p asked =
      let a = in_whole window w d there in
      go (ends_at a.index k d a.is) (wanted window w k) refl asked
    where
      go : (t : (to : Option Drawn) × IsDrawnEnd (whole_trail window w) k d.number to) (o : Option (ℕ × Envelope (Unit {0}))) →
          wanted window w k ≡ o → is_some o ≡ true → IsOne (DrawnBegins window w k d)
      go t None is h = absurd (cc h)
      go t (Some sent) is h = record {
        it = an_arrow k sent (Some d) t.0;
        is = (record { envelope = is; way = (there, p, t.1) }, refl, refl);
        only = λ other so.
            let way = subst (λ i. IsDrawnWay (whole_trail window w) i (Some d) other.to) so.1
            (subst (λ from. IsDrawnWay (whole_trail window w) other.serial from other.to) so.2 so.0.way) in
            same_arrow other k sent (Some d) t.0 so.0 is so.1 so.2 (one_end k d.number other.to t.0 way.2 t.1);
      }

  pub ends_one : (e : Drawn) (k : ℕ) → IsIn e (whole_trail window w) → takes e.step k ≡ true → is_some (wanted window w k) ≡ true →
      IsOne (DrawnEnds window w k e)
  ends_one e k there t asked =
      let a = in_whole window w e there in
      go a.index a.is (wanted window w k) refl asked
    where
      go : (m : ℕ) → IsAt window w m e → (o : Option (ℕ × Envelope (Unit {0}))) → wanted window w k ≡ o → is_some o ≡ true →
          IsOne (DrawnEnds window w k e)
      go m at None is h = absurd (cc h)
      go m at (Some sent) is h =
          let from = origin (trail_at window w m) k in
          let begins = origin_is window w m k in
          record {
            it = an_arrow k sent from (Some e);
            is = (record { envelope = is; way = way_from window w all m k e at t from begins }, refl, refl);
            only = λ other so.
                let way = subst (λ i. IsDrawnWay (whole_trail window w) i other.from (Some e)) so.1
                (subst (λ to. IsDrawnWay (whole_trail window w) other.serial other.from to) so.2 so.0.way) in
                same_arrow other k sent from (Some e) so.0 is so.1 (sym (from_is window w all m k e at other.from way from begins)) so.2;
          }

-- ---- what is sent

pub knows_sent : (window : Window) (w : Rehearsal) → IsAllowed w → (d : Drawn) (k : ℕ) → IsIn d (whole_trail window w) →
    puts k d ≡ true → is_some (letter_at w k) ≡ true
knows_sent window w all d k there p =
    let a = in_whole window w d there in
    ap (λ o. is_some (option_map without_value o)) (mail_there a.index a.is (put_cases window w a.index k d a.is p)).1
  where
    in_record : (n : ℕ) → n ≤ length w.steps → 1 ≤ k → k ≤ sent_by w n → (e : FullEnvelope) × (at_serial (state_of w).sent k ≡ Some e)
    in_record n within low high =
        let e = at_of (state_of (part w n)).sent k low high in
        (e.0, sym (same_there w all n k within low high) ∙ e.1)

    mail_there : (m : ℕ) → IsAt window w m d → (returns d.step k ≡ true) ⊎ Sends w m k →
        (e : FullEnvelope) × (at_serial (state_of w).sent k ≡ Some e)
    mail_there m at (inl r) =
        let mail = mail_sent w m _ k (mail_returned w all m k d.step at.at r) in
        in_record m (omega arith) mail.0 mail.1
    mail_there m at (inr s) = in_record (suc m) at.within (omega arith) s.1

-- ---- a part of a record

-- no step of it is behind the window
pub part_within : (window : Window) (w : Rehearsal) → length (part_of window w).steps ≤ window.to
part_within window w = omega (arith, length-take window.to w.steps)

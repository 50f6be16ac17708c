-- The texts of arrows.
use Rattle.std.proofs.Common.{◌≡◌, ℕ, zero, suc, ◌+◌, ◌-◌, ◌≤◌, Bool, true, false, List, [], ◌∷◌, ◌++◌, length, map, drop, take, refl}
use Rattle.std.proofs.Common.{Option, Some, None, ap, sym, ◌∙◌, subst, arith, append-nil, length-drop, codes, decimal}
use Rattle.std.proofs.lemmas.List.{map-append}
use Rattle.std.proofs.lemmas.List.Concat.{flat_map-append}
use Rattle.std.proofs.lemmas.List.Folds.{concat-append}
use Rattle.std.specs.List.{concat}
use Rattle.std.specs.Prelude.{slice_get, if◌then◌else◌, option_map, option_and_then, unwrap_or}
use Rattle.ct_model.specs.AtValue.{Envelope as FullEnvelope}
use Rattle.ct_model.specs.Mapped.{without_value}
use Rattle.ct_model.specs.Rehearsal.{Rehearsal, extended, state_of}
use Rattle.ct_model.specs.Senders.{senders}
use Rattle.ct_model.specs.State.{at_serial}
use Rattle.ct_model.specs.Wire.{value_of}
use Rattle.ct_model.specs.declared.envelope.Envelope.{Envelope}
use Rattle.ct_model.specs.declared.step.Step.{Step}
use Rattle.ct_records.specs.Replay.{IsAllowed}
use Rattle.ct_show.specs.Wires.{carried_text, letter_at, letter_text, serial_text}
use Rattle.ct_diagram.specs.Arrows.{arrow_of, arrow_text, arrows, asked, begun_text, end_class, end_text, first_stubs, kind_of, last_text}
use Rattle.ct_diagram.specs.Arrows.{begun_in, opening_text, returned_text, sender_at, short_text, stub_arrow, stub_at, stub_of, taken_text}
use Rattle.ct_diagram.specs.Arrows.{way_text, who_text}
use Rattle.ct_diagram.specs.Diagram.{arrows_layer, drawn_after, drawn_next, first_layer, layer_next, whole_layer, whole_trail}
use Rattle.ct_diagram.specs.Trail.{is_taken, origin, returned, taken}
use Rattle.ct_diagram.specs.Window.{is_drawn, is_sent_asked}
use Rattle.ct_diagram.specs.declared.window.Window.{Window}
use Rattle.ct_laws.specs.Diagrams.{Drawn, HasPart, drawn_text, line_text, sent_by, wanted}
use Rattle.ct_laws.proofs.DrawnArrows.{DrawnArrow, text_of_drawn}
use Rattle.ct_laws.proofs.ArrowLists.{all_arrows, an_arrow, one_arrow, own_at, own_of, own_same, returned_arrows, returned_returns}
use Rattle.ct_laws.proofs.ArrowLists.{sent_arrows, stub_arrows, taken_arrows, taken_takes}
use Rattle.ct_laws.proofs.Records.{grows, part, part_next, same_sender, same_there}
use Rattle.ct_laws.proofs.Trails.{IsAt, at_here, drawn_at, trail_at}
use Rattle.ct_laws.proofs.Waits.{mail_returned, mail_sent, mail_taken}

-- ---- texts one after another

-- those of several arrows
abbrev pub texts : Rehearsal → Window → List DrawnArrow → List ℕ
texts w window list = concat (map (text_of_drawn w window) list)

texts_both : (w : Rehearsal) (window : Window) (a b : List DrawnArrow) → texts w window (a ++ b) ≡ texts w window a ++ texts w window b
texts_both w window a b =
    ap concat (map-append (text_of_drawn w window) a b)
    ∙ concat-append (map (text_of_drawn w window) a) (map (text_of_drawn w window) b)

-- ---- an envelope, in a part of the record and in all of it

asked_by : (window : Window) (k : ℕ) (from all : List ℕ) (o : Option (Envelope (Unit {0}))) → sender_at from k ≡ sender_at all k →
    asked window from k o ≡ asked window all k o
asked_by window k from all None h = refl
asked_by window k from all (Some e) h =
    ap {B = Option (ℕ × Envelope (Unit {0}))} (λ s. if is_sent_asked window s e.to e.wire then Some (s, e) else None) h

who_of : (v w : Rehearsal) (k sender to : ℕ) → at_serial (state_of v).sent k ≡ at_serial (state_of w).sent k →
    who_text v k sender to ≡ who_text w k sender to
unfolding who_text serial_text carried_text
who_of v w k sender to h =
    ap {A = Option FullEnvelope} (λ o. concat (codes "'><title>" ∷ concat (codes "#" ∷ decimal k ∷ codes " "
    ∷ letter_text (option_map without_value o) (unwrap_or (option_and_then (λ e. value_of e.wire) o) []) ∷ []) ∷ codes ", sent by "
    ∷ decimal sender ∷ codes " to " ∷ decimal to ∷ [])) h

module _ (window : Window) (w : Rehearsal) (all : IsAllowed w) (n : ℕ) (d : Drawn) (at : IsAt window w n d) where
  abbrev later : List Step
  later = drop (n + 1) w.steps

  abbrev from : List ℕ
  from = senders w.setting (take (n + 1) w.steps)

  abbrev here : Rehearsal
  here = extended (part w n) d.step

  there : (k : ℕ) → 1 ≤ k → k ≤ sent_by w (suc n) → at_serial (state_of here).sent k ≡ at_serial (state_of w).sent k
  there k low high =
      subst (λ (v : Rehearsal). at_serial (state_of v).sent k ≡ at_serial (state_of w).sent k) (part_next w n d.step at.at)
      (same_there w all (suc n) k at.within low high)

  known : (k : ℕ) → 1 ≤ k → k ≤ sent_by w (suc n) → asked window from k (letter_at here k) ≡ wanted window w k
  known k low high =
      let plus : suc n ≡ n + 1 = omega arith in
      let sender : sender_at from k ≡ sender_at (senders w.setting w.steps) k =
      subst (λ m. sender_at (senders w.setting (take m w.steps)) k ≡ sender_at (senders w.setting w.steps) k) plus
      (ap (λ o. unwrap_or o 0) (same_sender w all (suc n) k at.within low high)) in
      ap (asked window from k) (ap {A = Option FullEnvelope} (option_map without_value) (there k low high))
      ∙ asked_by window k from (senders w.setting w.steps) (letter_at w k) sender

  -- ---- the texts of a step

  taken_here : (o : Option ℕ) → taken d.step ≡ o →
      taken_text here window from (trail_at window w n) d o ≡ texts w window (taken_arrows window w (trail_at window w n) d o)
  unfolding arrow_text
  taken_here None is = refl
  taken_here (Some k) is =
      let grown = grows w all n (suc n) (omega arith) at.within in
      let sent = mail_sent w n _ k (mail_taken w all n k d.step at.at (taken_takes d.step k is)) in
      ap (arrow_of here window (trail_at window w n) d k) (known k sent.0 (omega arith))
      ∙ go (wanted window w k) (there k sent.0 (omega arith))
    where
      go : (o : Option (ℕ × Envelope (Unit {0}))) → at_serial (state_of here).sent k ≡ at_serial (state_of w).sent k →
          arrow_of here window (trail_at window w n) d k o
          ≡ texts w window (one_arrow k (origin (trail_at window w n) k) (Some d) o)
      go None h = refl
      go (Some sent) h =
          ap (λ x. concat (opening_text (kind_of sent.1.wire) (end_class d.step d.is_quiet)
          ∷ way_text w window sent.0 (origin (trail_at window w n) k) sent.1.to d.place ∷ x
          ∷ begun_text window.from (origin (trail_at window w n) k) ∷ end_text d ∷ [])) (who_of here w k sent.0 sent.1.to h)
          ∙ sym (append-nil (arrow_text w window sent.0 (origin (trail_at window w n) k) d k sent.1))

  stub_here : (k : ℕ) → 1 ≤ k → k ≤ sent_by w (suc n) →
      stub_at here window from d later k (letter_at here k) ≡ texts w window (stub_arrows window w d later k)
  unfolding stub_arrow
  stub_here k low high =
      ap (stub_of here window d later k) (known k low high) ∙ go (wanted window w k)
    where
      last : d.number + length later ≡ length w.steps
      last = let rest = length-drop (n + 1) w.steps in omega arith

      one : (sent : ℕ × Envelope (Unit {0})) → stub_arrow here window sent.0 d (d.number + length later) k sent.1
          ≡ stub_arrow w window sent.0 d (length w.steps) k sent.1
      one sent =
          ap (λ x. concat (opening_text (kind_of sent.1.wire) (codes " stub") ∷ short_text w window d sent.1.to ∷ x ∷ begun_in d
          ∷ last_text (d.number + length later) ∷ [])) (who_of here w k sent.0 sent.1.to (there k low high))
          ∙ ap (λ m. stub_arrow w window sent.0 d m k sent.1) last

      none_if : (b : Bool) → [] ≡ texts w window (if b then [] else [])
      none_if b = grind arith

      one_if : (sent : ℕ × Envelope (Unit {0})) (b : Bool) →
          (if b then [] else stub_arrow here window sent.0 d (d.number + length later) k sent.1)
          ≡ texts w window (if b then [] else an_arrow k sent (Some d) None ∷ [])
      one_if sent true = refl
      one_if sent false = one sent ∙ sym (append-nil (stub_arrow w window sent.0 d (length w.steps) k sent.1))

      go : (o : Option (ℕ × Envelope (Unit {0}))) →
          stub_of here window d later k o ≡ texts w window (if is_taken later k then [] else one_arrow k (Some d) None o)
      go None = none_if (is_taken later k)
      go (Some sent) = one_if sent (is_taken later k)

  returned_here : (o : Option ℕ) → returned d.step ≡ o →
      returned_text here window from d later o ≡ texts w window (returned_arrows window w d later o)
  returned_here None is = refl
  returned_here (Some k) is =
      let grown = grows w all n (suc n) (omega arith) at.within in
      let sent = mail_sent w n _ k (mail_returned w all n k d.step at.at (returned_returns d.step k is)) in
      stub_here k sent.0 (omega arith)

  sent_here : (j : ℕ) → j ≤ d.sent - d.before →
      first_stubs here window from d later j ≡ texts w window (sent_arrows window w d later j)
  sent_here zero few = refl
  sent_here (suc j) few =
      let k = d.before + suc j in
      cc (
        sent_here j (omega arith),
        stub_here k (omega arith) (omega arith),
        texts_both w window (sent_arrows window w d later j) (stub_arrows window w d later k),
      )

  own_here : arrows here window from (trail_at window w n) d later ≡ texts w window (own_at window w n d)
  own_here =
      let first = taken_arrows window w (trail_at window w n) d (taken d.step) in
      let back = returned_arrows window w d later (returned d.step) in
      let sent = sent_arrows window w d later (d.sent - d.before) in
      let taken_is = taken_here (taken d.step) refl in
      let returned_is = returned_here (returned d.step) refl in
      let sent_is = sent_here (d.sent - d.before) (omega arith) in
      simp (taken_is, returned_is, sent_is, ← (texts_both w window back sent), ← (texts_both w window first (back ++ sent)))

-- ---- of all steps

module _ (window : Window) (w : Rehearsal) (all : IsAllowed w) where
  next_here : (n : ℕ) (o : Option Step) → slice_get w.steps n ≡ o →
      layer_next arrows_layer window (part w n) (senders w.setting (take (n + 1) w.steps)) (trail_at window w n) n (drop (n + 1) w.steps) o
      ≡ texts w window (all_arrows window w (drawn_next window (part w n) (trail_at window w n) n o))
  unfolding drawn_after
  next_here n None at = refl
  next_here n (Some step) at = go (is_drawn window (n + 1)) refl
    where
      d : Drawn
      d = drawn_at window w n step

      text : List ℕ
      text =
          arrows (extended (part w n) step) window (senders w.setting (take (n + 1) w.steps)) (trail_at window w n) d (drop (n + 1) w.steps)

      go : (b : Bool) → is_drawn window (n + 1) ≡ b →
          (if b then text else []) ≡ texts w window (all_arrows window w (if b then d ∷ [] else []))
      go false is = refl
      go true is =
          let there = at_here window w n step at is in
          own_here window w all n d there
          ∙ ap (texts w window) (sym (own_same window w n d there) ∙ sym (append-nil (own_of window w d)))

  first_here : (n : ℕ) →
      first_layer arrows_layer window w.setting w.cells w.steps n ≡ texts w window (all_arrows window w (trail_at window w n))
  first_here zero = refl
  first_here (suc n) =
      let before = all_arrows window w (trail_at window w n) in
      let next = drawn_next window (part w n) (trail_at window w n) n (slice_get w.steps n) in
      cc (
        first_here n,
        next_here n (slice_get w.steps n) refl,
        texts_both w window before (all_arrows window w next),
        flat_map-append (own_of window w) (trail_at window w n) next,
      )

  pub layer_texts : whole_layer arrows_layer window w ≡ texts w window (all_arrows window w (whole_trail window w))
  layer_texts = first_here (length w.steps)

-- ---- their lines

pub has_line : (w : Rehearsal) (window : Window) (k : ℕ) (sent : ℕ × Envelope (Unit {0})) (from to : Option Drawn) →
    HasPart (line_text w window sent from to) (drawn_text w window k sent from to)
unfolding arrow_text stub_arrow
has_line w window k sent (Some d) (Some e) = record {
  before = opening_text (kind_of sent.1.wire) (end_class e.step e.is_quiet);
  behind = concat (who_text w k sent.0 sent.1.to ∷ begun_text window.from (Some d) ∷ end_text e ∷ []);
  is = refl;
}
has_line w window k sent None (Some e) = record {
  before = opening_text (kind_of sent.1.wire) (end_class e.step e.is_quiet);
  behind = concat (who_text w k sent.0 sent.1.to ∷ begun_text window.from None ∷ end_text e ∷ []);
  is = refl;
}
has_line w window k sent (Some d) None = record {
  before = opening_text (kind_of sent.1.wire) (codes " stub");
  behind = concat (who_text w k sent.0 sent.1.to ∷ begun_in d ∷ last_text (length w.steps) ∷ []);
  is = refl;
}
has_line w window k sent None None = record { before = []; behind = []; is = refl }

-- What a step makes of the network.
use Rattle.std.proofs.Common.{◌≡◌, ℕ, ◌-◌, true, List, [], ◌++◌, length, set, refl, ap, sym, ◌∙◌, arith, append-nil}
use Rattle.std.specs.Prelude.{◌==◌, if◌then◌else◌}
use Rattle.std.proofs.lemmas.List.{length-set, get_or-set_same, get_or-set_other}
use Rattle.ct_names.specs.Group.{is_member}
use Rattle.ct_model.specs.declared.step.Step.{Step}
use Rattle.ct_model.specs.Actor.{actor}
use Rattle.ct_model.specs.declared.mail.Mail.{Mail as AnyMail}
use Rattle.ct_model.specs.Wire.{envelopes}
use Rattle.ct_model.specs.declared.mail.Mail.TheVariants.{Nobody}
use Rattle.ct_model.specs.Waiting.{line_change, changed, serials_to}
use Rattle.ct_model.specs.Waiting.LineChange.{Leaves}
use Rattle.ct_network.specs.Network.{NetworkView, line_at}
use Rattle.ct_world.proofs.Basics.Members.{apart, place}

-- the lines after one of them is changed
pub changed_line : (lines : List (List ℕ)) (n p q : ℕ) (change : List ℕ → List ℕ)
    → length lines ≡ n → is_member n p ≡ true → is_member n q ≡ true
    → line_at (set lines (p - 1) (change (line_at lines p))) q ≡ (if p == q then change (line_at lines q) else line_at lines q)
changed_line lines n p q change lined here there = grind (
  arith,
  get_or-set_same lines (p - 1) (change (line_at lines p)) [],
  get_or-set_other lines (p - 1) (q - 1) (change (line_at lines p)) [],
  place n p here,
  apart n p q here there,
)

-- what the network's post did
pub record IsPosted (old new : NetworkView) (mail : AnyMail ℕ) : Type 0 where
  pub sent : new.sent ≡ old.sent ++ envelopes (length old.lines) mail
  pub lined : length new.lines ≡ length old.lines
  pub joined : (q : ℕ) → is_member (length old.lines) q ≡ true →
      line_at new.lines q ≡ line_at old.lines q ++ serials_to q (length old.sent) (envelopes (length old.lines) mail)

-- the network once the step took or moved its serial, before it posts
pub record IsLeft (step : Step) (n : ℕ) (old left : NetworkView) : Type 0 where
  pub sent : left.sent ≡ old.sent
  pub lined : length left.lines ≡ n
  pub line : (q : ℕ) → is_member n q ≡ true → line_at left.lines q ≡ changed q (line_change step) (line_at old.lines q)

-- it takes and moves none
pub left-plain : {step : Step} {n : ℕ} {old left : NetworkView} → length old.lines ≡ n → line_change step ≡ Leaves →
    left.sent ≡ old.sent → left.lines ≡ old.lines → IsLeft step n old left
left-plain {old = old} lined plain sent lines = record {
  sent = sent;
  lined = ap length lines ∙ lined;
  line = λ q group. ap (λ ls. line_at ls q) lines ∙ ap (λ c. changed q c (line_at old.lines q)) (sym plain);
}

-- the change is that of the step
abbrev pub IsChange : Step → (List ℕ → List ℕ) → Type 0
IsChange step change = (q : ℕ) (line : List ℕ) → changed q (line_change step) line ≡ (if actor step == q then change line else line)

-- it changes the line of its member
pub left-changed : {step : Step} {n : ℕ} {old left : NetworkView} (change : List ℕ → List ℕ) → IsChange step change →
    length old.lines ≡ n → is_member n (actor step) ≡ true → left.sent ≡ old.sent →
    left.lines ≡ set old.lines (actor step - 1) (change (line_at old.lines (actor step))) → IsLeft step n old left
left-changed {step} {n} {old} change is lined here sent lines = record {
  sent = sent;
  lined = ap length lines ∙ length-set old.lines (actor step - 1) (change (line_at old.lines (actor step))) ∙ lined;
  line = λ q group. ap (λ ls. line_at ls q) lines ∙ changed_line old.lines n (actor step) q change lined here group
      ∙ sym (is q (line_at old.lines q));
}

-- nothing was posted
pub posted-nothing : (network : NetworkView) → IsPosted network network Nobody
posted-nothing network = record {
  sent = sym (append-nil network.sent);
  lined = refl;
  joined = λ q group. sym (append-nil (line_at network.lines q));
}

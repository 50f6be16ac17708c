-- What a told step is, and what it receives.
use Rattle.ct_merge.proofs.Common.{◌≡◌, ℕ, Option, Some, None, refl, sym, ap, ap₂, ◌∙◌, subst, option_map, ◌==◌, actor, Envelope, Wire}
use Rattle.ct_merge.proofs.Common.{without_value, addressed, receive, next, Rehearsal, state_of, State, member, at_serial, senders, Step}
use Rattle.ct_merge.proofs.Common.{some-same, some-none, made-map, made-then, when-is, same_number, next-is, letter, IsFrom, act_of}
use Rattle.ct_merge.proofs.Common.{step_of, carried_of, named, IsNamed, FullName, LogAct, Receive}
use Rattle.ct_model.specs.Next.{wire_to}
use Rattle.ct_play.specs.Picking.{sender_of}
use Rattle.ct_merge.specs.Names.{full_name}
use Rattle.ct_model.specs.declared.step.Step.TheVariants as step
use Rattle.ct_model.specs.declared.wire.Wire.TheVariants as wire

-- it is the step of p that is told so, and the envelope that it receives is so named
pub record IsToldStep (w : Rehearsal) (p : ℕ) (step : Step) (act : LogAct) : Type 0 where
  pub serial : ℕ
  pub is : step ≡ step_of p serial act
  pub name : (name : FullName) → act ≡ Receive name → full_name w serial ≡ Some name

receives : (w : Rehearsal) (p k : ℕ) (act : LogAct) (o : Option FullName) → full_name w k ≡ o → option_map Receive o ≡ Some act →
    IsToldStep w p (step.Receive p k) act
receives w p k act None is e = some-none act e
receives w p k act (Some name) is e =
    let same : Receive name ≡ act = some-same (Receive name) act e in
    subst (λ a. IsToldStep w p (step.Receive p k) a) same (record {
      serial = k;
      is = refl;
      name = λ other f. is ∙ ap Some (received_name name other f);
    })
  where
    received_name : (a b : FullName) → Receive a ≡ Receive b → a ≡ b
    received_name a b e = cc

plain_told : (w : Rehearsal) (p : ℕ) (step : Step) (given act : LogAct) → Some given ≡ Some act → step ≡ step_of p 0 given →
    ((name : FullName) → given ≡ Receive name → ⊥) → IsToldStep w p step act
plain_told w p step given act e is other =
    subst (λ a. IsToldStep w p step a) (some-same given act e)
    (record { serial = 0; is = is; name = λ name f. absurd (other name f) })

pub told_step : (w : Rehearsal) (p : ℕ) (step : Step) (act : LogAct) → act_of w step ≡ Some act → actor step ≡ p →
    IsToldStep w p step act
told_step w p (step.Receive q k) act e mine =
    subst (λ z. IsToldStep w p (step.Receive z k) act) (sym mine) (receives w p k act (full_name w k) refl e)
told_step w p (step.Postpone q k) act e mine = some-none act e
told_step w p (step.Lose q k) act e mine = some-none act e
told_step w p (step.Repeat q k) act e mine = some-none act e
told_step w p _ act e mine = plain_told w p _ _ act e (rw mine refl) (λ name f. cc)

-- ---- receipts

pub carried_same : (x : Wire) → carried_of (without_value (letter 0 x)).wire ≡ carried_of x
carried_same (wire.Data m) = refl
carried_same _ = refl

-- what a full name says of the envelope
record IsSoNamed (o : Option Envelope) (from : Option ℕ) (name : FullName) : Type 0 where
  pub envelope : Envelope
  pub there : o ≡ Some envelope
  pub sender : from ≡ Some name.from
  pub carried : carried_of envelope.wire ≡ name.carried

so_named : (o : Option Envelope) (from : Option ℕ) (name : FullName) → named (option_map without_value o) from ≡ Some name →
    IsSoNamed o from name
so_named None from name e = some-none name e
so_named (Some x) None name e = some-none name e
so_named (Some x) (Some p) name e =
    let same : record { carried = carried_of (without_value x).wire; from = p } ≡ name = some-same _ name e in
    record {
      envelope = x;
      there = refl;
      sender = ap (λ (n : FullName). Some n.from) same;
      carried = sym (carried_same x.wire) ∙ ap (λ (n : FullName). n.carried) same;
    }

-- p gets this wire by the receipt, from an envelope of this name
pub record IsReceipt (w : Rehearsal) (p k : ℕ) (name : FullName) : Type 0 where
  pub wire : Wire
  pub gets : wire_to (state_of w) p k ≡ Some wire
  pub from : IsFrom w name.from p wire k
  pub carried : carried_of wire ≡ name.carried

pub wire_named : (w : Rehearsal) (p k : ℕ) (name : FullName) (x : Wire) → full_name w k ≡ Some name → wire_to (state_of w) p k ≡ Some x →
    IsReceipt w p k name
unfolding full_name sender_of wire_to
wire_named w p k name x full gets =
    let f = so_named (at_serial (state_of w).sent k) (at_serial (senders w.setting w.steps) k) name full in
    let made = made-then (addressed p) (at_serial (state_of w).sent k) x gets in
    let there = when-is (made.from.to == p) made.from.wire x made.gives in
    let same : f.envelope ≡ made.from = some-same f.envelope made.from (sym f.there ∙ made.is) in
    let is : made.from ≡ letter p x = ap₂ letter (same_number made.from.to p there.0) there.1 in
    record {
      wire = x;
      gets = gets;
      from = record { there = made.is ∙ ap Some is; sender = f.sender };
      carried = ap (λ (e : Envelope). carried_of e.wire) (sym (same ∙ is)) ∙ f.carried;
    }

-- an enabled receipt gets a wire
pub received_wire : (w : Rehearsal) (p k : ℕ) (name : FullName) (h : State) → full_name w k ≡ Some name →
    next w.setting (state_of w) (step.Receive p k) ≡ Some h → IsReceipt w p k name
received_wire w p k name h full e =
    let t = next-is w.setting (state_of w) (step.Receive p k) h e in
    let made = made-map (receive w.setting p (member (state_of w) p)) (wire_to (state_of w) p k) t.outcome t.row in
    wire_named w p k name made.from full made.is

-- so does an enabled step that is told so
pub receipt_by : (w : Rehearsal) (p : ℕ) (step : Step) (act : LogAct) (h : State) (x : IsToldStep w p step act) →
    next w.setting (state_of w) step ≡ Some h → (name : FullName) → act ≡ Receive name → IsReceipt w p x.serial name
receipt_by w p step act h x e name is =
    received_wire w p x.serial name h (x.name name is)
    (subst (λ z. next w.setting (state_of w) z ≡ Some h) (x.is ∙ ap (λ z. step_of p x.serial z) is) e)

pub receipt_named : (w : Rehearsal) (p k : ℕ) (name : FullName) → IsReceipt w p k name → IsNamed w name.from p name.carried k
receipt_named w p k name f =
    record { envelope = letter p f.wire; there = (f.from).there; to = refl; carried = f.carried; from = (f.from).sender }

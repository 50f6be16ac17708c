-- At rest, those that are up have received the same and delivered the same; where one has an instance open, each has it open.
use Rattle.std.proofs.Common.{◌≡◌, ℕ, suc, ◌≤◌, ◌<◌, true, false, List, [], ◌∷◌, Option, Some, None, refl, sym, ap}
use Rattle.std.proofs.Common.{◌∙◌, arith, take}
use Rattle.ct_names.specs.Membership.{IsIn}
use Rattle.ct_names.specs.Message.{Message}
use Rattle.ct_names.specs.Value.{Value, has, ordered, placed}
use Rattle.ct_names.proofs.Lists
use Rattle.ct_names.proofs.Values
use Rattle.ct_model.specs.declared.step.Step.{Step}
use Rattle.ct_model.specs.AtValue.{Wire, Standing}
use Rattle.ct_model.specs.Setting.{Setting}
use Rattle.ct_model.specs.State.{State, Member, member, delivered, joined}
use Rattle.ct_model.specs.Received.{HasDecided, received, received_by}
use Rattle.ct_model.specs.Next.{undelivered, proposed, is_empty}
use Rattle.ct_model.specs.Relayed.{HasCaughtUp}
use Rattle.ct_model.specs.Safe.{delivered_by}
use Rattle.ct_model.specs.Senders.{senders}
use Rattle.ct_model.proofs.Basics.Options.{none-is, some-of}
use Rattle.ct_model.proofs.Basics.Tests.{not_true}
use Rattle.ct_model.proofs.Consensus.Locking.{agreed-run}
use Rattle.ct_model.proofs.Delivery.Batches.{deliveries, decision, HasClosed, closed-run}
use Rattle.ct_model.proofs.Delivery.Prefixes.{agreed-deliveries}
use Rattle.ct_model.proofs.Record.Senders.{IsPosted, letter}
use Rattle.ct_model.proofs.Relay.Messages.{received-by}
use Rattle.ct_model.proofs.Relay.Relaying.{posted-come, history-run, caught_up}
use Rattle.ct_rest.specs.Rest.{IsUp, IsAtRest}
use Rattle.ct_rest.proofs.Blocked
use Rattle.ct_rest.proofs.Posts.{HasMore, posts-run}

-- where nothing may be proposed, all that was received was delivered

placed-some : (m : Message) (list : List Message) → is_empty (placed m list) ≡ false
placed-some m [] = refl
placed-some m (other ∷ list) = grind arith

ordered-none : (list : List Message) → is_empty (ordered list) ≡ true → list ≡ []
unfolding ordered
ordered-none [] e = refl
ordered-none (m ∷ list) e = Lists.contrary _ e (placed-some m _)

take-none : (bound : ℕ) (list : List Message) → 1 ≤ bound → is_empty (take bound list) ≡ true → is_empty list ≡ true
take-none bound list some e = grind arith

all-delivered : (s : Setting) (m : Member) → 1 ≤ s.bound → is_empty (proposed s m) ≡ true → (x : Message) → IsIn x (received m.got) →
    IsIn x (delivered m)
unfolding proposed undelivered
all-delivered s m some none x h = grind (arith, Values.in-has, Lists.IsIn-filter, ordered-none, take-none)

module _ (s : Setting) (steps : List Step) (g : State) (rest : IsAtRest s steps g) where
  -- what one that is up sent has come to each that is up
  pub came : (p q : ℕ) (w : Wire) → IsUp s g p → IsUp s g q → IsPosted (senders s steps) g.sent p (letter q w) → IsIn w (member g q).got
  came p q w isp isq =
      posted-come s steps g p q w (history-run s steps g rest.runs) isq.member (rest.arrived p q isp isq)

  caught : (p q : ℕ) → IsUp s g p → IsUp s g q → HasCaughtUp g p q
  caught p q isp isq = caught_up s steps g rest.runs p q isp.member isq.member (rest.arrived p q isp isq)

  closed : (p : ℕ) → HasClosed (member g p)
  closed = (closed-run s steps g rest.runs).1

  -- who closed fewer instances could deliver the next decision
  not_behind : (p q : ℕ) → IsUp s g p → IsUp s g q → (closed p).closed < (closed q).closed → ⊥
  not_behind p q isp isq lt =
      let k : ℕ = suc (closed p).closed in
      let its = (closed q).decided k (omega arith) (omega arith) in
      let mine = (caught q p isq isp).decisions k its.value its.is in
      go (member g p).current refl mine.0 mine.1
    where
      go : (o : Option Standing) → (member g p).current ≡ o → (v : Value) → HasDecided g p (suc (closed p).closed) v → ⊥
      go None is v has = grind (arith, (closed p).idle is, Blocked.undecided_next s g p isp (rest.blocked p isp) is)
      go (Some c) is v has = grind (arith, (closed p).busy c is, Blocked.undecided s g p isp (rest.blocked p isp) c is)

  level : (p q : ℕ) → IsUp s g p → IsUp s g q → (closed p).closed ≡ (closed q).closed
  level p q isp isq = let a = not_behind p q isp isq in let b = not_behind q p isq isp in omega arith

  pub same_delivered : (p q : ℕ) → IsUp s g p → IsUp s g q → delivered_by g p ≡ delivered_by g q
  same_delivered p q isp isq =
      let n = level p q isp isq in
      let same = agreed-deliveries s g (agreed-run s steps g rest.runs) p q isp.member isq.member (closed p) (closed q) (omega arith) in
      ap joined ((closed p).batches ∙ same ∙ ap (deliveries (decision (member g q).got)) n ∙ sym (closed q).batches)

  pub delivers_received : (p : ℕ) → IsUp s g p → (member g p).current ≡ None → (x : Message) → IsIn x (received_by g p) →
      IsIn x (delivered_by g p)
  delivers_received p isp idle x h = all-delivered s (member g p) rest.bound (Blocked.nothing_new s g p isp (rest.blocked p isp) idle) x
      (rw (received-by g p) at h)

  -- where one has an instance open each that is up has
  pub all_open : (p q : ℕ) → IsUp s g p → IsUp s g q → (c : Standing) → (member g p).current ≡ Some c →
      (d : Standing) × ((member g q).current ≡ Some d) × ((member g q).last ≡ (member g p).last)
  all_open p q isp isq c at =
      let d = some-of (member g q).current (not_true _ (λ none.
      let more : HasMore (member g p).got (member g p).batches = ((posts-run s steps g rest.runs).work p isp.member c at).1 in
      let come = (caught p q isp isq).messages more.message (rw (received-by g p) more.is_received) in
      let own = delivers_received q isq (none-is (member g q).current none) more.message come in
      more.fresh (rw (← same_delivered p q isp isq) at own))) in
      (d.0, d.1, sym ((closed q).busy d.0 d.1) ∙ ap suc (level q p isq isp) ∙ (closed p).busy c at)

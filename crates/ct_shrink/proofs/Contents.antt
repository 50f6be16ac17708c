-- Names of envelopes, by what they carry.
use Rattle.std.proofs.Common.{◌≡◌, ◌≤◌, ◌<◌, ◌==◌, ◌&&◌, ℕ, zero, suc, Bool, true, false, not, List, [], ◌∷◌, Option, Some, None, length}
use Rattle.std.proofs.Common.{refl, sym, ap, ap₂, ◌∙◌, subst, arith, cond, find}
use Rattle.std.specs.Prelude.{if◌then◌else◌, is_some, option_map, option_and_then, slice_get, unwrap_or}
use Rattle.std.specs.List.{list_any}
use Rattle.std.specs.Option.{option_or}
use Rattle.std.proofs.lemmas.Bool.Decides.{nat_tests}
use Rattle.std.proofs.lemmas.Option.{slice_get_within}
use Rattle.ct_names.specs.Group.{is_member}
use Rattle.ct_names.specs.Membership.{IsIn}
use Rattle.ct_names.proofs.Lists.{both, both-left, both-right, found-find, found-list_any, list_any-found}
use Rattle.ct_model.specs.Actor.{actor}
use Rattle.ct_model.specs.AtValue.{Envelope}
use Rattle.ct_model.specs.Cause.{cause}
use Rattle.ct_model.specs.Lawful.{IsAway, IsLawful}
use Rattle.ct_model.specs.Mapped.{without_value}
use Rattle.ct_model.specs.Next.{addressed, wire_to}
use Rattle.ct_model.specs.Rehearsal.{Rehearsal, line_of, state_of}
use Rattle.ct_model.specs.Senders.{senders}
use Rattle.ct_model.specs.Stamps.{is_gone as is_taken, is_sent}
use Rattle.ct_model.specs.State.{at_serial}
use Rattle.ct_model.specs.Waiting.{has_serial, serials_to}
use Rattle.ct_model.specs.When.{when}
use Rattle.ct_model.specs.declared.envelope.Envelope.{Envelope as Letter}
use Rattle.ct_model.specs.declared.step.Step.{Step}
use Rattle.ct_model.specs.declared.step.Step.TheVariants as step
use Rattle.ct_model.specs.declared.wire.Wire.{Wire}
use Rattle.ct_model.specs.declared.wire.Wire.TheVariants as wire
use Rattle.ct_model.proofs.Basics.Options.{when-some}
use Rattle.ct_model.proofs.Basics.Tests.{self_number}
use Rattle.ct_model.proofs.Consensus.Readings.{find-some}
use Rattle.ct_model.proofs.Record.Allowed.{cause-allowed}
use Rattle.ct_model.proofs.Record.Envelopes.{serials_sent}
use Rattle.ct_model.proofs.Relay.Messages.{next-is}
use Rattle.ct_model.proofs.Relay.Relaying.{history-run}
use Rattle.ct_grammar.specs.declared.carried.Carried.{Carried}
use Rattle.ct_grammar.specs.declared.carried.Carried.TheVariants.{Data, Est, Prop, Ack, Nack, Dec}
use Rattle.ct_grammar.specs.declared.pick.Pick.TheVariants.{Serial, First}
use Rattle.ct_play.specs.Picking.{carried_of, carries, first_so, is_carried, is_from, is_gone, is_so, is_to, last_of, last_so, picked}
use Rattle.ct_play.specs.Picking.{repeated, sender_of, waiting_at, waits_at, was_sent}
use Rattle.ct_merge.specs.Names.{full_name, named}
use Rattle.ct_merge.specs.declared.full_name.FullName.{FullName}
use Rattle.ct_listing.specs.Naming.{act_of, is_it, name_by, name_of, repeated_name, waiting_name}
use Rattle.ct_listing.specs.declared.naming.Naming.TheVariants.{Full}
use Rattle.ct_shrink.specs.Naming.{IsContent, NamesContent}

-- ---- what a wire carries

abbrev Bare : Type 0
Bare = Wire (Unit {0})

carries_own : (x : Bare) → carries x (carried_of x) ≡ true
carries_own (wire.Data m) = grind (arith, nat_tests)
carries_own _ = grind (arith, nat_tests)

carries_only : (x : Bare) (c : Carried) → carries x c ≡ true → carried_of x ≡ c
carries_only (wire.Data m) (Data o n) h = grind (arith, nat_tests)
carries_only (wire.Est i s p v t) (Est k r) h = grind (arith, nat_tests)
carries_only (wire.Prop i s v) (Prop k r) h = grind (arith, nat_tests)
carries_only (wire.Ack i s p) (Ack k r) h = grind (arith, nat_tests)
carries_only (wire.Nack i s p) (Nack k r) h = grind (arith, nat_tests)
carries_only (wire.Dec i s v) (Dec k r) h = grind (arith, nat_tests)
carries_only _ _ h = absurd (cc h)

-- ---- lists

get_both : {A B : Type 0} (xs : List A) (ys : List B) (i : ℕ) (x : A) → length ys ≡ length xs → slice_get xs i ≡ Some x →
    (y : B) × (slice_get ys i ≡ Some y)
get_both [] ys i x same e = absurd (cc e)
get_both (a ∷ xs) [] i x same e = absurd (omega (arith, same))
get_both (a ∷ xs) (b ∷ ys) zero x same e = (b, refl)
get_both (a ∷ xs) (b ∷ ys) (suc i) x same e = get_both xs ys i x (omega (arith, same)) e

at_both : {A B : Type 0} (xs : List A) (ys : List B) (k : ℕ) (x : A) → length ys ≡ length xs → at_serial xs k ≡ Some x →
    (y : B) × (at_serial ys k ≡ Some y)
at_both xs ys zero x same e = absurd (cc e)
at_both xs ys (suc i) x same e = get_both xs ys i x same e

at_within : {A : Type 0} (xs : List A) (k : ℕ) (x : A) → at_serial xs k ≡ Some x → (1 ≤ k) × (k ≤ length xs)
at_within xs zero x e = absurd (cc e)
at_within xs (suc i) x e = let low : i < length xs = slice_get_within xs i x e in (omega arith, omega arith)

-- the last number up to n that passes, where one does
last_by : (test : ℕ → Bool) (n : ℕ) (b : Bool) → test (suc n) ≡ b →
    (test (suc n) ≡ false → (j : ℕ) × (last_of test n ≡ Some j) × (test j ≡ true)) →
    (j : ℕ) × (cond b (Some (suc n)) (last_of test n) ≡ Some j) × (test j ≡ true)
last_by test n true is more = (suc n, refl, is)
last_by test n false is more = more is

lower : (test : ℕ → Bool) (k n : ℕ) → k ≤ suc n → test k ≡ true → test (suc n) ≡ false → k ≤ n
lower test k n high so fails =
    let other : k ≡ suc n → ⊥ = (λ same. cc (sym so ∙ ap test same ∙ fails)) in
    omega (arith, high, other)

last_there : (test : ℕ → Bool) (n k : ℕ) → 1 ≤ k → k ≤ n → test k ≡ true → (j : ℕ) × (last_of test n ≡ Some j) × (test j ≡ true)
last_there test zero k low high so = absurd (omega (arith, low, high))
last_there test (suc n) k low high so =
    last_by test n (test (suc n)) refl (λ fails. last_there test n k low (lower test k n high so fails) so)

-- ---- an envelope and its name

so_named : (o : Option (Letter (Unit {0}))) (f : Option ℕ) (c : Carried) (q : ℕ) → (is_carried c o && is_from (Some q) f) ≡ true →
    named o f ≡ Some (record { carried = c; from = q })
so_named None f c q h = absurd (cc h)
so_named (Some e) None c q h = absurd (cc (both-right (carries e.wire c) false h))
so_named (Some e) (Some p) c q h =
    let same : carried_of e.wire ≡ c = carries_only e.wire c (both-left (carries e.wire c) (p == q) h) in
    let from : (p == q) ≡ true = both-right (carries e.wire c) (p == q) h in
    let sender : p ≡ q = grind (arith, nat_tests) in
    ap₂ (λ d r. let name : FullName = record { carried = d; from = r } in Some name) same sender

-- of the envelopes that were sent to a member no two have the same full name
abbrev pub HasOneOfName : Rehearsal → Type 0
HasOneOfName w = (p j k : ℕ) (name : FullName) → is_sent w p j ≡ true → is_sent w p k ≡ true → full_name w j ≡ Some name →
    full_name w k ≡ Some name → j ≡ k

-- the serial is that of an envelope to p
record IsLetterOf (w : Rehearsal) (p k : ℕ) : Type 0 where
  pub letter : Letter (Unit {0})
  pub sender : ℕ
  pub there : option_map without_value (at_serial (state_of w).sent k) ≡ Some letter
  pub to : (letter.to == p) ≡ true
  pub from : sender_of w k ≡ Some sender
  pub low : 1 ≤ k
  pub high : k ≤ length (state_of w).sent

module _ (w : Rehearsal) (law : IsLawful w) (once : HasOneOfName w) where
  letter_by : (p k : ℕ) (o : Option Envelope) → at_serial (state_of w).sent k ≡ o →
      is_some (option_and_then (addressed p) o) ≡ true → IsLetterOf w p k
  unfolding sender_of
  letter_by p k None is sent = absurd (cc sent)
  letter_by p k (Some e) is sent =
      let from = at_both (state_of w).sent (senders w.setting w.steps) k e
      ((history-run w.setting w.steps (state_of w) law.runs).count) is in
      let at = at_within (state_of w).sent k e is in
      record {
        letter = without_value e;
        sender = from.0;
        there = ap (option_map without_value) is;
        to = when-some (e.to == p) e.wire sent;
        from = from.1;
        low = at.0;
        high = at.1;
      }

  letter_of : (p k : ℕ) → is_sent w p k ≡ true → IsLetterOf w p k
  unfolding wire_to
  letter_of p k sent = letter_by p k (at_serial (state_of w).sent k) refl sent

  sent_by : (p j : ℕ) (o : Option Envelope) → is_to p (option_map without_value o) ≡ true →
      is_some (option_and_then (addressed p) o) ≡ true
  sent_by p j None h = absurd (cc h)
  sent_by p j (Some e) h = ap (λ b. is_some (when b e.wire)) h

  sent_to : (p j : ℕ) → is_to p (option_map without_value (at_serial (state_of w).sent j)) ≡ true → is_sent w p j ≡ true
  unfolding wire_to
  sent_to p j h = sent_by p j (at_serial (state_of w).sent j) h

  module _ (p k : ℕ) (f : IsLetterOf w p k) where
    name_is : name_of Full w k ≡ First (carried_of (f.letter).wire) (Some f.sender)
    unfolding name_of
    name_is = ap₂ (λ o s. name_by Full k o s) f.there f.from

    full_is : full_name w k ≡ Some (record { carried = carried_of (f.letter).wire; from = f.sender })
    unfolding full_name
    full_is = ap₂ named f.there f.from

    so_own : is_so w (carried_of (f.letter).wire) (Some f.sender) k ≡ true
    unfolding is_so
    so_own =
        ap₂ (λ o s. is_carried (carried_of (f.letter).wire) o && is_from (Some f.sender) s) f.there f.from
        ∙ both (carries (f.letter).wire (carried_of (f.letter).wire)) (f.sender == f.sender) (carries_own (f.letter).wire)
        (self_number f.sender)

    -- what is so named and was sent to the member too is this envelope
    one_so : (j : ℕ) → is_sent w p k ≡ true → is_sent w p j ≡ true →
        is_so w (carried_of (f.letter).wire) (Some f.sender) j ≡ true → j ≡ k
    unfolding is_so full_name
    one_so j sent other so =
        once p j k (record { carried = carried_of (f.letter).wire; from = f.sender }) other sent
        (so_named (option_map without_value (at_serial (state_of w).sent j)) (sender_of w j) (carried_of (f.letter).wire) f.sender so)
        full_is

  -- ---- where it waits

  sent_waiting : (p k : ℕ) → has_serial k (line_of w p) ≡ true → is_sent w p k ≡ true
  sent_waiting p k waits =
      sym (serials_sent (state_of w) p k)
      ∙ both-left (has_serial k (serials_to p 0 (state_of w).sent)) (not (is_taken w p k)) (sym (law.waits p k) ∙ waits)

  line_is : (p : ℕ) → is_member w.setting.members p ≡ true → waiting_at w p ≡ line_of w p
  unfolding waiting_at
  line_is p member = ap (λ b. unwrap_or (if b then Some (line_of w p) else None) []) member

  picked_is : (p k : ℕ) → is_member w.setting.members p ≡ true → has_serial k (line_of w p) ≡ true →
      picked w p (name_of Full w k) ≡ Some k
  unfolding first_so
  picked_is p k member waits =
      let sent = sent_waiting p k waits in
      let f = letter_of p k sent in
      let c : Carried = carried_of (f.letter).wire in
      let found = found-list_any (λ j. j == k) (line_of w p) waits in
      let passes : (found.item == k) ≡ true = found.passes in
      let same : found.item ≡ k = grind (arith, nat_tests) in
      let there = subst (λ j. IsIn j (line_of w p)) same found.is_in in
      let z = find-some (is_so w c (Some f.sender)) k (line_of w p) there (so_own p k f) in
      let is = found-find (is_so w c (Some f.sender)) z.0 (line_of w p) z.1 in
      let other = sent_waiting p z.0 (list_any-found (λ j. j == z.0) z.0 (line_of w p) is.0 (self_number z.0)) in
      ap (picked w p) (name_is p k f) ∙ (ap (find (is_so w c (Some f.sender))) (line_is p member)
      ∙ (z.1 ∙ ap Some (one_so p k f z.0 sent other is.1)))

  waiting_content : (p k : ℕ) → is_member w.setting.members p ≡ true → has_serial k (line_of w p) ≡ true →
      IsContent (waiting_name Full w p k)
  unfolding waiting_name
  waiting_content p k member waits =
      let f = letter_of p k (sent_waiting p k waits) in
      let is : is_it (picked w p (name_of Full w k)) k ≡ true =
      ap (λ o. is_it o k) (picked_is p k member waits) ∙ self_number k in
      let by_name : waiting_name Full w p k ≡ First (carried_of (f.letter).wire) (Some f.sender) =
      ap (λ b. if b then name_of Full w k else (if is_it (picked w p (name_of Full w k)) k then name_of Full w k else Serial k)) is
      ∙ name_is p k f in
      subst IsContent (sym by_name) tt

  -- ---- where it comes again

  repeated_is : (p k : ℕ) → is_member w.setting.members p ≡ true → is_sent w p k ≡ true → has_serial k (line_of w p) ≡ false →
      repeated w p (name_of Full w k) ≡ Some k
  unfolding last_so is_gone was_sent waits_at
  repeated_is p k member sent away =
      let f = letter_of p k sent in
      let c : Carried = carried_of (f.letter).wire in
      let count : ℕ = length (state_of w).sent in
      let to : is_to p (option_map without_value (at_serial (state_of w).sent k)) ≡ true = ap (is_to p) f.there ∙ f.to in
      let was : was_sent w p c (Some f.sender) k ≡ true = both _ _ to (so_own p k f) in
      let elsewhere : not (waits_at w p k) ≡ true =
      ap (λ l. not (list_any (λ q. q == k) l)) (line_is p member) ∙ ap not away in
      let z = last_there (is_gone w p c (Some f.sender)) count k f.low f.high (both _ _ was elsewhere) in
      let sent_so = both-left (was_sent w p c (Some f.sender) z.0) (not (waits_at w p z.0)) z.2 in
      let there = both-left (is_to p (option_map without_value (at_serial (state_of w).sent z.0)))
      (is_so w c (Some f.sender) z.0) sent_so in
      let so = both-right (is_to p (option_map without_value (at_serial (state_of w).sent z.0)))
      (is_so w c (Some f.sender) z.0) sent_so in
      ap (repeated w p) (name_is p k f) ∙ (ap (λ o. option_or o (last_of (was_sent w p c (Some f.sender)) count)) z.1
      ∙ ap Some (one_so p k f z.0 sent (sent_to p z.0 there) so))

  repeated_content : (p k : ℕ) → is_member w.setting.members p ≡ true → is_sent w p k ≡ true → has_serial k (line_of w p) ≡ false →
      IsContent (repeated_name Full w p k)
  unfolding repeated_name
  repeated_content p k member sent away =
      let f = letter_of p k sent in
      let is : is_it (repeated w p (name_of Full w k)) k ≡ true =
      ap (λ o. is_it o k) (repeated_is p k member sent away) ∙ self_number k in
      let by_name : repeated_name Full w p k ≡ First (carried_of (f.letter).wire) (Some f.sender) =
      ap (λ b. if b then name_of Full w k else (if is_it (repeated w p (name_of Full w k)) k then name_of Full w k else Serial k)) is
      ∙ name_is p k f in
      subst IsContent (sym by_name) tt

  -- ---- steps

  there : (s : Step) → cause w s ≡ None → is_member w.setting.members (actor s) ≡ true
  there s none =
      let a = cause-allowed w s law none in
      (next-is w.setting (state_of w) s a.after a.enabled).in_group

  -- the act of an allowed step
  pub act_content : (s : Step) → cause w s ≡ None → NamesContent (act_of Full w s)
  act_content (step.Receive p k) none =
      waiting_content p k (there (step.Receive p k) none) (cause-allowed w (step.Receive p k) law none).waits
  act_content (step.Postpone p k) none =
      waiting_content p k (there (step.Postpone p k) none) (cause-allowed w (step.Postpone p k) law none).waits
  act_content (step.Lose p k) none =
      waiting_content p k (there (step.Lose p k) none) (cause-allowed w (step.Lose p k) law none).waits
  act_content (step.Repeat p k) none =
      let waits : IsAway w p k = (cause-allowed w (step.Repeat p k) law none).waits in
      repeated_content p k (there (step.Repeat p k) none) waits.sent waits.away
  act_content _ none = tt

-- Lines by rising key, as serials come, leave and move.
use Rattle.std.proofs.Common.{◌≡◌, ◌≢◌, ℕ, zero, suc, ◌+◌, ◌-◌, ◌<◌, ◌≤◌, Bool, true, false, List, [], ◌∷◌, ◌++◌, length, get_or, set}
use Rattle.std.proofs.Common.{take, drop, remove, refl, ap, sym, ◌∙◌, subst, arith, inl, inr, append-nil, append_assoc, Some}
use Rattle.std.specs.Prelude.{◌==◌, All, if◌then◌else◌, option_map, slice_get}
use Rattle.std.proofs.lemmas.Bool.{cases_lt, cases_eq, eqb-true, eqb-false}
use Rattle.std.proofs.lemmas.Bool.Decides.{nat_tests}
use Rattle.std.proofs.lemmas.List.{get_or-set_same, get_or-set_other, get_or_default, length-set, length-append, length-map, length_push}
use Rattle.std.proofs.lemmas.List.Edits.{get_or-remove_below, get_or-remove_above, length-remove}
use Rattle.std.proofs.lemmas.List.Elements.{All-append, All-take, All-drop, All-push, All-weaker, All-nil, All-cons}
use Rattle.std.proofs.lemmas.List.Quantifiers.{all_pairs_push, all_pairs_remove}
use Rattle.ct_names.specs.Group.{is_member}
use Rattle.ct_names.proofs.Groups.{member_from_one, member_to_n}
use Rattle.ct_model.specs.Waiting.{serials_to}
use Rattle.ct_model.specs.Wire.{envelopes}
use Rattle.ct_model.specs.declared.envelope.Envelope.{Envelope}
use Rattle.ct_model.specs.declared.mail.Mail.{Mail}
use Rattle.ct_model.proofs.Basics.Options.{some-none}
use Rattle.ct_model.proofs.Basics.Serials.{HasOne, mail_at_most}
use Rattle.ct_network.specs.Network.{line_at, put_last}
use Rattle.ct_network.specs.WaitingLine.{WaitingLine}
use Rattle.ct_network.specs.Lines.{serials_of}
use Rattle.ct_network.proofs.Waiting.{line_there}
use Rattle.ct_network.specs.declared.moves.Moves.{Moves}
use Rattle.ct_network.specs.Moves.{key_of, IsRising, IsTo, IsOrdered, IsInOrder, AreInOrder, HasMoved, KeepsOrder}

-- which serials were sent, and to whom

got : (p i : ℕ) (es more : List (Envelope ℕ)) → option_map (λ e. e.to) (slice_get es i) ≡ Some p →
    (i < length es) × (option_map (λ e. e.to) (slice_get (es ++ more) i) ≡ Some p)
got p i [] more h = some-none p h
got p zero (e ∷ es) more h = (omega arith, h)
got p (suc i) (e ∷ es) more h = let rest = got p i es more h in (omega (arith, rest.0), rest.1)

sent-low : (sent : List (Envelope ℕ)) (p k : ℕ) → IsTo sent p k → k ≤ length sent
sent-low sent p zero h = some-none p h
sent-low sent p (suc i) h = omega (arith, (got p i sent [] h).0)

sent-more : (sent more : List (Envelope ℕ)) (p k : ℕ) → IsTo sent p k → IsTo (sent ++ more) p k
sent-more sent more p zero h = some-none p h
sent-more sent more p (suc i) h = (got p i sent more h).1

one_receiver : (sent : List (Envelope ℕ)) (p q k : ℕ) → IsTo sent p k → IsTo sent q k → p ≡ q
one_receiver sent p q k h other = cc

got-last : (sent es : List (Envelope ℕ)) (e : Envelope ℕ) → slice_get (sent ++ e ∷ es) (length sent) ≡ Some e
got-last [] es e = refl
got-last (x ∷ sent) es e = got-last sent es e

-- a serial is new, and goes to p
abbrev IsNewTo : List (Envelope ℕ) → List (Envelope ℕ) → ℕ → ℕ → Type 0
IsNewTo sent all p k = (length sent < k) × IsTo all p k

new_to : (sent es : List (Envelope ℕ)) (p n : ℕ) → n ≡ length sent → All (IsNewTo sent (sent ++ es) p) (serials_to p n es)
new_to sent [] p n is = All-nil (IsNewTo sent (sent ++ []) p)
new_to sent (e ∷ es) p n is =
    let size = length_push sent e in
    let rest : All (IsNewTo sent all p) (serials_to p (n + 1) es) =
    All-weaker (IsNewTo (sent ++ e ∷ []) ((sent ++ e ∷ []) ++ es) p) (IsNewTo sent all p)
    (λ k h. (omega (arith, h.0), subst (λ xs. IsTo xs p k) (append_assoc sent (e ∷ []) es) h.1)) (serials_to p (n + 1) es)
    (new_to (sent ++ e ∷ []) es p (n + 1) (omega arith)) in
    go rest (e.to == p) refl
  where
    all : List (Envelope ℕ)
    all = sent ++ e ∷ es

    here : (e.to == p) ≡ true → IsTo all p (n + 1)
    here is_p =
        let next : suc (length sent) ≡ n + 1 = omega arith in
        subst (IsTo all p) next (ap (option_map (λ (x : Envelope ℕ). x.to)) (got-last sent es e) ∙ ap (λ q. Some q) (eqb-true e.to p is_p))

    go : All (IsNewTo sent all p) (serials_to p (n + 1) es) → (b : Bool) → (e.to == p) ≡ b →
        All (IsNewTo sent all p) ((if b then (n + 1) ∷ [] else []) ++ serials_to p (n + 1) es)
    go rest true is_p = All-cons (IsNewTo sent all p) (n + 1) (serials_to p (n + 1) es) (omega arith, here is_p) rest
    go rest false other = rest

-- one line

all-remove : (P : ℕ → Type 0) (xs : List ℕ) (i : ℕ) → All P xs → All P (remove xs i)
all-remove P xs i h = All-append P (take i xs) (drop (suc i) xs) (All-take P i xs h) (All-drop P (suc i) xs h)

-- what is true of each line is so after a change of one
changed : (P : ℕ → List ℕ → Type 0) (lines : List (List ℕ)) (p : ℕ) (line : List ℕ) → is_member (length lines) p ≡ true → P p line →
    ((q : ℕ) → is_member (length lines) q ≡ true → q ≢ p → P q (line_at lines q)) →
    (q : ℕ) → is_member (length (set lines (p - 1) line)) q ≡ true → P q (line_at (set lines (p - 1) line) q)
changed P lines p line member here others q is = go (q == p) refl
  where
    also : is_member (length lines) q ≡ true
    also = ap (λ n. is_member n q) (sym (length-set lines (p - 1) line)) ∙ is

    go : (b : Bool) → (q == p) ≡ b → P q (line_at (set lines (p - 1) line) q)
    go true e =
        let low = member_from_one (length lines) p member in
        let high = member_to_n (length lines) p member in
        subst (λ r. P r (line_at (set lines (p - 1) line) r)) (sym (eqb-true q p e))
        (subst (P p) (sym (get_or-set_same lines (p - 1) line [] (omega arith))) here)
    go false e =
        let apart : q ≢ p = eqb-false q p e in
        let low = member_from_one (length lines) p member in
        let low_q = member_from_one (length lines) q also in
        subst (P q) (sym (get_or-set_other lines (p - 1) (q - 1) line [] (λ s. apart (omega arith)))) (others q also apart)

abbrev key : Moves → ℕ → ℕ
key moves k = key_of moves.keys.items moves.base k

-- x may stand in front of y
abbrev Before : Moves → ℕ → ℕ → Type 0
Before moves x y = (x ≢ y) × (key moves x ≤ key moves y)

-- the line keeps its order where its serials keep that of their keys
kept : (sent : List (Envelope ℕ)) (old new : Moves) (p : ℕ) (line : List ℕ) (P : ℕ → Type 0) → All P line →
    ((j k : ℕ) → P j → P k → key old j ≤ key old k →
    key new j ≤ key new k) →
    IsOrdered sent old.keys.items old.base p line → IsOrdered sent new.keys.items new.base p line
kept sent old new p line P all same h = record {
  own = h.own;
  rising = λ i j d less within.
      let up = h.rising i j d less within in
      (up.0, same (get_or line i d) (get_or line j d) (all i d (omega arith)) (all j d within) up.1);
}

module _ (sent : List (Envelope ℕ)) (lines : List (List ℕ)) (old : Moves) (h : IsInOrder sent lines old.keys.items old.base old.count) where
  -- a serial leaves
  left : (p place : ℕ) → is_member (length lines) p ≡ true → place < length (line_at lines p) →
      IsOrdered sent old.keys.items old.base p (remove (line_at lines p) place)
  left p place member within = record {
    own = all-remove (IsTo sent p) (line_at lines p) place (h.each p member).own;
    rising = all_pairs_remove (Before old) (line_at lines p) place within (h.each p member).rising;
  }

  pub order-leave : (p place : ℕ) → is_member (length lines) p ≡ true → place < length (line_at lines p) →
      IsInOrder sent (set lines (p - 1) (remove (line_at lines p) place)) old.keys.items old.base old.count
  order-leave p place member within = record {
    each = changed (IsOrdered sent old.keys.items old.base) lines p (remove (line_at lines p) place) member (left p place member within)
        (λ q also apart. h.each q also);
    low = h.low;
    none = h.none;
    few = h.few;
  }

  -- serial k moves to the end of what is left of p's line, where it isn't
  pub order-move : (new : Moves) (p k n : ℕ) (line : List ℕ) → is_member (length lines) p ≡ true → IsTo sent p k →
      All (λ x. x ≢ k) line → IsOrdered sent old.keys.items old.base p line → n ≡ length sent → HasMoved old new k n →
      IsInOrder sent (set lines (p - 1) (line ++ k ∷ [])) new.keys.items new.base new.count
  order-move new p k n line member to apart was is moved = record {
    each = changed (IsOrdered sent new.keys.items new.base) lines p (line ++ k ∷ []) member (record {
      own = All-push (IsTo sent p) line k was.own to;
      rising = all_pairs_push (Before new) line k (kept sent old new p line (λ x. x ≢ k) apart same was).rising (λ i d within.
          let x = get_or line i d in
          (apart i d within, last x (apart i d within) (sent-low sent p x (was.own i d within))));
    })
        (λ q also other. kept sent old new q (line_at lines q) (λ x. x ≢ k) (elsewhere q also other) same (h.each q also));
    low = λ j. elim (cases_eq j k) [
      | inl e ↦ (let at = ap (λ i. get_or new.keys.items i 0) e in omega (arith, h.low k, moved.more, moved.low))
      | inr ne ↦ (let at = moved.others j ne in omega (arith, h.low j, moved.more))
    ];
    none = λ j above. let low_k = sent-low sent p k to in moved.others j (λ e. absurd (omega arith)) ∙ h.none j above;
    few = moved.few h.few;
  }
    where
      same : (i j : ℕ) → i ≢ k → j ≢ k → key old i ≤ key old j →
          key new i ≤ key new j
      same i j one two le = omega (arith, moved.others i one, moved.others j two, moved.base)

      last : (x : ℕ) → x ≢ k → x ≤ length sent → key new x ≤ key new k
      last x ne inside = omega (arith, moved.others x ne, moved.base, moved.last h.few, h.low x)

      elsewhere : (q : ℕ) → is_member (length lines) q ≡ true → q ≢ p → All (λ x. x ≢ k) (line_at lines q)
      elsewhere q also other = All-weaker (IsTo sent q) (λ x. x ≢ k)
          (λ x its e. other (one_receiver sent q p k (subst (IsTo sent q) e its) to)) (line_at lines q) (h.each q also).own

  -- a serial moves to the end of its line
  pub order-postpone : (new : Moves) (p place k n : ℕ) → is_member (length lines) p ≡ true → place < length (line_at lines p) →
      k ≡ get_or (line_at lines p) place 0 → n ≡ length sent → HasMoved old new k n →
      IsInOrder sent (set lines (p - 1) (put_last (line_at lines p) place)) new.keys.items new.base new.count
  order-postpone new p place k n member within at is moved =
      subst (λ s. IsInOrder sent (set lines (p - 1) (remove line place ++ s ∷ [])) new.keys.items new.base new.count) at
      (order-move new p k n (remove line place) member (subst (IsTo sent p) (sym at) ((h.each p member).own place 0 within))
      others (left p place member within) is moved)
    where
      line : List ℕ
      line = line_at lines p

      others : All (λ x. x ≢ k) (remove line place)
      others j d low same =
          let size = length-remove line place within in
          let here : k ≡ get_or line place d = at ∙ get_or_default line place 0 d within in
          elim (cases_lt j place) [
            | inl front ↦ ((h.each p member).rising j place d front within).0
                (sym (get_or-remove_below line place d j front within) ∙ same ∙ here)
            | inr behind ↦ ((h.each p member).rising place (j + 1) d (omega arith) (omega arith)).0
                (sym here ∙ sym same ∙ get_or-remove_above line place d j behind within)
          ]

  -- mail is sent to a group of n
  order-post : (now : List (Envelope ℕ)) (new : List (List ℕ)) (n : ℕ) (mail : Mail ℕ) → now ≡ sent ++ envelopes n mail →
      length lines ≡ n → length new ≡ n →
      ((q : ℕ) → is_member n q ≡ true → line_at new q ≡ line_at lines q ++ serials_to q (length sent) (envelopes n mail)) →
      IsInOrder now new old.keys.items old.base old.count
  order-post now new n mail posted as_many still joined =
      subst (λ es. IsInOrder es new old.keys.items old.base old.count) (sym posted) (record {
        each = λ q also. let member = ap (λ m. is_member m q) (sym still) ∙ also in
            subst (IsOrdered all old.keys.items old.base q) (sym (joined q member)) (longer q (ap (λ m. is_member m q) as_many ∙ member));
        low = λ k. omega (arith, h.low k, length-append sent es);
        none = λ k above. h.none k (omega (arith, length-append sent es));
        few = h.few;
      })
    where
      es : List (Envelope ℕ)
      es = envelopes n mail

      all : List (Envelope ℕ)
      all = sent ++ es

      rising : (q : ℕ) → is_member (length lines) q ≡ true → (ks : List ℕ) → HasOne ks → All (IsNewTo sent all q) ks →
          IsRising old.keys.items old.base (line_at lines q ++ ks)
      rising q member ks (inl none) later =
          subst (λ xs. IsRising old.keys.items old.base (line_at lines q ++ xs)) (sym none)
          (subst (IsRising old.keys.items old.base) (sym (append-nil (line_at lines q))) (h.each q member).rising)
      rising q member ks (inr r) later =
          let its : IsNewTo sent all q r.0 = subst (All (IsNewTo sent all q)) r.1 later 0 0 (omega arith) in
          subst (λ xs. IsRising old.keys.items old.base (line_at lines q ++ xs)) (sym r.1)
          (all_pairs_push (Before old) (line_at lines q) r.0 (h.each q member).rising
          (λ i d within.
          let x = get_or (line_at lines q) i d in
          let inside = sent-low sent q x ((h.each q member).own i d within) in
          (λ e. absurd (omega (arith, its.0)), omega (arith, h.low x, h.few, its.0))))

      longer : (q : ℕ) → is_member (length lines) q ≡ true →
          IsOrdered all old.keys.items old.base q (line_at lines q ++ serials_to q (length sent) es)
      longer q member =
          let more = serials_to q (length sent) es in
          let later : All (IsNewTo sent all q) more = new_to sent es q (length sent) refl in record {
            own = All-append (IsTo all q) (line_at lines q) more
                (All-weaker (IsTo sent q) (IsTo all q) (λ k its. sent-more sent es q k its) (line_at lines q) (h.each q member).own)
                (All-weaker (IsNewTo sent all q) (IsTo all q) (λ k its. its.1) more later);
            rising = rising q member more (mail_at_most n q (length sent) mail) later;
          }

-- so it stays when mail is sent
pub order-posted : (sent now : List (Envelope ℕ)) (lines new : List WaitingLine) (moves : Moves) (mail : Mail ℕ) →
    now ≡ sent ++ envelopes (length lines) mail → length new ≡ length lines →
    ((q : ℕ) → is_member (length lines) q ≡ true → line_at (serials_of new) q ≡ line_at (serials_of lines) q
    ++ serials_to q (length sent) (envelopes (length lines) mail)) →
    AreInOrder sent (serials_of lines) moves → AreInOrder now (serials_of new) moves
order-posted sent now lines new moves mail posted as_many joined all sorted =
    let size = λ (ls : List WaitingLine). length-map ls (λ l. l.serials) in
    order-post sent (serials_of lines) moves (all sorted) now (serials_of new) (length lines) mail posted (size lines)
    (size new ∙ as_many) joined

-- keys rise along a line
pub rising_at : (sent : List (Envelope ℕ)) (lines : List WaitingLine) (moves : Moves) (p i : ℕ) (line : WaitingLine) → p ≡ i + 1 →
    i < length lines → line ≡ get_or lines i line → AreInOrder sent (serials_of lines) moves → moves.is_sorted ≡ true →
    IsRising moves.keys.items moves.base line.serials
rising_at sent lines moves p i line next within is order sorted =
    let keys = moves.keys.items in
    let size = length-map lines (λ (l : WaitingLine). l.serials) in
    let member : is_member (length (serials_of lines)) p ≡ true = grind (arith, nat_tests) in
    let at : p - 1 ≡ i = omega arith in
    subst (IsRising keys moves.base) (sym (line_there lines i line within is))
    (subst (λ j. IsRising keys moves.base (get_or (serials_of lines) j [])) at ((order sorted).each p member).rising)

-- so it stays when room was made
pub order-room : (sent now : List (Envelope ℕ)) (lines same : List (List ℕ)) (old new : Moves) (n : ℕ) → now ≡ sent → same ≡ lines →
    n ≡ length now → KeepsOrder old new n → AreInOrder sent lines old → AreInOrder now same new
order-room sent now lines same old new n is are size keeps all sorted =
    let h = all (sym keeps.still ∙ sorted) in
    let number : n ≡ length sent = size ∙ ap length is in
    rw (is, are) (record {
      each = λ q also. kept sent old new q (line_at lines q) (λ x. x ≤ n) (All-weaker (IsTo sent q) (λ x. x ≤ n)
          (λ x its. let inside = sent-low sent q x its in omega arith) (line_at lines q) (h.each q also).own) keeps.order (h.each q also);
      low = λ k. omega (arith, h.low k, keeps.low k, keeps.same);
      none = λ k above. omega (arith, h.none k above, keeps.low k);
      few = omega (arith, h.few, keeps.same);
    })

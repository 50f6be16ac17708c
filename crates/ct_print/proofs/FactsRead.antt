-- Facts and members, written and read.
use Rattle.std.proofs.Common.{◌≡◌, ℕ, ◌==◌, ◌||◌, Bool, true, false, List, [], ◌∷◌, ◌++◌, length, map, refl, sym, ap, ◌∙◌, arith}
use Rattle.std.proofs.Common.{append-nil, inl, inr}
use Rattle.std.specs.Prelude.{codes, decimal, Some, Ok}
use Rattle.std.specs.Str.{bytes_eq}
use Rattle.ct_names.specs.declared.limit.Limit.TheVariants.{Steps}
use Rattle.ct_names.specs.declared.refusal.Refusal.TheVariants.{Full, OutOfMemory, Board}
use Rattle.ct_names.specs.Group.{everyone}
use Rattle.ct_names.specs.MemberSet.{has_member}
use Rattle.std.proofs.lemmas.Bool.Decides.{nat_tests}
use Rattle.ct_names.proofs.MemberSets.{filter-agree}
use Rattle.ct_model.specs.declared.phase.Phase.{Phase}
use Rattle.ct_model.specs.declared.phase.Phase.TheVariants.{Rest}
use Rattle.ct_grammar.specs.declared.act.Act.{Act}
use Rattle.ct_grammar.specs.declared.fact.Fact.{Fact}
use Rattle.ct_grammar.specs.declared.fact.Fact.TheVariants.{Up, Crashed, Idle, Instance, Round, Phase as InPhase, Received, Decided}
use Rattle.ct_grammar.specs.declared.fact.Fact.TheVariants.{Delivered, Table, Refuses, May, Waiting, Waits, Heard, Acked, Estimate}
use Rattle.ct_grammar.specs.declared.pick.Pick.{Pick}
use Rattle.ct_grammar.specs.declared.reason.Reason.{Reason}
use Rattle.ct_grammar.specs.declared.reason.Reason.TheVariants.{Rules}
use Rattle.ct_grammar.specs.declared.who.Who.{Who}
use Rattle.ct_grammar.specs.declared.who.Who.TheVariants.{One, Some as Several, All}
use Rattle.ct_grammar.specs.Facts.{phase_of, short_fact, ended, lone_act, lone_pick, phase_first, reason_first, refusal_of}
use Rattle.ct_grammar.specs.Facts.{act_fact, number_fact, set_or_dash, lone_set, named_fact}
use Rattle.ct_grammar.specs.Leading.{over}
use Rattle.ct_grammar.specs.Numbers.{max_u8, members_of, has_comma}
use Rattle.ct_grammar.specs.Reasons.{reason_text, full_of, step_reason, reason_of}
use Rattle.ct_grammar.specs.Who.{who_of}
use Rattle.ct_grammar.specs.Words.{Word}
use Rattle.ct_print.specs.Facts.{fact_text, phase_word}
use Rattle.ct_print.specs.Members.{set_text, set_or_dash_text, list_text, who_text}
use Rattle.ct_print.specs.Reports.{name_text, decision_text}
use Rattle.ct_print.specs.Writable.{IsSet, IsSomeSet, WhoFits, ActFits, PickFits, FactFits, IsRules}
use Rattle.ct_print.proofs.ActsRead.{alone_back, set_back, pick_back, act_back}
use Rattle.ct_print.proofs.Numerals.{number_back}
use Rattle.ct_print.proofs.Numeric.{numeric_other, decimal_numeric, decimal_digits}
use Rattle.ct_print.proofs.Parts.{AreSmall, numbers_text, members_back, alone_no_comma, list_has_comma}
use Rattle.ct_print.proofs.NoAnd.{Says, said, says_beside, led, spoken}
use Rattle.ct_print.proofs.ReportsRead.{or_dash, names_say, messages_back, decisions_say, decisions_back, estimate_words, estimate_says}
use Rattle.ct_print.proofs.ReportsRead.{estimate_back, table_words, table_says, table_back}
use Rattle.ct_print.proofs.Spoken.{pick_words, act_words, pick_says, act_says, set_numeric, set_says, small_members}
use Rattle.ct_print.proofs.Spoken.{list_numeric, some_length, some_set}

-- ---- members

pub list_back : (set : List ℕ) → IsSomeSet set → (has_comma (list_text set) ≡ true) × (members_of (list_text set) ≡ Some set)
unfolding list_text set_text
list_back [] h = absurd (omega (arith, h.some))
list_back (p ∷ []) h =
    let small : AreSmall (p ∷ []) = small_members (p ∷ []) h in
    let twice : AreSmall (p ∷ p ∷ []) = λ q i. elim i [ inl e ↦ small q (inl e) | inr k ↦ small q k ] in
    let digits = decimal_digits p (omega (arith, (small p (inl refl)).1)) in
    let back : members_of (decimal p ++ 44 ∷ (decimal p ++ [])) ≡ Some (p ∷ []) =
    rw (append-nil (decimal p)) (members_back p (p ∷ []) twice
    ∙ ap Some (filter-agree (has_member (p ∷ p ∷ [])) (has_member (p ∷ [])) everyone (λ q i. once (p == q)) ∙ sym h.rising)) in
    (list_has_comma (decimal p) (decimal p ++ []) digits, back)
  where
    once : (b : Bool) → (b || (b || false)) ≡ (b || false)
    once true = refl
    once false = refl
list_back (p ∷ q ∷ ps) h =
    let small : AreSmall (p ∷ q ∷ ps) = small_members (p ∷ q ∷ ps) h in
    let more : (length (p ∷ q ∷ ps) == 1) ≡ false = grind (arith, nat_tests) in
    let digits = decimal_digits p (omega (arith, (small p (inl refl)).1)) in
    rw more (list_has_comma (decimal p) (numbers_text (q ∷ ps)) digits, members_back p (q ∷ ps) small ∙ ap Some (sym h.rising))

pub who_back : (who : Who) → WhoFits who → who_of (who_text who) ≡ Some who
unfolding who_of who_text
who_back (One p) h =
    let digits = decimal_digits p (omega arith) in
    rw (
      numeric_other (decimal p) _ _ refl (decimal_numeric p (omega arith)),
      alone_no_comma (decimal p) digits,
      number_back max_u8 p (omega arith) h,
    ) refl
who_back (Several set) h =
    let back = list_back set h in
    rw (numeric_other (list_text set) _ _ refl (list_numeric set h), back.0, back.1) refl
who_back All h = refl

-- ---- sets

set_or_dash_says : (set : List ℕ) → IsSet set → Says (set_or_dash_text set) (set_or_dash_text set ∷ [])
unfolding set_or_dash_text
set_or_dash_says [] h = said (codes "-") refl refl
set_or_dash_says (p ∷ ps) h = rw (some_length p ps) (set_says (p ∷ ps) (some_set p ps h))

set_alone : (set : List ℕ) → IsSet set → lone_set (set_or_dash_text set ∷ []) ≡ Ok set
unfolding lone_set set_or_dash set_or_dash_text over
set_alone [] h = refl
set_alone (p ∷ ps) h =
    let s = some_set p ps h in
    let numeric = set_numeric (p ∷ ps) s.some (small_members (p ∷ ps) s) in
    rw (some_length p ps, numeric_other (set_text (p ∷ ps)) _ _ refl numeric, set_back (p ∷ ps) s) refl

-- ---- reasons

pub reason_back : (reason : Reason) → IsRules reason → reason_of (reason_text reason) ≡ Some reason
unfolding reason_of step_reason full_of
reason_back (Rules OutOfMemory) h = absurd (h.memory refl)
reason_back (Rules Board) h = absurd (h.board refl)
reason_back (Rules (Full Steps)) h = refl
reason_back _ h = refl

pub reason_says : (reason : Reason) → Says (reason_text reason) (reason_text reason ∷ [])
reason_says (Rules (Full Steps)) = search said
reason_says _ = search said

reason_no_from : (reason : Reason) → bytes_eq (reason_text reason) (codes "from") ≡ false
reason_no_from (Rules (Full Steps)) = refl
reason_no_from _ = refl

-- ---- facts

abbrev pub fact_name : Fact → Word
fact_name Up = codes "up"
fact_name Crashed = codes "crashed"
fact_name Idle = codes "idle"
fact_name (Instance i) = codes "instance"
fact_name (Round r) = codes "round"
fact_name (InPhase phase) = codes "phase"
fact_name (Received names) = codes "received"
fact_name (Decided decisions) = codes "decided"
fact_name (Delivered names) = codes "delivered"
fact_name (Table values) = codes "table"
fact_name (Refuses act reason) = codes "refuses"
fact_name (May act) = codes "may"
fact_name (Waiting n) = codes "waiting"
fact_name (Waits pick) = codes "waits"
fact_name (Heard set) = codes "heard"
fact_name (Acked set) = codes "acked"
fact_name (Estimate estimate) = codes "estimate"

-- the words behind the name
abbrev pub fact_rest : Fact → List Word
fact_rest (Instance i) = decimal i ∷ []
fact_rest (Round r) = decimal r ∷ []
fact_rest (InPhase phase) = phase_word phase ∷ []
fact_rest (Received names) = or_dash (map name_text names)
fact_rest (Decided decisions) = or_dash (map decision_text decisions)
fact_rest (Delivered names) = or_dash (map name_text names)
fact_rest (Table values) = table_words values
fact_rest (Refuses act reason) = act_words act ++ (reason_text reason ∷ [])
fact_rest (May act) = act_words act
fact_rest (Waiting n) = decimal n ∷ []
fact_rest (Waits pick) = pick_words pick
fact_rest (Heard set) = set_or_dash_text set ∷ []
fact_rest (Acked set) = set_or_dash_text set ∷ []
fact_rest (Estimate estimate) = estimate_words estimate
fact_rest _ = []

abbrev pub fact_words : Fact → List Word
fact_words fact = fact_name fact ∷ fact_rest fact

phase_says : (phase : Phase) → Says (phase_word phase) (phase_word phase ∷ [])
phase_says Rest = search said
phase_says _ = search said

pub fact_says : (fact : Fact) → FactFits fact → Says (fact_text fact) (fact_words fact)
unfolding fact_text
fact_says (Refuses act reason) h =
    led (codes "refuses") _ _ (said _ refl refl)
    (says_beside _ (reason_text reason) (act_words act) (reason_text reason ∷ []) (act_says act h.0) (reason_says reason))
fact_says _ h = search (spoken, phase_says, names_say, decisions_say, table_says, estimate_says, act_says, pick_says, set_or_dash_says)

act_alone : (act : Act) → ActFits act → lone_act (act_words act) ≡ Ok act
unfolding lone_act ended over
act_alone act h = rw (← append-nil (act_words act), act_back act _ [] h refl) refl

pick_alone : (pick : Pick) → PickFits pick → lone_pick (pick_words pick) ≡ Ok pick
unfolding lone_pick over
pick_alone pick h = rw (← append-nil (pick_words pick), pick_back pick _ [] h refl) refl

refusal_back : (act : Act) (reason : Reason) → ActFits act → IsRules reason →
    refusal_of (act_words act ++ (reason_text reason ∷ [])) ≡ Ok (Refuses act reason)
unfolding refusal_of reason_first over
refusal_back act reason h k =
    rw (act_back act _ (reason_text reason ∷ []) h (reason_no_from reason), reason_back reason k) refl

pub fact_back : (fact : Fact) → FactFits fact → named_fact (fact_name fact) (fact_rest fact) ≡ Ok fact
unfolding named_fact number_fact act_fact short_fact phase_first phase_of over
fact_back (InPhase Rest) h = refl
fact_back (Refuses act reason) h = refusal_back act reason h.0 h.1
fact_back _ h = search (messages_back, decisions_back, table_back, estimate_back, set_alone, alone_back, act_alone, pick_alone)

-- What runs show.
use Rattle.std.specs.Prelude.{ℕ, zero, suc, Bool, true, false, not, ◌&&◌, ◌||◌, List, [], ◌∷◌, length, Option, Some, None, is_none}
use Rattle.std.specs.Prelude.{filter, find, map}
use Rattle.std.specs.List.{list_all, list_any}
use Rattle.ct_names.specs.Group.{members}
use Rattle.ct_names.specs.MemberSet.{has_member}
use Rattle.ct_model.specs.Rehearsal.{Rehearsal}
use Rattle.ct_choices.specs.Choices.{has_crashed}
use Rattle.ct_grammar.specs.Sides.{whole}
use Rattle.ct_grammar.specs.declared.claim.Claim.{Claim}
use Rattle.ct_grammar.specs.declared.goal.Goal.{Goal}
use Rattle.ct_grammar.specs.declared.term.Term.{Term}
use Rattle.ct_grammar.specs.declared.term.When.{When}
use Rattle.ct_grammar.specs.declared.term.When.TheVariants.{Now, Ever, Never}
use Rattle.ct_grammar.specs.declared.term.Whom.{Whom}
use Rattle.ct_grammar.specs.declared.term.Whom.TheVariants as whom
use Rattle.ct_play.specs.Claims.{is_true_of}
use Rattle.ct_play.specs.Played.{Played, first_part}

-- ---- of whom

-- the members that a term is about
abbrev pub meant : Rehearsal → Whom → List ℕ
meant w (whom.One p) = p ∷ []
meant w (whom.Some set) = set
meant w whom.All = members w.setting.members
meant w whom.Any = members w.setting.members
meant w whom.Up = filter (λ p. not (has_crashed w p)) (members w.setting.members)

-- the first of them of which the claim is not true
unfoldable pub unshown : Played → Whom → Claim → Option ℕ
unshown s whom claim = find (λ p. not (is_true_of s p claim)) (meant s.rehearsal whom)

-- of those that are looked at, the term is about p
abbrev pub is_meant : Rehearsal → Whom → ℕ → Bool
is_meant w (whom.One q) p = true
is_meant w (whom.Some set) p = has_member set p
is_meant w whom.All p = true
is_meant w whom.Any p = true
is_meant w whom.Up p = not (has_crashed w p)

abbrev pub agrees : Bool → Bool → Bool
agrees true met = met
agrees false met = not met

-- the term is about p, and its claim is true of it, or is not where it is to be not
unfoldable pub is_such : Played → Whom → Claim → Bool → ℕ → Bool
is_such s whom claim wanted p = is_meant s.rehearsal whom p && agrees wanted (is_true_of s p claim)

-- the claim is true of those of whom it has to be
unfoldable pub holds_for : Played → Whom → Claim → Bool
holds_for s whom.Any claim = list_any (λ p. is_true_of s p claim) (meant s.rehearsal whom.Any)
holds_for s whom claim = is_none (unshown s whom claim)

-- what a term says of one beginning of the run
abbrev pub holds_at : Played → Term → Bool
holds_at s term = holds_for s term.whom term.claim

-- ---- when

-- that was so at one of the beginnings of up to n steps
unfoldable pub was_seen : Played → Term → ℕ → Bool
was_seen s term zero = holds_at (first_part s 0) term
was_seen s term (suc n) = was_seen s term n || holds_at (first_part s (suc n)) term

-- what a term comes to at the times that it looks at: now, or so far
abbrev pub come_to : When → Played → Term → Bool
come_to Now s term = holds_at s term
come_to Ever s term = was_seen s term (length s.rehearsal.steps)
come_to Never s term = was_seen s term (length s.rehearsal.steps)

-- the term holds where it came to this
abbrev pub is_due : When → Bool → Bool
is_due Now seen = seen
is_due Ever seen = seen
is_due Never seen = not seen

-- the term holds on the stage
abbrev pub is_met : Played → Term → Bool
is_met s term = is_due term.when (come_to term.when s term)

-- the goal holds on the stage: each of its terms does
unfoldable pub shows : Goal → Played → Bool
shows goal s = list_all (is_met s) goal

-- the same where a goal is looked for; what is not asked for is not shown
unfoldable pub is_shown : Option Goal → Played → Bool
is_shown None s = false
is_shown (Some goal) s = shows goal s

-- ---- stages on which a goal is looked for

-- the stage of a record, whose group is not cut
abbrev pub uncut : Rehearsal → Played
uncut w = record { rehearsal = w; sides = whole }

-- what contracts see of a stage on which a goal is looked for
pub record Watched : Type 0 where
  pub played : Played
  pub goal : Option Goal

-- the terms of what is looked for
abbrev pub terms : Option Goal → List Term
terms None = []
terms (Some goal) = goal

-- what each of these came to
abbrev pub looks_of : Played → List Term → List Bool
looks_of s ts = map (λ t. come_to t.when s t) ts

-- what a term came to that had come to this before
abbrev pub after_look : When → Bool → Bool → Bool
after_look Now before here = here
after_look Ever before here = before || here
after_look Never before here = before || here

abbrev pub next_look : Played → Term → Bool → Bool
next_look s term before = after_look term.when before (holds_at s term)

-- the same after the first of the terms were looked at
abbrev pub looked_at : Played → ℕ → List Term → List Bool → List Bool
looked_at s zero ts looks = looks
looked_at s (suc i) [] looks = looks
looked_at s (suc i) (t ∷ ts) [] = []
looked_at s (suc i) (t ∷ ts) (before ∷ looks) = next_look s t before ∷ looked_at s i ts looks

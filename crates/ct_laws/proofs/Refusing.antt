-- Where a schedule is refused.
use Rattle.std.proofs.Common.{◌≡◌, inl, inr, ℕ, ◌+◌, List, [], ◌∷◌, length, refl, ap, sym, ◌∙◌, subst, arith}
use Rattle.std.specs.Prelude.{codes, Option, Result, Ok, Err}
use Rattle.ct_model.specs.Rehearsal.{Rehearsal}
use Rattle.ct_grammar.specs.Texts.{lines_of}
use Rattle.ct_play.specs.Acting.{go_on}
use Rattle.ct_play.specs.Played.{Played}
use Rattle.ct_play.specs.declared.line_fault.LineFault.{LineFault}
use Rattle.ct_play.specs.declared.line_fault.LineFault.TheVariants.{NoMembers}
use Rattle.ct_judging.specs.Schedule.{Progress, Stopped, after_line, after_lines, beginning, finished, schedule, world_at}
use Rattle.ct_judging.specs.Standing.{played_of, played_or_made, record_in, world_of}
use Rattle.ct_judging.specs.declared.heading.Heading.{Heading}
use Rattle.ct_laws.specs.Refusals.{HasNoMembers, IsRefused, IsRefusedAt}

line_number : (t u : Progress) (line : List ℕ) → after_line t line ≡ Ok u → u.number ≡ t.number + 1
unfolding after_line
line_number t u line h = grind arith

line_at : (t : Progress) (stopped : Stopped) (line : List ℕ) → after_line t line ≡ Err stopped → stopped.at ≡ t.number + 1
unfolding after_line
line_at t stopped line h = grind arith

refused_on : (t u : Progress) (line : List ℕ) (lines : List (List ℕ)) (stopped : Stopped) → after_line t line ≡ Ok u →
    IsRefusedAt u lines stopped → IsRefusedAt t (line ∷ lines) stopped
refused_on t u line lines stopped on h =
    let number : u.number ≡ t.number + 1 = line_number t u line on in
    record {
      before = line ∷ h.before;
      line = h.line;
      later = h.later;
      is = ap (λ l. line ∷ l) h.is;
      there = h.there;
      taken = ap (λ (r : Result Progress Stopped). go_on r (λ v. after_lines v h.before)) on ∙ h.taken;
      refused = h.refused;
      at = omega (arith, number, h.at);
    }

refused_here : (t : Progress) (line : List ℕ) (lines : List (List ℕ)) (stopped : Stopped) → after_line t line ≡ Err stopped →
    IsRefusedAt t (line ∷ lines) stopped
refused_here t line lines stopped h = record {
  before = [];
  line = line;
  later = lines;
  is = refl;
  there = t;
  taken = refl;
  refused = h;
  at = omega (arith, line_at t stopped line h);
}

refused_by : (t : Progress) (line : List ℕ) (lines : List (List ℕ)) (stopped : Stopped) (r : Result Progress Stopped) →
    after_line t line ≡ r →
    ((u : Progress) → after_lines u lines ≡ Err stopped → IsRefusedAt u lines stopped) → go_on r (λ u. after_lines u lines) ≡ Err stopped →
    IsRefusedAt t (line ∷ lines) stopped
refused_by t line lines stopped (Ok u) is more h = refused_on t u line lines stopped is (more u h)
refused_by t line lines stopped (Err other) is more h =
    let same : other ≡ stopped = cc h in
    refused_here t line lines stopped (is ∙ ap Err same)

refused_at : (lines : List (List ℕ)) (t : Progress) (stopped : Stopped) → after_lines t lines ≡ Err stopped → IsRefusedAt t lines stopped
refused_at [] t stopped h = absurd (cc h)
refused_at (line ∷ lines) t stopped h = refused_by t line lines stopped (after_line t line) refl (λ u. refused_at lines u stopped) h

-- ---- how many lines were taken

numbered_by : (t u : Progress) (line : List ℕ) (lines : List (List ℕ)) (r : Result Progress Stopped) → after_line t line ≡ r →
    ((v : Progress) → after_lines v lines ≡ Ok u → u.number ≡ v.number + length lines) → go_on r (λ v. after_lines v lines) ≡ Ok u →
    u.number ≡ t.number + length (line ∷ lines)
numbered_by t u line lines (Ok v) is more h =
    omega (arith, line_number t v line is, more v h)
numbered_by t u line lines (Err stopped) is more h = absurd (cc h)

numbered : (lines : List (List ℕ)) (t u : Progress) → after_lines t lines ≡ Ok u → u.number ≡ t.number + length lines
numbered [] t u h =
    let same : t ≡ u = cc h in
    subst (λ (v : Progress). v.number ≡ t.number + 0) same (omega arith)
numbered (line ∷ lines) t u h = numbered_by t u line lines (after_line t line) refl (λ v. numbered lines v u) h

-- ---- no members

world_fault : (h : Heading) (o : Option Played) (fault : LineFault) → record_in (played_or_made h o) ≡ Err fault → fault ≡ NoMembers
world_fault h o fault is = grind arith

no_world : (lines : List (List ℕ)) (t : Progress) (stopped : Stopped) (r : Result Rehearsal LineFault) →
    after_lines beginning lines ≡ Ok t →
    world_of t.standing ≡ r → world_at t.number r ≡ Err stopped → HasNoMembers lines stopped
unfolding played_of
no_world lines t stopped (Ok w) taken is h = absurd (cc h)
no_world lines t stopped (Err fault) taken is h =
    let none : fault ≡ NoMembers = world_fault t.standing.heading t.standing.played fault is in
    let all : t.number ≡ beginning.number + length lines = numbered lines beginning t taken in
    let same : record { at = t.number; fault = fault; text = codes "no members" } ≡ stopped = cc h in
    let at : stopped.at ≡ t.number = sym (ap (λ (v : Stopped). v.at) same) in
    record {
      there = t;
      taken = taken;
      none = is ∙ ap Err none;
      fault = sym (ap (λ (v : Stopped). v.fault) same) ∙ none;
      at = omega (arith, all, at);
    }

refused_in : (lines : List (List ℕ)) (stopped : Stopped) (r : Result Progress Stopped) → after_lines beginning lines ≡ r →
    finished r ≡ Err stopped → IsRefused lines stopped
refused_in lines stopped (Ok t) is h = inr (no_world lines t stopped (world_of t.standing) is refl h)
refused_in lines stopped (Err other) is h =
    let same : other ≡ stopped = cc h in
    inl (refused_at lines beginning stopped (is ∙ ap Err same))

pub refused : (text : List ℕ) (stopped : Stopped) → schedule text ≡ Err stopped → IsRefused (lines_of text) stopped
unfolding schedule
refused text stopped h = refused_in (lines_of text) stopped (after_lines beginning (lines_of text)) refl h

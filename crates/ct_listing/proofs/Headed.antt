-- The first lines of a schedule.
use Rattle.std.proofs.Common.{◌≡◌, ◌≤◌, ℕ, true, List, [], refl, subst, sym, arith, Ok}
use Rattle.std.specs.Prelude.{nat_le, ◌&&◌}
use Rattle.std.proofs.lemmas.Bool.Decides.{nat_tests}
use Rattle.ct_names.specs.declared.limit.TheConstants.{MAX_BOUND, MAX_CELLS, MAX_MEMBERS}
use Rattle.ct_grammar.specs.declared.given.Given.{Given}
use Rattle.ct_grammar.specs.declared.given.Given.TheVariants.{Members, Cells, Batch}
use Rattle.ct_grammar.specs.declared.line.Line.TheVariants.{Given as Gives}
use Rattle.ct_grammar.specs.Sides.{whole}
use Rattle.ct_play.specs.Played.{Played}
use Rattle.ct_judging.specs.Judging.{taken}
use Rattle.ct_judging.specs.Standing.{Standing, played_of, start}
use Rattle.ct_judging.specs.declared.heading.TheConstants.{USUAL_CELLS}
use Rattle.ct_listing.specs.Heading.{given_all}
use Rattle.ct_listing.specs.Leading.{AddsLine, Leads, LeadsTo}
use Rattle.ct_print.specs.Lines.{line_text}
use Rattle.ct_print.specs.Writable.{GivenFits}
use Rattle.ct_listing.proofs.Leading.{leads_start, line_on}
use Rattle.ct_listing.proofs.Shown.{given_brace, given_line}

given_on : (old new : List ℕ) (given : Given) (s t : Standing) → LeadsTo old s → AddsLine old new (line_text (Gives given)) →
    GivenFits given → taken s (Gives given) ≡ Ok t → LeadsTo new t
given_on old new given s t h adds fits took =
    line_on old new (Gives given) s t h adds fits (given_line given) (λ rest e. given_brace given rest) took

pub group_on : (old new : List ℕ) (n : ℕ) → old ≡ [] → AddsLine old new (line_text (Gives (Members n))) → 1 ≤ n → n ≤ MAX_MEMBERS →
    LeadsTo new (given_all n USUAL_CELLS MAX_BOUND)
unfolding start
group_on old new n e adds some few =
    let within : nat_le 1 n && nat_le n MAX_MEMBERS ≡ true = grind (arith, nat_tests) in
    given_on old new (Members n) start (given_all n USUAL_CELLS MAX_BOUND) (subst (λ l. LeadsTo l start) (sym e) leads_start) adds (
      some,
      few,
    )
    (rw within refl)

pub cells_on : (old new : List ℕ) (n cells batch k : ℕ) → LeadsTo old (given_all n cells batch) →
    AddsLine old new (line_text (Gives (Cells k))) → k ≤ MAX_CELLS → LeadsTo new (given_all n k batch)
cells_on old new n cells batch k h adds few =
    let within : nat_le k MAX_CELLS ≡ true = grind (arith, nat_tests) in
    given_on old new (Cells k) (given_all n cells batch) (given_all n k batch) h adds few (rw within refl)

pub bound_on : (old new : List ℕ) (n cells batch b : ℕ) → LeadsTo old (given_all n cells batch) →
    AddsLine old new (line_text (Gives (Batch b))) → 1 ≤ b → b ≤ MAX_BOUND → LeadsTo new (given_all n cells b)
bound_on old new n cells batch b h adds some few =
    let within : nat_le 1 b && nat_le b MAX_BOUND ≡ true = grind (arith, nat_tests) in
    given_on old new (Batch b) (given_all n cells batch) (given_all n cells b) h adds (some, few) (rw within refl)

made : (w : Played) → w.rehearsal.steps ≡ [] → w.sides ≡ whole →
    played_of (given_all w.rehearsal.setting.members w.rehearsal.cells w.rehearsal.setting.bound) ≡ Ok w
unfolding played_of
made w none uncut = λ i. Ok (record {
  rehearsal = record { setting = w.rehearsal.setting; cells = w.rehearsal.cells; steps = sym none i };
  sides = sym uncut i;
})

pub heading_leads : (text : List ℕ) (w : Played) →
    LeadsTo text (given_all w.rehearsal.setting.members w.rehearsal.cells w.rehearsal.setting.bound) →
    w.rehearsal.steps ≡ [] → w.sides ≡ whole → Leads text w
heading_leads text w h none uncut = record {
  standing = given_all w.rehearsal.setting.members w.rehearsal.cells w.rehearsal.setting.bound;
  there = h;
  world = made w none uncut;
  uncut = uncut;
}

-- What a diagram has of a step is XML within its outermost element.
use Rattle.std.proofs.Common.{ℕ, zero, suc, ◌+◌, Bool, true, false, List, [], ◌∷◌}
use Rattle.std.proofs.Common.{length, refl, arith, codes, Option, Some, None, option_map}
use Rattle.std.proofs.lemmas.Bool.{cond_both}
use Rattle.std.proofs.lemmas.List.Sums.{fold-append}
use Rattle.std.specs.Prelude.{◌&&◌, if◌then◌else◌, nat_lt}
use Rattle.ct_names.specs.Group.{is_member}
use Rattle.ct_model.specs.Actor.{actor}
use Rattle.ct_model.specs.State.{is_crashed}
use Rattle.ct_world.specs.World.{if_member, member_of}
use Rattle.ct_model.specs.Rehearsal.{Rehearsal, state_of}
use Rattle.ct_model.specs.declared.envelope.Envelope.{Envelope}
use Rattle.ct_model.specs.declared.phase.Phase.{Phase}
use Rattle.ct_model.specs.declared.step.Step.{Step}
use Rattle.ct_model.specs.declared.step.Step.TheVariants.{Receive, Begin, Enter, Choose, Adopt, Conclude, Lose, Repeat}
use Rattle.ct_model.specs.declared.wire.Wire.{Wire}
use Rattle.ct_model.specs.declared.wire.Wire.TheVariants.{Data}
use Rattle.ct_show.specs.Wires.{letter_at}
use Rattle.ct_diagram.specs.Arrows
use Rattle.ct_diagram.specs.Grid.{spot_of}
use Rattle.ct_diagram.specs.Marks
use Rattle.ct_diagram.specs.Routes
use Rattle.ct_diagram.specs.Shades
use Rattle.ct_diagram.specs.Trail.{is_taken, origin}
use Rattle.ct_diagram.specs.declared.window.Window.{Window}
use Rattle.ct_laws.specs.Diagrams.{Drawn}
use Rattle.ct_laws.proofs.Reader.{Reading}
use Rattle.ct_laws.proofs.Reader.Reading.{Within}
use Rattle.ct_laws.proofs.MildTexts.{detail_mild, estimate_of_mild, letter_of_mild, mild_parts, round_mild, serial_mild}
use Rattle.ct_laws.proofs.Reading.{IsMild, Leads, if_mild, stays_value, stays_within}

-- the types of a grid and of a point, which are of no use elsewhere
abbrev OfTwo : {A B C : Type 0} → (A → B → C) → Type 0
OfTwo {A} {B} {C} f = C

abbrev OfThree : {A B C D : Type 0} → (A → B → C → D) → Type 0
OfThree {A} {B} {C} {D} f = D

abbrev pub Grid : Type 0
Grid = OfTwo Arrows.grid_of

abbrev pub Spot : Type 0
Spot = OfThree spot_of

-- within the element of the diagram
abbrev pub in_svg : Reading
in_svg = Within (codes "svg") []

-- text that begins and ends there
abbrev pub IsInSvg : List ℕ → Type 0
IsInSvg text = Leads in_svg text in_svg

pub if_in : (b : Bool) (one other : List ℕ) → IsInSvg one → IsInSvg other → IsInSvg (if b then one else other)
if_in true one other h k = h
if_in false one other h k = k

pub ruleset xml_parts = (mild_parts, fold-append, stays_within, stays_value, if_in)

-- ---- lines

route_mild : (g : Grid) (begun : Option ℕ) (from to place : ℕ) → IsMild (Routes.route_text g begun from to place)
unfolding Routes.left_text Routes.straight_text Routes.over_text
route_mild g begun from to place = go begun
  where
    go : (begun : Option ℕ) → IsMild (Routes.route_text g begun from to place)
    go None = search mild_parts depth 20
    go (Some begun) = search mild_parts depth 20

stub_mild : (from to : ℕ) (spot : Spot) → IsMild (Routes.stub_text from to spot)
unfolding Routes.stub_text
stub_mild from to spot = search mild_parts depth 20

-- ---- arrows

kind_mild : (e : Wire (Unit {0})) → IsMild (Arrows.kind_of e)
kind_mild (Data m) = refl
kind_mild e = refl

begun_word_mild : (step : Step) → IsMild (Arrows.begun_word step)
begun_word_mild (Repeat p k) = refl
begun_word_mild step = refl

begun_in_mild : (d : Drawn) → IsMild (Arrows.begun_in d)
unfolding Arrows.begun_in
begun_in_mild d = let word = begun_word_mild d.step in search mild_parts

begun_mild : (first : ℕ) (o : Option Drawn) → IsMild (Arrows.begun_text first o)
unfolding Arrows.before_text
begun_mild first None = search mild_parts
begun_mild first (Some d) = begun_in_mild d

end_word_mild : (step : Step) → IsMild (Arrows.end_word step)
end_word_mild (Lose p k) = refl
end_word_mild step = refl

end_mild : (step : Step) (quiet : Bool) → IsMild (Arrows.end_class step quiet)
end_mild (Lose p k) quiet = refl
end_mild step quiet = if_mild quiet (codes " late") [] refl refl

module _ (w : Rehearsal) (window : Window) (d : Drawn) where
  arrow_reads : (sender : ℕ) (begun : Option Drawn) (k : ℕ) (e : Envelope (Unit {0})) →
      IsInSvg (Arrows.arrow_text w window sender begun d k e)
  unfolding Arrows.arrow_text Arrows.opening_text Arrows.who_text Arrows.end_text
  arrow_reads sender begun k e = simp (xml_parts, kind_mild, end_mild, route_mild, serial_mild, begun_mild, end_word_mild)

  arrow_of_reads : (trail : List Drawn) (k : ℕ) (o : Option (ℕ × Envelope (Unit {0}))) → IsInSvg (Arrows.arrow_of w window trail d k o)
  arrow_of_reads trail k None = refl
  arrow_of_reads trail k (Some sent) = arrow_reads sent.0 (origin trail k) k sent.1

  stub_reads : (sender last k : ℕ) (e : Envelope (Unit {0})) → IsInSvg (Arrows.stub_arrow w window sender d last k e)
  unfolding Arrows.stub_arrow Arrows.opening_text Arrows.who_text Arrows.last_text
  stub_reads sender last k e = simp (xml_parts, kind_mild, stub_mild, serial_mild, begun_in_mild)

  stub_of_reads : (later : List Step) (k : ℕ) (o : Option (ℕ × Envelope (Unit {0}))) → IsInSvg (Arrows.stub_of w window d later k o)
  stub_of_reads later k None = refl
  stub_of_reads later k (Some sent) =
      if_in (is_taken later k) [] _ refl (stub_reads sent.0 (d.number + length later) k sent.1)

module _ (w : Rehearsal) (window : Window) (senders : List ℕ) (trail : List Drawn) (d : Drawn) (later : List Step) where
  taken_reads : (o : Option ℕ) → IsInSvg (Arrows.taken_text w window senders trail d o)
  taken_reads None = refl
  taken_reads (Some k) = arrow_of_reads w window d trail k (Arrows.asked window senders k (letter_at w k))

  stub_at_reads : (k : ℕ) → IsInSvg (Arrows.stub_at w window senders d later k (letter_at w k))
  stub_at_reads k = stub_of_reads w window d later k (Arrows.asked window senders k (letter_at w k))

  returned_reads : (o : Option ℕ) → IsInSvg (Arrows.returned_text w window senders d later o)
  returned_reads None = refl
  returned_reads (Some k) = stub_at_reads k

  first_stubs_read : (j : ℕ) → IsInSvg (Arrows.first_stubs w window senders d later j)
  first_stubs_read zero = refl
  first_stubs_read (suc j) =
      simp (xml_parts, first_stubs_read j, stub_at_reads)

  pub arrows_read : IsInSvg (Arrows.arrows w window senders trail d later)
  arrows_read = simp (xml_parts, taken_reads, returned_reads, first_stubs_read)

-- ---- shades

rect_reads : (class : List ℕ) (spot : Spot) → IsMild class → IsInSvg (Shades.rect_text class spot)
unfolding Shades.rect_text
rect_reads class spot h = simp xml_parts

-- the shade's name, if any
abbrev IsMildIf : Option (List ℕ) → Type 0
IsMildIf None = Unit {0}
IsMildIf (Some class) = IsMild class

round_class_mild : (o : Option (ℕ × Phase)) → IsMildIf (Shades.round_class o)
round_class_mild None = tt
round_class_mild (Some r) =
    search mild_parts

class_of_mild : (w : Rehearsal) (p : ℕ) → IsMildIf (Shades.class_of w p)
unfolding Shades.class_of
class_of_mild w p =
    let round = if_member w p (option_map (λ c. (c.round, c.phase)) (member_of w p).current) in
    cond_both (is_member w.setting.members p && is_crashed (state_of w) p) (Some (codes "down")) (Shades.round_class round) IsMildIf
    (λ e. refl) (λ e. round_class_mild round)

shade_reads : (o : Option (List ℕ)) (spot : Spot) → IsMildIf o → IsInSvg (Shades.shade_text o spot)
shade_reads None spot h = refl
shade_reads (Some class) spot h = rect_reads class spot h

first_shades_read : (w : Rehearsal) (g : Grid) (place k : ℕ) → IsInSvg (Shades.first_shades w g place k)
first_shades_read w g place zero = refl
first_shades_read w g place (suc k) =
    simp (
      xml_parts,
      first_shades_read w g place k,
      shade_reads (Shades.class_of w (suc k)) (spot_of g place (suc k)) (class_of_mild w (suc k)),
    )

number_reads : (number : ℕ) (top low : Spot) → IsInSvg (Shades.this_number number top low)
unfolding Shades.this_number Shades.rule_text Shades.digits_text
number_reads number top low = simp xml_parts

pub shades_read : (w : Rehearsal) (g : Grid) (d : Drawn) → IsInSvg (Shades.shades w g d)
shades_read w g d =
    simp (xml_parts, first_shades_read, number_reads)

-- ---- marks

-- within a group, and within the title of one
abbrev pub in_group : Reading
in_group = Within (codes "g") (codes "svg" ∷ [])

class_mild : (w : Rehearsal) (before : ℕ) (step : Step) → IsMild (Marks.class_of w before step)
class_mild w before (Conclude p) = search mild_parts
class_mild w before step = refl

kind_at_mild : (o : Option (Envelope (Unit {0}))) → IsMild (Marks.kind_at o)
kind_at_mild None = refl
kind_at_mild (Some e) = kind_mild e.wire

sign_reads : (w : Rehearsal) (before : ℕ) (step : Step) (spot : Spot) → Leads in_group (Marks.sign_text w before step spot) in_group
unfolding Marks.dot_text Marks.circle_text Marks.letter_text
sign_reads w before (Receive p k) spot = simp (xml_parts, kind_at_mild)
sign_reads w before step spot = simp (xml_parts, class_mild w before step, letter_of_mild step)

received_mild : (w : Rehearsal) (step : Step) → IsMild (Marks.received_kind w step)
received_mild w (Receive p k) = kind_at_mild (letter_at w k)
received_mild w step = refl

title_reads : (w : Rehearsal) (before number : ℕ) (step : Step) → Leads in_svg (Marks.title_text w before number step) in_group
unfolding Marks.title_text Marks.who_text
title_reads w before number step = simp (xml_parts, detail_mild)

entered_reads : (w : Rehearsal) (p : ℕ) (spot : Spot) → IsInSvg (Marks.entered_text w p spot)
unfolding Marks.entered_text
entered_reads w p spot = simp (xml_parts, round_mild)

abbrev in_text : Reading
in_text = Within (codes "text") (codes "svg" ∷ [])

falling_reads : (x y : ℕ) → Leads in_svg (Marks.falling_text x y) in_text
unfolding Marks.falling_text
falling_reads x y = cond_both (nat_lt 330 x) _ _ (λ text. Leads in_svg text in_text) (λ e. simp xml_parts) (λ e. simp xml_parts)

changed_reads : (w : Rehearsal) (p : ℕ) (spot : Spot) → IsInSvg (Marks.changed_text w p spot)
unfolding Marks.changed_text
changed_reads w p spot = simp (xml_parts, falling_reads, estimate_of_mild)

note_reads : (w : Rehearsal) (step : Step) (spot : Spot) → IsInSvg (Marks.note_text w step spot)
note_reads w (Enter p) spot = entered_reads w p spot
note_reads w (Begin p) spot = changed_reads w p spot
note_reads w (Choose p from) spot = changed_reads w p spot
note_reads w (Adopt p) spot = changed_reads w p spot
note_reads w step spot = refl

mark_reads : (w : Rehearsal) (d : Drawn) (spot : Spot) → IsInSvg (Marks.mark_text w d spot)
unfolding Marks.mark_text
mark_reads w d spot = simp (xml_parts, note_reads, title_reads, sign_reads)

small_reads : (w : Rehearsal) (d : Drawn) (spot : Spot) → IsInSvg (Marks.small_text w d spot)
unfolding Marks.small_text Marks.dot_text
small_reads w d spot = simp (xml_parts, title_reads, received_mild)

-- ---- how a step is drawn

pub marks_read : (w : Rehearsal) (g : Grid) (d : Drawn) → IsInSvg (Marks.marks w g d)
marks_read w g d =
    let spot = spot_of g d.place (actor d.step) in
    let mark = mark_reads w d spot in
    let small = small_reads w d spot in
    grind arith

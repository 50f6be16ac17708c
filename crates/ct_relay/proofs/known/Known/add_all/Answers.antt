use Rattle.std.proofs.Common.{◌≡◌, ◌||◌, Bool, Option, take, sym, ap, ◌∙◌, arith}
use Rattle.std.specs.Prelude.{option_map}
use Rattle.std.specs.List.{list_any}
use Rattle.std.proofs.lemmas.List.{take_all}
use Rattle.std.proofs.lemmas.List.Folds.{list_any_more}
use Rattle.ct_relay.specs.Marks.{told_of}
use Rattle.ct_relay.specs.Taken.{is_id}
use Rattle.ct_relay.proofs.Marked.{told-with_mark, no-more}
use Rattle.ct_relay.proofs.known.Known.add_all.Goals as goal

twice : (told : Option Bool) (a b : Bool) → option_map (λ t. t || b) (option_map (λ t. t || a) told) ≡ option_map (λ t. t || (a || b)) told
twice told a b = grind arith

pub loop-id-init : goal.loop-id-init
loop-id-init c = λ id. no-more (told_of c.args.self.now id)

pub loop-id-preserved : goal.loop-id-preserved
loop-id-preserved c = λ id.
    let ids = c.args.ids.now in
    let i = c.loop-id.id-index in
    let told = told_of c.args.self.now id in
    ap (λ known. told_of known id) c.add.ensures.marks
    ∙ told-with_mark c.loop-id.self _ id
    ∙ ap (option_map (λ b. b || is_id id _)) (c.loop-id.invariant id)
    ∙ twice told (list_any (is_id id) (take i ids)) _
    ∙ ap (λ l. option_map (λ b. b || l) told) (sym (list_any_more (is_id id) ids i _ c.loop-id-test.true))

pub returns : goal.returns
returns c = λ id.
    rw (← take_all c.loop-id.id-index c.args.ids.now c.loop-id-test.false) (c.loop-id.invariant id)

use Rattle.ct_records.proofs.Common.{◌≡◌, ◌++◌, [], refl, ap, subst, sym, ◌∙◌, Rehearsal, steps_text, WorldView, HasDone, IsEnd, IsStaged}
use Rattle.ct_records.proofs.Common.{IsTextOf}
use Rattle.ct_records.proofs.Started.{read_part, read_whole}
use Rattle.ct_records.proofs.Texts.{text_none}
use Rattle.ct_records.proofs.running.run_staged.Goals as goal

pub returns-then-is_end-clause-whole : goal.returns-then-is_end-clause-whole
returns-then-is_end-clause-whole g c = λ first h.
    let start = c.args.start.now in
    let w = c.take_steps.new.keeper.rehearsal in
    let input = c.take_steps.new.input in
    let left = g.R.Source.left c.args.reader.now in
    let rest = g.R.Source.left c.take_steps.new.reader in
    let done : HasDone (IsStaged w) [] left rest c.args.input.now input =
    c.in_ok-take_steps.ensures.done [] [] (record { are = c.requires.empty; begun = c.requires.begun }) text_none in
    let is : IsTextOf w.steps done.all = subst (λ ss. IsTextOf ss done.all) (sym done.has.are) done.is in
    let same : c.world.result.now.rehearsal ≡ w = ap (λ (v : WorldView). v.rehearsal) c.world.ensures in
    let end : IsEnd start.numbers c.world.result.now.rehearsal input.bytes.items =
    subst (IsEnd start.numbers c.world.result.now.rehearsal) c.deref.ensures.value (c.is_end.ensures c.if-is_end.true) in
    read_whole start w first rest done.all input.bytes.items input.count c.requires.start is (done.goes first start.text.items h)
    (c.in_ok-take_steps.ensures.few c.if-branch.true) (c.in_ok-take_steps.ensures.end c.if-branch.true)
    (subst (λ (v : Rehearsal). IsEnd start.numbers v input.bytes.items) same end)

pub returns-clause-part : goal.returns-clause-part
returns-clause-part g c = λ _ first h.
    let start = c.args.start.now in
    let w = c.take_steps.new.keeper.rehearsal in
    let input = c.take_steps.new.input in
    let left = g.R.Source.left c.args.reader.now in
    let rest = g.R.Source.left c.take_steps.new.reader in
    let last = input.bytes.items in
    let text = start.text.items in
    let done : HasDone (IsStaged w) [] left rest c.args.input.now input =
    c.in_ok-take_steps.ensures.done [] [] (record { are = c.requires.empty; begun = c.requires.begun }) text_none in
    let is : IsTextOf w.steps done.all = subst (λ ss. IsTextOf ss done.all) (sym done.has.are) done.is in
    let steps : c.record-record.result.now ≡ w.steps =
    c.record-record.ensures.value ∙ ap (λ (v : WorldView). v.rehearsal.steps) c.world-2.ensures in
    let again : c.in-Ok.text.items ≡ text ++ (steps_text w.steps ++ last) =
    c.in-Ok.ensures
    ∙ ap (λ t. t ++ (steps_text c.record-record.result.now ++ c.deref-3.result.now)) c.deref-2.ensures.value
    ∙ ap (λ ss. text ++ (steps_text ss ++ c.deref-3.result.now)) steps
    ∙ ap (λ t. text ++ (steps_text w.steps ++ t)) c.deref-3.ensures.value in
    read_part start w.steps first rest done.all last _ input.count c.requires.start is done.has.begun.fit
    (done.goes first text h) refl again

pub returns-then-is_end-clause-begun : goal.returns-then-is_end-clause-begun
returns-then-is_end-clause-begun g c =
    (c.in_ok-take_steps.ensures.done [] [] (record { are = c.requires.empty; begun = c.requires.begun }) text_none).has.begun

pub is_end-requires : goal.is_end-requires
is_end-requires g c =
    let done = c.in_ok-take_steps.ensures.done [] [] (record { are = c.requires.empty; begun = c.requires.begun }) text_none in
    rw c.world.ensures done.has.begun.fit

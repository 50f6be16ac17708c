use Rattle.std.proofs.Common.{◌<◌, ◌∙◌, ap, sym, length, get_or, arith, set, subst, IfSome}
use Rattle.std.proofs.lemmas.List.{set-get_or}
use Rattle.once_cell.specs.Once.{Agrees}
use Rattle.once_cell.specs.declared.race.note.Note.{Note}
use Rattle.ct_names.specs.Batch.{Batch}
use Rattle.ct_board.specs.Notes.{cells_of}
use Rattle.ct_board.proofs.Looks.{one_cell, same_more}
use Rattle.ct_board.proofs.notes.compare_all.Goals as goal

pub compare-requires : goal.compare-requires
compare-requires c =
    let at = c.loop-place.invariant in
    let len = c.len-place-end.ensures in
    let less : c.loop-place.place < length c.loop-place.mine.items = rw at.mine (omega arith) in
    let cells = ap cells_of at.mine ∙ (c.requires ∙ ap cells_of (sym at.theirs)) in
    ap (λ n. n.cell) c.again-copy.ensures.1 ∙ one_cell _ _ _ _ _ cells less c.index_mut-in-loop-place.ensures.value
    c.index_mut.ensures.value

pub loop-place-preserved : goal.loop-place-preserved
loop-place-preserved c =
    let at = c.loop-place.invariant in
    let m_is = c.index_mut-in-loop-place.ensures.value in
    let n_is = c.index_mut.ensures.value in
    let m = c.index_mut-in-loop-place.result.now in
    let n = c.index_mut.result.now in
    let below : c.loop-place.place < length c.args.mine.now.items = omega arith in
    record {
      mine = ap (λ note. set c.loop-place.mine.items c.loop-place.place note) (c.compare.ensures.0 ∙ m_is) ∙ (set-get_or _ _ _ ∙ at.mine);
      theirs = ap (λ note. set c.loop-place.theirs.items c.loop-place.place note) (c.again-copy.ensures.0 ∙ n_is)
          ∙ (set-get_or _ _ _ ∙ at.theirs);
      same = same_more c.args.mine.now.items c.args.theirs.now.items c.loop-place.place m n c.requires below
          (m_is ∙ ap (λ notes. get_or notes c.loop-place.place m) at.mine)
          (n_is ∙ ap (λ notes. get_or notes c.loop-place.place n) at.theirs)
          (subst (λ (note : Note Batch). IfSome note.known (Agrees m.known)) c.again-copy.ensures.1 c.compare.ensures.1)
          at.same;
    }

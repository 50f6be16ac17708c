use Rattle.std.proofs.Common.{rules, ◌≡◌, ◌+◌, ◌∙◌, [], drop, subst}
use Rattle.std.specs.Io.KnownBytes.{Appends}
use Rattle.std.specs.Prelude.{string_bytes}
use Rattle.ct_streams.specs.Streams.{WritesPart}
use Rattle.ct_judge.specs.Sessions.{said_by}
use Rattle.ct_judge.proofs.Hearing.{IsAnswering, after_more, answers_byte, answers_part, answers_stop, answers_written, on_err, on_err_more}
use Rattle.ct_judge.proofs.interacting.hear.Goals as goal
use Rattle.ct_judge.proofs.interacting.hear.Goals.{then-len-ge-BLOCK+in_ok-put, else-len-ge-BLOCK}

pub returns-in_err-hear-clause-part : goal.returns-in_err-hear-clause-part
returns-in_err-hear-clause-part g c = on_err c.from_residual.result (answers_stop _ _ _ _ _ c.loop-byte.invariant.said)

pub returns-in_err-put-clause-part : goal.returns-in_err-put-clause-part
returns-in_err-put-clause-part g c =
    let text : c.deref.result.now ≡ string_bytes c.hear.new.text = search rules in
    let part : WritesPart (g.W.Sink.written c.loop-byte.writer) (g.W.Sink.written c.put.new.writer) (string_bytes c.hear.new.text) =
    subst (WritesPart (g.W.Sink.written c.loop-byte.writer) (g.W.Sink.written c.put.new.writer)) text c.in_err-put.ensures.part in
    on_err c.from_residual-in_err-put.result (answers_part _ _ _ _ _ _
    (answers_byte _ _ c.loop-byte.session c.hear.new.self _ (string_bytes c.hear.new.text) c.args.bytes.now _ c.loop-byte.byte-index
    c.loop-byte-test.true c.in_ok-hear.ensures.after c.in_ok-hear.ensures.text c.loop-byte.invariant.said) part)

pub loop-byte-preserved : goal.loop-byte-preserved
loop-byte-preserved g c =
    let i = c.loop-byte.byte-index in
    let bytes = c.args.bytes.now in
    let session = c.hear.new.self in
    let rest = said_by session (drop (i + 1) bytes) in
    let whole = said_by c.args.session.now bytes in
    let old = g.W.Sink.written c.args.writer.now in
    let mid = g.W.Sink.written c.loop-byte.writer in
    let heard : IsAnswering old mid (string_bytes c.hear.new.text) rest whole =
    answers_byte old mid c.loop-byte.session session _ (string_bytes c.hear.new.text) bytes whole i
    c.loop-byte-test.true c.in_ok-hear.ensures.after c.in_ok-hear.ensures.text c.loop-byte.invariant.said in
    record {
      after = c.loop-byte.invariant.after ∙ after_more c.loop-byte.session session bytes i c.loop-byte-test.true c.in_ok-hear.ensures.after;
      said = elim c.if-len-ge-BLOCK.branch [
        | then-len-ge-BLOCK+in_ok-put w ↦
            let text : w.deref.result.now ≡ string_bytes c.hear.new.text = search rules in
            let wrote : Appends mid (g.W.Sink.written w.put.new.writer) (string_bytes c.hear.new.text) =
            subst (Appends mid (g.W.Sink.written w.put.new.writer)) text w.in_ok-put.ensures.text in
            let empty : string_bytes c.if-len-ge-BLOCK.answers ≡ [] = search rules in
            rw (w.writer-is, empty) (answers_written old mid (g.W.Sink.written w.put.new.writer) _ rest whole heard wrote)
        | else-len-ge-BLOCK w ↦ rw (w.writer-is, w.answers-is) heard
      ];
      same = elim c.if-len-ge-BLOCK.branch [
        | then-len-ge-BLOCK+in_ok-put w ↦ rw w.writer-is (w.in_ok-put.ensures.ok ∙ c.loop-byte.invariant.same)
        | else-len-ge-BLOCK w ↦ rw w.writer-is c.loop-byte.invariant.same
      ];
    }

pub returns-clause-part : goal.returns-clause-part
returns-clause-part g c =
    let mid = g.W.Sink.written c.loop-byte.writer in
    let new = g.W.Sink.written c.put-2.new.writer in
    on_err_more c.put-2.result (λ (part : WritesPart mid new c.deref-2.result.now).
    answers_part _ mid new _ _ _ c.loop-byte.invariant.said (subst (WritesPart mid new) c.deref-2.ensures part)) c.put-2.ensures.part

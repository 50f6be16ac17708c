use Rattle.std.proofs.Common.{rules, ◌≡◌, ◌<◌, ◌≤◌, ◌∙◌, length, length-take-le, take, arith, subst}
use Rattle.std.specs.Io.KnownBytes.{Consumes, IsAtEnd}
use Rattle.ct_streams.specs.Streams.{WritesPart}
use Rattle.ct_judge.specs.Sessions.{at_end}
use Rattle.ct_judge.proofs.Hearing.{breaks_off, ends_part, hears, hears_part, is_at_end, on_err, on_err_more}
use Rattle.ct_judge.proofs.interacting.listen.Goals as goal

pub returns-in_default-clause-part : goal.returns-in_default-clause-part
returns-in_default-clause-part g c =
    let h = c.loop-i.invariant.heard in
    breaks_off _ (g.R.Source.left c.loop-i.reader) c.loop-i.session h.said _ _ h.heard h.wrote

pub returns-then-n-eq0-clause-part : goal.returns-then-n-eq0-clause-part
returns-then-n-eq0-clause-part g c =
    let h = c.loop-i.invariant.heard in
    let left = g.R.Source.left c.loop-i.reader in
    let next = g.R.Source.left c.read.new.self in
    let mid = g.W.Sink.written c.loop-i.writer in
    let new = g.W.Sink.written c.end.new.writer in
    let none : c.in-Ok.n ≡ 0 = c.if-n-eq0.true in
    let room : 0 < length c.read.new.buffer = search (rules, arith) in
    let read : Consumes left next (take 0 c.read.new.buffer) =
    subst (λ n. Consumes left next (take n c.read.new.buffer)) none c.in-Ok.ensures.bytes.0 in
    let ended : IsAtEnd left = is_at_end left next read (c.in-Ok.ensures.bytes.1 none room) in
    on_err_more c.end.result (λ (part : WritesPart mid new (at_end c.loop-i.session c.loop-i.session.line).text).
    ends_part _ left c.loop-i.session h.said _ mid new ended h.heard h.wrote part) c.end.ensures.part

pub returns-in_err-hear-clause-part : goal.returns-in_err-hear-clause-part
returns-in_err-hear-clause-part g c =
    let h = c.loop-i.invariant.heard in
    let left = g.R.Source.left c.loop-i.reader in
    let next = g.R.Source.left c.read.new.self in
    on_err c.from_residual.result (hears_part _ left next c.loop-i.session (take c.in-Ok.n c.read.new.buffer) _
    (g.W.Sink.written c.loop-i.writer) _ h.said c.in-Ok.ensures.bytes.0 h.heard h.wrote c.in_err-hear.ensures.part)

pub loop-i-preserved : goal.loop-i-preserved
loop-i-preserved g c =
    let h = c.loop-i.invariant.heard in
    let n = c.in-Ok.n in
    let left = g.R.Source.left c.loop-i.reader in
    let next = g.R.Source.left c.read.new.self in
    let within : n ≤ length c.read.new.buffer = search (rules, arith) in
    let count : length (take n c.read.new.buffer) ≡ n = length-take-le n c.read.new.buffer within in
    let some : 0 < length (take n c.read.new.buffer) = omega (arith, count, c.if-n-eq0.false) in
    let input = g.R.Source.left c.args.reader.now in
    let old = g.W.Sink.written c.args.writer.now in
    let new = g.W.Sink.written c.hear.new.writer in
    record {
      heard = hears input left next c.loop-i.session c.hear.new.session (take n c.read.new.buffer) old
          (g.W.Sink.written c.loop-i.writer) new
          c.loop-i.i c.in-Ok.ensures.bytes.0 some c.in_ok-hear.ensures.after c.in_ok-hear.ensures.text h;
      reads = c.in-Ok.ensures.ok ∙ c.loop-i.invariant.reads;
      writes = c.in_ok-hear.ensures.ok ∙ c.loop-i.invariant.writes;
      room = omega (arith, count, some);
    }

pub returns-clause-part : goal.returns-clause-part
returns-clause-part g c =
    let h = c.loop-i.invariant.heard in
    breaks_off _ (g.R.Source.left c.loop-i.reader) c.loop-i.session h.said _ _ h.heard h.wrote

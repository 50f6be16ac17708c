use Rattle.std.proofs.Common.{◌≡◌, length, arith}
use Rattle.ct_model.specs.Rehearsal.{state_of}
use Rattle.ct_model.proofs.Record.Causes.{overflow-sent, overflow-steps, overflow-no}
use Rattle.ct_instances.proofs.Named.{named_length}
use Rattle.ct_world.specs.declared.kept.Kept.{Kept}
use Rattle.ct_world.specs.Kept.{IsSound, rehearsal_of}
use Rattle.ct_world.proofs.kept.Kept.overflow.Goals as goal

as_many : (k : Kept) → IsSound k → length k.network.sent ≡ length (state_of (rehearsal_of k)).sent
as_many k sound = named_length k.book.values k.network.sent (state_of (rehearsal_of k)).sent sound.sent

pub returns-then-sent-more-gt-MAX_ENVELOPES : goal.returns-then-sent-more-gt-MAX_ENVELOPES
returns-then-sent-more-gt-MAX_ENVELOPES c =
    let e = as_many c.args.self.now c.requires.sound in
    overflow-sent (rehearsal_of c.args.self.now) c.args.more
    (omega (arith, c.sent.ensures, c.if-sent-more-gt-MAX_ENVELOPES.true))

pub returns-then-len-gt-MAX_STEPS : goal.returns-then-len-gt-MAX_STEPS
returns-then-len-gt-MAX_STEPS c =
    let e = as_many c.args.self.now c.requires.sound in
    overflow-steps (rehearsal_of c.args.self.now) c.args.more
    (omega (arith, c.sent.ensures, c.if-sent-more-gt-MAX_ENVELOPES.false))
    (omega (arith, c.len.ensures, c.if-len-gt-MAX_STEPS.true, c.args.self.now.steps.ok.0))

pub returns-else-len-gt-MAX_STEPS : goal.returns-else-len-gt-MAX_STEPS
returns-else-len-gt-MAX_STEPS c =
    let e = as_many c.args.self.now c.requires.sound in
    overflow-no (rehearsal_of c.args.self.now) c.args.more
    (omega (arith, c.sent.ensures, c.if-sent-more-gt-MAX_ENVELOPES.false))
    (omega (arith, c.len.ensures, c.if-len-gt-MAX_STEPS.false, c.args.self.now.steps.ok.0))

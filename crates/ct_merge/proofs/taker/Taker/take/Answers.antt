use Rattle.std.proofs.Common.{◌≡◌, ◌+◌, Some, length, refl}
use Rattle.std.proofs.lemmas.Option.{slice_get_read}
use Rattle.std.specs.Prelude.{slice_get}
use Rattle.ct_merge.proofs.Taking.{taken_more}
use Rattle.ct_merge.proofs.taker.Taker.take.Goals as goal

pub returns-clause-taken : goal.returns-clause-taken
returns-clause-taken c =
    let line = c.in-Some.line.now in
    let there : slice_get c.args.log.now c.args.count.now ≡ Some line =
    slice_get_read c.args.log.now (length c.args.log.now) c.args.count.now line refl c.in-Some.ensures.lookup.3.0 c.in-Some.ensures.lookup.1 in
    taken_more c.args.self.now c.take_line.new.self c.args.member c.args.log.now c.args.count.now (c.args.count.now + 1) line there
    c.in_ok-take_line-in-Some.ensures.takes c.requires.taken refl

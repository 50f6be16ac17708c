use Rattle.ct_play.specs.Turning.{terms_in}
use Rattle.ct_play.proofs.Seeing.{looks_stepped}
use Rattle.ct_play.proofs.turning.look.Goals as goal

pub returns : goal.returns
returns c =
    looks_stepped c.requires.before c.args.stage.now c.requires.step (terms_in c.args.play.now) c.terms_in.result.now
    c.args.seen.now.items c.look_again.new.looks.items c.terms_in.ensures c.requires.is c.requires.seen c.look_again.ensures

use Rattle.ct_show.proofs.facts.push_missing.Goals as goal

pub returns : goal.returns
returns c = rw (← c.sent-sent.ensures.value) c.write.ensures.bytes

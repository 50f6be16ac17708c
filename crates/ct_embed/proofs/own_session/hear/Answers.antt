use Rattle.ct_embed.proofs.Common.{◌∙◌, string_bytes}
use Rattle.ct_judge.proofs.Hearing.{after_more}
use Rattle.ct_embed.proofs.Hearing.{says_as}
use Rattle.ct_embed.proofs.own_session.hear.Goals as goal

pub loop-byte-preserved : goal.loop-byte-preserved
loop-byte-preserved c =
    let l = c.loop-byte in
    let next = c.hear.new.self in
    let heard = c.in_ok-hear.ensures in
    record {
      after = l.invariant.after ∙ after_more l.session next c.args.bytes.now l.byte-index c.loop-byte-test.true heard.after;
      said = l.invariant.said ∙ says_as l.session next (string_bytes l.text) (string_bytes c.hear.new.text) c.args.bytes.now
          l.byte-index c.loop-byte-test.true heard.after heard.text;
    }

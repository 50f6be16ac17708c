use Rattle.std.proofs.Common.{◌≡◌, ◌++◌, drop}
use Rattle.std.specs.Prelude.{string_bytes}
use Rattle.ct_judge.specs.Sessions.{after_bytes, said_by}
use Rattle.ct_embed.proofs.own_session.hear.Given as goal

-- what is left of the bytes leads where all of them lead, and says what is not said yet
abbrev pub invariant-loop-byte : goal.invariant-loop-byte
invariant-loop-byte l = record {
  after : after_bytes l.fn.session l.bytes ≡ after_bytes l.session (drop l.byte-index l.bytes);
  said : string_bytes l.fn.text ++ said_by l.fn.session l.bytes ≡ string_bytes l.text ++ said_by l.session (drop l.byte-index l.bytes);
}

use Rattle.std.specs.Prelude.{map, take}
use Rattle.ct_logs.specs.Files.{AreTextsIn, texts_of}
use Rattle.ct_logs.proofs.reading.read_texts.Given as goal

abbrev pub invariant-loop-name : goal.invariant-loop-name
invariant-loop-name g l =
    AreTextsIn (g.F.Files.bytes l.files) (map (λ name. name.now) (take l.name-index l.names)) (texts_of l.texts.items)

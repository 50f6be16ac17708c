-- What a reader returned, against what reading gives.
use Rattle.std.specs.Prelude.{◌≡◌, Result, Ok, Err, ⊤}
use Rattle.ct_records.specs.declared.read_fault.ReadFault.{ReadFault}
use Rattle.ct_records.specs.declared.read_fault.ReadFault.TheVariants.{TooLong, NotJson, Shape, Version, OutOfMemory}

-- reading gives this fault too; it gives none of memory
abbrev pub Fails : {Y : Type 0} → ReadFault → Result Y ReadFault → Type 0
Fails TooLong read = read ≡ Err TooLong
Fails NotJson read = read ≡ Err NotJson
Fails (Shape at) read = read ≡ Err (Shape at)
Fails Version read = read ≡ Err Version
Fails OutOfMemory read = ⊤

-- what was returned, seen by view, is what reading gives, unless memory was refused
abbrev pub Gives : {X Y : Type 0} → (X → Y) → Result X ReadFault → Result Y ReadFault → Type 0
Gives view (Ok x) read = read ≡ Ok (view x)
Gives view (Err e) read = Fails e read

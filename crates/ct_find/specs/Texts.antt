-- The lines of a search.
use Rattle.std.specs.Prelude.{ℕ, ◌/◌, ◌==◌, nat_lt, List, [], ◌∷◌, ◌++◌, codes, decimal, flat_map, if◌then◌else◌}
use Rattle.std.specs.List.{concat}
use Rattle.ct_names.specs.declared.limit.TheConstants.{MAX_BOUND}
use Rattle.ct_streams.specs.declared.status.Status.TheVariants as status
use Rattle.ct_streams.specs.Statuses.{code}
use Rattle.ct_walk.specs.Faults as walk
use Rattle.ct_walk.specs.declared.options.WalkOptions.{WalkOptions}
use Rattle.ct_find.specs.declared.again.Again.{Again}
use Rattle.ct_find.specs.declared.fault.FindFault.{FindFault}
use Rattle.ct_find.specs.declared.fault.FindFault.TheVariants.{Walk, NotFound}
use Rattle.ct_find.specs.declared.fault.NotFound.{NotFound as Missing}
use Rattle.ct_find.specs.declared.found_seed.FoundSeed.{FoundSeed}
use Rattle.ct_find.specs.declared.tried.Tried.{Tried}

-- ---- while it runs

-- so many seconds, in the largest unit of which they are two at least
abbrev pub time_text : ℕ → List ℕ
time_text seconds =
    if nat_lt seconds 120 then decimal seconds ++ codes " s" else (
    if nat_lt seconds 7200 then decimal (seconds / 60) ++ codes " min" else (
    if nat_lt seconds 172800 then decimal (seconds / 3600) ++ codes " h" else decimal (seconds / 86400) ++ codes " days"))

abbrev pub tried_text : Tried → List ℕ
tried_text t =
    concat (decimal t.tried ∷ codes " of " ∷ decimal t.all ∷ codes " seeds up to " ∷ decimal t.last ∷ codes ", " ∷ decimal t.rate
    ∷ codes "/s, " ∷ time_text t.left ∷ codes " left" ∷ [])

-- ---- what is found

abbrev pub seed_line : FoundSeed → List ℕ
seed_line found = concat (codes "seed " ∷ decimal found.seed ∷ codes ": " ∷ decimal found.steps ∷ codes " steps" ∷ [])

-- an option whose value is not the usual one
unfoldable pub option_text : List ℕ → ℕ → ℕ → List ℕ
option_text name value usual =
    if value == usual then [] else concat (codes " --" ∷ name ∷ codes " " ∷ decimal value ∷ [])

-- those that are not the usual ones
unfoldable pub options_text : WalkOptions → List ℕ
options_text o =
    let run = o.run in
    concat (option_text (codes "turns") run.turns 1000 ∷ option_text (codes "rate") run.rate 64
    ∷ option_text (codes "cells") run.cells 64 ∷ option_text (codes "submit") run.submit 8
    ∷ option_text (codes "crash") run.crash 0 ∷ option_text (codes "postpone") run.postpone 0
    ∷ option_text (codes "lose") run.lose 0 ∷ option_text (codes "repeat") run.repeat 0
    ∷ option_text (codes "batch") run.batch MAX_BOUND ∷ option_text (codes "every") o.every 0
    ∷ option_text (codes "scatter") o.scatter 0 ∷ option_text (codes "lasting") o.lasting 0
    ∷ option_text (codes "crashes") o.crashes 0 ∷ option_text (codes "cut") o.cuts 0 ∷ codes " " ∷ [])

-- a byte as it stands in single quotes for a shell: for such a quote the end of them, one by itself, and their beginning anew
abbrev pub quoted_byte : ℕ → List ℕ
quoted_byte c = if c == 39 then codes "'\\''" else c ∷ []

-- the text as it stands in them
unfoldable pub quoted : List ℕ → List ℕ
quoted text = flat_map quoted_byte text

-- the words that make the walk again
abbrev pub again_text : Again → List ℕ
again_text a =
    concat (codes "ct_tool walk --members " ∷ decimal a.options.run.members ∷ codes " --seed " ∷ decimal a.seed
    ∷ options_text a.options ∷ codes "--until '" ∷ a.goal ∷ codes "'" ∷ [])

-- ---- faults

abbrev pub none_text : Missing → List ℕ
none_text none =
    concat (codes "no seed of " ∷ decimal none.seeds.first ∷ codes ".." ∷ decimal none.seeds.last ∷ codes " shows " ∷ none.goal ∷ [])

-- the line for standard error
abbrev pub fault_text : FindFault → List ℕ
fault_text (Walk fault) = walk.fault_text fault
fault_text (NotFound none) = none_text none

abbrev pub status_of : FindFault → ℕ
status_of (Walk fault) = walk.status_of fault
status_of (NotFound none) = code status.Refused

-- What callers of other languages see of a session.
use Rattle.std.specs.Prelude.{ℕ, false, List, [], Option, None, option_map, string_bytes}
use Rattle.ct_diagram.specs.declared.window.Window.{Window}
use Rattle.ct_diagram.specs.Diagram.{IsDiagram}
use Rattle.ct_diagram.specs.Window.{part_of, steps_in}
use Rattle.ct_model.specs.Rehearsal.{Rehearsal}
use Rattle.ct_judge.specs.Sessions.{Hearing, after_bytes, opening, said_by}
use Rattle.ct_embed.specs.declared.said.Said.{Said}
use Rattle.ct_embed.specs.declared.said.Said.TheVariants.{Answers, Shown}

-- a session, and the bytes that wait to be copied
pub record Talk : Type 0 where
  pub hearing : Hearing
  pub said : List ℕ

-- nothing was told yet
abbrev pub hush : Talk
hush = record { hearing = opening; said = [] }

-- the bytes are told: the answers to the lines that they end wait
abbrev pub told : Talk → List ℕ → Talk
told t bytes = record { hearing = after_bytes t.hearing bytes; said = said_by t.hearing bytes }

-- the record of its world, once a line made one
abbrev pub rehearsal_in : Talk → Option Rehearsal
rehearsal_in t = option_map (λ w. w.rehearsal) t.hearing.standing.played

-- the bytes of what waits
abbrev pub said_bytes : Said → List ℕ
said_bytes (Answers text) = string_bytes text
said_bytes (Shown bytes) = bytes.items

-- all steps, in rows of 30
abbrev pub everything : Window
everything = record { from = 1; to = 4294967295; columns = 30; members = None; consensus = false }

-- this is the diagram of all steps of a record
unfoldable pub IsWhole : Rehearsal → List ℕ → Type 0
IsWhole w text = IsDiagram everything w text

-- this many steps are drawn then
unfoldable pub drawn_steps : Rehearsal → ℕ
drawn_steps w = steps_in everything (part_of everything w).steps

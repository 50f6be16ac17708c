-- The text of a report. Every line ends with one line feed.
use Rattle.std.specs.Prelude.{ℕ, zero, suc, List, [], ◌∷◌, ◌++◌, length, codes, decimal, is_some}
use Rattle.std.specs.Prelude.{if◌then◌else◌}
use Rattle.std.specs.List.{concat}
use Rattle.ct_names.specs.Group.{majority}
use Rattle.ct_names.specs.Message.{Message}
use Rattle.ct_model.specs.Cause.{order}
use Rattle.ct_model.specs.Received.{received_by}
use Rattle.ct_model.specs.Rehearsal.{Rehearsal, state_of}
use Rattle.ct_model.specs.State.{delivered, is_crashed, member}
use Rattle.ct_table.specs.Table.{table}
use Rattle.ct_text.specs.Lists.{decisions_text, messages_text, table_text}

-- whether the member is up, the last instance that it began, and whether that is open
unfoldable pub standing_text : Rehearsal → ℕ → List ℕ
standing_text w p =
    concat (codes "member " ∷ decimal p ∷ codes " " ∷ (if is_crashed (state_of w) p then codes "crashed" else codes "up")
    ∷ codes " instance " ∷ decimal (member (state_of w) p).last ∷ codes " "
    ∷ (if is_some (member (state_of w) p).current then codes "open" else codes "idle") ∷ codes "\n" ∷ [])

-- a word and a list
unfoldable pub line_text : List ℕ → List ℕ → List ℕ
line_text word list = concat (word ∷ codes " " ∷ list ∷ codes "\n" ∷ [])

-- what is shown as delivered by a member, and as its table
pub record Shown : Type 0 where
  pub delivered : List Message
  pub table : List ℕ

abbrev pub shown : Rehearsal → ℕ → Shown
shown w p = record { delivered = delivered (member (state_of w) p); table = table (delivered (member (state_of w) p)) }

-- five lines of a member: that of its standing, what it received, decided and delivered, and its table
unfoldable pub member_text : Rehearsal → ℕ → List ℕ
member_text w p =
    concat (standing_text w p
    ∷ line_text (codes "received") (messages_text 32 (received_by (state_of w) p))
    ∷ line_text (codes "decided") (decisions_text (member (state_of w) p).got)
    ∷ line_text (codes "delivered") (messages_text 32 (shown w p).delivered)
    ∷ line_text (codes "table") (table_text (shown w p).table)
    ∷ [])

-- the lines of the first members
abbrev pub first_members : Rehearsal → ℕ → List ℕ
first_members w zero = []
first_members w (suc k) = first_members w k ++ member_text w (suc k)

-- two lines of the whole, and those of each member
unfoldable pub report_text : Rehearsal → List ℕ
report_text w =
    concat (codes "group " ∷ decimal w.setting.members ∷ codes " majority " ∷ decimal (majority w.setting.members) ∷ codes " cells "
    ∷ decimal w.cells ∷ codes "\n" ∷ [])
    ++ (concat (codes "steps " ∷ decimal (length w.steps) ∷ codes " sent " ∷ decimal (length (state_of w).sent) ∷ codes " posted "
    ∷ decimal (length (order (state_of w))) ∷ codes "\n" ∷ [])
    ++ first_members w w.setting.members)

-- What contracts see of a network.
use Rattle.std.specs.Prelude.{◌≡◌, ℕ, ◌-◌, ◌==◌, Bool, true, List, [], ◌∷◌, ◌++◌, Option, position, remove, slice_index_or}
use Rattle.ct_names.specs.Group.{is_member}
use Rattle.ct_model.specs.declared.envelope.Envelope.{Envelope as AnyEnvelope}
use Rattle.ct_model.specs.declared.mail.Mail.{Mail as AnyMail}
use Rattle.ct_model.specs.declared.mail.Mail.TheVariants.{Nobody, One, All}

-- every envelope that was sent, in order; its serial is its place, from 1. The serials that wait at each member, in
-- order. Whether what one step sends can be sent without memory: an envelope to each member, and a serial in each line
pub record NetworkView : Type 0 where
  pub sent : List (AnyEnvelope ℕ)
  pub lines : List (List ℕ)
  pub has_room : Bool

-- the serials that wait at member p
abbrev pub line_at : List (List ℕ) → ℕ → List ℕ
line_at lines p = slice_index_or lines (p - 1) []

-- the first place of the serial in a line, from 0
abbrev pub place_of : ℕ → List ℕ → Option ℕ
place_of k line = position (λ other. other == k) line

-- the line with the serial at this place moved to its end
abbrev pub put_last : List ℕ → ℕ → List ℕ
put_last line i = remove line i ++ slice_index_or line i 0 ∷ []

-- mail to one member goes to a member of a group of n
abbrev pub IsAddressed : ℕ → AnyMail ℕ → Type 0
IsAddressed n Nobody = Unit {0}
IsAddressed n (One to wire) = is_member n to ≡ true
IsAddressed n (All wire) = Unit {0}

-- Lists of waiting lines.
use Rattle.std.proofs.lemmas.Bool.Decides.{nat_tests}
use Rattle.std.proofs.Common.{◌≡◌, ℕ, ◌+◌, ◌-◌, ◌<◌, ◌≤◌, true, List, [], length, get_or, set, ap, sym}
use Rattle.std.proofs.Common.{◌∙◌, arith}
use Rattle.std.proofs.lemmas.List.{map-set, get_or-map, set-get_or, length-map, length-set, get_or-set_same, get_or-set_other}
use Rattle.std.proofs.lemmas.Bool.{cases_eq, cases_lt}
use Rattle.ct_names.specs.Group.{is_member}
use Rattle.ct_names.proofs.Groups.{member_from_one, member_to_n}
use Rattle.ct_network.specs.WaitingLine.{WaitingLine}
use Rattle.ct_network.specs.Lines.{serials_of, HaveFirstRoom, HaveRoom}
use Rattle.ct_network.specs.Network.{line_at}

-- what waits at one member
pub line_there : (lines : List WaitingLine) (i : ℕ) (line : WaitingLine) → i < length lines → line ≡ get_or lines i line →
    line.serials ≡ get_or (serials_of lines) i []
line_there lines i line within is = ap (λ (l : WaitingLine). l.serials) is ∙ sym (get_or-map (λ l. l.serials) lines i line [] within)

-- a place of what waits at a member is one of its line
pub waiting_there : (lines : List WaitingLine) (seen : List (List ℕ)) (p i : ℕ) (line : WaitingLine) → p - 1 < length lines →
    serials_of lines ≡ seen → line ≡ get_or lines (p - 1) line → i < length (line_at seen p) → i < length line.serials
waiting_there lines seen p i line within is at h = grind (arith, nat_tests, line_there lines (p - 1) line within at)

pub serials-set : (lines : List WaitingLine) (i : ℕ) (new : WaitingLine) →
    serials_of (set lines i new) ≡ set (serials_of lines) i new.serials
serials-set lines i new = map-set (λ l. l.serials) lines i new

-- a line with the same serials is put for another
pub serials-same : (lines : List WaitingLine) (i : ℕ) (old new : WaitingLine) → i < length lines → old ≡ get_or lines i old →
    new.serials ≡ old.serials → serials_of (set lines i new) ≡ serials_of lines
serials-same lines i old new within is e =
    serials-set lines i new ∙ ap (set (serials_of lines) i) (e ∙ line_there lines i old within is) ∙ set-get_or (serials_of lines) i []

-- a line with as much room is put for another
pub room-set : (lines : List WaitingLine) (i n least : ℕ) (new : WaitingLine) → i < length lines → HaveFirstRoom n lines least →
    least ≤ new.room → HaveFirstRoom n (set lines i new) least
room-set lines i n least new within room h k d low =
    grind (arith, cases_eq i k, get_or-set_same lines i new d within, get_or-set_other lines i k new d, room k d low)

-- a line keeps its room
pub room-kept : (lines : List WaitingLine) (i least : ℕ) (old new : WaitingLine) → i < length lines → old ≡ get_or lines i old →
    old.room ≤ new.room → HaveRoom lines least → HaveRoom (set lines i new) least
room-kept lines i least old new within is h room =
    let here : least ≤ (get_or lines i old).room = room i old within in
    let same : old.room ≡ (get_or lines i old).room = ap (λ (l : WaitingLine). l.room) is in
    rw (length-set lines i new) (room-set lines i (length lines) least new within room (omega arith))

-- one more of the lines has room
pub room-more : (lines : List WaitingLine) (i least : ℕ) (new : WaitingLine) → i < length lines → HaveFirstRoom i lines least →
    least ≤ new.room → HaveFirstRoom (i + 1) (set lines i new) least
room-more lines i least new within room h k d low =
    grind (arith, cases_lt k i, room-set lines i i least new within room h k d, get_or-set_same lines i new d within)

-- the line of a member of the group
pub place : (lines : List WaitingLine) (seen : List (List ℕ)) (p : ℕ) → serials_of lines ≡ seen → is_member (length seen) p ≡ true →
    p - 1 < length lines
place lines seen p is member =
    let low : 1 ≤ p = member_from_one (length seen) p member in
    let high : p ≤ length seen = member_to_n (length seen) p member in
    let same : length lines ≡ length seen = sym (length-map lines (λ (l : WaitingLine). l.serials)) ∙ ap length is in
    omega arith

-- the line of a member is changed
pub serials-changed : (lines : List WaitingLine) (seen : List (List ℕ)) (p : ℕ) (f : List ℕ → List ℕ) (old new : WaitingLine) →
    serials_of lines ≡ seen → is_member (length seen) p ≡ true → old ≡ get_or lines (p - 1) old → new.serials ≡ f old.serials →
    serials_of (set lines (p - 1) new) ≡ set seen (p - 1) (f (line_at seen p))
serials-changed lines seen p f old new same member is e =
    serials-set lines (p - 1) new
    ∙ ap (set (serials_of lines) (p - 1)) (e ∙ ap f (line_there lines (p - 1) old (place lines seen p same member) is))
    ∙ ap (λ ls. set ls (p - 1) (f (line_at ls p))) same

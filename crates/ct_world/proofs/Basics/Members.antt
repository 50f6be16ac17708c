-- Members and their seats.
use Rattle.std.proofs.Common.{◌≡◌, ◌≢◌, ℕ, ◌-◌, ◌<◌, true, List, length, get_or, set, ◌∙◌, arith}
use Rattle.std.proofs.lemmas.List.{get_or_default, get_or-set_same, get_or-set_other}
use Rattle.ct_names.specs.Group.{is_member}
pub use Rattle.ct_names.proofs.Groups.{member_from_one as member_low, member_to_n as member_high}
use Rattle.ct_world.specs.declared.seat.Seat.{Seat}
use Rattle.ct_world.specs.Kept.{no_seat, seat_of}

-- members that differ have places that differ
pub apart : (n p q : ℕ) → is_member n p ≡ true → is_member n q ≡ true → q ≢ p → q - 1 ≢ p - 1
apart n p q mp mq ne same = grind (arith, member_low n p mp, member_low n q mq)

pub place : (n p : ℕ) → is_member n p ≡ true → p - 1 < n
place n p m = let a = member_low n p m in let b = member_high n p m in omega arith

-- the seat that an index gives
pub seat_found : (seats : List Seat) (p : ℕ) (s : Seat) → p - 1 < length seats → s ≡ get_or seats (p - 1) s → s ≡ seat_of seats p
seat_found seats p s within e = e ∙ get_or_default seats (p - 1) s no_seat within

-- after a change of one seat
pub seat-same : (seats : List Seat) (p : ℕ) (new : Seat) → p - 1 < length seats → seat_of (set seats (p - 1) new) p ≡ new
seat-same seats p new within = get_or-set_same seats (p - 1) new no_seat within

pub seat-other : (seats : List Seat) (p q : ℕ) (new : Seat) → q - 1 ≢ p - 1 → seat_of (set seats (p - 1) new) q ≡ seat_of seats q
seat-other seats p q new ne = get_or-set_other seats (p - 1) (q - 1) new no_seat ne

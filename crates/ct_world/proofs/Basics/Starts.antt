-- A world without steps.
use Rattle.std.proofs.Common.{◌≡◌, ℕ, ◌-◌, true, List, [], length, replicate, refl, ap, sym, ◌∙◌, arith}
use Rattle.std.proofs.lemmas.List.{length-replicate, get_or-replicate}
use Rattle.ct_names.specs.Group.{is_member}
use Rattle.ct_names.specs.Value.{Value}
use Rattle.ct_model.specs.Setting.{Setting}
use Rattle.ct_model.specs.State.{new_member, first_state}
use Rattle.ct_model.specs.Received.{received}
use Rattle.ct_model.proofs.Record.Start.{state-first, member-first, sent-first, submissions-first, line-first, lawful-first, knows-first}
use Rattle.ct_network.specs.Network.{line_at}
use Rattle.ct_instances.proofs.Keeping.{keeps-new}
use Rattle.ct_world.specs.declared.seat.Seat.{Seat}
use Rattle.ct_world.specs.Seats.{Keeps, Content, content, new_seat, AreNewSeats}
use Rattle.ct_world.proofs.Basics.Rooms.{keeps-roomier}
use Rattle.ct_world.specs.Kept.{Fields, IsFixed, IsWorld, values_of, seat_of}
use Rattle.ct_world.proofs.Basics.Members.{member_low, place}

proposals-first : (s : Setting) → values_of (first_state s) ≡ []
unfolding first_state
proposals-first s = refl

-- a new seat is that of a new member
new_keeps : (n : ℕ) (values : List Value) (p : ℕ) (seat : Seat) → content seat ≡ content (new_seat n p) → Keeps n values p new_member seat
unfolding received
new_keeps n values p seat h = keeps-roomier (new_seat n p) h (record {
  crashed = refl;
  me = refl;
  taken = λ name. refl;
  received = refl;
  batches = refl;
  table = refl;
  begun = refl;
  instances = keeps-new n values p;
})

module _ (s : Setting) (cells : ℕ) (f : Fields) (new : AreNewSeats s.members s.members f.seats) where
  seat_new : (p : ℕ) → is_member s.members p ≡ true → content (seat_of f.seats p) ≡ content (new_seat s.members p)
  seat_new p group = grind (arith, member_low s.members p group, place s.members p group)

  -- nothing sent, nothing proposed and new seats are the world of a record without steps
  pub world-empty : IsFixed s cells → f.network.sent ≡ [] → f.network.lines ≡ replicate s.members [] → f.book.values ≡ [] →
      IsWorld (record { setting = s; cells = cells; steps = [] }) f
  world-empty fixed sent lines values = record {
    lawful = lawful-first s cells;
    messages = rw (state-first s cells) (knows-first s);
    fixed = fixed;
    values = values ∙ sym (ap values_of (state-first s cells) ∙ proposals-first s);
    sent = rw (sent, state-first s cells, sent-first s) refl;
    lined = ap length lines ∙ length-replicate s.members [];
    line = λ p group. ap (λ ls. line_at ls p) lines ∙ get_or-replicate s.members (p - 1) [] [] (place s.members p group)
        ∙ sym (line-first s cells p);
    seated = new.seated;
    seat = λ p group. rw (state-first s cells, member-first s p)
        (new_keeps s.members f.book.values p (seat_of f.seats p) (seat_new p group));
    submitted = λ p group. rw (state-first s cells, submissions-first s p) (ap (λ (c : Content). c.seat.submitted) (seat_new p group));
  }

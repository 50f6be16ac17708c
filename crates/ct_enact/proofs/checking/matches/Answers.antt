use Rattle.std.proofs.Common.{◌≡◌, ◌≤◌, ℕ, List, Some, length, ap, subst, slice_get}
use Rattle.ct_names.specs.Group.{is_member}
use Rattle.ct_names.specs.Message.{Message}
use Rattle.ct_names.proofs.Groups.{member_from_one, member_to_n}
use Rattle.ct_model.specs.Rehearsal.{state_of}
use Rattle.ct_model.specs.Safe.{delivered_by}
use Rattle.ct_order.specs.declared.reading.LogEnd.{LogEnd}
use Rattle.ct_order.specs.declared.standing.Standing.{Standing}
use Rattle.ct_enact.specs.Enacted.{HasLength, IsPlaced}
use Rattle.ct_enact.proofs.Places.{if_some, of_map}
use Rattle.ct_enact.proofs.checking.matches.Goals as goal

pub returns-else-not-is_longest : goal.returns-else-not-is_longest
returns-else-not-is_longest c = λ e.
    let w = c.args.world.now.rehearsal in
    let first = c.furthest-first.result in
    let all = delivered_by (state_of w) first in
    let there = if_some (is_member w.setting.members first) c.in-Some.all.now all c.in-Some.ensures in
    record {
      first = first;
      member = (member_from_one _ _ there.0, member_to_n _ _ there.0);
      longest = λ p m.
          subst (λ n. length (delivered_by (state_of w) p) ≤ n) (ap (λ (l : List Message). length l) there.1)
          (c.is_longest.ensures c.if-not-is_longest.false p m);
      origins = subst (λ (l : List Message). (k : ℕ) (m : Message) → slice_get l k ≡ Some m → IsPlaced c.args.judged.now.table k m) there.1
          (c.have_origins.ensures e);
      lengths = of_map (λ (end : LogEnd). end.standing) (λ i (s : Standing). HasLength w i s.most) c.args.judged.now.ends.items
          (subst (λ (l : List LogEnd). (i : ℕ) (end : LogEnd) → slice_get l i ≡ Some end → HasLength w i end.standing.most)
          c.deref.ensures.value (c.have_lengths.ensures c.if-not-have_lengths.false));
    }

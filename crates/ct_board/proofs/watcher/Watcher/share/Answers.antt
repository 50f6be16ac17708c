use Rattle.ct_board.proofs.Somes.{one_begins, same_as_itself}
use Rattle.ct_board.proofs.watcher.Watcher.share.Goals as goal

pub returns-clause-own : goal.returns-clause-own
returns-clause-own c =
    let w = c.self.invariant.0 in
    rw (← c.self.view_is) (one_begins _ _ _ _ w.read_known w.read_within w.told_known w.told_within (same_as_itself _))

pub returns-clause-other_own : goal.returns-clause-other_own
returns-clause-other_own c =
    let o = c.other.invariant.0 in
    rw (← c.other.view_is) (one_begins _ _ _ _ o.read_known o.read_within o.told_known o.told_within (same_as_itself _))

pub returns-clause-read_read : goal.returns-clause-read_read
returns-clause-read_read c =
    let w = c.self.invariant.0 in
    let o = c.other.invariant.0 in
    rw (← c.self.view_is, ← c.other.view_is) (one_begins _ _ _ _ w.read_known w.read_within o.read_known o.read_within
    c.compare_all.ensures.same)

pub returns-clause-read_told : goal.returns-clause-read_told
returns-clause-read_told c =
    let w = c.self.invariant.0 in
    let o = c.other.invariant.0 in
    rw (← c.self.view_is, ← c.other.view_is) (one_begins _ _ _ _ w.read_known w.read_within o.told_known o.told_within
    c.compare_all.ensures.same)

pub returns-clause-told_read : goal.returns-clause-told_read
returns-clause-told_read c =
    let w = c.self.invariant.0 in
    let o = c.other.invariant.0 in
    rw (← c.self.view_is, ← c.other.view_is) (one_begins _ _ _ _ w.told_known w.told_within o.read_known o.read_within
    c.compare_all.ensures.same)

pub returns-clause-told_told : goal.returns-clause-told_told
returns-clause-told_told c =
    let w = c.self.invariant.0 in
    let o = c.other.invariant.0 in
    rw (← c.self.view_is, ← c.other.view_is) (one_begins _ _ _ _ w.told_known w.told_within o.told_known o.told_within
    c.compare_all.ensures.same)

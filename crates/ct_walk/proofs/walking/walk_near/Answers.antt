use Rattle.std.proofs.Common.{◌≡◌, Ok, Err, IfErr, IsErrAnd, Result, ◌∙◌, ap, ap₂, option_map, subst, sym}
use Rattle.ct_walk.specs.Faults.{IsShort}
use Rattle.ct_walk.specs.Nearness.{came}
use Rattle.ct_walk.specs.Shown.{is_shown_by}
use Rattle.ct_walk.specs.declared.fault.WalkFault.{WalkFault}
use Rattle.ct_walk.proofs.Looping.{walked_is}
use Rattle.ct_walk.proofs.Rounds.{came_is, rounds_are}
use Rattle.ct_walk.proofs.Untils.{until_is}
use Rattle.ct_walk.proofs.walking.walk_near.Goals as goal

pub returns-clause-exact : goal.returns-clause-exact
returns-clause-exact c =
    c.into_world-world.ensures.rehearsal
    ∙ walked_is c.args.options.now (option_map (λ goal. goal.now) c.args.until) c.in_ok-walker.walker c.walk.new.self _
    c.in_ok-walker.ensures.ok c.most_turns-most.ensures c.in_ok-rounds.ensures.ok

pub returns-clause-shows : goal.returns-clause-shows
returns-clause-shows c =
    let o = c.args.options.now in
    let until = option_map (λ goal. goal.now) c.args.until in
    c.shows-shows.ensures
    ∙ ap₂ is_shown_by
    (until_is o until _ c.in_ok-walker.walker c.walk.new.self c.in_ok-walker.ensures.ok c.in_ok-rounds.ensures.ok)
    (walked_is o until c.in_ok-walker.walker c.walk.new.self _ c.in_ok-walker.ensures.ok c.most_turns-most.ensures
    c.in_ok-rounds.ensures.ok)

pub returns-clause-near : goal.returns-clause-near
returns-clause-near c =
    came_is c.args.options.now (option_map (λ goal. goal.now) c.args.until) c.in_ok-walker.walker c.walk.new.self _ _ _ _
    c.in_ok-walker.ensures.ok c.most_turns-most.ensures
    c.in_ok-rounds.ensures.ok c.in_ok-rounds.ensures.rounds c.into_world-world.ensures.rehearsal
    (c.came-came_to.ensures ∙ ap (λ sight. came sight c.in_ok-rounds.rounds c.into_world-world.result.rehearsal) c.sight_in.ensures)

pub returns-clause-rounds : goal.returns-clause-rounds
returns-clause-rounds c =
    rounds_are c.args.options.now (option_map (λ goal. goal.now) c.args.until) c.in_ok-walker.walker _ _
    c.in_ok-walker.ensures.ok c.most_turns-most.ensures c.in_ok-rounds.ensures.rounds

-- a fault that is handed on
handed : {T : Type 0} (r : Result T WalkFault) (fault : WalkFault) → IsErrAnd r (λ e. e ≡ fault) → IsShort fault → IfErr r IsShort
handed (Ok x) fault same h = tt
handed (Err e) fault same h = subst IsShort (sym same) h

pub returns-in_err-rounds-clause-err : goal.returns-in_err-rounds-clause-err
returns-in_err-rounds-clause-err c =
    handed c.from_residual-in_err-rounds.result c.in_err-rounds.field-0.0 c.from_residual-in_err-rounds.ensures.1
    c.in_err-rounds.ensures.err

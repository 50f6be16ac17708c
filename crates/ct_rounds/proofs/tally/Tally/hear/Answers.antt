use Rattle.std.proofs.Common.{◌≡◌, ◌<◌, sym, ◌∙◌, ap, true, false, arith, length}
use Rattle.ct_names.specs.MemberSet.{has_member}
use Rattle.ct_rounds.proofs.Estimates.{heard-again, heard-first, best-more}
use Rattle.ct_rounds.proofs.tally.Tally.hear.Goals as goal

pub returns-then-contains : goal.returns-then-contains
returns-then-contains c =
    let i = c.self.inside in
    let there : has_member i.heard c.args.from ≡ true = sym c.contains.ensures.value ∙ c.if-contains.true in
    rw (← c.self.view_is) (ap (λ es. record { estimates = es; proposal = i.proposal; acked = i.acked; replied = i.replied })
    (sym (heard-again i.estimates c.args.from c.args.estimate i.heard c.self.invariant.heard_is there)))

pub invariant_of-self : goal.invariant_of-self
invariant_of-self c =
    let i = c.self.inside in
    let absent : has_member i.heard c.args.from ≡ false = sym c.contains.ensures.value ∙ c.if-contains.false in
    let room : c.args.from < length i.estimates = (let high = c.requires.1 in omega arith) in
    rw (c.insert.ensures, c.better.ensures) (best-more i.estimates c.args.from c.args.estimate i.heard i.acked i.replied i.best
    c.self.invariant c.requires room absent)

pub returns : goal.returns
returns c =
    let i = c.self.inside in
    let absent : has_member i.heard c.args.from ≡ false = sym c.contains.ensures.value ∙ c.if-contains.false in
    let room : c.args.from < length i.estimates = (let high = c.requires.1 in omega arith) in
    rw (← c.self.view_is, c.insert.ensures) (ap (λ es. record {
      estimates = es;
      proposal = i.proposal;
      acked = i.acked;
      replied =
          i.replied;
    }) (heard-first i.estimates c.args.from c.args.estimate i.heard c.self.invariant.heard_is c.requires room absent))

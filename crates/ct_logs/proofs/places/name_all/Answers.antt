use Rattle.std.proofs.Common.{◌<◌, ◌-◌, ◌∙◌, length, map, ap, sym, inl, inr, arith}
use Rattle.std.specs.Prelude.{◌≢◌}
use Rattle.std.proofs.lemmas.Bool.{cases_eq, cases_lt}
use Rattle.std.proofs.lemmas.List.{length-set}
use Rattle.ct_merge.specs.Proposers.{line_in}
use Rattle.ct_logs.proofs.Slots.{log_at, log_past, log_set_here, log_set_other}
use Rattle.ct_logs.proofs.places.name_all.Goals as goal

pub loop-i-preserved : goal.loop-i-preserved
loop-i-preserved c =
    let i = c.loop-i.i in
    let logs = c.loop-i.logs in
    let log = c.name_log.new.log in
    let f = line_in c.args.group in
    let lt : i < length logs = omega arith in
    record {
      size = length-set logs i log ∙ c.loop-i.invariant.size;
      named = λ p h. elim (cases_eq (p - 1) i) [
        | inl here ↦
            log_set_here logs i p log here lt ∙ c.name_log.ensures ∙ ap (map f) (sym (log_at logs i p _ here lt))
            ∙ ap (map f) (c.loop-i.invariant.rest p (omega (arith, here)))
        | inr other ↦ log_set_other logs i p log other ∙ c.loop-i.invariant.named p (omega (arith, h))
      ];
      rest = λ p h.
          let other : p - 1 ≢ i = omega (arith, h) in
          log_set_other logs i p log other ∙ c.loop-i.invariant.rest p (omega (arith, h));
    }

pub returns : goal.returns
returns c p =
    let f = line_in c.args.group in
    elim (cases_lt (p - 1) c.loop-i.i) [
      | inl less ↦ c.loop-i.invariant.named p less
      | inr more ↦
          let past = log_past c.args.logs.now p (omega (arith, c.loop-i.invariant.size)) in
          c.loop-i.invariant.rest p more ∙ past ∙ ap (map f) (sym past)
    ]

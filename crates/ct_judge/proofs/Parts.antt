-- Lines that were broken off.
use Rattle.std.proofs.Common.{◌≡◌, Some, None, ap, subst, sym}
use Rattle.ct_grammar.specs.declared.play.Play.{Play}
use Rattle.ct_play.specs.Parts.{IsPartOf}
use Rattle.ct_play.specs.Played.{Played}
use Rattle.ct_judge.specs.Parts.{IsPartIn, IsPlayedPart}
use Rattle.ct_judging.specs.Standing.{Standing}

pub in_world : (s t : Standing) (w v : Played) (play : Play) → s.played ≡ Some w → t ≡ record s { played = Some v } →
    IsPartOf w play v → IsPlayedPart s play t
in_world s t w v play there is part = record {
  heading = ap (λ u. u.heading) is;
  played = subst (λ o. IsPartIn o play t.played) (sym there)
      (subst (λ o. IsPartIn (Some w) play o) (sym (ap (λ u. u.played) is)) part);
}

pub in_none : (s t : Standing) (play : Play) → s.played ≡ None → t ≡ s → IsPlayedPart s play t
in_none s t play none is = record {
  heading = ap (λ u. u.heading) is;
  played = subst (λ (u : Standing). IsPartIn s.played play u.played) (sym is)
      (subst (λ o. IsPartIn o play o) (sym none) tt);
}

pub ruleset in_worlds = (in_world, in_none)

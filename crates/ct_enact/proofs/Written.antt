-- Schedules that were played, of logs that are accepted.
use Rattle.std.proofs.Common.{◌≡◌, ℕ, List, Option, Some, None, Result, Ok, sym, ap, ◌∙◌, subst}
use Rattle.ct_order.specs.declared.reading.Judged.{Judged}
use Rattle.ct_order.specs.Ending.{IsAccepted, UnlessFollowed}
use Rattle.ct_order.specs.Orders.{IsAtomic}
use Rattle.ct_order.specs.Reading.{Logs, standings_of}
use Rattle.ct_order.specs.Scanning.{Fault}
use Rattle.ct_enact.specs.Enacting.{IsPlayed, IsScheduleOf}
use Rattle.ct_enact.proofs.Enacted.{is_enacted}

same_logs : (a b : Logs) → ◌≡◌ {A = Result Logs Fault} (Ok a) (Ok b) → a ≡ b
same_logs a b e = cc

pub is_schedule : (texts : List (List ℕ)) (judged : Judged) (text : List ℕ) → IsAccepted texts judged → IsPlayed judged text →
    IsScheduleOf texts text
is_schedule texts judged text (read, atomic) p =
    let ends = standings_of judged.ends.items in
    let one = same_logs (record { said = atomic.0; ends = atomic.1 }) (record { said = read.said; ends = ends })
    (sym atomic.2 ∙ read.has_said) in
    let holds : IsAtomic read.said = subst IsAtomic (ap (λ (l : Logs). l.said) one) atomic.3 in
    record {
      said = read.said;
      ends = ends;
      has_said = read.has_said;
      atomic = holds;
      run = p.run;
      plays = p.plays;
      enacted = is_enacted judged.table read.said ends p.run read.knows holds p.safe.safe p.matches;
    }

pub unless : {P : Type 0} (pace : Option P) (A B : Type 0) → (A → B) → UnlessFollowed pace A → UnlessFollowed pace B
unless None A B f a = f a
unless (Some pace) A B f a = tt

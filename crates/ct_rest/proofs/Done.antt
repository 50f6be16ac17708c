-- At rest all is done.
use Rattle.std.proofs.Common.{◌≡◌, ℕ, List, None, subst}
use Rattle.ct_names.specs.Membership.{IsIn}
use Rattle.ct_names.specs.Message.{Message}
use Rattle.ct_model.specs.declared.step.Step.{Step}
use Rattle.ct_model.specs.declared.wire.Wire.TheVariants.{Data}
use Rattle.ct_model.specs.Setting.{Setting}
use Rattle.ct_model.specs.State.{State, member}
use Rattle.ct_model.specs.Received.{received_by}
use Rattle.ct_model.specs.Safe.{delivered_by}
use Rattle.ct_model.specs.Senders.{senders}
use Rattle.ct_model.proofs.Basics.Options.{none-from}
use Rattle.ct_model.proofs.Consensus.Readings
use Rattle.ct_model.proofs.Record.Senders.{IsPosted, letter}
use Rattle.ct_model.proofs.Relay.Messages.{received-by}
use Rattle.ct_rest.specs.Rest.{IsUp, IsAtRest, IsDone}
use Rattle.ct_rest.proofs.Levels.{came, same_delivered, delivers_received, all_open}
use Rattle.ct_rest.proofs.Posts.{posts-run}
use Rattle.ct_rest.proofs.Rounds.{open_not}

module _ (s : Setting) (steps : List Step) (g : State) (rest : IsAtRest s steps g) where
  none_open : (p : ℕ) → IsUp s g p → (member g p).current ≡ None
  none_open p isp = none-from (member g p).current
      (λ c is. open_not s steps g rest (member g p).last (λ q isq. all_open s steps g rest p q isp isq c is) p isp)

  delivers : (p q : ℕ) → IsUp s g p → IsUp s g q → (m : Message) → IsIn m (received_by g q) → IsIn m (delivered_by g p)
  delivers p q isp isq m h =
      rw (same_delivered s steps g rest p q isp isq) (delivers_received s steps g rest q isq (none_open q isq) m h)

  pub all_done : (p q : ℕ) → IsUp s g p → IsUp s g q → IsDone g p q
  all_done p q isp isq = record {
    idle = none_open p isp;
    same = same_delivered s steps g rest p q isp isq;
    received = delivers p q isp isq;
    submitted = λ m h own.
        let sent = subst (λ z. IsPosted (senders s steps) g.sent z (letter q (Data m))) own
        ((posts-run s steps g rest.runs).submitted m h q isq.member) in
        delivers p q isp isq m (rw (received-by g q) (Readings.got-received (member g q).got m
        (came s steps g rest q q (Data m) isq isq sent)));
  }

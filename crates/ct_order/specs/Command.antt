-- The words that `order` takes, and the statuses that it ends with. `clap` gives what its commands make of words.
use Rattle.std.specs.Prelude.{ℕ, false, List, [], ◌∷◌, codes, fold}
use Rattle.clap.specs.Words.{App, Row, Rule, new_app, with_rule}
use Rattle.ct_streams.specs.Arguments.{files_rule, flag_rule}
use Rattle.ct_streams.specs.Following.{idle_rule}
use Rattle.ct_streams.specs.Values.{is_set}
use Rattle.ct_streams.specs.declared.status.Status.TheVariants as status
use Rattle.ct_streams.specs.Statuses.{code}
use Rattle.ct_order.specs.declared.asked.Asked.{Asked}
use Rattle.ct_order.specs.declared.order_fault.OrderFault.{OrderFault}
use Rattle.ct_order.specs.declared.order_fault.OrderFault.TheVariants as fault
use Rattle.ct_order.specs.declared.wrong.Wrong.{Wrong}
use Rattle.ct_order.specs.declared.wrong.Wrong.TheVariants.{NoLog, Limit, Incomplete}

-- an option with no value that may not stand beside another
abbrev pub alone_rule : List ℕ → Rule
alone_rule name = record (flag_rule name) { is_free = false }

-- one log or several, what is asked of them besides, in what form it is told, whether they are followed, and for how long without a line
abbrev pub order_app : App
order_app =
    fold with_rule (new_app (codes "order"))
    (files_rule ∷ flag_rule (codes "settled") ∷ flag_rule (codes "fifo") ∷ flag_rule (codes "json") ∷ alone_rule (codes "schedule")
    ∷ alone_rule (codes "all") ∷ flag_rule (codes "follow") ∷ idle_rule ∷ [])

abbrev pub asked_in : List Row → Asked
asked_in rows = record {
  settled = is_set rows (codes "settled");
  fifo = is_set rows (codes "fifo");
  json = is_set rows (codes "json");
  all = is_set rows (codes "all");
}

-- logs that are incomplete have a status of their own, and so has a limit
abbrev pub status_in : Wrong → ℕ
status_in NoLog = code status.NoRecord
status_in Incomplete = 6
status_in Limit = 8
status_in _ = code status.Refused

abbrev pub status_of : OrderFault → ℕ
status_of (fault.Wrong wrong text json) = status_in wrong
status_of fault.Logs = 8
status_of fault.Twice = code status.Words
status_of (fault.File why text) = code status.Stream
status_of (fault.Changed text) = code status.Stream
status_of fault.Write = code status.Stream
status_of fault.Memory = code status.Memory

use Rattle.std.proofs.Common.{[], ◌∷◌, rules, subst}
use Rattle.ct_order.specs.declared.no_line.NoLine.TheVariants.{Long}
use Rattle.ct_order.specs.Scanning.{Scanning}
use Rattle.ct_order.specs.Taking.{IsUnreadOf, Stops}
use Rattle.ct_order.proofs.Scanned.{too_long}
use Rattle.ct_order.proofs.scan.Scan.take_byte.Goals as goal

pub returns-then-len-ge-MAX_LINE : goal.returns-then-len-ge-MAX_LINE
returns-then-len-ge-MAX_LINE c =
    subst (λ (s : Scanning). Stops c.args.log s c.args.table.now (c.args.byte ∷ []) c.no_line.result) c.self.view_is
    (too_long c.args.log (record { standing = c.self.inside.standing; pending = c.self.inside.pending.items }) c.args.table.now c.args.byte
    (search rules) (search rules) c.no_line.result
    (subst (λ n. IsUnreadOf n Long c.no_line.result) c.next_number-line.ensures c.no_line.ensures))

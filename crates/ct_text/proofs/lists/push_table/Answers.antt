use Rattle.std.proofs.Common.{◌≡◌, arith}
use Rattle.std.specs.Prelude.{string_bytes}
use Rattle.ct_text.proofs.Pieces.{written_none}
use Rattle.ct_text.proofs.Found.{register_taken, register_passed, table_written}
use Rattle.ct_text.proofs.lists.push_table.Goals as goal
use Rattle.ct_text.proofs.lists.push_table.Goals.{in-Some+in_ok-push_separator+in_ok-push_register, in_default}

pub loop-register-init : goal.loop-register-init
loop-register-init c = written_none 32 (string_bytes c.args.text.now)

pub loop-register-preserved : goal.loop-register-preserved
loop-register-preserved c = elim c.match-value_of.branch [
  | in-Some+in_ok-push_separator+in_ok-push_register x ↦
      rw (x.text-is, x.later-is) (register_taken c.args.table.now c.loop-register.register x.in-Some.value _ _ _ _ _
      c.loop-register.invariant x.in-Some.ensures x.in_ok-push_separator.ensures x.in_ok-push_register.ensures)
  | in_default x ↦ rw (x.text-is, x.later-is) (register_passed c.args.table.now c.loop-register.register _ _ _ c.loop-register.invariant
      x.in_default.ensures)
]

pub returns : goal.returns
returns c =
    let all : c.loop-register.register ≡ 16 = omega arith in
    table_written c.push_dash.result c.args.table.now c.loop-register.register _ _ _ _ all c.loop-register.invariant c.push_dash.ensures

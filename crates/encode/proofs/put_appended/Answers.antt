-- `encode::put_appended` meets its contract: the entry goes behind the place of the log, then the log before it.
use mathlib.Core.Path.{ap, ◌∙◌}
use mathlib.Core.Bool.{not}
use native.Mathlib.Omega.{arith}
use Rattle.encode.proofs.Tails.{some_entry, appended-none, appended-room, appended-written}
use Rattle.encode.proofs.put_appended.Goals as goal

pub returns-then-is_none : goal.returns-then-is_none
returns-then-is_none c = appended-none _ _ (c.is_none.ensures ∙ ap not c.if-is_none.true) c.args.op _ _

pub unwrap-more-requires : goal.unwrap-more-requires
unwrap-more-requires c = some_entry _ _ _ _ _ _ _ c.requires.1.0 c.append_operation.ensures

pub put_log-requires : goal.put_log-requires
put_log-requires c =
    let m = (rw c.unwrap-more.ensures at c.append_operation.ensures).1.size in
    let r = appended-room c.args.op c.requires.0 (c.is_none.ensures ∙ ap not c.if-is_none.false) c.log_size.ensures _ c.args.out.now c.requires.1.1 m in
    (c.requires.0, omega arith)

pub overflow_add-result : goal.overflow_add-result
overflow_add-result c =
    let m = (rw c.unwrap-more.ensures at c.append_operation.ensures).1.size in
    let r = appended-room c.args.op c.requires.0 (c.is_none.ensures ∙ ap not c.if-is_none.false) c.log_size.ensures _ c.args.out.now c.requires.1.1 m in
    omega arith

pub returns : goal.returns
returns c =
    let w = (rw c.unwrap-more.ensures at c.append_operation.ensures).1 in
    appended-written c.args.op c.requires.0 (c.is_none.ensures ∙ ap not c.if-is_none.false) c.log_size.ensures _ _ c.requires.1.1 w c.put_log.ensures

-- `cda_storage::logs::canonical` meets its contract.
use Rattle.std.proofs.lemmas.Result.{err_from_is_err_and}
use mathlib.Core.Path.{sym}
use native.Mathlib.Omega.{arith}
use Rattle.basic_laws.specs.Tests.{all-at}
use Rattle.basic_laws.specs.FieldLaws.{Byte}
use Rattle.cda_storage.proofs.CanonicalLogs.{over-limit, out-short, header-missing, put-asks, not-whole, put_whole}
use Rattle.cda_storage.proofs.logs.canonical.Goals as goal

pub returns-then-log-gt-LOG_LIMIT : goal.returns-then-log-gt-LOG_LIMIT
returns-then-log-gt-LOG_LIMIT c = over-limit c.args.log.now c.args.out.now c.if-log-gt-LOG_LIMIT.true

pub returns-then-out-log : goal.returns-then-out-log
returns-then-out-log c = out-short c.args.log.now c.args.out.now c.if-log-gt-LOG_LIMIT.false c.if-out-log.true

pub returns-in_default : goal.returns-in_default
returns-in_default c = header-missing c.args.log.now c.args.out.now c.if-log-gt-LOG_LIMIT.false c.if-out-log.false (sym c.in_default.ensures.valid)

pub put_log-requires : goal.put_log-requires
put_log-requires c = put-asks c.args.log.now c.args.out.now c.if-log-gt-LOG_LIMIT.false c.if-out-log.false c.in-Some.ensures.valid

pub returns-in_err-whole : goal.returns-in_err-whole
returns-in_err-whole c =
    let p = err_from_is_err_and c.from_residual.result c.from_residual.ensures.1 in
    rw (p.1, p.2)
    (not-whole c.args.log.now c.args.out.now c.if-log-gt-LOG_LIMIT.false c.if-out-log.false c.in-Some.ensures.valid c.read_wal.ensures _ c.in_err-whole.ensures)

pub returns : goal.returns
returns c =
    put_whole c.args.log.now c.args.out.now c.if-log-gt-LOG_LIMIT.false c.if-out-log.false c.in-Some.ensures.valid
    c.read_wal.ensures (all-at Byte 0 c.args.log.now (λ i. omega (arith, c.type_inv.log i)))
    c.in_ok-whole.ensures (rw (← c.in-Some.ensures.byte) at c.put_log.ensures)

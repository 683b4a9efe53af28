-- `cda_storage::logs::cause_of` meets its contract.
use Rattle.std.proofs.lemmas.Result.{err_from_is_err_and}
use mathlib.Core.Path.{sym, ◌∙◌}
use Rattle.cda_storage.proofs.LogRead.{too_long, no_header, not-read, cause-read}
use Rattle.cda_storage.proofs.logs.cause_of.Goals as goal

pub returns-then-log-gt-LOG_LIMIT : goal.returns-then-log-gt-LOG_LIMIT
returns-then-log-gt-LOG_LIMIT c = too_long c.args.log.now c.if-log-gt-LOG_LIMIT.true

pub returns-then-is_none : goal.returns-then-is_none
returns-then-is_none c = no_header c.args.log.now c.if-log-gt-LOG_LIMIT.false (sym c.open_wal.ensures.valid ∙ c.if-is_none.ensures)

pub returns-in_err-readable : goal.returns-in_err-readable
returns-in_err-readable c =
    let p = err_from_is_err_and c.from_residual.result c.from_residual.ensures.1 in
    rw (p.1, p.2)
    (not-read c.args.log.now c.if-log-gt-LOG_LIMIT.false (sym c.if-is_none.ensures ∙ c.open_wal.ensures.valid) c.read_wal-ending.ensures _ c.in_err-readable.ensures)

pub returns : goal.returns
returns c =
    cause-read c.args.log.now c.if-log-gt-LOG_LIMIT.false (sym c.if-is_none.ensures ∙ c.open_wal.ensures.valid) c.read_wal-ending.ensures
    c.in_ok-readable.ensures (c.cause_number.ensures ∙ c.cause.ensures)

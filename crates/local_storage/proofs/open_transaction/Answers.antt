-- `open_transaction` meets its contract.
use mathlib.Core.Path.{sym, ◌∙◌}
use Rattle.local_storage.proofs.Opened.{closed, no-log, found, unfinished}
use Rattle.local_storage.proofs.open_transaction.Goals as goal

pub returns-then-not-is_recording : goal.returns-then-not-is_recording
returns-then-not-is_recording c = closed _ _ c.is_recording.ensures c.if-not-is_recording.true

pub returns-in_err-l : goal.returns-in_err-l
returns-in_err-l c = absurd (no-log c.args.src.now c.args.store.now c.is_recording.ensures c.if-not-is_recording.false c.in_err-l.was)

pub returns-then-is_whole : goal.returns-then-is_whole
returns-then-is_whole c =
    found c.args.src.now c.args.store.now c.is_recording.ensures c.in_ok-l.was c.requires (rw (c.from-start.ensures, c.from.ensures) at c.read_wal-read.ensures)
    c.if-not-is_recording.false (sym c.is_whole.ensures ∙ c.if-is_whole.true)

pub returns : goal.returns
returns c =
    unfinished c.args.src.now c.args.store.now c.is_recording.ensures c.in_ok-l.was c.requires (rw (c.from-start.ensures, c.from.ensures) at c.read_wal-read.ensures)
    c.if-not-is_recording.false (sym c.is_whole.ensures ∙ c.if-is_whole.false)

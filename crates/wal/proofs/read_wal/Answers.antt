-- `wal::read_wal` meets its contract: the entries behind the header.
use mathlib.Core.Path.{sym, ◌∙◌}
use mathlib.Core.Logic.{inl, inr}
use native.Mathlib.Omega.{arith}
use Rattle.transaction.proofs.Payloads.{bounds}
use Rattle.wal.proofs.Walks.{no-log, behind-header}
use Rattle.wal.proofs.read_wal.Goals as goal
use Rattle.wal.proofs.read_wal.Goals.{then-end-start-lt-WAL_FILE_HEADER_SIZE, else-end-start-lt-WAL_FILE_HEADER_SIZE}

pub returns-then-not-in_bounds : goal.returns-then-not-in_bounds
returns-then-not-in_bounds c = no-log (sym c.in_bounds.ensures ∙ c.if-not-in_bounds.true) c.new.ensures

pub overflow_sub-end : goal.overflow_sub-end
overflow_sub-end c = let b = bounds _ _ _ (sym c.in_bounds.ensures ∙ c.if-not-in_bounds.false) in b.ordered

pub walk_entries-requires : goal.walk_entries-requires
walk_entries-requires c =
    let b = bounds _ _ _ (sym c.in_bounds.ensures ∙ c.if-not-in_bounds.false) in
    elim c.if-end-start-lt-WAL_FILE_HEADER_SIZE.branch [
      | then-end-start-lt-WAL_FILE_HEADER_SIZE w ↦ record { ordered = omega arith; within = b.within; short = b.short }
      | else-end-start-lt-WAL_FILE_HEADER_SIZE w ↦ record { ordered = omega arith; within = b.within; short = b.short }
    ]

pub returns : goal.returns
returns c =
    let b = bounds _ _ _ (sym c.in_bounds.ensures ∙ c.if-not-in_bounds.false) in
    elim c.if-end-start-lt-WAL_FILE_HEADER_SIZE.branch [
      | then-end-start-lt-WAL_FILE_HEADER_SIZE w ↦ behind-header b (inr (w.first-is, omega arith)) c.walk_entries.ensures
      | else-end-start-lt-WAL_FILE_HEADER_SIZE w ↦ behind-header b (inl w.first-is) c.walk_entries.ensures
    ]

-- `wal::entry_at` meets its contract, one law for each test.
use native.Mathlib.Omega.{arith}
use Rattle.wal.proofs.Heads.{no-head, no_payload, cut_off, Headed}
use Rattle.wal.proofs.entry_at.Goals as goal
use Rattle.wal.proofs.entry_at.Goals.{then-len-eq0-via-then-len-eq0, then-len-eq0-via-else-len-eq0+then-saturating_sub-len}

pub returns-then-saturating_sub-lt-ENTRY_HEADER_SIZE : goal.returns-then-saturating_sub-lt-ENTRY_HEADER_SIZE
returns-then-saturating_sub-lt-ENTRY_HEADER_SIZE c = no-head _ _ (omega arith)

pub returns-then-len-eq0 : goal.returns-then-len-eq0
returns-then-len-eq0 c =
    let h : Headed c.args.log.now c.args.at c.u32_at-len.result = record { head = omega arith; length-read = c.u32_at-len.ensures } in
    elim c.then-len-eq0.branch [
      | then-len-eq0-via-then-len-eq0 w ↦ no_payload h w.if-len-eq0.true
      | then-len-eq0-via-else-len-eq0+then-saturating_sub-len w ↦ cut_off h (omega arith)
    ]

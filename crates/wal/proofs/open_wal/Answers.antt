-- `wal::open_wal` meets its contract, one law for each test.
use mathlib.Core.Path.{◌≡◌, sym, ◌∙◌}
use mathlib.Core.Bool.{false}
use native.Mathlib.Omega.{arith}
use Rattle.model.specs.Log.{valid_header}
use Rattle.wal.proofs.Headers.{Opened, short-log, no_status, wrong-magic, wrong_crc, header-valid, none_journal, some_journal, status_of, statusless}
use Rattle.wal.proofs.open_wal.Goals as goal
use Rattle.wal.proofs.open_wal.Goals.{else-log-via-then-log+else-u32_at-header_checksum, else-log-via-else-log}

pub returns-then-log-lt-WAL_FILE_HEADER_SIZE : goal.returns-then-log-lt-WAL_FILE_HEADER_SIZE
returns-then-log-lt-WAL_FILE_HEADER_SIZE c = let v = short-log _ (omega arith) in record { journal = none_journal _ v; valid = v; byte = tt }

pub returns-in_err-status : goal.returns-in_err-status
returns-in_err-status c =
    let v = no_status _ (statusless _ c.in_err-status.ensures.value c.try_from.ensures) in
    rw c.from_residual.ensures (record { journal = none_journal _ v; valid = v; byte = tt })

pub returns-then-u32_at-header_checksum : goal.returns-then-u32_at-header_checksum
returns-then-u32_at-header_checksum c =
    let b = status_of _ c.in_ok-status.ensures.value c.try_from.ensures in
    let o : Opened c.args.log.now c.in_ok-status.status c.header_checksum.result = record { long = omega arith; magic = c.if-log.true; byte = b; bytes = λ i. omega (arith, c.type_inv.log i); right = c.header_checksum.ensures; fits = omega arith } in
    let v = header-valid o (sym c.u32_at.ensures ∙ c.if-u32_at-header_checksum.true) in
    record { journal = some_journal _ _ v b; valid = v; byte = b }

pub returns-else-log : goal.returns-else-log
returns-else-log c =
    let b = status_of _ c.in_ok-status.ensures.value c.try_from.ensures in
    let v : false ≡ valid_header c.args.log.now =
    elim c.else-log.branch [
      | else-log-via-then-log+else-u32_at-header_checksum w ↦
          let o : Opened c.args.log.now c.in_ok-status.status w.header_checksum.result = record { long = omega arith; magic = w.if-log.true; byte = b; bytes = λ i. omega (arith, c.type_inv.log i); right = w.header_checksum.ensures; fits = omega arith } in
          wrong_crc o (λ q. w.if-u32_at-header_checksum.false (w.u32_at.ensures ∙ q))
      | else-log-via-else-log w ↦ wrong-magic _ w.if-log.false
    ] in
    record { journal = none_journal _ v; valid = v; byte = tt }

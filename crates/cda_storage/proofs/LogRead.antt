-- A log that is lent alone, by what `open_wal` and `read_wal` answered.
use mathlib.Core.Path.{◌≡◌, sym, ap, ◌∙◌}
use mathlib.Core.Bool.{true, false}
use Prim.Native.Nat.{ℕ, ◌-◌, ◌≤◌, ◌<◌}
use native.Mathlib.Omega.{arith}
use lib.ListN.{length, take}
use lib.Seq.{take-length}
use borrow.Author.Tests.{le-leb, lt-leb}
use Rattle.std.proofs.Common.{ne_eqb}
use Rattle.basics.specs.Limits.{log_limit}
use Rattle.basics.specs.Base.{Bytes}
use Rattle.model.specs.Log.{valid_header, Entries, entries, ending_cause}
use Rattle.answers.specs.Answers.{reading_number, log_cause}
use Rattle.refusals.specs.Numbers.{number_of}
use Rattle.refusals.specs.declared.Refusal.{Refusal}
use Rattle.steps.proofs.Running.{some-number}
use Rattle.transaction.specs.Operations.{Bounds}
use Rattle.wal.specs.Logs.{ending_of, ReadsLog}
use Rattle.wal.specs.declared.WalRead.{WalRead}
use Rattle.wal.proofs.Walks.{entries-there}
use Rattle.handover.specs.Contract.{CauseGives}

-- The ways out.
module _ (l : Bytes) where
  pub too_long : log_limit < length l → (cause : ℕ) → CauseGives (log_cause l) 1 cause cause
  unfolding log_cause
  too_long h cause = let b = lt-leb (length l) log_limit h in record { number = rw b; told = rw b }

  module _ (h : length l ≤ log_limit) where
    pub no_header : valid_header l ≡ false → (cause : ℕ) → CauseGives (log_cause l) 21 cause cause
    unfolding log_cause
    no_header v cause = let b = le-leb (length l) log_limit h in record { number = rw (b, v); told = rw (b, v) }

    pub read_whole : {w : WalRead} → ReadsLog l 0 (length l) w → ending_of w.ending ≡ (entries l).end
    read_whole r =
        let b : Bounds l 0 (length l) = record { ordered = omega arith; within = omega arith; short = omega (arith, h) } in
        let z : length l - 0 ≡ length l = omega arith in
        ap (λ (e : Entries). e.end) (r.same ∙ entries-there b ∙ ap (λ (n : ℕ). entries (take n l)) z ∙ ap entries (take-length l))

    module _ (v : true ≡ valid_header l) {w : WalRead} (r : ReadsLog l 0 (length l) w) where
      number-is : {n : ℕ} → n ≡ reading_number (ending_of w.ending) → n ≡ (log_cause l).number
      unfolding log_cause
      number-is n = n ∙ rw (read_whole r, le-leb (length l) log_limit h, sym v)

      pub not-read : (e : Refusal) → number_of e ≡ reading_number (ending_of w.ending) → (cause : ℕ) → CauseGives (log_cause l) (number_of e) cause cause
      not-read e n cause = record { number = number-is n; told = rw (ne_eqb (log_cause l).number 0 (λ z. some-number e (number-is n ∙ z))) }

      pub cause-read : 0 ≡ reading_number (ending_of w.ending) → {broke : ℕ} → broke ≡ ending_cause (ending_of w.ending) → (cause : ℕ) → CauseGives (log_cause l) 0 cause broke
      unfolding log_cause
      cause-read n c cause =
          let b = le-leb (length l) log_limit h in
          let q = read_whole r in
          record { number = number-is n; told = c ∙ rw (sym (number-is n), q, b, sym v) }

-- The one way to write a log that is lent alone, by what was read of it and what was written.
use mathlib.Core.Path.{◌≡◌, refl, sym, ap, subst, ◌∙◌}
use mathlib.Core.Bool.{true, false}
use mathlib.Core.List.{[]}
use Prim.Native.Nat.{ℕ, ◌-◌, ◌≤◌, ◌<◌}
use native.Mathlib.Omega.{arith}
use lib.ListN.{length, take, drop, get_or, length-drop}
use lib.Seq.{take-length}
use borrow.Author.Tests.{le-leb, lt-leb}
use Rattle.basics.specs.Limits.{log_limit}
use Rattle.basics.specs.Base.{Bytes}
use Rattle.basics.specs.Field.{little_endian}
use Rattle.model.specs.Log.{Ending, whole, truncated, undecodable, too_many, header, valid_header, entries, with_status, write_log}
use Rattle.answers.specs.Answers.{Answer, overwritten, whole_number, canonical_by, canonical_log}
use Rattle.basic_laws.specs.Tests.{All}
use Rattle.basic_laws.specs.FieldLaws.{Byte}
use Rattle.laws.specs.CanonicalLaws.{write_same}
use Rattle.refusals.specs.Numbers.{number_of}
use Rattle.refusals.specs.declared.Refusal.{Refusal}
use Rattle.steps.proofs.Running.{some-number}
use Rattle.answer_laws.specs.CanonicalLog.{eight, rewritten-length}
use Rattle.field.specs.Writing as field
use Rattle.field.proofs.Written.{written_then, written-front}
use Rattle.wal.specs.Logs.{ending_of, ReadsLog}
use Rattle.wal.specs.declared.WalRead.{WalRead}
use Rattle.handover.specs.Contract.{Gives}
use Rattle.handover.proofs.Outputs.{left_alone, gives}
use Rattle.cda_storage.proofs.LogRead.{read_whole}

-- The header, then the log's bytes behind its own: the log under that header.
pub log-put : (status : ℕ) (l out : Bytes) {mid end : Bytes} → 8 ≤ length l → length l ≤ length out → mid ≡ field.written 0 (header status) out
    → end ≡ field.written 8 (take (length l - 8) (drop 8 l)) mid → end ≡ overwritten (with_status status l) out
unfolding header little_endian
log-put status l out h r p q =
    let d = length-drop 8 l in
    let t : take (length l - 8) (drop 8 l) ≡ drop 8 l = ap (λ (n : ℕ). take n (drop 8 l)) (sym d) ∙ take-length (drop 8 l) in
    let e = written_then 0 8 (header status) (drop 8 l) out p (q ∙ rw t) refl (omega (arith, d)) in
    e ∙ written-front (with_status status l) out (omega (arith, d))

-- The ways out.
module _ (l out : Bytes) where
  pub over-limit : log_limit < length l → (written : ℕ) → Gives (canonical_log l (length out)) 1 out out written written
  unfolding canonical_log
  over-limit h written = left_alone refl (rw (lt-leb (length l) log_limit h))

  module _ (h : length l ≤ log_limit) where
    pub out-short : length out < length l → (written : ℕ) → Gives (canonical_log l (length out)) 2 out out written written
    unfolding canonical_log
    out-short r written = left_alone refl (rw (le-leb (length l) log_limit h, lt-leb (length l) (length out) r))

    module _ (r : length l ≤ length out) where
      pub header-missing : valid_header l ≡ false → (written : ℕ) → Gives (canonical_log l (length out)) 21 out out written written
      unfolding canonical_log
      header-missing v written = left_alone refl (rw (le-leb (length l) log_limit h, le-leb (length l) (length out) r, v))

      module _ (v : true ≡ valid_header l) where
        pub put-asks : (8 ≤ length l) × (length l ≤ length out)
        put-asks = (eight l (sym v), r)

        module _ {w : WalRead} (s : ReadsLog l 0 (length l) w) where
          is : canonical_log l (length out) ≡ canonical_by (get_or l 1 0) (entries l).ops (entries l).end
          unfolding canonical_log
          is = rw (le-leb (length l) log_limit h, le-leb (length l) (length out) r, sym v)

          by-ending : {n : ℕ} → n ≡ whole_number (ending_of w.ending) → n ≡ whole_number (entries l).end
          by-ending n = n ∙ ap whole_number (read_whole l h s)

          pub not-whole : (e : Refusal) → number_of e ≡ whole_number (ending_of w.ending) → (written : ℕ) → Gives (canonical_log l (length out)) (number_of e) out out written written
          not-whole e n written = subst (λ (a : Answer). Gives a (number_of e) out out written written) (sym is) (go (entries l).end (by-ending n))
            where
              go : (d : Ending) → number_of e ≡ whole_number d → Gives (canonical_by (get_or l 1 0) (entries l).ops d) (number_of e) out out written written
              go whole q = absurd (some-number e q)
              go (truncated c) q = left_alone (rw q) (rw q)
              go undecodable q = left_alone (rw q) (rw q)
              go too_many q = left_alone (rw q) (rw q)

          ended-whole : 0 ≡ whole_number (ending_of w.ending) → (entries l).end ≡ whole
          ended-whole n = go (entries l).end (by-ending n)
            where
              go : (d : Ending) → 0 ≡ whole_number d → d ≡ whole
              go whole q = refl
              go (truncated c) q = absurd (omega (arith, q))
              go undecodable q = absurd (omega (arith, q))
              go too_many q = absurd (omega (arith, q))

          pub put_whole : All Byte l → 0 ≡ whole_number (ending_of w.ending) → {out' : Bytes} → out' ≡ overwritten (with_status (get_or l 1 0) l) out → (written : ℕ)
              → Gives (canonical_log l (length out)) 0 out out' written (length l)
          put_whole b n p written =
              let e = ended-whole n in
              let a : canonical_log l (length out) ≡ record { number = 0; image = write_log (get_or l 1 0) (entries l).ops; step = [] } = is ∙ rw e in
              gives refl (sym (ap (λ (x : Answer). x.number) a)) (sym (ap (λ (x : Answer). x.image) a ∙ write_same (get_or l 1 0) l b e))
              (record { same = p; size = sym (rewritten-length (get_or l 1 0) l (eight l (sym v))) })

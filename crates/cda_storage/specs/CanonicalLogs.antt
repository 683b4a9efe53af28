-- 02, item 12, over calls of `cda_storage_canonical_log`: what a call that answers 0 hands back is "the log with the same status and operations and zeros in
-- those bytes"; "Writing it again changes nothing. Two such logs have equal status and operations exactly if what is written for them is byte for byte equal."
-- `All Byte` is true of all lent bytes. Nothing here goes by status or kind, so "All three statuses and all seven kinds are covered".
use Rattle.std.specs.Prelude.{◌≡◌, refl, [], ◌∷◌, ℕ, ◌≤◌, length, take, drop, get_or}
use Rattle.std.proofs.Common.{sym, ap, ◌∙◌}
use Rattle.basics.specs.Base.{Bytes}
use Rattle.model.specs.Log.{entries}
use Rattle.answers.specs.Answers.{Answer, canonical_log}
use Rattle.basic_laws.specs.Tests.{All}
use Rattle.basic_laws.specs.FieldLaws.{Byte}
use Rattle.answer_laws.specs.CanonicalLog.{same_status, same_operations, zeros, again, equal-written, equal-read}
use Rattle.handover.specs.Contract.{hands_back}
use Rattle.cda_storage.specs.Calls.{Call, handed_back, handed}

module _ (l : Bytes) (bytes : All Byte l) (c : Call (canonical_log l) 0) where
  done : (canonical_log l (length c.out)).number ≡ 0
  done = sym c.gives.number

  is : handed_back c ≡ (canonical_log l (length c.out)).image
  is = handed c refl

  pub written_status : get_or (handed_back c) 1 0 ≡ get_or l 1 0
  written_status = ap (λ (w : Bytes). get_or w 1 0) is ∙ same_status l (length c.out) bytes done

  pub written_operations : entries (handed_back c) ≡ entries l
  written_operations = ap entries is ∙ same_operations l (length c.out) bytes done

  pub written-zeros : take 2 (drop 2 (handed_back c)) ≡ 0 ∷ 0 ∷ []
  written-zeros = ap (λ (w : Bytes). take 2 (drop 2 w)) is ∙ zeros l (length c.out) bytes done

  pub written-again : {n : ℕ} (d : Call (canonical_log (handed_back c)) n) → length l ≤ length d.out → (n ≡ 0) × (handed_back d ≡ handed_back c)
  written-again {n} d r = (number, handed d (ap hands_back number) ∙ ap (λ (a : Answer). a.image) same ∙ sym is)
    where
      same : canonical_log (handed_back c) (length d.out) ≡ record { number = 0; image = (canonical_log l (length c.out)).image; step = [] }
      same = ap (λ (w : Bytes). canonical_log w (length d.out)) is ∙ again l (length c.out) bytes done (length d.out) r

      number : n ≡ 0
      number = d.gives.number ∙ ap (λ (a : Answer). a.number) same

module _ (l m : Bytes) (lb : All Byte l) (mb : All Byte m) (c : Call (canonical_log l) 0) (d : Call (canonical_log m) 0) where
  pub equal-logs-written : get_or l 1 0 ≡ get_or m 1 0 → (entries l).ops ≡ (entries m).ops → handed_back c ≡ handed_back d
  equal-logs-written s o =
      handed c refl ∙ equal-written l m (length c.out) (length d.out) lb mb (sym c.gives.number) (sym d.gives.number) s o ∙ sym (handed d refl)

  pub equal-logs-read : handed_back c ≡ handed_back d → (get_or l 1 0 ≡ get_or m 1 0) × ((entries l).ops ≡ (entries m).ops)
  equal-logs-read e =
      equal-read l m (length c.out) (length d.out) lb mb (sym c.gives.number) (sym d.gives.number) (sym (handed c refl) ∙ e ∙ handed d refl)

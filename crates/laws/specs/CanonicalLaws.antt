-- A log that is read whole is its header and the entries of its operations: nothing else is read as them. 02, item 12.
use Rattle.std.specs.Prelude.{◌≡◌, refl, List, [], ◌∷◌, ◌++◌, true, ◌&&◌, ℕ, zero, suc, ◌+◌, ◌≤◌, length, take, drop, leb, if◌then◌else◌}
use Rattle.std.proofs.Common.{sym, ap, subst, arith, take-append-drop, length-take-le, drop-drop}
use Rattle.std.proofs.Math.Option.{Option, none, some}
use Rattle.std.proofs.lemmas.Bool.{false≢true}
use Rattle.basics.specs.Limits.{op_limit}
use Rattle.basics.specs.Base.{Bytes, case_option, flat_map, same_bytes, at_least}
use Rattle.basics.specs.Crc32.{crc32}
use Rattle.basics.specs.Field.{little_endian, from_little_endian}
use Rattle.model.specs.Operation.{Op, encode_payload, decode_payload}
use Rattle.model.specs.Log.{whole, truncated, undecodable, too_many, header_short, header, entry, first_payload, first_cause, stop, after, walk, entries, with_status, write_log}
use Rattle.basic_laws.specs.Tests.{All, all_take, all_drop, and_both, same-eq}
use Rattle.basic_laws.specs.FieldLaws.{Byte, bytes-again}
use Rattle.laws.specs.OperationLaws.{payload-only}
use Rattle.laws.specs.AppendLaws.{picked-some, not-whole}

-- The entries of operations, one behind the other.
abbrev pub entries_of : List Op → Bytes
entries_of ops = flat_map (λ o. entry (encode_payload o)) ops

pub at_least_le : (n : ℕ) (l : Bytes) → at_least n l ≡ true → n ≤ length l
at_least_le zero l e = omega arith
at_least_le (suc n) [] e = absurd (false≢true e)
at_least_le (suc n) (x ∷ l) e = let h = at_least_le n l e in omega arith

-- An entry that is whole is its payload's entry, and what stands behind it.
entry-only : (e p : Bytes) → All Byte e → first_payload e ≡ some p → e ≡ entry p ++ drop (length p) (drop 8 e)
unfolding first_payload entry
entry-only [] p h q = cc
entry-only (a ∷ []) p h q = cc
entry-only (a ∷ b ∷ []) p h q = cc
entry-only (a ∷ b ∷ c ∷ []) p h q = cc
entry-only (a ∷ b ∷ c ∷ d ∷ []) p h q = cc
entry-only (a ∷ b ∷ c ∷ d ∷ f ∷ []) p h q = cc
entry-only (a ∷ b ∷ c ∷ d ∷ f ∷ g ∷ []) p h q = cc
entry-only (a ∷ b ∷ c ∷ d ∷ f ∷ g ∷ i ∷ []) p h q = cc
entry-only (a ∷ b ∷ c ∷ d ∷ f ∷ g ∷ i ∷ j ∷ t) p h q = go (from_little_endian (f ∷ g ∷ i ∷ j ∷ [])) (bytes-again (f ∷ g ∷ i ∷ j ∷ []) (all_take Byte 4 (f ∷ g ∷ i ∷ j ∷ t) h.1.1.1.1)) q
  where
    go : (n : ℕ) → little_endian 4 n ≡ f ∷ g ∷ i ∷ j ∷ []
        → if◌then◌else◌ (true && leb 1 n && at_least n t && same_bytes (a ∷ b ∷ c ∷ d ∷ []) (little_endian 4 (crc32 (take n t)))) (some (take n t)) none ≡ some p
        → a ∷ b ∷ c ∷ d ∷ f ∷ g ∷ i ∷ j ∷ t ≡ (little_endian 4 (crc32 p) ++ little_endian 4 (length p) ++ p) ++ drop (length p) t
    go n w q =
        let k = picked-some _ (take n t) p q in
        let x = and_both (leb 1 n && at_least n t) (same_bytes (a ∷ b ∷ c ∷ d ∷ []) (little_endian 4 (crc32 (take n t)))) k.0 in
        let s : length (take n t) ≡ n = length-take-le n t (at_least_le n t (and_both (leb 1 n) (at_least n t) x.0).1) in
        let z : a ∷ b ∷ c ∷ d ∷ [] ≡ little_endian 4 (crc32 (take n t)) = same-eq _ _ x.1 in
        rw (← k.1, s, ← z, w) (ap (λ (r : Bytes). a ∷ b ∷ c ∷ d ∷ f ∷ g ∷ i ∷ j ∷ r) (sym (take-append-drop n t)))

payload-bytes : (e p : Bytes) → All Byte e → first_payload e ≡ some p → All Byte p
unfolding first_payload
payload-bytes e p h q =
    let n : ℕ = from_little_endian (take 4 (drop 4 e)) in
    let x : Bytes = take n (drop 8 e) in
    let k = picked-some (at_least 8 e && leb 1 n && at_least n (drop 8 e) && same_bytes (take 4 e) (little_endian 4 (crc32 x))) x p q in
    subst (All Byte) k.1 (all_take Byte n (drop 8 e) (all_drop Byte 8 e h))

-- So is what a walk reads whole: behind the first m bytes stand the entries of the operations that were read.
walk-only : (k m : ℕ) (l : Bytes) → All Byte l → (walk k m l).end ≡ whole → drop m l ≡ entries_of (walk k m l).ops
unfolding walk
walk-only k (suc m) [] h e = not-whole (truncated header_short) e refl
walk-only k (suc m) (x ∷ l) h e = walk-only k m l h.1 e
walk-only zero zero [] h e = refl
walk-only (suc k) zero [] h e = refl
walk-only zero zero (x ∷ l) h e = not-whole too_many e refl
walk-only (suc k) zero (x ∷ l) h e = go (λ m e. walk-only k m l h.1 e) (first_payload (x ∷ l)) refl e
  where
    decoded : (p : Bytes) → first_payload (x ∷ l) ≡ some p → ((m : ℕ) → (walk k m l).end ≡ whole → drop m l ≡ entries_of (walk k m l).ops) →
        (o : Option Op) → decode_payload p ≡ o → (case_option o (stop undecodable) (λ o. after o (walk k (7 + length p) l))).end ≡ whole →
        x ∷ l ≡ entries_of (case_option o (stop undecodable) (λ o. after o (walk k (7 + length p) l))).ops
    decoded p q ih none d e = not-whole undecodable e refl
    decoded p q ih (some o) d e =
        let b = payload-only p o (payload-bytes (x ∷ l) p h q) d in
        rw (b, ← (ih (7 + length p) e), ← (drop-drop (length p) 7 l)) (entry-only (x ∷ l) p h q)

    go : ((m : ℕ) → (walk k m l).end ≡ whole → drop m l ≡ entries_of (walk k m l).ops) → (o : Option Bytes) → first_payload (x ∷ l) ≡ o →
        (case_option o (stop (truncated (first_cause (x ∷ l)))) (λ p. case_option (decode_payload p) (stop undecodable) (λ o. after o (walk k (7 + length p) l)))).end ≡ whole →
        x ∷ l ≡ entries_of (case_option o (stop (truncated (first_cause (x ∷ l)))) (λ p. case_option (decode_payload p) (stop undecodable) (λ o. after o (walk k (7 + length p) l)))).ops
    go ih none q e = not-whole (truncated (first_cause (x ∷ l))) e refl
    go ih (some p) q e = decoded p q ih (decode_payload p) refl e

-- Rewriting a whole log by its status and operations changes its header alone, in bytes 2 and 3.
pub write_same : (status : ℕ) (l : Bytes) → All Byte l → (entries l).end ≡ whole → write_log status (entries l).ops ≡ with_status status l
unfolding write_log entries
write_same status l h e = ap (header status ++◌) (sym (walk-only op_limit 0 (drop 8 l) (all_drop Byte 8 l h) e))

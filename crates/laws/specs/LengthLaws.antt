-- "So at most 19,390 bytes", and how long a log of so many operations is.
use Rattle.std.specs.Prelude.{◌≡◌, ℕ, zero, suc, ◌+◌, ◌*◌, ◌≤◌, ◌<◌, List, [], ◌∷◌, ◌++◌, map, Bool, true, false, take, drop}
use Rattle.std.proofs.Math.Path.{refl, ap}
use Rattle.std.proofs.Common.{sym, length-take-le}
use native.Mathlib.Omega.{arith}
use Rattle.std.proofs.Math.Option.{Option, none, some}
use Rattle.std.proofs.Math.ListN.{length, length-append, length-drop}
use Rattle.basics.specs.Limits.{log_limit, image_room}
use Rattle.basics.specs.Order.{Name}
use Rattle.basics.specs.Map.{Map}
use Rattle.basic_laws.specs.MapLaws.{none≢some, some_inj, look-all}
use Rattle.basics.specs.Base.{Bytes, case_option, if_empty, flat_map}
use Rattle.basics.specs.Field.{little_endian, from_little_endian, Field, encode_field, encode_fields, fields_from, decode_fields}
use Rattle.model.specs.Operation.{Op, field_tags, kind, values, tagged, encode_payload, op_of_fields, decode_payload}
use Rattle.model.specs.Log.{Ending, whole, truncated, undecodable, too_many, header_short, entry, walk, entries, first_payload, first_cause, stop, after, recording, read_journal, append_operation}
use Rattle.model.specs.Store.{Store}
use Rattle.model.specs.Image.{node_field, staged_field, log_field, mark_field, image_fields, encode}
use Rattle.basic_laws.specs.Tests.{All, nil≢cons}
use Rattle.basic_laws.specs.ValidNames.{valid-length, Naming}
use Rattle.laws.specs.ImageLaws.{regroup}
use Rattle.laws.specs.TreeLaws.{NodeGood, size, is_file, is_dir, one}
use Rattle.laws.specs.StoreLaws.{Good, StagedGood, LogFits}
use Rattle.laws.specs.OperationLaws.{ValidOp, decoded-valid, op-forth}
use Rattle.laws.specs.AppendLaws.{payload-length, not-whole, journal-parts, entry_length}

-- How long fields are when joined.
abbrev pub bulk : List Field → ℕ
bulk [] = 0
bulk (f ∷ fs) = 3 + length f.value + bulk fs

pub join-length : (fs : List Field) → length (encode_fields fs) ≡ bulk fs
unfolding encode_fields encode_field little_endian
join-length [] = refl
join-length (f ∷ fs) = let h = join-length fs in let k = length-append f.value (flat_map encode_field fs) in omega arith

bulk_append : (l r : List Field) → bulk (l ++ r) ≡ bulk l + bulk r
bulk_append [] r = omega arith
bulk_append (f ∷ l) r = let h = bulk_append l r in omega arith

nodes-bulk : {N : Name → Type 0} → Naming N → (u t : Map) → All (λ n. NodeGood N u n.0.0 n.0.1 n.1) t → bulk (map node_field t) ≤ 67 * size is_dir t + 71 * size is_file t
nodes-bulk nm u [] h = omega arith
nodes-bulk {N} nm u (n ∷ t) h = go n.0.1 (nodes-bulk nm u t h.1) (nm.sized n.0.0 h.0.dir) h.0.name
  where
    go : (f : Name) → bulk (map node_field t) ≤ 67 * size is_dir t + 71 * size is_file t → (1 ≤ length n.0.0) × (length n.0.0 ≤ 64) → ((f ≡ [] → ⊥) → N f) →
        bulk (if_empty f (record { tag = 0x10; value = n.0.0 }) (record { tag = 0x11; value = little_endian 4 n.1 ++ f }) ∷ map node_field t) ≤ 67 * (if_empty f 1 0 + size is_dir t) + 71 * (if_empty f 0 1 + size is_file t)
    go [] ih v p = omega arith
    go (y ∷ ys) ih v p = let w = nm.sized (y ∷ ys) (p (λ z. nil≢cons (sym z))) in unfold little_endian in (omega arith)

staged-bulk : (m : Map) → All (λ n. StagedGood n.0 n.1) m → bulk (map staged_field m) ≤ 71 * size one m
unfolding little_endian
staged-bulk [] h = omega arith
staged-bulk (n ∷ m) h = let v = valid-length n.0.1 h.0.name in let k = staged-bulk m h.1 in omega arith

tail-bulk : (l : Option Bytes) (b : Bool) → LogFits l → bulk (log_field l ++ mark_field b) ≤ log_limit + 6
tail-bulk none true h = omega arith
tail-bulk none false h = omega arith
tail-bulk (some l) true h = omega arith
tail-bulk (some l) false h = omega arith

pub encode-length : {N : Name → Type 0} → Naming N → (s : Store) → Good N s → length (encode s) ≤ image_room
unfolding encode
encode-length {N} nm s g =
    let a = nodes-bulk nm s.tree s.tree (look-all (λ k x. NodeGood N s.tree k.0 k.1 x) s.tree g.tree.sorted (λ k x l. g.tree.node k.0 k.1 x l)) in
    let b = staged-bulk s.staging (look-all StagedGood s.staging g.staging.sorted g.staging.node) in
    let c = tail-bulk s.log s.open_mark g.log in
    let d = g.tree.dirs_fit in
    let f = g.tree.files_fit in
    let h = g.staging.fits in
    let x = bulk_append (map node_field s.tree) (map staged_field s.staging ++ (log_field s.log ++ mark_field s.open_mark)) in
    let y = bulk_append (map staged_field s.staging) (log_field s.log ++ mark_field s.open_mark) in
    let z = join-length (image_fields s) in
    let r : bulk (image_fields s) ≡ bulk (map node_field s.tree ++ (map staged_field s.staging ++ (log_field s.log ++ mark_field s.open_mark))) = ap bulk (regroup s) in
    omega arith

-- A payload that decodes is at most 209 bytes long.
split-bulk : (m : ℕ) (p : Bytes) (fs : List Field) → fields_from m p ≡ some fs → length p ≡ m + bulk fs
unfolding fields_from
split-bulk (suc m) [] fs e = none≢some e
split-bulk (suc m) (x ∷ p) fs e = let h = split-bulk m p fs e in omega arith
split-bulk zero [] fs e = let h : bulk [] ≡ bulk fs = ap bulk (some_inj e) in omega arith
split-bulk zero (t ∷ r) fs e = go (fields_from (2 + from_little_endian (take 2 r)) r) (λ l z. split-bulk (2 + from_little_endian (take 2 r)) r l z) e
  where
    n : ℕ
    n = from_little_endian (take 2 r)

    go : (o : Option (List Field)) → ((l : List Field) → o ≡ some l → length r ≡ 2 + n + bulk l) → case_option o none (λ l. some (record { tag = t; value = take n (drop 2 r) } ∷ l)) ≡ some fs → length (t ∷ r) ≡ 0 + bulk fs
    go none h e = none≢some e
    go (some l) h e =
        let a = h l refl in
        let b = length-drop 2 r in
        let c : length (take n (drop 2 r)) ≡ n = length-take-le n (drop 2 r) (omega arith) in
        let d : bulk (record { tag = t; value = take n (drop 2 r) } ∷ l) ≡ bulk fs = ap bulk (some_inj e) in
        omega arith

pub decoded-length : (p : Bytes) (o : Op) → decode_payload p ≡ some o → length p ≤ 209
decoded-length p o e = go (fields_from 0 p) refl (unfold decode_payload decode_fields in e)
  where
    go : (q : Option (List Field)) → fields_from 0 p ≡ q → case_option q none op_of_fields ≡ some o → length p ≤ 209
    go none z f = none≢some f
    go (some fs) z f =
        let a = split-bulk 0 p fs z in
        let b : bulk (tagged (field_tags (kind o)) ((kind o ∷ []) ∷ values o)) ≡ bulk fs = ap bulk (op-forth fs o f) in
        let c = join-length (tagged (field_tags (kind o)) ((kind o ∷ []) ∷ values o)) in
        let d = payload-length o (decoded-valid p o e) in
        let g : length (encode_payload o) ≡ length (encode_fields (tagged (field_tags (kind o)) ((kind o ∷ []) ∷ values o))) = unfold encode_payload in refl in
        omega arith

-- A log that is whole is no longer than its operations allow.
walk-length : (k m : ℕ) (l : Bytes) → (walk k m l).end ≡ whole → length l ≤ m + 217 * length (walk k m l).ops
unfolding walk
walk-length k (suc m) [] e = not-whole (truncated header_short) e refl
walk-length k (suc m) (x ∷ r) e = let h = walk-length k m r e in omega arith
walk-length k zero [] e = omega arith
walk-length zero zero (x ∷ r) e = not-whole too_many e refl
walk-length (suc k) zero (x ∷ r) e = go (λ m z. walk-length k m r z) (first_payload (x ∷ r)) e
  where
    at : ((m : ℕ) → (walk k m r).end ≡ whole → length r ≤ m + 217 * length (walk k m r).ops) → (p : Bytes) (q : Option Op) → decode_payload p ≡ q → (case_option q (stop undecodable) (λ o. after o (walk k (7 + length p) r))).end ≡ whole →
        suc (length r) ≤ 0 + 217 * length (case_option q (stop undecodable) (λ o. after o (walk k (7 + length p) r))).ops
    at ih p none z e = not-whole undecodable e refl
    at ih p (some o) z e = let a = ih (7 + length p) e in let b = decoded-length p o z in omega arith

    broken : Ending
    broken = truncated (first_cause (x ∷ r))

    go : ((m : ℕ) → (walk k m r).end ≡ whole → length r ≤ m + 217 * length (walk k m r).ops) → (q : Option Bytes) → (case_option q (stop broken) (λ p. case_option (decode_payload p) (stop undecodable) (λ o. after o (walk k (7 + length p) r)))).end ≡ whole →
        suc (length r) ≤ 0 + 217 * length (case_option q (stop broken) (λ p. case_option (decode_payload p) (stop undecodable) (λ o. after o (walk k (7 + length p) r)))).ops
    go ih none e = not-whole broken e refl
    go ih (some p) e = at ih p (decode_payload p) refl e

pub appended-length : (l : Bytes) (ops : List Op) (o : Op) → read_journal l ≡ recording ops whole → length ops < 32 → ValidOp o → length (append_operation o l) ≤ log_limit
unfolding append_operation
appended-length l ops o e h v =
    let p = journal-parts l ops e in
    let a : length (drop 8 l) ≤ 0 + 217 * length (entries l).ops = unfold entries in (walk-length 32 0 (drop 8 l) p.3) in
    let b : length (entries l).ops ≡ length ops = ap length p.2 in
    let c = payload-length o v in
    let d = length-append l (entry (encode_payload o)) in
    let f = entry_length (encode_payload o) in
    let g = length-drop 8 l in
    omega arith

-- The deletion of a set of keys: what is recorded, by the case renames and the entries of its keys; a store in order stays in order.
use Rattle.std.specs.Prelude.{◌≡◌, refl, ℕ, suc, ◌+◌, ◌≤◌, ◌<◌, List, [], ◌∷◌, ◌++◌, map, Bool, true, false, ◌&&◌, ◌||◌, length, leb, if◌then◌else◌}
use Rattle.std.proofs.Common.{sym, ◌∙◌, ap, subst, arith, append-nil, append_assoc, length-append, nltb→le}
use Rattle.std.proofs.Math.Option.{Option, none, some}
use Rattle.std.proofs.lemmas.Bool.{false≢true}
use Rattle.std.proofs.lemmas.List.{length-map}
use Rattle.basics.specs.Order.{Name}
use Rattle.basics.specs.Map.{look}
use Rattle.basics.specs.Base.{Bytes, case_option, is_some, is_in, all_of, same_bytes, flat_map}
use Rattle.basics.specs.Name.{valid_name, lower_byte, lower}
use Rattle.model.specs.Operation.{Op, write, delete, delete_all, create_collection, delete_collection, copy_collection, encode_payload}
use Rattle.model.specs.Log.{entry, journal, read_journal, recording, whole, append_operation}
use Rattle.model.specs.Store.{Store, files}
use Rattle.model.specs.Step.{rename_file, apply}
use Rattle.model.specs.Plan.{first_namings}
use Rattle.model.specs.Record.{Outcome, refuse, give, recorded_ops, transaction, require, appended, other_case, case_renamed, record_delete, key_fields, key_set, and_then, record_deletes, record_delete_keys}
use Rattle.basic_laws.specs.MapLaws.{none≢some, some_inj}
use Rattle.basic_laws.specs.Tests.{All, all-of, of-all, and_both, le-leb, leb_le}
use Rattle.basic_laws.specs.ValidNames.{Valid}
use Rattle.laws.specs.StoreLaws.{Good}
use Rattle.laws.specs.OperationLaws.{ValidOp}
use Rattle.laws.specs.LogLaws.{found-whole, recorded-stands}
use Rattle.laws.specs.AppendLaws.{appended-journal}
use Rattle.laws.specs.RecordLaws.{Gives, delete-keeps, passing}

-- A key in lower case is lowered to itself.
lower_byte-twice : (b : ℕ) → lower_byte (lower_byte b) ≡ lower_byte b
unfolding lower_byte
lower_byte-twice b = go (leb 65 b) (leb b 90) refl refl
  where
    go : (x y : Bool) → leb 65 b ≡ x → leb b 90 ≡ y → lower_byte (if◌then◌else◌ (x && y) (b + 32) b) ≡ if◌then◌else◌ (x && y) (b + 32) b
    go true true p q =
        let l = leb_le 65 b p in
        let z : leb (b + 32) 90 ≡ false = above (leb (b + 32) 90) refl in
        rw (le-leb 65 (b + 32) (omega arith), z)
      where
        above : (t : Bool) → leb (b + 32) 90 ≡ t → t ≡ false
        above false e = refl
        above true e = let l = leb_le 65 b p in let h = leb_le (b + 32) 90 e in absurd (omega arith)
    go true false p q = rw (p, q)
    go false y p q = rw p

abbrev pub Lowered : Name → Type 0
Lowered k = lower k ≡ k

pub lower-twice : (n : Name) → Lowered (lower n)
unfolding lower
lower-twice [] = refl
lower-twice (b ∷ n) = ap (λ (x : ℕ). x ∷ map lower_byte (map lower_byte n)) (lower_byte-twice b) ∙ ap (λ (l : Name). lower_byte b ∷ l) (lower-twice n)

-- What is named first was named; it is no more than was named.
pub namings_all : (P : Name → Type 0) (seen l : List Name) → All P l → All P (first_namings seen l)
unfolding first_namings
namings_all P seen [] h = tt
namings_all P seen (n ∷ l) h = go (is_in n seen) (namings_all P (n ∷ seen) l h.1)
  where
    go : (t : Bool) → All P (first_namings (n ∷ seen) l) → All P ((if t then [] else n ∷ []) ++ first_namings (n ∷ seen) l)
    go true ih = ih
    go false ih = (h.0, ih)

namings_length : (seen l : List Name) → length (first_namings seen l) ≤ length l
unfolding first_namings
namings_length seen [] = omega arith
namings_length seen (n ∷ l) = go (is_in n seen) (namings_length (n ∷ seen) l)
  where
    go : (t : Bool) → length (first_namings (n ∷ seen) l) ≤ length l → length ((if t then [] else n ∷ []) ++ first_namings (n ∷ seen) l) ≤ suc (length l)
    go true ih = omega arith
    go false ih = omega arith

pub set-lowered : (ks : List Name) → All Lowered (key_set ks)
unfolding key_set
set-lowered ks = namings_all Lowered [] (map lower ks) (lowered ks)
  where
    lowered : (l : List Name) → All Lowered (map lower l)
    lowered [] = tt
    lowered (k ∷ l) = (lower-twice k, lowered l)

pub set-length : (ks : List Name) → length (key_set ks) ≤ length ks
unfolding key_set
set-length ks = let h = namings_length [] (map lower ks) in let e = length-map ks lower in omega arith

-- A set of some keys has one.
pub set-some : (ks : List Name) → 1 ≤ length ks → 1 ≤ length (key_set ks)
unfolding key_set first_namings
set-some [] h = absurd (omega arith)
set-some (k ∷ ks) h = omega arith

-- One key more: it is of the set where it was not named before.
first-last : (seen l : List Name) (n : Name) → first_namings seen (l ++ n ∷ []) ≡ first_namings seen l ++ (if is_in n l || is_in n seen then [] else n ∷ [])
unfolding first_namings
first-last seen [] n = append-nil (if is_in n seen then [] else n ∷ [])
first-last seen (a ∷ l) n =
    ap (λ (r : List Name). (if is_in a seen then [] else a ∷ []) ++ r) (first-last (a ∷ seen) l n)
    ∙ sym (append_assoc (if is_in a seen then [] else a ∷ []) (first_namings (a ∷ seen) l) (if is_in n l || is_in n (a ∷ seen) then [] else n ∷ []))
    ∙ ap (λ (t : Bool). ((if is_in a seen then [] else a ∷ []) ++ first_namings (a ∷ seen) l) ++ (if t then [] else n ∷ [])) (turned (is_in n l) (same_bytes n a) (is_in n seen))
  where
    turned : (x y z : Bool) → (x || (y || z)) ≡ ((y || x) || z)
    turned true true z = refl
    turned true false z = refl
    turned false true z = refl
    turned false false z = refl

pub set_last : (ks : List Name) (k : Name) → key_set (ks ++ k ∷ []) ≡ key_set ks ++ (if is_in (lower k) (map lower ks) then [] else lower k ∷ [])
unfolding key_set
set_last ks k =
    ap (first_namings []) (map_last ks) ∙ first-last [] (map lower ks) (lower k)
    ∙ ap (λ (t : Bool). first_namings [] (map lower ks) ++ (if t then [] else lower k ∷ [])) (or_false (is_in (lower k) (map lower ks)))
  where
    map_last : (l : List Name) → map lower (l ++ k ∷ []) ≡ map lower l ++ lower k ∷ []
    map_last [] = refl
    map_last (a ∷ l) = ap (λ (r : List Name). lower a ∷ r) (map_last l)

    or_false : (t : Bool) → (t || false) ≡ t
    or_false true = refl
    or_false false = refl

-- An operation recorded is one more of the transaction's.
pub recorded_more : (s : Store) (ops : List Op) (o : Op) → transaction s ≡ some ops → length ops < 32 → ValidOp o → transaction (appended o s) ≡ some (ops ++ o ∷ [])
unfolding transaction
recorded_more s ops o e h v = go s.open_mark s.log e (found-whole s ops e)
  where
    go : (m : Bool) (l : Option Bytes) → (if m then recorded_ops (journal l) else none) ≡ some ops → journal l ≡ recording ops whole →
        (if m then recorded_ops (journal (case_option l none (λ l. some (append_operation o l)))) else none) ≡ some (ops ++ o ∷ [])
    go false l e w = none≢some e
    go true none e w = absurd (false≢true (recorded-stands none ops whole w))
    go true (some l) e w = rw (appended-journal l ops o w h v)

-- The entries of the deletes, one behind the other.
unfoldable pub delete_entries : Name → List Name → Bytes
delete_entries c ks = flat_map (λ k. entry (encode_payload (delete c k))) ks

-- A log with these entries behind it: the deletes behind its operations.
pub journal-deletes : (c : Name) (ks : List Name) (l : Bytes) (ops : List Op) → read_journal l ≡ recording ops whole → length ops + length ks ≤ 32 → valid_name c ≡ true → All Valid ks →
    read_journal (l ++ delete_entries c ks) ≡ recording (ops ++ map (delete c) ks) whole
unfolding delete_entries append_operation
journal-deletes c [] l ops e h vc vk = ap read_journal (append-nil l) ∙ e ∙ ap (λ (o : List Op). recording o whole) (sym (append-nil ops))
journal-deletes c (k ∷ ks) l ops e h vc vk =
    ap read_journal (sym (append_assoc l (entry (encode_payload (delete c k))) (flat_map (λ k. entry (encode_payload (delete c k))) ks)))
    ∙ journal-deletes c ks (l ++ entry (encode_payload (delete c k))) (ops ++ delete c k ∷ []) (appended-journal l ops (delete c k) e (omega arith) (vc, vk.0)) (let n = length-append ops (delete c k ∷ []) in omega arith) vc vk.1
    ∙ ap (λ (o : List Op). recording o whole) (append_assoc ops (delete c k ∷ []) (map (delete c) ks))

-- Each delete's case rename in turn, and whether its key stands then; what is no delete is none.
unfoldable pub deletable : List Op → Store → Option Store
deletable [] s = some s
deletable (write w ∷ os) s = none
deletable (delete c k ∷ os) s = let u : Store = case_renamed c k s in if is_some (look (c, k) u.tree) then deletable os u else none
deletable (delete_all c ∷ os) s = none
deletable (create_collection c ∷ os) s = none
deletable (delete_collection c ∷ os) s = none
deletable (copy_collection a b x ∷ os) s = none

abbrev pub logged : Option Bytes → Store → Store
logged l s = record { tree = s.tree; staging = s.staging; log = l; open_mark = s.open_mark }

-- The case renames leave the log and do not ask for it.
pub renamed-logged : (c k : Name) (l : Option Bytes) (s : Store) → case_renamed c k (logged l s) ≡ logged l (case_renamed c k s)
unfolding case_renamed apply
renamed-logged c k l s = go (look (c, k) s.tree) (other_case k (files c s.tree))
  where
    go : (p : Option ℕ) (q : Option Name) → case_option p (case_option q (logged l s) (λ f. apply (rename_file c f k) (logged l s))) (λ x. logged l s) ≡ logged l (case_option p (case_option q s (λ f. apply (rename_file c f k) s)) (λ x. s))
    go (some x) q = refl
    go none none = refl
    go none (some f) = refl

renamed-log : (c k : Name) (s : Store) → ((case_renamed c k s).log ≡ s.log) × ((case_renamed c k s).open_mark ≡ s.open_mark)
unfolding case_renamed apply
renamed-log c k s = go (look (c, k) s.tree) (other_case k (files c s.tree))
  where
    go : (p : Option ℕ) (q : Option Name) → ((case_option p (case_option q s (λ f. apply (rename_file c f k) s)) (λ x. s)).log ≡ s.log) × ((case_option p (case_option q s (λ f. apply (rename_file c f k) s)) (λ x. s)).open_mark ≡ s.open_mark)
    go (some x) q = (refl, refl)
    go none none = (refl, refl)
    go none (some f) = (refl, refl)

renamed_open : (c k : Name) (s : Store) → transaction (case_renamed c k s) ≡ transaction s
unfolding transaction
renamed_open c k s = let e = renamed-log c k s in rw (e.0, e.1)

abbrev pub deletes : Name → List Name → List Op
deletes c ks = map (delete c) ks

pub deletable-logged : (c : Name) (ks : List Name) (l : Option Bytes) (s : Store) → deletable (deletes c ks) (logged l s) ≡ case_option (deletable (deletes c ks) s) none (λ u. some (logged l u))
unfolding deletable
deletable-logged c [] l s = refl
deletable-logged c (k ∷ ks) l s = rw (renamed-logged c k l s) (go (is_some (look (c, k) (case_renamed c k s).tree)) (deletable-logged c ks l (case_renamed c k s)))
  where
    u : Store
    u = case_renamed c k s

    go : (t : Bool) → deletable (deletes c ks) (logged l u) ≡ case_option (deletable (deletes c ks) u) none (λ v. some (logged l v)) →
        (if t then deletable (deletes c ks) (logged l u) else none) ≡ case_option (if t then deletable (deletes c ks) u else none) none (λ v. some (logged l v))
    go true ih = ih
    go false ih = refl

-- One delete where 4, 5 and 6 do not apply.
one-delete : (c k : Name) (s : Store) (ops : List Op) → transaction s ≡ some ops → length ops < 32 → valid_name c ≡ true → valid_name k ≡ true → Lowered k →
    record_delete c k s ≡ require (is_some (look (c, k) (case_renamed c k s).tree)) 8 (give (appended (delete c k) (case_renamed c k s)))
unfolding record_delete
one-delete c k s ops e h vc vk low =
    let z : leb 32 (length ops) ≡ false = below (leb 32 (length ops)) refl in
    rw (low, e, z, vc, vk)
  where
    below : (t : Bool) → leb 32 (length ops) ≡ t → t ≡ false
    below false q = refl
    below true q = let n = leb_le 32 (length ops) q in absurd (omega arith)

-- What the keys of a set record in turn: the case renames, and all entries behind the log.
abbrev pub with_entries : Name → List Name → Option Bytes → Option Bytes
with_entries c ks l = case_option l none (λ b. some (b ++ delete_entries c ks))

entries-one : (c k : Name) (ks : List Name) (l : Option Bytes) → with_entries c ks (case_option l none (λ b. some (append_operation (delete c k) b))) ≡ with_entries c (k ∷ ks) l
unfolding delete_entries append_operation
entries-one c k ks none = refl
entries-one c k ks (some l) = ap (λ (b : Bytes). some b) (append_assoc l (entry (encode_payload (delete c k))) (flat_map (λ k. entry (encode_payload (delete c k))) ks))

no-entries : (c : Name) (l : Option Bytes) → with_entries c [] l ≡ l
unfolding delete_entries
no-entries c none = refl
no-entries c (some l) = ap (λ (b : Bytes). some b) (append-nil l)

pub deletes_record : (c : Name) (ks : List Name) (s : Store) (ops : List Op) → transaction s ≡ some ops → length ops + length ks ≤ 32 → valid_name c ≡ true → All Valid ks → All Lowered ks →
    record_deletes c ks s ≡ case_option (deletable (deletes c ks) s) (refuse 8) (λ u. give (logged (with_entries c ks s.log) u))
unfolding record_deletes deletable
deletes_record c [] s ops e h vc vk low = ap (λ (l : Option Bytes). give (logged l s)) (sym (no-entries c s.log))
deletes_record c (k ∷ ks) s ops e h vc vk low =
    ap (λ (o : Outcome). and_then o (record_deletes c ks)) (one-delete c k s ops e (omega arith) vc vk.0 low.0)
    ∙ go (is_some (look (c, k) u.tree))
    (deletes_record c ks (appended (delete c k) u) (ops ++ delete c k ∷ []) (recorded_more u ops (delete c k) (renamed_open c k s ∙ e) (omega arith) (vc, vk.0)) (let l = length-append ops (delete c k ∷ []) in omega arith) vc vk.1 low.1)
  where
    u : Store
    u = case_renamed c k s

    o : Op
    o = delete c k

    more : Option Bytes
    more = (appended o u).log

    Behind : Type 0
    Behind = record_deletes c ks (appended o u) ≡ case_option (deletable (deletes c ks) (appended o u)) (refuse 8) (λ v. give (logged (with_entries c ks more) v))

    both : (q : Option Store) → case_option (case_option q none (λ v. some (logged more v))) (refuse 8) (λ v. give (logged (with_entries c ks more) v)) ≡ case_option q (refuse 8) (λ v. give (logged (with_entries c ks more) v))
    both none = refl
    both (some v) = refl

    all : with_entries c ks more ≡ with_entries c (k ∷ ks) s.log
    all = entries-one c k ks u.log ∙ ap (with_entries c (k ∷ ks)) (renamed-log c k s).0

    go : (t : Bool) → Behind → and_then (require t 8 (give (appended o u))) (record_deletes c ks) ≡ case_option (if t then deletable (deletes c ks) u else none) (refuse 8) (λ v. give (logged (with_entries c (k ∷ ks) s.log) v))
    go true ih =
        ih
        ∙ ap (λ (q : Option Store). case_option q (refuse 8) (λ v. give (logged (with_entries c ks more) v))) (deletable-logged c ks more u)
        ∙ both (deletable (deletes c ks) u)
        ∙ ap (λ (l : Option Bytes). case_option (deletable (deletes c ks) u) (refuse 8) (λ v. give (logged l v))) all
    go false ih = refl

-- A store in order stays in order.
pub deletes-keep : (c : Name) (ks : List Name) (s : Store) → Good Valid s → Gives (record_deletes c ks s)
unfolding record_deletes
deletes-keep c [] s g = g
deletes-keep c (k ∷ ks) s g = go (record_delete c k s) (delete-keeps c k s g) (deletes-keep c ks)
  where
    go : (o : Outcome) → Gives o → ((u : Store) → Good Valid u → Gives (record_deletes c ks u)) → Gives (and_then o (record_deletes c ks))
    go (refuse n) g ih = g
    go (give u) g ih = ih u g

-- What is given in turn: a transaction with room for all, valid names.
delete-gives : (c k : Name) (s u : Store) → record_delete c k s ≡ give u → (ops : List Op) × (transaction s ≡ some ops) × (length ops < 32) × (valid_name c ≡ true) × (valid_name (lower k) ≡ true) × (transaction u ≡ some (ops ++ delete c (lower k) ∷ []))
unfolding record_delete
delete-gives c k s u = go (transaction s) refl
  where
    Told : Type 0
    Told = (ops : List Op) × (transaction s ≡ some ops) × (length ops < 32) × (valid_name c ≡ true) × (valid_name (lower k) ≡ true) × (transaction u ≡ some (ops ++ delete c (lower k) ∷ []))

    r : Store
    r = case_renamed c (lower k) s

    given : Outcome → Option Store
    given (refuse n) = none
    given (give v) = some v

    last : (ops : List Op) → transaction s ≡ some ops → (t a b : Bool) → leb 32 (length ops) ≡ t → valid_name c ≡ a → valid_name (lower k) ≡ b → (x : Bool) →
        (if t then refuse 5 else require (a && b) 6 (require x 8 (give (appended (delete c (lower k)) r)))) ≡ give u → Told
    last ops e true a b p va vb x q = none≢some (ap given q)
    last ops e false false b p va vb x q = none≢some (ap given q)
    last ops e false true false p va vb x q = none≢some (ap given q)
    last ops e false true true p va vb false q = none≢some (ap given q)
    last ops e false true true p va vb true q =
        let h : length ops < 32 = few (leb 32 (length ops)) p in
        (ops, e, h, va, vb, ap transaction (sym (some_inj (ap given q))) ∙ recorded_more r ops (delete c (lower k)) (renamed_open c (lower k) s ∙ e) h (va, vb))
      where
        few : (t : Bool) → leb 32 (length ops) ≡ false → length ops < 32
        few t p = let k = nltb→le 31 (length ops) (rw p tt) in omega arith

    go : (q : Option (List Op)) → transaction s ≡ q → (case_option q (refuse 4) λ ops. if leb 32 (length ops) then refuse 5 else
        require (valid_name c && valid_name (lower k)) 6 (require (is_some (look (c, lower k) r.tree)) 8 (give (appended (delete c (lower k)) r)))) ≡ give u → Told
    go none e q = none≢some (ap given q)
    go (some ops) e q = last ops e (leb 32 (length ops)) (valid_name c) (valid_name (lower k)) refl refl refl (is_some (look (c, lower k) r.tree)) q

given-first : (o : Outcome) (next : Store → Outcome) (u : Store) → and_then o next ≡ give u → (v : Store) × (o ≡ give v) × (next v ≡ give u)
given-first (refuse n) next u e = none≢some (ap given e)
  where
    given : Outcome → Option Store
    given (refuse n) = none
    given (give v) = some v
given-first (give v) next u e = (v, refl, e)

deletes-room : (c : Name) (ks : List Name) (s u : Store) (ops : List Op) → All Lowered ks → transaction s ≡ some ops → length ops ≤ 32 → record_deletes c ks s ≡ give u → (length ops + length ks ≤ 32) × All Valid ks
unfolding record_deletes
deletes-room c [] s u ops low e h q = (omega arith, tt)
deletes-room c (k ∷ ks) s u ops low e h q =
    let f = given-first (record_delete c k s) (record_deletes c ks) u q in
    let d = delete-gives c k s f.0 f.1 in
    let same : d.0 ≡ ops = some_inj (sym d.1 ∙ e) in
    let l = length-append ops (delete c (lower k) ∷ []) in
    let m : length d.0 ≡ length ops = ap length same in
    let lt = d.2 in
    let r = deletes-room c ks f.0 u (ops ++ delete c (lower k) ∷ []) low.1 (d.5 ∙ ap (λ (x : List Op). some (x ++ delete c (lower k) ∷ [])) same) (omega arith) f.2 in
    let n = r.0 in
    (omega arith, (subst Valid low.0 d.4, r.1))

-- Keys that are done in turn: their transaction has room for all, and their names are valid.
pub record Fit (c : Name) (ks : List Name) (s : Store) : Type 0 where
  pub ops : List Op
  pub found : transaction s ≡ some ops
  pub room : length ops + length ks ≤ 32
  pub collection : valid_name c ≡ true
  pub keys : All Valid ks

pub deletes-fit : (c : Name) (ks : List Name) (s u : Store) → 1 ≤ length ks → All Lowered ks → record_deletes c ks s ≡ give u → Fit c ks s
unfolding record_deletes
deletes-fit c [] s u h low q = absurd (omega arith)
deletes-fit c (k ∷ ks) s u h low q =
    let f = given-first (record_delete c k s) (record_deletes c ks) u q in
    let d = delete-gives c k s f.0 f.1 in
    let lt = d.2 in
    let r = deletes-room c (k ∷ ks) s u d.0 low d.1 (omega arith) q in
    record { ops = d.0; found = d.1; room = r.0; collection = d.3; keys = r.1 }

-- Where nothing else applies, a set records what its keys record in turn.
pub set-records : (c : Name) (keys : Bytes) (ks : List Name) (s : Store) → key_fields keys ≡ some ks → 1 ≤ length ks → length ks ≤ 32 → Fit c (key_set ks) s → record_delete_keys c keys s ≡ record_deletes c (key_set ks) s
unfolding record_delete_keys
set-records c keys ks s e a b f =
    rw (f.found, e, le-leb 1 (length ks) a, le-leb (length ks) 32 b, le-leb (length f.ops + length (key_set ks)) 32 f.room, f.collection, of-all valid_name (key_set ks) f.keys)

-- What holds of the refusals 4, 5 and 6, and of the keys in turn where they fit, holds of a set.
pub set_cases : (P : Outcome → Type 0) (c : Name) (keys : Bytes) (s : Store) → P (refuse 4) → P (refuse 5) → P (refuse 6) →
    ((ks : List Name) → key_fields keys ≡ some ks → 1 ≤ length ks → length ks ≤ 32 → Fit c (key_set ks) s → P (record_deletes c (key_set ks) s)) → P (record_delete_keys c keys s)
unfolding record_delete_keys
set_cases P c keys s p4 p5 p6 h = go (transaction s) refl (key_fields keys) refl
  where
    go : (q : Option (List Op)) → transaction s ≡ q → (f : Option (List Name)) → key_fields keys ≡ f → P (case_option q (refuse 4) λ ops. case_option f (refuse 6) λ ks.
        require (leb 1 (length ks) && leb (length ks) 32) 6 (require (leb (length ops + length (key_set ks)) 32) 5 (require (valid_name c && all_of valid_name (key_set ks)) 6 (record_deletes c (key_set ks) s))))
    go none e f d = p4
    go (some ops) e none d = p6
    go (some ops) e (some ks) d =
        passing P (leb 1 (length ks) && leb (length ks) 32) 6 _ p6 λ a.
        passing P (leb (length ops + length (key_set ks)) 32) 5 _ p5 λ b.
        passing P (valid_name c && all_of valid_name (key_set ks)) 6 _ p6 λ v.
        let m = and_both (leb 1 (length ks)) (leb (length ks) 32) a in
        let w = and_both (valid_name c) (all_of valid_name (key_set ks)) v in
        h ks d (leb_le 1 (length ks) m.0) (leb_le (length ks) 32 m.1)
        (record { ops = ops; found = e; room = leb_le (length ops + length (key_set ks)) 32 b; collection = w.0; keys = all-of valid_name (key_set ks) w.1 })

-- Its numbers: 4, 5, 6, 8.
pub set-numbers : (P : Outcome → Type 0) (c : Name) (keys : Bytes) (s : Store) → P (refuse 4) → P (refuse 5) → P (refuse 6) → P (refuse 8) → ((u : Store) → P (give u)) → P (record_delete_keys c keys s)
set-numbers P c keys s p4 p5 p6 p8 h = set_cases P c keys s p4 p5 p6 λ ks e a b f.
    subst P (sym (deletes_record c (key_set ks) s f.ops f.found f.room f.collection f.keys (set-lowered ks))) (go ks (deletable (deletes c (key_set ks)) s))
  where
    go : (ks : List Name) (q : Option Store) → P (case_option q (refuse 8) (λ u. give (logged (with_entries c (key_set ks) s.log) u)))
    go ks none = p8
    go ks (some u) = h (logged (with_entries c (key_set ks) s.log) u)

pub delete-keys-keeps : (c : Name) (keys : Bytes) (s : Store) → Good Valid s → Gives (record_delete_keys c keys s)
delete-keys-keeps c keys s g = set_cases Gives c keys s (omega arith) (omega arith) (omega arith) (λ ks e a b f. deletes-keep c (key_set ks) s g)

-- The field of names that are parted by a zero byte, written name by name.
use Rattle.std.specs.List.{sum_by}
use Rattle.std.proofs.lemmas.List.Sums.{sum_by-cons, sum_by-take-le}
use Rattle.std.proofs.lemmas.List.{map-append, take_all}
use mathlib.Core.Path.{◌≡◌, refl, sym, ap, ◌∙◌}
use mathlib.Core.List.{List, [], ◌∷◌, ◌++◌, map, append_assoc}
use Prim.Native.Nat.{ℕ, zero, suc, ◌+◌, ◌-◌, ◌*◌, ◌≤◌, ◌<◌}
use native.Mathlib.Omega.{arith}
use native.Mathlib.Numerals.{add-one}
use lib.ListN.{length, take, get_or, length-append}
use lib.Seq.{take-suc}
use Rattle.basics.specs.Base.{Bytes}
use Rattle.basics.specs.Field.{little_endian, encode_field}
use Rattle.basic_laws.specs.Tests.{All, all_take}
use Rattle.store.proofs.Lists.{all_get_d}
use Rattle.model.specs.Step.{zero_separated}
use Rattle.spans.specs.Spans.{name_of, length_of, Sound}
use Rattle.spans.specs.declared.NameRef.{NameRef}
use Rattle.spans.proofs.Parts.{length-name}
use Rattle.field.specs.Writing.{written, Writes, field}
use Rattle.field.proofs.Written.{length-written, written_none, written_then, written-nil, field-short, encoded_length, field-written}

-- A name more.
separated_push : (x : Bytes) (l : List Bytes) (n : Bytes) → zero_separated (x ∷ (l ++ n ∷ [])) ≡ zero_separated (x ∷ l) ++ 0 ∷ n
unfolding zero_separated
separated_push x [] n = refl
separated_push x (y ∷ l) n = ap (λ (b : Bytes). x ++ 0 ∷ b) (separated_push y l n) ∙ sym (append_assoc x (0 ∷ zero_separated (y ∷ l)) (0 ∷ n))

-- A name and the zero byte behind it.
abbrev pub room_of : NameRef → ℕ
room_of r = length_of r + 1

module _ (src : Bytes) where
  -- The value of a field of names.
  abbrev pub value_of : List NameRef → Bytes
  value_of l = zero_separated (map (name_of src) l)

  value-length : (l : List NameRef) → All (Sound src) l → length (value_of l) ≡ sum_by room_of l - 1
  unfolding zero_separated
  value-length [] h = refl
  value-length (a ∷ []) h = length-name h.0 ∙ omega arith
  value-length (a ∷ b ∷ l) h =
      let e = value-length (b ∷ l) h.1 in
      let k = sum_by-cons room_of a (b ∷ l) in
      let j = sum_by-cons room_of b l in
      let n = length-name h.0 in
      length-append (name_of src a) (0 ∷ value_of (b ∷ l)) ∙ omega arith

  pub value_short : (l : List NameRef) → All (Sound src) l → sum_by room_of l ≤ 65 * length l
  value_short [] h = omega arith
  value_short (a ∷ l) h = let s = h.0.room in omega (arith, sum_by-cons room_of a l, value_short l h.1)

  first : (l : List NameRef) (d : NameRef) → 0 < length l → value_of (take 1 l) ≡ name_of src (get_or l 0 d)
  unfolding zero_separated
  first [] d h = absurd (omega arith)
  first (a ∷ l) d h = refl

  later : (l : List NameRef) (k : ℕ) (d : NameRef) → 0 < k → k < length l → value_of (take (suc k) l) ≡ value_of (take k l) ++ 0 ∷ name_of src (get_or l k d)
  later l zero d p h = absurd (omega arith)
  later [] (suc k) d p h = absurd (omega arith)
  later (a ∷ l) (suc k) d p h =
      ap (λ (m : List NameRef). zero_separated (name_of src a ∷ map (name_of src) m)) (take-suc l k d (omega arith))
      ∙ ap (λ (m : List Bytes). zero_separated (name_of src a ∷ m)) (map-append (name_of src) (take k l) (get_or l k d ∷ []))
      ∙ separated_push (name_of src a) (map (name_of src) (take k l)) (name_of src (get_or l k d))

-- Behind a field's head in `out`, k of the names are written, up to `at`; there is room for all.
pub record Joining (src : Bytes) (names : List NameRef) (out : Bytes) (k at : ℕ) (now : Bytes) : Type 0 where
  pub sound : All (Sound src) names
  pub room : 3 + (sum_by room_of names - 1) ≤ length out
  pub place : at ≡ 3 + length (value_of src (take k names))
  pub same : now ≡ written 3 (value_of src (take k names)) out

pub none_joined : {src : Bytes} {names : List NameRef} {out : Bytes} → All (Sound src) names → 3 + (sum_by room_of names - 1) ≤ length out → Joining src names out 0 3 out
unfolding zero_separated
none_joined {names = names} {out} s h = record { sound = s; room = h; place = refl; same = sym (written-nil 3 out) }

module _ {src : Bytes} {names : List NameRef} {out : Bytes} {k at : ℕ} {now : Bytes} (w : Joining src names out k at now) where
  module _ (h : k < length names) (d : NameRef) where
    held : Sound src (get_or names k d)
    held = all_get_d (Sound src) names k d w.sound h

    room : 3 + length (value_of src (take (k + 1) names)) ≤ length out
    room =
        let l = value-length src (take (k + 1) names) (all_take (Sound src) (k + 1) names w.sound) in
        let m = sum_by-take-le room_of names (k + 1) in
        let r = w.room in
        omega arith

    first-value : k ≡ 0 → value_of src (take (k + 1) names) ≡ name_of src (get_or names k d)
    first-value z = rw z (first src names d (omega (arith, h, z)))

    start : k ≡ 0 → (at ≡ 3) × (now ≡ out)
    unfolding zero_separated
    start z = (rw z at w.place, rw (z, written-nil 3 out) at w.same)

    pub first-room : k ≡ 0 → at + length_of (get_or names k d) ≤ length out
    first-room z = let l = ap length (first-value z) in let n = length-name held in let r = room in let p = (start z).0 in omega arith

    pub first-name : k ≡ 0 → {end : Bytes} {l : ℕ} → end ≡ written at (name_of src (get_or names k d)) now → l ≡ length_of (get_or names k d) → Joining src names out (k + 1) (at + l) end
    first-name z p q =
        let s = start z in
        let n = length-name held in
        let v = ap length (first-value z) in
        record { sound = w.sound; room = w.room; place = omega (arith, s.0, n, v, q); same = rw (first-value z) (rw (s.0, s.1) at p) }

    next-value : 0 < k → value_of src (take (k + 1) names) ≡ value_of src (take k names) ++ 0 ∷ name_of src (get_or names k d)
    next-value z = rw add-one (later src names k d z h)

    longer : 0 < k → length (value_of src (take (k + 1) names)) ≡ length (value_of src (take k names)) + 1 + length_of (get_or names k d)
    longer z =
        let l = length-append (value_of src (take k names)) (0 ∷ name_of src (get_or names k d)) in
        let n = length-name held in
        ap length (next-value z) ∙ omega arith

    pub next-room : 0 < k → at + 1 + length_of (get_or names k d) ≤ length out
    next-room z = omega (arith, longer z, room, w.place)

    pub next-name : 0 < k → {mid end : Bytes} {l : ℕ} → mid ≡ written at (0 ∷ []) now → end ≡ written (at + 1) (name_of src (get_or names k d)) mid → l ≡ length_of (get_or names k d) → Joining src names out (k + 1) (at + 1 + l) end
    next-name z {mid} {end} {l} p q e =
        let n = length-name held in
        let r = next-room z in
        let m : length now ≡ length out = ap length w.same ∙ length-written 3 (value_of src (take k names)) out in
        let two : end ≡ written at (0 ∷ name_of src (get_or names k d)) now = written_then at (at + 1) (0 ∷ []) (name_of src (get_or names k d)) now p q refl (omega arith) in
        let all = written_then 3 at (value_of src (take k names)) (0 ∷ name_of src (get_or names k d)) out w.same two w.place (omega arith) in
        record { sound = w.sound; room = w.room; place = omega (arith, longer z, w.place, e); same = rw (next-value z) all }

  -- All of them are written.
  pub all-joined : (tag : ℕ) {n : ℕ} {before : Bytes} → n ≡ sum_by room_of names - 1 → n ≤ 0xFFFF → out ≡ written 0 (tag ∷ little_endian 2 n) before → length names ≤ k → Writes (encode_field (field tag (value_of src names))) 0 before now at
  all-joined tag {n} {before} e s p h =
      let v : Bytes = value_of src names in
      let l : n ≡ length v = e ∙ sym (value-length src names w.sound) in
      let t : take k names ≡ names = take_all k names h in
      let m : length out ≡ length before = ap length p ∙ length-written 0 (tag ∷ little_endian 2 n) before in
      let place = rw t at w.place in
      let r = w.room in
      record {
        same = field-written 0 tag v before (omega arith) 3 (rw l at p) (rw t at w.same) refl (omega arith) ∙ field-short 0 (field tag v) before (omega arith);
        size = omega (arith, encoded_length (field tag v), place);
      }

-- There is no room for them.
pub none_written : (src : Bytes) (names : List NameRef) (tag : ℕ) {n : ℕ} (out : Bytes) → All (Sound src) names → n ≡ sum_by room_of names - 1 → length out < 3 + n → Writes (encode_field (field tag (value_of src names))) 0 out out (3 + n)
none_written src names tag {n} out s e h =
    let l = encoded_length (field tag (value_of src names)) in
    let v = value-length src names s in
    record { same = written_none 0 (encode_field (field tag (value_of src names))) out (omega arith); size = omega arith }

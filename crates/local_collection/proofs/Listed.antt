-- The keys of a listing, name by name.
use Rattle.std.specs.Prelude.{if◌then◌else◌, None, Some}
use mathlib.Core.Path.{◌≡◌, refl, sym, ap, ◌∙◌}
use mathlib.Core.List.{List, [], ◌∷◌, ◌++◌}
use mathlib.Core.Option.{some}
use mathlib.Core.Bool.{Bool, true, false, not, ◌&&◌, ◌||◌}
use Prim.Native.Nat.{ℕ, ◌+◌, ◌*◌, ◌≤◌, ◌<◌}
use native.Mathlib.Omega.{arith}
use lib.ListN.{length, drop, get_or, length-append}
use Rattle.basics.specs.Order.{Name}
use Rattle.basics.specs.Map.{Map}
use Rattle.basics.specs.Base.{Bytes, same_bytes}
use Rattle.basics.specs.Name.{lower, is_backup, is_tmp}
use Rattle.basics.specs.Field.{encode_field}
use Rattle.model.specs.Store.{Store, files}
use Rattle.model.specs.Record.{other_case, key_list}
use Rattle.field.specs.Writing.{written, Writes, field}
use Rattle.field.proofs.Written.{written-written, written-nil, length-written}
use Rattle.spans.specs.Spans.{name_of}
use Rattle.spans.specs.declared.NameRef.{NameRef}
use Rattle.fixed_vec.specs.FixedVec.{FixedVec}
use Rattle.store.specs.Tables.{Lists}
use Rattle.store.proofs.Listed.{no_name, listed-end, listed-rest}
use Rattle.steps.specs.Steps.{FileName}
use Rattle.local_collection.specs.Keys.{is_key, keys_in, keys_of, OtherCaseOf, Puts}

module _ (f : Name) where
  -- Names with one more in front.
  module _ (l : List Name) where
    keys-next : keys_in (f ∷ l) ≡ (if is_key f then encode_field (field 3 (lower f)) ++ keys_in l else keys_in l)
    unfolding keys_in is_key
    keys-next = go (is_backup f) (is_tmp f)
      where
        new : Bytes
        new = encode_field (field 3 (lower f))

        go : (b t : Bool) → (if b || t then [] else new) ++ keys_in l ≡ (if not b && not t then new ++ keys_in l else keys_in l)
        go true t = refl
        go false true = refl
        go false false = refl

    case_next : (k : Name) → other_case k (f ∷ l) ≡ (if is_key f && same_bytes (lower f) k then some f else other_case k l)
    unfolding other_case is_key
    case_next k = refl

-- The loop of `other_case`: none of the names before i is the key in another case.
pub record Seeking (src : Bytes) (l : FixedVec NameRef) (names : List Name) (key : NameRef) (i : ℕ) : Type 0 where
  pub lists : Lists src l names
  pub same : other_case (name_of src key) (drop i names) ≡ other_case (name_of src key) names

pub seeking : {src : Bytes} {l : FixedVec NameRef} {names : List Name} {key : NameRef} → Lists src l names → Seeking src l names key 0
seeking s = record { lists = s; same = refl }

module _ {src : Bytes} {l : FixedVec NameRef} {names : List Name} {key : NameRef} {i : ℕ} (w : Seeking src l names key i) where
  -- The name r at i, by the tests of the code.
  module _ {r : NameRef} (e : r ≡ get_or l.items i no_name) (h : i < length l.items) where
    here : {a b : Bool} → is_key (name_of src r) ≡ a → same_bytes (lower (name_of src r)) (name_of src key) ≡ b →
        (if a && b then some (name_of src r) else other_case (name_of src key) (drop (i + 1) names)) ≡ other_case (name_of src key) names
    here p q =
        sym (rw (p, q) at (case_next (name_of src r) (drop (i + 1) names) (name_of src key)))
        ∙ ap (other_case (name_of src key)) (sym (listed-rest w.lists e h))
        ∙ w.same

    pub sought_past : is_key (name_of src r) ≡ false → Seeking src l names key (i + 1)
    sought_past p = record { lists = w.lists; same = here p refl }

    module _ (p : is_key (name_of src r) ≡ true) where
      pub sought_other : same_bytes (lower (name_of src r)) (name_of src key) ≡ false → Seeking src l names key (i + 1)
      sought_other q = record { lists = w.lists; same = here p q }

      pub sought_found : FileName src r → same_bytes (lower (name_of src r)) (name_of src key) ≡ true → OtherCaseOf src (name_of src key) names (Some r)
      sought_found f q = record { sound = f; same = here p q }

  pub sought_nothing : length l.items ≤ i → OtherCaseOf src (name_of src key) names None
  unfolding other_case
  sought_nothing h = record { sound = tt; same = ap (other_case (name_of src key)) (sym (listed-end w.lists h)) ∙ w.same }

-- The loop of `put_keys`: what the names from i on give is still to be written, at `at`.
pub record Listing (src : Bytes) (l : FixedVec NameRef) (names : List Name) (before now : Bytes) (at i : ℕ) : Type 0 where
  pub lists : Lists src l names
  pub room : length (keys_in names) ≤ length before
  pub small : at ≤ 67 * i
  pub size : length now ≡ length before
  pub told : at + length (keys_in (drop i names)) ≡ length (keys_in names)
  pub wrote : written at (keys_in (drop i names)) now ≡ written 0 (keys_in names) before

module _ {src : Bytes} {l : FixedVec NameRef} {names : List Name} {before now : Bytes} {at i : ℕ} (w : Listing src l names before now at i) where
  -- The name r at i, by the test of the code.
  module _ {r : NameRef} (e : r ≡ get_or l.items i no_name) (h : i < length l.items) where
    abbrev new : Bytes
    new = encode_field (field 3 (lower (name_of src r)))

    abbrev later : Bytes
    later = keys_in (drop (i + 1) names)

    these : {b : Bool} → is_key (name_of src r) ≡ b → keys_in (drop i names) ≡ (if b then new ++ later else later)
    these p = ap keys_in (listed-rest w.lists e h) ∙ rw p at (keys-next (name_of src r) (drop (i + 1) names))

    pub listed-past : is_key (name_of src r) ≡ false → {next : Bytes} {m : ℕ} → next ≡ now → m ≡ at → Listing src l names before next m (i + 1)
    listed-past p f g = rw (f, g) record {
      lists = w.lists;
      room = w.room;
      small = omega (arith, w.small);
      size = w.size;
      told = ap (λ (s : Bytes). at + length s) (sym (these p)) ∙ w.told;
      wrote = ap (λ (s : Bytes). written at s now) (sym (these p)) ∙ w.wrote;
    }

    pub listed-key : is_key (name_of src r) ≡ true → {next after : Bytes} {m k : ℕ} → Puts (lower (name_of src r)) at now after k → next ≡ after →
        m ≡ at + k → Listing src l names before next m (i + 1)
    listed-key p {k = k} q f g =
        let long : length (keys_in (drop i names)) ≡ length new + length later = ap length (these p) ∙ length-append new later in
        let told : at + k + length later ≡ length (keys_in names) = omega (arith, w.told, q.size) in
        rw (f, g) record {
          lists = w.lists;
          room = w.room;
          small = omega (arith, w.small, q.small);
          size = ap length q.out ∙ length-written at new now ∙ w.size;
          told = told;
          wrote =
              ap (λ (s : Bytes). written (at + k) later s) q.out
              ∙ written-written at (at + k) new later now (ap (λ (j : ℕ). at + j) q.size) (omega (arith, w.size, w.room))
              ∙ ap (λ (s : Bytes). written at s now) (sym (these p))
              ∙ w.wrote;
        }

  all-written : length l.items ≤ i → Writes (keys_in names) 0 before now at
  unfolding keys_in
  all-written h =
      let none : keys_in (drop i names) ≡ [] = ap keys_in (listed-end w.lists h) in
      let size : length (keys_in (drop i names)) ≡ 0 = ap length none in
      record {
        same = sym (written-nil at now) ∙ ap (λ (s : Bytes). written at s now) (sym none) ∙ w.wrote;
        size = omega (arith, w.told);
      }

-- The names of the listing are a directory's files: where the loop starts, and where it ends.
module _ (d : Name) (m : Map) {src : Bytes} {l : FixedVec NameRef} where
  pub listing : Lists src l (files d m) → {out : Bytes} → length (keys_of d m) ≤ length out → Listing src l (files d m) out out 0 0
  unfolding keys_of
  listing s h = record { lists = s; room = h; small = omega arith; size = refl; told = omega arith; wrote = refl }

  pub listed-all : {at i : ℕ} {before now : Bytes} → Listing src l (files d m) before now at i → length l.items ≤ i → Writes (keys_of d m) 0 before now at
  unfolding keys_of
  listed-all w h = all-written w h

-- The model's key list is that of its tree.
module _ (c : Name) (s : Store) where
  pub keys-room : {n : ℕ} → length (key_list c s) ≤ n → length (keys_of c s.tree) ≤ n
  unfolding keys_of keys_in key_list
  keys-room h = h

  pub keys-listed : {before after : Bytes} {n : ℕ} → Writes (keys_of c s.tree) 0 before after n → Writes (key_list c s) 0 before after n
  unfolding keys_of keys_in key_list
  keys-listed w = w

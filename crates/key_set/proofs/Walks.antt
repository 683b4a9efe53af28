-- The keys, field by field.
use Rattle.std.specs.Prelude.{if◌then◌else◌, None, Some}
use Rattle.std.specs.Prelude as std
use mathlib.Core.Path.{◌≡◌, refl, sym, ap, ◌∙◌}
use mathlib.Core.List.{List, [], ◌∷◌, ◌++◌, map, append-nil, append_assoc}
use mathlib.Core.Option.{Option, none, some}
use mathlib.Core.Bool.{Bool, true, false, ◌||◌}
use Prim.Native.Nat.{ℕ, zero, suc, ◌+◌, ◌-◌, ◌≤◌, ◌<◌}
use native.Mathlib.Omega.{arith}
use lib.ListN.{length, take, drop, take-append-drop, drop_of_length-le, length-map, length-append, length-drop}
use lib.Seq.{take-append-le, drop-append-le, take-length, take_at, length-take-le}
use lib.Dec.{eqb}
use borrow.Author.Tests.{ne_eqb}
use Rattle.basics.specs.Order.{Name}
use Rattle.basics.specs.Base.{Bytes, case_option, is_in, same_bytes, all_of}
use Rattle.basics.specs.Name.{lower}
use Rattle.basics.specs.Field.{Field, from_little_endian, encode_field, fields_from, decode_fields}
use Rattle.basic_laws.specs.MapLaws.{none≢some, some_inj}
use Rattle.basic_laws.specs.FieldLaws.{split-first}
use Rattle.field.specs.Reading.{field_of, Stands}
use Rattle.field.specs.declared.Item.{Item}
use Rattle.field.proofs.Written.{encoded_length}
use Rattle.model.specs.Record.{key_fields}
use Rattle.key_set.specs.Gathering.{key_count, lowered_in, Few, AreFields}

-- Fields that stand before other bytes.
fields_fit : (m : ℕ) (a : Bytes) (fs : List Field) → fields_from m a ≡ some fs → m ≤ length a
unfolding fields_from
fields_fit zero a fs e = omega arith
fields_fit (suc m) [] fs e = none≢some e
fields_fit (suc m) (x ∷ a) fs e = let h = fields_fit m a fs e in omega arith

abbrev behind : List Field → Option (List Field) → Option (List Field)
behind fs o = case_option o none (λ gs. some (fs ++ gs))

some-cons : (o : Option (List Field)) (f : Field) (fs : List Field) → case_option o none (λ l. some (f ∷ l)) ≡ some fs → (l : List Field) × (o ≡ some l) × (fs ≡ f ∷ l)
some-cons none f fs e = none≢some e
some-cons (some l) f fs e = (l, refl, sym (some_inj e))

fields_append : (m : ℕ) (a b : Bytes) (fs : List Field) → fields_from m a ≡ some fs → fields_from m (a ++ b) ≡ behind fs (fields_from 0 b)
unfolding fields_from
fields_append (suc m) [] b fs e = none≢some e
fields_append (suc m) (x ∷ a) b fs e = fields_append m a b fs e
fields_append zero [] b fs e = plain (fields_from 0 b) ∙ ap (λ (l : List Field). behind l (fields_from 0 b)) (some_inj e)
  where
    plain : (o : Option (List Field)) → o ≡ behind [] o
    plain none = refl
    plain (some l) = refl
fields_append zero (t ∷ r) b fs e =
    let n = from_little_endian (take 2 r) in
    let c = some-cons (fields_from (2 + n) r) (record { tag = t; value = take n (drop 2 r) }) fs e in
    let h = fields_fit (2 + n) r c.0 c.1 in
    let p : take 2 (r ++ b) ≡ take 2 r = take-append-le 2 r b (omega arith) in
    let q : take n (drop 2 (r ++ b)) ≡ take n (drop 2 r) = ap (take n) (drop-append-le 2 r b (omega arith)) ∙ take-append-le n (drop 2 r) b (omega (arith, length-drop 2 r)) in
    rw (p, q, fields_append (2 + n) r b c.0 c.1) (both (fields_from 0 b) (record { tag = t; value = take n (drop 2 r) }) c.0 fs c.2)
  where
    both : (o : Option (List Field)) (f : Field) (l fs : List Field) → fs ≡ f ∷ l → case_option (behind l o) none (λ gs. some (f ∷ gs)) ≡ behind fs o
    both none f l fs e = refl
    both (some gs) f l fs e = rw e

-- The key fields that stand at a place, by the field that is read there.
module _ {s : Bytes} {at : ℕ} {x : Item} (w : Stands s at x) where
  abbrev value : Name
  value = (field_of s x).value

  no_key : (x.tag ≡ 3 → ⊥) → key_fields (drop at s) ≡ none
  unfolding key_fields decode_fields
  no_key h = ap (λ (o : Option (List Field)). case_option o none (λ fs. if all_of (λ f. eqb f.tag 3) fs then some (map (λ f. f.value) fs) else none)) w.fields ∙ go (fields_from 0 (drop x.end s))
    where
      go : (o : Option (List Field)) → case_option (case_option o none (λ fs. some (field_of s x ∷ fs))) none (λ fs. if all_of (λ f. eqb f.tag 3) fs then some (map (λ f. f.value) fs) else none) ≡ none
      go none = refl
      go (some fs) = rw (ne_eqb x.tag 3 h)

  one_key : x.tag ≡ 3 → key_fields (drop at s) ≡ case_option (key_fields (drop x.end s)) none (λ ks. some (value ∷ ks))
  unfolding key_fields decode_fields
  one_key h = ap (λ (o : Option (List Field)). case_option o none (λ fs. if all_of (λ f. eqb f.tag 3) fs then some (map (λ f. f.value) fs) else none)) w.fields ∙ go (fields_from 0 (drop x.end s))
    where
      at_once : (t : Bool) (ks : List Name) → (if t then some (value ∷ ks) else none) ≡ case_option (if t then some ks else none) none (λ ks. some (value ∷ ks))
      at_once true ks = refl
      at_once false ks = refl

      go : (o : Option (List Field)) → case_option (case_option o none (λ fs. some (field_of s x ∷ fs))) none (λ fs. if all_of (λ f. eqb f.tag 3) fs then some (map (λ f. f.value) fs) else none)
          ≡ case_option (case_option o none (λ fs. if all_of (λ f. eqb f.tag 3) fs then some (map (λ f. f.value) fs) else none)) none (λ ks. some (value ∷ ks))
      go none = refl
      go (some fs) = rw h (at_once (all_of (λ f. eqb f.tag 3) fs) (map (λ f. f.value) fs))

no_keys : (b : Bytes) → fields_from 0 b ≡ none → key_fields b ≡ none
unfolding key_fields decode_fields
no_keys b h = rw h

-- `count_keys`: n were counted, the rest stands from `at` on.
abbrev counted : ℕ → Option (List Name) → std.Option ℕ
counted n o = case_option o None (λ ks. Some (n + length ks))

pub record Counting (keys : Bytes) (at n : ℕ) : Type 0 where
  pub within : at ≤ length keys
  pub fewer : n ≤ at
  pub same : key_count keys ≡ counted n (key_fields (drop at keys))

pub counting : (keys : Bytes) → Counting keys 0 0
unfolding key_count
counting keys = record { within = omega arith; fewer = omega arith; same = go (key_fields keys) }
  where
    go : (o : Option (List Name)) → case_option o None (λ ks. Some (length ks)) ≡ counted 0 o
    go none = refl
    go (some ks) = ap (λ (k : ℕ). Some k) (let e : length ks ≡ 0 + length ks = omega arith in e)

module _ {keys : Bytes} {at n : ℕ} (w : Counting keys at n) where
  pub not-keys : fields_from 0 (drop at keys) ≡ none → None ≡ key_count keys
  not-keys h = sym (w.same ∙ ap (counted n) (no_keys (drop at keys) h))

  module _ {x : Item} (i : Stands keys at x) where
    pub not_key : (x.tag ≡ 3 → ⊥) → None ≡ key_count keys
    not_key h = sym (w.same ∙ ap (counted n) (no_key i h))

    pub counted-one : x.tag ≡ 3 → Counting keys x.end (n + 1)
    counted-one h = record {
      within = i.within;
      fewer = omega (arith, w.fewer, i.start, i.ordered);
      same = w.same ∙ ap (counted n) (one_key i h) ∙ go (key_fields (drop x.end keys));
    }
      where
        go : (o : Option (List Name)) → counted n (case_option o none (λ ks. some (value i ∷ ks))) ≡ counted (n + 1) o
        go none = refl
        go (some ks) = ap (λ (k : ℕ). Some k) (let e : n + suc (length ks) ≡ n + 1 + length ks = omega arith in e)

  pub counted-all : length keys ≤ at → Some n ≡ key_count keys
  unfolding key_fields decode_fields fields_from
  counted-all h = sym (w.same ∙ ap (λ (b : Bytes). counted n (key_fields b)) (drop_of_length-le keys {i = at} h) ∙ ap (λ (k : ℕ). Some k) (let e : n + 0 ≡ n = omega arith in e))

-- `is_repeated`: the fields from `at` on decide.
pub record Seeking (before key : Bytes) (at : ℕ) : Type 0 where
  pub within : at ≤ length before
  pub rest : AreFields (drop at before)
  pub same : is_in (lower key) (lowered_in before) ≡ is_in (lower key) (lowered_in (drop at before))

pub seeking : {before : Bytes} (key : Bytes) → AreFields before → Seeking before key 0
seeking key f = record { within = omega arith; rest = f; same = refl }

module _ {before key : Bytes} {at : ℕ} (w : Seeking before key at) where
  pub no_break : fields_from 0 (drop at before) ≡ none → {A : Type 0} → A
  unfolding decode_fields
  no_break h = none≢some (sym h ∙ w.rest.reads)

  pub sought_all : length before ≤ at → false ≡ is_in (lower key) (lowered_in before)
  unfolding lowered_in decode_fields fields_from
  sought_all h = sym (w.same ∙ ap (λ (b : Bytes). is_in (lower key) (lowered_in b)) (drop_of_length-le before {i = at} h))

  module _ {x : Item} (i : Stands before at x) where
    at_field : is_in (lower key) (lowered_in (drop at before)) ≡ (same_bytes (lower key) (lower (value i)) || is_in (lower key) (lowered_in (drop x.end before)))
    unfolding lowered_in decode_fields
    at_field = ap (λ (o : Option (List Field)). is_in (lower key) (case_option o [] (map (λ f. lower f.value)))) i.fields ∙ go (fields_from 0 (drop x.end before)) refl
      where
        go : (o : Option (List Field)) → fields_from 0 (drop x.end before) ≡ o → is_in (lower key) (case_option (case_option o none (λ fs. some (field_of before x ∷ fs))) [] (map (λ f. lower f.value)))
            ≡ (same_bytes (lower key) (lower (value i)) || is_in (lower key) (case_option o [] (map (λ f. lower f.value))))
        go none e = none≢some (sym (i.fields ∙ rw e) ∙ w.rest.reads)
        go (some fs) e = refl

    pub found : same_bytes (lower key) (lower (value i)) ≡ true → true ≡ is_in (lower key) (lowered_in before)
    found h = sym (w.same ∙ at_field ∙ rw h)

    pub not_found : same_bytes (lower key) (lower (value i)) ≡ false → Seeking before key x.end
    not_found h = record { within = i.within; rest = go (fields_from 0 (drop x.end before)) refl; same = w.same ∙ at_field ∙ rw h }
      where
        go : (o : Option (List Field)) → fields_from 0 (drop x.end before) ≡ o → AreFields (drop x.end before)
        go none e = no_break (i.fields ∙ rw e)
        go (some fs) e = record { list = fs; reads = unfold decode_fields in e }

-- `gather`: the fields before `next`.
pub record Passed (keys : Bytes) (next : ℕ) : Type 0 where
  pub fields : List Field
  pub within : next ≤ length keys
  pub reads : decode_fields (take next keys) ≡ some fields

abbrev pub values_of : List Field → List Name
values_of fs = map (λ f. f.value) fs

unfoldable pub none_passed : (keys : Bytes) → Passed keys 0
unfolding decode_fields fields_from
none_passed keys = record { fields = []; within = omega arith; reads = refl }

-- Bytes that are keys are fields with these values.
key-fields : (keys : Bytes) (ks : List Name) → key_fields keys ≡ some ks → (fs : List Field) × (decode_fields keys ≡ some fs) × (values_of fs ≡ ks)
unfolding key_fields
key-fields keys ks = go (decode_fields keys) refl
  where
    at : (fs : List Field) → decode_fields keys ≡ some fs → (t : Bool) → (if t then some (values_of fs) else none) ≡ some ks → (fs : List Field) × (decode_fields keys ≡ some fs) × (values_of fs ≡ ks)
    at fs e true q = (fs, e, some_inj q)
    at fs e false q = none≢some q

    go : (o : Option (List Field)) → decode_fields keys ≡ o → case_option o none (λ fs. if all_of (λ f. eqb f.tag 3) fs then some (values_of fs) else none) ≡ some ks → (fs : List Field) × (decode_fields keys ≡ some fs) × (values_of fs ≡ ks)
    go none e q = none≢some q
    go (some fs) e q = at fs e (all_of (λ f. eqb f.tag 3) fs) q

map-append : (a b : List Field) → values_of (a ++ b) ≡ values_of a ++ values_of b
map-append [] b = refl
map-append (f ∷ a) b = ap (λ (l : List Name). f.value ∷ l) (map-append a b)

module _ {keys : Bytes} {next : ℕ} (p : Passed keys next) where
  -- What stands behind them.
  rest : (a : Bytes) → keys ≡ take next keys ++ a → decode_fields keys ≡ behind p.fields (decode_fields a)
  unfolding decode_fields
  rest a e = ap decode_fields e ∙ fields_append 0 (take next keys) a p.fields p.reads

  pub are_fields : AreFields (take next keys)
  are_fields = record { list = p.fields; reads = p.reads }

  -- Their values in lower case.
  pub lowered-values : lowered_in (take next keys) ≡ map lower (values_of p.fields)
  unfolding lowered_in
  lowered-values = rw p.reads (go p.fields)
    where
      go : (fs : List Field) → map (λ f. lower f.value) fs ≡ map lower (values_of fs)
      go [] = refl
      go (f ∷ fs) = ap (λ (l : List Name). lower f.value ∷ l) (go fs)

  module _ (f : Few keys) where
    -- All of them have been passed.
    pub all-passed : length keys ≤ next → values_of p.fields ≡ f.names
    all-passed h =
        let k = key-fields keys f.names f.reads in
        let e : take next keys ≡ keys = take_all h in
        ap values_of (some_inj (sym p.reads ∙ ap decode_fields e ∙ k.1)) ∙ k.2
      where
        take_all : length keys ≤ next → take next keys ≡ keys
        take_all h = let n : next ≡ length keys = omega (arith, p.within) in ap (λ (i : ℕ). take i keys) n ∙ take-length keys

    -- One more is read, and there were fewer than 32.
    read-on : (a : Bytes) → keys ≡ take next keys ++ a → (decode_fields a ≡ none → ⊥) × ((gs : List Field) → decode_fields a ≡ some gs → length p.fields + length gs ≤ 32)
    read-on a e =
        let k = key-fields keys f.names f.reads in (
          λ z. none≢some (sym (rest a e ∙ ap (behind p.fields) z) ∙ k.1),
          λ gs z. let m : p.fields ++ gs ≡ k.0 = some_inj (sym (rest a e ∙ ap (behind p.fields) z) ∙ k.1) in
              omega (arith, f.few, ap length k.2, length-map k.0 (λ g. g.value), ap length m, length-append p.fields gs),
        )

    pub never-broken : fields_from 0 (drop next keys) ≡ none → {A : Type 0} → A
    unfolding decode_fields
    never-broken h = absurd ((read-on (drop next keys) (sym (take-append-drop next keys))).0 h)

    module _ {x : Item} (i : Stands keys next x) where
      pub few-passed : length p.fields ≤ 31
      unfolding decode_fields
      few-passed = go (decode_fields (drop x.end keys)) refl
        where
          go : (o : Option (List Field)) → decode_fields (drop x.end keys) ≡ o → length p.fields ≤ 31
          go none e = never-broken (i.fields ∙ rw e)
          go (some gs) e = let h = (read-on (drop next keys) (sym (take-append-drop next keys))).1 (field_of keys x ∷ gs) (i.fields ∙ rw e) in omega arith

  module _ {x : Item} (i : Stands keys next x) where
    abbrev here : Field
    here = field_of keys x

    parted : take x.end keys ≡ take next keys ++ encode_field here
    parted =
        ap (take x.end) (sym (take-append-drop next keys) ∙ ap (λ (b : Bytes). take next keys ++ b) i.bytes ∙ sym (append_assoc (take next keys) (encode_field here) (drop x.end keys)))
        ∙ take_at (take next keys ++ encode_field here) (drop x.end keys) x.end size
      where
        size : length (take next keys ++ encode_field here) ≡ x.end
        size =
            let a = length-append (take next keys) (encode_field here) in
            let b = length-take-le next keys p.within in
            let v = length-take-le (x.end - x.start) (drop x.start keys) (omega (arith, length-drop x.start keys, i.within, i.ordered)) in
            omega (arith, a, b, encoded_length here, v, i.start, i.ordered)

    pub passed-one : Passed keys x.end
    unfolding decode_fields
    passed-one = record {
      fields = p.fields ++ here ∷ [];
      within = i.within;
      reads = ap (fields_from 0) parted ∙ fields_append 0 (take next keys) (encode_field here) p.fields p.reads ∙ ap (behind p.fields) alone;
    }
      where
        short : length here.value < 65536
        short =
            let v = length-take-le (x.end - x.start) (drop x.start keys) (omega (arith, length-drop x.start keys, i.within, i.ordered)) in
            omega (arith, v, i.short)

        alone : fields_from 0 (encode_field here) ≡ some (here ∷ [])
        alone = ap (fields_from 0) (sym (append-nil (encode_field here))) ∙ split-first here [] short ∙ (unfold fields_from in refl)

    pub passed-values : values_of passed-one.fields ≡ values_of p.fields ++ here.value ∷ []
    unfolding passed-one
    passed-values = map-append p.fields (here ∷ [])

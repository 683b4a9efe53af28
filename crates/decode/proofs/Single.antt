-- The parts of an image that are one field or none: the log and the open mark.
use mathlib.Core.Path.{◌≡◌, refl, sym, ap, ◌∙◌}
use mathlib.Core.Bool.{Bool, true, false, false≢true}
use mathlib.Core.List.{List, [], ◌∷◌, ◌++◌, append-nil}
use mathlib.Core.Option.{Option, none, some}
use mathlib.Core.Logic.{◌⊎◌, inl, inr}
use Prim.Native.Nat.{ℕ, ◌-◌, ◌≤◌, ◌<◌}
use native.Mathlib.Omega.{arith}
use lib.Dec.{eqb}
use lib.ListN.{length, drop}
use borrow.Author.Tests.{eq-eqb, eqb-true}
use Rattle.std.specs.Prelude.{None, Some}
use Rattle.basics.specs.Limits.{log_limit}
use Rattle.basics.specs.Base.{Bytes}
use Rattle.basics.specs.Field.{Field, encode_field, encode_fields}
use Rattle.model.specs.Image.{log_field, mark_field}
use Rattle.laws.specs.StoreLaws.{LogFits}
use Rattle.field.specs.declared.Item.{Item}
use Rattle.field.specs.Reading.{field_of}
use Rattle.field.specs.Writing.{field}
use Rattle.store.specs.Stores.{log_bytes}
use Rattle.decode.specs.Reading.{Ahead, starts, Reads, Lacks, Begins, Ends}
use Rattle.decode.specs.Decoding.{LogRead}
use Rattle.decode.proofs.Ahead.{value_of, value-length, no_bytes, first}

-- A part is `no`, without a field, or has one field of this tag, which tells it.
pub record Single {X : Type 0} (fields : X → List Field) (tag : ℕ) (no : X) : Type 0 where
  pub absent : fields no ≡ []
  pub each : (y : X) → (y ≡ no) ⊎ ((v : Bytes) × (fields y ≡ field tag v ∷ []))
  pub told : (y z : X) (v : Bytes) → fields y ≡ field tag v ∷ [] → fields z ≡ field tag v ∷ [] → y ≡ z

pub log-single : Single log_field 0x13 none
log-single = record { absent = refl; each = each; told = told }
  where
    each : (y : Option Bytes) → (y ≡ none) ⊎ ((v : Bytes) × (log_field y ≡ field 0x13 v ∷ []))
    each none = inl refl
    each (some l) = inr (l, refl)

    told : (y z : Option Bytes) (v : Bytes) → log_field y ≡ field 0x13 v ∷ [] → log_field z ≡ field 0x13 v ∷ [] → y ≡ z
    told none z v e f = let q : ◌≡◌ {A = ℕ} 0 1 = cc in absurd (omega arith)
    told (some l) none v e f = let q : ◌≡◌ {A = ℕ} 0 1 = cc in absurd (omega arith)
    told (some l) (some k) v e f =
        let p : record { tag = 0x13; value = l } ≡ field 0x13 v = cc in
        let q : record { tag = 0x13; value = k } ≡ field 0x13 v = cc in
        ap some (ap (λ (x : Field). x.value) p ∙ sym (ap (λ (x : Field). x.value) q))

pub mark-single : Single mark_field 0x14 false
mark-single = record { absent = refl; each = each; told = told }
  where
    each : (y : Bool) → (y ≡ false) ⊎ ((v : Bytes) × (mark_field y ≡ field 0x14 v ∷ []))
    each false = inl refl
    each true = inr ([], refl)

    told : (y z : Bool) (v : Bytes) → mark_field y ≡ field 0x14 v ∷ [] → mark_field z ≡ field 0x14 v ∷ [] → y ≡ z
    told false z v e f = let q : ◌≡◌ {A = ℕ} 0 1 = cc in absurd (omega arith)
    told true false v e f = let q : ◌≡◌ {A = ℕ} 0 1 = cc in absurd (omega arith)
    told true true v e f = refl

module _ {X : Type 0} {fields : X → List Field} {tag : ℕ} {no : X} (i : Single fields tag no) (Formed : X → Type 0) {src : Bytes} {at : ℕ} where
  -- No field of the tag stands there.
  pub missing : at ≤ length src → Formed no → Ends (λ t. eqb t tag) src at → Reads fields Formed (λ t. eqb t tag) src at no at
  unfolding encode_fields
  missing w f h = record { within = w; formed = f; bytes = rw i.absent; only = λ y fs g s a. go y fs a (i.each y) }
    where
      go : (y : X) (fs : List Field) → Ahead src at (fields y ++ fs) → (y ≡ no) ⊎ ((v : Bytes) × (fields y ≡ field tag v ∷ [])) → (y ≡ no) × Ahead src at fs
      go y fs a (inl e) = (e, rw (e, i.absent) at a)
      go y fs a (inr v) = absurd (false≢true (sym (h.here (field tag v.0 ∷ fs) (rw v.1 at a)) ∙ eq-eqb tag tag refl))

  -- The field x does.
  module _ {x : Item} (b : Begins (λ t. eqb t tag) src at x) where
    here : field_of src x ≡ field tag (value_of src x)
    here = ap (λ (k : ℕ). field k (value_of src x)) (eqb-true x.tag tag b.owned)

    only-this : (y : X) (fs : List Field) → starts (λ t. eqb t tag) fs ≡ false → Ahead src at (fields y ++ fs) → (fields y ≡ field tag (value_of src x) ∷ []) × Ahead src x.end fs
    only-this y fs n a = go (i.each y)
      where
        go : (y ≡ no) ⊎ ((v : Bytes) × (fields y ≡ field tag v ∷ [])) → (fields y ≡ field tag (value_of src x) ∷ []) × Ahead src x.end fs
        go (inl e) = absurd (false≢true (sym n ∙ rw (first b.stands (rw (e, i.absent) at a)).1.0 b.owned))
        go (inr v) =
            let f = first b.stands (rw v.1 at a) in
            let q : field tag v.0 ∷ fs ≡ field_of src x ∷ f.0 = f.1.0 in
            let p : field tag v.0 ≡ field_of src x = cc in
            let l : f.0 ≡ fs = cc in
            (v.1 ∙ ap (λ (k : Field). k ∷ []) (p ∙ here), rw (← l) f.1.1)

    pub present : (y : X) → Formed y → fields y ≡ field tag (value_of src x) ∷ [] → Reads fields Formed (λ t. eqb t tag) src at y x.end
    unfolding encode_fields
    present y f e = record {
      within = b.stands.within;
      formed = f;
      bytes = b.stands.bytes ∙ rw (e, here) (ap (λ (l : Bytes). l ++ drop x.end src) (sym (append-nil (encode_field (field tag (value_of src x))))));
      only = λ k fs g n a. let p = only-this k fs n a in (i.told k y (value_of src x) p.0 e, p.1);
    }

    pub wrong : ((k : X) → Formed k → fields k ≡ field tag (value_of src x) ∷ [] → ⊥) → Lacks fields Formed (λ t. eqb t tag) src at
    wrong h = record { none = λ k fs g n a. h k g (only-this k fs n a).0 }

-- The log.
module _ {src : Bytes} {at : ℕ} where
  pub no-log : at ≤ length src → Ends (λ t. eqb t 0x13) src at → LogRead src at None at
  unfolding log_bytes
  no-log w h = record { sound = record { inside = tt }; plain = tt; reads = missing log-single LogFits w tt h }

  module _ {x : Item} (b : Begins (λ t. eqb t 0x13) src at x) where
    pub log-here : x.end - x.start ≤ log_limit → LogRead src at (Some (record { start = x.start; len = x.end - x.start; rewritten = None })) x.end
    unfolding log_bytes
    log-here h = record {
      sound = record { inside = let e : x.end ≤ length src = b.stands.within in omega (arith, b.stands.ordered) };
      plain = refl;
      reads = present log-single LogFits b (some (value_of src x)) (rw (value-length b.stands) h) refl;
    }

    pub log-long : log_limit < x.end - x.start → Lacks log_field LogFits (λ t. eqb t 0x13) src at
    log-long h = wrong log-single LogFits b too_long
      where
        too_long : (k : Option Bytes) → LogFits k → log_field k ≡ field 0x13 (value_of src x) ∷ [] → ⊥
        too_long none f e = let q : ◌≡◌ {A = ℕ} 0 1 = cc in omega arith
        too_long (some l) f e =
            let p : record { tag = 0x13; value = l } ≡ field 0x13 (value_of src x) = cc in
            omega (arith, value-length b.stands, ap (λ (y : Field). length y.value) p)

-- The mark.
module _ {src : Bytes} {at : ℕ} where
  pub no-mark : at ≤ length src → Ends (λ t. eqb t 0x14) src at → Reads mark_field (λ b. Unit {0}) (λ t. eqb t 0x14) src at false at
  no-mark w h = missing mark-single (λ b. Unit {0}) w tt h

  module _ {x : Item} (b : Begins (λ t. eqb t 0x14) src at x) where
    pub mark-here : x.end ≤ x.start → Reads mark_field (λ b. Unit {0}) (λ t. eqb t 0x14) src at true x.end
    mark-here h = present mark-single (λ b. Unit {0}) b true tt (ap (λ (v : Bytes). field 0x14 v ∷ []) (sym (no_bytes (value_of src x) (value-length b.stands ∙ omega arith))))

    pub mark-long : x.start < x.end → Lacks mark_field (λ b. Unit {0}) (λ t. eqb t 0x14) src at
    mark-long h = wrong mark-single (λ b. Unit {0}) b not-empty
      where
        not-empty : (k : Bool) → Unit {0} → mark_field k ≡ field 0x14 (value_of src x) ∷ [] → ⊥
        not-empty false f e = let q : ◌≡◌ {A = ℕ} 0 1 = cc in omega arith
        not-empty true f e =
            let p : record { tag = 0x14; value = [] } ≡ field 0x14 (value_of src x) = cc in
            omega (arith, value-length b.stands, ap (λ (y : Field). length y.value) p)

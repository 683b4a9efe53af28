-- Bytes with a name written at a place.
use Rattle.std.specs.Prelude.{None, Some}
use mathlib.Core.Path.{◌≡◌, refl, ap, ◌∙◌}
use mathlib.Core.List.{◌++◌}
use mathlib.Core.Bool.{Bool, true, false}
use Prim.Native.Nat.{ℕ, ◌+◌, ◌-◌, ◌≤◌, ◌<◌}
use native.Mathlib.Omega.{arith}
use lib.ListN.{length, take, drop, length-append}
use lib.Seq.{length-take-le, take_at, drop_at, take-append-le, take-length, drop-append-le}
use Rattle.basics.specs.Limits.{name_limit}
use Rattle.basics.specs.Order.{Name}
use Rattle.basics.specs.Base.{Bytes}
use Rattle.basics.specs.Name.{valid_name, lower}
use Rattle.basic_laws.specs.ValidNames.{valid-length}
use Rattle.spans.specs.Spans.{Names}
use Rattle.spans.specs.declared.NameRef.{NameRef}
use Rattle.field.specs.Writing.{written}
use Rattle.field.proofs.Written.{written-room, length-written}
use Rattle.paths.proofs.Lower.{length-lower}
use Rattle.lend.specs.Lending.{Lends}
use Rattle.lend.specs.declared.Named.{Named}

-- A name of over 64 bytes is not valid.
pub too_long : (n : Name) → name_limit < length n → valid_name n ≡ false
too_long n h = go (valid_name n) refl
  where
    go : (b : Bool) → valid_name n ≡ b → b ≡ false
    go true e = let s = valid-length n e in absurd (omega (arith, s.1))
    go false e = refl

pub long-key : (k : Name) → name_limit < length k → valid_name (lower k) ≡ false
long-key k h = too_long (lower k) (omega (arith, length-lower k))

module _ (at : ℕ) (n : Name) (before : Bytes) (room : at + name_limit ≤ length before) where
  -- Nothing is lent.
  pub not-lent : {after : Bytes} {r : Named} → length after ≡ length before → take at after ≡ take at before → valid_name n ≡ false → (r.name ≡ None) × (r.end ≡ at) → Lends at n before after r
  not-lent s f v e = record {
    size = s;
    front = f;
    names = rw e.0 v;
    starts = omega (arith, e.1);
    ends = omega (arith, e.1);
  }

  module _ (short : length n ≤ name_limit) {after : Bytes} (w : after ≡ written at n before) where
    shape : after ≡ (take at before ++ n) ++ drop (at + length n) before
    shape = w ∙ written-room at n before (omega arith)

    pub same_size : length after ≡ length before
    same_size = ap length w ∙ length-written at n before

    fit : length (take at before) ≡ at
    fit = length-take-le at before (omega arith)

    ends : length (take at before ++ n) ≡ at + length n
    ends = length-append (take at before) n ∙ ap (λ (k : ℕ). k + length n) fit

    pub kept : take at after ≡ take at before
    kept = ap (take at) shape ∙ take-append-le at (take at before ++ n) (drop (at + length n) before) (omega (arith, ends)) ∙ take_at (take at before) n at fit

    up_to : take (at + length n) after ≡ take at before ++ n
    up_to = ap (take (at + length n)) shape ∙ take_at (take at before ++ n) (drop (at + length n) before) (at + length n) ends

    pub part : drop at (take (at + length n) after) ≡ n
    part = ap (drop at) up_to ∙ drop_at (take at before) n at fit

    pub lent : valid_name n ≡ true → {k : ℕ} → k ≡ length n → {r : NameRef} → Names (take (at + k) after) r (take k (drop at (take (at + k) after))) → Lends at n before after (record { name = Some r; end = at + k })
    lent v {k} e {r} q = record {
      size = same_size;
      front = kept;
      names = (v, record { sound = q.sound; same = q.same ∙ named });
      starts = omega arith;
      ends = omega (arith, e);
    }
      where
        named : take k (drop at (take (at + k) after)) ≡ n
        named = ap (λ (j : ℕ). take j (drop at (take (at + j) after))) e ∙ ap (take (length n)) part ∙ take-length n

    -- The part that the name was written to.
    pub written-part : {k : ℕ} → k ≡ length n → take (at + k - at) (drop at after) ≡ n
    written-part {k} e =
        let q : at + k - at ≡ length n = omega (arith, e) in
        let g : drop at after ≡ n ++ drop (at + length n) before =
        ap (drop at) shape
        ∙ drop-append-le at (take at before ++ n) (drop (at + length n) before) (omega (arith, ends))
        ∙ ap (λ (b : Bytes). b ++ drop (at + length n) before) (drop_at (take at before) n at fit) in
        ap (λ (j : ℕ). take j (drop at after)) q ∙ ap (take (length n)) g ∙ take_at n (drop (at + length n) before) (length n) refl

-- What a listing tells its reader: each name as it comes, and what is left.
use mathlib.Core.Path.{◌≡◌, refl, sym, ap, ◌∙◌}
use mathlib.Core.List.{List, [], ◌∷◌, map}
use Prim.Native.Nat.{ℕ, suc, ◌+◌, ◌≤◌, ◌<◌}
use native.Mathlib.Numerals.{add-one}
use native.Mathlib.Omega.{arith}
use lib.ListN.{length, drop, get_or, length-map, get_or-map, drop_of_length-le}
use lib.Seq.{drop-cons}
use Rattle.fixed_vec.specs.FixedVec.{FixedVec, of_items}
use Rattle.basics.specs.Order.{Name}
use Rattle.basics.specs.Base.{Bytes}
use Rattle.spans.specs.Spans.{name_of, Sound}
use Rattle.spans.specs.declared.NameRef.{NameRef}
use Rattle.store.specs.Tables.{Lists}
use Rattle.store.proofs.Lists.{all_get_d}

-- What is read where no name stands.
abbrev pub no_name : NameRef
no_name = record { start = 0; len = 0; baks = 0 }

-- The names of a listing.
abbrev pub names_in : Bytes → FixedVec NameRef → List Name
names_in src l = map (name_of src) l.items

-- A walk through the names has them as a slice.
pub items-listed : {src : Bytes} {l : FixedVec NameRef} {names : List Name} → Lists src l names → Lists src (of_items l.items) names
items-listed s = record { each = s.each; same = s.same }

module _ {src : Bytes} {l : FixedVec NameRef} {names : List Name} (s : Lists src l names) where
  pub listed-own : Lists src l (names_in src l)
  listed-own = record { each = s.each; same = refl }

  length-listed : length names ≡ length l.items
  length-listed = ap length (sym s.same) ∙ length-map l.items (name_of src)

  pub listed-end : {i : ℕ} → length l.items ≤ i → drop i names ≡ []
  listed-end {i} h = drop_of_length-le names {i = i} (omega (arith, length-listed))

  -- The name r at i is sound, and what is left from i on starts with it.
  module _ {i : ℕ} {r : NameRef} (e : r ≡ get_or l.items i no_name) (h : i < length l.items) where
    pub listed-sound : Sound src r
    listed-sound = rw e (all_get_d (Sound src) l.items i no_name s.each h)

    at : get_or names i (name_of src no_name) ≡ name_of src r
    at = ap (λ (k : List Name). get_or k i (name_of src no_name)) (sym s.same) ∙ get_or-map (name_of src) l.items i no_name ∙ ap (name_of src) (sym e)

    pub listed-rest : drop i names ≡ name_of src r ∷ drop (i + 1) names
    listed-rest =
        let k : i < length names = omega (arith, length-listed) in
        drop-cons names i (name_of src no_name) k ∙ ap (λ (x : Name). x ∷ drop (suc i) names) at
        ∙ ap (λ (j : ℕ). name_of src r ∷ drop j names) (sym (add-one i))

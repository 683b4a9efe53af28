-- The set of the keys met, one key more a turn.
use Rattle.std.specs.Prelude.{if◌then◌else◌, Option, None, Some, option_map}
use mathlib.Core.Path.{◌≡◌, refl, sym, ap, subst, ◌∙◌}
use mathlib.Core.Bool.{Bool, true, false, ◌&&◌, false≢true}
use mathlib.Core.List.{List, [], ◌∷◌, ◌++◌, append-nil, append_assoc}
use Prim.Native.Nat.{ℕ, ◌+◌, ◌≤◌}
use native.Mathlib.Omega.{arith}
use lib.ListN.{length, take, length-append}
use Rattle.basics.specs.Order.{Name}
use Rattle.basics.specs.Base.{Bytes, is_in, all_of, flat_map}
use Rattle.basics.specs.Name.{valid_name}
use Rattle.model.specs.Operation.{delete, encode_payload}
use Rattle.model.specs.Log.{entry}
use Rattle.field.specs.Writing.{written}
use Rattle.field.proofs.Written.{written-nil, written_then}
use Rattle.spans.specs.Spans.{Given}
use Rattle.spans.specs.declared.NameRef.{NameRef}
use Rattle.lend.specs.declared.Named.{Named}
use Rattle.laws.specs.KeySetLaws.{delete_entries}
use Rattle.key_set.specs.Gathering.{Roomy, Entry, PutsEntry, EntriesTo, Entries, Gathers, more}
use Rattle.key_set.specs.declared.Gathered.{Gathered}

entries-last : (c : Name) (ks : List Name) (k : Name) → delete_entries c (ks ++ k ∷ []) ≡ delete_entries c ks ++ entry (encode_payload (delete c k))
unfolding delete_entries
entries-last c [] k = append-nil (entry (encode_payload (delete c k)))
entries-last c (a ∷ ks) k =
    ap (λ (b : Bytes). entry (encode_payload (delete c a)) ++ b) (entries-last c ks k)
    ∙ sym (append_assoc (entry (encode_payload (delete c a))) (flat_map (λ k. entry (encode_payload (delete c k))) ks) (entry (encode_payload (delete c k))))

all-last : (ks : List Name) (k : Name) → all_of valid_name (ks ++ k ∷ []) ≡ (all_of valid_name ks && valid_name k)
all-last [] k = plain (valid_name k)
  where
    plain : (t : Bool) → (t && true) ≡ t
    plain true = refl
    plain false = refl
all-last (a ∷ ks) k = ap (λ (t : Bool). valid_name a && t) (all-last ks k) ∙ joined (valid_name a) (all_of valid_name ks) (valid_name k)
  where
    joined : (x y z : Bool) → (x && (y && z)) ≡ ((x && y) && z)
    joined true y z = refl
    joined false y z = refl

pub nothing_yet : {names out : Bytes} {c : Named} {collection : Name} {at : ℕ} → Roomy names c collection → Gathers collection at out [] out (record { count = 0; end = option_map (λ r. at) c.name })
unfolding delete_entries
nothing_yet {names} {out} {c} {collection} {at} w = record { size = refl; count = refl; entries = go c.name w.below }
  where
    go : (o : Option NameRef) → Given (take c.end names) o collection → Entries collection at out [] out (option_map (λ r. at) o)
    go None v = rw v
    go (Some r) v = record { valid = rw v.0; small = omega arith; ends = omega arith; bytes = sym (written-nil at out) }

module _ {c : Name} {start : ℕ} {first : Bytes} {set : List Name} {out : Bytes} {g : Gathered} (w : Gathers c start first set out g) (k : Name) (met : List Name) where
  pub again : true ≡ is_in k met → Gathers c start first (more k met set) out g
  again h = subst (λ (l : List Name). Gathers c start first l out g) (sym (rw (sym h) (append-nil set))) w

  new : false ≡ is_in k met → {out' : Bytes} {r : Gathered} → Gathers c start first (set ++ k ∷ []) out' r → Gathers c start first (more k met set) out' r
  new h {out'} {r} x = subst (λ (t : Bool). Gathers c start first (set ++ (if t then [] else k ∷ [])) out' r) h x

  longer : length (set ++ k ∷ []) ≡ length set + 1
  longer = length-append set (k ∷ [])

  all-valid : (valid_name c && all_of valid_name (set ++ k ∷ [])) ≡ (valid_name c && (all_of valid_name set && valid_name k))
  all-valid = ap (λ (t : Bool). valid_name c && t) (all-last set k)

  pub still-none : false ≡ is_in k met → g.end ≡ None → Gathers c start first (more k met set) out (record { count = g.count + 1; end = None })
  still-none h e = new h record {
    size = w.size;
    count = omega (arith, longer, w.count);
    entries = all-valid ∙ either (valid_name c) (all_of valid_name set) (valid_name k) (subst (Entries c start first set out) e w.entries);
  }
    where
      either : (x y z : Bool) → (x && y) ≡ false → (x && (y && z)) ≡ false
      either false y z e = refl
      either true false z e = refl
      either true true z e = absurd (false≢true (sym e))

  pub one_more : {at : ℕ} {out' : Bytes} (r : Option ℕ) → false ≡ is_in k met → g.end ≡ Some at → start + 4672 ≤ length first → length set ≤ 31 → PutsEntry c k at out out' r →
      Gathers c start first (more k met set) out' (record { count = g.count + 1; end = r })
  one_more {at} {out'} r h e room few p = new h record { size = p.size ∙ w.size; count = omega (arith, longer, w.count); entries = go r p.entry }
    where
      so_far : EntriesTo c start first set out at
      so_far = subst (Entries c start first set out) e w.entries

      one : Bytes
      one = entry (encode_payload (delete c k))

      neither : (x y z : Bool) → (x && z) ≡ false → (x && (y && z)) ≡ false
      neither false y z e = refl
      neither true false z e = refl
      neither true true z e = e

      both : (x y z : Bool) → (x && y) ≡ true → (x && z) ≡ true → (x && (y && z)) ≡ true
      both false y z e f = e
      both true false z e f = e
      both true true z e f = f

      go : (r : Option ℕ) → Entry c k at out out' r → Entries c start first (set ++ k ∷ []) out' r
      go None v = all-valid ∙ neither (valid_name c) (all_of valid_name set) (valid_name k) v
      go (Some end) v = record {
        valid = all-valid ∙ both (valid_name c) (all_of valid_name set) (valid_name k) so_far.valid v.valid;
        small = omega (arith, longer, so_far.small, v.small, v.ends);
        ends = omega (arith, so_far.ends, v.ends, ap length (entries-last c set k), length-append (delete_entries c set) one);
        bytes =
            written_then start at (delete_entries c set) one first so_far.bytes v.bytes so_far.ends (omega (arith, v.small, so_far.small))
            ∙ ap (λ (b : Bytes). written start b first) (sym (entries-last c set k));
      }

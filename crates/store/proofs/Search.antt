-- Binary search: the nodes before lo are below the key, and those from hi on are above it.
use mathlib.Core.Path.{◌≡◌, refl, sym, ap, ◌∙◌}
use mathlib.Core.List.{◌∷◌}
use mathlib.Core.Option.{none, some}
use Prim.Native.Nat.{ℕ, suc, ◌+◌, ◌≤◌, ◌<◌}
use native.Mathlib.Numerals.{add-one}
use native.Mathlib.Omega.{arith}
use lib.ListN.{length, take, drop, get_or}
use Rattle.basics.specs.Order.{Key, cmp_key}
use Rattle.basics.specs.Map as model
use Rattle.basics.specs.Map.{look}
use Rattle.basics.specs.Base.{Bytes}
use Rattle.basic_laws.specs.Tests.{All}
use Rattle.std.specs.declared.cmp.Ordering.{Ordering}
use Rattle.std.specs.declared.cmp.Ordering.TheVariants.{Less, Equal, Greater}
use Rattle.paths.specs.Compare.{order_of}
use Rattle.spans.specs.Spans.{Sound}
use Rattle.spans.specs.declared.NameRef.{NameRef}
use Rattle.std.specs.Prelude.{Result, Ok, Err, None, Some}
use Rattle.std.specs.Result.{result_ok}
use Rattle.store.specs.declared.Node.{Node}
use Rattle.store.specs.declared.Table.{Table}
use Rattle.store.specs.Places.{Under, Over, Hit, Gap}
use Rattle.store.specs.Tables.{key_of, node_of, live, map_of, SoundNode, SoundTable, Finds}
use Rattle.store.proofs.Lists.{all-zero}
use Rattle.store.proofs.Live.{blank, length-table, node_at_lem, rest_read, finished, sound-read}
use Rattle.store.proofs.Places.{raise, lower, hit-at, look_hit, look-gap}

pub record Search (src : Bytes) (t : Table) (dir file : NameRef) (lo hi : ℕ) : Type 0 where
  pub sound : SoundTable src t
  pub sound-dir : Sound src dir
  pub sound-file : Sound src file
  pub order : lo ≤ hi
  pub within : hi ≤ length (live t)
  pub under : All (Under (key_of src dir file)) (take lo (map_of src t))
  pub over : All (Over (key_of src dir file)) (drop hi (map_of src t))

found_at : {k : Key} {v : ℕ} {m : model.Map} {i : ℕ} → Hit k v m i → Finds k m (Ok i)
found_at {k} {v} {m} {i} h = record {
  at = λ j e. let p : i ≡ j = cc in (v, rw p at h);
  missing = λ j e. let z : ◌≡◌ {A = ℕ} 0 1 = cc in absurd (omega arith);
}

found-missing : {k : Key} {m : model.Map} {i : ℕ} → Gap k m i → Finds k m (Err i)
found-missing {k} {m} {i} g = record {
  at = λ j e. let z : ◌≡◌ {A = ℕ} 0 1 = cc in absurd (omega arith);
  missing = λ j e. let p : i ≡ j = cc in rw p at g;
}

pub start : {src : Bytes} {t : Table} {dir file : NameRef} → SoundTable src t → Sound src dir → Sound src file → Search src t dir file 0 (length (live t))
start {src} {t} {dir} {file} s d f = record {
  sound = s;
  sound-dir = d;
  sound-file = f;
  order = omega arith;
  within = omega arith;
  under = all-zero (Under (key_of src dir file)) (map_of src t);
  over = rw (finished src t (length (live t)) (omega arith)) tt;
}

-- The node x at i is compared.
module _ {src : Bytes} {t : Table} {dir file : NameRef} {lo hi : ℕ} (w : Search src t dir file lo hi) {i : ℕ} {x : Node} (r : x ≡ get_or (live t) i blank) (l : lo ≤ i) (h : i < hi) where
  abbrev Told : Ordering → Type 0
  Told o = order_of o ≡ cmp_key (key_of src dir file) (key_of src x.dir x.file)

  inside : i < length (live t)
  inside = omega (arith, w.within)

  short : i < length (map_of src t)
  short = omega (arith, length-table src t, inside)

  told : (o : Ordering) → Told o → cmp_key (key_of src dir file) (get_or (map_of src t) i (node_of src blank)).0 ≡ order_of o
  told o c = ap (λ (n : model.Node). cmp_key (key_of src dir file) n.0) (node_at_lem src t i blank ∙ ap (node_of src) (sym r)) ∙ sym c

  pub read : SoundNode src x
  read = sound-read w.sound inside r

  pub up : Told Greater → Search src t dir file (i + 1) hi
  up c = record {
    sound = w.sound;
    sound-dir = w.sound-dir;
    sound-file = w.sound-file;
    order = omega arith;
    within = w.within;
    under = rw (add-one i) (raise (key_of src dir file) (map_of src t) i (node_of src blank) w.sound.sorted short (told Greater c));
    over = w.over;
  }

  pub down : Told Less → Search src t dir file lo i
  down c = record {
    sound = w.sound;
    sound-dir = w.sound-dir;
    sound-file = w.sound-file;
    order = l;
    within = omega (arith, inside);
    under = w.under;
    over = lower (key_of src dir file) (map_of src t) i (node_of src blank) w.sound.sorted short (told Less c);
  }

  pub hit : Told Equal → Finds (key_of src dir file) (map_of src t) (Ok i)
  hit c = found_at (hit-at (key_of src dir file) (map_of src t) i (node_of src blank) w.sound.sorted short (told Equal c))

pub none_left : {src : Bytes} {t : Table} {dir file : NameRef} {lo hi : ℕ} → Search src t dir file lo hi → hi ≤ lo → Finds (key_of src dir file) (map_of src t) (Err lo)
none_left {src} {t} {dir} {file} {lo} {hi} w h =
    let e : hi ≡ lo = omega (arith, w.order) in
    found-missing record {
      within = omega (arith, length-table src t, w.within);
      under = w.under;
      over = rw e at w.over;
    }

-- What `find` found in a table.
module _ (src : Bytes) (t : Table) {k : Key} {i : ℕ} where
  pub within : {v : ℕ} → Hit k v (map_of src t) i → i < length (live t)
  within h = omega (arith, h.within, length-table src t)

  pub at_most : Gap k (map_of src t) i → i ≤ length (live t)
  at_most g = omega (arith, g.within, length-table src t)

  pub look_at : {v : ℕ} {x : Node} → SoundTable src t → Hit k v (map_of src t) i → x ≡ get_or (live t) i blank → some x.number ≡ look k (map_of src t)
  look_at {v} {x} s h g =
      let p : node_of src x ∷ drop (i + 1) (map_of src t) ≡ (k, v) ∷ drop (suc i) (map_of src t) = sym (rest_read s (within h) g) ∙ h.here in
      let q : node_of src x ≡ (k, v) = cc in
      ap (λ (n : model.Node). some n.1) q ∙ sym (look_hit k h)

-- The same, where its answer is asked for the place alone.
pub hit_found : {k : Key} {m : model.Map} {i : ℕ} (r : Result ℕ ℕ) → Finds k m r → Some i ≡ result_ok r → (v : ℕ) × Hit k v m i
hit_found {i = i} (Ok j) f e = let p : i ≡ j = cc in rw p (f.at j refl)
hit_found (Err j) f e = let z : ◌≡◌ {A = ℕ} 0 1 = cc in absurd (omega arith)

pub none_found : {k : Key} {m : model.Map} (r : Result ℕ ℕ) → Finds k m r → None ≡ result_ok r → none ≡ look k m
none_found (Ok j) f e = let z : ◌≡◌ {A = ℕ} 0 1 = cc in absurd (omega arith)
none_found {k} (Err j) f e = sym (look-gap k (f.missing j refl))

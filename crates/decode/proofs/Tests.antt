-- The tests that a directory's and a file's field must pass: exactly then the node fits.
use mathlib.Core.Path.{◌≡◌, refl, sym, ap, ◌∙◌}
use mathlib.Core.Bool.{Bool, true, false}
use mathlib.Core.List.{[], ◌∷◌, ◌++◌}
use Prim.Native.Nat.{ℕ, ◌+◌, ◌≤◌, ◌<◌}
use native.Mathlib.Omega.{arith}
use lib.ListN.{length, take, drop}
use lib.Dec.{leb}
use Rattle.basics.specs.Limits.{dir_limit, number_limit}
use Rattle.basics.specs.Order.{Cmp, lt, eq, gt, then_cmp, Name, Key, cmp_name, cmp_key}
use Rattle.basics.specs.Map.{Node}
use Rattle.basics.specs.Base.{Bytes, same_bytes}
use Rattle.basics.specs.Name.{valid_name}
use Rattle.basics.specs.Field.{little_endian}
use Rattle.model.specs.Store.{valid_number, valid_node, valid_staged}
use Rattle.basic_laws.specs.Tests.{All, and_both, and_made, leb_le, le-leb, same_refl}
use Rattle.basic_laws.specs.OrderLaws.{name_laws, lt≢eq, lt≢gt}
use Rattle.basic_laws.specs.FieldLaws.{Byte}
use Rattle.laws.specs.ImageLaws.{listed, node-parts}
use Rattle.laws.specs.TreeLaws.{is_dir, is_file}
use Rattle.field.specs.Writing.{field}
use Rattle.decode.specs.Listing.{file_tag, files_of, valid_at, Fits}
use Rattle.decode.specs.Spots.{InDir}
use Rattle.decode.proofs.Rows.{invalid-nil}
use Rattle.decode.proofs.Nodes.{number_of, value-again, file-filed, dir-filed}

-- Keys against those of a directory, and of a file in the same directory.
not-below-nil : {A : Type 0} (f : Name) → cmp_name f [] ≡ lt → A
not-below-nil [] e = lt≢eq (sym e)
not-below-nil (y ∷ ys) e = lt≢gt (sym e)

dir-above : (k : Key) (v : Name) → cmp_key k (v, []) ≡ lt → cmp_name k.0 v ≡ lt
unfolding cmp_key
dir-above k v h = go (cmp_name k.0 v) h
  where
    go : (c : Cmp) → then_cmp c (cmp_name k.1 []) ≡ lt → c ≡ lt
    go lt e = refl
    go eq e = not-below-nil k.1 e
    go gt e = lt≢gt (sym e)

above-dir : (k : Key) (v f : Name) → cmp_name k.0 v ≡ lt → cmp_key k (v, f) ≡ lt
unfolding cmp_key
above-dir k v f h = rw h

file-order : (k : Key) (f : Name) → cmp_key k (k.0, f) ≡ cmp_name k.1 f
unfolding cmp_key
file-order k f = rw (name_laws.reflexive k.0)

-- How a valid name counts.
pub is-file : (d f : Name) → valid_name f ≡ true → (is_file (d, f) ≡ 1) × (is_dir (d, f) ≡ 0)
is-file d [] v = invalid-nil v
is-file d (y ∷ ys) v = (refl, refl)

-- A directory's field.
pub record DirPasses (k : Key) (dirs : ℕ) (v : Bytes) : Type 0 where
  pub room : dirs < dir_limit
  pub valid : valid_name v ≡ true
  pub above : cmp_name k.0 v ≡ lt

pub dir-passes : {k : Key} {dirs files : ℕ} {v : Bytes} {n : Node} → Fits false k dirs files n → listed false n ≡ field 0x10 v → DirPasses k dirs v
dir-passes {k} {dirs} {files} {v} {n} h e =
    let p = dir-filed v n e in
    let w : n.0 ≡ (v, []) = λ i. (p.0 i, p.1 i) in
    let r : dirs + 1 ≤ dir_limit = rw w at h.dirs_fit in
    record {
      room = omega arith;
      valid = rw p.0 at (node-parts k.0 n h.valid).0;
      above = dir-above k v (rw w at h.above);
    }

pub dir-fits : {k : Key} {dirs files : ℕ} {v : Bytes} → DirPasses k dirs v → files ≤ files_of false → Fits false k dirs files ((v, []), 0)
unfolding valid_node
dir-fits {k} {dirs} {files} {v} p h =
    let r : dirs < dir_limit = p.room in
    record { valid = and_made (valid_name v) true p.valid refl; above = above-dir k v [] p.above; dirs_fit = omega arith; files_fit = omega arith }

-- A file's field.
pub record FilePasses (staged : Bool) (k : Key) (files : ℕ) (v : Bytes) : Type 0 where
  pub room : files < files_of staged
  pub long : 4 ≤ length v
  pub number : 1 ≤ number_of v
  pub small : number_of v ≤ number_limit
  pub valid : valid_name (drop 4 v) ≡ true
  pub above : cmp_name k.1 (drop 4 v) ≡ lt

pub file-passes : {staged : Bool} {k : Key} {dirs files : ℕ} {v : Bytes} {n : Node} → InDir staged k.0 → Fits staged k dirs files n → listed staged n ≡ field (file_tag staged) v → FilePasses staged k files v
file-passes {staged} {k} {dirs} {files} {v} {n} i h e =
    let p = file-filed staged k.0 v n i h.valid e in
    let w : n.0 ≡ (k.0, drop 4 v) = λ i. (p.dir i, p.name i) in
    let r : files + is_file (k.0, drop 4 v) ≤ files_of staged = rw w at h.files_fit in
    let o : is_file (k.0, drop 4 v) ≡ 1 = (is-file k.0 (drop 4 v) p.valid).0 in
    let q = and_both (leb 1 (number_of v)) (leb (number_of v) number_limit) p.in_range in
    record {
      room = omega arith;
      long = p.long;
      number = leb_le 1 (number_of v) q.0;
      small = leb_le (number_of v) number_limit q.1;
      valid = p.valid;
      above = sym (file-order k (drop 4 v)) ∙ rw w at h.above;
    }

file-valid : (staged : Bool) (d f : Name) (x : ℕ) → InDir staged d → valid_name f ≡ true → valid_number x ≡ true → valid_at staged d ((d, f), x) ≡ true
unfolding valid_node valid_staged
file-valid true d f x i v w = rw i (and_made _ (valid_number x) (and_made true (valid_name f) refl v) w)
file-valid false d [] x i v w = invalid-nil v
file-valid false d (y ∷ ys) x i v w = and_made (valid_name d) _ i (and_made _ (valid_number x) (and_made (same_bytes d d) (valid_name (y ∷ ys)) (same_refl d) v) w)

pub file-fits : {staged : Bool} {k : Key} {dirs files : ℕ} {v : Bytes} → InDir staged k.0 → FilePasses staged k files v → dirs ≤ dir_limit → Fits staged k dirs files ((k.0, drop 4 v), number_of v)
file-fits {staged} {k} {dirs} {files} {v} i p h =
    let c = is-file k.0 (drop 4 v) p.valid in
    let r : files < files_of staged = p.room in
    record {
      valid = file-valid staged k.0 (drop 4 v) (number_of v) i p.valid (and_made (leb 1 (number_of v)) (leb (number_of v) number_limit) (le-leb 1 (number_of v) p.number) (le-leb (number_of v) number_limit p.small));
      above = file-order k (drop 4 v) ∙ p.above;
      dirs_fit = omega arith;
      files_fit = omega arith;
    }

file-listed : (staged : Bool) (d f v : Bytes) (x : ℕ) → valid_name f ≡ true → little_endian 4 x ++ f ≡ v → listed staged ((d, f), x) ≡ field (file_tag staged) v
file-listed true d f v x w e = ap (field 0x12) e
file-listed false d [] v x w e = invalid-nil w
file-listed false d (y ∷ ys) v x w e = ap (field 0x11) e

pub file-again : {staged : Bool} {k : Key} {files : ℕ} {v : Bytes} → FilePasses staged k files v → All Byte (take 4 v) → listed staged ((k.0, drop 4 v), number_of v) ≡ field (file_tag staged) v
file-again {staged} {k} {files} {v} p b = file-listed staged k.0 (drop 4 v) v (number_of v) p.valid (value-again v p.long b)

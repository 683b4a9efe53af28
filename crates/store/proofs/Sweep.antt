-- `without_dir`: the nodes of other directories are kept, one behind the other.
use Rattle.std.specs.Prelude.{if◌then◌else◌}
use mathlib.Core.Path.{◌≡◌, refl, sym, ap, ◌∙◌}
use mathlib.Core.List.{[], ◌∷◌, ◌++◌, map, map-append, append-nil}
use mathlib.Core.Bool.{Bool, true, false}
use Prim.Native.Nat.{ℕ, ◌+◌, ◌≤◌, ◌<◌}
use native.Mathlib.Numerals.{add-one}
use native.Mathlib.Omega.{arith}
use lib.ListN.{length, take, get_or, length-append}
use lib.Seq.{take-suc}
use Rattle.basics.specs.Order.{Cmp, lt, eq, gt, case_cmp, Name, cmp_name}
use Rattle.basics.specs.Map as model
use Rattle.basics.specs.Base.{Bytes, same_bytes}
use Rattle.model.specs.Step.{remove_dir}
use Rattle.laws.specs.StoreLaws.{sorted-drop}
use Rattle.basic_laws.specs.Tests.{All, all_append}
use Rattle.spans.specs.Spans.{name_of}
use Rattle.spans.specs.declared.NameRef.{NameRef}
use Rattle.store.specs.declared.Node.{Node}
use Rattle.store.specs.declared.Table.{Table}
use Rattle.store.specs.Tables.{node_of, live, map_of, SoundNode, SoundTable, Holds}
use Rattle.store.proofs.Lists.{take_whole}
use Rattle.store.proofs.Live.{blank, sound-read}
use Rattle.store.proofs.Change.{holds}

-- Going by whether two names are the same.
pub by-same : {A : Type 0} (d e : Name) {b : Bool} (x y : A) → same_bytes d e ≡ b → case_cmp (cmp_name d e) x y x ≡ (if b then y else x)
by-same d e x y h = go (cmp_name d e) refl ∙ ap (λ b. if b then y else x) h
  where
    go : (c : Cmp) → cmp_name d e ≡ c → case_cmp c x y x ≡ (if case_cmp c false true false then y else x)
    go lt p = refl
    go eq p = refl
    go gt p = refl

remove_append : (d : Name) (a b : model.Map) → remove_dir d (a ++ b) ≡ remove_dir d a ++ remove_dir d b
unfolding remove_dir
remove_append d [] b = refl
remove_append d (n ∷ a) b = go (cmp_name d n.0.0) (remove_append d a b)
  where
    go : (c : Cmp) → remove_dir d (a ++ b) ≡ remove_dir d a ++ remove_dir d b → case_cmp c (n ∷ remove_dir d (a ++ b)) (remove_dir d (a ++ b)) (n ∷ remove_dir d (a ++ b)) ≡ case_cmp c (n ∷ remove_dir d a) (remove_dir d a) (n ∷ remove_dir d a) ++ remove_dir d b
    go lt ih = ap (n ∷◌) ih
    go eq ih = ih
    go gt ih = ap (n ∷◌) ih

-- What is kept of the first i nodes of t.
pub record Sweep (src : Bytes) (t kept : Table) (dir : NameRef) (i : ℕ) : Type 0 where
  pub below : length (live kept) ≤ length (take i (live t))
  pub each : All (SoundNode src) (live kept)
  pub front : map_of src kept ≡ remove_dir (name_of src dir) (map (node_of src) (take i (live t)))

pub swept_none : {src : Bytes} {t kept : Table} {dir : NameRef} → live kept ≡ [] → Sweep src t kept dir 0
unfolding remove_dir map_of
swept_none e = record { below = rw e (omega arith); each = rw e tt; front = rw e refl }

-- The node x at i.
module _ {src : Bytes} {t kept : Table} {dir : NameRef} {i : ℕ} {x : Node} (w : Sweep src t kept dir i) (s : SoundTable src t) (h : i < length (live t)) (r : x ≡ get_or (live t) i blank) where
  pub node : SoundNode src x
  node = sound-read s h r

  one_more : {b : Bool} → same_bytes (name_of src dir) (name_of src x.dir) ≡ b → remove_dir (name_of src dir) (map (node_of src) (take (i + 1) (live t))) ≡ map_of src kept ++ (if b then [] else node_of src x ∷ [])
  unfolding remove_dir
  one_more e = rw (add-one i, take-suc (live t) i blank h, map-append, remove_append, ← w.front, ← r) (ap (map_of src kept ++◌) (by-same (name_of src dir) (name_of src x.dir) (node_of src x ∷ []) [] e))

  pub swept_kept : {new : Table} → same_bytes (name_of src dir) (name_of src x.dir) ≡ false → live new ≡ live kept ++ x ∷ [] → Sweep src t new dir (i + 1)
  unfolding map_of
  swept_kept e p = record {
    below = rw (p, length-append (live kept) (x ∷ []), add-one i, take-suc (live t) i blank h, length-append (take i (live t)) (get_or (live t) i blank ∷ [])) (omega (arith, w.below));
    each = rw p (all_append (SoundNode src) (live kept) (x ∷ []) w.each (node, tt));
    front = rw (p, map-append) (sym (one_more e));
  }

  pub swept_passed : {new : Table} → same_bytes (name_of src dir) (name_of src x.dir) ≡ true → live new ≡ live kept → Sweep src t new dir (i + 1)
  unfolding map_of
  swept_passed e p = record {
    below = rw (p, add-one i, take-suc (live t) i blank h, length-append (take i (live t)) (get_or (live t) i blank ∷ [])) (omega (arith, w.below));
    each = rw p w.each;
    front = rw p (sym (one_more e ∙ append-nil (map_of src kept)));
  }

pub swept_all : {src : Bytes} {t kept : Table} {dir : NameRef} {i : ℕ} → Sweep src t kept dir i → SoundTable src t → length (live t) ≤ i → Holds src kept (remove_dir (name_of src dir) (map_of src t))
unfolding map_of
swept_all {src} {t} {kept} {dir} {i} w s h =
    holds (omega (arith, rw (take_whole i (live t) h) at w.below, s.room)) w.each (w.front ∙ ap (λ n. remove_dir (name_of src dir) (map (node_of src) n)) (take_whole i (live t) h)) (sorted-drop (name_of src dir) (map_of src t) s.sorted)

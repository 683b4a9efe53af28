-- Where the files of a directory stand in a sorted map, and whether it has one.
use mathlib.Core.Path.{◌≡◌, refl, sym, ap, subst, ◌∙◌}
use mathlib.Core.List.{List, [], ◌∷◌, ◌++◌}
use mathlib.Core.Bool.{Bool, true, false, not, false≢true}
use Prim.Native.Nat.{ℕ, zero, suc, ◌+◌, ◌≤◌, ◌<◌}
use native.Mathlib.Numerals.{add-one}
use native.Mathlib.Omega.{arith}
use lib.ListN.{take, drop, get_or, take-append-drop}
use Rattle.basics.specs.Order.{Cmp, lt, eq, gt, Name, Key, cmp_name, cmp_key, case_cmp, then_cmp}
use Rattle.basics.specs.Map.{Node, Map}
use Rattle.basics.specs.Base.{Bytes, if_empty, same_bytes}
use Rattle.model.specs.Store.{files}
use Rattle.basic_laws.specs.OrderLaws.{name_laws, lt≢eq, lt≢gt, gt≢eq}
use Rattle.basic_laws.specs.MapLaws.{Sorted}
use Rattle.basic_laws.specs.Tests.{All}
use Rattle.spans.specs.Spans.{name_of}
use Rattle.std.specs.Prelude.{Result, Ok, Err, Option, None, Some}
use Rattle.std.specs.Option.{MatchOption, option_map, unwrap_or}
use lib.ListN.{length}
use Rattle.store.proofs.Live.{same_item}
use Rattle.store.specs.declared.Node as code
use Rattle.store.specs.declared.Table.{Table}
use Rattle.store.specs.Places.{Under, Over}
use Rattle.store.specs.Tables.{node_of, live, map_of, SoundTable, Finds, FilesFrom}
use Rattle.store.proofs.Live.{blank, finished, rest_read}
use Rattle.store.proofs.Places.{above-all}

module _ (d : Name) where
  -- What stands below a directory's own node is no file of it.
  files-under : (a b : Map) → All (Under (d, [])) a → files d (a ++ b) ≡ files d b
  unfolding files cmp_key
  files-under [] b h = refl
  files-under (n ∷ a) b h = go (cmp_name d n.0.0) n.0.1 h.0 (files-under a b h.1)
    where
      go : (c : Cmp) (f : Name) → then_cmp c (cmp_name [] f) ≡ gt → files d (a ++ b) ≡ files d b → case_cmp c (files d (a ++ b)) (if_empty f (files d (a ++ b)) (f ∷ files d (a ++ b))) (files d (a ++ b)) ≡ files d b
      go lt f e ih = lt≢gt e
      go eq [] e ih = gt≢eq (sym e)
      go eq (y ∷ ys) e ih = lt≢gt e
      go gt f e ih = ih

  -- Nor is that node.
  files-own : (v : ℕ) (r : Map) → files d (((d, []), v) ∷ r) ≡ files d r
  unfolding files
  files-own v r = go (cmp_name d d)
    where
      go : (c : Cmp) → case_cmp c (files d r) (files d r) (files d r) ≡ files d r
      go lt = refl
      go eq = refl
      go gt = refl

  -- Behind another directory's node stands no file of it.
  files-over : (k : Key) (r : Map) → cmp_name d k.0 ≡ lt → All (Over k) r → files d r ≡ []
  unfolding files cmp_key
  files-over k [] e h = refl
  files-over k (n ∷ r) e h = rw (past (cmp_name k.0 n.0.0) refl h.0) (files-over k r e h.1)
    where
      past : (c : Cmp) → cmp_name k.0 n.0.0 ≡ c → then_cmp c (cmp_name k.1 n.0.1) ≡ lt → cmp_name d n.0.0 ≡ lt
      past lt p q = name_laws.trans d k.0 n.0.0 e p
      past eq p q = rw (← name_laws.equal k.0 n.0.0 p) e
      past gt p q = lt≢gt (sym q)

  module _ {m : Map} {r : Result ℕ ℕ} {f : Name} (e : f ≡ []) (h : Finds (d, f) m r) where
    found : Finds (d, []) m r
    found = rw e at h

    pub from-hit : {i : ℕ} → r ≡ Ok i → FilesFrom d m (i + 1)
    from-hit {i} p =
        let g = (found.at i p).1 in
        record {
          within = omega (arith, g.within);
          same = rw (add-one i) (ap (files d) (sym (take-append-drop i m)) ∙ files-under (take i m) (drop i m) g.under ∙ ap (files d) g.here ∙ files-own (found.at i p).0 (drop (suc i) m));
          above = rw (add-one i) g.over;
        }

    pub from-gap : {i : ℕ} → r ≡ Err i → FilesFrom d m i
    from-gap {i} p =
        let g = found.missing i p in
        record {
          within = g.within;
          same = ap (files d) (sym (take-append-drop i m)) ∙ files-under (take i m) (drop i m) g.under;
          above = g.over;
        }

  -- The first node behind the directory's own.
  module _ (n : Node) (r : Map) (o : Over (d, []) n) where
    first-file : same_bytes d n.0.0 ≡ true → files d (n ∷ r) ≡ n.0.1 ∷ files d r
    unfolding files cmp_key
    first-file e = go (cmp_name d n.0.0) n.0.1 e o
      where
        go : (c : Cmp) (f : Name) → case_cmp c false true false ≡ true → then_cmp c (cmp_name [] f) ≡ lt → case_cmp c (files d r) (if_empty f (files d r) (f ∷ files d r)) (files d r) ≡ f ∷ files d r
        go lt f p q = absurd (false≢true p)
        go eq [] p q = lt≢eq (sym q)
        go eq (y ∷ ys) p q = refl
        go gt f p q = absurd (false≢true p)

    no-file : same_bytes d n.0.0 ≡ false → Sorted (n ∷ r) → files d (n ∷ r) ≡ []
    unfolding files cmp_key
    no-file e s = rw (past (cmp_name d n.0.0) refl e o) (files-over n.0 r (past (cmp_name d n.0.0) refl e o) (above-all n.0 r s.1 s.0))
      where
        past : (c : Cmp) → cmp_name d n.0.0 ≡ c → case_cmp c false true false ≡ false → then_cmp c (cmp_name [] n.0.1) ≡ lt → cmp_name d n.0.0 ≡ lt
        past lt p q z = p
        past eq p q z = absurd (false≢true (sym q))
        past gt p q z = lt≢gt (sym z)

sorted-from : (i : ℕ) (m : Map) → Sorted m → Sorted (drop i m)
sorted-from zero [] s = tt
sorted-from zero (n ∷ m) s = s
sorted-from (suc i) [] s = tt
sorted-from (suc i) (n ∷ m) s = sorted-from i m s.1

-- The files from place i of a table on, all behind the directory's own node.
module _ {src : Bytes} {t : Table} (s : SoundTable src t) (d : Name) (i : ℕ) where
  abbrev rest : Map
  rest = drop i (map_of src t)

  pub none_left : length (live t) ≤ i → files d rest ≡ []
  unfolding files
  none_left h = ap (files d) (finished src t i h)

  module _ {x : code.Node} (a : All (Over (d, [])) rest) (h : i < length (live t)) (r : x ≡ get_or (live t) i blank) where
    listed : rest ≡ node_of src x ∷ drop (i + 1) (map_of src t)
    listed = rest_read s h r

    over : Over (d, []) (node_of src x) × All (Over (d, [])) (drop (i + 1) (map_of src t))
    over = subst (All (Over (d, []))) listed a

    pub above-next : All (Over (d, [])) (drop (i + 1) (map_of src t))
    above-next = over.1

    pub one_left : same_bytes d (name_of src x.dir) ≡ true → files d rest ≡ name_of src x.file ∷ files d (drop (i + 1) (map_of src t))
    one_left e = ap (files d) listed ∙ first-file d (node_of src x) (drop (i + 1) (map_of src t)) over.0 e

    pub other-left : same_bytes d (name_of src x.dir) ≡ false → files d rest ≡ []
    other-left e = ap (files d) listed ∙ no-file d (node_of src x) (drop (i + 1) (map_of src t)) over.0 e (subst Sorted listed (sorted-from i (map_of src t) s.sorted))

-- `is_dir_empty`.
module _ {src : Bytes} {t : Table} {d : Name} {i : ℕ} (s : SoundTable src t) (g : FilesFrom d (map_of src t) i) where
  abbrev vacant : Bool
  vacant = if_empty (files d (map_of src t)) true false

  pub vacant-end : length (live t) ≤ i → true ≡ vacant
  vacant-end h = rw (g.same, none_left s d i h) refl

  pub vacant-by : {x : code.Node} {b : Bool} → i < length (live t) → x ≡ get_or (live t) i blank → b ≡ same_bytes d (name_of src x.dir) → not b ≡ vacant
  vacant-by {x} {b} h r e = go b e
    where
      go : (b : Bool) → b ≡ same_bytes d (name_of src x.dir) → not b ≡ vacant
      go true e = rw (g.same, one_left s d i g.above h r (sym e)) refl
      go false e = rw (g.same, other-left s d i g.above h r (sym e)) refl

  -- The node at i, if one stands there, and what a closure answers of it.
  pub vacant_next : {A : Type 0} (now : A → code.Node) (R P : A → Type 0) {xs : List code.Node} (o : Option A) (b : Bool) → xs ≡ live t → MatchOption o (length xs ≤ i) (λ x. (i < length xs) × R x)
      → unwrap_or (option_map now o) blank ≡ get_or xs i blank → MatchOption o (b ≡ true) P → ((x : A) → P x → b ≡ not (same_bytes d (name_of src (now x).dir))) → b ≡ vacant
  vacant_next now R P None b e m w p k = p ∙ vacant-end (rw e at m)
  vacant_next now R P (Some x) b e m w p k = k x p ∙ vacant-by (rw e at m.0) (w ∙ same_item i e) refl

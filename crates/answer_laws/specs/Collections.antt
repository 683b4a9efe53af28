-- The collections of a tree: in a well-formed one a directory's files are those that follow it.
use Rattle.std.specs.Prelude.{◌≡◌, refl, true, List, [], ◌∷◌, map, ℕ}
use Rattle.std.proofs.Common.{sym, ap, ap₂, ◌∙◌, inl, inr}
use Rattle.basics.specs.Order.{Cmp, lt, eq, gt, Name, Key, cmp_name, cmp_key, case_cmp, then_cmp}
use Rattle.basics.specs.Map.{Map, Node}
use Rattle.basics.specs.Base.{if_empty, In}
use Rattle.model.specs.Store.{dirs, files, valid_node, valid_nodes}
use Rattle.answers.specs.Inventory.{Collection, contents, collections}
use Rattle.basic_laws.specs.Tests.{All, and_both, all_imp}
use Rattle.basic_laws.specs.OrderLaws.{flip, name_laws, lt≢gt, lt≢eq}
use Rattle.basic_laws.specs.MapLaws.{Sorted, Above, look-all}
use Rattle.laws.specs.ImageLaws.{node-parts, file-parts}
use Rattle.laws.specs.Listings.{dirs_in}

-- The names of a directory's files are its `files`.
pub contents-named : (d : Name) (t : Map) → map (λ f. f.0) (contents d t) ≡ files d t
unfolding contents files
contents-named d [] = refl
contents-named d (n ∷ r) = go (cmp_name d n.0.0) n.0.1 (contents-named d r)
  where
    go : (c : Cmp) (f : Name) → map (λ f. f.0) (contents d r) ≡ files d r →
        map (λ f. f.0) (case_cmp c (contents d r) (if_empty f (contents d r) ((f, n.1) ∷ contents d r)) (contents d r)) ≡ case_cmp c (files d r) (if_empty f (files d r) (f ∷ files d r)) (files d r)
    go lt f e = e
    go eq [] e = e
    go eq (y ∷ ys) e = ap (λ (l : List Name). (y ∷ ys) ∷ l) e
    go gt f e = e

-- The files up to the next directory; each directory with those that follow it.
unfoldable pub ahead : Map → List (Name × ℕ)
ahead [] = []
ahead (n ∷ r) = let rest = ahead r in if_empty n.0.1 [] ((n.0.1, n.1) ∷ rest)

unfoldable pub following : Map → List Collection
following [] = []
following (n ∷ r) = let rest = following r in if_empty n.0.1 ((n.0.0, ahead r) ∷ rest) rest

-- What a directory above another, or no file, adds to that one's contents: nothing.
skipped : (d : Name) (n : Node) (r : Map) → cmp_name d n.0.0 ≡ lt → contents d (n ∷ r) ≡ contents d r
unfolding contents
skipped d n r e = rw e

skipped-below : (d : Name) (n : Node) (r : Map) → cmp_name d n.0.0 ≡ gt → contents d (n ∷ r) ≡ contents d r
unfolding contents
skipped-below d n r e = rw e

skipped-dir : (d e : Name) (x : ℕ) (r : Map) → contents d (((e, []), x) ∷ r) ≡ contents d r
unfolding contents
skipped-dir d e x r = go (cmp_name d e)
  where
    go : (c : Cmp) → case_cmp c (contents d r) (contents d r) (contents d r) ≡ contents d r
    go lt = refl
    go eq = refl
    go gt = refl

own-file : (d f : Name) (x : ℕ) (r : Map) → contents d (((d, f), x) ∷ r) ≡ if_empty f (contents d r) ((f, x) ∷ contents d r)
unfolding contents
own-file d f x r = rw (name_laws.reflexive d)

beyond : (d : Name) (t : Map) → All (λ n. cmp_name d n.0.0 ≡ lt) t → contents d t ≡ []
unfolding contents
beyond d [] h = refl
beyond d (n ∷ r) h = skipped d n r h.0 ∙ beyond d r h.1

-- The order of places, by their directories.
dir-below : (d e f : Name) → cmp_key (d, f) (e, []) ≡ lt → cmp_name d e ≡ lt
unfolding cmp_key
dir-below d e f h = go (cmp_name d e) f h
  where
    go : (c : Cmp) (f : Name) → then_cmp c (cmp_name f []) ≡ lt → c ≡ lt
    go lt f h = refl
    go eq [] h = lt≢eq (sym h)
    go eq (y ∷ ys) h = lt≢gt (sym h)
    go gt f h = lt≢gt (sym h)

past : (d e : Name) (k : Key) → cmp_name d e ≡ lt → cmp_key (e, []) k ≡ lt → cmp_name d k.0 ≡ lt
unfolding cmp_key
past d e k l h = go (cmp_name e k.0) refl h
  where
    go : (c : Cmp) → cmp_name e k.0 ≡ c → then_cmp c (cmp_name [] k.1) ≡ lt → cmp_name d k.0 ≡ lt
    go lt g h = name_laws.trans d e k.0 l g
    go eq g h = rw (← (name_laws.equal e k.0 g)) l
    go gt g h = lt≢gt (sym h)

above-all : (k : Key) (r : Map) → Above k r → Sorted r → All (λ n. cmp_key k n.0 ≡ lt) r
above-all k r a s = look-all (λ j x. cmp_key k j ≡ lt) r s (λ j x l. a j x l)

-- The files of the directory that was listed last are those ahead.
own-ahead : (d f : Name) (r : Map) → valid_nodes d r ≡ true → Above (d, f) r → Sorted r → contents d r ≡ ahead r
unfolding contents ahead valid_nodes valid_node
own-ahead d f [] v a s = refl
own-ahead d f (((e, []), x) ∷ r) v a s =
    let l = dir-below d e f (above-all (d, f) (((e, []), x) ∷ r) a s).0 in
    skipped-dir d e x r ∙ beyond d r (all_imp (λ m h. past d e m.0 l h) r (above-all (e, []) r s.0 s.1))
own-ahead d f (((e, y ∷ ys), x) ∷ r) v a s =
    let p = and_both (valid_node d ((e, y ∷ ys), x)) (valid_nodes e r) v in
    let q = file-parts d e (y ∷ ys) x (node-parts d ((e, y ∷ ys), x) p.0).1 in
    ap (λ (b : Name). contents d (((b, y ∷ ys), x) ∷ r)) q.0 ∙ own-file d (y ∷ ys) x r ∙ ap (λ (l : List (Name × ℕ)). (y ∷ ys, x) ∷ l) (own-ahead d (y ∷ ys) r (rw q.0 at p.1) (rw q.0 at s.0) s.1)

map_in : {A B : Type 0} (f g : A → B) (l : List A) → ((a : A) → In a l → f a ≡ g a) → map f l ≡ map g l
map_in f g [] h = refl
map_in {A} {B} f g (a ∷ l) h = ap₂ (λ (b : B) (r : List B). b ∷ r) (h a (inl refl)) (map_in f g l (λ b i. h b (inr i)))

pub by-following : (d : Name) (t : Map) → valid_nodes d t ≡ true → Sorted t → collections t ≡ following t
unfolding collections following valid_nodes dirs
by-following d [] v s = refl
by-following d (((e, []), x) ∷ r) v s =
    let p = and_both (valid_node d ((e, []), x)) (valid_nodes e r) v in
    let one : contents e (((e, []), x) ∷ r) ≡ ahead r = skipped-dir e e x r ∙ own-ahead e [] r p.1 s.0 s.1 in
    let more : map (λ c. (c, contents c (((e, []), x) ∷ r))) (dirs r) ≡ following r
    = map_in (λ c. (c, contents c (((e, []), x) ∷ r))) (λ c. (c, contents c r)) (dirs r) (λ c i. ap (λ (l : List (Name × ℕ)). (c, l)) (skipped-dir c e x r)) ∙ by-following e r p.1 s.1 in
    ap₂ (λ (l : List (Name × ℕ)) (m : List Collection). (e, l) ∷ m) one more
by-following d (((e, y ∷ ys), x) ∷ r) v s =
    let p = and_both (valid_node d ((e, y ∷ ys), x)) (valid_nodes e r) v in
    map_in (λ c. (c, contents c (((e, y ∷ ys), x) ∷ r))) (λ c. (c, contents c r)) (dirs r)
    (λ c i. let h = dirs_in c r i in
    ap (λ (l : List (Name × ℕ)). (c, l)) (skipped-below c ((e, y ∷ ys), x) r (name_laws.turn e c ∙ ap flip (dir-below e c (y ∷ ys) (s.0 (c, []) h.0 h.1)))))
    ∙ by-following e r p.1 s.1

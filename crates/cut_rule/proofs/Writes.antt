-- Transactions of Writes among those of every kind: their conditions, and the tree that their commit leaves.
use Rattle.std.specs.Prelude.{◌≡◌}
use Rattle.std.proofs.Math.Path.{refl, ap}
use Rattle.std.proofs.Common.{sym, ◌∙◌, subst, inl, inr}
use Prim.Native.Nat.{ℕ}
use mathlib.Core.List.{List, [], ◌∷◌, ◌++◌, map}
use Rattle.std.proofs.Math.Option.{Option, none, some}
use Rattle.basics.specs.Order.{Name, Key}
use Rattle.basics.specs.Map.{Map, look, put, del, Has}
use Rattle.basics.specs.Base.{Bytes, In, case_option, if_present, if_missing}
use Rattle.basics.specs.Name.{backup_name, original_name}
use Rattle.model.specs.Operation.{Op, Write, write, target, backup}
use Rattle.model.specs.Store.{Store}
use Rattle.model.specs.Step.{Step, rewrite_header, make_directory, rename_file, move_staged, apply, apply_all}
use Rattle.model.specs.Plan.{in_turn, op_steps, first_fault, commit_fault}
use Rattle.basic_laws.specs.MapLaws.{Sorted, key_dec, none≢some, some_inj, look-put-same, look-put-other, look-del-other, look-del-some, sorted-put}
use Rattle.basic_laws.specs.NameLaws.{original-backup, original-nil, key_apart}
use Rattle.laws.specs.Listings.{any-of-map, any-to-map, any-find, any-map}
use Rattle.laws.specs.Runs.{apply_all_append, fault-head, fault_append}
use Rattle.cut_rule.specs.Demand.{Distinct, Meets, TrueMarks, TrulyMarked, all_writes_done}
use Rattle.cut_rule.specs.Kinds.{place_of, Apart, AllApart, PlainPlace, Suits, TrueOf, AllTrue, Marked}
use Rattle.cut_rule.proofs.StoreRule.{KeyGood, WriteGood, Transacts}
use Rattle.cut_rule.proofs.Clean.{BothPlain, old-tidy, same-plain, tidy-none}
use Rattle.cut_rule.proofs.Apply.{rename-tree, move-tree, move-stands}
use Rattle.cut_rule.proofs.Commit.{final, final-tidy, final-agrees, no-fault-first}
use Rattle.cut_rule.proofs.Files.{file-eq}

-- Writes as operations.
pub one_of : (ws : List Write) (a : Op) → In a (map write ws) → (w : Write) × In w ws × (a ≡ write w)
one_of ws a p = any-find (λ w. a ≡ write w) ws (any-of-map (λ b. a ≡ b) write ws p)

pub in_ops : (ws : List Write) (w : Write) → In w ws → In (write w) (map write ws)
in_ops ws w i = any-to-map (λ b. write w ≡ b) write ws (any-map (λ v e. ap write e) ws i)

pub of-ops : (ws : List Write) (w : Write) → In (write w) (map write ws) → In w ws
of-ops ws w i = let f = one_of ws (write w) i in let e : w ≡ f.0 = cc f.2 in subst (λ (v : Write). In v ws) (sym e) f.1

pub suits : {N : ℕ → Type 0} {b : Bytes} {s : Store} {ws : List Write} → Meets N b s ws → Suits b s (map write ws)
suits {N} {b} {s} {ws} C = record {
  holds = C.holds;
  logged = C.writes_alone;
  names = C.names;
  places = λ a i.
      let f = one_of ws a i in
      subst (λ (c : Op). PlainPlace (place_of c)) (sym f.2) ((C.names f.0.collection [] (C.collections f.0 f.1)).0, C.keys f.0 f.1);
  apart = apart ws C.distinct_keys;
  collections = λ w i. C.collections w (of-ops ws w i);
}
  where
    apart : (l : List Write) → Distinct l → AllApart (map write l)
    apart [] d = tt
    apart (w ∷ l) d = (
      λ b i. let f = one_of l b i in
          subst (λ (c : Op). Apart (place_of (write w)) (place_of c)) (sym f.2) (λ e. d.0 f.0 f.1 (sym e)),
      apart l d.1,
    )

pub all_true : (t : Map) (ws : List Write) → TrueMarks t ws → AllTrue t (map write ws)
all_true t ws h a i = let f = one_of ws a i in subst (TrueOf t) (sym f.2) (h f.0 f.1)

-- Truly marked Writes have true marks, and are marked.
pub truly-true : (t : Map) (ws : List Write) → TrulyMarked t ws → TrueMarks t ws
truly-true t ws h w i x e = some_inj (sym e ∙ h w i)

pub truly-marked : (t : Map) (ws : List Write) → TrulyMarked t ws → Marked (map write ws)
truly-marked t ws h w i e = none≢some (sym e ∙ h w (of-ops ws w i))

-- What the steps of Writes leave of plain names: what is put in place, from the staging files of the transaction.
module _ (staging : Map) where
  record Effect (l : List Write) (p : Map) (u : Store) : Type 0 where
    keys : (w : Write) → In w l → KeyGood w.collection w.key
    stands : (w : Write) → In w l → Has (w.collection, []) u.tree
    before : (k : Key) (x : ℕ) → look k u.staging ≡ some x → look k staging ≡ some x
    agrees : (d f : Name) → original_name f ≡ none → look (d, f) u.tree ≡ look (d, f) p

  after : Write → Map → Map
  after w p = case_option (look ([], w.staged) staging) p (λ x. put (target w) x p)

  moved : (w : Write) (l : List Write) (p : Map) (u v : Store) → Effect (w ∷ l) p u → v.staging ≡ u.staging → (h : Has ([], w.staged) v.staging) →
      ((d f : Name) → original_name f ≡ none → (◌≡◌ {A = Key} (d, f) (target w) → ⊥) → look (d, f) v.tree ≡ look (d, f) u.tree) →
      Effect l (after w p) (apply (move_staged w.staged w.collection w.key) v)
  unfolding after
  moved w l p u v r e h a = record {
    keys = λ x i. r.keys x (inr i);
    stands = λ x i.
        let z = r.stands x (inr i) in
        (z.0, rw tr (look-put-other (target w) (x.collection, []) n v.tree (off x) ∙ a x.collection [] original-nil (off x) ∙ z.1));
    before = unfold apply in (λ k x q. r.before k x (look-del-some ([], w.staged) k u.staging x (rw e at q)));
    agrees = λ d f q. rw (tr, r.before ([], w.staged) n (rw e at h.1)) (at d f q (key_dec (d, f) (target w)));
  }
    where
      n : ℕ
      n = h.0

      off : (x : Write) → ◌≡◌ {A = Key} (x.collection, []) (target w) → ⊥
      off x y = (r.keys w (inl refl)).named (sym (file-eq y))

      tr : (apply (move_staged w.staged w.collection w.key) v).tree ≡ put (target w) n v.tree
      tr = move-tree w v n h.1

      at : (d f : Name) → original_name f ≡ none → Dec (◌≡◌ {A = Key} (d, f) (target w)) →
          look (d, f) (put (target w) n v.tree) ≡ look (d, f) (put (target w) n p)
      at d f q (yes y) = rw y (look-put-same (target w) n v.tree ∙ sym (look-put-same (target w) n p))
      at d f q (no y) = look-put-other (target w) (d, f) n v.tree y ∙ a d f q y ∙ r.agrees d f q ∙ sym (look-put-other (target w) (d, f) n p y)

  effect_one : (w : Write) (l : List Write) (p : Map) (u : Store) → Effect (w ∷ l) p u → first_fault (op_steps (write w) u) u ≡ none →
      Effect l (after w p) (apply_all (op_steps (write w) u) u)
  unfolding op_steps
  effect_one w l p u r f = go (look (w.collection, []) u.tree) refl (look (target w) u.tree) refl f
    where
      step : Step
      step = rename_file w.collection w.key (backup_name w.key)

      move : Step
      move = move_staged w.staged w.collection w.key

      go : (a : Option ℕ) → look (w.collection, []) u.tree ≡ a → (b : Option ℕ) → look (target w) u.tree ≡ b →
          let xs = if_missing a (make_directory w.collection ∷ []) ++ if_present b (step ∷ []) ++ move ∷ [] in
          first_fault xs u ≡ none → Effect l (after w p) (apply_all xs u)
      go none a b q f = none≢some (sym a ∙ (r.stands w (inl refl)).1)
      go (some y) a none q f = moved w l p u u r refl (move-stands w u (fault-head move [] u f).0) (λ d k e z. refl)
      go (some y) a (some x) q f =
          moved w l p u (apply step u) r (unfold apply in refl)
          (move-stands w (apply step u) (fault-head move [] (apply step u) (fault-head step (move ∷ []) u f).1).0)
          (λ d k e z. rw (rename-tree w.collection w.key (backup_name w.key) u x q) (
          look-put-other (backup w) (d, k) x (del (target w) u.tree)
          (key_apart d w.collection k (backup_name w.key) w.key e (original-backup w.key (r.keys w (inl refl)).named))
          ∙ look-del-other (target w) (d, k) u.tree z))

  effects : (l : List Write) (p : Map) (u : Store) → Effect l p u → first_fault (in_turn op_steps (map write l) u) u ≡ none →
      Effect [] (all_writes_done staging l p) (apply_all (in_turn op_steps (map write l) u) u)
  unfolding all_writes_done after
  effects [] p u r f = r
  effects (w ∷ l) p u r f =
      let xs = op_steps (write w) u in
      let ys = in_turn op_steps (map write l) (apply_all xs u) in
      let k = fault_append xs ys u f in
      rw (apply_all_append xs ys u) (effects l (after w p) (apply_all xs u) (effect_one w l p u r k.0) k.1)

  -- With all writes done nothing but plain names came.
  done_plain : (l : List Write) (p : Map) → ((w : Write) → In w l → KeyGood w.collection w.key) → Sorted p →
      ((d f : Name) → (BothPlain d f → ⊥) → look (d, f) p ≡ none) →
      Sorted (all_writes_done staging l p) × ((d f : Name) → (BothPlain d f → ⊥) → look (d, f) (all_writes_done staging l p) ≡ none)
  unfolding all_writes_done
  done_plain [] p g s h = (s, h)
  done_plain (w ∷ l) p g s h = let k = go (look ([], w.staged) staging) in done_plain l _ (λ v i. g v (inr i)) k.0 k.1
    where
      go : (q : Option ℕ) → let t = case_option q p (λ x. put (target w) x p) in Sorted t × ((d f : Name) → (BothPlain d f → ⊥) → look (d, f) t ≡ none)
      go none = (s, h)
      go (some x) = (
        sorted-put (target w) x p s,
        λ d f z. look-put-other (target w) (d, f) x p
            (λ y. z (ap (λ (j : Key). original_name j.0) y ∙ (g w (inl refl)).dir, ap (λ (j : Key). original_name j.1) y ∙ (g w (inl refl)).file)) ∙ h d f z,
      )

-- The tree that a commit of Writes leaves is the one "with all writes done".
pub all_done : (s : Store) (ws : List Write) (T : Transacts s (map write ws)) → commit_fault s ≡ none →
    final s (map write ws) T ≡ all_writes_done s.staging ws s.tree
all_done s ws T f =
    same-plain (final s (map write ws) T) (all_writes_done s.staging ws s.tree) (final-tidy s (map write ws) T f).sorted done.0
    (λ d k a b. final-agrees s (map write ws) T f d k a b ∙ (effects s.staging ws s.tree (apply rewrite_header s) begun
    (no-fault-first s (map write ws) T f)).agrees d k b)
    (tidy-none (final-tidy s (map write ws) T f)) done.1
  where
    good : (w : Write) → In w ws → WriteGood s.tree w
    good w i = T.good (write w) (in_ops ws w i)

    begun : Effect s.staging ws s.tree (apply rewrite_header s)
    begun = unfold apply in record { keys = λ w i. (good w i).key; stands = λ w i. (good w i).stands; before = λ k x e. e; agrees = λ d k e. refl }

    done : let t = all_writes_done s.staging ws s.tree in Sorted t × ((d f : Name) → (BothPlain d f → ⊥) → look (d, f) t ≡ none)
    done = done_plain s.staging ws s.tree (λ w i. (good w i).key) T.old.sorted (tidy-none (old-tidy T.old))

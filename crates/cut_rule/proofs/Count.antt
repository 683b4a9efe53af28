-- 02, item 13: how many steps a commit has.
use Rattle.std.specs.Prelude.{◌≡◌, ℕ, suc, ◌+◌, ◌*◌, ◌≤◌, Bool, true, false, not, ◌||◌, ◌⊎◌, length, leb, if◌then◌else◌}
use Rattle.std.proofs.Math.Path.{refl, ap}
use Rattle.std.proofs.Common.{sym, ◌∙◌, subst, arith, inl, inr, length-append}
use mathlib.Core.List.{List, [], ◌∷◌, ◌++◌, map}
use Rattle.std.proofs.Math.Option.{Option, none, some}
use Rattle.std.proofs.lemmas.Bool.{false≢true}
use Rattle.std.proofs.lemmas.List.{length-map}
use Rattle.basics.specs.Order.{Cmp, lt, eq, gt, Name, Key, cmp_key, case_cmp}
use Rattle.basics.specs.Map.{Map, look, put, del, Has}
use Rattle.basics.specs.Name.{backup_name, original_name, is_backup}
use Rattle.basics.specs.Base.{Any, In, is_some, if_present, if_missing, is_in, same_bytes}
use Rattle.model.specs.Operation.{Write, target, backup, write}
use Rattle.model.specs.Store.{Store, staging_key, staging_names, dirs, files}
use Rattle.model.specs.Image.{encode}
use Rattle.model.specs.Step.{Step, rewrite_header, make_directory, rename_file, move_staged, remove_file, remove_staging, apply, apply_all, field_at}
use Rattle.model.specs.Plan.{in_turn, run, op_steps, remove_backup_file, remove_backups_in, remove_backups, remove_staging_files, sync_existing, first_namings}
use Rattle.model.specs.Plan.{collection_of, first_fault, commit_fault, commit_parts, commit_end, commit_plan, committed_at}
use Rattle.answers.specs.Answers.{Answer, refusal}
use Rattle.basic_laws.specs.OrderLaws.{key_laws, lt≢eq, gt≢eq}
use Rattle.basic_laws.specs.MapLaws.{Sorted, none≢some, some_inj, look-put-other, look-del-other, sorted-del, look-all}
use Rattle.basic_laws.specs.Tests.{same-eq, same_refl, in_of, of_in}
use Rattle.laws.specs.TreeLaws.{size, size-put-light, size-put-new, size-del-light, size-del-exact, size-zero}
use Rattle.laws.specs.StoreLaws.{Bare, bare-del}
use Rattle.basic_laws.specs.NameLaws.{original-backup, original-nil}
use Rattle.laws.specs.Listings.{any-of-map, any-to-map, dirs_in, files_in, files-once, Once, dels}
use Rattle.laws.specs.Runs.{apply_all_append, fault-head, fault_append}
use Rattle.cut_rule.specs.Demand.{Distinct, count, unnamed, existed_in, ListedOnce, step_count, StepCount, StepCountAt}
use Rattle.cut_rule.proofs.StoreRule.{old-file, WriteGood, Transacts}
use Rattle.cut_rule.proofs.Files.{file-eq, dir-eq, name-apart}
use Rattle.cut_rule.proofs.Clean.{Tidy, old-tidy, clean_all}
use Rattle.cut_rule.proofs.Apply.{rename-tree, move-tree, move-stands}
use Rattle.cut_rule.proofs.Commit.{fault-is, plan-is, unlogged, final, final-tidy, unlogged-ended, syncs-same}
use Rattle.cut_rule.proofs.OverImages.{committed, stepped, transacts}
use Rattle.cut_rule.proofs.Writes.{in_ops, suits, all_true}

-- Backup files of a tree.
abbrev is_bak : Key → ℕ
is_bak k = if is_backup k.1 then 1 else 0

bak-one : (d n g : Name) → original_name n ≡ some g → is_bak (d, n) ≡ 1
bak-one d n g e = rw e

bak-none : (d n : Name) → original_name n ≡ none → is_bak (d, n) ≡ 0
bak-none d n e = rw e

-- Each step takes one backup away, and no staging file.
record Falls (xs : List Step) (s : Store) : Type 0 where
  falls : length xs + size is_bak (apply_all xs s).tree ≡ size is_bak s.tree
  sorted : Sorted (apply_all xs s).tree
  staged : (apply_all xs s).staging ≡ s.staging

falls-none : (s : Store) → Sorted s.tree → Falls [] s
falls-none s h = record { falls = omega arith; sorted = h; staged = refl }

falls_append : (xs ys : List Step) (s : Store) → Falls xs s → Falls ys (apply_all xs s) → Falls (xs ++ ys) s
falls_append xs ys s a b =
    let e = length-append xs ys in
    let p = a.falls in
    let q = b.falls in
    record {
      falls = rw (apply_all_append xs ys s) (omega (arith, e, p, q));
      sorted = rw (apply_all_append xs ys s) b.sorted;
      staged = rw (apply_all_append xs ys s) (b.staged ∙ a.staged);
    }

falls-file : (d f : Name) (s : Store) → Sorted s.tree → Has (d, f) s.tree →
    Falls (remove_backup_file d f s) s × ((g : Name) → (g ≡ f → ⊥) → Has (d, g) s.tree → Has (d, g) (apply_all (remove_backup_file d f s) s).tree)
unfolding remove_backup_file apply
falls-file d f s h k = go (original_name f) refl
  where
    go : (q : Option Name) → original_name f ≡ q →
        Falls (if_present q (remove_file d f ∷ [])) s
        × ((g : Name) → (g ≡ f → ⊥) → Has (d, g) s.tree → Has (d, g) (apply_all (if_present q (remove_file d f ∷ [])) s).tree)
    go none e = (falls-none s h, λ g z x. x)
    go (some o) e =
        let a = size-del-exact is_bak (d, f) s.tree h k in
        let b = bak-one d f o e in (
          record { falls = omega (arith, a, b); sorted = sorted-del (d, f) s.tree h; staged = refl },
          λ g z x. (x.0, look-del-other (d, f) (d, g) s.tree (λ y. z (file-eq y)) ∙ x.1),
        )

falls-files : (d : Name) (l : List Name) (s : Store) → Once l → Sorted s.tree → ((f : Name) → In f l → Has (d, f) s.tree) →
    Falls (in_turn (remove_backup_file d) l s) s
falls-files d [] s o h k = falls-none s h
falls-files d (f ∷ l) s o h k =
    let one = falls-file d f s h (k f (inl refl)) in
    falls_append (remove_backup_file d f s) (in_turn (remove_backup_file d) l (apply_all (remove_backup_file d f s) s)) s one.0
    (falls-files d l (apply_all (remove_backup_file d f s) s) o.1 one.0.sorted
    (λ g i. one.1 g (λ z. o.0 (subst (λ (n : Name). In n l) z i)) (k g (inr i))))

falls-dirs : (l : List Name) (s : Store) → ((d : Name) → In d l → original_name d ≡ none) → Sorted s.tree → Falls (in_turn remove_backups_in l s) s
falls-dirs [] s p h = falls-none s h
falls-dirs (d ∷ l) s p h =
    falls_append (remove_backups_in d s) (in_turn remove_backups_in l (apply_all (remove_backups_in d s) s)) s one
    (falls-dirs l (apply_all (remove_backups_in d s) s) (λ e i. p e (inr i)) one.sorted)
  where
    one : Falls (remove_backups_in d s) s
    one = unfold remove_backups_in in (rw (p d (inl refl)) (falls-files d (files d s.tree) s (files-once d s.tree h) h (λ f i. files_in d f s.tree i)))

-- The staging files that no Write names are those that are left when the others are gone.
unnamed-none : (m : Map) → unnamed [] m ≡ length (staging_names m)
unnamed-none [] = refl
unnamed-none (n ∷ r) = let q = unnamed-none r in omega (arith, q)

unnamed-del : (x : Name) (l : List Name) (m : Map) → Bare m → unnamed (x ∷ l) m ≡ unnamed l (del (staging_key x) m)
unfolding del
unnamed-del x l [] b = refl
unnamed-del x l (n ∷ r) b = go (unnamed-del x l r b.1) (cmp_key (staging_key x) n.0) refl (same_bytes n.0.1 x) refl
  where
    same : same_bytes n.0.1 x ≡ true → cmp_key (staging_key x) n.0 ≡ eq
    same e =
        let a : n.0 ≡ staging_key x = λ i. (b.0 i, same-eq n.0.1 x e i) in
        rw a (key_laws.reflexive (staging_key x))

    go : unnamed (x ∷ l) r ≡ unnamed l (del (staging_key x) r) → (c : Cmp) → cmp_key (staging_key x) n.0 ≡ c → (t : Bool) → same_bytes n.0.1 x ≡ t →
        (if◌then◌else◌ (not (t || is_in n.0.1 l)) 1 0) + unnamed (x ∷ l) r
        ≡ unnamed l (case_cmp c (n ∷ del (staging_key x) r) (del (staging_key x) r) (n ∷ del (staging_key x) r))
    go ih lt e true p = lt≢eq (sym e ∙ same p)
    go ih lt e false p = omega (arith, ih)
    go ih eq e true p = omega (arith, ih)
    go ih eq e false p =
        let a : x ≡ n.0.1 = file-eq (key_laws.equal (staging_key x) n.0 e) in
        let z : true ≡ false = sym (same_refl x) ∙ ap (λ (y : Name). same_bytes y x) a ∙ p in
        absurd (false≢true (sym z))
    go ih gt e true p = gt≢eq (sym e ∙ same p)
    go ih gt e false p = omega (arith, ih)

unnamed-dels : (l : List Name) (m : Map) → Bare m → unnamed l m ≡ length (staging_names (dels (map staging_key l) m))
unnamed-dels [] m b = unnamed-none m
unnamed-dels (x ∷ l) m b = unnamed-del x l m b ∙ unnamed-dels l (del (staging_key x) m) (bare-del (staging_key x) m b)

-- Two lists without repetition that hold the same have the same length.
taken : (a : Name) (r : List Name) → In a r → List Name
taken a [] x' = elim x' [ ]
taken a (b ∷ r) (inl e) = r
taken a (b ∷ r) (inr i) = b ∷ taken a r i

taken-length : (a : Name) (r : List Name) (i : In a r) → suc (length (taken a r i)) ≡ length r
unfolding taken
taken-length a [] i = elim i [ ]
taken-length a (b ∷ r) (inl e) = refl
taken-length a (b ∷ r) (inr i) = ap suc (taken-length a r i)

taken_in : (a d : Name) (r : List Name) (i : In a r) → (d ≡ a → ⊥) → In d r → In d (taken a r i)
unfolding taken
taken_in a d [] i n _ = elim i [ ]
taken_in a d (b ∷ r) (inl e) n (inl j) = absurd (n (j ∙ sym e))
taken_in a d (b ∷ r) (inl e) n (inr j) = j
taken_in a d (b ∷ r) (inr i) n (inl j) = inl j
taken_in a d (b ∷ r) (inr i) n (inr j) = inr (taken_in a d r i n j)

pub once_le : (l r : List Name) → Once l → ((d : Name) → In d l → In d r) → length l ≤ length r
once_le [] r o h = omega arith
once_le (a ∷ l) r o h =
    let i = h a (inl refl) in
    let e = taken-length a r i in
    let k = once_le l (taken a r i) o.1 (λ d j. taken_in a d r i (λ z. o.0 (subst (λ (n : Name). In n l) z j)) (h d (inr j))) in
    omega (arith, e, k)

-- The first namings are without repetition, and hold the names.
naming_new : (n : Name) (seen l : List Name) → In n (first_namings seen l) → In n seen → ⊥
unfolding first_namings
naming_new n seen [] i j = elim i [ ]
naming_new n seen (a ∷ l) i j = go (is_in a seen) refl i (λ k. naming_new n (a ∷ seen) l k (inr j))
  where
    go : (t : Bool) → is_in a seen ≡ t → In n (if◌then◌else◌ t [] (a ∷ []) ++ first_namings (a ∷ seen) l) → (In n (first_namings (a ∷ seen) l) → ⊥) → ⊥
    go true p k f = f k
    go false p (inl e) f = false≢true (sym p ∙ of_in a seen (subst (λ (m : Name). In m seen) e j))
    go false p (inr k) f = f k

naming_once : (seen l : List Name) → Once (first_namings seen l)
unfolding first_namings
naming_once seen [] = tt
naming_once seen (a ∷ l) = go (is_in a seen) (naming_once (a ∷ seen) l)
  where
    go : (t : Bool) → Once (first_namings (a ∷ seen) l) → Once (if◌then◌else◌ t [] (a ∷ []) ++ first_namings (a ∷ seen) l)
    go true o = o
    go false o = (λ i. naming_new a (a ∷ seen) l i (inl refl), o)

pub naming_has : (n : Name) (seen l : List Name) → In n l → In n seen ⊎ In n (first_namings seen l)
unfolding first_namings
naming_has n seen [] i = elim i [ ]
naming_has n seen (a ∷ l) i = go (is_in a seen) refl i (λ j. naming_has n (a ∷ seen) l j)
  where
    add : (t : Bool) → In n (first_namings (a ∷ seen) l) → In n (if◌then◌else◌ t [] (a ∷ []) ++ first_namings (a ∷ seen) l)
    add true k = k
    add false k = inr k

    here : (t : Bool) → is_in a seen ≡ t → n ≡ a → In n seen ⊎ In n (if◌then◌else◌ t [] (a ∷ []) ++ first_namings (a ∷ seen) l)
    here true p e = inl (subst (λ (m : Name). In m seen) (sym e) (in_of a seen p))
    here false p e = inr (inl e)

    later : (t : Bool) → is_in a seen ≡ t → In n (a ∷ seen) ⊎ In n (first_namings (a ∷ seen) l) →
        In n seen ⊎ In n (if◌then◌else◌ t [] (a ∷ []) ++ first_namings (a ∷ seen) l)
    later t p (inl (inl e)) = here t p e
    later t p (inl (inr k)) = inl k
    later t p (inr k) = inr (add t k)

    go : (t : Bool) → is_in a seen ≡ t → In n (a ∷ l) → (In n l → In n (a ∷ seen) ⊎ In n (first_namings (a ∷ seen) l)) →
        In n seen ⊎ In n (if◌then◌else◌ t [] (a ∷ []) ++ first_namings (a ∷ seen) l)
    go t p (inl e) f = here t p e
    go t p (inr j) f = later t p (f j)

-- A name of the first namings is one of the names.
naming_in : (n : Name) (seen l : List Name) → In n (first_namings seen l) → In n l
unfolding first_namings
naming_in n seen [] i = elim i [ ]
naming_in n seen (a ∷ l) i = go (is_in a seen) i (λ j. naming_in n (a ∷ seen) l j)
  where
    go : (t : Bool) → In n (if◌then◌else◌ t [] (a ∷ []) ++ first_namings (a ∷ seen) l) → (In n (first_namings (a ∷ seen) l) → In n l) → In n (a ∷ l)
    go true j f = inr (f j)
    go false (inl e) f = inl e
    go false (inr j) f = inr (f j)

-- A sync for each directory that stands.
syncs-count : (l : List Name) (u : Store) → ((d : Name) → In d l → Has (d, []) u.tree) → length (in_turn sync_existing l u) ≡ length l
unfolding sync_existing apply
syncs-count [] u h = refl
syncs-count (d ∷ l) u h = rw (h d (inl refl)).1 (ap suc (syncs-count l u (λ e i. h e (inr i))))

-- A tidy tree has no backup files.
no-baks : (p : Map) → Tidy p → size is_bak p ≡ 0
no-baks p t = size-zero is_bak p (look-all (λ k x. is_bak k ≡ 0) p t.sorted (λ k x e. bak-none k.0 k.1 (t.plain k.0 k.1 (x, e)).1))

module _ (s : Store) (ws : List Write) (T : Transacts s (map write ws)) (distinct : Distinct ws) where
  good : (w : Write) → In w ws → WriteGood s.tree w
  good w i = T.good (write w) (in_ops ws w i)

  -- Directories stand as before, and so do the keys of the Writes that are left; none has a backup.
  record Ready (l : List Write) (u : Store) : Type 0 where
    sub : (w : Write) → In w l → In w ws
    dirs : (d : Name) → look (d, []) u.tree ≡ look (d, []) s.tree
    fresh : (w : Write) → In w l → look (target w) u.tree ≡ look (target w) s.tree
    free : (w : Write) → In w l → look (backup w) u.tree ≡ none
    apart : Distinct l

  -- What the steps of one Write do to the counts.
  record Counted (w : Write) (xs : List Step) (u : Store) : Type 0 where
    steps : length xs ≡ (1 + (if existed_in s w then 1 else 0))
    backups : size is_bak (apply_all xs u).tree ≡ (if existed_in s w then 1 else 0) + size is_bak u.tree
    staged : (apply_all xs u).staging ≡ del (staging_key w.staged) u.staging
    agrees : (j : Key) → (j ≡ target w → ⊥) → (j ≡ backup w → ⊥) → look j (apply_all xs u).tree ≡ look j u.tree

  one-counted : (w : Write) (l : List Write) (u : Store) → Ready (w ∷ l) u → first_fault (op_steps (write w) u) u ≡ none → Counted w (op_steps (write w) u) u
  unfolding op_steps
  one-counted w l u r f = go (look (w.collection, []) u.tree) refl (look (target w) u.tree) refl f
    where
      g : WriteGood s.tree w
      g = good w (r.sub w (inl refl))

      light : is_bak (target w) ≡ 0
      light = bak-none w.collection w.key g.key.file

      heavy : is_bak (backup w) ≡ 1
      heavy = bak-one w.collection (backup_name w.key) w.key (original-backup w.key g.key.named)

      move : Step
      move = move_staged w.staged w.collection w.key

      aside : Step
      aside = rename_file w.collection w.key (backup_name w.key)

      was : (b : Option ℕ) → look (target w) u.tree ≡ b → existed_in s w ≡ is_some b
      was b e = ap is_some (sym (r.fresh w (inl refl)) ∙ e)

      go : (a : Option ℕ) → look (w.collection, []) u.tree ≡ a → (b : Option ℕ) → look (target w) u.tree ≡ b →
          let xs = if_missing a (make_directory w.collection ∷ []) ++ if_present b (aside ∷ []) ++ move ∷ [] in first_fault xs u ≡ none → Counted w xs u
      go none a b e f = none≢some (sym a ∙ r.dirs w.collection ∙ g.stands.1)
      go (some y) a none e f =
          let h = move-stands w u (fault-head move [] u f).0 in
          let tr = move-tree w u h.0 h.1 in
          let z = was none e in
          let q = size-put-light is_bak (target w) h.0 u.tree light in
          record {
            steps = rw z;
            backups = rw (z, tr) (omega (arith, q));
            staged = unfold apply in refl;
            agrees = λ j p q. rw tr (look-put-other (target w) j h.0 u.tree p);
          }
      go (some y) a (some x) e f =
          let v : Store = apply aside u in
          let h = move-stands w v (fault-head move [] v (fault-head aside (move ∷ []) u f).1).0 in
          let z = was (some x) e in
          let tr : (apply move v).tree ≡ put (target w) h.0 (put (backup w) x m) =
          move-tree w v h.0 h.1 ∙ ap (put (target w) h.0) (rename-tree w.collection w.key (backup_name w.key) u x e) in
          let q₁ = size-put-light is_bak (target w) h.0 (put (backup w) x m) light in
          let q₂ = size-put-new is_bak (backup w) x m none-there in
          let q₃ = size-del-light is_bak (target w) u.tree light in
          record {
            steps = rw z;
            backups = rw (z, tr) (q₁ ∙ q₂ ∙ omega (arith, q₃, heavy));
            staged = unfold apply in refl;
            agrees = λ j p q.
                rw tr (look-put-other (target w) j h.0 (put (backup w) x m) p ∙ look-put-other (backup w) j x m q ∙ look-del-other (target w) j u.tree p);
          }
        where
          m : Map
          m = del (target w) u.tree

          none-there : look (backup w) m ≡ none
          none-there =
              look-del-other (target w) (backup w) u.tree (λ y. name-apart g.key.file (original-backup w.key g.key.named) (sym (file-eq y)))
              ∙ r.free w (inl refl)

  one-ready : (w : Write) (l : List Write) (u v : Store) → Ready (w ∷ l) u →
      ((j : Key) → (j ≡ target w → ⊥) → (j ≡ backup w → ⊥) → look j v.tree ≡ look j u.tree) → Ready l v
  one-ready w l u v r a = record {
    sub = λ x i. r.sub x (inr i);
    dirs = λ d. a (d, []) (λ z. g.key.named (sym (file-eq z))) (λ z. name-apart original-nil bak (file-eq z)) ∙ r.dirs d;
    fresh = λ x i. a (target x) (r.apart.0 x i) (λ z. name-apart (good x (r.sub x (inr i))).key.file bak (file-eq z)) ∙ r.fresh x (inr i);
    free = λ x i. a (backup x) (λ z. name-apart g.key.file (bak-of x i) (sym (file-eq z))) (λ z. r.apart.0 x i (same x i z)) ∙ r.free x (inr i);
    apart = r.apart.1;
  }
    where
      g : WriteGood s.tree w
      g = good w (r.sub w (inl refl))

      bak : original_name (backup_name w.key) ≡ some w.key
      bak = original-backup w.key g.key.named

      bak-of : (x : Write) → In x l → original_name (backup_name x.key) ≡ some x.key
      bak-of x i = original-backup x.key (good x (r.sub x (inr i))).key.named

      same : (x : Write) → In x l → backup x ≡ backup w → target x ≡ target w
      same x i z = let k : x.key ≡ w.key = some_inj (sym (bak-of x i) ∙ ap original_name (file-eq z) ∙ bak) in λ i. (dir-eq z i, k i)

  -- What the steps of all Writes do.
  record AllCounted (l : List Write) (xs : List Step) (u : Store) : Type 0 where
    steps : length xs ≡ length l + count (existed_in s) l
    backups : size is_bak (apply_all xs u).tree ≡ count (existed_in s) l + size is_bak u.tree
    staged : (apply_all xs u).staging ≡ dels (map staging_key (map (λ w. w.staged) l)) u.staging
    dirs : (d : Name) → look (d, []) (apply_all xs u).tree ≡ look (d, []) s.tree

  all-counted : (l : List Write) (u : Store) → Ready l u → first_fault (in_turn op_steps (map write l) u) u ≡ none →
      AllCounted l (in_turn op_steps (map write l) u) u
  all-counted [] u r f = record { steps = refl; backups = omega arith; staged = refl; dirs = r.dirs }
  all-counted (w ∷ l) u r f =
      let xs = op_steps (write w) u in
      let v = apply_all xs u in
      let ys = in_turn op_steps (map write l) v in
      let k = fault_append xs ys u f in
      let a = one-counted w l u r k.0 in
      let b = all-counted l v (one-ready w l u v r a.agrees) k.1 in
      let e = length-append xs ys in
      let a₁ = a.steps in
      let b₁ = b.steps in
      let a₂ = a.backups in
      let b₂ = b.backups in
      record {
        steps = omega (arith, e, a₁, b₁);
        backups = rw (apply_all_append xs ys u) (omega (arith, a₂, b₂));
        staged = rw (apply_all_append xs ys u) (b.staged ∙ ap (dels (map staging_key (map (λ w. w.staged) l))) a.staged);
        dirs = rw (apply_all_append xs ys u) b.dirs;
      }

  collections-of : (l : List Write) → map collection_of (map write l) ≡ map (λ w. w.collection) l
  collections-of [] = refl
  collections-of (w ∷ l) = ap (λ (r : List Name). w.collection ∷ r) (collections-of l)

  -- The plan's length.
  abbrev collections : List Name
  collections = map (λ w. w.collection) ws

  plan-length : commit_fault s ≡ none →
      length (commit_plan s) ≡ 6 + length ws + 2 * count (existed_in s) ws + length (first_namings [] collections) + unnamed (map (λ w. w.staged) ws) s.staging
  unfolding apply
  plan-length f = rw (plan-is s (map write ws) T commit_end none f) total
    where
      u₀ : Store
      u₀ = apply rewrite_header s

      ready : Ready ws u₀
      ready = record {
        sub = λ w i. i;
        dirs = λ d. refl;
        fresh = λ w i. refl;
        free = λ w i. old-file T.old w.collection (backup_name w.key) w.key (original-backup w.key (good w i).key.named);
        apart = distinct;
      }

      xs : List Step
      xs = in_turn op_steps (map write ws) u₀

      c : AllCounted ws xs u₀
      c = all-counted ws u₀ ready (sym (fault-is s (map write ws) T) ∙ f)

      u₁ : Store
      u₁ = apply_all xs u₀

      l : List Name
      l = first_namings [] (map collection_of (map write ws))

      ys : List Step
      ys = in_turn sync_existing l u₁

      collected : (d : Name) (l : List Write) → ((w : Write) → In w l → In w ws) → In d (map collection_of (map write l)) → Has (d, []) u₁.tree
      collected d [] h x'' = elim x'' [ ]
      collected d (w ∷ l) h (inl e) = let k = (good w (h w (inl refl))).stands in (k.0, c.dirs d ∙ ap (λ (n : Name). look (n, []) s.tree) e ∙ k.1)
      collected d (w ∷ l) h (inr i) = collected d l (λ v j. h v (inr j)) i

      syncs : length ys ≡ length (first_namings [] collections)
      syncs =
          syncs-count l u₁ (λ d i. collected d ws (λ w j. j) (naming_in d [] (map collection_of (map write ws)) i))
          ∙ ap (λ (q : List Name). length (first_namings [] q)) (collections-of ws)

      u₂ : Store
      u₂ = unlogged s (map write ws) T

      u₃ : Store
      u₃ = apply_all (remove_backups u₂) u₂

      falls : Falls (remove_backups u₂) u₂
      falls =
          falls-dirs (dirs u₂.tree) u₂ (λ d i. let z = dirs_in d u₂.tree i in (T.old.plain d [] (z.0, sym (c.dirs d) ∙ z.1)).0.no_bak)
          (unlogged-ended s (map write ws) T f).sorted

      baks : length (remove_backups u₂) ≡ count (existed_in s) ws
      baks =
          let t = final-tidy s (map write ws) T f in
          let a = falls.falls in
          let b : size is_bak u₃.tree ≡ 0 =
          ap (size is_bak) (clean_all (final s (map write ws) T) none u₂ t (unlogged-ended s (map write ws) T f)).1 ∙ no-baks (final s (map write ws) T) t in
          let d : size is_bak u₂.tree ≡ size is_bak u₁.tree = refl in
          let g = c.backups in
          let h : size is_bak u₀.tree ≡ 0 = no-baks s.tree (old-tidy T.old) in
          omega (arith, a, b, d, g, h)

      unstaged : length (remove_staging_files u₃) ≡ unnamed (map (λ w. w.staged) ws) s.staging
      unstaged =
          length-map (staging_names u₃.staging) remove_staging ∙ ap (λ (m : Map). length (staging_names m)) (falls.staged ∙ c.staged)
          ∙ sym (unnamed-dels (map (λ w. w.staged) ws) s.staging T.bare)

      rest : length (in_turn run commit_end u₁) ≡ 3 + (count (existed_in s) ws + unnamed (map (λ w. w.staged) ws) s.staging)
      rest =
          let a = length-append (remove_backups u₂) (remove_staging_files u₃ ++ []) in
          let b = length-append (remove_staging_files u₃) [] in
          omega (arith, a, b, baks, unstaged)

      total : length (rewrite_header ∷ in_turn run (commit_parts commit_end (map write ws) none) u₀)
          ≡ 6 + length ws + 2 * count (existed_in s) ws + length (first_namings [] collections) + unnamed (map (λ w. w.staged) ws) s.staging
      total =
          let zs : List Step = in_turn run commit_end (apply_all ys u₁) in
          let a = length-append xs (ys ++ zs) in
          let b = length-append ys zs in
          let d : length zs ≡ length (in_turn run commit_end u₁) =
          ap (λ (v : Store). length (in_turn run commit_end v)) (syncs-same l u₁) in
          let g = c.steps in
          omega (arith, a, b, d, g, rest, syncs)

  -- Any list of the collections, each once, is as long as the first namings.
  naming_length : (cs : List Name) → ListedOnce cs ws → length (first_namings [] collections) ≡ length cs
  naming_length cs h =
      let a = once_le (first_namings [] collections) cs (naming_once [] collections) listed in
      let b = once_le cs (first_namings [] collections) h.0 (λ d i. named d (naming_has d [] collections (to_map d ((h.1 d).0 i)))) in
      omega (arith, a, b)
    where
      listed : (d : Name) → In d (first_namings [] collections) → In d cs
      listed d i = (h.1 d).1 (any-of-map (λ n. d ≡ n) (λ w. w.collection) ws (naming_in d [] collections i))

      to_map : (d : Name) → Any (λ w. d ≡ w.collection) ws → In d collections
      to_map d i = any-to-map (λ n. d ≡ n) (λ w. w.collection) ws i

      named : (d : Name) → ⊥ ⊎ In d (first_namings [] collections) → In d (first_namings [] collections)
      named d (inl z) = absurd z
      named d (inr i) = i

  counted : (cs : List Name) → ListedOnce cs ws → commit_fault s ≡ none → length (commit_plan s) ≡ step_count s ws cs
  counted cs h f = let a = plan-length f in let b = naming_length cs h in omega (arith, a, b)

-- Item 13, for the plan's own steps and for commit's step entry.
pub step_count_lem : StepCount
step_count_lem b s ws cs C m h =
    let k = committed b s C.holds C.committed in
    counted s ws (transacts b s (map write ws) (suits C) (all_true s.tree ws m) k.0) C.distinct_keys cs h k.1

pub step-count-at : StepCountAt
step-count-at b s ws cs n C m h =
    let k = committed b s C.holds C.committed in
    ap (λ (a : Answer). a.number) (stepped b s n C.holds k.0) ∙ ap number (step_count_lem b s ws cs C m h) ∙ go (leb n (step_count s ws cs))
  where
    given : Answer
    given = record { number = 0; image = encode (committed_at n s); step = field_at n (commit_plan s) }

    number : ℕ → ℕ
    number x = (if◌then◌else◌ (leb n x) given (refusal 16)).number

    go : (t : Bool) → (if◌then◌else◌ t given (refusal 16)).number ≡ (if t then 0 else 16)
    go true = refl
    go false = refl

-- 02, item 14: no plan of recovery, revert or keep depends on a content number, and none of their steps brings a number to two places.
use Rattle.std.specs.Prelude.{◌≡◌, ℕ, Bool, ◌&&◌, ◌||◌, if◌then◌else◌}
use Rattle.std.proofs.Math.Path.{refl, sym, ap}
use Rattle.std.proofs.Common.{◌∙◌}
use mathlib.Core.List.{List, [], ◌∷◌, ◌++◌, map, reverse}
use Rattle.std.proofs.Math.Option.{Option, none, some}
use Rattle.std.proofs.Math.Bool.{not}
use Rattle.basics.specs.Order.{Cmp, lt, eq, gt, Name, Key, cmp_name, cmp_key, case_cmp}
use Rattle.basics.specs.Map.{Map, look, put, del}
use Rattle.basics.specs.Base.{case_option, if_empty, is_some, if_present, if_missing, any_of}
use Rattle.basics.specs.Name.{backup_name, original_name, strip_tmp, is_backup}
use Rattle.model.specs.Operation.{Op, write, delete, delete_all, create_collection, delete_collection, copy_collection, target, backup, stood}
use Rattle.model.specs.Log.{Journal, absent, recording, committing, held, journal, whole, truncated, undecodable, too_many}
use Rattle.model.specs.Store.{Store, staging_key, dirs, files, staging_names, has_backup_files}
use Rattle.model.specs.Step.{Step, rewrite_header, hold_header, sync_staging, sync_log, remove_log, sync_journal, sync_collections, make_directory, rename_file, move_staged}
use Rattle.model.specs.Step.{rename_directory, copy_file, remove_file, remove_directory, remove_staging, sync_directory, remove_dir, rename_dir, with_tree, apply, apply_all}
use Rattle.model.specs.Plan.{in_turn, run, in_sequence, undo_steps, restore_file, restore_directory, restore_backups, remove_backup_file, remove_backups_in, remove_backups, remove_staging_files}
use Rattle.model.specs.Plan.{is_new_artifact, recover_fault, recover_parts, unheld, recover_plan, revert_plan, keep_plan, shut, recovered, reverted, kept, without_mark}
use Rattle.basic_laws.specs.Tests.{All, all_every}

-- The same directories, files and staging files, each number changed by one function.
abbrev pub renumbered : (ℕ → ℕ) → Map → Map
renumbered φ t = map (λ n. (n.0, φ n.1)) t

abbrev pub renumber : (ℕ → ℕ) → Store → Store
renumber φ s = record { tree = renumbered φ s.tree; staging = renumbered φ s.staging; log = s.log; open_mark = s.open_mark }

-- By cases of a comparison, under a function.
by_cmp : {A B : Type 0} (f : A → B) (c : Cmp) {x y z : A} {p q r : B} → f x ≡ p → f y ≡ q → f z ≡ r → f (case_cmp c x y z) ≡ case_cmp c p q r
by_cmp f lt a b c = a
by_cmp f eq a b c = b
by_cmp f gt a b c = c

abbrev mapped : (ℕ → ℕ) → Option ℕ → Option ℕ
mapped φ none = none
mapped φ (some x) = some (φ x)

-- Only a directory that is made brings a number of its own, which is 0.
module _ (φ : ℕ → ℕ) (keeps-zero : φ 0 ≡ 0) where
  -- Changes of a map do not read its numbers.
  look-renumbered : (k : Key) (t : Map) → mapped φ (look k t) ≡ look k (renumbered φ t)
  unfolding look
  look-renumbered k [] = refl
  look-renumbered k (n ∷ r) = let e = look-renumbered k r in by_cmp (mapped φ) (cmp_key k n.0) e refl e

  pub put-renumbered : (k : Key) (x : ℕ) (t : Map) → renumbered φ (put k x t) ≡ put k (φ x) (renumbered φ t)
  unfolding put
  put-renumbered k x [] = refl
  put-renumbered k x (n ∷ r) = by_cmp (renumbered φ) (cmp_key k n.0) refl refl (ap (λ (l : Map). (n.0, φ n.1) ∷ l) (put-renumbered k x r))

  del-renumbered : (k : Key) (t : Map) → renumbered φ (del k t) ≡ del k (renumbered φ t)
  unfolding del
  del-renumbered k [] = refl
  del-renumbered k (n ∷ r) = let e = del-renumbered k r in let f = ap (λ (l : Map). (n.0, φ n.1) ∷ l) e in by_cmp (renumbered φ) (cmp_key k n.0) f e f

  drop-renumbered : (d : Name) (t : Map) → renumbered φ (remove_dir d t) ≡ remove_dir d (renumbered φ t)
  unfolding remove_dir
  drop-renumbered d [] = refl
  drop-renumbered d (n ∷ r) =
      let e = drop-renumbered d r in let f = ap (λ (l : Map). (n.0, φ n.1) ∷ l) e in by_cmp (renumbered φ) (cmp_name d n.0.0) f e f

  move-renumbered : (a b : Name) (r t : Map) → renumbered φ (rename_dir a b r t) ≡ rename_dir a b (renumbered φ r) (renumbered φ t)
  unfolding rename_dir
  move-renumbered a b [] t = refl
  move-renumbered a b (n ∷ r) t =
      move-renumbered a b r _
      ∙ ap (rename_dir a b (renumbered φ r))
      (by_cmp (renumbered φ) (cmp_name a n.0.0) refl (put-renumbered (b, n.0.1) n.1 (del n.0 t) ∙ ap (put (b, n.0.1) (φ n.1)) (del-renumbered n.0 t)) refl)

  -- So neither does a step, which moves numbers as it finds them.
  abbrev Commutes : Step → Store → Type 0
  Commutes x s = apply x (renumber φ s) ≡ renumber φ (apply x s)

  tree-commutes : (s : Store) {t u : Map} → t ≡ u → with_tree t (renumber φ s) ≡ with_tree u (renumber φ s)
  tree-commutes s e = ap (λ (m : Map). with_tree m (renumber φ s)) e

  -- A number that is looked up, then put.
  put-found : (F G : ℕ → Map) (t : Map) (q : Option ℕ) → ((x : ℕ) → G (φ x) ≡ renumbered φ (F x)) →
      case_option (mapped φ q) (renumbered φ t) G ≡ renumbered φ (case_option q t F)
  put-found F G t none h = refl
  put-found F G t (some x) h = h x

  found : (k : Key) (m t : Map) (F G : ℕ → Map) → ((x : ℕ) → G (φ x) ≡ renumbered φ (F x)) →
      case_option (look k (renumbered φ m)) (renumbered φ t) G ≡ renumbered φ (case_option (look k m) t F)
  found k m t F G h = ap (λ (q : Option ℕ). case_option q (renumbered φ t) G) (sym (look-renumbered k m)) ∙ put-found F G t (look k m) h

  commutes : (x : Step) (s : Store) → Commutes x s
  unfolding apply
  commutes rewrite_header s = refl
  commutes hold_header s = refl
  commutes sync_staging s = refl
  commutes sync_log s = refl
  commutes remove_log s = refl
  commutes sync_journal s = refl
  commutes sync_collections s = refl
  commutes (make_directory d) s = tree-commutes s (ap (λ (x : ℕ). put (d, []) x (renumbered φ s.tree)) (sym keeps-zero) ∙ sym (put-renumbered (d, []) 0 s.tree))
  commutes (rename_file d a b) s = tree-commutes s (found (d, a) s.tree s.tree _ (λ x. put (d, b) x (del (d, a) (renumbered φ s.tree)))
      (λ x. ap (put (d, b) (φ x)) (sym (del-renumbered (d, a) s.tree)) ∙ sym (put-renumbered (d, b) x (del (d, a) s.tree))))
  commutes (move_staged f d k) s =
      let e = found (staging_key f) s.staging s.tree (λ x. put (d, k) x s.tree) (λ x. put (d, k) x (renumbered φ s.tree)) (λ x. sym (put-renumbered (d, k) x s.tree)) in
      let g = sym (del-renumbered (staging_key f) s.staging) in
      λ i. record { tree = e i; staging = g i; log = s.log; open_mark = s.open_mark }
  commutes (rename_directory a b) s = tree-commutes s (sym (move-renumbered a b s.tree s.tree))
  commutes (copy_file a b f) s = tree-commutes s (found (a, f) s.tree s.tree _ (λ x. put (b, f) x (renumbered φ s.tree)) (λ x. sym (put-renumbered (b, f) x s.tree)))
  commutes (remove_file d f) s = tree-commutes s (sym (del-renumbered (d, f) s.tree))
  commutes (remove_directory d) s = tree-commutes s (sym (drop-renumbered d s.tree))
  commutes (remove_staging f) s =
      ap (λ (m : Map). record { tree = renumbered φ s.tree; staging = m; log = s.log; open_mark = s.open_mark }) (sym (del-renumbered (staging_key f) s.staging))
  commutes (sync_directory d) s = refl

  all-commute : (xs : List Step) (s : Store) → apply_all xs (renumber φ s) ≡ renumber φ (apply_all xs s)
  all-commute [] s = refl
  all-commute (x ∷ xs) s = ap (apply_all xs) (commutes x s) ∙ all-commute xs (apply x s)

  -- Listings and searches are the same.
  dirs-same : (t : Map) → dirs (renumbered φ t) ≡ dirs t
  unfolding dirs
  dirs-same [] = refl
  dirs-same (n ∷ r) = ap (λ (l : List Name). if_empty n.0.1 (n.0.0 ∷ l) l) (dirs-same r)

  files-same : (d : Name) (t : Map) → files d (renumbered φ t) ≡ files d t
  unfolding files
  files-same d [] = refl
  files-same d (n ∷ r) = ap (λ (l : List Name). case_cmp (cmp_name d n.0.0) l (if_empty n.0.1 l (n.0.1 ∷ l)) l) (files-same d r)

  staging-same : (m : Map) → staging_names (renumbered φ m) ≡ staging_names m
  staging-same [] = refl
  staging-same (n ∷ r) = ap (λ (l : List Name). n.0.1 ∷ l) (staging-same r)

  backups-same : (t : Map) → has_backup_files (renumbered φ t) ≡ has_backup_files t
  unfolding has_backup_files
  backups-same [] = refl
  backups-same (n ∷ r) = ap (λ (b : Bool). (is_backup n.0.0 || is_backup n.0.1) || b) (backups-same r)

  -- A question that does not ask which number stands.
  same : {B : Type 0} (f : Option ℕ → B) → ((x y : ℕ) → f (some x) ≡ f (some y)) → (k : Key) (t : Map) → f (look k (renumbered φ t)) ≡ f (look k t)
  same f h k t = ap f (sym (look-renumbered k t)) ∙ go (look k t)
    where
      go : (q : Option ℕ) → f (mapped φ q) ≡ f q
      go none = refl
      go (some x) = h (φ x) x

  stands_same : (k : Key) (t : Map) → is_some (look k (renumbered φ t)) ≡ is_some (look k t)
  stands_same = same is_some (λ x y. refl)

  present-same : {B : Type 0} (l : List B) (k : Key) (t : Map) → if_present (look k (renumbered φ t)) l ≡ if_present (look k t) l
  present-same l = same (λ q. if_present q l) (λ x y. refl)

  missing-same : {B : Type 0} (l : List B) (k : Key) (t : Map) → if_missing (look k (renumbered φ t)) l ≡ if_missing (look k t) l
  missing-same l = same (λ q. if_missing q l) (λ x y. refl)

  -- Recovery's refusal is the same.
  artifact_same : (o : Op) (t : Map) → is_new_artifact (renumbered φ t) o ≡ is_new_artifact t o
  unfolding is_new_artifact
  artifact_same (write w) t = let a = stands_same (target w) t in let b = stands_same (backup w) t in λ i. not (stood w) && a i && not (b i)
  artifact_same (delete c k) t = refl
  artifact_same (delete_all c) t = refl
  artifact_same (create_collection c) t = stands_same (c, []) t
  artifact_same (delete_collection c) t = refl
  artifact_same (copy_collection a b existed) t = let p = stands_same (b, []) t in let q = stands_same (backup_name b, []) t in λ i. not existed && p i && not (q i)

  artifacts_same : (l : List Op) (t : Map) → any_of (is_new_artifact (renumbered φ t)) l ≡ any_of (is_new_artifact t) l
  artifacts_same [] t = refl
  artifacts_same (o ∷ l) t = let a = artifact_same o t in let b = artifacts_same l t in λ i. a i || b i

  pub fault-same : (j : Journal) (t : Map) → recover_fault j (renumbered φ t) ≡ recover_fault j t
  fault-same absent t = refl
  fault-same (recording o e) t = refl
  fault-same (committing o whole) t = refl
  fault-same (committing o (truncated c)) t = let a = backups-same t in let b = artifacts_same o t in λ i. if a i || b i then some 13 else none
  fault-same (committing o undecodable) t = refl
  fault-same (committing o too_many) t = refl
  fault-same (held o e) t = refl

  -- So are the steps of every part of their plans.
  abbrev Blind : (Store → List Step) → Type 0
  Blind part = (s : Store) → part (renumber φ s) ≡ part s

  blind_turns : {A : Type 0} (g : A → Store → List Step) (l : List A) → All (λ a. Blind (g a)) l → Blind (in_turn g l)
  blind_turns g [] h s = refl
  blind_turns g (a ∷ l) h s =
      (let e = h.0 s in λ i. e i ++ in_turn g l (apply_all (e i) (renumber φ s)))
      ∙ ap (λ (u : Store). g a s ++ in_turn g l u) (all-commute (g a s) s)
      ∙ ap (λ (xs : List Step). g a s ++ xs) (blind_turns g l h.1 (apply_all (g a s) s))

  -- A walk over a listing.
  blind_walk : {A : Type 0} (g : A → Store → List Step) (listing : Map → List A) → ((t : Map) → listing (renumbered φ t) ≡ listing t) → ((a : A) → Blind (g a)) →
      Blind (λ s. in_turn g (listing s.tree) s)
  blind_walk {A} g listing e h s = ap (λ (l : List A). in_turn g l (renumber φ s)) (e s.tree) ∙ blind_turns g (listing s.tree) (all_every h (listing s.tree)) s

  blind_undo : (o : Op) → Blind (undo_steps o)
  unfolding undo_steps
  blind_undo (write w) s =
      let a = missing-same (remove_file w.collection w.key ∷ []) (backup w) s.tree in
      let b = present-same (if_missing (look (backup w) s.tree) (remove_file w.collection w.key ∷ [])) (target w) s.tree in
      ap (λ (l : List Step). if stood w then [] else l) (ap (if_present (look (target w) (renumbered φ s.tree))) a ∙ b)
  blind_undo (delete c k) s = refl
  blind_undo (delete_all c) s = refl
  blind_undo (create_collection c) s =
      let a = ap (λ (l : List Name). if_empty l (remove_directory c ∷ []) []) (files-same c s.tree) in
      ap (if_present (look (c, []) (renumbered φ s.tree))) a ∙ present-same (if_empty (files c s.tree) (remove_directory c ∷ []) []) (c, []) s.tree
  blind_undo (delete_collection c) s = refl
  blind_undo (copy_collection a b existed) s =
      let p = missing-same (remove_directory b ∷ []) (backup_name b, []) s.tree in
      let q = present-same (if_missing (look (backup_name b, []) s.tree) (remove_directory b ∷ [])) (b, []) s.tree in
      ap (λ (l : List Step). if existed then [] else l) (ap (if_present (look (b, []) (renumbered φ s.tree))) p ∙ q)

  blind_restore_file : (d f : Name) → Blind (restore_file d f)
  unfolding restore_file
  blind_restore_file d f s = λ i.
      case_option (original_name f) (if_present (strip_tmp f) (remove_file d f ∷ [])) λ g.
      present-same (remove_file d g ∷ []) (d, g) s.tree i ++ rename_file d f g ∷ []

  blind_restore_directory : (d : Name) → Blind (restore_directory d)
  unfolding restore_directory
  blind_restore_directory d s =
      let e = blind_walk (restore_file d) (files d) (files-same d) (blind_restore_file d) s in
      λ i. case_option (original_name d) (e i) λ g. present-same (remove_directory g ∷ []) (g, []) s.tree i ++ rename_directory d g ∷ []

  blind_restore : Blind restore_backups
  blind_restore = blind_walk restore_directory dirs dirs-same blind_restore_directory

  blind_remove_in : (d : Name) → Blind (remove_backups_in d)
  unfolding remove_backups_in
  blind_remove_in d s =
      let e = blind_walk (remove_backup_file d) (files d) (files-same d) (λ f u. unfold remove_backup_file in refl) s in
      λ i. case_option (original_name d) (e i) λ g. remove_directory d ∷ []

  blind_remove : Blind remove_backups
  blind_remove = blind_walk remove_backups_in dirs dirs-same blind_remove_in

  blind_unstage : Blind remove_staging_files
  blind_unstage s = ap (map remove_staging) (staging-same s.staging)

  blind_recover : (j : Journal) → Blind (in_sequence (recover_parts j))
  blind_recover j = blind_turns run (recover_parts j) (parts j)
    where
      parts : (j : Journal) → All Blind (recover_parts j)
      parts absent = (blind_remove, ((λ s. refl), (blind_unstage, tt)))
      parts (recording o e) = ((λ s. refl), (blind_unstage, tt))
      parts (committing o whole) = (blind_turns undo_steps (reverse o) (all_every blind_undo (reverse o)), (blind_restore, ((λ s. refl), (blind_unstage, tt))))
      parts (committing o (truncated c)) = ((λ s. refl), (blind_unstage, tt))
      parts (committing o undecodable) = ((λ s. refl), (blind_unstage, tt))
      parts (committing o too_many) = ((λ s. refl), (blind_unstage, tt))
      parts (held o e) = (blind_unstage, tt)

  -- The law: numbers that are changed before recovery, revert or keep might as well be changed behind it.
  shut-renumbered : (plan : Store → List Step) → Blind plan → (s : Store) → shut plan (renumber φ s) ≡ renumber φ (shut plan s)
  shut-renumbered plan h s = ap (λ (xs : List Step). apply_all xs (renumber φ (without_mark s))) (h (without_mark s)) ∙ all-commute (plan (without_mark s)) (without_mark s)

  pub recovered-renumbered : (s : Store) → recovered (renumber φ s) ≡ renumber φ (recovered s)
  unfolding recovered recover_plan
  recovered-renumbered s = shut-renumbered recover_plan (λ u. blind_recover (journal u.log) u) s

  pub reverted-renumbered : (s : Store) → reverted (renumber φ s) ≡ renumber φ (reverted s)
  unfolding reverted revert_plan
  reverted-renumbered s = shut-renumbered revert_plan (λ u. blind_recover (unheld (journal u.log)) u) s

  pub kept-renumbered : (s : Store) → kept (renumber φ s) ≡ renumber φ (kept s)
  unfolding kept keep_plan
  kept-renumbered s = shut-renumbered keep_plan (blind_turns run ((λ u. remove_log ∷ sync_journal ∷ []) ∷ remove_backups ∷ []) ((λ u. refl), (blind_remove, tt))) s

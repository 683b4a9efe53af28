-- 02, item 14: each step of recovery, revert and keep moves a number to at most one place. None of them copies.
use Rattle.std.specs.Prelude.{◌≡◌, ℕ, Bool, true, false, if◌then◌else◌}
use Rattle.std.proofs.Math.Path.{refl}
use Rattle.std.proofs.Common.{sym, ◌∙◌, ap, inl, inr}
use mathlib.Core.List.{List, [], ◌∷◌, ◌++◌, map, reverse}
use Rattle.std.proofs.Math.Option.{Option, none, some}
use Rattle.basics.specs.Order.{Name, Key}
use Rattle.basics.specs.Map.{Map, look, put, del}
use Rattle.basics.specs.Base.{case_option, if_empty, if_present, if_missing}
use Rattle.basics.specs.Name.{backup_name, original_name, strip_tmp}
use Rattle.model.specs.Operation.{Op, write, delete, delete_all, create_collection, delete_collection, copy_collection, target, backup, stood}
use Rattle.model.specs.Log.{Journal, absent, recording, committing, held, journal, whole, truncated, undecodable, too_many}
use Rattle.model.specs.Store.{Store, staging_key, dirs, files, staging_names}
use Rattle.model.specs.Step.{Step, rewrite_header, hold_header, sync_staging, sync_log, remove_log, sync_journal, sync_collections, make_directory, rename_file, move_staged}
use Rattle.model.specs.Step.{rename_directory, copy_file, remove_file, remove_directory, remove_staging, sync_directory, remove_dir, rename_dir, with_tree, apply, apply_all}
use Rattle.model.specs.Plan.{in_turn, run, in_sequence, undo_steps, restore_file, restore_directory, restore_backups, remove_backup_file, remove_backups_in, remove_backups}
use Rattle.model.specs.Plan.{remove_staging_files, remove_standing_log, recover_parts, unheld, recover_plan, revert_plan, keep_plan, recovered, reverted, kept, without_mark}
use Rattle.basic_laws.specs.MapLaws.{Sorted, key_dec, none≢some, look-put-same, look-put-other, look-del-same, look-del-some, sorted-put, sorted-del}
use Rattle.basic_laws.specs.Tests.{All, all_append, all_every}
use Rattle.basic_laws.specs.NameLaws.{original-some, original-named}
use Rattle.basic_laws.specs.ValidNames.{backup-apart}
use Rattle.laws.specs.StoreLaws.{Bare, bare-del, name_dec, look-drop-some, sorted-drop, look-move-other, look-move-from, look-move-to, sorted-move}
use Rattle.laws.specs.EndLaws.{staging-gone}
use Rattle.laws.specs.Runs.{apply_all_append}

-- A change of a tree that moves each number to at most one place: whatever stands behind it stood before, at a place that goes to this one. A file's
-- number stays a file's.
record Moves (F : Map → Map) : Type 0 where
  sorted : (t : Map) → Sorted t → Sorted (F t)
  to : Key → Key
  file : (o : Key) → (o.1 ≡ [] → ⊥) → (to o).1 ≡ [] → ⊥
  from : (t : Map) → Sorted t → (j : Key) (x : ℕ) → look j (F t) ≡ some x → (o : Key) × (look o t ≡ some x) × (to o ≡ j)

-- Removals move nothing.
moves-del : (k : Key) → Moves (del k)
moves-del k = record { sorted = sorted-del k; to = λ o. o; file = λ o z. z; from = λ t s j x h. (j, look-del-some k j t x h, refl) }

moves-drop : (d : Name) → Moves (remove_dir d)
moves-drop d = record { sorted = sorted-drop d; to = λ o. o; file = λ o z. z; from = λ t s j x h. (j, look-drop-some d j t x h, refl) }

-- A place that is sent elsewhere if it is the one that is meant.
sent : {A : Type 0} → Dec A → Key → Key → Key
sent (yes p) j o = j
sent (no p) j o = o

sent-there : {A : Type 0} (q : Dec A) (j o : Key) → A → sent q j o ≡ j
unfolding sent
sent-there (yes p) j o a = refl
sent-there (no p) j o a = absurd (p a)

sent-not : {A : Type 0} (q : Dec A) (j o : Key) → (A → ⊥) → sent q j o ≡ o
unfolding sent
sent-not (yes p) j o h = absurd (h p)
sent-not (no p) j o h = refl

sent-file : {A : Type 0} (q : Dec A) (j o : Key) → (j.1 ≡ [] → ⊥) → (o.1 ≡ [] → ⊥) → (sent q j o).1 ≡ [] → ⊥
unfolding sent
sent-file (yes p) j o h k = h
sent-file (no p) j o h k = k

-- A file renamed.
abbrev renamed : Name → Name → Name → Map → Map
renamed d a b t = case_option (look (d, a) t) t (λ x. put (d, b) x (del (d, a) t))

moves-rename : (d a b : Name) → (b ≡ [] → ⊥) → Moves (renamed d a b)
moves-rename d a b named = record {
  sorted = λ t s. so t s (look (d, a) t);
  to = λ o. sent (key_dec o (d, a)) (d, b) o;
  file = λ o z. sent-file (key_dec o (d, a)) (d, b) o named z;
  from = λ t s j x h. from t j x (look (d, a) t) refl h;
}
  where
    so : (t : Map) → Sorted t → (q : Option ℕ) → Sorted (case_option q t (λ x. put (d, b) x (del (d, a) t)))
    so t s none = s
    so t s (some x) = sorted-put (d, b) x (del (d, a) t) (sorted-del (d, a) t s)

    -- What is not at the old place stays.
    stays : (t : Map) (j : Key) (x : ℕ) → look j t ≡ some x → (j ≡ (d, a) → ⊥) → (o : Key) × (look o t ≡ some x) × (sent (key_dec o (d, a)) (d, b) o ≡ j)
    stays t j x h z = (j, h, sent-not (key_dec j (d, a)) (d, b) j z)

    from : (t : Map) (j : Key) (x : ℕ) (q : Option ℕ) → look (d, a) t ≡ q → look j (case_option q t (λ x. put (d, b) x (del (d, a) t))) ≡ some x →
        (o : Key) × (look o t ≡ some x) × (sent (key_dec o (d, a)) (d, b) o ≡ j)
    from t j x none e h = stays t j x h (λ z. none≢some (sym e ∙ ap (λ (k : Key). look k t) (sym z) ∙ h))
    from t j x (some y) e h = at (key_dec j (d, b))
      where
        at : Dec (j ≡ (d, b)) → (o : Key) × (look o t ≡ some x) × (sent (key_dec o (d, a)) (d, b) o ≡ j)
        at (yes p) = (
          (d, a),
          e ∙ sym (look-put-same (d, b) y (del (d, a) t)) ∙ ap (λ (k : Key). look k (put (d, b) y (del (d, a) t))) (sym p) ∙ h,
          sent-there (key_dec (d, a) (d, a)) (d, b) (d, a) refl ∙ sym p,
        )
        at (no p) =
            let l : look j (del (d, a) t) ≡ some x = sym (look-put-other (d, b) j y (del (d, a) t) p) ∙ h in
            stays t j x (look-del-some (d, a) j t x l) (λ z. none≢some (sym (look-del-same (d, a) t) ∙ ap (λ (k : Key). look k (del (d, a) t)) (sym z) ∙ l))

-- A directory renamed.
moves-move : (a b : Name) → (a ≡ b → ⊥) → Moves (λ t. rename_dir a b t t)
moves-move a b apart = record {
  sorted = λ t s. sorted-move a b apart t t s;
  to = goes;
  file = λ o z. sent-file (name_dec o.0 a) (b, o.1) o z z;
  from = λ t s j x h. from t s j.0 j.1 x h (name_dec j.0 a) (name_dec j.0 b);
}
  where
    goes : Key → Key
    goes o = sent (name_dec o.0 a) (b, o.1) o

    gone : (t : Map) (f : Name) (q : Option ℕ) → look (a, f) t ≡ q → look (a, f) (rename_dir a b t t) ≡ none
    gone t f none e = look-move-from a b apart f t t (inl e)
    gone t f (some x) e = look-move-from a b apart f t t (inr (x, e))

    from_either : (t : Map) (f : Name) (x : ℕ) (q : Option ℕ) → look (a, f) t ≡ q → case_option q (look (b, f) t) some ≡ some x →
        (o : Key) × (look o t ≡ some x) × (goes o ≡ (b, f))
    from_either t f x none e h = ((b, f), h, sent-not (name_dec b a) (b, f) (b, f) (λ z. apart (sym z)))
    from_either t f x (some y) e h = ((a, f), e ∙ h, sent-there (name_dec a a) (b, f) (a, f) refl)

    from : (t : Map) → Sorted t → (c f : Name) (x : ℕ) → look (c, f) (rename_dir a b t t) ≡ some x → Dec (c ≡ a) → Dec (c ≡ b) →
        (o : Key) × (look o t ≡ some x) × (goes o ≡ (c, f))
    from t s c f x h (yes p) q = none≢some (sym (gone t f (look (a, f) t) refl) ∙ ap (λ (d : Name). look (d, f) (rename_dir a b t t)) (sym p) ∙ h)
    from t s c f x h (no p) (yes q) =
        let r = from_either t f x (look (a, f) t) refl (sym (look-move-to a b apart f t t s) ∙ ap (λ (d : Name). look (d, f) (rename_dir a b t t)) (sym q) ∙ h) in
        (r.0, r.1, r.2 ∙ λ i. (sym q i, f))
    from t s c f x h (no p) (no q) = ((c, f), sym (look-move-other a b apart c f t t p q) ∙ h, sent-not (name_dec c a) (b, f) (c, f) p)

-- The steps of recovery, revert and keep.
abbrev Undoing : Step → Type 0
Undoing rewrite_header = ⊥
Undoing hold_header = ⊥
Undoing sync_staging = Unit {0}
Undoing sync_log = Unit {0}
Undoing remove_log = Unit {0}
Undoing sync_journal = Unit {0}
Undoing sync_collections = Unit {0}
Undoing (make_directory d) = ⊥
Undoing (rename_file d a b) = b ≡ [] → ⊥
Undoing (move_staged f d k) = ⊥
Undoing (rename_directory a b) = a ≡ b → ⊥
Undoing (copy_file a b f) = ⊥
Undoing (remove_file d f) = Unit {0}
Undoing (remove_directory d) = Unit {0}
Undoing (remove_staging f) = Unit {0}
Undoing (sync_directory d) = Unit {0}

module _ (z : ℕ) where
  -- The number z stands nowhere; only at this place, if at all.
  abbrev pub Nowhere : Map → Type 0
  Nowhere t = (j : Key) → look j t ≡ some z → ⊥

  abbrev pub OnlyAt : Key → Map → Type 0
  OnlyAt k t = (j : Key) → look j t ≡ some z → j ≡ k

  -- It is the number of at most one file or staging file.
  pub data OnePlace (s : Store) : Type 0 where
    in_file : (k : Key) → (k.1 ≡ [] → ⊥) → OnlyAt k s.tree → Nowhere s.staging → OnePlace s
    in_staging : (f : Name) → Nowhere s.tree → OnlyAt (staging_key f) s.staging → OnePlace s

  pub record Followed (s : Store) : Type 0 where
    pub tree : Sorted s.tree
    pub staging : Sorted s.staging
    pub bare : Bare s.staging
    pub place : OnePlace s

  follow-tree : {F : Map → Map} → Moves F → (s : Store) → Followed s → Followed (with_tree (F s.tree) s)
  follow-tree {F} m s h = record { tree = m.sorted s.tree h.tree; staging = h.staging; bare = h.bare; place = go h.place }
    where
      go : OnePlace s → OnePlace (with_tree (F s.tree) s)
      go (in_file k n only free) =
          in_file (m.to k) (m.file k n) (λ j e. let o = m.from s.tree h.tree j z e in sym o.2 ∙ ap m.to (only o.0 o.1)) free
      go (in_staging f free only) = in_staging f (λ j e. let o = m.from s.tree h.tree j z e in free o.0 o.1) only

  follow_unstage : (f : Name) (s : Store) → Followed s → Followed (apply (remove_staging f) s)
  unfolding apply
  follow_unstage f s h =
      record { tree = h.tree; staging = sorted-del (staging_key f) s.staging h.staging; bare = bare-del (staging_key f) s.staging h.bare; place = go h.place }
    where
      go : OnePlace s → OnePlace (apply (remove_staging f) s)
      go (in_file k n only free) = in_file k n only (λ j e. free j (look-del-some (staging_key f) j s.staging z e))
      go (in_staging g free only) = in_staging g free (λ j e. only j (look-del-some (staging_key f) j s.staging z e))

  -- A store with the same files and staging files.
  follow-same : (s u : Store) → s.tree ≡ u.tree → s.staging ≡ u.staging → Followed s → Followed u
  follow-same s u a b h = record { tree = rw a at h.tree; staging = rw b at h.staging; bare = rw b at h.bare; place = go h.place }
    where
      go : OnePlace s → OnePlace u
      go (in_file k n only free) = in_file k n (λ j e. only j (rw a e)) (λ j e. free j (rw b e))
      go (in_staging f free only) = in_staging f (λ j e. free j (rw a e)) (λ j e. only j (rw b e))

  follow : (x : Step) (s : Store) → Undoing x → Followed s → Followed (apply x s)
  unfolding apply
  follow rewrite_header s a h = absurd a
  follow hold_header s a h = absurd a
  follow sync_staging s a h = h
  follow sync_log s a h = h
  follow remove_log s a h = follow-same s _ refl refl h
  follow sync_journal s a h = h
  follow sync_collections s a h = h
  follow (make_directory d) s a h = absurd a
  follow (rename_file d b c) s a h = follow-tree (moves-rename d b c a) s h
  follow (move_staged f d k) s a h = absurd a
  follow (rename_directory b c) s a h = follow-tree (moves-move b c a) s h
  follow (copy_file b c f) s a h = absurd a
  follow (remove_file d f) s a h = follow-tree (moves-del (d, f)) s h
  follow (remove_directory d) s a h = follow-tree (moves-drop d) s h
  follow (remove_staging f) s a h = follow_unstage f s h
  follow (sync_directory d) s a h = h

  follow-all : (xs : List Step) (s : Store) → All Undoing xs → Followed s → Followed (apply_all xs s)
  follow-all [] s a h = h
  follow-all (x ∷ xs) s a h = follow-all xs (apply x s) a.1 (follow x s a.0 h)

-- A part of a plan that takes no other steps.
abbrev Undoes : (Store → List Step) → Type 0
Undoes part = (s : Store) → All Undoing (part s)

undoes_turns : {A : Type 0} (g : A → Store → List Step) (l : List A) → All (λ a. Undoes (g a)) l → Undoes (in_turn g l)
undoes_turns g [] h s = tt
undoes_turns g (a ∷ l) h s = all_append Undoing (g a s) (in_turn g l (apply_all (g a s) s)) (h.0 s) (undoes_turns g l h.1 (apply_all (g a s) s))

undoes-walk : {A : Type 0} (g : A → Store → List Step) (listing : Store → List A) → ((a : A) → Undoes (g a)) → Undoes (λ s. in_turn g (listing s) s)
undoes-walk g listing h s = undoes_turns g (listing s) (all_every h (listing s)) s

if_present_lem : {A : Type 0} (l : List Step) (q : Option A) → All Undoing l → All Undoing (if_present q l)
if_present_lem l none a = tt
if_present_lem l (some x) a = a

if_missing_lem : {A : Type 0} (l : List Step) (q : Option A) → All Undoing l → All Undoing (if_missing q l)
if_missing_lem l none a = a
if_missing_lem l (some x) a = tt

unless : (t : Bool) (l : List Step) → All Undoing l → All Undoing (if t then [] else l)
unless true l a = tt
unless false l a = a

if_empty_lem : (c : Name) (l : List Name) → All Undoing (if_empty l (remove_directory c ∷ []) [])
if_empty_lem c [] = (tt, tt)
if_empty_lem c (f ∷ l) = tt

undoes-undo : (o : Op) → Undoes (undo_steps o)
unfolding undo_steps
undoes-undo (write w) s = unless (stood w) _ (if_present_lem _ (look (target w) s.tree) (if_missing_lem _ (look (backup w) s.tree) (tt, tt)))
undoes-undo (delete c k) s = tt
undoes-undo (delete_all c) s = tt
undoes-undo (create_collection c) s = if_present_lem _ (look (c, []) s.tree) (if_empty_lem c (files c s.tree))
undoes-undo (delete_collection c) s = tt
undoes-undo (copy_collection a b existed) s = unless existed _ (if_present_lem _ (look (b, []) s.tree) (if_missing_lem _ (look (backup_name b, []) s.tree) (tt, tt)))

undoes-restore_file : (d f : Name) → Undoes (restore_file d f)
unfolding restore_file
undoes-restore_file d f s = go (original_name f) refl
  where
    go : (q : Option Name) → original_name f ≡ q →
        All Undoing (case_option q (if_present (strip_tmp f) (remove_file d f ∷ [])) λ g. if_present (look (d, g) s.tree) (remove_file d g ∷ []) ++ rename_file d f g ∷ [])
    go none e = if_present_lem (remove_file d f ∷ []) (strip_tmp f) (tt, tt)
    go (some g) e =
        all_append Undoing (if_present (look (d, g) s.tree) (remove_file d g ∷ [])) (rename_file d f g ∷ [])
        (if_present_lem (remove_file d g ∷ []) (look (d, g) s.tree) (tt, tt)) (original-named f g e, tt)

undoes-restore_directory : (d : Name) → Undoes (restore_directory d)
unfolding restore_directory
undoes-restore_directory d s = go (original_name d) refl
  where
    go : (q : Option Name) → original_name d ≡ q →
        All Undoing (case_option q (in_turn (restore_file d) (files d s.tree) s) λ g. if_present (look (g, []) s.tree) (remove_directory g ∷ []) ++ rename_directory d g ∷ [])
    go none e = undoes-walk (restore_file d) (λ u. files d u.tree) (undoes-restore_file d) s
    go (some g) e =
        all_append Undoing (if_present (look (g, []) s.tree) (remove_directory g ∷ [])) (rename_directory d g ∷ [])
        (if_present_lem (remove_directory g ∷ []) (look (g, []) s.tree) (tt, tt)) ((λ z. backup-apart g (sym z ∙ original-some d g e)), tt)

undoes_remove_in : (d : Name) → Undoes (remove_backups_in d)
unfolding remove_backups_in remove_backup_file
undoes_remove_in d s = go (original_name d)
  where
    go : (q : Option Name) → All Undoing (case_option q (in_turn (remove_backup_file d) (files d s.tree) s) λ g. remove_directory d ∷ [])
    go none = undoes-walk (remove_backup_file d) (λ u. files d u.tree) (λ f u. if_present_lem (remove_file d f ∷ []) (original_name f) (tt, tt)) s
    go (some g) = (tt, tt)

undoes_remove : Undoes remove_backups
undoes_remove = undoes-walk remove_backups_in (λ s. dirs s.tree) undoes_remove_in

undoes_unstage : Undoes remove_staging_files
undoes_unstage s = go (staging_names s.staging)
  where
    go : (l : List Name) → All Undoing (map remove_staging l)
    go [] = tt
    go (f ∷ l) = (tt, go l)

undoes_unlog : Undoes (λ s. remove_log ∷ [])
undoes_unlog s = (tt, tt)

-- Recovery, whatever the log: such parts, and behind them every staging file goes.
record Front (j : Journal) : Type 0 where
  parts : List (Store → List Step)
  undo : All Undoes parts
  behind : recover_parts j ≡ parts ++ remove_staging_files ∷ []

front : (j : Journal) → Front j
front absent = record { parts = remove_backups ∷ remove_standing_log ∷ []; undo = (undoes_remove, ((λ s. if_present_lem (remove_log ∷ []) s.log (tt, tt)), tt)); behind = refl }
front (recording o e) = record { parts = (λ s. remove_log ∷ []) ∷ []; undo = (undoes_unlog, tt); behind = refl }
front (committing o whole) = record {
  parts = in_turn undo_steps (reverse o) ∷ restore_backups ∷ (λ s. remove_log ∷ []) ∷ [];
  undo = (undoes_turns undo_steps (reverse o) (all_every undoes-undo (reverse o)), (undoes-walk restore_directory (λ s. dirs s.tree) undoes-restore_directory, (undoes_unlog, tt)));
  behind = refl;
}
front (committing o (truncated c)) = record { parts = (λ s. remove_log ∷ []) ∷ []; undo = (undoes_unlog, tt); behind = refl }
front (committing o undecodable) = record { parts = (λ s. remove_log ∷ []) ∷ []; undo = (undoes_unlog, tt); behind = refl }
front (committing o too_many) = record { parts = (λ s. remove_log ∷ []) ∷ []; undo = (undoes_unlog, tt); behind = refl }
front (held o e) = record { parts = []; undo = tt; behind = refl }

module _ (z : ℕ) where
  abbrev Ends : (Store → List Step) → Store → Type 0
  Ends plan s = let u : Store = apply_all (plan s) s in Followed z u × (u.staging ≡ [])

  emptied : (parts : List (Store → List Step)) → All Undoes parts → (s : Store) → Followed z s → Ends (in_sequence (parts ++ remove_staging_files ∷ [])) s
  emptied [] a s h = (
    follow-all z (remove_staging_files s ++ []) s (all_append Undoing (remove_staging_files s) [] (undoes_unstage s) tt) h,
    ap (λ (u : Store). u.staging) (apply_all_append (remove_staging_files s) [] s ∙ staging-gone s h.bare),
  )
  emptied (p ∷ parts) a s h =
      let u : Store = apply_all (p s) s in
      rw (apply_all_append (p s) (in_sequence (parts ++ remove_staging_files ∷ []) u) s) (emptied parts a.1 u (follow-all z (p s) s (a.0 s) h))

  recover-ends : (j : Journal) (s : Store) → Followed z s → Ends (in_sequence (recover_parts j)) s
  recover-ends j s h = let f = front j in rw f.behind (emptied f.parts f.undo s h)

  -- The law: a number that stands at most at one place before recovery, revert or keep stands at most at one behind it. The first two leave no staging
  -- file.
  unmarked : (s : Store) → Followed z s → Followed z (without_mark s)
  unmarked s h = follow-same z s (without_mark s) refl refl h

  pub recovered-follows : (s : Store) → Followed z s → Followed z (recovered s) × ((recovered s).staging ≡ [])
  unfolding recovered recover_plan
  recovered-follows s h = recover-ends (journal s.log) (without_mark s) (unmarked s h)

  pub reverted-follows : (s : Store) → Followed z s → Followed z (reverted s) × ((reverted s).staging ≡ [])
  unfolding reverted revert_plan
  reverted-follows s h = recover-ends (unheld (journal s.log)) (without_mark s) (unmarked s h)

  pub kept-follows : (s : Store) → Followed z s → Followed z (kept s)
  unfolding kept keep_plan
  kept-follows s h =
      let parts : List (Store → List Step) = (λ u. remove_log ∷ sync_journal ∷ []) ∷ remove_backups ∷ [] in
      follow-all z (keep_plan (without_mark s)) (without_mark s) (undoes_turns run parts ((λ u. (tt, (tt, tt))), (undoes_remove, tt)) (without_mark s)) (unmarked s h)

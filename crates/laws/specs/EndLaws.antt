-- What a commit leaves that meets no failing step, with either end; what keep makes of a held one.
use Rattle.std.specs.Prelude.{◌≡◌, ℕ, ◌-◌, List, [], ◌∷◌, ◌++◌, map, false, length, take}
use Rattle.std.proofs.Math.Path.{refl}
use Rattle.std.proofs.Common.{sym, ◌∙◌, ap, arith}
use Rattle.std.proofs.Math.Option.{Option, none, some}
use Rattle.std.proofs.Math.Seq.{take-length}
use Rattle.basics.specs.Order.{Name}
use Rattle.basics.specs.Map.{Map, look, del}
use Rattle.basics.specs.Name.{original_name, backup_name}
use Rattle.basics.specs.Base.{case_option, if_present, if_missing}
use Rattle.model.specs.Operation.{Op, write, delete, delete_all, create_collection, delete_collection, copy_collection, target}
use Rattle.model.specs.Log.{journal, ops_of, recording, held, whole}
use Rattle.model.specs.Store.{Store, staging_key, staging_names, dirs, files}
use Rattle.model.specs.Step.{Step, make_directory, rename_file, move_staged, rename_directory, copy_file, remove_file, remove_directory, remove_dir, remove_staging}
use Rattle.model.specs.Step.{sync_directory, rewrite_header, hold_header, sync_staging, sync_log, remove_log, sync_journal, marked, marked_held, with_tree, apply}
use Rattle.model.specs.Step.{apply_all, Fault}
use Rattle.model.specs.Plan.{in_turn, run, op_steps, remove_backup_file, remove_backups_in, remove_backups, remove_staging_files, operation_steps, sync_existing}
use Rattle.model.specs.Plan.{first_namings, collection_of, commit_fault, commit_parts, commit_end, hold_end, plan_ending, ending_at, commit_plan, committed_at, hold_plan}
use Rattle.model.specs.Plan.{held_at, without_mark, without_mark_at_end, keep_plan, kept}
use Rattle.laws.specs.StoreLaws.{Bare}
use Rattle.laws.specs.Listings.{dels, dels-all}
use Rattle.laws.specs.LogLaws.{mark-journal, hold-journal}
use Rattle.laws.specs.Runs.{apply_all_append, run_over, apply_all-in_turn}

-- Emptying the staging folder.
abbrev pub with_staging : Map → Store → Store
with_staging m s = record { tree = s.tree; staging = m; log = s.log; open_mark = s.open_mark }

abbrev pub unstaged : Map → Map
unstaged m = dels (map staging_key (staging_names m)) m

pub unstages : (s : Store) → apply_all (remove_staging_files s) s ≡ with_staging (unstaged s.staging) s
unfolding apply
unstages s = go (staging_names s.staging) s
  where
    go : (l : List Name) (s : Store) → apply_all (map remove_staging l) s ≡ with_staging (dels (map staging_key l) s.staging) s
    go [] s = refl
    go (f ∷ l) s = go l (apply (remove_staging f) s)

pub staging-gone : (s : Store) → Bare s.staging → apply_all (remove_staging_files s) s ≡ with_staging [] s
staging-gone s b = unstages s ∙ ap (λ (m : Map). with_staging m s) (dels-all s.staging b)

-- A part of a plan that looks at the tree alone, and changes it alone.
record TreePart (g : Store → List Step) : Type 0 where
  after : Map → Map
  does : (u : Store) → apply_all (g u) u ≡ with_tree (after u.tree) u

over-list : {A : Type 0} (g : A → Store → List Step) → ((a : A) → TreePart (g a)) → (l : List A) → TreePart (in_turn g l)
over-list g h [] = record { after = λ t. t; does = λ u. refl }
over-list g h (a ∷ l) =
    let r = over-list g h l in
    record {
      after = λ t. r.after ((h a).after t);
      does = λ u. apply_all_append (g a u) (in_turn g l (apply_all (g a u) u)) u ∙ ap (λ (v : Store). apply_all (in_turn g l v) v) ((h a).does u)
          ∙ r.does (with_tree ((h a).after u.tree) u);
    }

-- Removing the backups is one.
file-part : (d f : Name) → TreePart (remove_backup_file d f)
unfolding remove_backup_file apply
file-part d f = go (original_name f)
  where
    go : (q : Option Name) → TreePart (λ u. if_present q (remove_file d f ∷ []))
    go none = record { after = λ t. t; does = λ u. refl }
    go (some g) = record { after = λ t. del (d, f) t; does = λ u. refl }

dir-part : (d : Name) → TreePart (remove_backups_in d)
unfolding remove_backups_in apply
dir-part d = go (original_name d)
  where
    in_files : (l : List Name) → TreePart (in_turn (remove_backup_file d) l)
    in_files l = over-list (remove_backup_file d) (file-part d) l

    go : (q : Option Name) → TreePart (λ u. case_option q (in_turn (remove_backup_file d) (files d u.tree) u) (λ g. remove_directory d ∷ []))
    go none = record { after = λ t. (in_files (files d t)).after t; does = λ u. (in_files (files d u.tree)).does u }
    go (some g) = record { after = λ t. remove_dir d t; does = λ u. refl }

in_dirs : (l : List Name) → TreePart (in_turn remove_backups_in l)
in_dirs l = over-list remove_backups_in dir-part l

pub swept : Map → Map
swept t = (in_dirs (dirs t)).after t

pub sweeps : (u : Store) → apply_all (remove_backups u) u ≡ with_tree (swept u.tree) u
unfolding swept
sweeps u = (in_dirs (dirs u.tree)).does u

-- All steps of a commit, with either end.
pub whole-ending : (ends : List (Store → List Step)) (s : Store) →
    ending_at ends (length (plan_ending ends s)) s ≡ without_mark (apply_all (plan_ending ends s) s)
unfolding ending_at
whole-ending ends s = rw (take-length (plan_ending ends s), n_n (length (plan_ending ends s)))
  where
    n_n : (n : ℕ) → n - n ≡ 0
    n_n n = omega arith

-- 02, item 6: "A held commit that fails rolls back as before": its plan has no end of its own, nor has a cut of it.
pub failing-plan : (ends others : List (Store → List Step)) (s : Store) (e : Fault) → commit_fault s ≡ some e → plan_ending ends s ≡ plan_ending others s
unfolding plan_ending
failing-plan ends others s e f =
    let plan : List (Store → List Step) → Option Fault → List Step =
    λ ends q. rewrite_header ∷ in_turn run (commit_parts ends (ops_of (journal s.log)) q) (apply rewrite_header s) in
    ap (plan ends) f ∙ sym (ap (plan others) f)

pub failing-at : (ends others : List (Store → List Step)) (s : Store) (e : Fault) → commit_fault s ≡ some e → (n : ℕ) → ending_at ends n s ≡ ending_at others n s
unfolding ending_at
failing-at ends others s e f n = ap (λ (plan : List Step). without_mark_at_end (length plan - n) (apply_all (take n plan) s)) (failing-plan ends others s e f)

-- A commit without a failing step, up to its end; and behind it.
unfoldable pub up_to_end : Store → Store
up_to_end s =
    let ops : List Op = ops_of (journal s.log) in
    run_over run ((λ s. sync_staging ∷ sync_log ∷ []) ∷ operation_steps ops ∷ in_turn sync_existing (first_namings [] (map collection_of ops)) ∷ [])
    (apply rewrite_header s)

pub whole-plan : (ends : List (Store → List Step)) (s : Store) → commit_fault s ≡ none →
    ending_at ends (length (plan_ending ends s)) s ≡ without_mark (run_over run ends (up_to_end s))
unfolding plan_ending up_to_end
whole-plan ends s f =
    whole-ending ends s ∙ ap without_mark
    (ap (λ (q : Option Fault). apply_all (in_turn run (commit_parts ends (ops_of (journal s.log)) q) (apply rewrite_header s)) (apply rewrite_header s)) f
    ∙ apply_all-in_turn run (commit_parts ends (ops_of (journal s.log)) none) (apply rewrite_header s))

-- What the two ends make of a store, and keep of what the second makes: removing the backups and clearing staging do not touch each other.
abbrev pub committed_store : Store → Store
committed_store v = record { tree = swept v.tree; staging = unstaged v.staging; log = none; open_mark = false }

abbrev pub held_store : Store → Store
held_store v = record { tree = v.tree; staging = unstaged v.staging; log = marked_held v.log; open_mark = false }

commit-ends : (v : Store) → without_mark (run_over run commit_end v) ≡ committed_store v
unfolding apply
commit-ends v =
    let u : Store = apply remove_log v in
    ap without_mark (unstages (apply_all (remove_backups u) u) ∙ ap (λ (x : Store). with_staging (unstaged x.staging) x) (sweeps u))

hold-ends : (v : Store) → without_mark (run_over run hold_end v) ≡ held_store v
unfolding apply
hold-ends v = ap without_mark (unstages (apply hold_header v))

keep-ends : (v : Store) → kept (held_store v) ≡ committed_store v
unfolding kept keep_plan apply
keep-ends v = apply_all-in_turn run ((λ u. remove_log ∷ sync_journal ∷ []) ∷ remove_backups ∷ []) (held_store v) ∙ sweeps (apply remove_log (held_store v))

pub commit-leaves : (s : Store) → commit_fault s ≡ none → committed_at (length (commit_plan s)) s ≡ committed_store (up_to_end s)
commit-leaves s f = whole-plan commit_end s f ∙ commit-ends (up_to_end s)

pub hold-leaves : (s : Store) → commit_fault s ≡ none → held_at (length (hold_plan s)) s ≡ held_store (up_to_end s)
hold-leaves s f = whole-plan hold_end s f ∙ hold-ends (up_to_end s)

-- 02, item 6: "keep gives the ordinary commit's image".
pub keep-held : (s : Store) → commit_fault s ≡ none → kept (held_at (length (hold_plan s)) s) ≡ committed_at (length (commit_plan s)) s
keep-held s f = ap kept (hold-leaves s f) ∙ keep-ends (up_to_end s) ∙ sym (commit-leaves s f)

-- The steps of operations, and the syncs behind them, leave the log.
abbrev LogKept : List Step → Type 0
LogKept xs = (u : Store) → (apply_all xs u).log ≡ u.log

kept_append : (xs ys : List Step) → LogKept xs → LogKept ys → LogKept (xs ++ ys)
kept_append xs ys h k u = ap (λ (v : Store). v.log) (apply_all_append xs ys u) ∙ k (apply_all xs u) ∙ h u

kept_turns : {A : Type 0} (g : A → Store → List Step) → ((a : A) (s : Store) → LogKept (g a s)) → (l : List A) (s : Store) → LogKept (in_turn g l s)
kept_turns g h [] s = λ u. refl
kept_turns g h (a ∷ l) s = kept_append (g a s) (in_turn g l (apply_all (g a s) s)) (h a s) (kept_turns g h l (apply_all (g a s) s))

kept_map : {A : Type 0} (g : A → Step) → ((a : A) → LogKept (g a ∷ [])) → (l : List A) → LogKept (map g l)
kept_map g h [] = λ u. refl
kept_map g h (a ∷ l) = kept_append (g a ∷ []) (map g l) (h a) (kept_map g h l)

kept-present : (q : Option ℕ) (x : Step) → LogKept (x ∷ []) → LogKept (if_present q (x ∷ []))
kept-present none x h = λ u. refl
kept-present (some a) x h = h

kept-missing : (q : Option ℕ) (x : Step) → LogKept (x ∷ []) → LogKept (if_missing q (x ∷ []))
kept-missing none x h = h
kept-missing (some a) x h = λ u. refl

op-kept : (o : Op) (s : Store) → LogKept (op_steps o s)
unfolding op_steps apply
op-kept (write w) s =
    kept_append (mk ++ rn) (move_staged w.staged w.collection w.key ∷ [])
    (kept_append mk rn (kept-missing (look (w.collection, []) s.tree) (make_directory w.collection) (λ u. refl))
    (kept-present (look (target w) s.tree) (rename_file w.collection w.key (backup_name w.key)) (λ u. refl))) (λ u. refl)
  where
    mk : List Step
    mk = if_missing (look (w.collection, []) s.tree) (make_directory w.collection ∷ [])

    rn : List Step
    rn = if_present (look (target w) s.tree) (rename_file w.collection w.key (backup_name w.key) ∷ [])
op-kept (delete c k) s = kept-present (look (c, k) s.tree) (rename_file c k (backup_name k)) (λ u. refl)
op-kept (delete_all c) s = kept_map (λ f. rename_file c f (backup_name f)) (λ f u. refl) (files c s.tree)
op-kept (create_collection c) s = kept-missing (look (c, []) s.tree) (make_directory c) (λ u. refl)
op-kept (delete_collection c) s = kept-present (look (c, []) s.tree) (rename_directory c (backup_name c)) (λ u. refl)
op-kept (copy_collection a b x) s =
    kept_append xs (ys (look (a, []) v.tree) ++ [])
    (kept_append (if_present (look (b, []) s.tree) (rename_directory b (backup_name b) ∷ [])) (make_directory b ∷ [])
    (kept-present (look (b, []) s.tree) (rename_directory b (backup_name b)) (λ u. refl)) (λ u. refl))
    (kept_append (ys (look (a, []) v.tree)) [] (copies (look (a, []) v.tree)) (λ u. refl))
  where
    xs : List Step
    xs = if_present (look (b, []) s.tree) (rename_directory b (backup_name b) ∷ []) ++ make_directory b ∷ []

    v : Store
    v = apply_all xs s

    ys : Option ℕ → List Step
    ys q = case_option q (copy_file a b [] ∷ []) (λ x. map (copy_file a b) (files a v.tree))

    copies : (q : Option ℕ) → LogKept (ys q)
    copies none = λ u. unfold apply in refl
    copies (some x) = kept_map (copy_file a b) (λ f u. unfold apply in refl) (files a v.tree)

-- So the log of a held commit has the transaction's operations.
pub held-log : (s : Store) (ops : List Op) → commit_fault s ≡ none → journal s.log ≡ recording ops whole →
    journal (held_at (length (hold_plan s)) s).log ≡ held ops whole
unfolding up_to_end apply sync_existing
held-log s ops f e =
    ap (λ (u : Store). journal u.log) (hold-leaves s f)
    ∙ hold-journal (up_to_end s).log ops whole (ap journal same ∙ mark-journal s.log ops whole e)
  where
    o : List Op
    o = ops_of (journal s.log)

    u : Store
    u = apply rewrite_header s

    v : Store
    v = apply_all (operation_steps o u) u

    l : List Name
    l = first_namings [] (map collection_of o)

    same : (up_to_end s).log ≡ marked s.log
    same =
        kept_turns sync_existing (λ d u. unfold sync_existing apply in (kept-present (look (d, []) u.tree) (sync_directory d) (λ w. refl))) l v v
        ∙ kept_turns op_steps op-kept o u u

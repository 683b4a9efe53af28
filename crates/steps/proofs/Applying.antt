-- Each arm of `apply`: what it makes of the store is what the step does.
use mathlib.Core.Logic.{◌⊎◌, inl, inr}
use mathlib.Core.Path.{◌≡◌, refl, sym, ap, subst, ◌∙◌}
use Rattle.std.proofs.Math.Option as maths
use Rattle.std.proofs.Math.Option.{none, some}
use Rattle.std.specs.Prelude.{Option, None, Some, option_map}
use Prim.Native.Nat.{ℕ}
use lib.ListN.{take, drop}
use Rattle.basics.specs.Map.{Map, look, put, del}
use Rattle.basics.specs.Base.{Bytes, case_option}
use Rattle.basics.specs.Field.{little_endian}
use Rattle.basics.specs.Status.{status_byte}
use Rattle.basics.specs.declared.Status.{Status}
use Rattle.basics.specs.declared.Status.TheVariants.{Committing, Held}
use Rattle.model.specs.Log.{header, with_status, mark_committing, mark_held}
use Rattle.model.specs.Store as model
use Rattle.model.specs.Step as step
use Rattle.model.specs.Step.{with_tree, remove_dir, rename_dir, apply}
use Rattle.spans.specs.Spans.{name_of}
use Rattle.spans.specs.declared.NameRef.{NameRef}
use Rattle.spans.proofs.Parts.{empty-name}
use Rattle.store.specs.Tables.{map_of, Holds}
use Rattle.store.specs.Stores.{rewritten, log_bytes, store_of, SoundStore, SoundLog}
use Rattle.store.specs.declared.LogRef.{LogRef}
use Rattle.store.specs.declared.Table.{Table}
use Rattle.store.specs.declared.Store.{Store}
use Rattle.steps.specs.declared.Step.{Step}
use Rattle.steps.specs.declared.Step.TheVariants as code
use Rattle.steps.specs.Steps.{step_of, SoundStep, Within, Fits, Allowed, Applied, rewritten_as}
use Rattle.steps.proofs.FileNames.{filled}
use Rattle.steps.proofs.Room.{Named, kept}

-- The empty name, in the place of a directory's file and of a staging file's directory.
abbrev pub empty : NameRef
empty = record { start = 0; len = 0; baks = 0 }

-- What `apply` requires.
abbrev pub Ready : Bytes → Step → Store → Type 0
Ready src x s = (Fits src s × SoundStep src x) × Allowed (step_of src x) (store_of src s)

-- The files that a step makes have names.
named : {src : Bytes} (x : Step) → SoundStep src x → Named (step_of src x)
unfolding step_of
named code.RewriteHeader s = tt
named code.HoldHeader s = tt
named code.SyncStaging s = tt
named code.SyncLog s = tt
named code.RemoveLog s = tt
named code.SyncJournal s = tt
named code.SyncCollections s = tt
named (code.MakeDirectory d) s = tt
named (code.RenameFile d a b) s = (filled s.names.1.0, filled s.names.1.1)
named (code.MoveStaged f d k) s = filled s.names.1.1
named (code.RenameDirectory a b) s = tt
named (code.CopyFile a b f) s = filled s.names.1.1
named (code.RemoveFile d f) s = tt
named (code.RemoveDirectory d) s = tt
named (code.RemoveStaging f) s = tt
named (code.SyncDirectory d) s = tt

module _ {src : Bytes} {x : Step} {s r : Store} (p : Ready src x s) where
  applied : SoundStore src r → store_of src r ≡ apply (step_of src x) (store_of src s) → Applied src x s r
  applied t e = record {
    fits = record {
      sound = t;
      within = subst Within (sym (ap (λ (u : model.Store). u.tree) e)) (kept (step_of src x) (store_of src s) (named x p.0.1) p.1 p.0.0.sound.tree.sorted p.0.0.within);
    };
    same = e;
  }

  -- In the arm of y, where the code made the store u.
  module _ {y : Step} (e : x ≡ y) {u : Store} (f : r ≡ u) where
    in_arm : SoundStore src u → store_of src u ≡ apply (step_of src y) (store_of src s) → Applied src x s r
    in_arm t q = applied (subst (SoundStore src) (sym f) t) (ap (store_of src) f ∙ q ∙ ap (λ (z : Step). apply (step_of src z) (store_of src s)) (sym e))

-- The tree, the staging files or the log changed.
module _ {src : Bytes} {x y : Step} {s : Store} (p : Ready src x s) (e : x ≡ y) where
  tree_arm : {t : Table} (m : Map) → apply (step_of src y) (store_of src s) ≡ with_tree m (store_of src s) → Holds src t m → Applied src x s (record { tree = t; staging = s.staging; log = s.log; open_mark = s.open_mark })
  tree_arm m q h =
      in_arm p e refl (record { tree = h.sound; staging = p.0.0.sound.staging; log = p.0.0.sound.log })
      ((λ i. record { tree = h.same i; staging = map_of src s.staging; log = log_bytes src s.log; open_mark = s.open_mark }) ∙ sym q)

  log_arm : {l : Option LogRef} (o : maths.Option Bytes) → apply (step_of src y) (store_of src s) ≡ record { tree = map_of src s.tree; staging = map_of src s.staging; log = o; open_mark = s.open_mark } → SoundLog src l → log_bytes src l ≡ o
      → Applied src x s (record { tree = s.tree; staging = s.staging; log = l; open_mark = s.open_mark })
  log_arm o q t h =
      in_arm p e refl (record { tree = p.0.0.sound.tree; staging = p.0.0.sound.staging; log = t })
      ((λ i. record { tree = map_of src s.tree; staging = map_of src s.staging; log = h i; open_mark = s.open_mark }) ∙ sym q)

-- The header rewritten once more is that of the last status.
module _ (src : Bytes) (m : Status) where
  again : (bytes : Bytes) (o : Option Status) → with_status (status_byte m) bytes ≡ with_status (status_byte m) (rewritten o bytes)
  unfolding header little_endian
  again bytes None = refl
  again bytes (Some s) = refl

  rewritten-log : (f : maths.Option Bytes → maths.Option Bytes) → f none ≡ none → ((b : Bytes) → f (some b) ≡ some (with_status (status_byte m) b)) → (l : Option LogRef) → log_bytes src (option_map (rewritten_as m) l) ≡ f (log_bytes src l)
  unfolding log_bytes
  rewritten-log f z s None = sym z
  rewritten-log f z s (Some l) = ap some (again (take l.len (drop l.start src)) l.rewritten) ∙ sym (s (rewritten l.rewritten (take l.len (drop l.start src))))

  rewritten_sound : (l : Option LogRef) → SoundLog src l → SoundLog src (option_map (rewritten_as m) l)
  rewritten_sound None s = record { inside = tt }
  rewritten_sound (Some l) s = record { inside = s.inside }

-- The steps, one by one.
module _ {src : Bytes} {x : Step} {s : Store} (p : Ready src x s) where
  module _ {l : Option LogRef} where
    pub marks : x ≡ code.RewriteHeader → l ≡ option_map (rewritten_as Committing) s.log → Applied src x s (record { tree = s.tree; staging = s.staging; log = l; open_mark = s.open_mark })
    unfolding apply step_of mark_committing
    marks e q = rw q (log_arm p e (step.marked (log_bytes src s.log)) refl (rewritten_sound src Committing s.log p.0.0.sound.log) (rewritten-log src Committing step.marked refl (λ b. refl) s.log))

    pub holds : x ≡ code.HoldHeader → l ≡ option_map (rewritten_as Held) s.log → Applied src x s (record { tree = s.tree; staging = s.staging; log = l; open_mark = s.open_mark })
    unfolding apply step_of mark_held
    holds e q = rw q (log_arm p e (step.marked_held (log_bytes src s.log)) refl (rewritten_sound src Held s.log p.0.0.sound.log) (rewritten-log src Held step.marked_held refl (λ b. refl) s.log))

  pub unlogs : x ≡ code.RemoveLog → Applied src x s (record { tree = s.tree; staging = s.staging; log = None; open_mark = s.open_mark })
  unfolding apply step_of log_bytes
  unlogs e = log_arm p e none refl (record { inside = tt }) refl

  abbrev With : Table → Type 0
  With t = Applied src x s (record { tree = t; staging = s.staging; log = s.log; open_mark = s.open_mark })

  module _ {t : Table} where
    pub makes : {d : NameRef} → x ≡ code.MakeDirectory d → Holds src t (put (name_of src d, name_of src empty) 0 (map_of src s.tree)) → With t
    unfolding apply step_of
    makes e h = tree_arm p e _ refl (rw (empty-name src).same at h)

    pub renames : {d a b : NameRef} → x ≡ code.RenameFile d a b
        → Holds src t (case_option (look (name_of src d, name_of src a) (map_of src s.tree)) (map_of src s.tree) (λ v. put (name_of src d, name_of src b) v (del (name_of src d, name_of src a) (map_of src s.tree)))) → With t
    unfolding apply step_of
    renames e h = tree_arm p e _ refl h

    pub renames-dir : {a b : NameRef} → x ≡ code.RenameDirectory a b → Holds src t (rename_dir (name_of src a) (name_of src b) (map_of src s.tree) (map_of src s.tree)) → With t
    unfolding apply step_of
    renames-dir e h = tree_arm p e _ refl h

    pub copies : {a b g : NameRef} {o : maths.Option ℕ} → x ≡ code.CopyFile a b g → o ≡ look (name_of src a, name_of src g) (map_of src s.tree)
        → Holds src t (case_option o (map_of src s.tree) (λ v. put (name_of src b, name_of src g) v (map_of src s.tree))) → With t
    unfolding apply step_of
    copies e l h = tree_arm p e _ refl (rw l at h)

    pub removes : {d g : NameRef} → x ≡ code.RemoveFile d g → Holds src t (del (name_of src d, name_of src g) (map_of src s.tree)) → With t
    unfolding apply step_of
    removes e h = tree_arm p e _ refl h

    pub removes-dir : {d : NameRef} → x ≡ code.RemoveDirectory d → Holds src t (remove_dir (name_of src d) (map_of src s.tree)) → With t
    unfolding apply step_of
    removes-dir e h = tree_arm p e _ refl h

  pub unstages : {t : Table} {g : NameRef} → x ≡ code.RemoveStaging g → Holds src t (del (name_of src empty, name_of src g) (map_of src s.staging)) → Applied src x s (record { tree = s.tree; staging = t; log = s.log; open_mark = s.open_mark })
  unfolding apply step_of
  unstages e h =
      in_arm p e refl (record { tree = p.0.0.sound.tree; staging = h.sound; log = p.0.0.sound.log })
      (λ i. record { tree = map_of src s.tree; staging = (rw (empty-name src).same at h.same) i; log = log_bytes src s.log; open_mark = s.open_mark })

  -- A staging file moved: first the tree, then the staging files.
  pub moves : {t u : Table} {g d k : NameRef} {o : maths.Option ℕ} → x ≡ code.MoveStaged g d k → o ≡ look (name_of src empty, name_of src g) (map_of src s.staging)
      → Holds src t (case_option o (map_of src s.tree) (λ v. put (name_of src d, name_of src k) v (map_of src s.tree)))
      → Holds src u (del (name_of src empty, name_of src g) (map_of src s.staging)) → Applied src x s (record { tree = t; staging = u; log = s.log; open_mark = s.open_mark })
  unfolding apply step_of
  moves e l h k =
      in_arm p e refl (record { tree = h.sound; staging = k.sound; log = p.0.0.sound.log })
      (λ i. record { tree = (rw (l, (empty-name src).same) at h.same) i; staging = (rw (empty-name src).same at k.same) i; log = log_bytes src s.log; open_mark = s.open_mark })

-- "Syncs change nothing here."
module _ {src : Bytes} {x : Step} {s : Store} (p : Ready src x s) where
  idles : (y : Step) → x ≡ y → store_of src s ≡ apply (step_of src y) (store_of src s) → Applied src x s s
  idles y e q = in_arm p e refl p.0.0.sound q

  pub syncs : x ≡ code.SyncStaging ⊎ (x ≡ code.SyncLog ⊎ (x ≡ code.SyncJournal ⊎ (x ≡ code.SyncCollections ⊎ ((d : NameRef) × (x ≡ code.SyncDirectory d))))) → Applied src x s s
  unfolding apply step_of
  syncs (inl e) = idles _ e refl
  syncs (inr (inl e)) = idles _ e refl
  syncs (inr (inr (inl e))) = idles _ e refl
  syncs (inr (inr (inr (inl e)))) = idles _ e refl
  syncs (inr (inr (inr (inr w)))) = idles (code.SyncDirectory w.0) w.1 refl

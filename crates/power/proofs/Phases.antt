-- Where a store stands between a commit's start and the end of its recovery, through kills and losses of power: what could be found in each area.
use Rattle.std.specs.Prelude.{◌≡◌, refl, List, [], ◌∷◌, ◌++◌, reverse, Bool, true, false, ◌⊎◌}
use Rattle.std.proofs.Common.{sym, ◌∙◌, ap, subst, inl, inr}
use Rattle.std.proofs.Math.Option.{Option, none, some}
use Rattle.std.proofs.lemmas.Bool.{false≢true}
use Rattle.basics.specs.Order.{Name}
use Rattle.basics.specs.Map.{Map, look}
use Rattle.basics.specs.Base.{Bytes, In, is_some}
use Rattle.basics.specs.Name.{backup_name, original_name}
use Rattle.model.specs.Operation.{Op, write, delete, delete_all, create_collection, delete_collection, copy_collection}
use Rattle.model.specs.Log.{committing, journal, whole}
use Rattle.model.specs.Store.{Store}
use Rattle.model.specs.Step.{Step, sync_log, apply_all}
use Rattle.model.specs.Plan.{collection_of}
use Rattle.basic_laws.specs.MapLaws.{Sorted, none≢some, ext}
use Rattle.basic_laws.specs.NameLaws.{original-nil, original-backup}
use Rattle.basic_laws.specs.Tests.{nil≢cons}
use Rattle.laws.specs.Listings.{any-find, any_unreverse}
use Rattle.laws.specs.LogLaws.{committed-stands}
use Rattle.laws.specs.Runs.{Runs}
use Rattle.cut_rule.specs.Kinds.{Marked}
use Rattle.cut_rule.proofs.StoreRule.{Within, OldTree, old-dir, OpGood, AllGood}
use Rattle.cut_rule.proofs.Walk.{Through}
use Rattle.cut_rule.proofs.Files.{FileState, kept, new, backed, BackupState, name-apart, file-eq}
use Rattle.cut_rule.proofs.Directories.{contents, MakesFile, MakesDir, NewFile, NewDir, FilesIn, DirState, within, fresh, moved, Inv, within-empty}
use Rattle.cut_rule.proofs.Clean.{Tidy}
use Rattle.cut_rule.proofs.Heal.{Ended}
use Rattle.power.specs.Loss.{Area, collections_area, journal_area, log_area, files_area, Left, Survives, InPlace, AllInPlace}
use Rattle.power.proofs.Could.{in_left_lem, Could, could_nil, could_map, Coulds, Goes, goes-run}
use Rattle.power.proofs.Stays.{Flat, PlainName}
use Rattle.power.proofs.Torn.{Idle, Whole, torn-idle}

-- The operations of a commit, the tree from before, and the one that is to come.
pub record Case (ops : List Op) (o f : Map) : Type 0 where
  pub old : OldTree o
  pub good : AllGood o ops
  pub in_place : AllInPlace ops
  pub marked : Marked ops
  pub tidy : Tidy f
  pub same_dirs : (d : Name) → PlainName d → look (d, []) f ≡ look (d, []) o

-- The collection of an operation has a plain name.
pub plain_of : (o : Map) (a : Op) → InPlace a → OpGood o a → PlainName (collection_of a)
plain_of o (write w) p g = g.key.dir
plain_of o (delete c k) p g = g.dir
plain_of o (delete_all c) p g = g.dir
plain_of o (create_collection c) p g = absurd p
plain_of o (delete_collection c) p g = absurd p
plain_of o (copy_collection a b x) p g = absurd p

-- Names of two trees: the collections, the files of one of them, those with plain names.
abbrev pub SameDirs : Map → Map → Type 0
SameDirs p t = (d : Name) → look (d, []) t ≡ look (d, []) p

abbrev pub SameFiles : Map → Name → Map → Type 0
SameFiles p d t = (k : Name) → look (d, k) t ≡ look (d, k) p

abbrev pub PlainDirs : Map → Map → Type 0
PlainDirs p t = (d : Name) → PlainName d → look (d, []) t ≡ look (d, []) p

abbrev pub PlainFiles : Map → Name → Map → Type 0
PlainFiles p d t = (k : Name) → PlainName d → PlainName k → look (d, k) t ≡ look (d, k) p

-- What was done can be undone, in the collections from before.
pub record Undone (ops : List Op) (o t : Map) : Type 0 where
  pub inv : Inv o (reverse ops) t
  pub flat : Flat t

-- Recovery gives u the tree from before, o: a Committing log is undone; or the log is gone, and o stands; or o stands, and the log makes recovery do nothing.
pub data Mends (ops : List Op) (o : Map) (u : Store) : Type 0 where
  undoes : Undone ops o u.tree → journal u.log ≡ committing ops whole → Mends ops o u
  gone : Ended o u → Mends ops o u
  idle : u.tree ≡ o → Idle ops (journal u.log) → Mends ops o u

module _ {ops : List Op} {o f : Map} (C : Case ops o f) where
  no-file : (d : Name) → NewFile (reverse ops) d [] → ⊥
  no-file d r = let z = any-find (MakesFile (d, [])) ops (any_unreverse (MakesFile (d, [])) ops r) in go z.0 (C.good z.0 z.1) z.2
    where
      go : (a : Op) → OpGood o a → MakesFile (d, []) a → ⊥
      go (write w) g e = g.key.named (sym (file-eq e))
      go (delete c k) g e = e
      go (delete_all c) g e = e
      go (create_collection c) g e = e
      go (delete_collection c) g e = e
      go (copy_collection a b x) g e = e

  no-dir : (t : Map) (d : Name) → NewDir (reverse ops) t d → ⊥
  no-dir t d r = let z = any-find (MakesDir t d) ops (any_unreverse (MakesDir t d) ops r) in go z.0 (C.in_place z.0 z.1) z.2
    where
      go : (a : Op) → InPlace a → MakesDir t d a → ⊥
      go (write w) g e = e
      go (delete c k) g e = e
      go (delete_all c) g e = e
      go (create_collection c) g e = g
      go (delete_collection c) g e = e
      go (copy_collection a b x) g e = g

  undone-files : (t : Map) → Undone ops o t → (d : Name) → PlainName d → FilesIn o (reverse ops) d t
  undone-files t u d p = go (u.inv.states d p)
    where
      go : DirState o (reverse ops) t d → FilesIn o (reverse ops) d t
      go (within i z) = i
      go (fresh r i z) = absurd (no-dir t d r)
      go (moved e q h y) = none≢some (sym (u.flat e [] d q) ∙ y [] ∙ h.1)

  pub undone-dirs : (t : Map) → Undone ops o t → SameDirs o t
  undone-dirs t u d = go (original_name d) refl
    where
      at : FileState (contents d o) (NewFile (reverse ops) d) (contents d t) [] → look (d, []) t ≡ look (d, []) o
      at (kept q) = q
      at (new r q) = absurd (no-file d r)
      at (backed n a q) = absurd (n refl)

      go : (q : Option Name) → original_name d ≡ q → look (d, []) t ≡ look (d, []) o
      go none p = at ((undone-files t u d p).plain [] original-nil)
      go (some g) p = u.flat d [] g p ∙ sym (old-dir C.old d [] g p)

  -- A collection that did not stand has no files.
  pub undone-empty : (t : Map) → Undone ops o t → (d : Name) → look (d, []) o ≡ none → SameFiles o d t
  undone-empty t u d e k = within-empty t d u.inv.inside (undone-dirs t u d ∙ e) k ∙ sym (within-empty o d C.old.within e k)

  -- Where the files of each collection are those of a tree that can be undone, the whole can be.
  mixed : (t : Map) → Sorted t → Within t → SameDirs o t →
      ((d : Name) → (u : Map) × Undone ops o u × ((k : Name) → (k ≡ [] → ⊥) → look (d, k) t ≡ look (d, k) u)) → Undone ops o t
  mixed t so inside dirs each = record {
    inv = record {
      sorted = so;
      inside = inside;
      states = λ d p. within (record { plain = plain d p; backups = backups d p }) (λ e k q. flat e k d q);
      dirs_once = λ d g h p q k. flat d k g p;
      files_once = λ d n g h p q. (each d).2 n (λ z. name-apart original-nil p (sym z)) ∙ (each d).1.inv.files_once d n g h p q;
    };
    flat = flat;
  }
    where
      flat : Flat t
      flat e k g p = within-empty t e inside (dirs e ∙ old-dir C.old e [] g p) k

      like : (d : Name) → (k : Name) → (k ≡ [] → ⊥) → FileState (contents d o) (NewFile (reverse ops) d) (contents d (each d).0) k →
          FileState (contents d o) (NewFile (reverse ops) d) (contents d t) k
      like d k n (kept q) = kept ((each d).2 k n ∙ q)
      like d k n (new r q) = new r q
      like d k n (backed m a q) = backed m a ((each d).2 (backup_name k) (λ z. name-apart original-nil (original-backup k m) (sym z)) ∙ q)

      plain : (d : Name) → PlainName d → (k : Name) → original_name k ≡ none → FileState (contents d o) (NewFile (reverse ops) d) (contents d t) k
      plain d p [] q = kept (dirs d)
      plain d p (x ∷ xs) q = like d (x ∷ xs) (λ z. nil≢cons (sym z)) ((undone-files (each d).0 (each d).1 d p).plain (x ∷ xs) q)

      backups : (d : Name) → PlainName d → (n g : Name) → original_name n ≡ some g → BackupState (contents d o) (contents d t) n g
      backups d p n g q = go ((undone-files (each d).0 (each d).1 d p).backups n g q)
        where
          e : look (d, n) t ≡ look (d, n) (each d).0
          e = (each d).2 n (λ z. name-apart original-nil q (sym z))

          go : BackupState (contents d o) (contents d (each d).0) n g → BackupState (contents d o) (contents d t) n g
          go (inl z) = inl (e ∙ z)
          go (inr z) = inr (z.0, e ∙ z.1)

  -- s: what was on the disk; appended: whether its log may be torn.
  module _ (appended : Bool) (s : Store) where
    -- Resting: every collection is as before, whatever of the log is found.
    abbrev pub LogRests : Store → Type 0
    LogRests u = (u.log ≡ none) ⊎ (Idle ops (journal u.log) × (appended ≡ true → Whole ops (journal u.log)))

    abbrev pub Still : Store → Type 0
    Still u = (u.tree ≡ o) × LogRests u

    abbrev pub Resting : Area → Store → Type 0
    Resting collections_area u = SameDirs o u.tree
    Resting journal_area u = Unit {0}
    Resting log_area u = LogRests u
    Resting (files_area d) u = SameFiles o d u.tree

    -- Working: the log is found, Committing, and every collection can be undone.
    abbrev pub Committing : Store → Type 0
    Committing u = journal u.log ≡ committing ops whole

    abbrev pub Under : Store → Type 0
    Under u = Undone ops o u.tree × Committing u

    abbrev pub Working : Area → Store → Type 0
    Working collections_area u = Undone ops o u.tree
    Working journal_area u = is_some u.log ≡ true
    Working log_area u = Committing u
    Working (files_area d) u = Undone ops o u.tree

    -- Removed: every collection can be undone, and is done. The log is found, Committing, or not.
    abbrev pub LogGoes : Store → Type 0
    LogGoes u = (u.log ≡ none) ⊎ Committing u

    abbrev pub Removed : Area → Store → Type 0
    Removed collections_area u = Undone ops o u.tree
    Removed journal_area u = Unit {0}
    Removed log_area u = LogGoes u
    Removed (files_area d) u = Undone ops o u.tree × PlainFiles f d u.tree

    -- Over: the log is not found, and every collection is done.
    abbrev pub Over : Area → Store → Type 0
    Over collections_area u = PlainDirs f u.tree
    Over journal_area u = u.log ≡ none
    Over log_area u = Unit {0}
    Over (files_area d) u = PlainFiles f d u.tree

    -- The log was synced, if it was appended to.
    abbrev pub LogSynced : List Step → Type 0
    LogSynced done = appended ≡ true → In sync_log done

    abbrev pub Free : List Step → Type 0
    Free done = Unit {0}

    abbrev pub Rests : List Step → Store → Type 0
    Rests = Goes s Resting Still Free

    abbrev pub Works : List Step → Store → Type 0
    Works = Goes s Working Under LogSynced

    abbrev pub Removes : List Step → Store → Type 0
    Removes = Goes s Removed (Ended f) LogSynced

    abbrev pub Overs : List Step → Store → Type 0
    Overs = Goes s Over (Ended f) Free

    pub data Phase (done : List Step) (u : Store) : Type 0 where
      resting : Rests done u → Phase done u
      working : Works done u → Phase done u
      removed : Removes done u → Phase done u
      over : Overs done u → Phase done u

    -- What is known of a store tells what is known of each of its areas; and steps stay in a phase.
    pub still-rests : (v : Store) → Still v → (a : Area) → Resting a v
    still-rests v h collections_area = λ d. ap (look (d, [])) h.0
    still-rests v h journal_area = tt
    still-rests v h log_area = h.1
    still-rests v h (files_area d) = λ k. ap (look (d, k)) h.0

    under-works : (v : Store) → Under v → (a : Area) → Working a v
    under-works v h collections_area = h.0
    under-works v h journal_area = committed-stands v.log ops whole h.1
    under-works v h log_area = h.1
    under-works v h (files_area d) = h.0

    pub ended-over : (v : Store) → Ended f v → (a : Area) → Over a v
    ended-over v h collections_area = λ d p. h.agrees d [] p original-nil
    ended-over v h journal_area = h.same
    ended-over v h log_area = tt
    ended-over v h (files_area d) = λ k p q. h.agrees d k p q

    pub rest-run : (done xs : List Step) (u : Store) → Rests done u → Through Still xs u → Runs Rests done xs u
    rest-run done xs u g h = goes-run s Resting Still Free still-rests (λ x y k. tt) done xs u g h

    pub work-run : (done xs : List Step) (u : Store) → Works done u → Through Under xs u → Runs Works done xs u
    work-run done xs u g h = goes-run s Working Under LogSynced under-works (λ x y k e. in_left_lem sync_log x (y ∷ []) (k e)) done xs u g h

    pub over-run : (done xs : List Step) (u : Store) → Overs done u → Through (Ended f) xs u → Runs Overs done xs u
    over-run done xs u g h = goes-run s Over (Ended f) Free ended-over (λ x y k. tt) done xs u g h

    -- At the start nothing is lost.
    pub start-rests : Still s → Rests [] s
    start-rests h = (λ a. could_nil s a (Resting a) (still-rests s h a), h, refl, tt)

    pub start-works : appended ≡ false → Under s → Works [] s
    start-works e h = (λ a. could_nil s a (Working a) (under-works s h a), h, refl, λ z. absurd (false≢true (sym e ∙ z)))

    pub start-over : Ended f s → Overs [] s
    start-over h = (λ a. could_nil s a (Over a) (ended-over s h a), h, refl, tt)

    -- What is found after a loss.
    module _ (done : List Step) (t : Store) (so : Sorted t.tree) (inside : Within t.tree) (v : Survives appended done s t) where
      at : (a : Area) (P Q : Store → Type 0) (l : Left a P done s) → Could s a Q done → Q (apply_all l.kept s)
      at a P Q l c = c l.kept l.lost l.split l.unsynced

      abbrev DirsFound : Store → Type 0
      DirsFound u = (d : Name) → look (d, []) t.tree ≡ look (d, []) u.tree

      abbrev FilesFound : Name → Store → Type 0
      FilesFound d u = (k : Name) → (k ≡ [] → ⊥) → look (d, k) t.tree ≡ look (d, k) u.tree

      dirs-at : (Q : Store → Type 0) → Could s collections_area Q done → Q (apply_all v.directories.kept s)
      dirs-at Q c = at collections_area DirsFound Q v.directories c

      files-at : (d : Name) (Q : Store → Type 0) → Could s (files_area d) Q done → Q (apply_all (v.files d).kept s)
      files-at d Q c = at (files_area d) (FilesFound d) Q (v.files d) c

      same-dirs : Could s collections_area (λ u. SameDirs o u.tree) done → SameDirs o t.tree
      same-dirs c d = v.directories.found d ∙ dirs-at (λ u. SameDirs o u.tree) c d

      abbrev Torn : Bytes → Store → Type 0
      Torn l u = (rest : Bytes) × (u.log ≡ some (l ++ rest))

      found-resting : Coulds s Resting done → Mends ops o t
      found-resting c = go t.log refl
        where
          each : (d k : Name) → look (d, k) t.tree ≡ look (d, k) o
          each d [] = same-dirs (c collections_area) d
          each d (x ∷ xs) = (v.files d).found (x ∷ xs) (λ z. nil≢cons (sym z)) ∙ files-at d (λ u. SameFiles o d u.tree) (c (files_area d)) (x ∷ xs)

          tree : t.tree ≡ o
          tree = ext t.tree o so C.old.sorted (λ k. each k.0 k.1)

          as_was : (l : Bytes) → t.log ≡ some l → (h : Left log_area (λ u. u.log ≡ some l) done s) → LogRests (apply_all h.kept s) → Mends ops o t
          as_was l e h (inl n) = none≢some (sym n ∙ h.found)
          as_was l e h (inr i) = idle tree (subst (λ (q : Option Bytes). Idle ops (journal q)) (h.found ∙ sym e) i.0)

          torn : (l : Bytes) → t.log ≡ some l → appended ≡ true → (h : Left log_area (Torn l) done s) → LogRests (apply_all h.kept s) → Mends ops o t
          torn l e a h (inl n) = none≢some (sym n ∙ h.found.1)
          torn l e a h (inr i) =
              idle tree (subst (λ (q : Option Bytes). Idle ops (journal q)) (sym e)
              (torn-idle l h.found.0 ops (subst (λ (q : Option Bytes). Whole ops (journal q)) h.found.1 (i.1 a))))

          some-log : (l : Bytes) → t.log ≡ some l →
              Left log_area (λ u. u.log ≡ some l) done s ⊎ ((appended ≡ true) × (In sync_log done → ⊥) × Left log_area (Torn l) done s) → Mends ops o t
          some-log l e (inl h) = as_was l e h (at log_area (λ u. u.log ≡ some l) LogRests h (c log_area))
          some-log l e (inr h) = torn l e h.0 h.2 (at log_area (Torn l) LogRests h.2 (c log_area))

          go : (q : Option Bytes) → t.log ≡ q → Mends ops o t
          go none e = gone record { same = e; sorted = so; inside = inside; agrees = λ d k a b. each d k }
          go (some l) e = some-log l e (v.content l e)

      -- The log is found, and was synced: what was done can be undone.
      found-log : (l : Bytes) → t.log ≡ some l → (appended ≡ true → In sync_log done) → ((d : Name) → Could s (files_area d) (λ u. Undone ops o u.tree) done) →
          Could s collections_area (λ u. Undone ops o u.tree) done → Could s log_area LogGoes done → Mends ops o t
      found-log l e w files dirs log = go (v.content l e)
        where
          undone : Undone ops o t.tree
          undone =
              mixed t.tree so inside
              (same-dirs (could_map s collections_area (λ u. Undone ops o u.tree) (λ u. SameDirs o u.tree) done (λ u i. undone-dirs u.tree i) dirs))
              (λ d. ((apply_all (v.files d).kept s).tree, files-at d (λ u. Undone ops o u.tree) (files d), (v.files d).found))

          as_was : (h : Left log_area (λ u. u.log ≡ some l) done s) → LogGoes (apply_all h.kept s) → Mends ops o t
          as_was h (inl n) = none≢some (sym n ∙ h.found)
          as_was h (inr j) = undoes undone (ap journal (e ∙ sym h.found) ∙ j)

          go : Left log_area (λ u. u.log ≡ some l) done s ⊎ ((appended ≡ true) × (In sync_log done → ⊥) × Left log_area (Torn l) done s) → Mends ops o t
          go (inl h) = as_was h (at log_area (λ u. u.log ≡ some l) LogGoes h log)
          go (inr h) = absurd (h.1 (w h.0))

      found-done : t.log ≡ none → ((d : Name) → Could s (files_area d) (λ u. PlainFiles f d u.tree) done) →
          Could s collections_area (λ u. PlainDirs f u.tree) done → Ended f t
      found-done e files dirs = record { same = e; sorted = so; inside = inside; agrees = agrees }
        where
          agrees : (d k : Name) → original_name d ≡ none → original_name k ≡ none → look (d, k) t.tree ≡ look (d, k) f
          agrees d [] p q = v.directories.found d ∙ dirs-at (λ u. PlainDirs f u.tree) dirs d p
          agrees d (x ∷ xs) p q =
              (v.files d).found (x ∷ xs) (λ z. nil≢cons (sym z)) ∙ files-at d (λ u. PlainFiles f d u.tree) (files d) (x ∷ xs) p q

      entry_at : (Q : Store → Type 0) → Could s journal_area Q done → Q (apply_all v.entry.kept s)
      entry_at Q c = at journal_area (λ u. is_some t.log ≡ is_some u.log) Q v.entry c

      pub found-over : Coulds s Over done → Ended f t
      found-over c = found-done (go t.log refl) (λ d. c (files_area d)) (c collections_area)
        where
          go : (q : Option Bytes) → t.log ≡ q → t.log ≡ none
          go none e = e
          go (some l) e = absurd (false≢true (sym (ap is_some (entry_at (λ u. u.log ≡ none) (c journal_area))) ∙ sym v.entry.found ∙ ap is_some e))

      -- Recovery will give the tree from before, or the one that was to come.
      pub found_phase : (u : Store) → Phase done u → Mends ops o t ⊎ Ended f t
      found_phase u (resting g) = inl (found-resting g.0)
      found_phase u (working g) = inl (go t.log refl)
        where
          go : (q : Option Bytes) → t.log ≡ q → Mends ops o t
          go none e = absurd (false≢true (sym (ap is_some e) ∙ v.entry.found ∙ entry_at (λ u. is_some u.log ≡ true) (g.0 journal_area)))
          go (some l) e = found-log l e g.3 (λ d. g.0 (files_area d)) (g.0 collections_area) (could_map s log_area Committing LogGoes done (λ u j. inr j) (g.0 log_area))
      found_phase u (removed g) = go t.log refl
        where
          Both : Name → Store → Type 0
          Both d u = Undone ops o u.tree × PlainFiles f d u.tree

          go : (q : Option Bytes) → t.log ≡ q → Mends ops o t ⊎ Ended f t
          go none e =
              inr (found-done e (λ d. could_map s (files_area d) (Both d) (λ u. PlainFiles f d u.tree) done (λ u z. z.1) (g.0 (files_area d)))
              (could_map s collections_area (λ u. Undone ops o u.tree) (λ u. PlainDirs f u.tree) done
              (λ u i d p. undone-dirs u.tree i d ∙ sym (C.same_dirs d p)) (g.0 collections_area)))
          go (some l) e =
              inl (found-log l e g.3 (λ d. could_map s (files_area d) (Both d) (λ u. Undone ops o u.tree) done (λ u z. z.0) (g.0 (files_area d)))
              (g.0 collections_area) (g.0 log_area))
      found_phase u (over g) = inr (found-over g.0)

-- The steps of operations of every kind: up to the first failing one, what was done can be undone.
use Rattle.std.specs.Prelude.{◌≡◌, ℕ, Bool, ◌⊎◌}
use Rattle.std.proofs.Math.Path.{refl, sym, subst}
use Rattle.std.proofs.Common.{◌∙◌, ap, inl, inr}
use mathlib.Core.List.{List, [], ◌∷◌, ◌++◌, map, reverse}
use Rattle.std.proofs.Math.Option.{Option, none, some}
use Rattle.basics.specs.Order.{Name, Key}
use Rattle.basics.specs.Map.{Map, look, put, del, Has}
use Rattle.basics.specs.Base.{In, case_option, if_present, if_missing}
use Rattle.basics.specs.Name.{backup_name, original_name}
use Rattle.model.specs.Operation.{Op, Write, write, delete, delete_all, create_collection, delete_collection, copy_collection, target, backup}
use Rattle.model.specs.Log.{committing, journal, whole}
use Rattle.model.specs.Store.{Store, files}
use Rattle.model.specs.Step.{Step, make_directory, rename_file, move_staged, rename_directory, copy_file, apply, apply_all, Fault, fails, new_file, step_fault}
use Rattle.model.specs.Plan.{in_turn, op_steps, first_fault}
use Rattle.basic_laws.specs.MapLaws.{key_dec, none≢some, some_inj, look-put-same, look-put-other, look-del-other, sorted-put, sorted-del}
use Rattle.basic_laws.specs.NameLaws.{original-backup, original-some, original-nil}
use Rattle.laws.specs.StoreLaws.{look-move-other, sorted-move}
use Rattle.laws.specs.Listings.{any-map, any-reverse, files_in, files-named, files-once, Once}
use Rattle.laws.specs.Runs.{apply_all_append, fault-head, fault_append}
use Rattle.cut_rule.specs.Kinds.{Place, key, collection, place_of, Apart, AllApart}
use Rattle.cut_rule.proofs.StoreRule.{OldTree, old-file, KeyGood, DirGood, WriteGood, OpGood, AllGood}
use Rattle.cut_rule.proofs.Walk.{through-end, Cautious, cautious_through, cautious_then}
use Rattle.cut_rule.proofs.Files.{Stands, name-apart, files-rename, files-move, dir-eq, file-eq}
use Rattle.cut_rule.proofs.Directories.{Empty, OnlyIn, OnceIn, MakesFile, MakesDir, NewFile, NewDir, FilesIn, Unbacked, DirState, within, fresh, moved}
use Rattle.cut_rule.proofs.Directories.{Inv, within-empty, within-put, within-del, within-move, del-none, move-to, move-from, inv_in, inv-whole}

-- What single steps do where their source stands; a move or copy that does not fail has one.
pub rename-tree : (d a b : Name) (s : Store) (x : ℕ) → look (d, a) s.tree ≡ some x → (apply (rename_file d a b) s).tree ≡ put (d, b) x (del (d, a) s.tree)
unfolding apply
rename-tree d a b s x e = rw e

pub move-tree : (w : Write) (s : Store) (x : ℕ) → look ([], w.staged) s.staging ≡ some x →
    (apply (move_staged w.staged w.collection w.key) s).tree ≡ put (target w) x s.tree
unfolding apply
move-tree w s x e = rw e

copy_tree : (a b f : Name) (s : Store) (x : ℕ) → look (a, f) s.tree ≡ some x → (apply (copy_file a b f) s).tree ≡ put (b, f) x s.tree
unfolding apply
copy_tree a b f s x e = rw e

source-stands : (q : Option ℕ) (r : Option Fault) → case_option q (some fails) (λ x. r) ≡ none → Stands q
source-stands none r h = none≢some (sym h)
source-stands (some x) r h = (x, refl)

pub move-stands : (w : Write) (u : Store) → step_fault (move_staged w.staged w.collection w.key) u ≡ none → Has ([], w.staged) u.staging
unfolding step_fault
move-stands w u h = source-stands (look ([], w.staged) u.staging) (new_file (target w) u.tree) h

copy_stands : (a b f : Name) (u : Store) → step_fault (copy_file a b f) u ≡ none → Has (a, f) u.tree
unfolding step_fault
copy_stands a b f u h = source-stands (look (a, f) u.tree) (new_file (b, f) u.tree) h

-- What is outside of a place, and a change of nothing there.
abbrev Outside : Place → Key → Type 0
Outside (key c k) j = (j ≡ (c, k) → ⊥) × (j ≡ (c, backup_name k) → ⊥)
Outside (collection c) j = (j.0 ≡ c → ⊥) × (original_name j.0 ≡ some c → ⊥)

dir-outside : {c k : Name} (d : Name) → KeyGood c k → Outside (key c k) (d, [])
dir-outside {c} {k} d g = (λ e. g.named (sym (file-eq e)), λ e. name-apart original-nil (original-backup k g.named) (file-eq e))

unfoldable Frame : Place → Store → Store → Type 0
Frame p u v = (j : Key) → Outside p j → look j v.tree ≡ look j u.tree

-- Nothing of a place was touched.
abbrev pub Untouched : Map → Place → Store → Type 0
Untouched o (key c k) u = (look (c, k) u.tree ≡ look (c, k) o) × (look (c, []) u.tree ≡ look (c, []) o)
Untouched o (collection c) u = ((f : Name) → look (c, f) u.tree ≡ look (c, f) o) × Unbacked c u.tree

abbrev PlaceGood : Place → Type 0
PlaceGood (key c k) = KeyGood c k
PlaceGood (collection c) = DirGood c

place-good : (o : Map) (a : Op) → OpGood o a → PlaceGood (place_of a)
place-good o (write w) g = g.key
place-good o (delete c k) g = g
place-good o (delete_all c) g = g
place-good o (create_collection c) g = g.0
place-good o (delete_collection c) g = g
place-good o (copy_collection a b x) g = g.0

untouched-after : (o : Map) (p q : Place) → PlaceGood p → PlaceGood q → Apart p q → (u v : Store) → Frame p u v → Untouched o q u → Untouched o q v
unfolding Frame
untouched-after o (key c k) (key d j) g h z u v f t = (
  f (d, j) (λ e. z (sym e), λ e. name-apart h.file (original-backup k g.named) (file-eq e)) ∙ t.0,
  f (d, []) (dir-outside d g) ∙ t.1,
)
untouched-after o (key c k) (collection d) g h z u v f t = (
  λ n. f (d, n) (λ e. z (sym (dir-eq e)), λ e. z (sym (dir-eq e))) ∙ t.0 n,
  λ b n p. f (b, n) (λ e. name-apart g.dir p (sym (dir-eq e)), λ e. name-apart g.dir p (sym (dir-eq e))) ∙ t.1 b n p,
)
untouched-after o (collection c) (key d j) g h z u v f t = (
  f (d, j) (λ e. z (sym e), λ e. none≢some (sym h.dir ∙ e)) ∙ t.0,
  f (d, []) (λ e. z (sym e), λ e. none≢some (sym h.dir ∙ e)) ∙ t.1,
)
untouched-after o (collection c) (collection d) g h z u v f t = (
  λ n. f (d, n) (λ e. z (sym e), λ e. none≢some (sym h.dir ∙ e)) ∙ t.0 n,
  λ b n p. f (b, n) (λ e. name-apart g.dir p (sym e), λ e. z (some_inj (sym e ∙ p))) ∙ t.1 b n p,
)

module _ (o : Map) (old : OldTree o) (ops : List Op) (good : AllGood o ops) where
  -- The log is Committing, and what was done can be undone.
  pub record Mid (u : Store) : Type 0 where
    pub log : journal u.log ≡ committing ops whole
    pub inv : Inv o (reverse ops) u.tree

  -- What an operation's steps do.
  abbrev Applies : Place → List Step → Store → Type 0
  Applies p xs u = Cautious Mid xs u × (first_fault xs u ≡ none → Frame p u (apply_all xs u))

  -- A change of the files of one plain directory that stood.
  state_in : (t v : Map) (c : Name) → original_name c ≡ none → Has (c, []) o → OnlyIn c t v → (FilesIn o (reverse ops) c t → FilesIn o (reverse ops) c v) →
      DirState o (reverse ops) t c → DirState o (reverse ops) v c
  state_in t v c p has a g (within i z) = within (g i) (λ e f q. a e f (λ y. name-apart p q (sym y)) ∙ z e f q)
  state_in t v c p has a g (fresh r y z) = none≢some (sym (y []) ∙ has.1)
  state_in t v c p has a g (moved e q i z) = moved e q i (λ f. a e f (λ y. name-apart p q (sym y)) ∙ z f)

  -- A file or the directory itself is put into a plain directory.
  put-off : (c f : Name) (x : ℕ) (t : Map) → OnlyIn c t (put (c, f) x t)
  put-off c f x t d k n = look-put-other (c, f) (d, k) x t (λ y. n (dir-eq y))

  mid-put : (c f : Name) (x : ℕ) (u v : Store) → original_name c ≡ none → Mid u → v.log ≡ u.log → v.tree ≡ put (c, f) x u.tree →
      (f ≡ []) ⊎ Has (c, []) u.tree → ((g h : Name) → original_name f ≡ some g → original_name g ≡ some h → ⊥) →
      (DirState o (reverse ops) u.tree c → DirState o (reverse ops) (put (c, f) x u.tree) c) → Mid v
  mid-put c f x u v p m l e z one here = record {
    log = ap journal l ∙ m.log;
    inv = rw e (inv_in p m.inv record {
      sorted = sorted-put (c, f) x u.tree m.inv.sorted;
      inside = within-put u.tree c f x m.inv.inside z;
      agrees = put-off c f x u.tree;
      files = λ d k n r. r;
      makes = λ d n r. r;
      here = here;
      once = λ n g h q r.
          look-put-other (c, f) (c, n) x u.tree (λ y. one g h (ap original_name (sym (file-eq y)) ∙ q) r) ∙ m.inv.files_once c n g h q r;
    });
  }

  -- A file becomes its backup.
  module _ (u : Store) (c k : Name) (x : ℕ) (g : KeyGood c k) (there : look (c, k) u.tree ≡ some x) where
    v : Store
    v = apply (rename_file c k (backup_name k)) u

    tr : v.tree ≡ put (c, backup_name k) x (del (c, k) u.tree)
    unfolding v
    tr = rename-tree c k (backup_name k) u x there

    rename-frame : Frame (key c k) u (apply (rename_file c k (backup_name k)) u)
    unfolding v Frame
    rename-frame j z = rw tr (look-put-other (c, backup_name k) j x (del (c, k) u.tree) z.1 ∙ look-del-other (c, k) j u.tree z.0)

    rename-backup : look (c, backup_name k) (apply (rename_file c k (backup_name k)) u).tree ≡ some x
    unfolding v
    rename-backup = rw tr (look-put-same (c, backup_name k) x (del (c, k) u.tree))

    mid-rename : look (c, k) u.tree ≡ look (c, k) o → Mid u → Mid (apply (rename_file c k (backup_name k)) u)
    unfolding v Frame
    mid-rename same m = record {
      log = unfold apply in m.log;
      inv = inv_in g.dir m.inv record {
        sorted = rw tr (sorted-put (c, backup_name k) x (del (c, k) u.tree) (sorted-del (c, k) u.tree m.inv.sorted));
        inside = rw tr (within-put (del (c, k) u.tree) c (backup_name k) x (within-del u.tree c k m.inv.inside g.named) (inr stays));
        agrees = off;
        files = λ d f e r. r;
        makes = λ d e r. r;
        here = state_in u.tree v.tree c g.dir (old.within c k (x, sym same ∙ there)) off renamed;
        once = λ n b h p q.
            rw tr (look-put-other (c, backup_name k) (c, n) x (del (c, k) u.tree) (other n b h p q)
            ∙ del-none (c, k) (c, n) u.tree (m.inv.files_once c n b h p q));
      };
    }
      where
        off : OnlyIn c u.tree v.tree
        off d f e = rename-frame (d, f) (λ y. e (dir-eq y), λ y. e (dir-eq y))

        renamed : FilesIn o (reverse ops) c u.tree → FilesIn o (reverse ops) c v.tree
        renamed i =
            files-rename g.file g.named i (λ j a b. rename-frame (c, j) (λ y. a (file-eq y), λ y. b (file-eq y)))
            (x, sym same ∙ there) (rename-backup ∙ sym there ∙ same)

        stays : Has (c, []) (del (c, k) u.tree)
        stays = let i = m.inv.inside c k (x, there) in (i.0, look-del-other (c, k) (c, []) u.tree (λ y. g.named (sym (file-eq y))) ∙ i.1)

        other : (n b h : Name) → original_name n ≡ some b → original_name b ≡ some h → ◌≡◌ {A = Key} (c, n) (c, backup_name k) → ⊥
        other n b h p q y = name-apart g.file q (some_inj (sym (original-backup k g.named) ∙ ap (λ (i : Key). original_name i.1) (sym y) ∙ p))

  -- Delete.
  op-delete : (c k : Name) (u : Store) → KeyGood c k → Untouched o (key c k) u → Mid u → Applies (key c k) (op_steps (delete c k) u) u
  unfolding op_steps Frame
  op-delete c k u g t m = go (look (c, k) u.tree) refl
    where
      go : (q : Option ℕ) → look (c, k) u.tree ≡ q → Applies (key c k) (if_present q (rename_file c k (backup_name k) ∷ [])) u
      go none e = (m, λ f j z. refl)
      go (some x) e = ((m, λ f. mid-rename u c k x g e t.0 m), λ f. rename-frame u c k x g e)

  -- Write.
  module _ (w : Write) (u : Store) (x : ℕ) (g : WriteGood o w) (staged : look ([], w.staged) u.staging ≡ some x) where
    move-frame : Frame (key w.collection w.key) u (apply (move_staged w.staged w.collection w.key) u)
    unfolding Frame
    move-frame j z = rw (move-tree w u x staged) (look-put-other (target w) j x u.tree z.0)

    mid-move : In (write w) ops → Has (w.collection, []) u.tree → (Has (target w) o → look (backup w) u.tree ≡ look (target w) o) → Mid u →
        Mid (apply (move_staged w.staged w.collection w.key) u)
    mid-move i has b m =
        mid-put w.collection w.key x u (apply (move_staged w.staged w.collection w.key) u) g.key.dir m (unfold apply in refl)
        (move-tree w u x staged) (inr has) (λ a h p q. none≢some (sym g.key.file ∙ p))
        (state_in u.tree (put (target w) x u.tree) w.collection g.key.dir g.stands (put-off w.collection w.key x u.tree) moves)
      where
        hit : NewFile (reverse ops) w.collection w.key
        hit = any-reverse (MakesFile (target w)) ops (any-map (λ a e. subst (MakesFile (target w)) e refl) ops i)

        moves : FilesIn o (reverse ops) w.collection u.tree → FilesIn o (reverse ops) w.collection (put (target w) x u.tree)
        moves h = files-move g.key.file g.key.named h (λ j a. look-put-other (target w) (w.collection, j) x u.tree (λ y. a (file-eq y))) hit b

  op-write : (w : Write) (u : Store) → In (write w) ops → Untouched o (key w.collection w.key) u → Mid u →
      Applies (key w.collection w.key) (op_steps (write w) u) u
  unfolding op_steps Frame
  op-write w u i t m = go (look (w.collection, []) u.tree) refl (look (target w) u.tree) refl
    where
      g : WriteGood o w
      g = good (write w) i

      move : Step
      move = move_staged w.staged w.collection w.key

      step : Step
      step = rename_file w.collection w.key (backup_name w.key)

      go : (a : Option ℕ) → look (w.collection, []) u.tree ≡ a → (b : Option ℕ) → look (target w) u.tree ≡ b →
          Applies (key w.collection w.key) (if_missing a (make_directory w.collection ∷ []) ++ if_present b (step ∷ []) ++ move ∷ []) u
      go none a b q = none≢some (sym a ∙ t.1 ∙ g.stands.1)
      go (some y) a none q = (
        (m, λ e. let h = move-stands w u e in mid-move w u h.0 g h.1 i (y, a) (λ h. none≢some (sym q ∙ t.0 ∙ h.1)) m),
        λ e. let h = move-stands w u (fault-head move [] u e).0 in move-frame w u h.0 g h.1,
      )
      go (some y) a (some x) q = (
        (
          m,
          λ e. (
            m₁,
            λ e. let h = move-stands w u₁ e in
                mid-move w u₁ h.0 g h.1 i stays (λ z. rename-backup u w.collection w.key x g.key q ∙ sym q ∙ t.0) m₁,
          ),
        ),
        λ e. let h = move-stands w u₁ (fault-head move [] u₁ (fault-head step (move ∷ []) u e).1).0 in λ j z. move-frame w u₁ h.0 g h.1 j z ∙ f₁ j z,
      )
        where
          u₁ : Store
          u₁ = apply step u

          m₁ : Mid u₁
          m₁ = mid-rename u w.collection w.key x g.key q t.0 m

          f₁ : (j : Key) → Outside (key w.collection w.key) j → look j u₁.tree ≡ look j u.tree
          f₁ = rename-frame u w.collection w.key x g.key q

          stays : Has (w.collection, []) u₁.tree
          stays = (y, f₁ (w.collection, []) (dir-outside w.collection g.key) ∙ a)

  -- DeleteAll: the files that are still to be renamed.
  record FilesLeft (c : Name) (l : List Name) (u : Store) : Type 0 where
    once : Once l
    keys : (f : Name) → In f l → KeyGood c f
    there : (f : Name) → In f l → Has (c, f) u.tree
    same : (f : Name) → In f l → look (c, f) u.tree ≡ look (c, f) o

  delete-each : (c : Name) (l : List Name) (u : Store) → FilesLeft c l u → Mid u → Applies (collection c) (map (λ f. rename_file c f (backup_name f)) l) u
  unfolding Frame
  delete-each c [] u h m = (m, λ e j z. refl)
  delete-each c (f ∷ l) u h m =
      let rest = delete-each c l (apply (rename_file c f (backup_name f)) u) left (mid-rename u c f has.0 g has.1 (h.same f (inl refl)) m) in (
        (m, λ e. rest.0),
        λ e j z. rest.1 (fault-head step (map (λ f. rename_file c f (backup_name f)) l) u e).1 j z ∙ frame j (λ y. z.0 (dir-eq y), λ y. z.0 (dir-eq y)),
      )
    where
      step : Step
      step = rename_file c f (backup_name f)

      has : Has (c, f) u.tree
      has = h.there f (inl refl)

      g : KeyGood c f
      g = h.keys f (inl refl)

      frame : (j : Key) → Outside (key c f) j → look j (apply step u).tree ≡ look j u.tree
      frame = rename-frame u c f has.0 g has.1

      still : (n : Name) → In n l → look (c, n) (apply step u).tree ≡ look (c, n) u.tree
      still n i = frame (c, n) (λ y. h.once.0 (rw (file-eq y) at i), λ y. name-apart (h.keys n (inr i)).file (original-backup f g.named) (file-eq y))

      left : FilesLeft c l (apply step u)
      left = record {
        once = h.once.1;
        keys = λ n i. h.keys n (inr i);
        there = λ n i. let z = h.there n (inr i) in (z.0, still n i ∙ z.1);
        same = λ n i. still n i ∙ h.same n (inr i);
      }

  op-delete_all : (c : Name) (u : Store) → DirGood c → Untouched o (collection c) u → Mid u → Applies (collection c) (op_steps (delete_all c) u) u
  unfolding op_steps
  op-delete_all c u g t m = delete-each c (files c u.tree) u record {
    once = files-once c u.tree m.inv.sorted;
    keys = λ f i.
        let z = files_in c f u.tree i in
        record { dir = g.dir; file = (old.plain c f (z.0, sym (t.0 f) ∙ z.1)).1.no_bak; named = files-named c u.tree f i };
    there = λ f i. files_in c f u.tree i;
    same = λ f i. t.0 f;
  } m

  new-dir : (a : Op) (t : Map) (d : Name) → In a ops → MakesDir t d a → NewDir (reverse ops) t d
  new-dir a t d i m = any-reverse (MakesDir t d) ops (any-map (λ b e. subst (MakesDir t d) e m) ops i)

  -- A directory c that may hold anything from now on: its old files stand under its backup's name, or it is new.
  abbrev AnyIn : Name → Map → Type 0
  AnyIn c t = (v : Map) → ((e f : Name) → original_name e ≡ some c → look (e, f) v ≡ look (e, f) t) → DirState o (reverse ops) v c

  record Free (c : Name) (s u : Store) : Type 0 where
    mid : Mid u
    stands : Has (c, []) u.tree
    any : AnyIn c u.tree
    frame : (j : Key) → Outside (collection c) j → look j u.tree ≡ look j s.tree

  put-there : (c f : Name) (x : ℕ) (s u v : Store) → original_name c ≡ none → Mid u → v.log ≡ u.log → v.tree ≡ put (c, f) x u.tree →
      (f ≡ []) ⊎ Has (c, []) u.tree → ((g h : Name) → original_name f ≡ some g → original_name g ≡ some h → ⊥) → AnyIn c u.tree →
      ((j : Key) → Outside (collection c) j → look j u.tree ≡ look j s.tree) → Free c s v
  put-there c f x s u v p m l e z one a fr = record {
    mid = mid-put c f x u v p m l e z one (λ y. a (put (c, f) x u.tree) bak);
    stands = rw e (here z (key_dec (c, []) (c, f)));
    any = rw e (λ w h. a w (λ d k q. h d k q ∙ bak d k q));
    frame = λ j y. rw e (put-off c f x u.tree j.0 j.1 y.0) ∙ fr j y;
  }
    where
      bak : (d k : Name) → original_name d ≡ some c → look (d, k) (put (c, f) x u.tree) ≡ look (d, k) u.tree
      bak d k q = put-off c f x u.tree d k (λ y. name-apart p q (sym y))

      here : (f ≡ []) ⊎ Has (c, []) u.tree → Dec (◌≡◌ {A = Key} (c, []) (c, f)) → Has (c, []) (put (c, f) x u.tree)
      here y (yes n) = (x, rw n (look-put-same (c, f) x u.tree))
      here (inl y) (no n) = absurd (n (λ i. (c, sym y i)))
      here (inr y) (no n) = (y.0, look-put-other (c, f) (c, []) x u.tree n ∙ y.1)

  -- CreateCollection.
  op_create : (c : Name) (u : Store) → In (create_collection c) ops → Untouched o (collection c) u → Mid u →
      Applies (collection c) (op_steps (create_collection c) u) u
  unfolding op_steps Frame apply
  op_create c u i t m = go (look (c, []) u.tree) refl
    where
      g : OpGood o (create_collection c)
      g = good (create_collection c) i

      v : Map
      v = put (c, []) 0 u.tree

      off : OnlyIn c u.tree v
      off = put-off c [] 0 u.tree

      old-none : Empty c o
      old-none = within-empty o c old.within g.1

      made : DirState o (reverse ops) v c
      made =
          fresh (new-dir (create_collection c) v c i
          (refl, λ f z. look-put-other (c, []) (c, f) 0 u.tree (λ y. z (file-eq y)) ∙ t.0 f ∙ old-none f))
          old-none (λ e f q. off e f (λ y. name-apart g.0.dir q (sym y)) ∙ t.1 e f q)

      go : (q : Option ℕ) → look (c, []) u.tree ≡ q → Applies (collection c) (if_missing q (make_directory c ∷ [])) u
      go (some x) e = none≢some (sym g.1 ∙ sym (t.0 []) ∙ e)
      go none e = (
        (m, λ f. mid-put c [] 0 u (apply (make_directory c) u) g.0.dir m refl refl (inl refl) (λ a h p q. none≢some (sym original-nil ∙ p)) (λ z. made)),
        λ f j z. off j.0 j.1 z.0,
      )

  -- A directory renamed to its backup.
  module _ (u : Store) (c : Name) (g : DirGood c) (t : Untouched o (collection c) u) (has : Has (c, []) u.tree) (m : Mid u) where
    c≢bak : c ≡ backup_name c → ⊥
    c≢bak e = name-apart g.dir (original-backup c g.named) e

    free : Empty (backup_name c) u.tree
    free f = t.1 (backup_name c) f (original-backup c g.named)

    away-frame : Frame (collection c) u (apply (rename_directory c (backup_name c)) u)
    unfolding Frame apply
    away-frame j z =
        look-move-other c (backup_name c) c≢bak j.0 j.1 u.tree u.tree z.0 (λ y. z.1 (ap original_name y ∙ original-backup c g.named))

    away-backup : (f : Name) → look (backup_name c, f) (apply (rename_directory c (backup_name c)) u).tree ≡ look (c, f) o
    unfolding apply
    away-backup f = move-to c (backup_name c) c≢bak u.tree m.inv.sorted free f ∙ t.0 f

    away-any : AnyIn c (apply (rename_directory c (backup_name c)) u).tree
    away-any v h =
        moved (backup_name c) (original-backup c g.named) (has.0, sym (t.0 []) ∙ has.1)
        (λ f. h (backup_name c) f (original-backup c g.named) ∙ away-backup f)

    mid-away : Mid (apply (rename_directory c (backup_name c)) u)
    unfolding Frame
    mid-away = record {
      log = unfold apply in m.log;
      inv = inv-whole g.dir m.inv record {
        sorted = unfold apply in (sorted-move c (backup_name c) c≢bak u.tree u.tree m.inv.sorted);
        inside = unfold apply in (within-move c (backup_name c) c≢bak u.tree m.inv.sorted free m.inv.inside);
        agrees = λ d f e z. away-frame (d, f) (e, z);
        here = away-any v.tree (λ e f q. refl);
        once = lone;
      };
    }
      where
        v : Store
        v = apply (rename_directory c (backup_name c)) u

        gone : Empty c v.tree
        gone = unfold apply in (move-from c (backup_name c) c≢bak u.tree m.inv.sorted free)

        lone : (d : Name) → (d ≡ c) ⊎ (original_name d ≡ some c) → OnceIn d v.tree
        lone d (inl y) n a h p q = ap (λ (b : Name). look (b, n) v.tree) y ∙ gone n
        lone d (inr y) n a h p q = ap (λ (b : Name). look (b, n) v.tree) (original-some d c y) ∙ away-backup n ∙ old-file old c n a p

  -- DeleteCollection.
  op-delete_collection : (c : Name) (u : Store) → DirGood c → Untouched o (collection c) u → Mid u → Applies (collection c) (op_steps (delete_collection c) u) u
  unfolding op_steps Frame
  op-delete_collection c u g t m = go (look (c, []) u.tree) refl
    where
      go : (q : Option ℕ) → look (c, []) u.tree ≡ q → Applies (collection c) (if_present q (rename_directory c (backup_name c) ∷ [])) u
      go none e = (m, λ f j z. refl)
      go (some x) e = ((m, λ f. mid-away u c g t (x, e) m), λ f. away-frame u c g t (x, e) m)

  -- CopyCollection.
  abbrev Copies : Name → Store → List Step → Store → Type 0
  Copies b s xs u = Cautious Mid xs u × (first_fault xs u ≡ none → Free b s (apply_all xs u))

  copy_each : (a b : Name) (l : List Name) (s u : Store) → original_name b ≡ none → Free b s u → Copies b s (map (copy_file a b) l) u
  copy_each a b [] s u p d = (d.mid, λ e. d)
  copy_each a b (f ∷ l) s u p d =
      let rest : step_fault (copy_file a b f) u ≡ none → Copies b s (map (copy_file a b) l) v = λ e. copy_each a b l s v p (one e) in
      ((d.mid, λ e. (rest e).0), λ e. let h = fault-head (copy_file a b f) (map (copy_file a b) l) u e in (rest h.0).1 h.1)
    where
      v : Store
      v = apply (copy_file a b f) u

      one : step_fault (copy_file a b f) u ≡ none → Free b s v
      one e =
          let h = copy_stands a b f u e in
          put-there b f h.0 s u v p d.mid (unfold apply in refl) (copy_tree a b f u h.0 h.1) (inr d.stands)
          (λ g k q r. none≢some (sym (d.mid.inv.files_once a f g k q r) ∙ h.1)) d.any d.frame

  op_copy : (a b : Name) (x : Bool) (u : Store) → In (copy_collection a b x) ops → Untouched o (collection b) u → Mid u →
      Applies (collection b) (op_steps (copy_collection a b x) u) u
  unfolding op_steps Frame
  op_copy a b x u i t m = (
    cautious_then Mid xs (ys ++ []) u first.0 (λ e. cautious_then Mid ys [] u₁ second.0 (λ e. (second.1 e).mid)),
    λ e.
        let f = fault_append xs (ys ++ []) u e in
        let k = fault_append ys [] u₁ f.1 in
        λ j z. rw (apply_all_append xs (ys ++ []) u, apply_all_append ys [] u₁) ((second.1 k.0).frame j z),
  )
    where
      g : OpGood o (copy_collection a b x)
      g = good (copy_collection a b x) i

      prepare : Option ℕ → List Step
      prepare q = if_present q (rename_directory b (backup_name b) ∷ []) ++ make_directory b ∷ []

      -- The destination is made, from the store w, where its old files are put away or there were none.
      made : (w : Store) → Mid w → AnyIn b w.tree → ((j : Key) → Outside (collection b) j → look j w.tree ≡ look j u.tree) →
          Free b u (apply (make_directory b) w)
      made w n y f =
          put-there b [] 0 u w (apply (make_directory b) w) g.0.dir n (unfold apply in refl) (unfold apply in refl) (inl refl)
          (λ c h q r. none≢some (sym original-nil ∙ q)) y f

      start : (q : Option ℕ) → look (b, []) u.tree ≡ q → Cautious Mid (prepare q) u × Free b u (apply_all (prepare q) u)
      start none e =
          let new : AnyIn b u.tree =
          λ v h. fresh (new-dir (copy_collection a b x) v b i refl) (within-empty o b old.within (sym (t.0 []) ∙ e)) (λ c f q. h c f q ∙ t.1 c f q) in
          let d = made u m new (λ j z. refl) in
          ((m, λ f. d.mid), d)
      start (some y) e =
          let n = mid-away u b g.0 t (y, e) m in
          let d = made (apply (rename_directory b (backup_name b)) u) n (away-any u b g.0 t (y, e) m) (away-frame u b g.0 t (y, e) m) in
          ((m, λ f. (n, λ f. d.mid)), d)

      xs : List Step
      xs = prepare (look (b, []) u.tree)

      first : Cautious Mid xs u × Free b u (apply_all xs u)
      first = start (look (b, []) u.tree) refl

      u₁ : Store
      u₁ = apply_all xs u

      copies : Option ℕ → List Step
      copies q = case_option q (copy_file a b [] ∷ []) (λ x. map (copy_file a b) (files a u₁.tree))

      ys : List Step
      ys = copies (look (a, []) u₁.tree)

      go : (q : Option ℕ) → Copies b u (copies q) u₁
      go none = copy_each a b ([] ∷ []) u u₁ g.0.dir first.1
      go (some y) = copy_each a b (files a u₁.tree) u u₁ g.0.dir first.1

      second : Copies b u ys u₁
      second = go (look (a, []) u₁.tree)

  -- Any operation whose place is untouched.
  op_applies : (a : Op) (u : Store) → In a ops → Untouched o (place_of a) u → Mid u → Applies (place_of a) (op_steps a u) u
  op_applies (write w) u i t m = op-write w u i t m
  op_applies (delete c k) u i t m = op-delete c k u (good (delete c k) i) t m
  op_applies (delete_all c) u i t m = op-delete_all c u (good (delete_all c) i) t m
  op_applies (create_collection c) u i t m = op_create c u i t m
  op_applies (delete_collection c) u i t m = op-delete_collection c u (good (delete_collection c) i) t m
  op_applies (copy_collection a b x) u i t m = op_copy a b x u i t m

  -- A Write's key that existed has its backup then, and the others leave it.
  write-backs : (w : Write) (u : Store) → WriteGood o w → Untouched o (place_of (write w)) u → first_fault (op_steps (write w) u) u ≡ none → Has (target w) o →
      Has (backup w) (apply_all (op_steps (write w) u) u).tree
  unfolding op_steps
  write-backs w u g t f z = go (look (w.collection, []) u.tree) refl (look (target w) u.tree) refl f
    where
      step : Step
      step = rename_file w.collection w.key (backup_name w.key)

      move : Step
      move = move_staged w.staged w.collection w.key

      go : (a : Option ℕ) → look (w.collection, []) u.tree ≡ a → (b : Option ℕ) → look (target w) u.tree ≡ b →
          let xs = if_missing a (make_directory w.collection ∷ []) ++ if_present b (step ∷ []) ++ move ∷ [] in
          first_fault xs u ≡ none → Has (backup w) (apply_all xs u).tree
      go none a b q f = none≢some (sym a ∙ t.1 ∙ g.stands.1)
      go (some y) a none q f = none≢some (sym q ∙ t.0 ∙ z.1)
      go (some y) a (some x) q f =
          let v = apply step u in
          let h = move-stands w v (fault-head move [] v (fault-head step (move ∷ []) u f).1).0 in (
            x,
            rw (move-tree w v h.0 h.1) (look-put-other (target w) (backup w) h.0 v.tree
                (λ y. name-apart g.key.file (original-backup w.key g.key.named) (sym (file-eq y))) ∙ rename-backup u w.collection w.key x g.key q),
          )

  backup-outside : {c k : Name} → KeyGood c k → (p : Place) → PlaceGood p → Apart (key c k) p → Outside p (c, backup_name k)
  backup-outside {c} {k} g (key d j) h z = (
    λ e. name-apart h.file (original-backup k g.named) (sym (file-eq e)),
    λ e. z (λ i. (dir-eq e i, some_inj (sym (original-backup k g.named) ∙ ap original_name (file-eq e) ∙ original-backup j h.named) i)),
  )
  backup-outside {c} {k} g (collection d) h z = (z, λ e. none≢some (sym g.dir ∙ e))

  -- What the steps of operations made of a store, if none failed.
  pub record Applied (l : List Op) (u v : Store) : Type 0 where
    frame : (j : Key) → ((b : Op) → In b l → Outside (place_of b) j) → look j v.tree ≡ look j u.tree
    pub backs : (w : Write) → In (write w) l → Has (target w) o → Has (backup w) v.tree

  -- One after the other: since their places are apart, each meets its own untouched.
  pub ops-apply : (l : List Op) (u : Store) → ((a : Op) → In a l → In a ops) → AllApart l → ((a : Op) → In a l → Untouched o (place_of a) u) → Mid u →
      Cautious Mid (in_turn op_steps l u) u × (first_fault (in_turn op_steps l u) u ≡ none → Applied l u (apply_all (in_turn op_steps l u) u))
  unfolding Frame
  ops-apply [] u sub z t m = (m, λ e. record { frame = λ j z. refl; backs = λ w i. absurd i })
  ops-apply (a ∷ l) u sub z t m =
      let rest : first_fault xs u ≡ none → Cautious Mid ys v × (first_fault ys v ≡ none → Applied l v (apply_all ys v)) =
      λ e. ops-apply l v (λ b i. sub b (inr i)) z.1 (still e) (through-end Mid xs u (cautious_through Mid xs u one.0 e)) in (
        cautious_then Mid xs ys u one.0 (λ e. (rest e).0),
        λ f. let k = fault_append xs ys u f in let r = (rest k.0).1 k.1 in
            rw (apply_all_append xs ys u) record {
              frame = λ j y. r.frame j (λ b i. y b (inr i)) ∙ one.1 k.0 j (y a (inl refl));
              backs = λ w i h. backs w i h k.0 r;
            },
      )
    where
      xs : List Step
      xs = op_steps a u

      v : Store
      v = apply_all xs u

      ys : List Step
      ys = in_turn op_steps l v

      one : Applies (place_of a) xs u
      one = op_applies a u (sub a (inl refl)) (t a (inl refl)) m

      still : first_fault xs u ≡ none → (b : Op) → In b l → Untouched o (place_of b) v
      still e b i =
          untouched-after o (place_of a) (place_of b) (place-good o a (good a (sub a (inl refl)))) (place-good o b (good b (sub b (inr i))))
          (z.0 b i) u v (one.1 e) (t b (inr i))

      backs : (w : Write) → In (write w) (a ∷ l) → Has (target w) o → first_fault xs u ≡ none → Applied l v (apply_all ys v) → Has (backup w) (apply_all ys v).tree
      backs w (inr i) h e r = r.backs w i h
      backs w (inl q) h e r =
          let g : WriteGood o w = good (write w) (sub (write w) (inl q)) in
          let b = write-backs w u g (t (write w) (inl q)) (subst (λ (c : Op). first_fault (op_steps c u) u ≡ none) (sym q) e) h in (
            b.0,
            r.frame (backup w) (λ c i. backup-outside g.key (place_of c) (place-good o c (good c (sub c (inr i))))
                (subst (λ (d : Op). Apart (place_of d) (place_of c)) (sym q) (z.0 c i)))
                ∙ subst (λ (d : Op). look (backup w) (apply_all (op_steps d u) u).tree ≡ some b.0) q b.1,
          )

-- Recovery's first pass: the new artifacts go, of operations of every kind.
use Rattle.std.specs.Prelude.{◌≡◌, refl, ℕ, List, [], ◌∷◌, Bool, true, false, ◌⊎◌, if◌then◌else◌}
use Rattle.std.proofs.Common.{sym, ◌∙◌, ap, subst, inl, inr}
use Rattle.std.proofs.Math.Option.{Option, none, some}
use Rattle.std.proofs.lemmas.Bool.{false≢true}
use Rattle.basics.specs.Order.{Name, Key}
use Rattle.basics.specs.Map.{Map, look, del, Has}
use Rattle.basics.specs.Base.{Bytes, In, case_option, if_empty, is_some, if_present, if_missing}
use Rattle.basics.specs.Name.{backup_name, original_name}
use Rattle.model.specs.Operation.{Op, Write, write, delete, delete_all, create_collection, delete_collection, copy_collection, target, backup, stood}
use Rattle.model.specs.Store.{Store, files}
use Rattle.model.specs.Step.{Step, remove_file, remove_directory, remove_dir, apply, apply_all}
use Rattle.model.specs.Plan.{in_turn, undo_steps}
use Rattle.basic_laws.specs.MapLaws.{Sorted, none≢some, look-del-same, look-del-other, sorted-del}
use Rattle.basic_laws.specs.NameLaws.{original-backup, key_apart}
use Rattle.laws.specs.StoreLaws.{look-drop-other}
use Rattle.laws.specs.Listings.{any-map, files_in, files-named}
use Rattle.laws.specs.Runs.{apply_all_append}
use Rattle.cut_rule.specs.Demand.{TrueMark}
use Rattle.cut_rule.proofs.StoreRule.{Within, OldTree, WriteGood, OpGood, AllGood, Safe}
use Rattle.cut_rule.proofs.Walk.{Through, through_append, through-map}
use Rattle.cut_rule.proofs.Files.{name-apart, files-undo, files-leave, dir-eq, file-eq}
use Rattle.cut_rule.proofs.Directories.{Empty, MakesDir, NewFile, NewDir, FilesIn, Unbacked, DirState, within, fresh, moved, Inv, within-empty, within-del}
use Rattle.cut_rule.proofs.Directories.{del-none, makes-like, inv_in, inv-more, inv-less, inv-gone}

-- What can be undone, under a log that stays.
pub record Undoes (o : Map) (l : List Op) (log : Option Bytes) (u : Store) : Type 0 where
  pub inv : Inv o l u.tree
  pub same : u.log ≡ log

-- Undoing one operation: each step, the end, and the backups in old directories, which it leaves alone.
record Undone (o : Map) (a : Op) (l : List Op) (xs : List Step) (s : Store) : Type 0 where
  through : Through (Undoes o (a ∷ l) s.log) xs s
  after : Undoes o l s.log (apply_all xs s)
  spares : (d n g : Name) → Has (d, []) o → original_name n ≡ some g → look (d, n) (apply_all xs s).tree ≡ look (d, n) s.tree

module _ {o : Map} {a : Op} {l : List Op} where
  undone-none : {s : Store} → Inv o (a ∷ l) s.tree → Inv o l s.tree → Undone o a l [] s
  undone-none h i = record { through = record { inv = h; same = refl }; after = record { inv = i; same = refl }; spares = λ d n g z p. refl }

  undone-one : (x : Step) (s : Store) → (apply x s).log ≡ s.log → Inv o (a ∷ l) s.tree → Inv o l (apply x s).tree →
      ((d n g : Name) → Has (d, []) o → original_name n ≡ some g → look (d, n) (apply x s).tree ≡ look (d, n) s.tree) → Undone o a l (x ∷ []) s
  undone-one x s e h i k = record {
    through = (record { inv = h; same = refl }, record { inv = inv-more (a ∷ l) (λ d f r. inr r) (λ d r. inr r) i; same = e });
    after = record { inv = i; same = e };
    spares = k;
  }

module _ {o : Map} {w : Write} {l : List Op} (good : WriteGood o w) {t : Map} (h : Inv o (write w ∷ l) t) where
  -- What is left once the target's file is gone, or is to stay.
  undone-write : (v : Map) → Sorted v → Within v → ((j : Key) → (j ≡ target w → ⊥) → look j v ≡ look j t) → ((j : Key) → look j t ≡ none → look j v ≡ none) →
      (FilesIn o (write w ∷ l) w.collection t → FilesIn o l w.collection v) → Inv o l v
  undone-write v s i a m g = inv_in good.key.dir h record {
    sorted = s;
    inside = i;
    agrees = λ d f e. a (d, f) (λ y. e (dir-eq y));
    files = λ d f e r. file d f e r;
    makes = λ d e r. make d r;
    here = here;
    once = λ n b k p q. m (w.collection, n) (h.files_once w.collection n b k p q);
  }
    where
      file : (d f : Name) → (d ≡ w.collection → ⊥) → NewFile (write w ∷ l) d f → NewFile l d f
      file d f e (inl r) = absurd (e (dir-eq r))
      file d f e (inr r) = r

      make : (d : Name) → NewDir (write w ∷ l) t d → NewDir l t d
      make d (inl r) = absurd r
      make d (inr r) = r

      off : (e f : Name) → original_name e ≡ some w.collection → look (e, f) v ≡ look (e, f) t
      off e f p = a (e, f) (λ y. name-apart good.key.dir p (sym (dir-eq y)))

      here : DirState o (write w ∷ l) t w.collection → DirState o l v w.collection
      here (within q z) = within (g q) (λ e f p. off e f p ∙ z e f p)
      here (fresh r y z) =
          fresh (any-map (λ b q. makes-like t v w.collection (λ f z. m (w.collection, f) z) b q) l (make w.collection r)) y
          (λ e f p. off e f p ∙ z e f p)
      here (moved e p q z) = moved e p q (λ f. off e f p ∙ z f)

  less : (j : Name) → (j ≡ w.key → ⊥) → NewFile (write w ∷ l) w.collection j → NewFile l w.collection j
  less j e (inl r) = absurd (e (file-eq r))
  less j e (inr r) = r

  leave : (look (target w) t ≡ none) ⊎ (Has (backup w) t ⊎ Has (target w) o) → Inv o l t
  leave z = undone-write t h.sorted h.inside (λ j e. refl) (λ j e. e) (λ q. files-leave good.key.file good.key.named q less z)

  take-away : look (target w) o ≡ none → Inv o l (del (target w) t)
  take-away z =
      undone-write (del (target w) t) (sorted-del (target w) t h.sorted) (within-del t w.collection w.key h.inside good.key.named)
      (λ j e. look-del-other (target w) j t e) (λ j e. del-none (target w) j t e)
      (λ q. files-undo good.key.file good.key.named q less (λ j e. look-del-other (target w) (w.collection, j) t (λ y. e (file-eq y)))
      (look-del-same (target w) t) z)

is-some : (q : Option ℕ) → true ≡ is_some q → (x : ℕ) × (q ≡ some x)
is-some none e = absurd (false≢true (sym e))
is-some (some x) e = (x, refl)

is_none : (q : Option ℕ) → false ≡ is_some q → q ≡ none
is_none none e = refl
is_none (some x) e = absurd (false≢true e)

-- A Write: "exactly if it stands, the mark is 0 and no backup of it stands" (02, item 4).
mark-told : (o : Map) (w : Write) → TrueMark o w → stood w ≡ true → Has (target w) o
mark-told o w h e = go w.mark refl e
  where
    go : (m : Option Bool) → w.mark ≡ m → case_option m false (λ x. x) ≡ true → Has (target w) o
    go none p e = absurd (false≢true e)
    go (some x) p e = is-some (look (target w) o) (sym e ∙ h x p)

undo-write : (o : Map) (w : Write) (l : List Op) (s : Store) → WriteGood o w → (stood w ≡ false → Has (target w) o → Has (backup w) s.tree) →
    Inv o (write w ∷ l) s.tree → Undone o (write w) l (undo_steps (write w) s) s
unfolding undo_steps apply
undo-write o w l s good safe h = go (stood w) refl (look (target w) s.tree) refl (look (backup w) s.tree) refl
  where
    missing : stood w ≡ false → look (backup w) s.tree ≡ none → (q : Option ℕ) → look (target w) o ≡ q → look (target w) o ≡ none
    missing z q none e = e
    missing z q (some x) e = none≢some (sym q ∙ (safe z (x, e)).1)

    go : (t : Bool) → stood w ≡ t → (a : Option ℕ) → look (target w) s.tree ≡ a → (b : Option ℕ) → look (backup w) s.tree ≡ b →
        Undone o (write w) l (if◌then◌else◌ t [] (if_present a (if_missing b (remove_file w.collection w.key ∷ [])))) s
    go true z a p b q = undone-none h (leave good h (inr (inr (mark-told o w good.mark z))))
    go false z none p b q = undone-none h (leave good h (inl p))
    go false z (some x) p (some y) q = undone-none h (leave good h (inr (inl (y, q))))
    go false z (some x) p none q =
        undone-one (remove_file w.collection w.key) s refl h (take-away good h (missing z q (look (target w) o) refl))
        (λ d n g i r. look-del-other (target w) (d, n) s.tree (λ y. key_apart w.collection d w.key n g good.key.file r (sym y)))

-- A directory that was not there before.
undone-dir : {o : Map} {a : Op} {l : List Op} (c : Name) (s : Store) → look (c, []) o ≡ none → Inv o (a ∷ l) s.tree → Inv o l (remove_dir c s.tree) →
    Undone o a l (remove_directory c ∷ []) s
unfolding apply
undone-dir {o} c s e h i =
    undone-one (remove_directory c) s refl h i
    (λ d n g z p. look-drop-other c (d, n) s.tree (λ y. none≢some (sym e ∙ ap (λ (b : Name). look (b, []) o) y ∙ z.1)))

undo_create_lem : (o : Map) → OldTree o → (c : Name) (l : List Op) (s : Store) → OpGood o (create_collection c) → Inv o (create_collection c ∷ l) s.tree →
    Undone o (create_collection c) l (undo_steps (create_collection c) s) s
unfolding undo_steps
undo_create_lem o old c l s good h = go (look (c, []) s.tree) refl (files c s.tree) refl
  where
    left : ((d : Name) → MakesDir s.tree d (create_collection c) → Empty d s.tree) → Undone o (create_collection c) l [] s
    left k = undone-none h (inv-less old (λ j z. z) (λ d m e u. k d m) h)

    go : (a : Option ℕ) → look (c, []) s.tree ≡ a → (fs : List Name) → files c s.tree ≡ fs →
        Undone o (create_collection c) l (if_present a (if_empty fs (remove_directory c ∷ []) [])) s
    go none p fs q = left (λ d m. within-empty s.tree d h.inside (ap (λ (n : Name). look (n, []) s.tree) m.0 ∙ p))
    go (some x) p [] q = undone-dir c s good.1 h (inv-gone c good.0.dir old (λ j z. z) (λ d m. m.0) (within-empty o c old.within good.1) h)
    go (some x) p (n ∷ fs) q = left (λ d m. absurd (stray d m))
      where
        i : In n (files c s.tree)
        i = subst (In n) (sym q) (inl refl)

        stray : (d : Name) → MakesDir s.tree d (create_collection c) → ⊥
        stray d m = none≢some (sym (m.1 n (files-named c s.tree n i)) ∙ ap (λ (b : Name). look (b, n) s.tree) m.0 ∙ (files_in c n s.tree i).1)

undo_copy_lem : (o : Map) → OldTree o → (a b : Name) (x : Bool) (l : List Op) (s : Store) → OpGood o (copy_collection a b x) →
    Inv o (copy_collection a b x ∷ l) s.tree →
    Undone o (copy_collection a b x) l (undo_steps (copy_collection a b x) s) s
unfolding undo_steps
undo_copy_lem o old a b x l s good h = go x good.1 (look (b, []) s.tree) refl (look (backup_name b, []) s.tree) refl
  where
    left : (Empty b o → Unbacked b s.tree → Empty b s.tree) → Undone o (copy_collection a b x) l [] s
    left k = undone-none h (inv-less old (λ j z. z) (λ d m e u. rw m (k (rw m at e) (rw m at u))) h)

    go : (y : Bool) → y ≡ is_some (look (b, []) o) → (p : Option ℕ) → look (b, []) s.tree ≡ p → (q : Option ℕ) → look (backup_name b, []) s.tree ≡ q →
        Undone o (copy_collection a b x) l (if◌then◌else◌ y [] (if_present p (if_missing q (remove_directory b ∷ [])))) s
    go true z p e q f = left (λ n u. none≢some (sym (n []) ∙ (is-some (look (b, []) o) z).1))
    go false z none e q f = left (λ n u. within-empty s.tree b h.inside e)
    go false z (some v) e (some k) f = left (λ n u. none≢some (sym (u (backup_name b) [] (original-backup b good.0.named)) ∙ f))
    go false z (some v) e none f =
        let n = is_none (look (b, []) o) z in
        undone-dir b s n h (inv-gone b good.0.dir old (λ j z. z) (λ d m. m) (within-empty o b old.within n) h)

undo-one : (o : Map) → OldTree o → (a : Op) (l : List Op) (s : Store) → OpGood o a → Safe o (a ∷ l) s.tree → Inv o (a ∷ l) s.tree →
    Undone o a l (undo_steps a s) s
undo-one o old (write w) l s good safe h = undo-write o w l s good (safe w (inl refl)) h
undo-one o old (delete c k) l s good safe h = unfold undo_steps in (undone-none h (inv-less old (λ j z. z) (λ d m e u. absurd m) h))
undo-one o old (delete_all c) l s good safe h = unfold undo_steps in (undone-none h (inv-less old (λ j z. z) (λ d m e u. absurd m) h))
undo-one o old (create_collection c) l s good safe h = undo_create_lem o old c l s good h
undo-one o old (delete_collection c) l s good safe h = unfold undo_steps in (undone-none h (inv-less old (λ j z. z) (λ d m e u. absurd m) h))
undo-one o old (copy_collection a b x) l s good safe h = undo_copy_lem o old a b x l s good h

-- Every step of it keeps what can be undone.
pub undo-all : (o : Map) → OldTree o → (log : Option Bytes) (l : List Op) (s : Store) → AllGood o l → Safe o l s.tree → Undoes o l log s →
    Through (Undoes o l log) (in_turn undo_steps l s) s × Undoes o [] log (apply_all (in_turn undo_steps l s) s)
undo-all o old log [] s good safe h = (h, h)
undo-all o old log (a ∷ l) s good safe h =
    let ys = in_turn undo_steps l v in
    let here = through-map (Undoes o (a ∷ l) s.log) (Undoes o (a ∷ l) log) (λ u i. record { inv = i.inv; same = i.same ∙ h.same }) xs s one.through in
    let rest = undo-all o old log l v (λ b p. good b (inr p)) still record { inv = one.after.inv; same = one.after.same ∙ h.same } in
    let more = through-map (Undoes o l log) (Undoes o (a ∷ l) log) wider ys v rest.0 in
    (through_append (Undoes o (a ∷ l) log) xs ys s here more, rw (apply_all_append xs ys s) rest.1)
  where
    xs : List Step
    xs = undo_steps a s

    v : Store
    v = apply_all xs s

    one : Undone o a l xs s
    one = undo-one o old a l s (good a (inl refl)) safe h.inv

    wider : (u : Store) → Undoes o l log u → Undoes o (a ∷ l) log u
    wider u i = record { inv = inv-more (a ∷ l) (λ d f r. inr r) (λ d r. inr r) i.inv; same = i.same }

    still : Safe o l v.tree
    still w i e z =
        let b = safe w (inr i) e z in (
          b.0,
          one.spares w.collection (backup_name w.key) w.key (old.within w.collection w.key z)
              (original-backup w.key (good (write w) (inr i)).key.named) ∙ b.1,
        )

-- Recovery's second pass: backups of files and of directories take their originals' places.
use Rattle.std.specs.Prelude.{◌≡◌, ℕ, ◌⊎◌}
use Rattle.std.proofs.Math.Path.{refl, ap}
use Rattle.std.proofs.Common.{sym, ◌∙◌, subst}
use mathlib.Core.List.{List, [], ◌∷◌, ◌++◌}
use Rattle.std.proofs.Math.Option.{Option, none, some}
use Rattle.std.proofs.Math.Logic.{inl, inr}
use Rattle.basics.specs.Order.{Name, Key}
use Rattle.basics.specs.Map.{Map, look, put, del, Has}
use Rattle.basics.specs.Base.{Bytes, In, case_option, if_present}
use Rattle.basics.specs.Name.{backup_name, original_name, strip_tmp}
use Rattle.model.specs.Store.{Store, dirs, files}
use Rattle.model.specs.Step.{Step, remove_file, rename_file, remove_directory, rename_directory, remove_dir, rename_dir, apply, apply_all}
use Rattle.model.specs.Plan.{in_turn, restore_file, restore_directory, restore_backups}
use Rattle.basic_laws.specs.MapLaws.{Sorted, none≢some, some_inj, look-put-same, look-put-other, look-del-same, look-del-other, sorted-put, sorted-del}
use Rattle.basic_laws.specs.NameLaws.{original-some, original-nil, original-named}
use Rattle.laws.specs.StoreLaws.{name_dec, look-drop-other, look-drop-same, sorted-drop, look-move-other, sorted-move}
use Rattle.laws.specs.Listings.{dirs_in, dirs-has, files-has, files_in, files-named, files-once, dirs-once, Once}
use Rattle.cut_rule.proofs.StoreRule.{Within, OldTree, old-file}
use Rattle.cut_rule.proofs.Walk.{Through, through-end, Swept, sweep}
use Rattle.cut_rule.proofs.Files.{FileState, kept, new, backed, BackupState, name-apart, files-like, files-same, files-drop, files_restore, dir-eq}
use Rattle.cut_rule.proofs.Files.{file-eq}
use Rattle.cut_rule.proofs.Directories.{Empty, OnlyIn, OnceIn, NewFile, FilesIn, Unbacked, contents, DirState, within, fresh, moved, Inv, within-empty}
use Rattle.cut_rule.proofs.Directories.{within-put, within-del, within-drop, del-none, move-to, move-from, within-move, inv_in, ChangedWhole, inv-whole}
use Rattle.cut_rule.proofs.Directories.{inv-final}
use Rattle.cut_rule.proofs.Undo.{Undoes}

-- A file rename, whether its source stands or not.
abbrev renamed : Name → Name → Name → Map → Option ℕ → Map
renamed d f g t q = case_option q t (λ x. put (d, g) x (del (d, f) t))

rename_effect : (d f g : Name) (t : Map) (q : Option ℕ) → look (d, f) t ≡ q → original_name f ≡ some g → Sorted t → Within t → OnceIn d t →
    Sorted (renamed d f g t q) × Within (renamed d f g t q) × OnlyIn d t (renamed d f g t q) × OnceIn d (renamed d f g t q)
rename_effect d f g t none p b s w h = (s, w, λ e k n. refl, h)
rename_effect d f g t (some x) p b s w h = (
  sorted-put (d, g) x (del (d, f) t) (sorted-del (d, f) t s),
  within-put (del (d, f) t) d g x (within-del t d f w named)
      (inr (let i = w d f (x, p) in (i.0, look-del-other (d, f) (d, []) t (λ y. named (sym (file-eq y))) ∙ i.1))),
  λ e k n. look-put-other (d, g) (e, k) x (del (d, f) t) (λ y. n (dir-eq y)) ∙ look-del-other (d, f) (e, k) t (λ y. n (dir-eq y)),
  λ n c k r z.
      look-put-other (d, g) (d, n) x (del (d, f) t) (λ y. none≢some (sym (h f g c b (ap original_name (sym (file-eq y)) ∙ r)) ∙ p))
      ∙ del-none (d, f) (d, n) t (h n c k r z),
)
  where
    named : f ≡ [] → ⊥
    named z = name-apart original-nil b (sym z)

module _ (o : Map) (old : OldTree o) (log : Option Bytes) where
  abbrev I : Store → Type 0
  I = Undoes o [] log

  -- A change of the files of one plain directory.
  inv-file : {t v : Map} (d : Name) → original_name d ≡ none → Inv o [] t → Sorted v → Within v → OnlyIn d t v → OnceIn d v →
      (Unbacked d t → FilesIn o [] d t → FilesIn o [] d v) → Inv o [] v
  inv-file {t} {v} d p h s w a one g =
      inv_in p h record { sorted = s; inside = w; agrees = a; files = λ e k n r. r; makes = λ e n r. r; here = here; once = one }
    where
      off : (e k : Name) → original_name e ≡ some d → look (e, k) v ≡ look (e, k) t
      off e k q = a e k (λ y. name-apart p q (sym y))

      here : DirState o [] t d → DirState o [] v d
      here (within i z) = within (g z i) (λ e k q. off e k q ∙ z e k q)
      here (fresh r y z) = absurd r
      here (moved e q i z) = moved e q i (λ k. off e k q ∙ z k)

  -- The backup of a directory stands.
  Behind : Name → Store → Type 0
  Behind d u = (e : Name) × (original_name e ≡ some d) × Has (e, []) u.tree

  behind-unbacked : (d : Name) (u : Store) → Unbacked d u.tree → Behind d u → ⊥
  unfolding Behind
  behind-unbacked d u z b = none≢some (sym (z b.0 [] b.1) ∙ b.2.1)

  behind-like : (d : Name) (u v : Store) → ((e : Name) → original_name e ≡ some d → look (e, []) v.tree ≡ look (e, []) u.tree) → Behind d u → Behind d v
  unfolding Behind
  behind-like d u v a b = (b.0, b.1, (b.2.0, a b.0 b.1 ∙ b.2.1))

  -- One file f of a plain directory d: where d is in place, f's backup goes and the others stay.
  record FileDone (d f : Name) (xs : List Step) (s : Store) : Type 0 where
    through : Through I xs s
    others : OnlyIn d s.tree (apply_all xs s).tree
    backups : Unbacked d s.tree → (n g : Name) → original_name n ≡ some g →
        ((n ≡ f → ⊥) → look (d, n) (apply_all xs s).tree ≡ look (d, n) s.tree) × (n ≡ f → look (d, n) (apply_all xs s).tree ≡ none)

  module _ (d f : Name) (p : original_name d ≡ none) (named : f ≡ [] → ⊥) (s : Store) (h : I s) where
    t : Map
    t = s.tree

    -- A file k of d goes.
    dropped : (k : Name) → (k ≡ [] → ⊥) → (Unbacked d s.tree → FilesIn o [] d s.tree → FilesIn o [] d (del (d, k) s.tree)) →
        I (apply (remove_file d k) s) × OnlyIn d s.tree (del (d, k) s.tree) × OnceIn d (del (d, k) s.tree)
    unfolding apply t
    dropped k n g = (
      record { inv = inv-file d p h.inv (sorted-del (d, k) t h.inv.sorted) (within-del t d k h.inv.inside n) off one g; same = h.same },
      off,
      one,
    )
      where
        off : OnlyIn d t (del (d, k) t)
        off e j m = look-del-other (d, k) (e, j) t (λ y. m (dir-eq y))

        one : OnceIn d (del (d, k) t)
        one m b c q r = del-none (d, k) (d, m) t (h.inv.files_once d m b c q r)

    -- A.tmp name: it does not stand where d is in place.
    gone_tmp : original_name f ≡ none → (g : Name) → strip_tmp f ≡ some g → FileDone d f (remove_file d f ∷ []) s
    unfolding apply t
    gone_tmp a g b = record {
      through = (h, drop.0);
      others = drop.1;
      backups = λ z n k q. (λ e. look-del-other (d, f) (d, n) t (λ y. e (file-eq y)), λ e. absurd (name-apart a q (sym e)));
    }
      where
        old-none : (q : Option ℕ) → look (d, f) o ≡ q → look (d, f) o ≡ none
        old-none none e = e
        old-none (some x) e = none≢some (sym (old.plain d f (x, e)).1.no_tmp ∙ b)

        missing : FileState (contents d o) (NewFile [] d) (contents d t) f → look (d, f) t ≡ none
        missing (kept q) = q ∙ old-none (look (d, f) o) refl
        missing (new r q) = absurd r
        missing (backed m i q) = none≢some (sym (old-none (look (d, f) o) refl) ∙ i.1)

        eq : FilesIn o [] d t → (k : Name) → Dec (k ≡ f) → look (d, k) (del (d, f) t) ≡ look (d, k) t
        eq i k (yes y) = rw y (look-del-same (d, f) t ∙ sym (missing (i.plain f a)))
        eq i k (no y) = look-del-other (d, f) (d, k) t (λ e. y (file-eq e))

        drop : I (apply (remove_file d f) s) × OnlyIn d t (del (d, f) t) × OnceIn d (del (d, f) t)
        drop = dropped f named (λ z i. files-like (λ k. eq i k (name_dec k f)) (λ k r. r) i)

    -- A backup.
    module _ (g : Name) (b : original_name f ≡ some g) (stands : Has (d, f) s.tree ⊎ Behind d s) where
      f_is : f ≡ backup_name g
      f_is = original-some f g b

      g_named : g ≡ [] → ⊥
      g_named = original-named f g b

      has : Unbacked d s.tree → Has (d, f) s.tree
      has z = go stands
        where
          go : Has (d, f) s.tree ⊎ Behind d s → Has (d, f) s.tree
          go (inl i) = i
          go (inr i) = absurd (behind-unbacked d s z i)

      -- Where its directory is in place, it holds the old file, which is plain.
      in_place_lem : Unbacked d s.tree → FilesIn o [] d s.tree
      in_place_lem z = go (h.inv.states d p)
        where
          go : DirState o [] s.tree d → FilesIn o [] d s.tree
          go (within i y) = i
          go (fresh r i y) = absurd r
          go (moved a c i y) = absurd (behind-unbacked d s z (unfold Behind in (a, c, (i.0, y [] ∙ i.1))))

      holds : Unbacked d s.tree → (original_name g ≡ none) × (look (d, f) s.tree ≡ look (d, g) o)
      holds z = go ((in_place_lem z).backups f g b)
        where
          go : BackupState (contents d o) (contents d s.tree) f g → (original_name g ≡ none) × (look (d, f) s.tree ≡ look (d, g) o)
          go (inl q) = none≢some (sym q ∙ (has z).1)
          go (inr q) = q

      f≢g : Unbacked d s.tree → f ≡ g → ⊥
      f≢g z e = name-apart (holds z).0 b (sym e)

      -- It is renamed, once the original is removed or was missing.
      put_back : (u : Store) → Sorted u.tree → Within u.tree → OnceIn d u.tree → u.log ≡ log →
          ((j : Key) → (j ≡ (d, g) → ⊥) → look j u.tree ≡ look j s.tree) →
          (xs : List Step) → apply_all xs s ≡ apply (rename_file d f g) u → (I (apply (rename_file d f g) u) → Through I xs s) → FileDone d f xs s
      unfolding apply t
      put_back u sorted inside lone same a xs e i = record {
        through = i record { inv = inv-file d p h.inv fx.0 fx.1 other fx.3 files; same = same };
        others = rw e other;
        backups = λ z n k q. rw e (λ m. at_other z n (λ y. name-apart (holds z).0 q (sym y)) m, λ m. rw m (at_f z));
      }
        where
          v : Map
          v = renamed d f g u.tree (look (d, f) u.tree)

          fx : Sorted v × Within v × OnlyIn d u.tree v × OnceIn d v
          fx = rename_effect d f g u.tree (look (d, f) u.tree) refl b sorted inside lone

          other : OnlyIn d t v
          other e k n = fx.2 e k n ∙ a (e, k) (λ y. n (dir-eq y))

          off : (j : Name) → (j ≡ g → ⊥) → ◌≡◌ {A = Key} (d, j) (d, g) → ⊥
          off j n y = n (file-eq y)

          -- The tree then.
          is : (z : Unbacked d t) → v ≡ put (d, g) (has z).0 (del (d, f) u.tree)
          is z = ap (renamed d f g u.tree) (a (d, f) (off f (f≢g z)) ∙ (has z).1)

          at_other : Unbacked d t → (j : Name) → (j ≡ g → ⊥) → (j ≡ f → ⊥) → look (d, j) v ≡ look (d, j) t
          at_other z j n m =
              rw (is z) (look-put-other (d, g) (d, j) (has z).0 (del (d, f) u.tree) (off j n)
              ∙ look-del-other (d, f) (d, j) u.tree (λ y. m (file-eq y)) ∙ a (d, j) (off j n))

          at_f : Unbacked d t → look (d, f) v ≡ none
          at_f z = rw (is z) (look-put-other (d, g) (d, f) (has z).0 (del (d, f) u.tree) (off f (f≢g z)) ∙ look-del-same (d, f) u.tree)

          files : Unbacked d t → FilesIn o [] d t → FilesIn o [] d v
          files z i =
              files_restore (holds z).0 g_named i (λ j n m. at_other z j n (λ y. m (y ∙ f_is)))
              (rw (is z) (look-put-same (d, g) (has z).0 (del (d, f) u.tree)) ∙ sym (has z).1 ∙ (holds z).1)
              (ap (λ (n : Name). look (d, n) v) (sym f_is) ∙ at_f z)

      backup-done : (q : Option ℕ) → FileDone d f (if_present q (remove_file d g ∷ []) ++ rename_file d f g ∷ []) s
      backup-done none = put_back s h.inv.sorted h.inv.inside (h.inv.files_once d) h.same (λ j e. refl) (rename_file d f g ∷ []) refl (λ i. (h, i))
      backup-done (some x) =
          put_back (apply (remove_file d g) s) drop.0.inv.sorted drop.0.inv.inside (unfold apply in drop.2) drop.0.same
          (λ j e. unfold apply in (look-del-other (d, g) j s.tree e)) (remove_file d g ∷ rename_file d f g ∷ []) refl (λ i. (h, (drop.0, i)))
        where
          drop : I (apply (remove_file d g) s) × OnlyIn d s.tree (del (d, g) s.tree) × OnceIn d (del (d, g) s.tree)
          drop = dropped g g_named
              (λ z i. files-drop (holds z).0 g_named i (λ j n. look-del-other (d, g) (d, j) s.tree (λ y. n (file-eq y)))
              ((has z).0, ap (λ (n : Name). look (d, n) s.tree) (sym f_is) ∙ (has z).1))

    file-done : ((g : Name) → original_name f ≡ some g → Has (d, f) s.tree ⊎ Behind d s) → FileDone d f (restore_file d f s) s
    unfolding restore_file
    file-done stands = go (original_name f) refl (strip_tmp f) refl
      where
        go : (q : Option Name) → original_name f ≡ q → (r : Option Name) → strip_tmp f ≡ r →
            FileDone d f
            (case_option q (if_present r (remove_file d f ∷ [])) λ g. if_present (look (d, g) s.tree) (remove_file d g ∷ []) ++ rename_file d f g ∷ []) s
        go none e none r = record { through = h; others = λ e k n. refl; backups = λ z n g q. (λ m. refl, λ m. absurd (name-apart e q (sym m))) }
        go none e (some g) r = gone_tmp e g r
        go (some g) e r x = backup-done g e (stands g e) (look (d, g) s.tree)

  -- A plain directory: every backup in it is put back, or its own backup stands.
  FileClear : Name → Name → Store → Type 0
  FileClear d f u = (g : Name) → original_name f ≡ some g → (look (d, f) u.tree ≡ none) ⊎ Behind d u

  -- What is still to be walked, each once, and stands.
  record Listed (d : Name) (s : Store) (l : List Name) (u : Store) : Type 0 where
    once : Once l
    named : (f : Name) → In f l → f ≡ [] → ⊥
    stands : (f g : Name) → In f l → original_name f ≡ some g → Has (d, f) u.tree ⊎ Behind d u
    others : OnlyIn d s.tree u.tree

  module _ (d : Name) (p : original_name d ≡ none) (s : Store) (h : I s) where
    each-file : (f : Name) (r : List Name) (u : Store) → Listed d s (f ∷ r) u → I u →
        Swept I (FileClear d) f (restore_file d f u) u × Listed d s r (apply_all (restore_file d f u) u)
    unfolding FileClear
    each-file f r u k i = go (i.inv.states d p)
      where
        v : Store
        v = apply_all (restore_file d f u) u

        one : FileDone d f (restore_file d f u) u
        one = file-done d f p (k.named f (inl refl)) u i (λ g e. k.stands f g (inl refl) e)

        rest : ((n g : Name) → In n r → original_name n ≡ some g → Has (d, n) v.tree ⊎ Behind d v) → Listed d s r v
        rest q = record { once = k.once.1; named = λ n j. k.named n (inr j); stands = q; others = λ e n m. one.others e n m ∙ k.others e n m }

        go : DirState o [] u.tree d → Swept I (FileClear d) f (restore_file d f u) u × Listed d s r v
        go (fresh q y z) = absurd q
        go (moved e q y z) =
            let b : Behind d v = behind-like d u v (λ e q. one.others e [] (λ y. name-apart p q (sym y))) (unfold Behind in (e, q, (y.0, z [] ∙ y.1))) in
            ((one.through, λ g e. inr b, λ n c g e. inr b), rest (λ n g j e. inr b))
        go (within y z) = (
          (one.through, λ g e. inl ((one.backups z f g e).1 refl), λ n c g e. inl (clear n g e (name_dec n f) (c g e))),
          rest (λ n g j e. inl (still n g j e (k.stands n g (inr j) e))),
        )
          where
            clear : (n g : Name) → original_name n ≡ some g → Dec (n ≡ f) → (look (d, n) u.tree ≡ none) ⊎ Behind d u → look (d, n) v.tree ≡ none
            clear n g e (yes m) c = (one.backups z n g e).1 m
            clear n g e (no m) (inl c) = (one.backups z n g e).0 m ∙ c
            clear n g e (no m) (inr c) = absurd (behind-unbacked d u z c)

            still : (n g : Name) → In n r → original_name n ≡ some g → Has (d, n) u.tree ⊎ Behind d u → Has (d, n) v.tree
            still n g j e (inl c) = (c.0, (one.backups z n g e).0 (λ m. k.once.0 (rw m at j)) ∙ c.1)
            still n g j e (inr c) = absurd (behind-unbacked d u z c)

    all-files : let l = files d s.tree in
        Through I (in_turn (restore_file d) l s) s × Listed d s [] (apply_all (in_turn (restore_file d) l s) s)
        × ((f : Name) → In f l ⊎ FileClear d f s → FileClear d f (apply_all (in_turn (restore_file d) l s) s))
    all-files = sweep (restore_file d) (Listed d s) I (FileClear d) each-file (files d s.tree) s
        record {
          once = files-once d s.tree h.inv.sorted;
          named = files-named d s.tree;
          stands = λ f g i e. inl (files_in d f s.tree i);
          others = λ e k n. refl;
        } h

    all-clear : (n : Name) → FileClear d n (apply_all (in_turn (restore_file d) (files d s.tree) s) s)
    unfolding FileClear
    all-clear n g e = all-files.2 n (go (look (d, n) s.tree) refl) g e
      where
        go : (q : Option ℕ) → look (d, n) s.tree ≡ q → In n (files d s.tree) ⊎ FileClear d n s
        go none q = inr (λ g e. inl q)
        go (some x) q = inl (files-has d n s.tree (λ z. name-apart original-nil e (sym z)) (x, q))

  -- A directory in its turn: a plain one is cleared of backups, or has one behind it; one that is a backup is gone.
  record DirClear (e : Name) (u : Store) : Type 0 where
    plainly : original_name e ≡ none → (n : Name) → FileClear e n u
    gone : (g : Name) → original_name e ≡ some g → Empty e u.tree

  record DirsListed (l : List Name) (u : Store) : Type 0 where
    once : Once l
    stands : (e g : Name) → In e l → original_name e ≡ some g → Has (e, []) u.tree

  plain-dir : (d : Name) (r : List Name) (s : Store) → original_name d ≡ none → DirsListed (d ∷ r) s → I s →
      Swept I DirClear d (in_turn (restore_file d) (files d s.tree) s) s × DirsListed r (apply_all (in_turn (restore_file d) (files d s.tree) s) s)
  unfolding FileClear
  plain-dir d r s p k h = (
    (all.0, here, keep),
    record { once = k.once.1; stands = λ e g j q. let i = k.stands e g (inr j) q in (i.0, off e [] (λ y. name-apart p q (sym y)) ∙ i.1) },
  )
    where
      v : Store
      v = apply_all (in_turn (restore_file d) (files d s.tree) s) s

      all : Through I (in_turn (restore_file d) (files d s.tree) s) s × Listed d s [] v
          × ((f : Name) → In f (files d s.tree) ⊎ FileClear d f s → FileClear d f v)
      all = all-files d p s h

      off : OnlyIn d s.tree v.tree
      off = all.1.others

      here : DirClear d v
      here = record { plainly = λ q n. all-clear d p s h n; gone = λ g q. none≢some (sym p ∙ q) }

      keep : (b : Name) → DirClear b s → DirClear b v
      keep b c = go (name_dec b d)
        where
          go : Dec (b ≡ d) → DirClear b v
          go (yes y) = subst (λ (e : Name). DirClear e v) (sym y) here
          go (no y) = record { plainly = λ q n g e. at n q (c.plainly q n g e); gone = λ g q f. off b f y ∙ c.gone g q f }
            where
              at : (n : Name) → original_name b ≡ none → (look (b, n) s.tree ≡ none) ⊎ Behind b s → (look (b, n) v.tree ≡ none) ⊎ Behind b v
              at n q (inl z) = inl (off b n y ∙ z)
              at n q (inr z) = inr (behind-like b s v (λ e m. off e [] (λ x. name-apart p m (sym x))) z)

  -- The backup d of a directory g takes its place.
  module _ (d g : Name) (b : original_name d ≡ some g) (s : Store) (h : I s) (stands : Has (d, []) s.tree) where
    plain_g : original_name g ≡ none
    plain_g = go (original_name g) refl
      where
        go : (q : Option Name) → original_name g ≡ q → original_name g ≡ none
        go none e = e
        go (some k) e = none≢some (sym (h.inv.dirs_once d g k b e []) ∙ stands.1)

    d≢g : d ≡ g → ⊥
    d≢g e = name-apart plain_g b (sym e)

    -- It is the only backup of g.
    only : (e : Name) → original_name e ≡ some g → e ≡ d
    only e q = original-some e g q ∙ sym (original-some d g b)

    -- It holds the old directory.
    record HoldsOld : Type 0 where
      stood : Has (g, []) o
      holds : (f : Name) → look (d, f) s.tree ≡ look (g, f) o

    is-old : HoldsOld
    is-old = go (h.inv.states g plain_g)
      where
        go : DirState o [] s.tree g → HoldsOld
        go (within i z) = none≢some (sym (z d [] b) ∙ stands.1)
        go (fresh r i z) = absurd r
        go (moved e q i z) = record { stood = i; holds = λ f. ap (λ (n : Name). look (n, f) s.tree) (sym (only e q)) ∙ z f }

    record Swapped (xs : List Step) : Type 0 where
      through : Through I xs s
      gone : Empty d (apply_all xs s).tree
      back : (f : Name) → look (g, f) (apply_all xs s).tree ≡ look (g, f) o
      others : (e k : Name) → (e ≡ d → ⊥) → (e ≡ g → ⊥) → look (e, k) (apply_all xs s).tree ≡ look (e, k) s.tree

    -- Once the original is removed or was missing.
    swap : (u : Store) → I u → Empty g u.tree → OnlyIn g s.tree u.tree → (xs : List Step) → apply_all xs s ≡ apply (rename_directory d g) u →
        (I (apply (rename_directory d g) u) → Through I xs s) → Swapped xs
    unfolding apply
    swap u i free a xs e k = record {
      through = k record { inv = inv-whole plain_g i.inv changed; same = i.same };
      gone = rw e from;
      back = rw e there;
      others = rw e (λ e k n m. look-move-other d g d≢g e k t t n m ∙ a e k m);
    }
      where
        t : Map
        t = u.tree

        v : Map
        v = rename_dir d g t t

        from : Empty d v
        from = move-from d g d≢g t i.inv.sorted free

        there : (f : Name) → look (g, f) v ≡ look (g, f) o
        there f = move-to d g d≢g t i.inv.sorted free f ∙ a d f d≢g ∙ is-old.holds f

        lone : (e : Name) → (e ≡ g) ⊎ (original_name e ≡ some g) → OnceIn e v
        lone e (inl y) n m k p q = ap (λ (a : Name). look (a, n) v) y ∙ there n ∙ old-file old g n m p
        lone e (inr y) n m k p q = ap (λ (a : Name). look (a, n) v) (only e y) ∙ from n

        changed : ChangedWhole o [] t v g
        changed = record {
          sorted = sorted-move d g d≢g t t i.inv.sorted;
          inside = within-move d g d≢g t i.inv.sorted free i.inv.inside;
          agrees = λ e k n m. look-move-other d g d≢g e k t t (λ y. m (ap original_name y ∙ b)) n;
          here = within (files-same there (old-file old g)) (λ e f q. ap (λ (n : Name). look (n, f) v) (only e q) ∙ from f);
          once = lone;
        }

    swapped : (q : Option ℕ) → look (g, []) s.tree ≡ q → Swapped (if_present q (remove_directory g ∷ []) ++ rename_directory d g ∷ [])
    swapped none e = swap s h (within-empty s.tree g h.inv.inside e) (λ e k n. refl) (rename_directory d g ∷ []) refl (λ i. (h, i))
    swapped (some x) e =
        swap u i (unfold apply in (λ f. look-drop-same g (g, f) s.tree refl)) (unfold apply in off) (remove_directory g ∷ rename_directory d g ∷ []) refl
        (λ j. (h, (i, j)))
      where
        u : Store
        u = apply (remove_directory g) s

        off : OnlyIn g s.tree (remove_dir g s.tree)
        off e k n = look-drop-other g (e, k) s.tree (λ y. n (sym y))

        i : I u
        i = unfold apply in record {
          inv = inv_in plain_g h.inv record {
            sorted = sorted-drop g s.tree h.inv.sorted;
            inside = within-drop s.tree g h.inv.inside;
            agrees = off;
            files = λ e k n r. r;
            makes = λ e n r. r;
            here = λ z. moved d b is-old.stood (λ f. off d f d≢g ∙ is-old.holds f);
            once = λ n m k p q. look-drop-same g (g, n) s.tree refl;
          };
          same = h.same;
        }

    backup-dir : (r : List Name) → DirsListed (d ∷ r) s → (xs : List Step) → Swapped xs → Swept I DirClear d xs s × DirsListed r (apply_all xs s)
    unfolding FileClear
    backup-dir r k xs z = (
      (z.through, here, keep),
      record {
        once = k.once.1;
        stands = λ e c j q. let i = k.stands e c (inr j) q in (i.0, z.others e [] (λ y. k.once.0 (rw y at j)) (λ y. name-apart plain_g q (sym y)) ∙ i.1);
      },
    )
      where
        v : Store
        v = apply_all xs s

        here : DirClear d v
        here = record { plainly = λ q. none≢some (sym q ∙ b); gone = λ c q. z.gone }

        keep : (e : Name) → DirClear e s → DirClear e v
        keep e c = record { plainly = λ q n m w. plainly q n m w (name_dec e g); gone = λ m q f. gone m q f (name_dec e d) }
          where
            at : (n : Name) → original_name e ≡ none → (e ≡ g → ⊥) → (look (e, n) s.tree ≡ none) ⊎ Behind e s → (look (e, n) v.tree ≡ none) ⊎ Behind e v
            at n q y (inl w) = inl (z.others e n (λ x. none≢some (sym q ∙ ap original_name x ∙ b)) y ∙ w)
            at n q y (inr w) =
                inr (behind-like e s v (λ a m. z.others a [] (λ x. y (some_inj (sym m ∙ ap original_name x ∙ b))) (λ x. name-apart plain_g m (sym x))) w)

            plainly : original_name e ≡ none → (n m : Name) → original_name n ≡ some m → Dec (e ≡ g) → (look (e, n) v.tree ≡ none) ⊎ Behind e v
            plainly q n m w (yes y) = inl (ap (λ (a : Name). look (a, n) v.tree) y ∙ z.back n ∙ old-file old g n m w)
            plainly q n m w (no y) = at n q y (c.plainly q n m w)

            gone : (m : Name) → original_name e ≡ some m → (f : Name) → Dec (e ≡ d) → look (e, f) v.tree ≡ none
            gone m q f (yes y) = ap (λ (a : Name). look (a, f) v.tree) y ∙ z.gone f
            gone m q f (no y) = z.others e f y (λ x. name-apart plain_g q (sym x)) ∙ c.gone m q f

  each-dir : (d : Name) (r : List Name) (s : Store) → DirsListed (d ∷ r) s → I s →
      Swept I DirClear d (restore_directory d s) s × DirsListed r (apply_all (restore_directory d s) s)
  unfolding restore_directory
  each-dir d r s k h = go (original_name d) refl
    where
      go : (q : Option Name) → original_name d ≡ q →
          let xs =
          case_option q (in_turn (restore_file d) (files d s.tree) s)
          (λ g. if_present (look (g, []) s.tree) (remove_directory g ∷ []) ++ rename_directory d g ∷ []) in
          Swept I DirClear d xs s × DirsListed r (apply_all xs s)
      go none e = plain-dir d r s e k h
      go (some g) e = let i = k.stands d g (inl refl) e in backup-dir d g e s h i r k _ (swapped d g e s h i (look (g, []) s.tree) refl)

  -- The tree is the old one then.
  pub restore_all : (s : Store) → I s → Through I (restore_backups s) s × ((apply_all (restore_backups s) s).tree ≡ o)
  unfolding FileClear Behind
  restore_all s h = (all.0, inv-final old (through-end I (restore_backups s) s all.0).inv no-dirs (λ d n g p q. no-file d n ((clear d).plainly p n g q)))
    where
      v : Store
      v = apply_all (restore_backups s) s

      all : Through I (restore_backups s) s × DirsListed [] v × ((d : Name) → In d (dirs s.tree) ⊎ DirClear d s → DirClear d v)
      all =
          sweep restore_directory DirsListed I DirClear each-dir (dirs s.tree) s
          record { once = dirs-once s.tree h.inv.sorted; stands = λ e g i q. dirs_in e s.tree i } h

      clear : (d : Name) → DirClear d v
      clear d = all.2 d (go (look (d, []) s.tree) refl)
        where
          go : (q : Option ℕ) → look (d, []) s.tree ≡ q → In d (dirs s.tree) ⊎ DirClear d s
          go none q = let z = within-empty s.tree d h.inv.inside q in inr record { plainly = λ p n g e. inl (z n); gone = λ g p. z }
          go (some x) q = inl (dirs-has d s.tree (x, q))

      no-dirs : (d f g : Name) → original_name d ≡ some g → look (d, f) v.tree ≡ none
      no-dirs d f g p = (clear d).gone g p f

      no-file : (d n : Name) → (look (d, n) v.tree ≡ none) ⊎ Behind d v → look (d, n) v.tree ≡ none
      no-file d n (inl z) = z
      no-file d n (inr z) = none≢some (sym (no-dirs z.0 [] d z.1) ∙ z.2.1)

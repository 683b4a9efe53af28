-- What the steps of a copy make of a tree, and when one of them fails: for a destination whose backup's name is free.
use Rattle.std.specs.Prelude.{◌≡◌, Bool, ◌&&◌, if◌then◌else◌}
use Rattle.std.proofs.Math.Path.{refl, sym, ap}
use Rattle.std.proofs.Common.{◌∙◌, subst, inl, inr}
use Prim.Native.Nat.{ℕ, suc, ◌+◌, ◌≤◌}
use native.Mathlib.Omega.{arith}
use mathlib.Core.List.{List, [], ◌∷◌, ◌++◌, map}
use Rattle.std.proofs.Math.Option.{Option, none, some}
use Rattle.std.proofs.Math.Bool.{true, false}
use Rattle.std.proofs.Math.ListN.{length}
use Rattle.std.proofs.Math.Dec.{leb, ltb, nltb→le}
use Rattle.basics.specs.Limits.{name_limit}
use Rattle.basics.specs.Order.{Name, Key}
use Rattle.basics.specs.Map.{Map, look, put, Has}
use Rattle.basics.specs.Base.{In, case_option, if_present}
use Rattle.basics.specs.Name.{backup_name}
use Rattle.model.specs.Operation.{copy_collection}
use Rattle.model.specs.Store.{Store, files}
use Rattle.model.specs.Step.{Step, make_directory, rename_directory, copy_file, rename_dir, apply, apply_all, Fault, full, step_fault}
use Rattle.model.specs.Plan.{op_steps, first_fault}
use Rattle.basic_laws.specs.MapLaws.{Sorted, none≢some, look-put-same, look-put-other, sorted-put, ext}
use Rattle.basic_laws.specs.Tests.{leb_le, le-leb}
use Rattle.basic_laws.specs.ValidNames.{backup-apart}
use Rattle.laws.specs.TreeLaws.{size, is_file, is_dir, file-size, dir-size, size-put-light, size-put-new}
use Rattle.laws.specs.StoreLaws.{name_dec, size-rename_le, sorted-move, look-move-other}
use Rattle.laws.specs.StepLaws.{file_weight}
use Rattle.laws.specs.Listings.{Once, files_in, files-has, files-named, files-once}
use Rattle.laws.specs.Runs.{apply_all_append}
use Rattle.cut_rule.proofs.StoreRule.{Within}
use Rattle.cut_rule.proofs.Files.{dir-eq, file-eq}
use Rattle.cut_rule.proofs.Directories.{Empty, within-empty, within-put, within-move, move-to, move-from}
use Rattle.cut_rule.proofs.Count.{once_le}

-- A directory renamed to a free name: nothing comes and nothing goes, since renamed back it is the tree as it was.
size-rename : (w : Key → ℕ) → ((c d f : Name) → w (c, f) ≡ w (d, f)) → (a b : Name) → (a ≡ b → ⊥) → (t : Map) → Sorted t → Empty b t →
    size w (rename_dir a b t t) ≡ size w t
size-rename w alike a b apart t s free =
    let p = size-rename_le w alike a b t t s (λ f h. h) in
    let q = size-rename_le w alike b a v v sorted (λ f h. h) in
    let e = ap (size w) back in
    omega arith
  where
    v : Map
    v = rename_dir a b t t

    sorted : Sorted v
    sorted = sorted-move a b apart t t s

    apart' : b ≡ a → ⊥
    apart' e = apart (sym e)

    gone : Empty a v
    gone = move-from a b apart t s free

    back : rename_dir b a v v ≡ t
    back = ext (rename_dir b a v v) t (sorted-move b a apart' v v sorted) s (λ k. at k.0 k.1 (name_dec k.0 a) (name_dec k.0 b))
      where
        at : (c f : Name) → Dec (c ≡ a) → Dec (c ≡ b) → look (c, f) (rename_dir b a v v) ≡ look (c, f) t
        at c f (yes p) q = rw p (move-to b a apart' v sorted gone f ∙ move-to a b apart t s free f)
        at c f (no p) (yes q) = rw q (move-from b a apart' v sorted gone f ∙ sym (free f))
        at c f (no p) (no q) = look-move-other b a apart' c f v v q p ∙ look-move-other a b apart c f t t p q

-- A directory with nothing in it lists nothing.
empty-files : (d : Name) (t : Map) → Empty d t → files d t ≡ []
empty-files d t h = go (files d t) refl
  where
    go : (l : List Name) → files d t ≡ l → files d t ≡ []
    go [] e = e
    go (f ∷ l) e = let i = files_in d f t (subst (In f) (sym e) (inl refl)) in absurd (none≢some (sym (h f) ∙ i.1))

-- Two trees that agree in a directory list as many files of it.
pub as_many : (d : Name) (t v : Map) → Sorted t → Sorted v → ((f : Name) → look (d, f) v ≡ look (d, f) t) → length (files d v) ≡ length (files d t)
as_many d t v s r h =
    let p = once_le (files d v) (files d t) (files-once d v r) (λ f i. let j = files_in d f v i in files-has d f t (files-named d v f i) (j.0, sym (h f) ∙ j.1)) in
    let q = once_le (files d t) (files d v) (files-once d t s) (λ f i. let j = files_in d f t i in files-has d f v (files-named d t f i) (j.0, h f ∙ j.1)) in
    omega arith

-- A destination that was put away and made anew, of the tree t.
record Made (b : Name) (t v : Map) : Type 0 where
  sorted : Sorted v
  inside : Within v
  stands : look (b, []) v ≡ some 0
  bare : (f : Name) → (f ≡ [] → ⊥) → look (b, f) v ≡ none
  others : (d f : Name) → (d ≡ b → ⊥) → (d ≡ backup_name b → ⊥) → look (d, f) v ≡ look (d, f) t
  dir_count : size is_dir v ≡ suc (size is_dir t)
  file_counts : size is_file v ≡ size is_file t

-- A fault where a test fails, else none.
abbrev pub full_unless : Bool → Option Fault
full_unless t = if t then none else some full

module _ (b : Name) (short : length (backup_name b) ≤ 64) where
  prepare : Option ℕ → List Step
  prepare q = if_present q (rename_directory b (backup_name b) ∷ []) ++ make_directory b ∷ []

  made : (t w : Map) → Sorted w → Within w → Empty b w → ((d f : Name) → (d ≡ b → ⊥) → (d ≡ backup_name b → ⊥) → look (d, f) w ≡ look (d, f) t) →
      size is_dir w ≡ size is_dir t → size is_file w ≡ size is_file t → Made b t (put (b, []) 0 w)
  made t w s i e o p q = record {
    sorted = sorted-put (b, []) 0 w s;
    inside = within-put w b [] 0 i (inl refl);
    stands = look-put-same (b, []) 0 w;
    bare = λ f n. look-put-other (b, []) (b, f) 0 w (λ y. n (file-eq y)) ∙ e f;
    others = λ d f n m. look-put-other (b, []) (d, f) 0 w (λ y. n (dir-eq y)) ∙ o d f n m;
    dir_count = let z = size-put-new is_dir (b, []) 0 w (e []) in omega arith;
    file_counts = let z = size-put-light is_file (b, []) 0 w refl in omega arith;
  }

  pub away-fault : (u : Store) → Empty (backup_name b) u.tree → step_fault (rename_directory b (backup_name b)) u ≡ none
  unfolding step_fault
  away-fault u e = rw (fits (ltb name_limit (length (backup_name b))) refl, empty-files (backup_name b) u.tree e)
    where
      fits : (t : Bool) → ltb 64 (length (backup_name b)) ≡ t → ltb 64 (length (backup_name b)) ≡ false
      fits true e = let z = leb_le 65 (length (backup_name b)) e in absurd (omega arith)
      fits false e = e

  make-fault : (u : Store) (n : ℕ) → size is_dir u.tree ≡ n → step_fault (make_directory b) u ≡ full_unless (ltb n 16)
  unfolding step_fault
  make-fault u n e = rw (dir-size u.tree, e)

  prepared : (u : Store) → Sorted u.tree → Within u.tree → Empty (backup_name b) u.tree → let xs = prepare (look (b, []) u.tree) in
      Made b u.tree (apply_all xs u).tree × (first_fault xs u ≡ full_unless (ltb (size is_dir u.tree) 16))
  unfolding prepare
  prepared u s i e = go (look (b, []) u.tree) refl
    where
      v : Map
      v = rename_dir b (backup_name b) u.tree u.tree

      one : (t : Bool) → case_option (full_unless t) none some ≡ full_unless t
      one true = refl
      one false = refl

      dirs-same : size is_dir v ≡ size is_dir u.tree
      dirs-same = size-rename is_dir (λ c d f. refl) b (backup_name b) (backup-apart b) u.tree s e

      go : (q : Option ℕ) → look (b, []) u.tree ≡ q →
          Made b u.tree (apply_all (prepare q) u).tree × (first_fault (prepare q) u ≡ full_unless (ltb (size is_dir u.tree) 16))
      go none p = (
        unfold apply in (made u.tree u.tree s i (within-empty u.tree b i p) (λ d f n m. refl) refl refl),
        ap (λ (q : Option Fault). case_option q none some) (make-fault u _ refl) ∙ one (ltb (size is_dir u.tree) 16),
      )
      go (some x) p = (
        unfold apply in (made u.tree v (sorted-move b (backup_name b) (backup-apart b) u.tree u.tree s)
            (within-move b (backup_name b) (backup-apart b) u.tree s e i) (move-from b (backup_name b) (backup-apart b) u.tree s e)
            (λ d f n m. look-move-other b (backup_name b) (backup-apart b) d f u.tree u.tree n m)
            dirs-same (size-rename is_file (λ c d f. refl) b (backup_name b) (backup-apart b) u.tree s e)),
        rw (away-fault u e) (ap (λ (q : Option Fault). case_option q none some)
            (make-fault (apply (rename_directory b (backup_name b)) u) (size is_dir u.tree) (unfold apply in dirs-same)) ∙ one (ltb (size is_dir u.tree) 16)),
      )

-- Files that were copied, one after the other.
module _ (a b : Name) (apart : a ≡ b → ⊥) where
  record Files (l : List Name) (t v : Map) : Type 0 where
    sorted : Sorted v
    inside : Within v
    new : (f : Name) → In f l → look (b, f) v ≡ look (a, f) t
    same : (j : Key) → ((f : Name) → In f l → j ≡ (b, f) → ⊥) → look j v ≡ look j t
    dir_count : size is_dir v ≡ size is_dir t
    file_counts : size is_file v ≡ size is_file t + length l

  -- What can be copied: each listed file stands in the source, once, and not in the destination.
  record Ready (l : List Name) (t : Map) : Type 0 where
    sorted : Sorted t
    inside : Within t
    stands : Has (b, []) t
    once : Once l
    named : (f : Name) → In f l → f ≡ [] → ⊥
    from : (f : Name) → In f l → Has (a, f) t
    free : (f : Name) → In f l → look (b, f) t ≡ none

  -- The first of them, copied.
  module _ (f : Name) (l : List Name) (u : Store) (r : Ready (f ∷ l) u.tree) where
    x : ℕ
    x = (r.from f (inl refl)).0

    v : Store
    v = apply (copy_file a b f) u

    tree : v.tree ≡ put (b, f) x u.tree
    unfolding v x
    tree = unfold apply in (rw (r.from f (inl refl)).1)

    keeps : (j : Key) → (j ≡ (b, f) → ⊥) → look j v.tree ≡ look j u.tree
    keeps j n = ap (look j) tree ∙ look-put-other (b, f) j x u.tree n

    here : look (b, f) v.tree ≡ look (a, f) u.tree
    unfolding x
    here = ap (look (b, f)) tree ∙ look-put-same (b, f) x u.tree ∙ sym (r.from f (inl refl)).1

    dirs-same : size is_dir v.tree ≡ size is_dir u.tree
    dirs-same =
        let w = file_weight b f (r.named f (inl refl)) in
        let p = size-put-new is_dir (b, f) x u.tree (r.free f (inl refl)) in
        let c = ap (size is_dir) tree in omega arith

    files-more : size is_file v.tree ≡ suc (size is_file u.tree)
    files-more =
        let w = file_weight b f (r.named f (inl refl)) in
        let p = size-put-new is_file (b, f) x u.tree (r.free f (inl refl)) in
        let c = ap (size is_file) tree in omega arith

    ready : Ready l v.tree
    ready = record {
      sorted = rw tree (sorted-put (b, f) x u.tree r.sorted);
      inside = rw tree (within-put u.tree b f x r.inside (inr r.stands));
      stands = (r.stands.0, keeps (b, []) (λ y. r.named f (inl refl) (sym (file-eq y))) ∙ r.stands.1);
      once = r.once.1;
      named = λ g i. r.named g (inr i);
      from = λ g i. let h = r.from g (inr i) in (h.0, keeps (a, g) (λ y. apart (dir-eq y)) ∙ h.1);
      free = λ g i. keeps (b, g) (λ y. r.once.0 (subst (λ (n : Name). In n l) (file-eq y) i)) ∙ r.free g (inr i);
    }

    fault-is : step_fault (copy_file a b f) u ≡ full_unless (ltb (size is_file u.tree) 128)
    unfolding step_fault
    fault-is = rw ((r.from f (inl refl)).1, r.free f (inl refl), file-size u.tree)

    more : (w : Map) → Files l v.tree w → Files (f ∷ l) u.tree w
    more w h = record {
      sorted = h.sorted;
      inside = h.inside;
      new = λ g i. new g i;
      same = λ j n. h.same j (λ g i. n g (inr i)) ∙ keeps j (n f (inl refl));
      dir_count = h.dir_count ∙ dirs-same;
      file_counts = let p = h.file_counts in let q = files-more in omega arith;
    }
      where
        new : (g : Name) → In g (f ∷ l) → look (b, g) w ≡ look (a, g) u.tree
        new g (inr i) = h.new g i ∙ keeps (a, g) (λ y. apart (dir-eq y))
        new g (inl e) = rw e (h.same (b, f) (λ n i y. r.once.0 (subst (λ (m : Name). In m l) (sym (file-eq y)) i)) ∙ here)

    faults : (size is_file v.tree ≤ 128 → first_fault (map (copy_file a b) l) v ≡ full_unless (leb (size is_file v.tree + length l) 128)) →
        (c : Bool) → ltb (size is_file u.tree) 128 ≡ c →
        first_fault (map (copy_file a b) (f ∷ l)) u ≡ full_unless (leb (size is_file u.tree + suc (length l)) 128)
    unfolding v
    faults rest true e =
        rw (fault-is, e) (rest (omega (arith, leb_le (suc (size is_file u.tree)) 128 e, files-more))
        ∙ (let z : size is_file v.tree + length l ≡ size is_file u.tree + suc (length l) = omega (arith, files-more) in ap (λ (n : ℕ). full_unless (leb n 128)) z))
    faults rest false e = rw (fault-is, e) (sym (ap full_unless (not_le (leb (size is_file u.tree + suc (length l)) 128) refl)))
      where
        not_le : (t : Bool) → leb (size is_file u.tree + suc (length l)) 128 ≡ t → leb (size is_file u.tree + suc (length l)) 128 ≡ false
        not_le true z =
            absurd (omega (arith, leb_le (size is_file u.tree + suc (length l)) 128 z, nltb→le (size is_file u.tree) 128 (rw e tt)))
        not_le false z = z

  copied : (l : List Name) (u : Store) → Ready l u.tree → Files l u.tree (apply_all (map (copy_file a b) l) u).tree
  unfolding v
  copied [] u r = record { sorted = r.sorted; inside = r.inside; new = λ f j. absurd j; same = λ j n. refl; dir_count = refl; file_counts = omega arith }
  copied (f ∷ l) u r = more f l u r _ (copied l (v f l u r) (ready f l u r))

  copy_faults : (l : List Name) (u : Store) → Ready l u.tree → size is_file u.tree ≤ 128 →
      first_fault (map (copy_file a b) l) u ≡ full_unless (leb (size is_file u.tree + length l) 128)
  copy_faults [] u r fit = sym (ap full_unless (le-leb (size is_file u.tree + 0) 128 (omega arith)))
  copy_faults (f ∷ l) u r fit = faults f l u r (λ z. copy_faults l (v f l u r) (ready f l u r) z) (ltb (size is_file u.tree) 128) refl

-- A whole copy: the destination holds what the source held, and beside it and its backup nothing is changed.
pub record Copied (a b : Name) (t v : Map) : Type 0 where
  pub sorted : Sorted v
  pub inside : Within v
  pub stands : look (b, []) v ≡ some 0
  pub holds : (f : Name) → (f ≡ [] → ⊥) → look (b, f) v ≡ look (a, f) t
  pub others : (d f : Name) → (d ≡ b → ⊥) → (d ≡ backup_name b → ⊥) → look (d, f) v ≡ look (d, f) t
  pub dir_count : size is_dir v ≡ suc (size is_dir t)
  pub file_counts : size is_file v ≡ size is_file t + length (files a t)

pub fault-both : (xs ys : List Step) (u : Store) (p q : Bool) → first_fault xs u ≡ full_unless p → (p ≡ true → first_fault ys (apply_all xs u) ≡ full_unless q) →
    first_fault (xs ++ ys) u ≡ full_unless (p && q)
fault-both xs ys u p q e f = appended xs u ∙ go p e f
  where
    appended : (xs : List Step) (u : Store) → first_fault (xs ++ ys) u ≡ case_option (first_fault xs u) (first_fault ys (apply_all xs u)) some
    appended [] u = refl
    appended (x ∷ xs) u = one (step_fault x u) (appended xs (apply x u))
      where
        one : (o : Option Fault) → first_fault (xs ++ ys) (apply x u) ≡ case_option (first_fault xs (apply x u)) (first_fault ys (apply_all xs (apply x u))) some →
            case_option o (first_fault (xs ++ ys) (apply x u)) some ≡ case_option (case_option o (first_fault xs (apply x u)) some) (first_fault ys (apply_all xs (apply x u))) some
        one none h = h
        one (some z) h = refl

    go : (p : Bool) → first_fault xs u ≡ full_unless p → (p ≡ true → first_fault ys (apply_all xs u) ≡ full_unless q) →
        case_option (first_fault xs u) (first_fault ys (apply_all xs u)) some ≡ full_unless (p && q)
    go true e f = rw e (f refl)
    go false e f = rw e

module _ (a b : Name) (apart : a ≡ b → ⊥) (off : a ≡ backup_name b → ⊥) (short : length (backup_name b) ≤ 64) where
  -- The steps of a copy, by whether its source stands then.
  copies : Option ℕ → Store → List Step
  copies q u = case_option q (copy_file a b [] ∷ []) (λ x. map (copy_file a b) (files a u.tree))

  pub copy_op : (x : Bool) (u : Store) → Sorted u.tree → Within u.tree → Has (a, []) u.tree → Empty (backup_name b) u.tree → size is_file u.tree ≤ 128 →
      let xs = op_steps (copy_collection a b x) u in
      Copied a b u.tree (apply_all xs u).tree
      × (first_fault xs u ≡ full_unless (ltb (size is_dir u.tree) 16 && leb (size is_file u.tree + length (files a u.tree)) 128))
  unfolding op_steps prepare copies
  copy_op x u s i has e fit = (
    rw (apply_all_append xs (ys ++ []) u, apply_all_append ys [] u₁) whole,
    fault-both xs (ys ++ []) u (ltb (size is_dir u.tree) 16) (leb (size is_file u.tree + length (files a u.tree)) 128) first.1 (λ z. ap (λ (l : List Step). first_fault l u₁) (end ys) ∙ second.1),
  )
    where
      end : (l : List Step) → l ++ [] ≡ l
      end [] = refl
      end (y ∷ l) = ap (◌∷◌ y) (end l)

      xs : List Step
      xs = prepare b short (look (b, []) u.tree)

      first : Made b u.tree (apply_all xs u).tree × (first_fault xs u ≡ full_unless (ltb (size is_dir u.tree) 16))
      first = prepared b short u s i e

      u₁ : Store
      u₁ = apply_all xs u

      ys : List Step
      ys = copies (look (a, []) u₁.tree) u₁

      from : (f : Name) → look (a, f) u₁.tree ≡ look (a, f) u.tree
      from f = first.0.others a f apart off

      l : List Name
      l = files a u₁.tree

      ready : Ready a b apart l u₁.tree
      ready = record {
        sorted = first.0.sorted;
        inside = first.0.inside;
        stands = (0, first.0.stands);
        once = files-once a u₁.tree first.0.sorted;
        named = λ f j. files-named a u₁.tree f j;
        from = λ f j. files_in a f u₁.tree j;
        free = λ f j. first.0.bare f (files-named a u₁.tree f j);
      }

      many : length l ≡ length (files a u.tree)
      many = as_many a u.tree u₁.tree s first.0.sorted from

      listed : ys ≡ map (copy_file a b) l
      listed = ap (λ (q : Option ℕ). copies q u₁) (from [] ∙ has.1)

      second : Files a b apart l u₁.tree (apply_all ys u₁).tree × (first_fault ys u₁ ≡ full_unless (leb (size is_file u.tree + length (files a u.tree)) 128))
      second = (
        rw listed (copied a b apart l u₁ ready),
        rw listed (copy_faults a b apart l u₁ ready (omega (arith, first.0.file_counts, fit))
            ∙ (let z : size is_file u₁.tree + length l ≡ size is_file u.tree + length (files a u.tree) = omega (arith, first.0.file_counts, many) in
            ap (λ (n : ℕ). full_unless (leb n 128)) z)),
      )

      whole : Copied a b u.tree (apply_all ys u₁).tree
      whole = record {
        sorted = second.0.sorted;
        inside = second.0.inside;
        stands = second.0.same (b, []) (λ f j y. files-named a u₁.tree f j (sym (file-eq y))) ∙ first.0.stands;
        holds = λ f n. held f n (look (a, f) u.tree) refl;
        others = λ d f n m. second.0.same (d, f) (λ g j y. n (dir-eq y)) ∙ first.0.others d f n m;
        dir_count = second.0.dir_count ∙ first.0.dir_count;
        file_counts = omega (arith, second.0.file_counts, first.0.file_counts, many);
      }
        where
          held : (f : Name) → (f ≡ [] → ⊥) → (q : Option ℕ) → look (a, f) u.tree ≡ q → look (b, f) (apply_all ys u₁).tree ≡ look (a, f) u.tree
          held f n (some y) p = second.0.new f (files-has a f u₁.tree n (y, from f ∙ p)) ∙ from f
          held f n none p =
              second.0.same (b, f) (λ g j z. let h = files_in a g u₁.tree j in
              none≢some (sym p ∙ sym (from f) ∙ ap (λ (m : Name). look (a, m) u₁.tree) (file-eq z) ∙ h.1))
              ∙ first.0.bare f n ∙ sym p

-- What a rotation leaves, and when its commit refuses it: for stores without names ending in .bak.
use Rattle.std.specs.Prelude.{◌≡◌, ℕ, suc, ◌+◌, ◌≤◌, Bool, ◌&&◌, ltb, if◌then◌else◌}
use Rattle.std.proofs.Math.Path.{refl, sym, ap, subst}
use Rattle.std.proofs.Common.{◌∙◌}
use native.Mathlib.Omega.{arith}
use mathlib.Core.List.{List, [], ◌∷◌, ◌++◌, map}
use Rattle.std.proofs.Math.Option.{Option, none, some}
use Rattle.std.proofs.Math.Bool.{true, false}
use Rattle.std.proofs.lemmas.Bool.{false≢true}
use Rattle.std.proofs.Math.ListN.{length}
use Rattle.std.proofs.Math.Dec.{leb}
use Rattle.basics.specs.Limits.{image_room}
use Rattle.basics.specs.Order.{Name}
use Rattle.basics.specs.Map.{Map, look, Has}
use Rattle.basics.specs.Base.{Bytes, is_some}
use Rattle.basics.specs.Name.{last_dot, extension, strip_extension, backup_extension, backup_name, original_name}
use Rattle.model.specs.Operation.{Op, copy_collection, delete_collection}
use Rattle.model.specs.Log.{journal, ops_of}
use Rattle.model.specs.Store.{Store, dirs, files, file_count}
use Rattle.model.specs.Step.{Step, rewrite_header, sync_staging, sync_log, rename_dir, apply, apply_all, commit_number}
use Rattle.model.specs.Plan.{run, op_steps, first_fault, operation_steps, first_namings, collection_of, sync_existing, in_turn, commit_fault, commit_plan, committed_at, remove_backups}
use Rattle.model.specs.Record.{has_dir}
use Rattle.answers.specs.Answers.{Answer, answer}
use Rattle.basic_laws.specs.MapLaws.{Sorted, none≢some, some_inj}
use Rattle.basic_laws.specs.Tests.{leb_le, le-leb, and_both, and_made}
use Rattle.basic_laws.specs.NameLaws.{strip_some, original-backup, original-nil}
use Rattle.basic_laws.specs.ValidNames.{Valid, valid-named, backup-apart}
use Rattle.laws.specs.TreeLaws.{size, is_file, is_dir, file-size, dir-size}
use Rattle.laws.specs.StoreLaws.{Good, good, Bare, bare, sorted-move, look-move-other}
use Rattle.laws.specs.ImageLaws.{decode-only}
use Rattle.laws.specs.Listings.{dels-all}
use Rattle.laws.specs.Runs.{run_over, apply_all_append}
use Rattle.laws.specs.EndLaws.{swept, sweeps, up_to_end, committed_store, commit-leaves}
use Rattle.cut_rule.specs.Demand.{EndsIn, settled}
use Rattle.cut_rule.proofs.StoreRule.{Within}
use Rattle.cut_rule.proofs.Walk.{steady}
use Rattle.cut_rule.proofs.Files.{name-apart}
use Rattle.cut_rule.proofs.Directories.{Empty, within-move, move-from}
use Rattle.cut_rule.proofs.Clean.{Tidy, tidied, tidy-none}
use Rattle.cut_rule.proofs.Commit.{syncs-same}
use Rattle.cut_rule.proofs.OverImages.{inside, commit-gives}
use Rattle.handover.specs.Contract.{hands_back}
use Rattle.answers.specs.Rotate.{current, next, backup, rotation, rotate}
use Rattle.rotation.specs.Copies.{Copied, copy_op, as_many, away-fault, full_unless, fault-both}
use Rattle.rotation.specs.Recorded.{rotation_ops, rotating, rotating-tree, rotation-logged, rotation-found, valid-current, valid-next, valid-backup}
use Rattle.rotation.specs.Rotation.{Rotates, Rotated, NoBackup, RotationDone, room_for, RotationNumber}
use Rattle.rotation.specs.Rule.{current≢backup, next≢current, next≢backup, next-stands, rotate-is, carried_rotates, committed-holds}

-- A name that does not end in .bak is no backup's.
no-bak : (n : Name) → (EndsIn backup_extension n → ⊥) → original_name n ≡ none
unfolding original_name
no-bak n h = go (strip_extension backup_extension n) refl
  where
    go : (q : Option Name) → strip_extension backup_extension n ≡ q → strip_extension backup_extension n ≡ none
    go none p = p
    go (some g) p = absurd (h record { front = g; joined = strip_some backup_extension n g p })

-- The three names are no backups'.
plain-current : original_name current ≡ none
unfolding current original_name strip_extension extension last_dot backup_extension
plain-current = refl

plain-next : original_name next ≡ none
unfolding next original_name strip_extension extension last_dot backup_extension
plain-next = refl

plain-backup : original_name backup ≡ none
unfolding backup original_name strip_extension extension last_dot backup_extension
plain-backup = refl

-- Their backups' names are short.
short-current : length (backup_name current) ≤ 64
unfolding current backup_name backup_extension
short-current = omega arith

short-next : length (backup_name next) ≤ 64
unfolding next backup_name backup_extension
short-next = omega arith

short-backup : length (backup_name backup) ≤ 64
unfolding backup backup_name backup_extension
short-backup = omega arith

-- A plain name is no name's backup.
off : (d c : Name) → original_name d ≡ none → Valid c → d ≡ backup_name c → ⊥
off d c p v e = name-apart p (original-backup c (valid-named c v)) e

-- Nothing stands under a backup's name.
unbacked : (t : Map) → NoBackup t → (c : Name) → Valid c → Empty (backup_name c) t
unbacked t N c v f = go (look (backup_name c, f) t) refl
  where
    go : (q : Option ℕ) → look (backup_name c, f) t ≡ q → look (backup_name c, f) t ≡ none
    go none e = e
    go (some x) e = none≢some (sym (no-bak (backup_name c) (N (backup_name c) f (x, e)).0) ∙ original-backup c (valid-named c v))

backup-same : (d e : Name) → Valid d → Valid e → backup_name d ≡ backup_name e → d ≡ e
backup-same d e v w h = some_inj (sym (original-backup d (valid-named d v)) ∙ ap original_name h ∙ original-backup e (valid-named e w))

has : (q : Option ℕ) → is_some q ≡ true → (x : ℕ) × (q ≡ some x)
has none e = absurd (false≢true e)
has (some x) e = (x, refl)

bool_same : (a b : Bool) → (a ≡ true → b ≡ true) → (b ≡ true → a ≡ true) → a ≡ b
bool_same true b f g = sym (f refl)
bool_same false true f g = g refl
bool_same false false f g = refl

module _ (b : Bytes) (s : Store) (R : Rotates b s) (N : NoBackup s.tree) where
  x : Bool
  x = has_dir backup s

  t₀ : Map
  t₀ = s.tree

  -- The stores behind each of the three operations.
  u₀ : Store
  u₀ = apply rewrite_header (rotating s)

  u₁ : Store
  u₁ = apply_all (op_steps (copy_collection current backup x) u₀) u₀

  u₂ : Store
  u₂ = apply_all (op_steps (copy_collection next current true) u₁) u₁

  u₃ : Store
  u₃ = apply_all (op_steps (delete_collection next) u₂) u₂

  start : u₀.tree ≡ t₀
  unfolding u₀ t₀
  start = unfold apply in (rotating-tree s)

  g : Good Valid s
  g = good s (decode-only b s R.holds).1

  next-has : Has (next, []) t₀
  unfolding t₀
  next-has = has (look (next, []) s.tree) (next-stands s R.next_holds)

  current-has : Has (current, []) t₀
  unfolding t₀
  current-has = has (look (current, []) s.tree) R.current_stands

  D : ℕ
  D = size is_dir t₀

  F : ℕ
  F = size is_file t₀

  c : ℕ
  c = length (files current t₀)

  n : ℕ
  n = length (files next t₀)

  first : Copied current backup t₀ u₁.tree × (first_fault (op_steps (copy_collection current backup x) u₀) u₀ ≡ full_unless (ltb D 16 && leb (F + c) 128))
  unfolding u₁ t₀ D F c
  first =
      subst (λ (t : Map). Copied current backup t u₁.tree × (first_fault (op_steps (copy_collection current backup x) u₀) u₀
      ≡ full_unless (ltb (size is_dir t) 16 && leb (size is_file t + length (files current t)) 128))) start
      (copy_op current backup current≢backup (off current backup plain-current valid-backup) short-backup x u₀
      (subst Sorted (sym start) g.tree.sorted) (subst Within (sym start) (inside s g)) (subst (Has (current, [])) (sym start) current-has)
      (subst (Empty (backup_name backup)) (sym start) (unbacked s.tree N backup valid-backup))
      (subst (λ (t : Map). size is_file t ≤ 128) (sym start) g.tree.files_fit))

  keep₁ : (d f : Name) → original_name d ≡ none → (d ≡ backup → ⊥) → look (d, f) u₁.tree ≡ look (d, f) t₀
  keep₁ d f p z = first.0.others d f z (off d backup p valid-backup)

  bak₁ : (d : Name) → Valid d → original_name d ≡ none → (d ≡ backup → ⊥) → Empty (backup_name d) u₁.tree
  unfolding t₀
  bak₁ d v p z f =
      first.0.others (backup_name d) f (λ e. off backup d plain-backup v (sym e)) (λ e. z (backup-same d backup v valid-backup e)) ∙ unbacked s.tree N d v f

  second : size is_file u₁.tree ≤ 128 → Copied next current u₁.tree u₂.tree
      × (first_fault (op_steps (copy_collection next current true) u₁) u₁ ≡ full_unless (ltb (suc D) 16 && leb (F + c + n) 128))
  unfolding u₂ D F c n t₀
  second fit =
      let h = copy_op next current next≢current (off next current plain-next valid-current) short-current true u₁ first.0.sorted first.0.inside
      (next-has.0, keep₁ next [] plain-next next≢backup ∙ next-has.1) (bak₁ current valid-current plain-current current≢backup) fit in (
        h.0,
        h.1 ∙ λ i. full_unless (ltb (first.0.dir_count i) 16 && leb (first.0.file_counts i + many i) 128),
      )
    where
      many : length (files next u₁.tree) ≡ length (files next s.tree)
      many = as_many next s.tree u₁.tree g.tree.sorted first.0.sorted (λ f. keep₁ next f plain-next next≢backup)

  -- Next is renamed to its backup.
  module _ (h : Copied next current u₁.tree u₂.tree) where
    keep₂ : (d f : Name) → original_name d ≡ none → (d ≡ current → ⊥) → look (d, f) u₂.tree ≡ look (d, f) u₁.tree
    keep₂ d f p z = h.others d f z (off d current p valid-current)

    free : Empty (backup_name next) u₂.tree
    free f =
        h.others (backup_name next) f (λ e. off current next plain-current valid-next (sym e)) (λ e. next≢current (backup-same next current valid-next valid-current e))
        ∙ bak₁ next valid-next plain-next next≢backup f

    stands : look (next, []) u₂.tree ≡ some next-has.0
    stands = keep₂ next [] plain-next next≢current ∙ keep₁ next [] plain-next next≢backup ∙ next-has.1

    third-fault : first_fault (op_steps (delete_collection next) u₂ ++ []) u₂ ≡ none
    unfolding op_steps
    third-fault = rw (stands, away-fault next short-next u₂ free) refl

    away : u₃.tree ≡ rename_dir next (backup_name next) u₂.tree u₂.tree
    unfolding u₃ op_steps apply
    away = rw stands refl

    keep₃ : (d f : Name) → original_name d ≡ none → (d ≡ next → ⊥) → look (d, f) u₃.tree ≡ look (d, f) u₂.tree
    keep₃ d f p z = ap (look (d, f)) away ∙ look-move-other next (backup_name next) (backup-apart next) d f u₂.tree u₂.tree z (off d next p valid-next)

    gone : Empty next u₃.tree
    gone f = ap (look (next, f)) away ∙ move-from next (backup_name next) (backup-apart next) u₂.tree h.sorted free f

    sorted₃ : Sorted u₃.tree
    sorted₃ = subst Sorted (sym away) (sorted-move next (backup_name next) (backup-apart next) u₂.tree u₂.tree h.sorted)

    inside₃ : Within u₃.tree
    inside₃ = subst Within (sym away) (within-move next (backup_name next) (backup-apart next) u₂.tree h.sorted free h.inside)

  -- The first failing step of the three.
  fits : (ltb D 16 && leb (F + c) 128) ≡ true → size is_file u₁.tree ≤ 128
  unfolding F c
  fits z = let p = leb_le (F + c) 128 (and_both (ltb D 16) (leb (F + c) 128) z).1 in let q = first.0.file_counts in omega arith

  steps : List Step
  steps = operation_steps (rotation_ops x) u₀

  all-faults : first_fault steps u₀ ≡ full_unless ((ltb D 16 && leb (F + c) 128) && ((ltb (suc D) 16 && leb (F + c + n) 128) && true))
  unfolding steps u₁ u₂
  all-faults =
      fault-both (op_steps (copy_collection current backup x) u₀) _ u₀ (ltb D 16 && leb (F + c) 128) ((ltb (suc D) 16 && leb (F + c + n) 128) && true) first.1
      (λ z. fault-both (op_steps (copy_collection next current true) u₁) _ u₁ (ltb (suc D) 16 && leb (F + c + n) 128) true (second (fits z)).1
      (λ y. third-fault (second (fits z)).0))

  room-same : ((ltb D 16 && leb (F + c) 128) && ((ltb (suc D) 16 && leb (F + c + n) 128) && true)) ≡ room_for s.tree
  unfolding D F c n t₀
  room-same = bool_same ((ltb D 16 && leb (F + c) 128) && ((ltb (suc D) 16 && leb (F + c + n) 128) && true)) (room_for s.tree) to from
    where
      d : length (dirs s.tree) ≡ D
      d = dir-size s.tree

      k : file_count s.tree ≡ F
      k = file-size s.tree

      to : ((ltb D 16 && leb (F + c) 128) && ((ltb (suc D) 16 && leb (F + c + n) 128) && true)) ≡ true → room_for s.tree ≡ true
      to z =
          let q = and_both (ltb D 16 && leb (F + c) 128) ((ltb (suc D) 16 && leb (F + c + n) 128) && true) z in
          let r = and_both (ltb (suc D) 16) (leb (F + c + n) 128) (and_both (ltb (suc D) 16 && leb (F + c + n) 128) true q.1).0 in
          and_made (leb (length (dirs s.tree)) 14) (leb (file_count s.tree + c + n) 128)
          (le-leb (length (dirs s.tree)) 14 (omega (arith, d, leb_le (suc (suc D)) 16 r.0))) (le-leb (file_count s.tree + c + n) 128 (omega (arith, k, leb_le (F + c + n) 128 r.1)))

      from : room_for s.tree ≡ true → ((ltb D 16 && leb (F + c) 128) && ((ltb (suc D) 16 && leb (F + c + n) 128) && true)) ≡ true
      from z =
          let q = and_both (leb (length (dirs s.tree)) 14) (leb (file_count s.tree + c + n) 128) z in
          let y = leb_le (length (dirs s.tree)) 14 q.0 in
          let w = leb_le (file_count s.tree + c + n) 128 q.1 in
          and_made (ltb D 16 && leb (F + c) 128) ((ltb (suc D) 16 && leb (F + c + n) 128) && true)
          (and_made (ltb D 16) (leb (F + c) 128) (le-leb (suc D) 16 (omega (arith, d, y))) (le-leb (F + c) 128 (omega (arith, k, w))))
          (and_made (ltb (suc D) 16 && leb (F + c + n) 128) true
          (and_made (ltb (suc D) 16) (leb (F + c + n) 128) (le-leb (suc (suc D)) 16 (omega (arith, d, y))) (le-leb (F + c + n) 128 (omega (arith, k, w)))) refl)

  logged : ops_of (journal (rotating s).log) ≡ rotation_ops x
  unfolding x
  logged = ap ops_of (rotation-logged b s R.holds R.begins R.current_stands (next-stands s R.next_holds))

  fault : commit_fault (rotating s) ≡ full_unless (room_for s.tree)
  unfolding commit_fault steps u₀
  fault = ap (λ (o : List Op). first_fault (operation_steps o u₀) u₀) logged ∙ all-faults ∙ ap full_unless room-same

  -- The answer of a rotation that is not turned away.
  pub answer-is : rotate b image_room ≡ answer (commit_number (commit_fault (rotating s))) (committed_at (length (commit_plan (rotating s))) (rotating s))
  answer-is =
      rotate-is b s R ∙ commit-gives (rotation b) (rotating s) (committed-holds b s R)
      record { ops = rotation_ops (has_dir backup s); found = rotation-found b s R.holds R.begins R.current_stands (next-stands s R.next_holds) }

  pub number_is : (rotate b image_room).number ≡ (if room_for s.tree then 0 else 15)
  number_is = ap (λ (a : Answer). a.number) answer-is ∙ ap commit_number fault ∙ by (room_for s.tree)
    where
      by : (t : Bool) → commit_number (full_unless t) ≡ if◌then◌else◌ t 0 15
      by true = refl
      by false = refl

  -- What it leaves, if there is room.
  module _ (z : (rotate b image_room).number ≡ 0) where
    roomy : room_for s.tree ≡ true
    roomy = by (room_for s.tree) (sym number_is ∙ z)
      where
        by : (t : Bool) → ◌≡◌ {A = ℕ} (if◌then◌else◌ t 0 15) 0 → t ≡ true
        by true e = refl
        by false e = absurd (omega arith)

    no-fault : commit_fault (rotating s) ≡ none
    no-fault = fault ∙ ap full_unless roomy

    h : Copied next current u₁.tree u₂.tree
    h = (second (fits (and_both (ltb D 16 && leb (F + c) 128) ((ltb (suc D) 16 && leb (F + c + n) 128) && true) (room-same ∙ roomy)).0)).0

    ends : up_to_end (rotating s) ≡ u₃
    unfolding up_to_end steps u₀ u₁ u₂ u₃
    ends =
        ap (λ (o : List Op). run_over run ((λ s. sync_staging ∷ sync_log ∷ []) ∷ operation_steps o ∷ in_turn sync_existing (first_namings [] (map collection_of o)) ∷ []) u₀) logged
        ∙ unfold apply in (syncs-same (first_namings [] (map collection_of (rotation_ops x))) (apply_all steps u₀))
        ∙ apply_all_append (op_steps (copy_collection current backup x) u₀) _ u₀ ∙ apply_all_append (op_steps (copy_collection next current true) u₁) _ u₁
        ∙ apply_all_append (op_steps (delete_collection next) u₂) [] u₂

    t : Map
    t = swept u₃.tree

    bare₃ : Bare u₃.staging
    unfolding u₀ u₁ u₂ u₃
    bare₃ =
        (steady (op_steps (delete_collection next) u₂) u₂).bare ((steady (op_steps (copy_collection next current true) u₁) u₁).bare
        ((steady (op_steps (copy_collection current backup x) u₀) u₀).bare
        (unfold apply in (bare (rotating s) (decode-only (rotation b) (rotating s) (committed-holds b s R)).1))))

    leaves : rotate b image_room ≡ answer 0 (settled t)
    unfolding t
    leaves =
        answer-is ∙ λ i. answer (commit_number (no-fault i))
        ((commit-leaves (rotating s) no-fault ∙ ap committed_store ends
        ∙ λ j. record { tree = swept u₃.tree; staging = dels-all u₃.staging bare₃ j; log = none; open_mark = false }) i)

    tidy : Tidy t × ((d f : Name) → original_name d ≡ none → original_name f ≡ none → look (d, f) t ≡ look (d, f) u₃.tree)
    unfolding t
    tidy =
        let e : (apply_all (remove_backups u₃) u₃).tree ≡ swept u₃.tree = ap (λ (u : Store). u.tree) (sweeps u₃) in
        let k = tidied u₃ (sorted₃ h) (inside₃ h) in
        (subst Tidy e k.0, λ d f p q. ap (look (d, f)) (sym e) ∙ sym (k.1.agrees d f p q))

    -- A backup's name stands on neither side.
    by_name : (d e f : Name) → (original_name f ≡ none → look (d, f) t ≡ look (e, f) s.tree) → look (d, f) t ≡ look (e, f) s.tree
    by_name d e f k = go (original_name f) refl
      where
        old : (g : Name) → original_name f ≡ some g → (q : Option ℕ) → look (e, f) s.tree ≡ q → look (e, f) s.tree ≡ none
        old g p none y = y
        old g p (some v) y = none≢some (sym (no-bak f (N e f (v, y)).1) ∙ p)

        go : (q : Option Name) → original_name f ≡ q → look (d, f) t ≡ look (e, f) s.tree
        go none p = k p
        go (some g) p = tidy-none tidy.0 d f (λ y. none≢some (sym y.1 ∙ p)) ∙ sym (old g p (look (e, f) s.tree) refl)

    rotated : Rotated s.tree t
    unfolding t₀
    rotated = record {
      backup_stands = (
        0,
        tidy.1 backup [] plain-backup original-nil ∙ keep₃ h backup [] plain-backup (λ e. next≢backup (sym e))
            ∙ keep₂ h backup [] plain-backup (λ e. current≢backup (sym e)) ∙ first.0.stands,
      );
      backup_holds = λ f m. by_name backup current f (λ q. tidy.1 backup f plain-backup q ∙ keep₃ h backup f plain-backup (λ e. next≢backup (sym e))
          ∙ keep₂ h backup f plain-backup (λ e. current≢backup (sym e)) ∙ first.0.holds f m);
      current_stands = (0, tidy.1 current [] plain-current original-nil ∙ keep₃ h current [] plain-current (λ e. next≢current (sym e)) ∙ h.stands);
      current_holds = λ f m. by_name current next f (λ q. tidy.1 current f plain-current q ∙ keep₃ h current f plain-current (λ e. next≢current (sym e))
          ∙ h.holds f m ∙ keep₁ next f plain-next next≢backup);
      next_gone = λ f. gone_at f (original_name f) refl;
      others = λ d f p q r. other d f p q r (original_name d) refl;
    }
      where
        gone_at : (f : Name) (q : Option Name) → original_name f ≡ q → look (next, f) t ≡ none
        gone_at f none p = tidy.1 next f plain-next p ∙ gone h f
        gone_at f (some g) p = tidy-none tidy.0 next f (λ y. none≢some (sym y.1 ∙ p))

        other : (d f : Name) → (d ≡ backup → ⊥) → (d ≡ current → ⊥) → (d ≡ next → ⊥) → (q : Option Name) → original_name d ≡ q → look (d, f) t ≡ look (d, f) s.tree
        other d f p q r none e = by_name d d f (λ y. tidy.1 d f e y ∙ keep₃ h d f e r ∙ keep₂ h d f e q ∙ keep₁ d f e p)
        other d f p q r (some g) e = tidy-none tidy.0 d f (λ y. none≢some (sym y.0 ∙ e)) ∙ sym (old (look (d, f) s.tree) refl)
          where
            old : (v : Option ℕ) → look (d, f) s.tree ≡ v → look (d, f) s.tree ≡ none
            old none y = y
            old (some v) y = none≢some (sym (no-bak d (N d f (v, y)).0) ∙ e)

pub rotation-number : RotationNumber
rotation-number b s R N = number_is b s R N

pub rotation-done : RotationDone
rotation-done b s d N z =
    let R = carried_rotates b s d (ap hands_back z) in
    (t b s R N z, leaves b s R N z, rotated b s R N z)

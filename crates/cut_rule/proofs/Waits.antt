-- "Waits": from the fields that commit's step entry hands back to the backups that stand at the cut.
use Rattle.std.proofs.Math.Path.{◌≡◌, refl}
use Rattle.std.proofs.Common.{sym, ◌∙◌, ap, ap₂, subst, arith, inl, inr}
use Prim.Native.Nat.{ℕ, zero, suc, ◌+◌, ◌≤◌}
use mathlib.Core.List.{List, [], ◌∷◌, ◌++◌, map}
use Rattle.std.proofs.Math.Option.{Option, none, some}
use Rattle.std.specs.Prelude.{Bool, true, false, ◌⊎◌, length, take, drop, leb, if◌then◌else◌}
use Rattle.std.proofs.lemmas.Bool.{false≢true}
use Rattle.std.proofs.Math.ListN.{get_elem?}
use Rattle.basics.specs.Order.{Name, Key}
use Rattle.basics.specs.Map.{Map, look, put, del, Has}
use Rattle.basics.specs.Base.{Bytes, case_option, is_some, all_of, if_present, if_missing, In}
use Rattle.basics.specs.Name.{is_name_byte, backup_name, backup_extension}
use Rattle.basics.specs.Field.{Field, little_endian, encode_field}
use Rattle.model.specs.Operation.{Op, Write, write, target, backup}
use Rattle.model.specs.Store.{Store}
use Rattle.model.specs.Image.{encode}
use Rattle.model.specs.Step.{Step, rewrite_header, sync_staging, sync_log, remove_log, sync_journal, sync_collections, make_directory, rename_file, move_staged, field_at}
use Rattle.model.specs.Step.{rename_directory, copy_file, remove_file, remove_directory, remove_staging, sync_directory, apply, apply_all, zero_separated, tag_and_names}
use Rattle.model.specs.Step.{hold_header, step_field}
use Rattle.model.specs.Plan.{in_turn, run, op_steps, remove_backups, remove_staging_files, collection_of, first_namings, sync_existing, commit_fault, commit_parts}
use Rattle.model.specs.Plan.{commit_end, commit_plan, committed_at}
use Rattle.answers.specs.Answers.{Answer, refusal, step_answer}
use Rattle.basic_laws.specs.MapLaws.{key_dec, none≢some, some_inj, look-put-same, look-put-other, look-del-other}
use Rattle.basic_laws.specs.Tests.{and_both, All, all_in, nil≢cons}
use Rattle.basic_laws.specs.NameLaws.{original-backup, key_apart}
use Rattle.laws.specs.OperationLaws.{ValidOp, journal-valid}
use Rattle.basic_laws.specs.ValidNames.{valid-bytes}
use Rattle.laws.specs.Listings.{any_append}
use Rattle.laws.specs.Runs.{Runs, runs_take, runs_end, runs_append, runs_over}
use Rattle.cut_rule.specs.Demand.{Conditions, backup_rename, NoneWaits}
use Rattle.cut_rule.proofs.StoreRule.{KeyGood, Transacts, safe-unless}
use Rattle.cut_rule.proofs.Walk.{steady}
use Rattle.cut_rule.proofs.Apply.{rename-tree}
use Rattle.cut_rule.proofs.Commit.{SafeAt, plan-is}
use Rattle.cut_rule.proofs.OverImages.{Found, committed, stepped}
use Rattle.cut_rule.proofs.Writes.{one_of, in_ops, of-ops}
use Rattle.cut_rule.proofs.Files.{file-eq}

-- How many zero bytes a name has. A valid one has none, and so has its backup's.
abbrev zeros : Name → ℕ
zeros [] = 0
zeros (zero ∷ n) = suc (zeros n)
zeros (suc x ∷ n) = zeros n

zeros_append : (a b : Name) → zeros (a ++ b) ≡ zeros a + zeros b
zeros_append [] b = omega arith
zeros_append (zero ∷ a) b = let h = zeros_append a b in omega arith
zeros_append (suc x ∷ a) b = zeros_append a b

no-zeros : (n : Name) → all_of is_name_byte n ≡ true → zeros n ≡ 0
unfolding is_name_byte
no-zeros [] e = refl
no-zeros (zero ∷ n) e = absurd (false≢true (and_both (is_name_byte 0) (all_of is_name_byte n) e).0)
no-zeros (suc x ∷ n) e = no-zeros n (and_both (is_name_byte (suc x)) (all_of is_name_byte n) e).1

backup-zeros : (n : Name) → zeros n ≡ 0 → zeros (backup_name n) ≡ 0
unfolding backup_name backup_extension
backup-zeros n e = zeros_append n _ ∙ omega arith

head-eq : {x y : ℕ} {a b : Name} → x ∷ a ≡ y ∷ b → (x ≡ y) × (a ≡ b)
head-eq {x} {y} {a} {b} e = ((let z : x ≡ y = cc in z), (let z : a ≡ b = cc in z))

-- Names that are parted by zero bytes can be told apart.
unzero : (a b r t : Name) → zeros a ≡ 0 → zeros b ≡ 0 → a ++ 0 ∷ r ≡ b ++ 0 ∷ t → (a ≡ b) × (r ≡ t)
unzero [] [] r t p q e = (refl, (head-eq e).1)
unzero [] (zero ∷ b) r t p q e = absurd (omega arith)
unzero [] (suc y ∷ b) r t p q e = let h = (head-eq e).0 in absurd (omega arith)
unzero (zero ∷ a) b r t p q e = absurd (omega arith)
unzero (suc x ∷ a) [] r t p q e = let h = (head-eq e).0 in absurd (omega arith)
unzero (suc x ∷ a) (zero ∷ b) r t p q e = absurd (omega arith)
unzero (suc x ∷ a) (suc y ∷ b) r t p q e = let h = head-eq e in let k = unzero a b r t p q h.1 in (ap₂ ◌∷◌ h.0 k.0, k.1)

-- A step whose field is that of a Write's rename is that rename.
field-parts : (f g : Field) → encode_field f ≡ encode_field g → (f.tag ≡ g.tag) × (f.value ≡ g.value)
unfolding encode_field little_endian
field-parts f g e = ((head-eq e).0, ap (drop 3) e)

module _ (d a c : Name) (dz : zeros d ≡ 0) (az : zeros a ≡ 0) (cz : zeros c ≡ 0) where
  same-rename : (e f g : Name) → e ++ 0 ∷ (f ++ 0 ∷ g) ≡ d ++ 0 ∷ (a ++ 0 ∷ c) → rename_file e f g ≡ rename_file d a c
  same-rename e f g h =
      let x = zeros_append e (0 ∷ (f ++ 0 ∷ g)) in
      let y = zeros_append f (0 ∷ g) in
      let z = zeros_append d (0 ∷ (a ++ 0 ∷ c)) in
      let w = zeros_append a (0 ∷ c) in
      let n : zeros (e ++ 0 ∷ (f ++ 0 ∷ g)) ≡ zeros (d ++ 0 ∷ (a ++ 0 ∷ c)) = ap zeros h in
      let p = unzero e d (f ++ 0 ∷ g) (a ++ 0 ∷ c) (omega arith) dz h in
      let q = unzero f a g c (omega arith) az p.1 in
      λ i. rename_file (p.0 i) (q.0 i) (q.1 i)

  field-rename : (x : Step) → step_field x ≡ step_field (rename_file d a c) → x ≡ rename_file d a c
  unfolding step_field tag_and_names zero_separated
  field-rename x h = go x (field-parts _ _ h).0 (field-parts _ _ h).1
    where
      go : (x : Step) → (tag_and_names x).0 ≡ 0x24 → zero_separated (tag_and_names x).1 ≡ d ++ 0 ∷ (a ++ 0 ∷ c) → x ≡ rename_file d a c
      go rewrite_header t v = absurd (omega arith)
      go hold_header t v = absurd (omega arith)
      go sync_staging t v = absurd (omega arith)
      go sync_log t v = absurd (omega arith)
      go remove_log t v = absurd (omega arith)
      go sync_journal t v = absurd (omega arith)
      go sync_collections t v = absurd (omega arith)
      go (make_directory e) t v = absurd (omega arith)
      go (rename_file e f g) t v = same-rename e f g v
      go (move_staged f e k) t v = absurd (omega arith)
      go (rename_directory e f) t v = absurd (omega arith)
      go (copy_file e f g) t v = absurd (omega arith)
      go (remove_file e f) t v = absurd (omega arith)
      go (remove_directory e) t v = absurd (omega arith)
      go (remove_staging f) t v = absurd (omega arith)
      go (sync_directory e) t v = absurd (omega arith)

in_take : (n i : ℕ) (l : List Step) (x : Step) → suc i ≤ n → get_elem? l i ≡ some x → In x (take n l)
in_take n i [] x h e = none≢some e
in_take zero i (y ∷ l) x h e = absurd (omega arith)
in_take (suc n) zero (y ∷ l) x h e = inl (sym (some_inj e))
in_take (suc n) (suc i) (y ∷ l) x h e = inr (in_take n i l x (omega arith) e)

-- A field of the plan's first n steps that is this rename's: the rename is among them.
answer-is : (w : Write) → ValidOp (write w) → (s : Store) (n m : ℕ) → m ≤ n → (step_answer m (commit_plan s) (committed_at m s)).step ≡ step_field (backup_rename w) →
    In (backup_rename w) (take n (commit_plan s))
answer-is w v s n m h e = go (leb m (length (commit_plan s))) e
  where
    cz : zeros w.collection ≡ 0
    cz = no-zeros w.collection (valid-bytes w.collection v.0)

    kz : zeros w.key ≡ 0
    kz = no-zeros w.key (valid-bytes w.key v.1)

    none-given : {A : Type 0} → [] ≡ step_field (backup_rename w) → A
    none-given e = unfold step_field encode_field in (nil≢cons e)

    at : (q : Option Step) (i : ℕ) → suc i ≤ n → get_elem? (commit_plan s) i ≡ q → case_option q [] step_field ≡ step_field (backup_rename w) →
        In (backup_rename w) (take n (commit_plan s))
    at none i h z e = none-given e
    at (some x) i h z e =
        let r = field-rename w.collection w.key (backup_name w.key) cz kz (backup-zeros w.key kz) x e in
        subst (λ (y : Step). In y (take n (commit_plan s))) r (in_take n i (commit_plan s) x h z)

    field : (m : ℕ) → m ≤ n → field_at m (commit_plan s) ≡ step_field (backup_rename w) → In (backup_rename w) (take n (commit_plan s))
    field zero h e = none-given e
    field (suc i) h e = at (get_elem? (commit_plan s) i) i h refl e

    go : (t : Bool) →
        (if◌then◌else◌ t (record { number = 0; image = encode (committed_at m s); step = field_at m (commit_plan s) }) (refusal 16)).step
        ≡ step_field (backup_rename w) → In (backup_rename w) (take n (commit_plan s))
    go true e = field m h e
    go false e = none-given e

-- While the log stands, a rename of w that was done has left its backup.
module _ (w : Write) where
  Left : List Step → Store → Type 0
  Left done u = is_some u.log ≡ true → In (backup_rename w) done → Has (backup w) u.tree

  left_snoc : (done : List Step) (x : Step) (u v : Store) → v.log ≡ u.log → (backup_rename w ≡ x → Has (backup w) v.tree) →
      (Has (backup w) u.tree → Has (backup w) v.tree) → Left done u → Left (done ++ x ∷ []) v
  unfolding Left
  left_snoc done x u v e this keep h l i = go (any_append (λ b. backup_rename w ≡ b) done (x ∷ []) i)
    where
      go : In (backup_rename w) done ⊎ In (backup_rename w) (x ∷ []) → Has (backup w) v.tree
      go (inl r) = keep (h (rw e at l) r)
      go (inr (inl r)) = this r
      go (inr (inr r)) = absurd r

  -- A step that is no rename of a file.
  left_other : (done : List Step) (x : Step) (u : Store) → ((tag_and_names x).0 ≡ 0x24 → ⊥) → (apply x u).log ≡ u.log →
      (Has (backup w) u.tree → Has (backup w) (apply x u).tree) → Left done u → Left (done ++ x ∷ []) (apply x u)
  unfolding tag_and_names
  left_other done x u n e keep h = left_snoc done x u (apply x u) e (λ z. absurd (n (ap (λ (y : Step). (tag_and_names y).0) (sym z)))) keep h

  has-put : (k : Key) (x : ℕ) (t : Map) → Has (backup w) t → Has (backup w) (put k x t)
  has-put k x t h = go (key_dec (backup w) k)
    where
      go : Dec (backup w ≡ k) → Has (backup w) (put k x t)
      go (yes y) = (x, rw y (look-put-same k x t))
      go (no y) = (h.0, look-put-other k (backup w) x t y ∙ h.1)

  -- The steps of a Write v.
  module _ (v : Write) (g : KeyGood v.collection v.key) (named : w.key ≡ [] → ⊥) where
    moves : (done : List Step) (u : Store) → Left done u → Runs Left done (move_staged v.staged v.collection v.key ∷ []) u
    unfolding apply tag_and_names
    moves done u h = (h, left_other done (move_staged v.staged v.collection v.key) u (λ e. omega arith) refl (at (look ([], v.staged) u.staging)) h)
      where
        at : (q : Option ℕ) → Has (backup w) u.tree → Has (backup w) (case_option q u.tree (λ x. put (target v) x u.tree))
        at none k = k
        at (some x) k = has-put (target v) x u.tree k

    renames : (b : Option ℕ) (done : List Step) (u : Store) → look (target v) u.tree ≡ b → Left done u →
        Runs Left done (if_present b (backup_rename v ∷ []) ++ move_staged v.staged v.collection v.key ∷ []) u
    renames none done u e h = moves done u h
    renames (some x) done u e h = (
      h,
      moves (done ++ backup_rename v ∷ []) (apply (backup_rename v) u)
          (left_snoc done (backup_rename v) u (apply (backup_rename v) u) (unfold apply in refl) this keep h),
    )
      where
        t : Map
        t = del (target v) u.tree

        tr : (apply (backup_rename v) u).tree ≡ put (backup v) x t
        tr = rename-tree v.collection v.key (backup_name v.key) u x e

        this : backup_rename w ≡ backup_rename v → Has (backup w) (apply (backup_rename v) u).tree
        this y =
            let c : w.collection ≡ v.collection = cc in
            let n : backup_name w.key ≡ backup_name v.key = cc in
            let b : backup w ≡ backup v = λ i. (c i, n i) in
            rw (tr, b) (x, look-put-same (backup v) x t)

        other : backup w ≡ target v → ⊥
        other y = key_apart v.collection w.collection v.key (backup_name w.key) w.key g.file (original-backup w.key named) (sym y)

        keep : Has (backup w) u.tree → Has (backup w) (apply (backup_rename v) u).tree
        keep k = rw tr (has-put (backup v) x t (k.0, look-del-other (target v) (backup w) u.tree other ∙ k.1))

    write-left : (done : List Step) (u : Store) → Left done u → Runs Left done (op_steps (write v) u) u
    unfolding op_steps
    write-left done u h = go (look (v.collection, []) u.tree) (look (target v) u.tree) refl
      where
        make : Step
        make = make_directory v.collection

        go : (a b : Option ℕ) → look (target v) u.tree ≡ b →
            Runs Left done (if_missing a (make ∷ []) ++ if_present b (backup_rename v ∷ []) ++ move_staged v.staged v.collection v.key ∷ []) u
        go (some y) b e = renames b done u e h
        go none b e = unfold apply tag_and_names in (
          h,
          renames b (done ++ make ∷ []) (apply make u)
              (look-put-other (v.collection, []) (target v) 0 u.tree (λ y. g.named (file-eq y)) ∙ e)
              (left_other done make u (λ e. omega arith) refl (has-put (v.collection, []) 0 u.tree) h),
        )

  -- All that comes after the log is gone.
  gone-left : (done xs : List Step) (u : Store) → u.log ≡ none → Runs Left done xs u
  unfolding Left
  gone-left done [] u e = λ l i. absurd (false≢true (rw e at l))
  gone-left done (x ∷ xs) u e = (λ l i. absurd (false≢true (rw e at l)), gone-left (done ++ x ∷ []) xs (apply x u) ((steady (x ∷ []) u).gone e))

  syncs-left : (l : List Name) (done : List Step) (u : Store) → Left done u → Runs Left done (in_turn sync_existing l u) u
  unfolding sync_existing
  syncs-left l done u h = runs_over Left sync_existing (λ d. Unit {0}) (λ d done u t h. each d done u h (look (d, []) u.tree)) l done u (λ d i. tt) h
    where
      each : (d : Name) (done : List Step) (u : Store) → Left done u → (q : Option ℕ) → Runs Left done (if_present q (sync_directory d ∷ [])) u
      each d done u h none = h
      each d done u h (some x) = unfold apply tag_and_names in (h, left_other done (sync_directory d) u (λ e. omega arith) refl (λ k. k) h)

  module _ (s : Store) (ws : List Write) (T : Transacts s (map write ws)) (i : In w ws) (f : commit_fault s ≡ none) where
    keys : (v : Write) → In v ws → KeyGood v.collection v.key
    keys v i = (T.good (write v) (in_ops ws v i)).key

    steps-left : (done : List Step) (u : Store) → Left done u → Runs Left done (in_turn op_steps (map write ws) u) u
    steps-left done u h = runs_over Left op_steps (λ a. (v : Write) × In v ws × (a ≡ write v)) each (map write ws) done u (one_of ws) h
      where
        each : (a : Op) (done : List Step) (u : Store) → (v : Write) × In v ws × (a ≡ write v) → Left done u → Runs Left done (op_steps a u) u
        each a done u v h = subst (λ (b : Op). Runs Left done (op_steps b u) u) (sym v.2) (write-left v.0 (keys v.0 v.1) (keys w i).named done u h)

    plan-left : Runs Left (rewrite_header ∷ []) (in_turn run (commit_parts commit_end (map write ws) none) (apply rewrite_header s)) (apply rewrite_header s)
    plan-left = unfold apply in (k₀, (k₁, runs_append Left done₂ xs (ys ++ zs) begun h (runs_append Left (done₂ ++ xs) ys zs u k last)))
      where
        begun : Store
        begun = apply rewrite_header s

        k₀ : Left (rewrite_header ∷ []) begun
        k₀ = unfold Left in (left_snoc [] rewrite_header begun begun refl (λ e. absurd (let z : ◌≡◌ {A = ℕ} 0 1 = cc in omega arith)) (λ k. k) (λ l i. absurd i))

        k₁ : Left (rewrite_header ∷ sync_staging ∷ []) begun
        k₁ = unfold apply tag_and_names in (left_other (rewrite_header ∷ []) sync_staging begun (λ e. omega arith) refl (λ k. k) k₀)

        done₂ : List Step
        done₂ = rewrite_header ∷ sync_staging ∷ sync_log ∷ []

        k₂ : Left done₂ begun
        k₂ = unfold apply tag_and_names in (left_other (rewrite_header ∷ sync_staging ∷ []) sync_log begun (λ e. omega arith) refl (λ k. k) k₁)

        xs : List Step
        xs = in_turn op_steps (map write ws) begun

        u : Store
        u = apply_all xs begun

        h : Runs Left done₂ xs begun
        h = steps-left done₂ begun k₂

        ys : List Step
        ys = in_turn sync_existing (first_namings [] (map collection_of (map write ws))) u

        k : Runs Left (done₂ ++ xs) ys u
        k = syncs-left (first_namings [] (map collection_of (map write ws))) (done₂ ++ xs) u (runs_end Left done₂ xs begun h)

        v : Store
        v = apply_all ys u

        zs : List Step
        zs = in_turn run (commit_end) v

        k₃ : Left (done₂ ++ xs ++ ys) v
        k₃ = runs_end Left (done₂ ++ xs) ys u k

        last : Runs Left (done₂ ++ xs ++ ys) zs v
        last = unfold apply tag_and_names in (
          k₃,
          (
            left_other (done₂ ++ xs ++ ys) sync_collections v (λ e. omega arith) refl (λ k. k) k₃,
            gone-left (done₂ ++ xs ++ ys ++ sync_collections ∷ [] ++ remove_log ∷ [])
                (sync_journal ∷ in_turn run (remove_backups ∷ remove_staging_files ∷ []) (apply remove_log v)) (apply remove_log v) refl,
          ),
        )

    -- At each number of steps.
    at_cut : (n : ℕ) → Left (take n (commit_plan s)) (apply_all (take n (commit_plan s)) s)
    unfolding Left
    at_cut zero = λ l i. absurd i
    at_cut (suc n) =
        rw (plan-is s (map write ws) T commit_end none f)
        (runs_take Left (rewrite_header ∷ []) (in_turn run (commit_parts commit_end (map write ws) none) (apply rewrite_header s)) (apply rewrite_header s) plan-left n)

-- Where no key of kind 1 waits, undoing takes no old file away.
pub none-waits : (b : Bytes) (s : Store) (ws : List Write) (n : ℕ) → Conditions b s ws → Transacts s (map write ws) → NoneWaits n b s ws →
    SafeAt n s (map write ws)
unfolding Left
none-waits b s ws n C T h = inr λ l. safe-unless s.tree (map write ws) _ T.good λ w j m z.
    let i = of-ops ws w j in
    let r = h w i m z in
    at_cut w s ws T i c.1 n l
    (answer-is w (all_in ValidOp (map write ws) valid (write w) j) s n r.place r.early
    (ap (λ (a : Answer). a.step) (sym (stepped b s r.place C.holds c.0)) ∙ r.given))
  where
    c : Found s × (commit_fault s ≡ none)
    c = committed b s C.holds C.committed

    valid : All ValidOp (map write ws)
    valid = subst (All ValidOp) C.writes_alone (journal-valid s.log)

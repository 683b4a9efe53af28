-- A torn log: a first part of a log, beside files on which nothing was done yet. Recovery leaves the files as they are.
use Rattle.std.specs.Prelude.{◌≡◌, ℕ, zero, suc, ◌+◌, Bool, true, ◌&&◌, ◌||◌, ◌⊎◌, length, drop, get_or, if◌then◌else◌}
use Rattle.std.proofs.Math.Path.{refl, ap}
use Rattle.std.proofs.Common.{sym, ◌∙◌, ap₂, subst, arith, inl, inr}
use mathlib.Core.List.{List, [], ◌∷◌, ◌++◌, reverse}
use Rattle.std.proofs.Math.Option.{Option, none, some}
use Rattle.std.proofs.Math.Bool.{false, not}
use Rattle.std.proofs.lemmas.Bool.{false≢true}
use Rattle.basics.specs.Limits.{op_limit}
use Rattle.basics.specs.Order.{Name}
use Rattle.basics.specs.Map.{Map, look}
use Rattle.basics.specs.Base.{Bytes, In, case_option, is_some, if_present, if_missing, any_of, at_least}
use Rattle.basics.specs.Name.{original_name, strip_tmp, is_backup}
use Rattle.model.specs.Operation.{Op, Write, write, delete, delete_all, create_collection, delete_collection, copy_collection, target, backup, stood, decode_payload}
use Rattle.model.specs.Log.{Journal, absent, recording, committing, held, journal, Cause, Ending, whole, truncated, undecodable, too_many, Entries, stop, after}
use Rattle.model.specs.Log.{walk, entries, first_payload, first_cause, header_short, read_journal, valid_header, by_status}
use Rattle.model.specs.Store.{Store, dirs, files, has_backup_files}
use Rattle.model.specs.Step.{Step, remove_log, remove_file, apply, apply_all}
use Rattle.model.specs.Plan.{in_turn, run, undo_steps, restore_file, restore_directory, restore_backups, remove_backup_file, remove_backups_in, remove_backups}
use Rattle.model.specs.Plan.{remove_standing_log, remove_staging_files, recover_parts, recover_plan, recover_fault, is_new_artifact, recovered, without_mark}
use Rattle.basic_laws.specs.MapLaws.{look-all}
use Rattle.basic_laws.specs.Tests.{All, and_both, in_all}
use Rattle.laws.specs.AppendLaws.{payload_append, not-whole}
use Rattle.laws.specs.EndLaws.{staging-gone}
use Rattle.laws.specs.Listings.{dirs_in, files_in, any_unreverse}
use Rattle.laws.specs.Runs.{apply_all-in_turn}
use Rattle.laws.specs.StoreLaws.{Bare}
use Rattle.cut_rule.specs.Demand.{settled}
use Rattle.cut_rule.specs.Kinds.{Marked}
use Rattle.cut_rule.proofs.StoreRule.{OldTree, AllGood}
use Rattle.power.specs.Loss.{AllInPlace}

-- A walk over a first part of a log that is whole ends at its end or is truncated, with operations of that log.
abbrev pub Short : Ending → Type 0
Short e = (e ≡ whole) ⊎ ((c : Cause) × (e ≡ truncated c))

abbrev Part : Entries → Entries → Type 0
Part a b = Short a.end × ((o : Op) → In o a.ops → In o b.ops)

walk-part : (k m : ℕ) (l rest : Bytes) → (walk k m (l ++ rest)).end ≡ whole → Part (walk k m l) (walk k m (l ++ rest))
unfolding walk
walk-part k (suc m) [] rest e = (inr (header_short, refl), λ o i. absurd i)
walk-part k (suc m) (x ∷ r) rest e = walk-part k m r rest e
walk-part k zero [] rest e = (inl refl, λ o i. absurd i)
walk-part zero zero (x ∷ r) rest e = not-whole too_many e refl
walk-part (suc k) zero (x ∷ r) rest e = go (λ m h. walk-part k m r rest h) (first_payload (x ∷ r)) refl e
  where
    read : Option Op → ℕ → Bytes → Entries
    read q n r = case_option q (stop undecodable) λ o. after o (walk k n r)

    found : ((m : ℕ) → (walk k m (r ++ rest)).end ≡ whole → Part (walk k m r) (walk k m (r ++ rest))) → (n : ℕ) (q : Option Op) →
        (read q n (r ++ rest)).end ≡ whole → Part (read q n r) (read q n (r ++ rest))
    found ih n none e = not-whole undecodable e refl
    found ih n (some o) e = let h = ih n e in (h.0, λ p i. at p i h.1)
      where
        at : (p : Op) → In p (o ∷ (walk k n r).ops) → ((p : Op) → In p (walk k n r).ops → In p (walk k n (r ++ rest)).ops) →
            In p (o ∷ (walk k n (r ++ rest)).ops)
        at p (inl i) h = inl i
        at p (inr i) h = inr (h p i)

    whole-log : Option Bytes → Entries
    whole-log q = case_option q (stop (truncated (first_cause (x ∷ (r ++ rest))))) λ p. read (decode_payload p) (7 + length p) (r ++ rest)

    go : ((m : ℕ) → (walk k m (r ++ rest)).end ≡ whole → Part (walk k m r) (walk k m (r ++ rest))) → (q : Option Bytes) → first_payload (x ∷ r) ≡ q →
        (whole-log (first_payload (x ∷ (r ++ rest)))).end ≡ whole →
        Part (case_option q (stop (truncated (first_cause (x ∷ r)))) λ p. read (decode_payload p) (7 + length p) r) (whole-log (first_payload (x ∷ (r ++ rest))))
    go ih none f e = (inr (first_cause (x ∷ r), refl), λ o i. absurd i)
    go ih (some p) f e =
        let g : first_payload (x ∷ (r ++ rest)) ≡ some p = payload_append (x ∷ r) rest p f in
        subst (λ (z : Option Bytes). Part (read (decode_payload p) (7 + length p) r) (whole-log z)) (sym g)
        (found ih (7 + length p) (decode_payload p) (subst (λ (z : Option Bytes). (whole-log z).end ≡ whole) g e))

-- The entries behind a header.
drop-part : (k : ℕ) (l rest : Bytes) → at_least k l ≡ true → drop k (l ++ rest) ≡ drop k l ++ rest
drop-part zero l rest e = refl
drop-part (suc k) [] rest e = absurd (false≢true e)
drop-part (suc k) (x ∷ l) rest e = drop-part k l rest e

eight-bytes : (l : Bytes) → valid_header l ≡ true → at_least 8 l ≡ true
unfolding valid_header
eight-bytes l h = (and_both _ _ (and_both _ _ (and_both _ _ h).0).0).0

-- What a first part of a log is read as, whose whole is read as these operations.
pub data Idle (ops : List Op) (j : Journal) : Type 0 where
  unread : j ≡ absent → Idle ops j
  still_recording : (o : List Op) (e : Ending) → j ≡ recording o e → Idle ops j
  some_committing : (o : List Op) (e : Ending) → j ≡ committing o e → Short e → ((a : Op) → In a o → In a ops) → Idle ops j

-- A log of these operations, whole.
abbrev pub Whole : List Op → Journal → Type 0
Whole ops j = (j ≡ recording ops whole) ⊎ (j ≡ committing ops whole)

pub whole-idle : (ops : List Op) (j : Journal) → Whole ops j → Idle ops j
whole-idle ops j (inl e) = still_recording ops whole e
whole-idle ops j (inr e) = some_committing ops whole e (inl refl) (λ a i. i)

-- Status bytes of Recording and Committing: no such log is Held, and so no first part of one.
abbrev Low : ℕ → Type 0
Low zero = Unit {0}
Low (suc zero) = Unit {0}
Low (suc (suc n)) = ⊥

status_part : (l rest : Bytes) → at_least 8 l ≡ true → get_or (l ++ rest) 1 0 ≡ get_or l 1 0
status_part [] rest e = absurd (false≢true e)
status_part (x ∷ []) rest e = absurd (false≢true e)
status_part (x ∷ y ∷ l) rest e = refl

first_part : (l rest : Bytes) (ops : List Op) → (entries (l ++ rest)).ops ≡ ops → (entries (l ++ rest)).end ≡ whole → Low (get_or (l ++ rest) 1 0) →
    Idle ops (read_journal l)
unfolding read_journal entries
first_part l rest ops p e low = go (valid_header l) refl (get_or l 1 0) (λ h. subst Low (status_part l rest (eight-bytes l h)) low)
  where
    go : (h : Bool) → valid_header l ≡ h → (n : ℕ) → (valid_header l ≡ true → Low n) → Idle ops (if◌then◌else◌ h (by_status n (walk op_limit 0 (drop 8 l))) absent)
    go false h n q = unread refl
    go true h zero q = still_recording (walk op_limit 0 (drop 8 l)).ops (walk op_limit 0 (drop 8 l)).end refl
    go true h (suc (suc n)) q = absurd (q h)
    go true h (suc zero) q =
        let d : drop 8 (l ++ rest) ≡ drop 8 l ++ rest = drop-part 8 l rest (eight-bytes l h) in
        let w : Part (walk op_limit 0 (drop 8 l)) (walk op_limit 0 (drop 8 l ++ rest)) = walk-part op_limit 0 (drop 8 l) rest (rw d at e) in
        some_committing (walk op_limit 0 (drop 8 l)).ops (walk op_limit 0 (drop 8 l)).end refl w.0 (λ a i. rw (← p) (rw d (w.1 a i)))

-- The entries of a log that is read.
abbrev code : Journal → ℕ
code absent = 0
code (recording o e) = 1
code (committing o e) = 2
code (held o e) = 3

read-entries : (l : Bytes) (ops : List Op) → Whole ops (read_journal l) → ((entries l).ops ≡ ops) × ((entries l).end ≡ whole) × Low (get_or l 1 0)
unfolding read_journal
read-entries l o h = go (valid_header l) (get_or l 1 0) (entries l) h
  where
    go : (b : Bool) (n : ℕ) (r : Entries) → Whole o (if◌then◌else◌ b (by_status n r) absent) → (r.ops ≡ o) × (r.end ≡ whole) × Low n
    go false n r (inl q) = let z : ◌≡◌ {A = ℕ} 0 1 = ap code q in absurd (omega arith)
    go false n r (inr q) = let z : ◌≡◌ {A = ℕ} 0 2 = ap code q in absurd (omega arith)
    go true zero r (inl q) = (cc, cc, tt)
    go true zero r (inr q) = let z : ◌≡◌ {A = ℕ} 1 2 = ap code q in absurd (omega arith)
    go true (suc (suc n)) r (inl q) = let z : ◌≡◌ {A = ℕ} 3 1 = ap code q in absurd (omega arith)
    go true (suc (suc n)) r (inr q) = let z : ◌≡◌ {A = ℕ} 3 2 = ap code q in absurd (omega arith)
    go true (suc zero) r (inl q) = let z : ◌≡◌ {A = ℕ} 2 1 = ap code q in absurd (omega arith)
    go true (suc zero) r (inr q) = (cc, cc, tt)

pub torn-idle : (l rest : Bytes) (ops : List Op) → Whole ops (read_journal (l ++ rest)) → Idle ops (read_journal l)
torn-idle l rest ops h = let z = read-entries (l ++ rest) ops h in first_part l rest ops z.0 z.1 z.2

turn-none : {A : Type 0} (g : A → Store → List Step) (l : List A) (s : Store) → ((a : A) → In a l → g a s ≡ []) → in_turn g l s ≡ []
turn-none g [] s h = refl
turn-none g (a ∷ l) s h =
    subst (λ (xs : List Step). xs ++ in_turn g l (apply_all xs s) ≡ []) (sym (h a (inl refl))) (turn-none g l s (λ b i. h b (inr i)))

no-any : {A : Type 0} (q : A → Bool) (l : List A) → All (λ a. q a ≡ false) l → any_of q l ≡ false
no-any q [] h = refl
no-any q (a ∷ l) h = ap₂ (λ (x y : Bool). x || y) h.0 (no-any q l h.1)

-- On the tree from before there is nothing to undo, to restore or to clean.
module _ (ops : List Op) (p : Map) (old : OldTree p) (good : AllGood p ops) (place : AllInPlace ops) (m : Marked ops) where
  -- A Write's mark tells what stands.
  mark-is : (w : Write) → In (write w) ops → stood w ≡ is_some (look (target w) p)
  mark-is w i = go w.mark refl
    where
      go : (q : Option Bool) → w.mark ≡ q → case_option q false (λ x. x) ≡ is_some (look (target w) p)
      go none e = absurd (m w i e)
      go (some x) e = (good (write w) i).mark x e

  undo-none : (a : Op) → In a ops → (u : Store) → u.tree ≡ p → undo_steps a u ≡ []
  unfolding undo_steps
  undo-none (write w) i u e = rw (e, mark-is w i) (go (look (target w) p))
    where
      go : (q : Option ℕ) → if◌then◌else◌ (is_some q) [] (if_present q (if_missing (look (backup w) p) (remove_file w.collection w.key ∷ []))) ≡ []
      go none = refl
      go (some x) = refl
  undo-none (delete c k) i u e = refl
  undo-none (delete_all c) i u e = refl
  undo-none (create_collection c) i u e = absurd (place (create_collection c) i)
  undo-none (delete_collection c) i u e = refl
  undo-none (copy_collection a b x) i u e = absurd (place (copy_collection a b x) i)

  pub undo-all-none : (l : List Op) → ((a : Op) → In a l → In a ops) → (u : Store) → u.tree ≡ p → in_turn undo_steps (reverse l) u ≡ []
  undo-all-none l h u e = turn-none undo_steps (reverse l) u (λ a i. undo-none a (h a (any_unreverse (λ b. a ≡ b) l i)) u e)

  file-plain : (d f : Name) (u : Store) → u.tree ≡ p → In f (files d u.tree) → (original_name f ≡ none) × (strip_tmp f ≡ none)
  file-plain d f u e i =
      let z = files_in d f u.tree i in let y = (old.plain d f (z.0, ap (look (d, f)) (sym e) ∙ z.1)).1 in (y.no_bak, y.no_tmp)

  dir-plain : (d : Name) (u : Store) → u.tree ≡ p → In d (dirs u.tree) → original_name d ≡ none
  dir-plain d u e i = let z = dirs_in d u.tree i in (old.plain d [] (z.0, ap (look (d, [])) (sym e) ∙ z.1)).0.no_bak

  pub restore_none : (u : Store) → u.tree ≡ p → restore_backups u ≡ []
  unfolding restore_directory restore_file
  restore_none u e =
      turn-none restore_directory (dirs u.tree) u
      (λ d i. rw (dir-plain d u e i) (turn-none (restore_file d) (files d u.tree) u (λ f k. let z = file-plain d f u e k in rw (z.0, z.1))))

  pub remove_none : (u : Store) → u.tree ≡ p → remove_backups u ≡ []
  unfolding remove_backups_in remove_backup_file
  remove_none u e =
      turn-none remove_backups_in (dirs u.tree) u
      (λ d i. rw (dir-plain d u e i) (turn-none (remove_backup_file d) (files d u.tree) u (λ f k. rw (file-plain d f u e k).0)))

  no-backups : has_backup_files p ≡ false
  unfolding has_backup_files
  no-backups =
      no-any (λ n. is_backup n.0.0 || is_backup n.0.1) p
      (look-all (λ k x. (is_backup k.0 || is_backup k.1) ≡ false) p old.sorted
      (λ k x e. let z = old.plain k.0 k.1 (x, e) in rw (z.0.no_bak, z.1.no_bak)))

  no_artifact : (a : Op) → In a ops → is_new_artifact p a ≡ false
  unfolding is_new_artifact
  no_artifact (write w) i = rw (mark-is w i) (go (look (target w) p))
    where
      go : (q : Option ℕ) → (not (is_some q) && is_some q && not (is_some (look (backup w) p))) ≡ false
      go none = refl
      go (some x) = refl
  no_artifact (delete c k) i = refl
  no_artifact (delete_all c) i = refl
  no_artifact (create_collection c) i = absurd (place (create_collection c) i)
  no_artifact (delete_collection c) i = refl
  no_artifact (copy_collection a b x) i = absurd (place (copy_collection a b x) i)

  -- It refuses nothing.
  pub idle-calm : (u : Store) → u.tree ≡ p → (j : Journal) → Idle ops j → recover_fault j u.tree ≡ none
  idle-calm u e j (unread q) = ap (λ (j : Journal). recover_fault j u.tree) q
  idle-calm u e j (still_recording l x q) = ap (λ (j : Journal). recover_fault j u.tree) q
  idle-calm u e j (some_committing l x q (inl z) h) = ap (λ (j : Journal). recover_fault j u.tree) (q ∙ ap (committing l) z)
  idle-calm u e j (some_committing l x q (inr z) h) =
      ap (λ (j : Journal). recover_fault j u.tree) (q ∙ ap (committing l) z.1)
      ∙ rw (e, no-backups, no-any (is_new_artifact p) l (in_all (λ a. is_new_artifact p a ≡ false) l (λ a i. no_artifact a (h a i))))

  -- What its plan is, by parts that do nothing but remove the log, where it stands, and the staging files.
  abbrev pub dropping : List (Store → List Step)
  dropping = (λ s. remove_log ∷ []) ∷ remove_staging_files ∷ []

  pub data IdlePlan (u : Store) : Type 0 where
    leaves : recover_plan u ≡ in_turn run (remove_standing_log ∷ remove_staging_files ∷ []) u → IdlePlan u
    drops : recover_plan u ≡ in_turn run dropping u → IdlePlan u

  pub idle-plan : (u : Store) → u.tree ≡ p → (j : Journal) → journal u.log ≡ j → Idle ops j → IdlePlan u
  unfolding recover_plan
  idle-plan u e j r (unread q) =
      leaves (ap (λ (k : Journal). in_turn run (recover_parts k) u) (r ∙ q)
      ∙ ap (λ (xs : List Step). xs ++ in_turn run (remove_standing_log ∷ remove_staging_files ∷ []) (apply_all xs u)) (remove_none u e))
  idle-plan u e j r (still_recording l x q) = drops (ap (λ (k : Journal). in_turn run (recover_parts k) u) (r ∙ q))
  idle-plan u e j r (some_committing l x q (inr z) h) = drops (ap (λ (k : Journal). in_turn run (recover_parts k) u) (r ∙ q ∙ ap (committing l) z.1))
  idle-plan u e j r (some_committing l x q (inl z) h) =
      drops (ap (λ (k : Journal). in_turn run (recover_parts k) u) (r ∙ q ∙ ap (committing l) z)
      ∙ ap (λ (xs : List Step). xs ++ in_turn run (restore_backups ∷ dropping) (apply_all xs u)) (undo-all-none l h u e)
      ∙ ap (λ (xs : List Step). xs ++ in_turn run dropping (apply_all xs u)) (restore_none u e))

  -- And leaves the files.
  pub idle-recovers : (u : Store) → Bare u.staging → u.tree ≡ p → Idle ops (journal u.log) → recovered u ≡ settled p
  unfolding recovered
  idle-recovers u b e i = go (idle-plan v e (journal u.log) refl i)
    where
      v : Store
      v = without_mark u

      emptied : (w : Store) → w.staging ≡ u.staging → w.tree ≡ u.tree → w.log ≡ none → w.open_mark ≡ false → apply_all (remove_staging_files w) w ≡ settled p
      emptied w s t l k = staging-gone w (rw s b) ∙ λ i. record { tree = (t ∙ e) i; staging = []; log = l i; open_mark = k i }

      gone : (q : Option Bytes) → u.log ≡ q →
          let w = apply_all (if_present q (remove_log ∷ [])) v in apply_all (remove_staging_files w) w ≡ settled p
      gone none k = emptied v refl refl k refl
      gone (some l) k = unfold apply in (emptied (apply remove_log v) refl refl refl refl)

      go : IdlePlan v → apply_all (recover_plan v) v ≡ settled p
      go (leaves q) =
          ap (λ (xs : List Step). apply_all xs v) q ∙ apply_all-in_turn run (remove_standing_log ∷ remove_staging_files ∷ []) v ∙ gone u.log refl
      go (drops q) =
          ap (λ (xs : List Step). apply_all xs v) q ∙ apply_all-in_turn run dropping v ∙ unfold apply in (emptied (apply remove_log v) refl refl refl refl)

-- What an entry hands back is accepted again: its image is read, as the store that the definitions name. The one exception is an
-- image with a directory or file named "..bak" or "...bak", which restoring "..bak.bak" or "...bak.bak" makes.
use Rattle.std.specs.Prelude.{◌≡◌, refl, ℕ, List, ◌⊎◌, length}
use Rattle.std.proofs.Common.{sym, ◌∙◌, ap, arith, inl, inr}
use Rattle.std.proofs.Math.Option.{none, some}
use Rattle.basics.specs.Order.{Name}
use Rattle.basics.specs.Base.{Bytes}
use Rattle.model.specs.Operation.{Op}
use Rattle.model.specs.Log.{journal, committing, whole, ops_of}
use Rattle.model.specs.Store.{Store}
use Rattle.model.specs.Image.{encode, decode}
use Rattle.model.specs.Plan.{commit_fault, commit_plan, committed_at, recovered_at, recovered, hold_plan, held_at, reverted_at, reverted, kept_at, kept}
use Rattle.model.specs.Record.{Outcome, give, begin_transaction, discard, record_write, record_delete, record_delete_keys, record_delete_all, record_create, record_delete_collection, record_copy}
use Rattle.model.specs.Step.{commit_number}
use Rattle.answers.specs.Answers.{Answer, refusal, image_entry, begin, write, delete, delete_keys, delete_all, create_collection, delete_collection, copy_collection, rollback, commit, recover, commit_step, recover_step, hold, keep, revert, keep_step, revert_step}
use Rattle.basic_laws.specs.MapLaws.{some_inj}
use Rattle.basic_laws.specs.Tests.{All, all_imp}
use Rattle.laws.specs.ImageLaws.{decode-encode}
use Rattle.basic_laws.specs.ValidNames.{Valid, DotBakBak}
use Rattle.laws.specs.StoreLaws.{Good, well-formed}
use Rattle.laws.specs.RecordLaws.{Gives, begin-keeps, rollback-keeps, write_keeps, delete-keeps, delete-all-keeps, create_keeps, delete-collection-keeps, copy_keeps}
use Rattle.laws.specs.KeySetLaws.{delete-keys-keeps}
use Rattle.laws.specs.WellFormed.{NoneNamed, NoneMade, recover-keeps-valid, recover-keeps-named, recovered-keeps, commit-keeps, commit-keeps-named, hold-keeps, hold-keeps-named, keep-keeps, kept-keeps, revert-keeps-named, reverted-keeps}
use Rattle.answer_laws.specs.EntryLaws.{commit_refusals, recover_refusals, commit_step_refusals, recover_step_refusals, lent-good, no-fault, on-entry, on-commit, on-recover, on-commit-step, on-recover-step, keep_refusals, revert_refusals, keep_step_refusals, revert_step_refusals, on-hold, on-keep, on-revert, on-keep-step, on-revert-step}

-- The image b was lent and the answer a given: b holds a store, a's image is read as a store, and this one follows from the first.
pub record Accepted (Follows : Store → Store → Type 0) (b : Bytes) (a : Answer) : Type 0 where
  pub lent : Store
  pub given : Store
  pub reads : decode b ≡ some lent
  pub follows : Follows lent given
  pub accepted : decode a.image ≡ some given

-- It follows as what a function gives for the lent store; as the value of a function at the lent store.
abbrev pub GivenBy : (Store → Outcome) → Store → Store → Type 0
GivenBy f s u = f s ≡ give u

abbrev pub Is : (Store → Store) → Store → Store → Type 0
Is f s u = u ≡ f s

abbrev pub committed_store : Store → Store
committed_store s = committed_at (length (commit_plan s)) s

-- No directory or file of the lent image is named "..bak.bak" or "...bak.bak"; no operation of its log makes one.
abbrev pub NoDotBakBak : Bytes → Type 0
NoDotBakBak b = (s : Store) → decode b ≡ some s → NoneNamed DotBakBak s.tree

abbrev pub NoDotBakBakMade : Bytes → Type 0
NoDotBakBakMade b = (s : Store) → decode b ≡ some s → NoneMade DotBakBak (ops_of (journal s.log))

-- The lent image's log is no whole Committing one: recovery restores nothing.
abbrev pub NotWholeCommitting : Bytes → Type 0
NotWholeCommitting b = (s : Store) → decode b ≡ some s → (ops : List Op) → journal s.log ≡ committing ops whole → ⊥

-- Why: what an answer hands back is the image of a well-formed store, and a refusal has another number.
read_back : (b : Bytes) (Follows : Store → Store → Type 0) (s u : Store) (a : Answer) → decode b ≡ some s → Follows s u → Good Valid u → a.image ≡ encode u → Accepted Follows b a
read_back b F s u a d f g e = record { lent = s; given = u; reads = d; follows = f; accepted = ap decode e ∙ decode-encode u (well-formed u g) }

abbrev WithNumber : ℕ → (Answer → Type 0) → Answer → Type 0
WithNumber n P a = a.number ≡ n → P a

refused : (n : ℕ) (P : Answer → Type 0) (l : List ℕ) → All (λ m. m ≡ n → ⊥) l → All (λ m. WithNumber n P (refusal m)) l
refused n P l h = all_imp (λ m z e. absurd (z e)) l h

entry : (f : Store → Outcome) → ((s : Store) → Good Valid s → Gives (f s)) → (b : Bytes) (out : ℕ) → (image_entry f b out).number ≡ 0 → Accepted (GivenBy f) b (image_entry f b out)
entry f k b out = on-entry (WithNumber 0 (Accepted (GivenBy f) b)) f k b out (λ n z e. absurd (z e)) (λ s u d m g e. read_back b (GivenBy f) s u _ d m g refl)

of-commit : (b : Bytes) (out n : ℕ) → All (λ m. m ≡ n → ⊥) commit_refusals → ((s : Store) → decode b ≡ some s → commit_number (commit_fault s) ≡ n → Good Valid (committed_store s)) →
    (commit b out).number ≡ n → Accepted (Is committed_store) b (commit b out)
of-commit b out n r h = on-commit (WithNumber n (Accepted (Is committed_store) b)) b out (refused n (Accepted (Is committed_store) b) commit_refusals r) λ s d z. read_back b (Is committed_store) s (committed_store s) _ d refl (h s d z) refl

of-commit-step : (n : ℕ) (b : Bytes) (out stepOut : ℕ) → ((s : Store) → decode b ≡ some s → Good Valid (committed_at n s)) → (commit_step n b out stepOut).number ≡ 0 → Accepted (Is (committed_at n)) b (commit_step n b out stepOut)
of-commit-step n b out stepOut h =
    on-commit-step (WithNumber 0 (Accepted (Is (committed_at n)) b)) n b out stepOut (refused 0 (Accepted (Is (committed_at n)) b) commit_step_refusals (omega arith)) λ s d z. read_back b (Is (committed_at n)) s (committed_at n s) _ d refl (h s d) refl

-- What commit's number says.
commit-clear : (b : Bytes) (out : ℕ) (s : Store) → decode b ≡ some s → (commit b out).number ≡ 0 → commit_fault s ≡ none
commit-clear b out s d = on-commit (WithNumber 0 (λ a. commit_fault s ≡ none)) b out (refused 0 (λ a. commit_fault s ≡ none) commit_refusals (omega arith)) λ u e z. ap commit_fault (some_inj (sym d ∙ e)) ∙ no-fault (commit_fault u) z

-- Recovery where it keeps the store well-formed.
recovers : (b : Bytes) → NotWholeCommitting b ⊎ NoDotBakBak b → (s : Store) → decode b ≡ some s → (n : ℕ) → Good Valid (recovered_at n s)
recovers b (inl h) s d = recover-keeps-valid s (lent-good b s d) (h s d)
recovers b (inr h) s d = recover-keeps-named s (lent-good b s d) (h s d)

-- The entries from image to image: always.
pub begin-accepted : (b : Bytes) (out : ℕ) → (begin b out).number ≡ 0 → Accepted (GivenBy begin_transaction) b (begin b out)
unfolding begin
begin-accepted = entry begin_transaction begin-keeps

pub write-accepted : (c k staged : Name) (x : ℕ) (b : Bytes) (out : ℕ) → (write c k staged x b out).number ≡ 0 → Accepted (GivenBy (record_write c k staged x)) b (write c k staged x b out)
unfolding write
write-accepted c k staged x = entry (record_write c k staged x) (write_keeps c k staged x)

pub delete-accepted : (c k : Name) (b : Bytes) (out : ℕ) → (delete c k b out).number ≡ 0 → Accepted (GivenBy (record_delete c k)) b (delete c k b out)
unfolding delete
delete-accepted c k = entry (record_delete c k) (delete-keeps c k)

pub delete-keys-accepted : (c : Name) (keys b : Bytes) (out : ℕ) → (delete_keys c keys b out).number ≡ 0 → Accepted (GivenBy (record_delete_keys c keys)) b (delete_keys c keys b out)
unfolding delete_keys
delete-keys-accepted c keys = entry (record_delete_keys c keys) (delete-keys-keeps c keys)

pub delete-all-accepted : (c : Name) (b : Bytes) (out : ℕ) → (delete_all c b out).number ≡ 0 → Accepted (GivenBy (record_delete_all c)) b (delete_all c b out)
unfolding delete_all
delete-all-accepted c = entry (record_delete_all c) (delete-all-keeps c)

pub create_collection-accepted : (c : Name) (b : Bytes) (out : ℕ) → (create_collection c b out).number ≡ 0 → Accepted (GivenBy (record_create c)) b (create_collection c b out)
unfolding create_collection
create_collection-accepted c = entry (record_create c) (create_keeps c)

pub delete-collection-accepted : (c : Name) (b : Bytes) (out : ℕ) → (delete_collection c b out).number ≡ 0 → Accepted (GivenBy (record_delete_collection c)) b (delete_collection c b out)
unfolding delete_collection
delete-collection-accepted c = entry (record_delete_collection c) (delete-collection-keeps c)

pub copy_collection-accepted : (a c : Name) (b : Bytes) (out : ℕ) → (copy_collection a c b out).number ≡ 0 → Accepted (GivenBy (record_copy a c)) b (copy_collection a c b out)
unfolding copy_collection
copy_collection-accepted a c = entry (record_copy a c) (copy_keeps a c)

pub rollback-accepted : (b : Bytes) (out : ℕ) → (rollback b out).number ≡ 0 → Accepted (GivenBy discard) b (rollback b out)
unfolding rollback
rollback-accepted = entry discard rollback-keeps

-- Commit with number 0: always. With 14 or 15: unless one of the two names is there to be restored.
pub commit-accepted : (b : Bytes) (out : ℕ) → (commit b out).number ≡ 0 → Accepted (Is committed_store) b (commit b out)
commit-accepted b out = of-commit b out 0 (omega arith) λ s d z. commit-keeps s (lent-good b s d) (no-fault (commit_fault s) z) (length (commit_plan s))

pub commit-failed-accepted : (b : Bytes) (out : ℕ) → ((commit b out).number ≡ 14) ⊎ ((commit b out).number ≡ 15) → NoDotBakBak b → NoDotBakBakMade b → Accepted (Is committed_store) b (commit b out)
commit-failed-accepted b out c h k = go c
  where
    keeps : (s : Store) → decode b ≡ some s → Good Valid (committed_store s)
    keeps s d = commit-keeps-named s (lent-good b s d) (h s d) (k s d) (length (commit_plan s))

    go : ((commit b out).number ≡ 14) ⊎ ((commit b out).number ≡ 15) → Accepted (Is committed_store) b (commit b out)
    go (inl e) = of-commit b out 14 (omega arith) (λ s d z. keeps s d) e
    go (inr e) = of-commit b out 15 (omega arith) (λ s d z. keeps s d) e

-- The steps of a commit with number 0: always. Those of any commit: unless one of the two names is there to be restored.
pub commit-step-accepted : (n : ℕ) (b : Bytes) (out stepOut room : ℕ) → (commit b room).number ≡ 0 → (commit_step n b out stepOut).number ≡ 0 → Accepted (Is (committed_at n)) b (commit_step n b out stepOut)
commit-step-accepted n b out stepOut room c = of-commit-step n b out stepOut λ s d. commit-keeps s (lent-good b s d) (commit-clear b room s d c) n

pub commit-step-failed-accepted : (n : ℕ) (b : Bytes) (out stepOut : ℕ) → NoDotBakBak b → NoDotBakBakMade b → (commit_step n b out stepOut).number ≡ 0 → Accepted (Is (committed_at n)) b (commit_step n b out stepOut)
commit-step-failed-accepted n b out stepOut h k = of-commit-step n b out stepOut λ s d. commit-keeps-named s (lent-good b s d) (h s d) (k s d) n

-- Recovery and its steps: where nothing is restored, and unless one of the two names is there to be restored.
pub recover-accepted : (b : Bytes) (out : ℕ) → NotWholeCommitting b ⊎ NoDotBakBak b → (recover b out).number ≡ 0 → Accepted (Is recovered) b (recover b out)
recover-accepted b out h = on-recover (WithNumber 0 (Accepted (Is recovered) b)) b out (refused 0 (Accepted (Is recovered) b) recover_refusals (omega arith)) λ s d z.
    read_back b (Is recovered) s (recovered s) _ d refl (recovered-keeps s (recovers b h s d)) refl

pub recover-step-accepted : (n : ℕ) (b : Bytes) (out stepOut : ℕ) → NotWholeCommitting b ⊎ NoDotBakBak b → (recover_step n b out stepOut).number ≡ 0 → Accepted (Is (recovered_at n)) b (recover_step n b out stepOut)
recover-step-accepted n b out stepOut h = on-recover-step (WithNumber 0 (Accepted (Is (recovered_at n)) b)) n b out stepOut (refused 0 (Accepted (Is (recovered_at n)) b) recover_step_refusals (omega arith)) λ s d z.
    read_back b (Is (recovered_at n)) s (recovered_at n s) _ d refl (recovers b h s d n) refl

-- 02, item 6. Hold with number 0, and its steps; keep and its steps: always. Hold that fails, revert: unless one of the two names is there to be restored.
abbrev pub held_store : Store → Store
held_store s = held_at (length (hold_plan s)) s

of-hold : (b : Bytes) (out n : ℕ) → All (λ m. m ≡ n → ⊥) commit_refusals → ((s : Store) → decode b ≡ some s → commit_number (commit_fault s) ≡ n → Good Valid (held_store s)) →
    (hold b out).number ≡ n → Accepted (Is held_store) b (hold b out)
of-hold b out n r h = on-hold (WithNumber n (Accepted (Is held_store) b)) b out (refused n (Accepted (Is held_store) b) commit_refusals r) λ s d z. read_back b (Is held_store) s (held_store s) _ d refl (h s d z) refl

pub hold-accepted : (b : Bytes) (out : ℕ) → (hold b out).number ≡ 0 → Accepted (Is held_store) b (hold b out)
hold-accepted b out = of-hold b out 0 (omega arith) λ s d z. hold-keeps s (lent-good b s d) (no-fault (commit_fault s) z) (length (hold_plan s))

pub hold-failed-accepted : (b : Bytes) (out : ℕ) → ((hold b out).number ≡ 14) ⊎ ((hold b out).number ≡ 15) → NoDotBakBak b → NoDotBakBakMade b → Accepted (Is held_store) b (hold b out)
hold-failed-accepted b out c h k = go c
  where
    keeps : (s : Store) → decode b ≡ some s → Good Valid (held_store s)
    keeps s d = hold-keeps-named s (lent-good b s d) (h s d) (k s d) (length (hold_plan s))

    go : ((hold b out).number ≡ 14) ⊎ ((hold b out).number ≡ 15) → Accepted (Is held_store) b (hold b out)
    go (inl e) = of-hold b out 14 (omega arith) (λ s d z. keeps s d) e
    go (inr e) = of-hold b out 15 (omega arith) (λ s d z. keeps s d) e

pub keep-accepted : (b : Bytes) (out : ℕ) → (keep b out).number ≡ 0 → Accepted (Is kept) b (keep b out)
keep-accepted b out = on-keep (WithNumber 0 (Accepted (Is kept) b)) b out (refused 0 (Accepted (Is kept) b) keep_refusals (omega arith)) λ s d z. read_back b (Is kept) s (kept s) _ d refl (kept-keeps s (keep-keeps s (lent-good b s d))) refl

pub keep-step-accepted : (n : ℕ) (b : Bytes) (out stepOut : ℕ) → (keep_step n b out stepOut).number ≡ 0 → Accepted (Is (kept_at n)) b (keep_step n b out stepOut)
keep-step-accepted n b out stepOut = on-keep-step (WithNumber 0 (Accepted (Is (kept_at n)) b)) n b out stepOut (refused 0 (Accepted (Is (kept_at n)) b) keep_step_refusals (omega arith)) λ s d z. read_back b (Is (kept_at n)) s (kept_at n s) _ d refl (keep-keeps s (lent-good b s d) n) refl

pub revert-accepted : (b : Bytes) (out : ℕ) → NoDotBakBak b → (revert b out).number ≡ 0 → Accepted (Is reverted) b (revert b out)
revert-accepted b out h = on-revert (WithNumber 0 (Accepted (Is reverted) b)) b out (refused 0 (Accepted (Is reverted) b) revert_refusals (omega arith)) λ s d z.
    read_back b (Is reverted) s (reverted s) _ d refl (reverted-keeps s (revert-keeps-named s (lent-good b s d) (h s d))) refl

pub revert-step-accepted : (n : ℕ) (b : Bytes) (out stepOut : ℕ) → NoDotBakBak b → (revert_step n b out stepOut).number ≡ 0 → Accepted (Is (reverted_at n)) b (revert_step n b out stepOut)
revert-step-accepted n b out stepOut h = on-revert-step (WithNumber 0 (Accepted (Is (reverted_at n)) b)) n b out stepOut (refused 0 (Accepted (Is (reverted_at n)) b) revert_step_refusals (omega arith)) λ s d z.
    read_back b (Is (reverted_at n)) s (reverted_at n s) _ d refl (revert-keeps-named s (lent-good b s d) (h s d) n) refl

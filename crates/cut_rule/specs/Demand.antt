-- The cut rule over images: 01, 'The words of demand 3', and 02, items 4, 5, 6 and 13. Quotes are from 01, or from 02 where an item is named. Theorem.antt,
-- Again.antt, HoldRules.antt and Count.antt prove what is stated here.
use Rattle.std.specs.Prelude.{◌≡◌, ℕ, ◌+◌, ◌*◌, ◌≤◌, List, [], ◌∷◌, ◌++◌, map, Bool, false, not, ◌⊎◌, ◌↔◌, length, leb, if◌then◌else◌}
use Rattle.std.proofs.Math.Option.{none, some}
use Rattle.basics.specs.Limits.{image_room, step_room}
use Rattle.basics.specs.Order.{Name}
use Rattle.basics.specs.Map.{Map, look, put, Has}
use Rattle.basics.specs.Base.{Bytes, case_option, is_some, is_in, Any, In}
use Rattle.basics.specs.Name.{backup_extension, staging_extension, backup_name}
use Rattle.basics.specs.Field.{has_tag}
use Rattle.model.specs.Operation.{Write, write, target}
use Rattle.model.specs.Log.{journal, ops_of}
use Rattle.model.specs.Store.{Store, staging_key, staging_names}
use Rattle.model.specs.Image.{decode}
use Rattle.model.specs.Step.{Step, rename_file, step_field}
use Rattle.model.specs.Plan.{commit_plan}
use Rattle.answers.specs.Answers.{Answer, answer, commit, commit_step, recover, recover_step, hold, hold_step, keep, keep_step, revert, revert_step}
use Rattle.laws.specs.Listings.{Once}

-- A name ends in .bak, or in .tmp: as text, whatever stands before the dot.
pub record EndsIn (extension n : Name) : Type 0 where
  pub front : Name
  pub joined : n ≡ front ++ 0x2E ∷ extension

pub record NoExtension (n : Name) : Type 0 where
  pub no_bak : EndsIn backup_extension n → ⊥
  pub no_tmp : EndsIn staging_extension n → ⊥

-- "Keys are distinct if no two Writes have the same collection and key."
abbrev pub Distinct : List Write → Type 0
Distinct [] = Unit {0}
Distinct (w ∷ l) = ((v : Write) → In v l → target v ≡ target w → ⊥) × Distinct l

-- The conditions on a transaction: the image b, the store s that it holds, the Writes ws of its log, and what is asked of the number that commit gives.
pub record Meets (N : ℕ → Type 0) (b : Bytes) (s : Store) (ws : List Write) : Type 0 where
  -- "A transaction is an image for which commit, lent enough output, isn't given 1 or 4".
  pub committed : N (commit b image_room).number
  -- ""Before" is that image's directories and files."
  pub holds : decode b ≡ some s
  -- "Its Writes and their keys are those of its log": its operations are Writes alone.
  pub writes_alone : ops_of (journal s.log) ≡ map write ws
  -- No name of a directory or file before, and no key, ends in .bak or .tmp; "a staging name may end in .tmp".
  pub names : (d f : Name) → Has (d, f) s.tree → NoExtension d × NoExtension f
  pub keys : (w : Write) → In w ws → NoExtension w.key
  -- The keys are distinct, in collections that exist.
  pub distinct_keys : Distinct ws
  pub collections : (w : Write) → In w ws → Has (w.collection, []) s.tree

-- The cut rule's: the commit meets no failing step, 14 or 15. And those of a commit that meets one.
abbrev pub Conditions : Bytes → Store → List Write → Type 0
Conditions = Meets (λ x. x ≡ 0)

abbrev pub Failing : Bytes → Store → List Write → Type 0
Failing = Meets (λ x. (x ≡ 14) ⊎ (x ≡ 15))

-- 02, item 4: "every mark is true of the store at commit": 1 exactly if the key's file stands there. A Write of kind 1 has no mark.
abbrev pub TrueMark : Map → Write → Type 0
TrueMark t w = (x : Bool) → w.mark ≡ some x → x ≡ is_some (look (target w) t)

abbrev pub TrueMarks : Map → List Write → Type 0
TrueMarks t ws = (w : Write) → In w ws → TrueMark t w

-- Writes of kind 1 alone; of kind 7 alone, with true marks.
abbrev pub Unmarked : List Write → Type 0
Unmarked ws = (w : Write) → In w ws → w.mark ≡ none

abbrev pub TrulyMarked : Map → List Write → Type 0
TrulyMarked t ws = (w : Write) → In w ws → w.mark ≡ some (is_some (look (target w) t))

-- A key's "rename to the backup name, the key with .bak behind it".
abbrev pub backup_rename : Write → Step
backup_rename w = rename_file w.collection w.key (backup_name w.key)

-- That rename is "among the first n steps": its field is one of those that commit's step entry hands back up to n.
pub record Renamed (n : ℕ) (b : Bytes) (w : Write) : Type 0 where
  pub place : ℕ
  pub early : place ≤ n
  pub given : (commit_step place b image_room step_room).step ≡ step_field (backup_rename w)

-- "A written key existed if its collection holds a file of that name before. It waits at n if its rename […] isn't among the first n steps."
-- Asked of the keys of kind 1 alone: a marked Write may wait (02, item 4).
abbrev pub NoneWaits : ℕ → Bytes → Store → List Write → Type 0
NoneWaits n b s ws = (w : Write) → In w ws → w.mark ≡ none → Has (target w) s.tree → Renamed n b w

-- "Recovery gets exactly that image": what commit's step entry hands back at n.
abbrev pub cut_at : ℕ → Bytes → Bytes
cut_at n b = (commit_step n b image_room step_room).image

-- "All writes done: start from the directories and files before, and take the Writes in log order. Each puts into its collection a file with
-- its key as name and the number that its staging file has in the transaction's image, in place of a file of that name."
unfoldable pub all_writes_done : Map → List Write → Map → Map
all_writes_done staging [] t = t
all_writes_done staging (w ∷ l) t = all_writes_done staging l (case_option (look (staging_key w.staged) staging) t (λ x. put (target w) x t))

-- "from before if the log stood, else those with all writes done"
abbrev pub expected_files : Bool → Store → List Write → Map
expected_files stood s ws = if stood then s.tree else all_writes_done s.staging ws s.tree

-- A store with "no 0x12, 0x13 or 0x14".
abbrev pub settled : Map → Store
settled t = record { tree = t; staging = []; log = none; open_mark = false }

-- "That is one claim over every image, list of Writes and n, and not one for each step or Write." The Writes are of kind 1 and of kind 7, in any mix. The
-- cut comes at any n of the plan (the step entry's number is 0), where n = 0 or no written key of kind 1 that existed waits at n. "Unless given 2, recovery
-- answers 0, and its image has exactly the directories and files, numbers included, from before if the log stood" ("that image has a 0x13 field"), "else
-- those with all writes done, and no 0x12, 0x13 or 0x14."
abbrev pub CutRule : Type 0
CutRule =
    (b : Bytes) (s : Store) (ws : List Write) (n out : ℕ) →
    Conditions b s ws → TrueMarks s.tree ws → (commit_step n b image_room step_room).number ≡ 0 → (n ≡ 0) ⊎ NoneWaits n b s ws →
    ((recover (cut_at n b) out).number ≡ 2 → ⊥) →
    recover (cut_at n b) out ≡ answer 0 (settled (expected_files (has_tag 0x13 (cut_at n b)) s ws))

-- A commit that is not cut leaves those with all writes done.
abbrev pub CommitDone : Type 0
CommitDone =
    (b : Bytes) (s : Store) (ws : List Write) → Conditions b s ws → TrueMarks s.tree ws →
    commit b image_room ≡ answer 0 (settled (all_writes_done s.staging ws s.tree))

-- And it leaves no backup: of these files none, and no directory, has a name that ends in .bak or .tmp.
abbrev pub NoBackupLeft : Type 0
NoBackupLeft =
    (b : Bytes) (s : Store) (ws : List Write) (stood : Bool) → Conditions b s ws → (d f : Name) → Has (d, f) (expected_files stood s ws) →
    NoExtension d × NoExtension f

-- Demand 3: the rule for kind 1 alone. "It waits at n" for every written key that existed.
abbrev pub Demand3 : Type 0
Demand3 =
    (b : Bytes) (s : Store) (ws : List Write) (n out : ℕ) →
    Conditions b s ws → Unmarked ws → (commit_step n b image_room step_room).number ≡ 0 →
    (n ≡ 0) ⊎ ((w : Write) → In w ws → Has (target w) s.tree → Renamed n b w) → ((recover (cut_at n b) out).number ≡ 2 → ⊥) →
    recover (cut_at n b) out ≡ answer 0 (settled (expected_files (has_tag 0x13 (cut_at n b)) s ws))

-- 02, item 4: "The cut rule, for marked Writes alone whose every mark is true of the store at commit, drops its condition about waiting keys and speaks of
-- every step of the commit."
abbrev pub MarkedRule : Type 0
MarkedRule =
    (b : Bytes) (s : Store) (ws : List Write) (n out : ℕ) →
    Conditions b s ws → TrulyMarked s.tree ws → (commit_step n b image_room step_room).number ≡ 0 → ((recover (cut_at n b) out).number ≡ 2 → ⊥) →
    recover (cut_at n b) out ≡ answer 0 (settled (expected_files (has_tag 0x13 (cut_at n b)) s ws))

-- Beyond document 02: a commit of marked Writes with true marks that fails hands back exactly the directories and files from before, and so does recovery
-- from any cut of it.
abbrev pub FailingCommit : Type 0
FailingCommit =
    (b : Bytes) (s : Store) (ws : List Write) → Failing b s ws → TrulyMarked s.tree ws → (commit b image_room).image ≡ (answer 0 (settled s.tree)).image

abbrev pub FailingRule : Type 0
FailingRule =
    (b : Bytes) (s : Store) (ws : List Write) (n out : ℕ) →
    Failing b s ws → TrulyMarked s.tree ws → (commit_step n b image_room step_room).number ≡ 0 → ((recover (cut_at n b) out).number ≡ 2 → ⊥) →
    recover (cut_at n b) out ≡ answer 0 (settled s.tree)

-- 02, item 5: "recovery may itself be cut after any of its steps, any number of times": the image c after recoveries that were cut after so many steps each.
abbrev pub cut_recoveries : List ℕ → Bytes → Bytes
cut_recoveries [] c = c
cut_recoveries (m ∷ ms) c = cut_recoveries ms (recover_step m c image_room step_room).image

-- Each of these numbers is one of a step of its recovery, or 0: the step entry's number is 0.
abbrev pub InPlans : List ℕ → Bytes → Type 0
InPlans [] c = Unit {0}
InPlans (m ∷ ms) c = ((recover_step m c image_room step_room).number ≡ 0) × InPlans ms (recover_step m c image_room step_room).image

-- The conditions of a transaction whose commit goes through or fails: it "isn't given 1 or 4".
abbrev pub Either : Bytes → Store → List Write → Type 0
Either = Meets (λ x. x ≡ 4 → ⊥)

-- "For a transaction of marked Writes with true marks, under the other conditions of the cut rule, […] once one recovery runs to its end, the store is the
-- same as if the first had." Beyond document 02, the commit may meet a failing step.
abbrev pub AgainRule : Type 0
AgainRule =
    (b : Bytes) (s : Store) (ws : List Write) (n : ℕ) (ms : List ℕ) (out : ℕ) →
    Either b s ws → TrulyMarked s.tree ws → (commit_step n b image_room step_room).number ≡ 0 → InPlans ms (cut_at n b) →
    recover (cut_recoveries ms (cut_at n b)) out ≡ recover (cut_at n b) out

-- 02, item 6: what an uncut held commit hands back; what its step entry hands back at n.
abbrev pub held_image : Bytes → Bytes
held_image b = (hold b image_room).image

abbrev pub hold_cut_at : ℕ → Bytes → Bytes
hold_cut_at n b = (hold_step n b image_room step_room).image

-- "keep gives the ordinary commit's image": of every transaction that commits, whatever its operations, and byte for byte, for every length of the output.
abbrev pub HoldKeep : Type 0
HoldKeep = (b : Bytes) (out : ℕ) → (commit b image_room).number ≡ 0 → ((hold b image_room).number ≡ 0) × (keep (held_image b) out ≡ commit b out)

-- "revert after an uncut held commit gives exactly the collections, names and contents from before": hold answers 0, and revert, "unless given 2".
abbrev pub RevertGives : Bytes → Store → ℕ → Type 0
RevertGives b s out =
    ((hold b image_room).number ≡ 0) × (((revert (held_image b) out).number ≡ 2 → ⊥) → revert (held_image b) out ≡ answer 0 (settled s.tree))

-- "For transactions under the cut rule's conditions": Writes of kinds 1 and 7, in any mix, with true marks.
abbrev pub HoldRevert : Type 0
HoldRevert = (b : Bytes) (s : Store) (ws : List Write) (out : ℕ) → Conditions b s ws → TrueMarks s.tree ws → RevertGives b s out

-- Beyond document 02: a held commit that goes through is cut after any of its steps n, its recoveries too, any number of times. Once one runs to its end the
-- store is exactly the one from before, where no Held log stands at the cut (keep's step 0 gives 18), else exactly the one that hold hands back uncut.
abbrev pub HoldGives : Bytes → Store → ℕ → List ℕ → ℕ → Type 0
HoldGives b s n ms out =
    let c : Bytes = hold_cut_at n b in
    let r : Answer = recover (cut_recoveries ms c) out in
    (hold_step n b image_room step_room).number ≡ 0 → InPlans ms c → (r.number ≡ 2 → ⊥) →
    (((keep_step 0 c image_room step_room).number ≡ 18) × (r ≡ answer 0 (settled s.tree)))
    ⊎ (((keep_step 0 c image_room step_room).number ≡ 0) × (r ≡ hold b image_room))

-- For marked Writes with true marks.
abbrev pub HoldRule : Type 0
HoldRule =
    (b : Bytes) (s : Store) (ws : List Write) (n : ℕ) (ms : List ℕ) (out : ℕ) → Conditions b s ws → TrulyMarked s.tree ws → HoldGives b s n ms out

-- "A held commit that fails rolls back as before": whatever its operations, it answers as the ordinary one, and so does its step entry.
abbrev pub HoldFails : Type 0
HoldFails =
    (b : Bytes) → ((commit b image_room).number ≡ 14) ⊎ ((commit b image_room).number ≡ 15) →
    ((out : ℕ) → hold b out ≡ commit b out) × ((n out stepOut : ℕ) → hold_step n b out stepOut ≡ commit_step n b out stepOut)

-- So with true marks it hands back exactly the directories and files from before, and recovery from any cut of it does, recoveries cut any number of times.
abbrev pub HoldFailing : Type 0
HoldFailing =
    (b : Bytes) (s : Store) (ws : List Write) (n : ℕ) (ms : List ℕ) (out : ℕ) → Failing b s ws → TrulyMarked s.tree ws →
    let r : Answer = recover (cut_recoveries ms (hold_cut_at n b)) out in
    (held_image b ≡ (answer 0 (settled s.tree)).image)
    × ((hold_step n b image_room step_room).number ≡ 0 → InPlans ms (hold_cut_at n b) → (r.number ≡ 2 → ⊥) → r ≡ answer 0 (settled s.tree))

-- Keep cut after any of its steps n: what it leaves is still the held image, byte for byte, or one that recovery, cut any number of times, brings to the
-- ordinary commit's answer. Of every transaction that commits.
abbrev pub KeepRule : Type 0
KeepRule =
    (b : Bytes) (n : ℕ) → (commit b image_room).number ≡ 0 → (keep_step n (held_image b) image_room step_room).number ≡ 0 →
    let c : Bytes = (keep_step n (held_image b) image_room step_room).image in
    (c ≡ held_image b) ⊎ ((ms : List ℕ) (out : ℕ) → InPlans ms c → recover (cut_recoveries ms c) out ≡ commit b out)

-- A revert that is cut after so many steps; a recovery, cut or not, as after each loss of power.
pub data Act : Type 0 where
  reverted recovered : ℕ → Act

abbrev pub act : Act → Bytes → Answer
act (reverted m) c = revert_step m c image_room step_room
act (recovered m) c = recover_step m c image_room step_room

-- Any number of them, one after the other, in any order; each number is one of a step, or 0.
abbrev pub cut_acts : List Act → Bytes → Bytes
cut_acts [] c = c
cut_acts (a ∷ l) c = cut_acts l (act a c).image

abbrev pub InActs : List Act → Bytes → Type 0
InActs [] c = Unit {0}
InActs (a ∷ l) c = ((act a c).number ≡ 0) × InActs l (act a c).image

-- What they leave of a held commit: revert then gives exactly the store from before; or no Held log stands any more, revert gives 18, and recovery, cut any
-- number of times, gives exactly the store from before.
abbrev pub ActsGive : Bytes → Store → List Act → Type 0
ActsGive b s acts =
    let c : Bytes = cut_acts acts (held_image b) in
    InActs acts (held_image b) →
    (revert c image_room ≡ answer 0 (settled s.tree))
    ⊎ (((revert c image_room).number ≡ 18) × ((ms : List ℕ) → InPlans ms c → recover (cut_recoveries ms c) image_room ≡ answer 0 (settled s.tree)))

-- For marked Writes with true marks. A revert that was cut and is then kept may lose a key: keep reads no entry.
abbrev pub RevertRule : Type 0
RevertRule = (b : Bytes) (s : Store) (ws : List Write) (acts : List Act) → Conditions b s ws → TrulyMarked s.tree ws → ActsGive b s acts

-- 02, item 13: "w Writes, at least one, b of their keys already there, c distinct collections named by them, s staging files that no Write names".
abbrev pub count : {A : Type 0} → (A → Bool) → List A → ℕ
count p [] = 0
count p (a ∷ l) = (if p a then 1 else 0) + count p l

abbrev pub existed_in : Store → Write → Bool
existed_in s w = is_some (look (target w) s.tree)

abbrev pub unnamed : List Name → Map → ℕ
unnamed l m = count (λ f. not (is_in f l)) (staging_names m)

-- A list of the collections that the Writes name, none twice.
abbrev pub ListedOnce : List Name → List Write → Type 0
ListedOnce cs ws = Once cs × ((d : Name) → In d cs ↔ Any (λ w. d ≡ w.collection) ws)

-- "the commit plan has exactly 6 + w + 2b + c + s steps"
abbrev pub step_count : Store → List Write → List Name → ℕ
step_count s ws cs = 6 + length ws + 2 * count (existed_in s) ws + length cs + unnamed (map (λ w. w.staged) ws) s.staging

-- "This is a statement about the plan's own steps, for kinds 1 and 7 alike." It holds without a Write too. And what the step entry says of it.
abbrev pub StepCount : Type 0
StepCount =
    (b : Bytes) (s : Store) (ws : List Write) (cs : List Name) → Conditions b s ws → TrueMarks s.tree ws → ListedOnce cs ws →
    length (commit_plan s) ≡ step_count s ws cs

abbrev pub StepCountAt : Type 0
StepCountAt =
    (b : Bytes) (s : Store) (ws : List Write) (cs : List Name) (n : ℕ) → Conditions b s ws → TrueMarks s.tree ws → ListedOnce cs ws →
    (commit_step n b image_room step_room).number ≡ (if leb n (step_count s ws cs) then 0 else 16)

-- The update rotation, 02's item 7: what it leaves, when it is refused, and that it is cut as every transaction under the rule for all kinds is.
use Rattle.std.specs.Prelude.{◌≡◌, ℕ, ◌+◌, List, [], Bool, true, ◌&&◌, ◌⊎◌, length, leb, if◌then◌else◌}
use Rattle.std.proofs.Math.Option.{none, some}
use Rattle.basics.specs.Limits.{image_room, step_room}
use Rattle.basics.specs.Order.{Name}
use Rattle.basics.specs.Map.{Map, look, Has}
use Rattle.basics.specs.Base.{Bytes}
use Rattle.basics.specs.Name.{backup_extension}
use Rattle.basics.specs.Field.{has_tag}
use Rattle.model.specs.Store.{Store, dirs, files, file_count}
use Rattle.model.specs.Image.{encode, decode}
use Rattle.model.specs.Record.{has_dir}
use Rattle.answers.specs.Answers.{Answer, answer, begin, commit_step, recover}
use Rattle.cut_rule.specs.Demand.{EndsIn, NoExtension, settled, cut_at, cut_recoveries, InPlans}
use Rattle.handover.specs.Contract.{hands_back}
use Rattle.answers.specs.Rotate.{current, next, backup, holds_file, rotation, rotate}

-- A rotation that is not turned away: the image holds s, begin answers 0, current stands and next holds a file.
pub record Rotates (b : Bytes) (s : Store) : Type 0 where
  pub holds : decode b ≡ some s
  pub begins : (begin b image_room).number ≡ 0
  pub current_stands : has_dir current s ≡ true
  pub next_holds : holds_file next s ≡ true

-- "After success backup holds what current held, current what next held, next is gone and every other collection is unchanged", numbers included: of the
-- directories and files o before and t after.
pub record Rotated (o t : Map) : Type 0 where
  pub backup_stands : Has (backup, []) t
  pub backup_holds : (f : Name) → (f ≡ [] → ⊥) → look (backup, f) t ≡ look (current, f) o
  pub current_stands : Has (current, []) t
  pub current_holds : (f : Name) → (f ≡ [] → ⊥) → look (current, f) t ≡ look (next, f) o
  pub next_gone : (f : Name) → look (next, f) t ≡ none
  pub others : (d f : Name) → (d ≡ backup → ⊥) → (d ≡ current → ⊥) → (d ≡ next → ⊥) → look (d, f) t ≡ look (d, f) o

-- "This is for stores without names ending in .bak."
abbrev pub NoBackup : Map → Type 0
NoBackup t = (d f : Name) → Has (d, f) t → (EndsIn backup_extension d → ⊥) × (EndsIn backup_extension f → ⊥)

abbrev pub RotationDone : Type 0
RotationDone =
    (b : Bytes) (s : Store) → decode b ≡ some s → NoBackup s.tree → (rotate b image_room).number ≡ 0 →
    (t : Map) × (rotate b image_room ≡ answer 0 (settled t)) × Rotated s.tree t

-- The commit refuses with 15, and only with 15, exactly if over 14 directories stand or the files with those of current and next once more are over 128.
abbrev pub room_for : Map → Bool
room_for t = leb (length (dirs t)) 14 && leb (file_count t + length (files current t) + length (files next t)) 128

abbrev pub RotationNumber : Type 0
RotationNumber =
    (b : Bytes) (s : Store) → Rotates b s → NoBackup s.tree → (rotate b image_room).number ≡ (if room_for s.tree then 0 else 15)

-- Beyond document 02: without names ending in .bak or .tmp, a rotation whose commit is cut after any of its steps n, recovery too, any number of times, leaves
-- exactly the directories and files from before if the log stood at the cut, else exactly the rotation that is not cut. It is not turned away: its number is 0,
-- 14 or 15.
abbrev pub PlainNames : Map → Type 0
PlainNames t = (d f : Name) → Has (d, f) t → NoExtension d × NoExtension f

abbrev pub RotationRule : Type 0
RotationRule =
    (b : Bytes) (s : Store) (n : ℕ) (ms : List ℕ) (out : ℕ) → decode b ≡ some s → PlainNames s.tree → hands_back (rotate b image_room).number ≡ true →
    let c : Bytes = cut_at n (rotation b) in
    let r : Answer = recover (cut_recoveries ms c) out in
    (commit_step n (rotation b) image_room step_room).number ≡ 0 → InPlans ms c → (r.number ≡ 2 → ⊥) →
    r ≡ record { number = 0; image = (if has_tag 0x13 c then encode (settled s.tree) else (rotate b image_room).image); step = [] }

-- One that is refused by the commit, 14 or 15, hands back exactly the directories and files from before.
abbrev pub RotationRefused : Type 0
RotationRefused =
    (b : Bytes) (s : Store) → decode b ≡ some s → PlainNames s.tree → ((rotate b image_room).number ≡ 14) ⊎ ((rotate b image_room).number ≡ 15) →
    (rotate b image_room).image ≡ encode (settled s.tree)

-- The cut rule for operations of every kind, over images: beyond document 02, whose rule speaks of Writes alone. KindsRule.antt proves it, Again.antt where
-- recovery is cut too, HoldRules.antt where the commit is held.
use Rattle.std.specs.Prelude.{◌≡◌, ℕ, List, [], ◌∷◌, ◌⊎◌, if◌then◌else◌}
use Rattle.std.proofs.Math.Option.{some, none}
use Rattle.basics.specs.Limits.{image_room, step_room}
use Rattle.basics.specs.Order.{Name, Key}
use Rattle.basics.specs.Map.{Map, look, Has}
use Rattle.basics.specs.Base.{Bytes, In, is_some}
use Rattle.basics.specs.Field.{has_tag}
use Rattle.model.specs.Operation.{Op, Write, write, delete, delete_all, create_collection, delete_collection, copy_collection}
use Rattle.model.specs.Log.{journal, ops_of}
use Rattle.model.specs.Store.{Store}
use Rattle.model.specs.Image.{encode, decode}
use Rattle.answers.specs.Answers.{commit, commit_step, recover}
use Rattle.cut_rule.specs.Demand.{NoExtension, TrueMark, settled, cut_at, cut_recoveries, InPlans, RevertGives, HoldGives, Act, ActsGive}

-- What an operation touches: a key of a collection, or a collection as a whole. A copy touches its destination; its source it only reads.
pub data Place : Type 0 where
  key : Name → Name → Place
  collection : Name → Place

abbrev pub place_of : Op → Place
place_of (write w) = key w.collection w.key
place_of (delete c k) = key c k
place_of (delete_all c) = collection c
place_of (create_collection c) = collection c
place_of (delete_collection c) = collection c
place_of (copy_collection a b x) = collection b

-- Two places share nothing: two keys are not the same, and a whole collection is no other place's collection.
abbrev pub Apart : Place → Place → Type 0
Apart (key c k) (key d j) = ◌≡◌ {A = Key} (c, k) (d, j) → ⊥
Apart (key c k) (collection d) = c ≡ d → ⊥
Apart (collection c) (key d j) = c ≡ d → ⊥
Apart (collection c) (collection d) = c ≡ d → ⊥

abbrev pub AllApart : List Op → Type 0
AllApart [] = Unit {0}
AllApart (a ∷ l) = ((b : Op) → In b l → Apart (place_of a) (place_of b)) × AllApart l

-- Its names end neither in .bak nor in .tmp.
abbrev pub PlainPlace : Place → Type 0
PlainPlace (key c k) = NoExtension c × NoExtension k
PlainPlace (collection c) = NoExtension c

-- The conditions on a transaction: the image b, the store s that it holds, and the operations of its log. As the cut rule's, but for places in place of keys.
pub record Suits (b : Bytes) (s : Store) (ops : List Op) : Type 0 where
  pub holds : decode b ≡ some s
  pub logged : ops_of (journal s.log) ≡ ops
  pub names : (d f : Name) → Has (d, f) s.tree → NoExtension d × NoExtension f
  pub places : (a : Op) → In a ops → PlainPlace (place_of a)
  pub apart : AllApart ops
  pub collections : (w : Write) → In (write w) ops → Has (w.collection, []) s.tree

-- What an operation says of the store is true at commit: a Write's mark, where it has one; a collection that is made is not there yet; a copy says rightly
-- whether its destination existed.
abbrev pub TrueOf : Map → Op → Type 0
TrueOf t (write w) = TrueMark t w
TrueOf t (delete c k) = Unit {0}
TrueOf t (delete_all c) = Unit {0}
TrueOf t (create_collection c) = look (c, []) t ≡ none
TrueOf t (delete_collection c) = Unit {0}
TrueOf t (copy_collection a b x) = x ≡ is_some (look (b, []) t)

abbrev pub AllTrue : Map → List Op → Type 0
AllTrue t ops = (a : Op) → In a ops → TrueOf t a

-- Its Writes are of kind 7.
abbrev pub Marked : List Op → Type 0
Marked ops = (w : Write) → In (write w) ops → w.mark ≡ none → ⊥

-- The commit is cut after any of its steps n: recovery's image "has exactly the directories and files, numbers included, from before if the log stood", else
-- it is the image of the commit that is not cut.
abbrev pub CutGives : Bytes → Store → ℕ → ℕ → Type 0
CutGives b s n out =
    (commit_step n b image_room step_room).number ≡ 0 → ((recover (cut_at n b) out).number ≡ 2 → ⊥) →
    recover (cut_at n b) out
    ≡ record { number = 0; image = (if has_tag 0x13 (cut_at n b) then encode (settled s.tree) else (commit b image_room).image); step = [] }

-- A commit that goes through.
abbrev pub KindsRule : Type 0
KindsRule =
    (b : Bytes) (s : Store) (ops : List Op) (n out : ℕ) → Suits b s ops → AllTrue s.tree ops → Marked ops → (commit b image_room).number ≡ 0 →
    CutGives b s n out

-- One that meets a failing step: it hands back the directories and files from before, and cut the rule is the same.
abbrev pub KindsFailing : Type 0
KindsFailing =
    (b : Bytes) (s : Store) (ops : List Op) → Suits b s ops → AllTrue s.tree ops → Marked ops →
    ((commit b image_room).number ≡ 14) ⊎ ((commit b image_room).number ≡ 15) →
    ((commit b image_room).image ≡ encode (settled s.tree)) × ((n out : ℕ) → CutGives b s n out)

-- Both: where recovery is itself "cut after any of its steps, any number of times" (02, item 5), it answers as if it had not been, whatever the output's
-- length.
abbrev pub KindsAgain : Type 0
KindsAgain =
    (b : Bytes) (s : Store) (ops : List Op) (n : ℕ) (ms : List ℕ) (out : ℕ) →
    Suits b s ops → AllTrue s.tree ops → Marked ops → ((commit b image_room).number ≡ 4 → ⊥) → (commit_step n b image_room step_room).number ≡ 0 →
    InPlans ms (cut_at n b) → recover (cut_recoveries ms (cut_at n b)) out ≡ recover (cut_at n b) out

-- A held commit that goes through, reverted (02, item 6): Writes of kind 1 too, since each key that existed has its backup then.
abbrev pub KindsRevert : Type 0
KindsRevert =
    (b : Bytes) (s : Store) (ops : List Op) (out : ℕ) → Suits b s ops → AllTrue s.tree ops → (commit b image_room).number ≡ 0 → RevertGives b s out

-- The held commit cut; its revert cut.
abbrev pub KindsHold : Type 0
KindsHold =
    (b : Bytes) (s : Store) (ops : List Op) (n : ℕ) (ms : List ℕ) (out : ℕ) → Suits b s ops → AllTrue s.tree ops → Marked ops →
    (commit b image_room).number ≡ 0 → HoldGives b s n ms out

abbrev pub KindsActs : Type 0
KindsActs =
    (b : Bytes) (s : Store) (ops : List Op) (acts : List Act) → Suits b s ops → AllTrue s.tree ops → Marked ops → (commit b image_room).number ≡ 0 →
    ActsGive b s acts

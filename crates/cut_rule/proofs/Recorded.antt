-- Recording makes true marks: of a transaction that was recorded by begin and Writes alone the cut rule asks nothing about marks.
use Rattle.std.specs.Prelude.{◌≡◌, ℕ, ◌<◌, List, [], ◌∷◌, ◌++◌, map, Bool, true, false, not, ◌&&◌, ◌⊎◌, length, leb, if◌then◌else◌}
use Rattle.std.proofs.Math.Path.{refl}
use Rattle.std.proofs.Common.{sym, ◌∙◌, ap, subst, inl, inr}
use Rattle.std.proofs.Math.Option.{Option, none, some}
use Rattle.std.proofs.lemmas.Bool.{false≢true}
use Rattle.basics.specs.Limits.{staging_limit, image_room, step_room}
use Rattle.basics.specs.Order.{Name}
use Rattle.basics.specs.Map.{look, put}
use Rattle.basics.specs.Base.{Bytes, case_option, is_some, In}
use Rattle.basics.specs.Name.{valid_name, lower}
use Rattle.basics.specs.Field.{little_endian, has_tag}
use Rattle.basics.specs.Crc32.{crc32, register, feed_byte, shifts, shift, add_polynomial}
use Rattle.model.specs.Operation as Operation
use Rattle.model.specs.Operation.{Op, Write, target}
use Rattle.model.specs.Log.{recording, whole, journal, is_held, ops_of, header, valid_header, walk, entries, read_journal, append_operation}
use Rattle.model.specs.Store.{Store, staging_key, valid_number}
use Rattle.model.specs.Image.{decode}
use Rattle.model.specs.Record.{Outcome, refuse, give, begin_transaction, require, appended, record_write}
use Rattle.answers.specs.Answers.{Answer, begin, write, answer, commit_step, recover}
use Rattle.basic_laws.specs.MapLaws.{some_inj}
use Rattle.basic_laws.specs.Tests.{and_both}
use Rattle.laws.specs.Listings.{any_append}
use Rattle.laws.specs.OperationLaws.{ValidOp}
use Rattle.laws.specs.LogLaws.{recorded-stands}
use Rattle.laws.specs.AppendLaws.{appended-journal}
use Rattle.laws.specs.RecordLaws.{Room, into, passing}
use Rattle.answer_laws.specs.Accepted.{begin-accepted, write-accepted}
use Rattle.cut_rule.specs.Demand.{TrulyMarked, Conditions, Either, cut_at, cut_recoveries, InPlans, expected_files, settled}
use Rattle.cut_rule.proofs.Writes.{in_ops}
use Rattle.cut_rule.proofs.Theorem.{marked_rule}
use Rattle.cut_rule.proofs.Again.{again_rule}

-- Every Write of the log is marked, and its mark is true of the tree; so is the log of what an entry hands on.
record TrueLog (s : Store) : Type 0 where
  ops : List Op
  reads : journal s.log ≡ recording ops whole
  marks : (w : Write) → In (Operation.write w) ops → w.mark ≡ some (is_some (look (target w) s.tree))

abbrev GivesTrue : Outcome → Type 0
GivesTrue (refuse n) = Unit {0}
GivesTrue (give u) = TrueLog u

begin-true : (s : Store) → GivesTrue (begin_transaction s)
unfolding begin_transaction
begin-true s = go s.open_mark (is_held (journal s.log))
  where
    begun : Store
    begun = record { tree = s.tree; staging = s.staging; log = some (header 0); open_mark = true }

    empty : journal begun.log ≡ recording [] whole
    empty = unfold read_journal valid_header header little_endian crc32 register feed_byte shifts shift add_polynomial entries walk in refl

    go : (t h : Bool) → GivesTrue (if◌then◌else◌ t (refuse 3) (if◌then◌else◌ h (refuse 17) (give begun)))
    go true h = tt
    go false true = tt
    go false false = record { ops = []; reads = empty; marks = λ w i. absurd i }

write-true : (c key st : Name) (x : ℕ) (s : Store) → TrueLog s → GivesTrue (record_write c key st x s)
unfolding record_write
write-true c key st x s h =
    into GivesTrue s _ tt tt λ r. passing GivesTrue (valid_name c && valid_name (lower key) && valid_name st) 6 (require free 10 (give given)) tt λ v.
    passing GivesTrue free 10 (give given) tt λ t.
    let a = and_both (valid_name c && valid_name (lower key)) (valid_name st) v in
    let b = and_both (valid_name c) (valid_name (lower key)) a.0 in
    append_true r (b.0, b.1, a.1)
  where
    w : Write
    w = record { collection = c; key = lower key; staged = st; mark = some (is_some (look (c, lower key) s.tree)) }

    free : Bool
    free = not (is_some (look (staging_key st) s.staging)) && not (leb staging_limit (length s.staging)) && valid_number x

    given : Store
    given = appended (Operation.write w) (record { tree = s.tree; staging = put (staging_key st) x s.staging; log = s.log; open_mark = s.open_mark })

    reads : Room s.log → ValidOp (Operation.write w) → (l : Option Bytes) → l ≡ s.log →
        journal (case_option l none (λ l. some (append_operation (Operation.write w) l))) ≡ recording (h.ops ++ Operation.write w ∷ []) whole
    reads r v none e = absurd (false≢true (recorded-stands none h.ops whole (ap journal e ∙ h.reads)))
    reads r v (some l) e =
        appended-journal l h.ops (Operation.write w) (ap journal e ∙ h.reads)
        (subst (λ (o : List Op). length o < 32) (ap ops_of (sym r.reads ∙ h.reads)) r.fits) v

    marks : (v : Write) → In (Operation.write v) h.ops ⊎ In (Operation.write v) (Operation.write w ∷ []) →
        v.mark ≡ some (is_some (look (target v) s.tree))
    marks v (inl i) = h.marks v i
    marks v (inr (inl e)) = let y : v ≡ w = cc in rw y
    marks v (inr (inr i)) = absurd i

    append_true : Room s.log → ValidOp (Operation.write w) → TrueLog given
    append_true r v = record {
      ops = h.ops ++ Operation.write w ∷ [];
      reads = reads r v s.log refl;
      marks = λ v i. marks v (any_append (λ a. Operation.write v ≡ a) h.ops (Operation.write w ∷ []) i);
    }

-- A call of the write entry; the image after so many, each answered with 0.
pub record WriteCall : Type 0 where
  pub collection : Name
  pub key : Name
  pub staged : Name
  pub number : ℕ

abbrev pub call : WriteCall → Bytes → Answer
call c b = write c.collection c.key c.staged c.number b image_room

abbrev pub wrote_all : List WriteCall → Bytes → Bytes
wrote_all [] b = b
wrote_all (c ∷ cs) b = wrote_all cs (call c b).image

abbrev pub AllAnswered : List WriteCall → Bytes → Type 0
AllAnswered [] b = Unit {0}
AllAnswered (c ∷ cs) b = ((call c b).number ≡ 0) × AllAnswered cs (call c b).image

wrote-true : (cs : List WriteCall) (b : Bytes) (s : Store) → decode b ≡ some s → TrueLog s → AllAnswered cs b → (u : Store) →
    decode (wrote_all cs b) ≡ some u → TrueLog u
wrote-true [] b s d h k u e = subst TrueLog (some_inj (sym d ∙ e)) h
wrote-true (c ∷ cs) b s d h k u e =
    let a = write-accepted c.collection c.key c.staged c.number b image_room k.0 in
    let t = write-true c.collection c.key c.staged c.number a.lent (subst TrueLog (some_inj (sym d ∙ a.reads)) h) in
    wrote-true cs (call c b).image a.given a.accepted (subst GivesTrue a.follows t) k.1 u e

-- Begin on any image, then Writes: "every mark is true of the store at commit".
pub recorded-marks : (a : Bytes) (cs : List WriteCall) → (begin a image_room).number ≡ 0 → AllAnswered cs (begin a image_room).image →
    (s : Store) (ws : List Write) → decode (wrote_all cs (begin a image_room).image) ≡ some s → ops_of (journal s.log) ≡ map Operation.write ws →
    TrulyMarked s.tree ws
recorded-marks a cs p k s ws d e w i =
    let j = begin-accepted a image_room p in
    let h = wrote-true cs (begin a image_room).image j.given j.accepted (subst GivesTrue j.follows (begin-true j.lent)) k s d in
    h.marks w (subst (In (Operation.write w)) (sym e ∙ ap ops_of h.reads) (in_ops ws w i))

-- So the cut rule, at every step of the commit, asks nothing about marks.
pub recorded_rule : (a : Bytes) (cs : List WriteCall) → (begin a image_room).number ≡ 0 → AllAnswered cs (begin a image_room).image →
    (s : Store) (ws : List Write) (n out : ℕ) → let b : Bytes = wrote_all cs (begin a image_room).image in
    Conditions b s ws → (commit_step n b image_room step_room).number ≡ 0 → ((recover (cut_at n b) out).number ≡ 2 → ⊥) →
    recover (cut_at n b) out ≡ answer 0 (settled (expected_files (has_tag 0x13 (cut_at n b)) s ws))
recorded_rule a cs p k s ws n out C e l =
    marked_rule (wrote_all cs (begin a image_room).image) s ws n out C (recorded-marks a cs p k s ws C.holds C.writes_alone) e l

-- Nor does item 5.
pub recorded-again : (a : Bytes) (cs : List WriteCall) → (begin a image_room).number ≡ 0 → AllAnswered cs (begin a image_room).image →
    (s : Store) (ws : List Write) (n : ℕ) (ms : List ℕ) (out : ℕ) → let b : Bytes = wrote_all cs (begin a image_room).image in
    Either b s ws → (commit_step n b image_room step_room).number ≡ 0 → InPlans ms (cut_at n b) →
    recover (cut_recoveries ms (cut_at n b)) out ≡ recover (cut_at n b) out
recorded-again a cs p k s ws n ms out C e i =
    again_rule (wrote_all cs (begin a image_room).image) s ws n ms out C (recorded-marks a cs p k s ws C.holds C.writes_alone) e i

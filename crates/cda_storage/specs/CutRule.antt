-- The cut rule over calls of the exported entries: demand 3, and item 4 of document 02. Words and quotes are those of crate cut_rule, Demand.antt; a
-- call is what its contract says (Calls.antt).
use Rattle.std.specs.Prelude.{◌≡◌, List, [], map, true, ◌⊎◌, ℕ, ◌≤◌, length}
use Rattle.std.proofs.Common.{sym, ap, subst, ◌∙◌, inl, inr, arith}
use Rattle.std.proofs.Math.Option.{none, some}
use Rattle.basics.specs.Order.{Name}
use Rattle.basics.specs.Map.{Map, Has}
use Rattle.basics.specs.Base.{Bytes, In}
use Rattle.basics.specs.Field.{has_tag}
use Rattle.model.specs.Operation.{Write, write, target}
use Rattle.model.specs.Log.{journal, ops_of}
use Rattle.model.specs.Store.{Store}
use Rattle.model.specs.Image.{encode, decode}
use Rattle.model.specs.Step.{step_field}
use Rattle.answers.specs.Answers.{Answer, answer, recover}
use Rattle.cut_rule.specs.Demand.{NoExtension, Distinct, Meets, Renamed, NoneWaits, TrueMarks, Unmarked, TrulyMarked, backup_rename, cut_at, expected_files, settled}
use Rattle.cut_rule.proofs.Theorem.{cut_rule, demand_3, marked_rule, failing-commit, failing_rule}
use Rattle.handover.specs.Contract.{hands_back}
use Rattle.cda_storage.specs.Calls.{CommitCall, RecoverCall, CommitStepCall, handed_back, image_at, field_at, handed, commit-roomy}
use Rattle.cda_storage.specs.Calls.{step-image, step_field_lem, zero-not_2, step-roomy, step-done}

-- "A transaction is an image for which commit […] isn't given 1 or 4": a call of commit was answered with a number that N holds of. The other conditions are
-- those of `Meets`, word by word.
pub record MeetsBy (N : ℕ → Type 0) (image : Bytes) (s : Store) (ws : List Write) : Type 0 where
  pub number : ℕ
  pub committed : CommitCall image number
  pub answered : N number
  pub holds : decode image ≡ some s
  pub writes_alone : ops_of (journal s.log) ≡ map write ws
  pub names : (d f : Name) → Has (d, f) s.tree → NoExtension d × NoExtension f
  pub keys : (w : Write) → In w ws → NoExtension w.key
  pub distinct_keys : Distinct ws
  pub collections : (w : Write) → In w ws → Has (w.collection, []) s.tree

-- Its commit meets no failing step: the call answered 0; or it meets one: 14 or 15.
abbrev pub Transaction : Bytes → Store → List Write → Type 0
Transaction = MeetsBy (λ x. x ≡ 0)

abbrev pub FailingTransaction : Bytes → Store → List Write → Type 0
FailingTransaction = MeetsBy (λ x. (x ≡ 14) ⊎ (x ≡ 15))

-- A key's "rename to the backup name" is "among the first k steps": some call of the step entry, at a number of at most k, handed back its field.
pub record RenamedBy (k : ℕ) (image : Bytes) (w : Write) : Type 0 where
  pub place : ℕ
  pub early : place ≤ k
  pub call : CommitStepCall place image 0
  pub given : field_at call ≡ step_field (backup_rename w)

-- Every call of recover on this image answers 2 for too little room, or 0, and then hands back exactly these bytes.
abbrev pub RecoversAs : Bytes → Bytes → Type 0
RecoversAs image i = (n : ℕ) (r : RecoverCall image n) → (n ≡ 2 → ⊥) → (n ≡ 0) × (handed_back r ≡ i)

-- Every call of recover on this image answers 2 for too little room, or 0, and then hands back exactly the image of these directories and files, without
-- staging file, log and mark.
abbrev pub RecoversTo : Bytes → Map → Type 0
RecoversTo image t = (n : ℕ) (r : RecoverCall image n) → (n ≡ 2 → ⊥) → (n ≡ 0) × (handed_back r ≡ encode (settled t))

-- An interrupted commit leaves the earlier files or the later ones. For every image of a transaction that only writes, its marks true of the store, and every
-- call of the step entry at a number k of its plan (it answers 0), where k = 0 or no written key of kind 1 that existed waits at k: recovery from the image
-- that was handed back gives exactly the files "from before if the log stood, else those with all writes done".
abbrev pub CutRuleOfEntries : Type 0
CutRuleOfEntries =
    (image : Bytes) (s : Store) (ws : List Write) (k : ℕ) → Transaction image s ws → TrueMarks s.tree ws → (cut : CommitStepCall k image 0) →
    (k ≡ 0) ⊎ ((w : Write) → In w ws → w.mark ≡ none → Has (target w) s.tree → RenamedBy k image w) →
    RecoversTo (image_at cut) (expected_files (has_tag 0x13 (image_at cut)) s ws)

-- Demand 3: Writes of kind 1 alone, where no written key that existed waits.
abbrev pub Demand3OfEntries : Type 0
Demand3OfEntries =
    (image : Bytes) (s : Store) (ws : List Write) (k : ℕ) → Transaction image s ws → Unmarked ws → (cut : CommitStepCall k image 0) →
    (k ≡ 0) ⊎ ((w : Write) → In w ws → Has (target w) s.tree → RenamedBy k image w) →
    RecoversTo (image_at cut) (expected_files (has_tag 0x13 (image_at cut)) s ws)

-- 02, item 4: "for marked Writes alone whose every mark is true of the store at commit", at "every step of the commit".
abbrev pub MarkedRuleOfEntries : Type 0
MarkedRuleOfEntries =
    (image : Bytes) (s : Store) (ws : List Write) (k : ℕ) → Transaction image s ws → TrulyMarked s.tree ws → (cut : CommitStepCall k image 0) →
    RecoversTo (image_at cut) (expected_files (has_tag 0x13 (image_at cut)) s ws)

-- Beyond document 02: a commit of marked Writes with true marks that answers 14 or 15 hands back exactly the directories and files from before, and so does
-- recovery from each of its cuts.
abbrev pub FailingCommitOfEntries : Type 0
FailingCommitOfEntries =
    (image : Bytes) (s : Store) (ws : List Write) (t : FailingTransaction image s ws) → TrulyMarked s.tree ws →
    handed_back t.committed ≡ encode (settled s.tree)

abbrev pub FailingRuleOfEntries : Type 0
FailingRuleOfEntries =
    (image : Bytes) (s : Store) (ws : List Write) (k : ℕ) → FailingTransaction image s ws → TrulyMarked s.tree ws → (cut : CommitStepCall k image 0) →
    RecoversTo (image_at cut) s.tree

-- From calls to answers.
pub done-not_2 : (x : ℕ) → x ≡ 0 → x ≡ 2 → ⊥
done-not_2 x p q = omega (arith, p, q)

pub failed-not_2 : (x : ℕ) → (x ≡ 14) ⊎ (x ≡ 15) → x ≡ 2 → ⊥
failed-not_2 x (inl p) q = omega (arith, p, q)
failed-not_2 x (inr p) q = omega (arith, p, q)

pub conditions : {N : ℕ → Type 0} {image : Bytes} {s : Store} {ws : List Write} → ((x : ℕ) → N x → x ≡ 2 → ⊥) →
    MeetsBy N image s ws → Meets N image s ws
conditions {N} {image} not_2 t = record {
  committed =
      let roomy = commit-roomy image t.committed (not_2 t.number t.answered) in
      subst N (t.committed.gives.number ∙ sym (ap (λ (a : Answer). a.number) roomy)) t.answered;
  holds = t.holds;
  writes_alone = t.writes_alone;
  names = t.names;
  keys = t.keys;
  distinct_keys = t.distinct_keys;
  collections = t.collections;
}

pub cut-image : (k : ℕ) (image : Bytes) (c : CommitStepCall k image 0) → image_at c ≡ cut_at k image
cut-image k image c = step-image c ∙ sym (ap (λ (a : Answer). a.image) (step-roomy k image c zero-not_2))

renamed : {k : ℕ} {image : Bytes} {w : Write} → RenamedBy k image w → Renamed k image w
renamed {image = image} r =
    let roomy = step-roomy r.place image r.call zero-not_2 in
    record { place = r.place; early = r.early; given = ap (λ (a : Answer). a.step) roomy ∙ sym (step_field_lem r.call) ∙ r.given }

-- What recovery answers, of any output that is long enough, is what its calls hand back.
pub recovers_as : (c i : Bytes) → ((out : ℕ) → ((recover c out).number ≡ 2 → ⊥) → recover c out ≡ record { number = 0; image = i; step = [] }) → RecoversAs c i
recovers_as c i h n r room =
    let a = h (length r.out) (λ e. room (r.gives.number ∙ e)) in
    let z : n ≡ 0 = r.gives.number ∙ ap (λ (x : Answer). x.number) a in
    (z, handed r (ap hands_back z) ∙ ap (λ (x : Answer). x.image) a)

pub recovers-to : (c : Bytes) (t : Map) → ((out : ℕ) → ((recover c out).number ≡ 2 → ⊥) → recover c out ≡ answer 0 (settled t)) → RecoversTo c t
recovers-to c t h n r room =
    let a = h (length r.out) (λ e. room (r.gives.number ∙ e)) in
    let z : n ≡ 0 = r.gives.number ∙ ap (λ (x : Answer). x.number) a in
    (z, handed r (ap hands_back z) ∙ ap (λ (x : Answer). x.image) a)

-- The image that a cut hands back is the one that the rules speak of.
at_cut : (k : ℕ) (image : Bytes) (cut : CommitStepCall k image 0) (t : Bytes → Map) →
    ((out : ℕ) → ((recover (cut_at k image) out).number ≡ 2 → ⊥) → recover (cut_at k image) out ≡ answer 0 (settled (t (cut_at k image)))) →
    RecoversTo (image_at cut) (t (image_at cut))
at_cut k image cut t h = subst (λ (c : Bytes). RecoversTo c (t c)) (sym (cut-image k image cut)) (recovers-to _ _ h)

pub cut_rule_of-entries : CutRuleOfEntries
cut_rule_of-entries image s ws k t m cut waits =
    at_cut k image cut (λ c. expected_files (has_tag 0x13 c) s ws)
    (λ out. cut_rule image s ws k out (conditions done-not_2 t) m (step-done k image cut) (none-waits waits))
  where
    none-waits : (k ≡ 0) ⊎ ((w : Write) → In w ws → w.mark ≡ none → Has (target w) s.tree → RenamedBy k image w) → (k ≡ 0) ⊎ NoneWaits k image s ws
    none-waits (inl z) = inl z
    none-waits (inr h) = inr (λ w i m x. renamed (h w i m x))

pub demand_3_of-entries : Demand3OfEntries
demand_3_of-entries image s ws k t u cut waits =
    at_cut k image cut (λ c. expected_files (has_tag 0x13 c) s ws)
    (λ out. demand_3 image s ws k out (conditions done-not_2 t) u (step-done k image cut) (none-waits waits))
  where
    none-waits : (k ≡ 0) ⊎ ((w : Write) → In w ws → Has (target w) s.tree → RenamedBy k image w) →
        (k ≡ 0) ⊎ ((w : Write) → In w ws → Has (target w) s.tree → Renamed k image w)
    none-waits (inl z) = inl z
    none-waits (inr h) = inr (λ w i x. renamed (h w i x))

pub marked_rule_of-entries : MarkedRuleOfEntries
marked_rule_of-entries image s ws k t m cut =
    at_cut k image cut (λ c. expected_files (has_tag 0x13 c) s ws) (λ out. marked_rule image s ws k out (conditions done-not_2 t) m (step-done k image cut))

pub failing-commit-of-entries : FailingCommitOfEntries
failing-commit-of-entries image s ws t m =
    let roomy = commit-roomy image t.committed (failed-not_2 t.number t.answered) in
    handed t.committed (hands t.number t.answered) ∙ sym (ap (λ (a : Answer). a.image) roomy) ∙ failing-commit image s ws (conditions failed-not_2 t) m
  where
    hands : (x : ℕ) → (x ≡ 14) ⊎ (x ≡ 15) → hands_back x ≡ true
    hands x (inl p) = ap hands_back p
    hands x (inr p) = ap hands_back p

pub failing_rule_of-entries : FailingRuleOfEntries
failing_rule_of-entries image s ws k t m cut =
    at_cut k image cut (λ c. s.tree) (λ out. failing_rule image s ws k out (conditions failed-not_2 t) m (step-done k image cut))

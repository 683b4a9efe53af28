-- Recording tells the truth: of a transaction that was recorded by begin and any calls, whose places are apart, the rule for every kind asks nothing about
-- marks, about whether a copy's destination existed, or about whether a collection to create was there. Of Writes alone it does not even ask for that.
use Rattle.std.specs.Prelude.{◌≡◌, ℕ, ◌<◌, ◌+◌, List, [], ◌∷◌, ◌++◌, map, Bool, true, false, not, ◌&&◌, ◌⊎◌, length, leb, if◌then◌else◌}
use Rattle.std.proofs.Math.Path.{refl}
use Rattle.std.proofs.Common.{sym, ◌∙◌, ap, subst, arith, inl, inr}
use Rattle.std.proofs.Math.Option.{Option, none, some}
use Rattle.std.proofs.lemmas.Bool.{false≢true}
use Rattle.basics.specs.Limits.{staging_limit, image_room, step_room}
use Rattle.basics.specs.Order.{Name, Key}
use Rattle.basics.specs.Map.{Map, look, put, del}
use Rattle.basics.specs.Base.{Bytes, case_option, is_some, same_bytes, In}
use Rattle.basics.specs.Name.{valid_name, lower_byte, lower, is_backup, is_tmp}
use Rattle.basics.specs.Field.{little_endian, has_tag}
use Rattle.basics.specs.Crc32.{crc32, register, feed_byte, shifts, shift, add_polynomial}
use Rattle.model.specs.Operation.{Op, Write, write, delete, delete_all, create_collection, delete_collection, copy_collection, target}
use Rattle.model.specs.Log.{recording, whole, journal, is_held, ops_of, header, valid_header, walk, entries, read_journal, append_operation}
use Rattle.model.specs.Store.{Store, staging_key, valid_number, files}
use Rattle.model.specs.Image.{encode, decode}
use Rattle.model.specs.Step.{rename_file, apply}
use Rattle.model.specs.Record.{Outcome, refuse, give, begin_transaction, require, appended, has_dir, record_write, other_case, case_renamed, record_delete}
use Rattle.model.specs.Record.{record_delete_all, record_create, record_delete_collection, record_copy}
use Rattle.answers.specs.Answers as Answers
use Rattle.answers.specs.Answers.{Answer, begin, answer, commit, commit_step, recover}
use Rattle.basic_laws.specs.MapLaws.{none≢some, some_inj, look-put-other, look-del-other}
use Rattle.basic_laws.specs.Tests.{and_both, leb_le, same-eq}
use Rattle.basic_laws.specs.ValidNames.{valid-named}
use Rattle.laws.specs.Listings.{any_append}
use Rattle.laws.specs.OperationLaws.{ValidOp}
use Rattle.laws.specs.LogLaws.{recorded-stands}
use Rattle.laws.specs.AppendLaws.{appended-journal}
use Rattle.laws.specs.RecordLaws.{Room, into, passing}
use Rattle.answer_laws.specs.Accepted.{Accepted, GivenBy, begin-accepted, write-accepted, delete-accepted, delete-all-accepted, create_collection-accepted}
use Rattle.answer_laws.specs.Accepted.{delete-collection-accepted, copy_collection-accepted}
use Rattle.cut_rule.specs.Demand.{TrulyMarked, Conditions, Either, cut_at, cut_recoveries, InPlans, expected_files, settled}
use Rattle.cut_rule.specs.Kinds.{place_of, Apart, AllApart, Suits, TrueOf, AllTrue, Marked, CutGives}
use Rattle.cut_rule.proofs.Writes.{in_ops, one_of}
use Rattle.cut_rule.proofs.Theorem.{marked_rule}
use Rattle.cut_rule.proofs.KindsRule.{kinds_rule, kinds_failing}
use Rattle.cut_rule.proofs.Again.{again_rule, kinds_again}

-- Lowering twice is lowering once.
lower_byte-twice : (b : ℕ) → lower_byte (lower_byte b) ≡ lower_byte b
unfolding lower_byte
lower_byte-twice b = go (leb 0x41 b) refl (leb b 0x5A) refl
  where
    high : leb 0x41 b ≡ true → (s t : Bool) → leb (b + 0x20) 0x5A ≡ t → if◌then◌else◌ (s && t) (b + 0x20 + 0x20) (b + 0x20) ≡ b + 0x20
    high p s true e = let x = leb_le (b + 0x20) 0x5A e in let y = leb_le 0x41 b p in absurd (omega arith)
    high p true false e = refl
    high p false false e = refl

    go : (p : Bool) → leb 0x41 b ≡ p → (q : Bool) → leb b 0x5A ≡ q →
        (let y = if◌then◌else◌ (p && q) (b + 0x20) b in if◌then◌else◌ (leb 0x41 y && leb y 0x5A) (y + 0x20) y ≡ y)
    go true p true q = high p (leb 0x41 (b + 0x20)) (leb (b + 0x20) 0x5A) refl
    go true p false q = rw (p, q)
    go false p q e = rw p

lower-twice : (n : Name) → lower (lower n) ≡ lower n
unfolding lower
lower-twice [] = refl
lower-twice (b ∷ n) = λ i. lower_byte-twice b i ∷ lower-twice n i

-- What a recorded operation says of the tree: a Write is marked, and what each says is true.
abbrev Says : Map → Op → Type 0
Says t (write w) = w.mark ≡ some (is_some (look (target w) t))
Says t (delete c k) = Unit {0}
Says t (delete_all c) = Unit {0}
Says t (create_collection c) = look (c, []) t ≡ none
Says t (delete_collection c) = Unit {0}
Says t (copy_collection a b x) = x ≡ is_some (look (b, []) t)

-- A Write's key is not deleted by the same transaction: a Delete renames the key at once where it stands in another case.
abbrev Undeleted : List Op → Op → Type 0
Undeleted ops (write w) = (c k : Name) → In (delete c k) ops → ◌≡◌ {A = Key} (target w) (c, k) → ⊥
Undeleted ops (delete c k) = Unit {0}
Undeleted ops (delete_all c) = Unit {0}
Undeleted ops (create_collection c) = Unit {0}
Undeleted ops (delete_collection c) = Unit {0}
Undeleted ops (copy_collection a b x) = Unit {0}

abbrev Lowered : Op → Type 0
Lowered (write w) = lower w.key ≡ w.key
Lowered (delete c k) = Unit {0}
Lowered (delete_all c) = Unit {0}
Lowered (create_collection c) = Unit {0}
Lowered (delete_collection c) = Unit {0}
Lowered (copy_collection a b x) = Unit {0}

-- The log of what an entry hands on.
record Told (s : Store) : Type 0 where
  ops : List Op
  reads : journal s.log ≡ recording ops whole
  truth : (a : Op) → In a ops → Undeleted ops a → Says s.tree a
  lowered : (a : Op) → In a ops → Lowered a

abbrev GivesTold : Outcome → Type 0
GivesTold (refuse n) = Unit {0}
GivesTold (give u) = Told u

undeleted_parts : (l m : List Op) (a : Op) → Undeleted (l ++ m) a → Undeleted l a × Undeleted m a
undeleted_parts l m (write w) h = (λ c k i. h c k (in_left_lem (delete c k) l i), λ c k i. h c k (in_right_lem (delete c k) l i))
  where
    in_left_lem : (a : Op) (l : List Op) → In a l → In a (l ++ m)
    in_left_lem a [] x'' = elim x'' [ ]
    in_left_lem a (b ∷ l) (inl e) = inl e
    in_left_lem a (b ∷ l) (inr i) = inr (in_left_lem a l i)

    in_right_lem : (a : Op) (l : List Op) → In a m → In a (l ++ m)
    in_right_lem a [] i = i
    in_right_lem a (b ∷ l) i = inr (in_right_lem a l i)
undeleted_parts l m (delete c k) h = (tt, tt)
undeleted_parts l m (delete_all c) h = (tt, tt)
undeleted_parts l m (create_collection c) h = (tt, tt)
undeleted_parts l m (delete_collection c) h = (tt, tt)
undeleted_parts l m (copy_collection a b x) h = (tt, tt)

-- Two operations of such a transaction that are not the same are apart, one way or the other.
apart-both : (l : List Op) → AllApart l → (a b : Op) → In a l → In b l → (a ≡ b → ⊥) → Apart (place_of a) (place_of b) ⊎ Apart (place_of b) (place_of a)
apart-both [] p a b x4 _ n = elim x4 [ ]
apart-both (x ∷ l) p a b (inl e) (inl f) n = absurd (n (e ∙ sym f))
apart-both (x ∷ l) p a b (inl e) (inr j) n = inl (subst (λ (c : Op). Apart (place_of c) (place_of b)) (sym e) (p.0 b j))
apart-both (x ∷ l) p a b (inr i) (inl f) n = inr (subst (λ (c : Op). Apart (place_of c) (place_of a)) (sym f) (p.0 a i))
apart-both (x ∷ l) p a b (inr i) (inr j) n = apart-both l p.1 a b i j n

apart_undeleted : (l : List Op) → AllApart l → (a : Op) → In a l → Undeleted l a
apart_undeleted l p (write w) i = λ c k j. off c k (apart-both l p (write w) (delete c k) i j (λ z. let y : ◌≡◌ {A = ℕ} 0 1 = cc z in omega arith))
  where
    off : (c k : Name) → Apart (place_of (write w)) (place_of (delete c k)) ⊎ Apart (place_of (delete c k)) (place_of (write w)) → target w ≡ (c, k) → ⊥
    off c k (inl n) e = n e
    off c k (inr n) e = n (sym e)
apart_undeleted l p (delete c k) i = tt
apart_undeleted l p (delete_all c) i = tt
apart_undeleted l p (create_collection c) i = tt
apart_undeleted l p (delete_collection c) i = tt
apart_undeleted l p (copy_collection a b x) i = tt

-- One operation more, a, on the tree v.
told_append : (s v : Store) (h : Told s) (a : Op) → v.log ≡ s.log → Room s.log → ValidOp a → Says v.tree a → Lowered a →
    ((b : Op) → Lowered b → Undeleted (a ∷ []) b → Says s.tree b → Says v.tree b) → Told (appended a v)
told_append s v h a e r n y z k = record {
  ops = h.ops ++ a ∷ [];
  reads = go v.log (ap journal e ∙ h.reads);
  truth = λ b i u. truth b (undeleted_parts h.ops (a ∷ []) b u) (any_append (λ c. b ≡ c) h.ops (a ∷ []) i);
  lowered = λ b i. low b (any_append (λ c. b ≡ c) h.ops (a ∷ []) i);
}
  where
    less : length h.ops < 32
    less = subst (λ (o : List Op). length o < 32) (ap ops_of (sym r.reads ∙ h.reads)) r.fits

    go : (l : Option Bytes) → journal l ≡ recording h.ops whole →
        journal (case_option l none (λ l. some (append_operation a l))) ≡ recording (h.ops ++ a ∷ []) whole
    go none q = absurd (false≢true (recorded-stands none h.ops whole q))
    go (some l) q = appended-journal l h.ops a q less n

    truth : (b : Op) → Undeleted h.ops b × Undeleted (a ∷ []) b → In b h.ops ⊎ In b (a ∷ []) → Says v.tree b
    truth b u (inl i) = k b (h.lowered b i) u.1 (h.truth b i u.0)
    truth b u (inr (inl i)) = subst (Says v.tree) (sym i) y
    truth b u (inr (inr i)) = absurd i

    low : (b : Op) → In b h.ops ⊎ In b (a ∷ []) → Lowered b
    low b (inl i) = h.lowered b i
    low b (inr (inl i)) = subst Lowered (sym i) z
    low b (inr (inr i)) = absurd i

-- The case rename of a Delete.
other-lowered : (k : Name) (l : List Name) (f : Name) → other_case k l ≡ some f → lower f ≡ k
unfolding other_case
other-lowered k [] f e = none≢some e
other-lowered k (n ∷ l) f e = go (not (is_backup n) && not (is_tmp n) && same_bytes (lower n) k) refl (λ z. other-lowered k l f z) e
  where
    go : (t : Bool) → (not (is_backup n) && not (is_tmp n) && same_bytes (lower n) k) ≡ t → (other_case k l ≡ some f → lower f ≡ k) →
        if◌then◌else◌ t (some n) (other_case k l) ≡ some f → lower f ≡ k
    go true p ih e = ap lower (sym (some_inj e)) ∙ same-eq (lower n) k (and_both (not (is_backup n) && not (is_tmp n)) (same_bytes (lower n) k) p).1
    go false p ih e = ih e

renamed-log : (c k : Name) (s : Store) → (case_renamed c k s).log ≡ s.log
unfolding case_renamed apply
renamed-log c k s = go (look (c, k) s.tree) (other_case k (files c s.tree))
  where
    go : (x : Option ℕ) (y : Option Name) → (case_option x (case_option y s (λ f. apply (rename_file c f k) s)) (λ x. s)).log ≡ s.log
    go (some x) y = refl
    go none none = refl
    go none (some f) = refl

renamed_keeps : (c k : Name) (s : Store) (j : Key) → (j ≡ (c, k) → ⊥) → ((f : Name) → lower f ≡ k → j ≡ (c, f) → ⊥) →
    look j (case_renamed c k s).tree ≡ look j s.tree
unfolding case_renamed apply
renamed_keeps c k s j p q = go (look (c, k) s.tree) (other_case k (files c s.tree)) refl
  where
    go : (x : Option ℕ) (y : Option Name) → other_case k (files c s.tree) ≡ y →
        look j (case_option x (case_option y s (λ f. apply (rename_file c f k) s)) (λ x. s)).tree ≡ look j s.tree
    go (some x) y e = refl
    go none none e = refl
    go none (some f) e = at (look (c, f) s.tree)
      where
        at : (z : Option ℕ) → look j (case_option z s.tree (λ x. put (c, k) x (del (c, f) s.tree))) ≡ look j s.tree
        at none = refl
        at (some x) = look-put-other (c, k) j x (del (c, f) s.tree) p ∙ look-del-other (c, f) j s.tree (q f (other-lowered k (files c s.tree) f e))

-- It leaves the directories, and every key that is lowered and not the deleted one.
module _ (c k : Name) (s : Store) (n : k ≡ [] → ⊥) where
  renamed-dir : (d : Name) → look (d, []) (case_renamed c k s).tree ≡ look (d, []) s.tree
  renamed-dir d =
      renamed_keeps c k s (d, []) (λ y. n (sym (ap (λ (j : Key). j.1) y)))
      (λ f e y. n (sym e ∙ ap lower (sym (ap (λ (j : Key). j.1) y)) ∙ unfold lower in refl))

  renamed-says : (b : Op) → Lowered b → Undeleted (delete c k ∷ []) b → Says s.tree b → Says (case_renamed c k s).tree b
  renamed-says (write w) l z h =
      h ∙ ap (λ (q : Option ℕ). some (is_some q)) (sym (renamed_keeps c k s (target w) (z c k (inl refl))
      (λ f e y. z c k (inl refl) (λ i. ((y i).0, (sym l ∙ ap (λ (j : Key). lower j.1) y ∙ e) i)))))
  renamed-says (delete d j) l z h = tt
  renamed-says (delete_all d) l z h = tt
  renamed-says (create_collection d) l z h = renamed-dir d ∙ h
  renamed-says (delete_collection d) l z h = tt
  renamed-says (copy_collection a b x) l z h = h ∙ ap is_some (sym (renamed-dir b))

-- A call of an entry that records an operation.
pub data Call : Type 0 where
  writes : Name → Name → Name → ℕ → Call
  deletes : Name → Name → Call
  deletes_all : Name → Call
  creates : Name → Call
  deletes_collection : Name → Call
  copies : Name → Name → Call

abbrev pub call_of : Call → Bytes → ℕ → Answer
call_of (writes c k st x) b out = Answers.write c k st x b out
call_of (deletes c k) b out = Answers.delete c k b out
call_of (deletes_all c) b out = Answers.delete_all c b out
call_of (creates c) b out = Answers.create_collection c b out
call_of (deletes_collection c) b out = Answers.delete_collection c b out
call_of (copies a c) b out = Answers.copy_collection a c b out

abbrev records : Call → Store → Outcome
records (writes c k st x) s = record_write c k st x s
records (deletes c k) s = record_delete c k s
records (deletes_all c) s = record_delete_all c s
records (creates c) s = record_create c s
records (deletes_collection c) s = record_delete_collection c s
records (copies a c) s = record_copy a c s

call-accepted : (c : Call) (b : Bytes) → (call_of c b image_room).number ≡ 0 → Accepted (GivenBy (records c)) b (call_of c b image_room)
call-accepted (writes c k st x) b e = write-accepted c k st x b image_room e
call-accepted (deletes c k) b e = delete-accepted c k b image_room e
call-accepted (deletes_all c) b e = delete-all-accepted c b image_room e
call-accepted (creates c) b e = create_collection-accepted c b image_room e
call-accepted (deletes_collection c) b e = delete-collection-accepted c b image_room e
call-accepted (copies a c) b e = copy_collection-accepted a c b image_room e

not_there : (q : Option ℕ) → not (is_some q) ≡ true → q ≡ none
not_there none e = refl
not_there (some x) e = absurd (false≢true e)

begin-told : (s : Store) → GivesTold (begin_transaction s)
unfolding begin_transaction
begin-told s = go s.open_mark (is_held (journal s.log))
  where
    begun : Store
    begun = record { tree = s.tree; staging = s.staging; log = some (header 0); open_mark = true }

    empty : journal begun.log ≡ recording [] whole
    empty = unfold read_journal valid_header header little_endian crc32 register feed_byte shifts shift add_polynomial entries walk in refl

    go : (t h : Bool) → GivesTold (if◌then◌else◌ t (refuse 3) (if◌then◌else◌ h (refuse 17) (give begun)))
    go true h = tt
    go false true = tt
    go false false = record { ops = []; reads = empty; truth = λ a i. absurd i; lowered = λ a i. absurd i }

write-told : (c key st : Name) (x : ℕ) (s : Store) → Told s → GivesTold (record_write c key st x s)
unfolding record_write
write-told c key st x s h =
    into GivesTold s _ tt tt λ r. passing GivesTold (valid_name c && valid_name (lower key) && valid_name st) 6 (require free 10 (give (appended (write w) v))) tt λ t.
    passing GivesTold free 10 (give (appended (write w) v)) tt λ z.
    let a = and_both (valid_name c && valid_name (lower key)) (valid_name st) t in
    let b = and_both (valid_name c) (valid_name (lower key)) a.0 in
    told_append s v h (write w) refl r (b.0, b.1, a.1) refl (lower-twice key) (λ b i u y. y)
  where
    w : Write
    w = record { collection = c; key = lower key; staged = st; mark = some (is_some (look (c, lower key) s.tree)) }

    free : Bool
    free = not (is_some (look (staging_key st) s.staging)) && not (leb staging_limit (length s.staging)) && valid_number x

    v : Store
    v = record { tree = s.tree; staging = put (staging_key st) x s.staging; log = s.log; open_mark = s.open_mark }

delete-told : (c key : Name) (s : Store) → Told s → GivesTold (record_delete c key s)
unfolding record_delete
delete-told c key s h =
    into GivesTold s _ tt tt λ r. passing GivesTold (valid_name c && valid_name k) 6 (require stands 8 given) tt λ t. passing GivesTold stands 8 given tt λ z.
    let a = and_both (valid_name c) (valid_name k) t in
    told_append s (case_renamed c k s) h (delete c k) (renamed-log c k s) r (a.0, a.1) tt tt (renamed-says c k s (valid-named k a.1))
  where
    k : Name
    k = lower key

    stands : Bool
    stands = is_some (look (c, k) (case_renamed c k s).tree)

    given : Outcome
    given = give (appended (delete c k) (case_renamed c k s))

copy_told : (a b : Name) (s : Store) → Told s → GivesTold (record_copy a b s)
unfolding record_copy
copy_told a b s h =
    into GivesTold s _ tt tt λ r. passing GivesTold (valid_name a) 6 _ tt λ v. passing GivesTold (has_dir a s) 7 (require (valid_name b) 6 given) tt λ t.
    passing GivesTold (valid_name b) 6 given tt λ w.
    told_append s s h (copy_collection a b (has_dir b s)) refl r (v, w) refl tt (λ b l u y. y)
  where
    given : Outcome
    given = give (appended (copy_collection a b (has_dir b s)) s)

call-told : (c : Call) (s : Store) → Told s → GivesTold (records c s)
unfolding record_delete_all record_create record_delete_collection
call-told (writes c k st x) s h = write-told c k st x s h
call-told (deletes c k) s h = delete-told c k s h
call-told (deletes_all c) s h =
    into GivesTold s _ tt tt λ r. passing GivesTold (valid_name c) 6 _ tt λ v. told_append s s h (delete_all c) refl r v tt tt (λ b l u y. y)
call-told (creates c) s h =
    into GivesTold s _ tt tt λ r. passing GivesTold (valid_name c) 6 _ tt λ v.
    passing GivesTold (not (has_dir c s)) 9 (give (appended (create_collection c) s)) tt λ t.
    told_append s s h (create_collection c) refl r v (not_there (look (c, []) s.tree) t) tt (λ b l u y. y)
call-told (deletes_collection c) s h =
    into GivesTold s _ tt tt λ r. passing GivesTold (valid_name c) 6 _ tt λ v.
    passing GivesTold (has_dir c s) 7 (give (appended (delete_collection c) s)) tt λ t. told_append s s h (delete_collection c) refl r v tt tt (λ b l u y. y)
call-told (copies a c) s h = copy_told a c s h

-- The image after so many calls, each answered with 0.
abbrev pub recorded_by : List Call → Bytes → Bytes
recorded_by [] b = b
recorded_by (c ∷ cs) b = recorded_by cs (call_of c b image_room).image

abbrev pub AllAnswered : List Call → Bytes → Type 0
AllAnswered [] b = Unit {0}
AllAnswered (c ∷ cs) b = ((call_of c b image_room).number ≡ 0) × AllAnswered cs (call_of c b image_room).image

told-all : (cs : List Call) (b : Bytes) (s : Store) → decode b ≡ some s → Told s → AllAnswered cs b → (u : Store) → decode (recorded_by cs b) ≡ some u → Told u
told-all [] b s d h k u e = subst Told (some_inj (sym d ∙ e)) h
told-all (c ∷ cs) b s d h k u e =
    let a = call-accepted c b k.0 in
    let t = call-told c a.lent (subst Told (some_inj (sym d ∙ a.reads)) h) in
    told-all cs (call_of c b image_room).image a.given a.accepted (subst GivesTold a.follows t) k.1 u e

-- A transaction that was recorded: begin on any image, then calls, each answered with 0.
pub record Recorded (b : Bytes) : Type 0 where
  pub from : Bytes
  pub calls : List Call
  pub begun : (begin from image_room).number ≡ 0
  pub answered : AllAnswered calls (begin from image_room).image
  pub gives : recorded_by calls (begin from image_room).image ≡ b

told : (b : Bytes) (s : Store) → Recorded b → decode b ≡ some s → Told s
told b s r d =
    let i = begin-accepted r.from image_room r.begun in
    told-all r.calls (begin r.from image_room).image i.given i.accepted (subst GivesTold i.follows (begin-told i.lent)) r.answered s
    (ap decode r.gives ∙ d)

module _ (b : Bytes) (s : Store) (ops : List Op) (r : Recorded b) (d : decode b ≡ some s) (l : ops_of (journal s.log) ≡ ops) where
  h : Told s
  h = told b s r d

  same : h.ops ≡ ops
  same = sym (ap ops_of h.reads) ∙ l

  said : (a : Op) → In a ops → Undeleted ops a → Says s.tree a
  said a i u = h.truth a (subst (In a) (sym same) i) (subst (λ (o : List Op). Undeleted o a) (sym same) u)

  -- Its Writes are of kind 7.
  pub recorded_marked : AllApart ops → Marked ops
  recorded_marked p w i e = none≢some (sym e ∙ said (write w) i (apart_undeleted ops p (write w) i))

  -- What its operations say is true, where their places are apart.
  pub recorded-true : AllApart ops → AllTrue s.tree ops
  recorded-true p a i = truly a i (said a i (apart_undeleted ops p a i))
    where
      truly : (a : Op) → In a ops → Says s.tree a → TrueOf s.tree a
      truly (write w) i e = λ x q. some_inj (sym q ∙ e)
      truly (delete c k) i e = tt
      truly (delete_all c) i e = tt
      truly (create_collection c) i e = e
      truly (delete_collection c) i e = tt
      truly (copy_collection a c x) i e = e

-- So the rule for every kind asks nothing of what they say: of a commit that goes through, of one that fails, and where recovery is cut.
module _ (b : Bytes) (s : Store) (ops : List Op) (r : Recorded b) (C : Suits b s ops) where
  truth : AllTrue s.tree ops
  truth = recorded-true b s ops r C.holds C.logged C.apart

  marked : Marked ops
  marked = recorded_marked b s ops r C.holds C.logged C.apart

  pub recorded_kinds : (n out : ℕ) → (commit b image_room).number ≡ 0 → CutGives b s n out
  recorded_kinds n out c = kinds_rule b s ops n out C truth marked c

  pub recorded-failing : ((commit b image_room).number ≡ 14) ⊎ ((commit b image_room).number ≡ 15) →
      ((commit b image_room).image ≡ encode (settled s.tree)) × ((n out : ℕ) → CutGives b s n out)
  recorded-failing c = kinds_failing b s ops C truth marked c

  pub recorded_kinds_again : (n : ℕ) (ms : List ℕ) (out : ℕ) → ((commit b image_room).number ≡ 4 → ⊥) → (commit_step n b image_room step_room).number ≡ 0 →
      InPlans ms (cut_at n b) → recover (cut_recoveries ms (cut_at n b)) out ≡ recover (cut_at n b) out
  recorded_kinds_again n ms out c e i = kinds_again b s ops n ms out C truth marked c e i

-- Of Writes alone, begun on any image: "every mark is true of the store at commit".
pub recorded-marks : (b : Bytes) (s : Store) (ws : List Write) → Recorded b → decode b ≡ some s → ops_of (journal s.log) ≡ map write ws → TrulyMarked s.tree ws
recorded-marks b s ws r d l w i = said b s (map write ws) r d l (write w) (in_ops ws w i) (λ c k j. absurd (not-write (one_of ws (delete c k) j)))
  where
    not-write : {c k : Name} → (v : Write) × In v ws × (delete c k ≡ write v) → ⊥
    not-write h = let y : ◌≡◌ {A = ℕ} 0 1 = cc h.2 in omega arith

-- So the cut rule, at every step of the commit, asks nothing about marks.
pub recorded_rule : (b : Bytes) (s : Store) (ws : List Write) (n out : ℕ) → Recorded b → Conditions b s ws → (commit_step n b image_room step_room).number ≡ 0 →
    ((recover (cut_at n b) out).number ≡ 2 → ⊥) → recover (cut_at n b) out ≡ answer 0 (settled (expected_files (has_tag 0x13 (cut_at n b)) s ws))
recorded_rule b s ws n out r C e l = marked_rule b s ws n out C (recorded-marks b s ws r C.holds C.writes_alone) e l

-- Nor does item 5.
pub recorded-again : (b : Bytes) (s : Store) (ws : List Write) (n : ℕ) (ms : List ℕ) (out : ℕ) → Recorded b → Either b s ws →
    (commit_step n b image_room step_room).number ≡ 0 → InPlans ms (cut_at n b) → recover (cut_recoveries ms (cut_at n b)) out ≡ recover (cut_at n b) out
recorded-again b s ws n ms out r C e i = again_rule b s ws n ms out C (recorded-marks b s ws r C.holds C.writes_alone) e i

-- A rotation case by case; demand 1 over calls of it: each is answered with 0 or one of the numbers named here, and after a refusal the lent output and its
-- counter are as they were; 14 and 15 hand back the commit's image.
use Rattle.std.specs.Prelude.{◌≡◌, Bool, true, false, ◌&&◌, List, [], ◌∷◌, ℕ, length, leb, eqb, if◌then◌else◌}
use Rattle.std.proofs.Math.Path.{refl}
use Rattle.std.proofs.Common.{sym, ap, subst, ◌∙◌, inl, inr, arith}
use Rattle.std.proofs.lemmas.Bool.{false≢true}
use Rattle.std.proofs.Math.Option.{Option, none, some}
use borrow.Author.Tests.{eqb-true, ne_eqb}
use Rattle.basics.specs.Limits.{image_room}
use Rattle.basics.specs.Order.{Name}
use Rattle.basics.specs.Base.{Bytes, In, case_option, if_empty, is_some}
use Rattle.model.specs.Log.{journal, is_held}
use Rattle.model.specs.Store.{Store, files}
use Rattle.model.specs.Image.{decode}
use Rattle.model.specs.Record.{refuse, give, begin_transaction, has_dir}
use Rattle.model.specs.Step.{Fault, fails, full, commit_number}
use Rattle.model.specs.Plan.{commit_fault}
use Rattle.answers.specs.Answers.{Answer, refusal, outcome, begin, ending_store, commit}
use Rattle.basic_laws.specs.Tests.{and_both}
use Rattle.laws.specs.Listings.{files_in}
use Rattle.answer_laws.specs.EntryLaws.{lent-good}
use Rattle.cut_rule.proofs.OverImages.{inside}
use Rattle.handover.specs.Contract.{hands_back}
use Rattle.cda_storage.specs.Refusals.{Answered, untouched, begin-answers}
use Rattle.cda_storage.specs.Demand1.{Refuses}
use Rattle.rotation.specs.Asking.{has_file}
use Rattle.answers.specs.Rotate.{current, next, holds_file, rotation, rotate}
use Rattle.rotation.specs.Recorded.{valid-next, rotating, rotation-holds, rotation-found}

-- Begin answers 1 exactly where the image is refused.
broken : (b : Bytes) → (begin b image_room).number ≡ 1 → decode b ≡ none
unfolding begin begin_transaction
broken b e = go (decode b) refl e
  where
    opens : (u : Store) (t h : Bool) → (outcome (if◌then◌else◌ t (refuse 3) (if◌then◌else◌ h (refuse 17) (give u)))).number ≡ 1 → ⊥
    opens u true h e = omega arith
    opens u false true e = omega arith
    opens u false false e = omega arith

    go : (o : Option Store) → decode b ≡ o → (case_option o (refusal 1) (λ s. outcome (begin_transaction s))).number ≡ 1 → decode b ≡ none
    go none p e = p
    go (some s) p e = absurd (opens _ s.open_mark (is_held (journal s.log)) e)

pub read : (b : Bytes) → ((begin b image_room).number ≡ 1 → ⊥) → (s : Store) × (decode b ≡ some s)
unfolding begin
read b h = go (decode b) refl h
  where
    go : (o : Option Store) → decode b ≡ o → ((case_option o (refusal 1) (λ s. outcome (begin_transaction s))).number ≡ 1 → ⊥) → (s : Store) × (decode b ≡ some s)
    go none p h = absurd (h refl)
    go (some s) p h = (s, p)

-- The refusals, and what is left.
module _ (b : Bytes) (out : ℕ) where
  pub turned_1 : (begin b image_room).number ≡ 1 → rotate b out ≡ refusal 1
  unfolding rotate
  turned_1 e = rw (broken b e)

  module _ (s : Store) (d : decode b ≡ some s) where
    pub turned_2 : leb image_room out ≡ false → rotate b out ≡ refusal 2
    unfolding rotate
    turned_2 l = rw (d, l)

    module _ (l : leb image_room out ≡ true) where
      pub turned-begun : ((begin b image_room).number ≡ 0 → ⊥) → rotate b out ≡ begin b image_room
      unfolding rotate
      turned-begun h = rw (d, l, ne_eqb (begin b image_room).number 0 h)

      module _ (e : (begin b image_room).number ≡ 0) where
        pub turned_19 : has_dir current s ≡ false → rotate b out ≡ refusal 19
        unfolding rotate
        turned_19 p = rw (d, l, e, p)

        pub turned_20 : has_dir current s ≡ true → holds_file next s ≡ false → rotate b out ≡ refusal 20
        unfolding rotate
        turned_20 p q = rw (d, l, e, p, q)

        pub carried_out : has_dir current s ≡ true → holds_file next s ≡ true → rotate b out ≡ commit (rotation b) out
        unfolding rotate
        carried_out p q = rw (d, l, e, p, q)

-- Begin that refuses gives its number alone.
pub begun-alone : (b : Bytes) → ((begin b image_room).number ≡ 0 → ⊥) → (hands_back (begin b image_room).number ≡ false) × (begin b image_room ≡ refusal (begin b image_room).number)
begun-alone b h = let k = go (begin-answers b image_room).numbers in (k, (begin-answers b image_room).alone k)
  where
    go : In (begin b image_room).number (0 ∷ 1 ∷ 2 ∷ 3 ∷ 17 ∷ []) → hands_back (begin b image_room).number ≡ false
    go (inl i) = absurd (h i)
    go (inr (inl i)) = ap hands_back i
    go (inr (inr (inl i))) = ap hands_back i
    go (inr (inr (inr (inl i)))) = ap hands_back i
    go (inr (inr (inr (inr (inl i))))) = ap hands_back i
    go (inr (inr (inr (inr (inr i))))) = absurd i

-- A collection with a file stands.
pub holds_same : (b : Bytes) (s : Store) → decode b ≡ some s → has_file next b ≡ holds_file next s
unfolding has_file
holds_same b s d = rw (d, valid-next) (go (files next s.tree) refl (has_dir next s) refl)
  where
    go : (l : List Name) → files next s.tree ≡ l → (t : Bool) → has_dir next s ≡ t → if_empty l false true ≡ (t && if_empty l false true)
    go [] e true p = refl
    go [] e false p = refl
    go (f ∷ l) e true p = refl
    go (f ∷ l) e false p =
        let i = files_in next f s.tree (subst (In f) (sym e) (inl refl)) in
        let j = inside s (lent-good b s d) next f i in
        absurd (false≢true (sym p ∙ ap is_some j.1))

-- Demand 1: its numbers.
abbrev pub rotate_numbers : List ℕ
rotate_numbers = 0 ∷ 1 ∷ 2 ∷ 3 ∷ 17 ∷ 19 ∷ 20 ∷ 14 ∷ 15 ∷ []

-- Of a rotation that is not turned away commit gives 0, 14 or 15.
commit_carries : (b : Bytes) (s : Store) (out : ℕ) → decode b ≡ some s → (begin b image_room).number ≡ 0 → leb image_room out ≡ true → has_dir current s ≡ true →
    has_dir next s ≡ true → Answered rotate_numbers (commit (rotation b) out)
unfolding commit ending_store
commit_carries b s out d e l p q =
    rw (rotation-holds b s d e p q, l, rotation-found b s d e p q) (ended (commit_fault (rotating s)))
  where
    ended : (f : Option Fault) {image step : Bytes} → Answered rotate_numbers (record { number = commit_number f; image = image; step = step })
    ended none = record { numbers = inl refl; alone = λ h. absurd (false≢true (sym h)) }
    ended (some fails) = record { numbers = inr (inr (inr (inr (inr (inr (inr (inl refl))))))); alone = λ h. absurd (false≢true (sym h)) }
    ended (some full) = record { numbers = inr (inr (inr (inr (inr (inr (inr (inr (inl refl)))))))); alone = λ h. absurd (false≢true (sym h)) }

pub rotate-answers : (b : Bytes) (out : ℕ) → Answered rotate_numbers (rotate b out)
rotate-answers b out = by-image (decode b) refl
  where
    one : {a : Answer} (n : ℕ) → In n rotate_numbers → a ≡ refusal n → Answered rotate_numbers a
    one n i e = subst (Answered rotate_numbers) (sym e) (record { numbers = i; alone = λ h. refl })

    begins : In (begin b image_room).number (0 ∷ 1 ∷ 2 ∷ 3 ∷ 17 ∷ []) → In (begin b image_room).number rotate_numbers
    begins (inl i) = inl i
    begins (inr (inl i)) = inr (inl i)
    begins (inr (inr (inl i))) = inr (inr (inl i))
    begins (inr (inr (inr (inl i)))) = inr (inr (inr (inl i)))
    begins (inr (inr (inr (inr (inl i))))) = inr (inr (inr (inr (inl i))))
    begins (inr (inr (inr (inr (inr i))))) = absurd i

    by_next : (s : Store) → decode b ≡ some s → leb image_room out ≡ true → (begin b image_room).number ≡ 0 → has_dir current s ≡ true →
        (t : Bool) → holds_file next s ≡ t → Answered rotate_numbers (rotate b out)
    by_next s d l e p true q =
        subst (Answered rotate_numbers) (sym (carried_out b out s d l e p q))
        (commit_carries b s out d e l p (and_both (has_dir next s) (if_empty (files next s.tree) false true) q).0)
    by_next s d l e p false q = one 20 (inr (inr (inr (inr (inr (inr (inl refl))))))) (turned_20 b out s d l e p q)

    by-current : (s : Store) → decode b ≡ some s → leb image_room out ≡ true → (begin b image_room).number ≡ 0 → (t : Bool) → has_dir current s ≡ t →
        Answered rotate_numbers (rotate b out)
    by-current s d l e true p = by_next s d l e p (holds_file next s) refl
    by-current s d l e false p = one 19 (inr (inr (inr (inr (inr (inl refl)))))) (turned_19 b out s d l e p)

    by-begin : (s : Store) → decode b ≡ some s → leb image_room out ≡ true → (t : Bool) → eqb (begin b image_room).number 0 ≡ t → Answered rotate_numbers (rotate b out)
    by-begin s d l true e = by-current s d l (eqb-true (begin b image_room).number 0 e) (has_dir current s) refl
    by-begin s d l false e =
        subst (Answered rotate_numbers) (sym (turned-begun b out s d l (λ z. false≢true (sym e ∙ ap (λ (n : ℕ). eqb n 0) z))))
        (record { numbers = begins (begin-answers b image_room).numbers; alone = (begin-answers b image_room).alone })

    by-room : (s : Store) → decode b ≡ some s → (t : Bool) → leb image_room out ≡ t → Answered rotate_numbers (rotate b out)
    by-room s d true l = by-begin s d l (eqb (begin b image_room).number 0) refl
    by-room s d false l = one 2 (inr (inr (inl refl))) (turned_2 b out s d l)

    by-image : (o : Option Store) → decode b ≡ o → Answered rotate_numbers (rotate b out)
    by-image none d = one 1 (inr (inl refl)) (unread d)
      where
        unread : decode b ≡ none → rotate b out ≡ refusal 1
        unread d = turned_1 b out (unfold begin in (rw d))
    by-image (some s) d = by-room s d (leb image_room out) refl

-- Every call: after a refusal the output and its counter are as they were.
pub on-rotate : (b : Bytes) → Refuses rotate_numbers (rotate b)
on-rotate b n out out' w w' g = record {
  number = subst (λ (n : ℕ). In n rotate_numbers) (sym g.number) (rotate-answers b (length out)).numbers;
  left = untouched (rotate-answers b (length out)) g;
}

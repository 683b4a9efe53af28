-- 02, item 8 over the answers: a set answers as its keys in turn.
use Rattle.std.specs.Prelude.{◌≡◌, refl, ℕ, ◌≤◌, List, [], ◌∷◌, Bool, true, false, ◌⊎◌, length, leb, eqb, if◌then◌else◌}
use Rattle.std.proofs.Common.{sym, ◌∙◌, ap, arith, inl, inr, ne_eqb}
use Rattle.std.proofs.Math.Option.{Option, none, some}
use Rattle.basics.specs.Limits.{image_room}
use Rattle.basics.specs.Order.{Name}
use Rattle.basics.specs.Base.{Bytes, case_option}
use Rattle.model.specs.Store.{Store}
use Rattle.model.specs.Image.{encode, decode}
use Rattle.model.specs.Record.{Outcome, refuse, give, record_delete, key_fields, key_set, and_then, record_deletes, record_delete_keys}
use Rattle.answers.specs.Answers.{Answer, refusal, outcome, image_entry, delete, delete_keys}
use Rattle.basic_laws.specs.MapLaws.{some_inj}
use Rattle.laws.specs.ImageLaws.{decode-only, decode-encode}
use Rattle.laws.specs.StoreLaws.{well-formed}
use Rattle.laws.specs.RecordLaws.{Gives, delete-keeps}
use Rattle.answer_laws.specs.EntryLaws.{lent-good}
use Rattle.laws.specs.KeySetLaws.{deletes-keep, deletes-fit, set-lowered, set-some, set-records, set_cases}

-- `delete` called for each key in turn, each with the image that the one before handed back; the first refusal ends it.
unfoldable pub delete_in_turn : Name → List Name → Bytes → ℕ → Answer
delete_in_turn c [] b out = record { number = 0; image = b; step = [] }
delete_in_turn c (k ∷ ks) b out = let a : Answer = delete c k b out in if eqb a.number 0 then delete_in_turn c ks a.image out else a

-- What an entry answers for an image that is read and an output with room.
module _ (b : Bytes) (out : ℕ) (s : Store) (d : decode b ≡ some s) (r : leb image_room out ≡ true) where
  on_store : (f : Store → Outcome) → image_entry f b out ≡ outcome (f s)
  on_store f = rw (d, r)

in_turn_lem : (c : Name) (ks : List Name) (b : Bytes) (out : ℕ) (s : Store) → decode b ≡ some s → leb image_room out ≡ true → delete_in_turn c ks b out ≡ outcome (record_deletes c ks s)
unfolding delete_in_turn record_deletes delete
in_turn_lem c [] b out s d r = ap (λ (x : Bytes). record { number = 0; image = x; step = [] }) (sym (decode-only b s d).0)
in_turn_lem c (k ∷ ks) b out s d r =
    ap (λ (a : Answer). if eqb a.number 0 then delete_in_turn c ks a.image out else a) (on_store b out s d r (record_delete c k))
    ∙ go (record_delete c k s) (delete-keeps c k s (lent-good b s d)) (λ u e. in_turn_lem c ks (encode u) out u e r)
  where
    apart : (n : ℕ) → (n ≡ 0 → ⊥) → (x y : Answer) → (if eqb n 0 then x else y) ≡ y
    apart n z x y = rw (ne_eqb n 0 z)

    go : (o : Outcome) → Gives o → ((u : Store) → decode (encode u) ≡ some u → delete_in_turn c ks (encode u) out ≡ outcome (record_deletes c ks u)) →
        (if eqb (outcome o).number 0 then delete_in_turn c ks (outcome o).image out else outcome o) ≡ outcome (and_then o (record_deletes c ks))
    go (refuse n) z ih = apart n z (delete_in_turn c ks [] out) (refusal n)
    go (give u) g ih = ih u (decode-encode u (well-formed u g))

-- The tests before the keys: what a set answers, by what its keys answer in turn.
pub on_read : (P : Answer → Type 0) (f : Store → Outcome) (b : Bytes) (out : ℕ) → P (refusal 1) → P (refusal 2) → ((s : Store) → decode b ≡ some s → leb image_room out ≡ true → P (outcome (f s))) → P (image_entry f b out)
on_read P f b out p q h = go (decode b) refl (leb image_room out) refl
  where
    go : (o : Option Store) → decode b ≡ o → (t : Bool) → leb image_room out ≡ t → P (case_option o (refusal 1) (λ s. if t then outcome (f s) else refusal 2))
    go none d t r = p
    go (some s) d true r = h s d r
    go (some s) d false r = q

-- 02, item 8: "Either every key can be deleted by the rule for a single one, and all are recorded in the given order with their case renames made": where
-- the set is done or a key is missing, it answers as its keys in turn.
pub set-in-turn : (c : Name) (keys : Bytes) (ks : List Name) (b : Bytes) (out : ℕ) → key_fields keys ≡ some ks → ((delete_keys c keys b out).number ≡ 0) ⊎ ((delete_keys c keys b out).number ≡ 8) →
    delete_keys c keys b out ≡ delete_in_turn c (key_set ks) b out
unfolding delete_keys
set-in-turn c keys ks b out e =
    on_read (λ a. (a.number ≡ 0) ⊎ (a.number ≡ 8) → a ≡ delete_in_turn c (key_set ks) b out) (record_delete_keys c keys) b out (other 1 (omega arith) (omega arith)) (other 2 (omega arith) (omega arith)) λ s d r.
    set_cases (λ o. ((outcome o).number ≡ 0) ⊎ ((outcome o).number ≡ 8) → outcome o ≡ delete_in_turn c (key_set ks) b out) c keys s (other 4 (omega arith) (omega arith)) (other 5 (omega arith) (omega arith)) (other 6 (omega arith) (omega arith))
    λ ls g l m f h. ap (λ (x : List Name). outcome (record_deletes c (key_set x) s)) (some_inj (sym g ∙ e)) ∙ sym (in_turn_lem c (key_set ks) b out s d r)
  where
    other : (n : ℕ) → (n ≡ 0 → ⊥) → (n ≡ 8 → ⊥) → (n ≡ 0) ⊎ (n ≡ 8) → refusal n ≡ delete_in_turn c (key_set ks) b out
    other n z y (inl p) = absurd (z p)
    other n z y (inr p) = absurd (y p)

-- Keys that are done in turn, 1 to 32 fields, are done as a set.
was_read : (c : Name) (l : List Name) (b : Bytes) (out : ℕ) → 1 ≤ length l → (delete_in_turn c l b out).number ≡ 0 → (s : Store) × (decode b ≡ some s) × (leb image_room out ≡ true)
unfolding delete_in_turn delete
was_read c [] b out h = λ z. absurd (omega arith)
was_read c (k ∷ l) b out h =
    on_read (λ a. (if eqb a.number 0 then delete_in_turn c l a.image out else a).number ≡ 0 → (s : Store) × (decode b ≡ some s) × (leb image_room out ≡ true)) (record_delete c k) b out
    (λ z. absurd (omega arith)) (λ z. absurd (omega arith)) (λ s d r z. (s, d, r))

given-of : (o : Outcome) → Gives o → (outcome o).number ≡ 0 → (u : Store) × (o ≡ give u)
given-of (refuse n) g z = absurd (g z)
given-of (give u) g z = (u, refl)

pub in_turn-set : (c : Name) (keys : Bytes) (ks : List Name) (b : Bytes) (out : ℕ) → key_fields keys ≡ some ks → 1 ≤ length ks → length ks ≤ 32 → (delete_in_turn c (key_set ks) b out).number ≡ 0 →
    delete_keys c keys b out ≡ delete_in_turn c (key_set ks) b out
unfolding delete_keys
in_turn-set c keys ks b out e l m z =
    let w = was_read c (key_set ks) b out (set-some ks l) z in
    let t = in_turn_lem c (key_set ks) b out w.0 w.1 w.2 in
    let g = given-of (record_deletes c (key_set ks) w.0) (deletes-keep c (key_set ks) w.0 (lent-good b w.0 w.1)) (ap (λ (a : Answer). a.number) (sym t) ∙ z) in
    let f = deletes-fit c (key_set ks) w.0 g.0 (set-some ks l) (set-lowered ks) g.1 in
    on_store b out w.0 w.1 w.2 (record_delete_keys c keys) ∙ ap outcome (set-records c keys ks w.0 e l m f) ∙ sym t

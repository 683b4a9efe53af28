-- One altered file does not spread, over calls of the exported entries: item 14 of document 02. Words and quotes are those of crate answer_laws,
-- Spread.antt; a call is what its contract says (Calls.antt).
use Rattle.std.specs.Prelude.{◌≡◌, eqb, ℕ, length, if◌then◌else◌}
use Rattle.std.proofs.Common.{sym, ap, ◌∙◌}
use Rattle.std.proofs.Math.Option.{some}
use Rattle.basics.specs.Base.{Bytes}
use Rattle.model.specs.Store.{Store}
use Rattle.model.specs.Image.{encode, decode}
use Rattle.answers.specs.Answers.{Answer, Broke, recover, recover_cause, revert, revert_cause, keep}
use Rattle.answer_laws.specs.Spread.{Altered, AtMostOneFile, AtMostOne, NotSpread, recover-not_spread, revert-not_spread, keep-not_spread, same-cause, same-revert-cause}
use Rattle.handover.specs.Contract.{hands_back, CauseGives}
use Rattle.cda_storage.specs.Calls.{Call, handed_back, handed}

-- What two calls have handed back: the images of two stores that are so far apart.
pub record HandedBack (Apart : Store → Store → Type 0) (b c : Bytes) : Type 0 where
  pub first : Store
  pub second : Store
  pub given : b ≡ encode first
  pub other : c ≡ encode second
  pub apart : Apart first second

-- For every two images that are read and "are equal but for the content number of one file or staging file", and every two calls of the entry on them,
-- "lent equally long outputs": "the same number [..], and where that is 0 the [..] images differ in .."
abbrev pub NotSpreadByCalls : (Store → Store → Type 0) → (Bytes → ℕ → Answer) → Type 0
NotSpreadByCalls Apart entry =
    (b c : Bytes) (s u : Store) → decode b ≡ some s → decode c ≡ some u → Altered s u →
    (n m : ℕ) (x : Call (entry b) n) (y : Call (entry c) m) → length x.out ≡ length y.out →
    (n ≡ m) × (n ≡ 0 → HandedBack Apart (handed_back x) (handed_back y))

by-calls : {Apart : Store → Store → Type 0} {entry : Bytes → ℕ → Answer} → NotSpread Apart entry → NotSpreadByCalls Apart entry
by-calls {Apart} {entry} h b c s u d e a n m x y long = (same, λ z. back z)
  where
    at : ℕ
    at = length x.out

    to-second : entry c at ≡ entry c (length y.out)
    to-second = ap (entry c) long

    same : n ≡ m
    same = x.gives.number ∙ (h b c s u d e a at).0 ∙ ap (λ (r : Answer). r.number) to-second ∙ sym y.gives.number

    back : n ≡ 0 → HandedBack Apart (handed_back x) (handed_back y)
    back z =
        let k = (h b c s u d e a at).1 (sym x.gives.number ∙ z) in
        record {
          first = k.first;
          second = k.second;
          given = handed x (ap hands_back z) ∙ ap (λ (r : Answer). r.image) k.given;
          other = handed y (ap hands_back (sym same ∙ z)) ∙ ap (λ (r : Answer). r.image) (sym to-second ∙ k.other);
          apart = k.apart;
        }

pub recover-by-calls : NotSpreadByCalls AtMostOneFile recover
recover-by-calls = by-calls recover-not_spread

pub revert-by-calls : NotSpreadByCalls AtMostOneFile revert
revert-by-calls = by-calls revert-not_spread

pub keep-by-calls : NotSpreadByCalls AtMostOne keep
keep-by-calls = by-calls keep-not_spread

-- "Recovery also hands that number back" (item 1): two such calls, lent equally long outputs and the same cause, tell the same one.
abbrev pub SameCauseByCalls : (Bytes → ℕ → Broke) → Type 0
SameCauseByCalls broke =
    (b c : Bytes) (s u : Store) → decode b ≡ some s → decode c ≡ some u → Altered s u →
    (out n m cause told other : ℕ) → CauseGives (broke b out) n cause told → CauseGives (broke c out) m cause other → (n ≡ m) × (told ≡ other)

cause-by-calls : {x y : Broke} → x ≡ y → {n m cause told other : ℕ} → CauseGives x n cause told → CauseGives y m cause other → (n ≡ m) × (told ≡ other)
cause-by-calls q {cause = k} g h = (
  g.number ∙ ap (λ (r : Broke). r.number) q ∙ sym h.number,
  g.told ∙ ap (λ (r : Broke). if eqb r.number 0 then r.cause else k) q ∙ sym h.told,
)

pub recover-cause-by-calls : SameCauseByCalls recover_cause
recover-cause-by-calls b c s u d e a out n m k x y g h = cause-by-calls (same-cause b c s u d e a out) g h

pub revert-cause-by-calls : SameCauseByCalls revert_cause
revert-cause-by-calls b c s u d e a out n m k x y g h = cause-by-calls (same-revert-cause b c s u d e a out) g h

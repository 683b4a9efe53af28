-- Begin, discard and every recorded operation hand back a well-formed store.
use Rattle.std.specs.Prelude.{◌≡◌, refl, ℕ, ◌<◌, List, [], ◌∷◌, Bool, true, false, not, ◌&&◌, length, leb, if◌then◌else◌}
use Rattle.std.proofs.Common.{sym, ◌∙◌, subst, inl, inr, nltb→le}
use native.Mathlib.Omega.{arith}
use Rattle.std.proofs.Math.Option.{Option, none, some}
use Rattle.std.proofs.lemmas.Bool.{false≢true}
use Rattle.basics.specs.Order.{Name, Key}
use Rattle.basics.specs.Map.{Map, look, put}
use Rattle.basic_laws.specs.MapLaws.{key_dec, none≢some, some_inj, look-put-same, look-put-other, sorted-put}
use Rattle.basics.specs.Base.{Bytes, case_option, is_some, same_bytes, In}
use Rattle.basics.specs.Name.{valid_name, lower, original_name, strip_tmp}
use Rattle.basics.specs.Field.{little_endian}
use Rattle.model.specs.Operation.{Op, write, delete, delete_all, create_collection, delete_collection, copy_collection}
use Rattle.model.specs.Log.{is_held, recording, journal, whole, header, append_operation}
use Rattle.model.specs.Store.{Store, files, valid_number}
use Rattle.model.specs.Step.{rename_file, apply}
use Rattle.model.specs.Record.{Outcome, refuse, give, transaction, begin_transaction, discard, record_into, appended, require, has_dir, record_write, other_case, case_renamed, record_delete, record_delete_all, record_create, record_delete_collection, record_copy}
use Rattle.basic_laws.specs.Tests.{and_both}
use Rattle.laws.specs.TreeLaws.{size, one, length-size, size-put_le}
use Rattle.laws.specs.StoreLaws.{Staging, StagedGood, LogFits, Good}
use Rattle.laws.specs.OperationLaws.{ValidOp}
use Rattle.laws.specs.LengthLaws.{appended-length}
use Rattle.laws.specs.LogLaws.{found-whole, recorded-stands}
use Rattle.basic_laws.specs.ValidNames.{Valid, valid-length, valid_naming}
use Rattle.laws.specs.Listings.{listed-file}
use Rattle.laws.specs.StepLaws.{keep-rename}

-- What is given is well-formed, and a refusal's number is not 0.
abbrev pub Gives : Outcome → Type 0
Gives (refuse n) = n ≡ 0 → ⊥
Gives (give u) = Good Valid u

-- A transaction with room for one operation more.
pub record Room (l : Option Bytes) : Type 0 where
  pub ops : List Op
  pub reads : journal l ≡ recording ops whole
  pub fits : length ops < 32

-- What holds of an outcome, through the tests that come before it.
module _ (P : Outcome → Type 0) where
  pub into : (s : Store) (r : Outcome) → P (refuse 4) → P (refuse 5) → (Room s.log → P r) → P (record_into s r)
  into s r f k h = go (transaction s) refl
    where
      at : (o : List Op) → transaction s ≡ some o → (t : Bool) → leb 32 (length o) ≡ t → P (if◌then◌else◌ t (refuse 5) r)
      at o e true p = k
      at o e false p = h record { ops = o; reads = found-whole s o e; fits = let k = nltb→le 31 (length o) (rw p tt) in omega arith }

      go : (q : Option (List Op)) → transaction s ≡ q → P (case_option q (refuse 4) (λ o. if◌then◌else◌ (leb 32 (length o)) (refuse 5) r))
      go none e = f
      go (some o) e = at o e (leb 32 (length o)) refl

  pub passing : (t : Bool) (n : ℕ) (r : Outcome) → P (refuse n) → (t ≡ true → P r) → P (require t n r)
  passing true n r z h = h refl
  passing false n r z h = z

keeping : (s : Store) (r : Outcome) → (Room s.log → Gives r) → Gives (record_into s r)
keeping s r h = into Gives s r (omega arith) (omega arith) h

append_good : (o : Op) (s : Store) → ValidOp o → Good Valid s → Room s.log → Good Valid (appended o s)
append_good o s v g r = record { tree = g.tree; staging = g.staging; log = go s.log r.reads }
  where
    go : (l : Option Bytes) → journal l ≡ recording r.ops whole → LogFits (case_option l none (λ l. some (append_operation o l)))
    go none e = absurd (false≢true (recorded-stands none r.ops whole e))
    go (some l) e = appended-length l r.ops o e r.fits v

staging-put : (m : Map) (f : Name) (x : ℕ) → Staging m → Valid f → valid_number x ≡ true → size one m < 32 → Staging (put ([], f) x m)
staging-put m f x g v n h = record {
  sorted = sorted-put ([], f) x m g.sorted;
  node = λ k y l. at k y l (key_dec k ([], f));
  fits = let p = size-put_le one ([], f) x m in omega arith;
}
  where
    at : (k : Key) (y : ℕ) → look k (put ([], f) x m) ≡ some y → Dec (k ≡ ([], f)) → StagedGood k y
    at k y l (yes p) =
        let e : y ≡ x = some_inj (sym l ∙ rw p (look-put-same ([], f) x m)) in
        rw (p, e) record { bare = refl; name = v; number = n }
    at k y l (no p) = g.node k y (sym (look-put-other ([], f) k x m p) ∙ l)

pub begin-keeps : (s : Store) → Good Valid s → Gives (begin_transaction s)
unfolding begin_transaction header little_endian
begin-keeps s g = go s.open_mark (is_held (journal s.log))
  where
    go : (t h : Bool) → Gives (if◌then◌else◌ t (refuse 3) (if◌then◌else◌ h (refuse 17) (give (record { tree = s.tree; staging = s.staging; log = some (header 0); open_mark = true }))))
    go true h = omega arith
    go false true = omega arith
    go false false = record { tree = g.tree; staging = g.staging; log = omega arith }

pub rollback-keeps : (s : Store) → Good Valid s → Gives (discard s)
unfolding discard
rollback-keeps s g = go (transaction s)
  where
    go : (q : Option (List Op)) → Gives (case_option q (refuse 4) (λ o. give (record { tree = s.tree; staging = []; log = none; open_mark = false })))
    go none = omega arith
    go (some o) = record { tree = g.tree; staging = record { sorted = tt; node = λ k x l. unfold look in (none≢some l); fits = omega arith }; log = tt }

pub write_keeps : (c key st : Name) (x : ℕ) (s : Store) → Good Valid s → Gives (record_write c key st x s)
unfolding record_write
write_keeps c key st x s g =
    keeping s _ λ r. passing Gives (valid_name c && valid_name (lower key) && valid_name st) 6 _ (omega arith) λ v. passing Gives _ 10 _ (omega arith) λ t.
    let a = and_both (valid_name c && valid_name (lower key)) (valid_name st) v in
    let b = and_both (valid_name c) (valid_name (lower key)) a.0 in
    let k = and_both (not (is_some (look ([], st) s.staging)) && not (leb 32 (length s.staging))) (valid_number x) t in
    let m = and_both (not (is_some (look ([], st) s.staging))) (not (leb 32 (length s.staging))) k.0 in
    append_good (write (record { collection = c; key = lower key; staged = st; mark = some (is_some (look (c, lower key) s.tree)) })) (staged_in x) (b.0, b.1, a.1)
    (record { tree = g.tree; staging = staging-put s.staging st x g.staging a.1 k.1 (few (leb 32 (length s.staging)) refl m.1); log = g.log }) r
  where
    staged_in : ℕ → Store
    staged_in x = record { tree = s.tree; staging = put ([], st) x s.staging; log = s.log; open_mark = s.open_mark }

    few : (t : Bool) → leb 32 (length s.staging) ≡ t → not t ≡ true → size one s.staging < 32
    few true p e = absurd (false≢true e)
    few false p e = let k = nltb→le 31 (length s.staging) (rw p tt) in let h = length-size s.staging in omega arith

pub other_in : (k : Name) (l : List Name) (f : Name) → other_case k l ≡ some f → In f l
unfolding other_case
other_in k [] f e = none≢some e
other_in k (a ∷ l) f e = go (not (is_some (original_name a)) && not (is_some (strip_tmp a)) && same_bytes (lower a) k) (λ z. other_in k l f z) e
  where
    go : (t : Bool) → (other_case k l ≡ some f → In f l) → if◌then◌else◌ t (some a) (other_case k l) ≡ some f → In f (a ∷ l)
    go true ih e = inl (sym (some_inj e))
    go false ih e = inr (ih e)

renamed-log : (c f k : Name) (s : Store) → (apply (rename_file c f k) s).log ≡ s.log
unfolding apply
renamed-log c f k s = refl

case_keeps : (c k : Name) (s : Store) → Valid c → Valid k → Good Valid s → Good Valid (case_renamed c k s) × ((case_renamed c k s).log ≡ s.log)
unfolding case_renamed
case_keeps c k s vc v g = go (look (c, k) s.tree) (other_case k (files c s.tree)) refl
  where
    go : (p : Option ℕ) (q : Option Name) → other_case k (files c s.tree) ≡ q →
        Good Valid (case_option p (case_option q s (λ f. apply (rename_file c f k) s)) (λ x. s)) × ((case_option p (case_option q s (λ f. apply (rename_file c f k) s)) (λ x. s)).log ≡ s.log)
    go (some x) q e = (g, refl)
    go none none e = (g, refl)
    go none (some f) e = (
      (keep-rename valid_naming [] s (record { good = g; fits = tt }) c f k (valid-length c vc) (valid-length f (listed-file s.tree g.tree c f (other_in k (files c s.tree) f e))) v).good,
      renamed-log c f k s,
    )

pub delete-keeps : (c key : Name) (s : Store) → Good Valid s → Gives (record_delete c key s)
unfolding record_delete
delete-keeps c key s g = keeping s _ λ r. passing Gives (valid_name c && valid_name (lower key)) 6 _ (omega arith) λ v.
    let a = and_both (valid_name c) (valid_name (lower key)) v in
    let h = case_keeps c (lower key) s a.0 a.1 g in
    let u = case_renamed c (lower key) s in
    passing Gives (is_some (look (c, lower key) u.tree)) 8 (give (appended (delete c (lower key)) u)) (omega arith) λ t.
    append_good (delete c (lower key)) (case_renamed c (lower key) s) (a.0, a.1) h.0 (subst Room (sym h.1) r)

pub delete-all-keeps : (c : Name) (s : Store) → Good Valid s → Gives (record_delete_all c s)
unfolding record_delete_all
delete-all-keeps c s g = keeping s _ λ r. passing Gives (valid_name c) 6 _ (omega arith) λ v. append_good (delete_all c) s v g r

pub create_keeps : (c : Name) (s : Store) → Good Valid s → Gives (record_create c s)
unfolding record_create
create_keeps c s g =
    keeping s _ λ r. passing Gives (valid_name c) 6 _ (omega arith) λ v.
    passing Gives (not (has_dir c s)) 9 (give (appended (create_collection c) s)) (omega arith) λ t. append_good (create_collection c) s v g r

pub delete-collection-keeps : (c : Name) (s : Store) → Good Valid s → Gives (record_delete_collection c s)
unfolding record_delete_collection
delete-collection-keeps c s g =
    keeping s _ λ r. passing Gives (valid_name c) 6 _ (omega arith) λ v.
    passing Gives (has_dir c s) 7 (give (appended (delete_collection c) s)) (omega arith) λ t. append_good (delete_collection c) s v g r

pub copy_keeps : (a b : Name) (s : Store) → Good Valid s → Gives (record_copy a b s)
unfolding record_copy
copy_keeps a b s g =
    keeping s _ λ r. passing Gives (valid_name a) 6 _ (omega arith) λ v. passing Gives (has_dir a s) 7 (require (valid_name b) 6 copied) (omega arith) λ t.
    passing Gives (valid_name b) 6 copied (omega arith) λ w. append_good (copy_collection a b (has_dir b s)) s (v, w) g r
  where
    copied : Outcome
    copied = give (appended (copy_collection a b (has_dir b s)) s)

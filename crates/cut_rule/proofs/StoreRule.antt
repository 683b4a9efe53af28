-- The conditions of the cut rule over stores, which the proof goes by.
use Rattle.std.specs.Prelude.{◌≡◌, refl, ℕ, List, [], Bool, false}
use Rattle.std.proofs.Common.{sym, ◌∙◌, ap}
use Rattle.std.proofs.Math.Option.{Option, none, some}
use Rattle.std.proofs.lemmas.Bool.{false≢true}
use Rattle.basics.specs.Order.{Name}
use Rattle.basics.specs.Map.{Map, look, Has}
use Rattle.basics.specs.Base.{In, is_some, case_option}
use Rattle.basics.specs.Name.{original_name, strip_tmp}
use Rattle.model.specs.Operation.{Op, Write, write, delete, delete_all, create_collection, delete_collection, copy_collection, target, backup, stood}
use Rattle.model.specs.Log.{journal, recording, whole}
use Rattle.model.specs.Store.{Store}
use Rattle.basic_laws.specs.MapLaws.{Sorted, none≢some}
use Rattle.laws.specs.StoreLaws.{Bare}
use Rattle.cut_rule.specs.Demand.{TrueMark}
use Rattle.cut_rule.specs.Kinds.{AllApart, Marked}

-- A name with neither extension.
pub record Plain (n : Name) : Type 0 where
  pub no_bak : original_name n ≡ none
  pub no_tmp : strip_tmp n ≡ none

-- Every file stands in a directory.
abbrev pub Within : Map → Type 0
Within t = (d f : Name) → Has (d, f) t → Has (d, []) t

-- A tree from before: no backup stands in it.
pub record OldTree (o : Map) : Type 0 where
  pub sorted : Sorted o
  pub plain : (d f : Name) → Has (d, f) o → Plain d × Plain f
  pub within : Within o

pub old-file : {o : Map} → OldTree o → (d n g : Name) → original_name n ≡ some g → look (d, n) o ≡ none
old-file {o} h d n g p = go (look (d, n) o) refl
  where
    go : (q : Option ℕ) → look (d, n) o ≡ q → look (d, n) o ≡ none
    go none e = e
    go (some x) e = none≢some (sym (h.plain d n (x, e)).1.no_bak ∙ p)

pub old-dir : {o : Map} → OldTree o → (e f d : Name) → original_name e ≡ some d → look (e, f) o ≡ none
old-dir {o} h e f d p = go (look (e, f) o) refl
  where
    go : (q : Option ℕ) → look (e, f) o ≡ q → look (e, f) o ≡ none
    go none q = q
    go (some x) q = none≢some (sym (h.plain e f (x, q)).0.no_bak ∙ p)

-- What is asked of an operation: plain names, and that what it says of the old tree is true.
pub record KeyGood (c k : Name) : Type 0 where
  pub dir : original_name c ≡ none
  pub file : original_name k ≡ none
  pub named : k ≡ [] → ⊥

pub record DirGood (c : Name) : Type 0 where
  pub dir : original_name c ≡ none
  pub named : c ≡ [] → ⊥

pub record WriteGood (o : Map) (w : Write) : Type 0 where
  pub key : KeyGood w.collection w.key
  pub stands : Has (w.collection, []) o
  pub mark : TrueMark o w

abbrev pub OpGood : Map → Op → Type 0
OpGood o (write w) = WriteGood o w
OpGood o (delete c k) = KeyGood c k
OpGood o (delete_all c) = DirGood c
OpGood o (create_collection c) = DirGood c × (look (c, []) o ≡ none)
OpGood o (delete_collection c) = DirGood c
OpGood o (copy_collection a b x) = DirGood b × (x ≡ is_some (look (b, []) o))

abbrev pub AllGood : Map → List Op → Type 0
AllGood o ops = (a : Op) → In a ops → OpGood o a

pub record Transacts (s : Store) (ops : List Op) : Type 0 where
  pub logged : journal s.log ≡ recording ops whole
  pub bare : Bare s.staging
  pub old : OldTree s.tree
  pub good : AllGood s.tree ops
  pub apart : AllApart ops

-- Undoing takes no old file away: a Write's key that existed has its backup in the tree t, unless the mark says that it stood.
abbrev pub Safe : Map → List Op → Map → Type 0
Safe o ops t = (w : Write) → In (write w) ops → stood w ≡ false → Has (target w) o → Has (backup w) t

-- Only a Write of kind 1 must have its backup; with true marks alone every tree is safe.
pub safe-unless : (o : Map) (ops : List Op) (t : Map) → AllGood o ops →
    ((w : Write) → In (write w) ops → w.mark ≡ none → Has (target w) o → Has (backup w) t) → Safe o ops t
safe-unless o ops t g h w i e z = go w.mark refl e
  where
    go : (m : Option Bool) → w.mark ≡ m → case_option m false (λ x. x) ≡ false → Has (backup w) t
    go none p e = h w i p z
    go (some x) p e = absurd (false≢true (sym e ∙ (g (write w) i).mark x p ∙ ap is_some z.1))

pub marked-safe : (o : Map) (ops : List Op) (t : Map) → AllGood o ops → Marked ops → Safe o ops t
marked-safe o ops t g m = safe-unless o ops t g (λ w i e. absurd (m w i e))

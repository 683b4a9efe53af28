-- Operations by their kind: new artifacts, and what undoes them.
use mathlib.Core.Path.{◌≡◌, refl}
use mathlib.Core.List.{[], ◌∷◌}
use mathlib.Core.Option.{none, some}
use mathlib.Core.Bool.{Bool, true, false, not}
use mathlib.Core.Logic.{inl, inr}
use native.Mathlib.Omega.{arith}
use types.Run.{OneOf}
use denote.Enum.Declared.{tag_of}
use Rattle.basics.specs.Order.{Name}
use Rattle.basics.specs.Map.{Map, look}
use Rattle.basics.specs.Base.{Bytes, is_some}
use Rattle.basics.specs.Name.{backup_name}
use Rattle.model.specs.Operation.{write, create_collection, copy_collection}
use Rattle.model.specs.Store.{Store}
use Rattle.model.specs.Plan.{is_new_artifact, undo_steps}
use Rattle.spans.specs.declared.NameRef.{NameRef}
use Rattle.transaction.specs.Operations.{op_of}
use Rattle.transaction.specs.contracts.Operation.{the_type}
use Rattle.transaction.specs.declared.Operation.{Operation}
use Rattle.transaction.specs.declared.Operation.TheVariants as code
use Rattle.recovery.specs.Walks.{is_new_file, undo_write, undo_create, undo_copy}

module _ (m : Map) where
  module _ (c k : Name) where
    pub file-new : {b : Bool} → is_some (look (c, k) m) ≡ true → b ≡ is_some (look (c, backup_name k) m) → not b ≡ is_new_file m c k
    unfolding is_new_file
    file-new h e = rw (h, e)

    pub file-old : is_some (look (c, k) m) ≡ false → false ≡ is_new_file m c k
    unfolding is_new_file
    file-old h = rw h

  -- A Write of kind 1, and a marked one.
  module _ (c k s : Name) where
    pub write_new : {b : Bool} → b ≡ is_new_file m c k → b ≡ is_new_artifact m (write (record { collection = c; key = k; staged = s; mark = none }))
    unfolding is_new_artifact is_new_file
    write_new e = e

    pub marked-new : (stood : Bool) {b : Bool} → stood ≡ false → b ≡ is_new_file m c k →
        b ≡ is_new_artifact m (write (record { collection = c; key = k; staged = s; mark = some stood }))
    unfolding is_new_artifact is_new_file
    marked-new stood x e = rw x e

    pub marked-stood : (stood : Bool) → stood ≡ true → false ≡ is_new_artifact m (write (record { collection = c; key = k; staged = s; mark = some stood }))
    unfolding is_new_artifact
    marked-stood stood x = rw x

  pub create_new : (c : Name) {b : Bool} → b ≡ is_some (look (c, []) m) → b ≡ is_new_artifact m (create_collection c)
  unfolding is_new_artifact
  create_new c e = e

  module _ (a d : Name) (existed : Bool) where
    pub copy_new : {b : Bool} → existed ≡ false → is_some (look (d, []) m) ≡ true → b ≡ is_some (look (backup_name d, []) m) → not b ≡ is_new_artifact m (copy_collection a d existed)
    unfolding is_new_artifact
    copy_new x h e = rw (x, h, e)

    pub copy_old : existed ≡ false → is_some (look (d, []) m) ≡ false → false ≡ is_new_artifact m (copy_collection a d existed)
    unfolding is_new_artifact
    copy_old x h = rw (x, h)

    pub copy_existed : existed ≡ true → false ≡ is_new_artifact m (copy_collection a d existed)
    unfolding is_new_artifact
    copy_existed x = rw x

-- The plan that undoes an operation.
module _ (t : Store) where
  pub by-write : (c k s : Name) → undo_write c k t ≡ undo_steps (write (record { collection = c; key = k; staged = s; mark = none })) t
  unfolding undo_write undo_steps
  by-write c k s = refl

  pub by-marked : (c k s : Name) (stood : Bool) → stood ≡ false →
      undo_write c k t ≡ undo_steps (write (record { collection = c; key = k; staged = s; mark = some stood })) t
  unfolding undo_write undo_steps
  by-marked c k s stood e = rw e

  pub by-stood : (c k s : Name) (stood : Bool) → stood ≡ true → undo_steps (write (record { collection = c; key = k; staged = s; mark = some stood })) t ≡ []
  unfolding undo_steps
  by-stood c k s stood e = rw e

  pub by_create : (c : Name) → undo_create c t ≡ undo_steps (create_collection c) t
  unfolding undo_create undo_steps
  by_create c = refl

  pub by_copy : (a b : Name) (existed : Bool) → existed ≡ false → undo_copy b t ≡ undo_steps (copy_collection a b existed) t
  unfolding undo_copy undo_steps
  by_copy a b existed e = rw e

  pub by_existed : (a b : Name) (existed : Bool) → existed ≡ true → undo_steps (copy_collection a b existed) t ≡ []
  unfolding undo_steps
  by_existed a b existed e = rw e

-- The kinds that make nothing: Delete, DeleteAll, DeleteCollection.
module _ (P : Operation → Type 0) (d : (c k : NameRef) → P (code.Delete c k)) (a : (c : NameRef) → P (code.DeleteAll c)) (e : (c : NameRef) → P (code.DeleteCollection c)) where
  quiet : (o : Operation) → OneOf (1 ∷ 2 ∷ 4 ∷ []) (tag_of the_type o) → P o
  quiet (code.Delete c k) h = d c k
  quiet (code.DeleteAll c) h = a c
  quiet (code.DeleteCollection c) h = e c
  quiet (code.Write c k s) (inl z) = absurd (omega arith)
  quiet (code.Write c k s) (inr (inl z)) = absurd (omega arith)
  quiet (code.Write c k s) (inr (inr z)) = absurd (omega arith)
  quiet (code.CreateCollection c) (inl z) = absurd (omega arith)
  quiet (code.CreateCollection c) (inr (inl z)) = absurd (omega arith)
  quiet (code.CreateCollection c) (inr (inr z)) = absurd (omega arith)
  quiet (code.CopyCollection b c x) (inl z) = absurd (omega arith)
  quiet (code.CopyCollection b c x) (inr (inl z)) = absurd (omega arith)
  quiet (code.CopyCollection b c x) (inr (inr z)) = absurd (omega arith)
  quiet (code.MarkedWrite c k s x) (inl z) = absurd (omega arith)
  quiet (code.MarkedWrite c k s x) (inr (inl z)) = absurd (omega arith)
  quiet (code.MarkedWrite c k s x) (inr (inr z)) = absurd (omega arith)

module _ (src : Bytes) where
  pub no_artifact : (m : Map) (o : Operation) → OneOf (1 ∷ 2 ∷ 4 ∷ []) (tag_of the_type o) → false ≡ is_new_artifact m (op_of src o)
  unfolding is_new_artifact
  no_artifact m o h = quiet (λ o. false ≡ is_new_artifact m (op_of src o)) (λ c k. refl) (λ c. refl) (λ c. refl) o h

  pub undoes-nothing : (t : Store) (o : Operation) → OneOf (1 ∷ 2 ∷ 4 ∷ []) (tag_of the_type o) → undo_steps (op_of src o) t ≡ []
  unfolding undo_steps
  undoes-nothing t o h = quiet (λ o. undo_steps (op_of src o) t ≡ []) (λ c k. refl) (λ c. refl) (λ c. refl) o h

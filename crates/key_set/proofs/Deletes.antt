-- `delete_one` and `delete_each`.
use Rattle.std.specs.Prelude.{if◌then◌else◌}
use mathlib.Core.Path.{◌≡◌, refl, sym, ap, subst, ◌∙◌}
use mathlib.Core.List.{List, [], ◌∷◌, map}
use mathlib.Core.Option.{Option, none, some}
use mathlib.Core.Bool.{Bool, true, false, false≢true}
use Prim.Native.Nat.{ℕ, ◌+◌, ◌≤◌, ◌<◌}
use native.Mathlib.Omega.{arith}
use lib.ListN.{length, drop, get_or, length-map, drop_of_length-le}
use Rattle.basics.specs.Base.{Bytes, is_some}
use Rattle.basics.specs.Map.{look}
use Rattle.model.specs.Operation.{Op, write, delete, delete_all, create_collection, delete_collection, copy_collection}
use Rattle.model.specs.Store as model
use Rattle.model.specs.Record.{case_renamed}
use Rattle.basic_laws.specs.MapLaws.{none≢some, some_inj}
use Rattle.basic_laws.specs.Tests.{All, all_drop}
use Rattle.basic_laws.specs.ValidNames.{valid-named}
use Rattle.laws.specs.OperationLaws.{ValidOp}
use Rattle.spans.specs.Spans.{name_of, Sound}
use Rattle.spans.specs.declared.NameRef.{NameRef}
use Rattle.store.specs.Tables.{map_of}
use Rattle.store.specs.Stores.{store_of}
use Rattle.store.specs.declared.Store.{Store}
use Rattle.steps.specs.Steps.{FileName, Fits}
use Rattle.steps.proofs.FileNames.{file-name}
use Rattle.local_collection.specs.Keys.{Normalized}
use Rattle.transaction.specs.Operations.{op_of, SoundOp}
use Rattle.transaction.specs.declared.Operation.{Operation}
use Rattle.transaction.specs.declared.Operation.TheVariants as code
use Rattle.recovery.proofs.Entries.{op-at, read-rest}
use Rattle.laws.specs.KeySetLaws.{deletable}
use Rattle.key_set.specs.Deleting.{Deletes}

-- One operation, and those behind it.
one_then : (o : Op) (os : List Op) (s u : model.Store) → deletable (o ∷ []) s ≡ some u → deletable (o ∷ os) s ≡ deletable os u
unfolding deletable
one_then (write w) os s u e = none≢some e
one_then (delete c k) os s u e = go (is_some (look (c, k) (case_renamed c k s).tree)) e
  where
    go : (t : Bool) → (if t then some (case_renamed c k s) else none) ≡ some u → (if t then deletable os (case_renamed c k s) else none) ≡ deletable os u
    go true e = ap (deletable os) (some_inj e)
    go false e = none≢some e
one_then (delete_all c) os s u e = none≢some e
one_then (create_collection c) os s u e = none≢some e
one_then (delete_collection c) os s u e = none≢some e
one_then (copy_collection a b x) os s u e = none≢some e

none_then : (o : Op) (os : List Op) (s : model.Store) → deletable (o ∷ []) s ≡ none → deletable (o ∷ os) s ≡ none
unfolding deletable
none_then (write w) os s e = refl
none_then (delete c k) os s e = go (is_some (look (c, k) (case_renamed c k s).tree)) e
  where
    go : (t : Bool) → (if t then some (case_renamed c k s) else none) ≡ none → (if t then deletable os (case_renamed c k s) else none) ≡ none
    go true e = none≢some (sym e)
    go false e = refl
none_then (delete_all c) os s e = refl
none_then (create_collection c) os s e = refl
none_then (delete_collection c) os s e = refl
none_then (copy_collection a b x) os s e = refl

module _ {src : Bytes} {s : Store} where
  module _ {c k : NameRef} where
    -- What `ensure_normalized_on_disk` asks.
    pub may_rename : Fits src s → Sound src c × Sound src k → ValidOp (delete (name_of src c) (name_of src k)) → Fits src s × (Sound src c × FileName src k)
    may_rename f n v = (f, (n.0, file-name n.1 (valid-named (name_of src k) v.1)))

    pub renamed : {t : Store} {b : Bool} → Normalized src c k s t → b ≡ is_some (look (name_of src c, name_of src k) (map_of src t.tree)) → Deletes src (delete (name_of src c) (name_of src k) ∷ []) s t b
    unfolding deletable
    renamed {t} {b} n e = record {
      fits = n.fits;
      done = λ h. rw (stands ∙ h) (ap (λ (u : model.Store). some u) (sym n.same));
      missing = λ h. rw (stands ∙ h);
    }
      where
        stands : is_some (look (name_of src c, name_of src k) (case_renamed (name_of src c) (name_of src k) (store_of src s)).tree) ≡ b
        stands = ap (λ (u : model.Store). is_some (look (name_of src c, name_of src k) u.tree)) (sym n.same) ∙ sym e

  module _ {op : Operation} (p : Fits src s × (SoundOp src op × ValidOp (op_of src op))) where
    module _ {c k : NameRef} (e : op ≡ code.Delete c k) where
      pub asks-rename : Fits src s × (Sound src c × FileName src k)
      asks-rename = may_rename p.0 (subst (SoundOp src) e p.1.0) (subst (λ (o : Operation). ValidOp (op_of src o)) e p.1.1)

      pub is-renamed : {t : Store} {b : Bool} → Normalized src c k s t → b ≡ is_some (look (name_of src c, name_of src k) (map_of src t.tree)) → Deletes src (op_of src op ∷ []) s t b
      is-renamed {t} {b} n q = subst (λ (o : Operation). Deletes src (op_of src o ∷ []) s t b) (sym e) (renamed n q)

  module _ (op : Operation) (p : Fits src s × (SoundOp src op × ValidOp (op_of src op))) where
    pub no-delete : ((c k : NameRef) → op ≡ code.Delete c k → ⊥) → Deletes src (op_of src op ∷ []) s s false
    no-delete h = record { fits = p.0; done = λ e. absurd (false≢true e); missing = λ e. other op h }
      where
        other : (o : Operation) → ((c k : NameRef) → o ≡ code.Delete c k → ⊥) → deletable (op_of src o ∷ []) (store_of src s) ≡ none
        other (code.Write c k f) h = unfold deletable in refl
        other (code.Delete c k) h = absurd (h c k refl)
        other (code.DeleteAll c) h = unfold deletable in refl
        other (code.CreateCollection c) h = unfold deletable in refl
        other (code.DeleteCollection c) h = unfold deletable in refl
        other (code.CopyCollection a b x) h = unfold deletable in refl
        other (code.MarkedWrite c k f x) h = unfold deletable in refl

-- `delete_each`: the operations from i on are left.
pub record Deleting (src : Bytes) (ops : List Operation) (start now : Store) (i : ℕ) : Type 0 where
  pub held : All (SoundOp src) ops
  pub valid : All ValidOp (map (op_of src) ops)
  pub fits : Fits src now
  pub same : deletable (map (op_of src) ops) (store_of src start) ≡ deletable (drop i (map (op_of src) ops)) (store_of src now)

pub deleting : {src : Bytes} {ops : List Operation} {s : Store} → All (SoundOp src) ops → All ValidOp (map (op_of src) ops) → Fits src s → Deleting src ops s s 0
deleting r v f = record { held = r; valid = v; fits = f; same = refl }

module _ {src : Bytes} {ops : List Operation} {start now : Store} {i : ℕ} (g : Deleting src ops start now i) where
  pub all-deleted : length ops ≤ i → Deletes src (map (op_of src) ops) start now true
  unfolding deletable
  all-deleted h = record {
    fits = g.fits;
    done = λ e. g.same ∙ ap (λ (l : List Op). deletable l (store_of src now)) (drop_of_length-le (map (op_of src) ops) {i = i} (omega (arith, length-map ops (op_of src))));
    missing = λ e. absurd (false≢true (sym e));
  }

  module _ (d : Operation) (h : i < length ops) where
    abbrev op : Operation
    op = get_or ops i d

    pub may_delete : Fits src now × (SoundOp src op × ValidOp (op_of src op))
    may_delete = (g.fits, (op-at src ops i d h g.held, (subst (All ValidOp) (read-rest src ops i d h) (all_drop ValidOp i (map (op_of src) ops) g.valid)).0))

    left : {q : Option model.Store} → deletable (op_of src op ∷ drop (i + 1) (map (op_of src) ops)) (store_of src now) ≡ q → deletable (map (op_of src) ops) (store_of src start) ≡ q
    left e = g.same ∙ ap (λ (l : List Op). deletable l (store_of src now)) (read-rest src ops i d h) ∙ e

    module _ {next : Store} {b : Bool} (x : Deletes src (op_of src op ∷ []) now next b) where
      pub one-missing : b ≡ false → Deletes src (map (op_of src) ops) start next false
      one-missing e = record {
        fits = x.fits;
        done = λ t. absurd (false≢true t);
        missing = λ z. left (none_then (op_of src op) (drop (i + 1) (map (op_of src) ops)) (store_of src now) (x.missing e));
      }

      pub one-deleted : b ≡ true → Deleting src ops start next (i + 1)
      one-deleted e = record {
        held = g.held;
        valid = g.valid;
        fits = x.fits;
        same = left (one_then (op_of src op) (drop (i + 1) (map (op_of src) ops)) (store_of src now) (store_of src next) (x.done e));
      }

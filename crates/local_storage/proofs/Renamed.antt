-- `delete`: the store after the case rename.
use mathlib.Core.Path.{◌≡◌, refl, sym, ap, ◌∙◌}
use mathlib.Core.Option.{Option, none, some}
use mathlib.Core.Bool.{Bool, false, false≢true}
use Prim.Native.Nat.{ℕ}
use Rattle.basics.specs.Order.{Name}
use Rattle.basics.specs.Base.{Bytes, case_option, is_some}
use Rattle.basics.specs.Map.{look, put, del}
use Rattle.model.specs.Operation.{delete}
use Rattle.model.specs.Store as model
use Rattle.model.specs.Store.{files}
use Rattle.model.specs.Step.{rename_file, apply, with_tree}
use Rattle.model.specs.Record.{give, appended, other_case, case_renamed}
use Rattle.basic_laws.specs.MapLaws.{look-put-same}
use Rattle.spans.specs.Spans.{name_of}
use Rattle.spans.specs.declared.NameRef.{NameRef}
use Rattle.store.specs.Tables.{map_of}
use Rattle.store.specs.Stores.{store_of}
use Rattle.store.specs.declared.Store.{Store}
use Rattle.transaction.specs.Operations.{op_of}
use Rattle.transaction.specs.declared.Operation.TheVariants.{Delete}
use Rattle.local_collection.specs.Keys.{Normalized}

-- Where the key is missing after the case rename, nothing was renamed.
not-renamed : (c k : Name) (s : model.Store) → is_some (look (c, k) (case_renamed c k s).tree) ≡ false → case_renamed c k s ≡ s
unfolding case_renamed apply
not-renamed c k s = go (look (c, k) s.tree) (other_case k (files c s.tree))
  where
    none-moved : (f : Name) (o : Option ℕ) → is_some (look (c, k) (case_option o s.tree (λ x. put (c, k) x (del (c, f) s.tree)))) ≡ false →
        with_tree (case_option o s.tree (λ x. put (c, k) x (del (c, f) s.tree))) s ≡ s
    none-moved f none e = refl
    none-moved f (some x) e = absurd (false≢true (sym e ∙ ap is_some (look-put-same (c, k) x (del (c, f) s.tree))))

    go : (o : Option ℕ) (p : Option Name) → is_some (look (c, k) (case_option o (case_option p s (λ f. apply (rename_file c f k) s)) (λ x. s)).tree) ≡ false → case_option o (case_option p s (λ f. apply (rename_file c f k) s)) (λ x. s) ≡ s
    go (some x) p e = refl
    go none none e = refl
    go none (some f) e = none-moved f (look (c, f) s.tree) e

module _ {src : Bytes} {d f : NameRef} {s r : Store} (m : Normalized src d f s r) {b x : Bool} (p : b ≡ is_some (look (name_of src d, name_of src f) (map_of src r.tree))) (h : b ≡ x) where
  pub key-stands : is_some (look (name_of src d, name_of src f) (case_renamed (name_of src d) (name_of src f) (store_of src s)).tree) ≡ x
  key-stands = rw (← m.same) (sym p ∙ h)

  pub still : x ≡ false → store_of src r ≡ store_of src s
  still e = m.same ∙ not-renamed (name_of src d) (name_of src f) (store_of src s) (key-stands ∙ e)

-- A Delete in the store after the case rename.
pub deleted : {src : Bytes} {d f : NameRef} {s r : Store} → Normalized src d f s r →
    give (appended (delete (name_of src d) (name_of src f)) (case_renamed (name_of src d) (name_of src f) (store_of src s))) ≡ give (appended (op_of src (Delete d f)) (store_of src r))
deleted {src} {d} {f} m = ap (λ (u : model.Store). give (appended (op_of src (Delete d f)) u)) (sym m.same)

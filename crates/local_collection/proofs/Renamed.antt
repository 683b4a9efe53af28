-- `ensure_normalized_on_disk`: what was found decides whether a file is renamed.
use Rattle.std.specs.Prelude.{Option, None, Some}
use Rattle.std.proofs.Math.Option as maths
use Rattle.std.proofs.Math.Option.{none, some}
use mathlib.Core.Path.{◌≡◌, refl, sym, ap, ◌∙◌}
use mathlib.Core.Bool.{Bool, true, false, false≢true}
use Rattle.basics.specs.Order.{Name}
use Rattle.basics.specs.Map.{look}
use Rattle.basics.specs.Base.{Bytes, case_option, is_some}
use Rattle.model.specs.Store as model
use Rattle.model.specs.Store.{files}
use Rattle.model.specs.Step.{apply, rename_file}
use Rattle.model.specs.Record.{other_case, case_renamed}
use Rattle.spans.specs.Spans.{name_of, Sound}
use Rattle.spans.specs.declared.NameRef.{NameRef}
use Rattle.store.specs.Tables.{key_of, map_of}
use Rattle.store.specs.Stores.{store_of}
use Rattle.store.specs.declared.Store.{Store}
use Rattle.steps.specs.Steps.{step_of, FileName, SoundStep, Fits, Allowed, Applied}
use Rattle.steps.specs.declared.Step.TheVariants.{RenameFile}
use Rattle.local_collection.specs.Keys.{case_of, OtherCaseOf, Normalized}

-- What stands, and what does not.
present : {A B : Type 0} (o : maths.Option A) (x y : B) → is_some o ≡ true → y ≡ case_option o x (λ a. y)
present none x y e = absurd (false≢true e)
present (some a) x y e = refl

absent : {A : Type 0} (o : maths.Option A) → is_some o ≡ false → o ≡ none
absent none e = refl
absent (some a) e = absurd (false≢true (sym e))

-- The model's rename, by whether the key's file stands and what is found in another case.
module _ (c k : Name) (s : model.Store) where
  key-stands : is_some (look (c, k) s.tree) ≡ true → s ≡ case_renamed c k s
  unfolding case_renamed
  key-stands e = present (look (c, k) s.tree) _ s e

  no_other : look (c, k) s.tree ≡ none → other_case k (files c s.tree) ≡ none → s ≡ case_renamed c k s
  unfolding case_renamed
  no_other e p = rw (e, p)

  an_other : {f : Name} → look (c, k) s.tree ≡ none → other_case k (files c s.tree) ≡ some f → apply (rename_file c f k) s ≡ case_renamed c k s
  unfolding case_renamed
  an_other e p = rw (e, p)

module _ {src : Bytes} {dir key : NameRef} {s : Store} {b : Bool} (e : b ≡ is_some (look (key_of src dir key) (map_of src s.tree))) where
  pub standing : Fits src s → b ≡ true → Normalized src dir key s s
  standing f p = record { fits = f; same = key-stands (name_of src dir) (name_of src key) (store_of src s) (sym e ∙ p) }

  module _ {o : Option NameRef} (q : b ≡ false) (w : OtherCaseOf src (name_of src key) (files (name_of src dir) (map_of src s.tree)) o) where
    pub not_there : Fits src s → o ≡ None → Normalized src dir key s s
    not_there f p = record { fits = f; same = no_other (name_of src dir) (name_of src key) (store_of src s) (absent _ (sym e ∙ q)) (sym w.same ∙ ap (case_of src) p) }

    pub renamed : {f : NameRef} {r : Store} → o ≡ Some f → Applied src (RenameFile dir f key) s r → Normalized src dir key s r
    unfolding step_of
    renamed p a = record { fits = a.fits; same = a.same ∙ an_other (name_of src dir) (name_of src key) (store_of src s) (absent _ (sym e ∙ q)) (sym w.same ∙ ap (case_of src) p) }

-- What the rename asks for.
pub found-named : {src : Bytes} {k : Name} {l : _} {o : Option NameRef} {f : NameRef} → OtherCaseOf src k l o → o ≡ Some f → FileName src f
found-named {src} w p = rw p at w.sound

pub can_rename : {src : Bytes} {dir f key : NameRef} {s : Store} → Fits src s → Sound src dir → FileName src f → FileName src key → (Fits src s × SoundStep src (RenameFile dir f key)) × Allowed (step_of src (RenameFile dir f key)) (store_of src s)
unfolding step_of
can_rename f d a k = ((f, record { names = (d, (a, k)) }), tt)

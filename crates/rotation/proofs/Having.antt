-- Whether a collection has a file, by what the store was asked.
use Rattle.std.specs.Prelude.{Some}
use mathlib.Core.Path.{◌≡◌, refl, sym, ap, ◌∙◌}
use mathlib.Core.Bool.{Bool, true, false, not}
use mathlib.Core.List.{List, [], ◌∷◌}
use Rattle.basics.specs.Order.{Name}
use Rattle.basics.specs.Base.{Bytes, if_empty}
use Rattle.basics.specs.Name.{valid_name}
use Rattle.model.specs.Store as model
use Rattle.model.specs.Store.{files}
use Rattle.refusals.specs.declared.Refusal.{Refusal}
use Rattle.spans.specs.Spans.{name_of, Sound, Given}
use Rattle.spans.specs.declared.NameRef.{NameRef}
use Rattle.store.specs.Tables.{map_of, SoundTable}
use Rattle.store.specs.Stores.{store_of}
use Rattle.decode.specs.declared.Decoded.{Decoded}
use Rattle.handover.specs.Opening.{Opened, Shut}
use Rattle.recording.proofs.Lent.{Begins, lent-sound, lent_same}
use Rattle.rotation.specs.Asking.{has_file}

module _ (c : Name) (image : Bytes) where
  pub has-none : {e : Refusal} → Shut image true e → false ≡ has_file c image
  unfolding has_file
  has-none w = rw (w.broken refl).0

  module _ {o : Decoded} (w : Opened image true o) where
    pub has-invalid : valid_name c ≡ false → false ≡ has_file c image
    unfolding has_file
    has-invalid g = rw (w.held.accepted, g)

    module _ {src : Bytes} {r : NameRef} (g : Given src (Some r) c) (b : Begins image src) where
      pub has-asks : SoundTable src o.store.tree × Sound src r
      has-asks = ((lent-sound b w.held).tree, g.1.sound)

      pub has-found : {e : Bool} → e ≡ if_empty (files (name_of src r) (map_of src o.store.tree)) true false → not e ≡ has_file c image
      unfolding has_file
      has-found {e} q =
          ap not (q ∙ ap (λ (l : List Name). if_empty l true false) same) ∙ turn (files c (store_of image o.store).tree) ∙ sym (rw (w.held.accepted, g.0))
        where
          same : files (name_of src r) (map_of src o.store.tree) ≡ files c (store_of image o.store).tree
          same = ap (λ (n : Name). files n (map_of src o.store.tree)) g.1.same ∙ ap (λ (m : model.Store). files c m.tree) (lent_same b w.held)

          turn : (l : List Name) → not (if_empty l true false) ≡ if_empty l false true
          turn [] = refl
          turn (f ∷ l) = refl

-- The inventory of an image, by what was written of its text.
use Rattle.std.specs.Prelude.{Option, None, Some}
use Rattle.std.specs.Option.{ok_or}
use mathlib.Core.Path.{◌≡◌, refl, sym, ap, subst, ◌∙◌}
use mathlib.Core.Bool.{true}
use mathlib.Core.List.{[]}
use Prim.Native.Nat.{ℕ}
use lib.ListN.{length}
use borrow.Author.Tests.{le-leb, lt-leb}
use Rattle.basics.specs.Base.{Bytes}
use Rattle.model.specs.Store as model
use Rattle.model.specs.Store.{valid_nodes}
use Rattle.answers.specs.Answers.{Answer, refusal}
use Rattle.answers.specs.Inventory.{inventory_text, in_room, inventory}
use Rattle.laws.specs.ImageLaws.{parts, decode-only}
use Rattle.text.specs.Writing.{Writes}
use Rattle.text.proofs.Writes.{no_room, whole}
use Rattle.refusals.specs.Numbers.{number_of, told}
use Rattle.refusals.specs.declared.Refusal.TheVariants.{OutputTooShort}
use Rattle.refusals.specs.declared.Refusal.{Refusal}
use Rattle.store.specs.Tables.{map_of, SoundTable}
use Rattle.store.specs.Stores.{store_of}
use Rattle.decode.specs.declared.Decoded.{Decoded}
use Rattle.handover.specs.Contract.{Gives}
use Rattle.handover.specs.Handing.{handed}
use Rattle.handover.specs.Opening.{Opened, Shut}
use Rattle.handover.proofs.Outputs.{left_alone, gives}

abbrev shown : ℕ → model.Store → Answer
shown len s = in_room (inventory_text s.tree) len

module _ (image : Bytes) where
  pub inventory-refused : {e : Refusal} → Shut image true e → (len : ℕ) {out : Bytes} (written : ℕ) → Gives (inventory image len) (number_of e) out out written written
  unfolding inventory
  inventory-refused w len written = left_alone w.alone (w.refused (shown len))

  module _ {o : Decoded} (w : Opened image true o) where
    abbrev held : model.Store
    held = store_of image o.store

    pub inventory-asks : SoundTable image o.store.tree × (valid_nodes [] (map_of image o.store.tree) ≡ true)
    inventory-asks = (w.held.sound.tree, (parts held (decode-only image held w.held.accepted).1).nodes)

    is : (len : ℕ) → inventory image len ≡ shown len held
    unfolding inventory
    is len = w.given (shown len)

    pub inventory-answers : {out out' : Bytes} (r : Option ℕ) → Writes (inventory_text held.tree) out out' r → (written : ℕ) →
        Gives (inventory image (length out)) (told (ok_or r OutputTooShort)) out out' written (handed (ok_or r OutputTooShort) written)
    inventory-answers {out} {out'} None p written =
        let h = no_room p in
        let a : inventory image (length out) ≡ refusal 2 = is (length out) ∙ rw (lt-leb (length (inventory_text held.tree)) (length out) h.0) in
        subst (λ (b : Bytes). Gives (inventory image (length out)) 2 out b written written) (sym h.1) (left_alone refl a)
    inventory-answers {out} {out'} (Some n) p written =
        let h = whole p in
        let a : inventory image (length out) ≡ record { number = 0; image = inventory_text held.tree; step = [] } = is (length out) ∙ rw (le-leb (length (inventory_text held.tree)) (length out) h.0) in
        gives refl (sym (ap (λ (b : Answer). b.number) a)) (sym (ap (λ (b : Answer). b.image) a)) (record { same = h.1.1; size = h.1.0 })

-- 02, item 9, over calls of `cda_storage_inventory` on an image that is accepted: it answers 0 or 2, which "means that the text is longer than the lent
-- output"; 20,178 bytes are always enough; and what a call hands back is read as the image's directories with their files and content numbers, by the
-- small reader of JSON of crate answer_laws (InventoryReader). So a reader can trust the text, whatever the names are.
use Rattle.std.specs.Prelude.{◌≡◌, refl, Bool, true, false, ℕ, ◌≤◌, ◌<◌, length, leb}
use Rattle.std.proofs.Common.{ap, ◌∙◌, arith, le-leb}
use Rattle.std.proofs.Math.Option.{some}
use Rattle.std.proofs.lemmas.Bool.{lt-leb}
use Rattle.basics.specs.Base.{Bytes}
use Rattle.model.specs.Store.{Store}
use Rattle.model.specs.Image.{decode}
use Rattle.answers.specs.Answers.{Answer}
use Rattle.answers.specs.Inventory.{collections, inventory_text, in_room, inventory}
use Rattle.answer_laws.specs.InventoryReader.{read_inventory, inventory-read}
use Rattle.answer_laws.specs.InventoryRoom.{inventory_room, inventory-length}
use Rattle.cda_storage.specs.Calls.{Call, handed_back, handed}

module _ (image : Bytes) (s : Store) (d : decode image ≡ some s) {n : ℕ} (c : Call (inventory image) n) where
  is : inventory image (length c.out) ≡ in_room (inventory_text s.tree) (length c.out)
  unfolding inventory
  is = rw d

  number : n ≡ (in_room (inventory_text s.tree) (length c.out)).number
  number = c.gives.number ∙ ap (λ (a : Answer). a.number) is

  pub inventory-fits : length (inventory_text s.tree) ≤ length c.out → n ≡ 0
  inventory-fits h = number ∙ rw (le-leb (length (inventory_text s.tree)) (length c.out) h)

  pub inventory-too_long : length c.out < length (inventory_text s.tree) → n ≡ 2
  inventory-too_long h = number ∙ rw (lt-leb (length (inventory_text s.tree)) (length c.out) h)

  pub inventory-has-room : inventory_room ≤ length c.out → n ≡ 0
  inventory-has-room h = inventory-fits (omega (arith, inventory-length image s d))

  pub inventory-read-back : n ≡ 0 → read_inventory (handed_back c) ≡ some (collections s.tree)
  inventory-read-back z = go (leb (length (inventory_text s.tree)) (length c.out)) refl
    where
      go : (t : Bool) → leb (length (inventory_text s.tree)) (length c.out) ≡ t → read_inventory (handed_back c) ≡ some (collections s.tree)
      go true e =
          let text : (inventory image (length c.out)).image ≡ inventory_text s.tree = ap (λ (a : Answer). a.image) is ∙ rw e in
          ap read_inventory (handed c (rw z) ∙ text) ∙ inventory-read image s d
      go false e = let two : n ≡ 2 = number ∙ rw e in absurd (omega arith)

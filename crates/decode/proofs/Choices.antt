-- What a field of a listing gives, by its tag.
use mathlib.Core.Path.{◌≡◌, refl, sym, ap, ◌∙◌}
use mathlib.Core.Bool.{Bool, true, false, false≢true}
use Prim.Native.Nat.{ℕ}
use lib.ListN.{length}
use borrow.Author.Tests.{eqb-true, ne_eqb}
use Rattle.basics.specs.Base.{Bytes}
use Rattle.laws.specs.ImageLaws.{node-parts}
use Rattle.field.specs.declared.Item.{Item}
use Rattle.spans.specs.Spans.{name_of, length_of}
use Rattle.spans.proofs.Parts.{length-name}
use Rattle.decode.specs.declared.Spot.{Spot}
use Rattle.decode.specs.Listing.{file_tag, own}
use Rattle.decode.specs.Spots.{Breaks, AtField, InDir}
use Rattle.decode.proofs.Ahead.{no_bytes}
use Rattle.decode.proofs.Rows.{invalid-nil}
use Rattle.decode.proofs.Nodes.{tree-filed}
use Rattle.decode.proofs.Steps.{broken}

-- A tag of the tree.
pub tree-tag : (staged : Bool) {t k : ℕ} → own staged t ≡ true → t ≡ k → own true k ≡ false → staged ≡ false
tree-tag true o z n = absurd (false≢true (sym n ∙ rw z at o))
tree-tag false o z n = refl

module _ {src : Bytes} {p : Spot} {x : Item} where
  pub tag-is : {staged : Bool} {t : ℕ} → AtField staged src p x x.tag → x.tag ≡ t → AtField staged src p x t
  tag-is a z = record { short = a.short; spot = a.spot; stands = a.stands; tag = z }

  -- A file before any directory.
  pub nowhere : (staged : Bool) → AtField staged src p x x.tag → own staged x.tag ≡ true → x.tag ≡ 0x11 → length_of p.node.dir ≡ 0 → Breaks staged src p
  nowhere true a o z l = absurd (false≢true (rw z at o))
  nowhere false a o z l = broken (tag-is a z) refl (λ n f q. invalid-nil (rw ((tree-filed _ _ n f.valid q).dir ∙ no_bytes _ (length-name a.spot.node.dir ∙ l)) at (node-parts _ n f.valid).0))

  -- A file behind a directory, or a staging file.
  pub of-file : (staged : Bool) → AtField staged src p x x.tag → own staged x.tag ≡ true → (x.tag ≡ 0x10 → ⊥) → (x.tag ≡ 0x11 → length_of p.node.dir ≡ 0 → ⊥) → AtField staged src p x (file_tag staged) × InDir staged (name_of src p.node.dir)
  of-file true a o n m = (tag-is a (eqb-true x.tag 0x12 o), a.spot.dir)
  of-file false a o n m =
      let z : x.tag ≡ 0x11 = eqb-true x.tag 0x11 (rw (ne_eqb x.tag 0x10 n) at o) in
      (tag-is a z, a.spot.dir (λ e. m z (sym (length-name a.spot.node.dir) ∙ ap length e)))

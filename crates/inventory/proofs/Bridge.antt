-- The text by its definition and as the code walks it.
use mathlib.Core.Path.{◌≡◌, refl, sym, ap, ◌∙◌}
use mathlib.Core.Bool.{true}
use mathlib.Core.List.{List, [], ◌∷◌, ◌++◌, map, append_assoc}
use Prim.Native.Nat.{ℕ, ◌≤◌, ◌<◌}
use native.Mathlib.Omega.{arith}
use lib.ListN.{length}
use lib.Seq.{append_snoc}
use Rattle.basics.specs.Order.{Name}
use Rattle.basics.specs.Map.{Map}
use Rattle.basics.specs.Base.{Bytes, flat_map}
use Rattle.model.specs.Store.{valid_node, valid_nodes}
use Rattle.answers.specs.Inventory.{Collection, quoted, object, file_member, collection_member, inventory_text}
use Rattle.basic_laws.specs.Tests.{and_both}
use Rattle.basic_laws.specs.MapLaws.{Sorted}
use Rattle.basic_laws.specs.ValidNames.{valid-named}
use Rattle.laws.specs.ImageLaws.{node-parts, file-parts}
use Rattle.answer_laws.specs.Collections.{ahead, following, by-following}
use Rattle.text.specs.Writing.{Writes}
use Rattle.text.proofs.Writes.{not_written, all_written}
use Rattle.inventory.specs.Putting.{Puts}
use Rattle.std.specs.Prelude.{None, Some}
use Rattle.inventory.specs.declared.Kind.TheVariants.{Directory, File}
use Rattle.inventory.specs.Walk.{dir_text, file_text, text_from}

-- Members, each behind a comma; members with commas between.
abbrev more : List Bytes → Bytes
more l = flat_map (λ n. 0x2C ∷ n) l

abbrev inner : List Bytes → Bytes
inner [] = []
inner (m ∷ l) = m ++ more l

object_then : (l : List Bytes) (r : Bytes) → object l ++ r ≡ 0x7B ∷ (inner l ++ 0x7D ∷ r)
unfolding object
object_then [] r = refl
object_then (m ∷ l) r = ap (λ (b : Bytes). 0x7B ∷ b) (append_snoc (m ++ more l) 0x7D r)

-- What follows the files of a directory.
abbrev outer : List Collection → Bytes
outer c = 0x7D ∷ (more (map collection_member c) ++ 0x7D ∷ [])

-- A directory that is opened, and what follows.
dir_then : (d : Name) (l : List Bytes) (r : Bytes) → quoted d ++ 0x3A ∷ 0x7B ∷ [] ++ (inner l ++ 0x7D ∷ r) ≡ quoted d ++ 0x3A ∷ object l ++ r
dir_then d l r = append_assoc (quoted d) (0x3A ∷ 0x7B ∷ []) (inner l ++ 0x7D ∷ r) ∙ ap (λ (b : Bytes). quoted d ++ 0x3A ∷ b) (sym (object_then l r)) ∙ sym (append_assoc (quoted d) (0x3A ∷ object l) r)

pub record Both (r : Map) : Type 0 where
  pub behind_dir : text_from (Some Directory) r ≡ inner (map file_member (ahead r)) ++ outer (following r)
  pub behind_file : text_from (Some File) r ≡ more (map file_member (ahead r)) ++ outer (following r)

dir-walk : (d : Name) (r : Map) → Both r → quoted d ++ 0x3A ∷ 0x7B ∷ [] ++ text_from (Some Directory) r ≡ collection_member (d, ahead r) ++ more (map collection_member (following r)) ++ 0x7D ∷ []
unfolding collection_member
dir-walk d r b =
    let rest : Bytes = more (map collection_member (following r)) ++ 0x7D ∷ [] in
    ap (λ (b : Bytes). quoted d ++ 0x3A ∷ 0x7B ∷ [] ++ b) b.behind_dir ∙ dir_then d (map file_member (ahead r)) rest ∙ sym (append_assoc (collection_member (d, ahead r)) (more (map collection_member (following r))) (0x7D ∷ []))

both : (r : Map) → Both r
unfolding text_from dir_text file_text ahead following file_member
both [] = record { behind_dir = refl; behind_file = refl }
both (((d, []), x) ∷ r) =
    let e = ap (λ (b : Bytes). 0x7D ∷ 0x2C ∷ b) (dir-walk d r (both r)) in
    record { behind_dir = e; behind_file = e }
both (((d, y ∷ ys), x) ∷ r) =
    let m : Bytes = file_member (y ∷ ys, x) in
    let files : List Bytes = map file_member (ahead r) in
    let e : m ++ text_from (Some File) r ≡ m ++ more files ++ outer (following r) = ap (λ (b : Bytes). m ++ b) (both r).behind_file ∙ sym (append_assoc m (more files) (outer (following r))) in
    record { behind_dir = e; behind_file = ap (λ (b : Bytes). 0x2C ∷ b) e }

-- The whole text of a tree whose first node is a directory.
walked : (t : Map) → valid_nodes [] t ≡ true → object (map collection_member (following t)) ≡ 0x7B ∷ text_from None t
unfolding valid_nodes text_from dir_text object following
walked [] v = refl
walked (((d, []), x) ∷ r) v = ap (λ (b : Bytes). 0x7B ∷ b) (sym (dir-walk d r (both r)))
walked (((d, y ∷ ys), x) ∷ r) v =
    let p = node-parts [] ((d, y ∷ ys), x) (and_both (valid_node [] ((d, y ∷ ys), x)) (valid_nodes d r) v).0 in
    absurd (valid-named d p.0 (file-parts [] d (y ∷ ys) x p.1).0)

pub walked-text : (t : Map) → valid_nodes [] t ≡ true → Sorted t → inventory_text t ≡ 0x7B ∷ text_from None t
unfolding inventory_text
walked-text t v s = ap (λ (l : List Collection). object (map collection_member l)) (by-following [] t v s) ∙ walked t v

-- The text, written whole or not at all. The first walk, into an output without room, told its length.
module _ {text walk lent lent' : Bytes} {size : ℕ} (e : text ≡ walk) (w : Puts walk 0 lent lent' size) (out : Bytes) where
  pub too_long : length out < size → Writes text out out None
  too_long h = rw e (not_written (omega (arith, w.next)))

  pub all-put : {after : Bytes} {n : ℕ} → size ≤ length out → Puts walk 0 out after n → Writes text out after (Some n)
  all-put h p = rw e (all_written (omega (arith, w.next)) (omega (arith, p.next)) (p.same (omega (arith, w.next))))

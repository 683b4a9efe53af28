-- Nodes and their fields.
use mathlib.Core.Path.{◌≡◌, refl, sym, ap, ◌∙◌}
use mathlib.Core.Bool.{Bool, true, false, ◌&&◌}
use mathlib.Core.List.{[], ◌∷◌, ◌++◌}
use Prim.Native.Nat.{ℕ, ◌≤◌}
use native.Mathlib.Omega.{arith}
use lib.ListN.{length, take, drop, length-append, take-append-drop}
use lib.Seq.{take_at, drop_at, length-take-le}
use lib.Dec.{eqb}
use Rattle.basics.specs.Order.{Name}
use Rattle.basics.specs.Map.{Node}
use Rattle.basics.specs.Base.{Bytes, if_empty, same_bytes}
use Rattle.basics.specs.Name.{valid_name}
use Rattle.basics.specs.Field.{Field, little_endian, from_little_endian}
use Rattle.model.specs.Store.{valid_number, valid_node, valid_staged}
use Rattle.model.specs.Image.{node_field}
use Rattle.basic_laws.specs.Tests.{All, eqb-eq}
use Rattle.basic_laws.specs.FieldLaws.{Byte, le_four, bytes-again}
use Rattle.laws.specs.ImageLaws.{listed, number_le, node-parts, file-parts, staged-parts}
use Rattle.field.specs.Writing.{field}
use Rattle.decode.specs.Listing.{file_tag, own, valid_at}
use Rattle.decode.specs.Spots.{InDir}

-- Every field of a listing has one of its tags.
pub own-listed : (staged : Bool) (n : Node) → own staged (listed staged n).tag ≡ true
own-listed true n = refl
own-listed false n = go n.0.1
  where
    go : (f : Name) → own false (if_empty f (field 0x10 n.0.0) (field 0x11 (little_endian 4 n.1 ++ n.0.1))).tag ≡ true
    go [] = refl
    go (y ∷ ys) = refl

pub own-file : (staged : Bool) → own staged (file_tag staged) ≡ true
own-file true = refl
own-file false = refl

-- A number and a name in a value.
abbrev pub number_of : Bytes → ℕ
number_of v = from_little_endian (take 4 v)

four : (x : ℕ) → length (little_endian 4 x) ≡ 4
unfolding little_endian
four x = refl

pub value-name : (x : ℕ) (f v : Bytes) → little_endian 4 x ++ f ≡ v → f ≡ drop 4 v
value-name x f v e = sym (drop_at (little_endian 4 x) f 4 (four x)) ∙ ap (drop 4) e

pub value-number : (x : ℕ) (f v : Bytes) → valid_number x ≡ true → little_endian 4 x ++ f ≡ v → x ≡ number_of v
value-number x f v h e = sym (le_four x (number_le x h)) ∙ ap from_little_endian (sym (take_at (little_endian 4 x) f 4 (four x)) ∙ ap (take 4) e)

pub value-again : (v : Bytes) → 4 ≤ length v → All Byte (take 4 v) → little_endian 4 (number_of v) ++ drop 4 v ≡ v
value-again v h b =
    let l : length (take 4 v) ≡ 4 = length-take-le 4 v h in
    let e : little_endian 4 (number_of v) ≡ take 4 v = rw l at (bytes-again (take 4 v) b) in
    rw e (take-append-drop 4 v)

-- What the field of a file says of it.
pub record Filed (d v : Bytes) (n : Node) : Type 0 where
  pub dir : n.0.0 ≡ d
  pub name : n.0.1 ≡ drop 4 v
  pub number : n.1 ≡ number_of v
  pub valid : valid_name (drop 4 v) ≡ true
  pub in_range : valid_number (number_of v) ≡ true
  pub long : 4 ≤ length v

filed : (d v e f : Bytes) (x : ℕ) → (e ≡ d) × (valid_name f ≡ true) × (valid_number x ≡ true) → little_endian 4 x ++ f ≡ v → Filed d v ((e, f), x)
filed d v e f x p h =
    let a : f ≡ drop 4 v = value-name x f v h in
    let b : x ≡ number_of v = value-number x f v p.2 h in
    record {
      dir = p.0;
      name = a;
      number = b;
      valid = rw a at p.1;
      in_range = rw b at p.2;
      long = omega (arith, four x, length-append (little_endian 4 x) f, ap length h);
    }

staged-filed : (v : Bytes) (n : Node) → valid_staged n ≡ true → little_endian 4 n.1 ++ n.0.1 ≡ v → Filed [] v n
staged-filed v n e h = filed [] v n.0.0 n.0.1 n.1 (staged-parts n e) h

pub tree-filed : (d v : Bytes) (n : Node) → valid_node d n ≡ true → node_field n ≡ field 0x11 v → Filed d v n
tree-filed d v n e h = go n.0.1 refl (node-parts d n e).1 h
  where
    go : (f : Name) → n.0.1 ≡ f → if_empty f (eqb n.1 0) (same_bytes n.0.0 d && valid_name f && valid_number n.1) ≡ true → if_empty f (field 0x10 n.0.0) (field 0x11 (little_endian 4 n.1 ++ n.0.1)) ≡ field 0x11 v → Filed d v n
    go [] w p q = let z : ◌≡◌ {A = ℕ} 0x10 0x11 = ap (λ (f : Field). f.tag) q in absurd (omega arith)
    go (y ∷ ys) w p q = filed d v n.0.0 n.0.1 n.1 (rw w (file-parts d n.0.0 (y ∷ ys) n.1 p)) (ap (λ (f : Field). f.value) q)

pub file-filed : (staged : Bool) (d v : Bytes) (n : Node) → InDir staged d → valid_at staged d n ≡ true → listed staged n ≡ field (file_tag staged) v → Filed d v n
file-filed true d v n i e h = rw i (staged-filed v n e (ap (λ (f : Field). f.value) h))
file-filed false d v n i e h = tree-filed d v n e h

-- What the field of a directory says of it.
pub dir-filed : (v : Bytes) (n : Node) → node_field n ≡ field 0x10 v → (n.0.0 ≡ v) × (n.0.1 ≡ [])
dir-filed v n h = go n.0.1 refl h
  where
    go : (f : Name) → n.0.1 ≡ f → if_empty f (field 0x10 n.0.0) (field 0x11 (little_endian 4 n.1 ++ n.0.1)) ≡ field 0x10 v → (n.0.0 ≡ v) × (n.0.1 ≡ [])
    go [] w q = (ap (λ (f : Field). f.value) q, w)
    go (y ∷ ys) w q = let z : ◌≡◌ {A = ℕ} 0x11 0x10 = ap (λ (f : Field). f.tag) q in absurd (omega arith)

-- Behind the same directory, two valid nodes with the same field are the same.
dir-number : (d : Name) (n : Node) → valid_node d n ≡ true → n.0.1 ≡ [] → n.1 ≡ 0
dir-number d n e w = let p : eqb n.1 0 ≡ true = rw w at (node-parts d n e).1 in eqb-eq n.1 0 p

same-filed : (d v : Bytes) (n k : Node) → Filed d v n → Filed d v k → n ≡ k
same-filed d v n k p q = λ i. (((p.dir ∙ sym q.dir) i, (p.name ∙ sym q.name) i), (p.number ∙ sym q.number) i)

pub same-node : (staged : Bool) (d : Name) (n k : Node) → valid_at staged d n ≡ true → valid_at staged d k ≡ true → listed staged n ≡ listed staged k → n ≡ k
same-node true d n k e f h = same-filed [] _ n k (staged-filed _ n e refl) (staged-filed _ k f (ap (λ (x : Field). x.value) (sym h)))
same-node false d n k e f h = go n.0.1 refl
  where
    go : (f : Name) → n.0.1 ≡ f → n ≡ k
    go [] w =
        let a : node_field n ≡ field 0x10 n.0.0 = rw w in
        let q = dir-filed n.0.0 k (sym h ∙ a) in
        λ i. ((sym q.0 i, (w ∙ sym q.1) i), (dir-number d n e w ∙ sym (dir-number d k f q.1)) i)
    go (y ∷ ys) w =
        let a : node_field n ≡ field 0x11 (little_endian 4 n.1 ++ n.0.1) = rw w in
        same-filed d _ n k (tree-filed d _ n e a) (tree-filed d _ k f (sym h ∙ a))

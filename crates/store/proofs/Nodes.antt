-- Which of a table's nodes are directories, and what is listed of them.
use mathlib.Core.Path.{◌≡◌, refl, sym}
use mathlib.Core.List.{[], ◌∷◌}
use mathlib.Core.Bool.{true, false, false≢true}
use Prim.Native.Nat.{ℕ}
use native.Mathlib.Omega.{arith}
use lib.Dec.{eqb}
use lib.ListN.{length}
use borrow.Author.Tests.{eq-eqb, ne_eqb}
use Rattle.basics.specs.Order.{Name}
use Rattle.basics.specs.Map.{Node, Map}
use Rattle.basics.specs.Base.{Bytes, if_empty}
use Rattle.model.specs.Store.{dirs}
use Rattle.spans.specs.Spans.{name_of, length_of, Sound}
use Rattle.spans.proofs.Parts.{length-name}
use Rattle.store.specs.declared.Node as code
use Rattle.store.specs.Tables.{node_of}
use Rattle.store.specs.Nodes.{is_dir}

-- A name of no byte, by its length.
pub dir-told : {src : Bytes} (x : code.Node) → Sound src x.file → eqb (length_of x.file) 0 ≡ is_dir (node_of src x)
unfolding is_dir
dir-told {src} x s = go (name_of src x.file) (length_of x.file) (sym (length-name s))
  where
    go : (f : Name) (n : ℕ) → n ≡ length f → eqb n 0 ≡ if_empty f true false
    go [] n e = eq-eqb n 0 e
    go (y ∷ ys) n e = ne_eqb n 0 (λ z. omega arith)

module _ (n : Node) (r : Map) where
  pub dir-listed : is_dir n ≡ true → dirs (n ∷ r) ≡ n.0.0 ∷ dirs r
  unfolding is_dir dirs
  dir-listed h = go n.0.1 h
    where
      go : (f : Name) → if_empty f true false ≡ true → if_empty f (n.0.0 ∷ dirs r) (dirs r) ≡ n.0.0 ∷ dirs r
      go [] h = refl
      go (y ∷ ys) h = absurd (false≢true h)

  pub no-dir-listed : is_dir n ≡ false → dirs (n ∷ r) ≡ dirs r
  unfolding is_dir dirs
  no-dir-listed h = go n.0.1 h
    where
      go : (f : Name) → if_empty f true false ≡ false → if_empty f (n.0.0 ∷ dirs r) (dirs r) ≡ dirs r
      go [] h = absurd (false≢true (sym h))
      go (y ∷ ys) h = refl

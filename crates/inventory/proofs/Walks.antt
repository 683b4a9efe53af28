-- The walk over a tree's nodes, part by part.
use mathlib.Core.Path.{◌≡◌, refl, sym, ap, subst, ◌∙◌}
use mathlib.Core.List.{[], ◌∷◌, ◌++◌}
use Prim.Native.Nat.{ℕ, ◌+◌, ◌*◌, ◌≤◌, ◌<◌}
use native.Mathlib.Omega.{arith}
use lib.Dec.{eqb}
use lib.ListN.{length, drop, get_or}
use mathlib.Core.Bool.{true, false, false≢true}
use borrow.Author.Tests.{eq-eqb, eqb-true}
use Rattle.basics.specs.Order.{Name}
use Rattle.basics.specs.Base.{Bytes, if_empty}
use Rattle.spans.specs.Spans.{name_of, length_of}
use Rattle.spans.proofs.Parts.{length-name}
use Rattle.store.specs.declared.Node.{Node}
use Rattle.store.specs.declared.Table.{Table}
use Rattle.store.specs.Tables.{node_of, live, map_of, SoundTable}
use Rattle.store.proofs.Lists.{drop-zero}
use Rattle.store.proofs.Live.{blank, finished, sound-read, rest_read}
use Rattle.inventory.specs.Putting.{Puts, furthest}
use Rattle.std.specs.Prelude.{None, Some}
use Rattle.std.specs.declared.option.Option.{Option}
use Rattle.inventory.specs.declared.Kind.{Kind}
use Rattle.inventory.specs.declared.Kind.TheVariants.{Directory, File}
use Rattle.inventory.specs.Walk.{IsKind, ending, node_text, text_from}
use Rattle.inventory.proofs.Parts.{as_text, joined, Left, all_left, part-put, last-put}

-- A directory has no file name, and a file has one.
module _ {x : Node} where
  pub dir-kind : eqb (length_of x.file) 0 ≡ true → IsKind x Directory
  dir-kind e = record { same = λ src s. go (name_of src x.file) (length-name s.file) }
    where
      go : (f : Name) → length f ≡ length_of x.file → Directory ≡ if_empty f Directory File
      go [] h = refl
      go (y ∷ ys) h = absurd (omega (arith, eqb-true (length_of x.file) 0 e))

  pub file-kind : eqb (length_of x.file) 0 ≡ false → IsKind x File
  file-kind e = record { same = λ src s. go (name_of src x.file) (length-name s.file) }
    where
      go : (f : Name) → length f ≡ length_of x.file → File ≡ if_empty f Directory File
      go [] h = absurd (false≢true (sym e ∙ eq-eqb (length_of x.file) 0 (sym h)))
      go (y ∷ ys) h = refl

-- The loop over the nodes: those from i on, and the braces, are left.
pub record Walking (src : Bytes) (t : Table) (out : Bytes) (i : ℕ) (before : Option Kind) (p : ℕ) (now : Bytes) : Type 0 where
  pub within : i ≤ length (live t)
  pub bound : p ≤ 1 + 150 * i
  pub left : Left (text_from None (map_of src t)) 1 out (text_from before (drop i (map_of src t))) p now

pub walking : {src : Bytes} {t : Table} {out : Bytes} → Walking src t out 0 None 1 out
walking {src} {t} {out} = record {
  within = omega arith;
  bound = omega arith;
  left = subst (λ m. Left (text_from None (map_of src t)) 1 out (text_from None m) 1 out) (sym (drop-zero (map_of src t))) all_left;
}

module _ {src : Bytes} {t : Table} (s : SoundTable src t) {out now : Bytes} {i p : ℕ} {before : Option Kind} (w : Walking src t out i before p now) where
  pub far : p + 200 ≤ furthest
  far = omega (arith, w.bound, w.within, s.room)

  pub walked : {x : Node} {q : ℕ} {k : Kind} {mid : Bytes} → i < length (live t) → x ≡ get_or (live t) i blank → Puts (node_text before (node_of src x)) p now mid q × (q ≤ p + 150) → IsKind x k → Walking src t out (i + 1) (Some k) q mid
  unfolding text_from
  walked {x} {q} {k} {mid} h e y z =
      let shape : text_from before (drop i (map_of src t)) ≡ node_text before (node_of src x) ++ text_from (Some k) (drop (i + 1) (map_of src t))
      = ap (text_from before) (rest_read s h e) ∙ ap (λ (j : Kind). node_text before (node_of src x) ++ text_from (Some j) (drop (i + 1) (map_of src t))) (sym (z.same src (sound-read s h e))) in
      record {
        within = omega arith;
        bound = omega (arith, w.bound, y.1);
        left = part-put {a = node_text before (node_of src x)} (subst (λ (r : Bytes). Left (text_from None (map_of src t)) 1 out r p now) shape w.left) y.0;
      }

  pub all-walked : {end : ℕ} {lent after braces : Bytes} → i ≡ length (live t) → Puts (0x7B ∷ []) 0 lent out 1 → braces ≡ ending before → Puts braces p now after end →
      Puts (0x7B ∷ text_from None (map_of src t)) 0 lent after end
  unfolding text_from
  all-walked h o e y =
      let shape : text_from before (drop i (map_of src t)) ≡ ending before = ap (text_from before) (finished src t i (omega arith)) in
      joined {a = 0x7B ∷ []} o (last-put (subst (λ (r : Bytes). Left (text_from None (map_of src t)) 1 out r p now) shape w.left) (as_text e y))

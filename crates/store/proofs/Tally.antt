-- `count`: a node with the empty file name is a directory, any other a file.
use mathlib.Core.Path.{◌≡◌, refl, sym, ◌∙◌}
use mathlib.Core.List.{List, [], ◌∷◌, map}
use mathlib.Core.Bool.{Bool, cond}
use Rattle.std.specs.Prelude.{count_by, nat_eq}
use borrow.Author.Tests.{ne_eqb}
use Rattle.std.proofs.lemmas.List.Sums.{sum_by-cons}
use Rattle.basic_laws.specs.Tests.{All}
use Prim.Native.Nat.{suc, ◌+◌, ◌-◌}
use native.Mathlib.Omega.{arith}
use lib.ListN.{length}
use Rattle.basics.specs.Order.{Name}
use Rattle.basics.specs.Map as model
use Rattle.basics.specs.Base.{Bytes, if_empty}
use Rattle.model.specs.Store.{dirs, file_count}
use Rattle.spans.specs.Spans.{name_of, length_of}
use Rattle.spans.proofs.Parts.{length-name}
use Rattle.store.specs.declared.Node.{Node}
use Rattle.store.specs.declared.Table.{Table}
use Rattle.store.specs.declared.Counts.{Counts}
use Rattle.store.specs.Tables.{node_of, live, map_of, SoundNode, SoundTable, Counted}
use Rattle.store.proofs.Live.{length-table}

pub dirs-files : (m : model.Map) → length (dirs m) + file_count m ≡ length m
unfolding dirs
dirs-files [] = refl
dirs-files (n ∷ r) = go n.0.1 (dirs-files r)
  where
    go : (f : Name) → length (dirs r) + file_count r ≡ length r → length (if_empty f (n.0.0 ∷ dirs r) (dirs r)) + if_empty f (file_count r) (suc (file_count r)) ≡ suc (length r)
    go [] ih = omega arith
    go (y ∷ ys) ih = omega arith

-- How many nodes are a directory's own.
abbrev pub own : Node → Bool
own x = nat_eq (length_of x.file) 0

pub counted : (src : Bytes) (l : List Node) → All (SoundNode src) l → length (dirs (map (node_of src) l)) ≡ count_by own l
unfolding dirs
counted src [] h = refl
counted src (x ∷ l) h = go (name_of src x.file) (length-name h.0.file) (counted src l h.1) ∙ sym (sum_by-cons (λ x. cond (own x) 1 0) x l)
  where
    go : (f : Name) → length f ≡ length_of x.file → length (dirs (map (node_of src) l)) ≡ count_by own l
        → length (if_empty f (name_of src x.dir ∷ dirs (map (node_of src) l)) (dirs (map (node_of src) l))) ≡ cond (own x) 1 0 + count_by own l
    go [] e ih = rw (← e) (omega (arith, ih))
    go (y ∷ ys) e ih = rw (← e, ne_eqb (length (y ∷ ys)) 0 (λ z. omega arith)) (omega (arith, ih))

pub told : {src : Bytes} {t : Table} {c : Counts} → SoundTable src t → c.dirs ≡ count_by own (live t) → c.files ≡ length (live t) - c.dirs → Counted (map_of src t) c
unfolding map_of
told {src} {t} {c} s d f =
    let p = counted src (live t) s.each in
    record { dirs = d ∙ sym p; files = omega (arith, dirs-files (map_of src t), length-table src t, d, p, f) }

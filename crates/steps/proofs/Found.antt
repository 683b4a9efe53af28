-- What a look found decides what becomes of a table, and whether a step fails.
use mathlib.Core.Path.{◌≡◌, refl, sym, ap, ◌∙◌}
use Rattle.std.proofs.Math.Option as maths
use Rattle.std.proofs.Math.Option.{none, some}
use Rattle.std.specs.Prelude.{Option, None, Some}
use mathlib.Core.Bool.{true, false, false≢true}
use Prim.Native.Nat.{ℕ, ◌≤◌, ◌<◌}
use native.Mathlib.Omega.{arith}
use lib.ListN.{length}
use borrow.Author.Tests.{lt-ltb, le-ltb}
use Rattle.basics.specs.Limits.{file_limit}
use Rattle.basics.specs.Order.{Key}
use Rattle.basics.specs.Map.{Map, look, put, del}
use Rattle.basics.specs.Base.{Bytes, is_some, case_option}
use Rattle.model.specs.Store.{file_count}
use Rattle.model.specs.Step.{new_file, Fault, commit_number}
use Rattle.basic_laws.specs.MapLaws.{Sorted, del-absent}
use Rattle.laws.specs.TreeLaws.{one, length-size, size-del_le}
use Rattle.store.specs.Places.{table_room, put_in}
use Rattle.store.specs.declared.Table.{Table}
use Rattle.store.specs.Tables.{map_of, SoundTable, Holds, held_of, Counted}
use Rattle.store.specs.declared.Counts.{Counts}
use Rattle.store.proofs.Room.{room-put}

-- A table that holds a map holds an equal one.
pub holds_as : {src : Bytes} {t : Table} {m n : Map} → Holds src t m → m ≡ n → Holds src t n
holds_as h e = record { sound = h.sound; same = h.same ∙ e }

pub put_as : {src : Bytes} {r : Table} (k : Key) (v : ℕ) (m : Map) → length m < table_room → Holds src r (put_in k v m) → Holds src r (put k v m)
put_as k v m l h = holds_as h (room-put k v m l)

-- The table stays as it is, or becomes what the number that was found makes of it.
module _ {h : Option ℕ} where
  pub unchanged : {src : Bytes} {t : Table} (f : ℕ → Map) → SoundTable src t → h ≡ None → Holds src t (case_option (held_of h) (map_of src t) f)
  unchanged f s p = rw p record { sound = s; same = refl }

  pub changed : {src : Bytes} {r : Table} {n : ℕ} (m : Map) (f : ℕ → Map) → h ≡ Some n → Holds src r (f n) → Holds src r (case_option (held_of h) m f)
  changed m f p q = rw p q

  -- The fault is the one for nothing, or the one that follows.
  pub no_source : (f g : maths.Option Fault) → h ≡ None → commit_number f ≡ commit_number (case_option (held_of h) f (λ x. g))
  no_source f g p = rw p

  pub source : {n r : ℕ} (f g : maths.Option Fault) → h ≡ Some n → r ≡ commit_number g → r ≡ commit_number (case_option (held_of h) f (λ x. g))
  source f g p q = rw p q

-- A file renamed: it is taken out, then what was found is put at the other place.
module _ {src : Bytes} {u : Table} (k : Key) (m : Map) (d : Holds src u (del k m)) where
  pub after-del : length m < table_room → length (map_of src u) < table_room
  after-del l =
      let z = ap length d.same in
      let a = length-size m in
      let b = length-size (del k m) in
      let c = size-del_le one k m in
      omega arith

  pub put_back : {r : Table} {o : maths.Option ℕ} (j : Key) → Sorted m → o ≡ look k m → Holds src r (case_option o (map_of src u) (λ x. put j x (map_of src u)))
      → Holds src r (case_option (look k m) m (λ x. put j x (del k m)))
  put_back j s e q = holds_as (rw (e, d.same) at q) (go (look k m) refl)
    where
      go : (o : maths.Option ℕ) → look k m ≡ o → case_option o (del k m) (λ x. put j x (del k m)) ≡ case_option o m (λ x. put j x (del k m))
      go none n = del-absent k m s n
      go (some x) n = refl

-- Whether there is room for a file more.
pub no-new-file : (k : Key) (m : Map) → is_some (look k m) ≡ true → 0 ≡ commit_number (new_file k m)
no-new-file k m e = go (look k m) refl e
  where
    go : (o : maths.Option ℕ) → look k m ≡ o → is_some o ≡ true → 0 ≡ commit_number (new_file k m)
    go none p q = absurd (false≢true q)
    go (some n) p q = rw p

module _ {m : Map} {c : Counts} (k : Key) (d : Counted m c) where
  none_found : is_some (look k m) ≡ false → look k m ≡ none
  none_found e = go (look k m) e
    where
      go : (o : maths.Option ℕ) → is_some o ≡ false → o ≡ none
      go none q = refl
      go (some n) q = absurd (false≢true (sym q))

  pub few-files : is_some (look k m) ≡ false → c.files < file_limit → 0 ≡ commit_number (new_file k m)
  few-files e l = let f = d.files in rw (none_found e, lt-ltb (file_count m) file_limit (omega arith))

  pub many-files : is_some (look k m) ≡ false → file_limit ≤ c.files → 15 ≡ commit_number (new_file k m)
  many-files e l = let f = d.files in rw (none_found e, le-ltb (file_count m) file_limit (omega arith))

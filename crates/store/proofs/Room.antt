-- A put has room in a table that is not full.
use mathlib.Core.Path.{◌≡◌}
use Prim.Native.Nat.{ℕ, ◌≤◌, ◌<◌}
use lib.ListN.{length}
use borrow.Author.Tests.{lt-ltb, le-ltb}
use Rattle.basics.specs.Order.{Key}
use Rattle.basics.specs.Map.{Map, put}
use Rattle.store.specs.Places.{table_room, put_in}

module _ (k : Key) (v : ℕ) (m : Map) where
  pub room-put : length m < table_room → put_in k v m ≡ put k v m
  unfolding put_in
  room-put h = rw (lt-ltb (length m) table_room h)

  pub full_put : table_room ≤ length m → put_in k v m ≡ m
  unfolding put_in
  full_put h = rw (le-ltb (length m) table_room h)

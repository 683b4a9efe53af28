-- `has_pending_work`: a log, a backup, or a staging file.
use mathlib.Core.Path.{◌≡◌, refl}
use mathlib.Core.List.{List, [], ◌∷◌, map}
use mathlib.Core.Bool.{true, false, not}
use Rattle.std.specs.Prelude.{is_some, ◌==◌}
use native.Mathlib.Omega.{arith}
use borrow.Author.Tests.{ne_eqb}
use lib.ListN.{length}
use Rattle.basics.specs.Base.{Bytes, if_empty}
use Rattle.model.specs.Store.{has_backup_files, has_pending_work}
use Rattle.store.specs.declared.Node.{Node}
use Rattle.store.specs.declared.Store.{Store}
use Rattle.store.specs.Tables.{node_of, live, map_of}
use Rattle.store.specs.Stores.{store_of}
use Rattle.recovery.proofs.Picks.{log-told}

module _ (src : Bytes) (s : Store) where
  pub by-log : is_some s.log ≡ true → true ≡ has_pending_work (store_of src s)
  unfolding has_pending_work
  by-log h = rw (log-told src s.log, h)

  module _ (l : is_some s.log ≡ false) where
    pub by-backup : has_backup_files (map_of src s.tree) ≡ true → true ≡ has_pending_work (store_of src s)
    unfolding has_pending_work
    by-backup h = rw (log-told src s.log, l, h)

    pub by-staging : has_backup_files (map_of src s.tree) ≡ false → not (length (live s.staging) == 0) ≡ has_pending_work (store_of src s)
    unfolding has_pending_work map_of
    by-staging h = rw (log-told src s.log, l, h) (go (live s.staging))
      where
        go : (n : List Node) → not (length n == 0) ≡ if_empty (map (node_of src) n) false true
        go [] = refl
        go (x ∷ n) = rw (ne_eqb (length (x ∷ n)) 0 (λ z. omega arith)) refl

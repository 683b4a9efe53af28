-- Bytes that go on behind keep every table, and the store.
use mathlib.Core.Path.{◌≡◌, refl, sym, subst}
use mathlib.Core.List.{◌++◌}
use Rattle.std.specs.Prelude.{Option, None, Some}
use native.Mathlib.Omega.{arith}
use lib.ListN.{length-append}
use Rattle.basics.specs.Base.{Bytes}
use Rattle.basic_laws.specs.MapLaws.{Sorted}
use Rattle.basic_laws.specs.Tests.{all_imp}
use Rattle.spans.proofs.Prefix.{prefix_part, prefix_sound, prefix_name, map_same}
use Rattle.store.specs.declared.Node.{Node}
use Rattle.store.specs.declared.LogRef.{LogRef}
use Rattle.store.specs.declared.Store.{Store}
use Rattle.store.specs.declared.Table.{Table}
use Rattle.store.specs.Tables.{node_of, live, map_of, SoundNode, SoundTable}
use Rattle.store.specs.Stores.{log_bytes, store_of, SoundLog, SoundStore}

module _ (rest : Bytes) {src : Bytes} where
  pub prefix_node : (x : Node) → SoundNode src x → SoundNode (src ++ rest) x
  prefix_node x s = record { dir = prefix_sound rest s.dir; file = prefix_sound rest s.file }

  same-node : (x : Node) → SoundNode src x → node_of (src ++ rest) x ≡ node_of src x
  same-node x s = λ i. ((prefix_name rest s.dir i, prefix_name rest s.file i), x.number)

  pub same_map : {t : Table} → SoundTable src t → map_of (src ++ rest) t ≡ map_of src t
  unfolding map_of
  same_map {t} s = map_same (node_of (src ++ rest)) (node_of src) same-node (live t) s.each

  pub prefix_table : {t : Table} → SoundTable src t → SoundTable (src ++ rest) t
  prefix_table {t} s = record { room = s.room; each = all_imp prefix_node (live t) s.each; sorted = subst Sorted (sym (same_map s)) s.sorted }

  pub same_log : (l : Option LogRef) → SoundLog src l → log_bytes (src ++ rest) l ≡ log_bytes src l
  unfolding log_bytes
  same_log None s = refl
  same_log (Some l) s = rw (prefix_part src rest l.start l.len s.inside)

  pub prefix_log : (l : Option LogRef) → SoundLog src l → SoundLog (src ++ rest) l
  prefix_log None s = record { inside = tt }
  prefix_log (Some l) s = record { inside = omega (arith, s.inside, length-append src rest) }

  pub same_store : {s : Store} → SoundStore src s → store_of (src ++ rest) s ≡ store_of src s
  same_store {s} h = λ i. record { tree = same_map h.tree i; staging = same_map h.staging i; log = same_log s.log h.log i; open_mark = s.open_mark }

  pub prefix_store : {s : Store} → SoundStore src s → SoundStore (src ++ rest) s
  prefix_store {s} h = record { tree = prefix_table h.tree; staging = prefix_table h.staging; log = prefix_log s.log h.log }

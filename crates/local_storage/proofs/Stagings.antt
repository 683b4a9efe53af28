-- The staging file of a Write: whether it is refused with 10, and what it adds.
use mathlib.Core.Path.{◌≡◌, refl, sym, ap, ◌∙◌}
use mathlib.Core.List.{[]}
use mathlib.Core.Option.{some}
use mathlib.Core.Bool.{Bool, true, false, not, ◌&&◌}
use Prim.Native.Nat.{ℕ, zero, suc, ◌≤◌, ◌<◌}
use Rattle.std.specs.Prelude.{nat_eq}
use native.Mathlib.Omega.{arith}
use lib.ListN.{length}
use lib.Dec.{leb}
use borrow.Author.Tests.{le-leb, lt-leb, leb-false, not-true}
use Rattle.basics.specs.Limits.{staging_limit, number_limit}
use Rattle.basics.specs.Order.{Name}
use Rattle.basics.specs.Map.{Map, look, put}
use Rattle.basics.specs.Base.{Bytes, is_some}
use Rattle.model.specs.Operation.{write}
use Rattle.model.specs.Record.{give, appended}
use Rattle.model.specs.Store as model
use Rattle.model.specs.Store.{staging_key, valid_number}
use Rattle.basic_laws.specs.Tests.{and_both}
use Rattle.spans.specs.Spans.{name_of, Names}
use Rattle.spans.specs.declared.NameRef.{NameRef}
use Rattle.spans.proofs.Parts.{empty-name}
use Rattle.store.specs.Places.{table_room, put_in}
use Rattle.store.specs.Tables.{key_of, map_of, Holds}
use Rattle.store.specs.Stores.{store_of, log_bytes, SoundStore}
use Rattle.store.specs.declared.Store.{Store}
use Rattle.store.specs.declared.Table.{Table}
use Rattle.store.proofs.Room.{room-put}
use Rattle.transaction.specs.Operations.{op_of}
use Rattle.transaction.specs.declared.Operation.TheVariants.{MarkedWrite}
use Rattle.local_storage.specs.Recording.{can_stage, Staged}

numbered : (x : ℕ) → x ≤ number_limit → not (nat_eq x 0) ≡ valid_number x
numbered zero l = refl
numbered (suc x) l = rw (le-leb 1 (suc x) (omega arith), le-leb (suc x) number_limit l) (grind arith)

module _ (f : Name) (x : ℕ) (m : Map) where
  pub stands_already : is_some (look ([], f) m) ≡ true → false ≡ can_stage f x m
  unfolding can_stage
  stands_already e = rw e

  module _ (e : is_some (look ([], f) m) ≡ false) where
    pub too_many : staging_limit ≤ length m → false ≡ can_stage f x m
    unfolding can_stage
    too_many h = rw (e, le-leb staging_limit (length m) h)

    pub by-number : length m < staging_limit → x ≤ number_limit → not (nat_eq x 0) ≡ can_stage f x m
    unfolding can_stage
    by-number h l = rw (e, lt-leb staging_limit (length m) h) (numbered x l)

-- At the empty directory name stand the staging files.
pub bare-place : (src : Bytes) (n : Name) (m : Map) {b : Bool} → b ≡ is_some (look (name_of src (record { start = 0; len = 0; baks = 0 }), n) m) → b ≡ is_some (look ([], n) m)
bare-place src n m e = e ∙ ap (λ (d : Name). is_some (look (d, n) m)) (empty-name src).same

-- The node that is put among them, and the store with it.
module _ {src : Bytes} {e f : NameRef} (w : Names src e []) where
  pub added : {s : Store} {t : Table} {x : ℕ} → SoundStore src s → length (map_of src s.staging) < table_room → Holds src t (put_in (key_of src e f) x (map_of src s.staging)) →
      Staged src f x s (record { tree = s.tree; staging = t; log = s.log; open_mark = s.open_mark })
  added {s} {t} {x} g h p = record {
    sound = record { tree = g.tree; staging = p.sound; log = g.log };
    same = rw (p.same, room-put (key_of src e f) x (map_of src s.staging) h, w.same);
  }

-- A Write that is not refused has room.
pub few-staged : (f : Name) (x : ℕ) (m : Map) → can_stage f x m ≡ true → length m < table_room
unfolding can_stage
few-staged f x m e =
    let a = and_both (not (is_some (look (staging_key f) m)) && not (leb staging_limit (length m))) (valid_number x) e in
    let b = and_both (not (is_some (look (staging_key f) m))) (not (leb staging_limit (length m))) a.0 in
    let c = leb-false staging_limit (length m) (not-true (leb staging_limit (length m)) b.1) in
    omega arith

-- A Write with its mark, in the store that has its staging file.
pub marked_write : {src : Bytes} (c k f : NameRef) {x : ℕ} {s r : Store} {b : Bool} → Staged src f x s r → b ≡ is_some (look (name_of src c, name_of src k) (map_of src s.tree)) →
    give (appended (write (record { collection = name_of src c; key = name_of src k; staged = name_of src f; mark = some (is_some (look (name_of src c, name_of src k) (map_of src s.tree))) }))
    (record { tree = map_of src s.tree; staging = put (staging_key (name_of src f)) x (map_of src s.staging); log = log_bytes src s.log; open_mark = s.open_mark }))
    ≡ give (appended (op_of src (MarkedWrite c k f b)) (store_of src r))
marked_write {src} c k f {b = b} d e = rw (← e) (ap (λ (j : model.Store). give (appended (op_of src (MarkedWrite c k f b)) j)) (sym d.same))

-- `begin_transaction` and `rollback` as answers.
use mathlib.Core.Path.{◌≡◌, sym, ◌∙◌}
use mathlib.Core.List.{[]}
use mathlib.Core.Bool.{Bool, true, false, false≢true}
use mathlib.Core.Option.{none}
use native.Mathlib.Omega.{arith}
use Rattle.std.specs.Prelude.{Option, None, Some, is_some, Ok}
use Rattle.basics.specs.Base.{Bytes}
use Rattle.model.specs.Log.{is_held, journal}
use Rattle.model.specs.Record.{give, transaction, begin_transaction, discard}
use Rattle.refusals.specs.declared.Refusal.TheVariants.{NoTransaction, TransactionBusy, HeldUpdate}
use Rattle.store.specs.Tables.{map_of, SoundTable}
use Rattle.store.specs.Stores.{store_of, log_bytes, SoundStore}
use Rattle.store.specs.declared.Store.{Store}
use Rattle.store.specs.declared.Table.{Table}
use Rattle.wal.specs.declared.Tail.TheVariants.{Nothing, Header}
use Rattle.wal.specs.declared.WalRead.{WalRead}
use Rattle.local_storage.specs.declared.LocalStorage.{LocalStorage}
use Rattle.local_storage.specs.declared.Recorded.{Recorded}
use Rattle.local_storage.specs.Recording.{storage_of, Answers, Opens, Discarded}
use Rattle.local_storage.proofs.Outcomes.{refused_with, refused}

-- A table without nodes.
pub empty-map : (src : Bytes) (t : Table) → t.nodes.items ≡ [] → map_of src t ≡ []
unfolding map_of
empty-map src t e = rw e

pub empty-sound : (src : Bytes) (t : Table) → t.nodes.items ≡ [] → SoundTable src t
unfolding map_of
empty-sound src t e = record { room = rw e (omega arith); each = rw e tt; sorted = rw e tt }

pub all-gone : (src : Bytes) {s : Store} {t : Table} → t.nodes.items ≡ [] → Discarded src s (record { tree = s.tree; staging = t; log = None; open_mark = false })
unfolding log_bytes
all-gone src {t = t} e = record {
  sound = λ g. record { tree = g.tree; staging = empty-sound src t e; log = record { inside = tt } };
  same = rw (empty-map src t e);
}

module _ {src : Bytes} {self : LocalStorage} (g : SoundStore src self.store) where
  pub busy : {r : Recorded} → self.store.open_mark ≡ true → r ≡ refused_with self TransactionBusy → Answers src (begin_transaction (storage_of src self)) self r
  unfolding begin_transaction
  busy h e = refused g e (rw h)

  module _ {b : Bool} (h : self.store.open_mark ≡ false) (i : b ≡ is_held (journal (log_bytes src self.store.log))) where
    pub still-held : {r : Recorded} → b ≡ true → r ≡ refused_with self HeldUpdate → Answers src (begin_transaction (storage_of src self)) self r
    unfolding begin_transaction
    still-held f e = refused g e (rw (h, sym i ∙ f))

    pub begun : b ≡ false → Answers src (begin_transaction (storage_of src self)) self
        (record { storage = record { store = record { tree = self.store.tree; staging = self.store.staging; log = self.store.log; open_mark = true } }; done = Ok Header })
    unfolding begin_transaction
    begun f = record { same = rw (h, sym i ∙ f); sound = record { tree = g.tree; staging = g.staging; log = g.log }; stands = tt }

  not_found : (o : Option WalRead) → Opens src (storage_of src self) o → is_some o ≡ false → transaction (storage_of src self) ≡ none
  not_found None w h = sym w.same
  not_found (Some t) w h = absurd (false≢true (sym h))

  module _ {o : Option WalRead} (w : Opens src (storage_of src self) o) where
    pub not_open : {r : Recorded} → is_some o ≡ false → r ≡ refused_with self NoTransaction → Answers src (discard (storage_of src self)) self r
    unfolding discard
    not_open h e = refused g e (rw (not_found o w h))

    pub rolled_back : {s : Store} → is_some o ≡ true → Discarded src self.store s → Answers src (discard (storage_of src self)) self (record { storage = record { store = s }; done = Ok Nothing })
    unfolding discard
    rolled_back {s} h d = record { same = go o w h; sound = d.sound g; stands = tt }
      where
        go : (o : Option WalRead) → Opens src (storage_of src self) o → is_some o ≡ true → give (store_of src s) ≡ discard (storage_of src self)
        go None w h = absurd (false≢true h)
        go (Some t) w h = rw (← w.same, d.same)

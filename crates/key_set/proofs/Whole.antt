-- `delete_in` and `delete_keys`: the set's outcome, test by test.
use Rattle.std.specs.Prelude.{if◌then◌else◌, None, Some, IfSome}
use Rattle.std.specs.Prelude as std
use Rattle.std.proofs.lemmas.Option.{none-some}
use Rattle.std.proofs.lemmas.List.{take_rest, drop-map}
use mathlib.Core.Path.{◌≡◌, refl, sym, ap, subst, ◌∙◌}
use mathlib.Core.List.{List, ◌++◌, map}
use mathlib.Core.Option.{Option, none, some}
use mathlib.Core.Bool.{Bool, true, false, ◌&&◌}
use Prim.Native.Nat.{ℕ, ◌+◌, ◌-◌, ◌≤◌, ◌<◌}
use native.Mathlib.Omega.{arith}
use lib.ListN.{length, take, drop, length-map, length-append}
use lib.Seq.{drop_at}
use lib.Dec.{leb}
use Rattle.basics.specs.Limits.{image_room}
use Rattle.basics.specs.Order.{Name}
use Rattle.basics.specs.Base.{Bytes, case_option, all_of}
use Rattle.basics.specs.Name.{valid_name}
use Rattle.model.specs.Operation.{Op}
use Rattle.model.specs.Log.{Entries, entries, Journal, absent, journal, read_journal, recording, whole, ops_of}
use Rattle.model.specs.Store as model
use Rattle.model.specs.Record.{refuse, give, transaction, recorded_ops, require}
use Rattle.basic_laws.specs.Tests.{All, all-of, all_drop, and_both, le-leb, leb_le}
use Rattle.basic_laws.specs.ValidNames.{valid_naming}
use Rattle.laws.specs.StoreLaws.{LogFits}
use Rattle.laws.specs.OperationLaws.{ValidOp, journal-valid}
use Rattle.laws.specs.LogLaws.{found-whole}
use Rattle.laws.specs.LengthLaws.{encode-length}
use Rattle.laws.specs.AppendLaws.{journal-parts}
use Rattle.laws.specs.RecordLaws.{Gives}
use Rattle.store.specs.Kept.{none_kept}
use Rattle.store.specs.Stores.{AsRead, store_of, log_bytes, SoundLog}
use Rattle.store.specs.declared.LogRef.{LogRef}
use Rattle.store.specs.declared.Store.{Store}
use Rattle.refusals.specs.Numbers.{number_of}
use Rattle.refusals.specs.declared.Refusal.{Refusal}
use Rattle.decode.specs.declared.Decoded.{Decoded}
use Rattle.steps.specs.Steps.{Fits}
use Rattle.transaction.specs.Operations.{SoundOp, in_bounds, op_of}
use Rattle.transaction.specs.declared.Operation.{Operation}
use Rattle.wal.specs.Logs.{ops_read, entries_at, ReadsLog}
use Rattle.wal.specs.declared.WalRead.{WalRead}
use Rattle.wal.specs.declared.Tail.TheVariants.{Nothing}
use Rattle.local_storage.specs.Recording.{Opens, Readable}
use Rattle.handover.specs.Contract as contract
use Rattle.handover.specs.Opening.{Held, Opened, Shut, ImageStands}
use Rattle.answers.specs.Answers.{Answer, refusal, outcome}
use Rattle.recording.proofs.Lent.{Begins, lent-sound, lent_same, lent-within}
use Rattle.model.specs.Record.{key_fields, key_set, record_deletes, record_delete_keys}
use Rattle.answers.specs.Answers.{delete_keys}
use Rattle.laws.specs.KeySetLaws.{delete_entries, deletable, deletes, logged, with_entries, Fit, set-records, set-lowered, deletes_record, deletable-logged, journal-deletes, delete-keys-keeps}
use Rattle.key_set.specs.Gathering.{key_count, set_in, Few}
use Rattle.key_set.specs.Deleting.{Deletes, log_part, FilledTo, Filled, Fills, Ready}
use Rattle.key_set.specs.declared.Gathered.{Gathered}
use Rattle.key_set.proofs.Filled.{long, set-few}

above : (m n : ℕ) → n < m → leb m n ≡ false
above m n h = go (leb m n) refl
  where
    go : (t : Bool) → leb m n ≡ t → t ≡ false
    go false e = refl
    go true e = let l = leb_le m n e in absurd (omega arith)

-- The log of a store that an image holds.
module _ {image : Bytes} {s : Store} (h : Held image s) {l : LogRef} (e : s.log ≡ Some l) where
  pub log_is : log_bytes image s.log ≡ some (log_part image l)
  unfolding log_bytes
  log_is = let p : l.rewritten ≡ None = subst AsRead e h.plain in rw (e, p)

  pub sound-log : SoundLog image (Some l)
  sound-log = subst (SoundLog image) e h.sound.log

  pub log-short : l.len ≤ 6952
  log-short =
      let f : length (log_part image l) ≤ 6952 = subst LogFits log_is h.well.log in
      omega (arith, f, long sound-log)

module _ {image keys : Bytes} {s : Store} {l : LogRef} {n : ℕ} {before : Bytes} {out : ℕ} (r : Ready image keys s l n before out) where
  abbrev S : model.Store
  S = store_of image s

  -- What `fill` asks.
  pub may_fill : (Few keys × SoundLog image (Some l)) × ((length image + l.len + 4672 ≤ length before) × (length before ≤ 0xFFFF))
  may_fill = ((r.few, sound-log r.held r.log), (omega (arith, r.held.short, log-short r.held r.log, r.room), r.short))

  set_is : set_in keys ≡ key_set r.few.names
  set_is = rw r.few.reads

  module _ {c : Name} {src : Bytes} {g : Gathered} (f : Fills image l c keys before src g) where
    abbrev set : List Name
    set = key_set r.few.names

    count-is : n + g.count ≡ length r.ops + length set
    count-is = omega (arith, f.count, ap length set_is, r.count)

    pub countable : n + g.count ≤ 64
    countable = omega (arith, r.most, f.count, set-few r.few)

    pub over : 32 < n + g.count → record_delete_keys c keys S ≡ refuse 5
    unfolding record_delete_keys
    over h = rw (r.found, r.few.reads, le-leb 1 (length r.few.names) r.some-keys, le-leb (length r.few.names) 32 r.few.few, above (length r.ops + length set) 32 (omega (arith, count-is)))

    module _ (h : n + g.count ≤ 32) where
      pub not_valid : g.end ≡ None → record_delete_keys c keys S ≡ refuse 6
      unfolding record_delete_keys
      not_valid e =
          let v : (valid_name c && all_of valid_name (set_in keys)) ≡ false = subst (Filled image l c keys src) e f.filled in
          rw (r.found, r.few.reads, le-leb 1 (length r.few.names) r.some-keys, le-leb (length r.few.names) 32 r.few.few, le-leb (length r.ops + length set) 32 (omega (arith, count-is)), ap (λ (l : List Name). valid_name c && all_of valid_name l) (sym set_is) ∙ v)

      module _ {end : ℕ} (e : g.end ≡ Some end) where
        to : FilledTo image l c keys src end
        to = subst (Filled image l c keys src) e f.filled

        fit : Fit c set S
        fit =
            let w = and_both (valid_name c) (all_of valid_name set) (ap (λ (l : List Name). valid_name c && all_of valid_name l) (sym set_is) ∙ to.valid) in
            record { ops = r.ops; found = r.found; room = omega (arith, count-is); collection = w.0; keys = all-of valid_name set w.1 }

        begins : Begins image src
        begins = record { front = to.front; short = omega (arith, f.size, r.short) }

        abbrev new : Bytes
        new = log_part image l ++ delete_entries c set

        new_is : take (end - length image) (drop (length image) src) ≡ new
        new_is = to.log ∙ ap (λ (k : List Name). log_part image l ++ delete_entries c k) set_is

        reads-new : read_journal new ≡ recording (r.ops ++ deletes c set) whole
        unfolding fit
        reads-new =
            journal-deletes c set (log_part image l) r.ops
            (ap journal (sym (log_is r.held r.log)) ∙ found-whole S r.ops r.found) fit.room fit.collection fit.keys

        -- What `with_log` gives.
        abbrev pub relogged : Store
        relogged = record { tree = s.tree; staging = s.staging; log = Some (record { start = length image; len = end - length image; rewritten = None }); open_mark = s.open_mark }

        store_is : store_of src relogged ≡ logged (some new) S
        unfolding log_bytes
        store_is = ap (λ (m : model.Store). logged (some (take (end - length image) (drop (length image) src))) m) (lent_same begins r.held) ∙ ap (λ (k : Bytes). logged (some k) S) new_is

        fits : Fits src relogged
        fits =
            let w = lent-sound begins r.held in
            record { sound = record { tree = w.tree; staging = w.staging; log = record { inside = omega (arith, to.starts, to.ends) } }; within = lent-within begins r.held }

        module _ {w : WalRead} (q : ReadsLog src (length image) end w) where
          ops-read : ops_read src w ≡ r.ops ++ deletes c set
          unfolding entries_at in_bounds
          ops-read =
              ap (λ (e : Entries). e.ops) q.same
              ∙ rw (le-leb (length image) end to.starts, le-leb end (length src) to.ends, le-leb (length src) 0xFFFF begins.short) (ap (λ (b : Bytes). (entries b).ops) new_is)
              ∙ (journal-parts new (r.ops ++ deletes c set) reads-new).2

          module _ {xs : List Operation} (x : xs ≡ w.ops.items) where
            abbrev pub rest : List Operation
            rest = take (length xs - n) (drop n xs)

            pub within-read : n ≤ length xs
            within-read = omega (arith, ap length x, length-map w.ops.items (op_of src), ap length ops-read, length-append r.ops (deletes c set), r.count)

            rest-is : map (op_of src) rest ≡ deletes c set
            rest-is =
                ap (map (op_of src)) (take_rest xs n)
                ∙ sym (drop-map (op_of src) n xs)
                ∙ ap (drop n) (ap (map (op_of src)) x ∙ ops-read)
                ∙ drop_at r.ops (deletes c set) n r.count

            valid-rest : All ValidOp (map (op_of src) rest)
            valid-rest =
                let v : All ValidOp (ops_read src w) = subst (All ValidOp) (sym ops-read) (subst (λ (j : Journal). All ValidOp (ops_of j)) reads-new (journal-valid (some new))) in
                subst (All ValidOp) (ap (drop n) (sym (ap (map (op_of src)) x)) ∙ drop-map (op_of src) n xs ∙ sym (ap (map (op_of src)) (take_rest xs n))) (all_drop ValidOp n (ops_read src w) v)

            -- What `delete_each` asks.
            pub may_delete : {y : Store} → y ≡ relogged → Fits src y × (All (SoundOp src) rest × All ValidOp (map (op_of src) rest))
            may_delete p = (
              subst (Fits src) (sym p) fits,
              (subst (All (SoundOp src)) (sym (take_rest xs n)) (all_drop (SoundOp src) n xs (subst (All (SoundOp src)) (sym x) q.held.sound)), valid-rest),
            )

          outcome-is : record_delete_keys c keys S ≡ case_option (deletable (deletes c set) (store_of src relogged)) (refuse 8) give
          outcome-is =
              set-records c keys r.few.names S r.few.reads r.some-keys r.few.few fit
              ∙ deletes_record c set S fit.ops fit.found fit.room fit.collection fit.keys (set-lowered r.few.names)
              ∙ ap (λ (o : Option Bytes). case_option (deletable (deletes c set) S) (refuse 8) (λ u. give (logged (with_entries c set o) u))) (log_is r.held r.log)
              ∙ both (deletable (deletes c set) S)
              ∙ sym (ap (λ (o : Option model.Store). case_option o (refuse 8) give) (ap (deletable (deletes c set)) store_is ∙ deletable-logged c set (some new) S))
            where
              both : (q : Option model.Store) → case_option q (refuse 8) (λ u. give (logged (some new) u)) ≡ case_option (case_option q none (λ u. some (logged (some new) u))) (refuse 8) give
              both none = refl
              both (some u) = refl

          module _ {xs : List Operation} (x : xs ≡ w.ops.items) {y u : Store} {all : Bool} (p : y ≡ relogged) (given : Deletes src (map (op_of src) (rest x)) y u all) where
            d : Deletes src (deletes c set) relogged u all
            d = subst (λ (l : List Op). Deletes src l relogged u all) (rest-is x) (subst (λ (y : Store). Deletes src (map (op_of src) (rest x)) y u all) p given)

            pub missing-key : all ≡ false → record_delete_keys c keys S ≡ refuse 8
            missing-key h = outcome-is ∙ ap (λ (o : Option model.Store). case_option o (refuse 8) give) (d.missing h)

            pub all-deleted : all ≡ true → record_delete_keys c keys S ≡ give (store_of src u)
            all-deleted h = outcome-is ∙ ap (λ (o : Option model.Store). case_option o (refuse 8) give) (d.done h)

            pub image-stands : all ≡ true → ImageStands src u Nothing 0 out
            image-stands h = record {
              sound = d.fits.sound;
              tail_sound = tt;
              kept = none_kept;
              room = omega (arith, r.output, encode-length valid_naming (store_of src u) (subst Gives (all-deleted h) (delete-keys-keeps c keys S r.held.well)));
            }

-- `delete_keys`: the tests before.
module _ (c : Name) (keys : Bytes) (s : model.Store) where
  pub not_open : transaction s ≡ none → record_delete_keys c keys s ≡ refuse 4
  unfolding record_delete_keys
  not_open e = rw e

  -- Bytes that are no key fields, no keys or over 32.
  pub not-few : {ops : List Op} → transaction s ≡ some ops → IfSome (key_count keys) (λ k. 1 ≤ k → k ≤ 32 → ⊥) → record_delete_keys c keys s ≡ refuse 6
  unfolding record_delete_keys key_count
  not-few {ops} e h = go (key_fields keys) h
    where
      at : (ks : List Name) → (1 ≤ length ks → length ks ≤ 32 → ⊥) → (t : Bool) → (leb 1 (length ks) && leb (length ks) 32) ≡ t → t ≡ false
      at ks h false e = refl
      at ks h true e = let l = and_both (leb 1 (length ks)) (leb (length ks) 32) e in absurd (h (leb_le 1 (length ks) l.0) (leb_le (length ks) 32 l.1))

      go : (o : Option (List Name)) → IfSome (case_option o None (λ ks. Some (length ks))) (λ k. 1 ≤ k → k ≤ 32 → ⊥) → (case_option (transaction s) (refuse 4) λ ops. case_option o (refuse 6) λ ks. require (leb 1 (length ks) && leb (length ks) 32) 6
          (require (leb (length ops + length (key_set ks)) 32) 5 (require (valid_name c && all_of valid_name (key_set ks)) 6 (record_deletes c (key_set ks) s)))) ≡ refuse 6
      go none h = rw e
      go (some ks) h = rw (e, at ks h (leb 1 (length ks) && leb (length ks) 32) refl)

pub ready : {image keys : Bytes} {s : Store} {l : LogRef} {t : WalRead} {src : Bytes} {out k : ℕ} → Held image s → s.log ≡ Some l → Opens image (store_of image s) (Some t) → key_count keys ≡ Some k → 1 ≤ k → k ≤ 32 →
    31_014 ≡ length src → image_room ≤ out → Ready image keys s l (length t.ops.items) src out
unfolding key_count
ready {image} {keys} {s} {l} {t} {src} {out} {k} h e o q z m i r = go (key_fields keys) refl q
  where
    go : (x : Option (List Name)) → key_fields keys ≡ x → case_option x None (λ ks. Some (length ks)) ≡ Some k → Ready image keys s l (length t.ops.items) src out
    go none e' y = absurd (none-some k y)
    go (some ks) e' y = let y' : length ks ≡ k = cc in record {
      held = h;
      log = e;
      ops = ops_read image t;
      found = sym o.same;
      count = length-map t.ops.items (op_of image);
      most = o.held.within;
      few = record { names = ks; reads = e'; few = omega arith };
      some-keys = omega arith;
      room = omega arith;
      short = omega arith;
      output = r;
    }

-- The entry, by what `open_image` answered.
pub readable : {image : Bytes} {room : Bool} {d : Decoded} → Opened image room d → Readable image d.store.log
readable w = let h = w.held in record { log = h.sound.log; plain = h.plain; short = omega (arith, h.short) }

module _ (c : Name) (keys image : Bytes) (len : ℕ) where
  pub set-refused : {e : Refusal} → Shut image (leb image_room len) e → delete_keys c keys image len ≡ refusal (number_of e)
  unfolding delete_keys
  set-refused w = w.refused (λ s. outcome (record_delete_keys c keys s))

  module _ {d : Decoded} (w : Opened image (leb image_room len) d) where
    pub set-opened : delete_keys c keys image len ≡ outcome (record_delete_keys c keys (store_of image d.store))
    unfolding delete_keys
    set-opened = w.given (λ s. outcome (record_delete_keys c keys s))

    pub no-log : d.store.log ≡ None → delete_keys c keys image len ≡ refusal 4
    unfolding transaction log_bytes
    no-log e = set-opened ∙ ap outcome (not_open c keys (store_of image d.store) (rw e (closed d.store.open_mark)))
      where
        closed : (t : Bool) → (if t then recorded_ops absent else none) ≡ none
        closed true = refl
        closed false = refl

    module _ {o : std.Option WalRead} (t : Opens image (store_of image d.store) o) where
      pub none-found : o ≡ None → delete_keys c keys image len ≡ refusal 4
      none-found e = set-opened ∙ ap outcome (not_open c keys (store_of image d.store) (sym t.same ∙ rw e))

      pub no-set : {r : WalRead} → o ≡ Some r → {n : std.Option ℕ} → n ≡ key_count keys → IfSome n (λ k. 1 ≤ k → k ≤ 32 → ⊥) → delete_keys c keys image len ≡ refusal 6
      no-set {r} e q h =
          let found : transaction (store_of image d.store) ≡ some (ops_read image r) = sym t.same ∙ rw e in
          set-opened ∙ ap outcome (not-few c keys (store_of image d.store) found (subst (λ n. IfSome n (λ k. 1 ≤ k → k ≤ 32 → ⊥)) q h))

pub answered : {a x : Answer} {n : ℕ} {out out' : Bytes} {written written' : ℕ} → x ≡ a → contract.Gives a n out out' written written' → contract.Gives x n out out' written written'
answered {n = n} {out} {out'} {written} {written'} e g = subst (λ (y : Answer). contract.Gives y n out out' written written') (sym e) g

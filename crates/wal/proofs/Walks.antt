-- The walk through the entries: `read_wal`'s loop.
use Rattle.std.specs.Prelude.{Ok, Err, Some, None}
use Rattle.std.specs.Prelude as std
use Rattle.std.specs.declared.ops.Range.{Range}
use mathlib.Core.Path.{◌≡◌, refl, sym, ap, ◌∙◌}
use mathlib.Core.List.{List, [], ◌∷◌, ◌++◌, map, append-nil, append_assoc}
use mathlib.Core.Bool.{false}
use mathlib.Core.Option.{none, some}
use mathlib.Core.Logic.{◌⊎◌, inl, inr}
use Prim.Native.Nat.{ℕ, zero, suc, ◌+◌, ◌-◌, ◌≤◌, ◌<◌}
use native.Mathlib.Omega.{arith}
use lib.ListN.{length, take, drop, length-append, length-drop, drop_of_length-le}
use lib.Seq.{drop-cons, drop-drop, take-take, length-take-le}
use Rattle.basics.specs.Base.{Bytes, case_option}
use Rattle.model.specs.Operation.{Op, decode_payload}
use Rattle.model.specs.Log.{Entries, stop, after, first_payload, walk, entries, read_journal}
use Rattle.model.specs.Log as model
use Rattle.basic_laws.specs.Tests.{All}
use Rattle.transaction.specs.Operations.{op_of, SoundOp, decoded_of, Bounds, in_bounds, part, Decodes}
use Rattle.transaction.specs.declared.Operation.{Operation}
use Rattle.transaction.proofs.Lists.{map-append, all-append}
use Rattle.transaction.proofs.Payloads.{part-drop, in_bounds_lem, decoded-there}
use Rattle.fixed_vec.specs.FixedVec.{FixedVec}
use Rattle.basics.specs.declared.Status.{Status}
use Rattle.wal.specs.Logs.{journal_of, EntryAt, ending_of, entries_of, entries_at, ReadsLog, WalksLog}
use Rattle.wal.specs.declared.Cause.{Cause}
use Rattle.wal.specs.declared.Ending.{Ending}
use Rattle.wal.specs.declared.Ending.TheVariants as code
use Rattle.wal.specs.declared.WalRead.{WalRead}

-- The model's walk at a place of the log.
walk-skip : (k m : ℕ) (l : Bytes) → m ≤ length l → walk k m l ≡ walk k 0 (drop m l)
unfolding walk
walk-skip k zero l h = refl
walk-skip k (suc m) [] h = absurd (omega arith)
walk-skip k (suc m) (x ∷ l) h = walk-skip k m l (omega arith)

module _ (l : Bytes) (at : ℕ) where
  pub walk_end : (k : ℕ) → length l ≤ at → walk k 0 (drop at l) ≡ stop model.whole
  unfolding walk
  walk_end k h = rw (drop_of_length-le l {i = at} h)

  module _ (h : at < length l) where
    pub walk_more : walk 0 0 (drop at l) ≡ stop model.too_many
    unfolding walk
    walk_more = rw (drop-cons l at 0 h)

    walk-entry : (k : ℕ) → walk (suc k) 0 (drop at l) ≡ case_option (first_payload (drop at l)) (stop (model.truncated (model.first_cause (drop at l)))) (λ p. case_option (decode_payload p) (stop model.undecodable) (λ o. after o (walk k (7 + length p) (drop (suc at) l))))
    unfolding walk
    walk-entry k = rw (drop-cons l at 0 h)

    pub walk-truncated : (k : ℕ) → first_payload (drop at l) ≡ none → walk (suc k) 0 (drop at l) ≡ stop (model.truncated (model.first_cause (drop at l)))
    walk-truncated k e = walk-entry k ∙ rw e

    module _ (k : ℕ) (p : Bytes) (e : first_payload (drop at l) ≡ some p) where
      pub walk-undecodable : decode_payload p ≡ none → walk (suc k) 0 (drop at l) ≡ stop model.undecodable
      walk-undecodable d = walk-entry k ∙ rw (e, d)

      pub walk-on : (o : Op) (to : ℕ) → decode_payload p ≡ some o → to ≡ at + 8 + length p → to ≤ length l → walk (suc k) 0 (drop at l) ≡ after o (walk k 0 (drop to l))
      walk-on o to d t g =
          let s : suc at + (7 + length p) ≡ to = omega arith in
          let n : walk k (7 + length p) (drop (suc at) l) ≡ walk k 0 (drop to l) = walk-skip k (7 + length p) (drop (suc at) l) (omega (arith, length-drop (suc at) l)) ∙ ap (walk k 0) (drop-drop (7 + length p) (suc at) l ∙ ap (λ (j : ℕ). drop j l) s) in
          walk-entry k ∙ rw (e, d, n)

-- A payload of the log is one of the bytes.
narrow : (start end e : ℕ) (src : Bytes) → start ≤ end → end ≤ e → part (take e src) start end ≡ part src start end
narrow start end e src h k = part-drop start end (take e src) h ∙ ap (drop start) (take-take end e src k) ∙ sym (part-drop start end src h)

-- Operations before those of a walk.
abbrev joined : List Op → Entries → Entries
joined os r = record { ops = os ++ r.ops; end = r.end }

-- `walk_entries` has read these operations, up to a place.
pub record Walking (src : Bytes) (first end : ℕ) (ops : List Operation) (at : ℕ) : Type 0 where
  pub within : length ops ≤ 32
  pub inside : at ≤ end
  pub sound : All (SoundOp src) ops
  pub same : joined (map (op_of src) ops) (walk (32 - length ops) 0 (drop at (take end src))) ≡ walk 32 0 (drop first (take end src))

pub none_read : (src : Bytes) {first end : ℕ} {ops : List Operation} → first ≤ end → ops ≡ [] → Walking src first end ops first
none_read src h e = rw e (record { within = omega arith; inside = h; sound = tt; same = refl })

module _ {src : Bytes} {first end : ℕ} {items : List Operation} {at : ℕ} (w : Walking src first end items at) where
  -- The walk ends here.
  ends : {spare : List Operation} {e : Ending} → walk (32 - length items) 0 (drop at (take end src)) ≡ stop (ending_of e) → WalksLog src first end (record { ops = record { items = items; spare = spare }; ending = e })
  ends {e = e} h = record {
    held = record { within = w.within; sound = w.sound };
    same = ap (λ (l : List Op). record { ops = l; end = ending_of e }) (sym (append-nil (map (op_of src) items))) ∙ ap (joined (map (op_of src) items)) (sym h) ∙ w.same;
  }

  module _ (k : end ≤ length src) where
    log-length : length (take end src) ≡ end
    log-length = length-take-le end src k

    pub at-end : {spare : List Operation} → end ≤ at → WalksLog src first end (record { ops = record { items = items; spare = spare }; ending = code.Whole })
    at-end h = ends (walk_end (take end src) at (32 - length items) (omega (arith, log-length)))

    module _ (h : at < end) where
      pub at-limit : {spare : List Operation} → 32 ≤ length items → WalksLog src first end (record { ops = record { items = items; spare = spare }; ending = code.TooMany })
      at-limit m =
          let z : 32 - length items ≡ 0 = omega arith in
          ends (rw z (walk_more (take end src) at (omega (arith, log-length))))

      module _ (m : length items < 32) where
        fuel : 32 - length items ≡ suc (32 - (length items + 1))
        fuel = omega arith

        pub at-truncated : {spare : List Operation} {c : Cause} → EntryAt (take end src) at (Err c) → WalksLog src first end (record { ops = record { items = items; spare = spare }; ending = code.Truncated c })
        at-truncated {c = c} y = ends (rw (fuel, y.told) (walk-truncated (take end src) at (omega (arith, log-length)) (32 - (length items + 1)) (sym y.same)))

        module _ (c : length src ≤ 0xFFFF) {r : Range ℕ} {d : std.Option Operation} (x : EntryAt (take end src) at (Ok r)) (q : Decodes src r.start r.end d) where
          bound : (r.start ≤ r.end) × (r.end ≤ end)
          bound = let b = x.bounded in (omega arith, omega (arith, log-length))

          here : first_payload (drop at (take end src)) ≡ some (part src r.start r.end)
          here = sym x.same ∙ ap some (narrow r.start r.end end src bound.0 bound.1)

          decoded : decoded_of src d ≡ decode_payload (part src r.start r.end)
          decoded = q.same ∙ decoded-there (record { ordered = bound.0; within = omega (arith, bound.1); short = c })

          pub at-undecodable : {spare : List Operation} → d ≡ None → WalksLog src first end (record { ops = record { items = items; spare = spare }; ending = code.Undecodable })
          at-undecodable u =
              let y : none ≡ decode_payload (part src r.start r.end) = rw u at decoded in
              ends (rw fuel (walk-undecodable (take end src) at (omega (arith, log-length)) (32 - (length items + 1)) (part src r.start r.end) here (sym y)))

          pub at_operation : {op : Operation} {new : List Operation} → d ≡ Some op → new ≡ items ++ op ∷ [] → Walking src first end new r.end
          at_operation {op} {new} u p =
              let n : ℕ = length items in
              let y : some (op_of src op) ≡ decode_payload (part src r.start r.end) = rw u at decoded in
              let s : SoundOp src op = rw u at q.sound in
              let len : length (part src r.start r.end) ≡ r.end - r.start = length-take-le (r.end - r.start) (drop r.start src) (omega (arith, bound, length-drop r.start src)) in
              let on : walk (32 - n) 0 (drop at (take end src)) ≡ after (op_of src op) (walk (32 - (n + 1)) 0 (drop r.end (take end src))) =
              rw fuel (walk-on (take end src) at (omega (arith, log-length)) (32 - (n + 1)) (part src r.start r.end) here (op_of src op) r.end (sym y) (let b = x.bounded in omega (arith, bound)) (omega (arith, bound, log-length))) in
              let more : map (op_of src) new ≡ map (op_of src) items ++ op_of src op ∷ [] = rw p (map-append (op_of src) items (op ∷ [])) in
              let longer : length new ≡ n + 1 = rw p (length-append items (op ∷ [])) in
              let rest : Entries = walk (32 - (n + 1)) 0 (drop r.end (take end src)) in
              record {
                within = omega (arith, longer, fuel);
                inside = bound.1;
                sound = rw p (all-append (SoundOp src) items op w.sound s);
                same = rw (longer, more) (ap (λ (l : List Op). record { ops = l; end = rest.end }) (append_assoc (map (op_of src) items) (op_of src op ∷ []) rest.ops)) ∙ ap (joined (map (op_of src) items)) (sym on) ∙ w.same;
              }

-- `read_wal`: no log there; and the entries behind the header, of which there may be none.
pub no-log : {src : Bytes} {start end : ℕ} {ops : FixedVec Operation} → in_bounds src start end ≡ false → ops.items ≡ [] → ReadsLog src start end (record { ops = ops; ending = code.Undecodable })
unfolding entries_at
no-log h e = record { held = record { within = rw e (omega arith); sound = rw e tt }; same = rw (h, e) refl }

pub entries-there : {src : Bytes} {start end : ℕ} → Bounds src start end → entries_at src start end ≡ entries (part src start end)
unfolding entries_at
entries-there b = rw (in_bounds_lem b)

pub behind-header : {src : Bytes} {start end at : ℕ} {r : WalRead} → Bounds src start end → (at ≡ start + 8) ⊎ ((at ≡ end) × (end ≤ start + 8)) → WalksLog src at end r → ReadsLog src start end r
unfolding entries
behind-header {src} {start} {end} {at} b f w =
    let d : drop 8 (part src start end) ≡ drop (start + 8) (take end src) = ap (drop 8) (part-drop start end src b.ordered) ∙ drop-drop 8 start (take end src) in
    record { held = w.held; same = w.same ∙ sym (entries-there b ∙ ap (walk 32 0) (d ∙ sym (go f))) }
  where
    go : (at ≡ start + 8) ⊎ ((at ≡ end) × (end ≤ start + 8)) → drop at (take end src) ≡ drop (start + 8) (take end src)
    go (inl e) = ap (λ (n : ℕ). drop n (take end src)) e
    go (inr (e, h)) =
        let l : length (take end src) ≡ end = length-take-le end src b.within in
        drop_of_length-le (take end src) {i = at} (omega arith) ∙ sym (drop_of_length-le (take end src) {i = start + 8} (omega arith))

-- For callers: the status and the entries that were read are the model's journal.
pub journal-read : {src : Bytes} {start end : ℕ} (s : std.Option Status) {r : WalRead} → Bounds src start end → journal_of s (entries (part src start end)) ≡ read_journal (part src start end) → ReadsLog src start end r → journal_of s (entries_of src r) ≡ read_journal (part src start end)
journal-read s b o w = ap (journal_of s) (w.same ∙ entries-there b) ∙ o

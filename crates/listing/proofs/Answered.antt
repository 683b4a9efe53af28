-- The program's text, in its three ways: the image is refused, its log is refused, or the store is recovered.
use mathlib.Core.Path.{◌≡◌, sym, ap, subst, ◌∙◌}
use mathlib.Core.List.{[], ◌∷◌, ◌++◌}
use mathlib.Core.Option.{none, some}
use Prim.Native.Nat.{ℕ, ◌≤◌, ◌<◌}
use native.Mathlib.Omega.{arith}
use lib.ListN.{length}
use lib.Seq.{append_snoc}
use Rattle.std.specs.Prelude.{Option, None}
use Rattle.basics.specs.Limits.{image_room}
use Rattle.basics.specs.Base.{Bytes, flat_map}
use Rattle.model.specs.Log.{journal}
use Rattle.model.specs.Store as model
use Rattle.model.specs.Image.{decode}
use Rattle.model.specs.Plan.{recover_fault, recovered}
use Rattle.answers.specs.Answers.{recover_store, recover, decimal, listing_line, listing}
use Rattle.basic_laws.specs.ValidNames.{valid_naming}
use Rattle.laws.specs.ImageLaws.{decode-only}
use Rattle.laws.specs.LengthLaws.{encode-length}
use Rattle.answer_laws.specs.EntryLaws.{lent-good, on-recover}
use Rattle.store.specs.declared.Table.{Table}
use Rattle.store.specs.Tables.{live, map_of, SoundTable}
use Rattle.store.specs.Stores.{store_of}
use Rattle.steps.specs.Steps.{Fits}
use Rattle.steps.proofs.Room.{of-good}
use Rattle.recovery.specs.declared.Recovered.{Recovered}
use Rattle.recovery.specs.Recoveries.{recovery, Done}
use Rattle.recovery.specs.RecoveryLaws.{done-is}
use Rattle.decode.specs.declared.Decoded.{Decoded}
use Rattle.decode.specs.Decoding.{Accepts}
use Rattle.decode.proofs.Filling.{unused}
use Rattle.text.specs.Writing.{Writes}
use Rattle.listing.specs.Lines.{number_end, answer_line, lines_of, text_of}
use Rattle.listing.specs.Room.{done-number}
use Rattle.answer_laws.specs.DecimalLaws.{two_digits}

-- Recovery's number has at most two digits.
small : (b : Bytes) → (recover b image_room).number < 100
small b = on-recover (λ a. a.number < 100) b image_room (omega arith) (λ s d. omega arith)

-- The first line, with what follows it.
first-line : (n : ℕ) (r : Bytes) → n < 100 → 0x61 ∷ 0x6E ∷ 0x73 ∷ 0x77 ∷ 0x65 ∷ 0x72 ∷ 0x20 ∷ decimal 2 n ++ 0x0A ∷ r ≡ answer_line n ++ r
unfolding answer_line number_end
first-line n r h = rw (two_digits n h) (ap (λ (b : Bytes). 0x61 ∷ 0x6E ∷ 0x73 ∷ 0x77 ∷ 0x65 ∷ 0x72 ∷ 0x20 ∷ b) (sym (append_snoc (decimal 10 n) 0x0A r)))

-- The definition's text.
module _ (b : Bytes) where
  numbered : (n : ℕ) → (recover b image_room).number ≡ n → (r : Bytes) → 0x61 ∷ 0x6E ∷ 0x73 ∷ 0x77 ∷ 0x65 ∷ 0x72 ∷ 0x20 ∷ decimal 2 (recover b image_room).number ++ 0x0A ∷ r ≡ answer_line n ++ r
  numbered n e r = rw e (first-line n r (subst (λ (k : ℕ). k < 100) e (small b)))

  image-refused : decode b ≡ none → listing b ≡ text_of 1 []
  unfolding listing lines_of
  image-refused d = rw d (numbered 1 (unfold recover in rw d) [])

  module _ {s : model.Store} (d : decode b ≡ some s) where
    log-refused : {n : ℕ} → recover_fault (journal s.log) s.tree ≡ some n → listing b ≡ text_of n []
    unfolding listing lines_of
    log-refused {n} f = rw (d, f) (numbered n (unfold recover recover_store in rw (d, f)) [])

    all_done : recover_fault (journal s.log) s.tree ≡ none → listing b ≡ text_of 0 (recovered s).tree
    unfolding listing lines_of
    all_done f = rw (d, f) (numbered 0 (done-number b s d f) (flat_map listing_line (recovered s).tree))

-- The same text, written.
same_text : {a b out after : Bytes} {n : Option ℕ} → a ≡ b → Writes b out after n → Writes a out after n
same_text e w = rw e w

-- The text of a refusal: no node stands behind its number.
pub no-nodes : (b : Bytes) {n : Table} → live n ≡ [] → SoundTable b n
no-nodes b e = (unused e).sound

module _ (b : Bytes) (n : Table) (e : live n ≡ []) (r : ℕ) {out after : Bytes} {k : Option ℕ} (v : Writes (text_of r (map_of b n)) out after k) where
  refused : listing b ≡ text_of r [] → Writes (listing b) out after k
  refused h = same_text (h ∙ ap (text_of r) (sym (unused {src = b} e).same)) v

  pub broken : decode b ≡ none → r ≡ 1 → Writes (listing b) out after k
  broken d z = refused (rw z (image-refused b d))

  pub turned_down : {d : Decoded} {m : ℕ} → Accepts b d → recover_fault (journal (store_of b d.store).log) (map_of b d.store.tree) ≡ some m → r ≡ m → Writes (listing b) out after k
  turned_down w f z = refused (rw z (log-refused b w.same f))

-- An image that is read can be recovered, and its text is that of what recovery leaves.
module _ {b : Bytes} {d : Decoded} (w : Accepts b d) where
  pub fitting : Fits b d.store
  fitting = record { sound = w.sound; within = of-good (lent-good b (store_of b d.store) w.same) }

  pub short : length b ≤ 0xFFFF
  short = omega (arith, ap length (decode-only b (store_of b d.store) w.same).0, encode-length valid_naming (store_of b d.store) (lent-good b (store_of b d.store) w.same))

  pub listed : {r : Recovered} {out after : Bytes} {k : Option ℕ} → Done (recovery (store_of b d.store)) b d.store None r → Writes (text_of 0 (map_of b r.run.store.tree)) out after k → Writes (listing b) out after k
  unfolding recovered
  listed c v = same_text (all_done b w.same c.allowed ∙ ap (λ (s : model.Store). text_of 0 s.tree) (done-is c)) v

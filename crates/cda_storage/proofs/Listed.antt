-- The key list of an image, by what `list_keys` wrote.
use Rattle.std.specs.Prelude.{if◌then◌else◌, Some}
use mathlib.Core.Path.{◌≡◌, refl, sym, ap, subst, ◌∙◌}
use mathlib.Core.Bool.{false}
use mathlib.Core.List.{[]}
use Prim.Native.Nat.{ℕ, ◌≤◌}
use native.Mathlib.Omega.{arith}
use lib.ListN.{length}
use lib.Dec.{leb}
use borrow.Author.Tests.{leb-true}
use Rattle.basics.specs.Limits.{keys_room}
use Rattle.basics.specs.Order.{Name}
use Rattle.basics.specs.Base.{Bytes}
use Rattle.basics.specs.Name.{valid_name}
use Rattle.model.specs.Store as model
use Rattle.model.specs.Record.{key_list}
use Rattle.answers.specs.Answers.{Answer, refusal, list_keys}
use Rattle.answer_laws.specs.Bounds.{list-keys-length}
use Rattle.field.specs.Writing as field
use Rattle.field.proofs.Written.{written-front}
use Rattle.refusals.specs.Numbers.{number_of}
use Rattle.refusals.specs.declared.Refusal.{Refusal}
use Rattle.spans.specs.Spans.{name_of, Sound, Given}
use Rattle.spans.specs.declared.NameRef.{NameRef}
use Rattle.store.specs.Stores.{store_of, SoundStore}
use Rattle.decode.specs.declared.Decoded.{Decoded}
use Rattle.handover.specs.Contract.{Gives}
use Rattle.handover.specs.Opening.{Opened, Shut}
use Rattle.handover.proofs.Outputs.{left_alone, gives}
use Rattle.recording.proofs.Lent.{Begins, lent-sound, lent_same}

module _ (c : Name) (image : Bytes) (len : ℕ) where
  abbrev keys_of : model.Store → Answer
  keys_of s = if valid_name c then record { number = 0; image = key_list c s; step = [] } else refusal 6

  pub keys-refused : {e : Refusal} → Shut image (leb keys_room len) e → {out : Bytes} (written : ℕ) → Gives (list_keys c image len) (number_of e) out out written written
  unfolding list_keys
  keys-refused w written = left_alone w.alone (w.refused keys_of)

  module _ {o : Decoded} (w : Opened image (leb keys_room len) o) where
    pub keys-invalid : valid_name c ≡ false → {out : Bytes} (written : ℕ) → Gives (list_keys c image len) 6 out out written written
    unfolding list_keys
    keys-invalid g written = left_alone refl (w.given keys_of ∙ rw g)

    module _ {src : Bytes} {r : NameRef} (g : Given src (Some r) c) (b : Begins image src) where
      keys : key_list (name_of src r) (store_of src o.store) ≡ key_list c (store_of image o.store)
      keys = ap (λ (n : Name). key_list n (store_of src o.store)) g.1.same ∙ ap (key_list c) (lent_same b w.held)

      keys_are : list_keys c image len ≡ record { number = 0; image = key_list (name_of src r) (store_of src o.store); step = [] }
      unfolding list_keys
      keys_are = w.given keys_of ∙ (rw g.0) ∙ ap (λ (l : Bytes). record { number = 0; image = l; step = [] }) (sym keys)

      room : length (key_list (name_of src r) (store_of src o.store)) ≤ len
      room =
          let e = ap (λ (a : Answer). length a.image) keys_are in
          omega (arith, list-keys-length c image len, leb-true keys_room len w.roomy)

      pub keys-ask : (SoundStore src o.store × Sound src r) × (length (key_list (name_of src r) (store_of src o.store)) ≤ len)
      keys-ask = ((lent-sound b w.held, g.1.sound), room)

      pub keys-listed : {out out' : Bytes} {n : ℕ} → length out ≡ len → field.Writes (key_list (name_of src r) (store_of src o.store)) 0 out out' n → (written : ℕ)
          → Gives (list_keys c image len) 0 out out' written n
      keys-listed {out} {out'} e k written =
          let l = key_list (name_of src r) (store_of src o.store) in
          gives refl (sym (ap (λ (a : Answer). a.number) keys_are)) (sym (ap (λ (a : Answer). a.image) keys_are))
          (record { same = k.same ∙ written-front l out (subst (λ (n : ℕ). length l ≤ n) (sym e) room); size = k.size })

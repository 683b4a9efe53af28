-- The backup that an image's search names, by what was found and written.
use Rattle.std.specs.Prelude.{Option}
use mathlib.Core.Path.{◌≡◌, refl, sym, ap, subst, ◌∙◌}
use mathlib.Core.List.{[]}
use Prim.Native.Nat.{ℕ, ◌≤◌}
use native.Mathlib.Omega.{arith}
use lib.ListN.{length}
use lib.Dec.{leb}
use borrow.Author.Tests.{leb-true}
use Rattle.basics.specs.Limits.{hit_room}
use Rattle.basics.specs.Base.{Bytes}
use Rattle.basics.specs.Field.{encode_fields}
use Rattle.model.specs.Store as model
use Rattle.model.specs.Image.{hit_fields}
use Rattle.answers.specs.Answers.{Answer, find_backup}
use Rattle.answer_laws.specs.Bounds.{find-backup-length}
use Rattle.refusals.specs.Numbers.{number_of}
use Rattle.refusals.specs.declared.Refusal.{Refusal}
use Rattle.store.specs.Tables.{map_of}
use Rattle.store.specs.Stores.{store_of}
use Rattle.recovery.specs.Searches.{hit_of, SoundHit, FindsBackup}
use Rattle.recovery.specs.declared.search.BackupHit.{BackupHit}
use Rattle.encode.specs.Encoding.{Puts}
use Rattle.encode.proofs.Image.{in_room_lem}
use Rattle.decode.specs.declared.Decoded.{Decoded}
use Rattle.handover.specs.Contract.{Gives}
use Rattle.handover.specs.Opening.{Opened, Shut}
use Rattle.handover.proofs.Outputs.{left_alone, gives}

abbrev named : model.Store → Answer
named s = record { number = 0; image = encode_fields (hit_fields (model.first_backup s.tree)); step = [] }

module _ (image : Bytes) (len : ℕ) where
  pub hit-refused : {e : Refusal} → Shut image (leb hit_room len) e → {out : Bytes} (written : ℕ) → Gives (find_backup image len) (number_of e) out out written written
  unfolding find_backup
  hit-refused w written = left_alone w.alone (w.refused named)

  module _ {o : Decoded} (w : Opened image (leb hit_room len) o) {r : Option BackupHit} (f : FindsBackup image (map_of image o.store.tree) r) where
    is : find_backup image len ≡ named (store_of image o.store)
    unfolding find_backup
    is = w.given named

    same : encode_fields (hit_fields (hit_of image r)) ≡ (find_backup image len).image
    same = ap (λ (h : model.BackupHit). encode_fields (hit_fields h)) f.same ∙ sym (ap (λ (a : Answer). a.image) is)

    room : length (encode_fields (hit_fields (hit_of image r))) ≤ len
    room = omega (arith, ap length same, find-backup-length image len, leb-true hit_room len w.roomy)

    pub hit-asks : SoundHit image r × (length (encode_fields (hit_fields (hit_of image r))) ≤ len)
    hit-asks = (f.sound, room)

    pub hit-gives : {out out' : Bytes} {n : ℕ} → length out ≡ len → Puts (encode_fields (hit_fields (hit_of image r))) 0 out out' n → (written : ℕ)
        → Gives (find_backup image len) 0 out out' written n
    hit-gives l p written =
        let e = in_room_lem p (subst (λ (n : ℕ). length (encode_fields (hit_fields (hit_of image r))) ≤ n) (sym l) room) in
        gives refl (sym (ap (λ (a : Answer). a.number) is)) same (record { same = e.1; size = e.0 })

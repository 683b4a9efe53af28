-- A recording entry from image to image, by what its method answered.
use Rattle.std.specs.Prelude.{if◌then◌else◌, Result, Ok, Err}
use mathlib.Core.Path.{◌≡◌, refl, sym, ap, subst, ◌∙◌}
use mathlib.Core.Bool.{Bool, true, false}
use Prim.Native.Nat.{ℕ, ◌≤◌}
use native.Mathlib.Omega.{arith}
use lib.ListN.{length, take, drop, length-append, take-append-drop}
use lib.Seq.{take-take}
use lib.Dec.{leb}
use borrow.Author.Tests.{leb-true}
use Rattle.basics.specs.Limits.{image_room}
use Rattle.basics.specs.Order.{Name}
use Rattle.basics.specs.Base.{Bytes}
use Rattle.basics.specs.Map.{Map}
use Rattle.model.specs.Store as model
use Rattle.model.specs.Record.{give}
use Rattle.answers.specs.Answers.{Answer, outcome, image_entry}
use Rattle.store.specs.Tables.{map_of}
use Rattle.refusals.specs.Numbers.{number_of}
use Rattle.refusals.specs.declared.Refusal.{Refusal}
use Rattle.store.specs.Kept.{Kept, none_kept}
use Rattle.store.specs.Stores.{store_of}
use Rattle.wal.specs.Tails.{with_tail}
use Rattle.wal.specs.declared.Tail.{Tail}
use Rattle.wal.specs.declared.Tail.TheVariants.{Nothing, Header, Entry}
use Rattle.decode.specs.declared.Decoded.{Decoded}
use Rattle.local_storage.specs.Recording.{storage_of, given_by, outcome_of, Stands}
use Rattle.local_storage.specs.declared.Recorded.{Recorded}
use Rattle.handover.specs.Contract.{Gives}
use Rattle.handover.specs.Opening.{Opened, Shut, DoneStands, AnswerStands}
use Rattle.handover.proofs.Outputs.{left_alone}
use Rattle.recording.specs.Asking.{asked, entry_of, leaves_tree, Performs}
use Rattle.recording.specs.Laws.{entry-is, asked-bounded, Alone, asked-alone, Leaves, asked-leaves}
use Rattle.recording.specs.declared.Asked.{Asked}
use Rattle.recording.proofs.Lent.{Begins, lent_same}

-- A tail changes the log alone.
tail-tree : (src : Bytes) (t : Tail) (s : model.Store) → (with_tail src t s).tree ≡ s.tree
tail-tree src Nothing s = refl
tail-tree src Header s = refl
tail-tree src (Entry o) s = refl

-- What stands at the front of the image stands at the front of bytes that begin with it.
further_kept : {image src : Bytes} {front : ℕ} {m : Map} → take (length image) src ≡ image → Kept image front m → Kept src front m
further_kept {image} {src} {front} e k = record {
  within = omega (arith, k.within, ap length (take-append-drop (length image) src), length-append (take (length image) src) (drop (length image) src), ap length e);
  same = λ h. sym (take-take front (length image) src k.within) ∙ ap (take front) e ∙ k.same h;
}

module _ (op : Asked) (c k f : Name) (image : Bytes) (len : ℕ) where
  abbrev entry : Answer
  entry = entry_of op c k f image len

  -- An image or an output that is refused.
  pub not_opened : {e : Refusal} → Shut image (leb image_room len) e → {out : Bytes} {written : ℕ} → Gives entry (number_of e) out out written written
  not_opened w = left_alone w.alone (entry-is op c k f image len ∙ w.refused (λ s. outcome (asked op c k f s)))

  module _ {o : Decoded} (w : Opened image (leb image_room len) o) {src : Bytes} (b : Begins image src) {r : Recorded} (a : Performs op src o.store c k f r) where
    abbrev S : model.Store
    S = store_of src o.store

    image-store : S ≡ store_of image o.store
    image-store = lent_same b w.held

    same : image_entry (asked op c k f) image len ≡ outcome (outcome_of src r)
    same = w.given (λ s. outcome (asked op c k f s)) ∙ ap (λ (s : model.Store). outcome (asked op c k f s)) (sym image-store) ∙ ap outcome (sym a.same)

    -- The tree that is handed on stands where the image has it, if it is left.
    tree-stands : (t : Tail) (l : Bool) → r.done ≡ Ok t → leaves_tree op ≡ l → Kept src (if l then o.tree_end else 0) (map_of src r.storage.store.tree)
    tree-stands t false q e = none_kept
    tree-stands t true q e = subst (Kept src o.tree_end) (sym left) (further_kept b.front w.kept)
      where
        given : asked op c k f S ≡ give (with_tail src t (storage_of src r.storage))
        given = sym a.same ∙ ap (given_by src (storage_of src r.storage)) q

        left : map_of src r.storage.store.tree ≡ map_of image o.store.tree
        left =
            sym (tail-tree src t (storage_of src r.storage))
            ∙ subst (Leaves op S.tree) given (asked-leaves op c k f S) e
            ∙ ap (λ (s : model.Store). s.tree) image-store

    done-stands : (d : Result Tail Refusal) → r.done ≡ d → DoneStands src r.storage.store (if leaves_tree op then o.tree_end else 0) d
    done-stands (Ok t) q = (subst (Stands src S (storage_of src r.storage)) q a.stands, tree-stands t (leaves_tree op) q refl)
    done-stands (Err e) q = subst Alone (sym a.same ∙ ap (given_by src (storage_of src r.storage)) q) (asked-alone op c k f S)

    -- What lets the answer be handed on, and what is handed on.
    pub hands_on : {front : ℕ} → front ≡ (if leaves_tree op then o.tree_end else 0) → AnswerStands src r front len
    hands_on {front} e = record {
      sound = a.sound;
      done = subst (λ (n : ℕ). DoneStands src r.storage.store n r.done) (sym e) (done-stands r.done refl);
      room =
          let i = subst (λ (x : Answer). length x.image ≤ image_room) same (asked-bounded op c k f image len).image in
          omega (arith, leb-true image_room len w.roomy);
    }

    pub handed : {n : ℕ} {out out' : Bytes} {written written' : ℕ} → Gives (outcome (outcome_of src r)) n out out' written written' → Gives entry n out out' written written'
    handed {n} {out} {out'} {written} {written'} g = subst (λ (x : Answer). Gives x n out out' written written') (sym (entry-is op c k f image len ∙ same)) g

use mathlib.Core.Path.{refl, sym, ◌∙◌}
use Rattle.store.proofs.Listed.{listed-sound, items-listed}
use Rattle.local_collection.proofs.Listed.{listing, listed-past, listed-key, listed-all}
use native.Mathlib.Omega.{arith}
use Rattle.local_collection.proofs.put_keys.Goals as goal
use Rattle.local_collection.proofs.put_keys.Goals.{then-is_valid_key, else-is_valid_key}

pub loop-file-init : goal.loop-file-init
loop-file-init c = listing _ _ (rw c.as_slice-file-items.ensures.value (items-listed c.files-listing.ensures)) c.requires.1

pub is_valid_key-requires : goal.is_valid_key-requires
is_valid_key-requires c = listed-sound c.loop-file.invariant.lists refl (omega arith)

pub put_key-at-requires : goal.put_key-at-requires
put_key-at-requires c = listed-sound c.loop-file.invariant.lists refl (omega arith)

pub loop-file-preserved : goal.loop-file-preserved
loop-file-preserved c =
    elim c.if-is_valid_key.branch [
      | then-is_valid_key w ↦ listed-key c.loop-file.invariant refl (omega arith)
          (sym c.is_valid_key.ensures ∙ w.if-is_valid_key.true) w.put_key-at.ensures w.out-is w.at-is
      | else-is_valid_key w ↦ listed-past c.loop-file.invariant refl (omega arith)
          (sym c.is_valid_key.ensures ∙ w.if-is_valid_key.false) w.out-is w.at-is
    ]

pub returns : goal.returns
returns c = listed-all _ _ c.loop-file.invariant (omega arith)

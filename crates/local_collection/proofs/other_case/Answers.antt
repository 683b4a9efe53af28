use mathlib.Core.Path.{refl, sym, ◌∙◌}
use Rattle.store.proofs.Listed.{listed-sound, items-listed}
use Rattle.steps.proofs.FileNames.{listed-named}
use Rattle.local_collection.proofs.Listed.{seeking, sought_past, sought_other, sought_found, sought_nothing}
use native.Mathlib.Omega.{arith}
use Rattle.local_collection.proofs.other_case.Goals as goal
use Rattle.local_collection.proofs.other_case.Goals.{else-is_valid_key-via-then-is_valid_key+else-lowers_to, else-is_valid_key-via-else-is_valid_key}

pub loop-file-init : goal.loop-file-init
loop-file-init c = seeking (rw c.as_slice-file-items.ensures.value (items-listed c.files-listing.ensures))

pub is_valid_key-requires : goal.is_valid_key-requires
is_valid_key-requires c = listed-sound c.loop-file.invariant.lists refl (omega arith)

pub lowers_to-requires : goal.lowers_to-requires
lowers_to-requires c = (listed-sound c.loop-file.invariant.lists refl (omega arith), c.requires.1.1)

pub returns-then-lowers_to : goal.returns-then-lowers_to
returns-then-lowers_to c =
    sought_found c.loop-file.invariant refl (omega arith) (sym c.is_valid_key.ensures ∙ c.if-is_valid_key.true)
    (listed-named _ _ c.loop-file.invariant.lists refl (omega arith))
    (sym c.lowers_to.ensures ∙ c.if-lowers_to.true)

pub loop-file-preserved : goal.loop-file-preserved
loop-file-preserved c =
    elim c.else-is_valid_key.branch [
      | else-is_valid_key-via-then-is_valid_key+else-lowers_to w ↦ sought_other c.loop-file.invariant refl (omega arith)
          (sym c.is_valid_key.ensures ∙ w.if-is_valid_key.true) (sym w.lowers_to.ensures ∙ w.if-lowers_to.false)
      | else-is_valid_key-via-else-is_valid_key w ↦ sought_past c.loop-file.invariant refl (omega arith)
          (sym c.is_valid_key.ensures ∙ w.if-is_valid_key.false)
    ]

pub returns : goal.returns
returns c = sought_nothing c.loop-file.invariant (omega arith)

-- `transaction::push_field` meets its contract: a name's parts one behind the other, for which there is room.
use mathlib.Core.Path.{refl}
use mathlib.Core.List.{[], ◌∷◌}
use Prim.Native.Nat.{ℕ, ◌+◌}
use native.Mathlib.Omega.{arith}
use lib.ListN.{length}
use Rattle.spans.specs.Spans.{Sound, name_of}
use Rattle.spans.proofs.Parts.{length-name}
use Rattle.transaction.proofs.Encode.{pushed, parts-pushed}
use Rattle.transaction.proofs.push_field.Goals as goal

pub overflow_cast-part : goal.overflow_cast-part
overflow_cast-part c = let s : Sound c.args.src.now c.in-Name.r = rw c.in-Name.is at c.requires.0 in omega (arith, s.room)

pub returns-in-Byte-clause-items : goal.returns-in-Byte-clause-items
returns-in-Byte-clause-items c = let p = pushed c.args.payload.now.items c.args.tag 1 (c.in-Byte.b ∷ []) refl (omega arith) in rw c.in-Byte.is cc

pub returns-in-Name-clause-items : goal.returns-in-Name-clause-items
returns-in-Name-clause-items c =
    let s : Sound c.args.src.now c.in-Name.r = rw c.in-Name.is at c.requires.0 in
    let a = c.extend_from_slice.ensures.items in
    let b = c.extend_from_slice-in-Name.ensures.items in
    let n : ℕ = length c.slices.result.0.now + length c.slices.result.1.now in
    let p = parts-pushed c.args.payload.now.items c.args.tag n c.slices.result.0.now c.slices.result.1.now (name_of c.args.src.now c.in-Name.r) c.slices.ensures.whole (omega (arith, length-name s)) (omega (arith, s.room)) in
    rw c.in-Name.is cc

pub returns-in-Name-clause-len : goal.returns-in-Name-clause-len
returns-in-Name-clause-len c =
    let s : Sound c.args.src.now c.in-Name.r = rw c.in-Name.is at c.requires.0 in
    let a = c.extend_from_slice.ensures.len in
    let b = c.extend_from_slice-in-Name.ensures.len in
    omega (arith, s.room, a, b)

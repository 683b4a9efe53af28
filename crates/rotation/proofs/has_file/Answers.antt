-- `rotation::has_file`: the image is read, and copied to where a name can stand behind it.
use native.Mathlib.Omega.{arith}
use Rattle.recording.proofs.Lent.{has_room}
use Rattle.rotation.proofs.Having.{has-none}
use Rattle.rotation.proofs.has_file.Goals as goal

pub returns-in_default : goal.returns-in_default
returns-in_default c = has-none c.args.name.now c.args.image.now c.in_default.ensures

pub has_file_in-requires : goal.has_file_in-requires
has_file_in-requires c =
    record { opens = c.in-Ok.ensures; roomy = has_room {n = 19582} (omega arith) (omega (arith, c.in-Ok.ensures.held.short)) (omega arith) }

-- `crc32::both_agree` meets its contract: each of the two is the model's checksum.
use mathlib.Core.Path.{◌≡◌}
use mathlib.Core.Bool.{true}
use Prim.Native.Nat.{ℕ}
use lib.Dec.{eqb, eqb_refl}
use Rattle.basic_laws.specs.Tests.{of_T}
use Rattle.crc32.proofs.both_agree.Goals as goal

agree : {r q x : ℕ} → r ≡ x → q ≡ x → eqb r q ≡ true
agree {x = x} e f = rw (e, f) (of_T (eqb x x) (eqb_refl x))

pub returns : goal.returns
returns c = agree c.hash.ensures.0 c.hash_bit_by_bit.ensures.0

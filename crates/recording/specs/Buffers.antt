-- The bytes into which the names of a recording entry point: the image stands in front, the given names behind it.
use Rattle.std.specs.Prelude.{ℕ, ◌+◌, ◌≤◌, length, leb}
use Rattle.basics.specs.Base.{Bytes}
use Rattle.decode.specs.declared.Decoded.{Decoded}
use Rattle.handover.specs.Opening.{Opened}

-- A buffer with room for the image and three names, so short that spans can point everywhere in it.
pub record Roomy (image src : Bytes) : Type 0 where
  pub room : length image + 192 ≤ length src
  pub short : length src ≤ 0xFFFF

-- An image that is read, with an output of `least` bytes at the least, and such a buffer for it.
pub record Buffered (image : Bytes) (least out : ℕ) (o : Decoded) (src : Bytes) : Type 0 where
  pub opens : Opened image (leb least out) o
  pub roomy : Roomy image src

-- `wal::held_to` meets its contract: the payload's checksum against the one that stands before it. A slice's elements are bytes.
use mathlib.Core.Path.{refl, sym, ◌∙◌}
use native.Mathlib.Omega.{arith}
use Rattle.wal.proofs.Heads.{wrong_crc, is-entry}
use Rattle.wal.proofs.held_to.Goals as goal

pub returns-then-u32_at-sum : goal.returns-then-u32_at-sum
returns-then-u32_at-sum c = record {
  entry = wrong_crc c.requires.0 (λ i. omega (arith, c.type_inv.log i)) c.requires.1 (omega arith) (λ q. c.if-u32_at-sum.true (c.u32_at.ensures ∙ q));
  same = tt;
}

pub returns : goal.returns
returns c = record {
  entry = is-entry c.requires.0 (λ i. omega (arith, c.type_inv.log i)) c.requires.1 (omega arith) (sym c.u32_at.ensures ∙ c.if-u32_at-sum.false);
  same = refl;
}

-- `field::read_field` meets its contract, one lemma for each answer. The length is right since a slice's elements are bytes.
use mathlib.Core.Path.{◌∙◌}
use native.Mathlib.Omega.{arith}
use Rattle.field.proofs.Reading.{headless, valueless, stands}
use Rattle.field.proofs.Numbers.{number-two}
use Rattle.field.proofs.read_field.Goals as goal

pub returns-then-saturating_sub-lt3 : goal.returns-then-saturating_sub-lt3
returns-then-saturating_sub-lt3 c = headless (omega arith)

pub returns-then-s-start : goal.returns-then-s-start
returns-then-s-start c = valueless (omega arith) (c.from-len.ensures ∙ c.from_le_bytes.ensures ∙ number-two _ _) (omega arith)

pub returns : goal.returns
returns c = stands (omega arith) (c.from-len.ensures ∙ c.from_le_bytes.ensures ∙ number-two _ _) (λ i. omega (arith, c.type_inv.s i)) (omega arith)

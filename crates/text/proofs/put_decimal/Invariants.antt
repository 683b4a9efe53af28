-- `put_decimal` meets its contract: the last digit is stored first. The invariant: the first i digits are left to write.
use Rattle.text.proofs.Decimal.{Spelling}
use Rattle.text.proofs.put_decimal.Given as goal

abbrev pub invariant-loop-i : goal.invariant-loop-i
invariant-loop-i l = Spelling l.n l.at l.initial.out l.out l.rest l.i

-- The bytes before the place that is written next are those that the reader gave.
use Rattle.std.proofs.Common.{length, ◌-◌}
use Rattle.input.proofs.Filling.{Filling}
use Rattle.input.proofs.read_full.Given as goal

abbrev pub invariant-loop-n : goal.invariant-loop-n
invariant-loop-n g l = Filling (g.R.Read.remaining l.fn.reader) (g.R.Read.remaining l.reader) (length l.initial.buf) l.buf l.n

abbrev pub decreases-loop-n : goal.decreases-loop-n
decreases-loop-n g l = length l.initial.buf - l.n

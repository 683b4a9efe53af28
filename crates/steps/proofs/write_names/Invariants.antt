-- `steps::write_names`: the names before the k-th are written.
use Rattle.steps.proofs.Joined.{Joining}
use Rattle.steps.proofs.write_names.Given as goal

abbrev pub invariant-loop-k : goal.invariant-loop-k
invariant-loop-k l = Joining l.src l.names l.initial.out l.k l.at l.out

-- `paths::common_prefix` meets its contract. The loop's invariant: the bytes passed agree.
use mathlib.Core.Path.{◌≡◌}
use lib.ListN.{length}
use Rattle.paths.proofs.Prefix.{Agree}
use Rattle.paths.proofs.common_prefix.Given as goal

abbrev pub invariant-loop-x : goal.invariant-loop-x
invariant-loop-x l = record {
  turns : l.n ≡ length l.yielded;
  agree : Agree l.a l.b (length l.yielded);
}

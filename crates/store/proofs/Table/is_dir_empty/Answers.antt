-- `is_dir_empty`: the node where the directory's files start is none of its.
use native.Mathlib.Omega.{arith}
use Rattle.std.proofs.Common.{rules, of_calls}
use Rattle.store.proofs.Live.{blank}
use Rattle.store.proofs.Files.{vacant_next}
use Rattle.store.proofs.Table.is_dir_empty.Goals as goal

pub returns : goal.returns
returns c =
    let a = c.get-next.ensures.lookup in
    vacant_next c.requires.0 c.files_from-i.ensures (λ x. x.now) _ _ _ _ c.deref.ensures.0 a.3 (a.4 (omega arith) blank) c.is_none_or.ensures (λ x p. search (rules, of_calls))

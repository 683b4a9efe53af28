-- `running::run_commit`.
use Rattle.std.proofs.lemmas.Result.{err_from_is_err_and}
use Rattle.running.proofs.Plans.{committable, commit_refused, commit_leaves}
use Rattle.running.proofs.run_commit.Goals as goal

pub commit-committed-requires : goal.commit-committed-requires
commit-committed-requires c = committable c.requires

pub returns-in_err-committed : goal.returns-in_err-committed
returns-in_err-committed c =
    let p = err_from_is_err_and c.from_residual.result c.from_residual.ensures.1 in
    let f = rw c.in_err-committed.was at c.commit-committed.ensures.found in
    rw (p.1, p.2) (commit_refused c.args.image.now c.args.store c.args.budget c.args.end f.0)

pub returns : goal.returns
returns c =
    let f = rw c.in_ok-committed.was at c.commit-committed.ensures.found in
    commit_leaves c.args.image.now c.args.store c.args.budget c.args.end c.commit-committed.ensures.sound f.0 f.1

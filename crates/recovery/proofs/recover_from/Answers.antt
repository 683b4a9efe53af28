-- `recover_from`: by the status.
use mathlib.Core.Path.{refl, ap, ◌∙◌}
use Rattle.std.specs.Prelude.{None, Some}
use Rattle.std.proofs.lemmas.Result.{err_from_is_err_and}
use Rattle.basics.specs.declared.Status.TheVariants.{Recording, Held}
use Rattle.recovery.proofs.Follow.{last-part}
use Rattle.recovery.proofs.Recovering.{recovers, undoes, refuses}
use Rattle.recovery.proofs.recover_from.Goals as goal
use Rattle.recovery.proofs.recover_from.Goals.{in-Recording, in-Held}

pub returns-in_default : goal.returns-in_default
returns-in_default c = recovers (c.begun-run.ensures.begins c.args.src.now c.requires.0) c.args.status None c.in_default.is refl refl c.recover_absent.ensures

pub returns-in_err-refusal_of-in-Committing : goal.returns-in_err-refusal_of-in-Committing
returns-in_err-refusal_of-in-Committing c =
    let p = err_from_is_err_and c.from_residual.result c.from_residual.ensures.1 in
    rw (p.1, p.2)
    (refuses (c.begun-run.ensures.begins c.args.src.now c.requires.0) c.args.status (c.in-Some.is ∙ ap Some c.in-Committing.is)
    c.read_log-w.result c.read_log-w.ensures.1 _ c.in_err-refusal_of-in-Committing.ensures)

pub returns-in-Committing : goal.returns-in-Committing
returns-in-Committing c =
    undoes (c.begun-run.ensures.begins c.args.src.now c.requires.0) c.args.status (c.in-Some.is ∙ ap Some c.in-Committing.is)
    c.read_log-w.result c.read_log-w.ensures.1 c.in_ok-refusal_of-in-Committing.ensures c.cause-cause.ensures c.recover_committing.ensures

pub returns : goal.returns
returns c =
    elim c.match-status-2.branch [
      | in-Recording w ↦
          recovers (c.begun-run.ensures.begins c.args.src.now c.requires.0) c.args.status (Some Recording) (c.in-Some.is ∙ ap Some w.in-Recording.is) refl refl (rw w.run-is w.clean_up.ensures)
      | in-Held w ↦
          recovers (c.begun-run.ensures.begins c.args.src.now c.requires.0) c.args.status (Some Held) (c.in-Some.is ∙ ap Some w.in-Held.is) refl refl (rw w.run-is (last-part w.cleanup_staging_dir.ensures))
    ]

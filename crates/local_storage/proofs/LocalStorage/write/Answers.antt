-- `write` meets its contract.
use mathlib.Core.Path.{sym, ◌∙◌}
use mathlib.Core.Bool.{◌&&◌}
use Rattle.basics.specs.Name.{valid_name, lower}
use Rattle.model.specs.Record.{record_write}
use Rattle.local_storage.specs.Recording.{can_stage}
use Rattle.local_storage.proofs.Stagings.{few-staged, marked_write}
use Rattle.local_storage.proofs.Outcomes.{admitted, holds, not-admitted, fails, accepted, all-three}
use Rattle.local_storage.proofs.Givens.{no-write-key, no-staged}
use Rattle.local_storage.proofs.LocalStorage.write.Goals as goal
use Rattle.local_storage.proofs.LocalStorage.write.Goals.{in_default-2-via-in-Some+in-Some+in_default, in_default-2-via-in-Some+in_default, in_default-2-via-in_default}

pub returns-in-Err : goal.returns-in-Err
unfolding record_write
returns-in-Err c = λ n m f w. not-admitted c.requires.0.sound c.refuse.ensures _ _ c.admit.ensures c.in-Err.is

pub returns-in_default-2 : goal.returns-in_default-2
unfolding record_write
returns-in_default-2 c = λ n m f w.
    admitted _ _ c.admit.ensures c.in_default.is (fails c.requires.0.sound c.refuse-in_default-2.ensures {t = valid_name n && valid_name (lower m) && valid_name f} _ (
    elim c.in_default-2.branch [
      | in_default-2-via-in-Some+in-Some+in_default z ↦ no-staged c.args.src.now n m f c.args.collection c.args.key (rw z.in_default-2.is-2 at w)
      | in_default-2-via-in-Some+in_default z ↦ no-write-key c.args.src.now n m f c.args.collection c.args.staged (rw z.in_default-2.is-1 at w)
      | in_default-2-via-in_default z ↦ rw z.in_default-2.is-0 at w
    ]))

pub returns-then-not-can_stage : goal.returns-then-not-can_stage
unfolding record_write can_stage
returns-then-not-can_stage c = λ n m f w.
    let g = rw (c.in-Some-Some-Some.is-0, c.in-Some-Some-Some.is-1, c.in-Some-Some-Some.is-2) at w in
    let x = g.0 in
    let y = g.1.0 in
    let z = g.1.1 in
    rw (← z.1.same) (admitted _ _ c.admit.ensures c.in_default.is (holds 6 _ (all-three x.0 y.0 (rw (← z.1.same) at z.0)) (fails c.requires.0.sound c.refuse-then-not-can_stage.ensures _ (sym c.can_stage.ensures ∙ c.if-not-can_stage.true))))

pub stage-requires : goal.stage-requires
stage-requires c = ((c.requires.0.sound.staging, rw c.in-Some-Some-Some.is-2 at c.requires.1.1.1), few-staged _ _ _ (sym c.can_stage.ensures ∙ c.if-not-can_stage.false))

pub returns : goal.returns
unfolding record_write can_stage
returns c = λ n m f w.
    let g = rw (c.in-Some-Some-Some.is-0, c.in-Some-Some-Some.is-1, c.in-Some-Some-Some.is-2) at w in
    let x = g.0 in
    let y = g.1.0 in
    let z = g.1.1 in
    let d = c.stage.ensures c.requires.0.sound in
    rw (← x.1.same, ← y.1.same, ← z.1.same)
    (admitted _ _ c.admit.ensures c.in_default.is (holds 6 _ (all-three (rw (← x.1.same) at x.0) (rw (← y.1.same) at y.0) (rw (← z.1.same) at z.0)) (holds 10 _ (sym c.can_stage.ensures ∙ c.if-not-can_stage.false)
    (accepted d.sound c.accept.ensures (x.1.sound, (y.1.sound, z.1.sound)) (marked_write _ _ _ d c.exists-stood.ensures)))))

-- `trace::behind`: what the run up to the next step answers.
use mathlib.Core.Path.{◌≡◌, sym, ap, ◌∙◌}
use Rattle.std.specs.Prelude.{Result}
use Rattle.std.proofs.lemmas.Bool.{eqb-true}
use Prim.Native.Nat.{ℕ}
use lib.ListN.{take, length-replicate}
use Rattle.refusals.specs.Numbers.{told}
use Rattle.refusals.specs.declared.Refusal.{Refusal}
use Rattle.handover.specs.Handing.{handed}
use Rattle.trace.proofs.Meeting.{fresh-along, fresh-refused}
use Rattle.trace.proofs.Feeding.{number-behind, field-behind}
use Rattle.trace.proofs.behind.Goals as goal
use Rattle.trace.proofs.behind.Goals.{in-Ok, in-Err+else-not-is_past_end}

pub returns-then-not-is_past_end : goal.returns-then-not-is_past_end
returns-then-not-is_past_end c =
    let e = number-behind c.args.image.now c.args.n (length-replicate {A = ℕ} 19_390 0) (length-replicate {A = ℕ} 197 0) (c.run_steps-done.ensures 0 0) in
    fresh-refused c.args.image.now c.args.n e c.in-Err.refusal (ap told c.in-Err.is) (sym c.is_past_end.ensures ∙ c.if-not-is_past_end.true)

pub returns : goal.returns
returns c =
    let g = c.run_steps-done.ensures 0 0 in
    let e = number-behind c.args.image.now c.args.n (length-replicate {A = ℕ} 19_390 0) (length-replicate {A = ℕ} 197 0) g in
    let f = field-behind c.args.image.now c.args.n (length-replicate {A = ℕ} 19_390 0) (length-replicate {A = ℕ} 197 0) g in
    let items = λ (p : c.match-done.len ≡ (handed c.run_steps-done.result (0, 0)).1). c.truncate.ensures ∙ ap (take c.match-done.len) c.from-field.ensures.0 ∙ ap (λ (k : ℕ). take k c.run_steps-done.new.step) p ∙ f in
    elim c.match-done.branch [
      | in-Ok w ↦
          fresh-along c.args.image.now c.args.n e c.truncate.new.self (items (w.len-is ∙ ap (λ (r : Result (ℕ × ℕ) Refusal). (handed r (0, 0)).1) (sym w.in-Ok.is))) (λ z. absurd (z (ap told w.in-Ok.is)))
      | in-Err+else-not-is_past_end w ↦
          fresh-along c.args.image.now c.args.n e c.truncate.new.self (items (w.len-is ∙ ap (λ (r : Result (ℕ × ℕ) Refusal). (handed r (0, 0)).1) (sym w.in-Err.is)))
          (λ z. ap told w.in-Err.is ∙ eqb-true _ 16 (sym w.is_past_end.ensures ∙ w.if-not-is_past_end.false))
    ]

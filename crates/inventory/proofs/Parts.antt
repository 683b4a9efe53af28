-- Parts of a text, put one behind the other.
use mathlib.Core.Path.{◌≡◌, refl, ap, subst, ◌∙◌}
use mathlib.Core.List.{◌++◌}
use Prim.Native.Nat.{ℕ, ◌+◌, ◌≤◌, ◌<◌}
use native.Mathlib.Omega.{arith}
use lib.ListN.{length, length-append}
use Rattle.basics.specs.Base.{Bytes}
use Rattle.field.specs.Writing.{written}
use Rattle.field.proofs.Written.{length-written, written-written}
use Rattle.inventory.specs.Putting.{Puts}

-- Bytes that were written are put; where none are, nothing is done.
pub put : {text out after : Bytes} {at end : ℕ} → after ≡ written at text out → end ≡ at + length text → Puts text at out after end
put {text} {out} {after} {at} e n = record { next = n; size = ap length e ∙ length-written at text out; same = λ h. e }

pub no_room : {text out : Bytes} {at end : ℕ} → length out < at + length text → end ≡ at + length text → Puts text at out out end
no_room {text} {out} {at} h n = record { next = n; size = refl; same = λ r. absurd (omega arith) }

-- A part, and what follows it.
pub joined : {a b out mid after : Bytes} {at p end : ℕ} → Puts a at out mid p → Puts b p mid after end → Puts (a ++ b) at out after end
joined {a} {b} {out} {mid} {after} {at} {p} {end} x y =
    let l = length-append a b in
    record {
      next = omega (arith, x.next, y.next);
      size = y.size ∙ x.size;
      same = λ h.
          y.same (omega (arith, x.next, x.size)) ∙ ap (written p b) (x.same (omega arith))
          ∙ written-written at p a b out x.next (omega (arith, x.next));
    }

-- In a loop: what is left to put, over what stands, gives what the whole gives.
pub record Left (whole : Bytes) (at : ℕ) (out : Bytes) (rest : Bytes) (p : ℕ) (now : Bytes) : Type 0 where
  pub next : p + length rest ≡ at + length whole
  pub size : length now ≡ length out
  pub same : at + length whole ≤ length out → written p rest now ≡ written at whole out

pub all_left : {whole out : Bytes} {at : ℕ} → Left whole at out whole at out
all_left = record { next = refl; size = refl; same = λ h. refl }

pub part-put : {whole out a rest now mid : Bytes} {at p q : ℕ} → Left whole at out (a ++ rest) p now → Puts a p now mid q → Left whole at out rest q mid
part-put {whole} {out} {a} {rest} {now} {mid} {at} {p} {q} w x =
    let l = length-append a rest in
    record {
      next = omega (arith, w.next, x.next);
      size = x.size ∙ w.size;
      same = λ h.
          ap (written q rest) (x.same (omega (arith, w.next, w.size)))
          ∙ written-written p q a rest now x.next (omega (arith, w.next, w.size, x.next)) ∙ w.same h;
    }

pub last-put : {whole out rest now after : Bytes} {at p q : ℕ} → Left whole at out rest p now → Puts rest p now after q → Puts whole at out after q
last-put w x = record {
  next = omega (arith, w.next, x.next);
  size = x.size ∙ w.size;
  same = λ h. x.same (omega (arith, w.next, w.size)) ∙ w.same h;
}

-- The same text.
pub as_text : {a b out after : Bytes} {at end : ℕ} → a ≡ b → Puts a at out after end → Puts b at out after end
as_text {out = out} {after} {at} {end} e x = subst (λ (t : Bytes). Puts t at out after end) e x

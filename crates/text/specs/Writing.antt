-- What a text leaves in the lent output.
use Rattle.std.specs.Prelude.{◌≡◌, ◌++◌, ℕ, ◌≤◌, length, drop, leb, if◌then◌else◌, Option, None, Some}
use Rattle.std.proofs.Common.{◌∙◌, le-leb}
use Rattle.basics.specs.Base.{Bytes}
use Rattle.field.specs.Writing.{written}
use Rattle.field.proofs.Written.{written-front}

-- 01, Sixteen numbers: "An answer says how many bytes were written; the lent output keeps its bytes behind them." A text that has no room is not
-- written, and then there is no number.
unfoldable pub written_count : Bytes → Bytes → Option ℕ
written_count text out = if leb (length text) (length out) then Some (length text) else None

pub record Writes (text out after : Bytes) (n : Option ℕ) : Type 0 where
  pub count : n ≡ written_count text out
  pub same : after ≡ written 0 text out

-- Where the text has room, it stands at the front, and the bytes behind it are as they were.
pub in_room_lem : {text out after : Bytes} {n : Option ℕ} → Writes text out after n → length text ≤ length out → (n ≡ Some (length text)) × (after ≡ text ++ drop (length text) out)
unfolding written_count
in_room_lem {text} {out} e h = (e.count ∙ rw (le-leb (length text) (length out) h), e.same ∙ written-front text out h)

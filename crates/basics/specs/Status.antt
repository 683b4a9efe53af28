-- A log's status and the byte that stands for it. 01, How a store is handed over: "status (0x00 Recording, 0x01 Committing)"; 02, item 6: "status 0x02, Held".
use Rattle.std.specs.Prelude.{◌≡◌, ℕ, ◌<◌, Result, MatchResult}
use Rattle.basics.specs.declared.Status.{Status}
use Rattle.basics.specs.declared.Status.TheVariants.{Recording, Committing, Held}
use Rattle.basics.specs.declared.UnknownStatus.{UnknownStatus}

abbrev pub status_byte : Status → ℕ
status_byte Recording = 0
status_byte Committing = 1
status_byte Held = 2

-- The status that a byte stands for. 02, item 6: a byte "above 0x02" stands for none.
abbrev pub NamesStatus : ℕ → Result Status UnknownStatus → Type 0
NamesStatus byte r = MatchResult r (λ status. byte ≡ status_byte status) (λ _. 2 < byte)

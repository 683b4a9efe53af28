-- What an entry hands on where its work was done.
use Rattle.std.specs.Prelude.{ℕ, Bool, Result, Ok, Err, if◌then◌else◌}
use Rattle.refusals.specs.declared.Refusal.{Refusal}

-- 1 is yes, 0 is no.
abbrev pub yes_or_no : Result Bool Refusal → Result ℕ Refusal
yes_or_no (Ok b) = Ok (if b then 1 else 0)
yes_or_no (Err e) = Err e

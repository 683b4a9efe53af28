-- The numbers of the exported entries.
use Rattle.std.specs.Prelude.{◌≡◌, ℕ, Option, None, Some, Result, Ok, Err}
use Rattle.questions.specs.declared.calls.Call.{Call}
use Rattle.questions.specs.declared.calls.Call.TheVariants as call
use Rattle.questions.specs.declared.calls.NoEntry.{NoEntry}

abbrev pub call_number : Call → ℕ
call_number call.Begin = 1
call_number call.Write = 2
call_number call.Delete = 3
call_number call.DeleteAll = 4
call_number call.CreateCollection = 5
call_number call.DeleteCollection = 6
call_number call.CopyCollection = 7
call_number call.Rollback = 8
call_number call.Commit = 9
call_number call.CommitStep = 10
call_number call.HasPendingWork = 11
call_number call.Recover = 12
call_number call.RecoverStep = 13
call_number call.ListKeys = 14
call_number call.FindBackup = 15
call_number call.LogCause = 16
call_number call.Inventory = 17
call_number call.Hold = 18
call_number call.HoldStep = 19
call_number call.Keep = 20
call_number call.KeepStep = 21
call_number call.Revert = 22
call_number call.RevertStep = 23
call_number call.CanonicalLog = 24
call_number call.DeleteKeys = 25
call_number call.Rotate = 26

-- The entry that a byte stands for; none where no entry has this number.
abbrev pub IsCall : ℕ → Option Call → Type 0
IsCall byte None = (c : Call) → byte ≡ call_number c → ⊥
IsCall byte (Some c) = byte ≡ call_number c

abbrev pub NamesCall : ℕ → Result Call NoEntry → Type 0
NamesCall byte (Ok c) = byte ≡ call_number c
NamesCall byte (Err e) = (c : Call) → byte ≡ call_number c → ⊥

-- The numbers of the refusals. 01, Sixteen numbers: "Each refusal has a number, tested in this order"; 02 gives 17 to 21.
use Rattle.std.specs.Prelude.{ℕ, Option, None, Some, Result, Ok, Err}
use Rattle.refusals.specs.declared.Refusal.{Refusal}
use Rattle.refusals.specs.declared.Refusal.TheVariants as code

abbrev pub number_of : Refusal → ℕ
number_of code.InvalidImage = 1
number_of code.OutputTooShort = 2
number_of code.TransactionBusy = 3
number_of code.NoTransaction = 4
number_of code.TooManyOperations = 5
number_of code.InvalidName = 6
number_of code.CollectionNotFound = 7
number_of code.KeyNotFound = 8
number_of code.CollectionExists = 9
number_of code.StagingRefused = 10
number_of code.UndecodablePayload = 11
number_of code.LogTooLong = 12
number_of code.Corruption = 13
number_of code.StepFailed = 14
number_of code.StoreFull = 15
number_of code.PastTheEnd = 16
number_of code.HeldUpdate = 17
number_of code.NothingHeld = 18
number_of code.CurrentMissing = 19
number_of code.NextMissing = 20
number_of code.NoWholeLog = 21

-- The number for a refusal if there is one, 0 for none.
abbrev pub number_if : Option Refusal → ℕ
number_if None = 0
number_if (Some r) = number_of r

-- The number for work that is done or refused: 0 is done.
abbrev pub told : {A : Type 0} → Result A Refusal → ℕ
told (Ok a) = 0
told (Err r) = number_of r

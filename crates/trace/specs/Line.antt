-- The line that the program step_trace writes for any input. 02, item 10: "A program reads a store image and, straight after it, step fields 0x20 to 0x2E,
-- and writes one line."
use Rattle.std.specs.Prelude.{List, [], ◌∷◌, ◌++◌, ℕ, zero, suc, ◌+◌, length, take, drop, leb, if◌then◌else◌}
use Rattle.basics.specs.Base.{Bytes, case_option, if_empty, same_bytes}
use Rattle.basics.specs.Field.{from_little_endian}
use Rattle.model.specs.Image.{decode}
use Rattle.model.specs.Step.{Step, step_field}
use Rattle.model.specs.Plan.{commit_plan}
use Rattle.model.specs.Record.{transaction}
use Rattle.answers.specs.Answers.{decimal}

-- "An image is at its end where a tag above 0x14 or the input's end comes." How many bytes the image has; the first m go on with a field.
unfoldable pub image_length : ℕ → Bytes → ℕ
image_length zero [] = 0
image_length (suc m) [] = 0
image_length (suc m) (x ∷ l) = suc (image_length m l)
image_length zero (t ∷ l) = if leb t 0x14 then suc (image_length (2 + from_little_endian (take 2 l)) l) else 0

-- A word, a number in decimal, a line feed.
unfoldable pub said : Bytes → ℕ → Bytes
said word n = word ++ 0x20 ∷ decimal 10 n ++ 0x0A ∷ []

-- "steps", "differs at", "answer".
abbrev pub steps_line : ℕ → Bytes
steps_line = said (0x73 ∷ 0x74 ∷ 0x65 ∷ 0x70 ∷ 0x73 ∷ [])

abbrev pub differs_line : ℕ → Bytes
differs_line = said (0x64 ∷ 0x69 ∷ 0x66 ∷ 0x66 ∷ 0x65 ∷ 0x72 ∷ 0x73 ∷ 0x20 ∷ 0x61 ∷ 0x74 ∷ [])

abbrev pub answer_line : ℕ → Bytes
answer_line = said (0x61 ∷ 0x6E ∷ 0x73 ∷ 0x77 ∷ 0x65 ∷ 0x72 ∷ [])

-- "If the fields are the first N steps of this image's commit plan it writes "steps N". Otherwise it writes "differs at N", the first place that isn't the
-- plan's, counted from 1; a field cut short or past the plan's end differs." Here n steps were met, and these are the plan and the bytes behind them.
abbrev pub compared : ℕ → List Step → Bytes → Bytes
compared n [] l = if_empty l (steps_line n) (differs_line (suc n))
compared n (x ∷ plan) l =
    if_empty l (steps_line n)
    (if same_bytes (step_field x) (take (length (step_field x)) l) then compared (suc n) plan (drop (length (step_field x)) l) else differs_line (suc n))

-- "Where the commit would give 1 or 4 it writes "answer 1" or "answer 4"." The line of an image and what stands behind its first n steps.
unfoldable pub line_from : Bytes → ℕ → Bytes → Bytes
line_from image n l =
    case_option (decode image) (answer_line 1) λ s. case_option (transaction s) (answer_line 4) λ ops. compared n (drop n (commit_plan s)) l

unfoldable pub trace_line : Bytes → Bytes
trace_line b = line_from (take (image_length 0 b) b) 0 (drop (image_length 0 b) b)

-- How many digits a number has.
use Rattle.std.specs.Prelude.{◌≡◌, ℕ, ◌≤◌, length}
use Rattle.answers.specs.Answers.{decimal}

-- A number has so many digits, and needs no more places.
pub record Digits (n k : ℕ) : Type 0 where
  pub bound : k ≤ 10
  pub same : decimal k n ≡ decimal 10 n
  pub size : length (decimal k n) ≡ k

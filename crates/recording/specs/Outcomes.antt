-- What holds of an outcome, through the tests that come before it: 01, Sixteen numbers.
use Rattle.std.specs.Prelude.{Bool, true, false, List, ℕ, length, leb, if◌then◌else◌}
use Rattle.std.proofs.Math.Option.{Option, none, some}
use Rattle.basics.specs.Limits.{op_limit}
use Rattle.basics.specs.Base.{case_option}
use Rattle.model.specs.Operation.{Op}
use Rattle.model.specs.Store.{Store}
use Rattle.model.specs.Record.{Outcome, refuse, transaction, require, record_into}

module _ (P : Outcome → Type 0) where
  -- What follows 4; a test that refuses; 4 and 5; a test that passes.
  pub found : (s : Store) (next : List Op → Outcome) → P (refuse 4) → ((ops : List Op) → P (next ops)) → P (case_option (transaction s) (refuse 4) next)
  found s next i h = go (transaction s)
    where
      go : (o : Option (List Op)) → P (case_option o (refuse 4) next)
      go none = i
      go (some ops) = h ops

  pub unless : (b : Bool) (n : ℕ) (next : Outcome) → P (refuse n) → P next → P (if b then refuse n else next)
  unless true n next i h = i
  unless false n next i h = h

  pub into : (s : Store) (next : Outcome) → P (refuse 4) → P (refuse 5) → P next → P (record_into s next)
  into s next f e h = found s (λ ops. if leb op_limit (length ops) then refuse 5 else next) f (λ ops. unless (leb op_limit (length ops)) 5 next e h)

  pub test : (b : Bool) (n : ℕ) (next : Outcome) → P (refuse n) → P next → P (require b n next)
  test true n next i h = h
  test false n next i h = i

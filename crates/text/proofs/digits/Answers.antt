-- `digits` meets its contract: the logarithm to ten is one less than the digits, and 0 has one digit.
use Rattle.text.proofs.Decimal.{by-logarithm}
use Rattle.text.proofs.digits.Goals as goal

pub returns : goal.returns
returns c =
    let e = c.checked_ilog10.ensures in
    rw c.unwrap_or.ensures (by-logarithm c.checked_ilog10.result e.none e.power_le e.next_power_gt e.bound)

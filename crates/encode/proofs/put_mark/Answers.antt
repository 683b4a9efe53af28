-- `encode::put_mark` meets its contract.
use mathlib.Core.Path.{sym}
use native.Mathlib.Omega.{arith}
use Rattle.basics.specs.Field.{little_endian, encode_field, encode_fields}
use Rattle.field.proofs.Written.{written-nil}
use Rattle.encode.proofs.put_mark.Goals as goal

pub returns-then-mark : goal.returns-then-mark
unfolding encode_fields encode_field little_endian
returns-then-mark c = rw c.if-mark.true (record { same = c.put_field_head.ensures; place = omega arith })

pub returns : goal.returns
unfolding encode_fields
returns c = rw c.if-mark.false (record { same = sym (written-nil _ _); place = omega arith })

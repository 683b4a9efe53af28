-- `encode::put_numbered` meets its contract: the number's bytes stand in front of the name.
use mathlib.Core.Path.{ap, ◌∙◌}
use mathlib.Core.List.{◌++◌}
use Rattle.basics.specs.Base.{Bytes}
use Rattle.basics.specs.Field.{encode_field}
use Rattle.spans.specs.Spans.{name_of}
use Rattle.field.specs.Writing.{written, field}
use Rattle.field.proofs.Numbers.{bytes-four}
use Rattle.encode.proofs.put_numbered.Goals as goal

pub returns : goal.returns
returns c =
    c.put_fronted_field.ensures
    ∙ ap (λ (b : Bytes). written c.args.at (encode_field (field c.args.tag (b ++ name_of c.args.src.now c.args.name))) c.args.out.now) (c.to_le_bytes.ensures ∙ bytes-four c.args.number)

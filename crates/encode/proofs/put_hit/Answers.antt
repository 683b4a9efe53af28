-- `encode::put_hit` meets its contract.
use mathlib.Core.Path.{ap, ◌∙◌}
use Rattle.std.specs.Prelude.{Some}
use Rattle.encode.proofs.Hits.{file-put, dir-put, none-put}
use Rattle.encode.proofs.put_hit.Goals as goal

pub returns-in_default : goal.returns-in_default
returns-in_default c = rw c.in_default.is (none-put c.args.src.now c.args.out.now)

pub put_name_field-requires : goal.put_name_field-requires
put_name_field-requires c = (rw (c.in-Some.is ∙ ap Some c.in-File.is) at c.requires.0).dir

pub put_numbered-requires : goal.put_numbered-requires
put_numbered-requires c = (rw (c.in-Some.is ∙ ap Some c.in-File.is) at c.requires.0).file

pub put_name_field-requires-in-Directory : goal.put_name_field-requires-in-Directory
put_name_field-requires-in-Directory c = rw (c.in-Some.is ∙ ap Some c.in-Directory.is) at c.requires.0

pub returns-in-File : goal.returns-in-File
returns-in-File c =
    let is = c.in-Some.is ∙ ap Some c.in-File.is in
    rw is (file-put (rw is at c.requires.0) (rw is at c.requires.1) c.length_of-at.ensures.0 c.length_of.ensures.0 c.put_name_field.ensures c.put_numbered.ensures)

pub returns-in-Directory : goal.returns-in-Directory
returns-in-Directory c =
    let is = c.in-Some.is ∙ ap Some c.in-Directory.is in
    rw is (dir-put (rw is at c.requires.0) c.length_of-in-Directory.ensures.0 c.put_name_field-in-Directory.ensures)

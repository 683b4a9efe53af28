-- `encode::put_node` meets its contract: a staging file, a directory or a file.
use mathlib.Core.Path.{sym, ◌∙◌}
use mathlib.Core.Bool.{false≢true}
use borrow.Author.Tests.{eq-eqb, eqb-true}
use Rattle.encode.proofs.Shapes.{dir-field, file-field}
use Rattle.encode.proofs.put_node.Goals as goal

pub returns-then-is_dir : goal.returns-then-is_dir
returns-then-is_dir c = rw (dir-field c.requires c.if-staged.false (eqb-true _ 0 (sym c.is_dir.ensures.by_length ∙ c.if-is_dir.true))) c.put_name_field.ensures

pub returns-else-is_dir : goal.returns-else-is_dir
returns-else-is_dir c = rw (file-field c.requires c.if-staged.false (λ z. false≢true (sym (sym c.is_dir.ensures.by_length ∙ c.if-is_dir.false) ∙ eq-eqb _ 0 z))) c.put_numbered-else-is_dir.ensures

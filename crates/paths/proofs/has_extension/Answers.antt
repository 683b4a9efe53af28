-- `paths::has_extension` meets its contract: the last bytes are compared.
use mathlib.Core.Path.{◌∙◌}
use borrow.Author.Tests.{lt-ltb}
use Rattle.basic_laws.specs.NameLaws.{ends_in}
use Rattle.paths.proofs.Same.{turned}
use Rattle.paths.proofs.has_extension.Goals as goal

pub returns-then-dotted-s : goal.returns-then-dotted-s
unfolding ends_in
returns-then-dotted-s c = c.ends_with.ensures.value ∙ rw (lt-ltb _ _ c.if-dotted-s.true) (turned c.args.dotted.now _)

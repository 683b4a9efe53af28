use mathlib.Core.Path.{refl}
use Rattle.questions.specs.Layout.{lent_bytes}
use Rattle.questions.proofs.Walks.{unwrapped}
use Rattle.questions.proofs.layout.value.Goals as goal

pub returns : goal.returns
returns c = (lent_bytes c.find.result, c.find.ensures, rw c.unwrap_or.ensures (unwrapped c.find.result _ refl))

-- `add_key` meets its contract: nothing for a repeated key, else an entry more.
use mathlib.Core.Path.{sym, ◌∙◌}
use Rattle.basics.specs.Name.{lower}
use Rattle.key_set.specs.Gathering.{lowered_in}
use Rattle.key_set.proofs.Gathers.{again, still-none, one_more}
use Rattle.key_set.proofs.add_key.Goals as goal

pub returns-then-is_repeated : goal.returns-then-is_repeated
returns-then-is_repeated c =
    λ collection start first set w room few g. (w, again g (lower c.args.key.now) (lowered_in c.args.before.now) (sym c.if-is_repeated.true ∙ c.is_repeated.ensures))

pub returns-in_default : goal.returns-in_default
returns-in_default c =
    λ collection start first set w room few g. (w, still-none g (lower c.args.key.now) (lowered_in c.args.before.now) (sym c.if-is_repeated.false ∙ c.is_repeated.ensures) c.in_default.is)

pub put_entry-requires : goal.put_entry-requires
put_entry-requires c = (c.requires.0, rw c.in-Some.is at c.requires.1.1.1)

pub returns : goal.returns
returns c =
    λ collection start first set w room few g. let p = c.put_entry.ensures collection w in (p.0, one_more g (lower c.args.key.now) (lowered_in c.args.before.now) _ (sym c.if-is_repeated.false ∙ c.is_repeated.ensures) c.in-Some.is room few p.1)

-- The small plans of commit, by what the code finds and does.
use mathlib.Core.Path.{◌≡◌, sym, subst}
use mathlib.Core.List.{List, [], ◌∷◌}
use mathlib.Core.Bool.{true, false}
use Rattle.basics.specs.Order.{Name}
use Rattle.basics.specs.Map.{look}
use Rattle.basics.specs.Base.{Bytes, is_some}
use Rattle.model.specs.Store.{Store}
use Rattle.model.specs.Operation.{Op}
use Rattle.model.specs.Step.{sync_directory}
use Rattle.model.specs.Plan.{sync_existing}
use Rattle.plans.specs.ModelPlans.{plain}
use Rattle.plans.specs.ModelPlans.{end_behind}
use Rattle.steps.specs.declared.Run.{Run}
use Rattle.steps.specs.CodeRuns.{Follows}
use Rattle.recovery.proofs.Picks.{present, absent}
use Rattle.commit.specs.declared.End.{End}
use Rattle.commit.specs.Commits.{end_of}

-- A directory is synced where it stands.
module _ (d : Name) (s : Store) where
  pub synced : is_some (look (d, []) s.tree) ≡ true → sync_directory d ∷ [] ≡ sync_existing d s
  unfolding sync_existing
  synced h = sym (present (look (d, []) s.tree) _ h)

  pub not-synced : is_some (look (d, []) s.tree) ≡ false → sync_existing d s ≡ []
  unfolding sync_existing
  not-synced h = absent (look (d, []) s.tree) _ h

-- The end of a commit, by which it is.
pub ends_as-told : (src : Bytes) (ops : List Op) {end told : End} {a c : Run} → end ≡ told → Follows plain src (end_behind (end_of told) ops) a c → Follows plain src (end_behind (end_of end) ops) a c
ends_as-told src ops {a = a} {c} e p = subst (λ (h : End). Follows plain src (end_behind (end_of h) ops) a c) (sym e) p

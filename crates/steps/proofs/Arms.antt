-- What the arms of a `match` on a step learn.
use mathlib.Core.Path.{◌≡◌, subst}
use Rattle.basics.specs.Base.{Bytes}
use Rattle.steps.specs.declared.Step.{Step}
use Rattle.steps.specs.Steps.{Names, SoundStep}

-- The names of the step in its arm.
pub names_of : {src : Bytes} {x y : Step} → SoundStep src x → x ≡ y → Names src y
names_of {src} s e = subst (Names src) e s.names

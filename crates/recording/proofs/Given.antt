-- What the methods ask of their names, by what was lent.
use mathlib.Core.Path.{◌≡◌, sym, ◌∙◌}
use mathlib.Core.List.{[]}
use native.Mathlib.Omega.{arith}
use lib.ListN.{length}
use Rattle.std.specs.Prelude.{Option, None, Some, IfSome}
use Rattle.basics.specs.Order.{Name}
use Rattle.basics.specs.Base.{Bytes}
use Rattle.basics.specs.Name.{valid_name, lower}
use Rattle.basic_laws.specs.ValidNames.{valid-named}
use Rattle.field.specs.Writing.{written}
use Rattle.spans.specs.Spans.{Sound, Given}
use Rattle.spans.specs.declared.NameRef.{NameRef}
use Rattle.store.specs.declared.Store.{Store}
use Rattle.steps.specs.Steps.{FileName}
use Rattle.steps.proofs.FileNames as files
use Rattle.lend.specs.Lending.{Lends}
use Rattle.lend.specs.declared.Named.{Named}
use Rattle.handover.specs.Opening.{Held}
use Rattle.recording.specs.Asking.{Asks}
use Rattle.recording.specs.Buffers.{Roomy}
use Rattle.recording.proofs.Lent.{Begins, copied, lent-next, lent-ready, lent-within, below, still, stands}

-- The three names of an entry, in bytes that begin with its image.
pub record Named3 (image src : Bytes) (a b d : Named) (c k f : Name) : Type 0 where
  pub begins : Begins image src
  pub collection : Given src a.name c
  pub key : Given src b.name (lower k)
  pub other : Given src d.name f

-- They were lent one behind the other; or there are none.
pub lent-names : {image out s₀ s₁ s₂ s₃ : Bytes} {a b d : Named} {c f : Name} (k : Name) → Roomy image out → s₀ ≡ written 0 image out → Lends (length image) c s₀ s₁ a →
    Lends a.end (lower k) s₁ s₂ b → Lends b.end f s₂ s₃ d → Named3 image s₃ a b d c k f
lent-names k r w x y z = record {
  begins = (lent-next (lent-next (lent-next (copied r w) x) y) z).begins;
  collection = stands (still (still (below x) (omega arith) y) y.starts z);
  key = stands (still (below y) (omega arith) z);
  other = stands (below z);
}

pub no_names : {image src : Bytes} {v : Named} → Begins image src → v.name ≡ None → Named3 image src v v v [] [] []
unfolding lower valid_name
no_names {src = src} {v} b e = record { begins = b; collection = none; key = none; other = none }
  where
    none : Given src v.name []
    none = rw e

pub asks : {image src : Bytes} {s : Store} {a b d : Named} {c k f : Name} → Named3 image src a b d c k f → Held image s → Asks src s a b d c k f
asks n h = record { ready = lent-ready n.begins h; within = lent-within n.begins h; collection = n.collection; key = n.key; other = n.other }

-- A given name lies in the bytes, if it is valid; then it is a file's, since it is not empty.
pub given-asks : (src : Bytes) (r : Option NameRef) (n : Name) → Given src r n → IfSome r (Sound src)
given-asks src None n g = tt
given-asks src (Some r) n g = g.1.sound

pub given-file : (src : Bytes) (r : Option NameRef) (n : Name) → Given src r n → IfSome r (FileName src)
given-file src None n g = tt
given-file src (Some r) n g = files.file-name g.1.sound (λ e. valid-named n g.0 (sym g.1.same ∙ e))

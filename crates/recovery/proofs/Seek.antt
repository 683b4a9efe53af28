-- The search for backups: what a walk through the nodes still has before it decides.
use Rattle.std.specs.Prelude.{if◌then◌else◌}
use mathlib.Core.Path.{◌≡◌, refl, sym, ap, subst, ◌∙◌}
use mathlib.Core.List.{List, [], ◌∷◌, map}
use Rattle.std.specs.List.{find}
use Rattle.basic_laws.specs.Tests.{All}
use Rattle.std.proofs.Math.Option.{none, some}
use Rattle.std.specs.Prelude.{Option, None, Some, is_some, option_map}
use mathlib.Core.Bool.{Bool, true, false}
use Prim.Native.Nat.{ℕ, ◌+◌, ◌≤◌, ◌<◌}
use native.Mathlib.Omega.{arith}
use lib.Dec.{ltb}
use lib.ListN.{length, drop, get_or}
use borrow.Author.Tests.{ltb-true, ltb-false}
use Rattle.basics.specs.Map as model
use Rattle.basics.specs.Base.{Bytes, same_bytes, first_of}
use Rattle.model.specs.Store.{first_backup, is_backup_file, in_backup_directory, is_hit, has_backup_files}
use Rattle.basic_laws.specs.Tests.{same_refl}
use Rattle.laws.specs.BackupLaws.{same_answer}
use Rattle.plans.proofs.MachineLaws.{clash}
use Rattle.spans.specs.Spans.{name_of, Sound}
use Rattle.spans.specs.declared.NameRef.{NameRef}
use Rattle.store.specs.declared.Node.{Node}
use Rattle.store.specs.declared.Table.{Table}
use Rattle.store.specs.Tables.{node_of, live, map_of, SoundNode, SoundTable}
use Rattle.store.proofs.Live.{blank, finished, sound-read, rest_read}
use Rattle.recovery.specs.declared.search.BackupHit.{BackupHit}
use Rattle.recovery.specs.declared.search.BackupHit.TheVariants as code
use Rattle.recovery.specs.Searches.{FirstOf, FindsBackup, hit_of}

-- A walk through a table ends at i: the first node that passes the test stands there, or the table has ended and none does.
pub record Stops (p : model.Node → Bool) (src : Bytes) (t : Table) (i : ℕ) : Type 0 where
  pub hit : i < length (live t) → first_of p (map_of src t) ≡ some (node_of src (get_or (live t) i blank))
  pub past : length (live t) ≤ i → first_of p (map_of src t) ≡ none

-- A walk has come to i, and no node before i passes the test p.
pub record Seek (p : model.Node → Bool) (src : Bytes) (t : Table) (i : ℕ) : Type 0 where
  pub sound : SoundTable src t
  pub within : i ≤ length (live t)
  pub same : first_of p (drop i (map_of src t)) ≡ first_of p (map_of src t)

pub start : {p : model.Node → Bool} {src : Bytes} {t : Table} → SoundTable src t → Seek p src t 0
start s = record { sound = s; within = omega arith; same = refl }

module _ {p : model.Node → Bool} {src : Bytes} {t : Table} {i : ℕ} (w : Seek p src t i) where
  pub none_left : length (live t) ≤ i → Stops p src t i
  none_left h = record { hit = λ l. absurd (omega arith); past = λ l. sym w.same ∙ ap (first_of p) (finished src t i h) }

  -- The node at i.
  module _ {x : Node} (at : x ≡ get_or (live t) i blank) (h : i < length (live t)) where
    pub node : SoundNode src x
    node = sound-read w.sound h at

    ahead : (if p (node_of src x) then some (node_of src x) else first_of p (drop (i + 1) (map_of src t))) ≡ first_of p (map_of src t)
    ahead = sym (ap (first_of p) (rest_read w.sound h at)) ∙ w.same

    pub passes : p (node_of src x) ≡ true → Stops p src t i
    passes e = record { hit = λ l. sym ahead ∙ rw e (ap (λ (y : Node). some (node_of src y)) at); past = λ l. absurd (omega arith) }

    pub fails : p (node_of src x) ≡ false → Seek p src t (i + 1)
    fails e = record { sound = w.sound; within = omega arith; same = sym (rw e) ∙ ahead }

-- The inner walk through the nodes of one directory, which began at `from`.
pub record Inside (src : Bytes) (t : Table) (dir : NameRef) (from i : ℕ) : Type 0 where
  pub seek : Seek is_backup_file src t i
  pub sound : Sound src dir
  pub begun : from ≤ i
  pub first : (get_or (live t) from blank).dir ≡ dir

pub enter : {src : Bytes} {t : Table} {i : ℕ} (w : Seek is_backup_file src t i) {x : Node} → x ≡ get_or (live t) i blank → i < length (live t) → Inside src t x.dir i i
enter w at h = record { seek = w; sound = (node w at h).dir; begun = omega arith; first = ap (λ (n : Node). n.dir) (sym at) }

module _ {src : Bytes} {t : Table} {dir : NameRef} {from i : ℕ} (w : Inside src t dir from i) {x : Node} (at : x ≡ get_or (live t) i blank) where
  -- The directory's own node is behind it where another directory's comes.
  pub moved : same_bytes (name_of src dir) (name_of src x.dir) ≡ false → from < i
  moved e = go (ltb from i) refl
    where
      go : (b : Bool) → ltb from i ≡ b → from < i
      go true p = ltb-true from i p
      go false p =
          let z : from ≡ i = omega (arith, ltb-false from i p, w.begun) in
          clash (same_refl (name_of src dir)) (ap (λ (r : NameRef). same_bytes (name_of src dir) (name_of src r)) (sym w.first ∙ ap (λ (j : ℕ). (get_or (live t) j blank).dir) z ∙ ap (λ (n : Node). n.dir) (sym at)) ∙ e)

  pub next : i < length (live t) → is_backup_file (node_of src x) ≡ false → Inside src t dir from (i + 1)
  next h f = record {
    seek = fails w.seek at h f;
    sound = w.sound;
    begun = let b : from ≤ i = w.begun in omega arith;
    first = w.first;
  }

-- The node where a walk stopped.
pub first_at : {p : model.Node → Bool} {src : Bytes} {t : Table} {i : ℕ} → SoundTable src t → Stops p src t i → i < length (live t) → FirstOf p src (map_of src t) (Some (get_or (live t) i blank))
first_at s w h = (sound-read s h refl, w.hit h)

-- The first of some nodes that passes.
first-as : (p : model.Node → Bool) (src : Bytes) (m n : model.Map) (r : Option Node) → first_of p m ≡ first_of p n → FirstOf p src n r → FirstOf p src m r
first-as p src m n (Some x) e f = (f.0, e ∙ f.1)
first-as p src m n None e f = e ∙ f

pub found-in : (p : model.Node → Bool) (src : Bytes) (l : List Node) (r : Option Node) → All (SoundNode src) l → r ≡ find (λ x. p (node_of src x)) l → FirstOf p src (map (node_of src) l) r
found-in p src [] r h e = subst (FirstOf p src []) (sym e) refl
found-in p src (x ∷ l) r h e = go (p (node_of src x)) refl (found-in p src l r h.1)
  where
    go : (b : Bool) → p (node_of src x) ≡ b → (r ≡ find (λ x. p (node_of src x)) l → FirstOf p src (map (node_of src) l) r) → FirstOf p src (map (node_of src) (x ∷ l)) r
    go true k f = let q : r ≡ Some x = e ∙ rw k refl in subst (FirstOf p src (map (node_of src) (x ∷ l))) (sym q) (h.0, rw k refl)
    go false k f = first-as p src (map (node_of src) (x ∷ l)) (map (node_of src) l) r (rw k refl) (f (e ∙ rw k refl))

pub found : (p : model.Node → Bool) {src : Bytes} {t : Table} {r : Option Node} → SoundTable src t → r ≡ find (λ x. p (node_of src x)) (live t) → FirstOf p src (map_of src t) r
unfolding map_of
found p {src} {t} {r} s e = found-in p src (live t) r s.each e

-- What the two walks say of the hit.
module _ {src : Bytes} {m : model.Map} where
  pub file-hit : {x : Node} → FirstOf is_backup_file src m (Some x) → FindsBackup src m (Some (code.File x))
  unfolding first_backup
  file-hit f = record { sound = f.0; same = sym (rw f.1) }

  module _ (e : FirstOf is_backup_file src m None) where
    pub dir-hit : {x : Node} → FirstOf in_backup_directory src m (Some x) → FindsBackup src m (Some (code.Directory x.dir))
    unfolding first_backup
    dir-hit f = record { sound = f.0.dir; same = sym (rw (e, f.1)) }

    pub no_hit : FirstOf in_backup_directory src m None → FindsBackup src m None
    unfolding first_backup
    no_hit f = record { sound = tt; same = sym (rw (e, f)) }

    pub dir_or_none : (o : Option Node) → FirstOf in_backup_directory src m o → FindsBackup src m (option_map (λ x. code.Directory x.dir) o)
    dir_or_none (Some x) f = dir-hit f
    dir_or_none None f = no_hit f

-- Yes or no.
some-hit : (src : Bytes) (r : Option BackupHit) → is_some r ≡ is_hit (hit_of src r)
some-hit src (Some (code.File x)) = refl
some-hit src (Some (code.Directory d)) = refl
some-hit src None = refl

pub answered : {src : Bytes} {m : model.Map} {r : Option BackupHit} → FindsBackup src m r → is_some r ≡ has_backup_files m
answered {src} {m} {r} w = some-hit src r ∙ ap is_hit w.same ∙ same_answer m

-- A table's nodes: how long their names are.
use Rattle.std.specs.Prelude as code
use Rattle.std.specs.Prelude.{None, Some}
use Rattle.std.specs.Option.{MatchOption}
use mathlib.Core.Path.{◌≡◌, refl, sym, ap, ◌∙◌}
use mathlib.Core.List.{[]}
use mathlib.Core.Option.{Option, none, some}
use mathlib.Core.Bool.{Bool, false}
use Prim.Native.Nat.{ℕ, ◌≤◌, ◌<◌}
use native.Mathlib.Omega.{arith}
use lib.ListN.{length}
use Rattle.basics.specs.Order.{Name, Key}
use Rattle.basics.specs.Map.{look}
use Rattle.basics.specs.Base.{Bytes, is_some}
use Rattle.basics.specs.Name.{backup_name, original_name}
use Rattle.basic_laws.specs.Tests.{All, all_map}
use Rattle.basic_laws.specs.MapLaws.{all-look}
use Rattle.basic_laws.specs.NameLaws.{original-some, original-named}
use Rattle.basic_laws.specs.ValidNames as valid
use Rattle.spans.specs.Spans.{name_of, Sound, Backup}
use Rattle.spans.specs.declared.NameRef.{NameRef}
use Rattle.spans.proofs.Parts.{length-name}
use Rattle.store.specs.declared.Table.{Table}
use Rattle.store.specs.Tables.{node_of, live, map_of, SoundNode, SoundTable}
use Rattle.steps.specs.Steps.{FileName}
use Rattle.steps.proofs.FileNames.{file-name}

-- A table's names have at most 64 bytes, so nothing stands at a longer one.
abbrev Short : Key → ℕ → Type 0
Short k x = (length k.0 ≤ 64) × (length k.1 ≤ 64)

module _ {src : Bytes} {t : Table} (s : SoundTable src t) where
  short : All (λ n. Short n.0 n.1) (map_of src t)
  unfolding map_of
  short = all_map (SoundNode src) (λ n. Short n.0 n.1) (node_of src) (λ x h. (omega (arith, h.dir.room, length-name h.dir), omega (arith, h.file.room, length-name h.file))) (live t) s.each

  nowhere : (k : Key) → ((x : ℕ) → look k (map_of src t) ≡ some x → ⊥) → false ≡ is_some (look k (map_of src t))
  nowhere k h = go (look k (map_of src t)) refl
    where
      go : (o : Option ℕ) → look k (map_of src t) ≡ o → false ≡ is_some o
      go none e = refl
      go (some x) e = absurd (h x e)

  no-long-file : (d f : Name) → 64 < length f → false ≡ is_some (look (d, f) (map_of src t))
  no-long-file d f h = nowhere (d, f) (λ x e. let k = all-look Short (map_of src t) short (d, f) x e in omega (arith, k.1))

  no-long-dir : (d f : Name) → 64 < length d → false ≡ is_some (look (d, f) (map_of src t))
  no-long-dir d f h = nowhere (d, f) (λ x e. let k = all-look Short (map_of src t) short (d, f) x e in omega (arith, k.0))

  -- A backup name of over 64 bytes stands nowhere; any other is looked up.
  module _ (r : NameRef) {b : Bool} {P : NameRef → Type 0} where
    pub backed-file : (d : Name) (o : code.Option NameRef) → Backup src r o → MatchOption o (b ≡ false) P
        → ((q : NameRef) → Sound src q → P q → b ≡ is_some (look (d, name_of src q) (map_of src t))) → b ≡ is_some (look (d, backup_name (name_of src r)) (map_of src t))
    backed-file d None h m k = m ∙ no-long-file d _ h
    backed-file d (Some q) h m k = k q h.sound m ∙ ap (λ (n : Name). is_some (look (d, n) (map_of src t))) h.same

    pub backed-dir : (o : code.Option NameRef) → Backup src r o → MatchOption o (b ≡ false) P
        → ((q : NameRef) → Sound src q → P q → b ≡ is_some (look (name_of src q, []) (map_of src t))) → b ≡ is_some (look (backup_name (name_of src r), []) (map_of src t))
    backed-dir None h m k = m ∙ no-long-dir _ [] h
    backed-dir (Some q) h m k = k q h.sound m ∙ ap (λ (n : Name). is_some (look (n, []) (map_of src t))) h.same

-- A backup and its original both have a byte at least, so a step may make files of these names.
pub backup-named : {src : Bytes} (r q : NameRef) → Sound src r → Sound src q → original_name (name_of src r) ≡ some (name_of src q) → FileName src r × FileName src q
backup-named {src} r q s k e = (file-name s (λ z. valid.backup-named (name_of src q) (sym (original-some (name_of src r) (name_of src q) e) ∙ z)), file-name k (original-named (name_of src r) (name_of src q) e))

-- The search for a backup (02, item 2): in whichever order it looks, its yes or no is the same; the directory that it names is the first of the
-- listing with a backup's name; what names its hit has at most 138 bytes.
use Rattle.std.specs.Prelude.{◌≡◌, ℕ, ◌≤◌, Bool, true, false, ◌||◌, length, if◌then◌else◌}
use Rattle.std.proofs.Math.Path.{refl}
use Rattle.std.proofs.Common.{sym, ap, ◌∙◌}
use native.Mathlib.Omega.{arith}
use mathlib.Core.List.{[], ◌∷◌}
use Rattle.std.proofs.Math.Option.{Option, none, some}
use Rattle.basics.specs.Limits.{hit_room}
use Rattle.basics.specs.Order.{Name}
use Rattle.basics.specs.Map.{Map, Node}
use Rattle.basics.specs.Base.{is_some, first_of, case_option}
use Rattle.basics.specs.Name.{extension, strip_extension, original_name, is_backup}
use Rattle.basics.specs.Field.{little_endian, encode_fields}
use Rattle.basic_laws.specs.MapLaws.{look-all}
use Rattle.basic_laws.specs.SearchLaws.{first_any, first-has, any-either}
use Rattle.basic_laws.specs.Tests.{All, all_imp, and_both}
use Rattle.basic_laws.specs.ValidNames.{Valid, valid-length}
use Rattle.model.specs.Store.{Store, BackupHit, backup_file, backup_directory, no_backup, is_hit, is_backup_file, in_backup_directory, first_backup, has_backup_files, dirs, valid_node, valid_nodes}
use Rattle.model.specs.Image.{hit_fields}
use Rattle.laws.specs.ImageLaws.{node-parts, file-parts}
use Rattle.laws.specs.LengthLaws.{join-length}
use Rattle.laws.specs.TreeLaws.{NodeGood}
use Rattle.laws.specs.StoreLaws.{Good}

-- The hit, from the first file and the first node in a directory.
abbrev hit_in : Option Node → Option Node → BackupHit
hit_in f d = case_option f (case_option d no_backup (λ n. backup_directory n.0.0)) backup_file

hit-some : (f d : Option Node) → is_hit (hit_in f d) ≡ (is_some f || is_some d)
hit-some (some x) d = refl
hit-some none (some y) = refl
hit-some none none = refl

-- 02, item 2: "Its yes or no doesn't change for any store."
pub same_answer : (t : Map) → is_hit (first_backup t) ≡ has_backup_files t
unfolding first_backup has_backup_files
same_answer t = hit-some (first_of is_backup_file t) (first_of in_backup_directory t) ∙ rw (first_any is_backup_file t, first_any in_backup_directory t) (sym (any-either in_backup_directory is_backup_file t))

-- In a store a directory's nodes follow its own: the first one whose directory has a backup's name is that directory's own.
first-listed : (d : Name) (t : Map) → valid_nodes d t ≡ true → is_backup d ≡ false → case_option (first_of in_backup_directory t) none (λ n. some n.0.0) ≡ first_of is_backup (dirs t)
unfolding valid_nodes dirs
first-listed d [] v e = refl
first-listed d (((c, []), x) ∷ r) v e = go (is_backup c) refl (first-listed c r (and_both (valid_node d ((c, []), x)) (valid_nodes c r) v).1)
  where
    go : (b : Bool) → is_backup c ≡ b → (is_backup c ≡ false → case_option (first_of in_backup_directory r) none (λ n. some n.0.0) ≡ first_of is_backup (dirs r))
        → case_option (if b then some ((c, []), x) else first_of in_backup_directory r) none (λ n. some n.0.0) ≡ (if b then some c else first_of is_backup (dirs r))
    go true p h = refl
    go false p h = h p
first-listed d (((c, b ∷ f), x) ∷ r) v e =
    let k = and_both (valid_node d ((c, b ∷ f), x)) (valid_nodes c r) v in
    let plain : is_backup c ≡ false = ap is_backup (file-parts d c (b ∷ f) x (node-parts d ((c, b ∷ f), x) k.0).1).0 ∙ e in
    rw plain (first-listed c r k.1 plain)

-- 02, item 2: "or if no file is one the first directory with a backup's name".
pub as_listed : (t : Map) → valid_nodes [] t ≡ true → first_backup t ≡ case_option (first_of is_backup_file t) (case_option (first_of is_backup (dirs t)) no_backup backup_directory) backup_file
unfolding first_backup original_name strip_extension extension
as_listed t v = rw (sym (first-listed [] t v refl)) (go (first_of is_backup_file t) (first_of in_backup_directory t))
  where
    go : (f d : Option Node) → hit_in f d ≡ case_option f (case_option (case_option d none (λ n. some n.0.0)) no_backup backup_directory) backup_file
    go (some n) d = refl
    go none none = refl
    go none (some n) = refl

-- What names a hit: at most two names of at most 64 bytes.
abbrev Short : Node → Type 0
Short n = (length n.0.0 ≤ 64) × (length n.0.1 ≤ 64)

name-short : (f : Name) → ((f ≡ [] → ⊥) → Valid f) → length f ≤ 64
name-short [] v = omega arith
name-short (b ∷ f) v = (valid-length (b ∷ f) (v (λ z. let k : ◌≡◌ {A = ℕ} 0 1 = cc in omega arith))).1

pub hit-length : (s : Store) → Good Valid s → length (encode_fields (hit_fields (first_backup s.tree))) ≤ hit_room
unfolding first_backup
hit-length s g = go (first_of is_backup_file s.tree) (first_of in_backup_directory s.tree) (first-has is_backup_file Short s.tree short) (first-has in_backup_directory Short s.tree short)
  where
    short : All Short s.tree
    short =
        all_imp {P = λ n. NodeGood Valid s.tree n.0.0 n.0.1 n.1} (λ n k. ((valid-length n.0.0 k.dir).1, name-short n.0.1 k.name)) s.tree
        (look-all (λ k x. NodeGood Valid s.tree k.0 k.1 x) s.tree g.tree.sorted (λ k x l. g.tree.node k.0 k.1 x l))

    go : (f d : Option Node) → ((n : Node) → f ≡ some n → Short n) → ((n : Node) → d ≡ some n → Short n) → length (encode_fields (hit_fields (hit_in f d))) ≤ hit_room
    go (some n) d h k = let v = h n refl in let j = join-length (hit_fields (backup_file n)) in unfold little_endian in (omega arith)
    go none (some n) h k = let v = k n refl in let j = join-length (hit_fields (backup_directory n.0.0)) in omega arith
    go none none h k = let j = join-length [] in omega arith

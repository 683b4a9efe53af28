-- The four parts of an image, one behind the other.
use mathlib.Core.Path.{◌≡◌, refl, sym, ap, subst, ◌∙◌}
use mathlib.Core.Bool.{Bool, true, false, false≢true}
use borrow.Author.Tests.{eq-eqb, eqb-true}
use mathlib.Core.List.{[], ◌∷◌, ◌++◌, map, append-nil}
use mathlib.Core.Option.{Option, none, some}
use Rattle.std.specs.Prelude as std
use Rattle.std.specs.Bool.{then_some}
use Prim.Native.Nat.{ℕ, ◌≤◌, ◌<◌}
use native.Mathlib.Omega.{arith}
use lib.Dec.{eqb}
use lib.ListN.{length, take, drop, length-append, length-drop, drop_of_length-le}
use lib.Seq.{take_at}
use Rattle.basics.specs.Limits.{image_room}
use Rattle.basics.specs.Map.{Map}
use Rattle.basics.specs.Base.{Bytes}
use Rattle.basics.specs.Field.{encode_fields, decode_fields}
use Rattle.model.specs.Store as model
use Rattle.model.specs.Store.{dirs, file_count, well_formed}
use Rattle.model.specs.Image.{node_field, staged_field, log_field, mark_field, image_fields, decode}
use Rattle.basic_laws.specs.Tests.{le-leb}
use Rattle.laws.specs.ImageLaws.{listed, Parts, parts, of_parts, regroup, encode-parts, tail, split-encode, decode-encode, decode-only}
use Rattle.laws.specs.TreeLaws.{size, is_file, one, dir-size, file-size, length-size}
use Rattle.laws.specs.StoreLaws.{LogFits, fits-log, Good, good}
use Rattle.basic_laws.specs.ValidNames.{Valid, valid_naming}
use Rattle.laws.specs.LengthLaws.{encode-length}
use Rattle.store.specs.declared.Store.{Store}
use Rattle.store.specs.declared.LogRef.{LogRef}
use Rattle.store.specs.declared.Table.{Table}
use Rattle.store.specs.Tables.{map_of}
use Rattle.store.specs.Kept.{Kept}
use Rattle.store.specs.Stores.{store_of}
use Rattle.store.proofs.Lists.{drop-zero}
use Rattle.decode.specs.Reading.{Ahead, starts, Reads, Lacks}
use Rattle.decode.specs.Listing.{own, Formed}
use Rattle.decode.specs.Decoding.{NodesRead, LogRead, Accepts, Decodes}
use Rattle.decode.proofs.Ahead.{ended}
use Rattle.decode.proofs.Rows.{valid-tree, valid-staging, count, staged-files}

-- What stands behind a part has no tag of it.
mark-behind : (b : Bool) → starts (λ t. eqb t 0x13) (mark_field b) ≡ false
mark-behind true = refl
mark-behind false = refl

tail-behind : (own : ℕ → Bool) → own 0x13 ≡ false → own 0x14 ≡ false → (l : Option Bytes) (b : Bool) → starts own (log_field l ++ mark_field b) ≡ false
tail-behind own p q none true = q
tail-behind own p q none false = refl
tail-behind own p q (some l) b = p

staging-behind : (g : Map) (l : Option Bytes) (b : Bool) → starts (own false) (map staged_field g ++ (log_field l ++ mark_field b)) ≡ false
staging-behind [] l b = tail-behind (own false) refl refl l b
staging-behind (n ∷ g) l b = refl

-- Well-formedness, part by part.
well : (s : model.Store) → Formed false s.tree → Formed true s.staging → LogFits s.log → well_formed s ≡ true
well s t g l =
    let v = sym (valid-staging [] s.staging) ∙ g.valid in
    of_parts s record {
      tree_ascends = t.ascends;
      nodes = sym (valid-tree [] s.tree) ∙ t.valid;
      dirs_fit = le-leb (length (dirs s.tree)) 16 (rw (dir-size s.tree) t.dirs);
      files_fit = le-leb (file_count s.tree) 128 (rw (file-size s.tree) t.files);
      staging_ascends = g.ascends;
      staged = v;
      staging_fits = le-leb (length s.staging) 32 (rw (← staged-files s.staging v) g.files);
      log_fits = fits-log s.log l;
    }

tree-formed : (s : model.Store) → Parts s → Good Valid s → Formed false s.tree
tree-formed s p g = record { ascends = p.tree_ascends; valid = valid-tree [] s.tree ∙ p.nodes; dirs = g.tree.dirs_fit; files = g.tree.files_fit }

staging-formed : (s : model.Store) → Parts s → Good Valid s → Formed true s.staging
staging-formed s p g =
    let f : size is_file s.staging ≡ length s.staging = staged-files s.staging p.staged in
    let h : size one s.staging ≤ 32 = g.staging.fits in
    let l : length s.staging ≡ size one s.staging = length-size s.staging in
    record { ascends = p.staging_ascends; valid = valid-staging [] s.staging ∙ p.staged; dirs = omega (arith, count s.staging); files = omega arith }

-- The fields of the image's store.
ahead : (src : Bytes) (s : model.Store) → decode src ≡ some s → Ahead src 0 (map node_field s.tree ++ (map staged_field s.staging ++ tail s))
unfolding decode_fields
ahead src s e =
    let p = decode-only src s e in
    let f : decode_fields src ≡ some (image_fields s) = subst (λ (b : Bytes). decode_fields b ≡ some (image_fields s)) p.0 (split-encode s p.1) in
    rw (drop-zero src) (f ∙ ap some (regroup s))

abbrev joined : Table → Table → std.Option LogRef → Bool → Store
joined t g l m = record { tree = t; staging = g; log = l; open_mark = m }

module _ {src : Bytes} {t g : Table} {l : std.Option LogRef} {m : Bool} {t_end g_end l_end end : ℕ}
    (T : NodesRead false src 0 t t_end) (G : NodesRead true src t_end g g_end) (L : LogRead src g_end l l_end) (M : Reads mark_field (λ b. Unit {0}) (λ t. eqb t 0x14) src l_end m end) where
  same : end ≡ length src → decode src ≡ some (store_of src (joined t g l m))
  same r = subst (λ (b : Bytes). decode b ≡ some s) (encode-parts s ∙ sym bytes) (decode-encode s (well s T.reads.formed G.reads.formed L.reads.formed))
    where
      s : model.Store
      s = store_of src (joined t g l m)

      a : Bytes
      a = encode_fields (map node_field s.tree)

      b : Bytes
      b = encode_fields (map staged_field s.staging)

      bytes : src ≡ a ++ (b ++ (encode_fields (log_field s.log) ++ encode_fields (mark_field s.open_mark)))
      bytes =
          sym (drop-zero src) ∙ T.reads.bytes
          ∙ ap (a ++◌) (G.reads.bytes ∙ ap (b ++◌) (L.reads.bytes ∙ ap (encode_fields (log_field s.log) ++◌) (M.bytes ∙ rw (r, drop_of_length-le src {i = length src} (omega arith)) (append-nil (encode_fields (mark_field s.open_mark))))))

  -- The tree's fields are the bytes up to its end.
  tree-kept : Kept src t_end (map_of src t)
  tree-kept = record { within = T.reads.within; same = λ z. front }
    where
      fields : Bytes
      fields = encode_fields (map (listed false) (map_of src t))

      whole : src ≡ fields ++ drop t_end src
      whole = sym (drop-zero src) ∙ T.reads.bytes

      size : t_end ≡ length fields
      size = let n = ap length whole ∙ length-append fields (drop t_end src) in let d = length-drop t_end src in let w = T.reads.within in omega arith

      front : take t_end src ≡ fields
      front = ap (take t_end) whole ∙ take_at fields (drop t_end src) t_end (sym size)

  accepted : end ≡ length src → Accepts src (record { store = joined t g l m; tree_end = t_end })
  accepted r = record { sound = record { tree = T.sound; staging = G.sound; log = L.sound }; plain = L.plain; same = same r; kept = tree-kept }

-- What stands behind each part, in an image that the definition accepts.
module _ (src : Bytes) where
  refused : ((s : model.Store) → decode src ≡ some s → ⊥) → decode src ≡ none
  refused h = go (decode src) refl
    where
      go : (o : Option model.Store) → decode src ≡ o → decode src ≡ none
      go none q = q
      go (some s) q = absurd (h s q)

  -- A longer image than any store's.
  pub too_long : image_room < length src → decode src ≡ none
  too_long h = refused (λ s q. let p = decode-only src s q in omega (arith, encode-length valid_naming s (good s p.1), ap length p.0))

  tree_there : (s : model.Store) → decode src ≡ some s → Formed false s.tree
  tree_there s e = let w = (decode-only src s e).1 in tree-formed s (parts s w) (good s w)

  staging_there : (s : model.Store) → decode src ≡ some s → Formed true s.staging
  staging_there s e = let w = (decode-only src s e).1 in staging-formed s (parts s w) (good s w)

  log_there : (s : model.Store) → decode src ≡ some s → LogFits s.log
  log_there s e = (good s (decode-only src s e).1).log

module _ {src : Bytes} where
  pub no_tree : Lacks (map (listed false)) (Formed false) (own false) src 0 → decode src ≡ none
  no_tree h = refused src (λ s e. h.none s.tree _ (tree_there src s e) (staging-behind s.staging s.log s.open_mark) (ahead src s e))

  module _ {t : Table} {t_end : ℕ} (T : NodesRead false src 0 t t_end) where
    behind_tree : (s : model.Store) → decode src ≡ some s → Ahead src t_end (map staged_field s.staging ++ tail s)
    behind_tree s e = (T.reads.only s.tree _ (tree_there src s e) (staging-behind s.staging s.log s.open_mark) (ahead src s e)).1

    pub no_staging : Lacks (map (listed true)) (Formed true) (own true) src t_end → decode src ≡ none
    no_staging h = refused src (λ s e. h.none s.staging _ (staging_there src s e) (tail-behind (own true) refl refl s.log s.open_mark) (behind_tree s e))

    module _ {g : Table} {g_end : ℕ} (G : NodesRead true src t_end g g_end) where
      behind_staging : (s : model.Store) → decode src ≡ some s → Ahead src g_end (tail s)
      behind_staging s e = (G.reads.only s.staging _ (staging_there src s e) (tail-behind (own true) refl refl s.log s.open_mark) (behind_tree s e)).1

      pub no_log : Lacks log_field LogFits (λ t. eqb t 0x13) src g_end → decode src ≡ none
      no_log h = refused src (λ s e. h.none s.log _ (log_there src s e) (mark-behind s.open_mark) (behind_staging s e))

      module _ {l : std.Option LogRef} {l_end : ℕ} (L : LogRead src g_end l l_end) where
        behind_log : (s : model.Store) → decode src ≡ some s → Ahead src l_end (mark_field s.open_mark ++ [])
        behind_log s e = rw (append-nil (mark_field s.open_mark)) (L.reads.only s.log _ (log_there src s e) (mark-behind s.open_mark) (behind_staging s e)).1

        pub no_mark : Lacks mark_field (λ b. Unit {0}) (λ t. eqb t 0x14) src l_end → decode src ≡ none
        no_mark h = refused src (λ s e. h.none s.open_mark [] tt refl (behind_log s e))

        not_at_end : {m : Bool} {end : ℕ} → Reads mark_field (λ b. Unit {0}) (λ t. eqb t 0x14) src l_end m end → (end ≡ length src → ⊥) → decode src ≡ none
        not_at_end {m} {end} M n = refused src (λ s e. n (ended src end M.within (M.only s.open_mark [] tt refl (behind_log s e)).1))

        -- All parts were read.
        pub decided : {m : Bool} {end : ℕ} → Reads mark_field (λ b. Unit {0}) (λ t. eqb t 0x14) src l_end m end → Decodes src (then_some (eqb end (length src)) (record { store = joined t g l m; tree_end = t_end }))
        decided {m} {end} M = go (eqb end (length src)) refl
          where
            go : (b : Bool) → eqb end (length src) ≡ b → Decodes src (then_some b (record { store = joined t g l m; tree_end = t_end }))
            go true q = accepted T G L M (eqb-true end (length src) q)
            go false q = not_at_end M (λ n. false≢true (sym q ∙ eq-eqb end (length src) n))

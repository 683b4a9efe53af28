-- Listings: what was listed so far, and what is left.
use mathlib.Core.Path.{◌≡◌, refl, sym, ap, ◌∙◌}
use mathlib.Core.List.{List, [], ◌∷◌, ◌++◌, map, map-append, append-nil, map-map}
use lib.Seq.{append_snoc}
use mathlib.Core.Bool.{Bool, true, false}
use Rattle.std.specs.Prelude.{filter}
use Rattle.std.proofs.lemmas.List.Elements.{filter_more}
use Prim.Native.Nat.{ℕ, ◌+◌, ◌≤◌, ◌<◌}
use native.Mathlib.Omega.{arith}
use lib.ListN.{length, take, drop, get_or, length-append}
use Rattle.fixed_vec.specs.FixedVec.{FixedVec}
use Rattle.basics.specs.Order.{Name}
use Rattle.basics.specs.Map as model
use Rattle.basics.specs.Base.{Bytes, same_bytes}
use Rattle.model.specs.Store.{dirs, files, staging_names}
use Rattle.basic_laws.specs.Tests.{All, all_append, all_map}
use Rattle.spans.specs.Spans.{name_of, Sound}
use Rattle.spans.specs.declared.NameRef.{NameRef}
use Rattle.store.specs.declared.Node.{Node}
use Rattle.store.specs.declared.Table.{Table}
use Rattle.store.specs.Places.{Over}
use Rattle.store.specs.Tables.{node_of, live, map_of, SoundNode, SoundTable, FilesFrom, Lists}
use Rattle.store.proofs.Lists.{take_whole}
use Rattle.store.proofs.Live.{blank, sound-read}
use Rattle.store.proofs.Nodes.{dir-told, dir-listed, no-dir-listed}
use Rattle.store.proofs.Tally.{own}
use Rattle.store.proofs.Files.{none_left, above-next, one_left, other-left}

-- The first names of `all` are listed, and `rest` is left.
pub record Listing (src : Bytes) (l : FixedVec NameRef) (rest all : List Name) : Type 0 where
  pub each : All (Sound src) l.items
  pub same : map (name_of src) l.items ++ rest ≡ all

begin : {src : Bytes} {l : FixedVec NameRef} (all : List Name) → l.items ≡ [] → Listing src l all all
begin all e = record { each = rw e tt; same = rw e refl }

module _ {src : Bytes} {l : FixedVec NameRef} {rest all : List Name} (w : Listing src l rest all) where
  add : {r : NameRef} {tail : List Name} {m : FixedVec NameRef} → Sound src r → m.items ≡ l.items ++ r ∷ [] → rest ≡ name_of src r ∷ tail → Listing src m tail all
  add {r} {tail} s p e = record {
    each = rw p (all_append (Sound src) l.items (r ∷ []) w.each (s, tt));
    same = rw (p, map-append) (append_snoc (map (name_of src) l.items) (name_of src r) tail ∙ rw e at w.same);
  }

  finish : rest ≡ [] → Lists src l all
  finish e = record { each = w.each; same = sym (append-nil (map (name_of src) l.items)) ∙ rw e at w.same }

-- `files`: the files of the directory that stand before place i are listed.
pub record Filing (src : Bytes) (t : Table) (dir : NameRef) (l : FixedVec NameRef) (i : ℕ) : Type 0 where
  pub below : length l.items ≤ i
  pub above : All (Over (name_of src dir, [])) (drop i (map_of src t))
  pub listing : Listing src l (files (name_of src dir) (drop i (map_of src t))) (files (name_of src dir) (map_of src t))

pub filing_start : {src : Bytes} {t : Table} {dir : NameRef} {l : FixedVec NameRef} {i : ℕ} → FilesFrom (name_of src dir) (map_of src t) i → l.items ≡ [] → Filing src t dir l i
filing_start {src} {t} {dir} {l} g e = record {
  below = rw e (omega arith);
  above = g.above;
  listing = rw (← g.same) (begin (files (name_of src dir) (map_of src t)) e);
}

module _ {src : Bytes} {t : Table} {dir : NameRef} {l : FixedVec NameRef} {i : ℕ} (w : Filing src t dir l i) (s : SoundTable src t) where
  abbrev Filed : Type 0
  Filed = Lists src l (files (name_of src dir) (map_of src t))

  pub filing_end : length (live t) ≤ i → Filed
  filing_end h = finish w.listing (none_left s (name_of src dir) i h)

  -- The node x at i.
  module _ {x : Node} (h : i < length (live t)) (r : x ≡ get_or (live t) i blank) where
    pub filing_left : same_bytes (name_of src dir) (name_of src x.dir) ≡ false → Filed
    filing_left e = finish w.listing (other-left s (name_of src dir) i w.above h r e)

    pub filing_next : {m : FixedVec NameRef} → same_bytes (name_of src dir) (name_of src x.dir) ≡ true → m.items ≡ l.items ++ x.file ∷ [] → Filing src t dir m (i + 1)
    filing_next e p = record {
      below = rw (p, length-append l.items (x.file ∷ [])) (omega (arith, w.below));
      above = above-next s (name_of src dir) i w.above h r;
      listing = add w.listing (sound-read s h r).file p (one_left s (name_of src dir) i w.above h r e);
    }

-- `dirs`: the directories' names among the first i nodes.
pub record Dirs (t : Table) (l : FixedVec NameRef) (i : ℕ) : Type 0 where
  pub below : length l.items ≤ i
  pub same : l.items ≡ map (λ (x : Node). x.dir) (filter own (take i (live t)))

module _ {t : Table} {l m : FixedVec NameRef} {i : ℕ} (w : Dirs t l i) (h : i < length (live t)) where
  pub dirs-next : own (get_or (live t) i blank) ≡ true → m.items ≡ l.items ++ (get_or (live t) i blank).dir ∷ [] → Dirs t m (i + 1)
  dirs-next e p = record {
    below = rw (p, length-append l.items ((get_or (live t) i blank).dir ∷ [])) (omega (arith, w.below));
    same = p ∙ rw (filter_more own (live t) i blank h, e, map-append) (ap (λ n. n ++ (get_or (live t) i blank).dir ∷ []) w.same);
  }

  pub dirs-pass : own (get_or (live t) i blank) ≡ false → m ≡ l → Dirs t m (i + 1)
  dirs-pass e p = record { below = rw p (omega (arith, w.below)); same = rw (p, filter_more own (live t) i blank h, e, append-nil) w.same }

listed_dirs : (src : Bytes) (l : List Node) → All (SoundNode src) l → All (Sound src) (map (λ (x : Node). x.dir) (filter own l)) × (map (name_of src) (map (λ (x : Node). x.dir) (filter own l)) ≡ dirs (map (node_of src) l))
unfolding dirs
listed_dirs src [] h = (tt, refl)
listed_dirs src (x ∷ l) h = go (own x) refl (listed_dirs src l h.1)
  where
    go : (b : Bool) → own x ≡ b → All (Sound src) (map (λ (x : Node). x.dir) (filter own l)) × (map (name_of src) (map (λ (x : Node). x.dir) (filter own l)) ≡ dirs (map (node_of src) l))
        → All (Sound src) (map (λ (x : Node). x.dir) (filter own (x ∷ l))) × (map (name_of src) (map (λ (x : Node). x.dir) (filter own (x ∷ l))) ≡ dirs (map (node_of src) (x ∷ l)))
    go true e r = rw (e, dir-listed (node_of src x) (map (node_of src) l) (sym (dir-told x h.0.file) ∙ e)) ((h.0.dir, r.0), ap (name_of src x.dir ∷◌) r.1)
    go false e r = rw (e, no-dir-listed (node_of src x) (map (node_of src) l) (sym (dir-told x h.0.file) ∙ e)) r

pub dirs-end : {src : Bytes} {t : Table} {l : FixedVec NameRef} {i : ℕ} → Dirs t l i → length (live t) ≤ i → SoundTable src t → Lists src l (dirs (map_of src t))
unfolding map_of
dirs-end {src} {t} {l} {i} w h s =
    let e = w.same ∙ ap (λ n. map (λ (x : Node). x.dir) (filter own n)) (take_whole i (live t) h) in
    let p = listed_dirs src (live t) s.each in
    record { each = rw e p.0; same = rw e p.1 }

-- `staged`: the file names of the first i nodes.
pub staged_end : {src : Bytes} {t : Table} {l : FixedVec NameRef} → SoundTable src t → l.items ≡ map (λ (x : Node). x.file) (live t) → Lists src l (staging_names (map_of src t))
unfolding map_of
staged_end {src} {t} {l} s e = record {
  each = rw e (all_map (SoundNode src) (Sound src) (λ x. x.file) (λ x q. q.file) (live t) s.each);
  same = ap (map (name_of src)) e ∙ map-map (name_of src) (λ (x : Node). x.file) (live t) ∙ sym (map-map (λ (m : model.Node). m.0.1) (node_of src) (live t));
}

-- One field of a listing: the node that it gives, or that it gives none.
use mathlib.Core.Path.{◌≡◌, refl, sym, ap, ◌∙◌}
use mathlib.Core.Bool.{Bool, true, false}
use mathlib.Core.List.{[], ◌∷◌}
use mathlib.Core.Logic.{◌↔◌}
use Prim.Native.Nat.{ℕ, ◌+◌, ◌-◌, ◌≤◌, ◌<◌}
use native.Mathlib.Omega.{arith}
use lib.ListN.{length, take, drop, get_or}
use lib.Seq.{take-take, drop-drop}
use Rattle.basics.specs.Limits.{dir_limit, number_limit, image_room}
use Rattle.basics.specs.Order.{lt, Name, cmp_name}
use Rattle.basics.specs.Map as model
use Rattle.basics.specs.Base.{Bytes}
use Rattle.basics.specs.Name.{valid_name}
use Rattle.basics.specs.Field.{from_little_endian}
use Rattle.basic_laws.specs.ListLaws.{part_length, drop-take}
use Rattle.basic_laws.specs.Tests.{all-at, all_take, all_drop}
use Rattle.basic_laws.specs.FieldLaws.{Byte}
use Rattle.basic_laws.specs.ValidNames.{valid-length}
use Rattle.laws.specs.TreeLaws.{below_lt, is_dir, is_file}
use Rattle.laws.specs.ImageLaws.{listed}
use Rattle.field.specs.declared.Item.{Item}
use Rattle.field.specs.Reading.{u32_at, field_of}
use Rattle.field.specs.Writing.{field}
use Rattle.field.proofs.Reading.{number-there}
use Rattle.spans.specs.declared.NameRef.{NameRef}
use Rattle.spans.specs.Spans.{name_of, Names}
use Rattle.store.specs.Tables.{key_of, node_of}
use Rattle.decode.specs.declared.Spot.{Spot}
use Rattle.decode.specs.Listing.{file_tag, own, files_of, is_below}
use Rattle.decode.specs.Spots.{SoundSpot, FitsAt, Follows, Breaks, AtField, InDir}
use Rattle.decode.proofs.Ahead.{value_of, value-length, first}
use Rattle.decode.proofs.Nodes.{number_of, own-file}
use Rattle.decode.proofs.Tests.{DirPasses, dir-passes, dir-fits, FilePasses, file-passes, file-fits, file-again, is-file}

-- A valid name can be held.
pub name-fits : (src : Bytes) (b e : ℕ) → length src ≤ image_room → b ≤ e → e ≤ length src → valid_name (take (e - b) (drop b src)) ≡ true → (b < 65536) × (e - b ≤ 64) × (b + (e - b) ≤ length src)
name-fits src b e h o w v =
    let m : length (take (e - b) (drop b src)) ≡ e - b = part_length src b (e - b) (omega arith) in
    (omega arith, omega (arith, (valid-length (take (e - b) (drop b src)) v).1), omega arith)

-- What a comparison found.
found : {src : Bytes} {name : NameRef} {r : Bool} (k f : Name) → Names src name f → r ≡ is_below k (name_of src name) → (r ≡ true) ↔ (cmp_name k f ≡ lt)
found {src} {name} {r} k f n e = let z : r ≡ is_below k f = e ∙ ap (is_below k) n.same in (λ t. below_lt (cmp_name k f) (sym z ∙ t), λ l. z ∙ rw l)

module _ {staged : Bool} {src : Bytes} {p : Spot} {x : Item} {t : ℕ} (a : AtField staged src p x t) where
  is_field : field_of src x ≡ field t (value_of src x)
  is_field = ap (λ (k : ℕ). field k (value_of src x)) a.tag

  -- No node that fits has this field.
  pub broken : own staged t ≡ true → ((n : model.Node) → FitsAt staged src p n → listed staged n ≡ field t (value_of src x) → ⊥) → Breaks staged src p
  broken o h = record {
    here = λ fs e. let f = first a.stands e in rw (f.1.0, a.tag) o;
    unfit = λ n fs g e. let f = first a.stands e in
        let k : listed staged n ≡ field_of src x = let z : listed staged n ∷ fs ≡ field_of src x ∷ f.0 = f.1.0 in cc in
        h n g (k ∙ is_field);
  }

  -- The node q has it.
  pub followed : (q : Spot) {n : model.Node} → node_of src q.node ≡ n → SoundSpot staged src q → q.next ≡ x.end → FitsAt staged src p n → q.dirs ≡ p.dirs + is_dir n.0 → q.files ≡ p.files + is_file n.0 → listed staged n ≡ field t (value_of src x) → Follows staged src p q
  followed q e s w f d g l =
      let m : listed staged (node_of src q.node) ≡ field_of src x = rw e (l ∙ sym is_field) in
      let b : p.next + 3 ≡ x.start = a.stands.start in
      let o : x.start ≤ x.end = a.stands.ordered in
      record {
        spot = s;
        moved = omega arith;
        fits = rw e f;
        dirs = d ∙ ap (λ (k : model.Node). p.dirs + is_dir k.0) (sym e);
        files = g ∙ ap (λ (k : model.Node). p.files + is_file k.0) (sym e);
        bytes = rw (m, w) a.stands.bytes;
        fields = rw (m, w) a.stands.fields;
      }

-- A directory.
module _ {src : Bytes} {p : Spot} {x : Item} (a : AtField false src p x 0x10) where
  pub dir-broken : (DirPasses (key_of src p.node.dir p.node.file) p.dirs (value_of src x) → ⊥) → Breaks false src p
  dir-broken h = broken a refl (λ n f e. h (dir-passes f e))

  pub dir-ordered : {name : NameRef} {r : Bool} → Names src name (value_of src x) → r ≡ is_below (name_of src p.node.dir) (name_of src name) → (r ≡ true) ↔ (cmp_name (name_of src p.node.dir) (value_of src x) ≡ lt)
  dir-ordered n e = found (name_of src p.node.dir) (value_of src x) n e

  pub dir-followed : {name none : NameRef} → DirPasses (key_of src p.node.dir p.node.file) p.dirs (value_of src x) → Names src name (value_of src x) → Names src none [] →
      Follows false src p (record { node = record { dir = name; file = none; number = 0 }; next = x.end; dirs = p.dirs + 1; files = p.files })
  dir-followed {name} {none} t d f =
      followed a _ (λ i. ((d.same i, f.same i), 0))
      record {
        node = record { dir = d.sound; file = f.sound };
        within = a.stands.within;
        dir = λ z. rw d.same t.valid;
        dirs_fit = let r : p.dirs < dir_limit = t.room in omega arith;
        files_fit = a.spot.files_fit;
      }
      refl (dir-fits t a.spot.files_fit) refl (omega arith) refl

-- A file: the four bytes of its number, and its name behind them.
abbrev name_in : Bytes → Item → Bytes
name_in src x = take (x.end - (x.start + 4)) (drop (x.start + 4) src)

pub record FileTests (staged : Bool) (src : Bytes) (p : Spot) (x : Item) : Type 0 where
  pub room : p.files < files_of staged
  pub long : 4 ≤ x.end - x.start
  pub number : 1 ≤ u32_at src x.start
  pub small : u32_at src x.start ≤ number_limit
  pub valid : valid_name (name_in src x) ≡ true
  pub above : cmp_name (name_of src p.node.file) (name_in src x) ≡ lt

module _ {staged : Bool} {src : Bytes} {p : Spot} {x : Item} (a : AtField staged src p x (file_tag staged)) where
  number-value : 4 ≤ x.end - x.start → u32_at src x.start ≡ number_of (value_of src x)
  number-value h =
      let w : x.end ≤ length src = a.stands.within in
      number-there src x.start (omega arith) ∙ ap from_little_endian (sym (take-take 4 (x.end - x.start) (drop x.start src) h))

  name-value : name_in src x ≡ drop 4 (value_of src x)
  name-value =
      let e : x.end - (x.start + 4) ≡ x.end - x.start - 4 = omega arith in
      rw (e, ← drop-drop 4 x.start src) (sym (drop-take 4 (x.end - x.start) (drop x.start src)))

  abbrev Passes : Type 0
  Passes = FilePasses staged (key_of src p.node.dir p.node.file) p.files (value_of src x)

  tests : Passes → FileTests staged src p x
  tests t =
      let h : 4 ≤ x.end - x.start = rw (value-length a.stands) at t.long in
      let n : name_in src x ≡ drop 4 (value_of src x) = name-value in
      let m : u32_at src x.start ≡ number_of (value_of src x) = number-value h in
      record { room = t.room; long = h; number = rw m t.number; small = rw m t.small; valid = rw n t.valid; above = rw n t.above }

  passes : FileTests staged src p x → Passes
  passes t =
      let n : name_in src x ≡ drop 4 (value_of src x) = name-value in
      let m : u32_at src x.start ≡ number_of (value_of src x) = number-value t.long in
      record { room = t.room; long = rw (value-length a.stands) t.long; number = rw m at t.number; small = rw m at t.small; valid = rw n at t.valid; above = rw n at t.above }

  pub file-ordered : {name : NameRef} {r : Bool} → Names src name (name_in src x) → r ≡ is_below (name_of src p.node.file) (name_of src name) → (r ≡ true) ↔ (cmp_name (name_of src p.node.file) (name_in src x) ≡ lt)
  file-ordered n e = found (name_of src p.node.file) (name_in src x) n e

  module _ (i : InDir staged (name_of src p.node.dir)) where
    pub file-broken : (FileTests staged src p x → ⊥) → Breaks staged src p
    file-broken h = broken a (own-file staged) (λ n f e. h (tests (file-passes i f e)))

    pub file-followed : {name : NameRef} {n : ℕ} → ((i : ℕ) → Byte (get_or src i 0)) → FileTests staged src p x → Names src name (name_in src x) → n ≡ u32_at src x.start →
        Follows staged src p (record { node = record { dir = p.node.dir; file = name; number = n }; next = x.end; dirs = p.dirs; files = p.files + 1 })
    file-followed {name} {n} b t d e =
        let q = passes t in
        let c = is-file (name_of src p.node.dir) (drop 4 (value_of src x)) q.valid in
        followed a _ (λ i. ((name_of src p.node.dir, (d.same ∙ name-value) i), (e ∙ number-value t.long) i))
        record {
          node = record { dir = a.spot.node.dir; file = d.sound };
          within = a.stands.within;
          dir = a.spot.dir;
          dirs_fit = a.spot.dirs_fit;
          files_fit = let r : p.files < files_of staged = t.room in omega arith;
        }
        refl (file-fits i q a.spot.dirs_fit) (omega arith) (omega arith)
        (file-again q (all_take Byte 4 (value_of src x) (all_take Byte (x.end - x.start) (drop x.start src) (all_drop Byte x.start src (all-at Byte 0 src b)))))

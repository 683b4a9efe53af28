-- The loop of `read_nodes`: m was read, and what is left from the place on belongs to it.
use mathlib.Core.Path.{◌≡◌, refl, sym, ap, ◌∙◌}
use mathlib.Core.Bool.{Bool, true, false, false≢true}
use mathlib.Core.List.{List, [], ◌∷◌, ◌++◌, map, map-append, append_assoc, append-nil}
use Prim.Native.Nat.{ℕ, ◌≤◌, ◌<◌}
use native.Mathlib.Omega.{arith}
use lib.ListN.{length, drop}
use lib.Seq.{append_snoc}
use Rattle.basics.specs.Limits.{file_limit}
use Rattle.basics.specs.Order.{lt, Name, Key, cmp_name, cmp_key}
use Rattle.basics.specs.Map as model
use Rattle.basics.specs.Map.{Map}
use Rattle.basics.specs.Base.{Bytes}
use Rattle.basics.specs.Name.{valid_name}
use Rattle.basics.specs.Field.{Field, encode_field, encode_fields, fields_from}
use Rattle.model.specs.Store.{ascending}
use Rattle.basic_laws.specs.FieldLaws.{encode_append}
use Rattle.laws.specs.ImageLaws.{listed, node-parts, staged-parts}
use Rattle.laws.specs.TreeLaws.{size, is_dir, is_file, ascending-sorted}
use Rattle.spans.specs.declared.NameRef.{NameRef}
use Rattle.spans.specs.Spans.{Names}
use Rattle.spans.proofs.Parts.{empty-name}
use Rattle.store.specs.Places.{table_room}
use Rattle.store.specs.declared.Node.{Node}
use Rattle.store.specs.declared.Table.{Table}
use Rattle.store.specs.Tables.{key_of, node_of, live, map_of, Holds}
use Rattle.store.proofs.Live.{length-table}
use Rattle.decode.specs.declared.Spot.{Spot}
use Rattle.decode.specs.Reading.{Lacks, Ends, Ahead, starts}
use Rattle.decode.specs.Listing.{own, files_of, valid_at, Formed, last_key, Fits}
use Rattle.decode.specs.Spots.{LastDir, SoundSpot, Follows, Breaks}
use Rattle.decode.specs.Decoding.{NodesRead}
use Rattle.decode.proofs.Ahead.{one_more}
use Rattle.decode.proofs.Filling.{unused, stored}
use Rattle.decode.proofs.Rows.{invalid-nil, last_more, last-below, ascending-more, valid-at, valid-more, size_append, count}
use Rattle.decode.proofs.Nodes.{own-listed, same-node}

-- Before the first node.
abbrev none_yet : Key
none_yet = ([], [])

above-none : (staged : Bool) (n : model.Node) → valid_at staged [] n ≡ true → cmp_key none_yet n.0 ≡ lt
unfolding cmp_key
above-none false n e = go n.0.0 (node-parts [] n e).0
  where
    go : (d : Name) → valid_name d ≡ true → cmp_key none_yet (d, n.0.1) ≡ lt
    go [] v = invalid-nil v
    go (y ∷ ys) v = refl
above-none true n e = let p = staged-parts n e in rw p.0 (go n.0.1 p.1)
  where
    go : (f : Name) → valid_name f ≡ true → cmp_name [] f ≡ lt
    go [] v = invalid-nil v
    go (y ∷ ys) v = refl

-- A node of a formed listing fits behind those before it; a formed listing with a node that fits is formed.
abbrev FitsBehind : Bool → Map → model.Node → Type 0
FitsBehind staged m n = Fits staged (last_key none_yet m) (size is_dir m) (size is_file m) n

fits-behind : {staged : Bool} (m : Map) (n : model.Node) (r : Map) → Formed staged (m ++ n ∷ r) → FitsBehind staged m n
fits-behind {staged} m n r f =
    let v : valid_at staged (last_key none_yet m).0 n ≡ true = valid-at staged none_yet m n r f.valid in
    record {
      valid = v;
      above = last-below none_yet m n r f.ascends (λ e. above-none staged n (rw e at v));
      dirs_fit = omega (arith, size_append is_dir m (n ∷ r), f.dirs);
      files_fit = omega (arith, size_append is_file m (n ∷ r), f.files);
    }

formed-more : {staged : Bool} (m : Map) (n : model.Node) → Formed staged m → FitsBehind staged m n → Formed staged (m ++ n ∷ [])
formed-more {staged} m n f h = record {
  ascends = ascending-more none_yet m n f.ascends h.above;
  valid = valid-more staged none_yet m n f.valid h.valid;
  dirs = omega (arith, size_append is_dir m (n ∷ []), h.dirs_fit);
  files = omega (arith, size_append is_file m (n ∷ []), h.files_fit);
}

-- The bytes of one node's field more.
encode-more : (g : model.Node → Field) (m : Map) (n : model.Node) → encode_fields (map g (m ++ n ∷ [])) ≡ encode_fields (map g m) ++ encode_field (g n)
unfolding encode_fields
encode-more g m n = ap encode_fields (map-append g m (n ∷ [])) ∙ encode_append (map g m) (g n ∷ []) ∙ ap (λ (l : Bytes). encode_fields (map g m) ++ l) (append-nil (encode_field (g n)))

pub record Progress (staged : Bool) (src : Bytes) (at : ℕ) (t : Table) (p : Spot) : Type 0 where
  pub m : Map
  pub holds : Holds src t m
  pub spot : SoundSpot staged src p
  pub key : last_key none_yet m ≡ key_of src p.node.dir p.node.file
  pub dirs : p.dirs ≡ size is_dir m
  pub files : p.files ≡ size is_file m
  pub formed : Formed staged m
  pub bytes : drop at src ≡ encode_fields (map (listed staged) m) ++ drop p.next src
  pub only : (y : Map) (fs : List Field) → Formed staged y → starts (own staged) fs ≡ false → Ahead src at (map (listed staged) y ++ fs) → (r : Map) × ((y ≡ m ++ r) × Ahead src p.next (map (listed staged) r ++ fs))

no-dir : (staged : Bool) → LastDir staged []
no-dir false = λ h. absurd (h refl)
no-dir true = refl

-- The listing is empty.
abbrev Blank : NameRef → Type 0
Blank r = (r.start ≡ 0) × ((r.len ≡ 0) × (r.baks ≡ 0))

blank-name : (src : Bytes) (r : NameRef) → Blank r → Names src r []
blank-name src r e = let p : r ≡ record { start = 0; len = 0; baks = 0 } = λ i. record { start = e.0 i; len = e.1.0 i; baks = e.1.1 i } in rw p (empty-name src)

pub begin : {staged : Bool} {src : Bytes} {at : ℕ} {t : Table} {n : Node} → live t ≡ [] → Blank n.dir × (Blank n.file × (n.number ≡ 0)) → at ≤ length src →
    Progress staged src at t (record { node = n; next = at; dirs = 0; files = 0 })
unfolding encode_fields ascending
begin {staged} {src} {at} {t} {n} h e w = let d = blank-name src n.dir e.0 in let f = blank-name src n.file e.1.0 in record {
  m = [];
  holds = unused h;
  spot = record { node = record { dir = d.sound; file = f.sound }; within = w; dir = rw d.same (no-dir staged); dirs_fit = omega arith; files_fit = omega arith };
  key = λ i. (sym d.same i, sym f.same i);
  dirs = refl;
  files = refl;
  formed = record { ascends = refl; valid = refl; dirs = omega arith; files = omega arith };
  bytes = refl;
  only = λ y fs f s a. (y, (refl, a));
}

module _ {staged : Bool} {src : Bytes} {at : ℕ} {t : Table} {p : Spot} (w : Progress staged src at t p) where
  -- What a node that fits behind the last one fits.
  behind : (n : model.Node) → Fits staged (key_of src p.node.dir p.node.file) p.dirs p.files n → FitsBehind staged w.m n
  behind n f = rw (w.key, ← w.dirs, ← w.files) f

  front : (n : model.Node) → FitsBehind staged w.m n → Fits staged (key_of src p.node.dir p.node.file) p.dirs p.files n
  front n f = rw (← w.key, w.dirs, w.files) f

  -- The table has room for one node more.
  pub room : length (live t) < table_room
  room =
      let l : length w.m ≡ length (live t) = ap length (sym w.holds.same) ∙ length-table src t in
      omega (arith, count w.m, w.formed.dirs, limit staged w.formed.files)
    where
      limit : (s : Bool) → size is_file w.m ≤ files_of s → size is_file w.m ≤ file_limit
      limit false h = h
      limit true h = omega arith

  -- One node more.
  module _ {q : Spot} {u : Table} (f : Follows staged src p q) (e : live u ≡ live t ++ q.node ∷ []) where
    pub goes_on : Progress staged src at u q
    goes_on = record {
      m = w.m ++ n ∷ [];
      holds = stored w.holds f.spot.node room e (ascending-sorted (w.m ++ n ∷ []) more.ascends);
      spot = f.spot;
      key = last_more none_yet w.m n;
      dirs = f.dirs ∙ omega (arith, w.dirs, size_append is_dir w.m (n ∷ []));
      files = f.files ∙ omega (arith, w.files, size_append is_file w.m (n ∷ []));
      formed = more;
      bytes = w.bytes ∙ ap (λ (l : Bytes). encode_fields (map (listed staged) w.m) ++ l) f.bytes ∙ rw (encode-more (listed staged) w.m n) (sym (append_assoc (encode_fields (map (listed staged) w.m)) (encode_field (listed staged n)) (drop q.next src)));
      only = λ y fs g s a. let r = w.only y fs g s a in first-is y fs g s r.0 r.1.0 r.1.1;
    }
      where
        n : model.Node
        n = node_of src q.node

        more : Formed staged (w.m ++ n ∷ [])
        more = formed-more w.m n w.formed (behind n f.fits)

        first-is : (y : Map) (fs : List Field) → Formed staged y → starts (own staged) fs ≡ false → (r : Map) → y ≡ w.m ++ r → Ahead src p.next (map (listed staged) r ++ fs) → (r : Map) × ((y ≡ w.m ++ n ∷ [] ++ r) × Ahead src q.next (map (listed staged) r ++ fs))
        first-is y fs g s [] e a =
            let o = one_more (fields_from 0 (drop q.next src)) (listed staged n) (sym f.fields ∙ a) in
            absurd (false≢true (sym s ∙ rw o.1.0 (own-listed staged n)))
        first-is y fs g s (k ∷ r) e a =
            let o = one_more (fields_from 0 (drop q.next src)) (listed staged n) (sym f.fields ∙ a) in
            let z : listed staged k ∷ (map (listed staged) r ++ fs) ≡ listed staged n ∷ o.0 = o.1.0 in
            let l : o.0 ≡ map (listed staged) r ++ fs = cc in
            let i : listed staged k ≡ listed staged n = cc in
            let b : k ≡ n = same-node staged _ k n (fits-behind w.m k r (rw e at g)).valid (behind n f.fits).valid i in
            (r, (e ∙ rw b (sym (append_snoc w.m n r)), rw (← l) o.1.1))

  -- No field of the listing stands there: all of it was read.
  pub stops : Ends (own staged) src p.next → NodesRead staged src at t p.next
  stops h = record {
    sound = w.holds.sound;
    reads = record {
      within = w.spot.within;
      formed = rw w.holds.same w.formed;
      bytes = rw w.holds.same w.bytes;
      only = λ y fs g s a. let r = w.only y fs g s a in all y fs r.0 r.1.0 r.1.1;
    };
  }
    where
      all : (y : Map) (fs : List Field) (r : Map) → y ≡ w.m ++ r → Ahead src p.next (map (listed staged) r ++ fs) → (y ≡ map_of src t) × Ahead src p.next fs
      all y fs [] e a = (e ∙ append-nil w.m ∙ sym w.holds.same, a)
      all y fs (k ∷ r) e a = absurd (false≢true (sym (h.here _ a) ∙ own-listed staged k))

  -- A field that no node has which fits: there is no such listing.
  pub breaks : Breaks staged src p → Lacks (map (listed staged)) (Formed staged) (own staged) src at
  breaks h = record { none = λ y fs g s a. let r = w.only y fs g s a in nowhere y fs g s r.0 r.1.0 r.1.1 }
    where
      nowhere : (y : Map) (fs : List Field) → Formed staged y → starts (own staged) fs ≡ false → (r : Map) → y ≡ w.m ++ r → Ahead src p.next (map (listed staged) r ++ fs) → ⊥
      nowhere y fs g s [] e a = false≢true (sym s ∙ h.here fs a)
      nowhere y fs g s (k ∷ r) e a = h.unfit k _ (front k (fits-behind w.m k r (rw e at g))) a

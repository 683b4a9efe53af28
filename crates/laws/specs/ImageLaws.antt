-- An image is read back: decode (encode s) is s for every well-formed s, and decode b is s only where encode s is b.
use Rattle.std.specs.Prelude.{◌≡◌, ℕ, ◌≤◌, List, [], ◌∷◌, ◌++◌, map, Bool, true, false, ◌&&◌, length, leb, eqb, if◌then◌else◌}
use Rattle.std.proofs.Math.Path.{refl}
use Rattle.std.proofs.Common.{sym, ◌∙◌, ap, ap₂, arith, append_assoc}
use Rattle.std.proofs.Math.Option.{Option, none, some}
use Rattle.std.proofs.lemmas.Bool.{false≢true}
use Rattle.basics.specs.Limits.{log_limit, number_limit}
use Rattle.basics.specs.Order.{Name}
use Rattle.basics.specs.Map.{Map, Node}
use Rattle.basics.specs.Base.{Bytes, case_option, if_empty, is_some, same_bytes, all_of, any_of}
use Rattle.basics.specs.Name.{valid_name}
use Rattle.basics.specs.Field.{little_endian, Field, encode_fields, decode_fields, has_tag}
use Rattle.model.specs.Store.{Store, dirs, file_count, valid_number, valid_node, valid_nodes, valid_staged, ascending, well_formed}
use Rattle.model.specs.Image.{node_field, staged_field, log_field, mark_field, image_fields, encode, tree_of, staging_of, log_of, store_of, decode}
use Rattle.basic_laws.specs.Tests.{and_both, and_made, leb_le, eqb-eq, same-eq, same_refl, All, all_append, all-of, all_map}
use Rattle.basic_laws.specs.ValidNames.{valid-length}
use Rattle.basic_laws.specs.FieldLaws.{le_four, Short, split-join, encode_append}

pub number_le : (x : ℕ) → valid_number x ≡ true → x ≤ 4294967295
number_le x e = leb_le x number_limit (and_both (leb 1 x) (leb x number_limit) e).1

-- What well-formedness says, part by part.
pub record Parts (s : Store) : Type 0 where
  pub tree_ascends : ascending s.tree ≡ true
  pub nodes : valid_nodes [] s.tree ≡ true
  pub dirs_fit : leb (length (dirs s.tree)) 16 ≡ true
  pub files_fit : leb (file_count s.tree) 128 ≡ true
  pub staging_ascends : ascending s.staging ≡ true
  pub staged : all_of valid_staged s.staging ≡ true
  pub staging_fits : leb (length s.staging) 32 ≡ true
  pub log_fits : case_option s.log true (λ l. leb (length l) log_limit) ≡ true

pub parts : (s : Store) → well_formed s ≡ true → Parts s
unfolding well_formed
parts s e =
    let h = and_both _ (case_option s.log true (λ l. leb (length l) log_limit)) e in
    let g = and_both _ (leb (length s.staging) 32) h.0 in
    let f = and_both _ (all_of valid_staged s.staging) g.0 in
    let d = and_both _ (ascending s.staging) f.0 in
    let c = and_both _ (leb (file_count s.tree) 128) d.0 in
    let b = and_both _ (leb (length (dirs s.tree)) 16) c.0 in
    let a = and_both (ascending s.tree) (valid_nodes [] s.tree) b.0 in
    record { tree_ascends = a.0; nodes = a.1; dirs_fit = b.1; files_fit = c.1; staging_ascends = d.1; staged = f.1; staging_fits = g.1; log_fits = h.1 }

pub of_parts : (s : Store) → Parts s → well_formed s ≡ true
unfolding well_formed
of_parts s p =
    and_made _ _ (and_made _ _ (and_made _ _ (and_made _ _ (and_made _ _ (and_made _ _ (and_made _ _ p.tree_ascends p.nodes) p.dirs_fit) p.files_fit) p.staging_ascends) p.staged) p.staging_fits) p.log_fits

-- The tree's fields.
abbrev NoTree : List Field → Type 0
NoTree rest = (d : Name) → tree_of d rest ≡ []

pub node-parts : (d : Name) (n : Node) → valid_node d n ≡ true → (valid_name n.0.0 ≡ true) × (if_empty n.0.1 (eqb n.1 0) (same_bytes n.0.0 d && valid_name n.0.1 && valid_number n.1) ≡ true)
unfolding valid_node
node-parts d n e = and_both (valid_name n.0.0) _ e

pub file-parts : (d e f : Name) (x : ℕ) → (same_bytes e d && valid_name f && valid_number x) ≡ true → (e ≡ d) × (valid_name f ≡ true) × (valid_number x ≡ true)
file-parts d e f x p =
    let h = and_both _ (valid_number x) p in
    let k = and_both (same_bytes e d) (valid_name f) h.0 in
    (same-eq e d k.0, k.1, h.1)

read-tree : (d : Name) (t : Map) (rest : List Field) → NoTree rest → valid_nodes d t ≡ true → tree_of d (map node_field t ++ rest) ≡ t
unfolding valid_nodes tree_of little_endian
read-tree d [] rest h e = h d
read-tree d (n ∷ t) rest h e =
    let k = and_both (valid_node d n) (valid_nodes n.0.0 t) e in
    go n.0.0 n.0.1 n.1 (read-tree n.0.0 t rest h k.1) (node-parts d n k.0).1
  where
    go : (e f : Name) (x : ℕ) → tree_of e (map node_field t ++ rest) ≡ t → if_empty f (eqb x 0) (same_bytes e d && valid_name f && valid_number x) ≡ true →
        tree_of d (node_field ((e, f), x) ∷ (map node_field t ++ rest)) ≡ ((e, f), x) ∷ t
    go e [] x ih p = rw (eqb-eq x 0 p) (ap (((e, []), 0) ∷◌) ih)
    go e (y ∷ ys) x ih p =
        let h = file-parts d e (y ∷ ys) x p in
        ap₂ ◌∷◌ (λ i. ((sym h.0 i, y ∷ ys), le_four x (number_le x h.2) i)) (rw (← h.0) ih)

-- A reader that passes over the fields of a listing.
pass : {X : Type 0} (F : List Field → X) (g : Node → Field) → ((n : Node) (fs : List Field) → F (g n ∷ fs) ≡ F fs) → (t : Map) (rest : List Field) → F (map g t ++ rest) ≡ F rest
pass F g h [] rest = refl
pass F g h (n ∷ t) rest = h n (map g t ++ rest) ∙ pass F g h t rest

staging-pass : (n : Node) (fs : List Field) → staging_of (node_field n ∷ fs) ≡ staging_of fs
unfolding staging_of
staging-pass n fs = go n.0.1
  where
    go : (f : Name) → staging_of (if_empty f (record { tag = 0x10; value = n.0.0 }) (record { tag = 0x11; value = little_endian 4 n.1 ++ n.0.1 }) ∷ fs) ≡ staging_of fs
    go [] = refl
    go (y ∷ ys) = refl

log-pass : (n : Node) (fs : List Field) → log_of (node_field n ∷ fs) ≡ log_of fs
unfolding log_of
log-pass n fs = go n.0.1
  where
    go : (f : Name) → log_of (if_empty f (record { tag = 0x10; value = n.0.0 }) (record { tag = 0x11; value = little_endian 4 n.1 ++ n.0.1 }) ∷ fs) ≡ log_of fs
    go [] = refl
    go (y ∷ ys) = refl

-- A test for one of the last two tags.
abbrev tag_is : ℕ → List Field → Bool
tag_is t fs = any_of (λ f. eqb t f.tag) fs

tag-pass : (t : ℕ) → eqb t 0x10 ≡ false → eqb t 0x11 ≡ false → (n : Node) (fs : List Field) → tag_is t (node_field n ∷ fs) ≡ tag_is t fs
tag-pass t a b n fs = go n.0.1
  where
    go : (f : Name) → tag_is t (if_empty f (record { tag = 0x10; value = n.0.0 }) (record { tag = 0x11; value = little_endian 4 n.1 ++ n.0.1 }) ∷ fs) ≡ tag_is t fs
    go [] = rw a
    go (y ∷ ys) = rw b

-- The fields behind the tree, and behind the staging files.
abbrev pub tail : Store → List Field
tail s = log_field s.log ++ mark_field s.open_mark

no-tree : (s : Store) → NoTree (map staged_field s.staging ++ tail s)
unfolding tree_of
no-tree s d = pass (tree_of d) staged_field (λ n fs. refl) s.staging (tail s) ∙ go s.log s.open_mark
  where
    go : (l : Option Bytes) (b : Bool) → tree_of d (log_field l ++ mark_field b) ≡ []
    go none true = refl
    go none false = refl
    go (some l) true = refl
    go (some l) false = refl

pub staged-parts : (n : Node) → valid_staged n ≡ true → (n.0.0 ≡ []) × (valid_name n.0.1 ≡ true) × (valid_number n.1 ≡ true)
unfolding valid_staged
staged-parts n e = file-parts [] n.0.0 n.0.1 n.1 e

read-staging : (m : Map) (rest : List Field) → staging_of rest ≡ [] → All (λ n. valid_staged n ≡ true) m → staging_of (map staged_field m ++ rest) ≡ m
unfolding staging_of little_endian
read-staging [] rest e h = e
read-staging (n ∷ m) rest e h =
    let k = staged-parts n h.0 in
    ap₂ ◌∷◌ (λ i. ((sym k.0 i, n.0.1), le_four n.1 (number_le n.1 k.2) i)) (read-staging m rest e h.1)

tail-staging : (s : Store) → staging_of (tail s) ≡ []
unfolding staging_of
tail-staging s = go s.log s.open_mark
  where
    go : (l : Option Bytes) (b : Bool) → staging_of (log_field l ++ mark_field b) ≡ []
    go none true = refl
    go none false = refl
    go (some l) true = refl
    go (some l) false = refl

tail-log : (s : Store) → log_of (tail s) ≡ s.log
unfolding log_of
tail-log s = go s.log s.open_mark
  where
    go : (l : Option Bytes) (b : Bool) → log_of (log_field l ++ mark_field b) ≡ l
    go none true = refl
    go none false = refl
    go (some l) true = refl
    go (some l) false = refl

tail-mark : (s : Store) → tag_is 0x14 (tail s) ≡ s.open_mark
tail-mark s = go s.log s.open_mark
  where
    go : (l : Option Bytes) (b : Bool) → tag_is 0x14 (log_field l ++ mark_field b) ≡ b
    go none true = refl
    go none false = refl
    go (some l) true = refl
    go (some l) false = refl

tail-stood : (s : Store) → tag_is 0x13 (tail s) ≡ is_some s.log
tail-stood s = go s.log s.open_mark
  where
    go : (l : Option Bytes) (b : Bool) → tag_is 0x13 (log_field l ++ mark_field b) ≡ is_some l
    go none true = refl
    go none false = refl
    go (some l) true = refl
    go (some l) false = refl

-- The same fields, grouped from the right.
pub regroup : (s : Store) → image_fields s ≡ map node_field s.tree ++ (map staged_field s.staging ++ tail s)
unfolding image_fields
regroup s = simp append_assoc

-- The field of a node in one of the two listings: the directories with their files, or the staging files.
abbrev pub listed : Bool → Node → Field
listed false n = node_field n
listed true n = staged_field n

-- "A store image is, in this order": the bytes of its parts.
pub encode-parts : (s : Store) → encode s ≡ encode_fields (map node_field s.tree) ++ (encode_fields (map staged_field s.staging) ++ (encode_fields (log_field s.log) ++ encode_fields (mark_field s.open_mark)))
unfolding encode
encode-parts s = ap encode_fields (regroup s) ∙ simp encode_append

pub read-fields : (s : Store) → well_formed s ≡ true → store_of (image_fields s) ≡ s
unfolding store_of
read-fields s e =
    let p = parts s e in
    rw (regroup s) λ i. record {
      tree = read-tree [] s.tree (map staged_field s.staging ++ tail s) (no-tree s) p.nodes i;
      staging = (pass staging_of node_field staging-pass s.tree (map staged_field s.staging ++ tail s) ∙ read-staging s.staging (tail s) (tail-staging s) (all-of valid_staged s.staging p.staged)) i;
      log = (pass log_of node_field log-pass s.tree (map staged_field s.staging ++ tail s) ∙ pass log_of staged_field (λ n fs. unfold log_of in refl) s.staging (tail s) ∙ tail-log s) i;
      open_mark = (pass (tag_is 0x14) node_field (tag-pass 0x14 refl refl) s.tree (map staged_field s.staging ++ tail s) ∙ pass (tag_is 0x14) staged_field (λ n fs. refl) s.staging (tail s) ∙ tail-mark s) i;
    }

-- Every field of an image is short.
node-short : (d : Name) (n : Node) → valid_node d n ≡ true → Short (node_field n)
node-short d n e = let h = node-parts d n e in go n.0.1 h.1
  where
    go : (f : Name) → if_empty f (eqb n.1 0) (same_bytes n.0.0 d && valid_name f && valid_number n.1) ≡ true → Short (if_empty f (record { tag = 0x10; value = n.0.0 }) (record { tag = 0x11; value = little_endian 4 n.1 ++ f }))
    go [] p = let v = valid-length n.0.0 (node-parts d n e).0 in omega arith
    go (y ∷ ys) p = let v = valid-length (y ∷ ys) (file-parts d n.0.0 (y ∷ ys) n.1 p).1 in unfold little_endian in (omega arith)

nodes-short : (d : Name) (t : Map) → valid_nodes d t ≡ true → All Short (map node_field t)
unfolding valid_nodes
nodes-short d [] e = tt
nodes-short d (n ∷ t) e = let k = and_both (valid_node d n) (valid_nodes n.0.0 t) e in (node-short d n k.0, nodes-short n.0.0 t k.1)

staged-short : (n : Node) → valid_staged n ≡ true → Short (staged_field n)
unfolding little_endian
staged-short n e = let v = valid-length n.0.1 (staged-parts n e).1 in omega arith

tail-short : (l : Option Bytes) (b : Bool) → case_option l true (λ l. leb (length l) log_limit) ≡ true → All Short (log_field l ++ mark_field b)
tail-short none true e = (omega arith, tt)
tail-short none false e = tt
tail-short (some l) true e = let h = leb_le (length l) log_limit e in (omega arith, (omega arith, tt))
tail-short (some l) false e = let h = leb_le (length l) log_limit e in (omega arith, tt)

all_short : (s : Store) → Parts s → All Short (image_fields s)
all_short s p = rw (regroup s)
    (all_append Short (map node_field s.tree) _ (nodes-short [] s.tree p.nodes)
    (all_append Short (map staged_field s.staging) (tail s) (all_map (λ n. valid_staged n ≡ true) Short staged_field staged-short s.staging (all-of valid_staged s.staging p.staged))
    (tail-short s.log s.open_mark p.log_fits)))

pub split-encode : (s : Store) → well_formed s ≡ true → decode_fields (encode s) ≡ some (image_fields s)
unfolding encode
split-encode s e = split-join (image_fields s) (all_short s (parts s e))

-- Every well-formed store is read back from its image.
pub decode-encode : (s : Store) → well_formed s ≡ true → decode (encode s) ≡ some s
unfolding decode
decode-encode s e = rw (split-encode s e, read-fields s e, e, same_refl (encode s))

-- Only the image of a well-formed store is read, and as that store.
pub decode-only : (b : Bytes) (s : Store) → decode b ≡ some s → (encode s ≡ b) × (well_formed s ≡ true)
unfolding decode
decode-only b s e = go (decode_fields b) e
  where
    at : (u : Store) (t : Bool) → (well_formed u && same_bytes (encode u) b) ≡ t → if◌then◌else◌ t (some u) none ≡ some s → (encode s ≡ b) × (well_formed s ≡ true)
    at u true q p =
        let h = and_both (well_formed u) (same_bytes (encode u) b) q in
        let z : u ≡ s = cc in
        rw (← z) (same-eq (encode u) b h.1, h.0)
    at u false q p = absurd (false≢true (let z : ◌≡◌ {A = Bool} false true = cc in z))

    go : (o : Option (List Field)) → case_option o none (λ fs. if◌then◌else◌ (well_formed (store_of fs) && same_bytes (encode (store_of fs)) b) (some (store_of fs)) none) ≡ some s → (encode s ≡ b) × (well_formed s ≡ true)
    go none p = absurd (false≢true (let z : ◌≡◌ {A = Bool} false true = cc in z))
    go (some fs) p = at (store_of fs) (well_formed (store_of fs) && same_bytes (encode (store_of fs)) b) refl p

-- "The log stood if that image has a 0x13 field."
pub log-stood : (s : Store) → well_formed s ≡ true → has_tag 0x13 (encode s) ≡ is_some s.log
unfolding has_tag
log-stood s e = rw (split-encode s e, regroup s)
    (pass (tag_is 0x13) node_field (tag-pass 0x13 refl refl) s.tree (map staged_field s.staging ++ tail s) ∙ pass (tag_is 0x13) staged_field (λ n fs. refl) s.staging (tail s) ∙ tail-stood s)

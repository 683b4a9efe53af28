-- What a rotation records: each of its calls answers 0 where current and next stand, and the image that is committed holds the three operations.
use Rattle.std.specs.Prelude.{◌≡◌, ◌<◌, Bool, false, length, leb, if◌then◌else◌}
use Rattle.std.proofs.Math.Path.{refl}
use Rattle.std.proofs.Common.{sym, ◌∙◌, ap, subst, arith}
use mathlib.Core.List.{List, [], ◌∷◌, ◌++◌}
use Rattle.std.proofs.Math.Option.{Option, none, some}
use Rattle.std.proofs.Math.Bool.{true}
use Rattle.std.proofs.lemmas.Bool.{false≢true}
use Rattle.basics.specs.Limits.{op_limit, image_room}
use Rattle.basics.specs.Order.{Name}
use Rattle.basics.specs.Base.{Bytes, case_option}
use Rattle.basics.specs.Name.{is_name_byte, refused_names, valid_name}
use Rattle.basics.specs.Crc32.{crc32, register, feed_byte, shifts, shift, add_polynomial}
use Rattle.basics.specs.Field.{little_endian}
use Rattle.model.specs.Operation.{Op, copy_collection, delete_collection}
use Rattle.model.specs.Log.{recording, whole, journal, is_held, header, valid_header, walk, entries, read_journal, append_operation}
use Rattle.model.specs.Store.{Store}
use Rattle.model.specs.Image.{decode}
use Rattle.model.specs.Record.{Outcome, refuse, give, transaction, begin_transaction, appended, has_dir, record_copy, record_delete_collection}
use Rattle.answers.specs.Answers as Answers
use Rattle.answers.specs.Answers.{Answer, answer, refusal, outcome, image_entry, begin}
use Rattle.basic_laws.specs.ValidNames.{Valid}
use Rattle.laws.specs.OperationLaws.{ValidOp}
use Rattle.laws.specs.LogLaws.{recorded-stands}
use Rattle.laws.specs.AppendLaws.{appended-journal}
use Rattle.laws.specs.StoreLaws.{Good, good, well-formed}
use Rattle.laws.specs.ImageLaws.{decode-encode, decode-only}
use Rattle.laws.specs.RecordLaws.{Gives, begin-keeps, copy_keeps, delete-collection-keeps}
use Rattle.answers.specs.Rotate.{current, next, backup, rotation}

-- The three operations; x says whether backup existed. Current did.
abbrev pub rotation_ops : Bool → List Op
rotation_ops x = copy_collection current backup x ∷ copy_collection next current true ∷ delete_collection next ∷ []

-- An open transaction with these operations.
record Holds (u : Store) (ops : List Op) : Type 0 where
  mark : u.open_mark ≡ true
  reads : journal u.log ≡ recording ops whole

holds_more : (u : Store) (ops : List Op) (a : Op) → Holds u ops → length ops < 32 → ValidOp a → Holds (appended a u) (ops ++ a ∷ [])
holds_more u ops a h few v = record { mark = h.mark; reads = go u.log h.reads }
  where
    go : (l : Option Bytes) → journal l ≡ recording ops whole → journal (case_option l none (λ l. some (append_operation a l))) ≡ recording (ops ++ a ∷ []) whole
    go none q = absurd (false≢true (recorded-stands none ops whole q))
    go (some l) q = appended-journal l ops a q few v

transaction-is : (u : Store) (ops : List Op) → Holds u ops → transaction u ≡ some ops
unfolding transaction
transaction-is u ops h = rw (h.mark, h.reads)

-- The names are valid.
pub valid-current : Valid current
unfolding current valid_name is_name_byte refused_names
valid-current = refl

pub valid-next : Valid next
unfolding next valid_name is_name_byte refused_names
valid-next = refl

pub valid-backup : Valid backup
unfolding backup valid_name is_name_byte refused_names
valid-backup = refl

copy_gives : (a b : Name) (x : Bool) (u : Store) (ops : List Op) → Holds u ops → leb op_limit (length ops) ≡ false → Valid a → Valid b → has_dir a u ≡ true → has_dir b u ≡ x →
    record_copy a b u ≡ give (appended (copy_collection a b x) u)
unfolding record_copy
copy_gives a b x u ops h few v w p q = rw (transaction-is u ops h, few, v, p, w, q)

copy_missing : (a b : Name) (u : Store) (ops : List Op) → Holds u ops → leb op_limit (length ops) ≡ false → Valid a → has_dir a u ≡ false → record_copy a b u ≡ refuse 7
unfolding record_copy
copy_missing a b u ops h few v p = rw (transaction-is u ops h, few, v, p)

delete-gives : (c : Name) (u : Store) (ops : List Op) → Holds u ops → leb op_limit (length ops) ≡ false → Valid c → has_dir c u ≡ true →
    record_delete_collection c u ≡ give (appended (delete_collection c) u)
unfolding record_delete_collection
delete-gives c u ops h few v p = rw (transaction-is u ops h, few, v, p)

-- An entry from image to image that gives a store: its answer, and what its image is read as.
record Handed (a : Answer) (u : Store) : Type 0 where
  is : a ≡ answer 0 u
  read : decode a.image ≡ some u
  good : Good Valid u

handed : (f : Store → Outcome) → ((s : Store) → Good Valid s → Gives (f s)) → (b : Bytes) (s u : Store) → decode b ≡ some s → Good Valid s → f s ≡ give u →
    Handed (image_entry f b image_room) u
handed f k b s u d g e =
    let is : image_entry f b image_room ≡ answer 0 u = rw (d, e) in
    let h : Good Valid u = subst Gives e (k s g) in
    record { is = is; read = ap (λ (a : Answer). decode a.image) is ∙ decode-encode u (well-formed u h); good = h }

-- Begin.
unfoldable pub begun : Store → Store
begun s = record { tree = s.tree; staging = s.staging; log = some (header 0); open_mark = true }

begin-gives : (s : Store) → (t h : Bool) → s.open_mark ≡ t → is_held (journal s.log) ≡ h → (outcome (begin_transaction s)).number ≡ 0 → begin_transaction s ≡ give (begun s)
unfolding begin_transaction begun
begin-gives s true h p q e = let z = ap (λ (b : Bool). (outcome (if◌then◌else◌ b (refuse 3) (if◌then◌else◌ (is_held (journal s.log)) (refuse 17) (give (begun s))))).number) (sym p) in absurd (omega arith)
begin-gives s false true p q e = let z = ap (λ (b : Bool). (outcome (if◌then◌else◌ s.open_mark (refuse 3) (if◌then◌else◌ b (refuse 17) (give (begun s))))).number) (sym q) in absurd (go s.open_mark p e)
  where
    go : (b : Bool) → b ≡ false → (outcome (if◌then◌else◌ b (refuse 3) (if◌then◌else◌ (is_held (journal s.log)) (refuse 17) (give (begun s))))).number ≡ 0 → ⊥
    go true p e = omega arith
    go false p e = hold (is_held (journal s.log)) q e
      where
        hold : (b : Bool) → b ≡ true → (outcome (if◌then◌else◌ b (refuse 17) (give (begun s)))).number ≡ 0 → ⊥
        hold true q e = omega arith
        hold false q e = false≢true q
begin-gives s false false p q e = rw (p, q)

begun-holds : (s : Store) → Holds (begun s) []
unfolding begun
begun-holds s = record {
  mark = refl;
  reads = unfold read_journal valid_header header little_endian crc32 register feed_byte shifts shift add_polynomial entries walk in refl;
}

-- The store that is committed.
unfoldable pub rotating : Store → Store
rotating s =
    appended (delete_collection next) (appended (copy_collection next current true) (appended (copy_collection current backup (has_dir backup s)) (begun s)))

-- Where begin answers 0.
module _ (b : Bytes) (s : Store) (d : decode b ≡ some s) (e : (begin b image_room).number ≡ 0) where
  first : Handed (begin b image_room) (begun s)
  unfolding begin
  first = handed begin_transaction begin-keeps b s (begun s) d (good s (decode-only b s d).1) (begin-gives s s.open_mark (is_held (journal s.log)) refl refl (rw d at e))

  -- Current is missing: the first copy is refused.
  pub missing-refused : has_dir current s ≡ false → (Answers.copy_collection current backup (begin b image_room).image image_room).number ≡ 7
  unfolding Answers.copy_collection begun
  missing-refused p = rw (first.read, copy_missing current backup (begun s) [] (begun-holds s) refl valid-current p)

  module _ (p : has_dir current s ≡ true) where
    u₁ : Store
    u₁ = appended (copy_collection current backup (has_dir backup s)) (begun s)

    second : Handed (Answers.copy_collection current backup (begin b image_room).image image_room) u₁
    unfolding Answers.copy_collection u₁ begun
    second =
        handed (record_copy current backup) (copy_keeps current backup) (begin b image_room).image (begun s) u₁ first.read first.good
        (copy_gives current backup (has_dir backup s) (begun s) [] (begun-holds s) refl valid-current valid-backup p refl)

    pub first-copied : (Answers.copy_collection current backup (begin b image_room).image image_room).number ≡ 0
    first-copied = ap (λ (a : Answer). a.number) second.is

    module _ (q : has_dir next s ≡ true) where
      holds₁ : Holds u₁ (copy_collection current backup (has_dir backup s) ∷ [])
      unfolding u₁
      holds₁ = holds_more (begun s) [] (copy_collection current backup (has_dir backup s)) (begun-holds s) (omega arith) (valid-current, valid-backup)

      u₂ : Store
      u₂ = appended (copy_collection next current true) u₁

      holds₂ : Holds u₂ (copy_collection current backup (has_dir backup s) ∷ copy_collection next current true ∷ [])
      unfolding u₂
      holds₂ =
          holds_more u₁ (copy_collection current backup (has_dir backup s) ∷ []) (copy_collection next current true) holds₁ (omega arith) (valid-next, valid-current)

      abbrev image₁ : Bytes
      image₁ = (Answers.copy_collection current backup (begin b image_room).image image_room).image

      abbrev image₂ : Bytes
      image₂ = (Answers.copy_collection next current image₁ image_room).image

      third : Handed (Answers.copy_collection next current image₁ image_room) u₂
      unfolding Answers.copy_collection u₁ u₂ begun
      third =
          handed (record_copy next current) (copy_keeps next current) image₁ u₁ u₂ second.read second.good
          (copy_gives next current true u₁ _ holds₁ refl valid-next valid-current q p)

      last : Handed (Answers.delete_collection next image₂ image_room) (rotating s)
      unfolding Answers.delete_collection u₁ u₂ begun rotating
      last =
          handed (record_delete_collection next) (delete-collection-keeps next) image₂ u₂ (rotating s) third.read third.good
          (delete-gives next u₂ _ holds₂ refl valid-next q)

      -- Each call answers 0, and what is committed holds the three operations.
      pub second-copied : (Answers.copy_collection next current image₁ image_room).number ≡ 0
      second-copied = ap (λ (a : Answer). a.number) third.is

      pub deleted : (Answers.delete_collection next image₂ image_room).number ≡ 0
      deleted = ap (λ (a : Answer). a.number) last.is

      pub rotation-holds : decode (rotation b) ≡ some (rotating s)
      rotation-holds = last.read

      holds₃ : Holds (rotating s) (rotation_ops (has_dir backup s))
      unfolding rotating u₁ u₂
      holds₃ =
          holds_more u₂ (copy_collection current backup (has_dir backup s) ∷ copy_collection next current true ∷ []) (delete_collection next) holds₂ (omega arith) valid-next

      pub rotation-logged : journal (rotating s).log ≡ recording (rotation_ops (has_dir backup s)) whole
      rotation-logged = holds₃.reads

      pub rotation-found : transaction (rotating s) ≡ some (rotation_ops (has_dir backup s))
      rotation-found = transaction-is (rotating s) (rotation_ops (has_dir backup s)) holds₃

-- Recording leaves the directories and files.
pub rotating-tree : (s : Store) → (rotating s).tree ≡ s.tree
unfolding rotating begun
rotating-tree s = refl

-- The seven kinds: an operation from the values of its row.
use mathlib.Core.Path.{◌≡◌, refl}
use mathlib.Core.List.{List, [], ◌∷◌, map}
use mathlib.Core.Bool.{Bool}
use mathlib.Core.Option.{none}
use Prim.Native.Nat.{ℕ, zero, suc, ◌≤◌}
use native.Mathlib.Omega.{arith}
use lib.ListN.{length, take, get_or}
use Rattle.basics.specs.Base.{Bytes, same_bytes}
use Rattle.model.specs.Operation.{field_table, field_tags, makers}
use Rattle.basic_laws.specs.Tests.{All}
use Rattle.spans.specs.Spans.{name_of, Sound}
use Rattle.spans.specs.declared.NameRef.{NameRef}
use Rattle.transaction.specs.Rows.{kind_number, SoundParts, made, Makes}
use Rattle.transaction.specs.declared.Kind.{Kind}
use Rattle.transaction.specs.declared.Kind.TheVariants.{Write, Delete, DeleteAll, CreateCollection, DeleteCollection, CopyCollection, MarkedWrite}
use Rattle.transaction.specs.declared.Operation.{Operation}
use Rattle.transaction.specs.declared.Operation.TheVariants as code

abbrev pub no_name : NameRef
no_name = record { start = 0; len = 0; baks = 0 }

-- What holds of every list of five parts.
five : (P : List NameRef → Type 0) → ((o a b c d : NameRef) → P (o ∷ a ∷ b ∷ c ∷ d ∷ [])) → (l : List NameRef) → length l ≡ 5 → P l
five P h [] e = absurd (omega arith)
five P h (o ∷ []) e = absurd (omega arith)
five P h (o ∷ a ∷ []) e = absurd (omega arith)
five P h (o ∷ a ∷ b ∷ []) e = absurd (omega arith)
five P h (o ∷ a ∷ b ∷ c ∷ []) e = absurd (omega arith)
five P h (o ∷ a ∷ b ∷ c ∷ d ∷ []) e = h o a b c d
five P h (o ∷ a ∷ b ∷ c ∷ d ∷ x ∷ l) e = absurd (omega arith)

-- The arms of `operation_of`: x and y are what the marks of a copy and of a Write say.
abbrev choose : Kind → NameRef → NameRef → NameRef → Bool → Bool → Operation
choose Write a b c x y = code.Write a b c
choose Delete a b c x y = code.Delete a b
choose DeleteAll a b c x y = code.DeleteAll a
choose CreateCollection a b c x y = code.CreateCollection a
choose DeleteCollection a b c x y = code.DeleteCollection a
choose CopyCollection a b c x y = code.CopyCollection a b x
choose MarkedWrite a b c x y = code.MarkedWrite a b c y

-- Whether a part is the byte 1.
abbrev says : Bytes → NameRef → Bool
says src r = same_bytes (name_of src r) (1 ∷ [])

-- What `operation_of` chooses of its parts.
abbrev chosen : Bytes → Kind → List NameRef → Operation
chosen src k l = choose k (get_or l 1 no_name) (get_or l 2 no_name) (get_or l 3 no_name) (says src (get_or l 3 no_name)) (says src (get_or l 4 no_name))

pub makes : {src : Bytes} (k : Kind) {l : List NameRef} → SoundParts src l → Makes src k l (chosen src k l)
unfolding made makers
makes {src} k {l} h = five (λ l. All (Sound src) l → Makes src k l (chosen src k l)) (go k) l h.size h.sound
  where
    go : (k : Kind) (o a b c d : NameRef) → All (Sound src) (o ∷ a ∷ b ∷ c ∷ d ∷ []) → Makes src k (o ∷ a ∷ b ∷ c ∷ d ∷ []) (choose k a b c (says src c) (says src d))
    go Write o a b c d h = record { sound = (h.1.0, (h.1.1.0, h.1.1.1.0)); same = refl }
    go Delete o a b c d h = record { sound = (h.1.0, h.1.1.0); same = refl }
    go DeleteAll o a b c d h = record { sound = h.1.0; same = refl }
    go CreateCollection o a b c d h = record { sound = h.1.0; same = refl }
    go DeleteCollection o a b c d h = record { sound = h.1.0; same = refl }
    go CopyCollection o a b c d h = record { sound = (h.1.0, h.1.1.0); same = refl }
    go MarkedWrite o a b c d h = record { sound = (h.1.0, (h.1.1.0, h.1.1.1.0)); same = refl }

-- A byte that stands for no kind makes nothing.
pub no_kind : (k : ℕ) (vs : List Bytes) → ((kind : Kind) → k ≡ kind_number kind → ⊥) → made k vs ≡ none
unfolding made makers
no_kind zero vs h = refl
no_kind (suc zero) vs h = absurd (h Write refl)
no_kind (suc (suc zero)) vs h = absurd (h Delete refl)
no_kind (suc (suc (suc zero))) vs h = absurd (h DeleteAll refl)
no_kind (suc (suc (suc (suc zero)))) vs h = absurd (h CreateCollection refl)
no_kind (suc (suc (suc (suc (suc zero))))) vs h = absurd (h DeleteCollection refl)
no_kind (suc (suc (suc (suc (suc (suc zero)))))) vs h = absurd (h CopyCollection refl)
no_kind (suc (suc (suc (suc (suc (suc (suc zero))))))) vs h = absurd (h MarkedWrite refl)
no_kind (suc (suc (suc (suc (suc (suc (suc (suc k)))))))) vs h = refl

-- A kind's operation is made of the values of its row alone.
pub made_row : (src : Bytes) (k : Kind) (l : List NameRef) → length l ≡ 5 → made (kind_number k) (map (name_of src) (take (length (field_tags (kind_number k))) l)) ≡ made (kind_number k) (map (name_of src) l)
unfolding made makers field_tags field_table
made_row src k l e = five (λ l. made (kind_number k) (map (name_of src) (take (length (field_tags (kind_number k))) l)) ≡ made (kind_number k) (map (name_of src) l)) (go k) l e
  where
    go : (k : Kind) (o a b c d : NameRef) →
        made (kind_number k) (map (name_of src) (take (length (field_tags (kind_number k))) (o ∷ a ∷ b ∷ c ∷ d ∷ []))) ≡ made (kind_number k) (map (name_of src) (o ∷ a ∷ b ∷ c ∷ d ∷ []))
    go Write o a b c d = refl
    go Delete o a b c d = refl
    go DeleteAll o a b c d = refl
    go CreateCollection o a b c d = refl
    go DeleteCollection o a b c d = refl
    go CopyCollection o a b c d = refl
    go MarkedWrite o a b c d = refl

-- Every row has at most five tags.
pub five_tags : (kind : Kind) → length (field_tags (kind_number kind)) ≤ 5
unfolding field_tags field_table
five_tags Write = omega arith
five_tags Delete = omega arith
five_tags DeleteAll = omega arith
five_tags CreateCollection = omega arith
five_tags DeleteCollection = omega arith
five_tags CopyCollection = omega arith
five_tags MarkedWrite = omega arith

-- The collections that the operations of a log name: a search through the first of them, and the walk that syncs each where it is named first.
use mathlib.Core.Path.{◌≡◌, refl, sym, ap, subst, ◌∙◌}
use mathlib.Core.List.{List, [], ◌∷◌, ◌++◌, map, reverse, reverse_aux, reverse_aux-append}
use mathlib.Core.Bool.{Bool, true, false}
use Prim.Native.Nat.{ℕ, zero, suc, ◌+◌, ◌≤◌, ◌<◌}
use native.Mathlib.Numerals.{add-one}
use native.Mathlib.Omega.{arith}
use lib.ListN.{length, take, drop, get_or, length-map, get_or-map, drop_of_length-le}
use Rattle.std.specs.List.{list_any}
use lib.Seq.{drop-cons, take-suc}
use Rattle.basics.specs.Order.{Name}
use Rattle.basics.specs.Base.{Bytes, is_in, same_bytes}
use Rattle.model.specs.Step.{apply}
use Rattle.model.specs.Plan.{in_turn, collection_of, first_namings, sync_existing}
use Rattle.plans.specs.Machine.{seq_over, Going}
use Rattle.plans.proofs.MachineLaws.{begin, turn, goes_as, finish}
use Rattle.plans.specs.ModelPlans.{plain, in_turn_lem}
use Rattle.spans.specs.declared.NameRef.{NameRef}
use Rattle.spans.specs.Spans.{name_of, Names}
use Rattle.steps.specs.declared.Run.{Run}
use Rattle.steps.specs.CodeRuns.{run_of, SoundRun, Follows}
use Rattle.transaction.specs.Operations.{op_of, SoundOp}
use Rattle.transaction.specs.declared.Operation.{Operation}
use Rattle.transaction.proofs.Lists.{map-append}
use Rattle.basic_laws.specs.Tests.{All}
use Rattle.recovery.proofs.Follow.{lawful, follows_as}
use Rattle.recovery.proofs.Entries.{op-at, any-map}

get_or-any : {A : Type 0} (l : List A) (i : ℕ) (d e : A) → i < length l → get_or l i d ≡ get_or l i e
get_or-any [] i d e h = absurd (omega arith)
get_or-any (a ∷ l) zero d e h = refl
get_or-any (a ∷ l) (suc i) d e h = get_or-any l i d e (omega arith)

all-take : {A : Type 0} (P : A → Type 0) (n : ℕ) (l : List A) → All P l → All P (take n l)
all-take P zero l h = tt
all-take P (suc n) [] h = tt
all-take P (suc n) (a ∷ l) h = (h.0, all-take P n l h.1)

-- The collections in the operations' order, and the latest first.
abbrev named : Bytes → List Operation → List Name
named src ops = map collection_of (map (op_of src) ops)

abbrev seen : Bytes → List Operation → List Name
seen src ops = reverse (named src ops)

seen-last : (src : Bytes) (front : List Operation) (op : Operation) → seen src (front ++ op ∷ []) ≡ collection_of (op_of src op) ∷ seen src front
seen-last src front op =
    let e : named src (front ++ op ∷ []) ≡ named src front ++ collection_of (op_of src op) ∷ [] =
    ap (map collection_of) (map-append (op_of src) front (op ∷ [])) ∙ map-append collection_of (map (op_of src) front) (op_of src op ∷ []) in
    ap reverse e ∙ reverse_aux-append (named src front) (collection_of (op_of src op) ∷ []) []

pub all-reverse : {A : Type 0} (P : A → Type 0) (l after : List A) → All P l → All P after → All P (reverse_aux l after)
all-reverse P [] after h k = k
all-reverse P (a ∷ l) after h k = all-reverse P l (a ∷ after) h.1 (h.0, k)

-- `named_before`: a collection is named before where one of the operations, the latest first, changes it.
named-back : (src : Bytes) (ops after : List Operation) → map (λ o. collection_of (op_of src o)) (reverse_aux ops after) ≡ reverse_aux (named src ops) (map (λ o. collection_of (op_of src o)) after)
named-back src [] after = refl
named-back src (op ∷ ops) after = named-back src ops (op ∷ after)

pub any-named : (src : Bytes) (n : Name) (ops : List Operation) → list_any (λ o. same_bytes n (collection_of (op_of src o))) (reverse ops) ≡ is_in n (seen src ops)
any-named src n ops = any-map (same_bytes n) (λ o. collection_of (op_of src o)) (reverse ops) ∙ ap (is_in n) (named-back src ops [])

-- `sync_collection_dirs`: the collections from i on are left, those before it seen.
abbrev left : Bytes → List Operation → ℕ → List Name
left src ops i = first_namings (seen src (take i ops)) (drop i (named src ops))

pub record Syncing (src : Bytes) (ops : List Operation) (start now : Run) (i : ℕ) : Type 0 where
  pub held : All (SoundOp src) ops
  pub sound : SoundRun src now
  pub going : Going plain (seq_over apply sync_existing (first_namings [] (named src ops))) (seq_over apply sync_existing (left src ops i)) (run_of src start) (run_of src now)

pub syncing-start : {src : Bytes} {ops : List Operation} {run : Run} → All (SoundOp src) ops → SoundRun src run → Syncing src ops run run 0
syncing-start s r = record { held = s; sound = r; going = begin lawful }

-- The next collection, by whether it was named before.
module _ (x : Name) (xs : List Name) (l : List Name) where
  named_again : is_in x l ≡ true → first_namings l (x ∷ xs) ≡ first_namings (x ∷ l) xs
  unfolding first_namings
  named_again h = rw h

  named-first : is_in x l ≡ false → first_namings l (x ∷ xs) ≡ x ∷ first_namings (x ∷ l) xs
  unfolding first_namings
  named-first h = rw h

module _ {src : Bytes} {ops : List Operation} {start now : Run} {i : ℕ} (g : Syncing src ops start now i) where
  length-named : length (named src ops) ≡ length ops
  length-named = length-map (map (op_of src) ops) collection_of ∙ length-map ops (op_of src)

  pub syncing-end : length ops ≤ i → Follows plain src (in_turn sync_existing (first_namings [] (named src ops))) start now
  unfolding first_namings
  syncing-end h =
      follows_as lawful
      (record {
        sound = g.sound;
        does = finish lawful
            (goes_as lawful g.going (ap (λ (l : List Name). seq_over apply sync_existing (first_namings (seen src (take i ops)) l) (run_of src now).store) (drop_of_length-le (named src ops) {i = i} (omega (arith, length-named)))));
      })
      (in_turn_lem sync_existing (first_namings [] (named src ops)) _)

  pub seen-sound : All (SoundOp src) (take i ops)
  seen-sound = all-take (SoundOp src) i ops g.held

  module _ (d : Operation) (h : i < length ops) where
    pub next-op : SoundOp src (get_or ops i d)
    next-op = op-at src ops i d h g.held

    abbrev x : Name
    x = collection_of (op_of src (get_or ops i d))

    abbrev after : List Name
    after = first_namings (x ∷ seen src (take i ops)) (drop (suc i) (named src ops))

    named-at : get_or (named src ops) i x ≡ x
    named-at = get_or-map collection_of (map (op_of src) ops) i (op_of src (get_or ops i d)) ∙ ap collection_of (get_or-map (op_of src) ops i (get_or ops i d) ∙ ap (op_of src) (get_or-any ops i (get_or ops i d) d h))

    at_next : left src ops i ≡ first_namings (seen src (take i ops)) (x ∷ drop (suc i) (named src ops))
    at_next = ap (first_namings (seen src (take i ops))) (drop-cons (named src ops) i x (omega (arith, length-named)) ∙ ap (λ (n : Name). n ∷ drop (suc i) (named src ops)) named-at)

    left_after : after ≡ left src ops (i + 1)
    left_after =
        ap (λ (l : List Name). first_namings l (drop (suc i) (named src ops))) (sym (seen-last src (take i ops) (get_or ops i d)) ∙ ap (seen src) (sym (take-suc ops i d h)))
        ∙ ap (left src ops) (sym (add-one i))

    goes : {l : List Name} → left src ops i ≡ l → Going plain (seq_over apply sync_existing (first_namings [] (named src ops))) (seq_over apply sync_existing l) (run_of src start) (run_of src now)
    goes e = goes_as lawful g.going (ap (λ (l : List Name). seq_over apply sync_existing l (run_of src now).store) e)

    module _ {r : NameRef} (q : Names src r x) where
      told-seen : {b : Bool} → is_in (name_of src r) (seen src (take i ops)) ≡ b → is_in x (seen src (take i ops)) ≡ b
      told-seen t = sym (ap (λ (n : Name). is_in n (seen src (take i ops))) q.same) ∙ t

      pub syncing-skip : {next : Run} → next ≡ now → is_in (name_of src r) (seen src (take i ops)) ≡ true → Syncing src ops start next (i + 1)
      syncing-skip e t =
          subst (λ (n : Run). Syncing src ops start n (i + 1)) (sym e)
          record { held = g.held; sound = g.sound; going = goes (at_next ∙ named_again x _ _ (told-seen t) ∙ left_after) }

      pub syncing-next : {next : Run} (res : Run) → next ≡ res → is_in (name_of src r) (seen src (take i ops)) ≡ false → Follows plain src (sync_existing (name_of src r)) now res → Syncing src ops start next (i + 1)
      syncing-next res e t p =
          let z : Follows plain src (sync_existing x) now res = subst (λ (n : Name). Follows plain src (sync_existing n) now res) q.same p in
          subst (λ (n : Run). Syncing src ops start n (i + 1)) (sym e)
          record { held = g.held; sound = p.sound; going = turn lawful (goes (at_next ∙ named-first x _ _ (told-seen t) ∙ ap (λ (l : List Name). x ∷ l) left_after)) z.does }

-- `gather`: the fields before `next` have been met.
use Rattle.std.specs.Prelude.{Option, None, Some, IfSome, option_map}
use mathlib.Core.Path.{◌≡◌, refl, sym, ap, subst, ◌∙◌}
use mathlib.Core.List.{List}
use mathlib.Core.Option.{none}
use Prim.Native.Nat.{ℕ, ◌+◌, ◌≤◌}
use native.Mathlib.Omega.{arith}
use lib.ListN.{length, take, drop, length-map}
use Rattle.basics.specs.Order.{Name}
use Rattle.basics.specs.Base.{Bytes}
use Rattle.basics.specs.Name.{lower}
use Rattle.basics.specs.Field.{fields_from}
use Rattle.model.specs.Plan.{first_namings}
use Rattle.field.specs.Reading.{field_of, Stands}
use Rattle.field.specs.declared.Item.{Item}
use Rattle.lend.specs.declared.Named.{Named}
use Rattle.model.specs.Record.{key_set}
use Rattle.laws.specs.KeySetLaws.{set_last, set-length}
use Rattle.key_set.specs.Gathering.{set_in, lowered_in, Few, AreFields, Roomy, Lendable, Entries, Gathers, more}
use Rattle.key_set.specs.declared.Gathered.{Gathered}
use Rattle.key_set.proofs.Walks.{Passed, values_of, none_passed, are_fields, lowered-values, all-passed, never-broken, few-passed, passed-one, passed-values}
use Rattle.key_set.proofs.Gathers.{nothing_yet}

abbrev set_of : {keys : Bytes} {next : ℕ} → Passed keys next → List Name
set_of p = key_set (values_of p.fields)

pub record Gathering (keys names₀ : Bytes) (c : Named) (at : ℕ) (first names out : Bytes) (next : ℕ) (g : Gathered) : Type 0 where
  pub passed : Passed keys next
  pub few : Few keys
  pub lendable : Lendable names₀ c
  pub room : at + 4672 ≤ length first
  pub short : length first ≤ 0xFFFF
  pub size : length names ≡ length names₀
  pub same : (collection : Name) → Roomy names₀ c collection → Roomy names c collection × Gathers collection at first (set_of passed) out g

pub gathering : {keys names out : Bytes} {c : Named} {at : ℕ} → Few keys → Lendable names c → at + 4672 ≤ length out → length out ≤ 0xFFFF →
    Gathering keys names c at out names out 0 (record { count = 0; end = option_map (λ r. at) c.name })
unfolding key_set first_namings none_passed
gathering {keys} f l r s = record { passed = none_passed keys; few = f; lendable = l; room = r; short = s; size = refl; same = λ collection w. (w, nothing_yet w) }

module _ {keys names₀ : Bytes} {c : Named} {at : ℕ} {first names out : Bytes} {next : ℕ} {g : Gathered} (w : Gathering keys names₀ c at first names out next g) where
  pub out-size : length out ≡ length first
  out-size = (w.same w.lendable.collection w.lendable.roomy).1.size

  pub broken : {A : Type 0} → fields_from 0 (drop next keys) ≡ none → A
  broken h = never-broken w.passed w.few h

  set-few : length (set_of w.passed) ≤ length w.passed.fields
  set-few = let a = set-length (values_of w.passed.fields) in omega (arith, a, length-map w.passed.fields (λ f. f.value))

  pub all-met : length keys ≤ next → (collection : Name) → Roomy names₀ c collection → Gathers collection at first (set_in keys) out g
  all-met h collection r = subst (λ (l : List Name). Gathers collection at first l out g) (ap key_set (all-passed w.passed w.few h) ∙ sym (rw w.few.reads)) (w.same collection r).1

  module _ {x : Item} (i : Stands keys next x) where
    few-keys : length w.passed.fields ≤ 31
    few-keys = few-passed w.passed w.few i

    pub may_add : Lendable names c × (AreFields (take next keys) × ((g.count ≤ 31) × IfSome g.end (λ e. e ≤ 0xFFFF)))
    may_add =
        let s = w.same w.lendable.collection w.lendable.roomy in (
          record { collection = w.lendable.collection; roomy = s.0 },
          (are_fields w.passed, (omega (arith, s.1.count, set-few, few-keys), low g.end s.1.entries)),
        )
      where
        low : (o : Option ℕ) → Entries w.lendable.collection at first (set_of w.passed) out o → IfSome o (λ e. e ≤ 0xFFFF)
        low None v = tt
        low (Some e) v = omega (arith, v.small, set-few, few-keys, w.room, w.short)

    -- What `add_key` ensures of the next field.
    pub added : {names' out' : Bytes} {r : Gathered} → length names' ≡ length names →
        ((collection : Name) (start : ℕ) (first : Bytes) (set : List Name) → Roomy names c collection → start + 4672 ≤ length first → length set ≤ 31 → Gathers collection start first set out g →
        Roomy names' c collection × Gathers collection start first (more (lower (field_of keys x).value) (lowered_in (take next keys)) set) out' r) →
        Gathering keys names₀ c at first names' out' x.end r
    added {names'} {out'} {r} e h = record {
      passed = passed-one w.passed i;
      few = w.few;
      lendable = w.lendable;
      room = w.room;
      short = w.short;
      size = e ∙ w.size;
      same = λ collection q.
          let s = w.same collection q in
          let z = h collection at first (set_of w.passed) s.0 w.room (omega (arith, set-few, few-keys)) s.1 in
          (z.0, subst (λ (l : List Name). Gathers collection at first l out' r) next-set z.1);
    }
      where
        next-set : more (lower (field_of keys x).value) (lowered_in (take next keys)) (set_of w.passed) ≡ set_of (passed-one w.passed i)
        next-set =
            ap (λ (l : List Name). more (lower (field_of keys x).value) l (set_of w.passed)) (lowered-values w.passed)
            ∙ sym (ap key_set (passed-values w.passed i) ∙ set_last (values_of w.passed.fields) (field_of keys x).value)

-- `put_entry`: a key lent behind the collection, and the entry of its delete.
use Rattle.std.specs.Prelude.{Some}
use mathlib.Core.Path.{◌≡◌, ap, subst, ◌∙◌}
use mathlib.Core.Bool.{true}
use Prim.Native.Nat.{ℕ, ◌+◌, ◌≤◌}
use native.Mathlib.Omega.{arith}
use lib.ListN.{length, length-append}
use Rattle.basics.specs.Order.{Name}
use Rattle.basics.specs.Base.{Bytes}
use Rattle.basics.specs.Name.{valid_name}
use Rattle.basics.specs.Field.{little_endian, encode_field, encode_fields}
use Rattle.model.specs.Operation.{delete, field_table, field_tags, kind, values, tagged, encode_payload}
use Rattle.model.specs.Log.{entry}
use Rattle.basic_laws.specs.Tests.{and_made}
use Rattle.basic_laws.specs.ValidNames.{valid-length}
use Rattle.laws.specs.AppendLaws.{entry_length}
use Rattle.field.specs.Writing.{Writes}
use Rattle.field.proofs.Written.{length-written}
use Rattle.spans.specs.Spans.{name_of, Names, Given}
use Rattle.spans.specs.declared.NameRef.{NameRef}
use Rattle.transaction.specs.Operations.{op_of, WritesOp}
use Rattle.transaction.specs.declared.Operation.TheVariants.{Delete}
use Rattle.lend.specs.Lending.{Lends}
use Rattle.lend.specs.declared.Named.{Named}
use Rattle.recording.proofs.Lent.{Below, below, still, stands}
use Rattle.key_set.specs.Gathering.{Roomy, PutsEntry}

delete-length : (c k : Name) → valid_name c ≡ true → valid_name k ≡ true → length (encode_payload (delete c k)) ≤ 138
unfolding encode_payload encode_fields encode_field little_endian tagged field_tags field_table kind values
delete-length c k vc vk = let a = valid-length c vc in let b = valid-length k vk in simp length-append (omega arith)

module _ {names : Bytes} {c : Named} {collection : Name} (w : Roomy names c collection) where
  module _ {k : Name} {next : Bytes} {r : Named} (l : Lends c.end k names next r) where
    collection-below : Below next c.end c.name collection
    collection-below = let b : Below names c.end c.name collection = record { given = w.below } in still b (omega arith) l

    lent-behind : Roomy next c collection
    lent-behind = record { below = collection-below.given; room = omega (arith, w.room, l.size); short = omega (arith, w.short, l.size) }

    module _ {a b : NameRef} (p : c.name ≡ Some a) (q : r.name ≡ Some b) where
      first : (valid_name collection ≡ true) × Names next a collection
      first = subst (λ o. Given next o collection) p (stands collection-below)

      second : (valid_name k ≡ true) × Names next b k
      second = subst (λ o. Given next o k) q (stands (below l))

      named : op_of next (Delete a b) ≡ delete collection k
      named = ap (λ (n : Name). delete n (name_of next b)) first.1.same ∙ ap (delete collection) second.1.same

      wrote : {at : ℕ} {out out' : Bytes} {n : ℕ} → WritesOp next (Delete a b) (entry (encode_payload (op_of next (Delete a b)))) at out out' (Some n) → Writes (entry (encode_payload (delete collection k))) at out out' n
      wrote {at} {out} {out'} {n} o = subst (λ x. Writes (entry (encode_payload x)) at out out' n) named o.1

      short : length (entry (encode_payload (delete collection k))) ≤ 146
      short = let m = entry_length (encode_payload (delete collection k)) in let d = delete-length collection k first.0 second.0 in omega arith

      pub entry-short : {at : ℕ} {out out' : Bytes} {n : ℕ} → WritesOp next (Delete a b) (entry (encode_payload (op_of next (Delete a b)))) at out out' (Some n) → n ≤ 146
      entry-short o = omega (arith, (wrote o).size, short)

      pub one_entry : {at : ℕ} {out out' : Bytes} {n : ℕ} → WritesOp next (Delete a b) (entry (encode_payload (op_of next (Delete a b)))) at out out' (Some n) → Roomy next c collection × PutsEntry collection k at out out' (Some (at + n))
      one_entry {at} {out} {out'} {n} o = (
        lent-behind,
        record {
          size = ap length (wrote o).same ∙ length-written at _ out;
          entry = record { valid = and_made _ _ first.0 second.0; small = short; ends = omega (arith, (wrote o).size); bytes = (wrote o).same };
        },
      )

-- The ten-step case meets the conditions of the cut rule: they are no empty ones. So it is cut, counted, held, reverted and kept here.
use Rattle.std.specs.Prelude.{◌≡◌, refl, ℕ, ◌≤◌, [], ◌∷◌, ◌++◌, map, true, false, ◌⊎◌, length}
use Rattle.std.proofs.Common.{sym, ◌∙◌, ap, arith, inl, inr, length-append}
use Rattle.std.proofs.Math.Option.{Option, none, some}
use Rattle.basics.specs.Order.{Name, Key, cmp_key}
use Rattle.basics.specs.Map.{Map, look, put, del, Has}
use Rattle.basics.specs.Limits.{image_room, step_room}
use Rattle.basics.specs.Base.{Bytes, is_some, In}
use Rattle.basics.specs.Name.{last_dot, extension, strip_extension, backup_extension, staging_extension, backup_name, original_name, strip_tmp, is_name_byte}
use Rattle.basics.specs.Name.{refused_names, valid_name}
use Rattle.basics.specs.Crc32.{crc32, register, feed_byte, shifts, shift, add_polynomial}
use Rattle.basics.specs.Field.{little_endian, from_little_endian, encode_field, encode_fields, fields_from, decode_fields, has_tag}
use Rattle.model.specs.Operation.{Write, write, target, field_table, field_tags, makers, valid_value, op_of_fields, decode_payload}
use Rattle.model.specs.Log.{header, valid_header, first_payload, walk, entries, read_journal, mark_committing, mark_held, journal, ops_of}
use Rattle.model.specs.Store.{Store, dirs, files, valid_node, valid_nodes, valid_staged, ascending, well_formed}
use Rattle.model.specs.Image.{image_fields, encode, tree_of, staging_of, log_of, store_of, decode}
use Rattle.model.specs.Step.{remove_dir, rename_dir, apply, zero_separated, tag_and_names, step_field, step_fault}
use Rattle.model.specs.Plan.{op_steps, undo_steps, restore_file, restore_directory, remove_backup_file, remove_backups_in, first_namings, sync_existing, commit_fault}
use Rattle.model.specs.Plan
use Rattle.model.specs.Plan.{commit_plan, plan_ending, ending_at, recover_plan, recovered_at, revert_plan, reverted_at, keep_plan, kept_at}
use Rattle.model.specs.Record.{transaction}
use Rattle.answers.specs.Answers.{answer, ending_store, commit, recover_store, recover, commit_step, recover_step, hold, hold_step, keep, keep_step}
use Rattle.answers.specs.Answers.{revert_store, revert, revert_step}
use Rattle.basic_laws.specs.MapLaws.{key_dec, none≢some, look-tail}
use Rattle.cut_rule.specs.Demand.{NoExtension, Unmarked, TrulyMarked, Conditions, backup_rename, Renamed, cut_at, settled, all_writes_done, cut_recoveries}
use Rattle.cut_rule.specs.Demand.{InPlans, ListedOnce, step_count, held_image, hold_cut_at, reverted, recovered, cut_acts, InActs}
use Rattle.cut_rule.proofs.Theorem.{demand_3, marked_rule}
use Rattle.cut_rule.proofs.Again.{again_rule, either, done-not_4}
use Rattle.cut_rule.proofs.Writes.{truly-true}
use Rattle.cut_rule.proofs.HoldRules.{hold_keep, hold-revert, hold_rule, revert_rule}
use Rattle.cut_rule.proofs.Count.{step_count_lem}

unfoldable pub db : Name
db = 0x64 ∷ 0x62 ∷ []

unfoldable pub a : Name
a = 0x61 ∷ []

-- db/a=7, Write of 9 to a, staged as s.tmp.
ten : Bytes
ten =
    0x10 ∷ 0x02 ∷ 0x00 ∷ 0x64 ∷ 0x62 ∷ 0x11 ∷ 0x05 ∷ 0x00 ∷ 0x07 ∷ 0x00 ∷ 0x00 ∷ 0x00 ∷ 0x61 ∷ 0x12 ∷ 0x09 ∷ 0x00 ∷ 0x09 ∷ 0x00 ∷ 0x00 ∷ 0x00 ∷ 0x73
    ∷ 0x2E ∷ 0x74 ∷ 0x6D ∷ 0x70 ∷ 0x13 ∷ 0x25 ∷ 0x00 ∷ 0xCA ∷ 0x00 ∷ 0x00 ∷ 0x00 ∷ 0x3B ∷ 0x2D ∷ 0xCC ∷ 0x70 ∷ 0xF3 ∷ 0x4E ∷ 0xE2 ∷ 0xFA ∷ 0x15 ∷ 0x00
    ∷ 0x00 ∷ 0x00 ∷ 0x01 ∷ 0x01 ∷ 0x00 ∷ 0x01 ∷ 0x02 ∷ 0x02 ∷ 0x00 ∷ 0x64 ∷ 0x62 ∷ 0x03 ∷ 0x01 ∷ 0x00 ∷ 0x61 ∷ 0x04 ∷ 0x05 ∷ 0x00 ∷ 0x73 ∷ 0x2E ∷ 0x74
    ∷ 0x6D ∷ 0x70 ∷ 0x14 ∷ 0x00 ∷ 0x00 ∷ []

write9 : Write
unfolding db a
write9 = record { collection = db; key = a; staged = 0x73 ∷ 0x2E ∷ 0x74 ∷ 0x6D ∷ 0x70 ∷ []; mark = none }

unfoldable pub tree7 : Map
unfolding db a
tree7 = ((db, []), 0) ∷ ((db, a), 7) ∷ []

store : Store
unfolding tree7
store = record {
  tree = tree7;
  staging = (([], 0x73 ∷ 0x2E ∷ 0x74 ∷ 0x6D ∷ 0x70 ∷ []), 9) ∷ [];
  log =
      some (0xCA ∷ 0x00 ∷ 0x00 ∷ 0x00 ∷ 0x3B ∷ 0x2D ∷ 0xCC ∷ 0x70 ∷ 0xF3 ∷ 0x4E ∷ 0xE2 ∷ 0xFA ∷ 0x15 ∷ 0x00 ∷ 0x00 ∷ 0x00 ∷ 0x01 ∷ 0x01 ∷ 0x00
      ∷ 0x01 ∷ 0x02 ∷ 0x02 ∷ 0x00 ∷ 0x64 ∷ 0x62 ∷ 0x03 ∷ 0x01 ∷ 0x00 ∷ 0x61 ∷ 0x04 ∷ 0x05 ∷ 0x00 ∷ 0x73 ∷ 0x2E ∷ 0x74 ∷ 0x6D ∷ 0x70 ∷ []);
  open_mark = true;
}

-- A name of under four bytes ends in neither.
short-name : (n : Name) → length n ≤ 3 → NoExtension n
unfolding backup_extension staging_extension
short-name n h =
    record { no_bak = λ e. off e.front (0x62 ∷ 0x61 ∷ 0x6B ∷ []) refl e.joined; no_tmp = λ e. off e.front (0x74 ∷ 0x6D ∷ 0x70 ∷ []) refl e.joined }
  where
    off : (f x : Name) → length x ≡ 3 → n ≡ f ++ 0x2E ∷ x → ⊥
    off f x k p = let q = length-append f (0x2E ∷ x) in let r = ap length p in omega arith

known : (d f : Name) → Has (d, f) tree7 → (length d ≤ 3) × (length f ≤ 3)
unfolding tree7 db a look
known d f h = go (key_dec (d, f) (db, [])) (key_dec (d, f) (db, a))
  where
    go : Dec (◌≡◌ {A = Key} (d, f) (db, [])) → Dec (◌≡◌ {A = Key} (d, f) (db, a)) → (length d ≤ 3) × (length f ≤ 3)
    go (yes p) q =
        let x : length d ≡ 2 = ap (λ (k : Key). length k.0) p in let y : length f ≡ 0 = ap (λ (k : Key). length k.1) p in (omega arith, omega arith)
    go (no p) (yes q) =
        let x : length d ≡ 2 = ap (λ (k : Key). length k.0) q in let y : length f ≡ 1 = ap (λ (k : Key). length k.1) q in (omega arith, omega arith)
    go (no p) (no q) = none≢some (sym (look-tail (d, f) ((db, []), 0) (((db, a), 7) ∷ []) p ∙ look-tail (d, f) ((db, a), 7) [] q) ∙ h.1)

-- What is computed of it.
record Computed : Type 0 where
  holds : decode ten ≡ some store
  writes : ops_of (journal store.log) ≡ map write (write9 ∷ [])
  commits : (commit ten image_room).number ≡ 0
  stands : look (db, []) tree7 ≡ some 0
  fourth : (commit_step 4 ten image_room step_room).step ≡ step_field (backup_rename write9)
  steps4 : (commit_step 4 ten image_room step_room).number ≡ 0
  steps8 : (commit_step 8 ten image_room step_room).number ≡ 0
  log4 : has_tag 0x13 (cut_at 4 ten) ≡ true
  log8 : has_tag 0x13 (cut_at 8 ten) ≡ false
  recovers4 : (recover (cut_at 4 ten) image_room).number ≡ 0
  recovers8 : (recover (cut_at 8 ten) image_room).number ≡ 0
  reverts : (revert (held_image ten) image_room).number ≡ 0
  written : all_writes_done store.staging (write9 ∷ []) tree7 ≡ ((db, []), 0) ∷ ((db, a), 9) ∷ []

computed : Computed
unfolding ten store tree7 write9 db a crc32 register feed_byte shifts shift add_polynomial little_endian from_little_endian encode_field
    encode_fields fields_from decode_fields has_tag
    last_dot extension strip_extension backup_extension staging_extension backup_name original_name strip_tmp is_name_byte refused_names valid_name
    field_table field_tags makers valid_value op_of_fields decode_payload
    header valid_header first_payload walk entries read_journal mark_committing mark_held
    cmp_key look put del dirs files valid_node valid_nodes valid_staged ascending well_formed
    image_fields encode tree_of staging_of log_of store_of decode
    remove_dir rename_dir apply zero_separated tag_and_names step_field step_fault
    op_steps undo_steps restore_file restore_directory remove_backup_file remove_backups_in first_namings sync_existing commit_fault plan_ending ending_at
    recover_plan Plan.recovered revert_plan Plan.reverted
    transaction ending_store commit recover_store recover commit_step all_writes_done hold revert_store revert
computed = record {
  holds = refl;
  writes = refl;
  commits = refl;
  stands = refl;
  fourth = refl;
  steps4 = refl;
  steps8 = refl;
  log4 = refl;
  log8 = refl;
  recovers4 = refl;
  recovers8 = refl;
  reverts = refl;
  written = refl;
}

-- It meets every condition of the cut rule.
met : Conditions ten store (write9 ∷ [])
unfolding store write9 a
met = record {
  committed = computed.commits;
  holds = computed.holds;
  writes_alone = computed.writes;
  names = λ d f h. let k = known d f h in (short-name d k.0, short-name f k.1);
  keys = λ w i. keys w i;
  distinct_keys = (λ v p e. p, tt);
  collections = λ w i. collections w i;
}
  where
    keys : (w : Write) → In w (write9 ∷ []) → NoExtension w.key
    keys w (inl p) = rw p (short-name a (omega arith))
    keys w (inr p) = absurd p

    collections : (w : Write) → In w (write9 ∷ []) → Has (w.collection, []) tree7
    collections w (inl p) = rw p (0, computed.stands)
    collections w (inr p) = absurd p

unmarked : Unmarked (write9 ∷ [])
unfolding write9
unmarked w (inl p) = rw p
unmarked w (inr p) = absurd p

-- From 4 steps on no written key that existed waits: the field of a's rename is the fourth.
none-waits : (n : ℕ) → 4 ≤ n → (w : Write) → In w (write9 ∷ []) → Has (target w) tree7 → Renamed n ten w
none-waits n h w (inl p) x = record { place = 4; early = h; given = rw p computed.fourth }
none-waits n h w (inr p) x = absurd p

pub not_2 : (x : ℕ) → x ≡ 0 → x ≡ 2 → ⊥
not_2 x p q = omega arith

-- So the cut rule speaks of it: recovery after 4 steps gives a=7, and after 8 steps a=9.
after_4 : recover (cut_at 4 ten) image_room ≡ answer 0 (settled tree7)
unfolding store
after_4 =
    rw computed.log4 at (demand_3 ten store (write9 ∷ []) 4 image_room met unmarked computed.steps4 (inr (none-waits 4 (omega arith)))
    (not_2 _ computed.recovers4))

after_8 : recover (cut_at 8 ten) image_room ≡ answer 0 (settled (((db, []), 0) ∷ ((db, a), 9) ∷ []))
unfolding store
after_8 =
    rw (computed.log8, computed.written) at (demand_3 ten store (write9 ∷ []) 8 image_room met unmarked computed.steps8 (inr (none-waits 8 (omega arith)))
    (not_2 _ computed.recovers8))

-- The same as it is recorded now: a marked Write, and a stood.
pub ten_marked : Bytes
ten_marked =
    0x10 ∷ 0x02 ∷ 0x00 ∷ 0x64 ∷ 0x62 ∷ 0x11 ∷ 0x05 ∷ 0x00 ∷ 0x07 ∷ 0x00 ∷ 0x00 ∷ 0x00 ∷ 0x61 ∷ 0x12 ∷ 0x09 ∷ 0x00 ∷ 0x09 ∷ 0x00 ∷ 0x00 ∷ 0x00 ∷ 0x73
    ∷ 0x2E ∷ 0x74 ∷ 0x6D ∷ 0x70 ∷ 0x13 ∷ 0x29 ∷ 0x00 ∷ 0xCA ∷ 0x00 ∷ 0x00 ∷ 0x00 ∷ 0x3B ∷ 0x2D ∷ 0xCC ∷ 0x70 ∷ 0x6B ∷ 0x74 ∷ 0x50 ∷ 0x67 ∷ 0x19 ∷ 0x00
    ∷ 0x00 ∷ 0x00 ∷ 0x01 ∷ 0x01 ∷ 0x00 ∷ 0x07 ∷ 0x02 ∷ 0x02 ∷ 0x00 ∷ 0x64 ∷ 0x62 ∷ 0x03 ∷ 0x01 ∷ 0x00 ∷ 0x61 ∷ 0x04 ∷ 0x05 ∷ 0x00 ∷ 0x73 ∷ 0x2E ∷ 0x74
    ∷ 0x6D ∷ 0x70 ∷ 0x07 ∷ 0x01 ∷ 0x00 ∷ 0x01 ∷ 0x14 ∷ 0x00 ∷ 0x00 ∷ []

unfoldable pub write9_marked : Write
unfolding db a
write9_marked = record { collection = db; key = a; staged = 0x73 ∷ 0x2E ∷ 0x74 ∷ 0x6D ∷ 0x70 ∷ []; mark = some true }

unfoldable pub store_marked : Store
unfolding tree7
store_marked = record {
  tree = tree7;
  staging = (([], 0x73 ∷ 0x2E ∷ 0x74 ∷ 0x6D ∷ 0x70 ∷ []), 9) ∷ [];
  log =
      some (0xCA ∷ 0x00 ∷ 0x00 ∷ 0x00 ∷ 0x3B ∷ 0x2D ∷ 0xCC ∷ 0x70 ∷ 0x6B ∷ 0x74 ∷ 0x50 ∷ 0x67 ∷ 0x19 ∷ 0x00 ∷ 0x00 ∷ 0x00 ∷ 0x01 ∷ 0x01 ∷ 0x00
      ∷ 0x07 ∷ 0x02 ∷ 0x02 ∷ 0x00 ∷ 0x64 ∷ 0x62 ∷ 0x03 ∷ 0x01 ∷ 0x00 ∷ 0x61 ∷ 0x04 ∷ 0x05 ∷ 0x00 ∷ 0x73 ∷ 0x2E ∷ 0x74 ∷ 0x6D ∷ 0x70 ∷ 0x07 ∷ 0x01
      ∷ 0x00 ∷ 0x01 ∷ []);
  open_mark = true;
}

record ComputedMarked : Type 0 where
  holds : decode ten_marked ≡ some store_marked
  writes : ops_of (journal store_marked.log) ≡ map write (write9_marked ∷ [])
  commits : (commit ten_marked image_room).number ≡ 0
  found : look (db, a) tree7 ≡ some 7
  steps1 : (commit_step 1 ten_marked image_room step_room).number ≡ 0
  steps5 : (commit_step 5 ten_marked image_room step_room).number ≡ 0
  log1 : has_tag 0x13 (cut_at 1 ten_marked) ≡ true
  log5 : has_tag 0x13 (cut_at 5 ten_marked) ≡ true
  recovers1 : (recover (cut_at 1 ten_marked) image_room).number ≡ 0
  recovers5 : (recover (cut_at 5 ten_marked) image_room).number ≡ 0
  cuts : InPlans (2 ∷ 0 ∷ 1 ∷ []) (cut_at 5 ten_marked)
  counted : step_count store_marked (write9_marked ∷ []) (db ∷ []) ≡ 10
  holds7 : (hold_step 7 ten_marked image_room step_room).number ≡ 0
  holds8 : (hold_step 8 ten_marked image_room step_room).number ≡ 0
  held7 : (keep_step 0 (hold_cut_at 7 ten_marked) image_room step_room).number ≡ 18
  held8 : (keep_step 0 (hold_cut_at 8 ten_marked) image_room step_room).number ≡ 0
  recovers7 : (recover (hold_cut_at 7 ten_marked) image_room).number ≡ 0
  recovers8 : (recover (hold_cut_at 8 ten_marked) image_room).number ≡ 0
  acts : InActs (reverted 1 ∷ recovered 0 ∷ reverted 1 ∷ []) (held_image ten_marked)
  reverts : (revert (cut_acts (reverted 1 ∷ recovered 0 ∷ reverted 1 ∷ []) (held_image ten_marked)) image_room).number ≡ 0

computed_marked : ComputedMarked
unfolding ten_marked store_marked tree7 write9_marked db a crc32 register feed_byte shifts shift add_polynomial little_endian from_little_endian encode_field
    encode_fields fields_from decode_fields has_tag
    last_dot extension strip_extension backup_extension staging_extension backup_name original_name strip_tmp is_name_byte refused_names valid_name
    field_table field_tags makers valid_value op_of_fields decode_payload
    header valid_header first_payload walk entries read_journal mark_committing mark_held
    cmp_key look put del dirs files valid_node valid_nodes valid_staged ascending well_formed
    image_fields encode tree_of staging_of log_of store_of decode
    remove_dir rename_dir apply zero_separated tag_and_names step_field step_fault
    op_steps undo_steps restore_file restore_directory remove_backup_file remove_backups_in first_namings sync_existing commit_fault plan_ending ending_at
    recover_plan recovered_at Plan.recovered revert_plan reverted_at Plan.reverted keep_plan kept_at
    transaction ending_store commit recover_store recover commit_step recover_step hold hold_step keep_step revert_store revert revert_step
computed_marked = record {
  holds = refl;
  writes = refl;
  commits = refl;
  found = refl;
  steps1 = refl;
  steps5 = refl;
  log1 = refl;
  log5 = refl;
  recovers1 = refl;
  recovers5 = refl;
  cuts = (refl, (refl, (refl, tt)));
  counted = refl;
  holds7 = refl;
  holds8 = refl;
  held7 = refl;
  held8 = refl;
  recovers7 = refl;
  recovers8 = refl;
  acts = (refl, (refl, (refl, tt)));
  reverts = refl;
}

pub met_marked : Conditions ten_marked store_marked (write9_marked ∷ [])
unfolding store_marked write9_marked a
met_marked = record {
  committed = computed_marked.commits;
  holds = computed_marked.holds;
  writes_alone = computed_marked.writes;
  names = λ d f h. let k = known d f h in (short-name d k.0, short-name f k.1);
  keys = λ w i. keys w i;
  distinct_keys = (λ v p e. p, tt);
  collections = λ w i. collections w i;
}
  where
    keys : (w : Write) → In w (write9_marked ∷ []) → NoExtension w.key
    keys w (inl p) = rw p (short-name a (omega arith))
    keys w (inr p) = absurd p

    collections : (w : Write) → In w (write9_marked ∷ []) → Has (w.collection, []) tree7
    collections w (inl p) = rw p (0, computed.stands)
    collections w (inr p) = absurd p

pub marked : TrulyMarked tree7 (write9_marked ∷ [])
unfolding write9_marked
marked w (inl p) = rw p (ap (λ (q : Option ℕ). some (is_some q)) (sym computed_marked.found))
marked w (inr p) = absurd p

-- After 1 step a waits, and recovery gives a=7 all the same; after 5, with recovery cut after 2 steps, again at once, and again after 1: a=7.
after_1 : recover (cut_at 1 ten_marked) image_room ≡ answer 0 (settled tree7)
unfolding store_marked
after_1 =
    rw computed_marked.log1 at (marked_rule ten_marked store_marked (write9_marked ∷ []) 1 image_room met_marked marked computed_marked.steps1
    (not_2 _ computed_marked.recovers1))

after_5_again : recover (cut_recoveries (2 ∷ 0 ∷ 1 ∷ []) (cut_at 5 ten_marked)) image_room ≡ answer 0 (settled tree7)
unfolding store_marked
after_5_again =
    again_rule ten_marked store_marked (write9_marked ∷ []) 5 (2 ∷ 0 ∷ 1 ∷ []) image_room (either done-not_4 met_marked) marked computed_marked.steps5 computed_marked.cuts
    ∙ rw computed_marked.log5 at
    (marked_rule ten_marked store_marked (write9_marked ∷ []) 5 image_room met_marked marked computed_marked.steps5 (not_2 _ computed_marked.recovers5))

-- 02, item 13: "The ten-step case has w = b = c = 1 and s = 0."
ten-steps : length (commit_plan store_marked) ≡ 10
unfolding store_marked
ten-steps =
    step_count_lem ten_marked store_marked (write9_marked ∷ []) (db ∷ []) met_marked (truly-true tree7 (write9_marked ∷ []) marked) listed ∙ computed_marked.counted
  where
    listed : ListedOnce (db ∷ []) (write9_marked ∷ [])
    listed = ((λ i. i, tt), λ d. unfold write9_marked in ((λ i. i), λ i. i))

-- 02, item 6: held and reverted it is a=7, with a Write of kind 1 too; held and kept it is what commit gives.
held-reverted : revert (held_image ten) image_room ≡ answer 0 (settled tree7)
unfolding store
held-reverted =
    (hold-revert ten store (write9 ∷ []) image_room met (λ w i x e. none≢some (sym (unmarked w i) ∙ e))).1 (not_2 _ computed.reverts)

held_kept : keep (held_image ten) image_room ≡ commit ten image_room
held_kept = (hold_keep ten image_room computed.commits).1

-- Held, and cut after 7 steps: recovery gives a=7. After 8, the Held header's rewriting: what is held.
not-second : {A B : Type 0} {x : ℕ} (p q : ℕ) → x ≡ p → (p ≡ q → ⊥) → A ⊎ ((x ≡ q) × B) → A
not-second p q e n (inl h) = h
not-second p q e n (inr h) = absurd (n (sym e ∙ h.0))

not_first : {A B : Type 0} {x : ℕ} (p q : ℕ) → x ≡ p → (p ≡ q → ⊥) → ((x ≡ q) × A) ⊎ B → B
not_first p q e n (inl h) = absurd (n (sym e ∙ h.0))
not_first p q e n (inr h) = h

held-after_7 : recover (hold_cut_at 7 ten_marked) image_room ≡ answer 0 (settled tree7)
unfolding store_marked
held-after_7 =
    (not-second 18 0 computed_marked.held7 (λ z. omega arith)
    (hold_rule ten_marked store_marked (write9_marked ∷ []) 7 [] image_room met_marked marked computed_marked.holds7 tt (not_2 _ computed_marked.recovers7))).1

held-after_8 : recover (hold_cut_at 8 ten_marked) image_room ≡ hold ten_marked image_room
unfolding store_marked
held-after_8 =
    (not_first 0 18 computed_marked.held8 (λ z. omega arith)
    (hold_rule ten_marked store_marked (write9_marked ∷ []) 8 [] image_room met_marked marked computed_marked.holds8 tt (not_2 _ computed_marked.recovers8))).1

-- Held; a revert cut after a step, a recovery, a revert cut again: revert gives a=7.
reverted-again : revert (cut_acts (reverted 1 ∷ recovered 0 ∷ reverted 1 ∷ []) (held_image ten_marked)) image_room ≡ answer 0 (settled tree7)
unfolding store_marked
reverted-again =
    not-second 0 18 computed_marked.reverts (λ z. omega arith)
    (revert_rule ten_marked store_marked (write9_marked ∷ []) (reverted 1 ∷ recovered 0 ∷ reverted 1 ∷ []) met_marked marked computed_marked.acts)

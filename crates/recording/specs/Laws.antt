-- Laws of what a recording entry asks for, each by cases once.
use Rattle.std.specs.Prelude.{◌≡◌, refl, true, false, not, ◌&&◌, [], ℕ, length, leb}
use Rattle.std.proofs.lemmas.Bool.{false≢true}
use Rattle.std.proofs.Math.Option.{none, some}
use Rattle.std.proofs.Common.{arith}
use Rattle.basics.specs.Limits.{staging_limit}
use Rattle.basics.specs.Order.{Name}
use Rattle.basics.specs.Map.{Map, look}
use Rattle.basics.specs.Base.{Bytes, is_some}
use Rattle.basics.specs.Name.{valid_name, lower}
use Rattle.model.specs.Log.{header, is_held, journal}
use Rattle.model.specs.Store.{Store, staging_key, valid_number}
use Rattle.model.specs.Record.{Outcome, refuse, give, has_dir, case_renamed, begin_transaction, discard, record_write, record_delete, record_delete_all, record_create, record_delete_collection, record_copy}
use Rattle.answers.specs.Answers.{image_entry, begin, write, delete, delete_all, create_collection, delete_collection, copy_collection, rollback}
use Rattle.basic_laws.specs.Tests.{All, all_every}
use Rattle.basic_laws.specs.ValidNames.{Valid, valid_naming}
use Rattle.laws.specs.StoreLaws.{Good}
use Rattle.laws.specs.RecordLaws.{Gives, begin-keeps, rollback-keeps, write_keeps, delete-keeps, delete-all-keeps, create_keeps, delete-collection-keeps, copy_keeps}
use Rattle.laws.specs.LengthLaws.{encode-length}
use Rattle.answer_laws.specs.EntryLaws.{on-entry}
use Rattle.answer_laws.specs.Bounds.{Bounded}
use Rattle.handover.specs.Contract.{hands_back}
use Rattle.recording.specs.Asking.{asked, entry_of, numbers_of, leaves_tree}
use Rattle.recording.specs.Outcomes.{found, unless, into, test}
use Rattle.recording.specs.declared.Asked.{Asked}
use Rattle.recording.specs.declared.Asked.TheVariants.{Begin, Write, Delete, DeleteAll, CreateCollection, DeleteCollection, CopyCollection, Rollback}

-- Its entry is from image to image.
pub entry-is : (op : Asked) (c k f : Name) (image : Bytes) (out : ℕ) → entry_of op c k f image out ≡ image_entry (asked op c k f) image out
unfolding begin write delete delete_all create_collection delete_collection copy_collection rollback
entry-is Begin c k f image out = refl
entry-is (Write x) c k f image out = refl
entry-is Delete c k f image out = refl
entry-is DeleteAll c k f image out = refl
entry-is CreateCollection c k f image out = refl
entry-is DeleteCollection c k f image out = refl
entry-is CopyCollection c k f image out = refl
entry-is Rollback c k f image out = refl

-- What holds of each refusal and of each store that is given holds of what is asked.
pub asked_cases : (P : Outcome → Type 0) (op : Asked) (c k f : Name) (s : Store) → All (λ n. P (refuse n)) (numbers_of op) →
    ((u : Store) → (leaves_tree op ≡ true → u.tree ≡ s.tree) → P (give u)) → P (asked op c k f s)
unfolding begin_transaction discard record_write record_delete record_delete_all record_create record_delete_collection record_copy
asked_cases P Begin c k f s r g =
    unless P s.open_mark 3 _ r.0 (unless P (is_held (journal s.log)) 17 _ r.1.0 (g (record { tree = s.tree; staging = s.staging; log = some (header 0); open_mark = true }) (λ e. refl)))
asked_cases P (Write x) c k f s r g =
    into P s _ r.0 r.1.0 (test P (valid_name c && valid_name (lower k) && valid_name f) 6 _ r.1.1.0
    (test P (not (is_some (look (staging_key f) s.staging)) && not (leb staging_limit (length s.staging)) && valid_number x) 10 _ r.1.1.1.0 (g _ (λ e. refl))))
asked_cases P Delete c k f s r g =
    into P s _ r.0 r.1.0 (test P (valid_name c && valid_name (lower k)) 6 _ r.1.1.0
    (test P (is_some (look (c, lower k) (case_renamed c (lower k) s).tree)) 8 _ r.1.1.1.0 (g _ (λ e. absurd (false≢true e)))))
asked_cases P DeleteAll c k f s r g = into P s _ r.0 r.1.0 (test P (valid_name c) 6 _ r.1.1.0 (g _ (λ e. refl)))
asked_cases P CreateCollection c k f s r g =
    into P s _ r.0 r.1.0 (test P (valid_name c) 6 _ r.1.1.0 (test P (not (has_dir c s)) 9 _ r.1.1.1.0 (g _ (λ e. refl))))
asked_cases P DeleteCollection c k f s r g =
    into P s _ r.0 r.1.0 (test P (valid_name c) 6 _ r.1.1.0 (test P (has_dir c s) 7 _ r.1.1.1.0 (g _ (λ e. refl))))
asked_cases P CopyCollection c k f s r g =
    into P s _ r.0 r.1.0 (test P (valid_name c) 6 _ r.1.1.0
    (test P (has_dir c s) 7 _ r.1.1.1.0 (test P (valid_name f) 6 _ r.1.1.0 (g _ (λ e. refl)))))
asked_cases P Rollback c k f s r g =
    found P s _ r.0 (λ ops. g (record { tree = s.tree; staging = []; log = none; open_mark = false }) (λ e. refl))

-- A store in order stays in order, and its image has room.
asked-keeps : (op : Asked) (c k f : Name) (s : Store) → Good Valid s → Gives (asked op c k f s)
asked-keeps Begin c k f = begin-keeps
asked-keeps (Write x) c k f = write_keeps c k f x
asked-keeps Delete c k f = delete-keeps c k
asked-keeps DeleteAll c k f = delete-all-keeps c
asked-keeps CreateCollection c k f = create_keeps c
asked-keeps DeleteCollection c k f = delete-collection-keeps c
asked-keeps CopyCollection c k f = copy_keeps c f
asked-keeps Rollback c k f = rollback-keeps

pub asked-bounded : (op : Asked) (c k f : Name) (image : Bytes) (out : ℕ) → Bounded (image_entry (asked op c k f) image out)
asked-bounded op c k f image out =
    on-entry Bounded (asked op c k f) (asked-keeps op c k f) image out (λ n z. record { image = omega arith; step = omega arith })
    (λ s u d e g. record { image = encode-length valid_naming u g; step = omega arith })

-- An outcome whose refusal hands nothing back, and whose store has this tree where it is left.
abbrev pub Alone : Outcome → Type 0
Alone (refuse n) = hands_back n ≡ false
Alone (give u) = Unit {0}

abbrev pub Leaves : Asked → Map → Outcome → Type 0
Leaves op m (refuse n) = Unit {0}
Leaves op m (give u) = leaves_tree op ≡ true → u.tree ≡ m

alone-numbers : (op : Asked) → All (λ n. hands_back n ≡ false) (numbers_of op)
alone-numbers Begin = (refl, (refl, tt))
alone-numbers (Write x) = (refl, (refl, (refl, (refl, tt))))
alone-numbers Delete = (refl, (refl, (refl, (refl, tt))))
alone-numbers DeleteAll = (refl, (refl, (refl, tt)))
alone-numbers CreateCollection = (refl, (refl, (refl, (refl, tt))))
alone-numbers DeleteCollection = (refl, (refl, (refl, (refl, tt))))
alone-numbers CopyCollection = (refl, (refl, (refl, (refl, tt))))
alone-numbers Rollback = (refl, tt)

pub asked-alone : (op : Asked) (c k f : Name) (s : Store) → Alone (asked op c k f s)
asked-alone op c k f s = asked_cases Alone op c k f s (alone-numbers op) (λ u e. tt)

pub asked-leaves : (op : Asked) (c k f : Name) (s : Store) → Leaves op s.tree (asked op c k f s)
asked-leaves op c k f s = asked_cases (Leaves op s.tree) op c k f s (all_every (λ n. tt) (numbers_of op)) (λ u e. e)

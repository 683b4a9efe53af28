-- `rotation::cda_storage_rotate` meets its contract.
use mathlib.Core.Path.{refl}
use lib.ListN.{length}
use borrow.Author.Rules.{rules}
use Rattle.answers.specs.Rotate.{current, next, backup}
use Rattle.rotation.proofs.Rotating.{within, sized, answers_1, answers_2, answers-begun, answers_19, answers_20, answers-commit, zero₃, zero₄}
use Rattle.rotation.proofs.cda_storage_rotate.Goals as goal

pub returns-then-began-eq1 : goal.returns-then-began-eq1
returns-then-began-eq1 c =
    answers_1 c.args.image.now (length c.args.out.now) c.cda_storage_begin-began.ensures (search rules) c.if-began-eq1.true

pub returns-then-out-lt-IMAGE_ROOM : goal.returns-then-out-lt-IMAGE_ROOM
returns-then-out-lt-IMAGE_ROOM c =
    answers_2 c.args.image.now (length c.args.out.now) c.cda_storage_begin-began.ensures (search rules) c.if-began-eq1.false c.if-out-lt-IMAGE_ROOM.true

pub returns-then-began-ne0 : goal.returns-then-began-ne0
returns-then-began-ne0 c =
    answers-begun c.args.image.now (length c.args.out.now) c.cda_storage_begin-began.ensures (search rules) c.if-began-eq1.false c.if-out-lt-IMAGE_ROOM.false c.if-began-ne0.true

pub slice_bounds-a-end : goal.slice_bounds-a-end
slice_bounds-a-end c = within c.cda_storage_begin-began.ensures c.if-began-ne0.false

pub slice_bounds-cda_storage_copy_collection-end : goal.slice_bounds-cda_storage_copy_collection-end
slice_bounds-cda_storage_copy_collection-end c = sized c.cda_storage_begin-began.ensures c.if-began-ne0.false

pub returns-then-copied-ne0 : goal.returns-then-copied-ne0
unfolding current next backup
returns-then-copied-ne0 c =
    answers_19 c.args.image.now (length c.args.out.now) c.cda_storage_begin-began.ensures (search rules) c.if-began-eq1.false c.if-out-lt-IMAGE_ROOM.false c.if-began-ne0.false
    c.cda_storage_copy_collection-copied.ensures (search rules) refl refl c.if-copied-ne0.true

pub slice_bounds-b-end : goal.slice_bounds-b-end
slice_bounds-b-end c = within c.cda_storage_copy_collection-copied.ensures c.if-copied-ne0.false

pub slice_bounds-a-end-then-has_file : goal.slice_bounds-a-end-then-has_file
unfolding current next backup
slice_bounds-a-end-then-has_file c =
    within c.cda_storage_copy_collection.ensures
    (zero₃ c.args.image.now (length c.args.out.now) c.cda_storage_begin-began.ensures (search rules) c.if-began-eq1.false c.if-out-lt-IMAGE_ROOM.false c.if-began-ne0.false
    c.cda_storage_copy_collection-copied.ensures (search rules) refl refl c.if-copied-ne0.false
    c.has_file.ensures refl c.if-has_file.true
    c.cda_storage_copy_collection.ensures (search rules) refl refl)

pub slice_bounds-cda_storage_delete_collection-end : goal.slice_bounds-cda_storage_delete_collection-end
unfolding current next backup
slice_bounds-cda_storage_delete_collection-end c =
    sized c.cda_storage_copy_collection.ensures
    (zero₃ c.args.image.now (length c.args.out.now) c.cda_storage_begin-began.ensures (search rules) c.if-began-eq1.false c.if-out-lt-IMAGE_ROOM.false c.if-began-ne0.false
    c.cda_storage_copy_collection-copied.ensures (search rules) refl refl c.if-copied-ne0.false
    c.has_file.ensures refl c.if-has_file.true
    c.cda_storage_copy_collection.ensures (search rules) refl refl)

pub slice_bounds-b-end-then-has_file : goal.slice_bounds-b-end-then-has_file
unfolding current next backup
slice_bounds-b-end-then-has_file c =
    within c.cda_storage_delete_collection.ensures
    (zero₄ c.args.image.now (length c.args.out.now) c.cda_storage_begin-began.ensures (search rules) c.if-began-eq1.false c.if-out-lt-IMAGE_ROOM.false c.if-began-ne0.false
    c.cda_storage_copy_collection-copied.ensures (search rules) refl refl c.if-copied-ne0.false
    c.has_file.ensures refl c.if-has_file.true
    c.cda_storage_copy_collection.ensures (search rules) refl refl
    c.cda_storage_delete_collection.ensures (search rules) refl)

pub slice_bounds-cda_storage_commit-end : goal.slice_bounds-cda_storage_commit-end
unfolding current next backup
slice_bounds-cda_storage_commit-end c =
    sized c.cda_storage_delete_collection.ensures
    (zero₄ c.args.image.now (length c.args.out.now) c.cda_storage_begin-began.ensures (search rules) c.if-began-eq1.false c.if-out-lt-IMAGE_ROOM.false c.if-began-ne0.false
    c.cda_storage_copy_collection-copied.ensures (search rules) refl refl c.if-copied-ne0.false
    c.has_file.ensures refl c.if-has_file.true
    c.cda_storage_copy_collection.ensures (search rules) refl refl
    c.cda_storage_delete_collection.ensures (search rules) refl)

pub returns-then-has_file : goal.returns-then-has_file
unfolding current next backup
returns-then-has_file c =
    answers-commit c.args.image.now (length c.args.out.now) c.cda_storage_begin-began.ensures (search rules) c.if-began-eq1.false c.if-out-lt-IMAGE_ROOM.false c.if-began-ne0.false
    c.cda_storage_copy_collection-copied.ensures (search rules) refl refl c.if-copied-ne0.false
    c.has_file.ensures refl c.if-has_file.true
    c.cda_storage_copy_collection.ensures (search rules) refl refl
    c.cda_storage_delete_collection.ensures (search rules) refl c.cda_storage_commit.ensures

pub returns : goal.returns
unfolding current next backup
returns c =
    answers_20 c.args.image.now (length c.args.out.now) c.cda_storage_begin-began.ensures (search rules) c.if-began-eq1.false c.if-out-lt-IMAGE_ROOM.false c.if-began-ne0.false
    c.cda_storage_copy_collection-copied.ensures (search rules) refl refl c.if-copied-ne0.false
    c.has_file.ensures refl c.if-has_file.false

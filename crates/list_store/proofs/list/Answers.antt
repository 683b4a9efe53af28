-- No listing is longer than the buffer.
use Rattle.std.proofs.Common.{sym, length-take-le}
use Rattle.listing.specs.Room.{listed-within}
use Rattle.list_store.proofs.list.Goals as goal

pub slice_bounds-out-end : goal.slice_bounds-out-end
slice_bounds-out-end g c = listed-within c.in-Some.ensures

pub slice_bounds-write_all-end : goal.slice_bounds-write_all-end
slice_bounds-write_all-end g c = sym (length-take-le _ _ (listed-within c.in-Some.ensures))

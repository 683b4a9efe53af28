use mathlib.Core.Path.{◌∙◌, sym, ap}
use mathlib.Core.List.{[], ◌∷◌}
use lib.ListN.{length-append}
use Rattle.std.proofs.lemmas.Slice.Zip.{zip_turn, zip_end}
use Rattle.basics.specs.Crc32.{feed_byte}
use Rattle.crc32.proofs.Register.{fed, left-fed, checksum}
use Rattle.crc32.proofs.hash_two.Goals as goal

pub loop-x-preserved : goal.loop-x-preserved
loop-x-preserved c =
    let w = c.loop-x.invariant in
    let t = zip_turn c.args.a.now c.args.b.now c.loop-x.yielded c.into_iter-x-iterator.result c.loop-x.x-iterator c.next.new.self c.next.result (cc) (cc) c.loop-x.yielded_by (c.in-Some.x, c.in-Some.y) c.in-Some.is c.next.ensures.steps in
    let more = length-append c.loop-x.yielded ((c.in-Some.x, c.in-Some.y) ∷ []) in
    record {
      first = fed w.first more (c.update-c.ensures ∙ ap (feed_byte c.loop-x.c) (t.2 0)) t.0;
      second = fed w.second more (c.update-d.ensures ∙ ap (feed_byte c.loop-x.d) (t.3 0)) t.1;
    }

pub returns : goal.returns
returns c =
    let w = c.loop-x.invariant in
    let e = zip_end c.args.a.now c.args.b.now c.loop-x.yielded c.into_iter-x-iterator.result c.loop-x.x-iterator c.next.new.self c.next.result (cc) (cc) c.loop-x.yielded_by c.in-None.is c.next.ensures.steps ∙ sym c.min-both.ensures in
    (checksum _ (left-fed w.first e c.feed.ensures), checksum _ (left-fed w.second e c.feed-2.ensures))

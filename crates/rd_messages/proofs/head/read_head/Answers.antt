use Rattle.std.proofs.Common.{◌≡◌, ◌+◌, length, take, refl, arith}
use Rattle.std.proofs.KnownBytes.{Consumes-nil}
use Rattle.std.proofs.lemmas.List.{length-take}
use Rattle.rd_messages.proofs.HeadLemmas.{at_full, at_head, nothing_has_no_request}
use Rattle.rd_messages.proofs.TakenLemmas.{taken_more, takes}
use Rattle.rd_messages.proofs.head.read_head.Goals as goal

pub loop-filled-init : goal.loop-filled-init
loop-filled-init g c = record {
  filled = omega arith;
  buffer = c.requires.buffer;
  room = c.requires.room;
  read = Consumes-nil (g.W.Wire.incoming c.args.wire.now);
  none = nothing_has_no_request;
  ready = c.requires.ready;
  came = refl;
  kept = refl;
  writes_unchanged = refl;
}

pub returns-in-Ok-Complete-clause-head : goal.returns-in-Ok-Complete-clause-head
returns-in-Ok-Complete-clause-head g c =
    let i = c.loop-filled.invariant in
    at_head _ (g.W.Wire.incoming c.take_more.new.wire) (take (c.loop-filled.filled + c.in_ok-count.count) c.take_more.new.buf) c.parse_request.new.headers c.in-Ok-Complete.head
    (taken_more _ (g.W.Wire.incoming c.loop-filled.wire) _ _ _ i.read c.in_ok-count.ensures.read)
    (rw c.in-Ok-Complete.field-0-is at c.in-Ok-Complete.ensures.within)
    (rw c.in-Ok-Complete.field-0-is at c.in-Ok-Complete.ensures.complete)
    (omega arith) (omega (arith, length-take (c.loop-filled.filled + c.in_ok-count.count) c.take_more.new.buf, i.buffer))

pub returns-clause-head : goal.returns-clause-head
returns-clause-head g c =
    let i = c.loop-filled.invariant in
    let filled : c.loop-filled.filled ≡ 8192 = omega (arith, c.loop-filled-test.false, i.filled, i.buffer) in
    let full : length (take c.loop-filled.filled c.loop-filled.buf) ≡ 8192 = omega (arith, filled, i.buffer, length-take c.loop-filled.filled c.loop-filled.buf) in
    at_full _ _ (take c.loop-filled.filled c.loop-filled.buf) c.loop-filled.spans i.read full i.none

pub returns-then-count-eq0-clause-limit : goal.returns-then-count-eq0-clause-limit
returns-then-count-eq0-clause-limit g c =
    let filled = c.loop-filled.filled + c.in_ok-count.count in
    takes 8192 _ _ (take filled c.take_more.new.buf)
    (taken_more _ (g.W.Wire.incoming c.loop-filled.wire) _ _ _ c.loop-filled.invariant.read c.in_ok-count.ensures.read)
    (omega (arith, length-take filled c.take_more.new.buf))

pub returns-in-Err-clause-limit : goal.returns-in-Err-clause-limit
returns-in-Err-clause-limit g c =
    let filled = c.loop-filled.filled + c.in_ok-count.count in
    takes 8192 _ _ (take filled c.take_more.new.buf)
    (taken_more _ (g.W.Wire.incoming c.loop-filled.wire) _ _ _ c.loop-filled.invariant.read c.in_ok-count.ensures.read)
    (omega (arith, length-take filled c.take_more.new.buf))

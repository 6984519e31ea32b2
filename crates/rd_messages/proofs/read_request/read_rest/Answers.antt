use Rattle.std.proofs.Common.{◌≡◌, ◌-◌, List, ℕ, arith, drop, length, map, option_map, take}
use Rattle.std.proofs.lemmas.List.{length-drop, take_all}
use Rattle.httparse.specs.Spans.{header_bytes}
use Rattle.rd_messages.proofs.ReadLemmas.{asks_whole, misframed_head, short_body, size_fits, takes_fewer}
use Rattle.rd_messages.proofs.read_request.read_rest.Goals as goal

-- a slice up to the end is what is left
to_the_end : (bytes : List ℕ) (n : ℕ) → take (length bytes - n) (drop n bytes) ≡ drop n bytes
to_the_end bytes n = take_all (length bytes - n) (drop n bytes) (omega (arith, length-drop n bytes))

pub returns-in_default-clause-reading : goal.returns-in_default-clause-reading
returns-in_default-clause-reading g c stream has gave = misframed_head stream c.args.bytes.now c.args.spans.now c.args.head has c.in_default.ensures.framing

pub returns-in-Short-clause-reading : goal.returns-in-Short-clause-reading
returns-in-Short-clause-reading g c stream has gave =
    short_body stream c.args.bytes.now c.args.spans.now c.args.head has c.in-Some.framing.length (option_map (λ key. key.now) c.in-Some.framing.key) c.in-Some.ensures.framing
    (g.W.Wire.incoming c.args.wire.now) (g.W.Wire.incoming c.read_body.new.wire) gave
    (rw (c.in-Short.is, to_the_end c.args.bytes.now c.args.head.len) at c.in_ok-body.ensures.body)

pub returns-in-Ok-clause-reading : goal.returns-in-Ok-clause-reading
returns-in-Ok-clause-reading g c stream has gave =
    asks_whole stream c.args.bytes.now c.args.spans.now c.args.head has c.in-Some.framing.length (option_map (λ key. key.now) c.in-Some.framing.key) c.in-Some.ensures.framing
    (g.W.Wire.incoming c.args.wire.now) (g.W.Wire.incoming c.read_body.new.wire) c.in-Whole.body.items c.in-Ok.reading gave
    (rw (c.in-Whole.is, to_the_end c.args.bytes.now c.args.head.len) at c.in_ok-body.ensures.body)
    (rw (c.of.ensures, c.of-2.ensures) at c.in-Ok.ensures.reads)

pub returns-in-Ok-clause-bounded : goal.returns-in-Ok-clause-bounded
returns-in-Ok-clause-bounded g c =
    takes_fewer _ 262144 (g.W.Wire.incoming c.args.wire.now) (g.W.Wire.incoming c.read_body.new.wire) c.in_ok-body.ensures.limit
    (omega (
      arith,
      size_fits (map (header_bytes c.args.bytes.now) (take c.args.head.headers c.args.spans.now)) c.in-Some.framing.length
          (option_map (λ key. key.now) c.in-Some.framing.key) c.in-Some.ensures.framing,
    ))

-- `write::write_keys` meets its contract: key by key.
use Rattle.std.proofs.Common.{◌+◌, ◌*◌, sym, ◌∙◌, ap, get_or, drop, arith}
use Rattle.buffer.specs.Write.{write}
use Rattle.buffer.proofs.Laws.Write.{write-nil}
use Rattle.buffer.proofs.Laws.Next.{write-left}
use Rattle.keys.specs.Code.{bytes_of, key_bytes}
use Rattle.keys.proofs.Laws.Bytes.{length-bytes_of, keys-first, keys_none, fitting-at}
use Rattle.keys.proofs.write.write_keys.Goals as goal

pub write_key-requires-clause-key_bound : goal.write_key-requires-clause-key_bound
write_key-requires-clause-key_bound c = fitting-at c.args.keys.now c.loop-i.i c.requires.fitting c.loop-i-test.true

pub loop-i-preserved : goal.loop-i-preserved
loop-i-preserved c =
    let l = c.loop-i in
    let keys = c.args.keys.now in
    let to = c.args.to in
    let k = get_or keys l.i 0 in
    l.invariant ∙ ap (write l.out (to + 5 * l.i)) (keys-first keys l.i c.loop-i-test.true)
    ∙ write-left l.out (to + 5 * l.i) (bytes_of k) (to + 5 * (l.i + 1)) (key_bytes (drop (l.i + 1) keys))
    (omega (arith, c.requires.keys_in_bounds, l.auto.out, c.loop-i-test.true)) (omega (arith, length-bytes_of k)) _ c.write_key.ensures

pub returns : goal.returns
returns c =
    let l = c.loop-i in
    sym (l.invariant ∙ ap (write l.out (c.args.to + 5 * l.i)) (keys_none c.args.keys.now l.i c.loop-i-test.false) ∙ write-nil l.out (c.args.to + 5 * l.i))

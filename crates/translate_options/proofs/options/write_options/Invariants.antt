-- What is to be written at `to` is what is left to write behind the records that are written.
use Rattle.std.proofs.Common.{◌≡◌, ◌+◌, ◌*◌, ◌-◌}
use Rattle.buffer.specs.Write.{write}
use Rattle.record_walk.specs.Code.{tag_at}
use Rattle.translate_options.proofs.Laws.Options.{option_bytes}
use Rattle.translate_options.proofs.options.write_options.Given as goal

abbrev pub invariant-loop-i : goal.invariant-loop-i
invariant-loop-i l =
    let left = option_bytes l.s (tag_at l.s) in
    write l.fn.out l.to (left 7 l.heads) ≡ write l.out (l.to + 56 * l.i) (left (7 + 5 * l.i) (l.heads - l.i))

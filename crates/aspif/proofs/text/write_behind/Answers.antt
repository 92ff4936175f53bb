-- `text::write_behind`: the constraints, the names of atoms, the names of negations.
-- Assumes nothing.
use Rattle.std.proofs.Common.{arith}
use Rattle.aspif.proofs.Laws.Text.{length-behind, behind-wrote}
use Rattle.aspif.proofs.text.write_behind.Goals as goal

pub write_pairs-named-requires : goal.write_pairs-named-requires
write_pairs-named-requires c = omega (arith, length-behind c.args.numbering.now)

pub write_names-negated-requires : goal.write_names-negated-requires
write_names-negated-requires c = omega (arith, length-behind c.args.numbering.now)

pub write_names-requires : goal.write_names-requires
write_names-requires c = omega (arith, length-behind c.args.numbering.now)

pub returns : goal.returns
returns c =
    behind-wrote c.args.numbering.now c.args.to _ _ _ (omega arith) c.write_pairs-named.ensures c.write_names-negated.ensures c.write_names.ensures

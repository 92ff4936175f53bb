-- `lines::put_run`: the fields of the first numbers stand.
-- Assumes nothing.
use Rattle.aspif_rule.proofs.Laws.Lines.{Filled}
use Rattle.aspif_rule.proofs.lines.put_run.Given as goal

abbrev pub invariant-loop-n : goal.invariant-loop-n
invariant-loop-n l = Filled l.numbers l.naf l.initial.text l.text l.to l.n-index l.next

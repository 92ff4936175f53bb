-- `lines::put_lines`: the lines of the first rules stand, and the next record and its numbers start what is left.
-- Assumes nothing.
use Rattle.aspif_rule.proofs.Laws.Lines.{Lined}
use Rattle.aspif_rule.proofs.lines.put_lines.Given as goal

abbrev pub invariant-loop : goal.invariant-loop
invariant-loop l = Lined l.part l.numbers l.initial.text l.text l.here l.left l.next l.counter

-- As many rules are gone as were counted, from 1 on.
-- Assumes nothing.
use Rattle.std.proofs.Common.{◌+◌, ◌≡◌, length}
use Rattle.record_walk.proofs.Laws.Walk.{Pass}
use Rattle.record_show.specs.Code.{Numbered}
use Rattle.record_show.proofs.show.walk.Given as goal

abbrev pub invariant-loop : goal.invariant-loop
invariant-loop l = Pass (Numbered l.number) l.s l.at (λ gone. length gone + 1 ≡ l.counter)

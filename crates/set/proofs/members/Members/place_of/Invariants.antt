-- A literal with the key, if there is one, is one of `size` from `base` on.
use Rattle.set.proofs.Laws.Search.{Part}
use Rattle.set.proofs.members.Members.place_of.Given as goal

abbrev pub invariant-loop-size : goal.invariant-loop-size
invariant-loop-size l = Part l.self.bytes.now l.wanted l.self.count l.base l.size

abbrev pub decreases-loop-size : goal.decreases-loop-size
decreases-loop-size l = l.size

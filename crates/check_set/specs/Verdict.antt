-- What the check answers and writes of a finding (01, "Check").
-- In order: the verdict; the witness. The finding itself is `Finding` of `semantics`. Assumes nothing.
use Rattle.std.specs.Prelude.{ℕ, List, [], length}
use Rattle.semantics.specs.Verdict.{Finding, clash, broken, smaller, answer_set}
use Rattle.set.specs.Layout.{encoded_set}
use Rattle.check_set.specs.declared.Verdict.{Verdict}
use Rattle.check_set.specs.declared.Verdict.TheVariants.{Clash, Broken, Smaller, Yes}

-- the verdict, with its position, rule or length
unfoldable pub verdict_of : Finding → Verdict
verdict_of (clash k) = Clash k
verdict_of (broken n) = Broken (record { 0 = n })
verdict_of (smaller ls) = Smaller (length (encoded_set ls))
verdict_of answer_set = Yes

-- what it writes: the smaller model's record; other verdicts write nothing
unfoldable pub witness : Finding → List ℕ
witness (clash k) = []
witness (broken n) = []
witness (smaller ls) = encoded_set ls
witness answer_set = []

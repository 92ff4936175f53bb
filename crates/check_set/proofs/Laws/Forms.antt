-- The two forms can be checked, and the same limits have the same outcome. Assumes nothing.
use Prim.Native.Nat.{ℕ}
use Rattle.check_set.specs.declared.Verdict.{Verdict}
use Rattle.record.specs.Result.{Answer}
use native.Mathlib.Omega.{arith}
use mathlib.Core.Path.{◌≡◌, sym, subst}
use mathlib.Core.List.{List}
use Rattle.literal.specs.declared.Limits.{Limits}
use Rattle.literal.specs.Limits.{source, plain, source_rules, plain_rules}
use Rattle.record.proofs.Laws.Meant.{plain-unsheeted}
use Rattle.expand.specs.Code.{Normalizable}
use Rattle.expand.proofs.Laws.File.{normalizable-source}
use Rattle.check_set.specs.Check.{checked}
use Rattle.check_set.specs.Meets.{MeetsCheck}
use Rattle.check_set.specs.Code.{Checkable, CheckableFile}

-- a clause for each of the form's rules has room
source-checkable : CheckableFile source source_rules
unfolding source
source-checkable = record { rules = omega arith; appended = omega arith; checked = omega arith }

plain-checkable : Checkable plain plain_rules
unfolding plain
plain-checkable = record { rules = omega arith; numbered = omega arith; checked = omega arith }

pub checkable-source : {F : Limits} → F ≡ source → CheckableFile F source_rules × Normalizable F
checkable-source e =
    subst (λ (G : Limits). CheckableFile G source_rules × Normalizable G) (sym e) (source-checkable, normalizable-source)

pub checkable-plain : {F : Limits} → F ≡ plain → Checkable F plain_rules × (F.sheets ≡ 0)
checkable-plain e = subst (λ (G : Limits). Checkable G plain_rules × (G.sheets ≡ 0)) (sym e) (plain-checkable, plain-unsheeted)

pub checked-same : {F G : Limits} (s k out : List ℕ) {r : Answer Verdict} {end : List ℕ} → F ≡ G → MeetsCheck (checked F s k out) r end
    → MeetsCheck (checked G s k out) r end
checked-same s k out {r} {end} same m = subst (λ (H : Limits). MeetsCheck (checked H s k out) r end) same m

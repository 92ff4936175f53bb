-- The literals that a program within a form's limits speaks of fit two bytes, where the form's figures do.
-- In order: a rule; a program. Assumes nothing.
use native.Mathlib.Omega.{arith}
use mathlib.Core.List.{List}
use lib.Dec.{T}
use Rattle.literal.specs.declared.Limits.{Limits}
use Rattle.literal.specs.declared.Literal.{Literal}
use Rattle.literal.specs.Literal.{takes}
use Rattle.literal.proofs.Laws.Literal.{Fits, TwoBytes, in-range, takes-fits}
use Rattle.semantics.specs.Set.{each_of}
use Rattle.semantics.specs.Rule.{Rule, strict, defeasible, Program, head, positive, naf}
use Rattle.semantics.specs.Form.{keeps_rule}
use Rattle.semantics.proofs.Laws.Tests.{Each, each-intro, all-mem}
use Rattle.semantics.proofs.Laws.Agree.{defeat_marks, Speaks}
use Rattle.semantics.proofs.Laws.Form.{Kept, kept}
use Rattle.record.proofs.Laws.Fit.{marks-fit}

module _ (F : Limits) (w : TwoBytes F) where
  literals-fit : (ls : List Literal) → T (each_of (takes F) ls) → Each Fits ls
  literals-fit ls t = each-intro Fits ls (λ l m. takes-fits F w l (all-mem (takes F) t m))

  rule-marks : (r : Rule) → Kept F r → Each Fits (defeat_marks r)
  unfolding defeat_marks head
  rule-marks (strict h b c) k = tt
  rule-marks (defeasible t h b c) k =
      marks-fit t (omega (arith, (in-range F.tags t.0 k.tag.range).1, w.tags)) h (literals-fit (head (defeasible t h b c)) k.head-taken)

  rule_fits : (r : Rule) → T (keeps_rule F r) → Speaks Fits r
  rule_fits r t =
      let k = kept F r t in
      record {
        heads = literals-fit (head r) k.head-taken;
        positives = literals-fit (positive r) k.positive-taken;
        nafs = literals-fit (naf r) k.naf-taken;
        marks = rule-marks r k;
      }

  pub rules-fit : (p : Program) → T (each_of (keeps_rule F) p) → Each (Speaks Fits) p
  rules-fit p t = each-intro (Speaks Fits) p (λ r m. rule_fits r (all-mem (keeps_rule F) t m))

-- A rule's literals read and marked: what the body of its record comes to, by the count of its literals.
-- In order: the three ways that a strict rule's body ends; the record of such a body; marks by what was read.
-- Assumes nothing.
use Prim.Native.Nat.{ℕ, ◌+◌, ◌*◌, ◌≤◌, ◌<◌}
use Rattle.std.specs.Prelude.{Ok, Err}
use native.Mathlib.Omega.{arith}
use mathlib.Core.Path.{◌≡◌, refl, sym, ap, subst, ◌∙◌}
use mathlib.Core.Bool.{Bool, false}
use mathlib.Core.List.{List}
use lib.ListN.{length}
use Rattle.literal.specs.declared.Limits.{Limits}
use Rattle.record.specs.declared.Reason.TheVariants.{LiteralsCut}
use Rattle.record.specs.declared.Refusal.{Refusal}
use Rattle.record.specs.declared.Step.{Step}
use Rattle.record.specs.Header.{head_count, positive_count, naf_count}
use Rattle.record.specs.Refusal.{refusal}
use Rattle.record.specs.Result.{Answer}
use Rattle.record.specs.Reading.{Entry, literals_at, body_at}
use Rattle.record.specs.Code.{run_of, step_of}
use Rattle.record.proofs.Laws.Body.{body-cut, body-wrong, body-strict}
use Rattle.record_step.specs.Code.{LiteralsLeft}
use Rattle.aspif_number.specs.Code.{Gained, places_at, literal_count}
use Rattle.aspif_number.proofs.Laws.Run.{gained-told}
use Rattle.aspif_read.specs.Code.{strict_body, RuleMarked, Marked}

module _ (F : Limits) (t : List ℕ) (count : ℕ) (counted : count ≡ literal_count t) where
  -- the literals are cut
  pub cut_step : length t < 7 + 5 * count → step_of (strict_body F t) ≡ Err (refusal LiteralsCut 0)
  cut_step short = body-cut F false t (head_count t) (positive_count t) (naf_count t) (omega (arith, counted))

  module _ (fits : 7 + 5 * count ≤ length t) where
    run-told : (x : Answer (Unit {0})) → x ≡ run_of (literals_at F t 7 count) → run_of (literals_at F t 7 (literal_count t)) ≡ x
    run-told x e = ap (λ (n : ℕ). run_of (literals_at F t 7 n)) (sym counted) ∙ sym e

    -- one is wrong
    pub wrong-step : (run : Answer (Unit {0})) → run ≡ run_of (literals_at F t 7 count) → (x : Refusal) → run ≡ Err x
        → step_of (strict_body F t) ≡ Err x
    wrong-step run e x wrong =
        body-wrong F false t (head_count t) (positive_count t) (naf_count t) (omega (arith, counted)) x (run-told run e ∙ wrong)

    -- all are right
    pub right-step : (run : Answer (Unit {0})) → run ≡ run_of (literals_at F t 7 count) → run ≡ Ok tt
        → step_of (strict_body F t) ≡ Ok (Step.Rule (7 + 5 * count))
    right-step run e right =
        body-strict F false t (head_count t) (positive_count t) (naf_count t) (omega (arith, counted)) refl (run-told run e ∙ right)
        ∙ ap (λ (n : ℕ). Ok (Step.Rule (7 + 5 * n))) (sym counted)

  -- and their places are marked
  pub right-marked : (d e : List ℕ) → Gained d e (places_at t 7 count) → RuleMarked t d e (7 + 5 * count)
  right-marked d e gained = record { whole = ap (λ (n : ℕ). 7 + 5 * n) counted; gained = gained-told t 7 count (literal_count t) counted gained }

-- where the form has no defeasible rules, the literals that are left are a strict rule's
pub strict-step : (F : Limits) (t : List ℕ) (a : Answer Entry) (d : Bool) → LiteralsLeft F t a d → F.defeasible ≡ false → (x : Answer Step)
    → x ≡ step_of (strict_body F t) → x ≡ step_of a
strict-step F t a d w plain x q =
    q ∙ ap (λ (b : Bool). step_of (body_at F b t (head_count t) (positive_count t) (naf_count t))) (sym (w.form plain)) ∙ sym w.step

-- of a refusal nothing is said
pub refused-marked : (t d e : List ℕ) (r : Answer Step) (x : Refusal) → r ≡ Err x → Marked t d e r
refused-marked t d e r x q = subst (Marked t d e) (sym q) tt

-- the marks behind a rule's record, and at the end
pub rule-marked : (t d e : List ℕ) (r : Answer Step) (size : ℕ) → r ≡ Ok (Step.Rule size) → Marked t d e r → RuleMarked t d e size
rule-marked t d e r size q m = subst (Marked t d e) q m

pub end_marked : (t d e : List ℕ) (r : Answer Step) → r ≡ Ok Step.End → Marked t d e r → e ≡ d
end_marked t d e r q m = subst (Marked t d e) q m

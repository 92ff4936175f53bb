-- The verdict and the output of each finding. Assumes nothing.
use Prim.Native.Nat.{ℕ}
use mathlib.Core.Path.{◌≡◌, refl, sym, ◌∙◌, ap}
use mathlib.Core.List.{List, []}
use lib.ListN.{length}
use Rattle.buffer.specs.Write.{write}
use Rattle.buffer.proofs.Laws.Write.{write-nil}
use Rattle.literal.specs.declared.Literal.{Literal}
use Rattle.semantics.specs.Rule.{Program}
use Rattle.semantics.specs.Verdict.{Finding, clash, broken, smaller, answer_set, finding}
use Rattle.set.specs.Layout.{encoded_set}
use Rattle.check_set.specs.declared.Verdict.{Verdict}
use Rattle.check_set.specs.Verdict.{verdict_of, witness}
use Rattle.check_set.specs.Code.{Meant}

module _ (p : Program) (ls : List Literal) (out : List ℕ) where
  -- a finding without a witness leaves the output as it came
  unwritten : (f : Finding) (r : Verdict) → finding p ls ≡ f → r ≡ verdict_of f → witness f ≡ [] → Meant p ls out r out
  unwritten f r e told none =
      record {
        answer = told ∙ ap verdict_of (sym e);
        buffer = sym (ap (λ (x : Finding). write out 0 (witness x)) e ∙ ap (write out 0) none ∙ write-nil out 0);
      }

  pub meant-clash : (k : ℕ) → finding p ls ≡ clash k → Meant p ls out (Verdict.Clash k) out
  unfolding verdict_of witness
  meant-clash k e = unwritten (clash k) (Verdict.Clash k) e refl refl

  pub meant-broken : (n : ℕ) → finding p ls ≡ broken n → Meant p ls out (Verdict.Broken (record { 0 = n })) out
  unfolding verdict_of witness
  meant-broken n e = unwritten (broken n) (Verdict.Broken (record { 0 = n })) e refl refl

  pub meant-yes : (r : Verdict) (end : List ℕ) → finding p ls ≡ answer_set → r ≡ Verdict.Yes → end ≡ write out 0 [] → Meant p ls out r end
  unfolding verdict_of witness
  meant-yes r end e told done =
      record { answer = told ∙ ap verdict_of (sym e); buffer = done ∙ ap (λ (x : Finding). write out 0 (witness x)) (sym e) }

  -- the smaller model's record is written, and its length told
  pub meant-smaller : (r : Verdict) (end : List ℕ) (ms : List Literal) (bs : List ℕ) → finding p ls ≡ smaller ms → bs ≡ encoded_set ms
      → r ≡ Verdict.Smaller (length bs) → end ≡ write out 0 bs → Meant p ls out r end
  unfolding verdict_of witness
  meant-smaller r end ms bs e same told done =
      record {
        answer = told ∙ ap (λ (x : List ℕ). Verdict.Smaller (length x)) same ∙ ap verdict_of (sym e);
        buffer = done ∙ ap (write out 0) same ∙ ap (λ (x : Finding). write out 0 (witness x)) (sym e);
      }

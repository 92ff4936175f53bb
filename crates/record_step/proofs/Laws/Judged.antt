-- What a rule's record comes to, by its literals, is what the definition of its body says.
-- In order: each way; all of them.
-- Assumes nothing.
use Prim.Native.Nat.{ℕ, ◌+◌, ◌*◌, ◌≤◌}
use Rattle.record.specs.Result.{Answer, and_then}
use Rattle.std.specs.Prelude.{Ok, Err}
use native.Mathlib.Omega.{arith}
use mathlib.Core.Path.{◌≡◌, refl, sym, ◌∙◌, ap}
use mathlib.Core.Bool.{Bool, true, false, cond}
use mathlib.Core.List.{List}
use lib.Dec.{eqb}
use lib.ListN.{length}
use borrow.Author.Tests.{eq-eqb, ne_eqb, eqb-true, eqb-false}
use Rattle.literal.specs.declared.Limits.{Limits}
use Rattle.record.specs.declared.Reason.TheVariants.{HeadWrong}
use Rattle.record.specs.Refusal.{refusal}
use Rattle.record.specs.Reading.{literals_at, body_at, entry_size}
use Rattle.record.specs.Code.{run_of, signed_kinds}
use Rattle.record.proofs.Laws.Body.{body-wrong, body-strict, body-empty, body-marked, body-signed}
use Rattle.record.proofs.Laws.Only.{rule_sized, refused-sized}
use Rattle.record_step.specs.Code.{judged}

-- a defeasible rule, by its head
module _ (t : List ℕ) (h size : ℕ) where
  pub judged-empty : h ≡ 0 → judged (Ok tt) true t h size ≡ Err (refusal HeadWrong 0)
  unfolding judged
  judged-empty e =
      ap (λ (b : Bool). cond b (Err (refusal HeadWrong 0)) (cond (signed_kinds t 7 h) (Ok size) (Err (refusal HeadWrong 0)))) (eq-eqb h 0 e)

  judged-kinds : (h ≡ 0 → ⊥) → judged (Ok tt) true t h size ≡ cond (signed_kinds t 7 h) (Ok size) (Err (refusal HeadWrong 0))
  unfolding judged
  judged-kinds e =
      ap (λ (b : Bool). cond b (Err (refusal HeadWrong 0)) (cond (signed_kinds t 7 h) (Ok size) (Err (refusal HeadWrong 0)))) (ne_eqb h 0 e)

  pub judged-marked : (h ≡ 0 → ⊥) → signed_kinds t 7 h ≡ false → judged (Ok tt) true t h size ≡ Err (refusal HeadWrong 0)
  judged-marked e m = judged-kinds e ∙ ap (λ (b : Bool). cond b (Ok size) (Err (refusal HeadWrong 0))) m

  pub judged-signed : (h ≡ 0 → ⊥) → signed_kinds t 7 h ≡ true → judged (Ok tt) true t h size ≡ Ok size
  judged-signed e m = judged-kinds e ∙ ap (λ (b : Bool). cond b (Ok size) (Err (refusal HeadWrong 0))) m

-- the literals of a record that is not cut decide
module _ (F : Limits) (t : List ℕ) (h b c : ℕ) (fits : 7 + 5 * (h + b + c) ≤ length t) where
  defeasible-judged : run_of (literals_at F t 7 (h + b + c)) ≡ Ok tt → judged (Ok tt) true t h (7 + 5 * (h + b + c)) ≡ and_then (body_at F true t h b c) entry_size
  defeasible-judged right = go (eqb h 0) refl (signed_kinds t 7 h) refl
    where
      go : (x : Bool) → eqb h 0 ≡ x → (y : Bool) → signed_kinds t 7 h ≡ y → judged (Ok tt) true t h (7 + 5 * (h + b + c)) ≡ and_then (body_at F true t h b c) entry_size
      go true p y q = let none = eqb-true h 0 p in judged-empty t h (7 + 5 * (h + b + c)) none ∙ sym (refused-sized _ _ (body-empty F true t h b c fits refl right none))
      go false p true q =
          let some = eqb-false h 0 p in
          judged-signed t h (7 + 5 * (h + b + c)) some q ∙ sym (rule_sized _ _ (body-signed F true t h b c fits refl right (omega (arith, some)) q))
      go false p false q = judged-marked t h (7 + 5 * (h + b + c)) (eqb-false h 0 p) q ∙ sym (refused-sized _ _ (body-marked F true t h b c fits refl right q))

  pub body-judged : (d : Bool) (r : Answer (Unit {0})) → r ≡ run_of (literals_at F t 7 (h + b + c)) → judged r d t h (7 + 5 * (h + b + c)) ≡ and_then (body_at F d t h b c) entry_size
  unfolding judged
  body-judged d (Err x) e = sym (refused-sized _ _ (body-wrong F d t h b c fits x (sym e)))
  body-judged false (Ok tt) e = sym (rule_sized _ _ (body-strict F false t h b c fits refl (sym e)))
  body-judged true (Ok tt) e = defeasible-judged (sym e)

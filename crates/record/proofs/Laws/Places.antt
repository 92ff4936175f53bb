-- A refusal met in a record has its place within the record's part. Assumes nothing.
use Prim.Native.Nat.{ℕ, zero, suc, ◌+◌, ◌*◌, ◌≤◌}
use Rattle.std.specs.Prelude.{Ok, Err}
use native.Mathlib.Omega.{arith}
use mathlib.Core.Path.{◌≡◌, refl, subst}
use mathlib.Core.Bool.{Bool, true, false}
use mathlib.Core.List.{List, [], ◌∷◌}
use mathlib.Core.Option.{Option, none, some}
use lib.ListN.{length, take, drop}
use borrow.Author.Tests.{ltb-false}
use Rattle.buffer.specs.Bytes.{number_at}
use Rattle.literal.specs.declared.Limits.{Limits}
use Rattle.literal.specs.declared.SignedAtom.{SignedAtom}
use Rattle.literal.specs.declared.Literal.{Literal}
use Rattle.literal.specs.declared.Literal.TheVariants.{Signed, Defeated, Derived, RuleDefeated}
use Rattle.literal.specs.Literal.{Decoded}
use Rattle.literal.specs.Literal.{Valid, Wrong}
use Rattle.literal.specs.Literal.{decoded}
use Rattle.semantics.specs.Rule.{Rule, defeasible}
use Rattle.record.specs.declared.Reason.TheVariants.{LiteralWrong, HeadWrong}
use Rattle.record.specs.declared.Refusal.{Refusal}
use Rattle.record.specs.declared.Step.{Step}
use Rattle.record.specs.declared.Held.{Held}
use Rattle.record.specs.Header.{head_count, positive_count, naf_count}
use Rattle.record.specs.Refusal.{refusal}
use Rattle.record.specs.Result.{Answer, and_then, refuse_if}
use Rattle.record.specs.Reading.{Mark, RuleMark, OverrideMark, OppositionMark, EndMark, NoMark, literals_at, options_of, defeasible_rule, rule_of, body_at, rule_at, override_at, signed_of, signed_at, opposition_of, opposition_at, end_at, mark_at, marked_record, record_at}
use Rattle.record.specs.Code.{step_of, found_of}
use Rattle.record.proofs.Laws.Program.{step-refused, found-refused}

-- a refusal's place is at most k
abbrev pub Placed : {A : Type 0} → ℕ → Answer A → Type 0
Placed k (Ok a) = Unit
Placed k (Err x) = x.place ≤ k

pub refuse-if-placed : {A : Type 0} (k : ℕ) (b : Bool) (x : Refusal) (r : Answer A) → x.place ≤ k → (b ≡ false → Placed k r) → Placed k (refuse_if b x r)
unfolding refuse_if
refuse-if-placed k true x r h f = h
refuse-if-placed k false x r h f = f refl

pub and-then-placed : {A B : Type 0} (k : ℕ) (r : Answer A) (f : A → Answer B) → Placed k r → ((a : A) → Placed k (f a)) → Placed k (and_then r f)
unfolding and_then
and-then-placed k (Ok a) f p g = g a
and-then-placed k (Err x) f p g = p

pub literals-placed : (F : Limits) (t : List ℕ) (k n at : ℕ) → at + 5 * n ≤ k → Placed k (literals_at F t at n)
unfolding literals_at
literals-placed F t k zero at h = tt
literals-placed F t k (suc n) at h = go (decoded F (drop at t)) (literals-placed F t k n (at + 5) (omega arith))
  where
    step : Decoded → Answer (List Literal)
    step d = elim d [ Valid l ↦ and_then (literals_at F t (at + 5) n) (λ ls. Ok (l ∷ ls)) | Wrong ↦ Err (refusal LiteralWrong at) ]

    go : (d : Decoded) → Placed k (literals_at F t (at + 5) n) → Placed k (step d)
    go (Valid l) ih = and-then-placed k (literals_at F t (at + 5) n) (λ ls. Ok (l ∷ ls)) ih (λ ls. tt)
    go Wrong ih = omega arith

defeasible-placed : (k tag : ℕ) (h b c : List Literal) → Placed k (defeasible_rule tag h b c)
unfolding defeasible_rule
defeasible-placed k tag [] b c = omega arith
defeasible-placed k tag (l ∷ h) b c = go (options_of (l ∷ h))
  where
    go : (o : Option (List SignedAtom))
        → Placed {A = Rule} k (elim o as (λ x. Answer Rule) [
          | some os ↦ Ok
              (defeasible (record { 0 = tag }) os b c)
          | none ↦ Err (refusal HeadWrong 0)
        ])
    go (some os) = tt
    go none = omega arith

pub rule-of-placed : (k : ℕ) (d : Bool) (tag h b : ℕ) (ls : List Literal) → Placed k (rule_of d tag h b ls)
unfolding rule_of
rule-of-placed k true tag h b ls = defeasible-placed k tag (take h ls) (take b (drop h ls)) (drop (h + b) ls)
rule-of-placed k false tag h b ls = tt

body-placed : (F : Limits) (d : Bool) (t : List ℕ) (h b c : ℕ) → Placed (length t) (body_at F d t h b c)
unfolding body_at
body-placed F d t h b c =
    refuse-if-placed (length t) _ _ _ (omega arith)
    (λ e. and-then-placed (length t) (literals_at F t 7 (h + b + c)) _
    (literals-placed F t (length t) (h + b + c) 7 (ltb-false (length t) (7 + 5 * (h + b + c)) e))
    (λ ls. and-then-placed (length t) (rule_of d (number_at t 2) h b ls) _ (rule-of-placed (length t) d (number_at t 2) h b ls) (λ r. tt)))

rule-placed : (F : Limits) (d : Bool) (n : ℕ) (t : List ℕ) → Placed (length t) (rule_at F d n t)
unfolding rule_at
rule-placed F d n t =
    refuse-if-placed (length t) _ _ _ (omega arith)
    (λ e. refuse-if-placed (length t) _ _ _ (omega arith)
    (λ e. refuse-if-placed (length t) _ _ _ (omega arith)
    (λ e. refuse-if-placed (length t) _ _ _ (omega arith)
    (λ e. body-placed F d t (head_count t) (positive_count t) (naf_count t)))))

end-placed : (k n : ℕ) (t : List ℕ) → Placed k (end_at n t)
unfolding end_at
end-placed k n t =
    refuse-if-placed k _ _ _ (omega arith)
    (λ e. refuse-if-placed k _ _ _ (omega arith) (λ e. tt))

override-placed : (F : Limits) (k n : ℕ) (t : List ℕ) → Placed k (override_at F n t)
unfolding override_at
override-placed F k n t =
    refuse-if-placed k _ _ _ (omega arith)
    (λ e. refuse-if-placed k _ _ _ (omega arith)
    (λ e. refuse-if-placed k _ _ _ (omega arith)
    (λ e. refuse-if-placed k _ _ _ (omega arith) (λ e. tt))))

signed-placed : (F : Limits) (t : List ℕ) (k at : ℕ) → at ≤ k → Placed k (signed_at F t at)
unfolding signed_at signed_of
signed-placed F t k at h = go (decoded F (drop at t))
  where
    go : (d : Decoded) → Placed k (signed_of d at)
    go (Valid (Signed a)) = tt
    go (Valid (Defeated t a)) = h
    go (Valid (Derived t a)) = h
    go (Valid (RuleDefeated n)) = h
    go Wrong = h

opposition-placed : (F : Limits) (n : ℕ) (t : List ℕ) → Placed (length t) (opposition_at F n t)
unfolding opposition_at opposition_of
opposition-placed F n t =
    refuse-if-placed (length t) _ _ _ (omega arith)
    (λ e. refuse-if-placed (length t) _ _ _ (omega arith)
    (λ e. and-then-placed (length t) (signed_at F t 2) _ (signed-placed F t (length t) 2 (omega (arith, ltb-false (length t) 12 e)))
    (λ a. and-then-placed (length t) (signed_at F t 7) _ (signed-placed F t (length t) 7 (omega (arith, ltb-false (length t) 12 e)))
    (λ b. refuse-if-placed (length t) _ _ _ (omega arith) (λ e. tt)))))

pub record-placed : (F : Limits) (h : Held) (t : List ℕ) → Placed (length t) (record_at F h t)
unfolding record_at marked_record
record-placed F h t = refuse-if-placed (length t) _ _ _ (omega arith) (λ e. go (mark_at F t))
  where
    go : (m : Mark) → Placed (length t) (marked_record F m h t)
    go (RuleMark d) = rule-placed F d h.rules t
    go OverrideMark = override-placed F (length t) h.overrides t
    go OppositionMark = opposition-placed F h.oppositions t
    go EndMark = end-placed (length t) h.rules t
    go NoMark = omega arith

-- a record's refusal lies within its part
pub step-place : (F : Limits) (h : Held) (t : List ℕ) (x : Refusal) → step_of (record_at F h t) ≡ Err x → x.place ≤ length t
step-place F h t x e = subst (Placed (length t)) (step-refused (record_at F h t) x e) (record-placed F h t)

pub found-place : (F : Limits) (h : Held) (t : List ℕ) (x : Refusal) → found_of h (step_of (record_at F h t)) ≡ Err x → x.place ≤ length t
found-place F h t x e = subst (Placed (length t)) (found-refused h (record_at F h t) x e) (record-placed F h t)

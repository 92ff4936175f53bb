-- Laws of results: what an accepted chain says of its steps. Assumes nothing.
use Prim.Native.Nat.{ℕ}
use Rattle.std.specs.Prelude.{Ok, Err}
use native.Mathlib.Omega.{arith}
use mathlib.Core.Path.{◌≡◌, refl, sym}
use mathlib.Core.Bool.{Bool, true, false, true≢false}
use Rattle.record.specs.declared.Refusal.{Refusal}
use Rattle.record.specs.Result.{Answer, and_then, refuse_if}

-- a refusal is no value
pub refused-accepted : {A : Type 0} {x : Refusal} {a : A} → ◌≡◌ {A = Answer A} (Err x) (Ok a) → ⊥
refused-accepted e = let z : ◌≡◌ {A = ℕ} 0 1 = cc in omega arith

pub accepted-eq : {A : Type 0} {a b : A} → ◌≡◌ {A = Answer A} (Ok a) (Ok b) → a ≡ b
accepted-eq e = cc

-- what was accepted in the end was accepted at each step
pub and-then-accepted : {A B : Type 0} (r : Answer A) (f : A → Answer B) (b : B) → and_then r f ≡ Ok b → (a : A) × (r ≡ Ok a) × (f a ≡ Ok b)
unfolding and_then
and-then-accepted (Ok a) f b e = (a, refl, e)
and-then-accepted (Err x) f b e = absurd (refused-accepted e)

pub accepted-and-then : {A B : Type 0} (a : A) (f : A → Answer B) → and_then (Ok a) f ≡ f a
unfolding and_then
accepted-and-then a f = refl

-- a test of an accepted chain failed
pub refuse-if-accepted : {A : Type 0} (b : Bool) (x : Refusal) (r : Answer A) (a : A) → refuse_if b x r ≡ Ok a → (b ≡ false) × (r ≡ Ok a)
unfolding refuse_if
refuse-if-accepted true x r a e = absurd (refused-accepted e)
refuse-if-accepted false x r a e = (refl, e)

pub refuse-if-false : {A : Type 0} (b : Bool) (x : Refusal) (r : Answer A) → b ≡ false → refuse_if b x r ≡ r
unfolding refuse_if
refuse-if-false true x r e = absurd (true≢false e)
refuse-if-false false x r e = refl

pub refuse-if-true : {A : Type 0} (b : Bool) (x : Refusal) (r : Answer A) → b ≡ true → refuse_if b x r ≡ Err x
unfolding refuse_if
refuse-if-true true x r e = refl
refuse-if-true false x r e = absurd (true≢false (sym e))

pub refused-and-then : {A B : Type 0} (x : Refusal) (f : A → Answer B) → and_then (Err x) f ≡ Err x
unfolding and_then
refused-and-then x f = refl

-- A word tells a refusal by its highest bit, where what is no refusal has room below it. Assumes nothing.
use Prim.Native.Nat.{ℕ, ◌^◌, ◌≤◌, ◌<◌}
use Rattle.record_show.specs.declared.Extent.{Extent}
use Rattle.record.specs.Result.{Answer}
use Rattle.std.specs.Prelude.{Ok, Err}
use native.Mathlib.Omega.{arith}
use mathlib.Core.Path.{◌≡◌, refl}
use Rattle.record.specs.declared.Refusal.{Refusal}
use Rattle.check_set.specs.declared.Verdict.{Verdict}
use Rattle.aspda_word.specs.Words.{refusal_word, count_word, shown_word, verdict_word, check_word, Told, ToldCount, ToldShown, ToldCheck}
use Rattle.aspda_word.specs.Code.{ShortShown, ShortVerdict, ShortCheck}

-- a refusal's word
refusal-large : (x : Refusal) → 2 ^ 63 ≤ refusal_word x
refusal-large x = omega arith

-- a verdict's
verdict-small : (v : Verdict) → ShortVerdict v → verdict_word v < 2 ^ 63
verdict-small (Verdict.Clash k) h = omega arith
verdict-small (Verdict.Broken n) h = omega arith
verdict-small (Verdict.Smaller n) h = omega arith
verdict-small Verdict.Yes h = omega arith

-- an answer that is no refusal
told-answer : {A : Type 0} (word : Answer A → ℕ) (a : A) → word (Ok a) < 2 ^ 63 → Told word (Ok a)
told-answer word a h = (λ w. absurd (omega arith), λ w. let z : ◌≡◌ {A = ℕ} 0 1 = cc w.1 in absurd (omega (arith, z)))

-- each kind of answer
pub told-count : (a : Answer ℕ) → ((n : ℕ) → a ≡ Ok n → n < 2 ^ 63) → ToldCount a
told-count (Ok n) h = told-answer count_word n (h n refl)
told-count (Err x) h = (λ w. (x, refl), λ w. refusal-large x)

pub told-shown : (a : Answer Extent) → ShortShown a → ToldShown a
told-shown (Ok e) h = told-answer shown_word e (omega arith)
told-shown (Err x) h = (λ w. (x, refl), λ w. refusal-large x)

pub told-check : (a : Answer Verdict) → ShortCheck a → ToldCheck a
told-check (Ok v) h = told-answer check_word v (verdict-small v h)
told-check (Err x) h = (λ w. (x, refl), λ w. refusal-large x)

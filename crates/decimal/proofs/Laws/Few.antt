-- Decimals of two to five figures, figure by figure.
-- In order: a decimal by its tenth's; two figures, three, four, five.
-- Assumes nothing.
use Prim.Native.Nat.{ℕ, ◌/◌, ◌%◌, ◌≤◌, ◌<◌}
use native.Mathlib.Omega.{arith}
use mathlib.Core.Path.{◌≡◌, refl, ◌∙◌, ap, ap₂}
use mathlib.Core.List.{List, [], ◌∷◌, ◌++◌}
use Rattle.decimal.specs.Decimal.{figure, decimal}
use Rattle.decimal.specs.Code.{four_figures}
use Rattle.decimal.proofs.Laws.Decimal.{decimal-less, decimal-more}

-- a number's figures by those of its tenth
pub grown : (n : ℕ) (ds : List ℕ) → 10 ≤ n → decimal (n / 10) ≡ ds → decimal n ≡ ds ++ (figure (n % 10) ∷ [])
grown n ds h e = decimal-more n h ∙ ap (λ (bs : List ℕ). bs ++ (figure (n % 10) ∷ [])) e

-- the same first figure, and the same others
pub same : {x y : ℕ} {xs ys : List ℕ} → x ≡ y → xs ≡ ys → x ∷ xs ≡ y ∷ ys
same first others = ap₂ (λ (z : ℕ) (zs : List ℕ). z ∷ zs) first others

pub decimal-two : (n : ℕ) → 10 ≤ n → n < 100 → decimal n ≡ figure (n / 10) ∷ figure (n % 10) ∷ []
decimal-two n h k = grown n (figure (n / 10) ∷ []) h (decimal-less (n / 10) (omega arith))

pub decimal-three : (n : ℕ) → 100 ≤ n → n < 1000 → decimal n ≡ figure (n / 100) ∷ figure (n / 10 % 10) ∷ figure (n % 10) ∷ []
decimal-three n h k =
    grown n (figure (n / 100) ∷ figure (n / 10 % 10) ∷ []) (omega arith)
    (decimal-two (n / 10) (omega arith) (omega arith) ∙ same (omega arith) refl)

pub decimal-four : (n : ℕ) → 1000 ≤ n → n < 10000 → decimal n ≡ four_figures n
decimal-four n h k =
    grown n (figure (n / 1000 % 10) ∷ figure (n / 100 % 10) ∷ figure (n / 10 % 10) ∷ []) (omega arith)
    (decimal-three (n / 10) (omega arith) (omega arith) ∙ same (omega arith) (same (omega arith) refl))

pub decimal-five : (n : ℕ) → 10000 ≤ n → n < 100000 → decimal n ≡ figure (n / 10000) ∷ four_figures (n % 10000)
decimal-five n h k =
    grown n (four_figures (n / 10)) (omega arith) (decimal-four (n / 10) (omega arith) (omega arith))
    ∙ same (omega arith) (same (omega arith) (same (omega arith) (same (omega arith) (same (omega arith) refl))))

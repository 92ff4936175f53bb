-- Laws of decimals: a number's figures by its tenth's, how many they are, and that a decimal is read back as its number.
-- In order: the fuel; a decimal by tenths, and induction by them; how many figures there are;
-- the byte of a figure; reading.
-- Assumes nothing.
use Prim.Native.Nat.{ℕ, zero, suc, ◌+◌, ◌*◌, ◌/◌, ◌%◌, ◌^◌, ◌≤◌, ◌<◌}
use native.Mathlib.Omega.{arith}
use mathlib.Core.Path.{◌≡◌, refl, ◌∙◌, ap}
use mathlib.Core.Bool.{Bool, true, false}
use mathlib.Core.List.{List, [], ◌∷◌, ◌++◌, append_assoc}
use mathlib.Core.Option.{some}
use lib.Dec.{ltb}
use lib.ListN.{length, length-append}
use borrow.Author.Tests.{ltb-true, ltb-false, lt-ltb, le-ltb, le-leb}
use Rattle.decimal.specs.Decimal.{figure, decimal_with, decimal, is_figure, figures_from, read_decimal}

-- any two bounds that are large enough give the same figures
fuel : (f g n : ℕ) → n < f → n < g → decimal_with f n ≡ decimal_with g n
unfolding decimal_with
fuel zero g n h k = absurd (omega arith)
fuel (suc f) zero n h k = absurd (omega arith)
fuel (suc f) (suc g) n h k = go (ltb n 10) refl (λ a b. fuel f g (n / 10) a b)
  where
    go : (t : Bool) → ltb n 10 ≡ t → (n / 10 < f → n / 10 < g → decimal_with f (n / 10) ≡ decimal_with g (n / 10))
        → decimal_with (suc f) n ≡ decimal_with (suc g) n
    go true e ih = rw (e, decimal_with)
    go false e ih =
        rw (e, decimal_with)
        (ap (λ (bs : List ℕ). bs ++ (figure (n % 10) ∷ [])) (ih (omega (arith, ltb-false n 10 e)) (omega (arith, ltb-false n 10 e))))

-- a number below 10 is one figure
pub decimal-less : (n : ℕ) → n < 10 → decimal n ≡ figure n ∷ []
unfolding decimal decimal_with
decimal-less n h = rw (lt-ltb n 10 h, decimal_with)

-- any other has its tenth's, and one more
pub decimal-more : (n : ℕ) → 10 ≤ n → decimal n ≡ decimal (n / 10) ++ (figure (n % 10) ∷ [])
unfolding decimal decimal_with
decimal-more n h =
    rw (le-ltb n 10 h, decimal_with) (ap (λ (bs : List ℕ). bs ++ (figure (n % 10) ∷ [])) (fuel n (suc (n / 10)) (n / 10) (omega arith) (omega arith)))

-- what holds of the numbers below 10, and of any other if of its tenth, holds of all
module _ (P : ℕ → Type 0) (less : (n : ℕ) → n < 10 → P n) (more : (n : ℕ) → 10 ≤ n → P (n / 10) → P n) where
  tenths-to : (f n : ℕ) → n < f → P n
  tenths-to zero n h = absurd (omega arith)
  tenths-to (suc f) n h = go (ltb n 10) refl (λ a. tenths-to f (n / 10) a)
    where
      go : (t : Bool) → ltb n 10 ≡ t → (n / 10 < f → P (n / 10)) → P n
      go true e ih = less n (ltb-true n 10 e)
      go false e ih = more n (ltb-false n 10 e) (ih (omega (arith, ltb-false n 10 e)))

  pub by-tenths : (n : ℕ) → P n
  by-tenths n = tenths-to (suc n) n (omega arith)

-- how many figures: one below 10, and one more than its tenth's; at least one, and at most k + 1 below the power k + 1 of 10
pub length-less : (n : ℕ) → n < 10 → length (decimal n) ≡ 1
length-less n h = ap length (decimal-less n h)

pub length_more : (n : ℕ) → 10 ≤ n → length (decimal n) ≡ length (decimal (n / 10)) + 1
length_more n h = ap length (decimal-more n h) ∙ length-append (decimal (n / 10)) (figure (n % 10) ∷ [])

pub length-least : (n : ℕ) → 1 ≤ length (decimal n)
length-least =
    by-tenths (λ n. 1 ≤ length (decimal n)) (λ n h. omega (arith, length-less n h)) (λ n h ih. omega (arith, length_more n h))

pub length_most : (k n : ℕ) → n < 10 ^ suc k → length (decimal n) ≤ suc k
length_most zero n h = omega (arith, length-less n (omega arith))
length_most (suc k) n h = go (ltb n 10) refl (length_most k (n / 10) (omega arith))
  where
    go : (t : Bool) → ltb n 10 ≡ t → length (decimal (n / 10)) ≤ suc k → length (decimal n) ≤ suc (suc k)
    go true e ih = omega (arith, length-less n (ltb-true n 10 e))
    go false e ih = omega (arith, length_more n (ltb-false n 10 e))

-- the byte of a figure is a figure's
is-figure : (n : ℕ) → n < 10 → is_figure (figure n) ≡ true
unfolding is_figure
is-figure n h = rw (le-leb 0x30 (0x30 + n) (omega arith), le-leb (0x30 + n) 0x39 (omega arith))

-- one figure, read behind those that made m; and the figures of n are read as n, whatever stands behind them
figure-read : (m d : ℕ) → d < 10 → (rest : List ℕ) → figures_from m (figure d ∷ rest) ≡ figures_from (m * 10 + d) rest
unfolding figures_from
figure-read m d h rest = rw (is-figure d h, figures_from) (ap (λ (k : ℕ). figures_from k rest) (omega arith))

figures-read : (n : ℕ) (rest : List ℕ) → figures_from 0 (decimal n ++ rest) ≡ figures_from n rest
figures-read = by-tenths (λ n. (rest : List ℕ) → figures_from 0 (decimal n ++ rest) ≡ figures_from n rest) less more
  where
    less : (n : ℕ) → n < 10 → (rest : List ℕ) → figures_from 0 (decimal n ++ rest) ≡ figures_from n rest
    less n h rest = rw (decimal-less n h) (figure-read 0 n h rest ∙ ap (λ (k : ℕ). figures_from k rest) (omega arith))

    more : (n : ℕ) → 10 ≤ n → ((rest : List ℕ) → figures_from 0 (decimal (n / 10) ++ rest) ≡ figures_from (n / 10) rest)
        → (rest : List ℕ) → figures_from 0 (decimal n ++ rest) ≡ figures_from n rest
    more n h ih rest =
        rw (decimal-more n h, append_assoc)
        (ih (figure (n % 10) ∷ rest) ∙ figure-read (n / 10) (n % 10) (omega arith) rest ∙ ap (λ (k : ℕ). figures_from k rest) (omega arith))

-- a decimal starts with a figure
abbrev Starts : ℕ → Type 0
Starts n = (rest : List ℕ) → read_decimal (decimal n ++ rest) ≡ some (figures_from 0 (decimal n ++ rest))

figures-start : (n : ℕ) → Starts n
unfolding read_decimal
figures-start = by-tenths Starts less more
  where
    less : (n : ℕ) → n < 10 → Starts n
    less n h rest = rw (decimal-less n h, is-figure n h, read_decimal)

    more : (n : ℕ) → 10 ≤ n → Starts (n / 10) → Starts n
    more n h ih rest = rw (decimal-more n h, append_assoc) (ih (figure (n % 10) ∷ rest))

-- no figure stands at the start of a text
abbrev pub NoFigure : List ℕ → Type 0
NoFigure [] = Unit
NoFigure (b ∷ bs) = is_figure b ≡ false

figures-end : (n : ℕ) (rest : List ℕ) → NoFigure rest → figures_from n rest ≡ record { value = n; rest = rest }
unfolding figures_from
figures-end n [] h = refl
figures-end n (b ∷ bs) h = rw (h, figures_from)

-- a decimal before what is no figure is read as its number
pub read-decimal : (n : ℕ) (rest : List ℕ) → NoFigure rest → read_decimal (decimal n ++ rest) ≡ some (record { value = n; rest = rest })
read-decimal n rest h = figures-start n rest ∙ ap some (figures-read n rest ∙ figures-end n rest h)

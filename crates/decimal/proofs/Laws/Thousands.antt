-- Decimals by thousands, and figures with zeros before them: a decimal is what is left once the zeros are taken off.
-- In order: three figures; a decimal by its thousands, and how many figures it has; a decimal after zeros, three figures and six; zeros
-- taken off a number that has the figures as bytes; an entry's count and figures; the decimal packed from two entries; its size.
-- Assumes nothing.
use Prim.Native.Nat.{ℕ, zero, suc, ◌+◌, ◌-◌, ◌*◌, ◌/◌, ◌%◌, ◌^◌, ◌≤◌, ◌<◌}
use native.Mathlib.Omega.{arith}
use mathlib.Core.Path.{◌≡◌, refl, sym, ◌∙◌, ap, ap₂}
use mathlib.Core.Bool.{Bool, true, false}
use mathlib.Core.List.{List, [], ◌∷◌, ◌++◌, append_assoc}
use lib.Dec.{ltb}
use lib.ListN.{length, length-append, replicate}
use lib.Pow.{shr-shr, shr_le}
use borrow.Author.Tests.{ltb-true, ltb-false}
use Rattle.decimal.specs.Decimal.{figure, decimal}
use Rattle.decimal.specs.Code.{joined, three_figures}
use Rattle.decimal.proofs.Laws.Decimal.{decimal-less, decimal-more, length_most}
use Rattle.decimal.proofs.Laws.Few.{grown, same, decimal-two, decimal-three}

-- the figures of a number below 1000, 0 where it has fewer than three
abbrev three : ℕ → List ℕ
three k = figure (k / 100) ∷ figure (k / 10 % 10) ∷ figure (k % 10) ∷ []

-- a number's figures by those of its thousands
decimal-thousands : (n : ℕ) → 1000 ≤ n → decimal n ≡ decimal (n / 1000) ++ three (n % 1000)
decimal-thousands n h =
    grown n _ (omega arith) (grown (n / 10) _ (omega arith) (decimal-more (n / 10 / 10) (omega arith)))
    ∙ simp append_assoc
    (ap₂ (λ (ds es : List ℕ). ds ++ es) (ap decimal (omega arith)) (same (omega arith) (same (omega arith) (same (omega arith) refl))))

pub length-thousands : (n : ℕ) → 1000 ≤ n → length (decimal n) ≡ 3 + length (decimal (n / 1000))
length-thousands n h = omega (arith, simp length-append at (ap length (decimal-thousands n h)))

-- figures after j zeros
abbrev after-zeros : ℕ → List ℕ → List ℕ
after-zeros j ds = replicate j (figure 0) ++ ds

-- three figures, and six, are zeros and the decimal
three-padded : (k : ℕ) → k < 1000 → three k ≡ after-zeros (3 - length (decimal k)) (decimal k)
three-padded k h = go (ltb k 10) refl (ltb k 100) refl
  where
    go : (s : Bool) → ltb k 10 ≡ s → (t : Bool) → ltb k 100 ≡ t → three k ≡ after-zeros (3 - length (decimal k)) (decimal k)
    go true s t e =
        let one : k < 10 = ltb-true k 10 s in
        rw (decimal-less k one) (same (omega arith) (same (omega arith) (same (omega arith) refl)))
    go false s true e =
        let two : k < 100 = ltb-true k 100 e in
        rw (decimal-two k (ltb-false k 10 s) two) (same (omega arith) (same (omega arith) refl))
    go false s false e = rw (decimal-three k (ltb-false k 100 e) h)

six-padded : (n : ℕ) → n < 1000000 → three (n / 1000) ++ three (n % 1000) ≡ after-zeros (6 - length (decimal n)) (decimal n)
six-padded n h = go (ltb n 1000) refl
  where
    go : (t : Bool) → ltb n 1000 ≡ t → three (n / 1000) ++ three (n % 1000) ≡ after-zeros (6 - length (decimal n)) (decimal n)
    go true t =
        let few : n < 1000 = ltb-true n 1000 t in
        let none : n / 1000 ≡ 0 = omega arith in
        let rest : n % 1000 ≡ n = omega arith in
        let zeros : suc (suc (suc (3 - length (decimal n)))) ≡ 6 - length (decimal n) = omega (arith, length_most 2 n (omega arith)) in
        ap₂ (λ (a b : ℕ). three a ++ three b) none rest
        ∙ ap (λ (ds : List ℕ). after-zeros 3 ds) (three-padded n few)
        ∙ ap (λ (j : ℕ). after-zeros j (decimal n)) zeros
    go false t =
        let many : 1000 ≤ n = ltb-false n 1000 t in
        let zeros : 3 - length (decimal (n / 1000)) ≡ 6 - length (decimal n) = omega (arith, length-thousands n many) in
        ap (λ (ds : List ℕ). ds ++ three (n % 1000)) (three-padded (n / 1000) (omega arith))
        ∙ append_assoc (replicate (3 - length (decimal (n / 1000))) (figure 0)) (decimal (n / 1000)) (three (n % 1000))
        ∙ ap₂ after-zeros zeros (sym (decimal-thousands n many))

-- as many bytes off as there are zeros
zeros-off : (j : ℕ) (ds : List ℕ) → joined (after-zeros j ds) / 2 ^ (8 * j) ≡ joined ds
unfolding joined
zeros-off zero ds = omega arith
zeros-off (suc j) ds =
    ap (λ (k : ℕ). joined (after-zeros (suc j) ds) / 2 ^ k) (omega arith)
    ∙ sym (shr-shr (joined (after-zeros (suc j) ds)) 8 (8 * j))
    ∙ ap (λ (x : ℕ). x / 2 ^ (8 * j)) (omega arith)
    ∙ zeros-off j ds

-- the count that an entry has, and what it has besides
three-counted : (k v : ℕ) → k < 1000 → v ≡ three_figures k → v / 16777216 ≡ length (decimal k)
three-counted k v h e = omega arith

-- the count picked: of a number below 1000 its own entry's, of another its thousands' and three
pub picked-few : (n low : ℕ) → n < 1000 → low ≡ three_figures (n % 1000) → low / 16777216 ≡ length (decimal n)
picked-few n low h e = three-counted (n % 1000) low (omega arith) e ∙ ap (λ (k : ℕ). length (decimal k)) (omega arith)

pub picked-many : (n high : ℕ) → 1000 ≤ n → n < 1000000 → high ≡ three_figures (n / 1000) → 3 + high / 16777216 ≡ length (decimal n)
picked-many n high m h e = omega (arith, three-counted (n / 1000) high (omega arith) e, length-thousands n m)

three-joined : (k v : ℕ) → k < 1000 → v ≡ three_figures k → v % 16777216 ≡ joined (three k)
unfolding joined
three-joined k v h e = omega arith

six-split : (k : ℕ) (bs : List ℕ) → joined bs * 16777216 + joined (three k) ≡ joined (three k ++ bs)
unfolding joined
six-split k bs = omega arith

module _ (n high low : ℕ) (bound : n < 1000000) (high_is : high ≡ three_figures (n / 1000)) (low-is : low ≡ three_figures (n % 1000)) where
  -- the six figures in one number
  six-joined : low % 16777216 * 16777216 + high % 16777216 ≡ joined (three (n / 1000) ++ three (n % 1000))
  six-joined =
      ap₂ (λ (x y : ℕ). x * 16777216 + y) (three-joined (n % 1000) low (omega arith) low-is) (three-joined (n / 1000) high (omega arith) high_is)
      ∙ six-split (n / 1000) (three (n % 1000))

  pub packed-decimal : (many : ℕ) → many ≡ length (decimal n)
      → (low % 16777216 * 16777216 + high % 16777216) / 2 ^ (48 - 8 * many) + many * 72057594037927936
      ≡ joined (decimal n) + 72057594037927936 * length (decimal n)
  packed-decimal many e =
      ap₂ (λ (x y : ℕ). x + y) shifted (omega arith)
    where
      shifted : (low % 16777216 * 16777216 + high % 16777216) / 2 ^ (48 - 8 * many) ≡ joined (decimal n)
      shifted =
          ap₂ (λ (x k : ℕ). x / 2 ^ k) (six-joined ∙ ap joined (six-padded n bound)) (omega arith)
          ∙ zeros-off (6 - length (decimal n)) (decimal n)

-- six bytes or fewer, and the count above them, fit
pub packed-fits : (low high k many : ℕ) → low < 16777216 → high < 16777216 → many ≤ 6
    → (low * 16777216 + high) / 2 ^ k + many * 72057594037927936 < 2 ^ 64
packed-fits low high k many l h m = omega (arith, shr_le (low * 16777216 + high) k)

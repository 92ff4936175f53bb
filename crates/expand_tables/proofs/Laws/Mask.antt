-- Laws of masks of lists: position i is in the mask if the i-th element passes the test.
-- In order: the i-th element; one element more; two tests; a test that no element passes; the first positions; one position
-- alone among the first.
-- Assumes nothing.
use Prim.Native.Nat.{ℕ, zero, suc, ◌+◌, ◌-◌, ◌*◌, ◌%◌, ◌^◌, ◌<◌}
use native.Mathlib.Nat.{pow-suc, one-mul}
use native.Mathlib.Omega.{arith}
use mathlib.Core.Path.{◌≡◌, refl, sym, ◌∙◌, ap, ap₂}
use mathlib.Core.Bool.{Bool, true, false, cond, not, ◌&&◌, ◌||◌}
use mathlib.Core.List.{List, [], ◌∷◌, ◌++◌, append_assoc}
use lib.Arith.{digits_mod, digits_div}
use lib.Bits.{bit_and, bit_or, and_mask, or_zero_r, or_shifted_r}
use lib.Dec.{T, eqb, eqb→eq}
use lib.ListN.{length, length-append}
use lib.Pow.{low}
use borrow.Author.Tests.{eq-eqb, ne_eqb}
use Rattle.semantics.specs.Set.{some_of}
use Rattle.semantics.proofs.Laws.Tests.{same_test, along}
use Rattle.mask.specs.Code.{has}
use Rattle.mask.proofs.Laws.Member.{has-zero, has-and, has-or, has-ext}
use Rattle.expand_tables.specs.Code.{mask_of}

-- the i-th element passes
nth : {A : Type 0} → (A → Bool) → List A → ℕ → Bool
nth f [] i = false
nth f (x ∷ xs) zero = f x
nth f (x ∷ xs) (suc i) = nth f xs i

-- equal numbers pass the test
eq→eqb : (m n : ℕ) → m ≡ n → T (eqb m n)
eq→eqb m n e = along (sym (eq-eqb m n e)) tt

bit-small : (t : Bool) → cond t 1 0 < 2
bit-small true = omega arith
bit-small false = omega arith

bit-one : (t : Bool) → eqb (cond t 1 0) 1 ≡ t
bit-one true = refl
bit-one false = refl

module _ {A : Type 0} where
  has-mask : (f : A → Bool) (xs : List A) (i : ℕ) → has (mask_of f xs) i ≡ nth f xs i
  unfolding mask_of nth has
  has-mask f [] i = has-zero i
  has-mask f (x ∷ xs) zero = ap (λ (n : ℕ). eqb n 1) (digits_mod (mask_of f xs) (bit-small (f x))) ∙ bit-one (f x)
  has-mask f (x ∷ xs) (suc i) = ap (λ (n : ℕ). has n i) (digits_div (mask_of f xs) (bit-small (f x))) ∙ has-mask f xs i

  -- at the length of those before it, an element is asked
  nth_seam : (f : A → Bool) (xs : List A) (x : A) (ys : List A) → nth f (xs ++ x ∷ ys) (length xs) ≡ f x
  unfolding nth
  nth_seam f [] x ys = refl
  nth_seam f (y ∷ xs) x ys = nth_seam f xs x ys

  pub has-mask-seam : (f : A → Bool) (xs : List A) (x : A) (ys : List A) → has (mask_of f (xs ++ x ∷ ys)) (length xs) ≡ f x
  has-mask-seam f xs x ys = has-mask f (xs ++ x ∷ ys) (length xs) ∙ nth_seam f xs x ys

  -- tests that agree have one mask
  pub mask-agree : {f g : A → Bool} (xs : List A) → ((x : A) → f x ≡ g x) → mask_of f xs ≡ mask_of g xs
  unfolding mask_of
  mask-agree [] h = refl
  mask-agree (x ∷ xs) h = ap₂ (λ (m : ℕ) (t : Bool). m * 2 + cond t 1 0) (mask-agree xs h) (h x)

  -- two tests
  nth-or : (f g : A → Bool) (xs : List A) (i : ℕ) → nth (λ x. f x || g x) xs i ≡ (nth f xs i || nth g xs i)
  unfolding nth
  nth-or f g [] i = refl
  nth-or f g (x ∷ xs) zero = refl
  nth-or f g (x ∷ xs) (suc i) = nth-or f g xs i

  nth-and : (f g : A → Bool) (xs : List A) (i : ℕ) → nth (λ x. f x && g x) xs i ≡ (nth f xs i && nth g xs i)
  unfolding nth
  nth-and f g [] i = refl
  nth-and f g (x ∷ xs) zero = refl
  nth-and f g (x ∷ xs) (suc i) = nth-and f g xs i

  pub mask-or : (f g : A → Bool) (xs : List A) → mask_of (λ x. f x || g x) xs ≡ bit_or (mask_of f xs) (mask_of g xs)
  mask-or f g xs =
      has-ext (mask_of (λ x. f x || g x) xs) (bit_or (mask_of f xs) (mask_of g xs))
      (λ i. has-mask (λ x. f x || g x) xs i ∙ nth-or f g xs i ∙ ap₂ (λ (a b : Bool). a || b) (sym (has-mask f xs i)) (sym (has-mask g xs i))
      ∙ sym (has-or (mask_of f xs) (mask_of g xs) i))

  pub mask-and : (f g : A → Bool) (xs : List A) → mask_of (λ x. f x && g x) xs ≡ bit_and (mask_of f xs) (mask_of g xs)
  mask-and f g xs =
      has-ext (mask_of (λ x. f x && g x) xs) (bit_and (mask_of f xs) (mask_of g xs))
      (λ i. has-mask (λ x. f x && g x) xs i ∙ nth-and f g xs i ∙ ap₂ (λ (a b : Bool). a && b) (sym (has-mask f xs i)) (sym (has-mask g xs i))
      ∙ sym (has-and (mask_of f xs) (mask_of g xs) i))

  -- a test that no element passes
  pub mask-none : (xs : List A) → mask_of (λ x. false) xs ≡ 0
  unfolding mask_of
  mask-none [] = refl
  mask-none (x ∷ xs) = ap (λ (m : ℕ). m * 2 + 0) (mask-none xs)

  -- the positions of a list behind another, and of one element more
  pub mask_append : (f : A → Bool) (xs ys : List A) → mask_of f (xs ++ ys) ≡ mask_of f ys * 2 ^ length xs + mask_of f xs
  unfolding mask_of
  mask_append f [] ys = omega arith
  mask_append f (x ∷ xs) ys =
      omega (arith, mask_append f xs ys, ap (λ (n : ℕ). mask_of f ys * n) (pow-suc 2 (length xs)))

  pub mask_below : (f : A → Bool) (xs : List A) → mask_of f xs < 2 ^ length xs
  unfolding mask_of
  mask_below f [] = omega arith
  mask_below f (x ∷ xs) = omega (arith, mask_below f xs, pow-suc 2 (length xs), bit-small (f x))

  -- no element passes exactly if the mask is empty
  mask-some : (f : A → Bool) (xs : List A) → eqb (mask_of f xs) 0 ≡ not (some_of f xs)
  unfolding mask_of
  mask-some f [] = refl
  mask-some f (x ∷ xs) = go (f x) (mask-some f xs)
    where
      double : eqb (mask_of f xs * 2 + 0) 0 ≡ eqb (mask_of f xs) 0
      double =
          same_test (eqb (mask_of f xs * 2 + 0) 0) (eqb (mask_of f xs) 0)
          (λ t. eq→eqb (mask_of f xs) 0 (omega (arith, eqb→eq (mask_of f xs * 2 + 0) 0 t)))
          (λ t. eq→eqb (mask_of f xs * 2 + 0) 0 (omega (arith, eqb→eq (mask_of f xs) 0 t)))

      go : (t : Bool) → eqb (mask_of f xs) 0 ≡ not (some_of f xs) → eqb (mask_of f xs * 2 + cond t 1 0) 0 ≡ not (t || some_of f xs)
      go true h = ne_eqb (mask_of f xs * 2 + 1) 0 (λ e. omega arith)
      go false h = double ∙ h

  -- one element more
  mask_one : (f : A → Bool) (xs : List A) (x : A) → mask_of f (xs ++ x ∷ []) ≡ mask_of f xs + cond (f x) (2 ^ length xs) 0
  unfolding mask_of
  mask_one f xs x = mask_append f xs (x ∷ []) ∙ go (f x)
    where
      go : (t : Bool) → (0 * 2 + cond t 1 0) * 2 ^ length xs + mask_of f xs ≡ mask_of f xs + cond t (2 ^ length xs) 0
      go true = omega arith
      go false = omega arith

  -- the first positions
  pub mask_first : (f : A → Bool) (xs : List A) (x : A) (ys : List A)
      → bit_and (mask_of f (xs ++ x ∷ ys)) (2 ^ (length xs + 1) - 1) ≡ mask_of f xs + cond (f x) (2 ^ length xs) 0
  mask_first f xs x ys =
      let long : length (xs ++ x ∷ []) ≡ length xs + 1 = length-append xs (x ∷ []) in
      let parts : mask_of f (xs ++ x ∷ ys) ≡ mask_of f ys * 2 ^ length (xs ++ x ∷ []) + mask_of f (xs ++ x ∷ []) =
      ap (mask_of f) (sym (append_assoc xs (x ∷ []) ys)) ∙ mask_append f (xs ++ x ∷ []) ys in
      ap (λ (n : ℕ). bit_and (mask_of f (xs ++ x ∷ ys)) (2 ^ n - 1)) (sym long)
      ∙ and_mask (mask_of f (xs ++ x ∷ ys)) (length (xs ++ x ∷ []))
      ∙ ap (λ (n : ℕ). n % 2 ^ length (xs ++ x ∷ [])) parts
      ∙ low (mask_of f ys) (length (xs ++ x ∷ [])) (mask_below f (xs ++ x ∷ []))
      ∙ mask_one f xs x

  -- of the first positions, the last alone
  pub mask-last : (f : A → Bool) (xs : List A) (x : A) (ys : List A)
      → eqb (bit_and (mask_of f (xs ++ x ∷ ys)) (2 ^ (length xs + 1) - 1)) (2 ^ length xs) ≡ (f x && not (some_of f xs))
  mask-last f xs x ys = ap (λ (n : ℕ). eqb n (2 ^ length xs)) (mask_first f xs x ys) ∙ go (f x)
    where
      alone : eqb (mask_of f xs + 2 ^ length xs) (2 ^ length xs) ≡ eqb (mask_of f xs) 0
      alone =
          same_test (eqb (mask_of f xs + 2 ^ length xs) (2 ^ length xs)) (eqb (mask_of f xs) 0)
          (λ t. eq→eqb (mask_of f xs) 0 (omega (arith, eqb→eq (mask_of f xs + 2 ^ length xs) (2 ^ length xs) t)))
          (λ t. eq→eqb (mask_of f xs + 2 ^ length xs) (2 ^ length xs) (omega (arith, eqb→eq (mask_of f xs) 0 t)))

      go : (t : Bool) → eqb (mask_of f xs + cond t (2 ^ length xs) 0) (2 ^ length xs) ≡ (t && not (some_of f xs))
      go true = alone ∙ mask-some f xs
      go false = ne_eqb (mask_of f xs + 0) (2 ^ length xs) (λ e. omega (arith, mask_below f xs))

  -- one element more, as a union
  pub mask-push : (f : A → Bool) (xs : List A) (x : A) → mask_of f (xs ++ x ∷ []) ≡ bit_or (mask_of f xs) (cond (f x) (2 ^ length xs) 0)
  mask-push f xs x = mask_one f xs x ∙ go (f x)
    where
      go : (t : Bool) → mask_of f xs + cond t (2 ^ length xs) 0 ≡ bit_or (mask_of f xs) (cond t (2 ^ length xs) 0)
      go true = omega (arith, or_shifted_r 1 (length xs) (mask_of f xs) (mask_below f xs), ap (bit_or (mask_of f xs)) (one-mul (2 ^ length xs)))
      go false = omega (arith, or_zero_r (mask_of f xs))

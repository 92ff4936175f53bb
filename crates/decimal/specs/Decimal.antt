-- Numbers in decimal figures, as bytes of a text, and how a text is read back.
-- In order: a figure; a number's decimal; a number that is read, and what is left of the text.
-- Not here: what stands between numbers (each text's own definitions).
-- Assumes nothing.
use Rattle.std.specs.Prelude.{ℕ, zero, suc, ◌+◌, ◌*◌, ◌-◌, ◌/◌, ◌%◌, Bool, true, false, ◌&&◌, List, [], ◌∷◌, ◌++◌, leb, ltb}
use Rattle.std.proofs.Math.Option.{Option, none, some}

-- the byte of a figure, 0 to 9
abbrev pub figure : ℕ → ℕ
figure n = 0x30 + n

-- the figures of n, the highest first and none too many: its tenth's, where it has one, and its last. f bounds how many
unfoldable pub decimal_with : ℕ → ℕ → List ℕ
decimal_with zero n = []
decimal_with (suc f) n =
    elim (ltb n 10) [
      | true ↦ figure n ∷ []
      | false ↦ decimal_with f (n / 10) ++ (figure (n % 10) ∷ [])
    ]

unfoldable pub decimal : ℕ → List ℕ
decimal n = decimal_with (suc n) n

-- the byte is a figure's
unfoldable pub is_figure : ℕ → Bool
is_figure b = leb 0x30 b && leb b 0x39

-- what was read from the start of a text, and the text behind it
pub record Read (A : Type 0) : Type 0 where
  pub value : A
  pub rest : List ℕ

-- figures behind those that made n, up to the first byte that is none
unfoldable pub figures_from : ℕ → List ℕ → Read ℕ
figures_from n [] = record { value = n; rest = [] }
figures_from n (b ∷ bs) =
    elim (is_figure b) [
      | true ↦ figures_from (n * 10 + (b - 0x30)) bs
      | false ↦ record { value = n; rest = b ∷ bs }
    ]

-- the number that starts a text, if one does: one figure or more
unfoldable pub read_decimal : List ℕ → Option (Read ℕ)
read_decimal [] = none
read_decimal (b ∷ bs) =
    elim (is_figure b) [
      | true ↦ some (figures_from 0 (b ∷ bs))
      | false ↦ none
    ]

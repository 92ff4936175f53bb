-- The bytes of a state that a call changes: the count, and a byte in each row; the first byte.
-- In order: a row with one byte more, and one less; the count and both rows; one rule more, one rule less, the end, a begin.
-- Assumes nothing.
use Prim.Native.Nat.{ℕ, suc, ◌+◌, ◌-◌, ◌*◌, ◌≤◌, ◌<◌}
use native.Mathlib.Omega.{arith}
use native.Mathlib.Nat.{add-zero}
use mathlib.Core.Path.{◌≡◌, refl, sym, ◌∙◌, ap, ap₂}
use mathlib.Core.Bool.{false}
use mathlib.Core.List.{List, [], ◌∷◌, ◌++◌, map, append_assoc, map-append}
use lib.ListN.{length, get_or, take, replicate, length-append, length-map, replicate-append-replicate}
use lib.Seq.{take-suc, take-length, length-take-le}
use Rattle.buffer.specs.Bytes.{two_bytes}
use Rattle.buffer.specs.Write.{write}
use Rattle.buffer.proofs.Laws.Write.{write_skip, write-within, length-write}
use Rattle.literal.specs.declared.Limits.{Limits}
use Rattle.assembly.specs.State.{opened, closed, Shape, shapes, state_bytes, stage_byte, state_header, heads_byte, body_byte, row, encoded_stage}
use Rattle.assembly.specs.Code.{with_shape}
use Rattle.assembly.proofs.Laws.Row.{length-row}

module _ (F : Limits) (xs : List ℕ) (b : ℕ) (room : length xs < F.rules) where
  -- the zeros of a row
  left : ℕ
  left = F.rules - (length xs + 1)

  one_more : F.rules - length xs ≡ suc left
  unfolding left
  one_more = omega arith

  longer : F.rules - length (xs ++ (b ∷ [])) ≡ left
  unfolding left
  longer = omega (arith, length-append xs (b ∷ []))

  -- a row's first zero becomes a byte
  pub row_more : write (row F xs) (length xs) (b ∷ []) ≡ row F (xs ++ (b ∷ []))
  unfolding row write
  row_more =
      ap (λ (k : ℕ). write (xs ++ replicate k 0) (length xs) (b ∷ [])) one_more
      ∙ ap (λ (k : ℕ). write (xs ++ replicate (suc left) 0) k (b ∷ [])) (sym (add-zero (length xs)))
      ∙ write_skip xs (replicate (suc left) 0) 0 (b ∷ [])
      ∙ sym (append_assoc xs (b ∷ []) (replicate left 0))
      ∙ ap (λ (k : ℕ). xs ++ (b ∷ []) ++ replicate k 0) (sym longer)

  -- a row's last byte becomes a zero
  pub row-less : write (row F (xs ++ (b ∷ []))) (length xs) (0 ∷ []) ≡ row F xs
  unfolding row write
  row-less =
      ap (λ (k : ℕ). write (xs ++ (b ∷ []) ++ replicate k 0) (length xs) (0 ∷ [])) longer
      ∙ ap (λ (ys : List ℕ). write ys (length xs) (0 ∷ [])) (append_assoc xs (b ∷ []) (replicate left 0))
      ∙ ap (λ (k : ℕ). write (xs ++ (b ∷ replicate left 0)) k (0 ∷ [])) (sym (add-zero (length xs)))
      ∙ write_skip xs (b ∷ replicate left 0) 0 (0 ∷ [])
      ∙ ap (λ (k : ℕ). xs ++ replicate k 0) (sym one_more)

-- the count and a byte in each row
module _ (F : Limits) (k n m place : ℕ) (xs ys : List ℕ) (a b : ℕ) (heads-long : length xs ≡ F.rules) (within : place < F.rules) where
  count-put : write (state_header k n ++ (xs ++ ys)) 2 (two_bytes m) ≡ state_header k m ++ (xs ++ ys)
  unfolding write
  count-put = refl

  heads-put : write (state_header k m ++ (xs ++ ys)) (8 + place) (a ∷ []) ≡ state_header k m ++ (write xs place (a ∷ []) ++ ys)
  heads-put =
      write_skip (state_header k m) (xs ++ ys) place (a ∷ [])
      ∙ ap (λ (zs : List ℕ). state_header k m ++ zs) (write-within xs ys place (a ∷ []) (omega (arith, heads-long)))

  body-put : (zs : List ℕ) → length zs ≡ F.rules
      → write (state_header k m ++ (zs ++ ys)) (8 + F.rules + place) (b ∷ []) ≡ state_header k m ++ (zs ++ write ys place (b ∷ []))
  body-put zs long =
      ap (λ (j : ℕ). write (state_header k m ++ (zs ++ ys)) j (b ∷ [])) places
      ∙ write_skip (state_header k m) (zs ++ ys) (length zs + place) (b ∷ [])
      ∙ ap (λ (ws : List ℕ). state_header k m ++ ws) (write_skip zs ys place (b ∷ []))
    where
      places : 8 + F.rules + place ≡ 8 + (length zs + place)
      places = omega (arith, long)

  with-shape : with_shape F (state_header k n ++ (xs ++ ys)) m place a b ≡ state_header k m ++ (write xs place (a ∷ []) ++ write ys place (b ∷ []))
  unfolding with_shape
  with-shape =
      ap (λ (st : List ℕ). write (write st (8 + place) (a ∷ [])) (8 + F.rules + place) (b ∷ [])) count-put
      ∙ ap (λ (st : List ℕ). write st (8 + F.rules + place) (b ∷ [])) heads-put
      ∙ body-put (write xs place (a ∷ [])) (length-write xs place (a ∷ []) (omega (arith, heads-long)) ∙ heads-long)

-- one rule more
pub shape-more : (F : Limits) (ss : List Shape) (s : Shape) → length ss < F.rules
    → with_shape F (encoded_stage F (opened ss)) (length ss + 1) (length ss) (heads_byte s) (body_byte s) ≡ encoded_stage F (opened (ss ++ (s ∷ [])))
unfolding encoded_stage shapes stage_byte
shape-more F ss s room =
    with-shape F 1 (length ss) (length ss + 1) (length ss) (row F (map heads_byte ss)) (row F (map body_byte ss)) (heads_byte s) (body_byte s)
    (length-row F (map heads_byte ss) (omega (arith, length-map ss heads_byte))) room
    ∙ ap₂ (λ (x : ℕ) (ys : List ℕ). state_header 1 x ++ ys) count
    (ap₂ (λ (x y : List ℕ). x ++ y) (more heads_byte) (more body_byte))
  where
    count : length ss + 1 ≡ length (ss ++ (s ∷ []))
    count = sym (length-append ss (s ∷ []))

    more : (f : Shape → ℕ) → write (row F (map f ss)) (length ss) (f s ∷ []) ≡ row F (map f (ss ++ (s ∷ [])))
    more f =
        ap (λ (k : ℕ). write (row F (map f ss)) k (f s ∷ [])) (sym (length-map ss f))
        ∙ row_more F (map f ss) (f s) (omega (arith, length-map ss f)) ∙ ap (row F) (sym (map-append f ss (s ∷ [])))

-- one rule less
shape-last : (F : Limits) (ss : List Shape) (s : Shape) → length ss < F.rules
    → with_shape F (encoded_stage F (opened (ss ++ (s ∷ [])))) (length ss) (length ss) 0 0 ≡ encoded_stage F (opened ss)
unfolding encoded_stage shapes stage_byte
shape-last F ss s room =
    with-shape F 1 (length (ss ++ (s ∷ []))) (length ss) (length ss) (row F (map heads_byte (ss ++ (s ∷ [])))) (row F (map body_byte (ss ++ (s ∷ [])))) 0 0
    (length-row F (map heads_byte (ss ++ (s ∷ []))) (omega (arith, length-map (ss ++ (s ∷ [])) heads_byte, length-append ss (s ∷ [])))) room
    ∙ ap₂ (λ (x y : List ℕ). state_header 1 (length ss) ++ (x ++ y)) (less heads_byte) (less body_byte)
  where
    less : (f : Shape → ℕ) → write (row F (map f (ss ++ (s ∷ [])))) (length ss) (0 ∷ []) ≡ row F (map f ss)
    less f =
        ap₂ (λ (xs : List ℕ) (k : ℕ). write (row F xs) k (0 ∷ [])) (map-append f ss (s ∷ [])) (sym (length-map ss f))
        ∙ row-less F (map f ss) (f s) (omega (arith, length-map ss f))

pub shape-less : (F : Limits) (ss : List Shape) → 0 < length ss → length ss ≤ F.rules
    → with_shape F (encoded_stage F (opened ss)) (length ss - 1) (length ss - 1) 0 0 ≡ encoded_stage F (opened (take (length ss - 1) ss))
shape-less F ss some few =
    ap₂ (λ (xs : List Shape) (k : ℕ). with_shape F (encoded_stage F (opened xs)) k k 0 0) split (sym short)
    ∙ shape-last F (take (length ss - 1) ss) (get_or ss (length ss - 1) none) (omega (arith, short))
  where
    none : Shape
    none = record { defeasible = false; heads = 0; body = 0 }

    short : length (take (length ss - 1) ss) ≡ length ss - 1
    short = length-take-le (length ss - 1) ss (omega arith)

    all : length ss ≡ suc (length ss - 1)
    all = omega arith

    split : ss ≡ take (length ss - 1) ss ++ (get_or ss (length ss - 1) none ∷ [])
    split = sym (take-length ss) ∙ ap (λ (k : ℕ). take k ss) all ∙ take-suc ss (length ss - 1) none (omega arith)

-- the end: the first byte alone
pub stage-closed : (F : Limits) (ss : List Shape) → write (encoded_stage F (opened ss)) 0 (2 ∷ []) ≡ encoded_stage F (closed ss)
unfolding encoded_stage shapes stage_byte write
stage-closed F ss = refl

-- the zeros of a state: its header's, and those of the rows without a rule
pub zeros-rows : (F : Limits) → replicate (state_bytes F) 0 ≡ state_header 0 0 ++ (row F [] ++ row F [])
unfolding row
zeros-rows F =
    sym (replicate-append-replicate {A = ℕ} 8 (2 * F.rules) 0)
    ∙ ap (λ (k : ℕ). state_header 0 0 ++ replicate k 0) rows
    ∙ ap (λ (zs : List ℕ). state_header 0 0 ++ zs) (sym (replicate-append-replicate {A = ℕ} (F.rules - 0) (F.rules - 0) 0))
  where
    rows : 2 * F.rules ≡ F.rules - 0 + (F.rules - 0)
    rows = omega arith

-- a begin: zeros behind the first byte
pub stage-begun : (F : Limits) → write (replicate (state_bytes F) 0) 0 (1 ∷ []) ≡ encoded_stage F (opened [])
unfolding encoded_stage shapes stage_byte write
stage-begun F = ap (λ (zs : List ℕ). write zs 0 (1 ∷ [])) (zeros-rows F)

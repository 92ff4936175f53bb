-- The tables by which code sees what preference sheets append: overrides as positions of masks, options as places.
-- In order: how many places; an option's place; a list's elements as positions of a mask; tables of overrides, by tag; pairs of places;
-- tables of heads, by option; what a way of a pair, a pair, pairs, overrides add by these tables.
-- Assumes nothing.
use Rattle.std.specs.Prelude.{ℕ, zero, suc, ◌+◌, ◌-◌, ◌*◌, ◌/◌, ◌%◌, ◌^◌, ◌≡◌, Bool, false, cond, ◌&&◌, ◌||◌, List, [], ◌∷◌, ◌++◌, map, eqb, length, get_or, take}
use Rattle.std.specs.Int.Bits.{bit_and, bit_or}
use Rattle.literal.specs.declared.Tag.{Tag}
use Rattle.literal.specs.declared.SignedAtom.{SignedAtom}
use Rattle.literal.specs.declared.SignedAtom.TheVariants.{Positive, Negative}
use Rattle.semantics.specs.Set.{some_of, same_signed}
use Rattle.semantics.specs.Rule.{Program}
use Rattle.semantics.specs.Expansion.{Override, Opposition, Defeat, heads}
use Rattle.mask.specs.Code.{has}
use Rattle.expand_tables.specs.Added.{with_pair}

-- a place for each tag, each option and each sheet record that a source may have
abbrev pub tag_places : ℕ
tag_places = 201

abbrev pub option_places : ℕ
option_places = 1002

abbrev pub sheet_places : ℕ
sheet_places = 64

-- an option's place: twice its atom's number, and one more where it is negated; and the option of a place
unfoldable pub place_of : SignedAtom → ℕ
place_of (Positive a) = 2 * a.0
place_of (Negative a) = 2 * a.0 + 1

unfoldable pub option_of : ℕ → SignedAtom
option_of k = cond (eqb (k % 2) 0) (Positive (record { 0 = k / 2 })) (Negative (record { 0 = k / 2 }))

-- position i is in the mask if the i-th element passes the test
unfoldable pub mask_of : {A : Type 0} → (A → Bool) → List A → ℕ
mask_of f [] = 0
mask_of f (x ∷ xs) = mask_of f xs * 2 + cond (f x) 1 0

-- by tag, the overrides with this upper, and with this lower, tag; by position, the lower tags
pub record Tables (os : List Override) (up low lowers : List ℕ) : Type 0 where
  pub uppers : (t : ℕ) → get_or up t 0 ≡ mask_of (λ o. eqb o.upper.0 t) os
  pub losers : (t : ℕ) → get_or low t 0 ≡ mask_of (λ o. eqb o.lower.0 t) os
  pub tags : take (length os) lowers ≡ map (λ o. o.lower.0) os

-- by position, the places of oppositions
pub record Pairs (xs : List Opposition) (ones others : List ℕ) : Type 0 where
  pub one : take (length xs) ones ≡ map (λ x. place_of x.one) xs
  pub other : take (length xs) others ≡ map (λ x. place_of x.other) xs

-- the places k and l are the i-th pair, either way round; they are among c pairs from i on
unfoldable pub pair_at : List ℕ → List ℕ → ℕ → ℕ → ℕ → Bool
pair_at ones others k l i =
    (eqb k (get_or ones i 0) && eqb l (get_or others i 0)) || (eqb k (get_or others i 0) && eqb l (get_or ones i 0))

unfoldable pub pair_from : List ℕ → List ℕ → ℕ → ℕ → ℕ → ℕ → Bool
pair_from ones others k l i zero = false
pair_from ones others k l i (suc c) = pair_at ones others k l i || pair_from ones others k l (i + 1) c

-- tables became others, as long: an override was put behind n, and an opposition behind m, where its pair is counted unless it is there
pub record Overridden (u l : Tag) (n : ℕ) (up low lowers upped lowed lowered : List ℕ) : Type 0 where
  pub up_same : length upped ≡ length up
  pub low_same : length lowed ≡ length low
  pub lowers_same : length lowered ≡ length lowers
  pub tables : (os : List Override) → length os ≡ n → Tables os up low lowers → Tables (os ++ record { upper = u; lower = l } ∷ []) upped lowed lowered

pub record Opposed (a b : SignedAtom) (m r : ℕ) (ones others oned othered : List ℕ) : Type 0 where
  pub ones_same : length oned ≡ length ones
  pub others_same : length othered ≡ length others
  pub count : (xs : List Opposition) → length xs ≡ m → Pairs xs ones others → r ≡ length (with_pair xs (record { one = a; other = b }))
  pub pairs : (xs : List Opposition) → length xs ≡ m → Pairs xs ones others → Pairs (with_pair xs (record { one = a; other = b })) oned othered

-- by option, the overrides with whose upper, and with whose lower, tag a defeasible rule heads it
pub record Headed (p : Program) (os : List Override) (win lose : List ℕ) : Type 0 where
  pub wins : (a : SignedAtom) → get_or win (place_of a) 0 ≡ mask_of (λ o. heads p o.upper a) os
  pub loses : (a : SignedAtom) → get_or lose (place_of a) 0 ≡ mask_of (λ o. heads p o.lower a) os

-- a table d became e, as long: the mask m was put to each option of h
pub record Marked (d e : List ℕ) (m : ℕ) (h : List SignedAtom) : Type 0 where
  pub same : length e ≡ length d
  pub mark : (a : SignedAtom) → get_or e (place_of a) 0 ≡ bit_or (get_or d (place_of a) 0) (cond (some_of (same_signed a) h) m 0)

-- what override i, with the lower tag t, adds for the pair of places (k, l), taken this way: w is the mask of k's winners, v that of
-- l's losers, and `same` has the overrides up to i with this lower tag
unfoldable pub is_new : ℕ → ℕ → ℕ → ℕ → Bool
is_new w v same i = eqb (bit_and w same) (2 ^ i) && has v i

unfoldable pub way_new : ℕ → ℕ → ℕ → ℕ → ℕ → ℕ → ℕ → List Defeat
way_new w v same i t k l = cond (is_new w v same i) (record { lower = record { 0 = t }; loser = option_of l; winner = option_of k } ∷ []) []

-- both ways
unfoldable pub pair_new : List ℕ → List ℕ → ℕ → ℕ → ℕ → ℕ → ℕ → List Defeat
pair_new win lose same i t k l = way_new (get_or win k 0) (get_or lose l 0) same i t k l ++ way_new (get_or win l 0) (get_or lose k 0) same i t l k

-- c pairs from j on
unfoldable pub pairs_new : List ℕ → List ℕ → List ℕ → List ℕ → ℕ → ℕ → ℕ → ℕ → ℕ → List Defeat
pairs_new win lose ones others same i t j zero = []
pairs_new win lose ones others same i t j (suc c) =
    pair_new win lose same i t (get_or ones j 0) (get_or others j 0) ++ pairs_new win lose ones others same i t (j + 1) c

-- the overrides up to i with the lower tag t
abbrev pub same_lower : List ℕ → ℕ → ℕ → ℕ
same_lower low t i = bit_and (get_or low t 0) (2 ^ (i + 1) - 1)

-- c overrides from i on, with all of m pairs
unfoldable pub all_new : List ℕ → List ℕ → List ℕ → List ℕ → List ℕ → List ℕ → ℕ → ℕ → ℕ → List Defeat
all_new low lowers win lose ones others m i zero = []
all_new low lowers win lose ones others m i (suc c) =
    pairs_new win lose ones others (same_lower low (get_or lowers i 0) i) i (get_or lowers i 0) 0 m ++ all_new low lowers win lose ones others m (i + 1) c

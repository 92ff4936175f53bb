-- Laws of the marked places as a list: they are the places of a program's literals, in their order.
-- In order: the marked places; how many are below one; lists of keys and their places; the literals of a program.
-- Assumes nothing.
use Prim.Native.Nat.{ℕ, zero, suc, ◌+◌, ◌*◌, ◌≤◌, ◌<◌}
use native.Mathlib.Omega.{arith}
use native.Mathlib.Nat.{add-zero, zero-add}
use native.Mathlib.Numerals.{add-one}
use mathlib.Core.Path.{◌≡◌, refl, sym, ◌∙◌, ap, ap₂, subst}
use mathlib.Core.Bool.{Bool, true, false, cond, ◌||◌}
use mathlib.Core.Logic.{◌⊎◌, inl, inr}
use mathlib.Core.List.{List, [], ◌∷◌, ◌++◌, map, append_assoc}
use lib.Dec.{T, ltb, eqb, eqb→eq, eqb_refl}
use borrow.Author.Tests.{lt-ltb, le-ltb}
use Rattle.literal.specs.declared.Literal.{Literal}
use Rattle.literal.specs.Order.{key}
use Rattle.semantics.specs.Set.{LiteralSet, some_of, set_of}
use Rattle.semantics.specs.Rule.{Program}
use Rattle.semantics.proofs.Laws.Tests.{Each, left, right, same_test, is_true, any-mem, any_found, each-mem}
use Rattle.semantics.proofs.Laws.Set.{set-of-mem, mem-set-of}
use Rattle.keys.specs.Keys.{key_in}
use Rattle.keys.proofs.Laws.Members.{Above, Ascending, either, in-append, same_keys}
use Rattle.keys.proofs.Laws.Sorted.{ascending-sorted}
use Rattle.keys.proofs.Laws.Literals.{keys-sorted, each-sorted}
use Rattle.aspif_meaning.specs.Numbering.{occurring, literals, count_of}
use Rattle.aspif_place.specs.Code.{words, place, marked, Marks, marked_below}
use Rattle.aspif_place.proofs.Laws.Place.{HasPlace, place-most, place-less, le-or-lt}

-- the keys of a list whose elements are made of others
pub in_map : {A : Type 0} (f : A → ℕ) (k : ℕ) (xs : List A) → key_in k (map f xs) ≡ some_of (λ x. eqb k (f x)) xs
in_map f k [] = refl
in_map f k (x ∷ xs) = ap (λ (b : Bool). eqb k (f x) || b) (in_map f k xs)

module _ (bits : List ℕ) where
  -- the marked places among n from i on
  unfoldable pub marked_from : ℕ → ℕ → List ℕ
  marked_from i zero = []
  marked_from i (suc n) = cond (marked bits i) (i ∷ []) [] ++ marked_from (i + 1) n

  -- of two stretches, one behind the other
  pub marked-split : (i n m : ℕ) → marked_from i (n + m) ≡ marked_from i n ++ marked_from (i + n) m
  unfolding marked_from
  marked-split i zero m = ap₂ marked_from (sym (add-zero i)) (zero-add m)
  marked-split i (suc n) m =
      ap (marked_from i) sum ∙ ap (λ (r : List ℕ). cond (marked bits i) (i ∷ []) [] ++ r) (marked-split (i + 1) n m)
      ∙ sym (append_assoc (cond (marked bits i) (i ∷ []) []) (marked_from (i + 1) n) (marked_from (i + 1 + n) m))
      ∙ ap (λ (k : ℕ). marked_from i (suc n) ++ marked_from k m) next
    where
      sum : suc n + m ≡ suc (n + m)
      sum = omega arith

      next : i + 1 + n ≡ i + suc n
      next = omega arith

  -- those that are marked, and no other
  pub in-marked : (i n k : ℕ) → T (key_in k (marked_from i n)) → (i ≤ k) × (k < i + n) × T (marked bits k)
  unfolding marked_from
  in-marked i zero k t = absurd t
  in-marked i (suc n) k t =
      either (key_in k (cond (marked bits i) (i ∷ []) [])) (key_in k (marked_from (i + 1) n))
      (subst T (in-append k (cond (marked bits i) (i ∷ []) []) (marked_from (i + 1) n)) t) (λ h. here (marked bits i) refl h)
      (λ h. let w = in-marked (i + 1) n k h in (omega (arith, w.0), omega (arith, w.1), w.2))
    where
      here : (b : Bool) → marked bits i ≡ b → T (key_in k (cond b (i ∷ []) [])) → (i ≤ k) × (k < i + suc n) × T (marked bits k)
      here true e h =
          either (eqb k i) false h
          (λ q. let same = eqb→eq k i q in (omega arith, omega arith, subst (λ (j : ℕ). T (marked bits j)) (sym same) (subst T (sym e) tt)))
          (λ q. absurd q)
      here false e h = absurd h

  pub marked-in : (i n k : ℕ) → i ≤ k → k < i + n → T (marked bits k) → T (key_in k (marked_from i n))
  unfolding marked_from
  marked-in i zero k g h t = absurd (omega arith)
  marked-in i (suc n) k g h t =
      subst T (sym (in-append k (cond (marked bits i) (i ∷ []) []) (marked_from (i + 1) n))) (go (λ b. marked-in (i + 1) n k (omega arith) (omega arith) t) (le-or-lt k i))
    where
      go : (i < k → T (key_in k (marked_from (i + 1) n))) → (k ≤ i) ⊎ (i < k)
          → T (key_in k (cond (marked bits i) (i ∷ []) []) || key_in k (marked_from (i + 1) n))
      go ih (inl b) =
          let same : k ≡ i = omega arith in
          left (key_in k (cond (marked bits i) (i ∷ []) [])) (key_in k (marked_from (i + 1) n))
          (subst (λ (c : Bool). T (key_in k (cond c (i ∷ []) []))) (sym (is_true (marked bits i) (subst (λ (j : ℕ). T (marked bits j)) same t)))
          (left (eqb k i) false (subst (λ (j : ℕ). T (eqb k j)) same (eqb_refl k))))
      go ih (inr b) = right (key_in k (cond (marked bits i) (i ∷ []) [])) (key_in k (marked_from (i + 1) n)) (ih b)

  pub ascending-marked : (i n : ℕ) → Ascending (marked_from i n)
  unfolding marked_from
  ascending-marked i zero = tt
  ascending-marked i (suc n) = go (ascending-marked (i + 1) n) (marked bits i)
    where
      go : Ascending (marked_from (i + 1) n) → (b : Bool) → Ascending (cond b (i ∷ []) [] ++ marked_from (i + 1) n)
      go ih true = (λ k t. omega (arith, (in-marked (i + 1) n k t).0), ih)
      go ih false = ih

  -- of those from i on, as many are below j as are marked between
  count_none : (i n j : ℕ) → j ≤ i → count_of (λ k. ltb k j) (marked_from i n) ≡ 0
  unfolding marked_from
  count_none i zero j h = refl
  count_none i (suc n) j h = go (count_none (i + 1) n j (omega arith)) (marked bits i)
    where
      go : count_of (λ k. ltb k j) (marked_from (i + 1) n) ≡ 0 → (b : Bool) → count_of (λ k. ltb k j) (cond b (i ∷ []) [] ++ marked_from (i + 1) n) ≡ 0
      go ih true = ap (λ (c : Bool). cond c 1 0 + count_of (λ k. ltb k j) (marked_from (i + 1) n)) (le-ltb i j h) ∙ zero-add (count_of (λ k. ltb k j) (marked_from (i + 1) n)) ∙ ih
      go ih false = ih

  count-between : (i n j : ℕ) → i ≤ j → j ≤ i + n → count_of (λ k. ltb k j) (marked_from i n) + marked_below bits i ≡ marked_below bits j
  unfolding marked_from marked_below
  count-between i zero j g h = let same : i ≡ j = omega arith in omega (arith, ap (marked_below bits) same)
  count-between i (suc n) j g h = go (λ b. count-between (i + 1) n j (omega arith) (omega arith)) (le-or-lt j i)
    where
      step : i < j → (b : Bool) → count_of (λ k. ltb k j) (cond b (i ∷ []) [] ++ marked_from (i + 1) n) ≡ cond b 1 0 + count_of (λ k. ltb k j) (marked_from (i + 1) n)
      step l true = ap (λ (c : Bool). cond c 1 0 + count_of (λ k. ltb k j) (marked_from (i + 1) n)) (lt-ltb i j l)
      step l false = sym (zero-add (count_of (λ k. ltb k j) (marked_from (i + 1) n)))

      below : marked_below bits (i + 1) ≡ cond (marked bits i) 1 0 + marked_below bits i
      below = ap (marked_below bits) (add-one i)

      go : (i < j → count_of (λ k. ltb k j) (marked_from (i + 1) n) + marked_below bits (i + 1) ≡ marked_below bits j) → (j ≤ i) ⊎ (i < j)
          → count_of (λ k. ltb k j) (marked_from i (suc n)) + marked_below bits i ≡ marked_below bits j
      go ih (inl b) = let same : i ≡ j = omega arith in omega (arith, count_none i (suc n) j b, ap (marked_below bits) same)
      go ih (inr b) = omega (arith, step b (marked bits i), below, ih b)

  pub count-marked : (n j : ℕ) → j ≤ n → count_of (λ k. ltb k j) (marked_from 0 n) ≡ marked_below bits j
  unfolding marked_below
  count-marked n j h = omega (arith, count-between 0 n j (omega arith) (omega arith))

-- places ascend where keys do
ascending-places : (ls : List Literal) → Each HasPlace ls → Ascending (map key ls) → Ascending (map place ls)
ascending-places [] h a = tt
ascending-places (l ∷ ls) h a = (above, ascending-places ls h.1 a.1)
  where
    above : Above (place l) (map place ls)
    above k t =
        let w = any_found (λ m. eqb k (place m)) ls (subst T (in_map place k ls) t) in
        let m = w.0 in
        let in-keys = subst T (sym (in_map key (key m) ls)) (any-mem (λ x. eqb (key m) (key x)) w.1 (eqb_refl (key m))) in
        omega (arith, eqb→eq k (place m) w.2, place-less l m h.0 (each-mem HasPlace h.1 w.1) (a.0 (key m) in-keys))

module _ (p : Program) (bits : List ℕ) (marks : Marks p bits) (placed : Each HasPlace (occurring p)) (same : set_of (literals p) ≡ set_of (occurring p)) where
  -- the literals of the program, each once, have places too
  pub literals-placed : Each HasPlace (literals p)
  unfolding literals
  literals-placed = each-sorted HasPlace (occurring p) placed

  in_both : (xs ys : List Literal) → set_of xs ≡ set_of ys → (k : ℕ) → T (key_in k (map place xs)) → T (key_in k (map place ys))
  in_both xs ys e k t =
      let w = any_found (λ m. eqb k (place m)) xs (subst T (in_map place k xs) t) in
      let m = mem-set-of w.0 ys (subst (λ (s : LiteralSet). T (s w.0)) e (set-of-mem w.1)) in
      subst T (sym (in_map place k ys)) (any-mem (λ m. eqb k (place m)) m w.2)

  -- their places, in their order, are the marked ones
  pub literals-marked : map place (literals p) ≡ marked_from bits 0 (64 * words)
  unfolding literals
  literals-marked =
      same_keys (map place (literals p)) (marked_from bits 0 (64 * words))
      (ascending-places (literals p) literals-placed (subst Ascending (sym (keys-sorted (occurring p))) (ascending-sorted (map key (occurring p)))))
      (ascending-marked bits 0 (64 * words))
      (λ k. same_test (key_in k (map place (literals p))) (key_in k (marked_from bits 0 (64 * words))) (to k) (back k))
    where
      to : (k : ℕ) → T (key_in k (map place (literals p))) → T (key_in k (marked_from bits 0 (64 * words)))
      to k t =
          let o = in_both (literals p) (occurring p) same k t in
          let w = any_found (λ m. eqb k (place m)) (occurring p) (subst T (in_map place k (occurring p)) o) in
          marked-in bits 0 (64 * words) k (omega arith)
          (omega (arith, eqb→eq k (place w.0) w.2, place-most w.0 (each-mem HasPlace placed w.1))) (subst T (sym (marks.mark k)) o)

      back : (k : ℕ) → T (key_in k (marked_from bits 0 (64 * words))) → T (key_in k (map place (literals p)))
      back k t = in_both (occurring p) (literals p) (sym same) k (subst T (marks.mark k) (in-marked bits 0 (64 * words) k t).2)

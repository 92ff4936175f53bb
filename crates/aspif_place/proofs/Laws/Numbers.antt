-- Laws of numbers by marked places: they are the numbers of the program's literals, and the marked places of atoms give its constraints
-- and its names.
-- In order: a literal's number; rules in numbers; lists made of lists; constraints; names.
-- Assumes nothing.
use Prim.Native.Nat.{ℕ, zero, suc, ◌+◌, ◌*◌, ◌-◌, ◌≤◌, ◌<◌}
use native.Mathlib.Omega.{arith}
use native.Mathlib.Nat.{zero-add}
use mathlib.Core.Path.{◌≡◌, refl, sym, ◌∙◌, ap, ap₂, subst}
use mathlib.Core.Bool.{Bool, true, false, cond, ◌&&◌}
use mathlib.Core.List.{List, [], ◌∷◌, ◌++◌, map, flat_map, append_assoc, append-nil, Memᴰ}
use lib.Dec.{T, ltb, eqb, eqb→eq, eqb_refl}
use borrow.Author.Tests.{lt-ltb, le-ltb}
use Rattle.literal.specs.declared.Atom.{Atom}
use Rattle.literal.specs.declared.SignedAtom.{SignedAtom}
use Rattle.literal.specs.declared.SignedAtom.TheVariants.{Positive, Negative}
use Rattle.literal.specs.declared.Literal.{Literal}
use Rattle.literal.specs.declared.Literal.TheVariants.{Signed, Defeated, Derived, RuleDefeated}
use Rattle.literal.specs.Literal.{kind, atom_field}
use Rattle.literal.specs.Order.{before}
use Rattle.semantics.specs.Set.{LiteralSet, set_of}
use Rattle.semantics.specs.Rule.{Rule, Program, head, positive, naf}
use Rattle.semantics.proofs.Laws.Tests.{Each, each-mem, same_test, any-mem, any_found}
use Rattle.semantics.proofs.Laws.Set.{set-of-mem, mem-set-of}
use Rattle.aspif_meaning.specs.Ground.{GroundProgram}
use Rattle.aspif_meaning.specs.Numbering.{occurring, literals, count_of, number_of}
use Rattle.aspif_meaning.specs.Program.{numbered, never_both, constraints_of, constraints_from, constraints, ground_with, ground, Name, names_of, names_with, names}
use Rattle.aspif_meaning.proofs.Laws.Occurring.{occurs-head, occurs-positive, occurs-naf}
use Rattle.aspif_place.specs.Code.{row_places, words, place, marked, Marks, number_at_place, number_in, pairs_from, positive_atom, negative_atom, names_from}
use Rattle.aspif_place.proofs.Laws.Place.{HasPlace, place-most, place-injective, negation-placed, place-positive, place-negative, place-mark, before-place}
use Rattle.aspif_place.proofs.Laws.Listed.{in_map, marked_from, marked-split, count-marked, literals-placed, literals-marked}

module _ {A B : Type 0} where
  -- counts of a list whose elements are made of others, and of tests that agree
  count_map : (f : B → Bool) (g : A → B) (xs : List A) → count_of f (map g xs) ≡ count_of (λ x. f (g x)) xs
  count_map f g [] = refl
  count_map f g (x ∷ xs) = ap (λ (n : ℕ). cond (f (g x)) 1 0 + n) (count_map f g xs)

  map-agree : {f g : A → B} (xs : List A) → ((x : A) → Memᴰ x xs → f x ≡ g x) → map f xs ≡ map g xs
  map-agree [] h = refl
  map-agree (x ∷ xs) h = ap₂ (λ (y : B) (ys : List B). y ∷ ys) (h x (Memᴰ.head refl)) (map-agree xs (λ y m. h y (Memᴰ.tail m)))

  flat-agree : {f g : A → List B} (xs : List A) → ((x : A) → Memᴰ x xs → f x ≡ g x) → flat_map f xs ≡ flat_map g xs
  unfolding flat_map
  flat-agree [] h = refl
  flat-agree (x ∷ xs) h = ap₂ (λ (y ys : List B). y ++ ys) (h x (Memᴰ.head refl)) (flat-agree xs (λ y m. h y (Memᴰ.tail m)))

  flat_append : (f : A → List B) (xs ys : List A) → flat_map f (xs ++ ys) ≡ flat_map f xs ++ flat_map f ys
  unfolding flat_map
  flat_append f [] ys = refl
  flat_append f (x ∷ xs) ys = ap (λ (r : List B). f x ++ r) (flat_append f xs ys) ∙ sym (append_assoc (f x) (flat_map f xs) (flat_map f ys))

count-agree : {A : Type 0} {f g : A → Bool} (xs : List A) → ((x : A) → Memᴰ x xs → f x ≡ g x) → count_of f xs ≡ count_of g xs
count-agree [] h = refl
count-agree (x ∷ xs) h =
    ap₂ (λ (b : Bool) (n : ℕ). cond b 1 0 + n) (h x (Memᴰ.head refl)) (count-agree xs (λ y m. h y (Memᴰ.tail m)))

flat-map : {A B C : Type 0} (f : B → List C) (g : A → B) (xs : List A) → flat_map f (map g xs) ≡ flat_map (λ x. f (g x)) xs
unfolding flat_map
flat-map f g [] = refl
flat-map {C = C} f g (x ∷ xs) = ap (λ (r : List C). f (g x) ++ r) (flat-map f g xs)

module _ (p : Program) (bits : List ℕ) (marks : Marks p bits) (placed : Each HasPlace (occurring p)) (same : set_of (literals p) ≡ set_of (occurring p)) where
  -- the number that marks give a literal is its number
  pub number-marked : (l : Literal) → T (set_of (occurring p) l) → number_of p l ≡ number_in bits l
  unfolding number_of
  number-marked l o =
      let here = each-mem HasPlace placed (mem-set-of l (occurring p) o) in
      let in_order = count-agree {f = λ m. before m l} (literals p) (λ m w. before-place m l (each-mem HasPlace (literals-placed p bits marks placed same) w) here) in
      let by_place = sym (count_map (λ k. ltb k (place l)) place (literals p)) in
      let by-mark = ap (count_of (λ k. ltb k (place l))) (literals-marked p bits marks placed same) in
      omega (arith, in_order, by_place, by-mark, count-marked bits (64 * words) (place l) (omega (arith, place-most l here)))

  -- a literal is in the program where its place is marked
  occurs-marked : (l : Literal) → HasPlace l → set_of (literals p) l ≡ marked bits (place l)
  occurs-marked l w =
      same_test (set_of (literals p) l) (marked bits (place l))
      (λ t.
      subst T (sym (marks.mark (place l))) (subst T (sym (in_map place (place l) (occurring p)))
      (any-mem (λ m. eqb (place l) (place m)) (mem-set-of l (occurring p) (subst (λ (s : LiteralSet). T (s l)) same t)) (eqb_refl (place l)))))
      (λ t.
      let f = any_found (λ m. eqb (place l) (place m)) (occurring p) (subst T (in_map place (place l) (occurring p)) (subst T (marks.mark (place l)) t)) in
      let here = place-injective l f.0 w (each-mem HasPlace placed f.1) (eqb→eq (place l) (place f.0) f.2) in
      subst (λ (s : LiteralSet). T (s l)) (sym same) (set-of-mem (subst (λ (m : Literal). Memᴰ m (occurring p)) (sym here) f.1)))

  numbers-in : (l : Literal) → T (set_of (literals p) l) → number_of p l ≡ number_in bits l
  numbers-in l t = number-marked l (subst (λ (s : LiteralSet). T (s l)) same t)

  -- the rules in numbers
  pub rules-marked : map (numbered (number_of p)) p ≡ map (numbered (number_in bits)) p
  unfolding numbered
  rules-marked = map-agree p (λ r m. rule r m)
    where
      each_number : (ls : List Literal) → ((l : Literal) → Memᴰ l ls → T (set_of (occurring p) l)) → map (number_of p) ls ≡ map (number_in bits) ls
      each_number ls o = map-agree ls (λ l m. number-marked l (o l m))

      rule : (r : Rule) → Memᴰ r p → numbered (number_of p) r ≡ numbered (number_in bits) r
      rule r m =
          λ i.
          record {
            head = each_number (head r) (occurs-head m) i;
            positive = each_number (positive r) (occurs-positive m) i;
            naf = each_number (naf r) (occurs-naf m) i;
          }

  -- what a marked place says of constraints
  pair_at : ℕ → GroundProgram
  pair_at i =
      cond (ltb i row_places) (cond (marked bits (row_places + i)) (never_both (number_at_place bits i) (number_at_place bits (row_places + i)) ∷ []) []) []

  pair-beyond : (i : ℕ) → row_places ≤ i → pair_at i ≡ []
  unfolding pair_at
  pair-beyond i h = rw (le-ltb i row_places h)

  pair-within : (i : ℕ) → i < row_places
      → pair_at i ≡ cond (marked bits (row_places + i)) (never_both (number_at_place bits i) (number_at_place bits (row_places + i)) ∷ []) []
  unfolding pair_at
  pair-within i h = rw (lt-ltb i row_places h)

  number-within : (a : Atom) → HasPlace (Signed (Positive a)) → a.0 < row_places
  unfolding atom_field
  number-within a w = w.number

  negated-within : (a : Atom) → HasPlace (Signed (Negative a)) → a.0 < row_places
  unfolding atom_field
  negated-within a w = w.number

  pair_of : (l : Literal) → Memᴰ l (literals p) → constraints_of (number_of p) (set_of (literals p)) l ≡ pair_at (place l)
  unfolding constraints_of kind
  pair_of l m = go l (set-of-mem m) (each-mem HasPlace (literals-placed p bits marks placed same) m)
    where
      beyond : (l : Literal) → row_places ≤ place l → [] ≡ pair_at (place l)
      beyond l h = sym (pair-beyond (place l) h)

      go : (l : Literal) → T (set_of (literals p) l) → HasPlace l → constraints_of (number_of p) (set_of (literals p)) l ≡ pair_at (place l)
      go (Signed (Positive a)) t w = both_ways (set_of (literals p) (Signed (Negative a))) refl ∙ sym at_place
        where
          here : ℕ
          here = number_at_place bits a.0

          there : ℕ
          there = number_at_place bits (row_places + a.0)

          opposed : set_of (literals p) (Signed (Negative a)) ≡ marked bits (row_places + a.0)
          opposed = occurs-marked (Signed (Negative a)) (negation-placed a w) ∙ ap (marked bits) (place-negative a)

          both_ways : (b : Bool) → set_of (literals p) (Signed (Negative a)) ≡ b
              → elim b [ true ↦ never_both (number_of p (Signed (Positive a))) (number_of p (Signed (Negative a))) ∷ [] | false ↦ [] ] ≡ cond b (never_both here there ∷ []) []
          both_ways true e =
              ap₂ (λ (i j : ℕ). never_both i j ∷ []) (numbers-in (Signed (Positive a)) t ∙ ap (number_at_place bits) (place-positive a))
              (numbers-in (Signed (Negative a)) (subst T (sym e) tt) ∙ ap (number_at_place bits) (place-negative a))
          both_ways false e = refl

          at_place : pair_at (place (Signed (Positive a))) ≡ cond (set_of (literals p) (Signed (Negative a))) (never_both here there ∷ []) []
          at_place = ap pair_at (place-positive a) ∙ pair-within a.0 (number-within a w) ∙ ap (λ (b : Bool). cond b (never_both here there ∷ []) []) (sym opposed)
      go (Signed (Negative a)) t w = beyond (Signed (Negative a)) (omega (arith, place-negative a))
      go (Defeated u (Positive a)) t w = beyond (Defeated u (Positive a)) (omega (arith, place-mark (Defeated u (Positive a)) w (omega arith)))
      go (Defeated u (Negative a)) t w = beyond (Defeated u (Negative a)) (omega (arith, place-mark (Defeated u (Negative a)) w (omega arith)))
      go (Derived u (Positive a)) t w = beyond (Derived u (Positive a)) (omega (arith, place-mark (Derived u (Positive a)) w (omega arith)))
      go (Derived u (Negative a)) t w = beyond (Derived u (Negative a)) (omega (arith, place-mark (Derived u (Negative a)) w (omega arith)))
      go (RuleDefeated k) t w = beyond (RuleDefeated k) (omega (arith, place-mark (RuleDefeated k) w (omega arith)))

  -- the marked places of atoms, one after another
  pairs_of : (a n : ℕ) → a + n ≤ row_places → flat_map pair_at (marked_from bits a n) ≡ pairs_from bits a n
  unfolding flat_map marked_from pairs_from
  pairs_of a zero h = refl
  pairs_of a (suc n) h =
      flat_append pair_at (cond (marked bits a) (a ∷ []) []) (marked_from bits (a + 1) n)
      ∙ ap₂ (λ (x y : GroundProgram). x ++ y) (here (marked bits a)) (pairs_of (a + 1) n (omega arith))
    where
      pair : GroundProgram
      pair = never_both (number_at_place bits a) (number_at_place bits (row_places + a)) ∷ []

      here : (b : Bool) → flat_map pair_at (cond b (a ∷ []) []) ≡ cond (b && marked bits (row_places + a)) pair []
      here true = append-nil (pair_at a) ∙ pair-within a (omega arith)
      here false = refl

  -- places beyond those of atoms say nothing
  flat-nothing : {A : Type 0} (f : ℕ → List A) (most : ℕ) → ((i : ℕ) → most ≤ i → f i ≡ []) → (i n : ℕ) → most ≤ i → flat_map f (marked_from bits i n) ≡ []
  unfolding flat_map marked_from
  flat-nothing f most none i zero h = refl
  flat-nothing {A} f most none i (suc n) h =
      flat_append f (cond (marked bits i) (i ∷ []) []) (marked_from bits (i + 1) n)
      ∙ ap₂ (λ (x y : List A). x ++ y) (here (marked bits i)) (flat-nothing f most none (i + 1) n (omega arith))
    where
      here : (b : Bool) → flat_map f (cond b (i ∷ []) []) ≡ []
      here true = append-nil (f i) ∙ none i h
      here false = refl

  constraints-flat : (ν : Literal → ℕ) (s : LiteralSet) (ls : List Literal) → constraints_from ν s ls ≡ flat_map (constraints_of ν s) ls
  unfolding flat_map constraints_from
  constraints-flat ν s [] = refl
  constraints-flat ν s (l ∷ ls) = ap (λ (r : GroundProgram). constraints_of ν s l ++ r) (constraints-flat ν s ls)

  -- the constraints of the program are those of the atoms that are marked both ways
  pub constraints-marked : constraints (number_of p) (literals p) ≡ pairs_from bits 0 row_places
  unfolding constraints
  constraints-marked =
      constraints-flat (number_of p) (set_of (literals p)) (literals p) ∙ flat-agree (literals p) pair_of ∙ sym (flat-map pair_at place (literals p))
      ∙ ap (flat_map pair_at) (literals-marked p bits marks placed same ∙ marked-split bits 0 row_places beyond)
      ∙ flat_append pair_at (marked_from bits 0 row_places) (marked_from bits row_places beyond)
      ∙ ap₂ (λ (x y : GroundProgram). x ++ y) (pairs_of 0 row_places (omega arith)) (flat-nothing pair_at row_places pair-beyond row_places beyond (omega arith))
      ∙ append-nil (pairs_from bits 0 row_places)
    where
      beyond : ℕ
      beyond = 64 * words - row_places

  pub ground-marked : ground p ≡ map (numbered (number_in bits)) p ++ pairs_from bits 0 row_places
  unfolding ground ground_with
  ground-marked = ap₂ (λ (x y : GroundProgram). x ++ y) rules-marked constraints-marked

  -- what a marked place says of names
  name_at : ℕ → List Name
  name_at i =
      cond (ltb i row_places) (record { atom = positive_atom i; number = number_at_place bits i } ∷ [])
      (cond (ltb i (row_places + row_places)) (record { atom = negative_atom (i - row_places); number = number_at_place bits i } ∷ []) [])

  name-positive : (i : ℕ) → i < row_places → name_at i ≡ record { atom = positive_atom i; number = number_at_place bits i } ∷ []
  unfolding name_at
  name-positive i h = rw (lt-ltb i row_places h)

  name-negative : (a : ℕ) → a < row_places → name_at (row_places + a) ≡ record { atom = negative_atom a; number = number_at_place bits (row_places + a) } ∷ []
  unfolding name_at
  name-negative a h =
      rw (le-ltb (row_places + a) row_places (omega arith), lt-ltb (row_places + a) (row_places + row_places) (omega arith))
      (ap (λ (k : ℕ). record { atom = negative_atom k; number = number_at_place bits (row_places + a) } ∷ []) back)
    where
      back : row_places + a - row_places ≡ a
      back = omega arith

  name-beyond : (i : ℕ) → row_places + row_places ≤ i → name_at i ≡ []
  unfolding name_at
  name-beyond i h = rw (le-ltb i row_places (omega arith), le-ltb i (row_places + row_places) h)

  name_of : (l : Literal) → Memᴰ l (literals p) → names_of (number_of p) l ≡ name_at (place l)
  unfolding names_of kind
  name_of l m = go l (set-of-mem m) (each-mem HasPlace (literals-placed p bits marks placed same) m)
    where
      beyond : (l : Literal) → HasPlace l → 2 ≤ kind l → [] ≡ name_at (place l)
      beyond l w h = sym (name-beyond (place l) (place-mark l w h))

      go : (l : Literal) → T (set_of (literals p) l) → HasPlace l → names_of (number_of p) l ≡ name_at (place l)
      go (Signed (Positive a)) t w =
          ap (λ (n : ℕ). record { atom = Positive a; number = n } ∷ []) (numbers-in (Signed (Positive a)) t ∙ ap (number_at_place bits) (place-positive a))
          ∙ sym (ap name_at (place-positive a) ∙ name-positive a.0 (number-within a w))
      go (Signed (Negative a)) t w =
          ap (λ (n : ℕ). record { atom = Negative a; number = n } ∷ []) (numbers-in (Signed (Negative a)) t ∙ ap (number_at_place bits) (place-negative a))
          ∙ sym (ap name_at (place-negative a) ∙ name-negative a.0 (negated-within a w))
      go (Defeated u (Positive a)) t w = beyond (Defeated u (Positive a)) w (omega arith)
      go (Defeated u (Negative a)) t w = beyond (Defeated u (Negative a)) w (omega arith)
      go (Derived u (Positive a)) t w = beyond (Derived u (Positive a)) w (omega arith)
      go (Derived u (Negative a)) t w = beyond (Derived u (Negative a)) w (omega arith)
      go (RuleDefeated k) t w = beyond (RuleDefeated k) w (omega arith)

  -- those of a row, one after another
  names-of : (sign : ℕ → SignedAtom) (row : ℕ) → ((a : ℕ) → a < row_places → name_at (row + a) ≡ record { atom = sign a; number = number_at_place bits (row + a) } ∷ [])
      → (a n : ℕ) → a + n ≤ row_places → flat_map name_at (marked_from bits (row + a) n) ≡ names_from bits sign row a n
  unfolding flat_map marked_from names_from
  names-of sign row name a zero h = refl
  names-of sign row name a (suc n) h =
      flat_append name_at (cond (marked bits (row + a)) ((row + a) ∷ []) []) (marked_from bits (row + a + 1) n)
      ∙ ap₂ (λ (x y : List Name). x ++ y) (here (marked bits (row + a)))
      (ap (λ (k : ℕ). flat_map name_at (marked_from bits k n)) next ∙ names-of sign row name (a + 1) n (omega arith))
    where
      next : row + a + 1 ≡ row + (a + 1)
      next = omega arith

      here : (b : Bool) → flat_map name_at (cond b ((row + a) ∷ []) []) ≡ cond b (record { atom = sign a; number = number_at_place bits (row + a) } ∷ []) []
      here true = append-nil (name_at (row + a)) ∙ name a (omega arith)
      here false = refl

  names-flat : (ν : Literal → ℕ) (ls : List Literal) → names_with ν ls ≡ flat_map (names_of ν) ls
  unfolding flat_map names_with
  names-flat ν [] = refl
  names-flat ν (l ∷ ls) = ap (λ (r : List Name). names_of ν l ++ r) (names-flat ν ls)

  -- the names of the program are those of the atoms that are marked, then of their negations
  pub names_marked : names p ≡ names_from bits positive_atom 0 0 row_places ++ names_from bits negative_atom row_places 0 row_places
  unfolding names
  names_marked =
      names-flat (number_of p) (literals p) ∙ flat-agree (literals p) name_of ∙ sym (flat-map name_at place (literals p))
      ∙ ap (flat_map name_at) (literals-marked p bits marks placed same ∙ marked-split bits 0 row_places (row_places + beyond))
      ∙ flat_append name_at (marked_from bits 0 row_places) (marked_from bits row_places (row_places + beyond))
      ∙ ap₂ (λ (x y : List Name). x ++ y) (names-of positive_atom 0 first-row 0 row_places (omega arith)) negated
    where
      beyond : ℕ
      beyond = 64 * words - (row_places + row_places)

      first-row : (a : ℕ) → a < row_places → name_at (0 + a) ≡ record { atom = positive_atom a; number = number_at_place bits (0 + a) } ∷ []
      first-row a h =
          subst (λ (k : ℕ). name_at k ≡ record { atom = positive_atom a; number = number_at_place bits k } ∷ []) (sym (zero-add a)) (name-positive a h)

      negated : flat_map name_at (marked_from bits row_places (row_places + beyond)) ≡ names_from bits negative_atom row_places 0 row_places
      negated =
          ap (flat_map name_at) (marked-split bits row_places row_places beyond)
          ∙ flat_append name_at (marked_from bits row_places row_places) (marked_from bits (row_places + row_places) beyond)
          ∙ ap₂ (λ (x y : List Name). x ++ y) (names-of negative_atom row_places name-negative 0 row_places (omega arith))
          (flat-nothing name_at (row_places + row_places) name-beyond (row_places + row_places) beyond (omega arith))
          ∙ append-nil (names_from bits negative_atom row_places 0 row_places)

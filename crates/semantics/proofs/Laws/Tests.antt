-- Tests as facts: what `&&`, `||`, `not`, `some_of` and `each_of` say of their parts. `T b` says that the test b passes.
-- In order: connectives; decisions; a property of each element; some_of and each_of against membership; of a map and of an append; where two
-- tests agree.
-- Assumes nothing.
use mathlib.Core.Path.{◌≡◌, refl, sym, ap, ap₂, subst}
use mathlib.Core.Bool.{Bool, true, false, not, ◌&&◌, ◌||◌, or_assoc, and_assoc}
use mathlib.Core.Logic.{◌⊎◌, inl, inr}
use mathlib.Core.List.{List, [], ◌∷◌, ◌++◌, map, Memᴰ}
use lib.Dec.{T}
use Rattle.semantics.specs.Set.{some_of, each_of}

-- a conjunction passes where both parts do
pub both : (a b : Bool) → T a → T b → T (a && b)
both true b p q = q
both false b p q = p

pub first : (a b : Bool) → T (a && b) → T a
first true b t = tt
first false b t = t

pub second : (a b : Bool) → T (a && b) → T b
second true b t = t
second false b t = absurd t

-- a disjunction passes where one part does
pub left : (a b : Bool) → T a → T (a || b)
left true b p = tt
left false b p = absurd p

pub right : (a b : Bool) → T b → T (a || b)
right true b q = tt
right false b q = q

pub either : (a b : Bool) → T (a || b) → T a ⊎ T b
either true b t = inl tt
either false b t = inr t

-- a test passes or it does not
pub decide : (b : Bool) → T b ⊎ (T b → ⊥)
decide true = inl tt
decide false = inr (λ t. t)

-- the negation of a test
pub fails : (b : Bool) → T (not b) → T b → ⊥
fails true p q = p
fails false p q = q

pub refuted : (b : Bool) → (T b → ⊥) → T (not b)
refuted true f = f tt
refuted false f = tt

-- a test as an equation
pub is_true : (b : Bool) → T b → b ≡ true
is_true true t = refl
is_true false t = absurd t

pub is_false : (b : Bool) → (T b → ⊥) → b ≡ false
is_false true f = absurd (f tt)
is_false false f = refl

-- tests that pass together are one
pub same_test : (a b : Bool) → (T a → T b) → (T b → T a) → a ≡ b
same_test true b f g = sym (is_true b (f tt))
same_test false b f g = sym (is_false b g)

pub along : {a b : Bool} → a ≡ b → T a → T b
along e t = subst T e t

-- each element of a list has a property
abbrev pub Each : {A : Type 0} → (A → Type 0) → List A → Type 0
Each Q [] = Unit
Each Q (x ∷ xs) = Q x × Each Q xs

module _ {A : Type 0} (Q : A → Type 0) where
  pub each-intro : (xs : List A) → ((x : A) → Memᴰ x xs → Q x) → Each Q xs
  each-intro [] h = tt
  each-intro (x ∷ xs) h = (h x (Memᴰ.head refl), each-intro xs (λ y m. h y (Memᴰ.tail m)))

  pub each-mem : {x : A} {xs : List A} → Each Q xs → Memᴰ x xs → Q x
  each-mem h (Memᴰ.head e) = subst Q (sym e) h.0
  each-mem h (Memᴰ.tail m) = each-mem h.1 m

  -- of an append
  pub each_append : (xs ys : List A) → Each Q xs → Each Q ys → Each Q (xs ++ ys)
  each_append [] ys h g = g
  each_append (x ∷ xs) ys h g = (h.0, each_append xs ys h.1 g)

  pub each_left : (xs ys : List A) → Each Q (xs ++ ys) → Each Q xs
  each_left [] ys h = tt
  each_left (x ∷ xs) ys h = (h.0, each_left xs ys h.1)

  pub each_right : (xs ys : List A) → Each Q (xs ++ ys) → Each Q ys
  each_right [] ys h = h
  each_right (x ∷ xs) ys h = each_right xs ys h.1

module _ {A : Type 0} where
  -- some element passes
  pub any-mem : (f : A → Bool) {x : A} {xs : List A} → Memᴰ x xs → T (f x) → T (some_of f xs)
  any-mem f (Memᴰ.head {x} {xs} e) t = left (f x) (some_of f xs) (subst (λ y. T (f y)) e t)
  any-mem f (Memᴰ.tail {x} {xs} m) t = right (f x) (some_of f xs) (any-mem f m t)

  pub any_found : (f : A → Bool) (xs : List A) → T (some_of f xs) → (x : A) × Memᴰ x xs × T (f x)
  any_found f [] t = absurd t
  any_found f (x ∷ xs) t = go (λ u. any_found f xs u) (either (f x) (some_of f xs) t)
    where
      go : (T (some_of f xs) → (y : A) × Memᴰ y xs × T (f y)) → T (f x) ⊎ T (some_of f xs) → (y : A) × Memᴰ y (x ∷ xs) × T (f y)
      go below (inl u) = (x, Memᴰ.head refl, u)
      go below (inr u) = let r = below u in (r.0, Memᴰ.tail r.1, r.2)

  -- each element passes
  pub all-mem : (f : A → Bool) {x : A} {xs : List A} → T (each_of f xs) → Memᴰ x xs → T (f x)
  all-mem f t (Memᴰ.head {x = y} {xs} e) = subst (λ z. T (f z)) (sym e) (first (f y) (each_of f xs) t)
  all-mem f t (Memᴰ.tail {x = y} {xs} m) = all-mem f (second (f y) (each_of f xs) t) m

  pub all-intro : (f : A → Bool) (xs : List A) → ((x : A) → Memᴰ x xs → T (f x)) → T (each_of f xs)
  all-intro f [] h = tt
  all-intro f (x ∷ xs) h = both (f x) (each_of f xs) (h x (Memᴰ.head refl)) (all-intro f xs (λ y m. h y (Memᴰ.tail m)))

  pub each_all : (f : A → Bool) (xs : List A) → Each (λ x. T (f x)) xs → T (each_of f xs)
  each_all f xs h = all-intro f xs (λ x m. each-mem (λ y. T (f y)) h m)

  pub any_append : (f : A → Bool) (xs ys : List A) → some_of f (xs ++ ys) ≡ (some_of f xs || some_of f ys)
  any_append f [] ys = refl
  any_append f (x ∷ xs) ys = rw (any_append f xs ys) (sym (or_assoc (f x) (some_of f xs) (some_of f ys)))

  pub all_append : (f : A → Bool) (xs ys : List A) → each_of f (xs ++ ys) ≡ (each_of f xs && each_of f ys)
  all_append f [] ys = refl
  all_append f (x ∷ xs) ys = rw (all_append f xs ys) (sym (and_assoc (f x) (each_of f xs) (each_of f ys)))

  -- where two tests agree on a list, so do some_of and each_of
  pub any-agree : {f g : A → Bool} (xs : List A) → ((x : A) → Memᴰ x xs → f x ≡ g x) → some_of f xs ≡ some_of g xs
  any-agree [] h = refl
  any-agree (x ∷ xs) h = ap₂ (λ a b. a || b) (h x (Memᴰ.head refl)) (any-agree xs (λ y m. h y (Memᴰ.tail m)))

  pub all-agree : {f g : A → Bool} (xs : List A) → ((x : A) → Memᴰ x xs → f x ≡ g x) → each_of f xs ≡ each_of g xs
  all-agree [] h = refl
  all-agree (x ∷ xs) h = ap₂ (λ a b. a && b) (h x (Memᴰ.head refl)) (all-agree xs (λ y m. h y (Memᴰ.tail m)))

module _ {A B : Type 0} where
  pub any-map : (f : B → Bool) (g : A → B) (xs : List A) → some_of f (map g xs) ≡ some_of (λ x. f (g x)) xs
  any-map f g [] = refl
  any-map f g (x ∷ xs) = ap (λ b. f (g x) || b) (any-map f g xs)

  pub all_map : (f : B → Bool) (g : A → B) (xs : List A) → each_of f (map g xs) ≡ each_of (λ x. f (g x)) xs
  all_map f g [] = refl
  all_map f g (x ∷ xs) = ap (λ b. f (g x) && b) (all_map f g xs)

-- The rows of a state: a row's bytes by place, and the shapes that two rows say.
-- In order: bytes by place; a shape's two bytes and back; shapes and their bytes; zeros; a row of bytes and zeros, one byte more and one less.
-- Assumes nothing.
use Prim.Native.Nat.{ℕ, zero, suc, ◌+◌, ◌-◌, ◌/◌, ◌%◌, ◌≤◌, ◌<◌}
use native.Mathlib.Omega.{arith}
use mathlib.Core.Path.{◌≡◌, refl, sym, ◌∙◌, ap, ap₂, subst}
use mathlib.Core.Bool.{Bool, true, false, cond, not, ◌&&◌, ◌||◌, true≢false}
use mathlib.Core.List.{List, [], ◌∷◌, ◌++◌, map}
use lib.Dec.{T, leb, eqb, eqb→eq, leb→le, le→leb}
use lib.ListN.{length, get_or, take, drop, replicate, length-append, length-replicate}
use lib.Seq.{drop-cons, take-add, drop-drop, get_or-drop}
use borrow.Author.Tests.{le-leb, lt-leb, leb-true, leb-false}
use Rattle.buffer.specs.Bytes.{Bytes}
use Rattle.literal.specs.declared.Limits.{Limits}
use Rattle.semantics.specs.Set.{each_of}
use Rattle.semantics.proofs.Laws.Tests.{both, first, second}
use Rattle.assembly.specs.State.{Shape, keeps_shape, heads_byte, body_byte, row, shape_at, shapes_at, clear_at}

-- n elements from a place on, one by one
unfoldable pub cells : List ℕ → ℕ → ℕ → List ℕ
cells bs at zero = []
cells bs at (suc n) = get_or bs at 0 ∷ cells bs (at + 1) n

pub length-cells : (bs : List ℕ) (at n : ℕ) → length (cells bs at n) ≡ n
unfolding cells
length-cells bs at zero = refl
length-cells bs at (suc n) = ap suc (length-cells bs (at + 1) n)

pub take_cells : (bs : List ℕ) (at n : ℕ) → at + n ≤ length bs → take n (drop at bs) ≡ cells bs at n
unfolding cells
take_cells bs at zero h = refl
take_cells bs at (suc n) h =
    ap (take (suc n)) (drop-cons bs at 0 (omega arith))
    ∙ ap (λ (xs : List ℕ). get_or bs at 0 ∷ xs) (ap (λ (k : ℕ). take n (drop k bs)) next ∙ take_cells bs (at + 1) n (omega arith))
  where
    next : suc at ≡ at + 1
    next = omega arith

-- the first element of a part, and the part behind it
head_at : (bs : List ℕ) (at b : ℕ) (xs : List ℕ) → drop at bs ≡ b ∷ xs → get_or bs at 0 ≡ b
head_at bs at b xs p = ap (λ (k : ℕ). get_or bs k 0) here ∙ sym (get_or-drop at bs 0 0) ∙ ap (λ (ys : List ℕ). get_or ys 0 0) p
  where
    here : at ≡ at + 0
    here = omega arith

tail_at : (bs : List ℕ) (at b : ℕ) (xs : List ℕ) → drop at bs ≡ b ∷ xs → drop (at + 1) bs ≡ xs
tail_at bs at b xs p = sym (drop-drop 1 at bs) ∙ ap (drop 1) p

-- a byte of the first row is the one that is written for the shape that it says
pub heads-byte : (b c : ℕ) → b < 256 → heads_byte (shape_at b c) ≡ b
unfolding heads_byte shape_at
heads-byte b c h = go (leb 128 b) refl
  where
    go : (d : Bool) → leb 128 b ≡ d → cond d (127 + (b % 128 + b / 128)) (b % 128 + b / 128) ≡ b
    go true e = omega (arith, leb-true 128 b e)
    go false e = omega (arith, leb-false 128 b e)

-- the parts of a shape's limits
pub record Kept (F : Limits) (s : Shape) : Type 0 where
  pub heads : s.heads ≤ F.heads
  pub body : s.body ≤ F.positives + F.nafs
  pub some : s.defeasible ≡ true → 1 ≤ s.heads

pub kept-shape : (F : Limits) (s : Shape) → T (keeps_shape F s) → Kept F s
unfolding keeps_shape
kept-shape F s k =
    let a = leb s.heads F.heads in
    let b = leb s.body (F.positives + F.nafs) in
    let c = not s.defeasible || leb 1 s.heads in
    let bc = second a (b && c) k in
    record {
      heads = leb→le s.heads F.heads (first a (b && c) k);
      body = leb→le s.body (F.positives + F.nafs) (first b c bc);
      some = λ e. go s.defeasible e (second b c bc);
    }
  where
    go : (d : Bool) → d ≡ true → T (not d || leb 1 s.heads) → 1 ≤ s.heads
    go true e t = leb→le 1 s.heads t
    go false e t = absurd (true≢false (sym e))

pub keeps-shape : (F : Limits) (s : Shape) → Kept F s → T (keeps_shape F s)
unfolding keeps_shape
keeps-shape F s w =
    let a = leb s.heads F.heads in
    let b = leb s.body (F.positives + F.nafs) in
    let c = not s.defeasible || leb 1 s.heads in
    both a (b && c) (le→leb s.heads F.heads w.heads)
    (both b c (le→leb s.body (F.positives + F.nafs) w.body) (go s.defeasible w.some))
  where
    go : (d : Bool) → (d ≡ true → 1 ≤ s.heads) → T (not d || leb 1 s.heads)
    go true f = le→leb 1 s.heads (f refl)
    go false f = tt

-- the shape of a rule within the limits is said by its two bytes
shape-eq : (d : Bool) (h : ℕ) (s : Shape) → d ≡ s.defeasible → h ≡ s.heads → ◌≡◌ {A = Shape} (record { defeasible = d; heads = h; body = s.body }) s
shape-eq d h s p q = ap₂ (λ (x : Bool) (y : ℕ). record { defeasible = x; heads = y; body = s.body }) p q

pub shape-bytes : (F : Limits) → F.heads < 128 → (s : Shape) → Kept F s → shape_at (heads_byte s) (body_byte s) ≡ s
unfolding heads_byte shape_at
shape-bytes F few s w = go s.defeasible refl
  where
    go : (d : Bool) → s.defeasible ≡ d → shape_at (cond d (127 + s.heads) s.heads) s.body ≡ s
    go true e =
        let one = w.some e in
        shape-eq _ _ s (le-leb 128 (127 + s.heads) (omega (arith, one)) ∙ sym e) (omega (arith, one, w.heads))
    go false e = shape-eq _ _ s (lt-leb 128 s.heads (omega (arith, w.heads)) ∙ sym e) (omega (arith, w.heads))

-- the bytes that shapes are said by
pub heads-cells : (bs : List ℕ) → Bytes bs → (n at beside : ℕ) → map heads_byte (shapes_at bs at beside n) ≡ cells bs at n
unfolding cells shapes_at
heads-cells bs bytes zero at beside = refl
heads-cells bs bytes (suc n) at beside =
    ap₂ (λ (x : ℕ) (xs : List ℕ). x ∷ xs) (heads-byte (get_or bs at 0) (get_or bs beside 0) (bytes at)) (heads-cells bs bytes n (at + 1) (beside + 1))

pub body-cells : (bs : List ℕ) (n at beside : ℕ) → map body_byte (shapes_at bs at beside n) ≡ cells bs beside n
unfolding cells shapes_at shape_at
body-cells bs zero at beside = refl
body-cells bs (suc n) at beside = ap (λ (xs : List ℕ). get_or bs beside 0 ∷ xs) (body-cells bs n (at + 1) (beside + 1))

pub length-shapes : (bs : List ℕ) (n at beside : ℕ) → length (shapes_at bs at beside n) ≡ n
unfolding shapes_at
length-shapes bs zero at beside = refl
length-shapes bs (suc n) at beside = ap suc (length-shapes bs n (at + 1) (beside + 1))

-- shapes within the limits are said where their bytes stand
pub shapes-said : (F : Limits) → F.heads < 128 → (ss : List Shape) → T (each_of (keeps_shape F) ss) → (bs : List ℕ) (at beside : ℕ) (xs ys : List ℕ)
    → drop at bs ≡ map heads_byte ss ++ xs → drop beside bs ≡ map body_byte ss ++ ys → shapes_at bs at beside (length ss) ≡ ss
unfolding shapes_at
shapes-said F few [] k bs at beside xs ys p q = refl
shapes-said F few (s ∷ ss) k bs at beside xs ys p q =
    ap₂ (λ (x : Shape) (zs : List Shape). x ∷ zs)
    (ap₂ shape_at (head_at bs at (heads_byte s) _ p) (head_at bs beside (body_byte s) _ q) ∙ shape-bytes F few s (kept-shape F s (first (keeps_shape F s) _ k)))
    (shapes-said F few ss (second (keeps_shape F s) _ k) bs (at + 1) (beside + 1) xs ys (tail_at bs at (heads_byte s) _ p) (tail_at bs beside (body_byte s) _ q))

-- zeros
pub clear-cells : (bs : List ℕ) (n at : ℕ) → T (clear_at bs at n) → cells bs at n ≡ replicate n 0
unfolding cells clear_at
clear-cells bs zero at k = refl
clear-cells bs (suc n) at k =
    ap₂ (λ (x : ℕ) (xs : List ℕ). x ∷ xs) (eqb→eq (get_or bs at 0) 0 (first (eqb (get_or bs at 0) 0) _ k)) (clear-cells bs n (at + 1) (second (eqb (get_or bs at 0) 0) _ k))

pub zeros-clear : (bs : List ℕ) (n at : ℕ) (xs : List ℕ) → drop at bs ≡ replicate n 0 ++ xs → T (clear_at bs at n)
unfolding clear_at
zeros-clear bs zero at xs p = tt
zeros-clear bs (suc n) at xs p =
    both (eqb (get_or bs at 0) 0) (clear_at bs (at + 1) n) (subst (λ (b : ℕ). T (eqb b 0)) (sym (head_at bs at 0 _ p)) tt)
    (zeros-clear bs n (at + 1) xs (tail_at bs at 0 _ p))

-- a row of a list whose first n elements are bytes, and whose others are zeros
pub row-cells : (F : Limits) (bs : List ℕ) (at n : ℕ) → n ≤ F.rules → at + F.rules ≤ length bs → T (clear_at bs (at + n) (F.rules - n))
    → take F.rules (drop at bs) ≡ row F (cells bs at n)
unfolding row
row-cells F bs at n few fits k =
    ap (λ (r : ℕ). take r (drop at bs)) parts
    ∙ take-add n (F.rules - n) (drop at bs)
    ∙ ap₂ (λ (xs ys : List ℕ). xs ++ ys) (take_cells bs at n (omega arith))
    (ap (take (F.rules - n)) (drop-drop n at bs) ∙ take_cells bs (at + n) (F.rules - n) (omega (arith, parts))
    ∙ clear-cells bs (F.rules - n) (at + n) k ∙ ap (λ (r : ℕ). replicate (F.rules - r) 0) (sym (length-cells bs at n)))
  where
    parts : F.rules ≡ n + (F.rules - n)
    parts = omega arith

pub length-row : (F : Limits) (bs : List ℕ) → length bs ≤ F.rules → length (row F bs) ≡ F.rules
unfolding row
length-row F bs h = omega (arith, length-append bs (replicate (F.rules - length bs) 0), length-replicate {A = ℕ} (F.rules - length bs) 0)

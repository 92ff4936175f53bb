-- Laws of the passes over the rows: the shapes of rules added up, and zeros.
-- In order: the larger of two figures; one shape; the shapes that are left; a tally as it goes, one rule more, its end; zeros as
-- they are looked at.
-- Assumes nothing.
use Prim.Native.Nat.{ℕ, zero, suc, ◌+◌, ◌-◌, ◌*◌, ◌/◌, ◌%◌, ◌≤◌, ◌<◌, max}
use native.Mathlib.Omega.{arith}
use mathlib.Core.Path.{◌≡◌, refl, sym, ◌∙◌, ap, ap₂}
use mathlib.Core.Bool.{Bool, true, false, not, ◌&&◌, ◌||◌, and-false, and-true, and_assoc}
use mathlib.Core.List.{List, [], ◌∷◌}
use lib.Dec.{leb, eqb}
use lib.ListN.{get_or}
use borrow.Author.Tests.{leb-true, leb-false, le-leb, lt-leb, ne_eqb}
use Rattle.literal.specs.declared.Limits.{Limits}
use Rattle.semantics.specs.Set.{each_of}
use Rattle.assembly.specs.State.{Shape, keeps_shape, shape_at, shapes_at, clear_at}
use Rattle.assembly_state.specs.declared.Tally.{Tally}
use Rattle.assembly_state.specs.Code.{heads_of, body_of, within, clear_behind, Tallied}

-- the larger of two is at most k where both are
larger-most : (a b k : ℕ) → leb (max a b) k ≡ (leb a k && leb b k)
larger-most a b k = go (leb a k) refl (leb b k) refl
  where
    go : (s : Bool) → leb a k ≡ s → (t : Bool) → leb b k ≡ t → leb (max a b) k ≡ (s && t)
    go true p true q = le-leb (max a b) k (omega (arith, leb-true a k p, leb-true b k q))
    go true p false q = lt-leb (max a b) k (omega (arith, leb-false b k q))
    go false p t q = lt-leb (max a b) k (omega (arith, leb-false a k p))

-- two tests of one pair and two of another
four : (a b c d : Bool) → ((a && c) && (b && d)) ≡ ((a && b) && (c && d))
four true true c d = refl
four true false c d = and-false c
four false b c d = refl

both-within : (F : Limits) (m h k b : ℕ) → within F (max m h) (max k b) ≡ (within F m k && within F h b)
both-within F m h k b =
    ap₂ (λ (x y : Bool). x && y) (larger-most m h F.heads) (larger-most k b (F.positives + F.nafs))
    ∙ four (leb m F.heads) (leb k (F.positives + F.nafs)) (leb h F.heads) (leb b (F.positives + F.nafs))

-- the shape that two bytes say is within the limits where its figures are: a defeasible one has a head
shape-within : (F : Limits) (b c : ℕ) → keeps_shape F (shape_at b c) ≡ within F (b % 128 + b / 128) c
unfolding keeps_shape shape_at
shape-within F b c =
    ap (λ (t : Bool). leb (b % 128 + b / 128) F.heads && (leb c (F.positives + F.nafs) && t)) (go (leb 128 b) refl)
    ∙ ap (λ (t : Bool). leb (b % 128 + b / 128) F.heads && t) (and-true (leb c (F.positives + F.nafs)))
  where
    go : (d : Bool) → leb 128 b ≡ d → (not d || leb 1 (b % 128 + b / 128)) ≡ true
    go true e = le-leb 1 (b % 128 + b / 128) (omega (arith, leb-true 128 b e))
    go false e = refl

-- the shapes that are left from a place of the first row on, and the first of them
abbrev pub shapes_left : Limits → List ℕ → ℕ → ℕ → List Shape
shapes_left F bs at left = shapes_at bs at (at + F.rules) left

shapes-next : (F : Limits) (bs : List ℕ) (at left : ℕ) → 0 < left
    → shapes_left F bs at left ≡ shape_at (get_or bs at 0) (get_or bs (at + F.rules) 0) ∷ shapes_left F bs (at + 1) (left - 1)
unfolding shapes_at
shapes-next F bs at zero h = absurd (omega arith)
shapes-next F bs at (suc left) h =
    ap₂ (λ (beside k : ℕ). shape_at (get_or bs at 0) (get_or bs (at + F.rules) 0) ∷ shapes_at bs (at + 1) beside k) beside-next one_less
  where
    beside-next : at + F.rules + 1 ≡ at + 1 + F.rules
    beside-next = omega arith

    one_less : left ≡ suc left - 1
    one_less = omega arith

-- what was added up, and what is left
pub record Tallying (F : Limits) (bs : List ℕ) (n : ℕ) (r : Tally) (at left : ℕ) : Type 0 where
  pub each : each_of (keeps_shape F) (shapes_left F bs 8 n) ≡ (within F r.heads.most r.body.most && each_of (keeps_shape F) (shapes_left F bs at left))
  pub sum-heads : heads_of (shapes_left F bs 8 n) ≡ r.heads.sum + heads_of (shapes_left F bs at left)
  pub sum_body : body_of (shapes_left F bs 8 n) ≡ r.body.sum + body_of (shapes_left F bs at left)
  pub few-heads : r.heads.sum + 128 * left ≤ 128 * n
  pub few-body : r.body.sum + 255 * left ≤ 255 * n

-- one rule more, by its two bytes
module _ {F : Limits} {bs : List ℕ} {n : ℕ} {r : Tally} {at left : ℕ} (w : Tallying F bs n r at left) where
  pub tallying-next : 0 < left → get_or bs at 0 < 256 → get_or bs (at + F.rules) 0 < 256 → (h : ℕ) → h ≡ get_or bs at 0 % 128 + get_or bs at 0 / 128
      → (q : Tally) → q.heads.most ≡ max r.heads.most h → q.heads.sum ≡ r.heads.sum + h
      → q.body.most ≡ max r.body.most (get_or bs (at + F.rules) 0) → q.body.sum ≡ r.body.sum + get_or bs (at + F.rules) 0
      → (at' left' : ℕ) → at' ≡ at + 1 → left' ≡ left - 1 → Tallying F bs n q at' left'
  unfolding heads_of body_of shape_at
  tallying-next some byte byte-beside h h-is q m-is s-is k-is t-is at' left' at-is left-is =
      let b = get_or bs at 0 in
      let c = get_or bs (at + F.rules) 0 in
      let told = ap₂ (shapes_left F bs) (sym at-is) (sym left-is) in
      let next = shapes-next F bs at left some ∙ ap (λ (ss : List Shape). shape_at b c ∷ ss) told in
      let rest = each_of (keeps_shape F) (shapes_left F bs at' left') in
      record {
        each =
            w.each
            ∙ ap (λ (ss : List Shape). within F r.heads.most r.body.most && each_of (keeps_shape F) ss) next
            ∙ ap (λ (t : Bool). within F r.heads.most r.body.most && (t && rest)) (shape-within F b c ∙ ap (λ (x : ℕ). within F x c) (sym h-is))
            ∙ sym (and_assoc (within F r.heads.most r.body.most) (within F h c) rest)
            ∙ ap (λ (t : Bool). t && rest) (sym (both-within F r.heads.most h r.body.most c) ∙ ap₂ (within F) (sym m-is) (sym k-is));
        sum-heads = omega (arith, w.sum-heads, ap heads_of next, h-is, s-is);
        sum_body = omega (arith, w.sum_body, ap body_of next, t-is);
        few-heads = omega (arith, w.few-heads, h-is, s-is, left-is);
        few-body = omega (arith, w.few-body, t-is, left-is);
      }

  pub tallying-end : left ≤ 0 → Tallied F bs n r
  unfolding heads_of body_of shapes_at
  tallying-end none =
      let nil : shapes_left F bs at left ≡ [] = ap (shapes_at bs at (at + F.rules)) (zero_left) in
      record {
        each = w.each ∙ ap (λ (ss : List Shape). within F r.heads.most r.body.most && each_of (keeps_shape F) ss) nil ∙ and-true (within F r.heads.most r.body.most);
        heads = omega (arith, w.sum-heads, ap heads_of nil);
        body = omega (arith, w.sum_body, ap body_of nil);
      }
    where
      zero_left : left ≡ 0
      zero_left = omega (arith, none)

-- zeros behind n rules, as far as they were looked at: the largest byte of both rows
pub record Clearing (F : Limits) (bs : List ℕ) (n most at left : ℕ) : Type 0 where
  pub same : clear_behind F bs n ≡ (leb most 0 && (clear_at bs at left && clear_at bs (at + F.rules) left))

clear_next : (bs : List ℕ) (at left : ℕ) → 0 < left → clear_at bs at left ≡ (eqb (get_or bs at 0) 0 && clear_at bs (at + 1) (left - 1))
unfolding clear_at
clear_next bs at zero h = absurd (omega arith)
clear_next bs at (suc left) h = ap (λ (k : ℕ). eqb (get_or bs at 0) 0 && clear_at bs (at + 1) k) one_less
  where
    one_less : left ≡ suc left - 1
    one_less = omega arith

-- a byte is 0 if it is at most 0
zero-most : (b : ℕ) → eqb b 0 ≡ leb b 0
zero-most zero = refl
zero-most (suc b) = ne_eqb (suc b) 0 (λ e. omega (arith, e)) ∙ sym (lt-leb (suc b) 0 (omega arith))

-- the bytes of both rows are asked before what is left of them
both_first : (m x y a b : Bool) → (m && ((x && a) && (y && b))) ≡ ((m && (x && y)) && (a && b))
both_first false x y a b = refl
both_first true false y a b = refl
both_first true true false a b = and-false a
both_first true true true a b = refl

module _ {F : Limits} {bs : List ℕ} {n most at left : ℕ} (w : Clearing F bs n most at left) where
  pub clearing-next : 0 < left → (l m : ℕ) → l ≡ max (get_or bs at 0) (get_or bs (at + F.rules) 0) → m ≡ max most l
      → (at' left' : ℕ) → at' ≡ at + 1 → left' ≡ left - 1 → Clearing F bs n m at' left'
  clearing-next some l m l-is m-is at' left' at-is left-is =
      let x = get_or bs at 0 in
      let y = get_or bs (at + F.rules) 0 in
      let rest = clear_at bs at' left' in
      let rest-beside = clear_at bs (at' + F.rules) left' in
      let beside : at + F.rules + 1 ≡ at' + F.rules = omega arith in
      record {
        same =
            w.same
            ∙ ap₂ (λ (s t : Bool). leb most 0 && (s && t)) (clear_next bs at left some ∙ ap₂ (λ (t u : Bool). t && u) (zero-most x) (ap₂ (clear_at bs) (sym at-is) (sym left-is)))
            (clear_next bs (at + F.rules) left some ∙ ap₂ (λ (t u : Bool). t && u) (zero-most y) (ap₂ (clear_at bs) beside (sym left-is)))
            ∙ both_first (leb most 0) (leb x 0) (leb y 0) rest rest-beside
            ∙ ap (λ (t : Bool). t && (rest && rest-beside))
            (ap (λ (t : Bool). leb most 0 && t) (sym (larger-most x y 0) ∙ ap (λ (k : ℕ). leb k 0) (sym l-is)) ∙ sym (larger-most most l 0) ∙ ap (λ (k : ℕ). leb k 0) (sym m-is));
      }

  pub clearing-end : left ≤ 0 → eqb most 0 ≡ clear_behind F bs n
  unfolding clear_at
  clearing-end none =
      zero-most most
      ∙ sym (w.same ∙ ap (λ (k : ℕ). leb most 0 && (clear_at bs at k && clear_at bs (at + F.rules) k)) zero_left ∙ and-true (leb most 0))
    where
      zero_left : left ≡ 0
      zero_left = omega (arith, none)

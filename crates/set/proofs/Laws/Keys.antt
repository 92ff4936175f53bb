-- A set that was read, by its keys: what the search needs, and that it finds a literal exactly if the set holds it.
-- In order: the keys of encoded literals; the set of keys against the set of literals; the search's needs; both of a set that was read.
-- Assumes nothing.
use Prim.Native.Nat.{ℕ, zero, suc, ◌+◌, ◌*◌, ◌≤◌, ◌<◌}
use Rattle.std.specs.Prelude.{Ok}
use native.Mathlib.Omega.{arith}
use mathlib.Core.Path.{◌≡◌, refl, sym, ◌∙◌, ap, ap₂, subst}
use mathlib.Core.Bool.{Bool, ◌||◌}
use mathlib.Core.List.{List, [], ◌∷◌}
use lib.Dec.{T, ltb, eqb, ltb→lt, eqb→eq, eqb_refl}
use lib.ListN.{length, drop}
use lib.Seq.{drop-drop, drop_at}
use Rattle.buffer.specs.Bytes.{Bytes}
use Rattle.buffer.proofs.Laws.Bytes.{bytes_drop}
use Rattle.literal.specs.declared.Limits.{Limits}
use Rattle.literal.specs.declared.Literal.{Literal}
use Rattle.literal.specs.Literal.{encoded}
use Rattle.literal.specs.Order.{key}
use Rattle.literal.specs.Code.{key_at}
use Rattle.literal.proofs.Laws.Literal.{Fits, length-encoded}
use Rattle.literal.proofs.Laws.Order.{key_at-encoded, key-injective}
use Rattle.semantics.specs.Set.{some_of, same_literal, set_of}
use Rattle.semantics.proofs.Laws.Tests.{Each, each-mem, first, second, along, same_test, any-agree}
use Rattle.semantics.proofs.Laws.Set.{same-literal-eq, same-literal-refl}
use Rattle.record.specs.Layout.{encoded_literals}
use Rattle.record.proofs.Laws.Fit.{literals-fit}
use Rattle.set.specs.Layout.{encoded_set}
use Rattle.set.specs.Reading.{parsed_set}
use Rattle.set.specs.Code.{Ascends, has_key_from, has_key, key_set}
use Rattle.set.proofs.Laws.Above.{above, ascending-above}
use Rattle.set.proofs.Laws.Reading.{keeps-set-ascending, keeps-set-taken, parsed-set-sound, length-parsed-set}
use Rattle.set.proofs.Laws.Search.{number-first, number-next}

-- the literals lie in s from `at` on
module _ (s : List ℕ) where
  pub key_here : (at : ℕ) (l : Literal) (ls : List Literal) → drop at s ≡ encoded_literals (l ∷ ls) → key_at (drop at s) ≡ key l
  unfolding encoded_literals
  key_here at l ls e = ap key_at e ∙ key_at-encoded l (encoded_literals ls)

  pub keys-behind : (at : ℕ) (l : Literal) (ls : List Literal) → drop at s ≡ encoded_literals (l ∷ ls) → drop (at + 5) s ≡ encoded_literals ls
  unfolding encoded_literals
  keys-behind at l ls e = sym (drop-drop 5 at s) ∙ ap (drop 5) e ∙ drop_at (encoded l) (encoded_literals ls) 5 (length-encoded l)

  -- literal number j, and the one behind it
  key-first : (at : ℕ) (l : Literal) (ls : List Literal) → drop at s ≡ encoded_literals (l ∷ ls) → key_at (drop (at + 5 * 0) s) ≡ key l
  key-first at l ls e = ap (λ (i : ℕ). key_at (drop i s)) (sym (number-first at)) ∙ key_here at l ls e

  key-next : (at j : ℕ) → key_at (drop (at + 5 + 5 * j) s) ≡ key_at (drop (at + 5 * suc j) s)
  key-next at j = ap (λ (i : ℕ). key_at (drop i s)) (number-next at j)

  -- keys above k, one behind the other
  keys-above : (ls : List Literal) (at k : ℕ) → T (above k ls) → drop at s ≡ encoded_literals ls → (j : ℕ) → j < length ls → k < key_at (drop (at + 5 * j) s)
  keys-above [] at k t e j h = absurd (omega arith)
  keys-above (l ∷ ls) at k t e zero h =
      omega (arith, key-first at l ls e, ltb→lt k (key l) (first (ltb k (key l)) (above (key l) ls) t))
  keys-above (l ∷ ls) at k t e (suc j) h =
      omega (
        arith,
        key-next at j,
        ltb→lt k (key l) (first (ltb k (key l)) (above (key l) ls) t),
        keys-above ls (at + 5) (key l) (second (ltb k (key l)) (above (key l) ls) t) (keys-behind at l ls e) j (omega arith),
      )

  keys-ascend : (ls : List Literal) (at k : ℕ) → T (above k ls) → drop at s ≡ encoded_literals ls → (i j : ℕ) → i < j → j < length ls
      → key_at (drop (at + 5 * i) s) < key_at (drop (at + 5 * j) s)
  keys-ascend [] at k t e i j h m = absurd (omega arith)
  keys-ascend (l ∷ ls) at k t e i zero h m = absurd (omega arith)
  keys-ascend (l ∷ ls) at k t e zero (suc j) h m =
      omega (
        arith,
        key-first at l ls e,
        key-next at j,
        keys-above ls (at + 5) (key l) (second (ltb k (key l)) (above (key l) ls) t) (keys-behind at l ls e) j (omega arith),
      )
  keys-ascend (l ∷ ls) at k t e (suc i) (suc j) h m =
      omega (
        arith,
        key-next at i,
        key-next at j,
        keys-ascend ls (at + 5) (key l) (second (ltb k (key l)) (above (key l) ls) t) (keys-behind at l ls e) i j (omega arith) (omega arith),
      )

  -- a key among those of the literals
  has-key-any : (k : ℕ) (ls : List Literal) (at : ℕ) → drop at s ≡ encoded_literals ls → has_key_from s at (length ls) k ≡ some_of (λ m. eqb (key m) k) ls
  unfolding has_key_from
  has-key-any k [] at e = refl
  has-key-any k (l ∷ ls) at e =
      ap₂ (λ (x y : Bool). x || y) (ap (λ (i : ℕ). eqb i k) (key_here at l ls e)) (has-key-any k ls (at + 5) (keys-behind at l ls e))

-- two literals have the same key exactly if they are the same
pub same_key : (l m : Literal) → Fits l → Fits m → eqb (key m) (key l) ≡ same_literal l m
same_key l m fl fm =
    same_test (eqb (key m) (key l)) (same_literal l m)
    (λ t. subst (λ x. T (same_literal l x)) (key-injective l m fl fm (sym (eqb→eq (key m) (key l) t))) (same-literal-refl l))
    (λ t. subst (λ x. T (eqb (key x) (key l))) (same-literal-eq l m t) (eqb_refl (key l)))

-- literals that lie behind a count have fields that fit two bytes each
pub members-fit : (s : List ℕ) (ls : List Literal) → Bytes s → drop 4 s ≡ encoded_literals ls → Each Fits ls
members-fit s ls bytes lie = literals-fit ls (subst Bytes lie (bytes_drop 4 s bytes))

-- the set of their keys and their set hold the same literals, of those whose fields do
pub keys-agree : (s : List ℕ) (ls : List Literal) → Bytes s → drop 4 s ≡ encoded_literals ls → (l : Literal) → Fits l → key_set s (length ls) l ≡ set_of ls l
unfolding has_key
keys-agree s ls bytes lie l fit =
    has-key-any s (key l) ls 4 lie ∙ any-agree ls (λ m i. same_key l m fit (each-mem Fits (members-fit s ls bytes lie) i))

module _ (F : Limits) (most : ℕ) (s : List ℕ) (ls : List Literal) (bytes : Bytes s) (e : parsed_set F most s ≡ Ok ls) where
  -- the literals of the set lie behind its count
  pub literals-lie : drop 4 s ≡ encoded_literals ls
  unfolding encoded_set
  literals-lie = ap (drop 4) (parsed-set-sound F most s ls bytes e).0

  -- what the search asks of the set
  pub set_long : 4 + 5 * length ls ≤ length s
  set_long = omega (arith, length-parsed-set F most s ls bytes e)

  pub set-ascends : Ascends s (length ls)
  set-ascends =
      let k = (parsed-set-sound F most s ls bytes e).1 in
      keys-ascend s ls 4 0 (along (ascending-above F ls (keeps-set-taken F most ls k)) (keeps-set-ascending F most ls k)) literals-lie

  -- the keys and the set agree
  pub read-agree : (l : Literal) → Fits l → key_set s (length ls) l ≡ set_of ls l
  read-agree = keys-agree s ls bytes literals-lie

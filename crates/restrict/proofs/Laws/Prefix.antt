-- The literals of a set's slice that are kept: a set's literals ascend, so that those of source kinds are its first ones.
-- In order: kinds as bytes; no source literal behind a mark; what is counted is kept; its bytes. Not here: counting (`Front`).
-- Assumes nothing.
use Prim.Native.Nat.{ℕ, ◌+◌, ◌*◌, ◌≤◌, ◌<◌}
use native.Mathlib.Omega.{arith}
use native.Mathlib.Nat.{add-zero}
use mathlib.Core.Path.{◌≡◌, refl, sym, ◌∙◌, ap}
use mathlib.Core.Bool.{Bool, true, false}
use mathlib.Core.List.{List, [], ◌∷◌, ◌++◌}
use lib.Dec.{T, leb, ltb, ltb→lt}
use lib.ListN.{length, get_or, take, drop}
use lib.Seq.{take_at, get_or-drop}
use borrow.Author.Tests.{lt-leb, leb-false}
use Rattle.buffer.specs.Bytes.{Bytes}
use Rattle.buffer.proofs.Laws.Bytes.{bytes_drop}
use Rattle.literal.specs.declared.SignedAtom.TheVariants.{Positive, Negative}
use Rattle.literal.specs.declared.Literal.{Literal}
use Rattle.literal.specs.declared.Literal.TheVariants.{Signed, Defeated, Derived, RuleDefeated}
use Rattle.literal.specs.Literal.{kind, encoded}
use Rattle.literal.specs.Order.{key, key_of}
use Rattle.literal.specs.Code.{key_at}
use Rattle.semantics.specs.Extension.{source_kind}
use Rattle.semantics.proofs.Laws.Tests.{first, second}
use Rattle.record.specs.Header.{letter_of}
use Rattle.record.specs.Layout.{encoded_literals}
use Rattle.record.proofs.Laws.Layout.{encoded-literals-append, length-encoded-literals}
use Rattle.set.proofs.Laws.Above.{above}
use Rattle.set.proofs.Laws.Keys.{key_here, keys-behind}
use Rattle.restrict.specs.Restrict.{restriction_list}
use Rattle.restrict.specs.Code.{source_front}
use Rattle.restrict.proofs.Laws.Restriction.{restriction-kept, restriction-dropped}

-- the kinds of source literals are 0 to 3
source-kind : (l : Literal) → source_kind l ≡ leb (kind l) 3
unfolding source_kind kind
source-kind (Signed (Positive a)) = refl
source-kind (Signed (Negative a)) = refl
source-kind (Defeated t (Positive a)) = refl
source-kind (Defeated t (Negative a)) = refl
source-kind (Derived t (Positive a)) = refl
source-kind (Derived t (Negative a)) = refl
source-kind (RuleDefeated n) = refl

-- five bytes whose key is above those of kinds 0 to 3 have another kind
high-kind : (bs : List ℕ) → Bytes bs → key_of 4 0 0 ≤ key_at bs → 3 < letter_of bs
unfolding key_at
high-kind bs h k = omega (arith, h 1, h 2, h 3, h 4)

module _ (s : List ℕ) (bytes : Bytes s) where
  -- a literal's kind is its first byte
  kind-here : (at : ℕ) (l : Literal) (ls : List Literal) → drop at s ≡ encoded_literals (l ∷ ls) → letter_of (drop at s) ≡ kind l
  unfolding encoded_literals encoded
  kind-here at l ls e = ap (λ (bs : List ℕ). letter_of bs) e

  byte-here : (at : ℕ) (l : Literal) (ls : List Literal) → drop at s ≡ encoded_literals (l ∷ ls) → get_or s at 0 ≡ kind l
  byte-here at l ls e = sym (get_or-drop at s 0 0 ∙ ap (λ (i : ℕ). get_or s i 0) (add-zero at)) ∙ kind-here at l ls e

  -- a mark's key is above those of kinds 0 to 3
  high-key : (l : Literal) → 3 < kind l → key_of 4 0 0 ≤ key l
  unfolding key
  high-key l h = omega arith

  -- above the keys of kinds 0 to 3 there is no source literal
  marks-behind : (ls : List Literal) (at k : ℕ) → key_of 4 0 0 ≤ k → T (above k ls) → drop at s ≡ encoded_literals ls → restriction_list ls ≡ []
  unfolding restriction_list
  marks-behind [] at k h t e = refl
  marks-behind (l ∷ ls) at k h t e =
      restriction-dropped l ls (source-kind l ∙ lt-leb (kind l) 3 (omega (arith, kind-here at l ls e, high)))
      ∙ marks-behind ls (at + 5) (key l) (omega (arith, higher)) (second (ltb k (key l)) (above (key l) ls) t) (keys-behind s at l ls e)
    where
      higher : k < key l
      higher = ltb→lt k (key l) (first (ltb k (key l)) (above (key l) ls) t)

      high : 3 < letter_of (drop at s)
      high = high-kind (drop at s) (bytes_drop at s bytes) (omega (arith, key_here s at l ls e, higher))

  -- of ascending literals those that are kept are the first ones, as many as are counted
  pub restriction-front : (ls : List Literal) (at k : ℕ) → T (above k ls) → drop at s ≡ encoded_literals ls
      → (rest : List Literal) × (ls ≡ restriction_list ls ++ rest) × (source_front s at (length ls) ≡ length (restriction_list ls))
  unfolding restriction_list source_front
  restriction-front [] at k t e = ([], refl, refl)
  restriction-front (l ∷ ls) at k t e =
      go (leb (kind l) 3) refl (restriction-front ls (at + 5) (key l) (second (ltb k (key l)) (above (key l) ls) t) (keys-behind s at l ls e))
    where
      go : (b : Bool) → leb (kind l) 3 ≡ b → ((rest : List Literal) × (ls ≡ restriction_list ls ++ rest)
          × (source_front s (at + 5) (length ls) ≡ length (restriction_list ls)))
          → (rest : List Literal) × (l ∷ ls ≡ restriction_list (l ∷ ls) ++ rest) × (source_front s at (length (l ∷ ls)) ≡ length (restriction_list (l ∷ ls)))
      go true q w =
          let kept = restriction-kept l ls (source-kind l ∙ q) in (
            w.0,
            ap (λ (ms : List Literal). l ∷ ms) w.1 ∙ ap (λ (ms : List Literal). ms ++ w.0) (sym kept),
            rw (byte-here at l ls e, q) (omega (arith, w.2, ap length kept)),
          )
      go false q w =
          let none = marks-behind ls (at + 5) (key l) (high-key l (leb-false (kind l) 3 q))
          (second (ltb k (key l)) (above (key l) ls) t) (keys-behind s at l ls e) in
          let gone = restriction-dropped l ls (source-kind l ∙ q) ∙ none in (
            l ∷ ls,
            ap (λ (ms : List Literal). ms ++ (l ∷ ls)) (sym gone),
            rw (byte-here at l ls e, q) (sym (ap length gone)),
          )

  -- their bytes
  pub restriction-bytes : (ls : List Literal) (at k : ℕ) → T (above k ls) → drop at s ≡ encoded_literals ls
      → take (5 * source_front s at (length ls)) (drop at s) ≡ encoded_literals (restriction_list ls)
  restriction-bytes ls at k t e =
      let w = restriction-front ls at k t e in
      ap (take (5 * source_front s at (length ls))) (e ∙ ap encoded_literals w.1 ∙ encoded-literals-append (restriction_list ls) w.0)
      ∙ take_at (encoded_literals (restriction_list ls)) (encoded_literals w.0) (5 * source_front s at (length ls))
      (omega (arith, length-encoded-literals (restriction_list ls), w.2))

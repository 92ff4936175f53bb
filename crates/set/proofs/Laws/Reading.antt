-- The law of reading a set: a form reads s as the set of ls exactly if s is the encoding of ls and ls keeps the limits.
-- In order: the parts of a set's limits; the first four bytes; the law, each way and both; the length.
-- Assumes nothing.
use Prim.Native.Nat.{ℕ, ◌+◌, ◌*◌, ◌≤◌, ◌<◌}
use Rattle.std.specs.Prelude.{Ok}
use native.Mathlib.Omega.{arith}
use mathlib.Core.Path.{◌≡◌, refl, sym, ◌∙◌, ap, ap₂, subst}
use mathlib.Core.Bool.{true, not, ◌&&◌}
use mathlib.Core.Logic.{◌↔◌}
use mathlib.Core.List.{List, [], ◌∷◌, ◌++◌, append-nil}
use lib.Dec.{T, leb, ltb, leb→le, ltb→lt, le→leb, lt→ltb}
use lib.ListN.{length, get_or, take, drop, take-append-drop, length-drop}
use lib.Seq.{take_all}
use borrow.Author.Tests.{le-ltb, ltb-false, eq-eqb, not-false}
use Rattle.buffer.specs.Bytes.{Bytes, two_bytes, number_at}
use Rattle.buffer.proofs.Laws.Bytes.{number-two_bytes, two_bytes-number}
use Rattle.literal.specs.declared.Limits.{Limits}
use Rattle.literal.specs.declared.Literal.{Literal}
use Rattle.literal.specs.Literal.{takes}
use Rattle.semantics.specs.Set.{each_of}
use Rattle.semantics.proofs.Laws.Tests.{both, first, second, along}
use Rattle.record.specs.declared.Reason.TheVariants.{SetWrong, SetTooLarge}
use Rattle.record.specs.Header.{set_letter, letter_of, colon}
use Rattle.record.specs.Refusal.{refusal}
use Rattle.record.specs.Layout.{encoded_literals}
use Rattle.record.proofs.Laws.Result.{refuse-if-accepted, refuse-if-false}
use Rattle.record.proofs.Laws.Layout.{length-encoded-literals}
use Rattle.record.proofs.Laws.Sound.{literals-sound}
use Rattle.set.specs.Layout.{ascending, encoded_set, keeps_set}
use Rattle.set.specs.Reading.{members_at, set_shape, parsed_set}
use Rattle.set.proofs.Laws.Shape.{Shaped, shaped, shape-marked}
use Rattle.set.proofs.Laws.Order.{alike-first}
use Rattle.set.proofs.Laws.Above.{ascending-above, members-sound, members-complete}

module _ (F : Limits) (most : ℕ) (ls : List Literal) where
  -- the parts of a set's limits
  pub keeps-set : T (ascending ls) → T (each_of (takes F) ls) → length ls ≤ most → length ls < 65536 → T (keeps_set F most ls)
  unfolding keeps_set
  keeps-set a t m c =
      both (ascending ls) (each_of (takes F) ls && (leb (length ls) most && ltb (length ls) 65536)) a
      (both (each_of (takes F) ls) (leb (length ls) most && ltb (length ls) 65536) t
      (both (leb (length ls) most) (ltb (length ls) 65536) (le→leb (length ls) most m) (lt→ltb (length ls) 65536 c)))

  module _ (k : T (keeps_set F most ls)) where
    pub keeps-set-ascending : T (ascending ls)
    unfolding keeps_set
    keeps-set-ascending = first (ascending ls) (each_of (takes F) ls && (leb (length ls) most && ltb (length ls) 65536)) k

    counts : T (each_of (takes F) ls && (leb (length ls) most && ltb (length ls) 65536))
    unfolding keeps_set
    counts = second (ascending ls) (each_of (takes F) ls && (leb (length ls) most && ltb (length ls) 65536)) k

    pub keeps-set-taken : T (each_of (takes F) ls)
    keeps-set-taken = first (each_of (takes F) ls) (leb (length ls) most && ltb (length ls) 65536) counts

    pub keeps-set-most : length ls ≤ most
    keeps-set-most =
        leb→le (length ls) most (first (leb (length ls) most) (ltb (length ls) 65536)
        (second (each_of (takes F) ls) (leb (length ls) most && ltb (length ls) 65536) counts))

    pub keeps-set-count : length ls < 65536
    keeps-set-count =
        ltb→lt (length ls) 65536 (second (leb (length ls) most) (ltb (length ls) 65536)
        (second (each_of (takes F) ls) (leb (length ls) most && ltb (length ls) 65536) counts))

-- a list's first four elements
take-four : (s : List ℕ) → 4 ≤ length s → take 4 s ≡ letter_of s ∷ get_or s 1 0 ∷ get_or s 2 0 ∷ get_or s 3 0 ∷ []
take-four [] h = absurd (omega arith)
take-four (a ∷ []) h = absurd (omega arith)
take-four (a ∷ b ∷ []) h = absurd (omega arith)
take-four (a ∷ b ∷ c ∷ []) h = absurd (omega arith)
take-four (a ∷ b ∷ c ∷ d ∷ s) h = refl

-- the mark and the count
front-shaped : (s : List ℕ) → Bytes s → Shaped s → take 4 s ≡ set_letter ∷ colon ∷ two_bytes (number_at s 2)
front-shaped s bytes shape =
    take-four s (omega (arith, shape.whole))
    ∙ ap₂ (λ (x y : ℕ). x ∷ y ∷ get_or s 2 0 ∷ get_or s 3 0 ∷ []) shape.letter shape.mark
    ∙ ap (λ (bs : List ℕ). set_letter ∷ colon ∷ bs) (sym (two_bytes-number (get_or s 2 0) (get_or s 3 0) (bytes 3)))

-- five bytes for each literal behind the count
pub length-encoded-set : (ls : List Literal) → length (encoded_set ls) ≡ 4 + 5 * length ls
unfolding encoded_set
length-encoded-set ls = omega (arith, length-encoded-literals ls)

module _ (F : Limits) (most : ℕ) where
  -- what is read is the encoding of a set within the limits
  pub parsed-set-sound : (s : List ℕ) (ls : List Literal) → Bytes s → parsed_set F most s ≡ Ok ls → (s ≡ encoded_set ls) × T (keeps_set F most ls)
  unfolding parsed_set encoded_set
  parsed-set-sound s ls bytes e =
      let q = refuse-if-accepted (not (set_shape s)) (refusal SetWrong 0) _ ls e in
      let r = refuse-if-accepted (ltb most (number_at s 2)) (refusal SetTooLarge 0) _ ls q.1 in
      let shape = shaped s (not-false (set_shape s) q.0) in
      let w = members-sound F s bytes (number_at s 2) 4 [] 0 ls (alike-first F) (omega (arith, shape.whole)) r.1 in
      let run = literals-sound F s bytes (number_at s 2) 4 ls (omega (arith, shape.whole)) w.0 in
      let front = front-shaped s bytes shape ∙ ap (λ (n : ℕ). set_letter ∷ colon ∷ two_bytes n) (sym run.count) in
      let back = sym (take_all (5 * number_at s 2) (drop 4 s) (omega (arith, shape.whole, length-drop 4 s))) ∙ run.bytes in (
        sym (take-append-drop 4 s) ∙ ap₂ (λ (x y : List ℕ). x ++ y) front back,
        keeps-set F most ls (along (sym (ascending-above F ls run.taken)) w.1) run.taken
            (omega (arith, run.count, ltb-false most (number_at s 2) r.0))
            (omega (arith, run.count, bytes 2, bytes 3)),
      )

  -- the encoding of a set within the limits is read as that set
  pub parsed-set-complete : (ls : List Literal) → Bytes (encoded_set ls) → T (keeps_set F most ls) → parsed_set F most (encoded_set ls) ≡ Ok ls
  unfolding parsed_set encoded_set
  parsed-set-complete ls bytes k =
      refuse-if-false (not (set_shape s)) (refusal SetWrong 0) _ (ap not right)
      ∙ refuse-if-false (ltb most (number_at s 2)) (refusal SetTooLarge 0) _ (le-ltb most (number_at s 2) (omega (arith, count, keeps-set-most F most ls k)))
      ∙ ap (members_at F s 4 []) count
      ∙ members-complete F s bytes ls 4 [] 0 [] (alike-first F) (keeps-set-taken F most ls k)
      (along (ascending-above F ls (keeps-set-taken F most ls k)) (keeps-set-ascending F most ls k)) (sym (append-nil (encoded_literals ls)))
    where
      s : List ℕ
      s = encoded_set ls

      count : number_at s 2 ≡ length ls
      count = number-two_bytes (length ls)

      right : set_shape s ≡ true
      right =
          shape-marked s (omega (arith, length-encoded-set ls)) refl refl
          ∙ eq-eqb (length s) (4 + 5 * number_at s 2) (omega (arith, length-encoded-set ls, count))

  -- reading accepts s as ls exactly if s is the encoding of ls and ls keeps the limits
  pub set-reading-iff : (s : List ℕ) (ls : List Literal) → Bytes s → (parsed_set F most s ≡ Ok ls) ↔ ((s ≡ encoded_set ls) × T (keeps_set F most ls))
  set-reading-iff s ls bytes = (
    parsed-set-sound s ls bytes,
    λ w. ap (parsed_set F most) w.0 ∙ parsed-set-complete ls (subst Bytes w.0 bytes) w.1,
  )

  -- the length of a set that is accepted
  pub length-parsed-set : (s : List ℕ) (ls : List Literal) → Bytes s → parsed_set F most s ≡ Ok ls → length s ≡ 4 + 5 * length ls
  length-parsed-set s ls bytes e = ap length (parsed-set-sound s ls bytes e).0 ∙ length-encoded-set ls

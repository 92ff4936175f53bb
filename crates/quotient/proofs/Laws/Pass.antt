-- Laws of the two passes over a program: what is measured and written is what the set leaves of the rules that are gone.
-- In order: what the next rule's record adds; the room for it; what writing has made: at the start, a rule more, the end.
-- Assumes nothing.
use Prim.Native.Nat.{ℕ, ◌+◌, ◌≤◌}
use native.Mathlib.Omega.{arith}
use mathlib.Core.Path.{◌≡◌, refl, sym, ◌∙◌, ap}
use mathlib.Core.Bool.{Bool, true, false, cond}
use mathlib.Core.List.{List, [], ◌∷◌, ◌++◌}
use lib.Dec.{eqb}
use lib.ListN.{length, length-append}
use Rattle.buffer.specs.Write.{write}
use Rattle.buffer.proofs.Laws.Write.{write-nil}
use Rattle.buffer.proofs.Laws.Next.{write-behind}
use Rattle.semantics.specs.Set.{LiteralSet}
use Rattle.semantics.specs.Rule.{Program}
use Rattle.semantics.specs.Meaning.{remainder, quotient}
use Rattle.record.specs.Layout.{encoded_end, encoded_rules, encoded_program}
use Rattle.record_walk.proofs.Laws.Records.{Next}
use Rattle.set.specs.Code.{key_set}
use Rattle.quotient_rule.specs.Code.{remainder_at}
use Rattle.quotient.specs.Code.{quotient_of}
use Rattle.quotient.proofs.Laws.Program.{remainder_bytes, count-bytes, left_bytes, left_split, left-next, count_next, rules-left, quotient-bytes, length-quotient, quotient-of-short}
use Rattle.quotient.proofs.Laws.Meaning.{remainder-at}

module _ {p gone : Program} {t : List ℕ} (m : Next p gone t) (k : List ℕ) (n : ℕ) where
  -- the bytes that are left of the next rule
  left-of : remainder_bytes (remainder m.the-rule (key_set k n)) ≡ remainder_at t k n
  left-of = sym (remainder-at t k n m.the-rule m.starts)

  -- are added
  adds : left_bytes (key_set k n) (gone ++ m.the-rule ∷ []) ≡ left_bytes (key_set k n) gone ++ remainder_at t k n
  adds = left-next (key_set k n) gone m.the-rule ∙ ap (λ (bs : List ℕ). left_bytes (key_set k n) gone ++ bs) left-of

  pub adds_bytes : length (left_bytes (key_set k n) (gone ++ m.the-rule ∷ [])) ≡ length (left_bytes (key_set k n) gone) + length (remainder_at t k n)
  adds_bytes = ap length adds ∙ length-append (left_bytes (key_set k n) gone) (remainder_at t k n)

  -- there is room for them, and for the end record
  pub adds-within : length (left_bytes (key_set k n) gone) + length (remainder_at t k n) + 4 ≤ length (quotient_of p (key_set k n))
  adds-within =
      let u = key_set k n in
      let one = remainder_bytes (remainder m.the-rule u) in
      omega (
        arith,
        length-quotient u p,
        ap (λ (q : Program). length (left_bytes u q)) m.split,
        ap length (left_split u gone m.the-rule m.behind),
        length-append (left_bytes u gone) (one ++ left_bytes u m.behind),
        length-append one (left_bytes u m.behind),
        ap length left-of,
      )

  -- and no more than the program has
  pub adds-few : length (left_bytes (key_set k n) gone) + length (remainder_at t k n) + 4 ≤ length (encoded_program p)
  adds-few = omega (arith, adds-within, quotient-of-short p (key_set k n))

  -- with that rule, no more rules are left than the program has
  pub rules-few : length (quotient gone (key_set k n)) + 1 ≤ length p
  rules-few = omega (arith, rules-left (key_set k n) gone, ap length m.split, length-append gone (m.the-rule ∷ m.behind))

-- a record counts at most once
pub one-few : (n one : ℕ) → one ≡ cond (eqb n 0) 0 1 → one ≤ 1
one-few n one e = go (eqb n 0) e
  where
    go : (b : Bool) → one ≡ cond b 0 1 → one ≤ 1
    go true e = omega (arith, e)
    go false e = omega (arith, e)

-- what writing has made of the rules that are gone
pub record Made (u : LiteralSet) (out₀ out : List ℕ) (made to : ℕ) (gone : Program) : Type 0 where
  pub counted : made ≡ length (quotient gone u)
  pub long : to ≡ length (left_bytes u gone)
  pub written : out ≡ write out₀ 0 (left_bytes u gone)

pub made-start : (u : LiteralSet) (out : List ℕ) → Made u out out 0 0 []
unfolding left_bytes quotient encoded_rules
made-start u out = record { counted = refl; long = refl; written = sym (write-nil out 0) }

pub made-next : {out₀ out e t : List ℕ} {p gone : Program} {made to : ℕ} (k : List ℕ) (n : ℕ) (m : Next p gone t)
    → Made (key_set k n) out₀ out made to gone
    → e ≡ write out to (remainder_at t k n) → (size one : ℕ) → size ≡ length (remainder_at t k n) → one ≡ cond (eqb size 0) 0 1
    → Made (key_set k n) out₀ e (made + one) (to + size) (gone ++ m.the-rule ∷ [])
made-next {out₀ = out₀} {t = t} {gone = gone} {to = to} k n m w done size one es eo =
    let u = key_set k n in
    let few = eo ∙ ap (λ (x : ℕ). cond (eqb x 0) 0 1) (es ∙ ap length (sym (left-of m k n))) ∙ sym (count-bytes (remainder m.the-rule u)) in
    record {
      counted = omega (arith, count_next u gone m.the-rule, few, w.counted);
      long = omega (arith, adds_bytes m k n, es, w.long);
      written =
          write-behind out₀ 0 (left_bytes u gone) to (remainder_at t k n) (omega arith) (omega arith) w.written done ∙ ap (write out₀ 0) (sym (adds m k n));
    }

-- with the end record, it is the quotient
pub made-end : {u : LiteralSet} {out₀ out e : List ℕ} {made to : ℕ} {p : Program} → Made u out₀ out made to p → e ≡ write out to (encoded_end made)
    → e ≡ write out₀ 0 (quotient_of p u)
made-end {u} {out₀} {out} {to = to} {p} w done =
    write-behind out₀ 0 (left_bytes u p) to (encoded_end (length (quotient p u))) (omega arith) (omega arith) w.written
    (done ∙ ap (λ (n : ℕ). write out to (encoded_end n)) w.counted)
    ∙ ap (write out₀ 0) (sym (quotient-bytes u p))

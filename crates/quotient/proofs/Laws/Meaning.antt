-- What is left of a rule's record is what the meaning leaves of the rule, with the keys of the set's slice as the set.
-- In order: a record without naf literals; strict rules; defeasible rules; any rule.
-- Assumes nothing.
use Prim.Native.Nat.{ℕ, ◌+◌, ◌*◌}
use native.Mathlib.Omega.{arith}
use mathlib.Core.Path.{◌≡◌, refl, sym, ◌∙◌, ap, ap₂}
use mathlib.Core.Bool.{Bool, true, false, cond}
use mathlib.Core.List.{List, [], ◌∷◌, ◌++◌, map, append_assoc, append-nil}
use mathlib.Core.Option.{none, some}
use lib.Dec.{eqb}
use lib.ListN.{length, take, drop, length-append}
use Rattle.literal.specs.declared.Tag.{Tag}
use Rattle.literal.specs.declared.SignedAtom.{SignedAtom}
use Rattle.literal.specs.declared.Literal.{Literal}
use Rattle.literal.specs.declared.Literal.TheVariants.{Signed}
use Rattle.semantics.specs.Set.{some_of}
use Rattle.semantics.specs.Rule.{Rule, strict, defeasible, Remainder}
use Rattle.semantics.specs.Meaning.{undefeated, unless_empty, remainder}
use Rattle.record.specs.Header.{strict_letter, defeasible_letter, letter_of, head_count, positive_count}
use Rattle.record.specs.Layout.{encoded_literals, encoded_rule}
use Rattle.record.proofs.Laws.Layout.{encoded-literals-append}
use Rattle.record_walk.specs.Code.{Starts}
use Rattle.record_walk.proofs.Laws.Fields.{strict-fields, defeasible-fields, literals-next, literals-before}
use Rattle.record_write.specs.Code.{header}
use Rattle.record_write.proofs.Laws.Header.{strict-pieces}
use Rattle.set.specs.Code.{key_set}
use Rattle.quotient_rule.specs.Code.{left_at, strict_bytes, option_bytes, remainder_at}
use Rattle.quotient_rule.proofs.Laws.Rule.{nafs-met, left-undefeated}
use Rattle.quotient.specs.Quotient.{remainder_rule}
use Rattle.quotient.proofs.Laws.Program.{remainder_bytes}

-- a record without naf literals, in pieces
pieces : (h b : List Literal) → header (length h) (length b) 0 ++ (encoded_literals h ++ encoded_literals b) ≡ encoded_rule (strict h b [])
pieces h b =
    ap (λ (x : List ℕ). header (length h) (length b) 0 ++ x)
    (sym (encoded-literals-append h b) ∙ ap (λ (x : List Literal). encoded_literals (h ++ x)) (sym (append-nil b)))
    ∙ strict-pieces h b []

-- nothing left is no bytes; a remainder has its rule's
gone : [] ≡ remainder_bytes none
unfolding remainder_bytes
gone = refl

kept : (q : Remainder) → encoded_rule (strict q.head q.positive []) ≡ remainder_bytes (some q)
unfolding remainder_bytes remainder_rule
kept q = refl

module _ (t k : List ℕ) (m : ℕ) where
  -- what is left of a strict rule
  strict-left : (h b c : List Literal) → Starts t (strict h b c) → strict_bytes t ≡ encoded_rule (strict h b [])
  unfolding strict_bytes
  strict-left h b c w =
      let f = strict-fields t h b c w in
      let size : 5 * (head_count t + positive_count t) ≡ 5 * length (h ++ b) = omega (arith, f.heads, f.positives, length-append h b) in
      let run = ap (λ (n : ℕ). take n (drop 7 t)) size
      ∙ literals-before (drop 7 t) w.rest (h ++ b) c
      (f.literals ∙ ap (λ (x : List Literal). encoded_literals x ++ w.rest) (sym (append_assoc h b c)))
      ∙ encoded-literals-append h b in
      ap (λ (x : List ℕ). header (head_count t) (positive_count t) 0 ++ x) run ∙ rw (f.heads, f.positives) (pieces h b)

  -- what is left of a defeasible rule
  defeasible-left : (u : Tag) (h : List SignedAtom) (b c : List Literal) → Starts t (defeasible u h b c) → (ls : List Literal)
      → option_bytes t ls ≡ remainder_bytes (unless_empty ls b)
  unfolding option_bytes remainder_bytes unless_empty remainder_rule
  defeasible-left u h b c w [] = refl
  defeasible-left u h b c w (l ∷ ls) =
      let f = defeasible-fields t u h b c w in
      let start = literals-next t w.rest 7 (map Signed h) (b ++ c) f.literals in
      let run = ap₂ (λ (n at : ℕ). take (5 * n) (drop (7 + 5 * at) t)) f.positives f.heads
      ∙ literals-before (drop (7 + 5 * length (map Signed h)) t) w.rest b c start in
      ap₂ (λ (n : ℕ) (x : List ℕ). header (length (l ∷ ls)) n 0 ++ (encoded_literals (l ∷ ls) ++ x)) f.positives run ∙ pieces (l ∷ ls) b

  -- what is left of a rule's record is what is left of the rule
  pub remainder-at : (r : Rule) → Starts t r → remainder_at t k m ≡ remainder_bytes (remainder r (key_set k m))
  unfolding remainder_at remainder
  remainder-at (strict h b c) w =
      let f = strict-fields t h b c w in
      ap (λ (x : Bool). cond x [] (cond (eqb (letter_of t) defeasible_letter) (option_bytes t (left_at t k m 7 (head_count t))) (strict_bytes t)))
      (nafs-met t k m strict_letter 0 h b c w.rest f)
      ∙ rw f.of-letter (go (some_of (key_set k m) c))
    where
      go : (x : Bool) → cond x [] (strict_bytes t) ≡ remainder_bytes (cond x none (some (record { head = h; positive = b })))
      go true = gone
      go false = strict-left h b c w ∙ kept (record { head = h; positive = b })
  remainder-at (defeasible u h b c) w =
      let f = defeasible-fields t u h b c w in
      ap (λ (x : Bool). cond x [] (cond (eqb (letter_of t) defeasible_letter) (option_bytes t (left_at t k m 7 (head_count t))) (strict_bytes t)))
      (nafs-met t k m defeasible_letter u.0 (map Signed h) b c w.rest f)
      ∙ rw f.of-letter (go (some_of (key_set k m) c))
    where
      go : (x : Bool) → cond x [] (option_bytes t (left_at t k m 7 (head_count t))) ≡ remainder_bytes (cond x none (unless_empty (undefeated u h (key_set k m)) b))
      go true = gone
      go false = ap (option_bytes t) (left-undefeated t k m u h b c w) ∙ defeasible-left u h b c w (undefeated u h (key_set k m))

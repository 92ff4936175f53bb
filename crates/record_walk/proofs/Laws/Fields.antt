-- Laws of a rule's record: its fields, its literals, its size.
-- Assumes nothing.
use Prim.Native.Nat.{ℕ, ◌+◌, ◌*◌}
use native.Mathlib.Omega.{arith}
use mathlib.Core.Path.{◌≡◌, refl, sym, ◌∙◌, ap, subst}
use mathlib.Core.List.{List, ◌++◌, map, append_assoc}
use lib.ListN.{length, take, drop, length-map}
use lib.Seq.{drop-drop, drop_at, take_at}
use Rattle.buffer.specs.Bytes.{number_at}
use Rattle.buffer.proofs.Laws.Bytes.{number-two_bytes}
use Rattle.literal.specs.declared.Tag.{Tag}
use Rattle.literal.specs.declared.SignedAtom.{SignedAtom}
use Rattle.literal.specs.declared.Literal.{Literal}
use Rattle.literal.specs.declared.Literal.TheVariants.{Signed}
use Rattle.semantics.specs.Rule.{Rule, strict, defeasible, head, naf}
use Rattle.semantics.specs.Translation.{record_length}
use Rattle.record.specs.Header.{strict_letter, defeasible_letter, letter_of, head_count, positive_count, naf_count}
use Rattle.record.specs.Layout.{encoded_literals, rule_record, encoded_rule}
use Rattle.record.proofs.Laws.Layout.{encoded-literals-append, length-encoded-literals}
use Rattle.record_walk.specs.Code.{record_size, Starts}

-- the fields of a rule's record that starts s
pub record Fields (s : List ℕ) (letter tag : ℕ) (h b c : List Literal) (rest : List ℕ) : Type 0 where
  pub of-letter : letter_of s ≡ letter
  pub of-tag : number_at s 2 ≡ tag
  pub heads : head_count s ≡ length h
  pub positives : positive_count s ≡ length b
  pub nafs : naf_count s ≡ length c
  pub literals : drop 7 s ≡ encoded_literals (h ++ (b ++ c)) ++ rest

-- a record's bytes have its fields
fields : (letter tag : ℕ) (h b c : List Literal) (rest : List ℕ) → Fields (rule_record letter tag h b c ++ rest) letter tag h b c rest
unfolding rule_record
fields letter tag h b c rest =
    record { of-letter = refl; of-tag = number-two_bytes tag; heads = refl; positives = refl; nafs = refl; literals = refl }

module _ (s : List ℕ) where
  -- those of a strict rule
  pub strict-fields : (h b c : List Literal) (w : Starts s (strict h b c)) → Fields s strict_letter 0 h b c w.rest
  unfolding encoded_rule
  strict-fields h b c w = subst (λ (x : List ℕ). Fields x strict_letter 0 h b c w.rest) (sym w.bytes) (fields strict_letter 0 h b c w.rest)

  -- those of a defeasible rule
  pub defeasible-fields : (t : Tag) (h : List SignedAtom) (b c : List Literal) (w : Starts s (defeasible t h b c))
      → Fields s defeasible_letter t.0 (map Signed h) b c w.rest
  unfolding encoded_rule
  defeasible-fields t h b c w =
      subst (λ (x : List ℕ). Fields x defeasible_letter t.0 (map Signed h) b c w.rest) (sym w.bytes)
      (fields defeasible_letter t.0 (map Signed h) b c w.rest)

-- literals that stand in a slice, and those behind them
pub literals-first : (x rest : List ℕ) (hs ls : List Literal) → x ≡ encoded_literals (hs ++ ls) ++ rest → x ≡ encoded_literals hs ++ (encoded_literals ls ++ rest)
literals-first x rest hs ls e =
    e ∙ ap (λ (y : List ℕ). y ++ rest) (encoded-literals-append hs ls) ∙ append_assoc (encoded_literals hs) (encoded_literals ls) rest

pub literals-next : (s rest : List ℕ) (at : ℕ) (hs ls : List Literal) → drop at s ≡ encoded_literals (hs ++ ls) ++ rest
    → drop (at + 5 * length hs) s ≡ encoded_literals ls ++ rest
literals-next s rest at hs ls e =
    sym (drop-drop (5 * length hs) at s) ∙ ap (drop (5 * length hs)) (literals-first (drop at s) rest hs ls e)
    ∙ drop_at (encoded_literals hs) (encoded_literals ls ++ rest) (5 * length hs) (length-encoded-literals hs)

-- a run of literals before others, and behind others
pub literals-before : (x rest : List ℕ) (hs ls : List Literal) → x ≡ encoded_literals (hs ++ ls) ++ rest → take (5 * length hs) x ≡ encoded_literals hs
literals-before x rest hs ls e =
    ap (take (5 * length hs)) (literals-first x rest hs ls e)
    ∙ take_at (encoded_literals hs) (encoded_literals ls ++ rest) (5 * length hs) (length-encoded-literals hs)

pub literals-behind : (s : List ℕ) (hs ls : List Literal) (rest : List ℕ) → drop 7 s ≡ encoded_literals (hs ++ ls) ++ rest
    → take (5 * length ls) (drop (7 + 5 * length hs) s) ≡ encoded_literals ls
literals-behind s hs ls rest e =
    ap (take (5 * length ls)) (literals-next s rest 7 hs ls e) ∙ take_at (encoded_literals ls) rest (5 * length ls) (length-encoded-literals ls)

-- the size that a record's header tells is the rule's
pub record-size : (s : List ℕ) (r : Rule) → Starts s r → record_size s ≡ record_length r
unfolding record_length
record-size s (strict h b c) w = let f = strict-fields s h b c w in omega (arith, f.heads, f.positives, f.nafs)
record-size s (defeasible t h b c) w =
    let f = defeasible-fields s t h b c w in omega (arith, f.heads, length-map h Signed, f.positives, f.nafs)

-- its counts are those of the rule's head, positive and naf literals
pub head-count : (s : List ℕ) (r : Rule) → Starts s r → head_count s ≡ length (head r)
unfolding head
head-count s (strict h b c) w = (strict-fields s h b c w).heads
head-count s (defeasible t h b c) w = (defeasible-fields s t h b c w).heads

pub naf-count : (s : List ℕ) (r : Rule) → Starts s r → naf_count s ≡ length (naf r)
unfolding naf
naf-count s (strict h b c) w = (strict-fields s h b c w).nafs
naf-count s (defeasible t h b c) w = (defeasible-fields s t h b c w).nafs

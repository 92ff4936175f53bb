-- Laws of rules (4), (5) and (6): their records as pieces, and their lengths.
-- In order: a header and two literals; the record of each; those of one option; those of a record's options, one option each.
-- Assumes nothing.
use Prim.Native.Nat.{ℕ, ◌+◌, ◌*◌, ◌-◌, ◌≤◌, ◌<◌}
use native.Mathlib.Omega.{arith}
use mathlib.Core.Bool.{true, false}
use mathlib.Core.Path.{◌≡◌, refl, ◌∙◌, ap}
use mathlib.Core.List.{List, [], ◌++◌}
use lib.ListN.{length, length-append}
use Rattle.buffer.specs.Write.{write}
use Rattle.buffer.proofs.Laws.Next.{write-behind}
use Rattle.literal.specs.declared.Tag.{Tag}
use Rattle.literal.specs.declared.SignedAtom.{SignedAtom}
use Rattle.literal.specs.declared.Literal.{Literal}
use Rattle.literal.specs.declared.Literal.TheVariants.{Signed}
use Rattle.literal.specs.Literal.{encoded}
use Rattle.literal.proofs.Laws.Literal.{length-encoded}
use Rattle.semantics.specs.Translation.{holds_if_derived, derived_if_holds, never_both, option, options}
use Rattle.record.specs.Layout.{encoded_literals, rule_record, encoded_rule, encoded_rules}
use Rattle.record.proofs.Laws.Layout.{encoded-rules-append}
use Rattle.record_walk.specs.Code.{option_at, options_at}
use Rattle.record_walk.proofs.Laws.Options.{options-next, options-none}
use Rattle.record_write.specs.Code.{header}
use Rattle.record_write.proofs.Laws.Stores.{length-header}
use Rattle.translate_options.specs.Code.{mark_of}

-- a header and two literals, written one behind the other
pub pair-written : (d e f g : List ℕ) (to h b c : ℕ) (l m : Literal) → to ≤ length d
    → e ≡ write d to (header h b c) → f ≡ write e (to + 7) (encoded l) → g ≡ write f (to + 12) (encoded m)
    → g ≡ write d to ((header h b c ++ encoded l) ++ encoded m)
pair-written d e f g to h b c l m fits one two three =
    write-behind d to (header h b c ++ encoded l) (to + 12) (encoded m) fits
    (omega (arith, length-append (header h b c) (encoded l), length-header h b c, length-encoded l))
    (write-behind d to (header h b c) (to + 7) (encoded l) fits (omega (arith, length-header h b c)) one two) three

-- it has 17 bytes
pub length-pair : (h b c : ℕ) (l m : Literal) → length ((header h b c ++ encoded l) ++ encoded m) ≡ 17
unfolding header encoded
length-pair h b c l m = refl

module _ (t : Tag) (a : SignedAtom) where
  -- (4) is a header and two literals
  pub holds-pieces : (header 1 1 0 ++ encoded (Signed a)) ++ encoded (mark_of true t a) ≡ encoded_rule (holds_if_derived t a)
  unfolding header mark_of encoded_rule rule_record holds_if_derived encoded_literals encoded
  holds-pieces = refl

  -- (5) a header and three
  pub derived-pieces : ((header 1 1 1 ++ encoded (mark_of true t a)) ++ encoded (Signed a)) ++ encoded (mark_of false t a) ≡ encoded_rule (derived_if_holds t a)
  unfolding header mark_of encoded_rule rule_record derived_if_holds encoded_literals encoded
  derived-pieces = refl

  -- (6) a header and two
  pub never-both-pieces : (header 0 2 0 ++ encoded (mark_of true t a)) ++ encoded (mark_of false t a) ≡ encoded_rule (never_both t a)
  unfolding header mark_of encoded_rule rule_record never_both encoded_literals encoded
  never-both-pieces = refl

  -- (4) has 17 bytes
  pub length-holds : length (encoded_rule (holds_if_derived t a)) ≡ 17
  unfolding encoded_rule rule_record holds_if_derived encoded_literals encoded
  length-holds = refl

  -- (5) has 22 bytes
  pub length-derived : length (encoded_rule (derived_if_holds t a)) ≡ 22
  unfolding encoded_rule rule_record derived_if_holds encoded_literals encoded
  length-derived = refl

  -- the three records of an option
  pub option-pieces : (encoded_rule (holds_if_derived t a) ++ encoded_rule (derived_if_holds t a)) ++ encoded_rule (never_both t a) ≡ encoded_rules (option t a)
  unfolding option encoded_rules encoded_rule rule_record holds_if_derived derived_if_holds never_both encoded_literals encoded
  option-pieces = refl

  -- 56 bytes for an option
  pub length-option : length (encoded_rules (option t a)) ≡ 56
  unfolding option encoded_rules encoded_rule rule_record holds_if_derived derived_if_holds never_both encoded_literals encoded
  length-option = refl

module _ (s : List ℕ) (t : Tag) where
  -- the records of (4), (5) and (6) for n options
  abbrev pub option_bytes : ℕ → ℕ → List ℕ
  option_bytes at n = encoded_rules (options t (options_at s at n))

  -- what is left of those for n options behind the first i: the next option's, and those behind them
  pub option-bytes-next : (i n : ℕ) → i < n
      → option_bytes (7 + 5 * i) (n - i) ≡ encoded_rules (option t (option_at s (7 + 5 * i))) ++ option_bytes (7 + 5 * (i + 1)) (n - (i + 1))
  unfolding options
  option-bytes-next i n h =
      ap (λ (os : List SignedAtom). encoded_rules (options t os)) (options-next s i n h)
      ∙ encoded-rules-append (option t (option_at s (7 + 5 * i))) (options t (options_at s (7 + 5 * (i + 1)) (n - (i + 1))))

  -- none left
  pub option-bytes-none : (at n : ℕ) → n ≤ 0 → option_bytes at n ≡ []
  unfolding options encoded_rules
  option-bytes-none at n h = ap (λ (os : List SignedAtom). encoded_rules (options t os)) (options-none s at n h)

-- What is left of a record is what is left of its rule.
-- In order: the naf literals that are in the set; the options that are left. Assumes nothing.
use Prim.Native.Nat.{ℕ, ◌+◌, ◌*◌}
use native.Mathlib.Omega.{arith}
use mathlib.Core.Path.{◌≡◌, ◌∙◌, ap, ap₂}
use mathlib.Core.List.{List, ◌++◌}
use lib.ListN.{length, drop}
use Rattle.literal.specs.declared.Tag.{Tag}
use Rattle.literal.specs.declared.SignedAtom.{SignedAtom}
use Rattle.literal.specs.declared.Literal.{Literal}
use Rattle.semantics.specs.Set.{some_of}
use Rattle.semantics.specs.Rule.{defeasible}
use Rattle.semantics.specs.Meaning.{undefeated}
use Rattle.record.specs.Header.{head_count, positive_count, naf_count}
use Rattle.record_walk.specs.Code.{Starts}
use Rattle.record_walk.proofs.Laws.Fields.{Fields, literals-next}
use Rattle.record_walk.proofs.Laws.Options.{rule-options, rule-tag}
use Rattle.set.specs.Code.{key_set, any_key}
use Rattle.set.proofs.Laws.Member.{any-key-literals}
use Rattle.quotient_rule.specs.Code.{left_at}

module _ (t k : List ℕ) (m : ℕ) where
  -- one of the rule's naf literals is in the set where one of the record's is
  pub nafs-met : (letter tag : ℕ) (h b c : List Literal) (rest : List ℕ) → Fields t letter tag h b c rest
      → any_key k m (naf_count t) t (7 + 5 * (head_count t + positive_count t)) ≡ some_of (key_set k m) c
  nafs-met letter tag h b c rest f =
      let place : 7 + 5 * (length h + length b) ≡ 7 + 5 * length h + 5 * length b = omega arith in
      rw (f.nafs, f.heads, f.positives)
      (any-key-literals k m t c (7 + 5 * (length h + length b)) rest
      (ap (λ (i : ℕ). drop i t) place ∙ literals-next t rest (7 + 5 * length h) b c (literals-next t rest 7 h (b ++ c) f.literals)))

  -- the options that are left are the rule's
  pub left-undefeated : (g : Tag) (h : List SignedAtom) (b c : List Literal) → Starts t (defeasible g h b c)
      → left_at t k m 7 (head_count t) ≡ undefeated g h (key_set k m)
  unfolding left_at
  left-undefeated g h b c w = ap₂ (λ (x : Tag) (os : List SignedAtom). undefeated x os (key_set k m)) (rule-tag t g h b c w) (rule-options t g h b c w)

-- What is written is read in plain form as the quotient, as strict rules without naf literals.
-- In order: a form whose figures hold another's; rules that are left; the quotient; the two forms. Assumes nothing.
use Prim.Native.Nat.{◌≤◌}
use Rattle.std.specs.Prelude.{Ok}
use native.Mathlib.Omega.{arith}
use mathlib.Core.Path.{◌≡◌}
use mathlib.Core.Bool.{Bool, true, false, cond}
use mathlib.Core.List.{List, [], ◌∷◌, map}
use mathlib.Core.Option.{Option, none, some}
use lib.Dec.{T}
use lib.ListN.{length, length-map}
use Rattle.literal.specs.declared.Limits.{Limits}
use Rattle.literal.specs.declared.Tag.{Tag}
use Rattle.literal.specs.declared.SignedAtom.{SignedAtom}
use Rattle.literal.specs.declared.Literal.{Literal}
use Rattle.literal.specs.declared.Literal.TheVariants.{Signed}
use Rattle.literal.specs.Literal.{most_kind, takes}
use Rattle.literal.specs.Limits.{source, plain}
use Rattle.semantics.specs.Set.{LiteralSet, some_of, each_of, set_of}
use Rattle.semantics.specs.Rule.{Rule, strict, defeasible, Program, Remainder, head, positive}
use Rattle.semantics.specs.Meaning.{undefeated, unless_empty, remainder, with_remainder, quotient}
use Rattle.semantics.specs.Form.{keeps_rule, TakesDefeats, wide}
use Rattle.semantics.proofs.Laws.Tests.{both, first, second, each-intro, each_all, all-mem}
use Rattle.semantics.proofs.Laws.Wider.{Wider, all-wider, wider-same, source-wider}
use Rattle.semantics.proofs.Laws.Form.{Kept, kept, strict-keeps}
use Rattle.semantics.proofs.Laws.Expanded.{Expanded, expanded-few, expanded-each}
use Rattle.semantics.proofs.Laws.Agree.{each-undefeated}
use Rattle.semantics.proofs.Laws.Meaning.{undefeated-few}
use Rattle.record.specs.Reading.{parsed}
use Rattle.record.specs.Layout.{encoded_program}
use Rattle.record.proofs.Laws.Keeps.{keeps-program}
use Rattle.record.proofs.Laws.Reading.{parsed-complete}
use Rattle.quotient.specs.Quotient.{remainder_rule, quotient_program}
use Rattle.quotient.proofs.Laws.Program.{rules-left, quotient-short}

-- F's figures, with what sheets append, are within G's
pub record Within (F G : Limits) : Type 0 where
  pub wider : Wider F G
  pub bytes : (wide F).length ≤ G.length
  pub rules : (wide F).rules ≤ G.rules
  pub heads : F.heads ≤ G.heads
  pub positives : F.positives ≤ G.positives
  pub appended : TakesDefeats F

module _ (F G : Limits) (w : Within F G) where
  -- what is left of options that F takes
  options-taken : (t : Tag) (h : List SignedAtom) (s : LiteralSet) → T (each_of (takes F) (map Signed h)) → T (each_of (takes F) (undefeated t h s))
  options-taken t h s y =
      let P : Literal → Type 0 = λ l. T (takes F l) in
      each_all (takes F) (undefeated t h s) (each-undefeated P t h s (each-intro P (map Signed h) (λ l m. all-mem (takes F) y m)))

  -- a remainder within F's limits is a rule within G's
  kept_rule : (h b : List Literal) → length h ≤ F.heads → length b ≤ F.positives → T (each_of (takes F) h) → T (each_of (takes F) b)
      → T (keeps_rule G (strict h b []))
  kept_rule h b m n y z =
      let taken = all-wider F G w.wider in
      strict-keeps G h b [] (omega (arith, w.heads)) (omega (arith, w.positives)) (omega arith) (taken h y) (taken b z) tt

  LeftKept : Option Remainder → Type 0
  LeftKept none = Unit
  LeftKept (some q) = T (keeps_rule G (remainder_rule q))

  -- what is left of a rule within F's limits
  remainder-kept : (r : Rule) (s : LiteralSet) → T (keeps_rule F r) → LeftKept (remainder r s)
  unfolding remainder LeftKept remainder_rule head positive unless_empty
  remainder-kept (strict h b c) s k = go (some_of s c)
    where
      go : (x : Bool) → LeftKept (cond x none (some (record { head = h; positive = b })))
      go true = tt
      go false = let n = kept F (strict h b c) k in kept_rule h b n.heads n.positives n.head-taken n.positive-taken
  remainder-kept (defeasible t h b c) s k = go (some_of s c) (undefeated t h s) (options-taken t h s n.head-taken) (undefeated-few t h s)
    where
      n : Kept F (defeasible t h b c)
      n = kept F (defeasible t h b c) k

      go : (x : Bool) (ls : List Literal) → T (each_of (takes F) ls) → length ls ≤ length h → LeftKept (cond x none (unless_empty ls b))
      go true ls y m = tt
      go false [] y m = tt
      go false (l ∷ ls) y m = kept_rule (l ∷ ls) b (omega (arith, n.heads, length-map h Signed)) n.positives y n.positive-taken

  -- the quotient of a program within F's limits
  rules-kept : (p : Program) (s : LiteralSet) → T (each_of (keeps_rule F) p) → T (each_of (keeps_rule G) (map remainder_rule (quotient p s)))
  unfolding quotient LeftKept with_remainder
  rules-kept [] s k = tt
  rules-kept (r ∷ p) s k = go (remainder r s) (remainder-kept r s (first (keeps_rule F r) _ k)) (rules-kept p s (second (keeps_rule F r) _ k))
    where
      go : (o : Option Remainder) → LeftKept o → T (each_of (keeps_rule G) (map remainder_rule (quotient p s)))
          → T (each_of (keeps_rule G) (map remainder_rule (with_remainder o (quotient p s))))
      go none v y = y
      go (some q) v y = both (keeps_rule G (remainder_rule q)) (each_of (keeps_rule G) (map remainder_rule (quotient p s))) v y

-- a quotient is read, in a form whose figures are as large, as the program that it is
pub quotient-read : (F G : Limits) → Within F G → (p : Program) (ls : List Literal) → Expanded F p → length (encoded_program p) ≤ (wide F).length
    → parsed G (encoded_program (quotient_program p ls)) ≡ Ok (quotient_program p ls)
unfolding quotient_program wide
quotient-read F G w p ls e short =
    let q = quotient p (set_of ls) in
    parsed-complete G (map remainder_rule q)
    (keeps-program G (map remainder_rule q) (omega (arith, length-map q remainder_rule, rules-left (set_of ls) p, expanded-few F p e, w.rules))
    (rules-kept F G w p (set_of ls) (expanded-each F p e w.appended)) (omega (arith, quotient-short p (set_of ls), w.bytes)))

-- both forms' figures are within the plain form's
pub source-within : Within source plain
unfolding source plain most_kind wide
source-within =
    record {
      wider = source-wider;
      bytes = omega arith;
      rules = omega arith;
      heads = omega arith;
      positives = omega arith;
      appended = record { heads = omega arith; positives = omega arith };
    }

pub plain-within : Within plain plain
unfolding plain wide
plain-within =
    record {
      wider = wider-same plain;
      bytes = omega arith;
      rules = omega arith;
      heads = omega arith;
      positives = omega arith;
      appended = record { heads = omega arith; positives = omega arith };
    }

-- The rule in numbers that is taken from a record is the record's rule in numbers.
-- Assumes nothing.
use Prim.Native.Nat.{ℕ, ◌+◌, ◌*◌}
use native.Mathlib.Omega.{arith}
use mathlib.Core.Path.{◌≡◌, ◌∙◌, ap}
use mathlib.Core.List.{List, ◌++◌, map, map-map}
use lib.ListN.{length, drop}
use Rattle.literal.specs.declared.Literal.{Literal}
use Rattle.literal.specs.declared.Literal.TheVariants.{Signed}
use Rattle.semantics.specs.Rule.{Rule, strict, defeasible, head, positive, naf}
use Rattle.record.specs.Header.{head_count, positive_count, naf_count}
use Rattle.record.specs.Layout.{encoded_literals}
use Rattle.record_walk.specs.Code.{Starts}
use Rattle.record_walk.proofs.Laws.Fields.{Fields, strict-fields, defeasible-fields, literals-first, literals-next}
use Rattle.aspif_meaning.specs.Program.{numbered}
use Rattle.aspif_place.specs.Code.{place, number_at_place, number_in}
use Rattle.aspif_number.specs.Code.{places_at}
use Rattle.aspif_number.proofs.Laws.Place.{places-spelled}
use Rattle.aspif_rule.specs.Code.{numbers_at, ground_at}

module _ (bits t : List ℕ) where
  -- the numbers of literals that stand in a slice
  numbers-spelled : (ls : List Literal) (at n : ℕ) (rest : List ℕ) → n ≡ length ls → drop at t ≡ encoded_literals ls ++ rest
      → numbers_at bits t at n ≡ map (number_in bits) ls
  unfolding numbers_at
  numbers-spelled ls at n rest count e =
      ap (λ (k : ℕ). map (number_at_place bits) (places_at t at k)) count ∙ ap (map (number_at_place bits)) (places-spelled t ls at rest e)
      ∙ map-map (number_at_place bits) place ls

  fields-ground : (letter tag : ℕ) (h b c : List Literal) (rest : List ℕ) → Fields t letter tag h b c rest
      → ground_at bits t ≡ record { head = map (number_in bits) h; positive = map (number_in bits) b; naf = map (number_in bits) c }
  unfolding ground_at
  fields-ground letter tag h b c rest f =
      λ i.
      record {
        head = numbers-spelled h 7 (head_count t) (encoded_literals (b ++ c) ++ rest) f.heads (literals-first (drop 7 t) rest h (b ++ c) f.literals) i;
        positive =
            numbers-spelled b (7 + 5 * head_count t) (positive_count t) (encoded_literals c ++ rest) f.positives
            (ap (λ (k : ℕ). drop k t) first ∙ literals-first (drop (7 + 5 * length h) t) rest b c behind) i;
        naf =
            numbers-spelled c (7 + 5 * (head_count t + positive_count t)) (naf_count t) rest f.nafs
            (ap (λ (k : ℕ). drop k t) second ∙ literals-next t rest (7 + 5 * length h) b c behind) i;
      }
    where
      behind : drop (7 + 5 * length h) t ≡ encoded_literals (b ++ c) ++ rest
      behind = literals-next t rest 7 h (b ++ c) f.literals

      first : 7 + 5 * head_count t ≡ 7 + 5 * length h
      first = omega (arith, f.heads)

      second : 7 + 5 * (head_count t + positive_count t) ≡ 7 + 5 * length h + 5 * length b
      second = omega (arith, f.heads, f.positives)

  pub rule-ground : (r : Rule) → Starts t r → ground_at bits t ≡ numbered (number_in bits) r
  unfolding numbered head positive naf
  rule-ground (strict h b c) w = fields-ground _ _ h b c _ (strict-fields t h b c w)
  rule-ground (defeasible g h b c) w = fields-ground _ _ (map Signed h) b c _ (defeasible-fields t g h b c w)

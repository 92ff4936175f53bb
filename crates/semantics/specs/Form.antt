-- Rules, programs and sets of a form (01, "Source form and plain form"), and those over a source's kinds alone.
-- In order: sets over a form's literals; rules within a form's limits; programs; items of a file; the rules that sheets append;
-- the limits of a program with those; rules and sets over source kinds.
-- Not here: the length in bytes (`record`), the figures (`literal`).
-- Assumes nothing.
use Rattle.std.specs.Prelude.{ℕ, ◌+◌, ◌*◌, ◌≤◌, Bool, true, false, not, ◌&&◌, List, [], ◌∷◌, T, leb, length}
use Rattle.literal.specs.declared.Limits.{Limits}
use Rattle.literal.specs.declared.Literal.{Literal}
use Rattle.literal.specs.declared.Literal.TheVariants.{Signed, Defeated, Derived, RuleDefeated}
use Rattle.literal.specs.Literal.{takes, in_range}
use Rattle.semantics.specs.Set.{LiteralSet, each_of, same_tag, same_signed}
use Rattle.semantics.specs.Rule.{Rule, strict, defeasible, Program, head, positive, naf}
use Rattle.semantics.specs.Extension.{source_kind}
use Rattle.semantics.specs.Expansion.{Override, Opposition}
use Rattle.semantics.specs.Item.{Item, rule, override, opposition, rules, overrides, oppositions}

-- a set of the form's literals, of any size
abbrev pub SetOf : Limits → LiteralSet → Type 0
SetOf F s = (l : Literal) → T (s l) → T (takes F l)

-- the counts are within the form's
unfoldable pub keeps_counts : Limits → ℕ → ℕ → ℕ → Bool
keeps_counts F h b c = leb h F.heads && (leb b F.positives && leb c F.nafs)

-- each literal of the rule is one of the form's
unfoldable pub keeps_literals : Limits → Rule → Bool
keeps_literals F r = each_of (takes F) (head r) && (each_of (takes F) (positive r) && each_of (takes F) (naf r))

-- a defeasible rule is of a form that has them, with a tag of the form's and one option or more
unfoldable pub keeps_tag : Limits → Rule → Bool
keeps_tag F (strict h b c) = true
keeps_tag F (defeasible t h b c) = F.defeasible && (in_range F.tags t.0 && leb 1 (length h))

-- a rule within the form's limits
unfoldable pub keeps_rule : Limits → Rule → Bool
keeps_rule F r = keeps_tag F r && (keeps_counts F (length (head r)) (length (positive r)) (length (naf r)) && keeps_literals F r)

-- a program within the form's limits, but for its length in bytes
unfoldable pub keeps_rules : Limits → Program → Bool
keeps_rules F p = leb (length p) F.rules && each_of (keeps_rule F) p

-- two tags of the form's, and two of its atoms or negated atoms, that differ
unfoldable pub keeps_override : Limits → Override → Bool
keeps_override F o = (in_range F.tags o.upper.0 && in_range F.tags o.lower.0) && not (same_tag o.upper o.lower)

unfoldable pub keeps_opposition : Limits → Opposition → Bool
keeps_opposition F x = (takes F (Signed x.one) && takes F (Signed x.other)) && not (same_signed x.one x.other)

-- an item within the form's limits
unfoldable pub keeps_item : Limits → Item → Bool
keeps_item F (rule r) = keeps_rule F r
keeps_item F (override o) = keeps_override F o
keeps_item F (opposition x) = keeps_opposition F x

-- a file's items within the form's limits, but for their length in bytes: so many rules, overrides and oppositions, and each item
unfoldable pub keeps_items : Limits → List Item → Bool
keeps_items F is =
    (leb (length (rules is)) F.rules && (leb (length (overrides is)) F.sheets && leb (length (oppositions is)) F.sheets)) && each_of (keeps_item F) is

-- "defeated (t, b) if a", as sheets append it, of the form's literals
unfoldable pub keeps_defeat : Limits → Rule → Bool
keeps_defeat F (defeasible t h b c) = false
keeps_defeat F (strict [] b c) = false
keeps_defeat F (strict (Signed x ∷ h) b c) = false
keeps_defeat F (strict (Derived t x ∷ h) b c) = false
keeps_defeat F (strict (RuleDefeated n ∷ h) b c) = false
keeps_defeat F (strict (Defeated t x ∷ l ∷ h) b c) = false
keeps_defeat F (strict (Defeated t x ∷ []) [] c) = false
keeps_defeat F (strict (Defeated t x ∷ []) (Defeated u y ∷ b) c) = false
keeps_defeat F (strict (Defeated t x ∷ []) (Derived u y ∷ b) c) = false
keeps_defeat F (strict (Defeated t x ∷ []) (RuleDefeated n ∷ b) c) = false
keeps_defeat F (strict (Defeated t x ∷ []) (Signed y ∷ l ∷ b) c) = false
keeps_defeat F (strict (Defeated t x ∷ []) (Signed y ∷ []) (l ∷ c)) = false
keeps_defeat F (strict (Defeated t x ∷ []) (Signed y ∷ []) []) = takes F (Defeated t x) && takes F (Signed y)

-- a form that takes appended rules: they have one literal in the head, and one in the body
pub record TakesDefeats (F : Limits) : Type 0 where
  pub heads : 1 ≤ F.heads
  pub positives : 1 ≤ F.positives

-- how many rules the sheets of a file append at most: two for each override with each opposition
abbrev pub most_appended : Limits → ℕ
most_appended F = 2 * (F.sheets * F.sheets)

-- the limits of a program with the rules that sheets append, 17 bytes each: it has no sheets of its own
unfoldable pub wide : Limits → Limits
wide F =
    record {
      length = F.length + 17 * most_appended F;
      rules = F.rules + most_appended F;
      sheets = 0;
      heads = F.heads;
      positives = F.positives;
      nafs = F.nafs;
      defeasible = F.defeasible;
      kinds = F.kinds;
      atoms = F.atoms;
      tags = F.tags;
      numbers = F.numbers;
      literals = F.literals;
      checked = F.checked;
    }

-- a rule, and a set, of literals of kinds 0 to 3, whatever their numbers
unfoldable pub source_rule : Rule → Bool
source_rule r = each_of source_kind (head r) && (each_of source_kind (positive r) && each_of source_kind (naf r))

abbrev pub SourceSet : LiteralSet → Type 0
SourceSet s = (l : Literal) → T (s l) → T (source_kind l)

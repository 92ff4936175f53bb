-- Preference sheets, and the defeat rules that they make (02, Ask 2; 000, Example 1).
-- In order: overrides and oppositions; a defeat; what an override makes of one way of a pair, of a pair, of all pairs; what all
-- overrides make; each once; the rules that are appended. Not here: the items of a file (`Item`), bytes (`record`).
-- Assumes nothing.
use Rattle.std.specs.Prelude.{Bool, cond, ◌&&◌, List, [], ◌∷◌, ◌++◌, map}
use Rattle.literal.specs.declared.Tag.{Tag}
use Rattle.literal.specs.declared.SignedAtom.{SignedAtom}
use Rattle.literal.specs.declared.Literal.TheVariants.{Signed, Defeated}
use Rattle.semantics.specs.Set.{some_of, same_tag, same_signed}
use Rattle.semantics.specs.Rule.{Rule, strict, Program}
use Rattle.semantics.specs.Extension.{offers}

-- "the upper tag overrides the lower tag"
pub record Override : Type 0 where
  pub upper : Tag
  pub lower : Tag

-- "the one option and the other oppose"
pub record Opposition : Type 0 where
  pub one : SignedAtom
  pub other : SignedAtom

-- what a sheet may make: the loser's mark under the lower tag, if the winner
pub record Defeat : Type 0 where
  pub lower : Tag
  pub loser : SignedAtom
  pub winner : SignedAtom

unfoldable pub same_defeat : Defeat → Defeat → Bool
same_defeat d e = same_tag d.lower e.lower && (same_signed d.loser e.loser && same_signed d.winner e.winner)

-- as a strict rule: "defeated (lower, loser) if winner"
unfoldable pub defeat_rule : Defeat → Rule
defeat_rule d = strict (Defeated d.lower d.loser ∷ []) (Signed d.winner ∷ []) []

-- a defeasible rule of p with this tag heads this option
unfoldable pub heads : Program → Tag → SignedAtom → Bool
heads p t a = some_of (offers t a) p

-- the pair (a, b), taken this way: made if a defeasible rule with the upper tag heads a and one with the lower tag heads b
unfoldable pub made_way : Program → Override → SignedAtom → SignedAtom → List Defeat
made_way p o a b =
    cond (heads p o.upper a && heads p o.lower b) (record { lower = o.lower; loser = b; winner = a } ∷ []) []

-- both ways, as written first
unfoldable pub made_pair : Program → Override → Opposition → List Defeat
made_pair p o x = made_way p o x.one x.other ++ made_way p o x.other x.one

-- one override with each opposition in order
unfoldable pub made_by : Program → Override → List Opposition → List Defeat
made_by p o [] = []
made_by p o (x ∷ xs) = made_pair p o x ++ made_by p o xs

-- each override in order
unfoldable pub made : Program → List Override → List Opposition → List Defeat
made p [] xs = []
made p (o ∷ os) xs = made_by p o xs ++ made p os xs

-- each unless it was appended before: `done` are those that were
unfoldable pub unless_before : List Defeat → List Defeat → List Defeat
unless_before done [] = []
unless_before done (d ∷ ds) = cond (some_of (same_defeat d) done) (unless_before done ds) (d ∷ unless_before (d ∷ done) ds)

-- the strict rules that are appended to a program's written ones
unfoldable pub appended : Program → List Override → List Opposition → Program
appended p os xs = map defeat_rule (unless_before [] (made p os xs))

-- What preference sheets append (02, Ask 2), as code finds it: each candidate by itself is new or not, and no candidate is looked for.
-- In order: oppositions of one pair; oppositions, each pair once; an override overruled by one before; what one way of a pair, a pair,
-- all pairs add for an override; what all overrides add. That this is what `Expansion` appends is `appended-added`.
-- Assumes nothing.
use Rattle.std.specs.Prelude.{Bool, cond, not, ◌&&◌, ◌||◌, List, [], ◌∷◌, ◌++◌}
use Rattle.literal.specs.declared.SignedAtom.{SignedAtom}
use Rattle.semantics.specs.Set.{some_of, same_tag, same_signed}
use Rattle.semantics.specs.Rule.{Program}
use Rattle.semantics.specs.Expansion.{Override, Opposition, Defeat, heads}

-- the two options of an opposition are a and b, either way round
unfoldable pub same_pair : SignedAtom → SignedAtom → Opposition → Bool
same_pair a b x = (same_signed a x.one && same_signed b x.other) || (same_signed a x.other && same_signed b x.one)

-- one opposition more, unless its pair is there; and all of them in order
unfoldable pub with_pair : List Opposition → Opposition → List Opposition
with_pair xs x = cond (some_of (same_pair x.one x.other) xs) xs (xs ++ x ∷ [])

unfoldable pub each_pair : List Opposition → List Opposition → List Opposition
each_pair ys [] = ys
each_pair ys (x ∷ xs) = each_pair (with_pair ys x) xs

-- an override before has the same lower tag, and a defeasible rule with its upper tag heads a: what this way makes was made
unfoldable pub overruled : Program → List Override → Override → SignedAtom → Bool
overruled p before o a = some_of (λ n. same_tag o.lower n.lower && heads p n.upper a) before

-- the pair (a, b), taken this way, behind the overrides before
unfoldable pub added_way : Program → List Override → Override → SignedAtom → SignedAtom → List Defeat
added_way p before o a b =
    cond ((heads p o.upper a && heads p o.lower b) && not (overruled p before o a)) (record { lower = o.lower; loser = b; winner = a } ∷ []) []

unfoldable pub added_pair : Program → List Override → Override → Opposition → List Defeat
added_pair p before o x = added_way p before o x.one x.other ++ added_way p before o x.other x.one

unfoldable pub added_by : Program → List Override → Override → List Opposition → List Defeat
added_by p before o [] = []
added_by p before o (x ∷ xs) = added_pair p before o x ++ added_by p before o xs

unfoldable pub added : Program → List Override → List Override → List Opposition → List Defeat
added p before [] xs = []
added p before (o ∷ os) xs = added_by p before o xs ++ added p (before ++ o ∷ []) os xs

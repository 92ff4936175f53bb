-- Rules and programs (01, "Records" and "Meaning"), without bytes and limits. A rule's number is its position, from 1.
-- In order: rules; programs; what a quotient leaves of a rule.
-- Assumes nothing.
use Rattle.std.specs.Prelude.{List, map}
use Rattle.literal.specs.declared.Tag.{Tag}
use Rattle.literal.specs.declared.SignedAtom.{SignedAtom}
use Rattle.literal.specs.declared.Literal.{Literal}
use Rattle.literal.specs.declared.Literal.TheVariants.{Signed}

-- a strict rule: head, positive body and naf literals. A defeasible one has a tag, and its head literals, the options,
-- are atoms or negated atoms: no mark can be chosen. Naf is default negation
pub data Rule : Type 0 where
  strict : List Literal → List Literal → List Literal → Rule
  defeasible : Tag → List SignedAtom → List Literal → List Literal → Rule

abbrev pub Program : Type 0
Program = List Rule

-- a rule's head, positive body and naf literals
unfoldable pub head : Rule → List Literal
head (strict h b c) = h
head (defeasible t h b c) = map Signed h

unfoldable pub positive : Rule → List Literal
positive (strict h b c) = b
positive (defeasible t h b c) = b

unfoldable pub naf : Rule → List Literal
naf (strict h b c) = c
naf (defeasible t h b c) = c

-- a rule of a quotient: no naf literals and no tag
pub record Remainder : Type 0 where
  pub head : List Literal
  pub positive : List Literal

-- The one-to-one match of answer sets (01, "Translation"; 001, Theorem 1), on programs: what is to be believed of the
-- translation, as types. `proofs/Match.antt` proves them.
-- In order: the match over source kinds, whatever the numbers; the match over two forms' literals.
-- Assumes nothing.
use Rattle.std.specs.Prelude.{◌≡◌, ◌↔◌}
use Rattle.literal.specs.declared.Limits.{Limits}
use Rattle.semantics.specs.Set.{LiteralSet}
use Rattle.semantics.specs.Rule.{Program}
use Rattle.semantics.specs.Meaning.{AnswerSet}
use Rattle.semantics.specs.Translation.{translation}
use Rattle.semantics.specs.Extension.{extension}
use Rattle.semantics.specs.Form.{SetOf, SourceSet}

-- m is the extension of exactly one of the sets of which Within holds
pub record OneSource (p : Program) (Within : LiteralSet → Type 0) (m : LiteralSet) : Type 0 where
  pub set : LiteralSet
  pub within : Within set
  pub extends : extension p set ≡ m
  pub only : (s : LiteralSet) → Within s → extension p s ≡ m → s ≡ set

-- p's answer sets among the sets of which Within holds, and its translation's answer sets among those of which
-- Plain holds, match one to one: a set is an answer set of p exactly if its extension is one of the translation, and
-- every answer set of the translation is the extension of exactly one set
pub record Match (p : Program) (Within Plain : LiteralSet → Type 0) : Type 0 where
  pub extends : (s : LiteralSet) → Within s → AnswerSet p s ↔ AnswerSet (translation p) (extension p s)
  pub plain : (s : LiteralSet) → Within s → Plain (extension p s)
  pub returns : (m : LiteralSet) → Plain m → AnswerSet (translation p) m → OneSource p Within m

-- the match over literals of kinds 0 to 3 and over all literals
pub record AnySet (m : LiteralSet) : Type 0 where

abbrev pub KindMatch : Program → Type 0
KindMatch p = Match p SourceSet AnySet

-- the match over the literals of form F and of form G
abbrev pub FormMatch : Limits → Limits → Program → Type 0
FormMatch F G p = Match p (SetOf F) (SetOf G)

-- Each form's row of limits (01, "Source form and plain form"; 02, Ask 2), and the largest set that is checked.
-- Every other definition takes a `Limits` and names no number of this table.
-- Assumes nothing.
use Rattle.std.specs.Prelude.{ℕ, true, false}
use Rattle.literal.specs.declared.Limits.{Limits}
use Rattle.literal.specs.declared.Kinds.TheVariants.{SourceKinds, PlainKinds}

-- the rules of the largest programs; arrays with a place for each rule have this length
abbrev pub source_rules : ℕ
source_rules = 256

abbrev pub plain_rules : ℕ
plain_rules = 20992

unfoldable pub source : Limits
source =
    record {
      length = 64388;
      rules = source_rules;
      sheets = 64;
      heads = 16;
      positives = 16;
      nafs = 16;
      defeasible = true;
      kinds = SourceKinds;
      atoms = 500;
      tags = 200;
      numbers = 256;
      literals = 1000;
      checked = 64;
    }

unfoldable pub plain : Limits
plain =
    record {
      length = 456708;
      rules = plain_rules;
      sheets = 0;
      heads = 16;
      positives = 16;
      nafs = 17;
      defeasible = false;
      kinds = PlainKinds;
      atoms = 500;
      tags = 200;
      numbers = 256;
      literals = 5352;
      checked = 64;
    }

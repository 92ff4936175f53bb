-- A program, and a file, within a form's limits: their counts, each rule or item, and their length.
-- Assumes nothing.
use Prim.Native.Nat.{◌≤◌}
use mathlib.Core.Bool.{◌&&◌}
use mathlib.Core.List.{List}
use lib.Dec.{T, leb, leb→le, le→leb}
use lib.ListN.{length}
use Rattle.literal.specs.declared.Limits.{Limits}
use Rattle.semantics.specs.Set.{each_of}
use Rattle.semantics.specs.Rule.{Program}
use Rattle.semantics.specs.Item.{Item, rules, overrides, oppositions}
use Rattle.semantics.specs.Form.{keeps_rule, keeps_rules, keeps_item, keeps_items}
use Rattle.semantics.proofs.Laws.Tests.{both, first, second}
use Rattle.semantics.proofs.Laws.Form.{keeps-count, keeps-each, keeps-rules}
use Rattle.record.specs.Layout.{encoded_program, keeps, encoded_file, keeps_file}

-- the parts
pub record Keeps (F : Limits) (p : Program) : Type 0 where
  pub rules : T (keeps_rules F p)
  pub count : length p ≤ F.rules
  pub each : T (each_of (keeps_rule F) p)
  pub short : length (encoded_program p) ≤ F.length

pub kept-program : (F : Limits) (p : Program) → T (keeps F p) → Keeps F p
unfolding keeps
kept-program F p k =
    let rules = first (keeps_rules F p) _ k in
    record {
      rules = rules;
      count = keeps-count F p rules;
      each = keeps-each F p rules;
      short = leb→le (length (encoded_program p)) F.length (second (keeps_rules F p) _ k);
    }

-- and a program made of them
pub keeps-program : (F : Limits) (p : Program) → length p ≤ F.rules → T (each_of (keeps_rule F) p) → length (encoded_program p) ≤ F.length → T (keeps F p)
unfolding keeps
keeps-program F p count each short = both (keeps_rules F p) _ (keeps-rules F p count each) (le→leb (length (encoded_program p)) F.length short)

-- the parts of a file's limits
pub record KeepsFile (F : Limits) (is : List Item) : Type 0 where
  pub items : T (keeps_items F is)
  pub rules : length (rules is) ≤ F.rules
  pub overrides : length (overrides is) ≤ F.sheets
  pub oppositions : length (oppositions is) ≤ F.sheets
  pub each : T (each_of (keeps_item F) is)
  pub short : length (encoded_file is) ≤ F.length

pub kept-file : (F : Limits) (is : List Item) → T (keeps_file F is) → KeepsFile F is
unfolding keeps_file keeps_items
kept-file F is k =
    let r = leb (length (rules is)) F.rules in
    let o = leb (length (overrides is)) F.sheets in
    let x = leb (length (oppositions is)) F.sheets in
    let within = first (keeps_items F is) _ k in
    let counts = first (r && (o && x)) (each_of (keeps_item F) is) within in
    let sheets = second r (o && x) counts in
    record {
      items = within;
      rules = leb→le (length (rules is)) F.rules (first r (o && x) counts);
      overrides = leb→le (length (overrides is)) F.sheets (first o x sheets);
      oppositions = leb→le (length (oppositions is)) F.sheets (second o x sheets);
      each = second (r && (o && x)) (each_of (keeps_item F) is) within;
      short = leb→le (length (encoded_file is)) F.length (second (keeps_items F is) _ k);
    }

pub keeps-file : (F : Limits) (is : List Item) → length (rules is) ≤ F.rules → length (overrides is) ≤ F.sheets → length (oppositions is) ≤ F.sheets
    → T (each_of (keeps_item F) is) → length (encoded_file is) ≤ F.length → T (keeps_file F is)
unfolding keeps_file keeps_items
keeps-file F is r o x each short =
    let b = leb (length (overrides is)) F.sheets in
    let c = leb (length (oppositions is)) F.sheets in
    both (keeps_items F is) _
    (both (leb (length (rules is)) F.rules && (b && c)) (each_of (keeps_item F) is)
    (both (leb (length (rules is)) F.rules) (b && c) (le→leb (length (rules is)) F.rules r)
    (both b c (le→leb (length (overrides is)) F.sheets o) (le→leb (length (oppositions is)) F.sheets x))) each)
    (le→leb (length (encoded_file is)) F.length short)

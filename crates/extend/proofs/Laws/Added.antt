-- What an extension adds to a list of literals is marks, which stand behind it: those of the written rules, whatever sheets append.
-- Assumes nothing.
use mathlib.Core.Path.{◌≡◌, refl, ap}
use mathlib.Core.List.{List, ◌++◌}
use lib.Dec.{T}
use Rattle.literal.specs.declared.Literal.{Literal}
use Rattle.literal.specs.Order.{sorted}
use Rattle.semantics.specs.Set.{each_of, set_of}
use Rattle.semantics.specs.Rule.{Program}
use Rattle.semantics.specs.Item.{Item, rules, expanded}
use Rattle.semantics.proofs.Laws.Tests.{each_all}
use Rattle.keys.proofs.Laws.Literals.{each-sorted}
use Rattle.extend_marks.specs.Marks.{marks_from}
use Rattle.extend_marks.proofs.Laws.Each.{is_mark, marks-are}
use Rattle.extend_marks.proofs.Laws.Expanded.{marks-expanded}
use Rattle.extend.specs.Extend.{extension_list}

-- the list, and marks behind it
pub extension-marks : (p : Program) (ls : List Literal) → (ms : List Literal) × (extension_list p ls ≡ ls ++ ms) × T (each_of is_mark ms)
unfolding extension_list
extension-marks p ls =
    let ms = marks_from 1 p (set_of ls) in
    (sorted ms, refl, each_all is_mark (sorted ms) (each-sorted (λ l. T (is_mark l)) ms (marks-are (set_of ls) 1 p)))

-- the extension for the program that is meant is that for the written rules
pub extension-written : (is : List Item) (ls : List Literal) → extension_list (expanded is) ls ≡ extension_list (rules is) ls
unfolding extension_list
extension-written is ls = ap (λ (ms : List Literal). ls ++ sorted ms) (marks-expanded (set_of ls) is)

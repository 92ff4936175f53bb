-- The law of extending: the list that is written is, as a set, the extension of the set that was read, and it ascends.
-- In order: the extension as a list and as a set; the ascending list, and the same for a set that a form takes.
-- Assumes nothing.
use Prim.Native.Nat.{◌≤◌, ◌<◌}
use native.Mathlib.Omega.{arith}
use mathlib.Core.Path.{◌≡◌, sym, ◌∙◌, ap}
use mathlib.Core.Bool.{Bool, ◌||◌}
use mathlib.Core.List.{List}
use lib.Dec.{T}
use lib.ListN.{length}
use Rattle.literal.specs.declared.Limits.{Limits}
use Rattle.literal.specs.declared.Literal.{Literal}
use Rattle.literal.specs.Literal.{most_kind, takes}
use Rattle.literal.specs.Order.{key, sorted}
use Rattle.literal.proofs.Laws.Literal.{Fits, TwoBytes, takes-fits}
use Rattle.semantics.specs.Set.{each_of, same_literal, set_of}
use Rattle.semantics.specs.Rule.{Program}
use Rattle.semantics.specs.Extension.{extension, source_kind}
use Rattle.semantics.proofs.Laws.Tests.{Each, each-intro, any_append, all-intro, all-mem, along}
use Rattle.semantics.proofs.Laws.Set.{set-ext}
use Rattle.semantics.proofs.Laws.Agree.{Speaks}
use Rattle.semantics.proofs.Laws.Form.{takes-source}
use Rattle.set.specs.Layout.{ascending}
use Rattle.keys.proofs.Laws.Literals.{each-sorted, in-sorted}
use Rattle.extend_marks.specs.Marks.{marks_from}
use Rattle.extend_marks.proofs.Laws.Members.{marks-added}
use Rattle.extend.specs.Extend.{extension_list}
use Rattle.extend.specs.Code.{Extendable}
use Rattle.extend.proofs.Laws.Narrow.{marks-fit}
use Rattle.extend.proofs.Laws.Inserted.{ascending-sorted, ascending-append}
use Rattle.extend.proofs.Laws.Places.{first_mark, not-below-marks, below-literals}

-- a literal is in the list exactly if it is in the extension
in_list : (p : Program) (ls : List Literal) → Each Fits (marks_from 1 p (set_of ls)) → (l : Literal) → set_of (extension_list p ls) l ≡ extension p (set_of ls) l
unfolding extension_list extension
in_list p ls h l =
    any_append (same_literal l) ls (sorted (marks_from 1 p (set_of ls)))
    ∙ ap (λ (b : Bool). set_of ls l || b) (in-sorted l (marks_from 1 p (set_of ls)) h ∙ marks-added p (set_of ls) l)

-- the list as a set is the extension, for a program whose literals and rule numbers fit two bytes
pub extension-list : (p : Program) → length p < 65536 → Each (Speaks Fits) p → (ls : List Literal) → set_of (extension_list p ls) ≡ extension p (set_of ls)
extension-list p few fit ls =
    let h = marks-fit (set_of ls) 1 p (omega arith) fit in
    set-ext (set_of (extension_list p ls)) (extension p (set_of ls)) (λ l y. along (in_list p ls h l) y) (λ l y. along (sym (in_list p ls h l)) y)

-- the list ascends, for an ascending list of literals of source kinds whose fields fit two bytes
pub extension-ascending : (p : Program) (ls : List Literal) → T (each_of source_kind ls) → Each Fits ls → T (ascending ls) → T (ascending (extension_list p ls))
unfolding extension_list
extension-ascending p ls s f a =
    let ms = marks_from 1 p (set_of ls) in
    ascending-append first_mark ls (sorted ms) (below-literals ls s f) (each-sorted (λ l. first_mark ≤ key l) ms (not-below-marks (set_of ls) 1 p)) a
    (ascending-sorted ms)

-- and for an ascending list of literals that a form without marks takes
pub extension-ascending-form : (F : Limits) → Extendable F → most_kind F.kinds ≤ 3 → (p : Program) (ls : List Literal)
    → T (each_of (takes F) ls) → T (ascending ls) → T (ascending (extension_list p ls))
extension-ascending-form F ok k p ls t a =
    let narrow : TwoBytes F = record { atoms = ok.atoms; tags = ok.tags; numbers = λ most. absurd (omega arith) } in
    extension-ascending p ls (all-intro source_kind ls (λ l m. takes-source F k l (all-mem (takes F) t m)))
    (each-intro Fits ls (λ l m. takes-fits F narrow l (all-mem (takes F) t m))) a

-- The extension of a set of one form is a set of another that covers it: what is written can be read there. The program is one within the
-- form's limits, with the rules that sheets append to it.
-- In order: the number of literals; the law for two forms.
-- Assumes nothing.
use Prim.Native.Nat.{◌+◌, ◌≤◌}
use native.Mathlib.Omega.{arith}
use mathlib.Core.Path.{ap}
use mathlib.Core.List.{List}
use lib.Dec.{T}
use lib.ListN.{length, length-append}
use Rattle.literal.specs.declared.Limits.{Limits}
use Rattle.literal.specs.declared.Literal.{Literal}
use Rattle.literal.specs.Literal.{most_kind, takes}
use Rattle.literal.specs.Order.{sorted}
use Rattle.literal.proofs.Laws.Literal.{Fits}
use Rattle.semantics.specs.Set.{LiteralSet, set_of}
use Rattle.semantics.specs.Rule.{Program}
use Rattle.semantics.specs.Form.{SetOf}
use Rattle.semantics.proofs.Laws.Tests.{Each, all-intro, all-mem, along}
use Rattle.semantics.proofs.Laws.Agree.{Speaks}
use Rattle.semantics.proofs.Laws.Set.{set-of-mem, mem-set-of}
use Rattle.semantics.proofs.Laws.Form.{takes-source, Covers, extension-within}
use Rattle.semantics.proofs.Laws.Expanded.{Expanded, expanded-each, expanded-few, expanded-numbered}
use Rattle.set.specs.Layout.{keeps_set}
use Rattle.set.proofs.Laws.Reading.{keeps-set, keeps-set-ascending, keeps-set-taken, keeps-set-most}
use Rattle.keys.proofs.Laws.Literals.{length-sorted}
use Rattle.extend_marks.specs.Marks.{marks_from}
use Rattle.extend_marks.proofs.Laws.Count.{length-program}
use Rattle.extend_marks.proofs.Laws.Expanded.{marks-written}
use Rattle.extend.specs.Extend.{extension_list}
use Rattle.extend.specs.Code.{most, Extendable}
use Rattle.extend.proofs.Laws.Gathered.{markable}
use Rattle.extend.proofs.Laws.Extend.{extension-list, extension-ascending-form}

module _ (F : Limits) (ok : Extendable F) (p : Program) (e : Expanded F p) where
  -- the marks are no more than the limits leave room for
  pub length-extension : (ls : List Literal) → length (extension_list p ls) ≤ length ls + most
  unfolding extension_list
  length-extension ls =
      let ms = marks_from 1 p (set_of ls) in
      omega (
        arith,
        length-append ls (sorted ms),
        length-sorted ms,
        ap length (marks-written (set_of ls) F p e),
        length-program (set_of ls) 1 e.written,
        (markable F ok e.written e.keeps).fits,
      )

  -- the list is a set within the limits of a form that covers F
  pub extension-keeps : Each (Speaks Fits) p → (G : Limits) → Covers F G → most_kind F.kinds ≤ 3 → F.literals + most ≤ G.literals → (ls : List Literal)
      → T (keeps_set F F.literals ls) → T (keeps_set G G.literals (extension_list p ls))
  extension-keeps fit G covers kinds room ls h =
      let taken = keeps-set-taken F F.literals ls h in
      let inside : SetOf F (set_of ls) = λ l y. all-mem (takes F) taken (mem-set-of l ls y) in
      let within = extension-within F G covers p (expanded-each F p e ok.appended) (expanded-numbered F p e) (set_of ls)
      (λ l y. takes-source F kinds l (inside l y)) inside in
      let size = length-extension ls in
      let count = keeps-set-most F F.literals ls h in
      let same = extension-list p (omega (arith, expanded-few F p e, ok.rules)) fit ls in
      keeps-set G G.literals (extension_list p ls) (extension-ascending-form F ok kinds p ls taken (keeps-set-ascending F F.literals ls h))
      (all-intro (takes G) (extension_list p ls) (λ l m. within l (along (ap (λ (u : LiteralSet). u l) same) (set-of-mem m))))
      (omega (arith, size, count)) (omega (arith, size, count, ok.total))

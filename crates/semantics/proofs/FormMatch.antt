-- The one-to-one match over two forms' literals: F takes kinds 0 to 3 alone, and G covers F. The limits are parameters. The program is one
-- within F's limits, with the rules that sheets append to it.
-- Assumes nothing.
use Prim.Native.Nat.{◌≤◌}
use mathlib.Core.Path.{sym, ◌∙◌, subst}
use lib.Dec.{T}
use Rattle.literal.specs.declared.Limits.{Limits}
use Rattle.literal.specs.Literal.{most_kind, takes}
use Rattle.semantics.specs.Set.{LiteralSet, each_of}
use Rattle.semantics.specs.Rule.{Program}
use Rattle.semantics.specs.Meaning.{AnswerSet}
use Rattle.semantics.specs.Translation.{translation}
use Rattle.semantics.specs.Extension.{restriction}
use Rattle.semantics.specs.Form.{SetOf, keeps_rule, TakesDefeats, source_rule, SourceSet}
use Rattle.semantics.specs.Match.{FormMatch}
use Rattle.semantics.proofs.Laws.Tests.{all-mem}
use Rattle.semantics.proofs.Laws.Extension.{extension-injective, restriction-source}
use Rattle.semantics.proofs.Laws.Heads.{answer-set-head}
use Rattle.semantics.proofs.Laws.Form.{kept, takes-source, source-rules, Covers, extension-within}
use Rattle.semantics.proofs.Laws.Expanded.{Expanded, expanded-each, expanded-numbered}
use Rattle.semantics.proofs.Match.{extension-iff, extension-restriction}

-- an answer set of a program within a form's limits is a set of the form's literals
pub answer-set-within : (F : Limits) (p : Program) → T (each_of (keeps_rule F) p) → (s : LiteralSet) → AnswerSet p s → SetOf F s
answer-set-within F p k s a l y =
    let w = answer-set-head a l y in
    all-mem (takes F) (kept F w.0 (all-mem (keeps_rule F) k w.1)).head-taken w.2

module _ (F G : Limits) (kinds : most_kind F.kinds ≤ 3) (ok : TakesDefeats F) (covers : Covers F G) (p : Program) (e : Expanded F p) where
  keeps : T (each_of (keeps_rule F) p)
  keeps = expanded-each F p e ok

  source-set : (s : LiteralSet) → SetOf F s → SourceSet s
  source-set s within l y = takes-source F kinds l (within l y)

  sources : T (each_of source_rule p)
  sources = source-rules F kinds p keeps

  restricted : (m : LiteralSet) → AnswerSet (translation p) m → AnswerSet p (restriction m)
  restricted m a =
      (extension-iff p sources (restriction m) (restriction-source m)).1
      (subst (AnswerSet (translation p)) (sym (extension-restriction p sources m a)) a)

  pub form-match : FormMatch F G p
  form-match =
      record {
        extends = λ s within. extension-iff p sources s (source-set s within);
        plain = λ s within. extension-within F G covers p keeps (expanded-numbered F p e) s (source-set s within) within;
        returns =
            λ m within a.
            record {
              set = restriction m;
              within = answer-set-within F p keeps (restriction m) (restricted m a);
              extends = extension-restriction p sources m a;
              only = λ s inside same.
                  extension-injective p s (restriction m) (source-set s inside) (restriction-source m) (same ∙ sym (extension-restriction p sources m a));
            };
      }

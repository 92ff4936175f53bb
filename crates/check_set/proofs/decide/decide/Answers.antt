-- `decide::decide` meets its contract: what the search found, and its record where it found something.
use Rattle.std.proofs.Common.{ℕ, refl, sym, ap, subst, None, Some}
use Rattle.buffer.proofs.Laws.Write.{write-nil}
use Rattle.check_force.specs.Code.{Smaller}
use Rattle.check_search.specs.Code.{Never, Least}
use Rattle.check_set.specs.declared.Verdict.{Verdict}
use Rattle.check_set.proofs.decide.decide.Goals as goal

pub returns-in-None : goal.returns-in-None
returns-in-None c =
    record {
      model = None;
      first = subst (λ (m : ℕ). Never (Smaller m c.args.clauses.now)) c.all_below.ensures c.in-None.ensures;
      answer = refl;
      buffer = sym (write-nil c.args.out.now 0);
    }

pub returns-in-Some : goal.returns-in-Some
returns-in-Some c =
    record {
      model = Some c.in-Some.model;
      first = subst (λ (m : ℕ). Least (Smaller m c.args.clauses.now) c.in-Some.model) c.all_below.ensures c.in-Some.ensures;
      answer = ap Verdict.Smaller c.write_picked.ensures.size;
      buffer = c.write_picked.ensures.bytes;
    }

-- `translate::translate` meets its contract: the refusal of reading, or what is written of the program that is meant.
-- Assumes nothing.
use Rattle.std.proofs.Common.{sym, subst, ◌∙◌}
use Rattle.std.proofs.lemmas.Result.{err_from_is_err_and}
use Rattle.translate.proofs.Laws.Translate.{refused-met, given, read-met, given-file, file-met}
use Rattle.semantics.specs.Item.{expanded}
use Rattle.record.specs.Meets.{Meets}
use Rattle.translate.specs.Code.{translation_of}
use Rattle.expand.proofs.Laws.File.{means-expandable, normal-of}
use Rattle.translate.proofs.translate.translate.Goals as goal

pub returns-in_err-held : goal.returns-in_err-held
returns-in_err-held c =
    let a = c.args in
    let p = err_from_is_err_and c.from_residual.result c.from_residual.ensures.1 in
    rw (p.1, p.2) (refused-met a.lim a.s.now a.out.now _ (sym c.read_items.ensures ∙ c.in_err-held.was))

pub with_normal-requires-clause-file : goal.with_normal-requires-clause-file
with_normal-requires-clause-file c =
    let a = c.args in
    means-expandable (given-file a.lim a.s.now a.out.now c.requires.writable (λ i. (c.type_inv.s i).fits) _ (sym c.read_items.ensures ∙ c.in_ok-held.was)
    c.requires.normalizable)

pub with_normal-requires-clause-callable : goal.with_normal-requires-clause-callable
with_normal-requires-clause-callable c t o is same =
    let a = c.args in
    normal-of (given-file a.lim a.s.now a.out.now c.requires.writable (λ i. (c.type_inv.s i).fits) _ (sym c.read_items.ensures ∙ c.in_ok-held.was)
    c.requires.normalizable) is

pub returns-then-has_sheets : goal.returns-then-has_sheets
unfolding normal-of
returns-then-has_sheets c =
    let a = c.args in
    let e = c.with_normal.ensures in
    file-met a.lim a.s.now a.out.now c.requires.writable (λ i. (c.type_inv.s i).fits) _ (sym c.read_items.ensures ∙ c.in_ok-held.was)
    c.requires.normalizable (λ w.
    subst (λ o. Meets (translation_of (expanded w.items) o) c.with_normal.result c.with_normal.new.out) e.came
    (subst (λ x. Meets (translation_of (expanded w.items) e.lent.now) c.with_normal.result x) e.gone (e.called (normal-of w e.means))))

pub write_translation-requires : goal.write_translation-requires
write_translation-requires c =
    let a = c.args in
    given a.lim a.s.now a.out.now c.requires.writable (λ i. (c.type_inv.s i).fits) _ (sym c.read_items.ensures ∙ c.in_ok-held.was)
    (sym c.has_sheets.ensures ∙ c.if-has_sheets.false)

pub returns : goal.returns
returns c =
    let a = c.args in
    read-met a.lim a.s.now a.out.now c.requires.writable (λ i. (c.type_inv.s i).fits) _ (sym c.read_items.ensures ∙ c.in_ok-held.was)
    (sym c.has_sheets.ensures ∙ c.if-has_sheets.false) c.write_translation.ensures

-- `aspif::export` meets its contract: the refusal of reading, or what is delivered of the program that was read.
-- Assumes nothing.
use Rattle.std.proofs.Common.{ℕ, refl, sym, ◌∙◌}
use Rattle.std.proofs.lemmas.Result.{err_from_is_err_and}
use lib.ListN.{length-replicate}
use Rattle.aspif_number.proofs.Laws.Gained.{zeros-empty}
use Rattle.aspif_number.proofs.Laws.Rank.{empty-tallied}
use Rattle.aspif.proofs.Laws.Outcome.{holds-placed, refused-met, given, given-met}
use Rattle.aspif.proofs.aspif.export.Goals as goal

pub read_marking-requires-clause-placeable : goal.read_marking-requires-clause-placeable
read_marking-requires-clause-placeable c = c.requires.placeable

pub read_marking-requires-clause-defeasible_value : goal.read_marking-requires-clause-defeasible_value
read_marking-requires-clause-defeasible_value c = c.requires.strict

pub read_marking-requires-clause-sheets_value : goal.read_marking-requires-clause-sheets_value
read_marking-requires-clause-sheets_value c = c.requires.unsheeted

pub read_marking-requires-clause-empty : goal.read_marking-requires-clause-empty
read_marking-requires-clause-empty c = zeros-empty 6424

pub read_marking-requires-clause-tallied : goal.read_marking-requires-clause-tallied
read_marking-requires-clause-tallied c = empty-tallied _ _ refl (zeros-empty 6424) (zeros-empty 6424)

pub returns-in_err-n : goal.returns-in_err-n
returns-in_err-n c =
    let a = c.args in
    let p = err_from_is_err_and c.from_residual.result c.from_residual.ensures.1 in
    rw (p.1, p.2) (refused-met a.lim a.s.now a.out.now _ (sym c.read_marking.ensures.value ∙ c.in_err-n.was))

pub export_marked-requires-clause-holds : goal.export_marked-requires-clause-holds
export_marked-requires-clause-holds c =
    let a = c.args in
    given a.lim a.s.now a.out.now c.requires.unsheeted (λ i. (c.type_inv.s i).fits) _ (sym c.read_marking.ensures.value ∙ c.in_ok-n.was)

pub export_marked-requires-clause-marks : goal.export_marked-requires-clause-marks
export_marked-requires-clause-marks c w = c.read_marking.ensures.by_index _ c.in_ok-n.was (holds-placed c.requires w)

pub returns : goal.returns
returns c =
    let a = c.args in
    let counted = sym c.read_marking.ensures.value ∙ c.in_ok-n.was in
    given-met a.lim a.s.now a.out.now c.requires.unsheeted (λ i. (c.type_inv.s i).fits) _ counted
    (c.export_marked.ensures (given a.lim a.s.now a.out.now c.requires.unsheeted (λ i. (c.type_inv.s i).fits) _ counted))

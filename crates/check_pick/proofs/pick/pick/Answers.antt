-- `pick::pick` meets its contract: whatever the tallies, what is counted most often of the open positions are some of them.
use Rattle.std.proofs.Common.{sym, subst, bit_xor}
use Rattle.mask.proofs.Laws.Part.{within-refl, within-trans}
use Rattle.check_pick.proofs.Laws.Count.{Some, most-some}
use Rattle.check_pick.proofs.pick.pick.Goals as goal

-- what the two counts leave are some of the open positions
most-chosen : (c : goal.After-most-2) → Some (bit_xor c.args.now.may c.args.now.must) c.most-2.result
most-chosen c =
    let left = bit_xor c.args.now.may c.args.now.must in
    subst (Some left) (sym c.most-2.ensures)
    (most-some _ _ left (subst (Some left) (sym c.most.ensures) (most-some _ _ left (within-refl left, c.requires))))

pub highest-requires : goal.highest-requires
highest-requires c = (most-chosen c).1

pub returns : goal.returns
returns c =
    let chosen = most-chosen c.before in
    record {
      within = within-trans _ _ _ c.highest.ensures.position.within chosen.0;
      single = c.highest.ensures.position.single;
      some = c.highest.ensures.position.some;
    }

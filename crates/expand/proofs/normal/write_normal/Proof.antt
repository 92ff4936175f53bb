-- `normal::write_normal` meets its contract: its arrays are empty, and what the first pass leaves is what the second asks for.
-- Assumes nothing.
use Prim.Native.Nat.{ℕ}
use mathlib.Core.Path.{refl}
use lib.ListN.{length, replicate, length-replicate}
use borrow.Author.Rules.{rules}
use Rattle.record_walk.specs.Code.{HoldsFile}
use Rattle.expand_tables.specs.Code.{tag_places, option_places, sheet_places}
use Rattle.expand_collect.specs.Code.{State, state}
use Rattle.expand.specs.Code.{Expandable, Appendable}
use Rattle.expand.proofs.Laws.Places.{zeros, empty-arrays}
use Rattle.expand.proofs.normal.write_normal.Statement.{statement}
use Rattle.expand.proofs.normal.write_normal.Tie as tie

abbrev held : tie.After-write_front-held → State
held c =
    let l = c.write_front-held.new in
    state l.out l.up l.low l.lowers l.ones l.others c.write_front-held.result

appendable : (c : tie.After-write_front-held) → HoldsFile (Expandable (length c.args.out.now)) c.args.s.now
    → Appendable (held c) (replicate option_places 0) (replicate option_places 0)
appendable c w =
    let k = c.write_front-held.auto in
    record {
      came = c.args.out.now;
      items = w.items;
      asked = w.asked;
      fronted = c.write_front-held.ensures w;
      up_long = k.up;
      low_long = k.low;
      lowers_long = k.lowers;
      ones_long = k.ones;
      others_long = k.others;
      win_long = length-replicate {A = ℕ} option_places 0;
      lose_long = length-replicate {A = ℕ} option_places 0;
      win_empty = zeros option_places;
      lose_empty = zeros option_places;
    }

write-front-requires : tie.Need-write_front-held-requires
write-front-requires c κs = (c.requires, empty-arrays tag_places sheet_places refl refl)

write-behind-requires : tie.Need-write_behind-size-requires
write-behind-requires c κs =
    let at-low-3 = c.before.before.before.before.before in
    let at-lowers-2 = at-low-3.before.before.before.before.before in
    let at-write_front-held = at-lowers-2.before.before.before.before.before in
    appendable at-write_front-held c.requires

returns : tie.Need-returns
unfolding appendable
returns c =
    let at-lose = c.before.before.before.before.before in
    let at-low-3 = at-lose.before.before.before.before.before in
    let at-lowers-2 = at-low-3.before.before.before.before.before in
    let at-write_front-held = at-lowers-2.before.before.before.before.before in
    ((λ w. c.write_behind-size.ensures (appendable at-write_front-held w)), refl)

pub write_normal_spec : {M : Type 1} → statement M
write_normal_spec =
    tie.close (tie.spec (λ c. search rules) (λ c. search rules) (λ c. search rules) (λ c. search rules) (λ c. search rules) write-front-requires
    (λ c. search rules) (λ c. search rules) (λ c. search rules) (λ c. search rules) (λ c. search rules) (λ c. search rules) (λ c. search rules)
    write-behind-requires (λ c. search rules) returns)

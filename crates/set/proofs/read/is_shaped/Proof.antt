-- `read::is_shaped` meets its contract: at each return the tests that led there decide the shape.
-- Assumes nothing.
use Prim.Native.Nat.{◌+◌, ◌*◌}
use mathlib.Core.Path.{sym, ◌∙◌, ap}
use lib.Dec.{eqb}
use lib.ListN.{length}
use borrow.Author.Rules.{rules}
use Rattle.set.proofs.Laws.Shape.{shape-short, shape-letter, shape-colon, shape-marked}
use Rattle.set.proofs.read.is_shaped.Statement.{statement}
use Rattle.set.proofs.read.is_shaped.Tie as tie

returns : tie.Need-returns-then-s-lt4
returns c = let a = c.args in sym (shape-short a.s.now c.if-s-lt4.true)

returns-2 : tie.Need-returns-then-s-ne65
returns-2 c =
    let a = c.args in
    sym (shape-letter a.s.now c.if-s-lt4.false c.if-s-ne65.true)

returns-3 : tie.Need-returns-then-s-ne58
returns-3 c =
    let a = c.args in
    sym (shape-colon a.s.now c.if-s-lt4.false c.if-s-ne65.false c.if-s-ne58.true)

returns-4 : tie.Need-returns
returns-4 c =
    let a = c.args in
    ap (λ n. eqb (length a.s.now) (4 + 5 * n)) c.get_number-count.ensures
    ∙ sym (shape-marked a.s.now c.if-s-lt4.false c.if-s-ne65.false c.if-s-ne58.false)

pub is_shaped_spec : {M : Type 1} → statement M
is_shaped_spec =
    tie.close (tie.spec returns (λ c. search rules) returns-2 (λ c. search rules) returns-3 (λ c κs. search rules) (λ c. search rules)
    (λ c. search rules) (λ c. search rules) returns-4)

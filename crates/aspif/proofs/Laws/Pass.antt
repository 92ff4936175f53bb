-- Laws of the passes over a program that was read: the lines of one rule more, and that there is room for them.
-- In order: lines of rules; what measuring and writing have made of the rules that are gone.
-- Assumes nothing.
use Prim.Native.Nat.{ℕ, ◌+◌, ◌*◌, ◌≤◌}
use native.Mathlib.Omega.{arith}
use native.Mathlib.Nat.{add-zero}
use mathlib.Core.Path.{◌≡◌, refl, sym, ◌∙◌, ap, subst}
use mathlib.Core.List.{List, [], ◌∷◌, ◌++◌, map, append-nil, map-append}
use lib.ListN.{length, length-append}
use Rattle.buffer.specs.Write.{Wrote}
use Rattle.buffer.proofs.Laws.Write.{write-nil}
use Rattle.buffer.proofs.Laws.Writing.{wrote_then}
use Rattle.semantics.specs.Rule.{Rule, Program}
use Rattle.record_walk.specs.Code.{record_size, Starts}
use Rattle.record_walk.specs.Records.{Front}
use Rattle.record_walk.proofs.Laws.Records.{Next}
use Rattle.record_walk.proofs.Laws.Walk.{Walk}
use Rattle.aspif_meaning.specs.Ground.{GroundRule}
use Rattle.aspif_meaning.specs.Program.{numbered}
use Rattle.aspif_text.specs.Text.{rule, rule_line, line, lines}
use Rattle.aspif_text.proofs.Laws.Statements.{lines-append}
use Rattle.aspif_place.specs.Code.{number_in}
use Rattle.aspif_rule.specs.Code.{ground_at, Long}
use Rattle.aspif_rule.proofs.Laws.Ground.{rule-ground}
use Rattle.aspif.specs.Code.{rule_lines}

module _ (bits : List ℕ) where
  -- the lines of two programs, one behind the other
  lines_of : (p q : Program) → rule_lines bits (p ++ q) ≡ rule_lines bits p ++ rule_lines bits q
  unfolding rule_lines
  lines_of p q =
      let f = numbered (number_in bits) in
      ap (λ (g : List GroundRule). lines (map rule g)) (map-append f p q) ∙ ap lines (map-append rule (map f p) (map f q))
      ∙ lines-append (map rule (map f p)) (map rule (map f q))

  pub lines_none : rule_lines bits [] ≡ []
  unfolding rule_lines lines
  lines_none = refl

  lines-one : (r : Rule) (q : Program) → rule_lines bits (r ∷ q) ≡ rule_line (numbered (number_in bits) r) ++ rule_lines bits q
  unfolding rule_lines lines line
  lines-one r q = refl

  module _ {t : List ℕ} (r : Rule) (starts : Starts t r) where
    -- the line of the rule whose record starts t
    here : rule_line (ground_at bits t) ≡ rule_line (numbered (number_in bits) r)
    here = ap rule_line (rule-ground bits t r starts)

    -- the lines of some rules and of that one
    pub lines_more : (q : Program) → rule_lines bits (q ++ r ∷ []) ≡ rule_lines bits q ++ rule_line (ground_at bits t)
    lines_more q =
        lines_of q (r ∷ []) ∙ ap (λ (bs : List ℕ). rule_lines bits q ++ bs)
        (lines-one r [] ∙ ap (λ (bs : List ℕ). rule_line (numbered (number_in bits) r) ++ bs) lines_none
        ∙ append-nil (rule_line (numbered (number_in bits) r)) ∙ sym here)

-- what measuring has made of the rules that are gone, whose records stood before `rest`
pub record Measured (bits s rest : List ℕ) (total : ℕ) (gone : Program) : Type 0 where
  pub long : total ≡ length (rule_lines bits gone)
  pub short : total + 12 * length rest ≤ 12 * length s

pub measured-start : (bits s rest : List ℕ) → rest ≡ s → Measured bits s rest 0 []
measured-start bits s rest e = record { long = sym (ap length (lines_none bits)); short = omega (arith, ap length e) }

pub measured-next : {bits s rest t next : List ℕ} {p gone : Program} {total : ℕ} (m : Next p gone t) → Measured bits s rest total gone → Front rest t next
    → (r : ℕ) → Long r (rule_line (ground_at bits t)) (12 * record_size t) → Measured bits s next (total + r) (gone ++ m.the-rule ∷ [])
measured-next {bits} {t = t} {next} {gone = gone} m w front r long =
    record {
      long = omega (arith, w.long, long.long, ap length (lines_more bits m.the-rule m.starts gone), length-append (rule_lines bits gone) (rule_line (ground_at bits t)));
      short = omega (arith, w.short, long.short, m.whole, ap length front.bytes, length-append t next);
    }

-- what writing has: the lines of the rules that are gone, right behind what stood there
pub written_start : (bits out : List ℕ) (to : ℕ) → Wrote out out to (rule_lines bits []) to
written_start bits out to =
    subst (λ (bs : List ℕ). Wrote out out to bs to) (sym (lines_none bits)) (record { bytes = sym (write-nil out to); next = sym (add-zero to) })

-- a block's lines behind them
pub written-more : (bits : List ℕ) {out₀ out e : List ℕ} {to next r : ℕ} (gone block : Program) (bs : List ℕ) → to ≤ length out₀ → bs ≡ rule_lines bits block
    → Wrote out₀ out to (rule_lines bits gone) next → Wrote out e next bs r → Wrote out₀ e to (rule_lines bits (gone ++ block)) r
written-more bits {out₀} {out} {e} {to} {next} {r} gone block bs within same w v =
    subst (λ (cs : List ℕ). Wrote out₀ e to cs r) (sym (lines_of bits gone block))
    (wrote_then within w (subst (λ (cs : List ℕ). Wrote out e next cs r) same v))

-- they have room
pub block-fits : (bits : List ℕ) {s : List ℕ} {p : Program} (gone block : Program) {at : ℕ} (bs : List ℕ) → Walk s p (gone ++ block) at
    → bs ≡ rule_lines bits block
    → length (rule_lines bits gone) + length bs ≤ length (rule_lines bits p)
block-fits bits {p = p} gone block bs w same =
    omega (
      arith,
      ap length same,
      ap (λ (q : Program). length (rule_lines bits q)) w.split,
      ap length (lines_of bits (gone ++ block) w.left),
      length-append (rule_lines bits (gone ++ block)) (rule_lines bits w.left),
      ap length (lines_of bits gone block),
      length-append (rule_lines bits gone) (rule_lines bits block),
    )

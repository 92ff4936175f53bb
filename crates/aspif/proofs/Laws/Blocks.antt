-- Laws of blocks of rules: so many rules from where a walk is on, their records, their lines, and the walk behind them.
-- In order: what a block is; a block of no rule, of one rule more, of as many as are left; all rules gone; a block's lines, made and copied;
-- what a loop has written: nothing, the next block, a block more, all.
-- Assumes nothing.
use Prim.Native.Nat.{ℕ, zero, suc, ◌+◌, ◌-◌, ◌≤◌, ◌<◌}
use native.Mathlib.Omega.{arith}
use native.Mathlib.Nat.{add-zero}
use mathlib.Core.Path.{◌≡◌, refl, sym, ◌∙◌, ap, subst}
use mathlib.Core.Bool.{Bool, true, false}
use mathlib.Core.List.{List, [], ◌∷◌, ◌++◌, append_assoc, append-nil}
use lib.Dec.{eqb, leb→le}
use lib.ListN.{length, take, drop, length-append}
use lib.Seq.{drop-drop}
use borrow.Author.Tests.{eqb-true, eqb-false}
use Rattle.buffer.specs.Write.{write, Wrote, Begun}
use Rattle.semantics.specs.Rule.{Rule, Program}
use Rattle.semantics.specs.Translation.{record_length}
use Rattle.record_walk.specs.Code.{Holds, record_size}
use Rattle.record_walk.proofs.Laws.Walk.{Walk, More, Along, walk-rule, next-keeps}
use Rattle.aspif_place.specs.Code.{words}
use Rattle.aspif_number.specs.Code.{records_size, record_part, places_at, literal_count, Room, Records, Rooms, Front, numbers_of}
use Rattle.aspif_number.proofs.Laws.Program.{next-room}
use Rattle.aspif_text.specs.Text.{rule_line}
use Rattle.aspif_rule.specs.Code.{ground_at, lines_at, lines_of}
use Rattle.aspif_rule.proofs.Laws.Numbered.{lines-numbered}
use Rattle.aspif.specs.Code.{is_short, Numberable, Fitting, rule_lines}
use Rattle.aspif.proofs.Laws.Pass.{lines_none, lines_more, written_start, written-more}

-- n rules from `at` on, where the part t starts: `block` stands behind the rules that are gone
pub record Block (bits s : List ℕ) (p gone : Program) (at : ℕ) (t : List ℕ) (n : ℕ) : Type 0 where
  pub block : Program
  pub many : length block ≡ n
  pub walk : Walk s p (gone ++ block) (at + records_size t n)
  pub records : Records t n
  pub rooms : Rooms words t n
  pub lines : lines_at bits t n ≡ rule_lines bits block

-- what holds below n, and at n
below_next : (Q : ℕ → Type 0) (n : ℕ) → ((i : ℕ) → i < n → Q i) → Q n → (i : ℕ) → i < suc n → Q i
below_next Q n below at i h = go (eqb i n) refl
  where
    go : (b : Bool) → eqb i n ≡ b → Q i
    go true e = subst Q (sym (eqb-true i n e)) at
    go false e = let other = eqb-false i n e in below i (omega (arith, other))

module _ {bits s : List ℕ} {p gone : Program} {at : ℕ} {t : List ℕ} (ok : Numberable p) (part : t ≡ drop at s) where
  none : Walk s p gone at → Block bits s p gone at t zero
  unfolding records_size lines_at
  none w =
      record {
        block = [];
        many = refl;
        walk = subst (λ (q : Program). Walk s p q (at + 0)) (sym (append-nil gone)) (subst (Walk s p gone) (sym (add-zero at)) w);
        records = record { whole = λ i h. absurd (omega arith); few = λ i h. absurd (omega arith) };
        rooms = λ i h. absurd (omega arith);
        lines = sym (lines_none bits);
      }

  module _ {n : ℕ} (b : Block bits s p gone at t n) (left : length gone + n < length p) where
    next : More s p (gone ++ b.block) (at + records_size t n) (record_part t n)
    next =
        walk-rule b.walk (omega (arith, length-append gone b.block, b.many)) (record_part t n)
        (ap (drop (records_size t n)) part ∙ drop-drop (records_size t n) at s)

    abbrev the-rule : Rule
    the-rule = next.the-rule

    more : Block bits s p gone at t (suc n)
    unfolding records_size lines_at
    more =
        record {
          block = b.block ++ the-rule ∷ [];
          many = omega (arith, length-append b.block (the-rule ∷ []), b.many);
          walk =
              subst (λ (q : Program). Walk s p q (at + (records_size t n + record_size (record_part t n)))) (append_assoc gone b.block (the-rule ∷ []))
              (subst (Walk s p _) (omega arith) (next.next (record_size (record_part t n)) refl));
          records =
              record {
                whole = below_next (λ i. record_size (record_part t i) ≤ length (record_part t i)) n b.records.whole next.whole;
                few = below_next (λ i. literal_count (record_part t i) ≤ 64) n b.records.few few;
              };
          rooms =
              below_next (λ i. Room words (places_at (record_part t i) 7 (literal_count (record_part t i)))) n b.rooms
              (next-room next ok.placed words refl);
          lines = ap (λ (bs : List ℕ). bs ++ rule_line (ground_at bits (record_part t n))) b.lines ∙ sym (lines_more bits next.the-rule next.starts b.block);
        }
      where
        few : literal_count (record_part t n) ≤ 64
        few = omega (arith, next.size, leb→le (record_length the-rule) 327 (next-keeps is_short ok.few next))

  -- as many as are left, or fewer
  pub block_of : Walk s p gone at → (n : ℕ) → length gone + n ≤ length p → Block bits s p gone at t n
  block_of w zero h = none w
  block_of w (suc n) h = more (block_of w n (omega arith)) (omega arith)

-- where as many are gone as there are, all are
all-gone : {s : List ℕ} {p gone : Program} {at : ℕ} → Walk s p gone at → length gone ≡ length p → p ≡ gone
all-gone {p = p} {gone} w e = go w.left w.split
  where
    go : (left : Program) → p ≡ gone ++ left → p ≡ gone
    go [] split = split ∙ append-nil gone
    go (r ∷ q) split = absurd (omega (arith, e, ap length split, length-append gone (r ∷ q)))

-- a block's lines, made from the numbers of its literals, and copied
module _ (bits t ns : List ℕ) (rules : ℕ) (front : Front ns (numbers_of bits t rules)) {text made : List ℕ} {n : ℕ}
    (b : Begun text made 0 (lines_of t ns rules) n) where
  -- so long they are
  pub made-long : n ≡ length (lines_at bits t rules)
  made-long = omega (arith, b.next, ap length (lines-numbered bits t ns rules front))

  pub made-wrote : {d e : List ℕ} (to : ℕ) → e ≡ write d to (take n (drop 0 made)) → Wrote d e to (lines_at bits t rules) (to + n)
  made-wrote {d} to copied =
      record {
        bytes = copied ∙ ap (write d to) (b.bytes ∙ lines-numbered bits t ns rules front);
        next = omega (arith, made-long);
      }

-- what is written of the rules that are gone, and that the others are left
pub record Written (bits out₀ out : List ℕ) (to next rules left : ℕ) (gone : Program) : Type 0 where
  pub lines : Wrote out₀ out to (rule_lines bits gone) next
  pub count : left + length gone ≡ rules

pub written_none : (bits out : List ℕ) (to rules : ℕ) → Written bits out out to to rules rules []
written_none bits out to rules = record { lines = written_start bits out to; count = add-zero rules }

-- the next block, of at most as many rules as are left
pub next-block : {bits s out₀ out : List ℕ} {rules to room at next left : ℕ} (w : Holds (Fitting rules bits to room) s)
    (a : Along s w.program at (Written bits out₀ out to next rules left)) → (n : ℕ) → n ≤ left → (t : List ℕ) → t ≡ drop at s
    → Block bits s w.program a.gone at t n
next-block w a n few t part = block_of w.asked.counted.numberable part a.walk n (omega (arith, few, a.made.count, w.asked.counted.count))

module _ {bits s out₀ out : List ℕ} {p : Program} {at to next rules left : ℕ} (a : Along s p at (Written bits out₀ out to next rules left)) where
  -- a block more
  pub written-block : {e t : List ℕ} {n r size : ℕ} → Block bits s p a.gone at t n → to ≤ length out₀ → n ≤ left → size ≡ records_size t n
      → Wrote out e next (lines_at bits t n) r → Along s p (at + size) (Written bits out₀ e to r rules (left - n))
  written-block b within few size w =
      record {
        gone = a.gone ++ b.block;
        walk = subst (λ (k : ℕ). Walk s p (a.gone ++ b.block) (at + k)) (sym size) b.walk;
        made = record {
          lines = written-more bits a.gone b.block _ within b.lines a.made.lines w;
          count = omega (arith, a.made.count, b.many, length-append a.gone b.block);
        };
      }

  -- all of them
  pub written_all : left ≤ 0 → length p ≡ rules → Wrote out₀ out to (rule_lines bits p) next
  written_all none count =
      subst (λ (q : Program). Wrote out₀ out to (rule_lines bits q) next) (sym (all-gone a.walk (omega (arith, a.made.count, count)))) a.made.lines

-- Laws of a file that is read, and its normal form: what expanding asks, and the program that the normal form holds.
-- In order: items that are read; what is asked of the program that they mean; the normal form; the form of sources. Assumes nothing.
use Prim.Native.Nat.{ℕ, ◌≤◌}
use Rattle.std.specs.Prelude.{Ok}
use native.Mathlib.Omega.{arith}
use mathlib.Core.Path.{◌≡◌, ap}
use mathlib.Core.List.{List}
use lib.ListN.{length, take, length-append, length-take}
use Rattle.buffer.specs.Bytes.{Bytes}
use Rattle.literal.specs.declared.Limits.{Limits}
use Rattle.literal.specs.Limits.{source}
use Rattle.semantics.specs.Rule.{Program}
use Rattle.semantics.specs.Item.{Item, rules, expanded}
use Rattle.record.specs.Layout.{encoded_end, encoded_items, encoded_file}
use Rattle.record.specs.Reading.{items}
use Rattle.record.proofs.Laws.Layout.{rules-within, length-end}
use Rattle.record.proofs.Laws.Keeps.{kept-file}
use Rattle.record.proofs.Laws.Reading.{items-read}
use Rattle.record_walk.specs.Code.{Holds, HoldsFile}
use Rattle.expand.specs.Code.{Expandable, normal_bytes, NormalOf, Normalizable, Meaning, Normal}

-- a file that is read can be expanded, where there are so many bytes
module _ (F : Limits) (ok : Normalizable F) (s : List ℕ) (is : List Item) (bytes : Bytes s) (read : items F s ≡ Ok is) where
  pub expandable : (most : ℕ) → normal_bytes ≤ most → Expandable most is
  unfolding encoded_file
  expandable most room =
      let w = items-read F s is bytes read in
      let k = kept-file F is w.1 in
      record {
        form = F;
        keeps = k.items;
        sheets = ok.sheets;
        tags = ok.tags;
        atoms = ok.atoms;
        room =
            omega (arith, rules-within is, k.short, length-append (encoded_items is) (encoded_end (length (rules is))), length-end (length (rules is)), ok.room);
        rules = ok.rules;
      }

  unfoldable pub file-means : {P : Program → Type 0} → P (expanded is) → HoldsFile (Meaning P normal_bytes) s
  file-means asked =
      record { items = is; bytes = (items-read F s is bytes read).0; asked = record { expandable = expandable normal_bytes (omega arith); asked = asked } }

-- more bytes are enough too
unfoldable pub means-wider : {P : Program → Type 0} {most room : ℕ} {s : List ℕ} → HoldsFile (Meaning P most) s → most ≤ room → HoldsFile (Meaning P room) s
means-wider w more =
    let e = w.asked.expandable in
    record {
      items = w.items;
      bytes = w.bytes;
      asked =
          record {
            expandable =
                record {
                  form = e.form;
                  keeps = e.keeps;
                  sheets = e.sheets;
                  tags = e.tags;
                  atoms = e.atoms;
                  room = omega (arith, e.room, more);
                  rules = e.rules;
                };
            asked = w.asked.asked;
          };
    }

module _ {P : Program → Type 0} {most : ℕ} {s : List ℕ} (w : HoldsFile (Meaning P most) s) where
  -- what expanding asks
  pub means-expandable : HoldsFile (Expandable most) s
  means-expandable = record { items = w.items; bytes = w.bytes; asked = w.asked.expandable }

  -- the normal form holds the program that is meant
  module _ {d e : List ℕ} {n : ℕ} (made : (v : HoldsFile (Expandable most) s) → Normal d v.items n e) where
    pub normal : Normal d w.items n e
    unfolding means-expandable
    normal = made means-expandable

    pub normal-fits : n ≤ length e
    normal-fits = omega (arith, normal.size, ap length normal.bytes, length-take n e)

    unfoldable pub normal-holds : Holds P (take n e)
    normal-holds = record { program = expanded w.items; bytes = normal.bytes; asked = w.asked.asked }

-- the program that a file means holds what is asked of it
unfoldable pub normal-of : {P : Program → Type 0} {s t : List ℕ} → HoldsFile (Meaning P normal_bytes) s → NormalOf s t → Holds P t
unfolding means-expandable
normal-of w is = record { program = expanded w.items; bytes = is (means-expandable w); asked = w.asked.asked }

-- sources have normal forms
pub normalizable-source : Normalizable source
unfolding source
normalizable-source = record { sheets = omega arith; tags = omega arith; atoms = omega arith; room = omega arith; rules = omega arith }

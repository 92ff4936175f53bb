-- Laws of lines made from numbers that were looked up before.
-- In order: a field's length, and a count of one figure; a run of numbers; the head, the body and the line; lines one behind the other.
-- Assumes nothing.
use Prim.Native.Nat.{ℕ, ◌+◌, ◌*◌, ◌≤◌, ◌<◌}
use native.Mathlib.Omega.{arith}
use native.Mathlib.Numerals.{add-one}
use mathlib.Core.Path.{◌≡◌, refl, sym, ◌∙◌, ap, ap₂, subst}
use mathlib.Core.Bool.{Bool, true, false}
use mathlib.Core.List.{List, [], ◌∷◌, ◌++◌, append-nil}
use lib.ListN.{length, get_or, take, drop, length-drop}
use lib.Seq.{take-suc, take-length, drop-drop}
use Rattle.buffer.specs.Write.{write, Wrote, Begun}
use Rattle.buffer.proofs.Laws.Writing.{wrote}
use Rattle.buffer.proofs.Laws.Begun.{begun-none, begun-then, begun-wrote}
use Rattle.decimal.specs.Decimal.{figure}
use Rattle.decimal.proofs.Laws.Decimal.{decimal-less}
use Rattle.record.specs.Header.{head_count, positive_count, naf_count}
use Rattle.record_walk.specs.Code.{record_size}
use Rattle.aspif_text.specs.Text.{blank, line_end, field, fields, body_text, rule_line}
use Rattle.aspif_number.specs.Code.{literal_count, records_size, record_part, records_literals, Records}
use Rattle.aspif_rule.specs.Code.{head_text, ground_of, lines_of}
use Rattle.aspif_rule.proofs.Laws.Rules.{fields-append, line-parts}

-- a count of one figure
pub figure-begun : {d e : List ℕ} (at n r : ℕ) → n < 10 → at + 2 ≤ length d → Wrote d e at (blank ∷ figure n ∷ []) r → Begun d e at (field false n) r
unfolding field
figure-begun {d} {e} at n r small h w = rw (decimal-less n small) (begun-wrote h w)

-- the fields of a run's first i numbers stand, none longer than 12 bytes
pub record Filled (ns : List ℕ) (b : Bool) (out₀ out : List ℕ) (to i next : ℕ) : Type 0 where
  pub begun : Begun out₀ out to (fields b (take i ns)) next
  pub short : next ≤ to + 12 * i

pub filled-start : (ns : List ℕ) (b : Bool) (out : List ℕ) (to : ℕ) → Filled ns b out out to 0 to
unfolding fields
filled-start ns b out to = record { begun = begun-none out to; short = omega arith }

pub filled_next : {ns : List ℕ} {b : Bool} {out₀ out e : List ℕ} {to i next r : ℕ} → Filled ns b out₀ out to i next → i < length ns
    → Begun out e next (field b (get_or ns i 0)) r → r ≤ next + 12 → Filled ns b out₀ e to (i + 1) r
unfolding fields
filled_next {ns} {b} {out₀} {e = e} {to} {i} {r = r} w more v short =
    record {
      begun = subst (λ (bs : List ℕ). Begun out₀ e to bs r) (sym one_more) (begun-then w.begun v);
      short = omega (arith, w.short);
    }
  where
    one_more : fields b (take (i + 1) ns) ≡ fields b (take i ns) ++ field b (get_or ns i 0)
    one_more =
        let n = get_or ns i 0 in
        ap (λ (k : ℕ). fields b (take k ns)) (add-one i)
        ∙ ap (fields b) (take-suc ns i 0 more)
        ∙ fields-append b (take i ns) (n ∷ []) ∙ ap (λ (bs : List ℕ). fields b (take i ns) ++ bs) (append-nil (field b n))

pub filled-all : {ns : List ℕ} {b : Bool} {out₀ out : List ℕ} {to i next : ℕ} → Filled ns b out₀ out to i next → i ≡ length ns
    → Begun out₀ out to (fields b ns) next
filled-all {ns} {b} {out₀} {out} {to} {i} {next} w all =
    subst (λ (xs : List ℕ). Begun out₀ out to (fields b xs) next) (ap (λ (k : ℕ). take k ns) all ∙ take-length ns) w.begun

-- the head's part: its mark, its count, its numbers
pub head-begun : {d e f g : List ℕ} (hs : List ℕ) (to n r : ℕ) → to + 3 ≤ length d → e ≡ write d to (0x31 ∷ blank ∷ 0x30 ∷ [])
    → Begun e f (to + 3) (field false (length hs)) n → Begun f g n (fields false hs) r → Begun d g to (head_text hs) r
unfolding head_text
head-begun hs to n r fits mark count run =
    begun-then (begun-wrote fits (wrote to (0x31 ∷ blank ∷ 0x30 ∷ []) (to + 3) mark refl)) (begun-then count run)

-- the body: its count, its positive numbers, those under naf, the line's end
pub body-begun : {d e f g x : List ℕ} (ps qs : List ℕ) (to n m k r : ℕ) → Begun d e to (field false (length ps + length qs)) n
    → Begun e f n (fields false ps) m → Begun f g m (fields true qs) k → k + 1 ≤ length g → Wrote g x k (line_end ∷ []) r
    → Begun d x to (body_text ps qs) r
unfolding body_text
body-begun ps qs to n m k r counted first second fits end =
    begun-then counted (begun-then first (begun-then second (begun-wrote fits end)))

-- the line: the head's part, `0`, the body, whose numbers are parted
module _ (t ns hs body ps behind : List ℕ) (heads : hs ≡ take (head_count t) ns) (bodies : body ≡ drop (head_count t) ns)
    (positives : ps ≡ take (positive_count t) body) (rest : behind ≡ drop (positive_count t) body) where
  parted : body_text ps (take (naf_count t) behind)
      ≡ body_text (take (positive_count t) (drop (head_count t) ns)) (take (naf_count t) (drop (head_count t + positive_count t) ns))
  parted =
      ap₂ (λ (xs ys : List ℕ). body_text xs (take (naf_count t) ys)) (positives ∙ ap (take (positive_count t)) bodies)
      (rest ∙ ap (drop (positive_count t)) bodies ∙ drop-drop (positive_count t) (head_count t) ns)

  pub line-begun : {d e f g : List ℕ} (to n k r : ℕ) → Begun d e to (head_text hs) n → n + 2 ≤ length e → Wrote e f n (blank ∷ 0x30 ∷ []) k
      → Begun f g k (body_text ps (take (naf_count t) behind)) r → Begun d g to (rule_line (ground_of t ns)) r
  unfolding ground_of
  line-begun {d} {e} {f} {g} to n k r head fits mark body =
      subst (λ (bs : List ℕ). Begun d g to bs r) (sym (line-parts (ground_of t ns)))
      (begun-then (subst (λ (xs : List ℕ). Begun d e to (head_text xs) n) heads head)
      (begun-then (begun-wrote fits mark) (subst (λ (bs : List ℕ). Begun f g k bs r) parted body)))

-- the lines of the first i rules stand, none longer than 798 bytes; `here` starts with the next record, `left` with its numbers
pub record Lined (t ns out₀ out here left : List ℕ) (next i : ℕ) : Type 0 where
  pub part : here ≡ record_part t i
  pub numbers : left ≡ drop (records_literals t i) ns
  pub few : length ns ≤ length left + 64 * i
  pub short : next ≤ 798 * i
  pub begun : Begun out₀ out 0 (lines_of t ns i) next

pub lined-start : (t ns out : List ℕ) → Lined t ns out out t ns 0 0
unfolding records_size records_literals lines_of
lined-start t ns out = record { part = refl; numbers = refl; few = omega arith; short = omega arith; begun = begun-none out 0 }

module _ {t ns out₀ out here left : List ℕ} {next i rules : ℕ} (w : Lined t ns out₀ out here left next i) (all : Records t rules) (more : i < rules) where
  -- the record that starts `here` has at most 64 literals
  pub lined-few : literal_count here ≤ 64
  lined-few = subst (λ (p : List ℕ). literal_count p ≤ 64) (sym w.part) (all.few i more)

  pub lined-next : {e : List ℕ} (r count size : ℕ) → Begun out e next (rule_line (ground_of here left)) r → r ≤ next + 30 + 12 * literal_count here
      → count ≡ literal_count here → size ≡ record_size here → (p ms : List ℕ) → p ≡ drop size here → ms ≡ drop count left
      → Lined t ns out₀ e p ms r (i + 1)
  unfolding records_size records_literals lines_of
  lined-next {e} r count size v short counted sized p ms rest behind =
      subst (Lined t ns out₀ e p ms r) (sym (add-one i))
      (record {
        part =
            rest ∙ ap₂ (λ (k : ℕ) (xs : List ℕ). drop k xs) (sized ∙ ap record_size w.part) w.part
            ∙ drop-drop (record_size (record_part t i)) (records_size t i) t;
        numbers =
            behind ∙ ap₂ (λ (k : ℕ) (xs : List ℕ). drop k xs) (counted ∙ ap literal_count w.part) w.numbers
            ∙ drop-drop (literal_count (record_part t i)) (records_literals t i) ns;
        few = omega (arith, w.few, counted, lined-few, ap length behind, length-drop count left);
        short = omega (arith, w.short, short, lined-few);
        begun =
            begun-then w.begun
            (subst (λ (bs : List ℕ). Begun out e next bs r) (ap₂ (λ (q xs : List ℕ). rule_line (ground_of q xs)) w.part w.numbers) v);
      })

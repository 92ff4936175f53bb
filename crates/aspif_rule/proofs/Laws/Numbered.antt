-- Lines made from numbers that were looked up before are the lines by the marks.
-- In order: a list that starts with two others; a rule's numbers taken from the front of a list; the lines.
-- Assumes nothing.
use Prim.Native.Nat.{ℕ, zero, suc, ◌+◌, ◌*◌}
use native.Mathlib.Omega.{arith}
use mathlib.Core.Path.{◌≡◌, refl, sym, ◌∙◌, ap, ap₂}
use mathlib.Core.List.{List, ◌++◌, append_assoc}
use lib.ListN.{length, take, drop, length-append, take-append-drop}
use lib.Seq.{take_at, drop_at, take-append_seam, drop-append_seam}
use Rattle.record.specs.Header.{head_count, positive_count, naf_count}
use Rattle.aspif_text.specs.Text.{rule_line}
use Rattle.aspif_number.specs.Code.{literal_count, record_part, records_literals, numbers_of, Front}
use Rattle.aspif_rule.specs.Code.{numbers_at, ground_at, ground_of, lines_of, lines_at}
use Rattle.aspif_rule.proofs.Laws.Rules.{length-numbers, numbers-split}

module _ (ns xs ys : List ℕ) (front : Front ns (xs ++ ys)) where
  both : ns ≡ xs ++ (ys ++ drop (length (xs ++ ys)) ns)
  both =
      let rest = drop (length (xs ++ ys)) ns in
      sym (take-append-drop (length (xs ++ ys)) ns) ∙ ap (λ (zs : List ℕ). zs ++ rest) front ∙ append_assoc xs ys rest

  -- it starts with the first, and behind that with the second
  front-first : Front ns xs
  front-first = ap (take (length xs)) both ∙ take-append_seam xs (ys ++ drop (length (xs ++ ys)) ns)

  front-second : drop (length xs) ns ≡ ys ++ drop (length (xs ++ ys)) ns
  front-second = ap (drop (length xs)) both ∙ drop-append_seam xs (ys ++ drop (length (xs ++ ys)) ns)

-- a rule's numbers, where they stand in front
ground-numbered : (bits t ns rest : List ℕ) → ns ≡ numbers_at bits t 7 (literal_count t) ++ rest → ground_of t ns ≡ ground_at bits t
unfolding ground_of ground_at
ground-numbered bits t ns rest front =
    λ i.
    record {
      head = (ap (take h) all ∙ take_at heads (positives ++ (nafs ++ rest)) h (length-numbers bits t 7 h)) i;
      positive =
          (ap (λ (ms : List ℕ). take b (drop h ms)) all ∙ ap (take b) (drop_at heads (positives ++ (nafs ++ rest)) h (length-numbers bits t 7 h))
          ∙ take_at positives (nafs ++ rest) b (length-numbers bits t (7 + 5 * h) b)) i;
      naf =
          (ap (λ (ms : List ℕ). take c (drop (h + b) ms)) (all ∙ sym (append_assoc heads positives (nafs ++ rest)))
          ∙ ap (take c) (drop_at (heads ++ positives) (nafs ++ rest) (h + b) long) ∙ take_at nafs rest c (length-numbers bits t (7 + 5 * (h + b)) c)) i;
    }
  where
    h : ℕ
    h = head_count t

    b : ℕ
    b = positive_count t

    c : ℕ
    c = naf_count t

    heads : List ℕ
    heads = numbers_at bits t 7 h

    positives : List ℕ
    positives = numbers_at bits t (7 + 5 * h) b

    nafs : List ℕ
    nafs = numbers_at bits t (7 + 5 * (h + b)) c

    all : ns ≡ heads ++ (positives ++ (nafs ++ rest))
    all =
        front ∙ ap (λ (ms : List ℕ). ms ++ rest) (numbers-split bits t 7 (h + b) c ∙ ap (λ (ms : List ℕ). ms ++ nafs) (numbers-split bits t 7 h b))
        ∙ append_assoc (heads ++ positives) nafs rest ∙ append_assoc heads positives (nafs ++ rest)

    long : length (heads ++ positives) ≡ h + b
    long = omega (arith, length-append heads positives, length-numbers bits t 7 h, length-numbers bits t (7 + 5 * h) b)

-- as many numbers as there are literals
length-numbers_of : (bits t : List ℕ) (n : ℕ) → length (numbers_of bits t n) ≡ records_literals t n
unfolding numbers_of records_literals numbers_at
length-numbers_of bits t zero = refl
length-numbers_of bits t (suc n) =
    let p = record_part t n in
    length-append (numbers_of bits t n) (numbers_at bits p 7 (literal_count p))
    ∙ ap₂ (λ (i j : ℕ). i + j) (length-numbers_of bits t n) (length-numbers bits p 7 (literal_count p))

pub lines-numbered : (bits t ns : List ℕ) (n : ℕ) → Front ns (numbers_of bits t n) → lines_of t ns n ≡ lines_at bits t n
unfolding numbers_of lines_of lines_at numbers_at
lines-numbered bits t ns zero front = refl
lines-numbered bits t ns (suc n) front =
    let p = record_part t n in
    let before = numbers_of bits t n in
    let own = numbers_at bits p 7 (literal_count p) in
    let here = ap (λ (k : ℕ). drop k ns) (sym (length-numbers_of bits t n)) ∙ front-second ns before own front in
    ap₂ (λ (xs ys : List ℕ). xs ++ ys) (lines-numbered bits t ns n (front-first ns before own front))
    (ap rule_line (ground-numbered bits p (drop (records_literals t n) ns) (drop (length (before ++ own)) ns) here))

-- Laws of a strict rule's record in pieces: a header, and literals behind it.
-- Assumes nothing.
use Prim.Native.Nat.{ℕ, ◌+◌, ◌*◌}
use native.Mathlib.Omega.{arith}
use mathlib.Core.Path.{◌≡◌, refl, ◌∙◌, ap}
use mathlib.Core.List.{List, [], ◌++◌}
use lib.ListN.{length, take, drop, length-append}
use Rattle.literal.specs.declared.Literal.{Literal}
use Rattle.semantics.specs.Rule.{strict}
use Rattle.record.specs.Header.{head_count, positive_count, naf_count}
use Rattle.record.specs.Layout.{encoded_literals, rule_record, encoded_rule}
use Rattle.record_walk.specs.Code.{Starts}
use Rattle.record_walk.proofs.Laws.Fields.{strict-fields, literals-behind}
use Rattle.record_write.specs.Code.{header}

-- a record with tag 0 is a header and literals
pub strict-pieces : (h b c : List Literal) → header (length h) (length b) (length c) ++ encoded_literals (h ++ (b ++ c)) ≡ encoded_rule (strict h b c)
unfolding header encoded_rule rule_record
strict-pieces h b c = refl

-- what is written for a strict rule is its record
pub strict-written : (s : List ℕ) (h b c : List Literal) → Starts s (strict h b c)
    → header (head_count s) (positive_count s) (naf_count s) ++ take (5 * (head_count s + positive_count s + naf_count s)) (drop 7 s) ≡ encoded_rule (strict h b c)
strict-written s h b c w =
    let f = strict-fields s h b c w in
    let size : 5 * (head_count s + positive_count s + naf_count s)
    ≡ 5 * length (h ++ (b ++ c)) = omega (arith, f.heads, f.positives, f.nafs, length-append h (b ++ c), length-append b c) in
    let run = ap (λ (n : ℕ). take n (drop 7 s)) size ∙ literals-behind s [] (h ++ (b ++ c)) w.rest f.literals in
    ap (λ (x : List ℕ). header (head_count s) (positive_count s) (naf_count s) ++ x) run
    ∙ rw (f.heads, f.positives, f.nafs) (strict-pieces h b c)

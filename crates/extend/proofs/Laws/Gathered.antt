-- Laws of what is gathered for an extension, from what reading gives: the marks, and the record that they make with the set.
-- In order: keys that were collected, sorted; a program whose marks can be collected; their fields; its marks by the set's keys; the keys
-- that are sorted; the record.
-- Assumes nothing.
use Prim.Native.Nat.{ℕ, ◌+◌, ◌*◌, ◌<◌}
use Rattle.std.specs.Prelude.{Ok}
use native.Mathlib.Omega.{arith}
use mathlib.Core.Path.{◌≡◌, sym, ◌∙◌, ap, ap₂}
use mathlib.Core.List.{List, ◌++◌, map, append_assoc}
use lib.Dec.{T}
use lib.ListN.{length, take, drop, length-append, length-map, length-take}
use lib.Seq.{take_all, take-append-le, length_front}
use Rattle.buffer.specs.Bytes.{Bytes}
use Rattle.literal.specs.declared.Limits.{Limits}
use Rattle.literal.specs.declared.Literal.{Literal}
use Rattle.literal.specs.Order.{key, sorted}
use Rattle.literal.proofs.Laws.Literal.{Fits}
use Rattle.semantics.specs.Set.{LiteralSet, set_of}
use Rattle.semantics.specs.Rule.{Program}
use Rattle.semantics.specs.Form.{keeps_rules}
use Rattle.semantics.proofs.Laws.Tests.{Each}
use Rattle.semantics.proofs.Laws.Agree.{Speaks}
use Rattle.semantics.proofs.Laws.Form.{keeps-count}
use Rattle.record.specs.Layout.{encoded_literals}
use Rattle.record.proofs.Laws.Layout.{encoded-literals-append, length-encoded-literals}
use Rattle.set.specs.Layout.{encoded_set}
use Rattle.set.specs.Reading.{parsed_set}
use Rattle.set.specs.Code.{key_set, set_header}
use Rattle.set.proofs.Laws.Reading.{parsed-set-sound, length-encoded-set}
use Rattle.set.proofs.Laws.Keys.{read-agree}
use Rattle.keys.specs.Keys.{sorted_keys}
use Rattle.keys.specs.Code.{key_bytes, Fitting}
use Rattle.keys.proofs.Laws.Bytes.{fitting-sorted}
use Rattle.keys.proofs.Laws.Literals.{keys-sorted}
use Rattle.keys_sort.specs.Code.{Sorted}
use Rattle.extend_marks.specs.Marks.{marks_from}
use Rattle.extend_marks.specs.Code.{Gained, Markable}
use Rattle.extend_marks.proofs.Laws.Gained.{gained-front}
use Rattle.extend_marks.proofs.Laws.Agree.{marks-same}
use Rattle.extend_marks.proofs.Laws.Count.{written-room}
use Rattle.extend.specs.Extend.{extension_list}
use Rattle.extend.specs.Code.{most, Extendable, joined}
use Rattle.extend.proofs.Laws.Sorted.{key_bytes-sorted, fitting-keys}
use Rattle.extend.proofs.Laws.Narrow.{marks-fit}

-- keys that were gained from the front on, and are sorted there
pub gained-sorted : {d e f : List ℕ} {n r : ℕ} {ks : List ℕ} → Gained d e 0 n ks → Sorted (take n e) f r (sorted_keys (take n e))
    → Sorted d (f ++ drop n e) r (sorted_keys ks)
gained-sorted {d} {e} {f} {n} {r} g s =
    record {
      count = omega (arith, s.count, length-take n e, g.same);
      front = take-append-le r f (drop n e) (omega (arith, s.count, s.same)) ∙ s.front ∙ ap sorted_keys (gained-front g);
      same = length_front e f n s.same ∙ g.same;
    }

-- a program within the limits: its marks can be collected
pub markable : (F : Limits) → Extendable F → (p : Program) → T (keeps_rules F p) → Markable most p
markable F ok p k =
    record {
      short = omega (arith, keeps-count F p k, ok.rules);
      fits = omega (arith, written-room F ok.appended.heads p k, ok.marks);
    }

-- a program that speaks of literals whose fields fit two bytes
module _ (p : Program) (spoken : Each (Speaks Fits) p) (short : length p < 65535) where
  -- the fields of the marks do too
  narrow-marks : (u : LiteralSet) → Each Fits (marks_from 1 p u)
  narrow-marks u = marks-fit u 1 p (omega arith) spoken

  module _ (F : Limits) (upto : ℕ) (k : List ℕ) (ls : List Literal) (m : parsed_set F upto k ≡ Ok ls) (places : Bytes k) where
    -- the marks in the set that is searched are those in the set
    same-marks : marks_from 1 p (key_set k (length ls)) ≡ marks_from 1 p (set_of ls)
    same-marks = marks-same Fits (key_set k (length ls)) (set_of ls) (read-agree F upto k ls places m) 1 p spoken

    -- the set's literals, as they lie behind its count
    literals-lie : take (5 * length ls) (drop 4 k) ≡ encoded_literals ls
    unfolding encoded_set
    literals-lie =
        ap (λ (x : List ℕ). take (5 * length ls) (drop 4 x)) (parsed-set-sound F upto k ls places m).0
        ∙ take_all (5 * length ls) (encoded_literals ls) (omega (arith, length-encoded-literals ls))

    module _ (d x : List ℕ) (n : ℕ) (room : length d ≡ most) (g : Sorted d x n (sorted_keys (map key (marks_from 1 p (key_set k (length ls)))))) where
      -- the keys that are sorted are those of the marks, sorted
      front : take n x ≡ sorted_keys (map key (marks_from 1 p (set_of ls)))
      front = g.front ∙ ap (λ (ms : List Literal). sorted_keys (map key ms)) same-marks

      -- as many as the marks, each once
      pub gathered-count : n ≡ length (sorted (marks_from 1 p (set_of ls)))
      gathered-count =
          omega (
            arith,
            length-take n x,
            g.count,
            g.same,
            ap length (front ∙ sym (keys-sorted (marks_from 1 p (set_of ls)))),
            length-map (sorted (marks_from 1 p (set_of ls))) key,
          )

      -- two bytes count them with the set's literals
      pub gathered-few : length ls + most < 65536 → length ls + n < 65536
      gathered-few total = omega (arith, g.count)

      -- each fits five bytes
      pub gathered-fitting : Fitting (take n x)
      gathered-fitting = rw front (fitting-sorted (map key (marks_from 1 p (set_of ls))) (fitting-keys (marks_from 1 p (set_of ls)) (narrow-marks (set_of ls))))

      -- with the set's literals they are the extension's record
      pub gathered-record : joined k (length ls) (take n x) n ≡ encoded_set (extension_list p ls)
      unfolding joined set_header encoded_set extension_list
      gathered-record =
          let ms = sorted (marks_from 1 p (set_of ls)) in
          let total : length ls + n ≡ length (ls ++ ms) = omega (arith, gathered-count, length-append ls ms) in
          let literals = ap₂ ◌++◌ literals-lie (ap key_bytes front ∙ key_bytes-sorted (marks_from 1 p (set_of ls)) (narrow-marks (set_of ls)))
          ∙ sym (encoded-literals-append ls ms) in
          append_assoc (set_header (length ls + n)) (take (5 * length ls) (drop 4 k)) (key_bytes (take n x))
          ∙ ap₂ (λ (c : ℕ) (y : List ℕ). set_header c ++ y) total literals

      -- which is as long as is counted
      pub gathered-length : length (encoded_set (extension_list p ls)) ≡ 4 + 5 * (length ls + n)
      unfolding extension_list
      gathered-length =
          let ms = sorted (marks_from 1 p (set_of ls)) in
          omega (arith, length-encoded-set (ls ++ ms), gathered-count, length-append ls ms)

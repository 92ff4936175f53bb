-- The words have room for every verdict: a position, a rule's number, a record's length.
-- In order: parts; findings; checks. Assumes nothing.
use Prim.Native.Nat.{ℕ, ◌+◌, ◌*◌, ◌≤◌, ◌<◌}
use Rattle.check_set.specs.declared.Verdict.{Verdict}
use Rattle.std.specs.Prelude.{Ok, Err}
use native.Mathlib.Omega.{arith}
use mathlib.Core.Path.{◌≡◌, refl, sym, ap, subst}
use mathlib.Core.List.{List, ◌∷◌}
use mathlib.Core.Bool.{Bool, true, false}
use lib.Dec.{ltb}
use lib.ListN.{length, length-append}
use Rattle.buffer.specs.Bytes.{Bytes}
use Rattle.literal.specs.declared.Limits.{Limits}
use Rattle.literal.specs.declared.Literal.{Literal}
use Rattle.semantics.specs.Rule.{Program}
use Rattle.semantics.specs.Verdict.{Finding, clash, broken, smaller, answer_set, finding}
use Rattle.semantics.specs.Findings.{Part, nil, absent, present}
use Rattle.semantics.specs.Form.{most_appended}
use Rattle.semantics.proofs.Laws.Expanded.{expanded-few}
use Rattle.semantics.proofs.Laws.Verdict.{finding-clash, finding-broken, finding-smaller}
use Rattle.record.specs.declared.Reason.TheVariants.{OutputShort}
use Rattle.record.specs.Refusal.{refusal}
use Rattle.record.specs.Result.{Answer, and_then, refuse_if}
use Rattle.record.specs.Reading.{parsed}
use Rattle.record.proofs.Laws.Bounds.{parsed-placed}
use Rattle.record.proofs.Laws.Places.{Placed}
use Rattle.record.proofs.Laws.Meant.{parsed-expanded}
use Rattle.set.specs.Reading.{parsed_set}
use Rattle.set.proofs.Laws.Reading.{parsed-set-sound, keeps-set-most, length-encoded-set}
use Rattle.set.proofs.Laws.Places.{parsed-set-placed}
use Rattle.inputs.specs.Inputs.{with_inputs}
use Rattle.check_set.specs.Verdict.{verdict_of}
use Rattle.check_set.specs.Check.{found, checked_of, checked}
use Rattle.aspda_word.specs.Code.{ShortVerdict, ShortCheck}

-- a part is no longer than its list
part-short : {s ls : List Literal} → Part s ls → length s ≤ length ls
part-short nil = omega arith
part-short (absent w) = omega (arith, part-short w)
part-short (present w) = omega (arith, part-short w)

module _ (p : Program) (ls : List Literal) (few : length p < 4294967296) (small : 4 + 5 * length ls < 4294967296) where
  finding-short : (f : Finding) → finding p ls ≡ f → ShortVerdict (verdict_of f)
  unfolding verdict_of
  finding-short (clash k) e =
      let w = (finding-clash p ls k).0 e in
      omega (arith, w.position, ap length w.splits, length-append w.before (w.here ∷ w.after))
  finding-short (broken n) e =
      let w = ((finding-broken p ls n).0 e).rule in
      omega (arith, w.position, ap length w.splits, length-append w.before (w.here ∷ w.after))
  finding-short (smaller s) e = omega (arith, part-short ((finding-smaller p ls s).0 e).part, length-encoded-set s)
  finding-short answer_set e = tt

module _ (F : Limits) (long : F.length < 4294967296) (rules : F.rules + most_appended F < 4294967296) (sets : 4 + 5 * F.checked < 4294967296)
    (s k out : List ℕ) (bs : Bytes s) (bk : Bytes k) where
  Short : Answer Finding → Type 0
  Short (Ok f) = ShortVerdict (verdict_of f)
  Short (Err x) = x.place < 4294967296

  found-short : Short (found F s k out)
  unfolding found with_inputs and_then refuse_if Short
  found-short = go (parsed F s) refl (parsed-placed F s)
    where
      room : (p : Program) (ls : List Literal) → parsed F s ≡ Ok p → parsed_set F F.checked k ≡ Ok ls → (b : Bool)
          → Short (refuse_if b (refusal OutputShort 0) (Ok (finding p ls)))
      room p ls e q true = omega arith
      room p ls e q false =
          finding-short p ls (omega (arith, rules, expanded-few F p (parsed-expanded F s p bs e)))
          (omega (arith, sets, keeps-set-most F F.checked ls (parsed-set-sound F F.checked k ls bk q).1)) (finding p ls) refl

      set : (p : Program) → parsed F s ≡ Ok p → (r : Answer (List Literal)) → parsed_set F F.checked k ≡ r
          → Placed (4 + 5 * F.checked) r → Short
          (and_then r (λ ls. refuse_if (ltb (length out) (length k)) (refusal OutputShort 0) (Ok (finding p ls))))
      set p e (Ok ls) q h = room p ls e q (ltb (length out) (length k))
      set p e (Err x) q h = omega (arith, h, sets)

      go : (r : Answer Program) → parsed F s ≡ r → Placed F.length r
          → Short (and_then r (λ p. and_then (parsed_set F F.checked k)
          (λ ls. refuse_if (ltb (length out) (length k)) (refusal OutputShort 0) (Ok (finding p ls)))))
      go (Ok p) e h = set p e (parsed_set F F.checked k) refl (parsed-set-placed F F.checked k)
      go (Err x) e h = omega (arith, h, long)

  -- a check's answer has room in its word
  pub checked-short : (a : Answer Verdict) → a ≡ (checked F s k out).answer → ShortCheck a
  unfolding checked checked_of Short
  checked-short a e = subst ShortCheck (sym e) (go (found F s k out) found-short)
    where
      go : (r : Answer Finding) → Short r → ShortCheck (checked_of r out).answer
      go (Ok f) h = h
      go (Err x) h = h

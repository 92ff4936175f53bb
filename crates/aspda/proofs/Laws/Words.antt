-- The words have room for what the forms' limits allow. Assumes nothing.
use Prim.Native.Nat.{ℕ, ◌+◌, ◌*◌, ◌≤◌, ◌<◌}
use Rattle.record_show.specs.declared.Extent.{Extent}
use Rattle.std.specs.Prelude.{Ok, Err}
use native.Mathlib.Omega.{arith}
use mathlib.Core.Path.{◌≡◌, sym}
use mathlib.Core.List.{List}
use Rattle.buffer.specs.Bytes.{Bytes}
use Rattle.literal.specs.declared.Limits.{Limits}
use Rattle.literal.specs.declared.Literal.{Literal}
use Rattle.literal.specs.Limits.{source}
use Rattle.semantics.specs.Rule.{Program}
use Rattle.semantics.specs.Translation.{translation}
use Rattle.record.specs.Result.{Answer, and_then, delivered}
use Rattle.record.specs.Layout.{encoded_program}
use Rattle.record.specs.Reading.{parsed, reading}
use Rattle.record.proofs.Laws.Places.{Placed, and-then-placed}
use Rattle.record.proofs.Laws.Bounds.{parsed-placed, reading-place}
use Rattle.record.proofs.Laws.Delivered.{delivered-place}
use Rattle.record_show.specs.Show.{shown}
use Rattle.record_show.proofs.Laws.Bounds.{shown-place, shown-end}
use Rattle.set.specs.Layout.{encoded_set}
use Rattle.set.specs.Reading.{parsed_set}
use Rattle.set.proofs.Laws.Places.{parsed-set-placed}
use Rattle.inputs.specs.Inputs.{with_inputs}
use Rattle.translate.specs.Translate.{translated_bytes, translated}
use Rattle.quotient.specs.Quotient.{quotient_program, quotient_bytes, quotiented}
use Rattle.aspif_text.specs.Text.{aspif_text}
use Rattle.aspif.specs.Aspif.{aspif_bytes, exported}
use Rattle.extend.specs.Extend.{extension_list, extension_bytes, extended}
use Rattle.restrict.specs.Restrict.{restriction_list, restriction_bytes, restricted}
use Rattle.assembly.specs.Calls.{Call, called}
use Rattle.assembly.proofs.Laws.Answers.{answer-place}
use Rattle.aspda_word.specs.Code.{ShortCount, ShortShown}

-- a place within a larger bound
placed-wider : {A : Type 0} (j k : ℕ) (r : Answer A) → j ≤ k → Placed j r → Placed k r
placed-wider j k (Ok a) h p = tt
placed-wider j k (Err x) h p = omega arith

-- a form whose length fits 31 bits
module _ (F : Limits) (small : F.length < 2147483648) (s : List ℕ) where
  pub reading-short : (a : Answer ℕ) → a ≡ reading F s → ShortCount a
  reading-short (Ok n) e = tt
  reading-short (Err x) e = omega (arith, reading-place F s x (sym e))

  pub shown-short : (n : ℕ) (a : Answer Extent) → Bytes s → a ≡ shown F s n → ShortShown a
  shown-short n (Ok e) bytes q = omega (arith, shown-end F s n e bytes (sym q))
  shown-short n (Err x) bytes q = omega (arith, shown-place F s n x (sym q))

  -- an operation that writes a result, or refuses as its parts do
  pub delivered-short : (r : Answer (List ℕ)) (out : List ℕ) → Placed F.length r → (a : Answer ℕ) → a ≡ (delivered r out).answer → ShortCount a
  delivered-short r out placed (Ok n) e = tt
  delivered-short r out placed (Err x) e = omega (arith, delivered-place F.length r out placed x (sym e))

  pub translated-short : (out : List ℕ) (a : Answer ℕ) → a ≡ (translated F s out).answer → ShortCount a
  unfolding translated translated_bytes
  translated-short out a e =
      delivered-short (translated_bytes F s) out
      (and-then-placed F.length (parsed F s) (λ p. Ok (encoded_program (translation p))) (parsed-placed F s) (λ p. tt)) a e

  pub exported-short : (out : List ℕ) (a : Answer ℕ) → a ≡ (exported F s out).answer → ShortCount a
  unfolding exported aspif_bytes
  exported-short out a e =
      delivered-short (aspif_bytes F s) out
      (and-then-placed F.length (parsed F s) (λ p. Ok (aspif_text p)) (parsed-placed F s) (λ p. tt)) a e

  -- a program and a set, each read in a form whose sets are no longer than its programs, and what is made of them
  made-short : 4 + 5 * F.literals ≤ F.length → (k out : List ℕ) (make : Program → List Literal → List ℕ) (a : Answer ℕ)
      → a ≡ (delivered (and_then (parsed F s) (λ p. and_then (parsed_set F F.literals k) (λ ls. Ok (make p ls)))) out).answer → ShortCount a
  made-short h k out make a e =
      delivered-short (and_then (parsed F s) (λ p. and_then (parsed_set F F.literals k) (λ ls. Ok (make p ls)))) out
      (and-then-placed F.length (parsed F s) (λ p. and_then (parsed_set F F.literals k) (λ ls. Ok (make p ls))) (parsed-placed F s) (λ p.
      and-then-placed F.length (parsed_set F F.literals k) (λ ls. Ok (make p ls))
      (placed-wider (4 + 5 * F.literals) F.length (parsed_set F F.literals k) h (parsed-set-placed F F.literals k)) (λ ls. tt)))
      a e

  pub quotiented-short : 4 + 5 * F.literals ≤ F.length → (k out : List ℕ) (a : Answer ℕ) → a ≡ (quotiented F s k out).answer → ShortCount a
  unfolding quotiented quotient_bytes with_inputs
  quotiented-short h k out a e = made-short h k out (λ p ls. encoded_program (quotient_program p ls)) a e

  pub extended-short : 4 + 5 * F.literals ≤ F.length → (k out : List ℕ) (a : Answer ℕ) → a ≡ (extended F s k out).answer → ShortCount a
  unfolding extended extension_bytes with_inputs
  extended-short h k out a e = made-short h k out (λ p ls. encoded_set (extension_list p ls)) a e

  -- a set alone
  pub restricted-short : 4 + 5 * F.literals ≤ F.length → (out : List ℕ) (a : Answer ℕ) → a ≡ (restricted F s out).answer → ShortCount a
  unfolding restricted restriction_bytes
  restricted-short h out a e =
      delivered-short (restriction_bytes F s) out
      (and-then-placed F.length (parsed_set F F.literals s) (λ ls. Ok (encoded_set (restriction_list ls)))
      (placed-wider (4 + 5 * F.literals) F.length (parsed_set F F.literals s) h (parsed-set-placed F F.literals s)) (λ ls. tt))
      a e

-- a call of an assembly: its places lie within the largest record
pub called-short : (c : Call) (st out : List ℕ) (a : Answer ℕ) → a ≡ (called source c st out).answer → ShortCount a
unfolding source
called-short c st out (Ok n) e = tt
called-short c st out (Err x) e = omega (arith, answer-place source c st out x (sym e))

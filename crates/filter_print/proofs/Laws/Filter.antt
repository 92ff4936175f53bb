-- Laws of what the filter prints, of a source that came in a buffer of `input_size` bytes. What is printed depends on the output
-- buffer's size, and not on what it held; a refusal's place has room in an R: record.
-- In order: how a result ends in a buffer, and what is printed of it; a refusal's place; what is written to a buffer's start;
-- what the filter's function promises, of a translation and of a refusal.
-- Assumes nothing.
use Prim.Native.Nat.{ℕ, ◌+◌, ◌≤◌, ◌<◌}
use Rattle.std.specs.Prelude.{Ok, Err}
use native.Mathlib.Omega.{arith}
use mathlib.Core.Path.{◌≡◌, refl, sym, ◌∙◌, ap, ap₂, subst}
use mathlib.Core.Bool.{Bool, true, false}
use mathlib.Core.List.{List}
use lib.Dec.{ltb}
use lib.ListN.{length, take, replicate, length-take, length-replicate}
use lib.Seq.{take_all}
use borrow.Author.Tests.{ltb-false, ltb-true}
use Rattle.buffer.specs.Write.{write}
use Rattle.buffer.proofs.Laws.Write.{take-write}
use Rattle.literal.specs.Limits.{source}
use Rattle.semantics.specs.Translation.{translation}
use Rattle.record.specs.declared.Reason.TheVariants.{OutputShort}
use Rattle.record.specs.declared.Refusal.{Refusal}
use Rattle.record.specs.Refusal.{refusal, encoded_refusal}
use Rattle.record.specs.Result.{Answer, Outcome, delivered}
use Rattle.record.specs.Layout.{encoded_program}
use Rattle.record.specs.Reading.{parsed}
use Rattle.record.specs.Meets.{Meets}
use Rattle.record.proofs.Laws.Places.{and-then-placed}
use Rattle.record.proofs.Laws.Bounds.{parsed-placed}
use Rattle.record.proofs.Laws.Delivered.{delivered-refused, delivered-fits, delivered-short, delivered-place}
use Rattle.translate.specs.Translate.{translated_bytes, translated}
use Rattle.filter_print.specs.Filter.{input_size, output_size, printed, filtered, Prints}

-- how a result ends in a buffer that was out, and what is printed of it: refused, which leaves the buffer; or written
-- to its start
data Ends (out : List ℕ) : Outcome → List ℕ → Type 0 where
  turned : (x : Refusal) → Ends out (record { answer = Err x; buffer = out }) (encoded_refusal x)
  put : (bs : List ℕ) → Ends out (record { answer = Ok (length bs); buffer = write out 0 bs }) bs

-- what is written to the start is what stands there
put_first : (out bs : List ℕ) → take (length bs) (write out 0 bs) ≡ bs
put_first out bs = let start : length bs ≡ 0 + length bs = omega arith in ap (λ (k : ℕ). take k (write out 0 bs)) start ∙ take-write out 0 bs (omega arith)

ends-printed : {out : List ℕ} {o : Outcome} {bs : List ℕ} → Ends out o bs → printed o ≡ bs
unfolding printed
ends-printed (turned x) = refl
ends-printed {out} (put bs) = put_first out bs

-- what is printed of a result that is delivered into n bytes, by their number alone
told_by : List ℕ → Bool → List ℕ
told_by bs b = elim b [ true ↦ encoded_refusal (refusal OutputShort 0) | false ↦ bs ]

told : Answer (List ℕ) → ℕ → List ℕ
told (Err x) n = encoded_refusal x
told (Ok bs) n = told_by bs (ltb n (length bs))

delivered-ends : (q : Answer (List ℕ)) (out : List ℕ) → Ends out (delivered q out) (told q (length out))
unfolding told told_by
delivered-ends (Err x) out = rw delivered-refused (turned x)
delivered-ends (Ok bs) out = go (ltb (length out) (length bs)) refl
  where
    go : (b : Bool) → ltb (length out) (length bs) ≡ b → Ends out (delivered (Ok bs) out) (told_by bs b)
    go true e = rw (delivered-short bs out (ltb-true (length out) (length bs) e)) (turned (refusal OutputShort 0))
    go false e = rw (delivered-fits bs out (ltb-false (length out) (length bs) e)) (put bs)

-- the place of what translating refuses fits the four bytes that an R: record has for it: a source has fewer bytes
pub translated-place : (s out : List ℕ) (x : Refusal) → (translated source s out).answer ≡ Err x → x.place < 4294967296
unfolding source translated translated_bytes
translated-place s out x e =
    let placed = and-then-placed source.length (parsed source s) (λ p. Ok (encoded_program (translation p))) (parsed-placed source s) (λ p. tt) in
    omega (arith, delivered-place source.length (translated_bytes source s) out placed x e)

-- what is written to the buffer's start
prints : (bs out : List ℕ) (n : ℕ) (e : List ℕ) → n ≡ length bs → e ≡ write out 0 bs → Prints bs out n e
prints bs out n e long done =
    let first : take n e ≡ bs = ap₂ take long done ∙ put_first out bs in
    record { within = omega (arith, ap length first, length-take n e); bytes = first; buffer = done }

-- an R: record has seven bytes
length-refusal : (x : Refusal) → length (encoded_refusal x) ≡ 7
unfolding encoded_refusal
length-refusal x = refl

module _ (out : List ℕ) (r : Answer ℕ) where
  put-prints : {bs : List ℕ} {o : Outcome} → Ends out o bs → (n : ℕ) (e : List ℕ) → Meets o r e → r ≡ Ok n → Prints bs out n e
  put-prints (turned x) n e m q = let z : ◌≡◌ {A = ℕ} 0 1 = cc m.answer in absurd (omega (arith, z))
  put-prints (put bs) n e m q = let long : n ≡ length bs = cc m.answer in prints bs out n e long m.buffer

  turned-prints : {bs : List ℕ} {o : Outcome} → Ends out o bs → (x : Refusal) (d e : List ℕ) → Meets o r d → r ≡ Err x → e ≡ write d 0 (encoded_refusal x)
      → Prints bs out 7 e
  turned-prints (put bs) x d e m q done = let z : ◌≡◌ {A = ℕ} 0 1 = cc m.answer in absurd (omega (arith, z))
  turned-prints (turned y) x d e m q done =
      let met : x ≡ y = cc m.answer in
      prints (encoded_refusal y) out 7 e (sym (length-refusal y)) (done ∙ ap₂ (λ (b : List ℕ) (z : Refusal). write b 0 (encoded_refusal z)) m.buffer met)

module _ (came out : List ℕ) (fits : length came ≤ input_size) (room : length out ≡ output_size) where
  -- what is printed is the filter's for what came: the buffer's size matters, and not what it held
  filtered-ends : Ends out (translated source came out) (filtered came)
  unfolding filtered translated
  filtered-ends =
      let q = translated_bytes source came in
      let same = ap (told q) (room ∙ sym (length-replicate {A = ℕ} output_size 0)) ∙ sym (ends-printed (delivered-ends q (replicate output_size 0))) in
      let all = ap (λ (s : List ℕ). printed (translated source s (replicate output_size 0))) (sym (take_all input_size came fits)) in
      subst (Ends out (delivered q out)) (same ∙ all) (delivered-ends q out)

  module _ (r : Answer ℕ) where
    -- a translation is printed as it was written
    pub prints-length : (n : ℕ) (e : List ℕ) → Meets (translated source came out) r e → r ≡ Ok n → Prints (filtered came) out n e
    prints-length n e m q = put-prints out r filtered-ends n e m q

    -- of a refusal its R: record is, written over what was left
    pub prints-refusal : (x : Refusal) (d e : List ℕ) → Meets (translated source came out) r d → r ≡ Err x → e ≡ write d 0 (encoded_refusal x)
        → Prints (filtered came) out 7 e
    prints-refusal x d e m q done = turned-prints out r filtered-ends x d e m q done

-- The words of the operations tell refusals by their highest bit: what is no refusal is bounded by the forms' limits.
-- In order: bounds of what is delivered; reading, showing, checking; the operations that write.
-- Assumes nothing.
use Prim.Native.Nat.{ℕ, ◌+◌, ◌*◌, ◌^◌, ◌≤◌, ◌<◌}
use Rattle.std.specs.Prelude.{Ok, Err}
use native.Mathlib.Omega.{arith}
use mathlib.Core.Path.{◌≡◌, refl, sym, ◌∙◌, ap, subst}
use mathlib.Core.Bool.{Bool, true, false}
use mathlib.Core.List.{List}
use lib.Dec.{ltb}
use lib.ListN.{length}
use borrow.Author.Tests.{ltb-true, ltb-false}
use Rattle.buffer.specs.Bytes.{Bytes}
use Rattle.literal.specs.declared.Limits.{Limits}
use Rattle.semantics.specs.Rule.{Program}
use Rattle.semantics.specs.Form.{most_appended}
use Rattle.record.specs.declared.Refusal.{Refusal}
use Rattle.record.specs.Result.{Answer, and_then, Outcome, delivered}
use Rattle.record.specs.Reading.{parsed, reading}
use Rattle.record.specs.Layout.{encoded_program}
use Rattle.record.proofs.Laws.Bounds.{items-short}
use Rattle.record.proofs.Laws.Reading.{parsed-items}
use Rattle.record.proofs.Laws.Meant.{reading-count}
use Rattle.record.proofs.Laws.Result.{accepted-eq, and-then-accepted}
use Rattle.record.proofs.Laws.Delivered.{delivered-refused, delivered-fits, delivered-short}
use Rattle.record_show.specs.Show.{shown}
use Rattle.set.specs.Reading.{parsed_set}
use Rattle.inputs.specs.Inputs.{with_inputs}
use Rattle.quotient.specs.Quotient.{quotient_program, quotient_bytes, quotiented}
use Rattle.extend.specs.Extend.{extension_bytes, extended}
use Rattle.extend.specs.Code.{most, Extendable}
use Rattle.restrict.specs.Restrict.{restriction_bytes, restricted}
use Rattle.check_set.specs.Check.{checked}
use Rattle.aspda_word.specs.Words.{ToldCount, ToldShown, ToldCheck}
use Rattle.aspda_word.proofs.Laws.Told.{told-count, told-shown, told-check}
use Rattle.aspda.proofs.Laws.Words.{shown-short}
use Rattle.aspda.proofs.Laws.Verdicts.{checked-short}
use Rattle.aspda.proofs.Laws.Lengths.{read-few, appended-few, quotient-no-longer, extension-at-most, set-no-longer, restriction-no-longer}

-- what is accepted has at most m bytes
abbrev pub Bounded : ℕ → Answer (List ℕ) → Type 0
Bounded m q = (bs : List ℕ) → q ≡ Ok bs → length bs ≤ m

pub bounded : (m : ℕ) (bs : List ℕ) → length bs ≤ m → Bounded m (Ok bs)
bounded m bs h cs e = omega (arith, ap length (accepted-eq e))

pub bounded-then : {A : Type 0} (m : ℕ) (r : Answer A) (f : A → Answer (List ℕ)) → ((a : A) → r ≡ Ok a → Bounded m (f a)) → Bounded m (and_then r f)
bounded-then m r f h bs e = let w = and-then-accepted r f bs e in h w.0 w.1 bs w.2

refusal-no-length : {x : Refusal} {n : ℕ} → Err x ≡ Ok n → ⊥
refusal-no-length e = let z : ◌≡◌ {A = ℕ} 0 1 = cc in omega arith

length-eq : {m n : ℕ} → ◌≡◌ {A = Answer ℕ} (Ok m) (Ok n) → m ≡ n
length-eq e = cc

delivered-length : (m : ℕ) (q : Answer (List ℕ)) (out : List ℕ) → Bounded m q → (n : ℕ) → (delivered q out).answer ≡ Ok n → n ≤ m
delivered-length m (Err x) out h n e = absurd (refusal-no-length (sym (ap (λ (o : Outcome). o.answer) (delivered-refused x out)) ∙ e))
delivered-length m (Ok bs) out h n e = go (ltb (length out) (length bs)) refl
  where
    go : (b : Bool) → ltb (length out) (length bs) ≡ b → n ≤ m
    go true q = absurd (refusal-no-length (sym (ap (λ (o : Outcome). o.answer) (delivered-short bs out (ltb-true (length out) (length bs) q))) ∙ e))
    go false q =
        let same = length-eq (sym (ap (λ (o : Outcome). o.answer) (delivered-fits bs out (ltb-false (length out) (length bs) q))) ∙ e) in
        omega (arith, same, h bs refl)

-- an operation that writes what is bounded
pub told-delivered : (m : ℕ) → m < 2 ^ 63 → (q : Answer (List ℕ)) (out : List ℕ) → Bounded m q → ToldCount (delivered q out).answer
told-delivered m small q out h = told-count (delivered q out).answer (λ n e. omega (arith, delivered-length m q out h n e))

module _ (F : Limits) (long : F.length + 17 * most_appended F < 2147483648) (b : List ℕ) (bytes : Bytes b) where
  pub told-read : F.rules < 2 ^ 63 → ToldCount (reading F b)
  told-read few =
      told-count (reading F b) (λ n e. let w = reading-count F b n e in omega (arith, w.2, read-few F b w.0 bytes w.1))

  pub told-show : (n : ℕ) → ToldShown (shown F b n)
  told-show n = told-shown (shown F b n) (shown-short F (omega arith) b n (shown F b n) bytes refl)

  pub told-checked : F.rules + most_appended F < 4294967296 → 4 + 5 * F.checked < 4294967296 → (k out : List ℕ) → Bytes k
      → ToldCheck (checked F b k out).answer
  told-checked rules sets k out chars =
      told-check (checked F b k out).answer (checked-short F (omega arith) rules sets b k out bytes chars (checked F b k out).answer refl)

  pub told-quotiented : (k out : List ℕ) → ToldCount (quotiented F b k out).answer
  unfolding quotiented quotient_bytes with_inputs parsed
  told-quotiented k out =
      let m = F.length + 17 * most_appended F in
      told-delivered m (omega arith) (quotient_bytes F b k) out
      (bounded-then m (parsed F b) _ (λ p e.
      let w = parsed-items F b p e in
      bounded-then m (parsed_set F F.literals k) _ (λ ls q.
      bounded m _ (subst (λ (p : Program). length (encoded_program (quotient_program p ls)) ≤ m) w.2
      (omega (arith, quotient-no-longer F b w.0 bytes w.1 ls, appended-few F b w.0 bytes w.1, items-short F b w.0 w.1))))))

  pub told-extended : Extendable F → (k out : List ℕ) → Bytes k → ToldCount (extended F b k out).answer
  unfolding extended extension_bytes with_inputs
  told-extended ok k out chars =
      let m = 4 + 5 * (F.literals + most) in
      told-delivered m (omega (arith, ok.total)) (extension_bytes F b k) out
      (bounded-then m (parsed F b) _ (λ p e.
      bounded-then m (parsed_set F F.literals k) _ (λ ls q.
      bounded m _ (extension-at-most F b p bytes e ok k ls chars q))))

pub told-restricted : (F : Limits) → F.literals < 65536 → (k out : List ℕ) → Bytes k → ToldCount (restricted F k out).answer
unfolding restricted restriction_bytes
told-restricted F few k out bytes =
    let m = 4 + 5 * F.literals in
    told-delivered m (omega arith) (restriction_bytes F k) out
    (bounded-then m (parsed_set F F.literals k) _ (λ ls q.
    bounded m _ (omega (arith, restriction-no-longer F k ls bytes q, set-no-longer F F.literals k ls bytes q))))

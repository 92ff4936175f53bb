-- Laws of the operation: its outcome from what reading gave, and the answers that meet it.
-- In order: a program and a set that are held: 9, and what is written; that their quotient can be; a refusal of the program or the set;
-- the program that is meant; both, as read; without sheets, and with them; the two forms. Assumes nothing.
use Prim.Native.Nat.{ℕ, ◌*◌, ◌+◌, ◌≤◌}
use Rattle.std.specs.Prelude.{Ok, Err}
use native.Mathlib.Omega.{arith}
use mathlib.Core.Path.{◌≡◌, refl, sym, ◌∙◌, ap, subst}
use mathlib.Core.Bool.{Bool, true, false}
use mathlib.Core.List.{List, map}
use lib.Dec.{leb}
use lib.ListN.{length}
use borrow.Author.Tests.{leb-true, leb-false}
use Rattle.buffer.specs.Bytes.{Bytes}
use Rattle.buffer.specs.Write.{write}
use Rattle.literal.specs.declared.Limits.{Limits}
use Rattle.literal.specs.declared.Literal.{Literal}
use Rattle.literal.specs.Limits.{source, plain}
use Rattle.literal.proofs.Laws.Literal.{Fits}
use Rattle.semantics.specs.Set.{set_of}
use Rattle.semantics.specs.Rule.{Program, Remainder}
use Rattle.semantics.specs.Item.{expanded}
use Rattle.semantics.specs.Meaning.{quotient}
use Rattle.semantics.proofs.Laws.Agree.{quotient-same}
use Rattle.semantics.proofs.Laws.Expanded.{Expanded, expanded-few}
use Rattle.record.specs.declared.Held.{Held}
use Rattle.record.specs.declared.Reason.TheVariants.{OutputShort}
use Rattle.record.specs.declared.Refusal.{Refusal}
use Rattle.record.specs.Refusal.{refusal}
use Rattle.record.specs.Result.{Answer, delivered}
use Rattle.record.specs.Layout.{encoded_program}
use Rattle.record.specs.Reading.{parsed}
use Rattle.record.specs.Meets.{Meets}
use Rattle.record.proofs.Laws.Delivered.{meets-refused, meets-short, meets-written}
use Rattle.record.proofs.Laws.Reading.{items-parsed}
use Rattle.record.proofs.Laws.Meant.{items-expanded}
use Rattle.record.proofs.Laws.Fit.{program-fits}
use Rattle.record_walk.specs.Code.{Holds}
use Rattle.expand.specs.Code.{normal_bytes, Normalizable, normal_bytes, NormalOf}
use Rattle.expand.proofs.Laws.File.{file-means, normal-of}
use Rattle.set.specs.Reading.{parsed_set}
use Rattle.set.specs.Code.{Ascends, key_set}
use Rattle.set.proofs.Laws.Keys.{set_long, set-ascends, read-agree}
use Rattle.inputs.specs.Code.{both_read, Inputs}
use Rattle.inputs.proofs.Laws.Inputs.{inputs-refused, inputs-given}
use Rattle.quotient.specs.Quotient.{remainder_rule, quotient_program, quotient_bytes, quotiented}
use Rattle.quotient.specs.Code.{quotient_of, Sized, Countable, Fitting, Dividing, DividingFile, delivered_quotient}

module _ (s k out : List ℕ) {c : ℕ} (w : Dividing s k c) (program-bytes : Bytes s) (set_bytes : Bytes k) where
  -- the set can be searched
  pub long : 4 + 5 * c ≤ length k
  long = omega (arith, set_long w.form w.upto k w.literals set_bytes w.members, w.counted)

  pub ascends : Ascends k c
  ascends = subst (Ascends k) (sym w.counted) (set-ascends w.form w.upto k w.literals set_bytes w.members)

  -- the quotient by the keys is the one that is to be written
  by-set : quotient w.program.program (key_set k (length w.literals)) ≡ quotient w.program.program (set_of w.literals)
  by-set =
      quotient-same Fits (key_set k (length w.literals)) (set_of w.literals)
      (read-agree w.form w.upto k w.literals set_bytes w.members)
      w.program.program (program-fits s w.program.program program-bytes w.program.bytes)

  same : quotient_of w.program.program (key_set k c) ≡ encoded_program (quotient_program w.program.program w.literals)
  unfolding quotient_of quotient_program
  same =
      ap (λ (i : ℕ). quotient_of w.program.program (key_set k i)) w.counted
      ∙ ap (λ (qs : List Remainder). encoded_program (map remainder_rule qs)) by-set

  -- its bytes
  bytes : List ℕ
  bytes = encoded_program (quotient_program w.program.program w.literals)

  module _ (b : Bool) (told : (v : Holds Countable s) → b ≡ leb (length (quotient_of v.program (key_set k c))) (length out)) where
    -- 9
    pub short-met : b ≡ false → Meets (delivered_quotient w.program.program w.literals out) (Err (refusal OutputShort 0)) out
    unfolding bytes
    short-met h =
        meets-short (Ok bytes) out bytes refl
        (omega (arith, leb-false (length bytes) (length out) (ap (λ (x : List ℕ). leb (length x) (length out)) (sym same) ∙ sym (told w.program) ∙ h)))

    module _ (h : b ≡ true) where
      -- what writing asks
      pub fitting : Holds (Fitting (key_set k c) (length out)) s
      fitting =
          let fits = leb-true (length (quotient_of w.program.program (key_set k c))) (length out) (sym (told w.program) ∙ h) in
          record { program = w.program.program; bytes = w.program.bytes; asked = record { few = w.program.asked; fits = fits } }

      -- the quotient
      pub written-met : (n : ℕ) (e : List ℕ) → ((v : Holds (Fitting (key_set k c) (length out)) s) → n ≡ length (quotient_of v.program (key_set k c)))
          → ((v : Holds (Fitting (key_set k c) (length out)) s) → e ≡ write out 0 (quotient_of v.program (key_set k c)))
          → Meets (delivered_quotient w.program.program w.literals out) (Ok n) e
      unfolding bytes fitting
      written-met n e size done =
          let exact = ap length same in
          meets-written (Ok bytes) out bytes refl (omega (arith, exact, fitting.asked.fits)) n e (size fitting ∙ exact)
          (done fitting ∙ ap (write out 0) same)

-- a program within the limits, with the rules that sheets append to it, by its bytes, and a set of the form's: their quotient can be written
pub dividing : (F : Limits) → Sized F → (t : List ℕ) (p : Program) → t ≡ encoded_program p → Expanded F p
    → (k : List ℕ) (ls : List Literal) → parsed_set F F.literals k ≡ Ok ls → (n : ℕ) → n ≡ length ls → Dividing t k n
dividing F ok t p same e k ls held n counted =
    record {
      program = record { program = p; bytes = same; asked = omega (arith, expanded-few F p e, ok.rules) };
      form = F;
      upto = F.literals;
      literals = ls;
      members = held;
      counted = counted;
    }

module _ (F : Limits) (s k out : List ℕ) where
  -- the program or the set is refused
  pub refused-met : (x : Refusal) → both_read F F.literals s k ≡ Err x → Meets (quotiented F s k out) (Err x) out
  unfolding quotiented quotient_bytes
  refused-met x e =
      meets-refused (quotient_bytes F s k) out x (inputs-refused F F.literals s k (λ p ls. Ok (encoded_program (quotient_program p ls))) x e)

  -- the quotient of the program that is meant is the outcome, wherever it was made
  pub quotient-met : (p : Program) (ls : List Literal) → parsed F s ≡ Ok p → parsed_set F F.literals k ≡ Ok ls
      → {r : Answer ℕ} {e : List ℕ} → Meets (delivered_quotient p ls out) r e → Meets (quotiented F s k out) r e
  unfolding quotiented quotient_bytes
  quotient-met p ls read held {r} {e} m =
      subst (λ (q : Answer (List ℕ)). Meets (delivered q out) r e)
      (sym (inputs-given F F.literals s k (λ p ls. Ok (encoded_program (quotient_program p ls))) p read ls held)) m

  -- both were read, and a slice t has the records of the program that is meant
  module _ (ok : Sized F) {h : Held} {c : ℕ} (w : Inputs F F.literals s k h c) (program-bytes : Bytes s) where
    pub read-dividing : (t : List ℕ) → t ≡ encoded_program (expanded w.file) → Dividing t k c
    read-dividing t same =
        dividing F ok t (expanded w.file) same (items-expanded F s w.file program-bytes w.holds) k w.literals w.members c w.counted

    pub read-met : (t : List ℕ) → t ≡ encoded_program (expanded w.file) → {r : Answer ℕ} {e : List ℕ}
        → ((v : Dividing t k c) → Meets (delivered_quotient v.program.program v.literals out) r e) → Meets (quotiented F s k out) r e
    unfolding read-dividing dividing
    read-met t same m = quotient-met (expanded w.file) w.literals (items-parsed F s w.file w.holds) w.members (m (read-dividing t same))

    -- by way of a normal form
    module _ (normal : Normalizable F) where
      pub file-dividing : DividingFile normal_bytes s k c
      file-dividing =
          let p = expanded w.file in
          let few = expanded-few F p (items-expanded F s w.file program-bytes w.holds) in
          record {
            file = file-means F normal s w.file program-bytes w.holds (omega (arith, few, ok.rules));
            form = F;
            upto = F.literals;
            literals = w.literals;
            members = w.members;
            counted = w.counted;
          }

      pub file-met : {r : Answer ℕ} {e : List ℕ}
          → ((v : DividingFile normal_bytes s k c) → Meets (delivered_quotient (expanded v.file.items) v.literals out) r e) → Meets (quotiented F s k out) r e
      unfolding file-dividing file-means
      file-met m = quotient-met (expanded w.file) w.literals (items-parsed F s w.file w.holds) w.members (m file-dividing)

-- the program that is meant can be divided
unfoldable pub normal-dividing : {s k t : List ℕ} {c : ℕ} → DividingFile normal_bytes s k c → NormalOf s t → Dividing t k c
normal-dividing w is =
    record {
      program = normal-of w.file is;
      form = w.form;
      upto = w.upto;
      literals = w.literals;
      members = w.members;
      counted = w.counted;
    }

-- the same limits have the same outcome
pub met-same : (F G : Limits) (s k out : List ℕ) {r : Answer ℕ} {e : List ℕ} → F ≡ G → Meets (quotiented F s k out) r e → Meets (quotiented G s k out) r e
met-same F G s k out {r} {e} same m = subst (λ (H : Limits). Meets (quotiented H s k out) r e) same m

-- the two forms' figures fit two bytes each
pub sized-source : Sized source
unfolding source
sized-source = record { rules = omega arith }

pub sized-plain : Sized plain
unfolding plain
sized-plain = record { rules = omega arith }

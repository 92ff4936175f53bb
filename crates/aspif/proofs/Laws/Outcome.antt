-- Laws of exporting: the outcome, from what reading gives and the room that there is.
-- In order: a program that was read, as the passes ask for it; the answers that meet too short a buffer and a text, by marks; by the
-- program's own numbers; the refusals of reading; the form of plain programs.
-- Assumes nothing.
use Prim.Native.Nat.{ℕ, ◌≤◌, ◌<◌}
use Rattle.std.specs.Prelude.{Ok, Err}
use native.Mathlib.Omega.{arith}
use mathlib.Core.Path.{◌≡◌, refl, sym, ap, subst}
use mathlib.Core.List.{List}
use lib.Dec.{T}
use lib.ListN.{length}
use Rattle.buffer.specs.Bytes.{Bytes}
use Rattle.buffer.specs.Write.{Wrote}
use Rattle.literal.specs.declared.Limits.{Limits}
use Rattle.literal.specs.Limits.{plain}
use Rattle.semantics.specs.Rule.{Program}
use Rattle.record.specs.declared.Reason.TheVariants.{OutputShort}
use Rattle.record.specs.declared.Refusal.{Refusal}
use Rattle.record.specs.Refusal.{refusal}
use Rattle.record.specs.Result.{Answer, and_then, delivered}
use Rattle.record.specs.Layout.{keeps}
use Rattle.record.specs.Reading.{parsed, reading}
use Rattle.record.specs.Meets.{Meets}
use Rattle.record.proofs.Laws.Meant.{reading-refused, parsed-refused, reading-rules}
use Rattle.record.proofs.Laws.Delivered.{meets-refused, meets-short, meets-written}
use Rattle.record_walk.specs.Code.{Holds}
use Rattle.record_walk.proofs.Laws.Walk.{holds_read}
use Rattle.aspif_text.specs.Text.{aspif_text}
use Rattle.aspif_place.specs.Code.{Marks}
use Rattle.aspif_place.proofs.Laws.Limits.{plain-placeable}
use Rattle.aspif_number.specs.Code.{Placed}
use Rattle.aspif.specs.Aspif.{aspif_bytes, exported}
use Rattle.aspif.specs.Code.{text_in, Numberable, Counted, TextFits, Within, outcome_in, outcome_of, Exportable, enough}
use Rattle.aspif.proofs.Laws.Text.{numberable, text-enough, text-marked}

-- a program within the limits, as the passes ask for it
module _ {F : Limits} {n : ℕ} {s : List ℕ} (ok : Exportable F) (w : Holds (Within F n) s) where
  abbrev made : Numberable w.program
  made = numberable F ok w.program w.asked.kept

  abbrev pub holds-counted : Holds (Counted n) s
  holds-counted = record { program = w.program; bytes = w.bytes; asked = record { numberable = made; count = w.asked.count } }

  abbrev pub holds-placed : Holds Placed s
  holds-placed = record { program = w.program; bytes = w.bytes; asked = made.placed }

  -- it is short
  pub held-short : length s < 500000
  held-short = omega (arith, ap length w.bytes, made.short)

  -- where there is enough room for any text, its text has room
  abbrev pub roomy : (bits : List ℕ) (room : ℕ) → Marks w.program bits → enough F (length s) ≤ room → Holds (TextFits n bits room) s
  roomy bits room marks h =
      record {
        program = w.program;
        bytes = w.bytes;
        asked = record {
          counted = record { numberable = made; count = w.asked.count };
          fits = omega (
            arith,
            h,
            ap length (text-marked F ok w.program w.asked.kept bits marks),
            text-enough F ok w.program w.asked.kept,
            ap length w.bytes,
          );
        };
      }

-- to be measured, it need not be counted
abbrev pub holds-numberable : {n : ℕ} {s : List ℕ} → Holds (Counted n) s → Holds Numberable s
holds-numberable w = record { program = w.program; bytes = w.bytes; asked = w.asked.numberable }

-- measured, the text has room
abbrev pub measured-fits : {n : ℕ} {bits s : List ℕ} {room : ℕ} (w : Holds (Counted n) s) → length (text_in bits w.program) ≤ room
    → Holds (TextFits n bits room) s
measured-fits w h = record { program = w.program; bytes = w.bytes; asked = record { counted = w.asked; fits = h } }

module _ (bits : List ℕ) (p : Program) (out : List ℕ) where
  -- 9 where the buffer is shorter than the text
  pub short-met : (n : ℕ) → n ≡ length (text_in bits p) → length out < n → Meets (outcome_in bits p out) (Err (refusal OutputShort 0)) out
  unfolding outcome_in
  short-met n e h = meets-short (Ok (text_in bits p)) out (text_in bits p) refl (omega (arith, e))

  -- the text
  pub text-met : (e : List ℕ) (r : ℕ) → length (text_in bits p) ≤ length out → Wrote out e 0 (text_in bits p) r → Meets (outcome_in bits p out) (Ok r) e
  unfolding outcome_in
  text-met e r h w = meets-written (Ok (text_in bits p)) out (text_in bits p) refl h r e (omega (arith, w.next)) w.bytes

-- by its own numbers
pub own-numbers : (F : Limits) → Exportable F → (p : Program) → T (keeps F p) → (bits : List ℕ) → Marks p bits → (out : List ℕ) {r : Answer ℕ} {e : List ℕ}
    → Meets (outcome_in bits p out) r e → Meets (outcome_of p out) r e
unfolding outcome_in outcome_of
own-numbers F ok p k bits marks out {r} {e} m = subst (λ (bs : List ℕ). Meets (delivered (Ok bs) out) r e) (text-marked F ok p k bits marks) m

module _ (F : Limits) (s out : List ℕ) where
  -- what reading refuses, exporting does
  pub refused-met : (x : Refusal) → reading F s ≡ Err x → Meets (exported F s out) (Err x) out
  unfolding exported aspif_bytes and_then
  refused-met x e =
      meets-refused (aspif_bytes F s) out x
      (ap (λ (q : Answer Program). and_then q (λ p. Ok (aspif_text p))) (parsed-refused F s x (reading-refused F s x e)))

  module _ (none : F.sheets ≡ 0) (bytes : Bytes s) (count : ℕ) (e : reading F s ≡ Ok count) where
    told : (p : Program) × (parsed F s ≡ Ok p) × (length p ≡ count)
    told = reading-rules F s none bytes count e

    -- the program that was read
    pub given : Holds (Within F count) s
    given = holds_read (Within F count) F none s told.0 bytes told.1 (λ k. record { kept = k; count = told.2 })

    -- what is delivered of it is the outcome
    pub given-met : {r : Answer ℕ} {d : List ℕ} → Meets (outcome_of given.program out) r d → Meets (exported F s out) r d
    unfolding exported aspif_bytes outcome_of and_then given
    given-met {r} {d} m =
        subst (λ (q : Answer Program). Meets (delivered (and_then q (λ p. Ok (aspif_text p))) out) r d) (sym told.1) m

-- the same limits have the same outcome
pub meets-same : (F G : Limits) (s out : List ℕ) {r : Answer ℕ} {e : List ℕ} → F ≡ G → Meets (exported F s out) r e → Meets (exported G s out) r e
meets-same F G s out {r} {e} same m = subst (λ (H : Limits). Meets (exported H s out) r e) same m

-- plain programs can be exported
pub exportable-plain : Exportable plain
unfolding plain
exportable-plain =
    record { strict = refl; unsheeted = refl; placeable = plain-placeable; short = omega arith; heads = omega arith; bodies = omega arith; atoms = omega arith; literals = omega arith }

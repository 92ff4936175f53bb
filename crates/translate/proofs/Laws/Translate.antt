-- Laws of translating: the outcome, from what reading gives and the room that there is.
-- In order: a translatable program; the answers that meet too short a buffer, and a translation; a refusal; the program that is meant; a
-- program that was read; without sheets, and with them; the form of sources.
-- Assumes nothing.
use Prim.Native.Nat.{ℕ, ◌≤◌, ◌<◌}
use Rattle.std.specs.Prelude.{Ok, Err}
use native.Mathlib.Omega.{arith}
use mathlib.Core.Path.{◌≡◌, refl, sym, ◌∙◌, ap, subst}
use mathlib.Core.Bool.{false}
use mathlib.Core.List.{List}
use lib.Dec.{leb, le→leb}
use lib.ListN.{length}
use Rattle.buffer.specs.Bytes.{Bytes}
use Rattle.buffer.specs.Write.{write}
use Rattle.literal.specs.declared.Limits.{Limits}
use Rattle.literal.specs.Limits.{source}
use Rattle.semantics.specs.Rule.{naf, Program}
use Rattle.semantics.specs.Item.{Item, expanded}
use Rattle.semantics.specs.Form.{keeps_rule}
use Rattle.semantics.specs.Translation.{translation, translation_length}
use Rattle.semantics.proofs.Laws.Tests.{all-intro, all-mem}
use Rattle.semantics.proofs.Laws.Form.{kept}
use Rattle.semantics.proofs.Laws.Length.{length-translation}
use Rattle.semantics.proofs.Laws.Expanded.{Expanded, expanded-each}
use Rattle.semantics.proofs.Laws.Room.{translation-count, translation_bytes}
use Rattle.record.specs.declared.Held.{Held}
use Rattle.record.specs.declared.Reason.TheVariants.{OutputShort}
use Rattle.record.specs.declared.Refusal.{Refusal}
use Rattle.record.specs.Refusal.{refusal}
use Rattle.record.specs.Result.{Answer, and_then, delivered}
use Rattle.record.specs.Layout.{encoded_program}
use Rattle.record.specs.Reading.{items, parsed, holding_of}
use Rattle.record.specs.Code.{sheeted}
use Rattle.record.specs.Meets.{Meets}
use Rattle.record.proofs.Laws.Layout.{length-encoded-program}
use Rattle.record.proofs.Laws.Reading.{held_items, held-refused, items-parsed}
use Rattle.record.proofs.Laws.Meant.{parsed-refused, items-expanded, held-unsheeted}
use Rattle.record.proofs.Laws.Delivered.{meets-refused, meets-short, meets-written}
use Rattle.record_walk.specs.Code.{Holds, HoldsFile}
use Rattle.expand.specs.Code.{normal_bytes, Normalizable, Meaning}
use Rattle.expand.proofs.Laws.File.{file-means}
use Rattle.translate.specs.Translate.{translated_bytes, translated}
use Rattle.translate.specs.Code.{Translatable, Fitting, Writable, translation_of}

-- a translation is as long as was measured
pub length-translated : (p : Program) → length (encoded_program (translation p)) ≡ translation_length p
length-translated p = length-encoded-program (translation p) ∙ length-translation p

-- a program within the limits is translatable, with the rules that sheets append to it
pub translatable : (F : Limits) → Writable F → (p : Program) → Expanded F p → Translatable p
translatable F ok p e =
    record {
      rules = omega (arith, translation-count F p e, ok.rules);
      bytes = omega (arith, translation_bytes F p e, ok.bytes);
      nafs = all-intro (λ r. leb (length (naf r)) 254) p
          (λ r m. le→leb (length (naf r)) 254 (omega (arith, (kept F r (all-mem (keeps_rule F) (expanded-each F p e ok.appended) m)).nafs, ok.nafs)));
    }

-- what is written of a program that is held
module _ (s out : List ℕ) (w : Holds Translatable s) (n : ℕ) (measured : (v : Holds Translatable s) → n ≡ translation_length v.program) where
  bytes : List ℕ
  bytes = encoded_program (translation w.program)

  -- 9 where the buffer is shorter than the translation
  pub short-met : length out < n → Meets (translation_of w.program out) (Err (refusal OutputShort 0)) out
  unfolding bytes
  short-met h = meets-short (Ok bytes) out bytes refl (omega (arith, measured w, length-translated w.program))

  module _ (h : n ≤ length out) where
    -- what writing asks
    pub fitting : Holds (Fitting (length out)) s
    fitting = record { program = w.program; bytes = w.bytes; asked = record { translatable = w.asked; fits = omega (arith, measured w) } }

    -- the translation
    pub written-met : (e : List ℕ) → ((v : Holds (Fitting (length out)) s) → e ≡ write out 0 (encoded_program (translation v.program)))
        → Meets (translation_of w.program out) (Ok n) e
    unfolding bytes fitting
    written-met e done =
        let long = measured w ∙ sym (length-translated w.program) in
        meets-written (Ok bytes) out bytes refl (omega (arith, long)) n e long (done fitting)

module _ (F : Limits) (s out : List ℕ) where
  -- what reading refuses, translating does
  pub refused-met : (x : Refusal) → holding_of (items F s) ≡ Err x → Meets (translated F s out) (Err x) out
  unfolding translated translated_bytes and_then
  refused-met x e =
      meets-refused (translated_bytes F s) out x
      (ap (λ (q : Answer Program). and_then q (λ p. Ok (encoded_program (translation p)))) (parsed-refused F s x (held-refused (items F s) x e)))

  -- the translation of the program that is meant is the outcome, wherever it was made
  translation-met : (p : Program) → parsed F s ≡ Ok p → {r : Answer ℕ} {end : List ℕ} → Meets (translation_of p out) r end
      → Meets (translated F s out) r end
  unfolding translated translated_bytes and_then
  translation-met p e {r} {end} m =
      subst (λ (q : Answer Program). Meets (delivered (and_then q (λ p. Ok (encoded_program (translation p)))) out) r end) (sym e) m

  -- a file that was read
  module _ (ok : Writable F) (bytes : Bytes s) (h : Held) (e : holding_of (items F s) ≡ Ok h) where
    is : List Item
    is = (held_items (items F s) h e).0

    read : items F s ≡ Ok is
    unfolding is
    read = (held_items (items F s) h e).1

    can : Translatable (expanded is)
    can = translatable F ok (expanded is) (items-expanded F s is bytes read)

    -- without sheets its records are the slice
    pub given : sheeted h ≡ false → Holds Translatable s
    unfolding is
    given none =
        record { program = expanded is; bytes = held-unsheeted F s is bytes read h (held_items (items F s) h e).2 none; asked = can }

    pub read-met : (none : sheeted h ≡ false) → {r : Answer ℕ} {end : List ℕ} → ((w : Holds Translatable s) → Meets (translation_of w.program out) r end)
        → Meets (translated F s out) r end
    unfolding given
    read-met none m = translation-met (expanded is) (items-parsed F s is read) (m (given none))

    -- with sheets it has a normal form
    module _ (normal : Normalizable F) where
      pub given-file : HoldsFile (Meaning Translatable normal_bytes) s
      given-file = file-means F normal s is bytes read can

      pub file-met : {r : Answer ℕ} {end : List ℕ}
          → ((w : HoldsFile (Meaning Translatable normal_bytes) s) → Meets (translation_of (expanded w.items) out) r end) → Meets (translated F s out) r end
      unfolding given-file file-means
      file-met m = translation-met (expanded is) (items-parsed F s is read) (m given-file)

-- the same limits have the same outcome
pub meets-same : (F G : Limits) (s out : List ℕ) {r : Answer ℕ} {e : List ℕ} → F ≡ G → Meets (translated F s out) r e → Meets (translated G s out) r e
meets-same F G s out {r} {e} same m = subst (λ (H : Limits). Meets (translated H s out) r e) same m

-- a translation is made in the form of sources
pub writable-source : Writable source
unfolding source
writable-source =
    record { rules = omega arith; bytes = omega arith; nafs = omega arith; appended = record { heads = omega arith; positives = omega arith } }

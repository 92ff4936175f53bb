-- Laws of the two passes: what is measured and written of a program is the translation of the rules that are gone.
-- In order: the translation's bytes, one rule more; what a record adds, and that it fits; writing.
-- Assumes nothing.
use Prim.Native.Nat.{ℕ, ◌+◌, ◌≤◌, ◌<◌}
use native.Mathlib.Omega.{arith}
use mathlib.Core.Path.{◌≡◌, refl, sym, ◌∙◌, ap}
use mathlib.Core.List.{List, [], ◌∷◌, ◌++◌, append-nil}
use lib.Dec.{leb, leb→le}
use lib.ListN.{length, length-append}
use Rattle.buffer.specs.Write.{write}
use Rattle.buffer.proofs.Laws.Write.{write-nil}
use Rattle.buffer.proofs.Laws.Next.{write-behind}
use Rattle.semantics.specs.Rule.{Rule, naf, Program}
use Rattle.semantics.specs.Translation.{translated_rule, translation_from, translation, translated_count, translated_counts, translation_length}
use Rattle.semantics.proofs.Laws.Length.{program_length, translation-append, rule-count, counts-append, counts-least, length-translation, count-translation}
use Rattle.record.specs.Header.{naf_count}
use Rattle.record.specs.Layout.{encoded_rules, encoded_end, encoded_program}
use Rattle.record.proofs.Laws.Layout.{encoded-rules-append, length-encoded-rules}
use Rattle.record_walk.proofs.Laws.Fields.{naf-count}
use Rattle.record_walk.proofs.Laws.Records.{Ahead, Next, next-rule-keeps}
use Rattle.translate_rule.specs.Code.{length_at, count_at}
use Rattle.translate_rule.proofs.Laws.Sizes.{told, length-translated}
use Rattle.translate.specs.Code.{Translatable}

-- the records of what rules become
abbrev pub bytes_of : Program → List ℕ
bytes_of p = encoded_rules (translation p)

-- none at first
pub bytes-none : length (bytes_of []) ≡ 0
unfolding translation translation_from encoded_rules
bytes-none = refl

-- the rules before one, that one, and those behind it
bytes-split : (gone : Program) (r : Rule) (behind : Program)
    → bytes_of (gone ++ r ∷ behind) ≡ bytes_of gone
    ++ (encoded_rules (translated_rule (1 + length gone) r) ++ encoded_rules (translation_from (1 + length gone + 1) behind))
unfolding translation translation_from
bytes-split gone r behind =
    let n = 1 + length gone in
    ap encoded_rules (translation-append 1 gone (r ∷ behind))
    ∙ encoded-rules-append (translation_from 1 gone) (translated_rule n r ++ translation_from (n + 1) behind)
    ∙ ap (λ (bs : List ℕ). encoded_rules (translation_from 1 gone) ++ bs) (encoded-rules-append (translated_rule n r) (translation_from (n + 1) behind))

-- one rule more
bytes_next : (gone : Program) (r : Rule) → bytes_of (gone ++ r ∷ []) ≡ bytes_of gone ++ encoded_rules (translated_rule (1 + length gone) r)
unfolding translation_from encoded_rules
bytes_next gone r =
    bytes-split gone r [] ∙ ap (λ (bs : List ℕ). bytes_of gone ++ bs) (append-nil (encoded_rules (translated_rule (1 + length gone) r)))

count_next : (gone : Program) (r : Rule) → length (translation (gone ++ r ∷ [])) ≡ length (translation gone) + translated_count r
unfolding translation translation_from
count_next gone r =
    let n = 1 + length gone in
    ap length (translation-append 1 gone (r ∷ [])) ∙ length-append (translation_from 1 gone) (translated_rule n r ++ [])
    ∙ ap (λ (k : ℕ). length (translation_from 1 gone) + k) (ap length (append-nil (translated_rule n r)) ∙ rule-count n r)

-- the rules before one, that one, and those behind it
count-split : (gone : Program) (r : Rule) (behind : Program) → length (translation gone) + translated_count r ≤ length (translation (gone ++ r ∷ behind))
unfolding translated_counts
count-split gone r behind =
    omega (arith, count-translation gone, count-translation (gone ++ r ∷ behind), counts-append gone (r ∷ behind))

-- the translation's length, by the bytes of its rules
pub length-bytes : (p : Program) → translation_length p ≡ 4 + length (bytes_of p)
unfolding program_length
length-bytes p = omega (arith, length-translation p, length-encoded-rules (translation p))

-- the bytes, the rules and the numbers, with what the record that starts t adds, fit their types
pub record Adds (gone : Program) (t : List ℕ) : Type 0 where
  pub bytes : length (bytes_of gone) + length_at t < 2147483648
  pub rules : length (translation gone) + count_at t < 65536
  pub numbers : length gone + 2 < 65536

module _ {p gone : Program} {t : List ℕ} (m : Next p gone t) where
  -- what the next rule's record adds: bytes, and rules
  pub adds_bytes : length (bytes_of (gone ++ m.the-rule ∷ [])) ≡ length (bytes_of gone) + length_at t
  adds_bytes =
      let n = 1 + length gone in
      ap length (bytes_next gone m.the-rule) ∙ length-append (bytes_of gone) (encoded_rules (translated_rule n m.the-rule))
      ∙ ap (λ (k : ℕ). length (bytes_of gone) + k) (length-translated n m.the-rule ∙ sym (told t m.the-rule m.starts).long)

  pub adds-rules : length (translation (gone ++ m.the-rule ∷ [])) ≡ length (translation gone) + count_at t
  adds-rules = count_next gone m.the-rule ∙ ap (λ (k : ℕ). length (translation gone) + k) (sym (told t m.the-rule m.starts).count)

  -- there is room for them, and for the end record
  pub adds-within : length (bytes_of gone) + length_at t + 4 ≤ translation_length p
  adds-within =
      let r = m.the-rule in
      let n = 1 + length gone in
      let one = encoded_rules (translated_rule n r) in
      let rest = encoded_rules (translation_from (n + 1) m.behind) in
      omega (
        arith,
        length-bytes p,
        ap (λ (q : Program). length (bytes_of q)) m.split,
        ap length (bytes-split gone r m.behind),
        length-append (bytes_of gone) (one ++ rest),
        length-append one rest,
        length-translated n r,
        (told t r m.starts).long,
      )

  -- of a translatable program, all of them fit their types
  pub adds-few : Translatable p → Adds gone t
  adds-few ok =
      let r = m.the-rule in
      let all = ap (λ (q : Program). length (translation q)) m.split in
      let rules : length (translation gone) + count_at t < 65535 = omega (arith, count-split gone r m.behind, all, (told t r m.starts).count, ok.rules) in
      record {
        bytes = omega (arith, adds-within, ok.bytes);
        rules = omega arith;
        numbers = omega (arith, adds-rules, counts-least (gone ++ r ∷ []), count-translation (gone ++ r ∷ []), length-append gone (r ∷ []), ok.rules);
      }

  -- and one naf literal more fits its byte
  pub next-nafs : Translatable p → naf_count t ≤ 254
  next-nafs ok =
      let few = leb→le (length (naf m.the-rule)) 254 (next-rule-keeps (λ r. leb (length (naf r)) 254) ok.nafs m) in
      omega (arith, few, naf-count t m.the-rule m.starts)

-- at any place the rules of a translatable program's translation can be counted
pub made-few : {p gone : Program} {rest : List ℕ} → Ahead p gone rest → Translatable p → length (translation gone) < 65536
made-few {p} {gone} w ok =
    omega (
      arith,
      count-translation gone,
      count-translation p,
      ap translated_counts w.split,
      counts-append gone w.left,
      ok.rules,
    )

-- what writing has made of the rules that are gone
pub record Made (out₀ out : List ℕ) (number made to : ℕ) (gone : Program) : Type 0 where
  pub numbered : number ≡ length gone
  pub counted : made ≡ length (translation gone)
  pub long : to ≡ length (bytes_of gone)
  pub written : out ≡ write out₀ 0 (bytes_of gone)

pub made-start : (out : List ℕ) (number : ℕ) → number ≡ 0 → Made out out number 0 0 []
unfolding translation translation_from encoded_rules
made-start out number e = record { numbered = e; counted = refl; long = refl; written = sym (write-nil out 0) }

pub made-next : {out₀ out e t : List ℕ} {p gone : Program} {number made to : ℕ} (m : Next p gone t) → Made out₀ out number made to gone
    → (i next : ℕ) → i ≡ number → next ≡ number + 1 → e ≡ write out to (encoded_rules (translated_rule (i + 1) m.the-rule))
    → (count long : ℕ) → count ≡ count_at t → long ≡ length_at t → Made out₀ e next (made + count) (to + long) (gone ++ m.the-rule ∷ [])
made-next {out₀ = out₀} {out} {gone = gone} {to = to} m w i next ei en done count long ec el =
    let r = m.the-rule in
    let one : i + 1 ≡ 1 + length gone = omega (arith, w.numbered) in
    let here = done ∙ ap (λ (n : ℕ). write out to (encoded_rules (translated_rule n r))) one in
    record {
      numbered = omega (arith, w.numbered, length-append gone (r ∷ []));
      counted = omega (arith, w.counted, ec, adds-rules m);
      long = omega (arith, w.long, el, adds_bytes m);
      written =
          write-behind out₀ 0 (bytes_of gone) to (encoded_rules (translated_rule (1 + length gone) r)) (omega arith) (omega arith) w.written here
          ∙ ap (write out₀ 0) (sym (bytes_next gone r));
    }

-- with the end record, it is the translation
pub made-end : {out₀ out e : List ℕ} {number made to : ℕ} {p : Program} → Made out₀ out number made to p → e ≡ write out to (encoded_end made)
    → e ≡ write out₀ 0 (encoded_program (translation p))
unfolding encoded_program
made-end {out₀} {out} {to = to} {p} w done =
    write-behind out₀ 0 (bytes_of p) to (encoded_end (length (translation p))) (omega arith) (omega arith) w.written
    (done ∙ ap (λ (n : ℕ). write out to (encoded_end n)) w.counted)

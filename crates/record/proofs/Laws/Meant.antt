-- What reading answers of a file, and the items and the program that are meant.
-- In order: a refusal; a number of rules, and in a form without sheets; the program that is meant; a file without sheet records.
-- Assumes nothing.
use Prim.Native.Nat.{ℕ, ◌+◌, ◌*◌, ◌≤◌}
use Rattle.std.specs.Prelude.{Ok, Err}
use native.Mathlib.Omega.{arith}
use mathlib.Core.Path.{◌≡◌, refl, sym, ◌∙◌, ap, subst}
use mathlib.Core.Bool.{false}
use mathlib.Core.List.{List}
use lib.Dec.{T}
use lib.ListN.{length, length-append}
use Rattle.buffer.specs.Bytes.{Bytes}
use Rattle.literal.specs.declared.Limits.{Limits}
use Rattle.literal.specs.declared.Kinds.{Kinds}
use Rattle.literal.specs.declared.Kinds.TheVariants.{SourceKinds, PlainKinds}
use Rattle.literal.specs.Literal.{most_kind}
use Rattle.literal.specs.Limits.{plain}
use Rattle.semantics.specs.Rule.{Program}
use Rattle.semantics.specs.Item.{Item, rules, appended_by, expanded}
use Rattle.semantics.proofs.Laws.Expanded.{Expanded}
use Rattle.semantics.proofs.Laws.Expansion.{expanded_keeps, expanded-bytes}
use Rattle.semantics.proofs.Laws.Length.{program_length}
use Rattle.record.specs.declared.Held.{Held}
use Rattle.record.specs.declared.Refusal.{Refusal}
use Rattle.record.specs.Result.{Answer, and_then}
use Rattle.record.specs.Layout.{encoded_end, encoded_program, keeps, encoded_items, encoded_file}
use Rattle.record.proofs.Laws.Layout.{length-encoded-rules, length-encoded-program, length-end, rules-within}
use Rattle.record.specs.Reading.{items, written, parsed, held_of, reading_of, reading}
use Rattle.record.specs.Code.{sheeted}
use Rattle.record.proofs.Laws.Keeps.{kept-file}
use Rattle.record.proofs.Laws.Result.{accepted-eq, and-then-accepted, refused-accepted}
use Rattle.record.proofs.Laws.Unsheeted.{expanded-rules, all-rules}
use Rattle.record.proofs.Laws.Reading.{read_count, read-refused, none-sheeted, items-read, parsed-items, items-parsed, unsheeted, no-sheets}

module _ (F : Limits) (s : List ℕ) where
  -- a refusal is that of the items, and then no program is meant
  pub reading-refused : (x : Refusal) → reading F s ≡ Err x → items F s ≡ Err x
  unfolding reading written and_then
  reading-refused x e = go (items F s) refl
    where
      told : written F s ≡ Err x
      told = read-refused (written F s) x e

      go : (q : Answer (List Item)) → items F s ≡ q → items F s ≡ Err x
      go (Ok is) h = absurd (refused-accepted (sym told ∙ ap (λ (r : Answer (List Item)). and_then r (λ is. Ok (rules is))) h))
      go (Err y) h =
          let same : ◌≡◌ {A = Answer Program} (Err y) (Err x) = ap (λ (r : Answer (List Item)). and_then r (λ is. Ok (rules is))) (sym h) ∙ told in
          let one : y ≡ x = cc in h ∙ ap Err one

  pub parsed-refused : (x : Refusal) → items F s ≡ Err x → parsed F s ≡ Err x
  unfolding parsed and_then
  parsed-refused x e = ap (λ (r : Answer (List Item)). and_then r (λ is. Ok (expanded is))) e

  -- a number of rules is that of the items' rules
  pub reading-count : (n : ℕ) → reading F s ≡ Ok n → (is : List Item) × (items F s ≡ Ok is) × (length (rules is) ≡ n)
  unfolding reading written
  reading-count n e =
      let w = read_count (written F s) n e in
      let v = and-then-accepted (items F s) (λ is. Ok (rules is)) w.0 w.1 in
      (v.0, v.1, ap length (accepted-eq v.2) ∙ w.2)

  pub items-counted : (is : List Item) → items F s ≡ Ok is → reading F s ≡ Ok (length (rules is))
  unfolding reading written and_then reading_of
  items-counted is e = ap (λ (r : Answer (List Item)). reading_of (and_then r (λ is. Ok (rules is)))) e

  -- and then a program is meant
  pub reading-meant : (n : ℕ) → reading F s ≡ Ok n → (p : Program) × (parsed F s ≡ Ok p)
  reading-meant n e = let w = reading-count n e in (expanded w.0, items-parsed F s w.0 w.1)

  -- in a form without sheets it has those rules
  pub reading-rules : F.sheets ≡ 0 → Bytes s → (n : ℕ) → reading F s ≡ Ok n → (p : Program) × (parsed F s ≡ Ok p) × (length p ≡ n)
  reading-rules none bytes n e =
      let w = reading-count n e in
      let no = no-sheets F none s w.0 bytes w.1 in
      let same = ap expanded (all-rules w.0 no.0 no.1) ∙ expanded-rules (rules w.0) in
      (expanded w.0, items-parsed F s w.0 w.1, ap length same ∙ w.2)

-- each form has kinds 0 to 3 at least
least : (k : Kinds) → 3 ≤ most_kind k
unfolding most_kind
least SourceKinds = omega arith
least PlainKinds = omega arith

-- the program that a file's items mean: within the form's limits, with the rules that sheets append behind it
pub items-expanded : (F : Limits) (s : List ℕ) (is : List Item) → Bytes s → items F s ≡ Ok is → Expanded F (expanded is)
items-expanded F s is bytes e = expanded_keeps F (least F.kinds) is (kept-file F is (items-read F s is bytes e).1).items

-- its bytes: no more than the file's, and 17 for each rule that is appended
pub expanded-within : (F : Limits) (s : List ℕ) (is : List Item) → Bytes s → items F s ≡ Ok is
    → length (encoded_program (expanded is)) ≤ length s + 17 * length (appended_by is)
unfolding encoded_file program_length
expanded-within F s is bytes e =
    let w = items-read F s is bytes e in
    omega (
      arith,
      length-encoded-program (expanded is),
      expanded-bytes F (least F.kinds) is (kept-file F is w.1).items,
      length-encoded-rules (rules is),
      rules-within is,
      ap length w.0,
      length-append (encoded_items is) (encoded_end (length (rules is))),
      length-end (length (rules is)),
    )

pub parsed-expanded : (F : Limits) (s : List ℕ) (p : Program) → Bytes s → parsed F s ≡ Ok p → Expanded F p
parsed-expanded F s p bytes e = let w = parsed-items F s p e in subst (Expanded F) w.2 (items-expanded F s w.0 bytes w.1)

module _ (F : Limits) (s : List ℕ) (is : List Item) (bytes : Bytes s) (read : items F s ≡ Ok is) (h : Held) (held : held_of is ≡ h) where
  -- where no sheet record is held, the slice is the encoding of the program that is meant
  pub held-unsheeted : sheeted h ≡ false → s ≡ encoded_program (expanded is)
  held-unsheeted none =
      let no = none-sheeted is (ap sheeted held ∙ none) in (unsheeted F s is bytes read no.0 no.1).0

  -- which keeps the form's limits
  pub held_keeps : sheeted h ≡ false → T (keeps F (expanded is))
  held_keeps none =
      let no = none-sheeted is (ap sheeted held ∙ none) in (unsheeted F s is bytes read no.0 no.1).1

  -- so it is in a form without sheets
  pub form-unsheeted : F.sheets ≡ 0 → s ≡ encoded_program (expanded is)
  form-unsheeted none = let no = no-sheets F none s is bytes read in (unsheeted F s is bytes read no.0 no.1).0

-- the plain form has no sheets
pub plain-unsheeted : plain.sheets ≡ 0
unfolding plain
plain-unsheeted = refl

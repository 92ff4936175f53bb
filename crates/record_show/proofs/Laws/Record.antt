-- What is shown is the record itself: rule n's record, behind the records of the items before it (01, "Show").
-- In order: where the record lies; the bytes there; what is shown, and what a refusal shows.
-- Assumes nothing.
use Prim.Native.Nat.{ℕ, ◌+◌}
use Rattle.std.specs.Prelude.{Ok, Err}
use native.Mathlib.Omega.{arith}
use mathlib.Core.Path.{◌≡◌, refl, sym, ◌∙◌, ap, ap₂, subst}
use mathlib.Core.Bool.{Bool, true, false, ◌&&◌}
use mathlib.Core.List.{List, ◌∷◌, ◌++◌, append_assoc}
use lib.ListN.{length, take, drop, length-append}
use lib.Seq.{drop_at, take-append_seam}
use borrow.Author.Tests.{le-leb}
use Rattle.buffer.specs.Bytes.{Bytes}
use Rattle.literal.specs.declared.Limits.{Limits}
use Rattle.literal.specs.Literal.{in_range}
use Rattle.semantics.specs.Rule.{Rule}
use Rattle.semantics.specs.Item.{Item, rule, rules}
use Rattle.semantics.proofs.Laws.Expansion.{rules-append}
use Rattle.record.specs.declared.Reason.TheVariants.{NoSuchRule}
use Rattle.record.specs.declared.Refusal.{Refusal}
use Rattle.record.specs.Refusal.{refusal}
use Rattle.record.specs.Result.{Answer}
use Rattle.record.specs.Layout.{encoded_rule, encoded_end, encoded_item, encoded_items, encoded_file}
use Rattle.record.specs.Reading.{items}
use Rattle.record.proofs.Laws.Layout.{encoded-items-append}
use Rattle.record.proofs.Laws.Reading.{items-read}
use Rattle.record_show.specs.declared.Extent.{Extent}
use Rattle.record_show.specs.Show.{extent_from, shown, shown_extent}
use Rattle.record_show.proofs.Laws.Extent.{extent-behind}

-- what one answer shows
at-extent : {d e : Extent} → ◌≡◌ {A = Answer Extent} (Ok d) (Ok e) → d ≡ e
at-extent q = cc

-- the bytes there
part-behind : (s tail : List ℕ) (before : List Item) (r : Rule) (after : List Item) → s ≡ encoded_items (before ++ rule r ∷ after) ++ tail
    → take (length (encoded_rule r)) (drop (length (encoded_items before)) s) ≡ encoded_rule r
unfolding encoded_items encoded_item
part-behind s tail before r after e =
    let rest = encoded_items after ++ tail in
    let bytes =
    e ∙ ap (λ (x : List ℕ). x ++ tail) (encoded-items-append before (rule r ∷ after))
    ∙ append_assoc (encoded_items before) (encoded_rule r ++ encoded_items after) tail
    ∙ ap (λ (x : List ℕ). encoded_items before ++ x) (append_assoc (encoded_rule r) (encoded_items after) tail) in
    ap (take (length (encoded_rule r))) (ap (drop (length (encoded_items before))) bytes
    ∙ drop_at (encoded_items before) (encoded_rule r ++ rest) (length (encoded_items before)) refl)
    ∙ take-append_seam (encoded_rule r) rest

module _ (F : Limits) (b : List ℕ) (before : List Item) (r : Rule) (after : List Item) (bytes : Bytes b) (read : items F b ≡ Ok (before ++ rule r ∷ after))
  where
    n : ℕ
    n = length (rules before) + 1

    counted : length (rules (before ++ rule r ∷ after)) ≡ n + length (rules after)
    unfolding rules n
    counted = ap length (rules-append before (rule r ∷ after)) ∙ omega (arith, length-append (rules before) (r ∷ rules after))

    -- r's record is found behind those of the items before it
    pub shown-behind : shown F b (length (rules before) + 1) ≡ Ok (record { start = length (encoded_items before); size = length (encoded_rule r) })
    unfolding shown n
    shown-behind =
        ap shows read
        ∙ ap₂ (λ (x y : Bool). pick (before ++ rule r ∷ after) (x && y)) (le-leb 1 n (omega arith))
        (le-leb n (length (rules (before ++ rule r ∷ after))) (omega (arith, counted)))
        ∙ ap Ok (extent-behind before r after n refl)
      where
        pick : List Item → Bool → Answer Extent
        pick is x = elim x [ true ↦ Ok (extent_from 0 is (length (rules before) + 1)) | false ↦ Err (refusal NoSuchRule 0) ]

        shows : Answer (List Item) → Answer Extent
        shows q = elim q [ Err x ↦ Err x | Ok is ↦ pick is (in_range (length (rules is)) (length (rules before) + 1)) ]

    -- the part that is handed back is r's record
    pub shown-record : (e : Extent) → shown F b (length (rules before) + 1) ≡ Ok e → take e.size (drop e.start b) ≡ encoded_rule r
    unfolding encoded_file
    shown-record e q =
        subst (λ (x : Extent). take x.size (drop x.start b) ≡ encoded_rule r) same
        (part-behind b (encoded_end (length (rules (before ++ rule r ∷ after)))) before r after (items-read F b (before ++ rule r ∷ after) bytes read).0)
      where
        same : record { start = length (encoded_items before); size = length (encoded_rule r) } ≡ e
        same = at-extent (sym shown-behind ∙ q)

-- a refusal shows nothing
pub shown-nothing : (F : Limits) (b : List ℕ) (n : ℕ) (x : Refusal) → shown F b n ≡ Err x → shown_extent (shown F b n) ≡ record { start = 0; size = 0 }
unfolding shown_extent
shown-nothing F b n x e = ap shown_extent e

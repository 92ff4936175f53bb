-- What is shown, and the place of a refusal, lie within the form's length. Assumes nothing.
use Prim.Native.Nat.{ℕ, ◌+◌, ◌≤◌}
use Rattle.std.specs.Prelude.{Ok, Err}
use native.Mathlib.Omega.{arith}
use mathlib.Core.Path.{◌≡◌, refl, subst}
use mathlib.Core.Bool.{Bool, true, false}
use mathlib.Core.List.{List}
use lib.ListN.{length}
use Rattle.buffer.specs.Bytes.{Bytes}
use Rattle.literal.specs.declared.Limits.{Limits}
use Rattle.literal.specs.Literal.{in_range}
use Rattle.semantics.specs.Item.{Item, rules}
use Rattle.record.specs.declared.Reason.TheVariants.{NoSuchRule}
use Rattle.record.specs.declared.Refusal.{Refusal}
use Rattle.record.specs.Refusal.{refusal}
use Rattle.record.specs.Result.{Answer}
use Rattle.record.specs.Reading.{items}
use Rattle.record.proofs.Laws.Places.{Placed}
use Rattle.record.proofs.Laws.Bounds.{items-placed, items-short}
use Rattle.record_show.specs.declared.Extent.{Extent}
use Rattle.record_show.specs.Show.{extent_from, shown}
use Rattle.record_show.proofs.Laws.Shown.{shown-fits}

-- the place of show's refusal, and the end of what it shows
pub shown-place : (F : Limits) (s : List ℕ) (n : ℕ) (x : Refusal) → shown F s n ≡ Err x → x.place ≤ F.length
unfolding shown
shown-place F s n x e = go (items F s) (items-placed F s) e
  where
    pick : List Item → Bool → Answer Extent
    pick p b = elim b [ true ↦ Ok (extent_from 0 p n) | false ↦ Err (refusal NoSuchRule 0) ]

    picked : (p : List Item) (b : Bool) → pick p b ≡ Err x → x.place ≤ F.length
    picked p true f = let z : ◌≡◌ {A = ℕ} 0 1 = cc in absurd (omega arith)
    picked p false f = let same : refusal NoSuchRule 0 ≡ x = cc in subst (λ (v : Refusal). v.place ≤ F.length) same (omega arith)

    go : (q : Answer (List Item)) → Placed F.length q
        → (elim q as (λ y. Answer Extent) [ Err y ↦ Err y | Ok p ↦ pick p (in_range (length (rules p)) n) ]) ≡ Err x
        → x.place ≤ F.length
    go (Ok p) w f = picked p (in_range (length (rules p)) n) f
    go (Err y) w f = let same : y ≡ x = cc in subst (λ (v : Refusal). v.place ≤ F.length) same w

pub shown-end : (F : Limits) (s : List ℕ) (n : ℕ) (e : Extent) → Bytes s → shown F s n ≡ Ok e → e.start + e.size ≤ F.length
unfolding shown
shown-end F s n e bytes q = go (items F s) refl q
  where
    fits : e.start + e.size ≤ length s
    fits = shown-fits F s n e bytes q

    go : (r : Answer (List Item)) → items F s ≡ r
        → (elim r as (λ y. Answer Extent) [
          | Err y ↦ Err y
          | Ok
              p ↦ elim (in_range (length (rules p)) n) as (λ y. Answer Extent) [ true ↦ Ok (extent_from 0 p n) | false ↦ Err (refusal NoSuchRule 0) ]
        ])
        ≡ Ok e
        → e.start + e.size ≤ F.length
    go (Ok p) w f = omega (arith, items-short F s p w, fits)
    go (Err y) w f = let z : ◌≡◌ {A = ℕ} 0 1 = cc in absurd (omega arith)

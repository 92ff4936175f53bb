-- Places lie within the form's length. Assumes nothing.
use Prim.Native.Nat.{ℕ, zero, suc, ◌+◌, ◌≤◌}
use Rattle.std.specs.Prelude.{Ok, Err}
use native.Mathlib.Omega.{arith}
use mathlib.Core.Path.{◌≡◌, refl, subst}
use mathlib.Core.List.{List, [], ◌∷◌}
use lib.ListN.{length, drop, length-drop}
use borrow.Author.Tests.{ltb-false}
use Rattle.literal.specs.declared.Limits.{Limits}
use Rattle.semantics.specs.Rule.{Program}
use Rattle.semantics.specs.Item.{Item, rules, expanded}
use Rattle.record.specs.declared.Refusal.{Refusal}
use Rattle.record.specs.declared.Held.{Held}
use Rattle.record.specs.Refusal.{shifted}
use Rattle.record.specs.Result.{Answer, and_then}
use Rattle.record.specs.Reading.{Entry, item, end, record_at, nothing, holding, items_from, items, written, parsed, reading_of, reading}
use Rattle.record.proofs.Laws.Result.{refuse-if-accepted, and-then-accepted}
use Rattle.record.proofs.Laws.Places.{Placed, refuse-if-placed, and-then-placed, record-placed}
use Rattle.record.proofs.Laws.Program.{record-size}

from-placed : (F : Limits) (f : ℕ) (t : List ℕ) (at : ℕ) (h : Held) (k : ℕ) → at + length t ≤ k → Placed k (items_from F f t at h)
unfolding items_from shifted
from-placed F zero t at h k fits = omega arith
from-placed F (suc f) t at h k fits =
    go (record_at F h t) refl (record-placed F h t) (λ i size within. from-placed F f (drop size t) (at + size) (holding h i) k within)
  where
    Rest : Type 0
    Rest = (i : Item) (size : ℕ) → at + size + length (drop size t) ≤ k → Placed k (items_from F f (drop size t) (at + size) (holding h i))

    after_entry : Entry → Answer (List Item)
    after_entry e = elim e [ item i size ↦ and_then (items_from F f (drop size t) (at + size) (holding h i)) (λ is. Ok (i ∷ is)) | end ↦ Ok [] ]

    after : Answer Entry → Answer (List Item)
    after x = elim x [ Err y ↦ Err (shifted at y) | Ok e ↦ after_entry e ]

    entry : (e : Entry) → record_at F h t ≡ Ok e → Rest → Placed k (after_entry e)
    entry end w ih = tt
    entry (item i size) w ih =
        let sized = record-size F t i size h w in
        and-then-placed k (items_from F f (drop size t) (at + size) (holding h i)) (λ is. Ok (i ∷ is))
        (ih i size (omega (arith, sized.fits, length-drop size t))) (λ is. tt)

    go : (x : Answer Entry) → record_at F h t ≡ x → Placed (length t) x → Rest → Placed k (after x)
    go (Err y) w p ih = omega arith
    go (Ok e) w p ih = entry e w ih

-- what reading refuses lies within the form's length
pub items-placed : (F : Limits) (s : List ℕ) → Placed F.length (items F s)
unfolding items
items-placed F s =
    refuse-if-placed F.length _ _ _ (omega arith)
    (λ e. from-placed F (length s + 1) s 0 nothing F.length (omega (arith, ltb-false F.length (length s) e)))

pub parsed-placed : (F : Limits) (s : List ℕ) → Placed F.length (parsed F s)
unfolding parsed
parsed-placed F s = and-then-placed F.length (items F s) (λ is. Ok (expanded is)) (items-placed F s) (λ is. tt)

pub items-short : (F : Limits) (s : List ℕ) (is : List Item) → items F s ≡ Ok is → length s ≤ F.length
unfolding items
items-short F s is e = ltb-false F.length (length s) (refuse-if-accepted _ _ _ is e).0

pub parsed-short : (F : Limits) (s : List ℕ) (p : Program) → parsed F s ≡ Ok p → length s ≤ F.length
unfolding parsed
parsed-short F s p e = let w = and-then-accepted (items F s) (λ is. Ok (expanded is)) p e in items-short F s w.0 w.1

-- the place of read's refusal
pub reading-place : (F : Limits) (s : List ℕ) (x : Refusal) → reading F s ≡ Err x → x.place ≤ F.length
unfolding reading reading_of written
reading-place F s x e =
    go (written F s) (and-then-placed F.length (items F s) (λ is. Ok (rules is)) (items-placed F s) (λ is. tt)) e
  where
    go : (q : Answer Program) → Placed F.length q → reading_of q ≡ Err x → x.place ≤ F.length
    go (Ok p) w f = let z : ◌≡◌ {A = ℕ} 0 1 = cc in absurd (omega arith)
    go (Err y) w f = let same : y ≡ x = cc in subst (λ (v : Refusal). v.place ≤ F.length) same w

-- A record's literals read and marked one by one: the run that is left comes to what all of it does, and so do its places.
-- In order: the place of a literal that the form takes; where the loop is; its start; one literal more; a wrong one; the end.
-- Assumes nothing.
use Prim.Native.Nat.{ℕ, ◌+◌, ◌*◌, ◌-◌, ◌≤◌, ◌<◌}
use Rattle.std.specs.Prelude.{Ok, Err}
use native.Mathlib.Omega.{arith}
use mathlib.Core.Path.{◌≡◌, refl, sym, ◌∙◌, ap, subst}
use mathlib.Core.Bool.{Bool, true, false, cond, true≢false}
use mathlib.Core.List.{List, [], ◌∷◌}
use lib.ListN.{length, get_or, drop}
use Rattle.buffer.specs.Bytes.{number_at}
use Rattle.literal.specs.declared.Limits.{Limits}
use Rattle.literal.specs.Literal.{Decoded, Valid, Wrong, takes, spelled, within, decoded}
use Rattle.literal.specs.Code.{is_valid}
use Rattle.literal.proofs.Laws.Literal.{fields-spelled, valid-some, valid-none}
use Rattle.record.specs.declared.Reason.TheVariants.{LiteralWrong}
use Rattle.record.specs.Refusal.{refusal}
use Rattle.record.specs.Reading.{literals_at}
use Rattle.record.specs.Code.{run_of}
use Rattle.record.proofs.Laws.Literals.{run-valid, run-wrong, run-nil}
use Rattle.aspif_place.specs.Code.{words, place_of, place, place_at, Placeable}
use Rattle.aspif_place.proofs.Laws.Place.{placed, place-most}
use Rattle.aspif_number.specs.Code.{Gained, Tallied, places_at}
use Rattle.aspif_number.proofs.Laws.Place.{places-first, places-none}
use Rattle.aspif_number.proofs.Laws.Gained.{gained-none, gained-more}

-- bytes that spell a literal of the form have a place among the words
pub valid-placed : (F : Limits) → Placeable F → (bs : List ℕ) → is_valid (decoded F bs) ≡ true → place_at bs < 64 * words
unfolding decoded within is_valid place_at place
valid-placed F w bs right = go (spelled (get_or bs 0 0) (number_at bs 1) (number_at bs 3)) refl right
  where
    go : (d : Decoded) → spelled (get_or bs 0 0) (number_at bs 1) (number_at bs 3) ≡ d → is_valid (within F d) ≡ true
        → place_of (get_or bs 0 0) (number_at bs 1) (number_at bs 3) < 64 * words
    go Wrong q e = absurd (true≢false (sym e))
    go (Valid l) q e = taken (takes F l) refl e
      where
        taken : (b : Bool) → takes F l ≡ b → is_valid (cond b (Valid l) Wrong) ≡ true → place_of (get_or bs 0 0) (number_at bs 1) (number_at bs 3) < 64 * words
        taken true p e =
            let f = fields-spelled (get_or bs 0 0) (number_at bs 1) (number_at bs 3) l q in
            rw (f.of-kind, f.of-tag, f.of-atom) (place-most l (placed F w l (rw p tt)))
        taken false p e = absurd (true≢false (sym e))

-- words d became e with their counts; `left` literals from `at` on are left of the `count` behind a header
pub record Marking (F : Limits) (t : List ℕ) (count : ℕ) (d e counts : List ℕ) (at left : ℕ) : Type 0 where
  pub same : length e ≡ length d
  pub fits : at + 5 * left ≤ length t
  pub run : run_of (literals_at F t 7 count) ≡ run_of (literals_at F t at left)
  pub rest : (g : List ℕ) → Gained e g (places_at t at left) → Gained d g (places_at t 7 count)
  pub tallied : Tallied e counts

pub marking-start : (F : Limits) (t : List ℕ) (count : ℕ) (d counts : List ℕ) → 7 + 5 * count ≤ length t → Tallied d counts
    → Marking F t count d d counts 7 count
marking-start F t count d counts fits tallied = record { same = refl; fits = fits; run = refl; rest = λ g a. a; tallied = tallied }

module _ {F : Limits} {t d e counts : List ℕ} {count at left : ℕ} (m : Marking F t count d e counts at left) where
  -- one literal more
  pub marking-next : 0 < left → is_valid (decoded F (drop at t)) ≡ true → (i : ℕ) → i ≡ place_at (drop at t) → (f counts' : List ℕ)
      → Gained e f (i ∷ []) → Tallied f counts' → Marking F t count d f counts' (at + 5) (left - 1)
  marking-next more right i here f counts' gained tallied =
      let literal = valid-some _ right in
      record {
        same = gained.same ∙ m.same;
        fits = omega (arith, m.fits);
        run = m.run ∙ run-valid F t at left literal.0 more literal.1;
        rest = λ g a.
            m.rest g (subst (Gained e g) (ap (λ (j : ℕ). j ∷ places_at t (at + 5) (left - 1)) here ∙ sym (places-first t at left more)) (gained-more gained a));
        tallied = tallied;
      }

  -- a wrong one
  pub marking-wrong : 0 < left → is_valid (decoded F (drop at t)) ≡ false → run_of (literals_at F t 7 count) ≡ Err (refusal LiteralWrong at)
  marking-wrong more wrong = m.run ∙ run-wrong F t at left more (valid-none _ wrong)

  -- none left
  pub marking-right : left ≤ 0 → run_of (literals_at F t 7 count) ≡ Ok tt
  marking-right none = m.run ∙ run-nil F t at left none

  pub marking-gained : left ≤ 0 → Gained d e (places_at t 7 count)
  marking-gained none = m.rest e (subst (Gained e e) (sym (places-none t at left none)) (gained-none e))

-- Laws of marks: what the two first bytes of a part say. Assumes nothing.
use Prim.Native.Nat.{ℕ, ◌<◌}
use mathlib.Core.Path.{◌≡◌}
use mathlib.Core.Bool.{true, false, ◌&&◌, and-true, and-false}
use mathlib.Core.List.{List}
use lib.Dec.{ltb, eqb}
use lib.ListN.{get_or}
use borrow.Author.Tests.{lt-ltb, eq-eqb, ne_eqb}
use Rattle.literal.specs.declared.Limits.{Limits}
use Rattle.record.specs.Header.{strict_letter, defeasible_letter, end_letter, override_letter, opposition_letter, letter_of, colon}
use Rattle.record.specs.Reading.{Mark, RuleMark, OverrideMark, OppositionMark, EndMark, NoMark, marked, pick_mark, mark_at}

-- the mark of a letter, before a colon
unfoldable pub letter_mark : Limits → ℕ → Mark
letter_mark F letter =
    pick_mark (eqb letter strict_letter) (eqb letter defeasible_letter && F.defeasible) (eqb letter override_letter && ltb 0 F.sheets)
    (eqb letter opposition_letter && ltb 0 F.sheets) (eqb letter end_letter)

module _ (F : Limits) (t : List ℕ) where
  -- without a colon there is no mark
  pub mark-uncolon : (get_or t 1 0 ≡ colon → ⊥) → mark_at F t ≡ NoMark
  unfolding mark_at marked pick_mark
  mark-uncolon n =
      rw (
        ne_eqb (get_or t 1 0) colon n,
        and-false (eqb (letter_of t) strict_letter),
        and-false (eqb (letter_of t) defeasible_letter),
        and-false (eqb (letter_of t) override_letter),
        and-false (eqb (letter_of t) opposition_letter),
        and-false (eqb (letter_of t) end_letter),
      )

  -- with one, the letter says which it is
  pub mark-colon : get_or t 1 0 ≡ colon → mark_at F t ≡ letter_mark F (letter_of t)
  unfolding mark_at marked letter_mark
  mark-colon e =
      rw (
        eq-eqb (get_or t 1 0) colon e,
        and-true (eqb (letter_of t) strict_letter),
        and-true (eqb (letter_of t) defeasible_letter),
        and-true (eqb (letter_of t) override_letter),
        and-true (eqb (letter_of t) opposition_letter),
        and-true (eqb (letter_of t) end_letter),
      )

module _ (F : Limits) (l : ℕ) where
  pub letter-s : l ≡ strict_letter → letter_mark F l ≡ RuleMark false
  unfolding letter_mark pick_mark
  letter-s e = rw e

  pub letter-d : l ≡ defeasible_letter → F.defeasible ≡ true → letter_mark F l ≡ RuleMark true
  unfolding letter_mark pick_mark
  letter-d e d = rw (e, d)

  pub letter-d-plain : l ≡ defeasible_letter → F.defeasible ≡ false → letter_mark F l ≡ NoMark
  unfolding letter_mark pick_mark
  letter-d-plain e d = rw (e, d)

  pub letter-o : l ≡ override_letter → 0 < F.sheets → letter_mark F l ≡ OverrideMark
  unfolding letter_mark pick_mark
  letter-o e d = rw (e, lt-ltb 0 F.sheets d)

  pub letter-x : l ≡ opposition_letter → 0 < F.sheets → letter_mark F l ≡ OppositionMark
  unfolding letter_mark pick_mark
  letter-x e d = rw (e, lt-ltb 0 F.sheets d)

  pub letter-e : l ≡ end_letter → letter_mark F l ≡ EndMark
  unfolding letter_mark pick_mark
  letter-e e = rw e

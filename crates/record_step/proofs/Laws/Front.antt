-- Laws of what stands before a record's literals: marks are the form's.
-- In order: how marks and letters start a record; a header and its record; what was found; what literals come to.
-- Assumes nothing.
use Prim.Native.Nat.{ℕ}
use Rattle.std.specs.Prelude.{Ok, Err}
use native.Mathlib.Omega.{arith}
use mathlib.Core.Path.{◌≡◌, refl, sym, ap, ap₂, subst, ◌∙◌}
use mathlib.Core.Bool.{Bool, true, false, ◌&&◌, and-false}
use mathlib.Core.List.{List}
use lib.Dec.{ltb, eqb}
use borrow.Author.Tests.{le-ltb, ne_eqb}
use Rattle.literal.specs.declared.Limits.{Limits}
use Rattle.record.specs.declared.Refusal.{Refusal}
use Rattle.record.specs.declared.Step.{Step}
use Rattle.record.specs.Header.{strict_letter, defeasible_letter, end_letter, override_letter, opposition_letter, head_count, positive_count, naf_count}
use Rattle.record.specs.Result.{Answer, and_then}
use Rattle.record.specs.Reading.{Mark, RuleMark, OverrideMark, OppositionMark, EndMark, NoMark, Entry, body_at, marked, pick_mark, mark_at, is_rule, entry_size}
use Rattle.record.specs.Code.{step_of}
use Rattle.record.proofs.Laws.Marks.{letter_mark}
use Rattle.record.proofs.Laws.Only.{same-size, body-ruled, body_refused}
use Rattle.record_step.specs.declared.Opening.{Opening}
use Rattle.record_step.specs.declared.Front.{Front}
use Rattle.record_step.specs.Code.{opening, LiteralsLeft, OtherLeft, FrontAt}

-- a record that starts as a rule's or the end has that mark
pub opens-rule : (m : Mark) (d : Bool) → opening m ≡ Opening.Rule d → m ≡ RuleMark d
unfolding opening
opens-rule (RuleMark b) d e = let same : b ≡ d = cc in ap RuleMark same
opens-rule OverrideMark d e = let z : ◌≡◌ {A = ℕ} 0 1 = cc in absurd (omega (arith, z))
opens-rule OppositionMark d e = let z : ◌≡◌ {A = ℕ} 0 1 = cc in absurd (omega (arith, z))
opens-rule EndMark d e = let z : ◌≡◌ {A = ℕ} 0 1 = cc in absurd (omega (arith, z))
opens-rule NoMark d e = let z : ◌≡◌ {A = ℕ} 0 1 = cc in absurd (omega (arith, z))

pub opens-end : (m : Mark) → opening m ≡ Opening.End → m ≡ EndMark
unfolding opening
opens-end (RuleMark b) e = let z : ◌≡◌ {A = ℕ} 0 1 = cc in absurd (omega (arith, z))
opens-end OverrideMark e = let z : ◌≡◌ {A = ℕ} 0 1 = cc in absurd (omega (arith, z))
opens-end OppositionMark e = let z : ◌≡◌ {A = ℕ} 0 1 = cc in absurd (omega (arith, z))
opens-end EndMark e = refl
opens-end NoMark e = let z : ◌≡◌ {A = ℕ} 0 1 = cc in absurd (omega (arith, z))

-- what starts as a rule's record has a rule's mark; what starts as the end, or as neither, has none
pub rule-ruled : (m : Mark) (d : Bool) → opening m ≡ Opening.Rule d → is_rule m ≡ true
unfolding is_rule
rule-ruled m d e = ap is_rule (opens-rule m d e)

pub end-unruled : (m : Mark) → opening m ≡ Opening.End → is_rule m ≡ false
unfolding is_rule
end-unruled m e = ap is_rule (opens-end m e)

pub other-unruled : (m : Mark) → opening m ≡ Opening.Other → is_rule m ≡ false
unfolding opening is_rule
other-unruled (RuleMark d) e = let z : ◌≡◌ {A = ℕ} 0 1 = cc in absurd (omega (arith, z))
other-unruled OverrideMark e = refl
other-unruled OppositionMark e = refl
other-unruled EndMark e = refl
other-unruled NoMark e = refl

-- a letter that is not S, D or E starts no rule's record and not the end
pub letter-opens : (F : Limits) (l : ℕ) → (l ≡ strict_letter → ⊥) → (l ≡ defeasible_letter → ⊥) → (l ≡ end_letter → ⊥)
    → opening (letter_mark F l) ≡ Opening.Other
unfolding letter_mark opening pick_mark
letter-opens F l s d e =
    rw (ne_eqb l strict_letter s, ne_eqb l defeasible_letter d, ne_eqb l end_letter e) (go (eqb l override_letter && ltb 0 F.sheets) _)
  where
    go : (o x : Bool) → opening (pick_mark false false o x false) ≡ Opening.Other
    go true x = refl
    go false true = refl
    go false false = refl

-- what starts neither a rule's record nor the end, and is no sheet's, is no mark of the form
no-mark : (s d e : Bool) → opening (pick_mark s d false false e) ≡ Opening.Other → pick_mark s d false false e ≡ NoMark
unfolding opening pick_mark
no-mark true d e q = let z : ◌≡◌ {A = ℕ} 0 1 = cc in absurd (omega (arith, z))
no-mark false true e q = let z : ◌≡◌ {A = ℕ} 0 1 = cc in absurd (omega (arith, z))
no-mark false false true q = let z : ◌≡◌ {A = ℕ} 0 1 = cc in absurd (omega (arith, z))
no-mark false false false q = refl

-- in a form without sheets
pub other-unmarked : (F : Limits) (t : List ℕ) → OtherLeft F t → F.sheets ≡ 0 → mark_at F t ≡ NoMark
unfolding mark_at
other-unmarked F t w e =
    let strict = marked strict_letter t in
    let defeasible = marked defeasible_letter t && F.defeasible in
    let none : ltb 0 F.sheets ≡ false = le-ltb 0 F.sheets (omega (arith, e)) in
    let same = ap (λ (b : Bool). pick_mark strict defeasible (marked override_letter t && b) (marked opposition_letter t && b) (marked end_letter t)) none
    ∙ ap₂ (λ (o x : Bool). pick_mark strict defeasible o x (marked end_letter t)) (and-false (marked override_letter t)) (and-false (marked opposition_letter t)) in
    same ∙ no-mark strict defeasible (marked end_letter t) (ap opening (sym same) ∙ w.other)

-- where it is not O or X
pub letter-unmarked : (F : Limits) (l : ℕ) → opening (letter_mark F l) ≡ Opening.Other → (l ≡ override_letter → ⊥) → (l ≡ opposition_letter → ⊥)
    → letter_mark F l ≡ NoMark
unfolding letter_mark
letter-unmarked F l other o x =
    let strict = eqb l strict_letter in
    let defeasible = eqb l defeasible_letter && F.defeasible in
    let same = ap₂ (λ (o x : Bool). pick_mark strict defeasible (o && ltb 0 F.sheets) (x && ltb 0 F.sheets) (eqb l end_letter))
    (ne_eqb l override_letter o) (ne_eqb l opposition_letter x) in
    same ∙ no-mark strict defeasible (eqb l end_letter) (ap opening (sym same) ∙ other)

-- D: is a mark where the form has defeasible rules
pub mark-form : (F : Limits) (t : List ℕ) (d : Bool) → mark_at F t ≡ RuleMark d → F.defeasible ≡ false → d ≡ false
unfolding mark_at pick_mark
mark-form F t d e plain =
    go (marked strict_letter t) over oppose (marked end_letter t)
    (sym (ap (λ (x : Bool). pick_mark (marked strict_letter t) x over oppose (marked end_letter t)) (ap (λ (x : Bool). marked defeasible_letter t && x) plain
    ∙ and-false (marked defeasible_letter t))) ∙ e)
  where
    over : Bool
    over = marked override_letter t && ltb 0 F.sheets

    oppose : Bool
    oppose = marked opposition_letter t && ltb 0 F.sheets

    go : (s o x f : Bool) → pick_mark s false o x f ≡ RuleMark d → d ≡ false
    go true o x f q = cc
    go false true x f q = let z : ◌≡◌ {A = ℕ} 0 1 = cc in absurd (omega (arith, z))
    go false false true f q = let z : ◌≡◌ {A = ℕ} 0 1 = cc in absurd (omega (arith, z))
    go false false false true q = let z : ◌≡◌ {A = ℕ} 0 1 = cc in absurd (omega (arith, z))
    go false false false false q = let z : ◌≡◌ {A = ℕ} 0 1 = cc in absurd (omega (arith, z))

-- what is found in a rule's header is found in its record
pub front_same : (F : Limits) (t : List ℕ) (e f : Answer Entry) → step_of f ≡ step_of e → (r : Answer Front) → FrontAt F t e r → FrontAt F t f r
front_same F t e f p (Err x) w = p ∙ w
front_same F t e f p (Ok Front.End) w = p ∙ w
front_same F t e f p (Ok (Front.Literals d)) w = record { whole = w.whole; step = p ∙ w.step; form = w.form }
front_same F t e f p (Ok Front.Other) w = w

-- a refusal is found of a record that is refused so
pub front-refuses : (F : Limits) (t : List ℕ) (e : Answer Entry) (r : Answer Front) (x : Refusal) → r ≡ Err x → step_of e ≡ Err x → FrontAt F t e r
front-refuses F t e r x q p = subst (FrontAt F t e) (sym q) p

-- what was found, by which it is
module _ (F : Limits) (t : List ℕ) (e : Answer Entry) (r : Answer Front) where
  pub front-refused : (x : Refusal) → r ≡ Err x → FrontAt F t e r → step_of e ≡ Err x
  front-refused x q w = subst (FrontAt F t e) q w

  pub front-end : r ≡ Ok Front.End → FrontAt F t e r → step_of e ≡ Ok Step.End
  front-end q w = subst (FrontAt F t e) q w

  pub front-literals : (d : Bool) → r ≡ Ok (Front.Literals d) → FrontAt F t e r → LiteralsLeft F t e d
  front-literals d q w = subst (FrontAt F t e) q w

  pub front-other : r ≡ Ok Front.Other → FrontAt F t e r → OtherLeft F t
  front-other q w = subst (FrontAt F t e) q w

-- how long the literals make a record, so long it is; a right one is a rule's, and a wrong one is refused so
module _ (F : Limits) (t : List ℕ) (e : Answer Entry) (d : Bool) (w : LiteralsLeft F t e d) (x : Answer ℕ)
    (told : x ≡ and_then (body_at F d t (head_count t) (positive_count t) (naf_count t)) entry_size) where
  pub literals-size : x ≡ and_then e entry_size
  literals-size = told ∙ same-size _ _ (sym w.step)

  pub literals-rule : (size : ℕ) → x ≡ Ok size → step_of e ≡ Ok (Step.Rule size)
  literals-rule size q = w.step ∙ body-ruled F d t (head_count t) (positive_count t) (naf_count t) size (sym told ∙ q)

  pub literals-refused : (y : Refusal) → x ≡ Err y → step_of e ≡ Err y
  literals-refused y q = w.step ∙ body_refused F d t (head_count t) (positive_count t) (naf_count t) y (sym told ∙ q)

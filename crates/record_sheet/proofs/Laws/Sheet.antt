-- Laws of a sheet record's options: what five bytes spell, and when two options are the same.
-- In order: bytes that spell no option; bytes that spell one; what reading an option finds; two options, and their record.
-- Assumes nothing.
use Prim.Native.Nat.{ℕ, ◌+◌, ◌≤◌, ◌<◌}
use Rattle.std.specs.Prelude.{Ok, Err}
use native.Mathlib.Omega.{arith}
use native.Mathlib.Nat.{add-zero}
use mathlib.Core.Path.{◌≡◌, refl, sym, ◌∙◌, ap, ap₂}
use mathlib.Core.Bool.{Bool, true, false, ◌&&◌, true≢false}
use mathlib.Core.List.{List}
use lib.Dec.{leb, eqb}
use lib.ListN.{length, get_or, drop}
use lib.Seq.{get_or-drop}
use Rattle.buffer.specs.Bytes.{number, number_at}
use Rattle.literal.specs.declared.Limits.{Limits}
use Rattle.literal.specs.declared.SignedAtom.{SignedAtom}
use Rattle.literal.specs.declared.SignedAtom.TheVariants.{Positive, Negative}
use Rattle.literal.specs.declared.Literal.{Literal}
use Rattle.literal.specs.declared.Literal.TheVariants.{Signed, Defeated, Derived, RuleDefeated}
use Rattle.literal.specs.Literal.{atom_number, kind, atom_field, Decoded, Valid, Wrong, decoded}
use Rattle.literal.specs.Code.{is_valid}
use Rattle.literal.proofs.Laws.Literal.{decoded-fields, valid-some}
use Rattle.semantics.specs.Set.{same_signed}
use Rattle.record.specs.declared.Reason.TheVariants.{LiteralWrong}
use Rattle.record.specs.Refusal.{refusal}
use Rattle.record.specs.Reading.{signed_of, signed_at, opposition_at}
use Rattle.record.specs.Code.{step_of}
use Rattle.record.proofs.Laws.Header.{opposition-one, opposition-other, opposition-same, opposition-right}
use Rattle.record_sheet.specs.Code.{is_signed, same_fields, pair_step}

-- no literal is no option
pub signed-invalid : (d : Decoded) → is_valid d ≡ false → is_signed d ≡ false
unfolding is_valid is_signed
signed-invalid (Valid l) e = absurd (true≢false e)
signed-invalid Wrong e = refl

-- a literal is one by its kind
pub signed-kind : (F : Limits) (t : List ℕ) → is_valid (decoded F t) ≡ true → is_signed (decoded F t) ≡ leb (get_or t 0 0) 1
unfolding is_signed kind
signed-kind F t e =
    let w = valid-some (decoded F t) e in
    ap is_signed w.1 ∙ go w.0 ∙ ap (λ (k : ℕ). leb k 1) (sym (decoded-fields F t w.0 w.1).of-kind)
  where
    go : (l : Literal) → is_signed (Valid l) ≡ leb (kind l) 1
    go (Signed (Positive a)) = refl
    go (Signed (Negative a)) = refl
    go (Defeated u (Positive a)) = refl
    go (Defeated u (Negative a)) = refl
    go (Derived u (Positive a)) = refl
    go (Derived u (Negative a)) = refl
    go (RuleDefeated n) = refl

module _ (F : Limits) (t : List ℕ) (at : ℕ) where
  -- 5 where none is spelled
  pub signed-wrong : is_signed (decoded F (drop at t)) ≡ false → signed_at F t at ≡ Err (refusal LiteralWrong at)
  unfolding signed_at signed_of is_signed
  signed-wrong e = go (decoded F (drop at t)) e
    where
      go : (d : Decoded) → is_signed d ≡ false → signed_of d at ≡ Err (refusal LiteralWrong at)
      go (Valid (Signed a)) e = absurd (true≢false e)
      go (Valid (Defeated u a)) e = refl
      go (Valid (Derived u a)) e = refl
      go (Valid (RuleDefeated n)) e = refl
      go Wrong e = refl

  -- an option that is spelled there, with its kind and its atom
  pub record Here : Type 0 where
    pub option : SignedAtom
    pub read : signed_at F t at ≡ Ok option
    pub of-kind : get_or t at 0 ≡ kind (Signed option)
    pub of-atom : number_at t (at + 3) ≡ atom_number option

  pub signed-here : is_signed (decoded F (drop at t)) ≡ true → Here
  unfolding signed_at signed_of is_signed atom_field
  signed-here e = go (decoded F (drop at t)) refl e
    where
      first : get_or (drop at t) 0 0 ≡ get_or t at 0
      first = get_or-drop at t 0 0 ∙ ap (λ (i : ℕ). get_or t i 0) (add-zero at)

      five : at + 4 ≡ at + 3 + 1
      five = omega arith

      last : number_at (drop at t) 3 ≡ number_at t (at + 3)
      last = ap₂ number (get_or-drop at t 3 0) (get_or-drop at t 4 0 ∙ ap (λ (i : ℕ). get_or t i 0) five)

      go : (d : Decoded) → decoded F (drop at t) ≡ d → is_signed d ≡ true → Here
      go (Valid (Signed a)) w e =
          let f = decoded-fields F (drop at t) (Signed a) w in
          record { option = a; read = ap (λ (d : Decoded). signed_of d at) w; of-kind = sym first ∙ f.of-kind; of-atom = sym last ∙ f.of-atom }
      go (Valid (Defeated u a)) w e = absurd (true≢false (sym e))
      go (Valid (Derived u a)) w e = absurd (true≢false (sym e))
      go (Valid (RuleDefeated n)) w e = absurd (true≢false (sym e))
      go Wrong w e = absurd (true≢false (sym e))

-- two options are the same exactly if their kinds and atoms are
same-signed : (a b : SignedAtom) → (eqb (kind (Signed a)) (kind (Signed b)) && eqb (atom_number a) (atom_number b)) ≡ same_signed a b
unfolding kind
same-signed (Positive a) (Positive b) = refl
same-signed (Positive a) (Negative b) = refl
same-signed (Negative a) (Positive b) = refl
same-signed (Negative a) (Negative b) = refl

pub same-pair : (F : Limits) (t : List ℕ) (x : Here F t 2) (y : Here F t 7) → same_fields t ≡ same_signed x.option y.option
unfolding same_fields
same-pair F t x y =
    ap₂ (λ (a b : Bool). a && b) (ap₂ eqb x.of-kind y.of-kind) (ap₂ eqb x.of-atom y.of-atom) ∙ same-signed x.option y.option

-- the two tests
pub pair-differs : (t : List ℕ) → eqb (get_or t 2 0) (get_or t 7 0) ≡ false → same_fields t ≡ false
unfolding same_fields
pair-differs t e = ap (λ (b : Bool). b && eqb (number_at t 5) (number_at t 10)) e

pub pair-atoms : (t : List ℕ) → eqb (get_or t 2 0) (get_or t 7 0) ≡ true → same_fields t ≡ eqb (number_at t 5) (number_at t 10)
unfolding same_fields
pair-atoms t e = ap (λ (b : Bool). b && eqb (number_at t 5) (number_at t 10)) e

-- what an opposition comes to, by the three tests
pub opposition-pair : (F : Limits) (n : ℕ) (t : List ℕ) → n < F.sheets → 12 ≤ length t
    → step_of (opposition_at F n t) ≡ pair_step (is_signed (decoded F (drop 2 t))) (is_signed (decoded F (drop 7 t))) (same_fields t)
unfolding pair_step
opposition-pair F n t room whole = go (is_signed (decoded F (drop 2 t))) refl (is_signed (decoded F (drop 7 t))) refl (same_fields t) refl
  where
    go : (a : Bool) → is_signed (decoded F (drop 2 t)) ≡ a → (b : Bool) → is_signed (decoded F (drop 7 t)) ≡ b → (c : Bool) → same_fields t ≡ c
        → step_of (opposition_at F n t) ≡ pair_step a b c
    go false one b other c same = opposition-one F n t room whole _ (signed-wrong F t 2 one)
    go true one false other c same =
        let x = signed-here F t 2 one in opposition-other F n t room whole x.option x.read _ (signed-wrong F t 7 other)
    go true one true other true same =
        let x = signed-here F t 2 one in
        let y = signed-here F t 7 other in
        opposition-same F n t room whole x.option x.read y.option y.read (sym (same-pair F t x y) ∙ same)
    go true one true other false same =
        let x = signed-here F t 2 one in
        let y = signed-here F t 7 other in
        opposition-right F n t room whole x.option x.read y.option y.read (sym (same-pair F t x y) ∙ same)

-- the three tests, told otherwise
pub pair-told : {a b c x y z : Bool} → a ≡ x → b ≡ y → c ≡ z → pair_step a b c ≡ pair_step x y z
pair-told p q r = cc

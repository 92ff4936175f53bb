-- Laws of a file and a set in one call: the refusal that comes first, and what is made of both where both are read.
-- In order: each by what was read; what reading both answers; taken back from its answer. Assumes nothing.
use Prim.Native.Nat.{ℕ}
use Rattle.std.specs.Prelude.{Ok, Err}
use native.Mathlib.Omega.{arith}
use mathlib.Core.Path.{◌≡◌, refl, sym, ◌∙◌, ap, ap₂}
use mathlib.Core.List.{List}
use lib.ListN.{length}
use Rattle.literal.specs.declared.Limits.{Limits}
use Rattle.literal.specs.declared.Literal.{Literal}
use Rattle.semantics.specs.Rule.{Program}
use Rattle.semantics.specs.Item.{Item, expanded}
use Rattle.record.specs.declared.Held.{Held}
use Rattle.record.specs.declared.Refusal.{Refusal}
use Rattle.record.specs.Result.{Answer, and_then}
use Rattle.record.specs.Reading.{items, parsed, held_of, holding_of}
use Rattle.record.proofs.Laws.Reading.{read_count, read-refused, held_items, held-refused, items-parsed}
use Rattle.set.specs.Reading.{parsed_set}
use Rattle.set.specs.Code.{set_reading}
use Rattle.inputs.specs.Inputs.{with_inputs}
use Rattle.inputs.specs.Code.{both_answer, both_read, Inputs}

module _ (F : Limits) (most : ℕ) (s k : List ℕ) where
  module _ {A : Type 0} (f : Program → List Literal → Answer A) where
    -- the file is refused
    inputs-program : (x : Refusal) → items F s ≡ Err x → with_inputs F most s k f ≡ Err x
    unfolding with_inputs parsed and_then
    inputs-program x e =
        ap (λ (q : Answer (List Item)). and_then (and_then q (λ is. Ok (expanded is))) (λ p. and_then (parsed_set F most k) (f p))) e

    module _ (p : Program) (read : parsed F s ≡ Ok p) where
      -- it is read, and the set decides
      inputs-set : with_inputs F most s k f ≡ and_then (parsed_set F most k) (f p)
      unfolding with_inputs and_then
      inputs-set = ap (λ (q : Answer Program). and_then q (λ p. and_then (parsed_set F most k) (f p))) read

      set-stops : (x : Refusal) → parsed_set F most k ≡ Err x → with_inputs F most s k f ≡ Err x
      unfolding and_then
      set-stops x e = inputs-set ∙ ap (λ (q : Answer (List Literal)). and_then q (f p)) e

      -- both are read
      pub inputs-given : (ls : List Literal) → parsed_set F most k ≡ Ok ls → with_inputs F most s k f ≡ f p ls
      unfolding and_then
      inputs-given ls e = inputs-set ∙ ap (λ (q : Answer (List Literal)). and_then q (f p)) e

  -- what reading both answers, from what reading each answered
  pub both-file : (x : Refusal) → holding_of (items F s) ≡ Err x → both_read F most s k ≡ Err x
  unfolding both_read both_answer
  both-file x e = ap (λ (q : Answer (List Item)). both_answer q (parsed_set F most k)) (held-refused (items F s) x e)

  pub both-set : (h : Held) → holding_of (items F s) ≡ Ok h → (x : Refusal) → set_reading F most k ≡ Err x
      → both_read F most s k ≡ Err x
  unfolding both_read both_answer set_reading
  both-set h e x r =
      let w = held_items (items F s) h e in
      ap (λ (q : Answer (List Item)). both_answer q (parsed_set F most k)) w.1
      ∙ ap (both_answer (Ok w.0)) (read-refused (parsed_set F most k) x r)

  pub both_read_lem : (h : Held) → holding_of (items F s) ≡ Ok h → (n : ℕ) → set_reading F most k ≡ Ok n
      → both_read F most s k ≡ Ok (h, n)
  unfolding both_read both_answer set_reading
  both_read_lem h e n r =
      let w = held_items (items F s) h e in
      let v = read_count (parsed_set F most k) n r in
      ap (λ (q : Answer (List Item)). both_answer q (parsed_set F most k)) w.1 ∙ ap (both_answer (Ok w.0)) v.1
      ∙ ap₂ (λ (g : Held) (m : ℕ). Ok (g, m)) w.2 v.2

  -- from a number: both were read, and the set has so many literals
  pub inputs_read : (h : Held) (n : ℕ) → both_read F most s k ≡ Ok (h, n) → Inputs F most s k h n
  unfolding both_read both_answer
  inputs_read h n e = go (items F s) refl (parsed_set F most k) refl e
    where
      go : (q : Answer (List Item)) → items F s ≡ q → (r : Answer (List Literal)) → parsed_set F most k ≡ r → both_answer q r ≡ Ok (h, n)
          → Inputs F most s k h n
      go (Err x) a r b w = let z : ◌≡◌ {A = ℕ} 0 1 = cc in absurd (omega arith)
      go (Ok is) a (Err x) b w = let z : ◌≡◌ {A = ℕ} 0 1 = cc in absurd (omega arith)
      go (Ok is) a (Ok ls) b w =
          let both : ◌≡◌ {A = Held × ℕ} (held_of is, length ls) (h, n) = cc in
          let same = ap (λ (p : Held × ℕ). p.0) both in
          let number = ap (λ (p : Held × ℕ). p.1) both in
          record { file = is; holds = a; held = same; literals = ls; members = b; counted = sym number }

  -- from a refusal: whatever is to be made of the two is refused with it
  pub inputs-refused : {A : Type 0} (f : Program → List Literal → Answer A) (x : Refusal)
      → both_read F most s k ≡ Err x → with_inputs F most s k f ≡ Err x
  unfolding both_read both_answer
  inputs-refused f x e = go (items F s) refl (parsed_set F most k) refl e
    where
      go : (q : Answer (List Item)) → items F s ≡ q → (r : Answer (List Literal)) → parsed_set F most k ≡ r → both_answer q r ≡ Err x
          → with_inputs F most s k f ≡ Err x
      go (Err y) a r b w = let same : y ≡ x = cc in inputs-program f y a ∙ ap Err same
      go (Ok is) a (Err y) b w =
          let same : y ≡ x = cc in set-stops f (expanded is) (items-parsed F s is a) y b ∙ ap Err same
      go (Ok is) a (Ok ls) b w = let z : ◌≡◌ {A = ℕ} 0 1 = cc in absurd (omega arith)

  -- what is made of both, where both were read
  pub inputs-made : {A : Type 0} (f : Program → List Literal → Answer A) {h : Held} {n : ℕ} (w : Inputs F most s k h n)
      → with_inputs F most s k f ≡ f (expanded w.file) w.literals
  inputs-made f w = inputs-given f (expanded w.file) (items-parsed F s w.file w.holds) w.literals w.members

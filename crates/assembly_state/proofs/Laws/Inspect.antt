-- Laws of what a state says, test by test.
-- In order: each test of the header, where those before it passed; what passed tests say; a test of a state that fails; a state
-- that passes all.
-- Assumes nothing.
use Prim.Native.Nat.{ℕ, zero, suc, ◌+◌, ◌*◌, ◌≤◌, ◌<◌}
use native.Mathlib.Omega.{arith}
use mathlib.Core.Path.{◌≡◌, refl, sym, ◌∙◌, ap, ap₂, subst}
use mathlib.Core.Bool.{Bool, true, false, cond, ◌&&◌, and-false}
use mathlib.Core.List.{List, [], ◌∷◌}
use lib.Dec.{leb, eqb}
use lib.ListN.{length, get_or}
use borrow.Author.Tests.{eq-eqb, ne_eqb, le-leb, lt-leb}
use Rattle.buffer.specs.Bytes.{number_at}
use Rattle.literal.specs.declared.Limits.{Limits}
use Rattle.semantics.specs.Set.{each_of}
use Rattle.semantics.proofs.Laws.Tests.{along}
use Rattle.assembly.specs.State.{before, Shape, shapes, held_length, keeps_shape, state_bytes, shapes_at, count_at, count_right, is_headed, held_shapes, is_state, stage_with, stage_of}
use Rattle.assembly.specs.Code.{is_open, standing_of}
use Rattle.assembly.proofs.Laws.Row.{length-shapes}
use Rattle.assembly.proofs.Laws.State.{Headed, headed-parts, stage-of, stage-none}
use Rattle.assembly_state.specs.declared.Tally.{Tally}
use Rattle.assembly_state.specs.Code.{heads_of, body_of, clear_behind, Tallied}

-- the header's tests, one after another
module _ (F : Limits) (bs : List ℕ) where
  pub length-wrong : (length bs ≡ state_bytes F → ⊥) → is_headed F bs ≡ false
  unfolding is_headed
  length-wrong e = simp (ne_eqb (length bs) (state_bytes F) e)

  module _ (long : length bs ≡ state_bytes F) where
    pub stage-wrong : 2 < get_or bs 0 0 → is_headed F bs ≡ false
    unfolding is_headed
    stage-wrong e = simp (eq-eqb (length bs) (state_bytes F) long, lt-leb (get_or bs 0 0) 2 e)

    module _ (stage : get_or bs 0 0 ≤ 2) where
      pub first-free-wrong : (get_or bs 1 0 ≡ 0 → ⊥) → is_headed F bs ≡ false
      unfolding is_headed
      first-free-wrong e = simp (eq-eqb (length bs) (state_bytes F) long, le-leb (get_or bs 0 0) 2 stage, ne_eqb (get_or bs 1 0) 0 e)

      module _ (free : get_or bs 1 0 ≡ 0) where
        pub second-free-wrong : (number_at bs 4 ≡ 0 → ⊥) → is_headed F bs ≡ false
        unfolding is_headed
        second-free-wrong e =
            simp (eq-eqb (length bs) (state_bytes F) long, le-leb (get_or bs 0 0) 2 stage, eq-eqb (get_or bs 1 0) 0 free, ne_eqb (number_at bs 4) 0 e)

        module _ (free-4 : number_at bs 4 ≡ 0) where
          pub third-free-wrong : (number_at bs 6 ≡ 0 → ⊥) → is_headed F bs ≡ false
          unfolding is_headed
          third-free-wrong e =
              simp (
                eq-eqb (length bs) (state_bytes F) long,
                le-leb (get_or bs 0 0) 2 stage,
                eq-eqb (get_or bs 1 0) 0 free,
                eq-eqb (number_at bs 4) 0 free-4,
                ne_eqb (number_at bs 6) 0 e,
              )

          module _ (free-6 : number_at bs 6 ≡ 0) where
            headed-count : is_headed F bs ≡ count_right F bs
            unfolding is_headed
            headed-count =
                simp (
                  eq-eqb (length bs) (state_bytes F) long,
                  le-leb (get_or bs 0 0) 2 stage,
                  eq-eqb (get_or bs 1 0) 0 free,
                  eq-eqb (number_at bs 4) 0 free-4,
                  eq-eqb (number_at bs 6) 0 free-6,
                )

            -- before the first begin no rule is held
            pub headed-before : get_or bs 0 0 ≡ 0 → is_headed F bs ≡ eqb (count_at bs) 0
            unfolding count_right
            headed-before e = headed-count ∙ ap (λ (t : Bool). cond t (eqb (count_at bs) 0) (leb (count_at bs) F.rules)) (eq-eqb (get_or bs 0 0) 0 e)

            pub headed-begun : (get_or bs 0 0 ≡ 0 → ⊥) → is_headed F bs ≡ leb (count_at bs) F.rules
            unfolding count_right
            headed-begun e = headed-count ∙ ap (λ (t : Bool). cond t (eqb (count_at bs) 0) (leb (count_at bs) F.rules)) (ne_eqb (get_or bs 0 0) 0 e)

-- the header's parts, and the tally of as many rules as are held
pub headed-by : {F : Limits} {bs : List ℕ} {b : Bool} → b ≡ is_headed F bs → b ≡ true → Headed F bs
headed-by {F} {bs} e t = headed-parts F bs (along (sym (sym e ∙ t)) tt)

pub tallied-told : {F : Limits} {bs : List ℕ} {r : Tally} {n m : ℕ} → Tallied F bs n r → n ≡ m → Tallied F bs m r
tallied-told {F} {bs} {r} w e = subst (λ (k : ℕ). Tallied F bs k r) e w

-- what is no state
module _ (F : Limits) (bs : List ℕ) where
  none_said : is_state F bs ≡ false → standing_of before ≡ standing_of (stage_of F bs)
  none_said e = sym (ap standing_of (stage-none F bs e))

  pub header-none : is_headed F bs ≡ false → standing_of before ≡ standing_of (stage_of F bs)
  unfolding is_state
  header-none e = none_said (ap (λ (t : Bool). t && (each_of (keeps_shape F) (held_shapes F bs) && clear_behind F bs (count_at bs))) e)

  pub shapes-none : each_of (keeps_shape F) (held_shapes F bs) ≡ false → standing_of before ≡ standing_of (stage_of F bs)
  unfolding is_state
  shapes-none e = none_said (ap (λ (t : Bool). is_headed F bs && (t && clear_behind F bs (count_at bs))) e ∙ and-false (is_headed F bs))

  pub clear_none : clear_behind F bs (count_at bs) ≡ false → standing_of before ≡ standing_of (stage_of F bs)
  unfolding is_state
  clear_none e =
      none_said (ap (λ (t : Bool). is_headed F bs && (each_of (keeps_shape F) (held_shapes F bs) && t)) e
      ∙ ap (λ (t : Bool). is_headed F bs && t) (and-false (each_of (keeps_shape F) (held_shapes F bs))) ∙ and-false (is_headed F bs))

-- the bytes of the records of rules with these shapes
held-sum : (ss : List Shape) → held_length ss ≡ 7 * length ss + 5 * (heads_of ss + body_of ss)
unfolding held_length heads_of body_of
held-sum [] = refl
held-sum (s ∷ ss) = omega (arith, held-sum ss)

-- what a state says
module _ (F : Limits) (bs : List ℕ) (header : is_headed F bs ≡ true) (each : each_of (keeps_shape F) (held_shapes F bs) ≡ true) (zeros : clear_behind F bs (count_at bs) ≡ true) where
  state-said : stage_of F bs ≡ stage_with (get_or bs 0 0) (held_shapes F bs)
  unfolding is_state
  state-said = stage-of F bs (along (sym (ap₂ (λ (x y : Bool). x && (y && clear_behind F bs (count_at bs))) header each ∙ zeros)) tt)

  module _ (r : Tally) (w : Tallied F bs (count_at bs) r) where
    held_bytes : held_length (held_shapes F bs) ≡ 7 * count_at bs + 5 * (r.heads.sum + r.body.sum)
    held_bytes = omega (arith, held-sum (held_shapes F bs), length-shapes bs (count_at bs) 8 (8 + F.rules), w.heads, w.body)

    -- before the first begin nothing is held
    none-held : get_or bs 0 0 ≡ 0 → held_shapes F bs ≡ []
    unfolding shapes_at
    none-held e = ap (shapes_at bs 8 (8 + F.rules)) ((headed-parts F bs (along (sym header) tt)).none e)

    standing : (k : ℕ) → get_or bs 0 0 ≡ k
        → record { active = eqb k 1; rules = length (held_shapes F bs); bytes = held_length (held_shapes F bs) } ≡ standing_of (stage_with k (held_shapes F bs))
    unfolding standing_of is_open stage_with shapes
    standing zero e = ap (λ (ss : List Shape). record { active = false; rules = length ss; bytes = held_length ss }) (none-held e)
    standing (suc zero) e = refl
    standing (suc (suc k)) e = ap (λ (b : Bool). record { active = b; rules = length (held_shapes F bs); bytes = held_length (held_shapes F bs) }) (ne_eqb (suc (suc k)) 1 (λ z. omega (arith, z)))

    pub said : (n : ℕ) → n ≡ count_at bs
        → record { active = eqb (get_or bs 0 0) 1; rules = n; bytes = 7 * n + 5 * (r.heads.sum + r.body.sum) } ≡ standing_of (stage_of F bs)
    said n e =
        ap₂ (λ (m b : ℕ). record { active = eqb (get_or bs 0 0) 1; rules = m; bytes = b })
        (e ∙ sym (length-shapes bs (count_at bs) 8 (8 + F.rules))) (ap (λ (m : ℕ). 7 * m + 5 * (r.heads.sum + r.body.sum)) e ∙ sym held_bytes)
        ∙ standing (get_or bs 0 0) refl ∙ sym (ap standing_of state-said)

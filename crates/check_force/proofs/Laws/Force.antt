-- What one clause forces on two bounds, by cases: it holds whatever is open, or two literals are open; nothing is open; the
-- last open head literal; the last open body literal; one literal is open in body and head alike.
-- Assumes nothing.
use Prim.Native.Nat.{ℕ, ◌-◌}
use mathlib.Core.Path.{◌≡◌, sym, ap, ap₂, subst, ◌∙◌}
use mathlib.Core.Logic.{⊎_elim}
use lib.Bits.{bit_and, bit_or, bit_xor, or_zero_r}
use Rattle.mask.specs.Code.{Within, Apart, Single}
use Rattle.mask.proofs.Laws.Rest.{rest, rest-none, none_rest, rest-within, rest-apart, within-rest, apart_by}
use Rattle.mask.proofs.Laws.Part.{within-refl, within-trans, within-or-left, within-or-right, or-within, and-within-left, and-within-right, apart-sym, within-apart, xor-within, xor-apart, within-xor, or-none, apart-or-not}
use Rattle.mask.proofs.Laws.Single.{apart-single}
use Rattle.check_force.specs.declared.Bounds.{Bounds}
use Rattle.check_force.specs.Code.{Holds, Between, Quiet, Dead, Narrowed}
use Rattle.check_force.proofs.Laws.Narrow.{unchanged}
use Rattle.check_force.proofs.Laws.Unforced.{nothing, both-open, met-or-two}

module _ (body head must may : ℕ) where
  -- the body's literals that are not yet present, and the head's that may be
  abbrev needed : ℕ
  needed = rest body must

  abbrev left : ℕ
  left = bit_and head may

  -- narrowed by the clause, and where nothing changed, by nothing that it forces
  abbrev Forced : Bounds → Type 0
  Forced = Narrowed (Holds body head) (Quiet (Holds body head)) must may

  -- the clause fails in a mask between the bounds that has what is needed and nothing of what is left
  fails : (x : ℕ) → Between must may x → Within needed x → Apart left x → Holds body head x → ⊥
  fails x b p q h = h (within-rest body must x b.above p) (apart_by head may x b.below q)

  -- the one test: the body may not be present, or a head literal is, or w, what is open besides the lowest open literal, is some
  module _ {w : ℕ} (b : w ≡ bit_and (bit_or needed left) (bit_or needed left - 1)) where
    pub met-or-more : (bit_or (bit_or (rest body may) (bit_and head must)) w ≡ 0 → ⊥)
        → Forced (record { must = must; may = may })
    met-or-more n = unchanged none (λ i. met-or-two body head must may i w b n)
      where
        none : must ≡ may → Holds body head must
        none e p a =
            n (ap₂ bit_or (ap₂ bit_or (none_rest body may (subst (Within body) e p)) a)
            (b ∙ ap (λ (z : ℕ). bit_and z (z - 1)) (ap₂ bit_or (none_rest body must p) (subst (Apart head) e a))))

    pub one-open : bit_or (bit_or (rest body may) (bit_and head must)) w ≡ 0 → (bit_or (rest body may) (bit_and head must) ≡ 0) × Single (bit_or needed left)
    one-open e =
        let p = or-none (bit_or (rest body may) (bit_and head must)) w e in
        (p.0, apart-single (bit_or needed left) (sym b ∙ p.1))

  module _ (n : bit_or needed left ≡ 0 → ⊥) where
    -- where no more is open than one mask leaves, the clause does not fail in it
    last-holds : must ≡ may → Holds body head must
    last-holds e w a = n (ap₂ bit_or (none_rest body must w) (subst (Apart head) e a))

    -- one literal is open in body and head alike: the clause holds with it and without it
    pub same-open : (needed ≡ 0 → ⊥) → (left ≡ 0 → ⊥) → Forced (record { must = must; may = may })
    same-open f g = unchanged last-holds (λ i. both-open body head must may i f g)

    -- one head literal is open and the body present: the literal must be
    pub last-head : bit_or (rest body may) (bit_and head must) ≡ 0 → Single (bit_or needed left) → needed ≡ 0
        → Forced (record { must = bit_or must (bit_or needed left); may = may })
    last-head k s e =
        subst (λ (z : ℕ). Forced (record { must = bit_or must (bit_or z left); may = may })) (sym e)
        record {
          kept = record {
            more = within-or-left must left;
            less = within-refl may;
            inside = λ w. or-within must left may w (and-within-right head may);
            keeps = forced;
          };
          leaf = λ p q o. last-holds o;
          quiet = λ p q i. absurd (changed p);
        }
      where
        -- what is left is none of what must be
        changed : bit_or must left ≡ must → ⊥
        changed p =
            n (ap₂ bit_or e (nothing left must (subst (Within left) p (within-or-right must left))
            (within-apart left head must (and-within-left head may) (or-none (rest body may) (bit_and head must) k).1)))

        single : Single left
        single = subst (λ (z : ℕ). Single (bit_or z left)) e s

        forced : (x : ℕ) → Between must may x → Holds body head x → Between (bit_or must left) may x
        forced x b h =
            record {
              above = or-within must left x b.above (single.whole x (λ a. fails x b (ap (λ (z : ℕ). bit_and z x) e ∙ sym e) a h));
              below = b.below;
            }

    -- one body literal is open and no head literal is left: the body literal may not be
    pub last-body : bit_or (rest body may) (bit_and head must) ≡ 0 → Single (bit_or needed left) → left ≡ 0
        → Forced (record { must = must; may = bit_xor may (bit_or needed left) })
    last-body k s e =
        subst (λ (z : ℕ). Forced (record { must = must; may = bit_xor may z })) (sym same)
        record {
          kept = record {
            more = within-refl must;
            less = xor-within may needed within;
            inside = λ w. within-xor must may needed within w (rest-apart body must);
            keeps = forced;
          };
          leaf = λ p q o. last-holds o;
          quiet = λ p q i. absurd (changed q);
        }
      where
        within : Within needed may
        within = within-trans needed body may (rest-within body must) (rest-none body may (or-none (rest body may) (bit_and head must) k).0)

        same : bit_or needed left ≡ needed
        same = ap (bit_or needed) e ∙ or_zero_r needed

        -- what is needed is some of what may be
        changed : bit_xor may needed ≡ may → ⊥
        changed q =
            n (ap₂ bit_or (nothing needed may within (apart-sym may needed (subst (λ (z : ℕ). Apart z needed) q (xor-apart may needed within)))) e)

        single : Single needed
        single = subst Single same s

        forced : (x : ℕ) → Between must may x → Holds body head x → Between must (bit_xor may needed) x
        forced x b h =
            record {
              above = b.above;
              below = within-xor x may needed within b.below
                  (⊎_elim (λ a. a) (λ f. absurd (fails x b (single.whole x f) (ap (λ (z : ℕ). bit_and z x) e) h)) (apart-or-not needed x));
            }

  -- nothing is open: the clause fails in each mask between the bounds
  pub nothing-open : bit_or needed left ≡ 0 → Dead (Holds body head) must may
  nothing-open e x b =
      let p = or-none needed left e in
      fails x b (ap (λ (z : ℕ). bit_and z x) p.0 ∙ sym p.0) (ap (λ (z : ℕ). bit_and z x) p.1)

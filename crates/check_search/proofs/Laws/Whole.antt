-- The mask of all positions picks the whole list, and of a list without repeats no other mask does.
-- Assumes nothing.
use Prim.Native.Nat.{ℕ, suc, ◌+◌, ◌%◌, ◌^◌}
use native.Mathlib.Nat.{pow-suc, mod-lt}
use native.Mathlib.Omega.{arith}
use mathlib.Core.Path.{◌≡◌, refl, sym, ap, subst}
use mathlib.Core.Bool.{Bool, true, false, cond, not, ◌&&◌}
use mathlib.Core.List.{List, [], ◌∷◌, Memᴰ}
use mathlib.Core.Logic.{⊎_elim}
use lib.Dec.{T}
use lib.ListN.{length}
use lib.Pow.{pow_pos}
use Rattle.literal.specs.declared.Literal.{Literal}
use Rattle.semantics.specs.Set.{each_of, same_literal, set_of}
use Rattle.semantics.proofs.Laws.Tests.{first, second, either, fails, all-mem, all-intro}
use Rattle.semantics.proofs.Laws.Set.{same-literal-eq, set-of-mem}
use Rattle.semantics.proofs.Laws.Part.{part-subset}
use Rattle.mask.specs.Code.{has}
use Rattle.mask.proofs.Laws.Place.{mod-suc}
use Rattle.check_force.proofs.Laws.Build.{distinct, picked}
use Rattle.check_search.proofs.Laws.Picked.{picked-part}

-- a mask with all positions picks the whole list
pub picked-whole : (x : ℕ) (ls : List Literal) → x % 2 ^ length ls + 1 ≡ 2 ^ length ls → picked x ls ≡ ls
unfolding picked
picked-whole x [] e = refl
picked-whole x (l ∷ ls) e =
    go (has x (length ls)) (picked-whole x ls) (subst (λ (n : ℕ). n + 1 ≡ 2 ^ suc (length ls)) (mod-suc x (length ls)) e)
  where
    go : (b : Bool) → (x % 2 ^ length ls + 1 ≡ 2 ^ length ls → picked x ls ≡ ls) → cond b (2 ^ length ls) 0 + x % 2 ^ length ls + 1 ≡ 2 ^ suc (length ls)
        → cond b (l ∷ picked x ls) (picked x ls) ≡ l ∷ ls
    go true ih e = ap (λ s. l ∷ s) (ih (omega (arith, pow-suc 2 (length ls))))
    go false ih e = absurd (omega (arith, pow-suc 2 (length ls), mod-lt x (pow_pos (length ls))))

-- and a mask that picks each literal of a list without repeats has all positions
pub whole-picked : (x : ℕ) (ls : List Literal) → T (distinct ls) → T (each_of (set_of (picked x ls)) ls) → x % 2 ^ length ls + 1 ≡ 2 ^ length ls
unfolding distinct picked
whole-picked x [] d t = omega (arith, mod-lt x (pow_pos 0))
whole-picked x (l ∷ ls) d t =
    subst (λ (n : ℕ). n + 1 ≡ 2 ^ suc (length ls)) (sym (mod-suc x (length ls)))
    (go (has x (length ls)) t (whole-picked x ls (second (not (set_of ls l)) (distinct ls) d)))
  where
    n : T (not (set_of ls l))
    n = first (not (set_of ls l)) (distinct ls) d

    -- a literal of the rest is not the first
    behind : (m : Literal) → Memᴰ m ls → T (set_of (l ∷ picked x ls) m) → T (set_of (picked x ls) m)
    behind m w s =
        ⊎_elim (λ e. absurd (fails (set_of ls l) n (subst (λ (z : Literal). T (set_of ls z)) (same-literal-eq m l e) (set-of-mem w)))) (λ r. r)
        (either (same_literal m l) (set_of (picked x ls) m) s)

    go : (b : Bool) → T (set_of (cond b (l ∷ picked x ls) (picked x ls)) l && each_of (set_of (cond b (l ∷ picked x ls) (picked x ls))) ls)
        → (T (each_of (set_of (picked x ls)) ls) → x % 2 ^ length ls + 1 ≡ 2 ^ length ls) → cond b (2 ^ length ls) 0 + x % 2 ^ length ls + 1 ≡ 2 ^ suc (length ls)
    go true t ih =
        let rest = second (set_of (l ∷ picked x ls) l) (each_of (set_of (l ∷ picked x ls)) ls) t in
        omega (
          arith,
          pow-suc 2 (length ls),
          ih (all-intro (set_of (picked x ls)) ls (λ m w. behind m w (all-mem (set_of (l ∷ picked x ls)) rest w))),
        )
    go false t ih =
        absurd (fails (set_of ls l) n (part-subset (picked-part x ls) l (first (set_of (picked x ls) l) (each_of (set_of (picked x ls)) ls) t)))

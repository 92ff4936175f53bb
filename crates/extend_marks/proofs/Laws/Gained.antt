-- Laws of keys that a slice gains: none, one, and some behind others; what is gained of a list, and what is left of it.
-- In order: no key; a key that is kept or not; one run behind another; the start, a step and the end of a pass;
-- keys gained from the front on.
-- Assumes nothing.
use Prim.Native.Nat.{ℕ, suc, ◌+◌, ◌≤◌, ◌<◌}
use native.Mathlib.Omega.{arith}
use native.Mathlib.Nat.{add-zero, zero-add, add_assoc}
use mathlib.Core.Path.{◌≡◌, refl, sym, ◌∙◌, ap}
use mathlib.Core.Bool.{Bool, true, false, cond}
use mathlib.Core.List.{List, [], ◌∷◌, ◌++◌, append_assoc, append-nil}
use lib.ListN.{length, take, set, length-append, length-set, length-take}
use lib.Seq.{take-set-le, take-suc-set}
use mir.Val.{bool_byte}
use Rattle.extend_marks.specs.Code.{Gained}

-- no key
pub gained-none : (d : List ℕ) (n : ℕ) → Gained d d n 0 []
gained-none d n = record { count = refl; front = ap (λ (m : ℕ). take m d) (add-zero n) ∙ sym (append-nil (take n d)); same = refl }

-- a key put behind the others
pub gained-one : (d : List ℕ) (n k : ℕ) → n < length d → Gained d (set d n k) n 1 (k ∷ [])
gained-one d n k h = record { count = refl; front = ap (λ (m : ℕ). take m (set d n k)) next ∙ take-suc-set d n k h; same = length-set d n k }
  where
    next : n + 1 ≡ suc n
    next = omega arith

-- a key that is put there, and kept where b says so
pub gained-kept : (d : List ℕ) (n k : ℕ) (b : Bool) → n < length d → Gained d (set d n k) n (bool_byte b) (cond b (k ∷ []) [])
gained-kept d n k true h = gained-one d n k h
gained-kept d n k false h =
    record {
      count = refl;
      front = ap (λ (m : ℕ). take m (set d n k)) (add-zero n) ∙ take-set-le n d n k (omega arith)
          ∙ sym (append-nil (take n d));
      same = length-set d n k;
    }

-- a run of keys behind another
pub gained-behind : {d e f : List ℕ} {n a b : ℕ} {ks ms : List ℕ} → Gained d e n a ks → Gained e f (n + a) b ms → Gained d f n (a + b) (ks ++ ms)
gained-behind {d} {e} {f} {n} {a} {b} {ks} {ms} x y =
    record {
      count = omega (arith, x.count, y.count, length-append ks ms);
      front = ap (λ (m : ℕ). take m f) (sym (add_assoc n a b)) ∙ y.front ∙ ap (λ (zs : List ℕ). zs ++ ms) x.front ∙ append_assoc (take n d) ks ms;
      same = y.same ∙ x.same;
    }

-- a pass that gains the keys of `goal`: r of them are there, and `rest` is left
pub record Gaining (goal d e : List ℕ) (n r : ℕ) (rest : List ℕ) : Type 0 where
  pub there : List ℕ
  pub gained : Gained d e n r there
  pub all : goal ≡ there ++ rest

-- at its start
pub gaining-start : (goal d : List ℕ) (n : ℕ) → Gaining goal d d n 0 goal
gaining-start goal d n = record { there = []; gained = gained-none d n; all = refl }

-- a step further
pub gaining-next : {goal d e f : List ℕ} {n a b : ℕ} (ms : List ℕ) {rest next : List ℕ} → Gaining goal d e n a rest
    → Gained e f (n + a) b ms → rest ≡ ms ++ next → Gaining goal d f n (a + b) next
gaining-next ms {next} x y e =
    record {
      there = x.there ++ ms;
      gained = gained-behind x.gained y;
      all = x.all ∙ ap (λ (zs : List ℕ). x.there ++ zs) e ∙ sym (append_assoc x.there ms next);
    }

-- at its end
pub gaining-end : {goal d e : List ℕ} {n r : ℕ} {rest : List ℕ} → Gaining goal d e n r rest → rest ≡ [] → Gained d e n r goal
gaining-end {d} {e} {n} {r} x none = rw (x.all ∙ ap (λ (zs : List ℕ). x.there ++ zs) none ∙ append-nil x.there) x.gained

-- keys that are gained from the front on have room there
pub gained-fits : {d e : List ℕ} {n : ℕ} {ks : List ℕ} → Gained d e 0 n ks → n ≤ length e
gained-fits {e} {n} g = let size = ap length g.front in omega (arith, g.count, length-take (0 + n) e)

pub gained-front : {d e : List ℕ} {n : ℕ} {ks : List ℕ} → Gained d e 0 n ks → take n e ≡ ks
gained-front {e} {n} g = ap (λ (m : ℕ). take m e) (sym (zero-add n)) ∙ g.front

-- Sources can be assembled, and figures that code adds up are small.
-- In order: the source form's limits; the counts of a record that was read; what a state says is held.
-- Assumes nothing.
use Prim.Native.Nat.{ℕ, ◌+◌, ◌≤◌, ◌<◌}
use native.Mathlib.Omega.{arith}
use mathlib.Core.Path.{◌≡◌, refl, sym, ap, subst}
use mathlib.Core.Bool.{Bool, true, false}
use mathlib.Core.List.{List}
use lib.Dec.{T}
use lib.ListN.{length}
use Rattle.buffer.specs.Bytes.{Bytes}
use Rattle.literal.specs.declared.Limits.{Limits}
use Rattle.literal.specs.Limits.{source}
use Rattle.semantics.proofs.Laws.Tests.{along}
use Rattle.record.specs.Header.{head_count, positive_count, naf_count}
use Rattle.record.proofs.Laws.Only.{Added}
use Rattle.assembly.specs.declared.Standing.{Standing}
use Rattle.assembly.specs.State.{Stage, before, shape_of, shapes, held_length, keeps_stage, is_state, stage_of}
use Rattle.assembly.specs.Code.{Assemblable, standing_of}
use Rattle.assembly.proofs.Laws.Row.{kept-shape}
use Rattle.assembly.proofs.Laws.State.{said, state-parts, state-kept, stage-of, stage-none}
use Rattle.assembly.proofs.Laws.Session.{kept-added, stage-few, stage-each}
use Rattle.assembly.proofs.Laws.Reached.{before-kept}
use Rattle.assembly.proofs.Laws.Turn.{held_small}

pub assemblable-source : Assemblable source
unfolding source
assemblable-source = record { rules = omega arith; heads = omega arith; body = omega arith; short = omega arith }

-- the counts of a record that was read
pub record Small (t : List ℕ) (size : ℕ) : Type 0 where
  pub heads : head_count t < 128
  pub body : positive_count t + naf_count t < 256
  pub whole : 7 ≤ size
  pub most : size ≤ 1917
  pub fits : size ≤ length t

pub added-small : (F : Limits) → Assemblable F → (n : ℕ) (t : List ℕ) (size : ℕ) → Bytes t → Added F n t size → Small t size
unfolding shape_of
added-small F ok n t size bytes w =
    let k = kept-shape F (shape_of t) (kept-added F n t size w bytes) in
    record {
      heads = omega (arith, k.heads, ok.heads);
      body = omega (arith, k.body, ok.body);
      whole = omega (arith, w.sized);
      most = omega (arith, w.sized, k.heads, k.body, ok.heads, ok.body);
      fits = w.fits;
    }

-- what a state says is held
stage-small : (F : Limits) → Assemblable F → (s : Stage) → T (keeps_stage F s) → held_length (shapes s) ≤ 490752
stage-small F ok s k = omega (arith, held_small F ok (shapes s) (stage-each F s k), stage-few F s k, ok.rules)

pub standing-small : (F : Limits) → Assemblable F → (st : List ℕ) → Bytes st → (h : Standing) → h ≡ standing_of (stage_of F st) → h.bytes ≤ 490752
unfolding standing_of
standing-small F ok st bytes h e = omega (arith, ap (λ (x : Standing). x.bytes) e, go (is_state F st) refl)
  where
    go : (b : Bool) → is_state F st ≡ b → held_length (shapes (stage_of F st)) ≤ 490752
    go true q =
        let k = along (sym q) tt in
        subst (λ (x : Stage). held_length (shapes x) ≤ 490752) (sym (stage-of F st k)) (stage-small F ok (said F st) (state-kept F st bytes (state-parts F st k)))
    go false q = subst (λ (x : Stage). held_length (shapes x) ≤ 490752) (sym (stage-none F st q)) (stage-small F ok before (before-kept F ok))

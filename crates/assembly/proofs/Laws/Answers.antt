-- Laws of a call's answer: the number of rules then held, and where a refusal's place lies.
-- In order: what bytes say is within the limits; an accepted call's number; a refused call's place.
-- Assumes nothing.
use Prim.Native.Nat.{ℕ, ◌+◌, ◌*◌, ◌≤◌}
use Rattle.std.specs.Prelude.{Ok, Err}
use native.Mathlib.Omega.{arith}
use mathlib.Core.Path.{◌≡◌, refl, sym, ◌∙◌, ap, subst}
use mathlib.Core.Bool.{Bool, true, false}
use mathlib.Core.List.{List}
use lib.Dec.{T}
use lib.ListN.{length}
use Rattle.buffer.specs.Bytes.{Bytes}
use Rattle.literal.specs.declared.Limits.{Limits}
use Rattle.semantics.proofs.Laws.Tests.{along}
use Rattle.record.specs.declared.Refusal.{Refusal}
use Rattle.record.specs.Result.{Answer}
use Rattle.record.specs.Reading.{rule_only}
use Rattle.record.proofs.Laws.Result.{refuse-if-accepted}
use Rattle.record.proofs.Laws.Places.{Placed, refuse-if-placed, and-then-placed}
use Rattle.record.proofs.Laws.Only.{only-placed}
use Rattle.assembly.specs.State.{Stage, before, opened, closed, shapes, keeps_stage, is_state, stage_of}
use Rattle.assembly.specs.Calls.{Call, begin, add, drop_last, close, Move, room_for, begun, added, dropped, ended, move, moved, called}
use Rattle.assembly.specs.History.{BytesIn}
use Rattle.assembly.specs.Code.{Assemblable}
use Rattle.assembly.proofs.Laws.State.{state-parts, state-kept, stage-of, stage-none, stage-said}
use Rattle.assembly.proofs.Laws.Session.{outcome, stage-few, move-kept}
use Rattle.assembly.proofs.Laws.Reached.{before-kept}

module _ (F : Limits) (ok : Assemblable F) where
  -- what bytes say is within the limits, whether they are a state or not
  pub said-kept : (st : List ℕ) → Bytes st → T (keeps_stage F (stage_of F st))
  said-kept st bytes = go (is_state F st) refl
    where
      go : (b : Bool) → is_state F st ≡ b → T (keeps_stage F (stage_of F st))
      go true q =
          let k = along (sym q) tt in
          subst (λ (s : Stage). T (keeps_stage F s)) (sym (stage-of F st k)) (state-kept F st bytes (state-parts F st k))
      go false q = subst (λ (s : Stage). T (keeps_stage F s)) (sym (stage-none F st q)) (before-kept F ok)

  -- an accepted call answers how many rules the state then says are held, and they are no more than the form takes
  module _ (c : Call) (h : BytesIn c) (st out : List ℕ) (bytes : Bytes st) (n : ℕ) where
    moved-count : (r : Answer Move) → outcome F c st (length out) ≡ r → (moved F st out r).answer ≡ Ok n
        → (length (shapes (stage_of F (moved F st out r).state)) ≡ n) × (n ≤ F.rules)
    unfolding moved
    moved-count (Err x) q e = let z : ◌≡◌ {A = ℕ} 0 1 = cc in absurd (omega (arith, z))
    moved-count (Ok m) q e =
        let k = move-kept F c h (stage_of F st) (said-kept st bytes) (length out) m (refuse-if-accepted _ _ _ m q).1 in
        let same : length (shapes m.stage) ≡ n = cc in
        (ap (λ (s : Stage). length (shapes s)) (stage-said F ok m.stage k) ∙ same, omega (arith, same, stage-few F m.stage k))

    pub answer-count : (called F c st out).answer ≡ Ok n → (length (shapes (stage_of F (called F c st out).state)) ≡ n) × (n ≤ F.rules)
    unfolding called
    answer-count e = moved-count (outcome F c st (length out)) refl e

-- a refusal's place lies within the largest record
module _ (F : Limits) where
  abbrev largest : ℕ
  largest = 7 + 5 * (F.heads + (F.positives + F.nafs))

  room-placed : (room held : ℕ) (m : Move) → Placed largest (room_for room held m)
  unfolding room_for
  room-placed room held m = refuse-if-placed largest _ _ _ (omega arith) (λ e. tt)

  move-placed : (c : Call) (s : Stage) (room : ℕ) → Placed largest (move F c s room)
  unfolding move begun added dropped ended
  move-placed begin s room = room-placed room 0 _
  move-placed (add t) before room = omega arith
  move-placed (add t) (opened ss) room =
      and-then-placed largest (rule_only F (length ss) t) _ (only-placed F (length ss) t) (λ size. room-placed room _ _)
  move-placed (add t) (closed ss) room = omega arith
  move-placed drop_last before room = omega arith
  move-placed drop_last (opened ss) room = refuse-if-placed largest _ _ _ (omega arith) (λ e. tt)
  move-placed drop_last (closed ss) room = omega arith
  move-placed close before room = omega arith
  move-placed close (opened ss) room = room-placed room _ _
  move-placed close (closed ss) room = omega arith

  pub answer-place : (c : Call) (st out : List ℕ) (x : Refusal) → (called F c st out).answer ≡ Err x → x.place ≤ 7 + 5 * (F.heads + (F.positives + F.nafs))
  unfolding called moved
  answer-place c st out x e =
      go (outcome F c st (length out)) (refuse-if-placed largest _ _ _ (omega arith) (λ q. move-placed c (stage_of F st) (length out))) e
    where
      go : (r : Answer Move) → Placed largest r → (moved F st out r).answer ≡ Err x → x.place ≤ largest
      go (Ok m) p e = let z : ◌≡◌ {A = ℕ} 0 1 = cc in absurd (omega (arith, z))
      go (Err y) p e = let same : y ≡ x = cc in subst (λ (v : Refusal). v.place ≤ largest) same p

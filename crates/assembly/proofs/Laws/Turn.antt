-- Laws of one call, in the terms of the code: what a state says, and the bytes that change.
-- In order: a refused call; a slice of another length; begin; a state that takes no call but begin; an open one; add, drop and close there;
-- the length that is assembled.
-- Assumes nothing.
use Prim.Native.Nat.{ℕ, ◌+◌, ◌-◌, ◌*◌, ◌≤◌, ◌<◌}
use Rattle.std.specs.Prelude.{Ok, Err}
use native.Mathlib.Omega.{arith}
use mathlib.Core.Path.{◌≡◌, refl, sym, ◌∙◌, ap, ap₂}
use mathlib.Core.Bool.{Bool, true, false, not, true≢false}
use mathlib.Core.List.{List, [], ◌∷◌, ◌++◌}
use lib.Dec.{T, eqb}
use lib.ListN.{length, take, length-append}
use lib.Seq.{length-take-le}
use borrow.Author.Tests.{lt-ltb, le-ltb, eq-eqb, ne_eqb}
use Rattle.buffer.specs.Bytes.{Bytes}
use Rattle.buffer.specs.Write.{write}
use Rattle.buffer.proofs.Laws.Write.{write-nil}
use Rattle.literal.specs.declared.Limits.{Limits}
use Rattle.semantics.specs.Set.{each_of}
use Rattle.semantics.proofs.Laws.Tests.{first, second}
use Rattle.record.specs.declared.Reason.TheVariants.{OutputShort, OutOfTurn}
use Rattle.record.specs.declared.Refusal.{Refusal}
use Rattle.record.specs.Refusal.{refusal}
use Rattle.record.specs.Result.{Answer, and_then, refuse_if}
use Rattle.record.specs.Layout.{encoded_end}
use Rattle.record.specs.Reading.{rule_only}
use Rattle.record.proofs.Laws.Result.{refused-and-then, accepted-and-then, refuse-if-true, refuse-if-false}
use Rattle.assembly.specs.declared.Standing.{Standing}
use Rattle.assembly.specs.State.{Stage, before, opened, closed, Shape, shape_of, shapes, held_length, keeps_shape, keeps_stage, state_bytes, heads_byte, body_byte, encoded_stage, stage_of}
use Rattle.assembly.specs.Calls.{Call, begin, add, drop_last, close, Move, room_for, begun, added, dropped, ended, move, Called, moved, called, assembled}
use Rattle.assembly.specs.Code.{Assemblable, is_open, standing_of, with_shape}
use Rattle.assembly.proofs.Laws.Row.{kept-shape}
use Rattle.assembly.proofs.Laws.State.{stage-open, length-stage}
use Rattle.assembly.proofs.Laws.Change.{shape-more, shape-less, stage-closed}
use Rattle.assembly.proofs.Laws.Session.{called-stage, stage-few, stage-each}

-- a refused call changes nothing
abbrev pub refused_call : Refusal → List ℕ → List ℕ → Called
refused_call x st out = record { answer = Err x; state = st; buffer = out }

module _ (F : Limits) (c : Call) (st out : List ℕ) where
  -- 15: a slice of another length than a state's
  pub length-turn : (length st ≡ state_bytes F → ⊥) → called F c st out ≡ refused_call (refusal OutOfTurn 0) st out
  unfolding called moved
  length-turn e = ap (moved F st out) (refuse-if-true _ _ _ (ap not (ne_eqb (length st) (state_bytes F) e)))

  long-called : length st ≡ state_bytes F → called F c st out ≡ moved F st out (move F c (stage_of F st) (length out))
  unfolding called
  long-called e = ap (moved F st out) (refuse-if-false _ _ _ (ap not (eq-eqb (length st) (state_bytes F) e)))

-- begin
module _ (F : Limits) (st out : List ℕ) (long : length st ≡ state_bytes F) where
  pub begin-short : length out < 4 → called F begin st out ≡ refused_call (refusal OutputShort 0) st out
  unfolding move begun room_for moved
  begin-short e = long-called F begin st out long ∙ ap (moved F st out) (refuse-if-true _ _ _ (lt-ltb (length out) 4 e))

  pub begin-held : 4 ≤ length out → called F begin st out ≡ record { answer = Ok 0; state = encoded_stage F (opened []); buffer = out }
  unfolding move begun room_for moved shapes
  begin-held e =
      long-called F begin st out long ∙ ap (moved F st out) (refuse-if-false _ _ _ (le-ltb (length out) 4 e))
      ∙ ap (λ (b : List ℕ). record { answer = Ok 0; state = encoded_stage F (opened []); buffer = b }) (write-nil out 0)

-- what takes no call but begin
module _ (F : Limits) (st out : List ℕ) (idle : (standing_of (stage_of F st)).active ≡ false) where
  idle-called : (c : Call) → ((s : Stage) → is_open s ≡ false → move F c s (length out) ≡ Err (refusal OutOfTurn 0))
      → called F c st out ≡ refused_call (refusal OutOfTurn 0) st out
  unfolding standing_of moved called
  idle-called c f = go (eqb (length st) (state_bytes F))
    where
      go : (b : Bool) → moved F st out (refuse_if (not b) (refusal OutOfTurn 0) (move F c (stage_of F st) (length out))) ≡ refused_call (refusal OutOfTurn 0) st out
      go true = ap (moved F st out) (refuse-if-false _ _ _ refl ∙ f (stage_of F st) idle)
      go false = ap (moved F st out) (refuse-if-true _ _ _ refl)

  pub idle-add : (t : List ℕ) → called F (add t) st out ≡ refused_call (refusal OutOfTurn 0) st out
  unfolding move is_open
  idle-add t = idle-called (add t) go
    where
      go : (s : Stage) → is_open s ≡ false → move F (add t) s (length out) ≡ Err (refusal OutOfTurn 0)
      go before e = refl
      go (opened ss) e = absurd (true≢false e)
      go (closed ss) e = refl

  pub idle-drop : called F drop_last st out ≡ refused_call (refusal OutOfTurn 0) st out
  unfolding move is_open
  idle-drop = idle-called drop_last go
    where
      go : (s : Stage) → is_open s ≡ false → move F drop_last s (length out) ≡ Err (refusal OutOfTurn 0)
      go before e = refl
      go (opened ss) e = absurd (true≢false e)
      go (closed ss) e = refl

  pub idle-close : called F close st out ≡ refused_call (refusal OutOfTurn 0) st out
  unfolding move is_open
  idle-close = idle-called close go
    where
      go : (s : Stage) → is_open s ≡ false → move F close s (length out) ≡ Err (refusal OutOfTurn 0)
      go before e = refl
      go (opened ss) e = absurd (true≢false e)
      go (closed ss) e = refl

-- an open assembly: the shapes of its rules, and its bytes
pub record Active (F : Limits) (st : List ℕ) (n bytes : ℕ) : Type 0 where
  pub held : List Shape
  pub state : st ≡ encoded_stage F (opened held)
  pub kept : T (keeps_stage F (opened held))
  pub count : length held ≡ n
  pub sum : held_length held ≡ bytes
  pub few : n ≤ F.rules
  pub long : length st ≡ state_bytes F
  pub small : bytes ≤ 1917 * n

pub held_small : (F : Limits) → Assemblable F → (ss : List Shape) → T (each_of (keeps_shape F) ss) → held_length ss ≤ 1917 * length ss
unfolding held_length
held_small F ok [] k = omega arith
held_small F ok (s ∷ ss) k =
    let w = kept-shape F s (first (keeps_shape F s) (each_of (keeps_shape F) ss) k) in
    omega (arith, held_small F ok ss (second (keeps_shape F s) (each_of (keeps_shape F) ss) k), w.heads, w.body, ok.heads, ok.body)

pub active-state : (F : Limits) → Assemblable F → (st : List ℕ) → Bytes st → (h : Standing) → h ≡ standing_of (stage_of F st) → h.active ≡ true
    → Active F st h.rules h.bytes
unfolding standing_of is_open shapes
active-state F ok st bytes h e on = go (stage_of F st) refl (sym (ap (λ (x : Standing). x.active) e) ∙ on) e
  where
    go : (s : Stage) → stage_of F st ≡ s → is_open s ≡ true → h ≡ standing_of s → Active F st h.rules h.bytes
    go before q o f = absurd (true≢false (sym o))
    go (closed ss) q o f = absurd (true≢false (sym o))
    go (opened ss) q o f =
        let w = stage-open F st ss bytes q in
        let n = ap (λ (x : Standing). x.rules) f in
        let b = ap (λ (x : Standing). x.bytes) f in
        record {
          held = ss;
          state = w.0;
          kept = w.1;
          count = sym n;
          sum = sym b;
          few = omega (arith, n, stage-few F (opened ss) w.1);
          long = ap length w.0 ∙ length-stage F ok (opened ss) w.1;
          small = omega (arith, n, b, held_small F ok ss (stage-each F (opened ss) w.1));
        }

module _ (F : Limits) (ok : Assemblable F) (st out : List ℕ) (n bytes : ℕ) (w : Active F st n bytes) where
  active-called : (c : Call) → called F c st out ≡ moved F st out (move F c (opened w.held) (length out))
  active-called c = called-stage F ok (opened w.held) w.kept c st out w.state

  -- add
  module _ (t : List ℕ) where
    -- a record of this length is held if it has room
    abbrev held_then : ℕ → Answer Move
    held_then size =
        room_for (length out) (held_length w.held + size)
        (record { stage = opened (w.held ++ (shape_of t ∷ [])); at = held_length w.held; bytes = take size t })

    add_read : (r : Answer ℕ) → rule_only F n t ≡ r → called F (add t) st out ≡ moved F st out (and_then r held_then)
    unfolding move added
    add_read r e =
        active-called (add t) ∙ ap (λ (q : Answer ℕ). moved F st out (and_then q held_then)) (ap (λ (k : ℕ). rule_only F k t) w.count ∙ e)

    pub add-refused : (x : Refusal) → rule_only F n t ≡ Err x → called F (add t) st out ≡ refused_call x st out
    unfolding moved
    add-refused x e = add_read (Err x) e ∙ ap (moved F st out) (refused-and-then x held_then)

    module _ (size : ℕ) (read : rule_only F n t ≡ Ok size) where
      add-sized : called F (add t) st out ≡ moved F st out (held_then size)
      add-sized = add_read (Ok size) read ∙ ap (moved F st out) (accepted-and-then size held_then)

      pub add-short : length out < bytes + size + 4 → called F (add t) st out ≡ refused_call (refusal OutputShort 0) st out
      unfolding room_for moved
      add-short e = add-sized ∙ ap (moved F st out) (refuse-if-true _ _ _ (lt-ltb (length out) (held_length w.held + size + 4) (omega (arith, w.sum))))

      pub add-held : bytes + size + 4 ≤ length out → n < F.rules
          → called F (add t) st out
          ≡ record { answer = Ok (n + 1); state = with_shape F st (n + 1) n (heads_byte (shape_of t)) (body_byte (shape_of t)); buffer = write out bytes (take size t) }
      unfolding room_for moved shapes
      add-held e room =
          add-sized
          ∙ ap (moved F st out) (refuse-if-false _ _ _ (le-ltb (length out) (held_length w.held + size + 4) (omega (arith, w.sum))))
          ∙ ap₂ (λ (k : ℕ) (b : ℕ). record { answer = Ok k; state = encoded_stage F (opened (w.held ++ (shape_of t ∷ []))); buffer = write out b (take size t) })
          (length-append w.held (shape_of t ∷ []) ∙ ap (λ (k : ℕ). k + 1) w.count) w.sum
          ∙ ap (λ (x : List ℕ). record { answer = Ok (n + 1); state = x; buffer = write out bytes (take size t) })
          (sym (shape-more F w.held (shape_of t) (omega (arith, w.count)))
          ∙ ap₂ (λ (x : List ℕ) (k : ℕ). with_shape F x (k + 1) k (heads_byte (shape_of t)) (body_byte (shape_of t))) (sym w.state) w.count)

  -- drop
  pub drop-none : n ≡ 0 → called F drop_last st out ≡ refused_call (refusal OutOfTurn 0) st out
  unfolding move dropped moved
  drop-none e = active-called drop_last ∙ ap (moved F st out) (refuse-if-true _ _ _ (eq-eqb (length w.held) 0 (w.count ∙ e)))

  pub drop-held : 0 < n → called F drop_last st out ≡ record { answer = Ok (n - 1); state = with_shape F st (n - 1) (n - 1) 0 0; buffer = out }
  unfolding move dropped moved shapes
  drop-held some =
      active-called drop_last
      ∙ ap (moved F st out) (refuse-if-false _ _ _ (ne_eqb (length w.held) 0 (λ z. omega (arith, z, w.count))))
      ∙ ap₂ (λ (k : ℕ) (b : List ℕ). record { answer = Ok k; state = encoded_stage F (opened (take (length w.held - 1) w.held)); buffer = b })
      (length-take-le (length w.held - 1) w.held (omega arith) ∙ ap (λ (k : ℕ). k - 1) w.count) (write-nil out 0)
      ∙ ap (λ (x : List ℕ). record { answer = Ok (n - 1); state = x; buffer = out })
      (sym (shape-less F w.held (omega (arith, w.count)) (omega (arith, w.count, w.few)))
      ∙ ap₂ (λ (x : List ℕ) (k : ℕ). with_shape F x (k - 1) (k - 1) 0 0) (sym w.state) w.count)

  -- close
  pub close-short : length out < bytes + 4 → called F close st out ≡ refused_call (refusal OutputShort 0) st out
  unfolding move ended room_for moved
  close-short e = active-called close ∙ ap (moved F st out) (refuse-if-true _ _ _ (lt-ltb (length out) (held_length w.held + 4) (omega (arith, w.sum))))

  pub close-held : bytes + 4 ≤ length out
      → called F close st out ≡ record { answer = Ok n; state = write st 0 (2 ∷ []); buffer = write out bytes (encoded_end n) }
  unfolding move ended room_for moved shapes
  close-held e =
      active-called close
      ∙ ap (moved F st out) (refuse-if-false _ _ _ (le-ltb (length out) (held_length w.held + 4) (omega (arith, w.sum))))
      ∙ ap₂ (λ (k b : ℕ). record { answer = Ok k; state = encoded_stage F (closed w.held); buffer = write out b (encoded_end k) }) w.count w.sum
      ∙ ap (λ (x : List ℕ). record { answer = Ok n; state = x; buffer = write out bytes (encoded_end n) })
      (sym (stage-closed F w.held) ∙ ap (λ (x : List ℕ). write x 0 (2 ∷ [])) (sym w.state))

-- the length that is assembled, by what a state says
pub assembled-standing : (F : Limits) (st : List ℕ) (h : Standing) → h ≡ standing_of (stage_of F st) → h.bytes + 4 ≡ assembled F st
unfolding assembled standing_of
assembled-standing F st h e = ap (λ (x : Standing). x.bytes + 4) e

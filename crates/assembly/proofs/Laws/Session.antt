-- Laws of one call, of any state and any lent buffer.
-- In order: a refused call changes nothing; the lent bytes don't count; which calls are accepted, and what they come to; begin and drop write
-- nothing; the shape of a rule's record, and of an added one; a call on a state gives back a state; a call on a stage's bytes.
-- Assumes nothing.
use Prim.Native.Nat.{ℕ, zero, suc, ◌+◌, ◌-◌, ◌≤◌, ◌<◌}
use Rattle.std.specs.Prelude.{Ok, Err}
use native.Mathlib.Omega.{arith}
use mathlib.Core.Path.{◌≡◌, refl, sym, ◌∙◌, ap, ap₂, subst}
use mathlib.Core.Bool.{Bool, true, not, true≢false}
use mathlib.Core.List.{List, [], ◌∷◌, ◌++◌}
use lib.Dec.{T, leb, eqb, leb→le, le→leb}
use lib.ListN.{length, take, length-append, length-map, length-take}
use lib.Seq.{get_or-take}
use borrow.Author.Tests.{eqb-false, eq-eqb, ltb-false, le-ltb}
use Rattle.buffer.specs.Bytes.{Bytes}
use Rattle.buffer.specs.Write.{write}
use Rattle.buffer.proofs.Laws.Write.{write-nil}
use Rattle.literal.specs.declared.Limits.{Limits}
use Rattle.literal.specs.declared.Literal.TheVariants.{Signed}
use Rattle.semantics.specs.Set.{each_of}
use Rattle.semantics.specs.Rule.{Rule, strict, defeasible, head, positive, naf}
use Rattle.semantics.specs.Form.{keeps_rule}
use Rattle.semantics.proofs.Laws.Tests.{both, first, second, all_append}
use Rattle.semantics.proofs.Laws.Form.{kept}
use Rattle.record.specs.declared.Reason.TheVariants.{OutOfTurn}
use Rattle.record.specs.declared.Refusal.{Refusal}
use Rattle.record.specs.Header.{defeasible_letter, letter_of, head_count, positive_count, naf_count}
use Rattle.record.specs.Refusal.{refusal}
use Rattle.record.specs.Result.{Answer, and_then, refuse_if}
use Rattle.record.specs.Layout.{rule_record, encoded_rule, encoded_end}
use Rattle.record.specs.Reading.{rule_only}
use Rattle.record.proofs.Laws.Result.{refused-accepted, accepted-eq, and-then-accepted, accepted-and-then, refuse-if-accepted, refuse-if-false}
use Rattle.record.proofs.Laws.Only.{Added, only-added, added-rule}
use Rattle.assembly.specs.State.{Stage, before, opened, closed, Shape, shape_of, shapes, held_length, keeps_shape, keeps_stage, state_bytes, encoded_stage, is_state, stage_of}
use Rattle.assembly.specs.Calls.{Call, begin, add, drop_last, close, Move, room_for, begun, added, dropped, ended, move, moved, called}
use Rattle.assembly.specs.History.{BytesIn}
use Rattle.assembly.specs.Code.{Assemblable}
use Rattle.assembly.proofs.Laws.Row.{keeps-shape}
use Rattle.assembly.proofs.Laws.State.{parts-state, stage-state, stage-said, length-stage, state-iff}

-- what a call comes to, lent so much room
abbrev pub outcome : Limits → Call → List ℕ → ℕ → Answer Move
outcome F c st room = refuse_if (not (eqb (length st) (state_bytes F))) (refusal OutOfTurn 0) (move F c (stage_of F st) room)

-- a refused call changes nothing
pub refused_same : (F : Limits) (c : Call) (st out : List ℕ) (x : Refusal) → (called F c st out).answer ≡ Err x
    → ((called F c st out).state ≡ st) × ((called F c st out).buffer ≡ out)
unfolding called moved
refused_same F c st out x e = go (outcome F c st (length out)) e
  where
    go : (r : Answer Move) → (moved F st out r).answer ≡ Err x → ((moved F st out r).state ≡ st) × ((moved F st out r).buffer ≡ out)
    go (Err y) e = (refl, refl)
    go (Ok m) e = let z : ◌≡◌ {A = ℕ} 0 1 = cc in absurd (omega (arith, z))

-- the answer and the state are the same in any buffer of that length
pub answer-blind : (F : Limits) (c : Call) (st out out' : List ℕ) → length out ≡ length out'
    → ((called F c st out).answer ≡ (called F c st out').answer) × ((called F c st out).state ≡ (called F c st out').state)
unfolding called moved
answer-blind F c st out out' e =
    let w = go (outcome F c st (length out')) in (
      ap (λ (room : ℕ). (moved F st out (outcome F c st room)).answer) e ∙ w.0,
      ap (λ (room : ℕ). (moved F st out (outcome F c st room)).state) e ∙ w.1,
    )
  where
    go : (r : Answer Move) → ((moved F st out r).answer ≡ (moved F st out' r).answer) × ((moved F st out r).state ≡ (moved F st out' r).state)
    go (Err y) = (refl, refl)
    go (Ok m) = (refl, refl)

-- what accepted calls come to, where rules of these shapes are held
abbrev pub begun_move : Move
begun_move = record { stage = opened []; at = 0; bytes = [] }

abbrev pub added_move : List ℕ → List Shape → ℕ → Move
added_move t ss size = record { stage = opened (ss ++ (shape_of t ∷ [])); at = held_length ss; bytes = take size t }

abbrev pub dropped_move : List Shape → Move
dropped_move ss = record { stage = opened (take (length ss - 1) ss); at = 0; bytes = [] }

abbrev pub ended_move : List Shape → Move
ended_move ss = record { stage = closed ss; at = held_length ss; bytes = encoded_end (length ss) }

-- what is then held has room
room-for : (room held : ℕ) (m : Move) → held + 4 ≤ room → room_for room held m ≡ Ok m
unfolding room_for
room-for room held m h = refuse-if-false _ _ _ (le-ltb room (held + 4) h)

-- a begin is accepted where an end record has room
pub begun-accepted : (room : ℕ) → 4 ≤ room → begun room ≡ Ok begun_move
unfolding begun
begun-accepted room h = room-for room 0 _ h

pub begun-move : (room : ℕ) (m : Move) → begun room ≡ Ok m → (4 ≤ room) × (begun_move ≡ m)
unfolding begun room_for
begun-move room m e = let q = refuse-if-accepted _ _ _ m e in (ltb-false room 4 q.0, accepted-eq q.1)

-- an add where its record is read, and has room
pub added-accepted : (F : Limits) (t : List ℕ) (ss : List Shape) (room size : ℕ) → rule_only F (length ss) t ≡ Ok size → held_length ss + size + 4 ≤ room
    → added F t ss room ≡ Ok (added_move t ss size)
unfolding added
added-accepted F t ss room size e h =
    ap (λ (r : Answer ℕ). and_then r (λ k. room_for room (held_length ss + k) (added_move t ss k))) e
    ∙ accepted-and-then size _ ∙ room-for room (held_length ss + size) _ h

pub record AddAccepted (F : Limits) (t : List ℕ) (ss : List Shape) (room : ℕ) (m : Move) : Type 0 where
  pub size : ℕ
  pub read : Added F (length ss) t size
  pub fits : held_length ss + size + 4 ≤ room
  pub same : added_move t ss size ≡ m

pub added-move : (F : Limits) (t : List ℕ) (ss : List Shape) (room : ℕ) (m : Move) → added F t ss room ≡ Ok m → AddAccepted F t ss room m
unfolding added room_for
added-move F t ss room m e =
    let q = and-then-accepted (rule_only F (length ss) t) _ m e in
    let r = refuse-if-accepted _ _ _ m q.2 in
    record {
      size = q.0;
      read = only-added F (length ss) t q.0 q.1;
      fits = ltb-false room (held_length ss + q.0 + 4) r.0;
      same = accepted-eq r.1;
    }

-- a drop where a rule is held
pub dropped-move : (ss : List Shape) (m : Move) → dropped ss ≡ Ok m → (0 < length ss) × (dropped_move ss ≡ m)
unfolding dropped
dropped-move ss m e =
    let q = refuse-if-accepted _ _ _ m e in
    let some = eqb-false (length ss) 0 q.0 in
    (go (length ss) some, accepted-eq q.1)
  where
    go : (n : ℕ) → (n ≡ 0 → ⊥) → 0 < n
    go zero f = absurd (f refl)
    go (suc n) f = omega arith

-- a close where an end record has room behind the rules
pub ended-accepted : (ss : List Shape) (room : ℕ) → held_length ss + 4 ≤ room → ended ss room ≡ Ok (ended_move ss)
unfolding ended
ended-accepted ss room h = room-for room (held_length ss) _ h

pub ended_move_lem : (ss : List Shape) (room : ℕ) (m : Move) → ended ss room ≡ Ok m → (held_length ss + 4 ≤ room) × (ended_move ss ≡ m)
unfolding ended room_for
ended_move_lem ss room m e = let q = refuse-if-accepted _ _ _ m e in (ltb-false room (held_length ss + 4) q.0, accepted-eq q.1)

-- begin and drop write nothing
silent : (F : Limits) (st out : List ℕ) (r : Answer Move) → ((m : Move) → r ≡ Ok m → m.bytes ≡ []) → (moved F st out r).buffer ≡ out
unfolding moved
silent F st out (Err x) h = refl
silent F st out (Ok m) h = ap (write out m.at) (h m refl) ∙ write-nil out m.at

pub begin-writes-none : (F : Limits) (st out : List ℕ) → (called F begin st out).buffer ≡ out
unfolding called move
begin-writes-none F st out =
    silent F st out (outcome F begin st (length out)) (λ m e. ap (λ (k : Move). k.bytes) (sym (begun-move _ m (refuse-if-accepted _ _ _ m e).1).1))

pub drop-writes-none : (F : Limits) (st out : List ℕ) → (called F drop_last st out).buffer ≡ out
unfolding called move
drop-writes-none F st out = silent F st out (outcome F drop_last st (length out)) (λ m e. go (stage_of F st) m (refuse-if-accepted _ _ _ m e).1)
  where
    go : (s : Stage) (m : Move) → move F drop_last s (length out) ≡ Ok m → m.bytes ≡ []
    go before m e = absurd (refused-accepted e)
    go (opened ss) m e = ap (λ (k : Move). k.bytes) (sym (dropped-move ss m e).1)
    go (closed ss) m e = absurd (refused-accepted e)

-- the shape of a rule's record
pub shape-heads : (r : Rule) → (shape_of (encoded_rule r)).heads ≡ length (head r)
unfolding shape_of encoded_rule rule_record head
shape-heads (strict h b c) = refl
shape-heads (defeasible t h b c) = refl

pub shape-body : (r : Rule) → (shape_of (encoded_rule r)).body ≡ length (positive r) + length (naf r)
unfolding shape_of encoded_rule rule_record positive naf
shape-body (strict h b c) = refl
shape-body (defeasible t h b c) = refl

-- that of a rule within the limits
some-heads : (F : Limits) (r : Rule) → T (keeps_rule F r) → (shape_of (encoded_rule r)).defeasible ≡ true → 1 ≤ (shape_of (encoded_rule r)).heads
unfolding shape_of encoded_rule rule_record
some-heads F (strict h b c) k e = absurd (true≢false (sym e))
some-heads F (defeasible t h b c) k e = omega (arith, length-map h Signed, (kept F (defeasible t h b c) k).tag.some)

pub kept-encoded : (F : Limits) (r : Rule) → T (keeps_rule F r) → T (keeps_shape F (shape_of (encoded_rule r)))
kept-encoded F r k =
    let w = kept F r k in
    keeps-shape F (shape_of (encoded_rule r))
    (record { heads = omega (arith, shape-heads r, w.heads); body = omega (arith, shape-body r, w.positives, w.nafs); some = some-heads F r k })

-- a shape is told by seven bytes
shape-take : (t : List ℕ) (size : ℕ) → 7 ≤ size → shape_of (take size t) ≡ shape_of t
unfolding shape_of
shape-take t size h =
    let u = take size t in
    ap₂ (λ (x y : ℕ). record { defeasible = eqb x defeasible_letter; heads = y; body = positive_count u + naf_count u })
    (get_or-take size t 0 0 (omega arith)) (get_or-take size t 4 0 (omega arith))
    ∙ ap₂ (λ (x y : ℕ). record { defeasible = eqb (letter_of t) defeasible_letter; heads = head_count t; body = x + y })
    (get_or-take size t 5 0 (omega arith)) (get_or-take size t 6 0 (omega arith))

-- of an accepted record: it is that of the rule's record, and within the limits
module _ (F : Limits) (n : ℕ) (t : List ℕ) (size : ℕ) (w : Added F n t size) where
  module _ (bytes : Bytes t) where
    pub shape-read : shape_of t ≡ shape_of (encoded_rule w.rule-of)
    shape-read = sym (shape-take t size (omega (arith, w.sized))) ∙ ap shape_of (added-rule F n t size bytes w).0

    pub kept-added : T (keeps_shape F (shape_of t))
    kept-added = subst (λ (s : Shape). T (keeps_shape F s)) (sym shape-read) (kept-encoded F w.rule-of (added-rule F n t size bytes w).1)

-- a stage within the limits, by its shapes
pub keeps-stage : (F : Limits) (s : Stage) → length (shapes s) ≤ F.rules → T (each_of (keeps_shape F) (shapes s)) → T (keeps_stage F s)
unfolding keeps_stage
keeps-stage F s few each = both (leb (length (shapes s)) F.rules) _ (le→leb (length (shapes s)) F.rules few) each

pub stage-few : (F : Limits) (s : Stage) → T (keeps_stage F s) → length (shapes s) ≤ F.rules
unfolding keeps_stage
stage-few F s k = leb→le (length (shapes s)) F.rules (first (leb (length (shapes s)) F.rules) (each_of (keeps_shape F) (shapes s)) k)

pub stage-each : (F : Limits) (s : Stage) → T (keeps_stage F s) → T (each_of (keeps_shape F) (shapes s))
unfolding keeps_stage
stage-each F s k = second (leb (length (shapes s)) F.rules) (each_of (keeps_shape F) (shapes s)) k

-- each of a list's first elements passes where each element does
pub take-each : {A : Type 0} (f : A → Bool) (n : ℕ) (xs : List A) → T (each_of f xs) → T (each_of f (take n xs))
take-each f zero xs k = tt
take-each f (suc n) [] k = tt
take-each f (suc n) (x ∷ xs) k = both (f x) (each_of f (take n xs)) (first (f x) (each_of f xs) k) (take-each f n xs (second (f x) (each_of f xs) k))

-- the stage behind an accepted call is within the limits where the one before it is
module _ (F : Limits) where
  begun_kept : T (keeps_stage F (opened []))
  unfolding shapes
  begun_kept = keeps-stage F (opened []) (omega arith) tt

  added-kept : (t : List ℕ) → Bytes t → (ss : List Shape) → T (keeps_stage F (opened ss)) → (room : ℕ) (m : Move) → AddAccepted F t ss room m
      → T (keeps_stage F (opened (ss ++ (shape_of t ∷ []))))
  unfolding shapes
  added-kept t bytes ss k room m w =
      keeps-stage F (opened (ss ++ (shape_of t ∷ []))) (omega (arith, length-append ss (shape_of t ∷ []), w.read.room))
      (subst T (sym (all_append (keeps_shape F) ss (shape_of t ∷ [])))
      (both (each_of (keeps_shape F) ss) _ (stage-each F (opened ss) k) (both (keeps_shape F (shape_of t)) true (kept-added F (length ss) t w.size w.read bytes) tt)))

  dropped-kept : (ss : List Shape) → T (keeps_stage F (opened ss)) → T (keeps_stage F (opened (take (length ss - 1) ss)))
  unfolding shapes
  dropped-kept ss k =
      let front = take (length ss - 1) ss in
      keeps-stage F (opened front) (omega (arith, length-take (length ss - 1) ss, stage-few F (opened ss) k))
      (take-each (keeps_shape F) (length ss - 1) ss (stage-each F (opened ss) k))

  closed-kept : (ss : List Shape) → T (keeps_stage F (opened ss)) → T (keeps_stage F (closed ss))
  unfolding shapes
  closed-kept ss k = keeps-stage F (closed ss) (stage-few F (opened ss) k) (stage-each F (opened ss) k)

  pub move-kept : (c : Call) → BytesIn c → (s : Stage) → T (keeps_stage F s) → (room : ℕ) (m : Move) → move F c s room ≡ Ok m → T (keeps_stage F m.stage)
  unfolding move
  move-kept begin h s k room m e = subst (λ (x : Move). T (keeps_stage F x.stage)) (begun-move room m e).1 begun_kept
  move-kept (add t) h before k room m e = absurd (refused-accepted e)
  move-kept (add t) h (opened ss) k room m e =
      let w = added-move F t ss room m e in subst (λ (x : Move). T (keeps_stage F x.stage)) w.same (added-kept t h ss k room m w)
  move-kept (add t) h (closed ss) k room m e = absurd (refused-accepted e)
  move-kept drop_last h before k room m e = absurd (refused-accepted e)
  move-kept drop_last h (opened ss) k room m e = subst (λ (x : Move). T (keeps_stage F x.stage)) (dropped-move ss m e).1 (dropped-kept ss k)
  move-kept drop_last h (closed ss) k room m e = absurd (refused-accepted e)
  move-kept close h before k room m e = absurd (refused-accepted e)
  move-kept close h (opened ss) k room m e = subst (λ (x : Move). T (keeps_stage F x.stage)) (ended_move_lem ss room m e).1 (closed-kept ss k)
  move-kept close h (closed ss) k room m e = absurd (refused-accepted e)

-- these are a stage's bytes
abbrev pub OfStage : Limits → List ℕ → Type 0
OfStage F st = (s : Stage) × T (keeps_stage F s) × (st ≡ encoded_stage F s)

module _ (F : Limits) (ok : Assemblable F) where
  -- a call on a stage's bytes gives back a stage's bytes
  moved-stage : (st out : List ℕ) (r : Answer Move) → OfStage F st → ((m : Move) → r ≡ Ok m → T (keeps_stage F m.stage))
      → OfStage F (moved F st out r).state
  unfolding moved
  moved-stage st out (Err x) w h = w
  moved-stage st out (Ok m) w h = (m.stage, h m refl, refl)

  pub stays-stage : (c : Call) → BytesIn c → (st out : List ℕ) → OfStage F st → OfStage F (called F c st out).state
  unfolding called
  stays-stage c h st out w =
      moved-stage st out (outcome F c st (length out)) w
      (λ m e. move-kept F c h (stage_of F st) (subst (λ (s : Stage). T (keeps_stage F s)) (sym says) w.1) (length out) m (refuse-if-accepted _ _ _ m e).1)
    where
      says : stage_of F st ≡ w.0
      says = ap (stage_of F) w.2 ∙ stage-said F ok w.0 w.1

  -- a stage's bytes are a state
  pub of-stage : (st : List ℕ) → OfStage F st → T (is_state F st)
  of-stage st w = subst (λ (bs : List ℕ). T (is_state F bs)) (sym w.2) (parts-state F (encoded_stage F w.0) (stage-state F ok w.0 w.1))

  -- a call on a state gives back a state
  pub stays-state : (c : Call) → BytesIn c → (st out : List ℕ) → Bytes st → T (is_state F st) → T (is_state F (called F c st out).state)
  stays-state c h st out bytes k = of-stage (called F c st out).state (stays-stage c h st out ((state-iff F ok st bytes).0 k))

  -- and an accepted begin does on any bytes
  pub begun-state : (st out : List ℕ) → (called F begin st out).answer ≡ Ok 0 → T (is_state F (called F begin st out).state)
  unfolding called moved move
  begun-state st out e = go (outcome F begin st (length out)) refl e
    where
      go : (r : Answer Move) → outcome F begin st (length out) ≡ r → (moved F st out r).answer ≡ Ok 0 → T (is_state F (moved F st out r).state)
      go (Err x) q e = let z : ◌≡◌ {A = ℕ} 0 1 = cc in absurd (omega (arith, z))
      go (Ok m) q e =
          let w = begun-move (length out) m (refuse-if-accepted _ _ _ m q).1 in
          of-stage (encoded_stage F m.stage) (m.stage, subst (λ (x : Move). T (keeps_stage F x.stage)) w.1 (begun_kept F), refl)

  -- what a call on a stage's bytes comes to, and one that is accepted there
  module _ (s : Stage) (k : T (keeps_stage F s)) (c : Call) (st out : List ℕ) (e : st ≡ encoded_stage F s) where
    pub called-stage : called F c st out ≡ moved F st out (move F c s (length out))
    unfolding called
    called-stage =
        ap (moved F st out)
        (refuse-if-false _ _ _ (ap not (eq-eqb (length st) (state_bytes F) (ap length e ∙ length-stage F ok s k)))
        ∙ ap (λ (x : Stage). move F c x (length out)) (ap (stage_of F) e ∙ stage-said F ok s k))

    pub called-accepted : (m : Move) → move F c s (length out) ≡ Ok m → called F c st out ≡ moved F st out (Ok m)
    called-accepted m q = called-stage ∙ ap (moved F st out) q

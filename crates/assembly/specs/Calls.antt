-- The calls of an assembly (02, Ask 4): what each answers, and what state and buffer are then.
-- In order: calls; what an accepted call comes to; each call on a stage; a call on a state's bytes and a lent buffer; the length that is
-- assembled; what a call promises of its answer, of the state and of the lent buffer.
-- A call sees the lent buffer's length alone, never its bytes.
-- Assumes nothing.
use Rattle.std.specs.Prelude.{ℕ, ◌+◌, ◌-◌, ◌≡◌, not, List, [], ◌∷◌, ◌++◌, ltb, eqb, length, take, Ok, Err}
use Rattle.buffer.specs.Write.{write}
use Rattle.literal.specs.declared.Limits.{Limits}
use Rattle.record.specs.declared.Reason.TheVariants.{OutputShort, OutOfTurn}
use Rattle.record.specs.Refusal.{refusal}
use Rattle.record.specs.Result.{Answer, and_then, refuse_if}
use Rattle.record.specs.Layout.{encoded_end}
use Rattle.record.specs.Reading.{rule_only}
use Rattle.assembly.specs.State.{Stage, before, opened, closed, Shape, shape_of, shapes, held_length, state_bytes, encoded_stage, stage_of}

-- add has the slice of its record
pub data Call : Type 0 where
  begin : Call
  add : List ℕ → Call
  drop_last : Call
  close : Call

-- what an accepted call comes to: the stage then, and the bytes that it writes from a place of the buffer on
pub record Move : Type 0 where
  pub stage : Stage
  pub at : ℕ
  pub bytes : List ℕ

-- 15: the stage takes no such call
abbrev out_of_turn : Answer Move
out_of_turn = Err (refusal OutOfTurn 0)

-- 9 if what is then held, and an end record, has no room
unfoldable pub room_for : ℕ → ℕ → Move → Answer Move
room_for room held m = refuse_if (ltb room (held + 4)) (refusal OutputShort 0) (Ok m)

-- begin: no rule is held. It writes nothing
unfoldable pub begun : ℕ → Answer Move
begun room = room_for room 0 (record { stage = opened []; at = 0; bytes = [] })

-- add, where rules of these shapes are held: what reading refuses of the record; then 9. The record is written behind those that are held
unfoldable pub added : Limits → List ℕ → List Shape → ℕ → Answer Move
added F t ss room =
    and_then (rule_only F (length ss) t) (λ size.
    room_for room (held_length ss + size) (record { stage = opened (ss ++ (shape_of t ∷ [])); at = held_length ss; bytes = take size t }))

-- drop: 15 where no rule is held. It writes nothing
unfoldable pub dropped : List Shape → Answer Move
dropped ss =
    refuse_if (eqb (length ss) 0) (refusal OutOfTurn 0) (Ok (record { stage = opened (take (length ss - 1) ss); at = 0; bytes = [] }))

-- close: the end record is written behind the rules
unfoldable pub ended : List Shape → ℕ → Answer Move
ended ss room = room_for room (held_length ss) (record { stage = closed ss; at = held_length ss; bytes = encoded_end (length ss) })

-- a call at a stage, lent so much room
unfoldable pub move : Limits → Call → Stage → ℕ → Answer Move
move F begin s room = begun room
move F (add t) before room = out_of_turn
move F (add t) (opened ss) room = added F t ss room
move F (add t) (closed ss) room = out_of_turn
move F drop_last before room = out_of_turn
move F drop_last (opened ss) room = dropped ss
move F drop_last (closed ss) room = out_of_turn
move F close before room = out_of_turn
move F close (opened ss) room = ended ss room
move F close (closed ss) room = out_of_turn

-- what a call answers, and the state's bytes and the lent buffer then
pub record Called : Type 0 where
  pub answer : Answer ℕ
  pub state : List ℕ
  pub buffer : List ℕ

-- an accepted call answers how many rules are then held; a refused one changes nothing
unfoldable pub moved : Limits → List ℕ → List ℕ → Answer Move → Called
moved F state out (Err x) = record { answer = Err x; state = state; buffer = out }
moved F state out (Ok m) =
    record { answer = Ok (length (shapes m.stage)); state = encoded_stage F m.stage; buffer = write out m.at m.bytes }

-- a call: 15 for a slice of another length than a state's, before all else
unfoldable pub called : Limits → Call → List ℕ → List ℕ → Called
called F c state out =
    moved F state out (refuse_if (not (eqb (length state) (state_bytes F))) (refusal OutOfTurn 0) (move F c (stage_of F state) (length out)))

-- the bytes of the rules held and an end record
unfoldable pub assembled : Limits → List ℕ → ℕ
assembled F state = held_length (shapes (stage_of F state)) + 4

-- the answer r and the state, as it is at the end, are those of the call; begin and drop are lent nothing that they could write
pub record Keeps (o : Called) (r : Answer ℕ) (st : List ℕ) : Type 0 where
  pub answer : r ≡ o.answer
  pub state : st ≡ o.state

-- and so is the lent buffer
pub record Meets (o : Called) (r : Answer ℕ) (st out : List ℕ) : Type 0 where
  pub answer : r ≡ o.answer
  pub state : st ≡ o.state
  pub buffer : out ≡ o.buffer

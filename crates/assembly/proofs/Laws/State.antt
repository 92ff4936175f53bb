-- Laws of a state's bytes: which bytes are a state, and that a stage and its bytes say the same.
-- In order: the parts of the header's tests, and of all; the bytes of a state are those of its stage; those of a stage are a state that says
-- it; the two as one law; bytes of another length; one rule more, one less, and the end.
-- Assumes nothing.
use Prim.Native.Nat.{ℕ, zero, suc, ◌+◌, ◌-◌, ◌≤◌}
use native.Mathlib.Omega.{arith}
use mathlib.Core.Path.{◌≡◌, refl, sym, ◌∙◌, ap, ap₂, subst}
use mathlib.Core.Logic.{◌↔◌}
use mathlib.Core.Bool.{Bool, true, false, cond, ◌&&◌}
use mathlib.Core.List.{List, [], ◌∷◌, ◌++◌, map, append_assoc, append-nil}
use lib.Dec.{T, leb, eqb, eqb→eq, leb→le, le→leb}
use lib.ListN.{length, get_or, take, drop, replicate, length-append, length-map, length-drop, take-append-drop}
use lib.Seq.{take_all, drop-drop, drop_at}
use borrow.Author.Tests.{eqb-true, eqb-false, eq-eqb}
use Rattle.buffer.specs.Bytes.{Bytes, two_bytes, number_at}
use Rattle.buffer.proofs.Laws.Bytes.{two_bytes-number, number-two_bytes}
use Rattle.literal.specs.declared.Limits.{Limits}
use Rattle.semantics.specs.Set.{each_of}
use Rattle.semantics.proofs.Laws.Tests.{both, first, second, is_true, along}
use Rattle.assembly.specs.State.{Stage, before, opened, closed, Shape, shapes, keeps_shape, keeps_stage, state_bytes, stage_byte, state_header, heads_byte, body_byte, row, encoded_stage, shapes_at, clear_at, count_at, count_right, is_headed, held_shapes, is_state, stage_with, stage_of}
use Rattle.assembly.specs.Code.{Assemblable}
use Rattle.assembly.proofs.Laws.Row.{heads-cells, body-cells, length-shapes, shapes-said, zeros-clear, row-cells, length-row}

-- a test of two equal numbers passes
equal : (a b : ℕ) → a ≡ b → T (eqb a b)
equal a b e = along (sym (eq-eqb a b e)) tt

-- the parts of the header's tests
pub record Headed (F : Limits) (bs : List ℕ) : Type 0 where
  pub long : length bs ≡ state_bytes F
  pub stage : get_or bs 0 0 ≤ 2
  pub free-1 : get_or bs 1 0 ≡ 0
  pub free-4 : number_at bs 4 ≡ 0
  pub free-6 : number_at bs 6 ≡ 0
  pub count : count_at bs ≤ F.rules
  pub none : get_or bs 0 0 ≡ 0 → count_at bs ≡ 0

count-right : (F : Limits) (bs : List ℕ) → T (count_right F bs) → (count_at bs ≤ F.rules) × (get_or bs 0 0 ≡ 0 → count_at bs ≡ 0)
unfolding count_right
count-right F bs k = go (eqb (get_or bs 0 0) 0) refl k
  where
    go : (b : Bool) → eqb (get_or bs 0 0) 0 ≡ b → T (cond b (eqb (count_at bs) 0) (leb (count_at bs) F.rules))
        → (count_at bs ≤ F.rules) × (get_or bs 0 0 ≡ 0 → count_at bs ≡ 0)
    go true e t = let z = eqb→eq (count_at bs) 0 t in (omega (arith, z), λ w. z)
    go false e t = (leb→le (count_at bs) F.rules t, λ w. absurd (eqb-false (get_or bs 0 0) 0 e w))

right-count : (F : Limits) (bs : List ℕ) → count_at bs ≤ F.rules → (get_or bs 0 0 ≡ 0 → count_at bs ≡ 0) → T (count_right F bs)
unfolding count_right
right-count F bs few none = go (eqb (get_or bs 0 0) 0) refl
  where
    go : (b : Bool) → eqb (get_or bs 0 0) 0 ≡ b → T (cond b (eqb (count_at bs) 0) (leb (count_at bs) F.rules))
    go true e = equal (count_at bs) 0 (none (eqb-true (get_or bs 0 0) 0 e))
    go false e = le→leb (count_at bs) F.rules few

pub headed-parts : (F : Limits) (bs : List ℕ) → T (is_headed F bs) → Headed F bs
unfolding is_headed
headed-parts F bs k =
    let a = eqb (length bs) (state_bytes F) in
    let b = leb (get_or bs 0 0) 2 in
    let c = eqb (get_or bs 1 0) 0 in
    let d = eqb (number_at bs 4) 0 in
    let e = eqb (number_at bs 6) 0 in
    let r = count_right F bs in
    let k1 = second a (b && (c && (d && (e && r)))) k in
    let k2 = second b (c && (d && (e && r))) k1 in
    let k3 = second c (d && (e && r)) k2 in
    let k4 = second d (e && r) k3 in
    let counts = count-right F bs (second e r k4) in
    record {
      long = eqb→eq (length bs) (state_bytes F) (first a (b && (c && (d && (e && r)))) k);
      stage = leb→le (get_or bs 0 0) 2 (first b (c && (d && (e && r))) k1);
      free-1 = eqb→eq (get_or bs 1 0) 0 (first c (d && (e && r)) k2);
      free-4 = eqb→eq (number_at bs 4) 0 (first d (e && r) k3);
      free-6 = eqb→eq (number_at bs 6) 0 (first e r k4);
      count = counts.0;
      none = counts.1;
    }

pub parts-headed : (F : Limits) (bs : List ℕ) → Headed F bs → T (is_headed F bs)
unfolding is_headed
parts-headed F bs w =
    let b = leb (get_or bs 0 0) 2 in
    let c = eqb (get_or bs 1 0) 0 in
    let d = eqb (number_at bs 4) 0 in
    let e = eqb (number_at bs 6) 0 in
    let r = count_right F bs in
    both (eqb (length bs) (state_bytes F)) (b && (c && (d && (e && r)))) (equal (length bs) (state_bytes F) w.long)
    (both b (c && (d && (e && r))) (le→leb (get_or bs 0 0) 2 w.stage)
    (both c (d && (e && r)) (equal (get_or bs 1 0) 0 w.free-1)
    (both d (e && r) (equal (number_at bs 4) 0 w.free-4) (both e r (equal (number_at bs 6) 0 w.free-6) (right-count F bs w.count w.none)))))

-- and of all tests
pub record IsState (F : Limits) (bs : List ℕ) : Type 0 where
  pub headed : Headed F bs
  pub each : T (each_of (keeps_shape F) (held_shapes F bs))
  pub heads-clear : T (clear_at bs (8 + count_at bs) (F.rules - count_at bs))
  pub body-clear : T (clear_at bs (8 + F.rules + count_at bs) (F.rules - count_at bs))

pub state-parts : (F : Limits) (bs : List ℕ) → T (is_state F bs) → IsState F bs
unfolding is_state
state-parts F bs k =
    let a = is_headed F bs in
    let b = each_of (keeps_shape F) (held_shapes F bs) in
    let c = clear_at bs (8 + count_at bs) (F.rules - count_at bs) in
    let d = clear_at bs (8 + F.rules + count_at bs) (F.rules - count_at bs) in
    let k1 = second a (b && (c && d)) k in
    let k2 = second b (c && d) k1 in
    record { headed = headed-parts F bs (first a (b && (c && d)) k); each = first b (c && d) k1; heads-clear = first c d k2; body-clear = second c d k2 }

pub parts-state : (F : Limits) (bs : List ℕ) → IsState F bs → T (is_state F bs)
unfolding is_state
parts-state F bs w =
    let b = each_of (keeps_shape F) (held_shapes F bs) in
    let c = clear_at bs (8 + count_at bs) (F.rules - count_at bs) in
    let d = clear_at bs (8 + F.rules + count_at bs) (F.rules - count_at bs) in
    both (is_headed F bs) (b && (c && d)) (parts-headed F bs w.headed) (both b (c && d) w.each (both c d w.heads-clear w.body-clear))

-- a list's first eight elements
first-eight : (bs : List ℕ) → 8 ≤ length bs
    → take 8 bs ≡ get_or bs 0 0 ∷ get_or bs 1 0 ∷ get_or bs 2 0 ∷ get_or bs 3 0 ∷ get_or bs 4 0 ∷ get_or bs 5 0 ∷ get_or bs 6 0 ∷ get_or bs 7 0 ∷ []
first-eight [] h = absurd (omega arith)
first-eight (a ∷ []) h = absurd (omega arith)
first-eight (a ∷ b ∷ []) h = absurd (omega arith)
first-eight (a ∷ b ∷ c ∷ []) h = absurd (omega arith)
first-eight (a ∷ b ∷ c ∷ d ∷ []) h = absurd (omega arith)
first-eight (a ∷ b ∷ c ∷ d ∷ e ∷ []) h = absurd (omega arith)
first-eight (a ∷ b ∷ c ∷ d ∷ e ∷ f ∷ []) h = absurd (omega arith)
first-eight (a ∷ b ∷ c ∷ d ∷ e ∷ f ∷ g ∷ []) h = absurd (omega arith)
first-eight (a ∷ b ∷ c ∷ d ∷ e ∷ f ∷ g ∷ i ∷ bs) h = refl

-- the stage that a state says
abbrev pub said : Limits → List ℕ → Stage
said F bs = stage_with (get_or bs 0 0) (held_shapes F bs)

module _ (F : Limits) (bs : List ℕ) (bytes : Bytes bs) (w : IsState F bs) where
  header_is : take 8 bs ≡ state_header (get_or bs 0 0) (count_at bs)
  header_is =
      let v = w.headed in
      first-eight bs (omega (arith, v.long))
      ∙ ap₂ (λ (x : ℕ) (xs : List ℕ). get_or bs 0 0 ∷ x ∷ (xs ++ (get_or bs 4 0 ∷ get_or bs 5 0 ∷ get_or bs 6 0 ∷ get_or bs 7 0 ∷ []))) v.free-1
      (sym (two_bytes-number (get_or bs 2 0) (get_or bs 3 0) (bytes 3)))
      ∙ ap₂ (λ (x y : ℕ). get_or bs 0 0 ∷ 0 ∷ (two_bytes (count_at bs) ++ (x ∷ y ∷ get_or bs 6 0 ∷ get_or bs 7 0 ∷ []))) (omega (arith, v.free-4)) (omega (arith, v.free-4))
      ∙ ap₂ (λ (x y : ℕ). get_or bs 0 0 ∷ 0 ∷ (two_bytes (count_at bs) ++ (0 ∷ 0 ∷ x ∷ y ∷ []))) (omega (arith, v.free-6)) (omega (arith, v.free-6))

  rows_are : drop 8 bs ≡ row F (map heads_byte (held_shapes F bs)) ++ row F (map body_byte (held_shapes F bs))
  rows_are =
      let n = count_at bs in
      let v = w.headed in
      sym (take-append-drop F.rules (drop 8 bs))
      ∙ ap₂ (λ (xs ys : List ℕ). xs ++ ys)
      (row-cells F bs 8 n v.count (omega (arith, v.long)) w.heads-clear ∙ ap (row F) (sym (heads-cells bs bytes n 8 (8 + F.rules))))
      (drop-drop F.rules 8 bs
      ∙ sym (take_all F.rules (drop (8 + F.rules) bs) (omega (arith, length-drop (8 + F.rules) bs, v.long)))
      ∙ row-cells F bs (8 + F.rules) n v.count (omega (arith, v.long)) w.body-clear ∙ ap (row F) (sym (body-cells bs n 8 (8 + F.rules))))

  -- a state's bytes, by its first byte and the shapes
  bytes-are : bs ≡ state_header (get_or bs 0 0) (length (held_shapes F bs)) ++ (row F (map heads_byte (held_shapes F bs)) ++ row F (map body_byte (held_shapes F bs)))
  bytes-are =
      sym (take-append-drop 8 bs)
      ∙ ap₂ (λ (xs ys : List ℕ). xs ++ ys)
      (header_is ∙ ap (state_header (get_or bs 0 0)) (sym (length-shapes bs (count_at bs) 8 (8 + F.rules)))) rows_are

  -- they are those of the stage that it says, which is within the limits
  pub state-bytes : bs ≡ encoded_stage F (said F bs)
  unfolding encoded_stage stage_byte shapes stage_with shapes_at
  state-bytes =
      bytes-are
      ∙ go (get_or bs 0 0) (held_shapes F bs) w.headed.stage
      (λ e. ap (λ (n : ℕ). shapes_at bs 8 (8 + F.rules) n) (w.headed.none e))
    where
      go : (k : ℕ) (ss : List Shape) → k ≤ 2 → (k ≡ 0 → ss ≡ [])
          → state_header k (length ss) ++ (row F (map heads_byte ss) ++ row F (map body_byte ss)) ≡ encoded_stage F (stage_with k ss)
      go zero ss h f = ap (λ (x : List Shape). state_header 0 (length x) ++ (row F (map heads_byte x) ++ row F (map body_byte x))) (f refl)
      go (suc zero) ss h f = refl
      go (suc (suc zero)) ss h f = refl
      go (suc (suc (suc k))) ss h f = absurd (omega arith)

  pub state-kept : T (keeps_stage F (said F bs))
  unfolding keeps_stage shapes stage_with
  state-kept = go (get_or bs 0 0)
    where
      kept : T (leb (length (held_shapes F bs)) F.rules && each_of (keeps_shape F) (held_shapes F bs))
      kept =
          both (leb (length (held_shapes F bs)) F.rules) _
          (le→leb (length (held_shapes F bs)) F.rules (omega (arith, length-shapes bs (count_at bs) 8 (8 + F.rules), w.headed.count))) w.each

      go : (k : ℕ) → T (keeps_stage F (stage_with k (held_shapes F bs)))
      go zero = both (leb 0 F.rules) true (le→leb 0 F.rules (omega arith)) tt
      go (suc zero) = kept
      go (suc (suc k)) = kept

-- the first byte of a stage
stage-byte : (s : Stage) → stage_byte s ≤ 2
unfolding stage_byte
stage-byte before = omega arith
stage-byte (opened ss) = omega arith
stage-byte (closed ss) = omega arith

none-held : (s : Stage) → stage_byte s ≡ 0 → length (shapes s) ≡ 0
unfolding stage_byte shapes
none-held before e = refl
none-held (opened ss) e = absurd (omega arith)
none-held (closed ss) e = absurd (omega arith)

stage-with : (s : Stage) → stage_with (stage_byte s) (shapes s) ≡ s
unfolding stage_byte shapes stage_with
stage-with before = refl
stage-with (opened ss) = refl
stage-with (closed ss) = refl

-- the bytes of a stage within the limits are a state, and say it
module _ (F : Limits) (ok : Assemblable F) (s : Stage) (k : T (keeps_stage F s)) where
  few : length (shapes s) ≤ F.rules
  unfolding keeps_stage
  few = leb→le (length (shapes s)) F.rules (first (leb (length (shapes s)) F.rules) (each_of (keeps_shape F) (shapes s)) k)

  each-kept : T (each_of (keeps_shape F) (shapes s))
  unfolding keeps_stage
  each-kept = second (leb (length (shapes s)) F.rules) (each_of (keeps_shape F) (shapes s)) k

  bytes : List ℕ
  bytes = encoded_stage F s

  heads-row : List ℕ
  heads-row = row F (map heads_byte (shapes s))

  body-row : List ℕ
  body-row = row F (map body_byte (shapes s))

  zeros : List ℕ
  zeros = replicate (F.rules - length (shapes s)) 0

  heads-long : length heads-row ≡ F.rules
  unfolding heads-row
  heads-long = length-row F (map heads_byte (shapes s)) (omega (arith, few, length-map (shapes s) heads_byte))

  body-long : length body-row ≡ F.rules
  unfolding body-row
  body-long = length-row F (map body_byte (shapes s)) (omega (arith, few, length-map (shapes s) body_byte))

  -- what stands from the places on that are looked at
  at-heads : drop 8 bytes ≡ map heads_byte (shapes s) ++ (zeros ++ body-row)
  unfolding bytes heads-row body-row zeros encoded_stage row
  at-heads =
      ap (λ (n : ℕ). map heads_byte (shapes s) ++ replicate (F.rules - n) 0 ++ row F (map body_byte (shapes s))) (length-map (shapes s) heads_byte)
      ∙ append_assoc (map heads_byte (shapes s)) (replicate (F.rules - length (shapes s)) 0) (row F (map body_byte (shapes s)))

  at-body-row : drop (8 + F.rules) bytes ≡ body-row
  unfolding bytes heads-row body-row encoded_stage
  at-body-row = sym (drop-drop F.rules 8 bytes) ∙ drop_at heads-row body-row F.rules heads-long

  body-zeros : body-row ≡ map body_byte (shapes s) ++ zeros
  unfolding body-row zeros row
  body-zeros = ap (λ (n : ℕ). map body_byte (shapes s) ++ replicate (F.rules - n) 0) (length-map (shapes s) body_byte)

  at-heads-zeros : drop (8 + length (shapes s)) bytes ≡ zeros ++ body-row
  at-heads-zeros =
      sym (drop-drop (length (shapes s)) 8 bytes) ∙ ap (drop (length (shapes s))) at-heads
      ∙ drop_at (map heads_byte (shapes s)) (zeros ++ body-row) (length (shapes s)) (length-map (shapes s) heads_byte)

  at-body-zeros : drop (8 + F.rules + length (shapes s)) bytes ≡ zeros ++ []
  at-body-zeros =
      sym (drop-drop (length (shapes s)) (8 + F.rules) bytes) ∙ ap (drop (length (shapes s))) (at-body-row ∙ body-zeros)
      ∙ drop_at (map body_byte (shapes s)) zeros (length (shapes s)) (length-map (shapes s) body_byte) ∙ sym (append-nil zeros)

  count-is : count_at bytes ≡ length (shapes s)
  unfolding bytes encoded_stage
  count-is = number-two_bytes (length (shapes s))

  shapes-are : held_shapes F bytes ≡ shapes s
  shapes-are =
      ap (shapes_at bytes 8 (8 + F.rules)) count-is
      ∙ shapes-said F ok.heads (shapes s) each-kept bytes 8 (8 + F.rules) (zeros ++ body-row) zeros at-heads (at-body-row ∙ body-zeros)

  stage-headed : Headed F bytes
  unfolding bytes encoded_stage heads-row body-row
  stage-headed =
      record {
        long = omega (arith, length-append (row F (map heads_byte (shapes s))) (row F (map body_byte (shapes s))), heads-long, body-long);
        stage = stage-byte s;
        free-1 = refl;
        free-4 = refl;
        free-6 = refl;
        count = omega (arith, count-is, few);
        none = λ e. count-is ∙ none-held s e;
      }

  pub stage-state : IsState F (encoded_stage F s)
  unfolding bytes zeros
  stage-state =
      record {
        headed = stage-headed;
        each = subst (λ (ss : List Shape). T (each_of (keeps_shape F) ss)) (sym shapes-are) each-kept;
        heads-clear =
            subst (λ (n : ℕ). T (clear_at bytes (8 + n) (F.rules - n))) (sym count-is)
            (zeros-clear bytes (F.rules - length (shapes s)) (8 + length (shapes s)) body-row at-heads-zeros);
        body-clear =
            subst (λ (n : ℕ). T (clear_at bytes (8 + F.rules + n) (F.rules - n))) (sym count-is)
            (zeros-clear bytes (F.rules - length (shapes s)) (8 + F.rules + length (shapes s)) [] at-body-zeros);
      }

  pub stage-said : stage_of F (encoded_stage F s) ≡ s
  unfolding stage_of bytes encoded_stage
  stage-said =
      ap (λ (b : Bool). cond b (said F (encoded_stage F s)) before) (is_true (is_state F (encoded_stage F s)) (parts-state F (encoded_stage F s) stage-state))
      ∙ ap (stage_with (stage_byte s)) shapes-are ∙ stage-with s

  pub length-stage : length (encoded_stage F s) ≡ state_bytes F
  length-stage = stage-state.headed.long

-- the stage that bytes say
pub stage-of : (F : Limits) (bs : List ℕ) → T (is_state F bs) → stage_of F bs ≡ said F bs
unfolding stage_of
stage-of F bs k = ap (λ (b : Bool). cond b (said F bs) before) (is_true (is_state F bs) k)

pub stage-none : (F : Limits) (bs : List ℕ) → is_state F bs ≡ false → stage_of F bs ≡ before
unfolding stage_of
stage-none F bs e = ap (λ (b : Bool). cond b (said F bs) before) e

-- which bytes are a state: those of the stages within the limits
pub state-iff : (F : Limits) → Assemblable F → (bs : List ℕ) → Bytes bs → T (is_state F bs) ↔ ((s : Stage) × T (keeps_stage F s) × (bs ≡ encoded_stage F s))
state-iff F ok bs held = (
  (λ k. let w = state-parts F bs k in (said F bs, state-kept F bs held w, state-bytes F bs held w)),
  (λ w. subst (λ (cs : List ℕ). T (is_state F cs)) (sym w.2) (parts-state F (encoded_stage F w.0) (stage-state F ok w.0 w.1))),
)

-- an open assembly, and a closed one, were said by a state: its bytes are those of the stage
pub stage-open : (F : Limits) (bs : List ℕ) (ss : List Shape) → Bytes bs → stage_of F bs ≡ opened ss → (bs ≡ encoded_stage F (opened ss)) × T (keeps_stage F (opened ss))
stage-open F bs ss held e = go (is_state F bs) refl
  where
    go : (b : Bool) → is_state F bs ≡ b → (bs ≡ encoded_stage F (opened ss)) × T (keeps_stage F (opened ss))
    go true q =
        let k = along (sym q) tt in
        let w = state-parts F bs k in
        let same = sym (stage-of F bs k) ∙ e in
        (state-bytes F bs held w ∙ ap (encoded_stage F) same, subst (λ (s : Stage). T (keeps_stage F s)) same (state-kept F bs held w))
    go false q = let differ : before ≡ opened ss = sym (stage-none F bs q) ∙ e in let z : ◌≡◌ {A = ℕ} 0 1 = cc in absurd (omega (arith, z))

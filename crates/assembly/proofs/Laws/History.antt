-- The promise of an assembly over any list of calls (02, Ask 4): what was added and not dropped is what a closed buffer holds.
-- In order: the shapes of a program's records; bytes behind bytes; a state and a buffer that hold rules; each accepted call; one call, and a
-- list of calls; how long the rules held are; what is said of them; the promise.
-- Assumes nothing.
use Prim.Native.Nat.{ℕ, zero, suc, ◌+◌, ◌-◌, ◌*◌, ◌≤◌, ◌<◌}
use Rattle.std.specs.Prelude.{Ok, Err}
use native.Mathlib.Omega.{arith}
use native.Mathlib.Nat.{mul-le-mul_right}
use mathlib.Core.Path.{◌≡◌, refl, sym, ◌∙◌, ap, ap₂, subst}
use mathlib.Core.Logic.{◌⊎◌, inl, inr}
use mathlib.Core.Bool.{true}
use mathlib.Core.List.{List, [], ◌∷◌, ◌++◌, map, append_assoc, append-nil, map-append}
use lib.Dec.{T}
use lib.ListN.{length, take, length-append, length-map, length-take}
use lib.Seq.{length-take-le, take-take, take-append_seam}
use Rattle.buffer.specs.Bytes.{Bytes}
use Rattle.buffer.specs.Write.{write}
use Rattle.buffer.proofs.Laws.Write.{write-nil, take-write, length-write}
use Rattle.literal.specs.declared.Limits.{Limits}
use Rattle.literal.specs.declared.Literal.TheVariants.{Signed}
use Rattle.semantics.specs.Set.{each_of}
use Rattle.semantics.specs.Rule.{Rule, strict, defeasible, Program, head, positive, naf}
use Rattle.semantics.specs.Item.{rule}
use Rattle.semantics.specs.Translation.{record_length}
use Rattle.semantics.specs.Form.{keeps_rule}
use Rattle.semantics.proofs.Laws.Tests.{both, first, second, all_append}
use Rattle.semantics.proofs.Laws.Form.{kept}
use Rattle.record.specs.declared.Refusal.{Refusal}
use Rattle.record.specs.Result.{Answer}
use Rattle.record.specs.Layout.{encoded_rule, encoded_rules, encoded_end, encoded_program, keeps}
use Rattle.record.specs.Reading.{rules_held, record_at, items}
use Rattle.record.proofs.Laws.Result.{refused-accepted, refuse-if-accepted}
use Rattle.record.proofs.Laws.Layout.{length-encoded-rule, encoded-rules-append, length-end, length-program}
use Rattle.record.proofs.Laws.Only.{Added, added-rule}
use Rattle.record.proofs.Laws.Keeps.{keeps-program}
use Rattle.record.proofs.Laws.Unsheeted.{file-bytes, program-file}
use Rattle.record.proofs.Laws.Reading.{items-written}
use Rattle.assembly.specs.State.{opened, closed, Shape, shape_of, shapes, shape_length, held_length, keeps_shape, keeps_stage, encoded_stage, stage_of}
use Rattle.assembly.specs.Calls.{Call, begin, add, drop_last, close, Move, begun, move, Called, moved, called, assembled}
use Rattle.assembly.specs.History.{Session, called_in, after, run, rule_read, listed, rules_after, BytesIn, AllBytes}
use Rattle.assembly.specs.Code.{Assemblable}
use Rattle.assembly.proofs.Laws.State.{stage-said}
use Rattle.assembly.proofs.Laws.Session.{outcome, dropped_move, ended_move, begun-move, AddAccepted, added-move, dropped-move, ended-accepted, ended_move_lem, shape-heads, shape-body, kept-encoded, shape-read, keeps-stage, take-each, called-stage, called-accepted}

-- the shapes of a program's records
abbrev pub shapes_of : Program → List Shape
shapes_of p = map (λ (r : Rule). shape_of (encoded_rule r)) p

-- they tell how long the records are
pub shape-length : (r : Rule) → shape_length (shape_of (encoded_rule r)) ≡ length (encoded_rule r)
unfolding record_length head positive naf
shape-length (strict h b c) =
    let r = strict h b c in omega (arith, shape-heads r, shape-body r, length-encoded-rule r)
shape-length (defeasible t h b c) =
    let r = defeasible t h b c in omega (arith, shape-heads r, shape-body r, length-encoded-rule r, length-map h Signed)

pub held-length : (p : Program) → held_length (shapes_of p) ≡ length (encoded_rules p)
unfolding held_length encoded_rules
held-length [] = refl
held-length (r ∷ p) = omega (arith, shape-length r, held-length p, length-append (encoded_rule r) (encoded_rules p))

-- and how many
shapes-count : (p : Program) → length (shapes_of p) ≡ length p
shapes-count p = length-map p (λ (r : Rule). shape_of (encoded_rule r))

shapes-kept : (F : Limits) (p : Program) → T (each_of (keeps_rule F) p) → T (each_of (keeps_shape F) (shapes_of p))
shapes-kept F [] k = tt
shapes-kept F (r ∷ p) k =
    both (keeps_shape F (shape_of (encoded_rule r))) _ (kept-encoded F r (first (keeps_rule F r) _ k)) (shapes-kept F p (second (keeps_rule F r) _ k))

shapes-take : (n : ℕ) (p : Program) → take n (shapes_of p) ≡ shapes_of (take n p)
shapes-take zero p = refl
shapes-take (suc n) [] = refl
shapes-take (suc n) (r ∷ p) = ap (λ (ss : List Shape). shape_of (encoded_rule r) ∷ ss) (shapes-take n p)

-- the records of the first rules are the front of the records
records-front : (n : ℕ) (p : Program) → (bs : List ℕ) × (encoded_rules p ≡ encoded_rules (take n p) ++ bs)
unfolding encoded_rules
records-front zero p = (encoded_rules p, refl)
records-front (suc n) [] = ([], refl)
records-front (suc n) (r ∷ p) =
    let w = records-front n p in
    (w.0, ap (λ (bs : List ℕ). encoded_rule r ++ bs) w.1 ∙ sym (append_assoc (encoded_rule r) (encoded_rules (take n p)) w.0))

-- the records with one rule more
records-more : (p : Program) (r : Rule) → encoded_rules (p ++ (r ∷ [])) ≡ encoded_rules p ++ encoded_rule r
unfolding encoded_rules
records-more p r = encoded-rules-append p (r ∷ []) ∙ ap (λ (bs : List ℕ). encoded_rules p ++ bs) (append-nil (encoded_rule r))

-- where a buffer starts with bytes, it starts with their front; and with bytes written right behind them
starts-front : (xs ys out : List ℕ) → take (length (xs ++ ys)) out ≡ xs ++ ys → take (length xs) out ≡ xs
starts-front xs ys out h =
    sym (take-take (length xs) (length (xs ++ ys)) out (omega (arith, length-append xs ys)))
    ∙ ap (take (length xs)) h ∙ take-append_seam xs ys

starts_more : (xs ys out : List ℕ) → take (length xs) out ≡ xs → length xs ≤ length out
    → take (length (xs ++ ys)) (write out (length xs) ys) ≡ xs ++ ys
starts_more xs ys out h fits =
    ap (λ (k : ℕ). take k (write out (length xs) ys)) (length-append xs ys)
    ∙ take-write out (length xs) ys fits ∙ ap (λ (zs : List ℕ). zs ++ ys) h

-- the state is that of an open assembly of these rules; or of a closed one, and the program starts the buffer
abbrev pub OpenOrClosed : Limits → Program → Session → Type 0
OpenOrClosed F p s =
    (s.state ≡ encoded_stage F (opened (shapes_of p)))
    ⊎ ((s.state ≡ encoded_stage F (closed (shapes_of p))) × (take (length (encoded_program p)) s.buffer ≡ encoded_program p))

-- a state and a buffer hold these rules: they are within the limits, their records start the buffer, and an end record has room behind them
pub record Holding (F : Limits) (p : Program) (s : Session) : Type 0 where
  pub each : T (each_of (keeps_rule F) p)
  pub count : length p ≤ F.rules
  pub bytes : take (length (encoded_rules p)) s.buffer ≡ encoded_rules p
  pub room : length (encoded_rules p) + 4 ≤ length s.buffer
  pub stage : OpenOrClosed F p s

-- the session that a call leaves
abbrev left : Called → Session
left o = record { state = o.state; buffer = o.buffer }

module _ (F : Limits) where
  -- an accepted begin
  begun-held : (st out : List ℕ) (m : Move) → begun (length out) ≡ Ok m → Holding F [] (left (moved F st out (Ok m)))
  unfolding moved encoded_rules
  begun-held st out m e =
      let w = begun-move (length out) m e in
      subst (λ (x : Move). Holding F [] (left (moved F st out (Ok x)))) w.1
      (record { each = tt; count = omega arith; bytes = refl; room = omega (arith, w.0, ap length (write-nil out 0)); stage = inl refl })

  module _ (p : Program) (s : Session) (w : Holding F p s) where
    -- a rule more, and an accepted add
    more-held : (r : Rule) → T (keeps_rule F r) → length p < F.rules → length (encoded_rules p) + length (encoded_rule r) + 4 ≤ length s.buffer
        → Holding F (p ++ (r ∷ []))
        (record { state = encoded_stage F (opened (shapes_of (p ++ (r ∷ [])))); buffer = write s.buffer (length (encoded_rules p)) (encoded_rule r) })
    more-held r k few fits =
        record {
          each = subst T (sym (all_append (keeps_rule F) p (r ∷ []))) (both (each_of (keeps_rule F) p) _ w.each (both (keeps_rule F r) true k tt));
          count = omega (arith, length-append p (r ∷ []));
          bytes =
              ap (λ (bs : List ℕ). take (length bs) out) (records-more p r)
              ∙ starts_more (encoded_rules p) (encoded_rule r) s.buffer w.bytes (omega arith) ∙ sym (records-more p r);
          room = omega (arith, ap length (records-more p r), length-append (encoded_rules p) (encoded_rule r), same_length);
          stage = inl refl;
        }
      where
        out : List ℕ
        out = write s.buffer (length (encoded_rules p)) (encoded_rule r)

        same_length : length out ≡ length s.buffer
        same_length = length-write s.buffer (length (encoded_rules p)) (encoded_rule r) (omega arith)

    added-rules : (t : List ℕ) (size : ℕ) (v : Added F (length (shapes_of p)) t size) → rule_read (record_at F (rules_held (length p)) t) ≡ v.rule-of ∷ []
    unfolding rule_read
    added-rules t size v = ap (λ (n : ℕ). rule_read (record_at F (rules_held n) t)) (sym (shapes-count p)) ∙ ap rule_read v.read

    added-shapes : (t : List ℕ) → Bytes t → (size : ℕ) (v : Added F (length (shapes_of p)) t size)
        → shapes_of (p ++ (v.rule-of ∷ [])) ≡ shapes_of p ++ (shape_of t ∷ [])
    added-shapes t bytes size v =
        map-append (λ (r : Rule). shape_of (encoded_rule r)) p (v.rule-of ∷ [])
        ∙ ap (λ (x : Shape). shapes_of p ++ (x ∷ [])) (sym (shape-read F (length (shapes_of p)) t size v bytes))

    added-held : (t : List ℕ) → Bytes t → (m : Move) → AddAccepted F t (shapes_of p) (length s.buffer) m
        → Holding F (p ++ rule_read (record_at F (rules_held (length p)) t)) (left (moved F s.state s.buffer (Ok m)))
    unfolding moved
    added-held t bytes m v =
        let a = v.read in
        let r = a.rule-of in
        let whole = added-rule F (length (shapes_of p)) t v.size bytes a in
        let sized = sym (length-take-le v.size t a.fits) ∙ ap length whole.0 in
        subst (λ (x : Move). Holding F (p ++ rule_read (record_at F (rules_held (length p)) t)) (left (moved F s.state s.buffer (Ok x)))) v.same
        (subst (λ (q : Program). Holding F (p ++ q) then) (sym (added-rules t v.size a))
        (subst (Holding F (p ++ (r ∷ [])))
        (ap₂ (λ (ss : List Shape) (out : List ℕ). record { state = encoded_stage F (opened ss); buffer = out }) (added-shapes t bytes v.size a)
        (ap₂ (write s.buffer) (sym (held-length p)) (sym whole.0)))
        (more-held r whole.1 (omega (arith, a.room, shapes-count p)) (omega (arith, v.fits, held-length p, sized)))))
      where
        then : Session
        then =
            record {
              state = encoded_stage F (opened (shapes_of p ++ (shape_of t ∷ [])));
              buffer = write s.buffer (held_length (shapes_of p)) (take v.size t);
            }

    -- an accepted drop
    dropped-held : (m : Move) → dropped_move (shapes_of p) ≡ m
        → Holding F (take (length p - 1) p) (left (moved F s.state s.buffer (Ok m)))
    unfolding moved
    dropped-held m same =
        subst (λ (x : Move). Holding F q (left (moved F s.state s.buffer (Ok x)))) same
        (record {
          each = take-each (keeps_rule F) (length p - 1) p w.each;
          count = omega (arith, length-take (length p - 1) p, w.count);
          bytes =
              ap (take (length (encoded_rules q))) (write-nil s.buffer 0)
              ∙ starts-front (encoded_rules q) front.0 s.buffer
              (subst (λ (bs : List ℕ). take (length bs) s.buffer ≡ bs) front.1 w.bytes);
          room = omega (arith, ap length front.1, length-append (encoded_rules q) front.0, ap length (write-nil s.buffer 0), w.room);
          stage =
              inl (ap (λ (ss : List Shape). encoded_stage F (opened ss))
              (ap (λ (n : ℕ). take (n - 1) (shapes_of p)) (shapes-count p) ∙ shapes-take (length p - 1) p));
        })
      where
        q : Program
        q = take (length p - 1) p

        front : (bs : List ℕ) × (encoded_rules p ≡ encoded_rules q ++ bs)
        front = records-front (length p - 1) p

    -- an accepted close
    closed-held : (m : Move) → ended_move (shapes_of p) ≡ m
        → Holding F p (left (moved F s.state s.buffer (Ok m)))
    unfolding moved encoded_program
    closed-held m same =
        subst (λ (x : Move). Holding F p (left (moved F s.state s.buffer (Ok x)))) same
        (record {
          each = w.each;
          count = w.count;
          bytes = starts-front (encoded_rules p) (encoded_end (length p)) out whole;
          room = omega (arith, w.room, same_length);
          stage = inr (refl, whole);
        })
      where
        out : List ℕ
        out = write s.buffer (held_length (shapes_of p)) (encoded_end (length (shapes_of p)))

        place : out ≡ write s.buffer (length (encoded_rules p)) (encoded_end (length p))
        place = ap₂ (λ (at n : ℕ). write s.buffer at (encoded_end n)) (held-length p) (shapes-count p)

        whole : take (length (encoded_rules p ++ encoded_end (length p))) out ≡ encoded_rules p ++ encoded_end (length p)
        whole =
            ap (take (length (encoded_rules p ++ encoded_end (length p)))) place
            ∙ starts_more (encoded_rules p) (encoded_end (length p)) s.buffer w.bytes (omega (arith, w.room))

        same_length : length out ≡ length s.buffer
        same_length = length-write s.buffer _ _ (omega (arith, held-length p, w.room, length-end (length (shapes_of p))))

-- the rules behind a refused call
listed-refused : (F : Limits) (c : Call) (x : Refusal) (p : Program) → listed F c (Err x) p ≡ p
unfolding listed
listed-refused F begin x p = refl
listed-refused F (add t) x p = refl
listed-refused F drop_last x p = refl
listed-refused F close x p = refl

module _ (F : Limits) (ok : Assemblable F) where
  -- what is held is within the limits
  open_kept : (p : Program) (s : Session) → Holding F p s → T (keeps_stage F (opened (shapes_of p)))
  unfolding shapes
  open_kept p s w = keeps-stage F (opened (shapes_of p)) (omega (arith, w.count, shapes-count p)) (shapes-kept F p w.each)

  closed-kept : (p : Program) (s : Session) → Holding F p s → T (keeps_stage F (closed (shapes_of p)))
  unfolding shapes
  closed-kept p s w = keeps-stage F (closed (shapes_of p)) (omega (arith, w.count, shapes-count p)) (shapes-kept F p w.each)

  -- an accepted begin holds no rule
  pub begun-holding : (s : Session) → (called_in F begin s).answer ≡ Ok 0 → Holding F [] (after F begin s)
  unfolding called moved move
  begun-holding s e = go (outcome F begin s.state (length s.buffer)) refl e
    where
      go : (r : Answer Move) → outcome F begin s.state (length s.buffer) ≡ r → (moved F s.state s.buffer r).answer ≡ Ok 0
          → Holding F [] (left (moved F s.state s.buffer r))
      go (Err x) q e = let z : ◌≡◌ {A = ℕ} 0 1 = cc in absurd (omega (arith, z))
      go (Ok m) q e = begun-held F s.state s.buffer m (refuse-if-accepted _ _ _ m q).1

  module _ (p : Program) (s : Session) (w : Holding F p s) where
    -- the rules and the session behind a call that came to this
    Then : Call → Called → Type 0
    Then c o = Holding F (listed F c o.answer p) (left o)

    refused-then : (c : Call) (x : Refusal) → Then c (moved F s.state s.buffer (Err x))
    unfolding Then moved
    refused-then c x = subst (λ (q : Program). Holding F q s) (sym (listed-refused F c x p)) w

    open-then : (c : Call) → BytesIn c → (r : Answer Move) → move F c (opened (shapes_of p)) (length s.buffer) ≡ r
        → Then c (moved F s.state s.buffer r)
    unfolding Then moved move listed
    open-then c h (Err x) e = refused-then c x
    open-then begin h (Ok m) e = begun-held F s.state s.buffer m e
    open-then (add t) h (Ok m) e = added-held F p s w t h m (added-move F t (shapes_of p) (length s.buffer) m e)
    open-then drop_last h (Ok m) e = dropped-held F p s w m (dropped-move (shapes_of p) m e).1
    open-then close h (Ok m) e = closed-held F p s w m (ended_move_lem (shapes_of p) (length s.buffer) m e).1

    closed-then : (c : Call) → BytesIn c → (r : Answer Move) → move F c (closed (shapes_of p)) (length s.buffer) ≡ r
        → Then c (moved F s.state s.buffer r)
    unfolding Then moved move listed
    closed-then c h (Err x) e = refused-then c x
    closed-then begin h (Ok m) e = begun-held F s.state s.buffer m e
    closed-then (add t) h (Ok m) e = absurd (refused-accepted e)
    closed-then drop_last h (Ok m) e = absurd (refused-accepted e)
    closed-then close h (Ok m) e = absurd (refused-accepted e)

  -- one call
  pub next-holding : (c : Call) → BytesIn c → (s : Session) (p : Program) → Holding F p s → Holding F (listed F c (called_in F c s).answer p) (after F c s)
  unfolding Then
  next-holding c h s p w = go w.stage
    where
      go : OpenOrClosed F p s → Holding F (listed F c (called_in F c s).answer p) (after F c s)
      go (inl e) =
          subst (Then p s w c) (sym (called-stage F ok (opened (shapes_of p)) (open_kept p s w) c s.state s.buffer e)) (open-then p s w c h _ refl)
      go (inr e) =
          subst (Then p s w c) (sym (called-stage F ok (closed (shapes_of p)) (closed-kept p s w) c s.state s.buffer e.0)) (closed-then p s w c h _ refl)

  -- a list of calls
  pub run-holding : (cs : List Call) → AllBytes cs → (s : Session) (p : Program) → Holding F p s → Holding F (rules_after F cs s p) (run F cs s)
  unfolding run rules_after
  run-holding [] h s p w = w
  run-holding (c ∷ cs) h s p w = run-holding cs h.1 (after F c s) (listed F c (called_in F c s).answer p) (next-holding c h.0 s p w)

-- the longest record, and what is held within the limits
module _ (F : Limits) where
  record-short : (r : Rule) → T (keeps_rule F r) → length (encoded_rule r) ≤ 7 + 5 * (F.heads + (F.positives + F.nafs))
  record-short r k =
      let w = kept F r k in omega (arith, shape-length r, shape-heads r, shape-body r, w.heads, w.positives, w.nafs)

  pub records-short : (p : Program) → T (each_of (keeps_rule F) p) → length (encoded_rules p) ≤ length p * (7 + 5 * (F.heads + (F.positives + F.nafs)))
  unfolding encoded_rules
  records-short [] k = omega arith
  records-short (r ∷ p) k =
      omega (arith, length-append (encoded_rule r) (encoded_rules p), record-short r (first (keeps_rule F r) _ k), records-short p (second (keeps_rule F r) _ k))

  pub holding-keeps : Assemblable F → (p : Program) (s : Session) → Holding F p s → T (keeps F p)
  holding-keeps ok p s w =
      let grown = mul-le-mul_right (7 + 5 * (F.heads + (F.positives + F.nafs))) w.count in
      keeps-program F p w.count w.each (omega (arith, length-program p, records-short p w.each, grown, ok.short))

  -- the stage that is said
  module _ (ok : Assemblable F) (p : Program) (s : Session) (w : Holding F p s) where
    open_said : s.state ≡ encoded_stage F (opened (shapes_of p)) → stage_of F s.state ≡ opened (shapes_of p)
    open_said e = ap (stage_of F) e ∙ stage-said F ok (opened (shapes_of p)) (open_kept F ok p s w)

    closed_said : s.state ≡ encoded_stage F (closed (shapes_of p)) → stage_of F s.state ≡ closed (shapes_of p)
    closed_said e = ap (stage_of F) e ∙ stage-said F ok (closed (shapes_of p)) (closed-kept F ok p s w)

    pub shapes-said : shapes (stage_of F s.state) ≡ shapes_of p
    unfolding shapes
    shapes-said = go w.stage
      where
        go : OpenOrClosed F p s → shapes (stage_of F s.state) ≡ shapes_of p
        go (inl e) = ap shapes (open_said e)
        go (inr e) = ap shapes (closed_said e.0)

    pub holding-count : length (shapes (stage_of F s.state)) ≡ length p
    holding-count = ap length shapes-said ∙ shapes-count p

    pub holding-length : assembled F s.state ≡ length (encoded_program p)
    unfolding assembled
    holding-length = omega (arith, ap held_length shapes-said, held-length p, length-program p)

    -- where it is a closed one, the program's bytes start the buffer
    pub holding-closed : (ss : List Shape) → stage_of F s.state ≡ closed ss → take (length (encoded_program p)) s.buffer ≡ encoded_program p
    holding-closed ss q = go w.stage
      where
        go : OpenOrClosed F p s → take (length (encoded_program p)) s.buffer ≡ encoded_program p
        go (inl e) = let d : opened (shapes_of p) ≡ closed ss = sym (open_said e) ∙ q in let z : ◌≡◌ {A = ℕ} 0 1 = cc in absurd (omega (arith, z))
        go (inr e) = e.1

    -- where it is an open one, a close is accepted
    pub holding-open : (ss : List Shape) → stage_of F s.state ≡ opened ss → (called_in F close s).answer ≡ Ok (length p)
    unfolding moved move shapes
    holding-open ss q = go w.stage
      where
        go : OpenOrClosed F p s → (called_in F close s).answer ≡ Ok (length p)
        go (inl e) =
            ap (λ (o : Called). o.answer)
            (called-accepted F ok (opened (shapes_of p)) (open_kept F ok p s w) close s.state s.buffer e _
            (ended-accepted (shapes_of p) (length s.buffer) (omega (arith, held-length p, w.room))))
            ∙ ap Ok (shapes-count p)
        go (inr e) = let d : closed (shapes_of p) ≡ opened ss = sym (closed_said e.0) ∙ q in let z : ◌≡◌ {A = ℕ} 0 1 = cc in absurd (omega (arith, z))

-- a list of calls behind a begin: the rules added since the last accepted begin and not dropped, and what stands in the end
abbrev pub built : Limits → Session → List Call → Program
built F s cs = rules_after F cs (after F begin s) []

abbrev pub finish : Limits → Session → List Call → Session
finish F s cs = run F cs (after F begin s)

-- the promise, where that begin was accepted
module _ (F : Limits) (ok : Assemblable F) (s : Session) (begins : (called_in F begin s).answer ≡ Ok 0) (cs : List Call) (bytes : AllBytes cs) where
  pub built-holding : Holding F (built F s cs) (finish F s cs)
  built-holding = run-holding F ok cs bytes (after F begin s) [] (begun-holding F ok s begins)

  -- the rules are within the form's limits
  pub built-keeps : T (keeps F (built F s cs))
  built-keeps = holding-keeps F ok (built F s cs) (finish F s cs) built-holding

  -- as many are held, and the length that is told is that of their program
  pub held-count :
      (length (shapes (stage_of F (finish F s cs).state)) ≡ length (built F s cs))
      × (assembled F (finish F s cs).state ≡ length (encoded_program (built F s cs)))
  held-count =
      (holding-count F ok (built F s cs) (finish F s cs) built-holding, holding-length F ok (built F s cs) (finish F s cs) built-holding)

  -- while the assembly is open, a close in the same buffer is accepted
  pub never-short : (ss : List Shape) → stage_of F (finish F s cs).state ≡ opened ss
      → (called_in F close (finish F s cs)).answer ≡ Ok (length (built F s cs))
  never-short = holding-open F ok (built F s cs) (finish F s cs) built-holding

  -- once it is closed, so many of the buffer's first bytes are the program of those rules
  pub assembled-program : (ss : List Shape) → stage_of F (finish F s cs).state ≡ closed ss
      → (assembled F (finish F s cs).state ≡ length (encoded_program (built F s cs)))
      × ((take (assembled F (finish F s cs).state) (finish F s cs).buffer ≡ encoded_program (built F s cs)) × T (keeps F (built F s cs)))
  assembled-program ss e =
      let long = held-count.1 in
      let program = holding-closed F ok (built F s cs) (finish F s cs) built-holding ss e in
      (long, (ap (λ (n : ℕ). take n (finish F s cs).buffer) long ∙ program, built-keeps))

  -- and are read as those rules
  pub assembled-reads : (ss : List Shape) → stage_of F (finish F s cs).state ≡ closed ss
      → items F (take (assembled F (finish F s cs).state) (finish F s cs).buffer) ≡ Ok (map rule (built F s cs))
  assembled-reads ss e =
      ap (items F) ((assembled-program ss e).1.0 ∙ sym (file-bytes (built F s cs)))
      ∙ items-written F (map rule (built F s cs)) (program-file F (built F s cs) built-keeps)

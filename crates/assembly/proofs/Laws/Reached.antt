-- Which bytes some history of calls gives back (02, Ask 4): exactly those that are a state.
-- In order: the state before any call; what a history gives back is a stage's bytes; histories and shapes one behind
-- the other; the record of a rule is bytes; a rule of each shape, within the limits; a history that adds such rules; the law.
-- Assumes nothing.
use Prim.Native.Nat.{ℕ, zero, suc, ◌+◌, ◌-◌, ◌≤◌, ◌<◌}
use native.Mathlib.Omega.{arith}
use mathlib.Core.Path.{◌≡◌, refl, sym, ◌∙◌, ap, ap₂, subst}
use mathlib.Core.Logic.{◌↔◌}
use mathlib.Core.Bool.{Bool, true, false, ◌&&◌}
use mathlib.Core.List.{List, [], ◌∷◌, ◌++◌, map, append-nil}
use lib.Dec.{T, leb, le→leb}
use lib.ListN.{length, take, replicate, length-append, length-map, length-replicate}
use lib.Seq.{append_snoc, length-take-le}
use Rattle.buffer.specs.Bytes.{Bytes, two_bytes}
use Rattle.buffer.proofs.Laws.Bytes.{bytes-nil, bytes-cons, bytes-append, bytes-two_bytes}
use Rattle.buffer.proofs.Laws.Write.{length-write}
use Rattle.literal.specs.declared.Limits.{Limits}
use Rattle.literal.specs.declared.Tag.{Tag}
use Rattle.literal.specs.declared.SignedAtom.{SignedAtom}
use Rattle.literal.specs.declared.Literal.{Literal}
use Rattle.literal.specs.declared.Literal.TheVariants.{Signed}
use Rattle.literal.specs.Literal.{encoded, in_range, takes}
use Rattle.literal.proofs.Laws.Literal.{TwoBytes, bytes-encoded, in-range, takes-fits}
use Rattle.semantics.specs.Set.{each_of}
use Rattle.semantics.specs.Rule.{Rule, strict, defeasible, head, positive, naf}
use Rattle.semantics.specs.Translation.{record_length}
use Rattle.semantics.specs.Form.{keeps_counts, keeps_literals, keeps_tag, keeps_rule}
use Rattle.semantics.proofs.Laws.Tests.{both, first, second, all_append}
use Rattle.semantics.proofs.Laws.Form.{kept, strict-keeps}
use Rattle.record.specs.Header.{strict_letter, defeasible_letter, colon}
use Rattle.record.specs.Layout.{encoded_literals, rule_record, encoded_rule}
use Rattle.record.specs.Reading.{rule_only}
use Rattle.record.proofs.Laws.Layout.{length-encoded-rule}
use Rattle.record.proofs.Laws.Only.{only-complete}
use Rattle.assembly.specs.State.{Stage, before, opened, closed, Shape, shape_of, shapes, shape_length, held_length, keeps_shape, keeps_stage, state_bytes, stage_byte, encoded_stage, is_state}
use Rattle.assembly.specs.Calls.{Call, begin, add, close, Called, move, moved}
use Rattle.assembly.specs.History.{Session, after, run, AllBytes, GivenBack}
use Rattle.assembly.specs.Code.{Assemblable}
use Rattle.assembly.proofs.Laws.Row.{Kept, kept-shape}
use Rattle.assembly.proofs.Laws.State.{state-iff}
use Rattle.assembly.proofs.Laws.Change.{zeros-rows}
use Rattle.assembly.proofs.Laws.Session.{OfStage, of-stage, stays-stage, keeps-stage, stage-few, stage-each, begin-writes-none, begun-accepted, added-accepted, ended-accepted, called-accepted, shape-heads, shape-body}
use Rattle.assembly.proofs.Laws.History.{shape-length}

module _ (F : Limits) (ok : Assemblable F) where
  -- zeros are the state before any call
  pub zeros-before : replicate (state_bytes F) 0 ≡ encoded_stage F before
  unfolding encoded_stage shapes stage_byte
  zeros-before = zeros-rows F

  pub before-kept : T (keeps_stage F before)
  unfolding shapes
  before-kept = keeps-stage F before (omega arith) tt

  -- what a history gives back is a stage's bytes where it got them
  pub run-stage : (cs : List Call) → AllBytes cs → (s : Session) → OfStage F s.state → OfStage F (run F cs s).state
  unfolding run
  run-stage [] h s w = w
  run-stage (c ∷ cs) h s w = run-stage cs h.1 (after F c s) (stays-stage F ok c h.0 s.state s.buffer w)

-- histories one behind the other
run-append : (F : Limits) (cs ds : List Call) (s : Session) → run F (cs ++ ds) s ≡ run F ds (run F cs s)
unfolding run
run-append F [] ds s = refl
run-append F (c ∷ cs) ds s = run-append F cs ds (after F c s)

all-bytes-append : (cs ds : List Call) → AllBytes cs → AllBytes ds → AllBytes (cs ++ ds)
all-bytes-append [] ds h g = g
all-bytes-append (c ∷ cs) ds h g = (h.0, all-bytes-append cs ds h.1 g)

-- the records of one shape more
held-append : (ss : List Shape) (x : Shape) → held_length (ss ++ (x ∷ [])) ≡ held_length ss + shape_length x
unfolding held_length
held-append [] x = omega arith
held-append (s ∷ ss) x = omega (arith, held-append ss x)

-- shapes of the same three fields are one
shape_same : (x y : Shape) → x.defeasible ≡ y.defeasible → x.heads ≡ y.heads → x.body ≡ y.body → x ≡ y
shape_same x y d h b =
    ap₂ (λ (e : Bool) (k : ℕ). record { defeasible = e; heads = k; body = x.body }) d h
    ∙ ap (λ (k : ℕ). record { defeasible = y.defeasible; heads = y.heads; body = k }) b

-- the front of a stage within the limits
front_kept : (F : Limits) (ss ts : List Shape) → T (keeps_stage F (opened (ss ++ ts))) → T (keeps_stage F (opened ss))
unfolding shapes
front_kept F ss ts k =
    keeps-stage F (opened ss) (omega (arith, length-append ss ts, stage-few F (opened (ss ++ ts)) k))
    (first (each_of (keeps_shape F) ss) _ (subst T (all_append (keeps_shape F) ss ts) (stage-each F (opened (ss ++ ts)) k)))

last-kept : (F : Limits) (ss : List Shape) (x : Shape) → T (keeps_stage F (opened (ss ++ (x ∷ [])))) → (length ss < F.rules) × Kept F x
unfolding shapes
last-kept F ss x k =
    let each = subst T (all_append (keeps_shape F) ss (x ∷ [])) (stage-each F (opened (ss ++ (x ∷ []))) k) in (
      omega (arith, length-append ss (x ∷ []), stage-few F (opened (ss ++ (x ∷ []))) k),
      kept-shape F x (first (keeps_shape F x) true (second (each_of (keeps_shape F) ss) _ each)),
    )

-- the record of a rule within the limits is made of bytes
module _ (F : Limits) (ok : Assemblable F) (narrow : TwoBytes F) where
  bytes-literals : (ls : List Literal) → T (each_of (takes F) ls) → Bytes (encoded_literals ls)
  unfolding encoded_literals
  bytes-literals [] k = bytes-nil
  bytes-literals (l ∷ ls) k =
      bytes-append (encoded l) (encoded_literals ls) (bytes-encoded l (takes-fits F narrow l (first (takes F l) (each_of (takes F) ls) k)))
      (bytes-literals ls (second (takes F l) (each_of (takes F) ls) k))

  bytes-record : (letter tag : ℕ) (h b c : List Literal) → letter < 256 → tag < 65536 → length h < 256 → length b < 256 → length c < 256
      → T (each_of (takes F) h) → T (each_of (takes F) b) → T (each_of (takes F) c) → Bytes (rule_record letter tag h b c)
  unfolding rule_record
  bytes-record letter tag h b c l g nh nb nc th tb tc =
      let body = subst T (sym (all_append (takes F) b c)) (both (each_of (takes F) b) _ tb tc) in
      let all = subst T (sym (all_append (takes F) h (b ++ c))) (both (each_of (takes F) h) _ th body) in
      let ls = encoded_literals (h ++ (b ++ c)) in
      let counts = length h ∷ length b ∷ length c ∷ ls in
      let counted : Bytes counts =
      bytes-cons (length b ∷ length c ∷ ls) nh (bytes-cons (length c ∷ ls) nb (bytes-cons ls nc (bytes-literals (h ++ (b ++ c)) all))) in
      bytes-cons (colon ∷ (two_bytes tag ++ counts)) l
      (bytes-cons {b = colon} (two_bytes tag ++ counts) (omega arith) (bytes-append (two_bytes tag) counts (bytes-two_bytes tag g) counted))

  pub bytes-rule : (r : Rule) → T (keeps_rule F r) → Bytes (encoded_rule r)
  unfolding encoded_rule head positive naf
  bytes-rule (strict h b c) k =
      let w = kept F (strict h b c) k in
      bytes-record strict_letter 0 h b c (omega arith) (omega arith) (omega (arith, w.heads, ok.heads)) (omega (arith, w.positives, ok.body))
      (omega (arith, w.nafs, ok.body)) w.head-taken w.positive-taken w.naf-taken
  bytes-rule (defeasible t h b c) k =
      let w = kept F (defeasible t h b c) k in
      let tag = (in-range F.tags t.0 w.tag.range).1 in
      bytes-record defeasible_letter t.0 (map Signed h) b c (omega arith) (omega (arith, tag, narrow.tags)) (omega (arith, w.heads, ok.heads))
      (omega (arith, w.positives, ok.body)) (omega (arith, w.nafs, ok.body)) w.head-taken w.positive-taken w.naf-taken

-- a rule of a shape: one literal again and again, in the body as often positive as the form allows
module _ (F : Limits) (a : SignedAtom) (t : Tag) where
  abbrev nafs_in : Shape → ℕ
  nafs_in s = s.body - F.positives

  abbrev positives_in : Shape → ℕ
  positives_in s = s.body - nafs_in s

  abbrev copies : ℕ → List Literal
  copies n = replicate n (Signed a)

  abbrev rule_if : Bool → Shape → Rule
  rule_if true s = defeasible t (replicate s.heads a) (copies (positives_in s)) (copies (nafs_in s))
  rule_if false s = strict (copies s.heads) (copies (positives_in s)) (copies (nafs_in s))

  rule_with : Shape → Rule
  rule_with s = rule_if s.defeasible s

  -- its counts, and its shape
  heads-with : (d : Bool) (s : Shape) → length (head (rule_if d s)) ≡ s.heads
  unfolding head
  heads-with true s = length-map (replicate s.heads a) Signed ∙ length-replicate s.heads a
  heads-with false s = length-replicate s.heads (Signed a)

  positives-with : (d : Bool) (s : Shape) → length (positive (rule_if d s)) ≡ positives_in s
  unfolding positive
  positives-with true s = length-replicate (positives_in s) (Signed a)
  positives-with false s = length-replicate (positives_in s) (Signed a)

  nafs-with : (d : Bool) (s : Shape) → length (naf (rule_if d s)) ≡ nafs_in s
  unfolding naf
  nafs-with true s = length-replicate (nafs_in s) (Signed a)
  nafs-with false s = length-replicate (nafs_in s) (Signed a)

  letter-with : (d : Bool) (s : Shape) → (shape_of (encoded_rule (rule_if d s))).defeasible ≡ d
  unfolding shape_of encoded_rule rule_record
  letter-with true s = refl
  letter-with false s = refl

  shape-with : (s : Shape) → shape_of (encoded_rule (rule_with s)) ≡ s
  unfolding rule_with
  shape-with s =
      let d = s.defeasible in
      shape_same (shape_of (encoded_rule (rule_if d s))) s (letter-with d s) (shape-heads (rule_if d s) ∙ heads-with d s)
      (omega (arith, shape-body (rule_if d s), positives-with d s, nafs-with d s))

  module _ (taken : T (takes F (Signed a))) (tagged : T (in_range F.tags t.0)) (form : T F.defeasible) where
    copies-taken : (n : ℕ) → T (each_of (takes F) (copies n))
    copies-taken zero = tt
    copies-taken (suc n) = both (takes F (Signed a)) _ taken (copies-taken n)

    options-taken : (n : ℕ) → T (each_of (takes F) (map Signed (replicate n a)))
    options-taken zero = tt
    options-taken (suc n) = both (takes F (Signed a)) _ taken (options-taken n)

    -- it is within the limits where the shape is
    keeps-if : (d : Bool) (s : Shape) → Kept F s → s.defeasible ≡ d → T (keeps_rule F (rule_if d s))
    unfolding keeps_rule keeps_tag keeps_counts keeps_literals head positive naf
    keeps-if true s w e =
        let b = positives_in s in
        let c = nafs_in s in
        let h = replicate s.heads a in
        let hs = map Signed h in
        let some : 1 ≤ length h = omega (arith, w.some e, length-replicate s.heads a) in
        both (F.defeasible && (in_range F.tags t.0 && leb 1 (length h))) _
        (both F.defeasible _ form (both (in_range F.tags t.0) _ tagged (le→leb 1 (length h) some)))
        (both (leb (length hs) F.heads && (leb (length (copies b)) F.positives && leb (length (copies c)) F.nafs)) _
        (both (leb (length hs) F.heads) _ (le→leb (length hs) F.heads (omega (arith, heads-with true s, w.heads)))
        (both (leb (length (copies b)) F.positives) _
        (le→leb (length (copies b)) F.positives (omega (arith, positives-with true s)))
        (le→leb (length (copies c)) F.nafs (omega (arith, nafs-with true s, w.body)))))
        (both (each_of (takes F) hs) _ (options-taken s.heads) (both (each_of (takes F) (copies b)) _ (copies-taken b) (copies-taken c))))
    keeps-if false s w e =
        strict-keeps F (copies s.heads) (copies (positives_in s)) (copies (nafs_in s)) (omega (arith, heads-with false s, w.heads))
        (omega (arith, positives-with false s)) (omega (arith, nafs-with false s, w.body))
        (copies-taken s.heads) (copies-taken (positives_in s)) (copies-taken (nafs_in s))

    keeps-with : (s : Shape) → Kept F s → T (keeps_rule F (rule_with s))
    unfolding rule_with
    keeps-with s w = keeps-if s.defeasible s w refl

    module _ (ok : Assemblable F) where
      -- adding such a rule behind those that are held
      add_of : Shape → Call
      add_of x = add (encoded_rule (rule_with x))

      add_step : (done : List Shape) (x : Shape) → T (keeps_stage F (opened (done ++ (x ∷ [])))) → (s : Session) → s.state ≡ encoded_stage F (opened done)
          → held_length done + shape_length x + 4 ≤ length s.buffer
          → ((after F (add_of x) s).state ≡ encoded_stage F (opened (done ++ (x ∷ [])))) × (length (after F (add_of x) s).buffer ≡ length s.buffer)
      unfolding add_of moved move
      add_step done x k s e fits =
          let last = last-kept F done x k in
          let r = rule_with x in
          let bs = encoded_rule r in
          let read = ap (rule_only F (length done)) (sym (append-nil bs)) ∙ only-complete F [] (length done) r (keeps-with x last.1) last.0 in
          let sized : record_length r ≡ shape_length x = sym (length-encoded-rule r) ∙ sym (shape-length r) ∙ ap shape_length (shape-with x) in
          let went =
          called-accepted F ok (opened done) (front_kept F done (x ∷ []) k) (add bs) s.state s.buffer e _
          (added-accepted F bs done (length s.buffer) (record_length r) read (omega (arith, sized))) in
          let whole = length-take-le (record_length r) bs (omega (arith, length-encoded-rule r)) in (
            ap (λ (o : Called). o.state) went ∙ ap (λ (y : Shape). encoded_stage F (opened (done ++ (y ∷ [])))) (shape-with x),
            ap (λ (o : Called). length o.buffer) went ∙ length-write s.buffer (held_length done) (take (record_length r) bs) (omega (arith, sized, whole)),
          )

      run-adds : (ss done : List Shape) → T (keeps_stage F (opened (done ++ ss))) → (s : Session) → s.state ≡ encoded_stage F (opened done)
          → held_length done + held_length ss + 4 ≤ length s.buffer
          → ((run F (map add_of ss) s).state ≡ encoded_stage F (opened (done ++ ss))) × (length (run F (map add_of ss) s).buffer ≡ length s.buffer)
      unfolding run held_length
      run-adds [] done k s e fits = (e ∙ ap (λ (ss : List Shape). encoded_stage F (opened ss)) (sym (append-nil done)), refl)
      run-adds (x ∷ ss) done k s e fits =
          let one = append_snoc done x ss in
          let k' = subst (λ (xs : List Shape). T (keeps_stage F (opened xs))) (sym one) k in
          let w = add_step done x (front_kept F (done ++ (x ∷ [])) ss k') s e (omega arith) in
          let rest = run-adds ss (done ++ (x ∷ [])) k' (after F (add_of x) s) w.0 (omega (arith, held-append done x, w.1)) in
          (rest.0 ∙ ap (λ (xs : List Shape). encoded_stage F (opened xs)) one, rest.1 ∙ w.1)

      -- and a whole history that does: from the zeros before any call, in a buffer that is long enough
      start : List ℕ → Session
      start out = record { state = replicate (state_bytes F) 0; buffer = out }

      opens : List Shape → List Call
      opens ss = begin ∷ map add_of ss

      opened-by : (ss : List Shape) → T (keeps_stage F (opened ss)) → (out : List ℕ) → held_length ss + 4 ≤ length out
          → ((run F (opens ss) (start out)).state ≡ encoded_stage F (opened ss)) × (length (run F (opens ss) (start out)).buffer ≡ length out)
      unfolding opens start run moved move held_length
      opened-by ss k out fits =
          let zeros : List ℕ = replicate (state_bytes F) 0 in
          let went = called-accepted F ok before (before-kept F ok) begin zeros out (zeros-before F ok) _ (begun-accepted (length out) (omega arith)) in
          let long = ap length (begin-writes-none F zeros out) in
          let w = run-adds ss [] k (after F begin (start out)) (ap (λ (o : Called). o.state) went) (omega (arith, long)) in
          (w.0, w.1 ∙ long)

      closed-by : (ss : List Shape) → T (keeps_stage F (closed ss)) → (out : List ℕ) → held_length ss + 4 ≤ length out
          → (run F (opens ss ++ (close ∷ [])) (start out)).state ≡ encoded_stage F (closed ss)
      unfolding run moved move shapes
      closed-by ss k out fits =
          let k' = keeps-stage F (opened ss) (stage-few F (closed ss) k) (stage-each F (closed ss) k) in
          let w = opened-by ss k' out fits in
          let s = run F (opens ss) (start out) in
          ap (λ (x : Session). x.state) (run-append F (opens ss) (close ∷ []) (start out))
          ∙ ap (λ (o : Called). o.state)
          (called-accepted F ok (opened ss) k' close s.state s.buffer w.0 _ (ended-accepted ss (length s.buffer) (omega (arith, w.1))))

      -- its calls have bytes
      module _ (narrow : TwoBytes F) where
        adds_bytes : (ss : List Shape) → T (each_of (keeps_shape F) ss) → AllBytes (map add_of ss)
        unfolding add_of
        adds_bytes [] k = tt
        adds_bytes (x ∷ ss) k =
            let w = kept-shape F x (first (keeps_shape F x) _ k) in
            (bytes-rule F ok narrow (rule_with x) (keeps-with x w), adds_bytes ss (second (keeps_shape F x) _ k))

        opens-bytes : (ss : List Shape) → T (each_of (keeps_shape F) ss) → AllBytes (opens ss)
        unfolding opens
        opens-bytes ss k = (tt, adds_bytes ss k)

        -- so that each stage within the limits is reached
        reached : (s : Stage) → T (keeps_stage F s) → GivenBack F (encoded_stage F s)
        unfolding run start shapes
        reached before k = ([], [], tt, zeros-before F ok)
        reached (opened ss) k =
            let out = replicate {A = ℕ} (held_length ss + 4) 0 in
            let room = length-replicate {A = ℕ} (held_length ss + 4) 0 in
            (opens ss, out, opens-bytes ss (stage-each F (opened ss) k), (opened-by ss k out (omega (arith, room))).0)
        reached (closed ss) k =
            let out = replicate {A = ℕ} (held_length ss + 4) 0 in
            let room = length-replicate {A = ℕ} (held_length ss + 4) 0 in
            let bytes = all-bytes-append (opens ss) (close ∷ []) (opens-bytes ss (stage-each F (closed ss) k)) (tt, tt) in
            (opens ss ++ (close ∷ []), out, bytes, closed-by ss k out (omega (arith, room)))

-- the law: bytes are a state exactly if some history gives them back, in some buffer, from the zeros before any call
pub reached-iff : (F : Limits) → Assemblable F → TwoBytes F → (a : SignedAtom) → T (takes F (Signed a)) → (t : Tag) → T (in_range F.tags t.0)
    → T F.defeasible → (bs : List ℕ) → Bytes bs → T (is_state F bs) ↔ GivenBack F bs
reached-iff F ok narrow a taken t tagged form bs bytes = (
  (λ k. let w = (state-iff F ok bs bytes).0 k in subst (GivenBack F) (sym w.2) (reached F a t taken tagged form ok narrow w.0 w.1)),
  (λ w.
      of-stage F ok bs
      (subst (OfStage F) w.3
      (run-stage F ok w.0 w.2 (record { state = replicate (state_bytes F) 0; buffer = w.1 }) (before, before-kept F ok, zeros-before F ok)))),
)

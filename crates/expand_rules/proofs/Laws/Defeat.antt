-- Laws of the records that are appended: one, none, those of two lists; and of what is added one by one.
-- Assumes nothing.
use Prim.Native.Nat.{ℕ, zero, suc, ◌+◌, ◌-◌, ◌*◌, ◌^◌, ◌≤◌, ◌<◌}
use native.Mathlib.Omega.{arith}
use mathlib.Core.Path.{◌≡◌, refl, sym, ◌∙◌, ap, ap₂, subst}
use mathlib.Core.Bool.{Bool, true, false, cond}
use mathlib.Core.List.{List, [], ◌∷◌, ◌++◌, map, map-append, append_assoc, append-nil}
use lib.Bits.{bit_and}
use lib.ListN.{length, get_or, length-append}
use Rattle.buffer.specs.Write.{write, Wrote}
use Rattle.buffer.proofs.Laws.Write.{write-nil}
use Rattle.buffer.proofs.Laws.Next.{write-behind}
use Rattle.buffer.proofs.Laws.Writing.{Writing, wrote_then, writing-next, writing-end}
use Rattle.literal.specs.declared.Tag.{Tag}
use Rattle.literal.specs.declared.SignedAtom.{SignedAtom}
use Rattle.literal.specs.declared.Literal.TheVariants.{Signed, Defeated}
use Rattle.literal.specs.Literal.{encoded}
use Rattle.literal.proofs.Laws.Literal.{length-encoded}
use Rattle.semantics.specs.Expansion.{Defeat, defeat_rule}
use Rattle.semantics.specs.Translation.{record_length}
use Rattle.record.specs.Layout.{encoded_literals, encoded_rule, encoded_rules}
use Rattle.record.proofs.Laws.Layout.{length-encoded-rule, encoded-rules-append}
use Rattle.record_write.specs.Code.{header}
use Rattle.record_write.proofs.Laws.Header.{strict-pieces}
use Rattle.record_write.proofs.Laws.Stores.{length-header}
use Rattle.expand_tables.specs.Code.{is_new, way_new, option_of, pair_new, pairs_new, same_lower, all_new}
use Rattle.expand_rules.specs.Code.{defeat_bytes}

-- a header and two literals, one behind the other, are the record of what is made
pub defeat-written : (d e f g : List ℕ) (to : ℕ) (t : Tag) (b a : SignedAtom) → to + 17 ≤ length d → e ≡ write d to (header 1 1 0)
    → f ≡ write e (to + 7) (encoded (Defeated t b)) → g ≡ write f (to + 12) (encoded (Signed a))
    → g ≡ write d to (encoded_rule (defeat_rule (record { lower = t; loser = b; winner = a })))
unfolding defeat_rule encoded_literals
defeat-written d e f g to t b a fits one two three =
    let hs = header 1 1 0 in
    let front = write-behind d to hs (to + 7) (encoded (Defeated t b)) (omega arith) (omega (arith, length-header 1 1 0)) one two in
    let long : length (hs ++ encoded (Defeated t b)) ≡ 12 = length-append hs (encoded (Defeated t b))
    ∙ omega (arith, length-header 1 1 0, length-encoded (Defeated t b)) in
    write-behind d to (hs ++ encoded (Defeated t b)) (to + 12) (encoded (Signed a)) (omega arith) (omega (arith, long)) front three
    ∙ ap (write d to)
    (append_assoc hs (encoded (Defeated t b)) (encoded (Signed a))
    ∙ ap (λ (x : List ℕ). hs ++ (encoded (Defeated t b) ++ x)) (sym (append-nil (encoded (Signed a))))
    ∙ strict-pieces (Defeated t b ∷ []) (Signed a ∷ []) [])

-- it has 17 bytes
length-defeat : (d : Defeat) → length (encoded_rule (defeat_rule d)) ≡ 17
unfolding defeat_rule record_length
length-defeat d = length-encoded-rule (defeat_rule d)

-- the records of nothing, of one, of two lists; their length
none : defeat_bytes [] ≡ []
unfolding defeat_bytes encoded_rules
none = refl

one : (d : Defeat) → defeat_bytes (d ∷ []) ≡ encoded_rule (defeat_rule d)
unfolding defeat_bytes encoded_rules
one d = append-nil (encoded_rule (defeat_rule d))

pub defeats-append : (ds es : List Defeat) → defeat_bytes (ds ++ es) ≡ defeat_bytes ds ++ defeat_bytes es
unfolding defeat_bytes
defeats-append ds es = ap encoded_rules (map-append defeat_rule ds es) ∙ encoded-rules-append (map defeat_rule ds) (map defeat_rule es)

pub length-defeats : (ds : List Defeat) → length (defeat_bytes ds) ≡ 17 * length ds
unfolding defeat_bytes encoded_rules
length-defeats [] = refl
length-defeats (d ∷ ds) =
    omega (arith, length-append (encoded_rule (defeat_rule d)) (encoded_rules (map defeat_rule ds)), length-defeat d, length-defeats ds)

-- one way: nothing, or one record
module _ (w v same i t k l : ℕ) where
  made : Defeat
  made = record { lower = record { 0 = t }; loser = option_of l; winner = option_of k }

  way-old : is_new w v same i ≡ false → defeat_bytes (way_new w v same i t k l) ≡ []
  unfolding way_new made
  way-old e = ap (λ (b : Bool). defeat_bytes (cond b (made ∷ []) [])) e ∙ none

  way-bytes : is_new w v same i ≡ true → defeat_bytes (way_new w v same i t k l) ≡ encoded_rule (defeat_rule made)
  unfolding way_new made
  way-bytes e = ap (λ (b : Bool). defeat_bytes (cond b (made ∷ []) [])) e ∙ one made

  pub way-room : is_new w v same i ≡ true → length (defeat_bytes (way_new w v same i t k l)) ≡ 17
  way-room e = ap length (way-bytes e) ∙ length-defeat made

  pub way-skipped : (d : List ℕ) (to : ℕ) → is_new w v same i ≡ false → Wrote d d to (defeat_bytes (way_new w v same i t k l)) to
  way-skipped d to e =
      record {
        bytes = sym (write-nil d to) ∙ ap (write d to) (sym (way-old e));
        next = omega (arith, ap length (way-old e));
      }

  pub way-written : (d f : List ℕ) (to : ℕ) (b a : SignedAtom) → is_new w v same i ≡ true → b ≡ option_of l → a ≡ option_of k
      → f ≡ write d to (encoded_rule (defeat_rule (record { lower = record { 0 = t }; loser = b; winner = a })))
      → Wrote d f to (defeat_bytes (way_new w v same i t k l)) (to + 17)
  unfolding made
  way-written d f to b a e eb ea q =
      record {
        bytes = q ∙ ap₂ (λ (x y : SignedAtom). write d to (encoded_rule (defeat_rule (record { lower = record { 0 = t }; loser = x; winner = y })))) eb ea
            ∙ ap (write d to) (sym (way-bytes e));
        next = omega (arith, way-room e);
      }

-- both ways of a pair; the next pair, and none left; the next override, and none left
module _ (win lose : List ℕ) where
  pair-bytes : (same i t k l : ℕ) → defeat_bytes (pair_new win lose same i t k l)
      ≡ defeat_bytes (way_new (get_or win k 0) (get_or lose l 0) same i t k l) ++ defeat_bytes (way_new (get_or win l 0) (get_or lose k 0) same i t l k)
  unfolding pair_new
  pair-bytes same i t k l = defeats-append (way_new (get_or win k 0) (get_or lose l 0) same i t k l) (way_new (get_or win l 0) (get_or lose k 0) same i t l k)

  -- their length, and one behind the other
  pub length-pair : (same i t k l : ℕ) → length (defeat_bytes (pair_new win lose same i t k l))
      ≡ length (defeat_bytes (way_new (get_or win k 0) (get_or lose l 0) same i t k l)) + length (defeat_bytes (way_new (get_or win l 0) (get_or lose k 0) same i t l k))
  length-pair same i t k l =
      ap length (pair-bytes same i t k l)
      ∙ length-append (defeat_bytes (way_new (get_or win k 0) (get_or lose l 0) same i t k l)) (defeat_bytes (way_new (get_or win l 0) (get_or lose k 0) same i t l k))

  pub pair-written : {d e f : List ℕ} {to n m : ℕ} (same i t k l : ℕ) → to ≤ length d
      → Wrote d e to (defeat_bytes (way_new (get_or win k 0) (get_or lose l 0) same i t k l)) n
      → Wrote e f n (defeat_bytes (way_new (get_or win l 0) (get_or lose k 0) same i t l k)) m
      → Wrote d f to (defeat_bytes (pair_new win lose same i t k l)) m
  pair-written {d} {f = f} {to} {m = m} same i t k l h one two =
      subst (λ (x : List ℕ). Wrote d f to x m) (sym (pair-bytes same i t k l)) (wrote_then h one two)

  module _ (ones others : List ℕ) where
    pairs_first : (same i t j n : ℕ) → 0 < n → defeat_bytes (pairs_new win lose ones others same i t j n)
        ≡ defeat_bytes (pair_new win lose same i t (get_or ones j 0) (get_or others j 0)) ++ defeat_bytes (pairs_new win lose ones others same i t (j + 1) (n - 1))
    unfolding pairs_new
    pairs_first same i t j zero h = absurd (omega arith)
    pairs_first same i t j (suc n) h =
        ap (λ (m : ℕ). defeat_bytes (pair_new win lose same i t (get_or ones j 0) (get_or others j 0) ++ pairs_new win lose ones others same i t (j + 1) m)) back
        ∙ defeats-append (pair_new win lose same i t (get_or ones j 0) (get_or others j 0)) (pairs_new win lose ones others same i t (j + 1) (suc n - 1))
      where
        back : n ≡ suc n - 1
        back = omega arith

    pairs-none : (same i t j n : ℕ) → n ≤ 0 → defeat_bytes (pairs_new win lose ones others same i t j n) ≡ []
    unfolding pairs_new
    pairs-none same i t j zero h = none
    pairs-none same i t j (suc n) h = absurd (omega arith)

    module _ (low lowers : List ℕ) (m : ℕ) where
      overrides-first : (i n : ℕ) → 0 < n → defeat_bytes (all_new low lowers win lose ones others m i n)
          ≡ defeat_bytes (pairs_new win lose ones others (same_lower low (get_or lowers i 0) i) i (get_or lowers i 0) 0 m)
          ++ defeat_bytes (all_new low lowers win lose ones others m (i + 1) (n - 1))
      unfolding all_new
      overrides-first i zero h = absurd (omega arith)
      overrides-first i (suc n) h =
          ap (λ (c : ℕ). defeat_bytes (here ++ all_new low lowers win lose ones others m (i + 1) c)) back
          ∙ defeats-append here (all_new low lowers win lose ones others m (i + 1) (suc n - 1))
        where
          here : List Defeat
          here = pairs_new win lose ones others (same_lower low (get_or lowers i 0) i) i (get_or lowers i 0) 0 m

          back : n ≡ suc n - 1
          back = omega arith

      overrides-none : (i n : ℕ) → n ≤ 0 → defeat_bytes (all_new low lowers win lose ones others m i n) ≡ []
      unfolding all_new
      overrides-none i zero h = none
      overrides-none i (suc n) h = absurd (omega arith)

-- a piece of what is left: it has room, and is written; nothing left
module _ {out₀ out : List ℕ} {to next : ℕ} {all rest : List ℕ} (w : Writing out₀ out to next all rest) where
  piece-fits : (bs more : List ℕ) → rest ≡ bs ++ more → next + length bs ≤ length out
  piece-fits bs more e = omega (arith, w.fits, ap length e, length-append bs more)

  piece-written : {e : List ℕ} {n : ℕ} (bs more : List ℕ) → rest ≡ bs ++ more → Wrote out e next bs n → Writing out₀ e to n all more
  piece-written bs more e v = writing-next bs more (subst (λ (x : List ℕ). Writing out₀ out to next all x) e w) v

  all-written : rest ≡ [] → Wrote out₀ out to all next
  all-written e = writing-end (subst (λ (x : List ℕ). Writing out₀ out to next all x) e w)

-- the next pair's records
module _ {out₀ out : List ℕ} {to next : ℕ} {all : List ℕ} (win lose ones others : List ℕ) (same i t j n : ℕ)
    (w : Writing out₀ out to next all (defeat_bytes (pairs_new win lose ones others same i t j n))) where
  pub pairs-fit : 0 < n → next + length (defeat_bytes (pair_new win lose same i t (get_or ones j 0) (get_or others j 0))) ≤ length out
  pairs-fit h =
      piece-fits w (defeat_bytes (pair_new win lose same i t (get_or ones j 0) (get_or others j 0)))
      (defeat_bytes (pairs_new win lose ones others same i t (j + 1) (n - 1))) (pairs_first win lose ones others same i t j n h)

  pub pairs_next : {e : List ℕ} {r : ℕ} → 0 < n → Wrote out e next (defeat_bytes (pair_new win lose same i t (get_or ones j 0) (get_or others j 0))) r
      → Writing out₀ e to r all (defeat_bytes (pairs_new win lose ones others same i t (j + 1) (n - 1)))
  pairs_next h v =
      piece-written w (defeat_bytes (pair_new win lose same i t (get_or ones j 0) (get_or others j 0)))
      (defeat_bytes (pairs_new win lose ones others same i t (j + 1) (n - 1))) (pairs_first win lose ones others same i t j n h) v

  pub pairs_end : n ≤ 0 → Wrote out₀ out to all next
  pairs_end h = all-written w (pairs-none win lose ones others same i t j n h)

-- the next override's records: `first` are the positions up to i
module _ {out₀ out : List ℕ} {to next : ℕ} {all : List ℕ} (low lowers win lose ones others : List ℕ) (m i n first : ℕ)
    (w : Writing out₀ out to next all (defeat_bytes (all_new low lowers win lose ones others m i n))) where
  here : List ℕ
  here = defeat_bytes (pairs_new win lose ones others (bit_and (get_or low (get_or lowers i 0) 0) first) i (get_or lowers i 0) 0 m)

  split : first ≡ 2 ^ (i + 1) - 1 → 0 < n
      → defeat_bytes (all_new low lowers win lose ones others m i n) ≡ here ++ defeat_bytes (all_new low lowers win lose ones others m (i + 1) (n - 1))
  unfolding here
  split e h = rw e (overrides-first win lose ones others low lowers m i n h)

  pub overrides-fit : first ≡ 2 ^ (i + 1) - 1 → 0 < n
      → next + length (defeat_bytes (pairs_new win lose ones others (bit_and (get_or low (get_or lowers i 0) 0) first) i (get_or lowers i 0) 0 m)) ≤ length out
  unfolding here
  overrides-fit e h = piece-fits w here (defeat_bytes (all_new low lowers win lose ones others m (i + 1) (n - 1))) (split e h)

  pub overrides-next : {e : List ℕ} {r : ℕ} → first ≡ 2 ^ (i + 1) - 1 → 0 < n
      → Wrote out e next (defeat_bytes (pairs_new win lose ones others (bit_and (get_or low (get_or lowers i 0) 0) first) i (get_or lowers i 0) 0 m)) r
      → Writing out₀ e to r all (defeat_bytes (all_new low lowers win lose ones others m (i + 1) (n - 1)))
  unfolding here
  overrides-next e h v = piece-written w here (defeat_bytes (all_new low lowers win lose ones others m (i + 1) (n - 1))) (split e h) v

  pub overrides-end : n ≤ 0 → Wrote out₀ out to all next
  overrides-end h = all-written w (overrides-none win lose ones others low lowers m i n h)

-- Reading a file, one record each: what is held so far and the part that is left come to.
-- In order: a part that is read on; what a step says of its record; an item's size; reading on; the rules that are counted.
-- Assumes nothing.
use Prim.Native.Nat.{ℕ, suc, ◌+◌, ◌*◌, ◌-◌, ◌≤◌, ◌<◌}
use Rattle.std.specs.Prelude.{Option, Ok, Err, Some, None}
use native.Mathlib.Omega.{arith}
use mathlib.Core.Path.{◌≡◌, refl, sym, ◌∙◌, ap}
use mathlib.Core.Bool.{Bool}
use mathlib.Core.List.{List, [], ◌∷◌}
use lib.ListN.{length, drop}
use lib.Seq.{drop-drop}
use borrow.Author.Tests.{le-ltb, lt-ltb, ltb-false}
use Rattle.buffer.specs.Bytes.{number_at}
use Rattle.literal.specs.declared.Limits.{Limits}
use Rattle.semantics.specs.Rule.{Rule}
use Rattle.semantics.specs.Item.{Item, rule, override, opposition, rules, overrides, oppositions}
use Rattle.record.specs.declared.Reason.TheVariants.{TooLong}
use Rattle.record.specs.declared.Refusal.{Refusal}
use Rattle.record.specs.declared.Step.{Step}
use Rattle.record.specs.declared.Held.{Held}
use Rattle.record.specs.Header.{head_count, positive_count, naf_count}
use Rattle.record.specs.Refusal.{refusal, shifted}
use Rattle.record.specs.Result.{Answer, and_then}
use Rattle.record.specs.Reading.{Mark, RuleMark, OverrideMark, OppositionMark, EndMark, NoMark, Entry, item, end, literals_at, rule_of, body_at, rule_at, override_at, signed_at, opposition_of, opposition_at, end_at, mark_at, marked_record, record_at, nothing, holding, items_from, items, written, held_of, holding_of, reading_of, reading}
use Rattle.record.specs.Code.{step_of, next_of, found_of, total, held_on, read_on, left, rule_count}
use Rattle.record.proofs.Laws.Result.{refused-accepted, accepted-eq, and-then-accepted, refuse-if-accepted, refuse-if-true, refuse-if-false}
use Rattle.record.proofs.Laws.Steps.{items_refused, items-item, items-end}

-- one item more is held
pub total-holding : (h : Held) (i : Item) → total (holding h i) ≡ total h + 1
unfolding holding
total-holding h (rule r) = omega arith
total-holding h (override o) = omega arith
total-holding h (opposition x) = omega arith

held-eq : {a b c d e f : ℕ} → a ≡ d → b ≡ e → c ≡ f
    → ◌≡◌ {A = Held} (record { rules = a; overrides = b; oppositions = c }) (record { rules = d; overrides = e; oppositions = f })
held-eq x y z = cc

-- what is held is what the items come to
pub held_on_lem : (h : Held) (is : List Item)
    → held_on h is
    ≡ record {
      rules = h.rules + length (rules is);
      overrides = h.overrides + length (overrides is);
      oppositions = h.oppositions + length (oppositions is);
    }
unfolding held_on holding rules overrides oppositions
held_on_lem h [] = held-eq (omega arith) (omega arith) (omega arith)
held_on_lem h (rule r ∷ is) = held_on_lem (holding h (rule r)) is ∙ held-eq (omega arith) refl refl
held_on_lem h (override o ∷ is) = held_on_lem (holding h (override o)) is ∙ held-eq refl (omega arith) refl
held_on_lem h (opposition x ∷ is) = held_on_lem (holding h (opposition x)) is ∙ held-eq refl refl (omega arith)

pub held_all : (is : List Item) → held_on nothing is ≡ held_of is
unfolding held_of
held_all is = held_on_lem nothing is ∙ held-eq (omega arith) (omega arith) (omega arith)

-- a step that is a rule, the end or a refusal is that record
pub step-rule : (e : Answer Entry) (size : ℕ) → step_of e ≡ Ok (Step.Rule size) → (r : Rule) × (e ≡ Ok (item (rule r) size))
unfolding step_of
step-rule (Ok (item (rule r) k)) size e = let q : k ≡ size = cc in (r, ap (λ (m : ℕ). Ok (item (rule r) m)) q)
step-rule (Ok (item (override o) k)) size e = let z : ◌≡◌ {A = ℕ} 0 1 = cc in absurd (omega arith)
step-rule (Ok (item (opposition x) k)) size e = let z : ◌≡◌ {A = ℕ} 0 1 = cc in absurd (omega arith)
step-rule (Ok end) size e = let z : ◌≡◌ {A = ℕ} 0 1 = cc in absurd (omega arith)
step-rule (Err x) size e = let z : ◌≡◌ {A = ℕ} 0 1 = cc in absurd (omega arith)

pub step-refused : (e : Answer Entry) (x : Refusal) → step_of e ≡ Err x → e ≡ Err x
unfolding step_of
step-refused (Ok (item (rule r) k)) x e = let z : ◌≡◌ {A = ℕ} 0 1 = cc in absurd (omega arith)
step-refused (Ok (item (override o) k)) x e = let z : ◌≡◌ {A = ℕ} 0 1 = cc in absurd (omega arith)
step-refused (Ok (item (opposition y) k)) x e = let z : ◌≡◌ {A = ℕ} 0 1 = cc in absurd (omega arith)
step-refused (Ok end) x e = let z : ◌≡◌ {A = ℕ} 0 1 = cc in absurd (omega arith)
step-refused (Err y) x e = let q : y ≡ x = cc in ap Err q

next-eq : {m n : ℕ} {h k : Held} → ◌≡◌ {A = Answer (Option (ℕ × Held))} (Ok (Some (m, h))) (Ok (Some (n, k))) → (m ≡ n) × (h ≡ k)
next-eq {m} {n} {h} {k} e = let q : ◌≡◌ {A = ℕ × Held} (m, h) (n, k) = cc in (ap (λ (p : ℕ × Held). p.0) q, ap (λ (p : ℕ × Held). p.1) q)

-- what is found behind a record is the part behind its item, the end or its refusal
pub found-next : (h : Held) (e : Answer Entry) (size : ℕ) (next : Held) → found_of h (step_of e) ≡ Ok (Some (size, next))
    → (i : Item) × (e ≡ Ok (item i size)) × (holding h i ≡ next)
unfolding step_of found_of next_of holding
found-next h (Ok (item (rule r) k)) size next e = let q = next-eq e in (rule r, ap (λ (m : ℕ). Ok (item (rule r) m)) q.0, q.1)
found-next h (Ok (item (override o) k)) size next e = let q = next-eq e in (override o, ap (λ (m : ℕ). Ok (item (override o) m)) q.0, q.1)
found-next h (Ok (item (opposition x) k)) size next e = let q = next-eq e in (opposition x, ap (λ (m : ℕ). Ok (item (opposition x) m)) q.0, q.1)
found-next h (Ok end) size next e = let z : ◌≡◌ {A = ℕ} 0 1 = cc in absurd (omega arith)
found-next h (Err x) size next e = let z : ◌≡◌ {A = ℕ} 0 1 = cc in absurd (omega arith)

pub found-end : (h : Held) (e : Answer Entry) → found_of h (step_of e) ≡ Ok None → e ≡ Ok end
unfolding step_of found_of next_of
found-end h (Ok (item (rule r) k)) e = let z : ◌≡◌ {A = ℕ} 0 1 = cc in absurd (omega arith)
found-end h (Ok (item (override o) k)) e = let z : ◌≡◌ {A = ℕ} 0 1 = cc in absurd (omega arith)
found-end h (Ok (item (opposition x) k)) e = let z : ◌≡◌ {A = ℕ} 0 1 = cc in absurd (omega arith)
found-end h (Ok end) e = refl
found-end h (Err x) e = let z : ◌≡◌ {A = ℕ} 0 1 = cc in absurd (omega arith)

pub found-refused : (h : Held) (e : Answer Entry) (x : Refusal) → found_of h (step_of e) ≡ Err x → e ≡ Err x
unfolding step_of found_of next_of
found-refused h (Ok (item (rule r) k)) x e = let z : ◌≡◌ {A = ℕ} 0 1 = cc in absurd (omega arith)
found-refused h (Ok (item (override o) k)) x e = let z : ◌≡◌ {A = ℕ} 0 1 = cc in absurd (omega arith)
found-refused h (Ok (item (opposition y) k)) x e = let z : ◌≡◌ {A = ℕ} 0 1 = cc in absurd (omega arith)
found-refused h (Ok end) x e = let z : ◌≡◌ {A = ℕ} 0 1 = cc in absurd (omega arith)
found-refused h (Err y) x e = let q : y ≡ x = cc in ap Err q

-- an item's record has six bytes at least and lies within its part
pub record Sized (t : List ℕ) (size : ℕ) : Type 0 where
  pub large : 6 ≤ size
  pub fits : size ≤ length t

item-size-eq : {i j : Item} {m n : ℕ} → item i m ≡ item j n → m ≡ n
item-size-eq e = cc

end-item : {i : Item} {n : ℕ} → end ≡ item i n → ⊥
end-item e = let z : ◌≡◌ {A = ℕ} 0 1 = cc in omega arith

module _ (F : Limits) (t : List ℕ) (i : Item) (size : ℕ) where
  body-size : (d : Bool) (h b c : ℕ) → body_at F d t h b c ≡ Ok (item i size) → Sized t size
  unfolding body_at
  body-size d h b c e =
      let q1 = refuse-if-accepted _ _ _ (item i size) e in
      let q2 = and-then-accepted (literals_at F t 7 (h + b + c)) _ (item i size) q1.1 in
      let q3 = and-then-accepted (rule_of d (number_at t 2) h b q2.0) _ (item i size) q2.2 in
      let same = item-size-eq (accepted-eq q3.2) in
      let fits = ltb-false (length t) (7 + 5 * (h + b + c)) q1.0 in
      record { large = omega (arith, same); fits = omega (arith, same, fits) }

  rule-size : (d : Bool) (n : ℕ) → rule_at F d n t ≡ Ok (item i size) → Sized t size
  unfolding rule_at
  rule-size d n e =
      let q1 = refuse-if-accepted _ _ _ (item i size) e in
      let q2 = refuse-if-accepted _ _ _ (item i size) q1.1 in
      let q3 = refuse-if-accepted _ _ _ (item i size) q2.1 in
      let q4 = refuse-if-accepted _ _ _ (item i size) q3.1 in
      body-size d (head_count t) (positive_count t) (naf_count t) q4.1

  override-size : (n : ℕ) → override_at F n t ≡ Ok (item i size) → Sized t size
  unfolding override_at
  override-size n e =
      let q1 = refuse-if-accepted _ _ _ (item i size) e in
      let q2 = refuse-if-accepted _ _ _ (item i size) q1.1 in
      let q3 = refuse-if-accepted _ _ _ (item i size) q2.1 in
      let q4 = refuse-if-accepted _ _ _ (item i size) q3.1 in
      let same = item-size-eq (accepted-eq q4.1) in
      record { large = omega (arith, same); fits = omega (arith, same, ltb-false (length t) 6 q2.0) }

  opposition-size : (n : ℕ) → opposition_at F n t ≡ Ok (item i size) → Sized t size
  unfolding opposition_at opposition_of
  opposition-size n e =
      let q1 = refuse-if-accepted _ _ _ (item i size) e in
      let q2 = refuse-if-accepted _ _ _ (item i size) q1.1 in
      let q3 = and-then-accepted (signed_at F t 2) _ (item i size) q2.1 in
      let q4 = and-then-accepted (signed_at F t 7) _ (item i size) q3.2 in
      let q5 = refuse-if-accepted _ _ _ (item i size) q4.2 in
      let same = item-size-eq (accepted-eq q5.1) in
      record { large = omega (arith, same); fits = omega (arith, same, ltb-false (length t) 12 q2.0) }

  pub record-size : (h : Held) → record_at F h t ≡ Ok (item i size) → Sized t size
  unfolding record_at marked_record end_at
  record-size h e = go (mark_at F t) (refuse-if-accepted _ _ _ (item i size) e).1
    where
      go : (m : Mark) → marked_record F m h t ≡ Ok (item i size) → Sized t size
      go (RuleMark d) f = rule-size d h.rules f
      go OverrideMark f = override-size h.overrides f
      go OppositionMark f = opposition-size h.oppositions f
      go EndMark f =
          let q1 = refuse-if-accepted _ _ _ (item i size) f in
          absurd (end-item (accepted-eq (refuse-if-accepted _ _ _ (item i size) q1.1).1))
      go NoMark f = absurd (refused-accepted f)

pub step-size : (F : Limits) (h : Held) (t : List ℕ) (size : ℕ) → step_of (record_at F h t) ≡ Ok (Step.Rule size) → Sized t size
step-size F h t size e = let w = step-rule (record_at F h t) size e in record-size F t (rule w.0) size h w.1

pub found-size : (F : Limits) (h : Held) (t : List ℕ) (size : ℕ) (next : Held) → found_of h (step_of (record_at F h t)) ≡ Ok (Some (size, next)) → Sized t size
found-size F h t size next e = let w = found-next h (record_at F h t) size next e in record-size F t w.0 size h w.1

-- one item more is held
pub found-total : (F : Limits) (h : Held) (t : List ℕ) (size : ℕ) (next : Held) → found_of h (step_of (record_at F h t)) ≡ Ok (Some (size, next))
    → total next ≡ total h + 1
found-total F h t size next e = let w = found-next h (record_at F h t) size next e in ap total (sym w.2) ∙ total-holding h w.0

-- an item more before a part is an item more held
read-cons : (h : Held) (i : Item) (q : Answer (List Item)) → read_on h (and_then q (λ is. Ok (i ∷ is))) ≡ read_on (holding h i) q
unfolding read_on and_then held_on
read-cons h i (Ok is) = refl
read-cons h i (Err x) = refl

module _ (F : Limits) (s : List ℕ) where
  -- 1: the slice is too long
  pub items-long : F.length < length s → holding_of (items F s) ≡ Err (refusal TooLong 0)
  unfolding items holding_of
  items-long h = ap holding_of (refuse-if-true _ _ _ (lt-ltb F.length (length s) h))

  all_read : (q : Answer (List Item)) → holding_of q ≡ read_on nothing q
  unfolding holding_of read_on
  all_read (Ok is) = ap Ok (sym (held_all is))
  all_read (Err x) = refl

  pub items_left : length s ≤ F.length → holding_of (items F s) ≡ left F s 0 nothing
  unfolding items left
  items_left h =
      ap holding_of (refuse-if-false _ _ _ (le-ltb F.length (length s) h)) ∙ all_read (items_from F (length s + 1) s 0 nothing)
      ∙ ap (λ (f : ℕ). read_on nothing (items_from F f s 0 nothing)) fuel
    where
      fuel : length s + 1 ≡ length s + 1 - 0
      fuel = omega arith

  module _ (at : ℕ) (h : Held) (early : total h ≤ length s) where
    fuel-more : length s + 1 - total h ≡ suc (length s + 1 - (total h + 1))
    fuel-more = omega arith

    pub left-next : (size : ℕ) (next : Held) → found_of h (step_of (record_at F h (drop at s))) ≡ Ok (Some (size, next)) → left F s at h ≡ left F s (at + size) next
    unfolding left
    left-next size next e =
        let w = found-next h (record_at F h (drop at s)) size next e in
        let f = length s + 1 - (total h + 1) in
        ap (λ (f : ℕ). read_on h (items_from F f (drop at s) at h)) fuel-more
        ∙ ap (read_on h) (items-item F f (drop at s) at h w.0 size w.1)
        ∙ read-cons h w.0 (items_from F f (drop size (drop at s)) (at + size) (holding h w.0))
        ∙ ap (λ (t : List ℕ). read_on (holding h w.0) (items_from F f t (at + size) (holding h w.0))) (drop-drop size at s)
        ∙ ap (λ (k : ℕ). read_on (holding h w.0) (items_from F (length s + 1 - k) (drop (at + size) s) (at + size) (holding h w.0))) (sym (total-holding h w.0))
        ∙ ap (λ (k : Held). left F s (at + size) k) w.2

    pub left_end : found_of h (step_of (record_at F h (drop at s))) ≡ Ok None → left F s at h ≡ Ok h
    unfolding left read_on held_on
    left_end e =
        ap (λ (f : ℕ). read_on h (items_from F f (drop at s) at h)) fuel-more
        ∙ ap (read_on h) (items-end F (length s + 1 - (total h + 1)) (drop at s) at h (found-end h (record_at F h (drop at s)) e))

    pub left-refused : (x : Refusal) → found_of h (step_of (record_at F h (drop at s))) ≡ Err x → left F s at h ≡ Err (shifted at x)
    unfolding left read_on
    left-refused x e =
        ap (λ (f : ℕ). read_on h (items_from F f (drop at s) at h)) fuel-more
        ∙ ap (read_on h) (items_refused F (length s + 1 - (total h + 1)) (drop at s) at h x (found-refused h (record_at F h (drop at s)) x e))

-- reading counts the rules that are held
pub rules-counted : (F : Limits) (s : List ℕ) → reading F s ≡ rule_count (holding_of (items F s))
unfolding reading written reading_of and_then rule_count holding_of held_of
rules-counted F s = go (items F s)
  where
    go : (q : Answer (List Item)) → reading_of (and_then q (λ is. Ok (rules is))) ≡ rule_count (holding_of q)
    go (Ok is) = refl
    go (Err x) = refl

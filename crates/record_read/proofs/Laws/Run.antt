-- Laws of a run of rules: reading goes on where it ends as it would have from its start on. The loop knows how many rules are held alone, so
-- they speak of all counts with so many.
-- In order: what a run has come to; its start; a rule more; its end, and what is held there.
-- Assumes nothing.
use Prim.Native.Nat.{ℕ, ◌+◌, ◌*◌, ◌≤◌}
use Rattle.record.specs.Result.{Answer}
use Rattle.std.specs.Prelude.{Result, Option, Ok, Err, Some, None}
use native.Mathlib.Omega.{arith}
use mathlib.Core.Path.{◌≡◌, refl, sym, ◌∙◌, ap, subst}
use mathlib.Core.List.{List}
use lib.ListN.{length, drop, length-drop}
use Rattle.literal.specs.declared.Limits.{Limits}
use Rattle.record.specs.declared.Refusal.{Refusal}
use Rattle.record.specs.declared.Step.{Step}
use Rattle.record.specs.declared.Held.{Held}
use Rattle.record.specs.Reading.{Entry, record_at}
use Rattle.record.specs.Code.{step_of, next_of, found_of, total, left}
use Rattle.record.specs.Refusal.{shifted}
use Rattle.record.proofs.Laws.Program.{Sized, step-size, found-size, found-total, left-next, left_end, left-refused}
use Rattle.record.proofs.Laws.Places.{found-place}
use Rattle.record_read.specs.declared.Stop.{Stop}
use Rattle.record_read.specs.declared.Rules.{Rules}
use Rattle.record_read.specs.Code.{StopAt, RunAt, with_rules, Stopped}

-- from `from` on, where h was held, to `at`, where m rules are held
pub record Gone (F : Limits) (s : List ℕ) (from : ℕ) (h : Held) (at m : ℕ) : Type 0 where
  pub few : 6 * total (with_rules h m) ≤ at
  pub same : left F s from h ≡ left F s at (with_rules h m)

-- so with any counts of n rules
pub record Going (F : Limits) (s : List ℕ) (from n at m : ℕ) : Type 0 where
  pub later : from ≤ at
  pub within : at ≤ length s
  pub gone : (h : Held) → h.rules ≡ n → 6 * total h ≤ from → Gone F s from h at m

same-rules : (h : Held) {n : ℕ} → h.rules ≡ n → h ≡ with_rules h n
same-rules h e = ap (λ (k : ℕ). with_rules h k) e

pub going_start : (F : Limits) (s : List ℕ) {from : ℕ} (n : ℕ) → from ≤ length s → Going F s from n from n
going_start F s {from} n within =
    record { later = omega arith; within = within; gone = λ h e few. record { few = omega (arith, e); same = ap (left F s from) (same-rules h e) } }

-- the record at `at` is a rule's, with any counts of m rules
module _ {F : Limits} {s : List ℕ} {from n at m : ℕ} (g : Going F s from n at m) (t : List ℕ) (part : t ≡ drop at s) (size : ℕ)
    (step : (h : Held) → h.rules ≡ m → step_of (record_at F h t) ≡ Ok (Step.Rule size)) where
  -- it has six bytes or more and lies within the slice
  pub rule-sized : (6 ≤ size) × (at + size ≤ length s)
  rule-sized =
      let some : Held = record { rules = m; overrides = 0; oppositions = 0 } in
      let sized : Sized t size = step-size F some t size (step some refl) in
      (sized.large, omega (arith, sized.fits, ap length part, length-drop at s, g.within))

  pub going_next : Going F s from n (at + size) (m + 1)
  unfolding found_of next_of
  going_next =
      record {
        later = omega (arith, g.later);
        within = rule-sized.1;
        gone = λ h e few.
            let w = g.gone h e few in
            let here = ap (λ (u : List ℕ). step_of (record_at F (with_rules h m) u)) (sym part) ∙ step (with_rules h m) refl in
            record {
              few = omega (arith, w.few, rule-sized.0);
              same = w.same
                  ∙ left-next F s at (with_rules h m) (omega (arith, w.few, g.within)) size (with_rules h (m + 1)) (ap (found_of (with_rules h m)) here);
            };
      }

-- what ends it was told with any counts of m rules
pub going-stopped : {F : Limits} {s : List ℕ} {from at m : ℕ} (h : Held) → Going F s from h.rules at m → 6 * total h ≤ from
    → (t : List ℕ) → t ≡ drop at s → (x : Stop) → ((k : Held) → k.rules ≡ m → StopAt F t (record_at F k t) x)
    → Stopped F s from h (record { at = at; rules = m; stop = x })
going-stopped {F} {s} {m = m} h g few t part x ends =
    let w = g.gone h refl few in
    record {
      later = g.later;
      within = g.within;
      few = w.few;
      same = w.same;
      ends = subst (λ (u : List ℕ). StopAt F u (record_at F (with_rules h m) u) x) part (ends (with_rules h m) refl);
    }

-- p is held where the run ends
pub record Passed (F : Limits) (s : List ℕ) (from : ℕ) (h : Held) (at : ℕ) (p : Held) (x : Stop) : Type 0 where
  pub few : 6 * total p ≤ at
  pub same : left F s from h ≡ left F s at p
  pub ends : (t : List ℕ) → t ≡ drop at s → StopAt F t (record_at F p t) x

pub stopped-passed : {F : Limits} {s : List ℕ} {from : ℕ} {h : Held} {r : Rules} → Stopped F s from h r → (p : Held) → p ≡ with_rules h r.rules
    → Passed F s from h r.at p r.stop
stopped-passed {F} {s} {from} {h} {r} w p e =
    subst (λ (k : Held). Passed F s from h r.at k r.stop) (sym e)
    (record {
      few = w.few;
      same = w.same;
      ends = λ t part. subst (λ (u : List ℕ). StopAt F u (record_at F (with_rules h r.rules) u) r.stop) (sym part) w.ends;
    })

-- what a record of a run was told to be
module _ (F : Limits) (t : List ℕ) (e : Answer Entry) (r : Result ℕ Stop) where
  pub run-rule : (size : ℕ) → r ≡ Ok size → RunAt F t e r → step_of e ≡ Ok (Step.Rule size)
  run-rule size q w = subst (RunAt F t e) q w

  pub run-stop : (x : Stop) → r ≡ Err x → RunAt F t e r → StopAt F t e x
  run-stop x q w = subst (RunAt F t e) q w

  pub run-refuses : (x : Refusal) → r ≡ Err (Stop.Refused x) → step_of e ≡ Err x → RunAt F t e r
  run-refuses x q p = subst (RunAt F t e) (sym q) p

-- the record at the place where the run ends, by what was told of the part there: what is left behind it, the end, or its refusal
module _ (F : Limits) (s : List ℕ) (at : ℕ) (h : Held) (r : Rules) (p : Held) (run : Stopped F s at h r) (same : p ≡ with_rules h r.rules)
    (t : List ℕ) (part : t ≡ drop r.at s) (x : Answer Step) (told : x ≡ step_of (record_at F p t)) where
  found-here : (y : Answer (Option (ℕ × Held))) → found_of p x ≡ y → found_of p (step_of (record_at F p (drop r.at s))) ≡ y
  found-here y e = ap (λ (u : List ℕ). found_of p (step_of (record_at F p u))) (sym part) ∙ ap (found_of p) (sym told) ∙ e

  passed : Passed F s at h r.at p r.stop
  passed = stopped-passed run p same

  pub behind-size : (size : ℕ) (more : Held) → found_of p x ≡ Ok (Some (size, more)) → (6 ≤ size) × (r.at + size ≤ length s)
  behind-size size more e =
      let sized = found-size F p (drop r.at s) size more (found-here _ e) in
      (sized.large, omega (arith, sized.fits, length-drop r.at s, run.within))

  pub behind-few : (size : ℕ) (more : Held) → found_of p x ≡ Ok (Some (size, more)) → 6 * total more ≤ r.at + size
  behind-few size more e =
      let sized = found-size F p (drop r.at s) size more (found-here _ e) in
      omega (arith, sized.large, found-total F p (drop r.at s) size more (found-here _ e), passed.few)

  pub behind-next : (size : ℕ) (more : Held) → found_of p x ≡ Ok (Some (size, more)) → left F s at h ≡ left F s (r.at + size) more
  behind-next size more e = passed.same ∙ left-next F s r.at p (omega (arith, passed.few, run.within)) size more (found-here _ e)

  pub behind-end : found_of p x ≡ Ok None → left F s at h ≡ Ok p
  behind-end e = passed.same ∙ left_end F s r.at p (omega (arith, passed.few, run.within)) (found-here _ e)

  pub behind-place : (y : Refusal) → found_of p x ≡ Err y → r.at + y.place ≤ length s
  behind-place y e = omega (arith, found-place F p (drop r.at s) y (found-here _ e), length-drop r.at s, run.within)

  pub behind-refused : (y : Refusal) → found_of p x ≡ Err y → left F s at h ≡ Err (shifted r.at y)
  behind-refused y e = passed.same ∙ left-refused F s r.at p (omega (arith, passed.few, run.within)) y (found-here _ e)

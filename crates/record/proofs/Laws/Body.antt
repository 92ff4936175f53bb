-- Reading a rule's literals and its head, test by test. Assumes nothing.
use Prim.Native.Nat.{ℕ, zero, suc, ◌+◌, ◌*◌, ◌≤◌, ◌<◌}
use Rattle.std.specs.Prelude.{Ok, Err}
use native.Mathlib.Omega.{arith}
use native.Mathlib.Nat.{add-zero}
use mathlib.Core.Path.{◌≡◌, refl, sym, ◌∙◌, ap, ap₂}
use mathlib.Core.Bool.{Bool, true, false, ◌&&◌, true≢false}
use mathlib.Core.List.{List, [], ◌∷◌}
use mathlib.Core.Option.{none, some}
use lib.Dec.{leb}
use lib.ListN.{length, get_or, take, drop}
use lib.Seq.{get_or-drop, length-take-le}
use borrow.Author.Tests.{le-ltb, lt-ltb}
use Rattle.buffer.specs.Bytes.{number_at}
use Rattle.literal.specs.declared.Limits.{Limits}
use Rattle.literal.specs.declared.SignedAtom.{SignedAtom}
use Rattle.literal.specs.declared.SignedAtom.TheVariants.{Positive, Negative}
use Rattle.literal.specs.declared.Literal.{Literal}
use Rattle.literal.specs.declared.Literal.TheVariants.{Signed, Defeated, Derived, RuleDefeated}
use Rattle.literal.specs.Literal.{Decoded}
use Rattle.literal.specs.Literal.{Valid, Wrong}
use Rattle.literal.specs.Literal.{decoded, kind}
use Rattle.literal.proofs.Laws.Literal.{decoded-kind}
use Rattle.semantics.specs.Set.{each_of}
use Rattle.semantics.specs.Item.{rule}
use Rattle.semantics.specs.Rule.{Rule, defeasible}
use Rattle.record.specs.declared.Reason.TheVariants.{LiteralsCut, HeadWrong, LiteralWrong}
use Rattle.record.specs.declared.Refusal.{Refusal}
use Rattle.record.specs.declared.Step.{Step}
use Rattle.record.specs.Refusal.{refusal}
use Rattle.record.specs.Result.{Answer, and_then}
use Rattle.record.specs.Reading.{Entry, item, literals_at, options_of, defeasible_rule, rule_of, body_at}
use Rattle.record.specs.Code.{run_of, signed_kinds, step_of}
use Rattle.record.proofs.Laws.Result.{refused-accepted, accepted-eq, and-then-accepted, refuse-if-false, refuse-if-true}

-- a literal that is an atom or a negated atom
is_signed : Literal → Bool
is_signed (Signed a) = true
is_signed (Defeated t a) = false
is_signed (Derived t a) = false
is_signed (RuleDefeated n) = false

-- its kind says so
kind-signed : (l : Literal) → leb (kind l) 1 ≡ is_signed l
unfolding kind is_signed
kind-signed (Signed (Positive a)) = refl
kind-signed (Signed (Negative a)) = refl
kind-signed (Defeated t (Positive a)) = refl
kind-signed (Defeated t (Negative a)) = refl
kind-signed (Derived t (Positive a)) = refl
kind-signed (Derived t (Negative a)) = refl
kind-signed (RuleDefeated n) = refl

-- such literals are options; where one is a mark, there are none
options-signed : (ls : List Literal) → each_of is_signed ls ≡ true → (h : List SignedAtom) × (options_of ls ≡ some h)
unfolding is_signed options_of
options-signed [] e = ([], refl)
options-signed (Signed a ∷ ls) e = let w = options-signed ls e in (a ∷ w.0, rw w.1)
options-signed (Defeated t a ∷ ls) e = absurd (true≢false (sym e))
options-signed (Derived t a ∷ ls) e = absurd (true≢false (sym e))
options-signed (RuleDefeated n ∷ ls) e = absurd (true≢false (sym e))

options-marked : (ls : List Literal) → each_of is_signed ls ≡ false → options_of ls ≡ none
unfolding is_signed options_of
options-marked [] e = absurd (true≢false e)
options-marked (Signed a ∷ ls) e = rw (options-marked ls e)
options-marked (Defeated t a ∷ ls) e = refl
options-marked (Derived t a ∷ ls) e = refl
options-marked (RuleDefeated n ∷ ls) e = refl

-- a defeasible rule is made exactly of a head that has a literal and no mark
defeasible-empty : (tag : ℕ) (hs bs cs : List Literal) → length hs ≡ 0 → defeasible_rule tag hs bs cs ≡ Err (refusal HeadWrong 0)
unfolding defeasible_rule
defeasible-empty tag [] bs cs e = refl
defeasible-empty tag (l ∷ hs) bs cs e = absurd (omega arith)

defeasible-marked : (tag : ℕ) (hs bs cs : List Literal) → each_of is_signed hs ≡ false → defeasible_rule tag hs bs cs ≡ Err (refusal HeadWrong 0)
unfolding defeasible_rule
defeasible-marked tag [] bs cs e = absurd (true≢false e)
defeasible-marked tag (l ∷ hs) bs cs e = rw (options-marked (l ∷ hs) e, defeasible_rule)

defeasible-signed : (tag : ℕ) (hs bs cs : List Literal) → 0 < length hs → each_of is_signed hs ≡ true → (r : Rule) × (defeasible_rule tag hs bs cs ≡ Ok r)
unfolding defeasible_rule
defeasible-signed tag [] bs cs h e = absurd (omega arith)
defeasible-signed tag (l ∷ hs) bs cs h e = let w = options-signed (l ∷ hs) e in (defeasible (record { 0 = tag }) w.0 bs cs, rw (w.1, defeasible_rule))

-- a right run of literals
module _ (F : Limits) (t : List ℕ) where
  -- its first literal and the rest
  run-first : (at n : ℕ) (ls : List Literal) → literals_at F t at (suc n) ≡ Ok ls
      → (l : Literal) × (ms : List Literal) × (l ∷ ms ≡ ls) × (decoded F (drop at t) ≡ Valid l) × (literals_at F t (at + 5) n ≡ Ok ms)
  unfolding literals_at
  run-first at n ls e = go (decoded F (drop at t)) refl e
    where
      step : Decoded → Answer (List Literal)
      step d = elim d [ Valid l ↦ and_then (literals_at F t (at + 5) n) (λ ms. Ok (l ∷ ms)) | Wrong ↦ Err (refusal LiteralWrong at) ]

      go : (d : Decoded) → decoded F (drop at t) ≡ d → step d ≡ Ok ls
          → (l : Literal) × (ms : List Literal) × (l ∷ ms ≡ ls) × (decoded F (drop at t) ≡ Valid l) × (literals_at F t (at + 5) n ≡ Ok ms)
      go Wrong q f = absurd (refused-accepted f)
      go (Valid l) q f = let w = and-then-accepted (literals_at F t (at + 5) n) (λ ms. Ok (l ∷ ms)) ls f in (l, w.0, accepted-eq w.2, q, w.1)

  run_length : (n at : ℕ) (ls : List Literal) → literals_at F t at n ≡ Ok ls → length ls ≡ n
  unfolding literals_at
  run_length zero at ls e = ap length (sym (accepted-eq e))
  run_length (suc n) at ls e = let w = run-first at n ls e in ap length (sym w.2) ∙ ap suc (run_length n (at + 5) w.1 w.4)

  -- the kind bytes of its first literals tell whether they are signed atoms
  run-kinds : (h n at : ℕ) (ls : List Literal) → h ≤ n → literals_at F t at n ≡ Ok ls → signed_kinds t at h ≡ each_of is_signed (take h ls)
  unfolding signed_kinds
  run-kinds zero n at ls le e = refl
  run-kinds (suc h) zero at ls le e = absurd (omega arith)
  run-kinds (suc h) (suc n) at ls le e =
      let w = run-first at n ls e in
      let byte : get_or t at 0 ≡ kind w.0 = sym (get_or-drop at t 0 0 ∙ ap (λ (i : ℕ). get_or t i 0) (add-zero at)) ∙ decoded-kind F (drop at t) w.0 w.3 in
      ap₂ (λ (x y : Bool). x && y) (ap (λ (k : ℕ). leb k 1) byte ∙ kind-signed w.0) (run-kinds h n (at + 5) w.1 (omega arith) w.4)
      ∙ ap (λ (ms : List Literal). each_of is_signed (take (suc h) ms)) w.2

-- what a run says of its literals
run-right : (r : Answer (List Literal)) → run_of r ≡ Ok tt → (ls : List Literal) × (r ≡ Ok ls)
unfolding run_of
run-right (Ok ls) e = (ls, refl)
run-right (Err x) e = let z : ◌≡◌ {A = ℕ} 0 1 = cc in absurd (omega arith)

run-refused : (r : Answer (List Literal)) (x : Refusal) → run_of r ≡ Err x → r ≡ Err x
unfolding run_of
run-refused (Ok ls) x e = let z : ◌≡◌ {A = ℕ} 0 1 = cc in absurd (omega arith)
run-refused (Err y) x e = let q : y ≡ x = cc in ap Err q

-- a rule's body, test by test
module _ (F : Limits) (d : Bool) (t : List ℕ) (h b c : ℕ) where
  size : ℕ
  size = 7 + 5 * (h + b + c)

  sized : Rule → Answer Entry
  sized r = Ok (item (rule r) size)

  finish : List Literal → Answer Entry
  finish ls = and_then (rule_of d (number_at t 2) h b ls) sized

  -- 2: the literals are cut
  pub body-cut : length t < 7 + 5 * (h + b + c) → step_of (body_at F d t h b c) ≡ Err (refusal LiteralsCut 0)
  unfolding body_at step_of
  body-cut short = ap step_of (refuse-if-true _ _ _ (lt-ltb (length t) (7 + 5 * (h + b + c)) short))

  module _ (fits : 7 + 5 * (h + b + c) ≤ length t) where
    body_run : body_at F d t h b c ≡ and_then (literals_at F t 7 (h + b + c)) finish
    unfolding body_at finish sized size
    body_run = refuse-if-false _ _ _ (le-ltb (length t) (7 + 5 * (h + b + c)) fits)

    -- 5: the first wrong literal
    pub body-wrong : (x : Refusal) → run_of (literals_at F t 7 (h + b + c)) ≡ Err x → step_of (body_at F d t h b c) ≡ Err x
    unfolding step_of and_then
    body-wrong x e = ap step_of (body_run ∙ ap (λ (r : Answer (List Literal)). and_then r finish) (run-refused (literals_at F t 7 (h + b + c)) x e))

    body-right : (ls : List Literal) → literals_at F t 7 (h + b + c) ≡ Ok ls → body_at F d t h b c ≡ finish ls
    unfolding and_then
    body-right ls e = body_run ∙ ap (λ (r : Answer (List Literal)). and_then r finish) e

    -- a strict rule
    pub body-strict : d ≡ false → run_of (literals_at F t 7 (h + b + c)) ≡ Ok tt → step_of (body_at F d t h b c) ≡ Ok (Step.Rule (7 + 5 * (h + b + c)))
    unfolding step_of finish rule_of and_then sized size
    body-strict e right =
        let w = run-right (literals_at F t 7 (h + b + c)) right in
        ap step_of (body-right w.0 w.1 ∙ ap (λ (x : Bool). and_then (rule_of x (number_at t 2) h b w.0) sized) e)

    module _ (e : d ≡ true) (right : run_of (literals_at F t 7 (h + b + c)) ≡ Ok tt) where
      ls : List Literal
      ls = (run-right (literals_at F t 7 (h + b + c)) right).0

      run_is : literals_at F t 7 (h + b + c) ≡ Ok ls
      unfolding ls
      run_is = (run-right (literals_at F t 7 (h + b + c)) right).1

      rest : Answer Rule → Answer Entry
      rest r = and_then r sized

      body-defeasible : body_at F d t h b c ≡ rest (defeasible_rule (number_at t 2) (take h ls) (take b (drop h ls)) (drop (h + b) ls))
      unfolding finish rule_of rest
      body-defeasible = body-right ls run_is ∙ ap (λ (x : Bool). and_then (rule_of x (number_at t 2) h b ls) sized) e

      heads-count : length (take h ls) ≡ h
      heads-count = length-take-le h ls (omega (arith, run_length F t (h + b + c) 7 ls run_is))

      heads-kinds : signed_kinds t 7 h ≡ each_of is_signed (take h ls)
      heads-kinds = run-kinds F t h (h + b + c) 7 ls (omega arith) run_is

      -- 7: a defeasible head that is empty
      pub body-empty : h ≡ 0 → step_of (body_at F d t h b c) ≡ Err (refusal HeadWrong 0)
      unfolding step_of rest and_then
      body-empty z =
          ap step_of (body-defeasible ∙ ap rest (defeasible-empty (number_at t 2) (take h ls) (take b (drop h ls)) (drop (h + b) ls) (heads-count ∙ z)))

      -- 7: one that holds a mark
      pub body-marked : signed_kinds t 7 h ≡ false → step_of (body_at F d t h b c) ≡ Err (refusal HeadWrong 0)
      unfolding step_of rest and_then
      body-marked m =
          ap step_of (body-defeasible ∙ ap rest (defeasible-marked (number_at t 2) (take h ls) (take b (drop h ls)) (drop (h + b) ls) (sym heads-kinds ∙ m)))

      -- a defeasible rule
      pub body-signed : 0 < h → signed_kinds t 7 h ≡ true → step_of (body_at F d t h b c) ≡ Ok (Step.Rule (7 + 5 * (h + b + c)))
      unfolding step_of rest and_then sized size
      body-signed full m =
          let w = defeasible-signed (number_at t 2) (take h ls) (take b (drop h ls)) (drop (h + b) ls) (omega (arith, heads-count)) (sym heads-kinds ∙ m) in
          ap step_of (body-defeasible ∙ ap rest w.1)

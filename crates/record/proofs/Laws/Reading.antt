-- The law of reading: a form reads b as these items exactly if b is their encoding and they keep the form's limits.
-- In order: what reading answered; the law; the program that is meant; files without sheets, and forms without them.
-- Assumes nothing.
use Prim.Native.Nat.{ℕ, ◌+◌, ◌≤◌}
use Rattle.std.specs.Prelude.{Ok, Err}
use native.Mathlib.Omega.{arith}
use mathlib.Core.Path.{◌≡◌, refl, sym, ◌∙◌, ap, subst}
use mathlib.Core.Logic.{◌↔◌}
use mathlib.Core.Bool.{Bool, true, false, ◌||◌, true≢false}
use mathlib.Core.List.{List, ◌++◌, map}
use lib.Dec.{T, ltb}
use lib.ListN.{length}
use borrow.Author.Tests.{le-ltb, ltb-false}
use Rattle.buffer.specs.Bytes.{Bytes}
use Rattle.literal.specs.declared.Limits.{Limits}
use Rattle.semantics.specs.Rule.{Program}
use Rattle.semantics.specs.Item.{Item, rule, rules, overrides, oppositions, expanded}
use Rattle.record.specs.declared.Refusal.{Refusal}
use Rattle.record.specs.declared.Held.{Held}
use Rattle.record.specs.Result.{Answer, and_then}
use Rattle.record.specs.Layout.{encoded_end, encoded_program, keeps, encoded_items, encoded_file, keeps_file}
use Rattle.record.specs.Reading.{nothing, items_from, items, parsed, held_of, holding_of, reading_of}
use Rattle.record.specs.Code.{sheeted}
use Rattle.record.proofs.Laws.Result.{accepted-eq, and-then-accepted, refuse-if-accepted, refuse-if-false}
use Rattle.record.proofs.Laws.Layout.{items-below-length}
use Rattle.record.proofs.Laws.Keeps.{kept-file, keeps-file}
use Rattle.record.proofs.Laws.Program.{held_all}
use Rattle.record.proofs.Laws.Sound.{Fitting, items-sound}
use Rattle.record.proofs.Laws.Complete.{items-complete}
use Rattle.record.proofs.Laws.Unsheeted.{expanded-rules, file-bytes, program-file, file-program, all-rules}

-- the rules, or the literals, that reading counted
module _ {A : Type 0} where
  pub read_count : (q : Answer (List A)) (k : ℕ) → reading_of q ≡ Ok k → (xs : List A) × (q ≡ Ok xs) × (length xs ≡ k)
  unfolding reading_of
  read_count (Ok xs) k e = let n : length xs ≡ k = cc in (xs, refl, n)
  read_count (Err x) k e = let z : ◌≡◌ {A = ℕ} 0 1 = cc in absurd (omega arith)

  pub read-refused : (q : Answer (List A)) (x : Refusal) → reading_of q ≡ Err x → q ≡ Err x
  unfolding reading_of
  read-refused (Ok xs) x e = let z : ◌≡◌ {A = ℕ} 0 1 = cc in absurd (omega arith)
  read-refused (Err y) x e = let q : y ≡ x = cc in ap Err q

-- the items that are held
pub held_items : (q : Answer (List Item)) (h : Held) → holding_of q ≡ Ok h → (is : List Item) × (q ≡ Ok is) × (held_of is ≡ h)
unfolding holding_of
held_items (Ok is) h e = (is, refl, (cc))
held_items (Err x) h e = let z : ◌≡◌ {A = ℕ} 0 1 = cc in absurd (omega arith)

pub held-refused : (q : Answer (List Item)) (x : Refusal) → holding_of q ≡ Err x → q ≡ Err x
unfolding holding_of
held-refused (Ok is) x e = let z : ◌≡◌ {A = ℕ} 0 1 = cc in absurd (omega arith)
held-refused (Err y) x e = let q : y ≡ x = cc in ap Err q

-- where no sheet record is held there is no override and no opposition
pub none-sheeted : (is : List Item) → sheeted (held_of is) ≡ false → (length (overrides is) ≡ 0) × (length (oppositions is) ≡ 0)
unfolding sheeted held_of
none-sheeted is e = go (ltb 0 (length (overrides is))) (ltb 0 (length (oppositions is))) refl refl e
  where
    go : (a b : Bool) → ltb 0 (length (overrides is)) ≡ a → ltb 0 (length (oppositions is)) ≡ b → (a || b) ≡ false
        → (length (overrides is) ≡ 0) × (length (oppositions is) ≡ 0)
    go true b p q e = absurd (true≢false e)
    go false true p q e = absurd (true≢false e)
    go false false p q e = (omega (arith, ltb-false 0 (length (overrides is)) p), omega (arith, ltb-false 0 (length (oppositions is)) q))

module _ (F : Limits) where
  -- what is read is the encoding of items within the limits
  pub items-read : (b : List ℕ) (is : List Item) → Bytes b → items F b ≡ Ok is → (b ≡ encoded_file is) × T (keeps_file F is)
  unfolding items encoded_file held_of
  items-read b is bytes e =
      let q = refuse-if-accepted _ _ _ is e in
      let none : Fitting F nothing = record { rules = omega arith; overrides = omega arith; oppositions = omega arith } in
      let w = items-sound F (length b + 1) b 0 nothing is bytes none q.1 in
      let all = subst (Fitting F) (held_all is) w.room in
      let same = w.bytes ∙ ap (λ (h : Held). encoded_items is ++ encoded_end h.rules) (held_all is) in
      let short = subst (λ (bs : List ℕ). length bs ≤ F.length) same (ltb-false F.length (length b) q.0) in
      (same, keeps-file F is all.rules all.overrides all.oppositions w.keeps short)

  -- the encoding of items within the limits is read as those items
  pub items-written : (is : List Item) → T (keeps_file F is) → items F (encoded_file is) ≡ Ok is
  unfolding items encoded_file held_of
  items-written is k =
      let w = kept-file F is k in
      let room : Fitting F (held_of is) = record { rules = w.rules; overrides = w.overrides; oppositions = w.oppositions } in
      refuse-if-false _ _ _ (le-ltb F.length (length (encoded_file is)) w.short)
      ∙ ap (λ (h : Held). items_from F (length (encoded_file is) + 1) (encoded_items is ++ encoded_end h.rules) 0 nothing) (sym (held_all is))
      ∙ items-complete F (length (encoded_file is) + 1) is 0 nothing w.each (subst (Fitting F) (sym (held_all is)) room) (omega (arith, items-below-length is))

  -- the law of reading: b is read as these items exactly if it is their encoding and they keep the form's limits
  pub items-iff : (b : List ℕ) (is : List Item) → Bytes b → (items F b ≡ Ok is) ↔ ((b ≡ encoded_file is) × T (keeps_file F is))
  items-iff b is bytes = (items-read b is bytes, λ w. ap (items F) w.0 ∙ items-written is w.1)

  -- the program that is meant is that of the items
  pub parsed-items : (b : List ℕ) (p : Program) → parsed F b ≡ Ok p → (is : List Item) × (items F b ≡ Ok is) × (expanded is ≡ p)
  unfolding parsed
  parsed-items b p e = let w = and-then-accepted (items F b) (λ is. Ok (expanded is)) p e in (w.0, w.1, accepted-eq w.2)

  pub items-parsed : (b : List ℕ) (is : List Item) → items F b ≡ Ok is → parsed F b ≡ Ok (expanded is)
  unfolding parsed and_then
  items-parsed b is e = ap (λ (r : Answer (List Item)). and_then r (λ is. Ok (expanded is))) e

  -- the encoding of a program within the limits is read as that program
  pub parsed-complete : (p : Program) → T (keeps F p) → parsed F (encoded_program p) ≡ Ok p
  parsed-complete p k =
      ap (parsed F) (sym (file-bytes p)) ∙ items-parsed (encoded_file (map rule p)) (map rule p) (items-written (map rule p) (program-file F p k))
      ∙ ap Ok (expanded-rules p)

  -- a file that holds no sheet record is the encoding of the program that it means
  pub unsheeted : (b : List ℕ) (is : List Item) → Bytes b → items F b ≡ Ok is → length (overrides is) ≡ 0 → length (oppositions is) ≡ 0
      → (b ≡ encoded_program (expanded is)) × T (keeps F (expanded is))
  unsheeted b is bytes e o x =
      let w = items-read b is bytes e in
      let p = rules is in
      let all = all-rules is o x in
      let same = ap expanded all ∙ expanded-rules p in (
        w.0 ∙ ap encoded_file all ∙ file-bytes p ∙ ap encoded_program (sym same),
        subst (λ (q : Program). T (keeps F q)) (sym same) (file-program F p (subst (λ (js : List Item). T (keeps_file F js)) all w.1)),
      )

  -- in a form without sheets every file is such a one
  module _ (none : F.sheets ≡ 0) where
    pub no-sheets : (b : List ℕ) (is : List Item) → Bytes b → items F b ≡ Ok is → (length (overrides is) ≡ 0) × (length (oppositions is) ≡ 0)
    no-sheets b is bytes e =
        let w = kept-file F is (items-read b is bytes e).1 in (omega (arith, w.overrides), omega (arith, w.oppositions))

    pub parsed-sound : (b : List ℕ) (p : Program) → Bytes b → parsed F b ≡ Ok p → (b ≡ encoded_program p) × T (keeps F p)
    parsed-sound b p bytes e =
        let w = parsed-items b p e in
        let n = no-sheets b w.0 bytes w.1 in
        subst (λ (q : Program). (b ≡ encoded_program q) × T (keeps F q)) w.2 (unsheeted b w.0 bytes w.1 n.0 n.1)

    -- there reading accepts b as p exactly if b is the encoding of p and p keeps the form's limits
    pub reading-iff : (b : List ℕ) (p : Program) → Bytes b → (parsed F b ≡ Ok p) ↔ ((b ≡ encoded_program p) × T (keeps F p))
    reading-iff b p bytes = (parsed-sound b p bytes, λ w. ap (parsed F) w.0 ∙ parsed-complete p w.1)

-- Where a rule's record lies: behind the records of the items before it.
-- In order: the rule of a number, and the items around it; its extent; the extent ends in the file; the extent that a walk comes to.
-- Assumes nothing.
use Prim.Native.Nat.{ℕ, zero, suc, ◌+◌, ◌≤◌, ◌<◌}
use native.Mathlib.Omega.{arith}
use native.Mathlib.Numerals.{add-one}
use mathlib.Core.Path.{◌≡◌, refl, sym, ◌∙◌, ap, ap₂, subst}
use mathlib.Core.List.{List, [], ◌∷◌, ◌++◌, map, map-append}
use lib.ListN.{length, drop, length-append}
use borrow.Author.Tests.{eq-eqb, ne_eqb}
use Rattle.semantics.specs.Rule.{Rule, Program}
use Rattle.semantics.specs.Item.{Item, rule, override, opposition, rules}
use Rattle.semantics.specs.Translation.{record_length}
use Rattle.semantics.proofs.Laws.Expansion.{rules-append}
use Rattle.record.specs.Header.{override_letter, opposition_letter, letter_of}
use Rattle.record.specs.Layout.{encoded_rule, encoded_end, encoded_override, encoded_opposition, encoded_item, encoded_items, encoded_file}
use Rattle.record.proofs.Laws.Layout.{length-encoded-rule, item_length, encoded-items-append}
use Rattle.record.proofs.Laws.Unsheeted.{rules-of, items-bytes}
use Rattle.record_walk.specs.Code.{record_size, item_size}
use Rattle.record_walk.proofs.Laws.Walk.{Walk, More}
use Rattle.record_walk.proofs.Laws.Items.{StartsItem, ItemWalk, MoreItem, item-letter, item_letter, rule-letter, items-end, items_more}
use Rattle.record_show.specs.declared.Extent.{Extent}
use Rattle.record_show.specs.Show.{extent_from}
use Rattle.record_show.specs.Code.{NumberedIn, rules_in}

-- where the record of r lies, in a file with r behind some items
extent-from : (before : List Item) (r : Rule) (after : List Item) (at : ℕ)
    → extent_from at (before ++ rule r ∷ after) (suc (length (rules before)))
    ≡ record { start = at + length (encoded_items before); size = length (encoded_rule r) }
unfolding extent_from encoded_items encoded_item rules
extent-from [] r after at = ap₂ (λ (n m : ℕ). record { start = n; size = m }) (omega arith) (sym (length-encoded-rule r))
extent-from (rule q ∷ before) r after at =
    extent-from before r after (at + record_length q)
    ∙ ap (λ (n : ℕ). record { start = n; size = length (encoded_rule r) })
    (omega (arith, length-encoded-rule q, length-append (encoded_rule q) (encoded_items before)))
extent-from (override o ∷ before) r after at =
    extent-from before r after (at + length (encoded_override o))
    ∙ ap (λ (n : ℕ). record { start = n; size = length (encoded_rule r) }) (omega (arith, length-append (encoded_override o) (encoded_items before)))
extent-from (opposition x ∷ before) r after at =
    extent-from before r after (at + length (encoded_opposition x))
    ∙ ap (λ (n : ℕ). record { start = n; size = length (encoded_rule r) }) (omega (arith, length-append (encoded_opposition x) (encoded_items before)))

pub extent-behind : (before : List Item) (r : Rule) (after : List Item) (n : ℕ) → n ≡ length (rules before) + 1
    → extent_from 0 (before ++ rule r ∷ after) n ≡ record { start = length (encoded_items before); size = length (encoded_rule r) }
extent-behind before r after n e =
    ap (extent_from 0 (before ++ rule r ∷ after)) (e ∙ add-one (length (rules before))) ∙ extent-from before r after 0
    ∙ ap (λ (k : ℕ). record { start = k; size = length (encoded_rule r) }) (omega arith)

-- the rule of a number, and the items around it
record Around (n : ℕ) (is : List Item) : Type 0 where
  before : List Item
  the-rule : Rule
  after : List Item
  split : is ≡ before ++ rule the-rule ∷ after
  number : n ≡ length (rules before) + 1

behind-sheet : (n : ℕ) (i : Item) (is : List Item) → rules (i ∷ []) ≡ [] → Around n is → Around n (i ∷ is)
unfolding rules
behind-sheet n i is none a =
    record {
      before = i ∷ a.before;
      the-rule = a.the-rule;
      after = a.after;
      split = ap (λ (js : List Item). i ∷ js) a.split;
      number = a.number ∙ ap (λ (k : ℕ). k + 1) (sym (go i none));
    }
  where
    go : (j : Item) → rules (j ∷ []) ≡ [] → length (rules (j ∷ a.before)) ≡ length (rules a.before)
    go (rule r) e = let z : ◌≡◌ {A = ℕ} 0 1 = ap length (sym e) in absurd (omega (arith, z))
    go (override o) e = refl
    go (opposition x) e = refl

around : (n : ℕ) (is : List Item) → NumberedIn n is → Around n is
unfolding rules
around zero is w = absurd (omega arith)
around (suc n) [] w = absurd (omega arith)
around (suc zero) (rule r ∷ is) w = record { before = []; the-rule = r; after = is; split = refl; number = refl }
around (suc (suc n)) (rule r ∷ is) w =
    let a = around (suc n) is (record { one = omega arith; most = omega arith }) in
    record {
      before = rule r ∷ a.before;
      the-rule = a.the-rule;
      after = a.after;
      split = ap (λ (js : List Item). rule r ∷ js) a.split;
      number = omega (arith, a.number);
    }
around (suc n) (override o ∷ is) w = behind-sheet (suc n) (override o) is refl (around (suc n) is w)
around (suc n) (opposition x ∷ is) w = behind-sheet (suc n) (opposition x) is refl (around (suc n) is w)

-- its record ends in the file
pub extent-fits : (n : ℕ) (is : List Item) → NumberedIn n is → (extent_from 0 is n).start + (extent_from 0 is n).size ≤ length (encoded_file is)
unfolding encoded_items encoded_item encoded_file
extent-fits n is w =
    let a = around n is w in
    let same = ap (λ (js : List Item). extent_from 0 js n) a.split ∙ extent-behind a.before a.the-rule a.after n a.number in
    let bytes = ap (λ (js : List Item). length (encoded_items js)) a.split ∙ ap length (encoded-items-append a.before (rule a.the-rule ∷ a.after)) in
    let ends : length (encoded_items a.before) + length (encoded_rule a.the-rule) ≤ length (encoded_file is) =
    omega (
      arith,
      length-append (encoded_items is) (encoded_end (length (rules is))),
      bytes,
      length-append (encoded_items a.before) (encoded_rule a.the-rule ++ encoded_items a.after),
      length-append (encoded_rule a.the-rule) (encoded_items a.after),
    ) in
    subst (λ (x : Extent). x.start + x.size ≤ length (encoded_file is)) (sym same) ends

-- the record that a walk over a program's rules comes to
pub extent-more : {s : List ℕ} {p gone : Program} {at : ℕ} {t : List ℕ} (n : ℕ) → n ≡ length gone + 1 → Walk s p gone at → More s p gone at t
    → extent_from 0 (map rule p) n ≡ record { start = at; size = record_size t }
extent-more {gone = gone} n e w m =
    ap (λ (q : Program). extent_from 0 (map rule q) n) m.split
    ∙ ap (λ (js : List Item). extent_from 0 js n) (map-append rule gone (m.the-rule ∷ m.behind))
    ∙ extent-behind (map rule gone) m.the-rule (map rule m.behind) n (e ∙ ap (λ (q : Program). length q + 1) (sym (rules-of gone)))
    ∙ ap₂ (λ (a b : ℕ). record { start = a; size = b }) (ap length (items-bytes gone) ∙ sym w.passed) (length-encoded-rule m.the-rule ∙ sym m.size)

-- the rules of one item more
pub rules-more : (gone : List Item) (i : Item) → length (rules (gone ++ i ∷ [])) ≡ length (rules gone) + length (rules (i ∷ []))
rules-more gone i = ap length (rules-append gone (i ∷ [])) ∙ length-append (rules gone) (rules (i ∷ []))

-- how many rules the item that starts a part is, by its letter
pub rules-in : (t : List ℕ) (i : Item) → StartsItem t i → rules_in (letter_of t) ≡ length (rules (i ∷ []))
unfolding rules_in rules item_letter
rules-in t (rule r) w =
    let n = rule-letter t r w in simp (ne_eqb (letter_of t) override_letter n.0, ne_eqb (letter_of t) opposition_letter n.1)
rules-in t (override o) w = simp (eq-eqb (letter_of t) override_letter (item-letter t (override o) w))
rules-in t (opposition x) w =
    let e = item-letter t (opposition x) w in
    simp (ne_eqb (letter_of t) override_letter (λ q. omega (arith, e)), eq-eqb (letter_of t) opposition_letter e)

-- the record that a walk over a file's items comes to
pub extent-item : {s : List ℕ} {is gone : List Item} {at : ℕ} {t : List ℕ} (n left : ℕ) → length (rules gone) + left ≡ n → 1 ≤ left
    → (w : ItemWalk s is gone at) (m : MoreItem s is gone at t) → left ≤ rules_in (letter_of t)
    → extent_from 0 is n ≡ record { start = at; size = item_size t }
unfolding rules item_length
extent-item {s} {is} {gone} {at} {t} n left number some w m last = go m.the-item m.split m.size (rules-in t m.the-item m.starts)
  where
    go : (i : Item) → is ≡ gone ++ i ∷ m.behind → item_size t ≡ item_length i → rules_in (letter_of t) ≡ length (rules (i ∷ []))
        → extent_from 0 is n ≡ record { start = at; size = item_size t }
    go (rule r) split size one =
        ap (λ (js : List Item). extent_from 0 js n) split ∙ extent-behind gone r m.behind n (omega (arith, one))
        ∙ ap₂ (λ (a b : ℕ). record { start = a; size = b }) (sym w.passed) (length-encoded-rule r ∙ sym size)
    go (override o) split size one = absurd (omega (arith, one))
    go (opposition x) split size one = absurd (omega (arith, one))

-- the count by each letter
pub count-override : (letter : ℕ) → letter ≡ override_letter → rules_in letter ≡ 0
unfolding rules_in
count-override letter e = simp (eq-eqb letter override_letter e)

pub count-opposition : (letter : ℕ) → letter ≡ opposition_letter → rules_in letter ≡ 0
unfolding rules_in
count-opposition letter e = simp (ne_eqb letter override_letter (λ q. omega (arith, e)), eq-eqb letter opposition_letter e)

pub count-rule : (letter : ℕ) → (letter ≡ override_letter → ⊥) → (letter ≡ opposition_letter → ⊥) → rules_in letter ≡ 1
unfolding rules_in
count-rule letter o x = simp (ne_eqb letter override_letter o, ne_eqb letter opposition_letter x)

-- where a rule is left, the next record is an item's
pub item-next : {s : List ℕ} {is gone : List Item} {at : ℕ} → ItemWalk s is gone at → length (rules gone) < length (rules is)
    → (t : List ℕ) → t ≡ drop at s → MoreItem s is gone at t
item-next {gone = gone} w few t part = items_more w (λ e. omega (arith, ap (λ js. length (rules js)) (items-end w e), few)) t part

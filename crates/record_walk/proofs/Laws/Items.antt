-- Laws of the walk through a file's records: the items behind it are gone, those before it are left.
-- In order: the letter of an item's record, and its size; where the walk is; its start; the end record; the next item's record; which
-- item it is, by its letter; loops: the invariant, its start, an item more, the end.
-- Assumes nothing.
use Prim.Native.Nat.{ℕ, ◌+◌, ◌≤◌}
use native.Mathlib.Omega.{arith}
use mathlib.Core.Path.{◌≡◌, refl, sym, ◌∙◌, ap, subst}
use mathlib.Core.List.{List, [], ◌∷◌, ◌++◌, append_assoc, append-nil}
use lib.ListN.{length, get_or, drop, length-append, length-drop}
use lib.Seq.{drop-drop, drop_at}
use borrow.Author.Tests.{eq-eqb, ne_eqb}
use Rattle.semantics.specs.Rule.{Rule, strict, defeasible}
use Rattle.semantics.specs.Expansion.{Override, Opposition}
use Rattle.semantics.specs.Item.{Item, rule, override, opposition, rules}
use Rattle.record.specs.Header.{strict_letter, defeasible_letter, end_letter, override_letter, opposition_letter, letter_of}
use Rattle.record.specs.Layout.{encoded_end, encoded_override, encoded_opposition, encoded_item, encoded_items, encoded_file}
use Rattle.record.proofs.Laws.Layout.{item_length, length-encoded-item, encoded-items-append, length-end}
use Rattle.record_walk.specs.Code.{HoldsFile, record_size, item_size, Starts}
use Rattle.record_walk.proofs.Laws.Fields.{strict-fields, defeasible-fields, record-size}
use Rattle.record_walk.proofs.Laws.Walk.{end-letter, letter_at}

-- the item's record stands at the start of t
pub record StartsItem (t : List ℕ) (i : Item) : Type 0 where
  pub rest : List ℕ
  pub bytes : t ≡ encoded_item i ++ rest

-- a rule's record there
pub starts-rule : (t : List ℕ) (r : Rule) → StartsItem t (rule r) → Starts t r
unfolding encoded_item
starts-rule t r w = record { rest = w.rest; bytes = w.bytes }

-- the letter of an item's record
unfoldable pub item_letter : Item → ℕ
item_letter (rule (strict h b c)) = strict_letter
item_letter (rule (defeasible t h b c)) = defeasible_letter
item_letter (override o) = override_letter
item_letter (opposition x) = opposition_letter

pub item-letter : (t : List ℕ) (i : Item) → StartsItem t i → letter_of t ≡ item_letter i
unfolding item_letter encoded_item encoded_override encoded_opposition
item-letter t (rule (strict h b c)) w = (strict-fields t h b c (starts-rule t (strict h b c) w)).of-letter
item-letter t (rule (defeasible g h b c)) w = (defeasible-fields t g h b c (starts-rule t (defeasible g h b c) w)).of-letter
item-letter t (override o) w = ap letter_of w.bytes
item-letter t (opposition x) w = ap letter_of w.bytes

-- a rule's is no sheet's
pub rule-letter : (t : List ℕ) (r : Rule) → StartsItem t (rule r) → (letter_of t ≡ override_letter → ⊥) × (letter_of t ≡ opposition_letter → ⊥)
unfolding item_letter
rule-letter t (strict h b c) w = let e = item-letter t (rule (strict h b c)) w in ((λ q. omega (arith, e)), (λ q. omega (arith, e)))
rule-letter t (defeasible g h b c) w = let e = item-letter t (rule (defeasible g h b c)) w in ((λ q. omega (arith, e)), (λ q. omega (arith, e)))

-- its size by its letter is the item's length
pub item-size : (t : List ℕ) (i : Item) → StartsItem t i → item_size t ≡ item_length i
unfolding item_length item_letter
item-size t (rule (strict h b c)) w =
    let e = item-letter t (rule (strict h b c)) w in
    simp (ne_eqb (letter_of t) override_letter (λ q. omega (arith, e)), ne_eqb (letter_of t) opposition_letter (λ q. omega (arith, e)))
    (record-size t (strict h b c) (starts-rule t (strict h b c) w))
item-size t (rule (defeasible g h b c)) w =
    let e = item-letter t (rule (defeasible g h b c)) w in
    simp (ne_eqb (letter_of t) override_letter (λ q. omega (arith, e)), ne_eqb (letter_of t) opposition_letter (λ q. omega (arith, e)))
    (record-size t (defeasible g h b c) (starts-rule t (defeasible g h b c) w))
item-size t (override o) w = simp (eq-eqb (letter_of t) override_letter (item-letter t (override o) w))
item-size t (opposition x) w =
    let e = item-letter t (opposition x) w in
    simp (ne_eqb (letter_of t) override_letter (λ q. omega (arith, e)), eq-eqb (letter_of t) opposition_letter e)

-- the size by each letter
pub size-override : (t : List ℕ) → letter_of t ≡ override_letter → item_size t ≡ 6
size-override t e = simp (eq-eqb (letter_of t) override_letter e)

pub size-opposition : (t : List ℕ) → letter_of t ≡ opposition_letter → item_size t ≡ 12
size-opposition t e = simp (ne_eqb (letter_of t) override_letter (λ q. omega (arith, e)), eq-eqb (letter_of t) opposition_letter e)

pub size-rule : (t : List ℕ) → (letter_of t ≡ override_letter → ⊥) → (letter_of t ≡ opposition_letter → ⊥) → item_size t ≡ record_size t
size-rule t o x = simp (ne_eqb (letter_of t) override_letter o, ne_eqb (letter_of t) opposition_letter x)

-- the walk over the items' records in s has come to `at`: the items `gone` are passed
pub record ItemWalk (s : List ℕ) (is gone : List Item) (at : ℕ) : Type 0 where
  pub left : List Item
  pub split : is ≡ gone ++ left
  pub stands : drop at s ≡ encoded_items left ++ encoded_end (length (rules is))
  pub passed : at ≡ length (encoded_items gone)

-- the next item, whose record starts the part t, and the walk behind it
pub record MoreItem (s : List ℕ) (is gone : List Item) (at : ℕ) (t : List ℕ) : Type 0 where
  pub the-item : Item
  pub behind : List Item
  pub split : is ≡ gone ++ the-item ∷ behind
  pub starts : StartsItem t the-item
  pub size : item_size t ≡ item_length the-item
  pub whole : item_size t ≤ length t
  pub fits : at + item_size t + 4 ≤ length s
  pub next : (n : ℕ) → n ≡ item_size t → ItemWalk s is (gone ++ the-item ∷ []) (at + n)

-- an item's record does not start as the end record does
no_end : (t : List ℕ) (i : Item) → StartsItem t i → letter_of t ≡ end_letter → ⊥
unfolding item_letter
no_end t (rule (strict h b c)) w e = omega (arith, item-letter t (rule (strict h b c)) w)
no_end t (rule (defeasible g h b c)) w e = omega (arith, item-letter t (rule (defeasible g h b c)) w)
no_end t (override o) w e = omega (arith, item-letter t (override o) w)
no_end t (opposition x) w e = omega (arith, item-letter t (opposition x) w)

-- an item's record, and those behind it
cons-bytes : (t : List ℕ) (i : Item) (is : List Item) (n : ℕ) → t ≡ encoded_items (i ∷ is) ++ encoded_end n
    → t ≡ encoded_item i ++ (encoded_items is ++ encoded_end n)
unfolding encoded_items
cons-bytes t i is n e = e ∙ append_assoc (encoded_item i) (encoded_items is) (encoded_end n)

cons-starts : (t : List ℕ) (i : Item) (is : List Item) (n : ℕ) → t ≡ encoded_items (i ∷ is) ++ encoded_end n → StartsItem t i
cons-starts t i is n e = record { rest = encoded_items is ++ encoded_end n; bytes = cons-bytes t i is n e }

-- none left: the end record
nil-letter : (t : List ℕ) (n : ℕ) → t ≡ encoded_items [] ++ encoded_end n → letter_of t ≡ end_letter
unfolding encoded_items
nil-letter t n e = ap letter_of e ∙ end-letter n

-- at the start no item is gone
pub items-start : (s : List ℕ) (is : List Item) → s ≡ encoded_file is → ItemWalk s is [] 0
unfolding encoded_file encoded_items
items-start s is e = record { left = is; split = refl; stands = e; passed = refl }

-- one item more is gone
pub length-gone : (gone : List Item) (i : Item) → length (encoded_items (gone ++ i ∷ [])) ≡ length (encoded_items gone) + item_length i
unfolding encoded_items
length-gone gone i =
    ap length (encoded-items-append gone (i ∷ []))
    ∙ omega (arith, length-append (encoded_items gone) (encoded_item i ++ []), ap length (append-nil (encoded_item i)), length-encoded-item i)

module _ {s : List ℕ} {is gone : List Item} {at : ℕ} (w : ItemWalk s is gone at) where
  -- there is a record
  pub items-open : at + 4 ≤ length s
  items-open =
      omega (
        arith,
        length-drop at s,
        ap length w.stands,
        length-append (encoded_items w.left) (encoded_end (length (rules is))),
        length-end (length (rules is)),
      )

  -- at an E all items are gone
  pub items-end : get_or s at 0 ≡ end_letter → is ≡ gone
  items-end e = go w.left w.split w.stands
    where
      go : (left : List Item) → is ≡ gone ++ left → drop at s ≡ encoded_items left ++ encoded_end (length (rules is)) → is ≡ gone
      go [] split stands = split ∙ append-nil gone
      go (i ∷ js) split stands =
          absurd (no_end (drop at s) i (cons-starts (drop at s) i js (length (rules is)) stands) (sym (letter_at s at) ∙ e))

  -- elsewhere an item's record is next
  pub items_more : (get_or s at 0 ≡ end_letter → ⊥) → (t : List ℕ) → t ≡ drop at s → MoreItem s is gone at t
  items_more more t part = go w.left w.split (part ∙ w.stands)
    where
      go : (left : List Item) → is ≡ gone ++ left → t ≡ encoded_items left ++ encoded_end (length (rules is)) → MoreItem s is gone at t
      go [] split stands = absurd (more (letter_at s at ∙ ap letter_of (sym part) ∙ nil-letter t (length (rules is)) stands))
      go (i ∷ js) split stands =
          let n = length (rules is) in
          let starts = cons-starts t i js n stands in
          let size = item-size t i starts in
          let bytes = cons-bytes t i js n stands in
          let long = ap length bytes ∙ length-append (encoded_item i) (encoded_items js ++ encoded_end n) in
          let room = length-append (encoded_items js) (encoded_end n) in
          record {
            the-item = i;
            behind = js;
            split = split;
            starts = starts;
            size = size;
            whole = omega (arith, size, long, length-encoded-item i);
            fits = omega (arith, size, long, room, length-end n, length-encoded-item i, ap length part, length-drop at s);
            next = λ k same.
                record {
                  left = js;
                  split = split ∙ sym (append_assoc gone (i ∷ []) js);
                  stands =
                      sym (drop-drop k at s) ∙ ap (drop k) (sym part ∙ bytes)
                      ∙ drop_at (encoded_item i) (encoded_items js ++ encoded_end n) k (omega (arith, same, size, length-encoded-item i));
                  passed = omega (arith, w.passed, length-gone gone i, same, size);
                };
          }

-- which item starts a part, by its letter
pub item-override : (t : List ℕ) (i : Item) → StartsItem t i → letter_of t ≡ override_letter → (o : Override) × (i ≡ override o)
unfolding item_letter
item-override t (rule (strict h b c)) w e = absurd (omega (arith, item-letter t (rule (strict h b c)) w))
item-override t (rule (defeasible g h b c)) w e = absurd (omega (arith, item-letter t (rule (defeasible g h b c)) w))
item-override t (override o) w e = (o, refl)
item-override t (opposition x) w e = absurd (omega (arith, item-letter t (opposition x) w))

pub item-opposition : (t : List ℕ) (i : Item) → StartsItem t i → letter_of t ≡ opposition_letter → (x : Opposition) × (i ≡ opposition x)
unfolding item_letter
item-opposition t (rule (strict h b c)) w e = absurd (omega (arith, item-letter t (rule (strict h b c)) w))
item-opposition t (rule (defeasible g h b c)) w e = absurd (omega (arith, item-letter t (rule (defeasible g h b c)) w))
item-opposition t (override o) w e = absurd (omega (arith, item-letter t (override o) w))
item-opposition t (opposition x) w e = (x, refl)

pub item-rule : (t : List ℕ) (i : Item) → StartsItem t i → (letter_of t ≡ override_letter → ⊥) → (letter_of t ≡ opposition_letter → ⊥) → (r : Rule) × (i ≡ rule r)
unfolding item_letter
item-rule t (rule r) w o x = (r, refl)
item-rule t (override v) w o x = absurd (o (item-letter t (override v) w))
item-rule t (opposition y) w o x = absurd (x (item-letter t (opposition y) w))

-- wherever a loop is: Q holds of the items that are gone
pub record AlongItems (s : List ℕ) (is : List Item) (at : ℕ) (Q : List Item → Type 0) : Type 0 where
  pub gone : List Item
  pub walk : ItemWalk s is gone at
  pub made : Q gone

-- the invariant of a loop: so it is for each file that the slice holds
abbrev pub ItemPass : (List Item → Type 0) → List ℕ → ℕ → (List Item → Type 0) → Type 0
ItemPass P s at Q = (w : HoldsFile P s) → AlongItems s w.items at Q

pub item-pass-start : {P : List Item → Type 0} (s : List ℕ) (Q : List Item → Type 0) → Q [] → ItemPass P s 0 Q
item-pass-start s Q made w = record { gone = []; walk = items-start s w.items w.bytes; made = made }

-- behind an item's record, R holds of that item too
pub item-pass-next : {P Q : List Item → Type 0} {s : List ℕ} {at : ℕ} → ItemPass P s at Q → (get_or s at 0 ≡ end_letter → ⊥)
    → (t : List ℕ) → t ≡ drop at s → (n : ℕ) → n ≡ item_size t → (R : List Item → Type 0)
    → ((w : HoldsFile P s) (a : AlongItems s w.items at Q) (m : MoreItem s w.items a.gone at t) → R (a.gone ++ m.the-item ∷ []))
    → ItemPass P s (at + n) R
item-pass-next pass more t part n size R step w =
    let a = pass w in
    let m = items_more a.walk more t part in
    record { gone = a.gone ++ m.the-item ∷ []; walk = m.next n size; made = step w a m }

-- at an E it holds of the file
pub along-items-end : {s : List ℕ} {is : List Item} {at : ℕ} {Q : List Item → Type 0} → AlongItems s is at Q → get_or s at 0 ≡ end_letter → Q is
along-items-end {s} {is} {at} {Q} a e = subst Q (sym (items-end a.walk e)) a.made

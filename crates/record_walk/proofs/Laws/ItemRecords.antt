-- Laws of a loop over a file's records, as `Records` gives them: the items behind it are gone, those before it are left.
-- In order: what is left; the record that is given, and where none is; loops: the invariant, its start, an item more, the end.
-- Assumes nothing.
use Prim.Native.Nat.{ℕ, ◌≤◌}
use native.Mathlib.Omega.{arith}
use mathlib.Core.Path.{◌≡◌, refl, sym, ◌∙◌, ap, subst}
use mathlib.Core.List.{List, [], ◌∷◌, ◌++◌, append_assoc, append-nil}
use lib.ListN.{length, length-append}
use Rattle.std.proofs.Common.{inl, inr}
use Rattle.semantics.specs.Item.{Item, rules}
use Rattle.record.specs.Layout.{encoded_end, encoded_item, encoded_items, encoded_file}
use Rattle.record.proofs.Laws.Layout.{item-large, length-encoded-item, length-end}
use Rattle.record_walk.specs.Code.{HoldsFile, item_size}
use Rattle.record_walk.specs.Records.{Front, Over}
use Rattle.record_walk.proofs.Laws.Items.{StartsItem, item-size}
use Rattle.record_walk.proofs.Laws.Records.{front-same, front-next}

-- the items `gone` of a file are passed, and the records of the others, and the end record, are left
pub record ItemsAhead (is gone : List Item) (rest : List ℕ) : Type 0 where
  pub left : List Item
  pub split : is ≡ gone ++ left
  pub stands : rest ≡ encoded_items left ++ encoded_end (length (rules is))

-- the item behind those that are gone, whose record t is
pub record NextItem (is gone : List Item) (t : List ℕ) : Type 0 where
  pub the-item : Item
  pub behind : List Item
  pub split : is ≡ gone ++ the-item ∷ behind
  pub starts : StartsItem t the-item
  pub whole : item_size t ≤ length t
  pub some : 6 ≤ length t

-- at the start no item is gone
ahead_start : (s : List ℕ) (is : List Item) → s ≡ encoded_file is → ItemsAhead is [] s
unfolding encoded_file
ahead_start s is e = record { left = is; split = refl; stands = e }

module _ (i : Item) (js : List Item) (n : ℕ) (rest : List ℕ) (stands : rest ≡ encoded_items (i ∷ js) ++ encoded_end n) where
  -- an item's record, and those behind it
  bytes-of : rest ≡ encoded_item i ++ (encoded_items js ++ encoded_end n)
  unfolding encoded_items
  bytes-of = stands ∙ append_assoc (encoded_item i) (encoded_items js) (encoded_end n)

  long-of : item_size rest ≡ length (encoded_item i)
  long-of = item-size rest i (record { rest = encoded_items js ++ encoded_end n; bytes = bytes-of }) ∙ sym (length-encoded-item i)

  -- it is whole
  open-of : Over rest → ⊥
  open-of over =
      let all = ap length bytes-of ∙ length-append (encoded_item i) (encoded_items js ++ encoded_end n) in
      elim over [
        | inl few ↦ omega (arith, all, length-encoded-item i, item-large i, length-append (encoded_items js) (encoded_end n), length-end n)
        | inr few ↦ omega (arith, all, long-of)
      ]

  -- and what `Records` gives
  module _ (t next : List ℕ) (front : Front rest t next) where
    same-of : t ≡ encoded_item i
    same-of = front-same (encoded_item i) (encoded_items js ++ encoded_end n) front bytes-of long-of

    next-of : next ≡ encoded_items js ++ encoded_end n
    next-of = front-next (encoded_item i) (encoded_items js ++ encoded_end n) front bytes-of long-of

    starts-of : StartsItem t i
    starts-of = record { rest = []; bytes = same-of ∙ sym (append-nil (encoded_item i)) }

    long-same : length t ≡ item_size t
    long-same = ap length same-of ∙ length-encoded-item i ∙ sym (item-size t i starts-of)

    large-of : 6 ≤ length t
    large-of = omega (arith, ap length same-of, length-encoded-item i, item-large i)

-- only the end record is left
end-of : (n : ℕ) (rest : List ℕ) → rest ≡ encoded_items [] ++ encoded_end n → length rest ≡ 4
unfolding encoded_items
end-of n rest stands = ap length stands ∙ length-end n

module _ {is gone : List Item} {rest : List ℕ} (a : ItemsAhead is gone rest) where
  -- where none is whole, all items are gone
  ahead-end : Over rest → is ≡ gone
  ahead-end over = go a.left a.split a.stands
    where
      go : (left : List Item) → is ≡ gone ++ left → rest ≡ encoded_items left ++ encoded_end (length (rules is)) → is ≡ gone
      go [] split stands = split ∙ append-nil gone
      go (i ∷ js) split stands = absurd (open-of i js (length (rules is)) rest stands over)

  -- what is given is the next item's record, and the others are left
  module _ {t next : List ℕ} (front : Front rest t next) where
    record Step : Type 0 where
      pub item : NextItem is gone t
      pub ahead : ItemsAhead is (gone ++ item.the-item ∷ []) next

    ahead-step : Step
    ahead-step = go a.left a.split a.stands
      where
        go : (left : List Item) → is ≡ gone ++ left → rest ≡ encoded_items left ++ encoded_end (length (rules is)) → Step
        go [] split stands = absurd (omega (arith, end-of (length (rules is)) rest stands, front.long))
        go (i ∷ js) split stands =
            let n = length (rules is) in
            record {
              item =
                  record {
                    the-item = i;
                    behind = js;
                    split = split;
                    starts = starts-of i js n rest stands t next front;
                    whole = omega (arith, long-same i js n rest stands t next front);
                    some = large-of i js n rest stands t next front;
                  };
              ahead =
                  record {
                    left = js;
                    split = split ∙ sym (append_assoc gone (i ∷ []) js);
                    stands = next-of i js n rest stands t next front;
                  };
            }

-- wherever a loop is: Q holds of the items that are gone
pub record ItemsPassed (is : List Item) (rest : List ℕ) (Q : List Item → Type 0) : Type 0 where
  pub gone : List Item
  pub ahead : ItemsAhead is gone rest
  pub made : Q gone

-- the invariant of a loop over what s holds: so it is for each file that s holds
abbrev pub ItemsPassing : (List Item → Type 0) → List ℕ → List ℕ → (List Item → Type 0) → Type 0
ItemsPassing P s rest Q = (w : HoldsFile P s) → ItemsPassed w.items rest Q

pub items-passing-start : {P : List Item → Type 0} (s rest : List ℕ) (Q : List Item → Type 0) → rest ≡ s → Q [] → ItemsPassing P s rest Q
items-passing-start s rest Q e made w = record { gone = []; ahead = ahead_start rest w.items (e ∙ w.bytes); made = made }

-- the item whose record is given
pub passed-item : {is : List Item} {rest t next : List ℕ} {Q : List Item → Type 0} (a : ItemsPassed is rest Q) → Front rest t next → NextItem is a.gone t
passed-item a front = (ahead-step a.ahead front).item

-- behind it, R holds of that item too
pub items-passing-next : {P Q : List Item → Type 0} {s rest t next : List ℕ} → ItemsPassing P s rest Q → Front rest t next → (R : List Item → Type 0)
    → ((w : HoldsFile P s) (a : ItemsPassed w.items rest Q) (m : NextItem w.items a.gone t) → R (a.gone ++ m.the-item ∷ [])) → ItemsPassing P s next R
items-passing-next pass front R step w =
    let a = pass w in
    let m = ahead-step a.ahead front in
    record { gone = a.gone ++ m.item.the-item ∷ []; ahead = m.ahead; made = step w a m.item }

-- where none is given, it holds of the file
pub items-passed-end : {is : List Item} {rest : List ℕ} {Q : List Item → Type 0} → ItemsPassed is rest Q → Over rest → Q is
items-passed-end {is} {Q = Q} a over = subst Q (sym (ahead-end a.ahead over)) a.made

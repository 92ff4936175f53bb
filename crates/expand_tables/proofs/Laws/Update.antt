-- Laws of the tables, one item more: an override, an opposition, a rule.
-- In order: empty tables; an override more; a pair among those that stand; a pair more; a mask put to options, one by one; a rule more.
-- Assumes nothing.
use Prim.Native.Nat.{ℕ, zero, suc, ◌+◌, ◌-◌, ◌^◌, ◌≤◌, ◌<◌}
use native.Mathlib.Numerals.{add-one}
use native.Mathlib.Omega.{arith}
use mathlib.Core.Path.{◌≡◌, refl, sym, ◌∙◌, ap, ap₂, subst}
use mathlib.Core.Bool.{Bool, true, false, cond, ◌&&◌, ◌||◌, not, or-false, and-true, and-false}
use mathlib.Core.List.{List, [], ◌∷◌, ◌++◌, map, map-append, append_assoc}
use lib.Bits.{bit_or, or_zero_r, or_self}
use lib.Dec.{eqb}
use lib.ListN.{length, get_or, take, set, length-append, length-set}
use lib.Seq.{get_or-set_same, get_or-set_other, take-suc-set, take-set-le}
use mir.Val.{bool_byte}
use borrow.Author.Tests.{eqb-true, eqb-false}
use Rattle.literal.specs.declared.Tag.{Tag}
use Rattle.literal.specs.declared.SignedAtom.{SignedAtom}
use Rattle.literal.specs.declared.Literal.{Literal}
use Rattle.semantics.specs.Set.{some_of, same_signed}
use Rattle.semantics.specs.Rule.{Rule, strict, defeasible, Program}
use Rattle.semantics.specs.Extension.{offers}
use Rattle.semantics.specs.Expansion.{Override, Opposition, heads}
use Rattle.semantics.proofs.Laws.Tests.{any_append}
use Rattle.mask.proofs.Laws.Part.{or_assoc as union_assoc}
use Rattle.expand_tables.specs.Added.{same_pair, with_pair}
use Rattle.expand_tables.specs.Code.{place_of, mask_of, Tables, Pairs, pair_at, pair_from, Overridden, Opposed, Headed, Marked}
use Rattle.expand_tables.proofs.Laws.Mask.{mask-agree, mask-or, mask-none, mask-push}
use Rattle.expand_tables.proofs.Laws.Place.{place_same}
use Rattle.expand_tables.proofs.Laws.Table.{number_at}

-- a table of nothing
abbrev pub Empty : List ℕ → Type 0
Empty xs = (t : ℕ) → get_or xs t 0 ≡ 0

pub tables-none : (up low lowers : List ℕ) → Empty up → Empty low → Tables [] up low lowers
unfolding mask_of
tables-none up low lowers u l = record { uppers = u; losers = l; tags = refl }

pub pairs-none : (ones others : List ℕ) → Pairs [] ones others
pairs-none ones others = record { one = refl; other = refl }

-- one element more, in an array that starts with a list's numbers
front-more : {A : Type 0} (f : A → ℕ) (xs : List A) (x : A) (ns : List ℕ) (n : ℕ) → length xs ≡ n → n < length ns → take (length xs) ns ≡ map f xs
    → take (length (xs ++ x ∷ [])) (set ns n (f x)) ≡ map f (xs ++ x ∷ [])
front-more f xs x ns n e h w =
    ap (λ (k : ℕ). take k (set ns n (f x))) (length-append xs (x ∷ []) ∙ add-one (length xs) ∙ ap suc e)
    ∙ take-suc-set ns n (f x) h
    ∙ ap (λ (l : List ℕ). l ++ f x ∷ []) (ap (λ (k : ℕ). take k ns) (sym e) ∙ w) ∙ sym (map-append f xs (x ∷ []))

-- a position put to one place of a table
module _ (g : Override → ℕ) (os : List Override) (o : Override) (table : List ℕ) where
  put-position : g o < length table → ((t : ℕ) → get_or table t 0 ≡ mask_of (λ n. eqb (g n) t) os) → (t : ℕ)
      → get_or (set table (g o) (bit_or (get_or table (g o) 0) (2 ^ length os))) t 0 ≡ mask_of (λ n. eqb (g n) t) (os ++ o ∷ [])
  put-position h w t = go (eqb (g o) t) refl ∙ sym (mask-push (λ n. eqb (g n) t) os o)
    where
      go : (b : Bool) → eqb (g o) t ≡ b
          → get_or (set table (g o) (bit_or (get_or table (g o) 0) (2 ^ length os))) t 0
          ≡ bit_or (mask_of (λ n. eqb (g n) t) os) (cond (eqb (g o) t) (2 ^ length os) 0)
      go true e =
          let here : g o ≡ t = eqb-true (g o) t e in
          ap (λ (k : ℕ). get_or (set table (g o) (bit_or (get_or table (g o) 0) (2 ^ length os))) k 0) (sym here)
          ∙ get_or-set_same table (g o) (bit_or (get_or table (g o) 0) (2 ^ length os)) 0 h
          ∙ ap₂ (λ (m n : ℕ). bit_or m n) (ap (λ (k : ℕ). get_or table k 0) here ∙ w t) (ap (λ (b : Bool). cond b (2 ^ length os) 0) (sym e))
      go false e =
          get_or-set_other table (g o) t (bit_or (get_or table (g o) 0) (2 ^ length os)) 0 (λ k. eqb-false (g o) t e (sym k))
          ∙ w t ∙ sym (or_zero_r (mask_of (λ n. eqb (g n) t) os)) ∙ ap (λ (b : Bool). bit_or (mask_of (λ n. eqb (g n) t) os) (cond b (2 ^ length os) 0)) (sym e)

-- an override more
pub tables_more : (os : List Override) (o : Override) (up low lowers : List ℕ) (n : ℕ) → length os ≡ n → Tables os up low lowers
    → o.upper.0 < length up → o.lower.0 < length low → n < length lowers
    → Tables (os ++ o ∷ []) (set up o.upper.0 (bit_or (get_or up o.upper.0 0) (2 ^ n))) (set low o.lower.0 (bit_or (get_or low o.lower.0 0) (2 ^ n)))
    (set lowers n o.lower.0)
tables_more os o up low lowers n e w hu hl hn =
    record {
      uppers = λ t. rw (← e) (put-position (λ m. m.upper.0) os o up hu w.uppers t);
      losers = λ t. rw (← e) (put-position (λ m. m.lower.0) os o low hl w.losers t);
      tags = front-more (λ m. m.lower.0) os o lowers n e hn w.tags;
    }

-- the places of two options are among the pairs from `gone` on exactly if an opposition behind has their pair
pair-from : (a b : SignedAtom) (ones others : List ℕ) (gone left : List Opposition) → Pairs (gone ++ left) ones others
    → pair_from ones others (place_of a) (place_of b) (length gone) (length left) ≡ some_of (same_pair a b) left
unfolding pair_from pair_at same_pair
pair-from a b ones others gone [] w = refl
pair-from a b ones others gone (x ∷ left) w =
    ap₂ (λ (s t : Bool). s || t)
    (ap₂ (λ (k l : ℕ). (eqb (place_of a) k && eqb (place_of b) l) || (eqb (place_of a) l && eqb (place_of b) k))
    (number_at (λ y. place_of y.one) ones gone x left w.one) (number_at (λ y. place_of y.other) others gone x left w.other)
    ∙ ap₂ (λ (s t : Bool). s || t)
    (ap₂ (λ (s t : Bool). s && t) (place_same a x.one) (place_same b x.other))
    (ap₂ (λ (s t : Bool). s && t) (place_same a x.other) (place_same b x.one)))
    (ap (λ (n : ℕ). pair_from ones others (place_of a) (place_of b) n (length left)) (sym (length-append gone (x ∷ [])))
    ∙ pair-from a b ones others (gone ++ x ∷ []) left (subst (λ (xs : List Opposition). Pairs xs ones others) (sym (append_assoc gone (x ∷ []) left)) w))

pub pair-among : (a b : SignedAtom) (ones others : List ℕ) (xs : List Opposition) → Pairs xs ones others
    → pair_from ones others (place_of a) (place_of b) 0 (length xs) ≡ some_of (same_pair a b) xs
pair-among a b ones others xs w = pair-from a b ones others [] xs w

-- a pair put behind those that stand, and counted where it is new
pub pairs-more : (xs : List Opposition) (x : Opposition) (ones others : List ℕ) (m : ℕ) → length xs ≡ m → Pairs xs ones others
    → m < length ones → m < length others → Pairs (with_pair xs x) (set ones m (place_of x.one)) (set others m (place_of x.other))
unfolding with_pair
pairs-more xs x ones others m e w h k = go (some_of (same_pair x.one x.other) xs)
  where
    kept : (f : Opposition → ℕ) (ns : List ℕ) → take (length xs) ns ≡ map f xs → take (length xs) (set ns m (f x)) ≡ map f xs
    kept f ns v = take-set-le (length xs) ns m (f x) (omega (arith, e)) ∙ v

    go : (t : Bool) → Pairs (cond t xs (xs ++ x ∷ [])) (set ones m (place_of x.one)) (set others m (place_of x.other))
    go true = record { one = kept (λ y. place_of y.one) ones w.one; other = kept (λ y. place_of y.other) others w.other }
    go false =
        record {
          one = front-more (λ y. place_of y.one) xs x ones m e h w.one;
          other = front-more (λ y. place_of y.other) xs x others m e k w.other;
        }

pub length-with-pair : (xs : List Opposition) (x : Opposition)
    → length (with_pair xs x) ≡ length xs + cond (some_of (same_pair x.one x.other) xs) 0 1
unfolding with_pair
length-with-pair xs x = go (some_of (same_pair x.one x.other) xs)
  where
    go : (t : Bool) → length (cond t xs (xs ++ x ∷ [])) ≡ length xs + cond t 0 1
    go true = omega arith
    go false = length-append xs (x ∷ [])

-- a mask put to no option, and to one more
pub marked-none : (d : List ℕ) (m : ℕ) → Marked d d m []
marked-none d m = record { same = refl; mark = λ a. sym (or_zero_r (get_or d (place_of a) 0)) }

-- a mask that is put twice
joined : (m x : ℕ) (s t : Bool) → bit_or (bit_or x (cond s m 0)) (cond t m 0) ≡ bit_or x (cond (s || t) m 0)
joined m x true true = union_assoc x m m ∙ ap (bit_or x) (or_self m)
joined m x true false = or_zero_r (bit_or x m)
joined m x false t = ap (λ (y : ℕ). bit_or y (cond t m 0)) (or_zero_r x)

-- a mask put to one option's place
put-mask : (e : List ℕ) (m : ℕ) (a : SignedAtom) (k : ℕ) → k ≡ place_of a → k < length e → (b : SignedAtom)
    → get_or (set e k (bit_or (get_or e k 0) m)) (place_of b) 0 ≡ bit_or (get_or e (place_of b) 0) (cond (same_signed b a) m 0)
put-mask e m a k at within b = go (same_signed b a) (place_same b a)
  where
    go : (t : Bool) → eqb (place_of b) (place_of a) ≡ t → get_or (set e k (bit_or (get_or e k 0) m)) (place_of b) 0 ≡ bit_or (get_or e (place_of b) 0) (cond t m 0)
    go true q =
        let here : place_of b ≡ k = eqb-true (place_of b) (place_of a) q ∙ sym at in
        ap (λ (n : ℕ). get_or (set e k (bit_or (get_or e k 0) m)) n 0) here ∙ get_or-set_same e k (bit_or (get_or e k 0) m) 0 within
        ∙ ap (λ (n : ℕ). bit_or (get_or e n 0) m) (sym here)
    go false q =
        get_or-set_other e k (place_of b) (bit_or (get_or e k 0) m) 0 (λ same. eqb-false (place_of b) (place_of a) q (same ∙ at))
        ∙ sym (or_zero_r (get_or e (place_of b) 0))

pub marked_more : {d e : List ℕ} {m : ℕ} {h : List SignedAtom} (a : SignedAtom) (k : ℕ) → k ≡ place_of a → k < length e → Marked d e m h
    → Marked d (set e k (bit_or (get_or e k 0) m)) m (h ++ a ∷ [])
marked_more {d} {e} {m} {h} a k at within w =
    record {
      same = length-set e k _ ∙ w.same;
      mark = λ b.
          put-mask e m a k at within b ∙ ap (λ (n : ℕ). bit_or n (cond (same_signed b a) m 0)) (w.mark b)
          ∙ joined m (get_or d (place_of b) 0) (some_of (same_signed b) h) (same_signed b a)
          ∙ ap (λ (t : Bool). bit_or (get_or d (place_of b) 0) (cond t m 0))
          (ap (λ (t : Bool). some_of (same_signed b) h || t) (sym (or-false (same_signed b a))) ∙ sym (any_append (same_signed b) h (a ∷ [])));
    }

-- no rule: nothing is headed
pub headed-none : (os : List Override) (win lose : List ℕ) → Empty win → Empty lose → Headed [] os win lose
unfolding heads
headed-none os win lose w l = record { wins = λ a. w (place_of a) ∙ sym (mask-none os); loses = λ a. l (place_of a) ∙ sym (mask-none os) }

-- a rule more: an option is headed by those that head it and by this one
heads-more : (p : Program) (r : Rule) (t : Tag) (a : SignedAtom) → heads (p ++ r ∷ []) t a ≡ (heads p t a || offers t a r)
unfolding heads
heads-more p r t a = any_append (offers t a) p (r ∷ []) ∙ ap (λ (b : Bool). some_of (offers t a) p || b) (or-false (offers t a r))

pub headed-strict : {p : Program} {os : List Override} {win lose : List ℕ} (h b c : List Literal) → Headed p os win lose
    → Headed (p ++ strict h b c ∷ []) os win lose
unfolding offers
headed-strict {p} {os} h b c w =
    record {
      wins = λ a. w.wins a ∙ mask-agree os (λ o. sym (heads-more p (strict h b c) o.upper a ∙ or-false (heads p o.upper a)));
      loses = λ a. w.loses a ∙ mask-agree os (λ o. sym (heads-more p (strict h b c) o.lower a ∙ or-false (heads p o.lower a)));
    }

-- what a defeasible rule's head adds, by one of an override's tags
module _ (g : Override → Tag) (p : Program) (os : List Override) (t : Tag) (h : List SignedAtom) (b c : List Literal) (table : List ℕ)
    (tags : (n : ℕ) → get_or table n 0 ≡ mask_of (λ o. eqb (g o).0 n) os) (d e : List ℕ) (marked : Marked d e (get_or table t.0 0) h) where
  -- those that offer an option: all with this tag, or none
  offered : (a : SignedAtom) → cond (some_of (same_signed a) h) (get_or table t.0 0) 0 ≡ mask_of (λ o. offers (g o) a (defeasible t h b c)) os
  unfolding offers
  offered a = go (some_of (same_signed a) h)
    where
      go : (s : Bool) → cond s (get_or table t.0 0) 0 ≡ mask_of (λ o. eqb (g o).0 t.0 && s) os
      go true = tags t.0 ∙ mask-agree os (λ o. sym (and-true (eqb (g o).0 t.0)))
      go false = sym (mask-agree os (λ o. and-false (eqb (g o).0 t.0)) ∙ mask-none os)

  headed-more : (a : SignedAtom) → get_or d (place_of a) 0 ≡ mask_of (λ o. heads p (g o) a) os
      → get_or e (place_of a) 0 ≡ mask_of (λ o. heads (p ++ defeasible t h b c ∷ []) (g o) a) os
  headed-more a w =
      marked.mark a ∙ ap₂ (λ (m n : ℕ). bit_or m n) w (offered a)
      ∙ sym (mask-or (λ o. heads p (g o) a) (λ o. offers (g o) a (defeasible t h b c)) os)
      ∙ mask-agree os (λ o. sym (heads-more p (defeasible t h b c) (g o) a))

pub headed-defeasible : {p : Program} {os : List Override} {up low lowers win lose won lost : List ℕ} (t : Tag) (h : List SignedAtom) (b c : List Literal)
    → Tables os up low lowers → Headed p os win lose → Marked win won (get_or up t.0 0) h → Marked lose lost (get_or low t.0 0) h
    → Headed (p ++ defeasible t h b c ∷ []) os won lost
headed-defeasible {p} {os} {up} {low} {win = win} {lose} {won} {lost} t h b c tables w mw ml =
    record {
      wins = λ a. headed-more (λ o. o.upper) p os t h b c up tables.uppers win won mw a (w.wins a);
      loses = λ a. headed-more (λ o. o.lower) p os t h b c low tables.losers lose lost ml a (w.loses a);
    }

-- pairs one by one: found, the next, none left
module _ (ones others : List ℕ) (k l i : ℕ) where
  pub pair_found : (n : ℕ) → 0 < n → pair_at ones others k l i ≡ true → pair_from ones others k l i n ≡ true
  unfolding pair_from
  pair_found zero h e = absurd (omega arith)
  pair_found (suc n) h e = ap (λ (t : Bool). t || pair_from ones others k l (i + 1) n) e

  pub pair-next : (n : ℕ) → 0 < n → pair_at ones others k l i ≡ false → pair_from ones others k l i n ≡ pair_from ones others k l (i + 1) (n - 1)
  unfolding pair_from
  pair-next zero h e = absurd (omega arith)
  pair-next (suc n) h e =
      ap (λ (t : Bool). t || pair_from ones others k l (i + 1) n) e ∙ ap (pair_from ones others k l (i + 1)) back
    where
      back : n ≡ suc n - 1
      back = omega arith

  pub pair-none : (n : ℕ) → n ≤ 0 → pair_from ones others k l i n ≡ false
  unfolding pair_from
  pair-none zero h = refl
  pair-none (suc n) h = absurd (omega arith)

-- counted where it is new
new-byte : (known : Bool) → bool_byte (not known) ≡ cond known 0 1
new-byte true = refl
new-byte false = refl

pub byte_le : (b : Bool) → bool_byte b ≤ 1
byte_le true = omega arith
byte_le false = omega arith

-- an opposition put behind m pairs
pub opposed : (a b : SignedAtom) (m : ℕ) (ones others : List ℕ) (k l : ℕ) (known : Bool) → k ≡ place_of a → l ≡ place_of b → m < length ones → m < length others
    → known ≡ pair_from ones others k l 0 m → Opposed a b m (m + bool_byte (not known)) ones others (set ones m k) (set others m l)
opposed a b m ones others k l known ek el h j e =
    record {
      ones_same = length-set ones m k;
      others_same = length-set others m l;
      count = λ xs n w.
          let is : known ≡ some_of (same_pair a b) xs = e ∙ rw (ek, el, ← n) (pair-among a b ones others xs w) in
          ap₂ (λ (c : ℕ) (t : Bool). c + bool_byte (not t)) (sym n) is ∙ ap (λ (c : ℕ). length xs + c) (new-byte (some_of (same_pair a b) xs))
          ∙ sym (length-with-pair xs (record { one = a; other = b }));
      pairs = λ xs n w. rw (ek, el) (pairs-more xs (record { one = a; other = b }) ones others m n w h j);
    }

-- an override put behind n
pub overridden : (u l : Tag) (n : ℕ) (up low lowers : List ℕ) (bit : ℕ) → bit ≡ 2 ^ n → u.0 < length up → l.0 < length low → n < length lowers
    → Overridden u l n up low lowers (set up u.0 (bit_or (get_or up u.0 0) bit)) (set low l.0 (bit_or (get_or low l.0 0) bit)) (set lowers n l.0)
overridden u l n up low lowers bit e hu hl hn =
    record {
      up_same = length-set up u.0 _;
      low_same = length-set low l.0 _;
      lowers_same = length-set lowers n _;
      tables = λ os k w. rw e (tables_more os (record { upper = u; lower = l }) up low lowers n k w hu hl hn);
    }

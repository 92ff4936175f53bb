-- Laws of collecting items, one by one.
-- In order: the rules, overrides and oppositions of one item more; what an override's, an opposition's and a rule's record adds.
-- Assumes nothing.
use Prim.Native.Nat.{ℕ, ◌+◌, ◌≤◌}
use native.Mathlib.Omega.{arith}
use mathlib.Core.Path.{◌≡◌, refl, sym, ◌∙◌, ap, subst}
use mathlib.Core.List.{List, [], ◌∷◌, ◌++◌, append-nil}
use lib.ListN.{length, take, drop, length-append}
use lib.Seq.{take_at, length-take-le}
use Rattle.buffer.specs.Bytes.{number_at}
use Rattle.buffer.specs.Write.{write, Wrote}
use Rattle.buffer.proofs.Laws.Bytes.{number-two_bytes}
use Rattle.buffer.proofs.Laws.Write.{length-write}
use Rattle.buffer.proofs.Laws.Writing.{wrote_then}
use Rattle.literal.specs.declared.Tag.{Tag}
use Rattle.literal.specs.declared.SignedAtom.{SignedAtom}
use Rattle.literal.specs.declared.Literal.TheVariants.{Signed}
use Rattle.literal.specs.Literal.{encoded}
use Rattle.semantics.specs.Rule.{Rule, Program}
use Rattle.semantics.specs.Expansion.{Override, Opposition}
use Rattle.semantics.specs.Item.{Item, rule, override, opposition, rules, overrides, oppositions}
use Rattle.semantics.proofs.Laws.Expansion.{rules-append}
use Rattle.record.specs.Header.{override_letter, opposition_letter, letter_of}
use Rattle.record.specs.Layout.{encoded_literals, encoded_rule, encoded_rules, encoded_item, encoded_override, encoded_opposition}
use Rattle.record.proofs.Laws.Layout.{length-encoded-rule, encoded-rules-append}
use Rattle.record_walk.specs.Code.{record_size, option_at, options_at}
use Rattle.record_walk.proofs.Laws.Fields.{record-size}
use Rattle.record_walk.proofs.Laws.Options.{options-spelled}
use Rattle.record_walk.proofs.Laws.Items.{item-override, item-opposition, item-rule}
use Rattle.expand_tables.specs.Added.{with_pair, each_pair}
use Rattle.expand_tables.specs.Code.{Tables, Pairs, Overridden, Opposed}
use Rattle.expand_tables.proofs.Laws.Added.{each-pair-one}
use Rattle.expand_collect.specs.Code.{State, state, Room, Collected, Collects}

-- the overrides and oppositions of items one behind the other
pub overrides-append : (is js : List Item) → overrides (is ++ js) ≡ overrides is ++ overrides js
unfolding overrides
overrides-append [] js = refl
overrides-append (rule r ∷ is) js = overrides-append is js
overrides-append (override o ∷ is) js = ap (λ (os : List Override). o ∷ os) (overrides-append is js)
overrides-append (opposition x ∷ is) js = overrides-append is js

pub oppositions-append : (is js : List Item) → oppositions (is ++ js) ≡ oppositions is ++ oppositions js
unfolding oppositions
oppositions-append [] js = refl
oppositions-append (rule r ∷ is) js = oppositions-append is js
oppositions-append (override o ∷ is) js = oppositions-append is js
oppositions-append (opposition x ∷ is) js = ap (λ (xs : List Opposition). x ∷ xs) (oppositions-append is js)

-- what one item more changes of the three
pub record Parts (is js : List Item) (p : Program) (os : List Override) (xs : List Opposition) : Type 0 where
  pub of-rules : rules js ≡ p
  pub of-overrides : overrides js ≡ os
  pub of-oppositions : oppositions js ≡ xs

parts-override : (is : List Item) (o : Override) → Parts is (is ++ override o ∷ []) (rules is) (overrides is ++ o ∷ []) (oppositions is)
unfolding rules overrides oppositions
parts-override is o =
    record {
      of-rules = rules-append is (override o ∷ []) ∙ append-nil (rules is);
      of-overrides = overrides-append is (override o ∷ []);
      of-oppositions = oppositions-append is (override o ∷ []) ∙ append-nil (oppositions is);
    }

parts-opposition : (is : List Item) (x : Opposition) → Parts is (is ++ opposition x ∷ []) (rules is) (overrides is) (oppositions is ++ x ∷ [])
unfolding rules overrides oppositions
parts-opposition is x =
    record {
      of-rules = rules-append is (opposition x ∷ []) ∙ append-nil (rules is);
      of-overrides = overrides-append is (opposition x ∷ []) ∙ append-nil (overrides is);
      of-oppositions = oppositions-append is (opposition x ∷ []);
    }

parts-rule : (is : List Item) (r : Rule) → Parts is (is ++ rule r ∷ []) (rules is ++ r ∷ []) (overrides is) (oppositions is)
unfolding rules overrides oppositions
parts-rule is r =
    record {
      of-rules = rules-append is (rule r ∷ []);
      of-overrides = overrides-append is (rule r ∷ []) ∙ append-nil (overrides is);
      of-oppositions = oppositions-append is (rule r ∷ []) ∙ append-nil (oppositions is);
    }

-- what code holds of rules, overrides and oppositions, by themselves
pub record Holding (out₀ : List ℕ) (p : Program) (os : List Override) (xs : List Opposition) (d : State) : Type 0 where
  pub bytes : Wrote out₀ d.out 0 (encoded_rules p) d.held.to
  pub same : length d.out ≡ length out₀
  pub counted : d.held.rules ≡ length p
  pub overriding : d.held.overrides ≡ length os
  pub tables : Tables os d.up d.low d.lowers
  pub opposing : d.held.pairs ≡ length (each_pair [] xs)
  pub pairs : Pairs (each_pair [] xs) d.ones d.others

collected : {out₀ : List ℕ} {is js : List Item} {p : Program} {os : List Override} {xs : List Opposition} {d : State} → Parts is js p os xs
    → Holding out₀ p os xs d → Collected out₀ js d
collected parts h =
    record {
      bytes = rw parts.of-rules h.bytes;
      same = h.same;
      counted = rw parts.of-rules h.counted;
      overriding = rw parts.of-overrides h.overriding;
      tables = rw parts.of-overrides h.tables;
      opposing = rw parts.of-oppositions h.opposing;
      pairs = rw parts.of-oppositions h.pairs;
    }

-- the tags of an override's record are the override's
pub tags-same : (t : List ℕ) (o : Override) (rest : List ℕ) → t ≡ encoded_override o ++ rest → (number_at t 2 ≡ o.upper.0) × (number_at t 4 ≡ o.lower.0)
unfolding encoded_override
tags-same t o rest e = (ap (λ x. number_at x 2) e ∙ number-two_bytes o.upper.0, ap (λ x. number_at x 4) e ∙ number-two_bytes o.lower.0)

-- the options of an opposition's record are the opposition's
pub options-same : (t : List ℕ) (x : Opposition) (rest : List ℕ) → t ≡ encoded_opposition x ++ rest → (option_at t 2 ≡ x.one) × (option_at t 7 ≡ x.other)
unfolding encoded_opposition encoded_literals options_at
options-same t x rest e =
    let there : drop 2 t ≡ (encoded (Signed x.one) ++ (encoded (Signed x.other) ++ [])) ++ rest =
    ap (drop 2) e ∙ ap (λ (y : List ℕ). (encoded (Signed x.one) ++ y) ++ rest) (sym (append-nil (encoded (Signed x.other)))) in
    let both = options-spelled t (x.one ∷ x.other ∷ []) 2 rest there in
    (heads both, seconds both)
  where
    heads : {a b c d : SignedAtom} → a ∷ b ∷ [] ≡ c ∷ d ∷ [] → a ≡ c
    heads q = cc

    seconds : {a b c d : SignedAtom} → a ∷ b ∷ [] ≡ c ∷ d ∷ [] → b ≡ d
    seconds q = cc

-- lengths that stay
room-same : (r s : Room) → r.bytes ≡ s.bytes → r.uppers ≡ s.uppers → r.losers ≡ s.losers → r.overrides ≡ s.overrides → r.ones ≡ s.ones
    → r.others ≡ s.others → r ≡ s
room-same r s a b c d e f = λ i. record { bytes = a i; uppers = b i; losers = c i; overrides = d i; ones = e i; others = f i }

-- tags with the same numbers
tag-eq : (t u : Tag) → t.0 ≡ u.0 → t ≡ u
tag-eq t u e = λ i. record { 0 = e i }

override-eq : (u l : Tag) (o : Override) → u.0 ≡ o.upper.0 → l.0 ≡ o.lower.0 → ◌≡◌ {A = Override} (record { upper = u; lower = l }) o
override-eq u l o e f = let x = tag-eq u o.upper e in let y = tag-eq l o.lower f in λ i. record { upper = x i; lower = y i }

-- an override's record
module _ (part : List ℕ) (d : State) (upped lowed lowered : List ℕ) (u l : Tag) where
  abbrev overridden_state : State
  overridden_state =
      state d.out upped lowed lowered d.ones d.others
      (record { to = d.held.to; rules = d.held.rules; overrides = d.held.overrides + 1; pairs = d.held.pairs })

  pub collects-override : letter_of part ≡ override_letter → u.0 ≡ number_at part 2 → l.0 ≡ number_at part 4
      → Overridden u l d.held.overrides d.up d.low d.lowers upped lowed lowered → Collects part d overridden_state
  unfolding encoded_item
  collects-override letter eu el v =
      record {
        same = room-same _ _ refl v.up_same v.low_same v.lowers_same refl refl;
        more = λ out₀ is i rest bytes c.
            let w = item-override part i (record { rest = rest; bytes = bytes }) letter in
            subst (λ (j : Item). Collected out₀ (is ++ j ∷ []) overridden_state) (sym w.1)
            (go out₀ is w.0 rest (bytes ∙ ap (λ (j : Item). encoded_item j ++ rest) w.1) c);
      }
    where
      go : (out₀ : List ℕ) (is : List Item) (o : Override) (rest : List ℕ) → part ≡ encoded_override o ++ rest → Collected out₀ is d
          → Collected out₀ (is ++ override o ∷ []) overridden_state
      go out₀ is o rest bytes c =
          let tags = tags-same part o rest bytes in
          collected (parts-override is o)
          (record {
            bytes = c.bytes;
            same = c.same;
            counted = c.counted;
            overriding = omega (arith, c.overriding, length-append (overrides is) (o ∷ []));
            tables =
                subst (λ (x : Override). Tables (overrides is ++ x ∷ []) upped lowed lowered) (override-eq u l o (eu ∙ tags.0) (el ∙ tags.1))
                (v.tables (overrides is) (sym c.overriding) c.tables);
            opposing = c.opposing;
            pairs = c.pairs;
          })

-- an opposition's record
module _ (part : List ℕ) (d : State) (oned othered : List ℕ) (a b : SignedAtom) (n : ℕ) where
  abbrev opposed_state : State
  opposed_state =
      state d.out d.up d.low d.lowers oned othered
      (record { to = d.held.to; rules = d.held.rules; overrides = d.held.overrides; pairs = n })

  pub collects-opposition : letter_of part ≡ opposition_letter → a ≡ option_at part 2 → b ≡ option_at part 7
      → Opposed a b d.held.pairs n d.ones d.others oned othered → Collects part d opposed_state
  unfolding encoded_item
  collects-opposition letter ea eb v =
      record {
        same = room-same _ _ refl refl refl refl v.ones_same v.others_same;
        more = λ out₀ is i rest bytes c.
            let w = item-opposition part i (record { rest = rest; bytes = bytes }) letter in
            subst (λ (j : Item). Collected out₀ (is ++ j ∷ []) opposed_state) (sym w.1)
            (go out₀ is w.0 rest (bytes ∙ ap (λ (j : Item). encoded_item j ++ rest) w.1) c);
      }
    where
      go : (out₀ : List ℕ) (is : List Item) (x : Opposition) (rest : List ℕ) → part ≡ encoded_opposition x ++ rest → Collected out₀ is d
          → Collected out₀ (is ++ opposition x ∷ []) opposed_state
      go out₀ is x rest bytes c =
          let options = options-same part x rest bytes in
          let one : a ≡ x.one = ea ∙ options.0 in
          let other : b ≡ x.other = eb ∙ options.1 in
          let here : ◌≡◌ {A = Opposition} (record { one = a; other = b }) x = λ i. record { one = one i; other = other i } in
          let more : with_pair (each_pair [] (oppositions is)) (record { one = a; other = b }) ≡ each_pair [] (oppositions is ++ x ∷ []) =
          ap (with_pair (each_pair [] (oppositions is))) here ∙ sym (each-pair-one [] (oppositions is) x) in
          collected (parts-opposition is x)
          (record {
            bytes = c.bytes;
            same = c.same;
            counted = c.counted;
            overriding = c.overriding;
            tables = c.tables;
            opposing = v.count (each_pair [] (oppositions is)) (sym c.opposing) c.pairs ∙ ap length more;
            pairs = subst (λ (xs : List Opposition). Pairs xs oned othered) more (v.pairs (each_pair [] (oppositions is)) (sym c.opposing) c.pairs);
          })

-- a rule's record
module _ (part : List ℕ) (d : State) (written : List ℕ) (size : ℕ) where
  abbrev copied_state : State
  copied_state =
      state written d.up d.low d.lowers d.ones d.others
      (record { to = d.held.to + size; rules = d.held.rules + 1; overrides = d.held.overrides; pairs = d.held.pairs })

  pub collects-rule : (letter_of part ≡ override_letter → ⊥) → (letter_of part ≡ opposition_letter → ⊥) → size ≡ record_size part
      → d.held.to + size ≤ length d.out → size ≤ length part → written ≡ write d.out d.held.to (take size (drop 0 part))
      → Collects part d copied_state
  unfolding encoded_item encoded_rules
  collects-rule no-over no-oppo es room whole e =
      record {
        same = room-same _ _ kept refl refl refl refl refl;
        more = λ out₀ is i rest bytes c.
            let w = item-rule part i (record { rest = rest; bytes = bytes }) no-over no-oppo in
            subst (λ (j : Item). Collected out₀ (is ++ j ∷ []) copied_state) (sym w.1)
            (go out₀ is w.0 rest (bytes ∙ ap (λ (j : Item). encoded_item j ++ rest) w.1) c);
      }
    where
      kept : length written ≡ length d.out
      kept = ap length e ∙ length-write d.out d.held.to (take size (drop 0 part)) (omega (arith, length-take-le size part whole))

      go : (out₀ : List ℕ) (is : List Item) (r : Rule) (rest : List ℕ) → part ≡ encoded_rule r ++ rest → Collected out₀ is d
          → Collected out₀ (is ++ rule r ∷ []) copied_state
      go out₀ is r rest bytes c =
          let long : length (encoded_rule r) ≡ size =
          length-encoded-rule r ∙ sym (record-size part r (record { rest = rest; bytes = bytes })) ∙ sym es in
          let taken : take size part ≡ encoded_rule r = ap (take size) bytes ∙ take_at (encoded_rule r) rest size long in
          let copied : Wrote d.out written d.held.to (encoded_rule r) (d.held.to + size) =
          record { bytes = e ∙ ap (write d.out d.held.to) taken; next = omega (arith, long) } in
          let all : encoded_rules (rules is) ++ encoded_rule r ≡ encoded_rules (rules is ++ r ∷ []) =
          ap (λ (x : List ℕ). encoded_rules (rules is) ++ x) (sym (append-nil (encoded_rule r))) ∙ sym (encoded-rules-append (rules is) (r ∷ [])) in
          collected (parts-rule is r)
          (record {
            bytes = subst (λ (x : List ℕ). Wrote out₀ written 0 x (d.held.to + size)) all (wrote_then (omega arith) c.bytes copied);
            same = kept ∙ c.same;
            counted = omega (arith, c.counted, length-append (rules is) (r ∷ []));
            overriding = c.overriding;
            tables = c.tables;
            opposing = c.opposing;
            pairs = c.pairs;
          })

-- Laws of collecting the marks of a file's rules: those of the rules that are gone are there, as keys.
-- In order: the marks of one rule more; room for them; what is collected at the start; the next item, a rule or a record of a sheet; what
-- is collected a rule further on.
-- Assumes nothing.
use Prim.Native.Nat.{ℕ, ◌+◌, ◌≤◌, ◌<◌}
use native.Mathlib.Omega.{arith}
use native.Mathlib.Nat.{zero-add}
use mathlib.Core.Path.{◌≡◌, refl, sym, ◌∙◌, ap, subst}
use mathlib.Core.List.{List, [], ◌∷◌, ◌++◌, map, map-append, append-nil}
use lib.ListN.{length, length-append, length-map}
use Rattle.std.proofs.Common.{◌⊎◌, inl, inr}
use Rattle.literal.specs.declared.Literal.{Literal}
use Rattle.literal.specs.declared.Literal.TheVariants.{Signed}
use Rattle.literal.specs.Order.{key}
use Rattle.semantics.specs.Set.{LiteralSet}
use Rattle.semantics.specs.Rule.{Rule, strict, defeasible, Program}
use Rattle.semantics.specs.Item.{Item, rule, override, opposition, rules}
use Rattle.semantics.proofs.Laws.Expansion.{rules-append}
use Rattle.record.specs.Header.{override_letter, opposition_letter, letter_of}
use Rattle.record_walk.specs.Code.{record_size, item_size, Starts}
use Rattle.record_walk.proofs.Laws.Fields.{strict-fields, defeasible-fields}
use Rattle.record_walk.proofs.Laws.Items.{StartsItem, starts-rule, rule-letter, size-rule, item-rule}
use Rattle.record_walk.proofs.Laws.ItemRecords.{NextItem}
use Rattle.extend_marks.specs.Marks.{rule_marks, marks_from}
use Rattle.extend_marks.specs.Code.{Gained, rule_room, marks_room, MarkableFile, Roomy}
use Rattle.extend_marks.proofs.Laws.Gained.{gained-none, gained-behind}
use Rattle.extend_marks.proofs.Laws.Count.{length-program, room-append}
use Rattle.extend_marks.proofs.Laws.Expanded.{marks-append}

-- one rule more, as keys
keys-next : (u : LiteralSet) (gone : Program) (r : Rule)
    → map key (marks_from 1 (gone ++ r ∷ []) u) ≡ map key (marks_from 1 gone u) ++ map key (rule_marks (1 + length gone) r u)
unfolding marks_from
keys-next u gone r =
    ap (map key) (marks-append u 1 gone (r ∷ []) ∙ ap (λ (ls : List Literal). marks_from 1 gone u ++ ls) (append-nil (rule_marks (1 + length gone) r u)))
    ∙ map-append key (marks_from 1 gone u) (rule_marks (1 + length gone) r u)

-- the room of a defeasible rule is that of its record
rule-roomy : (t : List ℕ) (r : Rule) → Starts t r → {n room : ℕ} → n + rule_room r ≤ room → Roomy t n room
unfolding rule_room
rule-roomy t (strict h b c) w fits e = absurd (omega (arith, (strict-fields t h b c w).of-letter))
rule-roomy t (defeasible g h b c) w fits e =
    let heads = (defeasible-fields t g h b c w).heads ∙ length-map h Signed in
    (omega (arith, heads), omega arith)

-- what is collected of the rules that are gone
pub record Collected (u : LiteralSet) (d e : List ℕ) (number n : ℕ) (gone : Program) : Type 0 where
  pub numbered : number ≡ 1 + length gone
  pub gained : Gained d e 0 n (map key (marks_from 1 gone u))

pub collected-start : (u : LiteralSet) (d : List ℕ) → Collected u d d 1 0 []
unfolding marks_from
collected-start u d = record { numbered = refl; gained = gained-none d 0 }

-- the next item is a rule, whose record starts the part t
pub record NextRule (is gone : List Item) (i : Item) (t : List ℕ) : Type 0 where
  pub the-rule : Rule
  pub starts : Starts t the-rule
  pub size : item_size t ≡ record_size t
  pub behind : Program
  pub split : rules is ≡ rules gone ++ the-rule ∷ behind
  pub further : rules (gone ++ i ∷ []) ≡ rules gone ++ the-rule ∷ []

module _ {is gone : List Item} {t : List ℕ} (m : NextItem is gone t) where
  -- it is where its letter is no sheet's
  pub next-rule : (letter_of t ≡ override_letter → ⊥) → (letter_of t ≡ opposition_letter → ⊥) → NextRule is gone m.the-item t
  unfolding rules
  next-rule no-o no-x =
      let w = item-rule t m.the-item m.starts no-o no-x in
      record {
        the-rule = w.0;
        starts = starts-rule t w.0 (subst (StartsItem t) w.1 m.starts);
        size = size-rule t no-o no-x;
        behind = rules m.behind;
        split =
            ap rules (m.split ∙ ap (λ (i : Item). gone ++ i ∷ m.behind) w.1) ∙ rules-append gone (rule w.0 ∷ m.behind);
        further = ap (λ (i : Item). rules (gone ++ i ∷ [])) w.1 ∙ rules-append gone (rule w.0 ∷ []);
      }

  -- elsewhere the rules that are gone stay as they are
  pub rules-stay : (letter_of t ≡ override_letter) ⊎ (letter_of t ≡ opposition_letter) → rules (gone ++ m.the-item ∷ []) ≡ rules gone
  unfolding rules
  rules-stay sheet = rules-append gone (m.the-item ∷ []) ∙ go m.the-item m.starts
    where
      go : (i : Item) → StartsItem t i → rules gone ++ rules (i ∷ []) ≡ rules gone
      go (rule r) w = let letter = rule-letter t r w in elim sheet [ inl o ↦ absurd (letter.0 o) | inr x ↦ absurd (letter.1 x) ]
      go (override o) w = append-nil (rules gone)
      go (opposition x) w = append-nil (rules gone)

module _ {is gone : List Item} {i : Item} {t : List ℕ} (m : NextRule is gone i t) where
  -- the rules that are gone are not all
  pub next-few : length (rules gone) < length (rules is)
  next-few = omega (arith, ap length m.split, length-append (rules gone) (m.the-rule ∷ m.behind))

  -- there is room for the marks of the next rule
  pub next-room : {room : ℕ} {u : LiteralSet} {d e : List ℕ} {number n : ℕ} → MarkableFile room is → Collected u d e number n (rules gone) → Roomy t n room
  unfolding marks_room
  next-room {room} {u} {n = n} ok c =
      let size = c.gained.count ∙ length-map (marks_from 1 (rules gone) u) key in
      let within : n + rule_room m.the-rule ≤ room =
      omega (
        arith,
        size,
        length-program u 1 (rules gone),
        ap marks_room m.split,
        room-append (rules gone) (m.the-rule ∷ m.behind),
        ok.fits,
      ) in
      rule-roomy t m.the-rule m.starts within

  -- a rule further on
  pub collected-next : {u : LiteralSet} {d e f : List ℕ} {number n : ℕ} (q : ℕ) → Collected u d e number n (rules gone)
      → Gained e f n q (map key (rule_marks number m.the-rule u))
      → Collected u d f (number + 1) (n + q) (rules (gone ++ i ∷ []))
  collected-next {u} {d} {e} {f} {number} {n} q c g =
      let ms = map key (rule_marks (1 + length (rules gone)) m.the-rule u) in
      let behind : Gained e f (0 + n) q ms = rw zero-add (subst (λ (k : ℕ). Gained e f n q (map key (rule_marks k m.the-rule u))) c.numbered g) in
      subst (Collected u d f (number + 1) (n + q)) (sym m.further)
      record {
        numbered = omega (arith, c.numbered, length-append (rules gone) (m.the-rule ∷ []));
        gained = rw (keys-next u (rules gone) m.the-rule) (gained-behind c.gained behind);
      }

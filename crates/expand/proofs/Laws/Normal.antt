-- Laws of the normal form: what is written piece by piece is the expanded program's bytes.
-- In order: the rules with an end record; their front as a program; what is appended, its bytes and how many; the whole.
-- Assumes nothing.
use Prim.Native.Nat.{ℕ, ◌+◌, ◌-◌, ◌*◌, ◌/◌, ◌≤◌, ◌<◌}
use native.Mathlib.Nat.{mul-le-mul}
use native.Mathlib.Omega.{arith}
use mathlib.Core.Path.{◌≡◌, sym, ◌∙◌, ap, ap₂, subst}
use mathlib.Core.List.{List, [], ◌++◌, map}
use lib.ListN.{length, take, length-append, length-map}
use Rattle.buffer.specs.Write.{write, Wrote, Begun}
use Rattle.buffer.proofs.Laws.Write.{length-write}
use Rattle.buffer.proofs.Laws.Writing.{wrote_then}
use Rattle.buffer.proofs.Laws.Begun.{begun_more, begun-then, begun-wrote}
use Rattle.semantics.specs.Expansion.{Defeat, defeat_rule}
use Rattle.semantics.specs.Item.{Item, rules, overrides, oppositions, appended_by, expanded}
use Rattle.semantics.proofs.Laws.Expansion.{kept-items, length-appended}
use Rattle.record.specs.Layout.{encoded_rules, encoded_end, encoded_program}
use Rattle.record.proofs.Laws.Layout.{encoded-rules-append, length-end}
use Rattle.record_walk.specs.Code.{Holds}
use Rattle.expand_tables.specs.Added.{each_pair}
use Rattle.expand_tables.specs.Code.{tag_places, option_places, sheet_places, Headed, all_new}
use Rattle.expand_tables.proofs.Laws.Added.{appended-added}
use Rattle.expand_tables.proofs.Laws.Table.{all_new_lem}
use Rattle.expand_heads.specs.Code.{Placed}
use Rattle.expand_collect.specs.Code.{State, state, Collected}
use Rattle.expand_rules.specs.Code.{defeat_bytes}
use Rattle.expand_rules.proofs.Laws.Defeat.{length-defeats}
use Rattle.expand.specs.Code.{Expandable, Fronted, Normal}
use Rattle.expand.proofs.Laws.Places.{rules-placed, oppositions-differ}

-- what is collected, with an end record behind it
module _ {came : List ℕ} (is : List Item) (x : Expandable (length came) is) (d : State) (c : Collected came is d) where
  pub rules-fit : d.held.rules < 65536
  rules-fit = omega (arith, c.counted, (kept-items x.form is x.keeps).rules-few, x.rules)

  pub end-room : d.held.to + 4 ≤ length d.out
  end-room = omega (arith, c.bytes.next, c.same, x.room)

  pub fronted : (front : List ℕ) → front ≡ write d.out d.held.to (encoded_end d.held.rules)
      → Fronted came is (state front d.up d.low d.lowers d.ones d.others d.held)
  unfolding encoded_program
  fronted front e =
      record {
        bytes =
            wrote_then (omega arith) c.bytes
            (record {
              bytes = e ∙ ap (λ (n : ℕ). write d.out d.held.to (encoded_end n)) c.counted;
              next = omega (arith, length-end (length (rules is)));
            });
        same = ap length e ∙ length-write d.out d.held.to (encoded_end d.held.rules) (omega (arith, end-room, length-end d.held.rules)) ∙ c.same;
        behind = omega (arith, c.bytes.next);
        counted = c.counted;
        overriding = c.overriding;
        tables = c.tables;
        opposing = c.opposing;
        pairs = c.pairs;
      }

module _ {came : List ℕ} (is : List Item) (x : Expandable (length came) is) (d : State) (c : Fronted came is d) where
  -- room for what is appended
  pub front_fits : d.held.to + 17 * (2 * (sheet_places * sheet_places)) + 4 ≤ length d.out
  front_fits = omega (arith, c.behind, c.same, x.room)

  -- the rules as a program
  pub front_bytes : take (d.held.to + 4) d.out ≡ encoded_program (rules is)
  front_bytes = (begun-wrote (omega (arith, c.bytes.next, front_fits, c.same)) c.bytes).bytes

  abbrev pub front-holds : (t : List ℕ) (tags options : ℕ) → t ≡ take (d.held.to + 4) d.out → tags ≡ tag_places → options ≡ option_places
      → Holds (Placed tags options) t
  front-holds t tags options e et eo =
      record { program = rules is; bytes = e ∙ front_bytes; asked = rw (et, eo) (rules-placed (length came) is x) }

  -- up to its end record
  begun : Begun came d.out 0 (encoded_rules (rules is)) d.held.to
  unfolding encoded_program
  begun =
      let here : 0 + length (encoded_rules (rules is)) ≡ d.held.to = omega (arith, c.behind) in
      subst (λ (n : ℕ). Begun came d.out 0 (encoded_rules (rules is)) n) here
      (begun_more 0 (encoded_rules (rules is)) (encoded_end (length (rules is))) (omega (arith, c.bytes.next, front_fits, c.same)) c.bytes.bytes)

  -- what is appended, by the tables
  module _ (win lose : List ℕ) (headed : Headed (rules is) (overrides is) win lose) where
    abbrev made : List Defeat
    made = all_new d.low d.lowers win lose d.ones d.others d.held.pairs 0 d.held.overrides

    made-appended : map defeat_rule made ≡ appended_by is
    unfolding appended_by
    made-appended =
        ap₂ (λ (m n : ℕ). map defeat_rule (all_new d.low d.lowers win lose d.ones d.others m 0 n)) c.opposing c.overriding
        ∙ ap (map defeat_rule)
        (all_new_lem (rules is) (overrides is) (each_pair [] (oppositions is)) d.up d.low d.lowers win lose d.ones d.others
        c.tables c.pairs headed)
        ∙ sym (appended-added (rules is) (overrides is) (oppositions is) (oppositions-differ (length came) is x))

    -- so many bytes, and not too many
    long : length (defeat_bytes made) ≡ 17 * length (appended_by is)
    long = length-defeats made ∙ ap (λ (n : ℕ). 17 * n) (sym (length-map made defeat_rule) ∙ ap length made-appended)

    few : length (appended_by is) ≤ 2 * (sheet_places * sheet_places)
    few =
        let w = kept-items x.form is x.keeps in
        omega (arith, length-appended is, mul-le-mul w.overrides-few w.oppositions-few, mul-le-mul x.sheets x.sheets)

    total-few : length (rules is) + length (appended_by is) < 65536
    total-few =
        let w = kept-items x.form is x.keeps in
        omega (arith, length-appended is, mul-le-mul w.overrides-few w.oppositions-few, w.rules-few, x.rules)

    pub made-fits : d.held.to + length (defeat_bytes made) ≤ length d.out
    made-fits = omega (arith, front_fits, long, few)

    -- where it ends
    module _ (end : ℕ) (at-end : end ≡ d.held.to + length (defeat_bytes made)) where
      total-counted : d.held.rules + (end - d.held.to) / 17 ≡ length (rules is) + length (appended_by is)
      total-counted = omega (arith, c.counted, at-end, long)

      pub total-fits : d.held.rules + (end - d.held.to) / 17 < 65536
      total-fits = omega (arith, total-counted, total-few)

      pub end_fits : end + 4 ≤ length d.out
      end_fits = omega (arith, at-end, front_fits, long, few)

    -- the whole
    module _ (back e : List ℕ) (end : ℕ) (behind : Wrote d.out back d.held.to (defeat_bytes made) end)
        (last : e ≡ write back end (encoded_end (d.held.rules + (end - d.held.to) / 17))) where
      appended-bytes : defeat_bytes made ≡ encoded_rules (appended_by is)
      unfolding defeat_bytes
      appended-bytes = ap encoded_rules made-appended

      total : d.held.rules + (end - d.held.to) / 17 ≡ length (expanded is)
      unfolding expanded
      total = total-counted end behind.next ∙ sym (length-append (rules is) (appended_by is))

      both : Begun came back 0 (encoded_rules (rules is) ++ encoded_rules (appended_by is)) end
      both =
          begun-then begun
          (subst (λ (bs : List ℕ). Begun d.out back d.held.to bs end) appended-bytes (begun-wrote made-fits behind))

      all : Begun came e 0 ((encoded_rules (rules is) ++ encoded_rules (appended_by is)) ++ encoded_end (length (expanded is))) (end + 4)
      all =
          begun-then both
          (begun-wrote (omega (arith, length-end (length (expanded is)), end_fits end behind.next, both.same, c.same))
          (record {
            bytes = last ∙ ap (λ (n : ℕ). write back end (encoded_end n)) total;
            next = omega (arith, length-end (length (expanded is)));
          }))

      meant : (encoded_rules (rules is) ++ encoded_rules (appended_by is)) ++ encoded_end (length (expanded is)) ≡ encoded_program (expanded is)
      unfolding encoded_program expanded
      meant = ap (λ (bs : List ℕ). bs ++ encoded_end (length (rules is ++ appended_by is))) (sym (encoded-rules-append (rules is) (appended_by is)))

      pub normal : Normal came is (end + 4) e
      normal = record { size = omega (arith, all.next, ap length meant); same = all.same; bytes = all.bytes ∙ meant }

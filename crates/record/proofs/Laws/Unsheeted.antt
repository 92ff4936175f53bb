-- Files without preference sheets: a program's rules as items, and a file that holds no sheet record.
-- In order: rules as items, what they come to and their bytes; a file of rules alone; its program and its bytes.
-- Assumes nothing.
use Prim.Native.Nat.{ℕ}
use native.Mathlib.Omega.{arith}
use mathlib.Core.Path.{◌≡◌, refl, sym, ◌∙◌, ap, ap₂, subst}
use mathlib.Core.Bool.{Bool, ◌&&◌}
use mathlib.Core.List.{List, [], ◌∷◌, ◌++◌, map, append-nil}
use lib.Dec.{T}
use lib.ListN.{length}
use Rattle.literal.specs.declared.Limits.{Limits}
use Rattle.semantics.specs.Set.{each_of}
use Rattle.semantics.specs.Rule.{Program}
use Rattle.semantics.specs.Expansion.{Override, Opposition, made, unless_before, appended}
use Rattle.semantics.specs.Item.{Item, rule, override, opposition, rules, overrides, oppositions, appended_by, expanded}
use Rattle.semantics.specs.Form.{keeps_rule, keeps_item}
use Rattle.record.specs.Layout.{encoded_rule, encoded_rules, encoded_end, encoded_program, keeps, encoded_item, encoded_items, encoded_file, keeps_file}
use Rattle.record.proofs.Laws.Keeps.{kept-program, keeps-program, kept-file, keeps-file}

-- rules as items
pub rules-of : (p : Program) → rules (map rule p) ≡ p
unfolding rules
rules-of [] = refl
rules-of (r ∷ p) = ap (λ (q : Program). r ∷ q) (rules-of p)

pub no-overrides : (p : Program) → overrides (map rule p) ≡ []
unfolding overrides
no-overrides [] = refl
no-overrides (r ∷ p) = no-overrides p

pub no-oppositions : (p : Program) → oppositions (map rule p) ≡ []
unfolding oppositions
no-oppositions [] = refl
no-oppositions (r ∷ p) = no-oppositions p

-- without overrides nothing is appended
none_made : (p : Program) (os : List Override) (xs : List Opposition) → os ≡ [] → appended p os xs ≡ []
unfolding appended made unless_before
none_made p os xs e = ap (λ (us : List Override). appended p us xs) e

pub expanded-rules : (p : Program) → expanded (map rule p) ≡ p
unfolding expanded appended_by
expanded-rules p =
    ap₂ (λ (x y : Program). x ++ y) (rules-of p)
    (none_made (rules (map rule p)) (overrides (map rule p)) (oppositions (map rule p)) (no-overrides p)) ∙ append-nil p

pub items-bytes : (p : Program) → encoded_items (map rule p) ≡ encoded_rules p
unfolding encoded_items encoded_item encoded_rules
items-bytes [] = refl
items-bytes (r ∷ p) = ap (λ (bs : List ℕ). encoded_rule r ++ bs) (items-bytes p)

pub file-bytes : (p : Program) → encoded_file (map rule p) ≡ encoded_program p
unfolding encoded_file encoded_program
file-bytes p = ap₂ (λ (bs : List ℕ) (q : Program). bs ++ encoded_end (length q)) (items-bytes p) (rules-of p)

module _ (F : Limits) where
  each-rule : (p : Program) → each_of (keeps_item F) (map rule p) ≡ each_of (keeps_rule F) p
  unfolding keeps_item
  each-rule [] = refl
  each-rule (r ∷ p) = ap (λ (b : Bool). keeps_rule F r && b) (each-rule p)

  -- a program within the limits is a file within them
  pub program-file : (p : Program) → T (keeps F p) → T (keeps_file F (map rule p))
  program-file p k =
      let w = kept-program F p k in
      keeps-file F (map rule p) (omega (arith, ap length (rules-of p), w.count)) (omega (arith, ap length (no-overrides p)))
      (omega (arith, ap length (no-oppositions p))) (subst T (sym (each-rule p)) w.each) (omega (arith, ap length (file-bytes p), w.short))

  -- and the other way
  pub file-program : (p : Program) → T (keeps_file F (map rule p)) → T (keeps F p)
  file-program p k =
      let w = kept-file F (map rule p) k in
      keeps-program F p (omega (arith, ap length (rules-of p), w.rules)) (subst T (each-rule p) w.each) (omega (arith, ap length (file-bytes p), w.short))

-- a file without sheet records is one of rules
pub all-rules : (is : List Item) → length (overrides is) ≡ 0 → length (oppositions is) ≡ 0 → is ≡ map rule (rules is)
unfolding rules overrides oppositions
all-rules [] o x = refl
all-rules (rule r ∷ is) o x = ap (λ (js : List Item). rule r ∷ js) (all-rules is o x)
all-rules (override v ∷ is) o x = absurd (omega arith)
all-rules (opposition y ∷ is) o x = absurd (omega arith)

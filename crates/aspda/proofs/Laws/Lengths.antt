-- How long the results are that the operations write, for callers who size a buffer.
-- In order: what is read; quotients; extensions; sets and restrictions.
-- Assumes nothing.
use Prim.Native.Nat.{ℕ, ◌+◌, ◌*◌, ◌≤◌}
use Rattle.std.specs.Prelude.{Ok}
use native.Mathlib.Omega.{arith}
use native.Mathlib.Nat.{mul-le-mul}
use mathlib.Core.Path.{◌≡◌, ap, subst}
use mathlib.Core.List.{List}
use lib.ListN.{length}
use Rattle.buffer.specs.Bytes.{Bytes}
use Rattle.literal.specs.declared.Limits.{Limits}
use Rattle.literal.specs.declared.Literal.{Literal}
use Rattle.semantics.specs.Rule.{Program}
use Rattle.semantics.specs.Set.{set_of}
use Rattle.semantics.specs.Item.{Item, rules, appended_by, expanded}
use Rattle.semantics.specs.Form.{most_appended, wide}
use Rattle.semantics.proofs.Laws.Expansion.{length-appended}
use Rattle.record.specs.Layout.{encoded_program}
use Rattle.record.specs.Reading.{items, parsed}
use Rattle.record.proofs.Laws.Keeps.{kept-file}
use Rattle.record.proofs.Laws.Bounds.{items-short}
use Rattle.record.proofs.Laws.Reading.{items-read, parsed-items, parsed-sound}
use Rattle.record.proofs.Laws.Meant.{expanded-within, parsed-expanded}
use Rattle.set.specs.Layout.{encoded_set}
use Rattle.set.specs.Reading.{parsed_set}
use Rattle.set.proofs.Laws.Reading.{parsed-set-sound, keeps-set-most, length-encoded-set, length-parsed-set}
use Rattle.quotient.specs.Quotient.{quotient_program}
use Rattle.quotient.proofs.Laws.Program.{quotient-short}
use Rattle.extend.specs.Extend.{extension_list}
use Rattle.extend.specs.Code.{most, Extendable}
use Rattle.extend.proofs.Laws.Kept.{length-extension}
use Rattle.restrict.specs.Restrict.{restriction_list}
use Rattle.restrict.proofs.Laws.Restriction.{length-restriction}

module _ (F : Limits) (b : List ℕ) (is : List Item) (bytes : Bytes b) (read : items F b ≡ Ok is) where
  -- its written rules are no more than the form's
  pub read-few : length (rules is) ≤ F.rules
  read-few = (kept-file F is (items-read F b is bytes read).1).rules

  -- its sheets append no more than the form's
  pub appended-few : length (appended_by is) ≤ most_appended F
  appended-few =
      let w = kept-file F is (items-read F b is bytes read).1 in
      omega (arith, length-appended is, mul-le-mul w.overrides w.oppositions)

  -- a quotient is no longer than the file, with 17 bytes for each rule that is appended
  pub quotient-no-longer : (ls : List Literal) → length (encoded_program (quotient_program (expanded is) ls)) ≤ length b + 17 * length (appended_by is)
  unfolding quotient_program
  quotient-no-longer ls = omega (arith, quotient-short (expanded is) (set_of ls), expanded-within F b is bytes read)

-- the program that is meant has no more bytes than the form's limits with room for what sheets append
pub program-wide : (F : Limits) (b : List ℕ) (p : Program) → Bytes b → parsed F b ≡ Ok p → length (encoded_program p) ≤ (wide F).length
unfolding wide
program-wide F b p bytes read =
    let w = parsed-items F b p read in
    subst (λ (q : Program). length (encoded_program q) ≤ F.length + 17 * most_appended F) w.2
    (omega (arith, expanded-within F b w.0 bytes w.1, appended-few F b w.0 bytes w.1, items-short F b w.0 w.1))

-- that of a form without sheets is no longer than its program
pub quotient-unsheeted : (F : Limits) → F.sheets ≡ 0 → (b : List ℕ) (p : Program) → Bytes b → parsed F b ≡ Ok p → (ls : List Literal)
    → length (encoded_program (quotient_program p ls)) ≤ length b
unfolding quotient_program
quotient-unsheeted F none b p bytes read ls = omega (arith, quotient-short p (set_of ls), ap length (parsed-sound F none b p bytes read).0)

-- an extension has no more literals than a set and the marks
pub extension-at-most : (F : Limits) (b : List ℕ) (p : Program) → Bytes b → parsed F b ≡ Ok p → Extendable F → (k : List ℕ) (ls : List Literal)
    → Bytes k → parsed_set F F.literals k ≡ Ok ls → length (encoded_set (extension_list p ls)) ≤ 4 + 5 * (F.literals + most)
extension-at-most F b p bytes read ok k ls chars held =
    let few = keeps-set-most F F.literals ls (parsed-set-sound F F.literals k ls chars held).1 in
    omega (arith, length-encoded-set (extension_list p ls), length-extension F ok p (parsed-expanded F b p bytes read) ls, few)

-- a set is no longer than the literals that are taken
pub set-no-longer : (F : Limits) (most : ℕ) (k : List ℕ) (ls : List Literal) → Bytes k → parsed_set F most k ≡ Ok ls → length k ≤ 4 + 5 * most
set-no-longer F most k ls bytes held =
    omega (arith, length-parsed-set F most k ls bytes held, keeps-set-most F most ls (parsed-set-sound F most k ls bytes held).1)

-- a restriction is no longer than its set
pub restriction-no-longer : (F : Limits) (k : List ℕ) (ls : List Literal) → Bytes k → parsed_set F F.literals k ≡ Ok ls
    → length (encoded_set (restriction_list ls)) ≤ length k
restriction-no-longer F k ls bytes held =
    omega (arith, length-encoded-set (restriction_list ls), length-restriction ls, length-parsed-set F F.literals k ls bytes held)

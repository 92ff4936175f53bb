-- Document 01's marked examples, M1 to M9, and document 02's of Ask 1, as one list, and what each says. `proofs/Examples.antt`
-- proves them all.
-- In order: how an example is written; what it says; the examples.
-- Assumes nothing.
use Rattle.std.specs.Prelude.{ℕ, ◌≡◌, ◌↔◌, length, replicate, Ok}
use mathlib.Core.List.{List, [], ◌∷◌, ◌++◌, Memᴰ}
use Rattle.literal.specs.declared.Limits.{Limits}
use Rattle.literal.specs.declared.SignedAtom.{SignedAtom}
use Rattle.literal.specs.declared.SignedAtom.TheVariants.{Positive, Negative}
use Rattle.literal.specs.declared.Literal.{Literal}
use Rattle.literal.specs.declared.Literal.TheVariants.{Signed, Defeated, Derived}
use Rattle.literal.specs.Limits.{source, plain}
use Rattle.semantics.specs.Set.{LiteralSet, Subset, set_of}
use Rattle.semantics.specs.Rule.{Rule, strict, defeasible, Program}
use Rattle.semantics.specs.Meaning.{AnswerSet}
use Rattle.semantics.specs.Translation.{rule_defeated, translation}
use Rattle.record.specs.Layout.{encoded_program}
use Rattle.record.specs.Reading.{parsed}
use Rattle.set.specs.Layout.{encoded_set}
use Rattle.aspif.specs.Aspif.{exported}
use Rattle.extend.specs.Extend.{extended}
use Rattle.check_set.specs.declared.Verdict.{Verdict}
use Rattle.check_set.specs.declared.Verdict.TheVariants.{Clash, Broken, Smaller, Yes}
use Rattle.check_set.specs.Check.{checked}
use Rattle.filter_print.specs.Filter.{filtered}

-- an example: what the filter writes for an input; a program, its bytes, its translation's bytes and rules, and its
-- answer sets over some literals; the extension of a set; the verdict on a set, with what the output slice holds then; the
-- aspif text of a plain program, and how many bytes it has
pub data Example : Type 0 where
  filter : List ℕ → List ℕ → Example
  answers : Program → ℕ → ℕ → ℕ → List Literal → List (List Literal) → Example
  extension : Program → List Literal → List Literal → Example
  check : List ℕ → List Literal → Verdict → List ℕ → Example
  exports : Program → ℕ → List ℕ → Example

-- a program's bytes are read back as the program and have this length, and so many bytes and rules has its translation;
-- of all sets over these literals, exactly these are answer sets
pub record Answers (p : Program) (bytes translated rules : ℕ) (over : List Literal) (sets : List (List Literal)) : Type 0 where
  pub read : parsed source (encoded_program p) ≡ Ok p
  pub source_bytes : length (encoded_program p) ≡ bytes
  pub translation_bytes : length (encoded_program (translation p)) ≡ translated
  pub translation_rules : length (translation p) ≡ rules
  pub exactly : (s : LiteralSet) → Subset s (set_of over) → AnswerSet p s ↔ ((ls : List Literal) × Memᴰ ls sets × (s ≡ set_of ls))

-- what a check in form F answers, lent an output slice of zeros as long as the set's record, and what it leaves there
abbrev pub Checks : Limits → List ℕ → List Literal → Verdict → List ℕ → Type 0
Checks F s ls v out =
    checked F s (encoded_set ls) (replicate (length (encoded_set ls)) 0) ≡ record { answer = Ok v; buffer = out }

-- what an example says. An extension and a text fill an output slice of their own length; a check says the same in both forms
unfoldable pub Says : Example → Type 0
Says (filter input output) = filtered input ≡ output
Says (answers p bytes translated rules over sets) = Answers p bytes translated rules over sets
Says (extension p ls ms) =
    extended source (encoded_program p) (encoded_set ls) (replicate (length (encoded_set ms)) 0)
    ≡ record { answer = Ok (length (encoded_set ms)); buffer = encoded_set ms }
Says (check s ls v out) = Checks source s ls v out × Checks plain s ls v out
Says (exports p n text) = exported plain (encoded_program p) (replicate n 0) ≡ record { answer = Ok n; buffer = text }

-- atoms, negated atoms and marks by their numbers
abbrev pub atom : ℕ → SignedAtom
atom n = Positive (record { 0 = n })

abbrev pub is : ℕ → Literal
is n = Signed (atom n)

abbrev pub is_not : ℕ → Literal
is_not n = Signed (Negative (record { 0 = n }))

abbrev pub defeated : ℕ → ℕ → Literal
defeated t n = Defeated (record { 0 = t }) (atom n)

abbrev pub derived : ℕ → ℕ → Literal
derived t n = Derived (record { 0 = t }) (atom n)

-- a strict rule without naf literals, and options under a tag
abbrev pub so : List Literal → List Literal → Rule
so h b = strict h b []

abbrev pub options : ℕ → List SignedAtom → List Literal → Rule
options t h b = defeasible (record { 0 = t }) h b []

-- M3: 000's Example 1
abbrev pub m3 : Program
m3 =
    options 1 (atom 1 ∷ atom 2 ∷ atom 3 ∷ []) [] ∷
    options 2 (atom 4 ∷ atom 5 ∷ []) [] ∷
    so (defeated 2 4 ∷ []) (is 1 ∷ []) ∷ so (defeated 2 5 ∷ []) (is 1 ∷ []) ∷ so (defeated 2 5 ∷ []) (is 2 ∷ []) ∷ []

abbrev pub m3_literals : List Literal
m3_literals = is 1 ∷ is 2 ∷ is 3 ∷ is 4 ∷ is 5 ∷ defeated 2 4 ∷ defeated 2 5 ∷ []

abbrev pub m3_answer_sets : List (List Literal)
m3_answer_sets =
    (is 1 ∷ defeated 2 4 ∷ defeated 2 5 ∷ []) ∷
    ((is 2 ∷ is 4 ∷ defeated 2 5 ∷ []) ∷ ((is 3 ∷ (is 4 ∷ [])) ∷ ((is 3 ∷ (is 5 ∷ [])) ∷ [])))

-- M1's input and output, record by record
abbrev pub m1_input : List ℕ
m1_input =
    0x44 ∷ 0x3A ∷ 0 ∷ 7 ∷ 1 ∷ 0 ∷ 0 ∷ 0 ∷ 0 ∷ 0 ∷ 0 ∷ 1 ∷ []
    ++ (0x45 ∷ 0x3A ∷ 0 ∷ 1 ∷ [])

abbrev pub m1_output : List ℕ
m1_output =
    (0x53 ∷ 0x3A ∷ 0x00 ∷ 0x00 ∷ 0x01 ∷ 0x00 ∷ 0x01 ∷ 0x04 ∷ 0x00 ∷ 0x07 ∷ 0x00 ∷ 0x01 ∷ 0x06 ∷ 0x00 ∷ 0x00 ∷ 0x00 ∷ 0x01 ∷ [])
    ++ ((0x53 ∷ 0x3A ∷ 0x00 ∷ 0x00 ∷ 0x01 ∷ 0x01 ∷ 0x00 ∷ 0x06 ∷ 0x00 ∷ 0x00 ∷ 0x00 ∷ 0x01 ∷ 0x02 ∷ 0x00 ∷ 0x07 ∷ 0x00 ∷ 0x01 ∷ [])
    ++ ((0x53 ∷ 0x3A ∷ 0x00 ∷ 0x00 ∷ 0x01 ∷ 0x01 ∷ 0x00 ∷ 0x00 ∷ 0x00 ∷ 0x00 ∷ 0x00 ∷ 0x01 ∷ 0x04 ∷ 0x00 ∷ 0x07 ∷ 0x00 ∷ 0x01 ∷ [])
    ++ ((0x53 ∷ 0x3A ∷ 0x00 ∷ 0x00 ∷ 0x01 ∷ 0x01 ∷ 0x01 ∷ 0x04 ∷ 0x00 ∷ 0x07 ∷ 0x00 ∷ 0x01 ∷ 0x00 ∷ 0x00 ∷ 0x00 ∷ 0x00 ∷ 0x01 ∷ 0x02
    ∷ 0x00 ∷ 0x07 ∷ 0x00 ∷ 0x01 ∷ [])
    ++ ((0x53 ∷ 0x3A ∷ 0x00 ∷ 0x00 ∷ 0x00 ∷ 0x02 ∷ 0x00 ∷ 0x04 ∷ 0x00 ∷ 0x07 ∷ 0x00 ∷ 0x01 ∷ 0x02 ∷ 0x00 ∷ 0x07 ∷ 0x00 ∷ 0x01 ∷ [])
    ++ ((0x45 ∷ 0x3A ∷ 0x00 ∷ 0x05 ∷ []))))))

-- the texts of Ask 1's example, of no rules, and of the facts 1 and negated 1, line by line
abbrev pub first_line : List ℕ
first_line = 0x61 ∷ 0x73 ∷ 0x70 ∷ 0x20 ∷ 0x31 ∷ 0x20 ∷ 0x30 ∷ 0x20 ∷ 0x30 ∷ 0x0A ∷ []

abbrev pub last_line : List ℕ
last_line = 0x30 ∷ 0x0A ∷ []

abbrev pub fact_text : List ℕ
fact_text =
    first_line
    ++ ((0x31 ∷ 0x20 ∷ 0x30 ∷ 0x20 ∷ 0x31 ∷ 0x20 ∷ 0x31 ∷ 0x20 ∷ 0x30 ∷ 0x20 ∷ 0x30 ∷ 0x0A ∷ [])
    ++ ((0x34 ∷ 0x20 ∷ 0x32 ∷ 0x20 ∷ 0x70 ∷ 0x31 ∷ 0x20 ∷ 0x31 ∷ 0x20 ∷ 0x31 ∷ 0x0A ∷ [])
    ++ last_line))

abbrev pub clash_text : List ℕ
clash_text =
    first_line
    ++ ((0x31 ∷ 0x20 ∷ 0x30 ∷ 0x20 ∷ 0x31 ∷ 0x20 ∷ 0x31 ∷ 0x20 ∷ 0x30 ∷ 0x20 ∷ 0x30 ∷ 0x0A ∷ [])
    ++ ((0x31 ∷ 0x20 ∷ 0x30 ∷ 0x20 ∷ 0x31 ∷ 0x20 ∷ 0x32 ∷ 0x20 ∷ 0x30 ∷ 0x20 ∷ 0x30 ∷ 0x0A ∷ [])
    ++ ((0x31 ∷ 0x20 ∷ 0x30 ∷ 0x20 ∷ 0x30 ∷ 0x20 ∷ 0x30 ∷ 0x20 ∷ 0x32 ∷ 0x20 ∷ 0x31 ∷ 0x20 ∷ 0x32 ∷ 0x0A ∷ [])
    ++ ((0x34 ∷ 0x20 ∷ 0x32 ∷ 0x20 ∷ 0x70 ∷ 0x31 ∷ 0x20 ∷ 0x31 ∷ 0x20 ∷ 0x31 ∷ 0x0A ∷ [])
    ++ ((0x34 ∷ 0x20 ∷ 0x32 ∷ 0x20 ∷ 0x6E ∷ 0x31 ∷ 0x20 ∷ 0x31 ∷ 0x20 ∷ 0x32 ∷ 0x0A ∷ [])
    ++ last_line)))))

-- the marked examples
unfoldable pub examples : List Example
examples =
    -- M1
    filter m1_input m1_output ∷
    -- M2
    filter [] (0x52 ∷ 0x3A ∷ 2 ∷ 0 ∷ 0 ∷ 0 ∷ 0 ∷ []) ∷
    -- M3
    answers m3 94 433 22 m3_literals m3_answer_sets ∷
    -- M4
    extension (so (is 1 ∷ []) [] ∷ options 7 (atom 1 ∷ []) (is 2 ∷ []) ∷ []) (is 1 ∷ []) (is 1 ∷ derived 7 1 ∷ []) ∷
    -- M5
    extension (options 7 (atom 1 ∷ []) [] ∷ options 7 (atom 2 ∷ []) [] ∷ so (defeated 7 1 ∷ []) [] ∷ []) (is 2 ∷ defeated 7 1 ∷ [])
    (is 2 ∷ (defeated 7 1 ∷ (derived 7 2 ∷ (rule_defeated 1 ∷ [])))) ∷
    -- M6
    check (encoded_program (so (is 1 ∷ is 2 ∷ []) [] ∷ [])) (is 1 ∷ is 2 ∷ []) (Smaller 9) (encoded_set (is 2 ∷ []) ++ replicate 5 0) ∷
    -- M7
    check (encoded_program []) (is 1 ∷ is_not 1 ∷ []) (Clash 1) (replicate 14 0) ∷
    -- M8
    check (encoded_program (so [] [] ∷ [])) [] (Broken (record { 0 = 1 })) (replicate 4 0) ∷
    -- M9
    check (0x45 ∷ 0x3A ∷ 0 ∷ 0 ∷ []) [] Yes (replicate 4 0) ∷
    check (0x45 ∷ 0x3A ∷ 0 ∷ 0 ∷ []) (is 1 ∷ []) (Smaller 4) (encoded_set [] ++ replicate 5 0) ∷
    -- Ask 1
    exports (so (is 1 ∷ []) [] ∷ []) 35 fact_text ∷
    exports [] 12 (first_line ++ last_line) ∷
    exports (so (is 1 ∷ []) [] ∷ so (is_not 1 ∷ []) [] ∷ []) 72 clash_text ∷ []

-- each example says what holds
abbrev pub AllSay : List Example → Type 0
AllSay [] = Unit
AllSay (x ∷ xs) = Says x × AllSay xs

-- What is asked of rules whose heads are put into tables, and what a rule's head adds to them.
-- In order: a rule whose tag and options have places; a record whose tag and options have; the tables with one rule more.
-- Assumes nothing.
use Rattle.std.specs.Prelude.{ℕ, ◌<◌, ◌≡◌, Bool, true, ◌&&◌, List, [], ◌∷◌, ◌++◌, T, ltb, length}
use Rattle.semantics.specs.Set.{each_of}
use Rattle.semantics.specs.Rule.{Rule, strict, defeasible, Program}
use Rattle.semantics.specs.Expansion.{Override}
use Rattle.record.specs.Header.{head_count}
use Rattle.record_walk.specs.Code.{Starts, tag_at, options_at}
use Rattle.expand_tables.specs.Code.{place_of, Tables, Headed}

-- a rule whose tag has one of so many places, and each of whose options has one
unfoldable pub placed : ℕ → ℕ → Rule → Bool
placed tags options (strict h b c) = true
placed tags options (defeasible t h b c) = ltb t.0 tags && each_of (λ a. ltb (place_of a) options) h

abbrev pub Placed : ℕ → ℕ → Program → Type 0
Placed tags options p = T (each_of (placed tags options) p)

-- so it is with the tag and the options in a record that starts a part
pub record Places (part : List ℕ) (tags options : ℕ) : Type 0 where
  pub tag : (tag_at part).0 < tags
  pub each : T (each_of (λ a. ltb (place_of a) options) (options_at part 7 (head_count part)))

-- tables of heads became others, as long: the head of the rule whose record starts the part is in them
pub record HeadAdded (part up low win lose won lost : List ℕ) : Type 0 where
  pub win_same : length won ≡ length win
  pub lose_same : length lost ≡ length lose
  pub headed : (p : Program) (os : List Override) (lowers : List ℕ) (r : Rule) → Starts part r → Tables os up low lowers → Headed p os win lose
      → Headed (p ++ r ∷ []) os won lost

-- those of all rules of a program are
pub record HeadsAdded (p : Program) (up low win lose won lost : List ℕ) : Type 0 where
  pub win_same : length won ≡ length win
  pub lose_same : length lost ≡ length lose
  pub headed : (os : List Override) (lowers : List ℕ) → Tables os up low lowers → Headed [] os win lose → Headed p os won lost

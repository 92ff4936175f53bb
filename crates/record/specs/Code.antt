-- What the reader's functions answer, from what the definitions of `Reading` give: a function keeps a rule's length
-- where the definition gives the rule.
-- In order: a run of literals; the kinds of head literals; one record, and what is left behind it; what the part of a file from a place on
-- comes to; how many rules a file holds, and whether it holds sheet records.
-- Assumes nothing.
use Rattle.std.specs.Prelude.{ℕ, zero, suc, ◌+◌, ◌-◌, Bool, true, ◌&&◌, ◌||◌, List, [], ◌∷◌, ltb, leb, length, get_or, drop, Result, Ok, Err, Option, Some, None}
use Rattle.literal.specs.declared.Limits.{Limits}
use Rattle.literal.specs.declared.Literal.{Literal}
use Rattle.semantics.specs.Item.{Item, rule, override, opposition}
use Rattle.record.specs.declared.Step.{Step}
use Rattle.record.specs.declared.Held.{Held}
use Rattle.record.specs.Result.{Answer}
use Rattle.record.specs.Reading.{Entry, item, end, holding, items_from}

-- a run of literals is right, or refused
unfoldable pub run_of : Answer (List Literal) → Answer (Unit {0})
run_of (Ok ls) = Ok tt
run_of (Err x) = Err x

-- n kind bytes, five bytes apart from `at` on, are those of atoms and negated atoms
unfoldable pub signed_kinds : List ℕ → ℕ → ℕ → Bool
signed_kinds t at zero = true
signed_kinds t at (suc n) = leb (get_or t at 0) 1 && signed_kinds t (at + 5) n

-- one record: an item's kind and length, the end, or a refusal
unfoldable pub step_of : Answer Entry → Answer Step
step_of (Ok (item (rule r) size)) = Ok (Step.Rule size)
step_of (Ok (item (override o) size)) = Ok (Step.Override size)
step_of (Ok (item (opposition x) size)) = Ok (Step.Opposition size)
step_of (Ok end) = Ok Step.End
step_of (Err x) = Err x

-- what is left behind it, where h is held before it
unfoldable pub next_of : Held → Step → Option (ℕ × Held)
next_of h (Step.Rule size) = Some (size, record { rules = h.rules + 1; overrides = h.overrides; oppositions = h.oppositions })
next_of h (Step.Override size) = Some (size, record { rules = h.rules; overrides = h.overrides + 1; oppositions = h.oppositions })
next_of h (Step.Opposition size) = Some (size, record { rules = h.rules; overrides = h.overrides; oppositions = h.oppositions + 1 })
next_of h Step.End = None

unfoldable pub found_of : Held → Answer Step → Answer (Option (ℕ × Held))
found_of h (Ok x) = Ok (next_of h x)
found_of h (Err x) = Err x

-- how many items are held
abbrev pub total : Held → ℕ
total h = h.rules + h.overrides + h.oppositions

-- h with the items of a part behind it
unfoldable pub held_on : Held → List Item → Held
held_on h [] = h
held_on h (i ∷ is) = held_on (holding h i) is

unfoldable pub read_on : Held → Answer (List Item) → Answer Held
read_on h (Ok is) = Ok (held_on h is)
read_on h (Err x) = Err x

-- the part of s from `at` on, where h is held
unfoldable pub left : Limits → List ℕ → ℕ → Held → Answer Held
left F s at h = read_on h (items_from F (length s + 1 - total h) (drop at s) at h)

-- how many rules are held
unfoldable pub rule_count : Answer Held → Answer ℕ
rule_count (Ok h) = Ok h.rules
rule_count (Err x) = Err x

-- sheet records are held
unfoldable pub sheeted : Held → Bool
sheeted h = ltb 0 h.overrides || ltb 0 h.oppositions

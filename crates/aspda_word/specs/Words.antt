-- The 64-bit words that the exported functions answer. A refusal is 2^63 + number * 2^32 + place, all else is below 2^63.
-- In order: refusals; counts; an assembly's calls; what writes; show; check; that a word tells a refusal. Not here: that a word has room for an
-- answer (`Code`).
-- Assumes nothing.
use Rattle.std.specs.Prelude.{ℕ, ◌+◌, ◌*◌, ◌^◌, ◌≤◌, ◌≡◌, ◌↔◌, List, Ok, Err}
use Rattle.record.specs.declared.Refusal.{Refusal}
use Rattle.record.specs.Refusal.{refusal_number}
use Rattle.record.specs.Result.{Outcome, Answer}
use Rattle.record_show.specs.declared.Extent.{Extent}
use Rattle.check_set.specs.declared.Verdict.{Verdict}
use Rattle.check_set.specs.Check.{Checked}
use Rattle.assembly.specs.Calls.{Called}

-- a refusal, by number and place
abbrev pub refusal_word : Refusal → ℕ
refusal_word x = 9223372036854775808 + refusal_number x * 4294967296 + x.place

-- a number of rules, or of bytes written
abbrev pub count_word : Answer ℕ → ℕ
count_word (Ok n) = n
count_word (Err x) = refusal_word x

-- begin, add, drop and close: the rules then held. The word r and the state, as it is at the end, are those of the call
pub record KeepsWord (o : Called) (r : ℕ) (st : List ℕ) : Type 0 where
  pub answer : r ≡ count_word o.answer
  pub state : st ≡ o.state

-- and so is the lent buffer
pub record CallsWord (o : Called) (r : ℕ) (st out : List ℕ) : Type 0 where
  pub answer : r ≡ count_word o.answer
  pub state : st ≡ o.state
  pub buffer : out ≡ o.buffer

-- translate, and each operation that writes a result: the word r and the lent buffer, as it is at the end, are those of an outcome
pub record MeetsWord (o : Outcome) (r : ℕ) (out : List ℕ) : Type 0 where
  pub answer : r ≡ count_word o.answer
  pub buffer : out ≡ o.buffer

-- show: the part's start and length
abbrev pub extent_word : Extent → ℕ
extent_word e = e.start * 4294967296 + e.size

abbrev pub shown_word : Answer Extent → ℕ
shown_word (Ok e) = extent_word e
shown_word (Err x) = refusal_word x

-- check: yes, or the verdict's number in the upper half and its value in the lower
abbrev pub verdict_word : Verdict → ℕ
verdict_word (Verdict.Clash k) = 4294967296 + k
verdict_word (Verdict.Broken n) = 8589934592 + n.0
verdict_word (Verdict.Smaller n) = 12884901888 + n
verdict_word Verdict.Yes = 0

abbrev pub check_word : Answer Verdict → ℕ
check_word (Ok v) = verdict_word v
check_word (Err x) = refusal_word x

-- the word r and the lent buffer, as it is at the end, are those of a check
pub record MeetsVerdict (o : Checked) (r : ℕ) (out : List ℕ) : Type 0 where
  pub answer : r ≡ check_word o.answer
  pub buffer : out ≡ o.buffer

-- a word is 2^63 or more exactly if the answer is a refusal: its highest bit tells
abbrev pub Told : {A : Type 0} → (Answer A → ℕ) → Answer A → Type 0
Told word a = (2 ^ 63 ≤ word a) ↔ ((x : Refusal) × (a ≡ Err x))

-- of each kind of answer
abbrev pub ToldCount : Answer ℕ → Type 0
ToldCount = Told count_word

abbrev pub ToldShown : Answer Extent → Type 0
ToldShown = Told shown_word

abbrev pub ToldCheck : Answer Verdict → Type 0
ToldCheck = Told check_word

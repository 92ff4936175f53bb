-- Histories of calls (02, Ask 4): each call gets the state that the one before gave back, and all are lent the same buffer, which only they write.
-- In order: a state and a buffer; what a call makes of them, and a list of calls; the rule of a record; the rules that are added and not
-- dropped; records of bytes; bytes that a history gives back.
-- Assumes nothing.
use Rattle.std.specs.Prelude.{ℕ, ◌-◌, ◌≡◌, List, [], ◌∷◌, ◌++◌, length, take, replicate, Ok, Err}
use Rattle.buffer.specs.Bytes.{Bytes}
use Rattle.literal.specs.declared.Limits.{Limits}
use Rattle.semantics.specs.Rule.{Program}
use Rattle.semantics.specs.Item.{rule, override, opposition}
use Rattle.record.specs.Result.{Answer}
use Rattle.record.specs.Reading.{Entry, item, end, rules_held, record_at}
use Rattle.assembly.specs.State.{state_bytes}
use Rattle.assembly.specs.Calls.{Call, begin, add, drop_last, close, Called, called}

-- what stands between two calls
pub record Session : Type 0 where
  pub state : List ℕ
  pub buffer : List ℕ

-- what a call of a session comes to, and the session behind it
abbrev pub called_in : Limits → Call → Session → Called
called_in F c s = called F c s.state s.buffer

abbrev pub after : Limits → Call → Session → Session
after F c s = record { state = (called_in F c s).state; buffer = (called_in F c s).buffer }

-- a history: calls in order
unfoldable pub run : Limits → List Call → Session → Session
run F [] s = s
run F (c ∷ cs) s = run F cs (after F c s)

-- the rule that a record is read as
unfoldable pub rule_read : Answer Entry → Program
rule_read (Ok (item (rule r) size)) = r ∷ []
rule_read (Ok (item (override o) size)) = []
rule_read (Ok (item (opposition x) size)) = []
rule_read (Ok end) = []
rule_read (Err x) = []

-- the rules that are there behind a call, where p were before it: an accepted begin starts afresh, an accepted add has its record's rule
-- behind them, an accepted drop takes the last
unfoldable pub listed : Limits → Call → Answer ℕ → Program → Program
listed F c (Err x) p = p
listed F begin (Ok n) p = []
listed F (add t) (Ok n) p = p ++ rule_read (record_at F (rules_held (length p)) t)
listed F drop_last (Ok n) p = take (length p - 1) p
listed F close (Ok n) p = p

-- the rules added since the last accepted begin and not dropped, in order
unfoldable pub rules_after : Limits → List Call → Session → Program → Program
rules_after F [] s p = p
rules_after F (c ∷ cs) s p = rules_after F cs (after F c s) (listed F c (called_in F c s).answer p)

-- a record is a slice of bytes
abbrev pub BytesIn : Call → Type 0
BytesIn begin = Unit
BytesIn (add t) = Bytes t
BytesIn drop_last = Unit
BytesIn close = Unit

abbrev pub AllBytes : List Call → Type 0
AllBytes [] = Unit
AllBytes (c ∷ cs) = BytesIn c × AllBytes cs

-- some history of calls, begun from zeros, gives these bytes back as its state
abbrev pub GivenBack : Limits → List ℕ → Type 0
GivenBack F bs =
    (cs : List Call) × (out : List ℕ) × AllBytes cs × ((run F cs (record { state = replicate (state_bytes F) 0; buffer = out })).state ≡ bs)

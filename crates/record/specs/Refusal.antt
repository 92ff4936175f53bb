-- Refusals: document 01's number for each reason, and the R: record (01, "Operations and what each refuses", "Records").
-- Assumes nothing.
use Rattle.std.specs.Prelude.{ℕ, ◌+◌, List, ◌∷◌}
use Rattle.buffer.specs.Bytes.{four_bytes}
use Rattle.record.specs.declared.Reason.{Reason}
use Rattle.record.specs.declared.Reason.TheVariants.{TooLong, MarkCut, MarkWrong, HeaderCut, TooManyRules, TagWrong, TooManyLiterals, LiteralsCut, LiteralWrong, HeadWrong, EndWrong, OutputShort, SetWrong, SetTooLarge, MemberWrong, NoSuchRule, TooManySheets, SheetCut, SheetSame, OutOfTurn}
use Rattle.record.specs.declared.Refusal.{Refusal}
use Rattle.record.specs.Header.{refusal_letter, colon}

-- the number of each reason, in the order in which an operation tries them
abbrev pub reason_number : Reason → ℕ
reason_number TooLong = 1
reason_number MarkCut = 2
reason_number MarkWrong = 3
reason_number HeaderCut = 2
reason_number TooManyRules = 4
reason_number TagWrong = 6
reason_number TooManyLiterals = 4
reason_number LiteralsCut = 2
reason_number LiteralWrong = 5
reason_number HeadWrong = 7
reason_number EndWrong = 8
reason_number TooManySheets = 4
reason_number SheetCut = 2
reason_number SheetSame = 14
reason_number SetWrong = 10
reason_number SetTooLarge = 12
reason_number MemberWrong = 11
reason_number OutputShort = 9
reason_number NoSuchRule = 13
reason_number OutOfTurn = 15

-- a refusal's number
abbrev pub refusal_number : Refusal → ℕ
refusal_number x = reason_number x.reason

-- a refusal at a place
abbrev pub refusal : Reason → ℕ → Refusal
refusal r at = record { reason = r; place = at }

-- a refusal whose place was counted from `at`
unfoldable pub shifted : ℕ → Refusal → Refusal
shifted at x = record { reason = x.reason; place = at + x.place }

-- the R: record: number (1 byte), place (4 bytes)
unfoldable pub encoded_refusal : Refusal → List ℕ
encoded_refusal x = refusal_letter ∷ colon ∷ refusal_number x ∷ four_bytes x.place

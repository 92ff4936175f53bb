-- What code asks of an answer that it packs into a word: that the word has room for each part.
-- In order: a place and an extent; a count, and an answer of show; a verdict, and an answer of check.
-- Assumes nothing.
use Rattle.std.specs.Prelude.{◌+◌, ◌<◌, Ok, Err, ℕ}
use Rattle.record.specs.Result.{Answer}
use Rattle.record.specs.declared.Refusal.{Refusal}
use Rattle.record_show.specs.declared.Extent.{Extent}
use Rattle.check_set.specs.declared.Verdict.{Verdict}

-- a place, and an extent, that a word has room for
abbrev pub ShortPlace : Refusal → Type 0
ShortPlace x = x.place < 4294967296

abbrev pub ShortExtent : Extent → Type 0
ShortExtent e = e.start + e.size < 2147483648

-- the parts of an answer that has such
abbrev pub ShortCount : Answer ℕ → Type 0
ShortCount (Ok n) = Unit
ShortCount (Err x) = ShortPlace x

abbrev pub ShortShown : Answer Extent → Type 0
ShortShown (Ok e) = ShortExtent e
ShortShown (Err x) = ShortPlace x

-- a verdict whose value the lower half has room for
abbrev pub ShortVerdict : Verdict → Type 0
ShortVerdict (Verdict.Clash k) = k < 4294967296
ShortVerdict (Verdict.Broken n) = n.0 < 4294967296
ShortVerdict (Verdict.Smaller n) = n < 4294967296
ShortVerdict Verdict.Yes = Unit

abbrev pub ShortCheck : Answer Verdict → Type 0
ShortCheck (Ok v) = ShortVerdict v
ShortCheck (Err x) = ShortPlace x

-- Laws of the marks of a record's options, one by one.
-- Assumes nothing.
use Prim.Native.Nat.{ℕ, ◌+◌, ◌*◌, ◌-◌, ◌≤◌, ◌<◌}
use native.Mathlib.Omega.{arith}
use mathlib.Core.Path.{◌≡◌, ◌∙◌, ap}
use mathlib.Core.Bool.{Bool}
use mathlib.Core.List.{List, [], ◌++◌, map}
use lib.ListN.{length, length-map}
use Rattle.literal.specs.declared.Tag.{Tag}
use Rattle.literal.specs.declared.SignedAtom.{SignedAtom}
use Rattle.literal.specs.Literal.{encoded}
use Rattle.record.specs.Layout.{encoded_literals}
use Rattle.record.proofs.Laws.Layout.{length-encoded-literals}
use Rattle.record_walk.specs.Code.{option_at, options_at}
use Rattle.record_walk.proofs.Laws.Options.{length-options-at, options-next, options-none}
use Rattle.translate_options.specs.Code.{mark_of}

module _ (s : List ℕ) where
  module _ (d : Bool) (t : Tag) where
    -- the bytes of the marks of n options
    abbrev pub marks : ℕ → ℕ → List ℕ
    marks at n = encoded_literals (map (mark_of d t) (options_at s at n))

    -- what is left of n marks behind the first i: the next option's mark, and those behind it
    pub marks-next : (i n : ℕ) → i < n
        → marks (7 + 5 * i) (n - i) ≡ encoded (mark_of d t (option_at s (7 + 5 * i))) ++ marks (7 + 5 * (i + 1)) (n - (i + 1))
    unfolding encoded_literals
    marks-next i n h = ap (λ (os : List SignedAtom). encoded_literals (map (mark_of d t) os)) (options-next s i n h)

    -- no mark left
    pub marks-none : (at n : ℕ) → n ≤ 0 → marks at n ≡ []
    unfolding encoded_literals
    marks-none at n h = ap (λ (os : List SignedAtom). encoded_literals (map (mark_of d t) os)) (options-none s at n h)

    -- five bytes for each mark
    pub length-marks : (at n : ℕ) → length (marks at n) ≡ 5 * n
    length-marks at n =
        length-encoded-literals (map (mark_of d t) (options_at s at n)) ∙ omega (arith, length-map (options_at s at n) (mark_of d t), length-options-at s n at)

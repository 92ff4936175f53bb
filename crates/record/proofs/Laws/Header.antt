-- Reading a record's header, a sheet record and the end record, test by test. Assumes nothing.
use Prim.Native.Nat.{ℕ, ◌≤◌, ◌<◌}
use Rattle.std.specs.Prelude.{Ok, Err}
use mathlib.Core.Path.{◌≡◌, ◌∙◌, ap}
use mathlib.Core.Bool.{Bool, true, false, not, ◌&&◌, and-false}
use mathlib.Core.List.{List}
use lib.Dec.{eqb}
use lib.ListN.{length}
use borrow.Author.Tests.{le-ltb, lt-ltb, le-leb, lt-leb, eq-eqb, ne_eqb}
use Rattle.buffer.specs.Bytes.{number_at}
use Rattle.literal.specs.declared.Limits.{Limits}
use Rattle.literal.specs.declared.SignedAtom.{SignedAtom}
use Rattle.literal.specs.Literal.{in_range}
use Rattle.semantics.specs.Set.{same_signed}
use Rattle.semantics.specs.Item.{override}
use Rattle.semantics.specs.Form.{keeps_counts}
use Rattle.record.specs.declared.Reason.TheVariants.{MarkCut, MarkWrong, HeaderCut, TooManyRules, TagWrong, TooManyLiterals, EndWrong, TooManySheets, SheetCut, SheetSame}
use Rattle.record.specs.declared.Step.{Step}
use Rattle.record.specs.declared.Held.{Held}
use Rattle.record.specs.declared.Refusal.{Refusal}
use Rattle.record.specs.Header.{head_count, positive_count, naf_count}
use Rattle.record.specs.Refusal.{refusal}
use Rattle.record.specs.Result.{Answer, and_then, refuse_if}
use Rattle.record.specs.Reading.{Mark, RuleMark, OverrideMark, OppositionMark, EndMark, NoMark, item, end, tag_right, body_at, rule_at, override_at, signed_at, opposition_of, opposition_at, end_at, mark_at, marked_record, record_at}
use Rattle.record.specs.Code.{step_of}
use Rattle.record.proofs.Laws.Result.{refuse-if-true, refuse-if-false}

-- a rule's header, in document 01's order
module _ (F : Limits) (d : Bool) (n : ℕ) (t : List ℕ) where
  -- 2: the header is cut
  pub rule-cut : length t < 7 → step_of (rule_at F d n t) ≡ Err (refusal HeaderCut 0)
  unfolding rule_at step_of
  rule-cut h = ap step_of (refuse-if-true _ _ _ (lt-ltb (length t) 7 h))

  module _ (whole : 7 ≤ length t) where
    -- 4: one rule too many
    pub rule-many : F.rules ≤ n → step_of (rule_at F d n t) ≡ Err (refusal TooManyRules 0)
    unfolding rule_at step_of
    rule-many h = ap step_of (refuse-if-false _ _ _ (le-ltb (length t) 7 whole) ∙ refuse-if-true _ _ _ (le-leb F.rules n h))

    module _ (room : n < F.rules) where
      rule-room : rule_at F d n t
          ≡ refuse_if (not (tag_right F d (number_at t 2))) (refusal TagWrong 0)
          (refuse_if (not (keeps_counts F (head_count t) (positive_count t) (naf_count t))) (refusal TooManyLiterals 0)
          (body_at F d t (head_count t) (positive_count t) (naf_count t)))
      unfolding rule_at
      rule-room = refuse-if-false _ _ _ (le-ltb (length t) 7 whole) ∙ refuse-if-false _ _ _ (lt-leb F.rules n room)

      -- 6: the tag is out of its range
      pub rule-tag : tag_right F d (number_at t 2) ≡ false → step_of (rule_at F d n t) ≡ Err (refusal TagWrong 0)
      unfolding step_of
      rule-tag e = ap step_of (rule-room ∙ refuse-if-true _ _ _ (ap not e))

      module _ (tag : tag_right F d (number_at t 2) ≡ true) where
        -- 4: a count over its limit
        pub rule-counts : keeps_counts F (head_count t) (positive_count t) (naf_count t) ≡ false
            → step_of (rule_at F d n t) ≡ Err (refusal TooManyLiterals 0)
        unfolding step_of
        rule-counts e =
            ap step_of (rule-room ∙ refuse-if-false _ _ _ (ap not tag)
            ∙ refuse-if-true _ _ _ (ap not e))

        -- then the body
        pub rule-body : keeps_counts F (head_count t) (positive_count t) (naf_count t) ≡ true
            → step_of (rule_at F d n t) ≡ step_of (body_at F d t (head_count t) (positive_count t) (naf_count t))
        rule-body e =
            ap step_of (rule-room ∙ refuse-if-false _ _ _ (ap not tag)
            ∙ refuse-if-false _ _ _ (ap not e))

-- the end record
module _ (n : ℕ) (t : List ℕ) where
  -- 2: it is cut
  pub end-cut : length t < 4 → step_of (end_at n t) ≡ Err (refusal HeaderCut 0)
  unfolding end_at step_of
  end-cut h = ap step_of (refuse-if-true _ _ _ (lt-ltb (length t) 4 h))

  module _ (whole : 4 ≤ length t) where
    end_whole : end_at n t ≡ refuse_if (not (eqb (number_at t 2) n && eqb (length t) 4)) (refusal EndWrong 0) (Ok end)
    unfolding end_at
    end_whole = refuse-if-false _ _ _ (le-ltb (length t) 4 whole)

    -- 8: a wrong number
    pub end-number : (number_at t 2 ≡ n → ⊥) → step_of (end_at n t) ≡ Err (refusal EndWrong 0)
    unfolding step_of
    end-number e =
        ap step_of (end_whole ∙ refuse-if-true _ _ _ (ap (λ (x : Bool). not (x && eqb (length t) 4)) (ne_eqb (number_at t 2) n e)))

    -- 8: bytes behind it
    pub end-behind : (length t ≡ 4 → ⊥) → step_of (end_at n t) ≡ Err (refusal EndWrong 0)
    unfolding step_of
    end-behind e =
        ap step_of (end_whole ∙ refuse-if-true _ _ _
        (ap (λ (x : Bool). not (eqb (number_at t 2) n && x)) (ne_eqb (length t) 4 e) ∙ ap not (and-false (eqb (number_at t 2) n))))

    pub end-right : number_at t 2 ≡ n → length t ≡ 4 → step_of (end_at n t) ≡ Ok Step.End
    unfolding step_of
    end-right e f =
        ap step_of (end_whole ∙ refuse-if-false _ _ _
        (ap (λ (x : Bool). not (x && eqb (length t) 4)) (eq-eqb (number_at t 2) n e) ∙ ap not (eq-eqb (length t) 4 f)))

-- a sheet record, in document 02's order
module _ (F : Limits) (n : ℕ) (t : List ℕ) where
  -- 4: one too many
  pub override-many : F.sheets ≤ n → step_of (override_at F n t) ≡ Err (refusal TooManySheets 0)
  unfolding override_at step_of
  override-many h = ap step_of (refuse-if-true _ _ _ (le-leb F.sheets n h))

  pub opposition-many : F.sheets ≤ n → step_of (opposition_at F n t) ≡ Err (refusal TooManySheets 0)
  unfolding opposition_at step_of
  opposition-many h = ap step_of (refuse-if-true _ _ _ (le-leb F.sheets n h))

  module _ (room : n < F.sheets) where
    -- 2: it is cut
    pub override-cut : length t < 6 → step_of (override_at F n t) ≡ Err (refusal SheetCut 0)
    unfolding override_at step_of
    override-cut h = ap step_of (refuse-if-false _ _ _ (lt-leb F.sheets n room) ∙ refuse-if-true _ _ _ (lt-ltb (length t) 6 h))

    pub opposition-cut : length t < 12 → step_of (opposition_at F n t) ≡ Err (refusal SheetCut 0)
    unfolding opposition_at step_of
    opposition-cut h = ap step_of (refuse-if-false _ _ _ (lt-leb F.sheets n room) ∙ refuse-if-true _ _ _ (lt-ltb (length t) 12 h))

    module _ (whole : 6 ≤ length t) where
      override-whole : override_at F n t
          ≡ refuse_if (not (in_range F.tags (number_at t 2) && in_range F.tags (number_at t 4))) (refusal TagWrong 0)
          (refuse_if (eqb (number_at t 2) (number_at t 4)) (refusal SheetSame 0)
          (Ok (item (override (record { upper = record { 0 = number_at t 2 }; lower = record { 0 = number_at t 4 } })) 6)))
      unfolding override_at
      override-whole = refuse-if-false _ _ _ (lt-leb F.sheets n room) ∙ refuse-if-false _ _ _ (le-ltb (length t) 6 whole)

      -- 6: a tag out of its range
      pub override-tag : (in_range F.tags (number_at t 2) && in_range F.tags (number_at t 4)) ≡ false
          → step_of (override_at F n t) ≡ Err (refusal TagWrong 0)
      unfolding step_of
      override-tag e = ap step_of (override-whole ∙ refuse-if-true _ _ _ (ap not e))

      module _ (tags : (in_range F.tags (number_at t 2) && in_range F.tags (number_at t 4)) ≡ true) where
        -- 14: both are the same
        pub override-same : number_at t 2 ≡ number_at t 4 → step_of (override_at F n t) ≡ Err (refusal SheetSame 0)
        unfolding step_of
        override-same e =
            ap step_of (override-whole ∙ refuse-if-false _ _ _ (ap not tags) ∙ refuse-if-true _ _ _ (eq-eqb (number_at t 2) (number_at t 4) e))

        pub override-right : (number_at t 2 ≡ number_at t 4 → ⊥) → step_of (override_at F n t) ≡ Ok (Step.Override 6)
        unfolding step_of
        override-right e =
            ap step_of (override-whole ∙ refuse-if-false _ _ _ (ap not tags) ∙ refuse-if-false _ _ _ (ne_eqb (number_at t 2) (number_at t 4) e))

    module _ (whole : 12 ≤ length t) where
      opposition-whole : opposition_at F n t ≡ and_then (signed_at F t 2) (λ a. and_then (signed_at F t 7) (λ b. opposition_of a b))
      unfolding opposition_at
      opposition-whole = refuse-if-false _ _ _ (lt-leb F.sheets n room) ∙ refuse-if-false _ _ _ (le-ltb (length t) 12 whole)

      -- 5: the first literal that is wrong
      pub opposition-one : (x : Refusal) → signed_at F t 2 ≡ Err x → step_of (opposition_at F n t) ≡ Err x
      unfolding step_of and_then
      opposition-one x e =
          ap step_of (opposition-whole ∙ ap (λ (r : Answer SignedAtom). and_then r (λ a. and_then (signed_at F t 7) (λ b. opposition_of a b))) e)

      module _ (a : SignedAtom) (one : signed_at F t 2 ≡ Ok a) where
        opposition-behind : opposition_at F n t ≡ and_then (signed_at F t 7) (λ b. opposition_of a b)
        unfolding and_then
        opposition-behind = opposition-whole ∙ ap (λ (r : Answer SignedAtom). and_then r (λ a. and_then (signed_at F t 7) (λ b. opposition_of a b))) one

        pub opposition-other : (x : Refusal) → signed_at F t 7 ≡ Err x → step_of (opposition_at F n t) ≡ Err x
        unfolding step_of and_then
        opposition-other x e = ap step_of (opposition-behind ∙ ap (λ (r : Answer SignedAtom). and_then r (λ b. opposition_of a b)) e)

        module _ (b : SignedAtom) (other : signed_at F t 7 ≡ Ok b) where
          opposition-both : opposition_at F n t ≡ opposition_of a b
          unfolding and_then
          opposition-both = opposition-behind ∙ ap (λ (r : Answer SignedAtom). and_then r (λ b. opposition_of a b)) other

          -- 14: both are the same
          pub opposition-same : same_signed a b ≡ true → step_of (opposition_at F n t) ≡ Err (refusal SheetSame 0)
          unfolding step_of opposition_of
          opposition-same e = ap step_of (opposition-both ∙ refuse-if-true _ _ _ e)

          pub opposition-right : same_signed a b ≡ false → step_of (opposition_at F n t) ≡ Ok (Step.Opposition 12)
          unfolding step_of opposition_of
          opposition-right e = ap step_of (opposition-both ∙ refuse-if-false _ _ _ e)

-- one record
module _ (F : Limits) (h : Held) (t : List ℕ) where
  -- 2: fewer than two bytes are left
  pub record-cut : length t < 2 → step_of (record_at F h t) ≡ Err (refusal MarkCut 0)
  unfolding record_at step_of
  record-cut k = ap step_of (refuse-if-true _ _ _ (lt-ltb (length t) 2 k))

  module _ (whole : 2 ≤ length t) where
    record-mark : (m : Mark) → mark_at F t ≡ m → record_at F h t ≡ marked_record F m h t
    unfolding record_at
    record-mark m e = refuse-if-false _ _ _ (le-ltb (length t) 2 whole) ∙ ap (λ (x : Mark). marked_record F x h t) e

    pub record-rule : (d : Bool) → mark_at F t ≡ RuleMark d → step_of (record_at F h t) ≡ step_of (rule_at F d h.rules t)
    unfolding marked_record
    record-rule d e = ap step_of (record-mark (RuleMark d) e)

    pub record-override : mark_at F t ≡ OverrideMark → step_of (record_at F h t) ≡ step_of (override_at F h.overrides t)
    unfolding marked_record
    record-override e = ap step_of (record-mark OverrideMark e)

    pub record-opposition : mark_at F t ≡ OppositionMark → step_of (record_at F h t) ≡ step_of (opposition_at F h.oppositions t)
    unfolding marked_record
    record-opposition e = ap step_of (record-mark OppositionMark e)

    pub record-end : mark_at F t ≡ EndMark → step_of (record_at F h t) ≡ step_of (end_at h.rules t)
    unfolding marked_record
    record-end e = ap step_of (record-mark EndMark e)

    -- 3: the mark is none of the form's
    pub record-unmarked : mark_at F t ≡ NoMark → step_of (record_at F h t) ≡ Err (refusal MarkWrong 0)
    unfolding marked_record step_of
    record-unmarked e = ap step_of (record-mark NoMark e)

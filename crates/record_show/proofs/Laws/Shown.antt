-- Showing a record, from what reading answered. Assumes nothing.
use Prim.Native.Nat.{ℕ, ◌+◌, ◌≤◌, ◌<◌}
use Rattle.std.specs.Prelude.{Ok, Err}
use native.Mathlib.Omega.{arith}
use mathlib.Core.Path.{◌≡◌, refl, sym, ◌∙◌, ap, subst}
use mathlib.Core.Bool.{Bool, true, false, ◌&&◌, and-false}
use mathlib.Core.List.{List, map}
use lib.Dec.{T, leb, leb→le}
use lib.ListN.{length}
use borrow.Author.Tests.{le-leb, lt-leb}
use Rattle.buffer.specs.Bytes.{Bytes}
use Rattle.literal.specs.declared.Limits.{Limits}
use Rattle.literal.specs.Literal.{in_range}
use Rattle.semantics.specs.Item.{Item, rule, rules}
use Rattle.semantics.proofs.Laws.Tests.{first, second, along}
use Rattle.record.specs.declared.Reason.TheVariants.{NoSuchRule}
use Rattle.record.specs.declared.Refusal.{Refusal}
use Rattle.record.specs.declared.Held.{Held}
use Rattle.record.specs.Refusal.{refusal}
use Rattle.record.specs.Result.{Answer}
use Rattle.record.specs.Layout.{encoded_file}
use Rattle.record.specs.Reading.{items, held_of, holding_of}
use Rattle.record.specs.Code.{sheeted}
use Rattle.record.proofs.Laws.Unsheeted.{file-bytes, all-rules}
use Rattle.record.proofs.Laws.Reading.{items-read, held_items, held-refused, none-sheeted}
use Rattle.record_walk.specs.Code.{Holds, HoldsFile}
use Rattle.record_show.specs.declared.Extent.{Extent}
use Rattle.record_show.specs.Show.{extent_from, shown}
use Rattle.record_show.specs.Code.{Numbered, NumberedIn}
use Rattle.record_show.proofs.Laws.Extent.{extent-fits}

module _ (F : Limits) (s : List ℕ) (n : ℕ) where
  numbered : List Item → Answer Extent
  numbered is = elim (in_range (length (rules is)) n) [ true ↦ Ok (extent_from 0 is n) | false ↦ Err (refusal NoSuchRule 0) ]

  show : Answer (List Item) → Answer Extent
  show q = elim q [ Err x ↦ Err x | Ok is ↦ numbered is ]

  -- read's refusal
  pub shown-refused : (x : Refusal) → holding_of (items F s) ≡ Err x → shown F s n ≡ Err x
  unfolding shown show numbered
  shown-refused x e = ap show (held-refused (items F s) x e)

  module _ (h : Held) (read : holding_of (items F s) ≡ Ok h) where
    is : List Item
    is = (held_items (items F s) h read).0

    items-are : items F s ≡ Ok is
    unfolding is
    items-are = (held_items (items F s) h read).1

    held-is : held_of is ≡ h
    unfolding is
    held-is = (held_items (items F s) h read).2

    count-is : length (rules is) ≡ h.rules
    unfolding held_of
    count-is = ap (λ (k : Held). k.rules) held-is

    shown-numbered : shown F s n ≡ numbered is
    unfolding shown show numbered
    shown-numbered = ap show items-are

    -- 13: there is no rule of this number
    pub shown-zero : n ≡ 0 → shown F s n ≡ Err (refusal NoSuchRule 0)
    unfolding numbered
    shown-zero e = shown-numbered ∙ ap (λ (m : ℕ). pick (leb 1 m && leb n (length (rules is)))) e
      where
        pick : Bool → Answer Extent
        pick b = elim b [ true ↦ Ok (extent_from 0 is n) | false ↦ Err (refusal NoSuchRule 0) ]

    pub shown-above : h.rules < n → shown F s n ≡ Err (refusal NoSuchRule 0)
    unfolding numbered
    shown-above above =
        shown-numbered ∙ ap (λ (b : Bool). pick (leb 1 n && b)) (lt-leb n (length (rules is)) (omega (arith, count-is))) ∙ ap pick (and-false (leb 1 n))
      where
        pick : Bool → Answer Extent
        pick b = elim b [ true ↦ Ok (extent_from 0 is n) | false ↦ Err (refusal NoSuchRule 0) ]

    -- the record of rule n, in a file that has one
    module _ (bytes : Bytes s) (one : 1 ≤ n) (most : n ≤ h.rules) where
      shown-extent : shown F s n ≡ Ok (extent_from 0 is n)
      unfolding numbered
      shown-extent =
          shown-numbered ∙ ap (λ (b : Bool). pick (b && leb n (length (rules is)))) (le-leb 1 n one)
          ∙ ap pick (le-leb n (length (rules is)) (omega (arith, count-is)))
        where
          pick : Bool → Answer Extent
          pick b = elim b [ true ↦ Ok (extent_from 0 is n) | false ↦ Err (refusal NoSuchRule 0) ]

      pub given-file : HoldsFile (NumberedIn n) s
      given-file = record { items = is; bytes = (items-read F s is bytes items-are).0; asked = record { one = one; most = omega (arith, count-is) } }

      pub shown-file : shown F s n ≡ Ok (extent_from 0 given-file.items n)
      unfolding given-file
      shown-file = shown-extent

      -- and in one without sheet records
      module _ (none : sheeted h ≡ false) where
        all : is ≡ map rule (rules is)
        all =
            let no = none-sheeted is (ap sheeted held-is ∙ none) in all-rules is no.0 no.1

        pub given : Holds (Numbered n) s
        given =
            record {
              program = rules is;
              bytes = (items-read F s is bytes items-are).0 ∙ ap encoded_file all ∙ file-bytes (rules is);
              asked = record { one = one; most = omega (arith, count-is) };
            }

        pub shown-given : shown F s n ≡ Ok (extent_from 0 (map rule given.program) n)
        unfolding given
        shown-given = shown-extent ∙ ap (λ (js : List Item). Ok (extent_from 0 js n)) all

-- the record that is shown lies in the slice
in-slice : (F : Limits) (s : List ℕ) (n : ℕ) (is : List Item) → Bytes s → items F s ≡ Ok is → T (in_range (length (rules is)) n)
    → (extent_from 0 is n).start + (extent_from 0 is n).size ≤ length s
in-slice F s n is bytes e k =
    let numbered : NumberedIn n is = record {
      one = leb→le 1 n (first (leb 1 n) (leb n (length (rules is))) k);
      most = leb→le n (length (rules is)) (second (leb 1 n) (leb n (length (rules is))) k);
    } in
    omega (arith, extent-fits n is numbered, ap length (items-read F s is bytes e).0)

pub shown-fits : (F : Limits) (s : List ℕ) (n : ℕ) (e : Extent) → Bytes s → shown F s n ≡ Ok e → e.start + e.size ≤ length s
unfolding shown
shown-fits F s n e bytes q = go (items F s) refl q
  where
    pick : List Item → Bool → Answer Extent
    pick is b = elim b [ true ↦ Ok (extent_from 0 is n) | false ↦ Err (refusal NoSuchRule 0) ]

    shows : Answer (List Item) → Answer Extent
    shows r = elim r [ Err x ↦ Err x | Ok is ↦ pick is (in_range (length (rules is)) n) ]

    picked : (is : List Item) (b : Bool) → in_range (length (rules is)) n ≡ b → items F s ≡ Ok is → pick is b ≡ Ok e → e.start + e.size ≤ length s
    picked is true i w f =
        let same : extent_from 0 is n ≡ e = cc in
        subst (λ (x : Extent). x.start + x.size ≤ length s) same (in-slice F s n is bytes w (along (sym i) tt))
    picked is false i w f = let z : ◌≡◌ {A = ℕ} 0 1 = cc in absurd (omega arith)

    go : (r : Answer (List Item)) → items F s ≡ r → shows r ≡ Ok e → e.start + e.size ≤ length s
    go (Err x) w f = let z : ◌≡◌ {A = ℕ} 0 1 = cc in absurd (omega arith)
    go (Ok is) w f = picked is (in_range (length (rules is)) n) refl w f

-- An assembly's calls and histories, as the claims state them of sources.
-- In order: one call; the promise over a history; the words of calls.
-- Assumes nothing.
use Prim.Native.Nat.{ℕ, ◌+◌, ◌^◌, ◌<◌}
use Rattle.std.specs.Prelude.{Ok}
use native.Mathlib.Omega.{arith}
use mathlib.Core.Path.{◌≡◌, refl, sym, ◌∙◌, ap}
use mathlib.Core.List.{List, [], ◌∷◌, ◌++◌, map, map-append}
use lib.Dec.{T}
use lib.ListN.{length, take, drop}
use Rattle.buffer.specs.Bytes.{Bytes}
use Rattle.buffer.proofs.Laws.Bytes.{bytes_take}
use Rattle.literal.specs.declared.Tag.{Tag}
use Rattle.literal.specs.declared.SignedAtom.{SignedAtom}
use Rattle.literal.specs.declared.SignedAtom.TheVariants.{Positive}
use Rattle.literal.specs.declared.Literal.TheVariants.{Signed}
use Rattle.literal.specs.Literal.{takes, in_range, most_kind, kind, ranged}
use Rattle.literal.specs.Limits.{source}
use Rattle.literal.proofs.Laws.Literal.{TwoBytes}
use Rattle.semantics.specs.Rule.{Rule, Program}
use Rattle.semantics.specs.Item.{rule}
use Rattle.record.specs.Layout.{encoded_rule, encoded_rules}
use Rattle.record.specs.Reading.{items}
use Rattle.record.proofs.Laws.Unsheeted.{rules-of, items-bytes}
use Rattle.record_show.specs.Show.{shown}
use Rattle.record_show.proofs.Laws.Record.{shown-behind, shown-record}
use Rattle.assembly.specs.State.{state_bytes, stage_of}
use Rattle.assembly.specs.Calls.{Call, begin, called, assembled}
use Rattle.assembly.specs.History.{after, run, rules_after, BytesIn}
use Rattle.assembly.proofs.Laws.State.{state-iff, stage-none}
use Rattle.assembly.proofs.Laws.Session.{refused_same, answer-blind, begin-writes-none, drop-writes-none, stays-state, begun-state}
use Rattle.assembly.proofs.Laws.History.{held-count, never-short, assembled-reads}
use Rattle.assembly.proofs.Laws.Reached.{reached-iff}
use Rattle.assembly.specs.Code.{standing_of}
use Rattle.assembly.proofs.Laws.Turn.{assembled-standing}
use Rattle.assembly.proofs.Laws.Answers.{answer-count}
use Rattle.assembly.proofs.Laws.Forms.{assemblable-source, standing-small}
use Rattle.aspda_word.specs.Words.{ToldCount}
use Rattle.aspda_word.proofs.Laws.Told.{told-count}
use Rattle.aspda.specs.Claims.{Calling, Assembles}

-- an option and a tag that a source takes, of which a record of each shape is made
abbrev option : SignedAtom
option = Positive (record { 0 = 1 })

abbrev tag : Tag
tag = record { 0 = 1 }

option-taken : T (takes source (Signed option))
unfolding source takes kind ranged most_kind
option-taken = tt

tag-taken : T (in_range source.tags tag.0)
unfolding source
tag-taken = tt

form-defeasible : T source.defeasible
unfolding source
form-defeasible = tt

fields : TwoBytes source
unfolding source most_kind
fields = record { atoms = omega arith; tags = omega arith; numbers = λ kinds. omega arith }

state-size : state_bytes source ≡ 520
unfolding source
state-size = refl

pub one-call : Calling
one-call =
    record {
      refused_same = refused_same source;
      blind = answer-blind source;
      begin_silent = begin-writes-none source;
      drop_silent = drop-writes-none source;
      counts = λ c h st out bytes n e. (answer-count source assemblable-source c h st out bytes n e).0;
      bytes = state-size;
      states = state-iff source assemblable-source;
      given_back = reached-iff source assemblable-source fields option option-taken tag tag-taken form-defeasible;
      others = stage-none source;
      stays = stays-state source assemblable-source;
      begins = begun-state source assemblable-source;
    }

-- a program whose bytes are read as its rules is shown rule by rule
module _ (b : List ℕ) (bytes : Bytes b) (p front : Program) (r : Rule) (rest : Program) (read : items source b ≡ Ok (map rule p)) (parts : p ≡ front ++ (r ∷ rest)) where
  read-parts : items source b ≡ Ok (map rule front ++ (rule r ∷ map rule rest))
  read-parts = read ∙ ap (λ (q : Program). Ok (map rule q)) parts ∙ ap Ok (map-append rule front (r ∷ rest))

  shown-at : shown source b (length front + 1) ≡ Ok (record { start = length (encoded_rules front); size = length (encoded_rule r) })
  shown-at =
      ap (λ (q : Program). shown source b (length q + 1)) (sym (rules-of front))
      ∙ shown-behind source b (map rule front) r (map rule rest) bytes read-parts
      ∙ ap (λ (bs : List ℕ). Ok (record { start = length bs; size = length (encoded_rule r) })) (items-bytes front)

  shown-is : take (length (encoded_rule r)) (drop (length (encoded_rules front)) b) ≡ encoded_rule r
  shown-is =
      shown-record source b (map rule front) r (map rule rest) bytes read-parts (record { start = length (encoded_rules front); size = length (encoded_rule r) })
      (ap (λ (q : Program). shown source b (length q + 1)) (rules-of front) ∙ shown-at)

pub promised : Assembles
promised s begins cs bytes =
    let e = run source cs (after source begin s) in
    let p = rules_after source cs (after source begin s) [] in
    let held = held-count source assemblable-source s begins cs bytes in
    let reads = assembled-reads source assemblable-source s begins cs bytes in
    let closed-bytes : Bytes e.buffer → Bytes (take (assembled source e.state) e.buffer) = λ w. bytes_take (assembled source e.state) e.buffer w in
    record {
      counts = held.0;
      measures = held.1;
      closes = never-short source assemblable-source s begins cs bytes;
      reads = reads;
      shows = λ ss q w front r rest parts. (
        shown-at (take (assembled source e.state) e.buffer) (closed-bytes w) p front r rest (reads ss q) parts,
        shown-is (take (assembled source e.state) e.buffer) (closed-bytes w) p front r rest (reads ss q) parts,
      );
    }

-- the words of calls, and the length that is assembled
pub told-called : (c : Call) → BytesIn c → (st out : List ℕ) → Bytes st → ToldCount (called source c st out).answer
told-called c h st out bytes =
    told-count (called source c st out).answer (λ n e. omega (arith, (answer-count source assemblable-source c h st out bytes n e).1, assemblable-source.rules))

pub assembled-small : (st : List ℕ) → Bytes st → assembled source st < 2 ^ 63
assembled-small st bytes =
    omega (arith, standing-small source assemblable-source st bytes (standing_of (stage_of source st)) refl, assembled-standing source st (standing_of (stage_of source st)) refl)

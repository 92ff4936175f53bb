-- Laws of the exported text, for plain programs: it is written where there is room, what it says, its length, the match.
-- In order: a plain program's rules and literals; the text's length; what is written; what the text says.
-- Assumes nothing.
use Prim.Native.Nat.{ℕ, ◌+◌, ◌*◌, ◌≤◌}
use Rattle.std.specs.Prelude.{Ok}
use native.Mathlib.Omega.{arith}
use native.Mathlib.Nat.{zero-add}
use mathlib.Core.Path.{◌≡◌, sym, ◌∙◌, ap, subst}
use mathlib.Core.Bool.{false}
use mathlib.Core.List.{List, map}
use mathlib.Core.Option.{some}
use lib.Dec.{T}
use lib.ListN.{length, take, drop}
use Rattle.buffer.specs.Bytes.{Bytes}
use Rattle.buffer.specs.Write.{write}
use Rattle.buffer.proofs.Laws.Write.{take-write, drop-write}
use Rattle.literal.specs.declared.Limits.{Limits}
use Rattle.literal.specs.Limits.{plain}
use Rattle.literal.proofs.Laws.Literal.{Fits}
use Rattle.semantics.specs.Set.{each_of}
use Rattle.semantics.specs.Rule.{Rule, strict, defeasible, Program}
use Rattle.semantics.specs.Form.{keeps_rule}
use Rattle.semantics.proofs.Laws.Tests.{Each, each-intro, each-mem, all-intro, all-mem}
use Rattle.semantics.proofs.Laws.Form.{kept}
use Rattle.record.specs.Result.{Answer, and_then, Outcome, delivered}
use Rattle.record.specs.Layout.{keeps}
use Rattle.record.specs.Reading.{parsed}
use Rattle.record.proofs.Laws.Bounds.{parsed-short}
use Rattle.record.proofs.Laws.Reading.{parsed-sound}
use Rattle.record.proofs.Laws.Meant.{plain-unsheeted}
use Rattle.record.proofs.Laws.Keeps.{kept-program}
use Rattle.record.proofs.Laws.Result.{accepted-and-then}
use Rattle.record.proofs.Laws.Delivered.{delivered-fits}
use Rattle.aspif_meaning.specs.Numbering.{occurring, number_of}
use Rattle.aspif_meaning.specs.Program.{is_strict, names}
use Rattle.aspif_meaning.specs.Match.{NumberMatch}
use Rattle.aspif_meaning.proofs.Laws.Occurring.{occurring-taken}
use Rattle.aspif_meaning.proofs.Match.{ground-match}
use Rattle.aspif_text.specs.Text.{Statement, output_of, statements, aspif_text}
use Rattle.aspif_text.specs.Reading.{says, rules_of, outputs_of}
use Rattle.aspif_text.proofs.Laws.Reading.{says-text}
use Rattle.aspif_text.proofs.Laws.Statements.{rules-of-statements, outputs-of-statements}
use Rattle.aspif_place.proofs.Laws.Place.{HasPlace, place-fits}
use Rattle.aspif_place.proofs.Laws.Limits.{plain-placeable, literals-placed-in}
use Rattle.aspif.specs.Aspif.{aspif_bytes, exported}
use Rattle.aspif.proofs.Laws.Text.{text-enough}
use Rattle.aspif.proofs.Laws.Outcome.{exportable-plain}
use Rattle.aspda_word.specs.Words.{ToldCount}
use Rattle.aspda.specs.Claims.{Exports}
use Rattle.aspda.proofs.Laws.Told.{bounded, bounded-then, told-delivered}

-- a program of a form without defeasible rules has strict rules alone
strict-alone : (F : Limits) → F.defeasible ≡ false → (p : Program) → T (each_of (keeps_rule F) p) → T (each_of is_strict p)
unfolding is_strict
strict-alone F none p k = all-intro is_strict p (λ r m. go r (all-mem (keeps_rule F) k m))
  where
    go : (r : Rule) → T (keeps_rule F r) → T (is_strict r)
    go (strict h b c) t = tt
    go (defeasible g h b c) t = subst T none (kept F (defeasible g h b c) t).tag.form

-- what a text says
said : (p : Program) (xs : List Statement) → says (aspif_text p) ≡ some xs → statements p ≡ xs
unfolding aspif_text
said p xs e = some-eq (sym (says-text (statements p)) ∙ e)
  where
    some-eq : {x y : List Statement} → some x ≡ some y → x ≡ y
    some-eq q = cc

pub names-of-text : (p : Program) (xs : List Statement) → says (aspif_text p) ≡ some xs → outputs_of xs ≡ map output_of (names p)
names-of-text p xs e = ap outputs_of (sym (said p xs e)) ∙ outputs-of-statements p

module _ (b : List ℕ) (p : Program) (bytes : Bytes b) (read : parsed plain b ≡ Ok p) where
  within : T (keeps plain p)
  within = (parsed-sound plain plain-unsheeted b p bytes read).1

  each-kept : T (each_of (keeps_rule plain) p)
  each-kept = (kept-program plain p within).each

  plain-rules : T (each_of is_strict p)
  unfolding plain
  plain-rules = strict-alone plain (λ i. false) p each-kept

  fitting : Each Fits (occurring p)
  fitting =
      let placed = literals-placed-in plain plain-placeable p (occurring-taken plain p each-kept) in
      each-intro Fits (occurring p) (λ l m. place-fits l (each-mem HasPlace placed m))

  -- the text's length
  pub text-bound : length (aspif_text p) ≤ 2 * length b + 29012
  unfolding plain
  text-bound = omega (arith, text-enough plain exportable-plain p within, ap length (parsed-sound plain plain-unsheeted b p bytes read).0)

  -- the answer sets match by number those of what the text says
  pub text-match : (xs : List Statement) → says (aspif_text p) ≡ some xs → NumberMatch p (number_of p) (rules_of xs)
  text-match xs e = subst (NumberMatch p (number_of p)) (sym (rules-of-statements p) ∙ ap rules_of (said p xs e)) (ground-match p plain-rules fitting)

  -- what is written, where there is room
  module _ (out : List ℕ) (fits : length (aspif_text p) ≤ length out) where
    written : exported plain b out ≡ record { answer = Ok (length (aspif_text p)); buffer = write out 0 (aspif_text p) }
    unfolding exported aspif_bytes
    written =
        ap (λ (r : Answer Program). delivered (and_then r (λ q. Ok (aspif_text q))) out) read
        ∙ ap (λ (r : Answer (List ℕ)). delivered r out) (accepted-and-then p (λ q. Ok (aspif_text q))) ∙ delivered-fits (aspif_text p) out fits

    front : take (length (aspif_text p)) (write out 0 (aspif_text p)) ≡ aspif_text p
    front =
        ap (λ (n : ℕ). take n (write out 0 (aspif_text p))) (sym (zero-add (length (aspif_text p)))) ∙ take-write out 0 (aspif_text p) (omega arith)

    rest : drop (length (aspif_text p)) (write out 0 (aspif_text p)) ≡ drop (length (aspif_text p)) out
    rest =
        let from = zero-add (length (aspif_text p)) in
        ap (λ (n : ℕ). drop n (write out 0 (aspif_text p))) (sym from) ∙ drop-write out 0 (aspif_text p) (omega arith) ∙ ap (λ (n : ℕ). drop n out) from

    pub text-exports : Exports b p out
    unfolding aspif_text
    text-exports =
        record {
          answers = ap (λ (o : Outcome). o.answer) written;
          behind = ap (λ (o : Outcome). drop (length (aspif_text p)) o.buffer) written ∙ rest;
          reads_back = ap (λ (o : Outcome). says (take (length (aspif_text p)) o.buffer)) written ∙ ap says front ∙ says-text (statements p);
        }

-- the word of an export tells refusals by its highest bit
pub exported-told : (b out : List ℕ) → Bytes b → ToldCount (exported plain b out).answer
unfolding exported aspif_bytes plain
exported-told b out bytes =
    let m = 2 * plain.length + 29012 in
    told-delivered m (omega arith) (aspif_bytes plain b) out
    (bounded-then m (parsed plain b) (λ q. Ok (aspif_text q)) (λ p e.
    bounded m (aspif_text p) (omega (arith, text-bound b p bytes e, parsed-short plain b p e))))

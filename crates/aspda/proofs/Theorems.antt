-- The claims, each from laws. Assumes nothing.
use Prim.Native.Nat.{ℕ, ◌+◌, ◌*◌, ◌^◌, ◌≤◌, ◌<◌}
use Rattle.std.specs.Prelude.{Ok}
use native.Mathlib.Omega.{arith}
use native.Mathlib.Nat.{zero-add}
use mathlib.Core.Path.{◌≡◌, refl, sym, ◌∙◌, ap}
use mathlib.Core.List.{List}
use mathlib.Core.Bool.{Bool, cond, not}
use mathlib.Core.Logic.{◌↔◌}
use lib.Dec.{T, ltb}
use lib.ListN.{length, get_or, take, drop}
use borrow.Author.Tests.{le-ltb}
use Rattle.buffer.specs.Bytes.{Bytes}
use Rattle.buffer.specs.Write.{write}
use Rattle.buffer.proofs.Laws.Write.{take-write, drop-write}
use Rattle.literal.specs.declared.Limits.{Limits}
use Rattle.literal.specs.declared.SignedAtom.{SignedAtom}
use Rattle.literal.specs.declared.SignedAtom.TheVariants.{Positive, Negative}
use Rattle.literal.specs.declared.Literal.{Literal}
use Rattle.literal.specs.declared.Literal.TheVariants.{Signed}
use Rattle.literal.specs.Literal.{most_kind, takes, kind, negative, negated, negated_kind, opposite}
use Rattle.literal.specs.Limits.{source, plain}
use Rattle.literal.proofs.Laws.Literal.{Fits, TwoBytes, decoded-kind}
use Rattle.literal.proofs.Laws.Sign.{negated-kinds, kind-sign, opposite-sign}
use Rattle.semantics.specs.Set.{each_of, set_of}
use Rattle.semantics.specs.Rule.{Program}
use Rattle.semantics.specs.Expansion.{same_defeat, defeat_rule, heads, made_way, made_pair, made_by, made, unless_before, appended}
use Rattle.semantics.specs.Item.{Item, rules, overrides, oppositions, appended_by, expanded}
use Rattle.semantics.specs.Extension.{offers, source_kind}
use Rattle.semantics.specs.Translation.{translation, translation_length}
use Rattle.semantics.specs.Match.{FormMatch}
use Rattle.semantics.specs.Form.{most_appended, TakesDefeats}
use Rattle.semantics.specs.Meaning.{AnswerSet}
use Rattle.semantics.specs.Verdict.{Finding, clash, broken, smaller, answer_set, finding}
use Rattle.semantics.proofs.Laws.Length.{length-translation, count-translation, thirteenfold}
use Rattle.semantics.proofs.Laws.Expansion.{kept-items, length-appended, expanded-bytes, expanded-translation}
use Rattle.semantics.proofs.Laws.Expanded.{Expanded, expanded-each, expanded-few}
use Rattle.semantics.proofs.Laws.Tests.{Each, all-mem, all-intro}
use Rattle.semantics.proofs.Laws.Agree.{Speaks}
use Rattle.semantics.proofs.Laws.Wider.{source-wider}
use Rattle.semantics.proofs.Laws.Form.{keeps-count, keeps-each, Covers, takes-source}
use Rattle.semantics.proofs.Laws.Room.{Room, translation-keeps, translation-short}
use Rattle.semantics.proofs.FormMatch.{form-match}
use Rattle.semantics.proofs.Laws.Verdict.{finding-clash, finding-broken, finding-smaller, finding-answer-set}
use Rattle.record.specs.declared.Reason.TheVariants.{OutputShort}
use Rattle.record.specs.Refusal.{refusal}
use Rattle.record.specs.Result.{Answer, and_then, refuse_if, Outcome, delivered}
use Rattle.record.specs.Layout.{encoded_program}
use Rattle.record.specs.Reading.{items, parsed}
use Rattle.record.proofs.Laws.Layout.{length-encoded-program}
use Rattle.record.proofs.Laws.Reading.{items-iff, items-read, items-parsed, parsed-complete, reading-iff}
use Rattle.record.proofs.Laws.Meant.{items-counted, expanded-within, parsed-expanded, plain-unsheeted}
use Rattle.record.proofs.Laws.Keeps.{kept-file, keeps-program}
use Rattle.record.proofs.Laws.Result.{accepted-and-then}
use Rattle.record.proofs.Laws.Delivered.{delivered-fits}
use Rattle.record_show.proofs.Laws.Record.{shown-behind, shown-record, shown-nothing}
use Rattle.set.specs.Layout.{encoded_set, keeps_set}
use Rattle.set.specs.Reading.{parsed_set}
use Rattle.set.proofs.Laws.Reading.{parsed-set-sound, set-reading-iff, keeps-set-taken, keeps-set-ascending}
use Rattle.set.proofs.Laws.Written.{set-read-back}
use Rattle.inputs.specs.Inputs.{with_inputs}
use Rattle.translate.specs.Translate.{translated_bytes, translated}
use Rattle.quotient.specs.Quotient.{quotient_program, quotient_bytes, quotiented}
use Rattle.quotient.proofs.Laws.Plain.{Within, quotient-read, source-within, plain-within}
use Rattle.aspif_text.specs.Text.{name_text}
use Rattle.extend.specs.Extend.{extension_list, extension_bytes, extended}
use Rattle.extend.specs.Code.{most}
use Rattle.extend.proofs.Laws.Extend.{extension-list, extension-ascending-form}
use Rattle.extend.proofs.Laws.Outcome.{extendable-source}
use Rattle.extend.proofs.Laws.Kept.{extension-keeps}
use Rattle.extend.proofs.Laws.Added.{extension-marks}
use Rattle.restrict.specs.Restrict.{restriction_list, restriction_bytes, restricted}
use Rattle.restrict.proofs.Laws.Restriction.{restriction-joined, restriction-set}
use Rattle.check_set.specs.declared.Verdict.{Verdict}
use Rattle.check_set.specs.declared.Verdict.TheVariants.{Yes}
use Rattle.check_set.specs.Verdict.{verdict_of, witness}
use Rattle.check_set.specs.Check.{found, Checked, checked_of, checked}
use Rattle.aspda_word.specs.Words.{ToldCount}
use Rattle.aspda.specs.Example.{example_options, example_sheets, example_defeats}
use Rattle.aspda.specs.Claims.{Means, Reading, Signing, Expanding, Quotients, Quotient, Extending, Checks, Checking, Shows, Showing, Translates, Translating, Exporting, Assembling, Tells, Words}
use Rattle.aspda.proofs.Laws.Lengths.{program-wide, quotient-no-longer, quotient-unsheeted, extension-at-most, restriction-no-longer}
use Rattle.aspda.proofs.Laws.Fit.{rules-fit}
use Rattle.aspda.proofs.Laws.Exports.{names-of-text, text-bound, text-match, text-exports, exported-told}
use Rattle.aspda.proofs.Laws.Told.{bounded, bounded-then, told-delivered, told-read, told-show, told-checked, told-quotiented, told-extended, told-restricted}
use Rattle.aspda.proofs.Laws.Assembly.{one-call, promised, told-called, assembled-small}

means : (F : Limits) → Means F
means F = record { program = items-parsed F; count = items-counted F }

pub reading : Reading
reading =
    record {
      reads_source = items-iff source;
      reads_plain = items-iff plain;
      means_source = means source;
      means_plain = means plain;
      reads_plain_program = reading-iff plain plain-unsheeted;
      reads_source_set = set-reading-iff source;
      reads_plain_set = set-reading-iff plain;
    }

-- the sign of an option's kind is the option's
option-sign : (a : SignedAtom) → negated_kind (kind (Signed a)) ≡ negative a
unfolding negated
option-sign a = kind-sign (Signed a)

-- a name's first byte goes by the sign
name-sign : (a : SignedAtom) → get_or (name_text a) 0 0 ≡ cond (negative a) 0x6E 0x70
unfolding name_text negative
name-sign (Positive a) = refl
name-sign (Negative a) = refl

pub signing : Signing
signing =
    record {
      kinds = negated-kinds;
      written = kind-sign;
      read = λ F bs l e. ap negated_kind (decoded-kind F bs l e) ∙ kind-sign l;
      opposed = λ a. option-sign (opposite a) ∙ opposite-sign a ∙ ap not (sym (option-sign a));
      named = λ a. name-sign a ∙ ap (λ (b : Bool). cond b 0x6E 0x70) (sym (option-sign a));
    }

pub expanding : Expanding
unfolding expanded appended_by appended example_options example_sheets example_defeats rules overrides oppositions heads offers made made_by made_pair made_way
    unless_before same_defeat defeat_rule
expanding = record { written = λ is. refl; few = length-appended; example = refl }

-- of a program and a set that are read, what is made of both is delivered
made-fits : (F : Limits) (make : Program → List Literal → List ℕ) (b k : List ℕ) (p : Program) (ls : List Literal)
    → parsed F b ≡ Ok p → parsed_set F F.literals k ≡ Ok ls
    → (out : List ℕ) → length (make p ls) ≤ length out
    → delivered (and_then (parsed F b) (λ p. and_then (parsed_set F F.literals k) (λ ls. Ok (make p ls)))) out
    ≡ record { answer = Ok (length (make p ls)); buffer = write out 0 (make p ls) }
made-fits F make b k p ls e q out fits =
    ap (λ (r : Answer Program). delivered (and_then r (λ p. and_then (parsed_set F F.literals k) (λ ls. Ok (make p ls)))) out) e
    ∙ ap (λ (r : Answer (List ℕ)). delivered r out) (accepted-and-then p (λ p. and_then (parsed_set F F.literals k) (λ ls. Ok (make p ls))))
    ∙ ap (λ (r : Answer (List Literal)). delivered (and_then r (λ ls. Ok (make p ls))) out) q
    ∙ ap (λ (r : Answer (List ℕ)). delivered r out) (accepted-and-then ls (λ ls. Ok (make p ls)))
    ∙ delivered-fits (make p ls) out fits

-- quotients, in a form whose figures are within the plain form's
quotients : (F : Limits) → Within F plain → Quotients F
unfolding quotiented quotient_bytes with_inputs
quotients F w =
    record {
      writes = made-fits F (λ p ls. encoded_program (quotient_program p ls));
      reads_back = λ b p ls bytes e. quotient-read F plain w p ls (parsed-expanded F b p bytes e) (program-wide F b p bytes e);
      no_longer = λ b is ls bytes e. quotient-no-longer F b is bytes e ls;
    }

pub quotient : Quotient
quotient =
    record {
      quotient_source = quotients source source-within;
      quotient_plain = quotients plain plain-within;
      plain_no_longer = λ b p ls bytes e. quotient-unsheeted plain plain-unsheeted b p bytes e ls;
    }

-- a source has kinds 0 to 3
source-kinds : most_kind source.kinds ≤ 3
unfolding source most_kind
source-kinds = omega arith

-- a source set that is read holds literals of source kinds, in ascending order
module _ (k : List ℕ) (ls : List Literal) (bytes : Bytes k) (read : parsed_set source source.literals k ≡ Ok ls) where
  set-kept : T (keeps_set source source.literals ls)
  set-kept = (parsed-set-sound source source.literals k ls bytes read).1

  set-taken : T (each_of (takes source) ls)
  set-taken = keeps-set-taken source source.literals ls set-kept

  set-source : T (each_of source_kind ls)
  set-source = all-intro source_kind ls (λ l m. takes-source source source-kinds l (all-mem (takes source) set-taken m))

plain-covers : Covers source plain
unfolding source plain most_kind
plain-covers = record { wider = source-wider; kinds = omega arith; numbers = omega arith }

-- the plain form has room for an extension, and its numbers fit their fields
plain-literals : source.literals + most ≤ plain.literals
unfolding source plain
plain-literals = omega arith

plain-fields : TwoBytes plain
unfolding plain
plain-fields = record { atoms = omega arith; tags = omega arith; numbers = λ kinds. omega arith }

-- a source takes appended rules
source-takes : TakesDefeats source
source-takes = extendable-source.appended

-- the literals that a source speaks of fit two bytes, and two bytes count its rules
source-fields : TwoBytes source
unfolding source most_kind
source-fields = record { atoms = omega arith; tags = omega arith; numbers = λ kinds. omega arith }

read_fits : (b : List ℕ) (p : Program) → Bytes b → parsed source b ≡ Ok p → Each (Speaks Fits) p
read_fits b p bytes read = rules-fit source source-fields p (expanded-each source p (parsed-expanded source b p bytes read) source-takes)

read_count : (b : List ℕ) (p : Program) → Bytes b → parsed source b ≡ Ok p → length p < 65536
unfolding source
read_count b p bytes read = omega (arith, expanded-few source p (parsed-expanded source b p bytes read))

pub extending : Extending
unfolding extended extension_bytes with_inputs restricted restriction_bytes source
extending =
    record {
      writes = made-fits source (λ p ls. encoded_set (extension_list p ls));
      reads_back = λ b k p ls bytes chars read held.
          set-read-back plain plain-fields plain.literals (extension_list p ls)
          (extension-keeps source extendable-source p (parsed-expanded source b p bytes read) (read_fits b p bytes read) plain plain-covers source-kinds
          plain-literals ls (set-kept k ls chars held));
      extends = λ b p ls bytes read. extension-list p (read_count b p bytes read) (read_fits b p bytes read) ls;
      ascends = λ k p ls bytes read.
          extension-ascending-form source extendable-source source-kinds p ls (set-taken k ls bytes read)
          (keeps-set-ascending source source.literals ls (set-kept k ls bytes read));
      returns = λ k p ls bytes read.
          let w = extension-marks p ls in ap restriction_list w.1 ∙ restriction-joined ls w.0 (set-source k ls bytes read) w.2;
      writes_restriction = λ k ls held out fits.
          ap (λ (r : Answer (List Literal)). delivered (and_then r (λ ls. Ok (encoded_set (restriction_list ls)))) out) held
          ∙ ap (λ (r : Answer (List ℕ)). delivered r out) (accepted-and-then ls (λ ls. Ok (encoded_set (restriction_list ls))))
          ∙ delivered-fits (encoded_set (restriction_list ls)) out fits;
      restricts = restriction-set;
      at_most = λ b k p ls bytes chars read held. extension-at-most source b p bytes read extendable-source k ls chars held;
      no_longer = restriction-no-longer plain;
    }

-- a finding's verdict is yes exactly where it is "answer set"
verdict-yes : (f : Finding) → verdict_of f ≡ Yes → f ≡ answer_set
unfolding verdict_of
verdict-yes (clash k) e = let z : ◌≡◌ {A = ℕ} 0 1 = cc in absurd (omega arith)
verdict-yes (broken n) e = let z : ◌≡◌ {A = ℕ} 0 1 = cc in absurd (omega arith)
verdict-yes (smaller s) e = let z : ◌≡◌ {A = ℕ} 0 1 = cc in absurd (omega arith)
verdict-yes answer_set e = refl

yes-verdict : (f : Finding) → f ≡ answer_set → ◌≡◌ {A = Answer Verdict} (Ok (verdict_of f)) (Ok Yes)
unfolding verdict_of
yes-verdict f e = ap (λ (g : Finding). Ok (verdict_of g)) e

found-verdict : {v w : Verdict} → ◌≡◌ {A = Answer Verdict} (Ok v) (Ok w) → v ≡ w
found-verdict e = cc

module _ (F : Limits) (b k : List ℕ) (p : Program) (ls : List Literal) (read : parsed F b ≡ Ok p) (held : parsed_set F F.checked k ≡ Ok ls)
    (out : List ℕ) (fits : length k ≤ length out)
  where
    check-finds : checked F b k out ≡ record { answer = Ok (verdict_of (finding p ls)); buffer = write out 0 (witness (finding p ls)) }
    unfolding checked found with_inputs and_then refuse_if checked_of
    check-finds =
        let short = ltb (length out) (length k) in
        let judged : Program → List Literal → Answer Finding = λ p ls. refuse_if short (refusal OutputShort 0) (Ok (finding p ls)) in
        ap (λ (r : Answer Program). checked_of (and_then r (λ p. and_then (parsed_set F F.checked k) (judged p))) out) read
        ∙ ap (λ (r : Answer (List Literal)). checked_of (and_then r (judged p)) out) held
        ∙ ap (λ (x : Bool). checked_of (refuse_if x (refusal OutputShort 0) (Ok (finding p ls))) out) (le-ltb (length out) (length k) fits)

    check-yes : ((checked F b k out).answer ≡ Ok Yes) ↔ AnswerSet p (set_of ls)
    check-yes = (
      λ e. (finding-answer-set p ls).0 (verdict-yes (finding p ls) (found-verdict (sym (ap (λ (o : Checked). o.answer) check-finds) ∙ e))),
      λ w. ap (λ (o : Checked). o.answer) check-finds ∙ yes-verdict (finding p ls) ((finding-answer-set p ls).1 w),
    )

checks : (F : Limits) → Checks F
checks F = record { finds = check-finds F; says_yes = check-yes F }

pub checking : Checking
checking =
    record {
      check_source = checks source;
      check_plain = checks plain;
      shows_clash = finding-clash;
      shows_broken = finding-broken;
      shows_smaller = finding-smaller;
    }

shows : (F : Limits) → Shows F
shows F = record { finds = shown-behind F; hands_back = shown-record F; hands_back_nothing = shown-nothing F }

pub showing : Showing
showing = record { show_source = shows source; show_plain = shows plain }

-- the plain form has room for every translation of a source
plain-room : Room source plain
unfolding source plain
plain-room =
    record {
      covers = plain-covers;
      heads = omega arith;
      positives = omega arith;
      nafs = omega arith;
      rules = omega arith;
      bytes = omega arith;
      appended = source-takes;
    }

-- the sum is at most thirteen times the bytes that are written, and the appended rules as they are
translation-bound : (b : List ℕ) (is : List Item) → Bytes b → items source b ≡ Ok is
    → translation_length (expanded is) ≤ 13 * length b + 17 * length (appended_by is)
unfolding source most_kind
translation-bound b is bytes read =
    let kept = (kept-file source is (items-read source b is bytes read).1).items in
    omega (
      arith,
      expanded-translation source (omega arith) is kept,
      thirteenfold source (omega arith) (rules is) (kept-items source is kept).rules-each,
      expanded-bytes source (omega arith) is kept,
      length-encoded-program (expanded is),
      expanded-within source b is bytes read,
    )

module _ (b : List ℕ) (p : Program) (bytes : Bytes b) (read : parsed source b ≡ Ok p) where
  kept : Expanded source p
  kept = parsed-expanded source b p bytes read

  result-length : length (encoded_program (translation p)) ≡ translation_length p
  result-length = length-encoded-program (translation p) ∙ length-translation p

  read_back : parsed plain (encoded_program (translation p)) ≡ Ok (translation p)
  read_back =
      let rules = translation-keeps source plain plain-room p kept in
      parsed-complete plain (translation p)
      (keeps-program plain (translation p) (keeps-count plain (translation p) rules) (keeps-each plain (translation p) rules)
      (omega (arith, result-length, translation-short source plain plain-room p kept)))

  match : FormMatch source plain p
  match = form-match source plain source-kinds source-takes plain-covers p kept

  module _ (out : List ℕ) (fits : translation_length p ≤ length out) where
    written : translated source b out ≡ record { answer = Ok (translation_length p); buffer = write out 0 (encoded_program (translation p)) }
    unfolding translated translated_bytes
    written =
        ap (λ (r : Answer Program). delivered (and_then r (λ q. Ok (encoded_program (translation q)))) out) read
        ∙ ap (λ (r : Answer (List ℕ)). delivered r out) (accepted-and-then p (λ q. Ok (encoded_program (translation q))))
        ∙ delivered-fits (encoded_program (translation p)) out (omega (arith, result-length))
        ∙ ap (λ (n : ℕ). record { answer = Ok n; buffer = write out 0 (encoded_program (translation p)) }) result-length

    -- the first bytes are the result, and those behind it are the buffer's
    front : take (translation_length p) (write out 0 (encoded_program (translation p))) ≡ encoded_program (translation p)
    front =
        ap (λ (n : ℕ). take n (write out 0 (encoded_program (translation p)))) (sym (zero-add (length (encoded_program (translation p))) ∙ result-length))
        ∙ take-write out 0 (encoded_program (translation p)) (omega arith)

    rest : drop (translation_length p) (write out 0 (encoded_program (translation p))) ≡ drop (translation_length p) out
    rest =
        let from = zero-add (length (encoded_program (translation p))) ∙ result-length in
        ap (λ (n : ℕ). drop n (write out 0 (encoded_program (translation p)))) (sym from) ∙ drop-write out 0 (encoded_program (translation p)) (omega arith)
        ∙ ap (λ (n : ℕ). drop n out) from

    translates : Translates b p out
    translates =
        record {
          answers = ap (λ (o : Outcome). o.answer) written;
          behind = ap (λ (o : Outcome). drop (translation_length p) o.buffer) written ∙ rest;
          reads_back = ap (λ (o : Outcome). parsed plain (take (translation_length p) o.buffer)) written ∙ ap (parsed plain) front ∙ read_back;
        }

pub translating : Translating
translating =
    record {
      translates = translates;
      thirteenfold = λ b is bytes read. omega (arith, translation-bound b is bytes read);
      bound = translation-bound;
      rules = λ b p read. count-translation p;
      matches = match;
    }

pub exporting : Exporting
exporting = record { exports = text-exports; bound = text-bound; matches = text-match; names_said = names-of-text }

pub assembling : Assembling
assembling = record { calling = one-call; promise = promised }

tells : (F : Limits) → F.length + 17 * most_appended F < 2147483648 → F.rules + most_appended F < 4294967296 → 4 + 5 * F.checked < 4294967296 → Tells F
tells F long rules sets =
    record {
      reads = λ b bytes. told-read F long b bytes (omega arith);
      shows = λ b n bytes. told-show F long b bytes n;
      quotients = λ b k out bytes. told-quotiented F long b bytes k out;
      checks = λ b k out bytes chars. told-checked F long b bytes rules sets k out chars;
    }

plain-small : plain.length < 2 ^ 63
unfolding plain
plain-small = omega arith

translated-told : (b out : List ℕ) → Bytes b → ToldCount (translated source b out).answer
unfolding translated translated_bytes source
translated-told b out bytes =
    told-delivered plain.length plain-small (translated_bytes source b) out
    (bounded-then plain.length (parsed source b) (λ q. Ok (encoded_program (translation q))) (λ p e.
    bounded plain.length (encoded_program (translation p))
    (omega (arith, result-length b p bytes e, translation-short source plain plain-room p (parsed-expanded source b p bytes e)))))

pub words : Words
unfolding source plain
words =
    record {
      tells_source = tells source (omega arith) (omega arith) (omega arith);
      tells_plain = tells plain (omega arith) (omega arith) (omega arith);
      translates = translated-told;
      exports = exported-told;
      extends = λ b k out bytes chars. told-extended source (omega arith) b bytes extendable-source k out chars;
      restricts = λ k out bytes. told-restricted plain (omega arith) k out bytes;
      calls = told-called;
      assembles = assembled-small;
    }

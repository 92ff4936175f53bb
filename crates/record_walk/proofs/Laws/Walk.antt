-- Laws of the walk through a program's records, which every loop over them goes: the rules behind it are gone, those before it are left.
-- What a loop has made is a function of the rules that are gone, and one rule more is appended to them.
-- In order: what reading leaves; where the walk is; its start; the end record; the next rule's record; loops: the invariant, its
-- start, a rule more, the end.
-- Assumes nothing.
use Prim.Native.Nat.{ℕ, ◌+◌, ◌≤◌, ◌<◌}
use Rattle.std.specs.Prelude.{Ok}
use native.Mathlib.Omega.{arith}
use native.Mathlib.Nat.{add-zero}
use mathlib.Core.Path.{◌≡◌, refl, sym, ◌∙◌, ap, subst}
use mathlib.Core.Bool.{Bool}
use mathlib.Core.List.{List, [], ◌∷◌, ◌++◌, append_assoc, append-nil}
use lib.Dec.{T}
use lib.ListN.{length, get_or, drop, length-append, length-drop}
use lib.Seq.{drop-drop, drop_at, get_or-drop}
use Rattle.buffer.specs.Bytes.{Bytes}
use Rattle.literal.specs.declared.Limits.{Limits}
use Rattle.semantics.specs.Set.{each_of}
use Rattle.semantics.specs.Rule.{Rule, strict, defeasible, Program}
use Rattle.semantics.specs.Translation.{record_length}
use Rattle.semantics.proofs.Laws.Tests.{first, second, along, all_append}
use Rattle.record.specs.Header.{end_letter, letter_of}
use Rattle.record.specs.Layout.{encoded_rule, encoded_rules, encoded_end, encoded_program, keeps}
use Rattle.record.specs.Reading.{parsed}
use Rattle.record.proofs.Laws.Layout.{length-encoded-rule, encoded-rules-append, length-end}
use Rattle.record.proofs.Laws.Reading.{parsed-sound}
use Rattle.record_walk.specs.Code.{Holds, record_size, Starts}
use Rattle.record_walk.proofs.Laws.Fields.{strict-fields, defeasible-fields, record-size}

-- what was read in a form without sheets is the encoding of its program, which keeps the form's limits
abbrev pub holds_read : (P : Program → Type 0) (F : Limits) → F.sheets ≡ 0 → (s : List ℕ) (p : Program) → Bytes s → parsed F s ≡ Ok p
    → (T (keeps F p) → P p) → Holds P s
holds_read P F none s p bytes read asked =
    let sound = parsed-sound F none s p bytes read in
    record { program = p; bytes = sound.0; asked = asked sound.1 }

-- the walk over p's records in s has come to `at`: the rules `gone` are passed
pub record Walk (s : List ℕ) (p gone : Program) (at : ℕ) : Type 0 where
  pub left : Program
  pub split : p ≡ gone ++ left
  pub stands : drop at s ≡ encoded_rules left ++ encoded_end (length p)
  pub passed : at ≡ length (encoded_rules gone)

-- the next rule, whose record starts the part t, and the walk behind it
pub record More (s : List ℕ) (p gone : Program) (at : ℕ) (t : List ℕ) : Type 0 where
  pub the-rule : Rule
  pub behind : Program
  pub split : p ≡ gone ++ the-rule ∷ behind
  pub starts : Starts t the-rule
  pub size : record_size t ≡ record_length the-rule
  pub whole : record_size t ≤ length t
  pub fits : at + record_size t + 4 ≤ length s
  pub next : (n : ℕ) → n ≡ record_size t → Walk s p (gone ++ the-rule ∷ []) (at + n)

-- an end record starts with E
pub end-letter : (n : ℕ) → letter_of (encoded_end n) ≡ end_letter
unfolding encoded_end
end-letter n = refl

-- a rule's record does not
no_end : (t : List ℕ) (r : Rule) → Starts t r → letter_of t ≡ end_letter → ⊥
no_end t (strict h b c) w e = omega (arith, (strict-fields t h b c w).of-letter)
no_end t (defeasible g h b c) w e = omega (arith, (defeasible-fields t g h b c w).of-letter)

-- the letter at a place is the part's
pub letter_at : (s : List ℕ) (at : ℕ) → get_or s at 0 ≡ letter_of (drop at s)
letter_at s at = ap (λ (i : ℕ). get_or s i 0) (sym (add-zero at)) ∙ sym (get_or-drop at s 0 0)

-- a rule's record, and those behind it
cons-bytes : (t : List ℕ) (r : Rule) (p : Program) (n : ℕ) → t ≡ encoded_rules (r ∷ p) ++ encoded_end n → t ≡ encoded_rule r ++ (encoded_rules p ++ encoded_end n)
unfolding encoded_rules
cons-bytes t r p n e = e ∙ append_assoc (encoded_rule r) (encoded_rules p) (encoded_end n)

cons-starts : (t : List ℕ) (r : Rule) (p : Program) (n : ℕ) → t ≡ encoded_rules (r ∷ p) ++ encoded_end n → Starts t r
cons-starts t r p n e = record { rest = encoded_rules p ++ encoded_end n; bytes = cons-bytes t r p n e }

-- none left: the end record
nil-letter : (t : List ℕ) (n : ℕ) → t ≡ encoded_rules [] ++ encoded_end n → letter_of t ≡ end_letter
unfolding encoded_rules
nil-letter t n e = ap letter_of e ∙ end-letter n

-- at the start no rule is gone
pub walk_start : (s : List ℕ) (p : Program) → s ≡ encoded_program p → Walk s p [] 0
unfolding encoded_program encoded_rules
walk_start s p e = record { left = p; split = refl; stands = e; passed = refl }

-- one rule more is gone
length-gone : (gone : Program) (r : Rule) → length (encoded_rules (gone ++ r ∷ [])) ≡ length (encoded_rules gone) + record_length r
unfolding encoded_rules
length-gone gone r =
    ap length (encoded-rules-append gone (r ∷ []))
    ∙ omega (arith, length-append (encoded_rules gone) (encoded_rule r ++ []), ap length (append-nil (encoded_rule r)), length-encoded-rule r)

module _ {s : List ℕ} {p gone : Program} {at : ℕ} (w : Walk s p gone at) where
  -- there is a record
  pub walk-open : at + 4 ≤ length s
  walk-open =
      omega (arith, length-drop at s, ap length w.stands, length-append (encoded_rules w.left) (encoded_end (length p)), length-end (length p))

  -- at an E all rules are gone
  pub walk_end : get_or s at 0 ≡ end_letter → p ≡ gone
  walk_end e = go w.left w.split w.stands
    where
      go : (left : Program) → p ≡ gone ++ left → drop at s ≡ encoded_rules left ++ encoded_end (length p) → p ≡ gone
      go [] split stands = split ∙ append-nil gone
      go (r ∷ q) split stands =
          absurd (no_end (drop at s) r (cons-starts (drop at s) r q (length p) stands) (sym (letter_at s at) ∙ e))

  -- where a rule is left, its record is next
  pub walk-rule : length gone < length p → (t : List ℕ) → t ≡ drop at s → More s p gone at t
  walk-rule few t part = go w.left w.split (part ∙ w.stands)
    where
      go : (left : Program) → p ≡ gone ++ left → t ≡ encoded_rules left ++ encoded_end (length p) → More s p gone at t
      go [] split stands = absurd (omega (arith, ap length (split ∙ append-nil gone)))
      go (r ∷ q) split stands =
          let n = length p in
          let starts = cons-starts t r q n stands in
          let size = record-size t r starts in
          let bytes = cons-bytes t r q n stands in
          let long = ap length bytes ∙ length-append (encoded_rule r) (encoded_rules q ++ encoded_end n) in
          let room = length-append (encoded_rules q) (encoded_end n) in
          record {
            the-rule = r;
            behind = q;
            split = split;
            starts = starts;
            size = size;
            whole = omega (arith, size, long, length-encoded-rule r);
            fits = omega (arith, size, long, room, length-end n, length-encoded-rule r, ap length part, length-drop at s);
            next = λ k same.
                record {
                  left = q;
                  split = split ∙ sym (append_assoc gone (r ∷ []) q);
                  stands =
                      sym (drop-drop k at s) ∙ ap (drop k) (sym part ∙ bytes)
                      ∙ drop_at (encoded_rule r) (encoded_rules q ++ encoded_end n) k (omega (arith, same, size, length-encoded-rule r));
                  passed = omega (arith, w.passed, length-gone gone r, same, size);
                };
          }

  -- where there is no E, a rule is left
  pub walk-few : (get_or s at 0 ≡ end_letter → ⊥) → length gone < length p
  walk-few more = go w.left w.split w.stands
    where
      go : (left : Program) → p ≡ gone ++ left → drop at s ≡ encoded_rules left ++ encoded_end (length p) → length gone < length p
      go [] split stands = absurd (more (letter_at s at ∙ nil-letter (drop at s) (length p) stands))
      go (r ∷ q) split stands = omega (arith, ap length split, length-append gone (r ∷ q))

  pub walk_more : (get_or s at 0 ≡ end_letter → ⊥) → (t : List ℕ) → t ≡ drop at s → More s p gone at t
  walk_more more t part = walk-rule (walk-few more) t part

-- wherever a loop is: Q holds of the rules that are gone
pub record Along (s : List ℕ) (p : Program) (at : ℕ) (Q : Program → Type 0) : Type 0 where
  pub gone : Program
  pub walk : Walk s p gone at
  pub made : Q gone

-- the invariant of a loop: so it is for each program that the slice holds
abbrev pub Pass : (Program → Type 0) → List ℕ → ℕ → (Program → Type 0) → Type 0
Pass P s at Q = (w : Holds P s) → Along s w.program at Q

pub pass-start : {P : Program → Type 0} (s : List ℕ) (Q : Program → Type 0) → Q [] → Pass P s 0 Q
pass-start s Q made w = record { gone = []; walk = walk_start s w.program w.bytes; made = made }

-- behind a rule's record, R holds of that rule too
pub pass-rule : {P Q : Program → Type 0} {s : List ℕ} {at : ℕ} (pass : Pass P s at Q) → ((w : Holds P s) → length (pass w).gone < length w.program)
    → (t : List ℕ) → t ≡ drop at s → (n : ℕ) → n ≡ record_size t → (R : Program → Type 0)
    → ((w : Holds P s) (a : Along s w.program at Q) (m : More s w.program a.gone at t) → R (a.gone ++ m.the-rule ∷ [])) → Pass P s (at + n) R
pass-rule pass few t part n size R step w =
    let a = pass w in
    let m = walk-rule a.walk (few w) t part in
    record { gone = a.gone ++ m.the-rule ∷ []; walk = m.next n size; made = step w a m }

-- so it does where there is no E
pub pass-next : {P Q : Program → Type 0} {s : List ℕ} {at : ℕ} → Pass P s at Q → (get_or s at 0 ≡ end_letter → ⊥)
    → (t : List ℕ) → t ≡ drop at s → (n : ℕ) → n ≡ record_size t → (R : Program → Type 0)
    → ((w : Holds P s) (a : Along s w.program at Q) (m : More s w.program a.gone at t) → R (a.gone ++ m.the-rule ∷ [])) → Pass P s (at + n) R
pass-next pass more t part n size R step = pass-rule pass (λ w. walk-few (pass w).walk more) t part n size R step

-- at an E it holds of the program
pub along-end : {s : List ℕ} {p : Program} {at : ℕ} {Q : Program → Type 0} → Along s p at Q → get_or s at 0 ≡ end_letter → Q p
along-end {s} {p} {at} {Q} a e = subst Q (sym (walk_end a.walk e)) a.made

-- what each rule of a program keeps, the next keeps
pub next-keeps : {s : List ℕ} {p gone : Program} {at : ℕ} {t : List ℕ} (f : Rule → Bool) → T (each_of f p) → (m : More s p gone at t) → T (f m.the-rule)
next-keeps {gone = gone} f each m =
    let behind = second (each_of f gone) (each_of f (m.the-rule ∷ m.behind))
    (along (all_append f gone (m.the-rule ∷ m.behind)) (subst (λ (q : Program). T (each_of f q)) m.split each)) in
    first (f m.the-rule) (each_of f m.behind) behind

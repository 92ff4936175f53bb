-- Laws of the check: its outcome, from what reading the program and the set answers, the room that there is, and the verdict.
-- In order: a program and a set that are held: 9, and the verdict; that they can be checked; a refusal of the program or the set; the
-- program that is meant; both, as read; without sheets, and with them; room for the clauses of a file's program.
-- Assumes nothing.
use Prim.Native.Nat.{ℕ, ◌≤◌, ◌<◌}
use Rattle.std.specs.Prelude.{Ok, Err}
use native.Mathlib.Omega.{arith}
use mathlib.Core.Path.{◌≡◌, sym, subst}
use mathlib.Core.Bool.{false}
use mathlib.Core.List.{List}
use lib.ListN.{length}
use Rattle.buffer.specs.Bytes.{Bytes}
use Rattle.literal.specs.declared.Limits.{Limits}
use Rattle.literal.specs.declared.Literal.{Literal}
use Rattle.semantics.specs.Rule.{Program}
use Rattle.semantics.specs.Item.{Item, expanded}
use Rattle.semantics.specs.Verdict.{Finding, finding}
use Rattle.semantics.proofs.Laws.Expanded.{Expanded, expanded-few}
use Rattle.record.specs.declared.Reason.TheVariants.{OutputShort}
use Rattle.record.specs.declared.Refusal.{Refusal}
use Rattle.record.specs.declared.Held.{Held}
use Rattle.record.specs.Refusal.{refusal}
use Rattle.record.specs.Result.{Answer}
use Rattle.record.specs.Layout.{encoded_program}
use Rattle.record.specs.Reading.{items, parsed, held_of}
use Rattle.record.specs.Code.{sheeted}
use Rattle.record.proofs.Laws.Keeps.{kept-program}
use Rattle.record.proofs.Laws.Reading.{items-parsed}
use Rattle.record.proofs.Laws.Meant.{items-expanded, held_keeps}
use Rattle.expand.specs.Code.{normal_bytes, Normalizable, NormalOf}
use Rattle.expand.proofs.Laws.File.{file-means, normal-of}
use Rattle.set.specs.Reading.{parsed_set}
use Rattle.set.proofs.Laws.Reading.{keeps-set-most, parsed-set-sound}
use Rattle.inputs.specs.Code.{both_read, Inputs}
use Rattle.check_clauses.specs.Code.{Clausable}
use Rattle.check_set.specs.declared.Verdict.{Verdict}
use Rattle.check_set.specs.Check.{found_of, found, checked_of, checked}
use Rattle.check_set.specs.Code.{Judgeable, Judged, Checkable, Checking, CheckingFile, expanded_rules, CheckableFile, check_of}
use Rattle.check_set.specs.Meets.{MeetsCheck}
use Rattle.check_set.proofs.Laws.Found.{found-short, found-finding, found-refused, found-read, meets-refusal, meets-finding}

module _ (s k out : List ℕ) {n b : ℕ} (w : Checking s k n b) where
  -- 9
  pub program-short : length out < length k → MeetsCheck (check_of w.program.program w.literals k out) (Err (refusal OutputShort 0)) out
  program-short less =
      meets-refusal (found_of w.program.program w.literals k out) out (refusal OutputShort 0) (found-short w.program.program w.literals k out less)

  module _ (room : length k ≤ length out) where
    -- else the set can be judged
    pub program-judges : Bytes k → Judgeable s k n b (length out)
    program-judges bytes =
        record {
          program = w.program;
          form = w.form;
          most = w.most;
          literals = w.literals;
          set_bytes = bytes;
          members = w.members;
          count = w.count;
          few = w.few;
          room = room;
        }

    -- and the verdict on it is the check's
    pub program-found : {r : Verdict} {end : List ℕ} → Judged s k out r end
        → MeetsCheck (check_of w.program.program w.literals k out) (Ok r) end
    program-found judged =
        let p = w.program.program in
        let ls = w.literals in
        let meant = judged w.form w.most p ls w.program.bytes w.members in
        meets-finding (found_of p ls k out) out (finding p ls) (found-finding p ls k out room) meant.answer meant.buffer

-- a program within the limits, with the rules that sheets append to it: there is room for its clauses
pub clausable : (F : Limits) {b : ℕ} → Checkable F b → (p : Program) → Expanded F p → Clausable b p
clausable F c p e =
    let count = expanded-few F p e in
    record { clauses = omega (arith, count, c.rules); numbered = omega (arith, count, c.numbered) }

-- such a program by its bytes, and a set of the form's, can be checked
pub checking : (F : Limits) → F.checked ≤ 64 → (t : List ℕ) (p : Program) → t ≡ encoded_program p → {b : ℕ} → Clausable b p
    → (k : List ℕ) (ls : List Literal) → Bytes k → parsed_set F F.checked k ≡ Ok ls → (n : ℕ) → n ≡ length ls → Checking t k n b
checking F few t p same ok k ls bytes held n counted =
    record {
      program = record { program = p; bytes = same; asked = ok };
      form = F;
      most = F.checked;
      literals = ls;
      members = held;
      count = sym counted;
      few = omega (arith, keeps-set-most F F.checked ls (parsed-set-sound F F.checked k ls bytes held).1, counted);
    }

module _ (F : Limits) (s k out : List ℕ) where
  -- a refusal of the program or the set
  pub checked_refused : {x : Refusal} → both_read F F.checked s k ≡ Err x → MeetsCheck (checked F s k out) (Err x) out
  unfolding checked
  checked_refused {x} e = meets-refusal (found F s k out) out x (found-refused F s k out x e)

  -- the check of the program that is meant is the outcome, wherever it was made
  pub check-met : (p : Program) (ls : List Literal) → parsed F s ≡ Ok p → parsed_set F F.checked k ≡ Ok ls
      → {r : Answer Verdict} {end : List ℕ} → MeetsCheck (check_of p ls k out) r end → MeetsCheck (checked F s k out) r end
  unfolding checked
  check-met p ls read held {r} {end} m =
      subst (λ (q : Answer Finding). MeetsCheck (checked_of q out) r end) (sym (found-read F s k out p read ls held)) m

  -- both were read, and a slice t has the records of the program that is meant, with room for its clauses
  module _ (few : F.checked ≤ 64) {h : Held} {n : ℕ} (w : Inputs F F.checked s k h n) (bytes-k : Bytes k) where
    pub read-checking : (t : List ℕ) → t ≡ encoded_program (expanded w.file) → {b : ℕ} → Clausable b (expanded w.file) → Checking t k n b
    read-checking t same ok = checking F few t (expanded w.file) same ok k w.literals bytes-k w.members n w.counted

    pub read-met : (t : List ℕ) → t ≡ encoded_program (expanded w.file) → {b : ℕ} → Clausable b (expanded w.file) → {r : Answer Verdict} {end : List ℕ}
        → ((v : Checking t k n b) → MeetsCheck (check_of v.program.program v.literals k out) r end) → MeetsCheck (checked F s k out) r end
    unfolding read-checking checking
    read-met t same ok m =
        check-met (expanded w.file) w.literals (items-parsed F s w.file w.holds) w.members (m (read-checking t same ok))

    -- by way of a normal form
    module _ (normal : Normalizable F) (bytes-s : Bytes s) where
      pub file-checking : {b : ℕ} → Clausable b (expanded w.file) → CheckingFile normal_bytes s k n b
      file-checking ok =
          record {
            file = file-means F normal s w.file bytes-s w.holds ok;
            form = F;
            most = F.checked;
            literals = w.literals;
            members = w.members;
            count = sym w.counted;
            few =
                omega (arith, keeps-set-most F F.checked w.literals (parsed-set-sound F F.checked k w.literals bytes-k w.members).1, w.counted, few);
          }

      pub file-met : {b : ℕ} → Clausable b (expanded w.file) → {r : Answer Verdict} {end : List ℕ}
          → ((v : CheckingFile normal_bytes s k n b) → MeetsCheck (check_of (expanded v.file.items) v.literals k out) r end)
          → MeetsCheck (checked F s k out) r end
      unfolding file-checking file-means
      file-met ok m = check-met (expanded w.file) w.literals (items-parsed F s w.file w.holds) w.members (m (file-checking ok))

-- the program that is meant can be checked
unfoldable pub normal-checking : {s k t : List ℕ} {c b : ℕ} → CheckingFile normal_bytes s k c b → NormalOf s t → Checking t k c b
normal-checking w is =
    record {
      program = normal-of w.file is;
      form = w.form;
      most = w.most;
      literals = w.literals;
      members = w.members;
      count = w.count;
      few = w.few;
    }

-- room for the clauses of a program that a file means: of its written rules where it has no sheets, of all elsewhere
module _ (F : Limits) {b : ℕ} (c : CheckableFile F b) (s : List ℕ) (is : List Item) (bytes : Bytes s) (read : items F s ≡ Ok is) where
  pub clausable-unsheeted : (g : Held) → held_of is ≡ g → sheeted g ≡ false → Clausable b (expanded is)
  clausable-unsheeted g held none =
      let count = (kept-program F (expanded is) (held_keeps F s is bytes read g held none)).count in
      record { clauses = omega (arith, count, c.rules); numbered = omega (arith, count, c.appended) }

  pub clausable-file : Clausable expanded_rules (expanded is)
  clausable-file =
      let count = expanded-few F (expanded is) (items-expanded F s is bytes read) in
      record { clauses = omega (arith, count, c.appended); numbered = omega (arith, count, c.appended) }

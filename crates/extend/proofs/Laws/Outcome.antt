-- Laws of extending: the outcome, from what reading the program and the set gives and the room that there is.
-- In order: a file and a set that are held: 9, and the record; a refusal of either; both, as read; the form of sources.
-- Assumes nothing.
use Prim.Native.Nat.{ℕ, ◌+◌, ◌*◌, ◌≤◌, ◌<◌}
use Rattle.std.specs.Prelude.{Ok, Err}
use native.Mathlib.Omega.{arith}
use mathlib.Core.Path.{◌≡◌, refl, sym, ◌∙◌, ap, subst}
use mathlib.Core.List.{List, map}
use lib.ListN.{length, take}
use Rattle.buffer.specs.Bytes.{Bytes}
use Rattle.buffer.specs.Write.{write}
use Rattle.literal.specs.declared.Limits.{Limits}
use Rattle.literal.specs.declared.Literal.{Literal}
use Rattle.literal.specs.Limits.{source}
use Rattle.literal.specs.Order.{key}
use Rattle.literal.proofs.Laws.Literal.{Fits}
use Rattle.semantics.specs.Rule.{Program}
use Rattle.semantics.specs.Item.{rules}
use Rattle.semantics.proofs.Laws.Tests.{Each}
use Rattle.semantics.proofs.Laws.Agree.{Speaks}
use Rattle.semantics.proofs.Laws.Form.{keeps-rules}
use Rattle.semantics.proofs.Laws.Expansion.{kept-items}
use Rattle.record.specs.declared.Reason.TheVariants.{OutputShort}
use Rattle.record.specs.declared.Refusal.{Refusal}
use Rattle.record.specs.declared.Held.{Held}
use Rattle.record.specs.Refusal.{refusal}
use Rattle.record.specs.Result.{Answer, delivered}
use Rattle.record.specs.Meets.{Meets}
use Rattle.record.proofs.Laws.Delivered.{meets-refused, meets-short, meets-written}
use Rattle.record.proofs.Laws.Keeps.{kept-file}
use Rattle.record.proofs.Laws.Reading.{items-read}
use Rattle.record_walk.specs.Code.{HoldsFile}
use Rattle.set.specs.Layout.{encoded_set}
use Rattle.set.specs.Code.{Ascends, key_set}
use Rattle.set.proofs.Laws.Reading.{parsed-set-sound, keeps-set-most}
use Rattle.set.proofs.Laws.Keys.{set_long, set-ascends}
use Rattle.inputs.specs.Code.{both_read, Inputs}
use Rattle.inputs.proofs.Laws.Inputs.{inputs-refused, inputs-made}
use Rattle.keys.specs.Keys.{sorted_keys}
use Rattle.keys.specs.Code.{Fitting}
use Rattle.keys_sort.specs.Code.{Sorted}
use Rattle.extend_marks.specs.Marks.{marks_from}
use Rattle.extend_marks.specs.Code.{MarkableFile}
use Rattle.extend.specs.Extend.{extension_list, extension_bytes, extended}
use Rattle.extend.specs.Code.{most, Extendable, Extending, extension_of, joined}
use Rattle.extend.proofs.Laws.Added.{extension-written}
use Rattle.extend.proofs.Laws.Narrow.{file-fits}
use Rattle.extend.proofs.Laws.Gathered.{markable, gathered-few, gathered-fitting, gathered-record, gathered-length}

module _ (s k : List ℕ) (count : ℕ) (w : Extending s k count) (bs : Bytes s) (bk : Bytes k) where
  -- the set can be searched
  pub extending-long : 4 + 5 * count ≤ length k
  extending-long = subst (λ (c : ℕ). 4 + 5 * c ≤ length k) (sym w.counted) (set_long w.form w.upto k w.literals bk w.members)

  pub extending-ascends : Ascends k count
  extending-ascends = subst (λ (c : ℕ). Ascends k c) (sym w.counted) (set-ascends w.form w.upto k w.literals bk w.members)

  -- the file's rules, which speak of literals whose fields fit two bytes
  abbrev held : Program
  held = rules w.file.items

  spoken : Each (Speaks Fits) held
  spoken = file-fits s w.file.items bs w.file.bytes

  module _ (d x : List ℕ) (n : ℕ) (room : length d ≡ most)
      (g : (v : HoldsFile (MarkableFile most) s) → Sorted d x n (sorted_keys (map key (marks_from 1 (rules v.items) (key_set k count))))) where
    sorted-marks : Sorted d x n (sorted_keys (map key (marks_from 1 held (key_set k (length w.literals)))))
    sorted-marks = subst (λ (c : ℕ). Sorted d x n (sorted_keys (map key (marks_from 1 held (key_set k c))))) w.counted (g w.file)

    -- what is written can be
    pub extending-few : count + n < 65536
    extending-few =
        subst (λ (c : ℕ). c + n < 65536) (sym w.counted)
        (gathered-few held spoken w.file.asked.short w.form w.upto k w.literals w.members bk
        d x n room sorted-marks (subst (λ (c : ℕ). c + most < 65536) w.counted w.total))

    pub extending-fitting : Fitting (take n x)
    extending-fitting =
        gathered-fitting held spoken w.file.asked.short w.form w.upto k w.literals w.members bk d x n room sorted-marks

    -- the record, and its length
    bytes : List ℕ
    bytes = encoded_set (extension_list held w.literals)

    size : length bytes ≡ 4 + 5 * (count + n)
    unfolding bytes
    size =
        gathered-length held spoken w.file.asked.short w.form w.upto k w.literals w.members bk d x n room sorted-marks
        ∙ ap (λ (c : ℕ). 4 + 5 * (c + n)) (sym w.counted)

    -- 9 for a shorter buffer
    pub extending-short : (out : List ℕ) → length out < 4 + 5 * (count + n) → Meets (extension_of held w.literals out) (Err (refusal OutputShort 0)) out
    unfolding bytes
    extending-short out h = meets-short (Ok bytes) out bytes refl (omega (arith, size))

    -- the record, where there is room
    pub extending-written : (out e : List ℕ) → 4 + 5 * (count + n) ≤ length out → e ≡ write out 0 (joined k count (take n x) n)
        → Meets (extension_of held w.literals out) (Ok (4 + 5 * (count + n))) e
    unfolding bytes
    extending-written out e h done =
        let same = ap (λ (c : ℕ). joined k c (take n x) n) w.counted
        ∙ gathered-record held spoken w.file.asked.short w.form w.upto k w.literals w.members bk d x n room sorted-marks in
        meets-written (Ok bytes) out bytes refl (omega (arith, size)) (4 + 5 * (count + n)) e (sym size) (done ∙ ap (write out 0) same)

module _ (F : Limits) (s k : List ℕ) where
  -- a refusal of the program or the set is the answer
  pub extended-refused : (out : List ℕ) (x : Refusal) → both_read F F.literals s k ≡ Err x → Meets (extended F s k out) (Err x) out
  unfolding extended extension_bytes
  extended-refused out x e =
      meets-refused (extension_bytes F s k) out x (inputs-refused F F.literals s k (λ p ls. Ok (encoded_set (extension_list p ls))) x e)

  -- both were read, in a form for which an extension is made
  module _ (ok : Extendable F) {h : Held} {count : ℕ} (w : Inputs F F.literals s k h count) (bs : Bytes s) (bk : Bytes k) where
    -- the extension can be written
    pub read-extending : Extending s k count
    read-extending =
        let read = items-read F s w.file bs w.holds in
        let kept = kept-items F w.file (kept-file F w.file read.1).items in
        let few = keeps-set-most F F.literals w.literals (parsed-set-sound F F.literals k w.literals bk w.members).1 in
        record {
          file =
              record {
                items = w.file;
                bytes = read.0;
                asked = markable F ok (rules w.file) (keeps-rules F (rules w.file) kept.rules-few kept.rules-each);
              };
          form = F;
          upto = F.literals;
          literals = w.literals;
          members = w.members;
          counted = w.counted;
          total = omega (arith, w.counted, few, ok.total);
        }

    -- that for the written rules is that for the program that is meant: it is the outcome
    pub read-met : (out : List ℕ) {r : Answer ℕ} {e : List ℕ} → ((v : Extending s k count) → Meets (extension_of (rules v.file.items) v.literals out) r e)
        → Meets (extended F s k out) r e
    unfolding extended extension_bytes read-extending
    read-met out {r} {e} m =
        subst (λ (q : Answer (List ℕ)). Meets (delivered q out) r e)
        (sym
        (inputs-made F F.literals s k (λ p ls. Ok (encoded_set (extension_list p ls))) w
        ∙ ap (λ (ls : List Literal). Ok (encoded_set ls)) (extension-written w.file w.literals)))
        (m read-extending)

-- the same limits have the same outcome
pub meets-same : (F G : Limits) (s k out : List ℕ) {r : Answer ℕ} {e : List ℕ} → F ≡ G → Meets (extended F s k out) r e → Meets (extended G s k out) r e
meets-same F G s k out {r} {e} same m = subst (λ (H : Limits). Meets (extended H s k out) r e) same m

-- an extension is made in the form of sources
pub extendable-source : Extendable source
unfolding source
extendable-source =
    record {
      appended = record { heads = omega arith; positives = omega arith };
      marks = omega arith;
      rules = omega arith;
      atoms = omega arith;
      tags = omega arith;
      total = omega arith;
    }

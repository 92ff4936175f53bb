-- Laws of the text in parts: it is the program's text, and how long it is.
-- In order: programs within limits; the text by marks; its length; enough room; the parts written one behind
-- the other, and room for the rules' lines.
-- Assumes nothing.
use Prim.Native.Nat.{ℕ, ◌+◌, ◌≤◌}
use native.Mathlib.Omega.{arith}
use mathlib.Core.Path.{◌≡◌, refl, sym, ◌∙◌, ap, ap₂, subst}
use mathlib.Core.Bool.{true, false}
use mathlib.Core.List.{List, ◌++◌, map, append_assoc, map-append}
use lib.Dec.{T, le→leb}
use lib.ListN.{length, length-append, length-map}
use Rattle.buffer.specs.Write.{write, Wrote}
use Rattle.buffer.proofs.Laws.Writing.{wrote, wrote_then}
use Rattle.literal.specs.declared.Limits.{Limits}
use Rattle.literal.specs.declared.Literal.TheVariants.{Signed}
use Rattle.literal.specs.Literal.{takes}
use Rattle.semantics.specs.Set.{each_of, set_of}
use Rattle.semantics.specs.Rule.{Rule, strict, defeasible, head, positive, naf, Program}
use Rattle.semantics.specs.Form.{keeps_rule}
use Rattle.semantics.specs.Translation.{record_length}
use Rattle.semantics.proofs.Laws.Form.{kept}
use Rattle.semantics.proofs.Laws.Tests.{Each, each-mem, each-intro, all-mem, all-intro}
use Rattle.record.specs.Layout.{encoded_program, keeps}
use Rattle.record.proofs.Laws.Layout.{length-encoded-program}
use Rattle.record.proofs.Laws.Keeps.{kept-program}
use Rattle.record_walk.specs.Code.{Holds}
use Rattle.aspif_meaning.specs.Ground.{GroundProgram}
use Rattle.aspif_meaning.specs.Numbering.{occurring, literals}
use Rattle.aspif_meaning.specs.Program.{numbered, ground, Name, names}
use Rattle.aspif_meaning.proofs.Laws.Numbering.{literals-same}
use Rattle.aspif_meaning.proofs.Laws.Occurring.{occurring-taken}
use Rattle.aspif_text.specs.Text.{rule, output, Output, output_of, lines, first_line, last_line, text_of, statements, aspif_text}
use Rattle.aspif_text.proofs.Laws.Statements.{lines-append}
use Rattle.aspif_text.proofs.Laws.Short.{text-short}
use Rattle.aspif_place.specs.Code.{row_places, Marks, number_in, pairs_from, positive_atom, negative_atom, names_from}
use Rattle.aspif_place.proofs.Laws.Place.{HasPlace, place-fits}
use Rattle.aspif_place.proofs.Laws.Limits.{literals-placed-in, placed_below}
use Rattle.aspif_place.proofs.Laws.Numbers.{ground-marked, names_marked}
use Rattle.aspif_names.specs.Code.{signed, row_from, pair_lines, name_lines}
use Rattle.aspif.specs.Code.{rule_lines, behind_rules, text_in, is_short, Numberable, Fitting, TextFits, Exportable, enough}

module _ (F : Limits) (ok : Exportable F) (p : Program) (k : T (keeps F p)) where
  taken : T (each_of (takes F) (occurring p))
  taken = occurring-taken F p (kept-program F p k).each

  placed : Each HasPlace (occurring p)
  placed = literals-placed-in F ok.placeable p taken

  -- no rule within the limits has many literals
  rule-short : (r : Rule) → T (keeps_rule F r) → T (is_short r)
  unfolding record_length head positive naf
  rule-short (strict h b c) g =
      let q = kept F (strict h b c) g in
      le→leb (record_length (strict h b c)) 327 (omega (arith, q.heads, q.positives, q.nafs, ok.literals))
  rule-short (defeasible t h b c) g =
      let q = kept F (defeasible t h b c) g in
      le→leb (record_length (defeasible t h b c)) 327 (omega (arith, q.heads, length-map h Signed, q.positives, q.nafs, ok.literals))

  -- a program within the limits has a place for each literal, no long rule, and is short
  pub numberable : Numberable p
  numberable =
      record {
        placed = placed_below F ok.placeable p taken;
        few = all-intro is_short p (λ r m. rule-short r (all-mem (keeps_rule F) (kept-program F p k).each m));
        short = omega (arith, (kept-program F p k).short, ok.short);
      }

  -- there is enough room for its text
  pub text-enough : length (aspif_text p) ≤ enough F (length (encoded_program p))
  text-enough =
      let long = length-encoded-program p in
      let within = kept-program F p k in
      omega (arith, long, text-short F p within.rules ok.heads ok.bodies ok.atoms (omega (arith, long, within.short, ok.short)))

  -- by the marks of its literals, the text is the program's
  pub text-marked : (bits : List ℕ) → Marks p bits → text_in bits p ≡ aspif_text p
  unfolding text_in behind_rules rule_lines pair_lines name_lines signed row_from aspif_text text_of statements
  text-marked bits marks =
      ap (λ (bs : List ℕ). first_line ++ bs)
      (sym (append_assoc rules (pairs ++ (positives ++ negatives)) last_line) ∙ ap (λ (bs : List ℕ). bs ++ last_line) (sym all))
    where
      same : set_of (literals p) ≡ set_of (occurring p)
      same = literals-same p (each-intro _ (occurring p) (λ l m. place-fits l (each-mem HasPlace placed m)))

      rules : List ℕ
      rules = lines (map rule (map (numbered (number_in bits)) p))

      pairs : List ℕ
      pairs = lines (map rule (pairs_from bits 0 row_places))

      positives : List ℕ
      positives = lines (map output (map output_of (names_from bits positive_atom 0 0 row_places)))

      negatives : List ℕ
      negatives = lines (map output (map output_of (names_from bits negative_atom row_places 0 row_places)))

      of-rules : lines (map rule (ground p)) ≡ rules ++ pairs
      of-rules =
          ap (λ (g : GroundProgram). lines (map rule g)) (ground-marked p bits marks placed same)
          ∙ ap lines (map-append rule (map (numbered (number_in bits)) p) (pairs_from bits 0 row_places))
          ∙ lines-append (map rule (map (numbered (number_in bits)) p)) (map rule (pairs_from bits 0 row_places))

      of-names : lines (map output (map output_of (names p))) ≡ positives ++ negatives
      of-names =
          let ps = names_from bits positive_atom 0 0 row_places in
          let ns = names_from bits negative_atom row_places 0 row_places in
          ap (λ (xs : List Name). lines (map output (map output_of xs))) (names_marked p bits marks placed same)
          ∙ ap (λ (xs : List Output). lines (map output xs)) (map-append output_of ps ns)
          ∙ ap lines (map-append output (map output_of ps) (map output_of ns)) ∙ lines-append (map output (map output_of ps)) (map output (map output_of ns))

      all : lines (map rule (ground p) ++ map output (map output_of (names p))) ≡ rules ++ (pairs ++ (positives ++ negatives))
      all =
          lines-append (map rule (ground p)) (map output (map output_of (names p))) ∙ ap₂ (λ (x y : List ℕ). x ++ y) of-rules of-names
          ∙ append_assoc rules pairs (positives ++ negatives)

-- how long the text is, and the lines behind those of rules
pub length-behind : (bits : List ℕ) → length (behind_rules bits) ≡ length (pair_lines bits) + (length (name_lines bits false) + length (name_lines bits true))
unfolding behind_rules
length-behind bits =
    omega (
      arith,
      length-append (pair_lines bits) (name_lines bits false ++ name_lines bits true),
      length-append (name_lines bits false) (name_lines bits true),
    )

pub length-text : (bits : List ℕ) (p : Program) → length (text_in bits p) ≡ 12 + (length (rule_lines bits p) + length (behind_rules bits))
unfolding text_in first_line last_line
length-text bits p =
    omega (
      arith,
      length-append (rule_lines bits p) (behind_rules bits ++ last_line),
      length-append (behind_rules bits) last_line,
    )

-- the lines behind those of rules, written one behind the other
pub behind-wrote : {d e f g : List ℕ} (bits : List ℕ) (to n m r : ℕ) → to ≤ length d → Wrote d e to (pair_lines bits) n
    → Wrote e f n (name_lines bits false) m → Wrote f g m (name_lines bits true) r → Wrote d g to (behind_rules bits) r
unfolding behind_rules
behind-wrote {d} {g = g} bits to n m r within pairs positives negatives =
    subst (λ (bs : List ℕ). Wrote d g to bs r) (append_assoc (pair_lines bits) (name_lines bits false) (name_lines bits true))
    (wrote_then within (wrote_then within pairs positives) negatives)

-- the text: the first line, the rules' lines, those behind, the last line
pub text-wrote : {d e f g k : List ℕ} (bits : List ℕ) (p : Program) (n m r : ℕ) → e ≡ write d 0 first_line → Wrote e f 10 (rule_lines bits p) n
    → Wrote f g n (behind_rules bits) m → Wrote g k m last_line r → Wrote d k 0 (text_in bits p) r
unfolding text_in first_line
text-wrote {d} {k = k} bits p n m r first rules behind last =
    subst (λ (bs : List ℕ). Wrote d k 0 bs r) joined
    (wrote_then (omega arith) (wrote_then (omega arith) (wrote_then {d = d} (omega arith) (wrote 0 first_line 10 first refl) rules) behind) last)
  where
    joined : ((first_line ++ rule_lines bits p) ++ behind_rules bits) ++ last_line ≡ first_line ++ (rule_lines bits p ++ (behind_rules bits ++ last_line))
    joined =
        append_assoc (first_line ++ rule_lines bits p) (behind_rules bits) last_line
        ∙ append_assoc first_line (rule_lines bits p) (behind_rules bits ++ last_line)

-- where the text has room, the rules' lines have
abbrev pub rules-fit : {rules : ℕ} {bits s : List ℕ} {room : ℕ} → Holds (TextFits rules bits room) s → (n : ℕ) → n ≡ room
    → Holds (Fitting rules bits 10 n) s
rules-fit {bits = bits} w n e =
    record {
      program = w.program;
      bytes = w.bytes;
      asked = record { counted = w.asked.counted; fits = omega (arith, e, w.asked.fits, length-text bits w.program) };
    }

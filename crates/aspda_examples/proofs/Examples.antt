-- The marked examples hold: one theorem, by computation. M3's "exactly four" is a computed test over all 128 sets, and
-- the law that turns it into a statement about every set over these literals.
-- Assumes nothing.
use mathlib.Core.Path.{refl}
use lib.Dec.{T}
use Rattle.buffer.specs.Write.{write}
use Rattle.decimal.specs.Decimal.{decimal_with, decimal}
use Rattle.literal.specs.Limits.{source, plain}
use Rattle.literal.specs.Literal.{most_kind, kind, tag_field, atom_field, encoded, negated_kind, ranged, takes, signed_atom, spelled, within, decoded, opposite}
use Rattle.literal.specs.Order.{bytes_before, key, before, inserted, sorted}
use Rattle.semantics.specs.Rule.{head, positive, naf}
use Rattle.semantics.specs.Meaning.{undefeated, unless_empty, remainder, with_remainder, quotient, holds, satisfied, models}
use Rattle.semantics.specs.Translation.{choice, all_defeated, holds_if_derived, derived_if_holds, never_both, option, options, translated_rule, translation_from, translation}
use Rattle.semantics.specs.Extension.{offers, defeated_rule}
use Rattle.semantics.specs.Expansion.{same_defeat, defeat_rule, heads, made_way, made_pair, made_by, made, unless_before, appended}
use Rattle.semantics.specs.Item.{rules, overrides, oppositions, appended_by, expanded}
use Rattle.semantics.specs.Form.{keeps_counts}
use Rattle.semantics.specs.Verdict.{opposed, clash_from, broken_from, or_else, with_literal, first_subset, smaller_model, finding}
use Rattle.semantics.proofs.Laws.Within.{exactly, exactly-within}
use Rattle.record.specs.Refusal.{shifted, encoded_refusal}
use Rattle.record.specs.Result.{and_then, refuse_if, delivered}
use Rattle.record.specs.Layout.{encoded_literals, rule_record, encoded_rule, encoded_rules, encoded_end, encoded_program}
use Rattle.record.specs.Reading.{literals_at, options_of, defeasible_rule, rule_of, tag_right, body_at, rule_at, override_at, signed_of, signed_at, opposition_of, opposition_at, end_at, marked, pick_mark, mark_at, marked_record, record_at, holding, items_from, items, parsed}
use Rattle.set.specs.Layout.{encoded_set}
use Rattle.set.specs.Reading.{members_at, set_shape, parsed_set}
use Rattle.inputs.specs.Inputs.{with_inputs}
use Rattle.translate.specs.Translate.{translated_bytes, translated}
use Rattle.aspif_meaning.specs.Numbering.{rule_literals, occurring, literals, number_of}
use Rattle.aspif_meaning.specs.Program.{numbered, never_both as never_both_numbers, constraints_of, constraints_from, constraints, ground_with, ground}
use Rattle.aspif_meaning.specs.Program.{names_of, names_with, names}
use Rattle.aspif_text.specs.Text.{field, fields, body_text, rule_line, output_line, line, lines, first_line, last_line, text_of}
use Rattle.aspif_text.specs.Text.{name_text, output_of, statements, aspif_text}
use Rattle.aspif.specs.Aspif.{aspif_bytes, exported}
use Rattle.extend_marks.specs.Marks.{derived_marks, rule_marks, marks_from}
use Rattle.extend.specs.Extend.{extension_list, extension_bytes, extended}
use Rattle.check_set.specs.Verdict.{verdict_of, witness}
use Rattle.check_set.specs.Check.{found, checked_of, checked}
use Rattle.filter_print.specs.Filter.{input_size, printed, filtered}
use Rattle.aspda_examples.specs.Examples.{Says, m3, m3_literals, m3_answer_sets, examples, AllSay}

exactly-four : T (exactly m3 m3_literals m3_answer_sets)
unfolding exactly
exactly-four = tt

-- M1 to M9, and Ask 1's
pub examples-hold : AllSay examples
unfolding Says examples write source plain kind tag_field atom_field encoded negated_kind ranged most_kind takes signed_atom spelled within
    decoded opposite bytes_before key before undefeated unless_empty remainder with_remainder quotient holds satisfied models choice
    all_defeated holds_if_derived derived_if_holds never_both option options translated_rule translation_from translation defeated_rule keeps_counts
    opposed clash_from broken_from or_else with_literal first_subset smaller_model finding shifted encoded_refusal and_then refuse_if delivered
    encoded_literals rule_record encoded_rule encoded_rules encoded_end encoded_program literals_at options_of defeasible_rule rule_of tag_right body_at
    rule_at override_at signed_of signed_at opposition_of opposition_at end_at marked pick_mark mark_at marked_record record_at holding items_from items parsed
    rules overrides oppositions appended_by expanded heads made made_by made_pair made_way unless_before same_defeat defeat_rule appended offers encoded_set members_at set_shape parsed_set translated_bytes
    translated input_size printed filtered derived_marks rule_marks marks_from inserted sorted extension_list with_inputs extension_bytes extended
    found verdict_of witness checked_of checked head positive naf decimal_with decimal rule_literals occurring literals number_of numbered
    never_both_numbers constraints_of constraints_from constraints ground_with ground names_of names_with names field fields body_text rule_line
    output_line line lines first_line last_line text_of name_text output_of statements aspif_text aspif_bytes exported
examples-hold = (
  refl,
  (
    refl,
    (
      record {
        read = refl;
        source_bytes = refl;
        translation_bytes = refl;
        translation_rules = refl;
        exactly = exactly-within m3 m3_literals m3_answer_sets exactly-four;
      },
      (refl, (refl, ((refl, refl), ((refl, refl), ((refl, refl), ((refl, refl), ((refl, refl), (refl, (refl, (refl, tt)))))))))),
    ),
  ),
)

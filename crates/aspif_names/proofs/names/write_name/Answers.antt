-- `names::write_name`: a byte, two words, the atom's figures, a word, a field and the line's end. There is room for each, since there is for all.
-- Assumes nothing.
use Rattle.std.proofs.Common.{arith}
use Rattle.aspif_names.proofs.Laws.Names.{name-length, name-wrote}
use Rattle.aspif_names.proofs.names.write_name.Goals as goal

pub put_byte-requires : goal.put_byte-requires
put_byte-requires c = omega (arith, name-length c.args.negated c.args.a c.args.n c.requires.a_lt_row_places)

pub put_word-letter-requires : goal.put_word-letter-requires
put_word-letter-requires c = omega (arith, name-length c.args.negated c.args.a c.args.n c.requires.a_lt_row_places)

pub put_word-atom-requires : goal.put_word-atom-requires
put_word-atom-requires c = omega (arith, name-length c.args.negated c.args.a c.args.n c.requires.a_lt_row_places)

pub write_decimal-count-requires : goal.write_decimal-count-requires
write_decimal-count-requires c = omega (arith, name-length c.args.negated c.args.a c.args.n c.requires.a_lt_row_places)

pub put_word-number-requires : goal.put_word-number-requires
put_word-number-requires c = omega (arith, name-length c.args.negated c.args.a c.args.n c.requires.a_lt_row_places)

pub write_field-end-requires : goal.write_field-end-requires
write_field-end-requires c = omega (arith, name-length c.args.negated c.args.a c.args.n c.requires.a_lt_row_places)

pub put_end-requires : goal.put_end-requires
put_end-requires c = omega (arith, name-length c.args.negated c.args.a c.args.n c.requires.a_lt_row_places)

pub returns : goal.returns
returns c =
    name-wrote c.args.negated c.args.a c.args.n c.requires.a_lt_row_places (omega (arith, c.count_figures-long.ensures.figures)) c.requires.n_in_bounds
    c.pick_letter.ensures c.put_byte.ensures c.put_word-letter.ensures c.put_word-atom.ensures c.write_decimal-count.ensures c.put_word-number.ensures
    c.write_field-end.ensures c.put_end.ensures

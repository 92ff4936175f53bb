-- `filter::main` is safe: its buffers have the sizes that `filter_translate` asks for.
-- Assumes nothing.
use Rattle.std.proofs.Common.{rules}
use Rattle.literal.specs.Limits.{source}
use Rattle.filter_print.specs.Filter.{input_size}
use Rattle.filter.proofs.main.Goals as goal

pub filter_translate-length-requires-clause-input_len :
    goal.filter_translate-length-requires-clause-input_len
unfolding input_size source
filter_translate-length-requires-clause-input_len c = search rules

pub filter_translate-length-requires-clause-got_le_input_size :
    goal.filter_translate-length-requires-clause-got_le_input_size
unfolding input_size source
filter_translate-length-requires-clause-got_le_input_size c = search rules

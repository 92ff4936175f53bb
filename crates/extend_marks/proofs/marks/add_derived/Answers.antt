-- `marks::add_derived` meets its contract: its key is kept where the option is derived.
use Rattle.set.specs.Code.{key_set}
use Rattle.extend_marks.proofs.Laws.Marks.{gained-option}
use Rattle.extend_marks.proofs.marks.add_derived.Goals as goal

pub returns : goal.returns
returns c =
    let a = c.args in
    gained-option a.t (key_set a.set.bytes.now a.set.count) a.a a.keys.now a.n c.key_of.result
    c.is_derived.result c.key_of.ensures c.is_derived.ensures c.requires

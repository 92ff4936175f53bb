-- `kind::decode_kind` meets its contract, form by form.
-- Assumes nothing.
use mathlib.Core.Path.{sym, ◌∙◌, ap}
use borrow.Author.Rules.{rules}
use Rattle.literal.specs.declared.Kinds.{Kinds}
use Rattle.literal.specs.Code.{span_among}
use Rattle.literal_decode.proofs.kind.decode_kind.Statement.{statement}
use Rattle.literal_decode.proofs.kind.decode_kind.Tie as tie

returns : tie.Need-returns-in-SourceKinds
unfolding span_among
returns c =
    let a = c.args in
    c.decode_source_kind.ensures ∙ sym (ap (λ (K : Kinds). span_among K a.lim a.kind) c.in-SourceKinds.is)

returns-2 : tie.Need-returns-in-PlainKinds
unfolding span_among
returns-2 c =
    let a = c.args in
    c.decode_plain_kind.ensures ∙ sym (ap (λ (K : Kinds). span_among K a.lim a.kind) c.in-PlainKinds.is)

pub decode_kind_spec : {M : Type 1} → statement M
decode_kind_spec =
    tie.close (tie.spec (λ c. search rules) (λ c κs. search rules) (λ c. search rules) (λ c κs. search rules) returns returns-2)

-- Laws of a loop over a program's records, as `Records` gives them: the rules behind it are gone, those before it are left.
-- What a loop has made is a function of the rules that are gone, and one rule more is appended to them.
-- In order: a record that is given; what is left; the rule whose record it is, and where none is; loops: the invariant, its start, a rule more, the end.
-- Assumes nothing.
use Prim.Native.Nat.{ℕ, ◌≤◌}
use native.Mathlib.Omega.{arith}
use mathlib.Core.Path.{◌≡◌, refl, sym, ◌∙◌, ap, subst}
use mathlib.Core.Bool.{Bool}
use mathlib.Core.List.{List, [], ◌∷◌, ◌++◌, append_assoc, append-nil}
use Rattle.std.proofs.Common.{inl, inr}
use lib.Dec.{T}
use lib.ListN.{length, take, drop, length-append}
use lib.Seq.{take_at, drop_at}
use Rattle.semantics.specs.Set.{each_of}
use Rattle.semantics.specs.Rule.{Rule, Program}
use Rattle.semantics.proofs.Laws.Tests.{first, second, along, all_append}
use Rattle.semantics.specs.Item.{rule}
use Rattle.semantics.specs.Translation.{record_length}
use Rattle.record.specs.Layout.{encoded_item, encoded_rule, encoded_rules, encoded_end, encoded_program}
use Rattle.record.proofs.Laws.Layout.{item_length, item-large, length-encoded-rule, length-end}
use Rattle.record_walk.specs.Code.{Holds, record_size, item_size, Starts}
use Rattle.record_walk.specs.Records.{Front, Over}
use Rattle.record_walk.proofs.Laws.Fields.{record-size}
use Rattle.record_walk.proofs.Laws.Items.{item-size}

-- what is given are the bytes of a record that starts what was left, and those behind it are left
module _ (bs more : List ℕ) {rest t next : List ℕ} (front : Front rest t next) (bytes : rest ≡ bs ++ more) (size : item_size rest ≡ length bs) where
  pub front-same : t ≡ bs
  front-same =
      sym (take_at t next (length t) refl) ∙ ap (take (length t)) (sym front.bytes ∙ bytes) ∙ take_at bs more (length t) (sym (front.size ∙ size))

  pub front-next : next ≡ more
  front-next =
      sym (drop_at t next (length t) refl) ∙ ap (drop (length t)) (sym front.bytes ∙ bytes) ∙ drop_at bs more (length t) (sym (front.size ∙ size))

-- the rules `gone` of p are passed, and the records of the others, and the end record, are left
pub record Ahead (p gone : Program) (rest : List ℕ) : Type 0 where
  pub left : Program
  pub split : p ≡ gone ++ left
  pub stands : rest ≡ encoded_rules left ++ encoded_end (length p)

-- the rule behind those that are gone, whose record t is
pub record Next (p gone : Program) (t : List ℕ) : Type 0 where
  pub the-rule : Rule
  pub behind : Program
  pub split : p ≡ gone ++ the-rule ∷ behind
  pub starts : Starts t the-rule
  pub whole : record_size t ≤ length t

-- at the start no rule is gone
ahead_start : (s : List ℕ) (p : Program) → s ≡ encoded_program p → Ahead p [] s
unfolding encoded_program
ahead_start s p e = record { left = p; split = refl; stands = e }

-- the size of a rule's record, by its letter and its counts
rule-size : (t : List ℕ) (r : Rule) → Starts t r → item_size t ≡ record_length r
unfolding item_length encoded_item
rule-size t r w = item-size t (rule r) (record { rest = w.rest; bytes = w.bytes })

rule-large : (r : Rule) → 6 ≤ record_length r
unfolding item_length
rule-large r = item-large (rule r)

module _ (r : Rule) (q : Program) (n : ℕ) (rest : List ℕ) (stands : rest ≡ encoded_rules (r ∷ q) ++ encoded_end n) where
  -- a rule's record, and those behind it
  bytes-of : rest ≡ encoded_rule r ++ (encoded_rules q ++ encoded_end n)
  unfolding encoded_rules
  bytes-of = stands ∙ append_assoc (encoded_rule r) (encoded_rules q) (encoded_end n)

  long-of : item_size rest ≡ length (encoded_rule r)
  long-of = rule-size rest r (record { rest = encoded_rules q ++ encoded_end n; bytes = bytes-of }) ∙ sym (length-encoded-rule r)

  -- it is whole
  open-of : Over rest → ⊥
  open-of over =
      let all = ap length bytes-of ∙ length-append (encoded_rule r) (encoded_rules q ++ encoded_end n) in
      elim over [ inl few ↦ omega (arith, all, length-encoded-rule r, rule-large r, length-append (encoded_rules q) (encoded_end n), length-end n) | inr few ↦ omega (arith, all, long-of) ]

  -- and what `Records` gives
  module _ (t next : List ℕ) (front : Front rest t next) where
    same-of : t ≡ encoded_rule r
    same-of = front-same (encoded_rule r) (encoded_rules q ++ encoded_end n) front bytes-of long-of

    next-of : next ≡ encoded_rules q ++ encoded_end n
    next-of = front-next (encoded_rule r) (encoded_rules q ++ encoded_end n) front bytes-of long-of

    starts-of : Starts t r
    starts-of = record { rest = []; bytes = same-of ∙ sym (append-nil (encoded_rule r)) }

    whole-of : record_size t ≤ length t
    whole-of = omega (arith, record-size t r starts-of, ap length same-of, length-encoded-rule r)

-- only the end record is left
end-of : (n : ℕ) (rest : List ℕ) → rest ≡ encoded_rules [] ++ encoded_end n → length rest ≡ 4
unfolding encoded_rules
end-of n rest stands = ap length stands ∙ length-end n

module _ {p gone : Program} {rest : List ℕ} (a : Ahead p gone rest) where
  -- where none is whole, all rules are gone
  ahead-end : Over rest → p ≡ gone
  ahead-end over = go a.left a.split a.stands
    where
      go : (left : Program) → p ≡ gone ++ left → rest ≡ encoded_rules left ++ encoded_end (length p) → p ≡ gone
      go [] split stands = split ∙ append-nil gone
      go (r ∷ q) split stands = absurd (open-of r q (length p) rest stands over)

  -- what is given is the next rule's record, and the others are left
  module _ {t next : List ℕ} (front : Front rest t next) where
    record Step : Type 0 where
      pub rule : Next p gone t
      pub ahead : Ahead p (gone ++ rule.the-rule ∷ []) next

    ahead-step : Step
    ahead-step = go a.left a.split a.stands
      where
        go : (left : Program) → p ≡ gone ++ left → rest ≡ encoded_rules left ++ encoded_end (length p) → Step
        go [] split stands = absurd (omega (arith, end-of (length p) rest stands, front.long))
        go (r ∷ q) split stands =
            let n = length p in
            record {
              rule =
                  record {
                    the-rule = r;
                    behind = q;
                    split = split;
                    starts = starts-of r q n rest stands t next front;
                    whole = whole-of r q n rest stands t next front;
                  };
              ahead =
                  record {
                    left = q;
                    split = split ∙ sym (append_assoc gone (r ∷ []) q);
                    stands = next-of r q n rest stands t next front;
                  };
            }

-- wherever a loop is: Q holds of the rules that are gone
pub record Passed (p : Program) (rest : List ℕ) (Q : Program → Type 0) : Type 0 where
  pub gone : Program
  pub ahead : Ahead p gone rest
  pub made : Q gone

-- the invariant of a loop over what s holds: so it is for each program that s holds
abbrev pub Passing : (Program → Type 0) → List ℕ → List ℕ → (Program → Type 0) → Type 0
Passing P s rest Q = (w : Holds P s) → Passed w.program rest Q

pub passing-start : {P : Program → Type 0} (s rest : List ℕ) (Q : Program → Type 0) → rest ≡ s → Q [] → Passing P s rest Q
passing-start s rest Q e made w = record { gone = []; ahead = ahead_start rest w.program (e ∙ w.bytes); made = made }

-- the rule whose record is given
pub passed-rule : {p : Program} {rest t next : List ℕ} {Q : Program → Type 0} (a : Passed p rest Q) → Front rest t next → Next p a.gone t
passed-rule a front = (ahead-step a.ahead front).rule

-- behind it, R holds of that rule too
pub passing-next : {P Q : Program → Type 0} {s rest t next : List ℕ} → Passing P s rest Q → Front rest t next → (R : Program → Type 0)
    → ((w : Holds P s) (a : Passed w.program rest Q) (m : Next w.program a.gone t) → R (a.gone ++ m.the-rule ∷ [])) → Passing P s next R
passing-next pass front R step w =
    let a = pass w in
    let m = ahead-step a.ahead front in
    record { gone = a.gone ++ m.rule.the-rule ∷ []; ahead = m.ahead; made = step w a m.rule }

-- where none is given, it holds of the program
pub passed-end : {p : Program} {rest : List ℕ} {Q : Program → Type 0} → Passed p rest Q → Over rest → Q p
passed-end {p} {Q = Q} a over = subst Q (sym (ahead-end a.ahead over)) a.made

-- what each rule of a program keeps, the next keeps
pub next-rule-keeps : {p gone : Program} {t : List ℕ} (f : Rule → Bool) → T (each_of f p) → (m : Next p gone t) → T (f m.the-rule)
next-rule-keeps {gone = gone} f each m =
    let behind = second (each_of f gone) (each_of f (m.the-rule ∷ m.behind))
    (along (all_append f gone (m.the-rule ∷ m.behind)) (subst (λ (q : Program). T (each_of f q)) m.split each)) in
    first (f m.the-rule) (each_of f m.behind) behind

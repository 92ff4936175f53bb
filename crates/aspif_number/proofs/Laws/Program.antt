-- Places of a program's literals, record by record.
-- In order: the literals of two programs; one rule more; places of each rule; a record's literals; marks at the start, with the next
-- record's literals, and at the end.
-- Assumes nothing.
use Prim.Native.Nat.{ℕ, ◌*◌, ◌/◌, ◌%◌}
use native.Mathlib.Omega.{arith}
use mathlib.Core.Path.{◌≡◌, refl, sym, ap, subst, ◌∙◌}
use mathlib.Core.Bool.{Bool, false, ◌||◌, or-false}
use mathlib.Core.List.{List, [], ◌∷◌, ◌++◌, map, append_assoc, append-nil, map-append}
use lib.Dec.{T, ltb}
use lib.ListN.{length, length-append}
use Rattle.literal.specs.declared.Literal.{Literal}
use Rattle.literal.specs.declared.Literal.TheVariants.{Signed}
use Rattle.semantics.specs.Set.{each_of}
use Rattle.semantics.specs.Rule.{Rule, strict, defeasible, head, positive, naf, Program}
use Rattle.semantics.proofs.Laws.Tests.{first, second, along, all_append, all_map}
use Rattle.mask.proofs.Laws.Member.{has-zero}
use Rattle.record_walk.specs.Code.{Starts}
use Rattle.record_walk.proofs.Laws.Fields.{Fields, strict-fields, defeasible-fields}
use Rattle.record_walk.proofs.Laws.Walk.{More}
use Rattle.keys.specs.Keys.{key_in}
use Rattle.aspif_meaning.specs.Numbering.{rule_literals, occurring}
use Rattle.aspif_place.specs.Code.{words, place, marked, Marks}
use Rattle.aspif_number.specs.Code.{Empty, Gained, places_at, literal_count, Room, Placed}
use Rattle.aspif_number.proofs.Laws.Place.{places-spelled}
use Rattle.aspif_number.proofs.Laws.Gained.{gained-none, gained-more}

-- the literals of two programs, one behind the other
occurring-append : (p q : Program) → occurring (p ++ q) ≡ occurring p ++ occurring q
unfolding occurring
occurring-append [] q = refl
occurring-append (r ∷ p) q =
    ap (λ (ls : List Literal). rule_literals r ++ ls) (occurring-append p q) ∙ sym (append_assoc (rule_literals r) (occurring p) (occurring q))

-- with one rule more, its literals' places are behind those of the others
places-next : (p : Program) (r : Rule) → map place (occurring (p ++ r ∷ [])) ≡ map place (occurring p) ++ map place (rule_literals r)
unfolding occurring
places-next p r =
    ap (map place) (occurring-append p (r ∷ [])) ∙ ap (λ (ls : List Literal). map place (occurring p ++ ls)) (append-nil (rule_literals r))
    ∙ map-append place (occurring p) (rule_literals r)

-- where the literals of a program have places, those of each rule of it have
abbrev is_placed : Literal → Bool
is_placed l = ltb (place l) (64 * words)

placed-rule : (p q : Program) (r : Rule) → Placed (p ++ r ∷ q) → T (each_of is_placed (rule_literals r))
unfolding occurring
placed-rule p q r placed =
    let all = along (ap (each_of is_placed) (occurring-append p (r ∷ q)) ∙ all_append is_placed (occurring p) (occurring (r ∷ q))) placed in
    let behind = second (each_of is_placed (occurring p)) (each_of is_placed (occurring (r ∷ q))) all in
    first (each_of is_placed (rule_literals r)) (each_of is_placed (occurring q)) (along (all_append is_placed (rule_literals r) (occurring q)) behind)

-- the places of a record's literals
fields-places : (t : List ℕ) (letter tag : ℕ) (h b c : List Literal) (rest : List ℕ) → Fields t letter tag h b c rest
    → places_at t 7 (literal_count t) ≡ map place (h ++ (b ++ c))
fields-places t letter tag h b c rest f =
    let all : literal_count t ≡ length (h ++ (b ++ c)) = omega (arith, f.heads, f.positives, f.nafs, length-append h (b ++ c), length-append b c) in
    ap (places_at t 7) all ∙ places-spelled t (h ++ (b ++ c)) 7 rest f.literals

pub rule-places : (t : List ℕ) (r : Rule) → Starts t r → places_at t 7 (literal_count t) ≡ map place (rule_literals r)
unfolding rule_literals head positive naf
rule-places t (strict h b c) w = fields-places t _ _ h b c _ (strict-fields t h b c w)
rule-places t (defeasible g h b c) w = fields-places t _ _ (map Signed h) b c _ (defeasible-fields t g h b c w)

-- at the start nothing is gained
pub gained-start : (d : List ℕ) → Gained d d (map place (occurring []))
unfolding occurring
gained-start d = gained-none d

-- the places of the literals of a rule whose record starts t are among the words
pub rule-room : {p : Program} {t : List ℕ} (gone behind : Program) (r : Rule) → Placed p → p ≡ gone ++ r ∷ behind → Starts t r
    → Room words (places_at t 7 (literal_count t))
rule-room {t = t} gone behind r placed split starts =
    let here = placed-rule gone behind r (subst Placed split placed) in
    rw (rule-places t r starts) (along (sym (all_map (λ k. ltb k (64 * words)) place (rule_literals r))) here)

module _ {s t : List ℕ} {p gone : Program} {at : ℕ} (m : More s p gone at t) where
  -- so are those of the next record
  pub next-room : Placed p → (n : ℕ) → n ≡ words → Room n (places_at t 7 (literal_count t))
  next-room placed n e = rw e (rule-room gone m.behind m.the-rule placed m.split m.starts)

  -- with them marked, those of one rule more are
  pub gained-next : {d e f : List ℕ} → Gained d e (map place (occurring gone)) → Gained e f (places_at t 7 (literal_count t))
      → Gained d f (map place (occurring (gone ++ m.the-rule ∷ [])))
  gained-next {d} {e} {f} a b =
      let r = m.the-rule in
      subst (Gained d f) (sym (places-next gone r)) (gained-more a (subst (Gained e f) (rule-places t r m.starts) b))

-- where nothing was marked, exactly those of the program are marked at the end
empty-marked : (bits : List ℕ) → Empty bits → (i : ℕ) → marked bits i ≡ false
unfolding marked
empty-marked bits h i = rw (h (i / 64)) (has-zero (i % 64))

pub gained-marks : (d e : List ℕ) (p : Program) → length d ≡ words → Empty d → Gained d e (map place (occurring p)) → Marks p e
gained-marks d e p long empty g = record {
  whole = g.same ∙ long;
  mark = λ i.
      let ks = map place (occurring p) in
      g.mark i ∙ ap (λ (b : Bool). key_in i ks || b) (empty-marked d empty i) ∙ or-false (key_in i ks);
}

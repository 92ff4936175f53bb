-- What reading a set answers, by the tests that led there. Assumes nothing.
use Prim.Native.Nat.{ℕ, ◌≤◌, ◌<◌}
use Rattle.std.specs.Prelude.{Ok, Err}
use native.Mathlib.Omega.{arith}
use mathlib.Core.Path.{◌≡◌, refl, sym, ◌∙◌, ap}
use mathlib.Core.Bool.{true, false, not}
use mathlib.Core.List.{List, []}
use lib.Dec.{ltb}
use lib.ListN.{length}
use borrow.Author.Tests.{lt-ltb, le-ltb}
use Rattle.buffer.specs.Bytes.{Bytes, number_at}
use Rattle.literal.specs.declared.Limits.{Limits}
use Rattle.literal.specs.declared.Literal.{Literal}
use Rattle.record.specs.declared.Reason.TheVariants.{SetWrong, SetTooLarge}
use Rattle.record.specs.declared.Refusal.{Refusal}
use Rattle.record.specs.Refusal.{refusal}
use Rattle.record.specs.Result.{Answer}
use Rattle.record.specs.Code.{run_of}
use Rattle.record.specs.Reading.{reading_of}
use Rattle.record.proofs.Laws.Result.{refuse-if-true, refuse-if-false}
use Rattle.record.proofs.Laws.Sound.{literals-sound}
use Rattle.set.specs.Reading.{members_at, set_shape, parsed_set}
use Rattle.set.specs.Code.{set_reading, members_above}
use Rattle.set.proofs.Laws.Shape.{shaped}
use Rattle.set.proofs.Laws.Order.{alike-first, above-members}
use Rattle.set.proofs.Laws.Above.{members-sound}

-- a run's answer is the set's
run-refused : (r : Answer (List Literal)) (x : Refusal) → run_of r ≡ Err x → reading_of r ≡ Err x
unfolding run_of reading_of
run-refused (Ok ls) x e = absurd (let z : ◌≡◌ {A = ℕ} 0 1 = cc in omega arith)
run-refused (Err y) x e = let same : y ≡ x = cc in ap Err same

run-right : (r : Answer (List Literal)) (n : ℕ) → run_of r ≡ Ok tt → ((ls : List Literal) → r ≡ Ok ls → length ls ≡ n) → reading_of r ≡ Ok n
unfolding run_of reading_of
run-right (Ok ls) n e h = ap Ok (h ls refl)
run-right (Err x) n e h = absurd (let z : ◌≡◌ {A = ℕ} 0 1 = cc in omega arith)

module _ (F : Limits) (most : ℕ) (s : List ℕ) where
  -- 10
  pub answer-wrong : set_shape s ≡ false → set_reading F most s ≡ Err (refusal SetWrong 0)
  unfolding set_reading parsed_set reading_of
  answer-wrong e = ap reading_of (refuse-if-true (not (set_shape s)) (refusal SetWrong 0) _ (ap not e))

  -- 12
  pub answer-large : set_shape s ≡ true → most < number_at s 2 → set_reading F most s ≡ Err (refusal SetTooLarge 0)
  unfolding set_reading parsed_set reading_of
  answer-large e h =
      ap reading_of
      (refuse-if-false (not (set_shape s)) (refusal SetWrong 0) _ (ap not e)
      ∙ refuse-if-true (ltb most (number_at s 2)) (refusal SetTooLarge 0) _ (lt-ltb most (number_at s 2) h))

  module _ (e : set_shape s ≡ true) (h : number_at s 2 ≤ most) (bytes : Bytes s) where
    -- neither: the literals decide
    answer-members : set_reading F most s ≡ reading_of (members_at F s 4 [] (number_at s 2))
    unfolding set_reading parsed_set
    answer-members =
        ap reading_of
        (refuse-if-false (not (set_shape s)) (refusal SetWrong 0) _ (ap not e)
        ∙ refuse-if-false (ltb most (number_at s 2)) (refusal SetTooLarge 0) _ (le-ltb most (number_at s 2) h))

    -- and the reader's way through them is that of the definition
    way : members_above F s 4 0 (number_at s 2) ≡ run_of (members_at F s 4 [] (number_at s 2))
    way = above-members F s bytes (number_at s 2) 4 [] 0 (alike-first F) (omega (arith, (shaped s e).whole))

    -- 11
    pub answer-member : (x : Refusal) → members_above F s 4 0 (number_at s 2) ≡ Err x → set_reading F most s ≡ Err x
    answer-member x r = answer-members ∙ run-refused (members_at F s 4 [] (number_at s 2)) x (sym way ∙ r)

    -- accepted
    pub answer-right : members_above F s 4 0 (number_at s 2) ≡ Ok tt → set_reading F most s ≡ Ok (number_at s 2)
    answer-right r = answer-members ∙ run-right (members_at F s 4 [] (number_at s 2)) (number_at s 2) (sym way ∙ r) count
      where
        count : (ls : List Literal) → members_at F s 4 [] (number_at s 2) ≡ Ok ls → length ls ≡ number_at s 2
        count ls m =
            let fits = (shaped s e).whole in
            let w = members-sound F s bytes (number_at s 2) 4 [] 0 ls (alike-first F) (omega (arith, fits)) m in
            (literals-sound F s bytes (number_at s 2) 4 ls (omega (arith, fits)) w.0).count

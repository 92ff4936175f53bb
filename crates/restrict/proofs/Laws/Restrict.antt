-- Laws of restricting: the outcome, from what reading the set answers and the room that there is.
-- In order: what is delivered; a set that was read, and what is kept of it; the answers that meet a refusal, too short a
-- buffer, a restriction; the same limits.
-- Assumes nothing.
use Prim.Native.Nat.{ℕ, ◌+◌, ◌*◌, ◌≤◌, ◌<◌}
use Rattle.std.specs.Prelude.{Ok, Err}
use native.Mathlib.Omega.{arith}
use mathlib.Core.Path.{◌≡◌, sym, ◌∙◌, ap, subst}
use mathlib.Core.List.{List}
use lib.ListN.{length, take, drop, length-append}
use Rattle.buffer.specs.Bytes.{Bytes}
use Rattle.buffer.specs.Write.{write}
use Rattle.literal.specs.declared.Limits.{Limits}
use Rattle.literal.specs.declared.Literal.{Literal}
use Rattle.semantics.proofs.Laws.Tests.{along}
use Rattle.record.specs.declared.Reason.TheVariants.{OutputShort}
use Rattle.record.specs.declared.Refusal.{Refusal}
use Rattle.record.specs.Refusal.{refusal}
use Rattle.record.specs.Result.{Answer, and_then}
use Rattle.record.specs.Meets.{Meets}
use Rattle.record.specs.Layout.{encoded_literals}
use Rattle.record.proofs.Laws.Result.{accepted-and-then, refused-and-then}
use Rattle.record.proofs.Laws.Delivered.{meets-refused, meets-short, meets-written}
use Rattle.set.specs.Layout.{encoded_set}
use Rattle.set.specs.Reading.{parsed_set}
use Rattle.set.specs.Code.{set_reading, set_header}
use Rattle.set.proofs.Laws.Above.{ascending-above}
use Rattle.set.proofs.Laws.Reading.{keeps-set-ascending, keeps-set-taken, keeps-set-count, parsed-set-sound, length-encoded-set, length-parsed-set}
use Rattle.set.proofs.Laws.Keys.{literals-lie}
use Rattle.set.proofs.Laws.Answered.{set-refused, set-literals}
use Rattle.set.proofs.Laws.Header.{set-written}
use Rattle.restrict.specs.Restrict.{restriction_list, restriction_bytes, restricted}
use Rattle.restrict.specs.Code.{source_front}
use Rattle.restrict.proofs.Laws.Prefix.{restriction-front, restriction-bytes}

-- a slice that holds n literals, of which the first m are kept
pub record Held (F : Limits) (k : List ℕ) (n m : ℕ) : Type 0 where
  pub literals : List Literal
  pub holds : restriction_bytes F k ≡ Ok (encoded_set (restriction_list literals))
  pub whole : length k ≡ 4 + 5 * n
  pub kept : m ≡ length (restriction_list literals)
  pub few : m ≤ n
  pub counted : m < 65536
  pub bytes : take (5 * m) (drop 4 k) ≡ encoded_literals (restriction_list literals)

module _ (F : Limits) (k : List ℕ) where
  -- what reading refuses, restricting does
  bytes-refused : (x : Refusal) → parsed_set F F.literals k ≡ Err x → restriction_bytes F k ≡ Err x
  unfolding restriction_bytes
  bytes-refused x e =
      ap (λ (q : Answer (List Literal)). and_then q (λ ls. Ok (encoded_set (restriction_list ls)))) e
      ∙ refused-and-then x (λ ls. Ok (encoded_set (restriction_list ls)))

  -- what reading accepts is restricted
  bytes-accepted : (ls : List Literal) → parsed_set F F.literals k ≡ Ok ls → restriction_bytes F k ≡ Ok (encoded_set (restriction_list ls))
  unfolding restriction_bytes
  bytes-accepted ls e =
      ap (λ (q : Answer (List Literal)). and_then q (λ ms. Ok (encoded_set (restriction_list ms)))) e
      ∙ accepted-and-then ls (λ ms. Ok (encoded_set (restriction_list ms)))

  -- the slice of a set that was read is as long as its literals
  pub read_whole : Bytes k → (n : ℕ) → set_reading F F.literals k ≡ Ok n → length k ≡ 4 + 5 * n
  read_whole bytes n e =
      let w = set-literals F F.literals k n e in
      omega (arith, length-parsed-set F F.literals k w.0 bytes w.1, w.2)

  -- and what is counted of it is what is kept
  pub read_held : Bytes k → (n m : ℕ) → set_reading F F.literals k ≡ Ok n → m ≡ source_front k 4 n → Held F k n m
  read_held bytes n m e c =
      let w = set-literals F F.literals k n e in
      let ls = w.0 in
      let keeps = (parsed-set-sound F F.literals k ls bytes w.1).1 in
      let up = along (ascending-above F ls (keeps-set-taken F F.literals ls keeps)) (keeps-set-ascending F F.literals ls keeps) in
      let lie = literals-lie F F.literals k ls bytes w.1 in
      let f = restriction-front k bytes ls 4 0 up lie in
      let same = c ∙ ap (source_front k 4) (sym w.2) in
      let few : length (restriction_list ls) ≤ length ls = omega (arith, ap length f.1, length-append (restriction_list ls) f.0) in
      record {
        literals = ls;
        holds = bytes-accepted ls w.1;
        whole = read_whole bytes n e;
        kept = same ∙ f.2;
        few = omega (arith, few, same, f.2, w.2);
        counted = omega (arith, few, same, f.2, keeps-set-count F F.literals ls keeps);
        bytes = ap (λ (i : ℕ). take (5 * i) (drop 4 k)) same ∙ restriction-bytes k bytes ls 4 0 up lie;
      }

  module _ (out : List ℕ) where
    -- 10, 12, 11
    pub restricted-refused : {x : Refusal} → set_reading F F.literals k ≡ Err x → Meets (restricted F k out) (Err x) out
    unfolding restricted
    restricted-refused {x} e = meets-refused (restriction_bytes F k) out x (bytes-refused x (set-refused F F.literals k x e))

    module _ {n m : ℕ} (h : Held F k n m) where
      long : length (encoded_set (restriction_list h.literals)) ≡ 4 + 5 * m
      long = omega (arith, length-encoded-set (restriction_list h.literals), h.kept)

      -- 9
      pub restricted-short : length out < 4 + 5 * m → Meets (restricted F k out) (Err (refusal OutputShort 0)) out
      unfolding restricted
      restricted-short short = meets-short (restriction_bytes F k) out (encoded_set (restriction_list h.literals)) h.holds (omega (arith, long))

      -- the restriction
      pub restricted-written : {e f : List ℕ} → 4 + 5 * m ≤ length out → e ≡ write out 0 (set_header m) → f ≡ write e 4 (take (5 * m) (drop 4 k))
          → Meets (restricted F k out) (Ok (4 + 5 * m)) f
      unfolding restricted
      restricted-written {e} {f} room front done =
          meets-written (restriction_bytes F k) out (encoded_set (restriction_list h.literals)) h.holds (omega (arith, long)) (4 + 5 * m) f (sym long)
          (set-written out (restriction_list h.literals) m (take (5 * m) (drop 4 k)) h.kept h.bytes front done)

-- the same limits have the same outcome
pub restricted-same : (F G : Limits) (k out : List ℕ) {r : Answer ℕ} {e : List ℕ} → F ≡ G → Meets (restricted F k out) r e → Meets (restricted G k out) r e
restricted-same F G k out {r} {e} same m = subst (λ (H : Limits). Meets (restricted H k out) r e) same m

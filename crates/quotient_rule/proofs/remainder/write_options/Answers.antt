-- `remainder::write_options` meets its contract: the options that are left, the positive literals, and the header before them.
use Rattle.std.proofs.Common.{ℕ, ◌+◌, ◌*◌, ◌≤◌, ◌≡◌, sym, ◌∙◌, ap, List, length, take, drop, arith}
use Rattle.buffer.specs.Write.{write}
use Rattle.buffer.proofs.Laws.Write.{write-nil}
use Rattle.buffer.proofs.Laws.Before.{write-ahead}
use Rattle.buffer.proofs.Laws.Next.{write-behind}
use Rattle.literal.specs.declared.Literal.{Literal}
use Rattle.record.specs.Header.{head_count, positive_count}
use Rattle.record.specs.Layout.{encoded_literals}
use Rattle.record.proofs.Laws.Layout.{length-encoded-literals}
use Rattle.record_walk.specs.Code.{record_size}
use Rattle.record_write.specs.Code.{header}
use Rattle.record_write.proofs.Laws.Stores.{length-header}
use Rattle.quotient_rule.specs.Code.{left_at, option_bytes}
use Rattle.quotient_rule.proofs.Laws.Left.{left-few}
use Rattle.quotient_rule.proofs.Laws.Options.{write-empty}
use Rattle.quotient_rule.proofs.Laws.Remainder.{length-option-bytes, option-bytes-none, option-bytes-some, option-bytes-short}
use Rattle.quotient_rule.proofs.remainder.write_options.Goals as goal

-- the length of what is written where some options are left, and that there is room for it
room : (t : List ℕ) (ls : List Literal) (kept to size : ℕ) → record_size t ≤ length t → kept ≡ length ls → (kept ≡ 0 → ⊥)
    → to + length (option_bytes t ls) ≤ size
    → (length (option_bytes t ls) ≡ 7 + 5 * (kept + positive_count t)) × (to + 7 + 5 * kept + 5 * positive_count t ≤ size)
room t ls kept to size h e n r =
    let long = length-option-bytes t h ls (λ z. n (e ∙ z)) in
    (omega (arith, long), omega (arith, long))

pub returns-then-out-to-lt7 : goal.returns-then-out-to-lt7
returns-then-out-to-lt7 c =
    let a = c.args in
    let t = a.t.now in
    let d = a.out.now in
    let ls = left_at t a.set.bytes.now a.set.count 7 (head_count t) in
    let r = c.requires.t_in_bounds_2 in
    let gone = option-bytes-short t ls a.to (length d) c.requires.t_in_bounds r (omega (arith, c.if-out-to-lt7.true, r)) in
    let none = option-bytes-none t ls gone in
    record { value = sym (ap length none); out_after = sym (ap (write d a.to) none ∙ write-nil d a.to) }

pub write_left-kept-requires-clause-heads_in_bounds_2 : goal.write_left-kept-requires-clause-heads_in_bounds_2
write_left-kept-requires-clause-heads_in_bounds_2 c =
    let a = c.args in
    let t = a.t.now in
    let long = length-option-bytes t c.requires.t_in_bounds (left_at t a.set.bytes.now a.set.count 7 (head_count t)) in
    λ h. omega (arith, c.requires.t_in_bounds_2, long (λ e. omega (arith, h, e)))

pub returns-then-kept-eq0 : goal.returns-then-kept-eq0
returns-then-kept-eq0 c =
    let a = c.args in
    let t = a.t.now in
    let d = a.out.now in
    let ls = left_at t a.set.bytes.now a.set.count 7 (head_count t) in
    let written = c.write_left-kept.ensures in
    let gone : length ls ≡ 0 = sym written.value ∙ c.if-kept-eq0.true in
    let none = option-bytes-none t ls gone in
    record {
      value = sym (ap length none);
      out_after = written.out_after ∙ write-empty d (a.to + 7) ls gone ∙ sym (ap (write d a.to) none ∙ write-nil d a.to);
    }

pub overflow_mul-kept : goal.overflow_mul-kept
overflow_mul-kept c =
    omega (arith, room c.args.t.now _ _ c.args.to _ c.requires.t_in_bounds c.write_left-kept.ensures.value c.if-kept-eq0.false c.requires.t_in_bounds_2)

pub overflow_add-to-3 : goal.overflow_add-to-3
overflow_add-to-3 c =
    omega (arith, room c.args.t.now _ _ c.args.to _ c.requires.t_in_bounds c.write_left-kept.ensures.value c.if-kept-eq0.false c.requires.t_in_bounds_2)

pub copy-requires-clause-count_in_bounds_2 : goal.copy-requires-clause-count_in_bounds_2
copy-requires-clause-count_in_bounds_2 c =
    omega (
      arith,
      room c.args.t.now _ _ c.args.to _ c.requires.t_in_bounds c.write_left-kept.ensures.value c.if-kept-eq0.false c.requires.t_in_bounds_2,
      c.write_left-kept.auto.out,
    )

pub overflow_cast-kept : goal.overflow_cast-kept
overflow_cast-kept c =
    let a = c.args in
    omega (arith, c.write_left-kept.ensures.value, left-few a.t.now a.set.bytes.now a.set.count 7 (head_count a.t.now), c.type_inv.t 4)

pub overflow_mul-result : goal.overflow_mul-result
overflow_mul-result c =
    omega (arith, room c.args.t.now _ _ c.args.to _ c.requires.t_in_bounds c.write_left-kept.ensures.value c.if-kept-eq0.false c.requires.t_in_bounds_2)

pub overflow_add-result : goal.overflow_add-result
overflow_add-result c =
    omega (arith, room c.args.t.now _ _ c.args.to _ c.requires.t_in_bounds c.write_left-kept.ensures.value c.if-kept-eq0.false c.requires.t_in_bounds_2)

pub overflow_add-result-2 : goal.overflow_add-result-2
overflow_add-result-2 c =
    omega (arith, room c.args.t.now _ _ c.args.to _ c.requires.t_in_bounds c.write_left-kept.ensures.value c.if-kept-eq0.false c.requires.t_in_bounds_2)

pub returns : goal.returns
returns c =
    let a = c.args in
    let t = a.t.now in
    let d = a.out.now in
    let ls = left_at t a.set.bytes.now a.set.count 7 (head_count t) in
    let found = c.write_left-kept.ensures in
    let some = λ (e : length ls ≡ 0). c.if-kept-eq0.false (found.value ∙ e) in
    let fits = room t ls _ a.to _ c.requires.t_in_bounds found.value c.if-kept-eq0.false c.requires.t_in_bounds_2 in
    let of-header = length-header (length ls) (positive_count t) 0 in
    let positives = take (5 * positive_count t) (drop (7 + 5 * head_count t) t) in
    let body = write-behind d (a.to + 7) (encoded_literals ls) _ positives (omega (arith, fits))
    (omega (arith, found.value, length-encoded-literals ls)) found.out_after c.copy.ensures in
    let top = c.write_header.ensures ∙ ap (λ n. write c.copy.new.out a.to (header n (positive_count t) 0)) found.value in
    record {
      value = omega (arith, fits);
      out_after = write-ahead d a.to (header (length ls) (positive_count t) 0) (a.to + 7) _ (omega (arith, fits, of-header)) (omega (arith, of-header)) body top
          ∙ ap (write d a.to) (option-bytes-some t ls some);
    }

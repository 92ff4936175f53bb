-- A translation keeps the limits of a form with room for it: rules, counts and literals.
-- In order: how many rules and bytes it has at most; room; what one rule becomes; the translation.
-- Assumes nothing.
use Prim.Native.Nat.{ℕ, ◌+◌, ◌*◌, ◌≤◌, max}
use native.Mathlib.Omega.{arith}
use native.Mathlib.Nat.{mul-le-mul_right}
use mathlib.Core.Path.{refl, sym}
use mathlib.Core.Bool.{true, ◌&&◌}
use mathlib.Core.List.Memᴰ
use mathlib.Core.List.{List, [], ◌∷◌, ◌++◌, map, Memᴰ}
use lib.Dec.{T}
use lib.ListN.{length, length-append, length-map}
use Rattle.literal.specs.declared.Limits.{Limits}
use Rattle.literal.specs.declared.Tag.{Tag}
use Rattle.literal.specs.declared.SignedAtom.{SignedAtom}
use Rattle.literal.specs.declared.Literal.{Literal}
use Rattle.literal.specs.declared.Literal.TheVariants.{Signed, Defeated, Derived}
use Rattle.literal.specs.Literal.{takes}
use Rattle.semantics.specs.Set.{each_of}
use Rattle.semantics.specs.Rule.{Rule, strict, defeasible, Program, head, positive, naf}
use Rattle.semantics.specs.Translation.{rule_defeated, choice, all_defeated, holds_if_derived, derived_if_holds, never_both, option, options, translated_rule, translation_from, translation, translated_length, translated_lengths, translation_length, translated_count, translated_counts}
use Rattle.semantics.specs.Form.{keeps_rule, keeps_rules, most_appended, TakesDefeats}
use Rattle.semantics.proofs.Laws.Tests.{both, first, second, all-mem, all-intro, all_append, all_map, along}
use Rattle.semantics.proofs.Laws.Wider.{takes-wider, all-wider}
use Rattle.semantics.proofs.Laws.Form.{keeps-count, keeps-each, keeps-rules, Kept, kept, strict-keeps, Covers, covers-derived, covers-mark, covers-number}
use Rattle.semantics.proofs.Laws.Position.{At, here, there, Numbered}
use Rattle.semantics.proofs.Laws.Length.{count-translation}
use Rattle.semantics.proofs.Laws.Expanded.{Expanded, expanded-each, expanded-numbered, expanded-counts, expanded-translated}

-- how many rules, and how many bytes, a program within F's limits becomes at most, with the rules that sheets append to it
module _ (F : Limits) where
  rule-count : (r : Rule) → T (keeps_rule F r) → translated_count r ≤ 3 * F.heads + 2
  unfolding translated_count head
  rule-count (strict h b c) k = omega arith
  rule-count (defeasible t h b c) k = omega (arith, (kept F (defeasible t h b c) k).heads, length-map h Signed)

  rule-length : (r : Rule) → T (keeps_rule F r) → translated_length r ≤ 66 * F.heads + 5 * (F.positives + F.nafs) + 24
  unfolding translated_length head positive naf
  rule-length (strict h b c) k = let w = kept F (strict h b c) k in omega (arith, w.heads, w.positives, w.nafs)
  rule-length (defeasible t h b c) k = let w = kept F (defeasible t h b c) k in omega (arith, w.heads, w.positives, w.nafs, length-map h Signed)

  rules-count : (p : Program) → T (each_of (keeps_rule F) p) → translated_counts p ≤ length p * (3 * F.heads + 2)
  unfolding translated_counts
  rules-count [] k = omega arith
  rules-count (r ∷ p) k = omega (arith, rule-count r (first (keeps_rule F r) _ k), rules-count p (second (keeps_rule F r) _ k))

  rules-length : (p : Program) → T (each_of (keeps_rule F) p) → translated_lengths p ≤ length p * (66 * F.heads + 5 * (F.positives + F.nafs) + 24)
  unfolding translated_lengths
  rules-length [] k = omega arith
  rules-length (r ∷ p) k = omega (arith, rule-length r (first (keeps_rule F r) _ k), rules-length p (second (keeps_rule F r) _ k))

  pub translation-count : (p : Program) → Expanded F p → length (translation p) ≤ F.rules * (3 * F.heads + 2) + most_appended F
  translation-count p e =
      let w = e.written in
      let grown = mul-le-mul_right (3 * F.heads + 2) (keeps-count F w e.keeps) in
      omega (arith, count-translation p, expanded-counts F p e, rules-count w (keeps-each F w e.keeps), grown, e.few)

  pub translation_bytes : (p : Program) → Expanded F p
      → translation_length p ≤ 4 + F.rules * (66 * F.heads + 5 * (F.positives + F.nafs) + 24) + 17 * most_appended F
  unfolding translation_length
  translation_bytes p e =
      let w = e.written in
      let grown = mul-le-mul_right (66 * F.heads + 5 * (F.positives + F.nafs) + 24) (keeps-count F w e.keeps) in
      omega (arith, expanded-translated F p e, rules-length w (keeps-each F w e.keeps), grown, e.few)

-- form G has room for what a program within F's limits becomes, with the rules that sheets append to it
pub record Room (F G : Limits) : Type 0 where
  pub covers : Covers F G
  pub heads : max F.heads 1 ≤ G.heads
  pub positives : max F.heads (max F.positives 2) ≤ G.positives
  pub nafs : F.nafs + 1 ≤ G.nafs
  pub rules : F.rules * (3 * F.heads + 2) + most_appended F ≤ G.rules
  pub bytes : 4 + F.rules * (66 * F.heads + 5 * (F.positives + F.nafs) + 24) + 17 * most_appended F ≤ G.length
  pub appended : TakesDefeats F

one : (G : Limits) (l : Literal) → T (takes G l) → T (each_of (takes G) (l ∷ []))
one G l t = both (takes G l) true t tt

module _ (F G : Limits) (room : Room F G) where
  -- a defeasible rule and its number, within F's limits
  module _ (n : ℕ) (low : 1 ≤ n) (high : n ≤ F.rules) where
    number : T (takes G (rule_defeated n))
    number = covers-number F G room.covers n low high

    module _ (t : Tag) (h : List SignedAtom) (b c : List Literal) (k : T (keeps_rule F (defeasible t h b c))) where
      w : Kept F (defeasible t h b c)
      w = kept F (defeasible t h b c) k

      signed : {a : SignedAtom} → Memᴰ a h → T (takes F (Signed a))
      unfolding head
      signed {a} m = all-mem (takes F) w.head-taken (Memᴰ.map Signed m)

      width : length h ≤ F.heads
      unfolding head
      width = omega (arith, w.heads, length-map h Signed)

      -- the marks of an option
      derived : {a : SignedAtom} → Memᴰ a h → T (takes G (Derived t a))
      derived {a} m = covers-derived F G room.covers t a w.tag.range (signed m)

      defeated : {a : SignedAtom} → Memᴰ a h → T (takes G (Defeated t a))
      defeated {a} m = covers-mark F G room.covers t a w.tag.range (signed m)

      -- (2)
      choice-keeps : T (keeps_rule G (choice n t h b c))
      unfolding choice positive naf
      choice-keeps =
          strict-keeps G (map (Derived t) h) b (c ++ (rule_defeated n ∷ [])) (omega (arith, width, length-map h (Derived t), room.heads))
          (omega (arith, w.positives, room.positives))
          (omega (arith, w.nafs, length-append c (rule_defeated n ∷ []), room.nafs))
          (along (sym (all_map (takes G) (Derived t) h)) (all-intro (λ a. takes G (Derived t a)) h (λ a m. derived m)))
          (all-wider F G room.covers.wider b w.positive-taken)
          (along (sym (all_append (takes G) c (rule_defeated n ∷ [])))
          (both (each_of (takes G) c) _ (all-wider F G room.covers.wider c w.naf-taken) (one G (rule_defeated n) number)))

      -- (3)
      defeated-keeps : T (keeps_rule G (all_defeated n t h))
      unfolding all_defeated
      defeated-keeps =
          strict-keeps G (rule_defeated n ∷ []) (map (Defeated t) h) [] (omega (arith, room.heads))
          (omega (arith, width, length-map h (Defeated t), room.positives)) (omega arith) (one G (rule_defeated n) number)
          (along (sym (all_map (takes G) (Defeated t) h)) (all-intro (λ a. takes G (Defeated t a)) h (λ a m. defeated m))) tt

      -- (4), (5) and (6)
      option-keeps : {a : SignedAtom} → Memᴰ a h → T (each_of (keeps_rule G) (option t a))
      unfolding option holds_if_derived derived_if_holds never_both
      option-keeps {a} m =
          let is = one G (Signed a) (takes-wider F G room.covers.wider (Signed a) (signed m)) in
          let der = one G (Derived t a) (derived m) in
          let def = one G (Defeated t a) (defeated m) in
          let head : 1 ≤ G.heads = omega (arith, room.heads) in
          let two : 2 ≤ G.positives = omega (arith, room.positives) in
          both (keeps_rule G (holds_if_derived t a)) _ (strict-keeps G (Signed a ∷ []) (Derived t a ∷ []) [] head (omega arith) (omega arith) is der tt)
          (both (keeps_rule G (derived_if_holds t a)) _
          (strict-keeps G (Derived t a ∷ []) (Signed a ∷ []) (Defeated t a ∷ []) head (omega arith) (omega (arith, room.nafs)) der is def)
          (both (keeps_rule G (never_both t a)) true
          (strict-keeps G [] (Derived t a ∷ Defeated t a ∷ []) [] (omega arith) two (omega arith) tt (both (takes G (Derived t a)) _ (derived m) def) tt) tt))

      options-keep : (os : List SignedAtom) → ((a : SignedAtom) → Memᴰ a os → Memᴰ a h) → T (each_of (keeps_rule G) (options t os))
      unfolding options
      options-keep [] f = tt
      options-keep (a ∷ os) f =
          along (sym (all_append (keeps_rule G) (option t a) (options t os)))
          (both (each_of (keeps_rule G) (option t a)) _ (option-keeps (f a (Memᴰ.head refl))) (options-keep os (λ x m. f x (Memᴰ.tail m))))

  -- the number of a strict rule is used nowhere
  rule-keeps : (n : ℕ) (r : Rule) → 1 ≤ n → Numbered F.rules n (r ∷ []) → T (keeps_rule F r) → T (each_of (keeps_rule G) (translated_rule n r))
  unfolding translated_rule head positive naf
  rule-keeps n (strict h b c) low high k =
      let w = kept F (strict h b c) k in
      let taken = all-wider F G room.covers.wider in
      both (keeps_rule G (strict h b c)) true
      (strict-keeps G h b c (omega (arith, w.heads, room.heads)) (omega (arith, w.positives, room.positives)) (omega (arith, w.nafs, room.nafs))
      (taken h w.head-taken) (taken b w.positive-taken) (taken c w.naf-taken)) tt
  rule-keeps n (defeasible t h b c) low high k =
      let most = high n t h b c (here refl refl) in
      both (keeps_rule G (choice n t h b c)) (keeps_rule G (all_defeated n t h) && each_of (keeps_rule G) (options t h)) (choice-keeps n low most t h b c k)
      (both (keeps_rule G (all_defeated n t h)) (each_of (keeps_rule G) (options t h)) (defeated-keeps n low most t h b c k)
      (options-keep n low most t h b c k h (λ a m. m)))

  from-keeps : (n : ℕ) (p : Program) → 1 ≤ n → Numbered F.rules n p → T (each_of (keeps_rule F) p) → T (each_of (keeps_rule G) (translation_from n p))
  unfolding translation_from
  from-keeps n [] low high k = tt
  from-keeps n (r ∷ p) low high k =
      along (sym (all_append (keeps_rule G) (translated_rule n r) (translation_from (n + 1) p)))
      (both (each_of (keeps_rule G) (translated_rule n r)) (each_of (keeps_rule G) (translation_from (n + 1) p))
      (rule-keeps n r low (λ m t h b c at. high m t h b c (at_first at)) (first (keeps_rule F r) _ k))
      (from-keeps (n + 1) p (omega arith) (λ m t h b c at. high m t h b c (there at)) (second (keeps_rule F r) _ k)))
    where
      at_first : {m : ℕ} {q : Rule} → At m q n (r ∷ []) → At m q n (r ∷ p)
      at_first (here e f) = here e f
      at_first {m = m} {q = q} (there x) = elim x [ ]

  -- the translation keeps G's limits
  pub translation-keeps : (p : Program) → Expanded F p → T (keeps_rules G (translation p))
  unfolding translation
  translation-keeps p e =
      keeps-rules G (translation p) (omega (arith, translation-count F p e, room.rules))
      (from-keeps 1 p (omega arith) (expanded-numbered F p e) (expanded-each F p e room.appended))

  pub translation-short : (p : Program) → Expanded F p → translation_length p ≤ G.length
  translation-short p e = omega (arith, translation_bytes F p e, room.bytes)

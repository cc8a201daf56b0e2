-- The bytes of a few spans, 64 at a time.
use Rattle.std.proofs.Common.{◌≡◌, ℕ, ◌+◌, ◌%◌, ◌^◌, ◌<◌, ◌≤◌, Bool, true, false, cond, eqb, leb}
use Rattle.std.proofs.Common.{not, List, [], ◌∷◌, length, get_or, map, take, drop, replicate}
use Rattle.std.proofs.Common.{bit_or, refl, sym, ap, subst, ◌∙◌, arith, w8}
use Rattle.std.proofs.lemmas.Bool.{eqb-true}
use Rattle.std.proofs.lemmas.List.{get_or-map, take_all}
use Rattle.std.proofs.lemmas.Simd.{bitmask_splat, length-chunk, length-replicate, length-zip2}
use Rattle.std.proofs.lemmas.Simd.{map-map, none_from_empty_mask, tops_compared, zip2_splat}
use Rattle.std.specs.Prelude.{◌||◌}
use Rattle.std.specs.Simd.Lanes.{mask_l, sel_l, top, zip2}
use Rattle.lanes.specs.Spans.{in_span}
use Rattle.lanes.specs.declared.span.Span.{Span}

-- a choice of two splats, lane by lane
sel_splat : (p : ℕ → Bool) (xs : List ℕ) (a b : ℕ)
    → sel_l (map p xs) (replicate (length xs) a) (replicate (length xs) b)
    ≡ map (λ x. cond (p x) a b) xs
sel_splat p [] a b = refl
sel_splat p (x ∷ xs) a b = ap (λ (z : List ℕ). cond (p x) a b ∷ z) (sel_splat p xs a b)

-- 255 for each byte in a span
pub inside_is : (span : Span) (v : List ℕ) → length v ≡ 64
    → sel_l {A = ℕ}
    (map (top 7) (zip2 (λ a b. cond {A = ℕ} (leb a b) 255 0)
    (zip2 (λ a b. (a + b) % 256) v (replicate 64 span.by)) (replicate 64 span.width)))
    (replicate 64 255) (replicate 64 0) ≡ map (λ x. cond {A = ℕ} (in_span span x) 255 0) v
inside_is span v long =
    let moved = zip2 (λ a b. (a + b) % 256) v (replicate 64 span.by) in
    let moved_long : length moved ≡ 64 = length-zip2 (λ a b. (a + b) % 256) v (replicate 64 span.by)
    (long ∙ sym (length-replicate 64 span.by)) ∙ long in
    ap (λ (ms : List Bool). sel_l {A = ℕ} ms (replicate 64 255) (replicate 64 0))
    (tops_compared w8 leb moved (replicate 64 span.width)
    ∙ (zip2_splat leb moved 64 span.width moved_long
    ∙ (ap (map (λ x. leb x span.width)) (zip2_splat (λ a b. (a + b) % 256) v 64 span.by long)
    ∙ map-map (λ x. leb x span.width) (λ a. (a + span.by) % 256) v)))
    ∙ subst (λ (n : ℕ). sel_l {A = ℕ} (map (in_span span) v) (replicate n 255) (replicate n 0)
    ≡ map (λ x. cond {A = ℕ} (in_span span x) 255 0) v) long (sel_splat (in_span span) v 255 0)

-- each is 0 if no mark is set
pub zeros : (v : List ℕ) → length v ≡ 64
    → mask_l (map (top 7) (zip2 (λ a b. cond {A = ℕ} (not (eqb a b)) 255 0) v (replicate 64 0))) % 2
    ^ 64 ≡ 0 → (k : ℕ) → k < 64 → get_or v k 0 ≡ 0
zeros v long none k small =
    let empty : mask_l (map (λ x. not (eqb x 0)) (take 64 (drop 0 v))) ≡ 0 =
    ap (λ (z : List ℕ). mask_l (map (λ x. not (eqb x 0)) z)) (take_all 64 v (omega (arith, long)))
    ∙ (sym (bitmask_splat w8 (λ a b. not (eqb a b)) v 64 0 long (omega arith)) ∙ none) in
    is_zero (get_or v k 0) (none_from_empty_mask (λ x. not (eqb x 0)) v 0 64 0
    (omega (arith, long)) empty k (omega arith) (omega arith))
  where
    by_test : (x : ℕ) (b : Bool) → eqb x 0 ≡ b → not b ≡ false → x ≡ 0
    by_test x true e h = eqb-true x 0 e
    by_test x false e h = absurd (cc)

    is_zero : (x : ℕ) → not (eqb x 0) ≡ false → x ≡ 0
    is_zero x h = by_test x (eqb x 0) refl h

-- what is found of each byte of a chunk
pub found_zero : (f : ℕ → ℕ) (bytes found : List ℕ) (at : ℕ) → at + 64 ≤ length bytes
    → found ≡ map f (take 64 (drop at bytes)) → ((k : ℕ) → k < 64 → get_or found k 0 ≡ 0)
    → (k d : ℕ) → k < length (take 64 (drop at bytes))
    → f (get_or (take 64 (drop at bytes)) k d) ≡ 0
found_zero f bytes found at room is none k d h =
    let chunk = take 64 (drop at bytes) in
    let small : k < 64 = omega (arith, h, length-chunk at 64 bytes room) in
    sym (ap (λ (z : List ℕ). get_or z k 0) is ∙ get_or-map f chunk k d 0 h) ∙ none k small

pub not_in : (a : Bool) → cond {A = ℕ} a 255 0 ≡ 0 → a ≡ false
not_in true h = absurd (omega (arith, h))
not_in false h = refl

pub neither : (a b : Bool) → bit_or (cond {A = ℕ} a 255 0) (cond {A = ℕ} b 255 0) ≡ 0
    → (a || b) ≡ false
neither true true h = absurd (omega (arith, h))
neither true false h = absurd (omega (arith, h))
neither false true h = absurd (omega (arith, h))
neither false false h = refl

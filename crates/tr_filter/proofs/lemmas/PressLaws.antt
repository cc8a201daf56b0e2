-- Bytes that tr squeezes in place.
use Rattle.std.proofs.Common.{◌≡◌, ℕ, zero, suc, ◌+◌, ◌<◌, ◌≤◌, Bool, true, false, cond, not, List}
use Rattle.std.proofs.Common.{[], ◌∷◌, ◌++◌, Option, Some, length, get_or, take, drop, map, refl}
use Rattle.std.proofs.Common.{ap, ◌∙◌, sym, subst, arith, eqb, set}
use Rattle.std.specs.List.{filter}
use Rattle.std.specs.Prelude.{◌&&◌}
use Rattle.std.proofs.lemmas.Bool.{eqb-true}
use Rattle.std.proofs.lemmas.List.{take_more, drop-set-lt, drop-drop, get_or-take, get_or-drop}
use Rattle.std.proofs.lemmas.List.{get_or-append-add, length-take, length-drop, take-take}
use Rattle.std.proofs.Math.Seq.{take-add, take-append-add}
use Rattle.lanes.specs.inner.Gathers.{singled}
use Rattle.lanes.specs.inner.Doubles.{HasNoDouble}
use Rattle.tr_words.specs.declared.tr_words.TrSpec.{TrSpec}
use Rattle.tr_filter.specs.declared.spans.Spans.{Spans}
use Rattle.tr_filter.specs.Covers.{Cover, Exact, IsPlain, in_all}
use Rattle.tr_words.specs.Tr.{translated, with_last, stays, squeezed, last_of, in_set}
use Rattle.tr_filter.specs.inner.Progress.{Pressed}
use Rattle.tr_filter.proofs.lemmas.TrLaws.{translated-append, squeezed-append, last_of-append}
use Rattle.tr_filter.proofs.lemmas.TrLaws.{kept_byte, placed, first_of_rest, at_most_one_more}

pub pressed_none : (set : Option (List Bool)) (l0 : Option ℕ) (xs : List ℕ)
    → Pressed set l0 xs xs 0 0 l0
pressed_none set l0 xs = record { within = omega arith; made = refl; last = refl; rest = refl }

-- bytes that are not deleted, and do not change
pub translated_plain : (spec : TrSpec) (xs : List ℕ) → IsPlain spec.table
    → ((k : ℕ) → k < length xs → get_or xs k 0 < 256)
    → ((k : ℕ) → k < length xs → in_set spec.deleted (get_or xs k 0) ≡ false)
    → translated spec xs ≡ xs
translated_plain spec [] plain small kept = refl
translated_plain spec (x ∷ xs) plain small kept =
    translated-append spec (x ∷ []) xs
    ∙ (ap (λ (z : List ℕ). z ++ translated spec xs) (kept_byte spec x (kept 0 (omega arith))
    ∙ ap (λ (y : ℕ). y ∷ []) (plain x (small 0 (omega arith))))
    ∙ ap (λ (z : List ℕ). x ∷ z) (translated_plain spec xs plain
    (λ k h. small (suc k) (omega (arith, h))) (λ k h. kept (suc k) (omega (arith, h)))))

stay_by : (i q same : Bool) → (q ≡ false → i ≡ false) → (q && same) ≡ false → not (i && same) ≡ true
stay_by true true true f h = absurd (cc)
stay_by true true false f h = refl
stay_by true false same f h = absurd (let no = f refl in cc)
stay_by false q same f h = refl

not_same : (i same : Bool) → same ≡ false → not (i && same) ≡ true
not_same true false e = refl
not_same true true e = absurd (cc)
not_same false same e = refl

-- a byte that is not the same as the one before it, or is in no span
stay_next : (set : Option (List Bool)) (p : ℕ → Bool) (x y : ℕ)
    → ((x : ℕ) → x < 256 → p x ≡ false → in_set set x ≡ false) → x < 256 → (p x && eqb x y) ≡ false
    → stays set (Some x, y) ≡ true
stay_next set p x y covers small h = by_case (eqb x y) refl
  where
    by_case : (b : Bool) → eqb x y ≡ b → stays set (Some x, y) ≡ true
    by_case true e =
        let same : y ≡ x = sym (eqb-true x y e) in
        let here : in_set set y ≡ in_set set x = ap (in_set set) same in
        ap (λ (b : Bool). not (b && eqb x y)) here
        ∙ stay_by (in_set set x) (p x) (eqb x y) (covers x small) h
    by_case false e = not_same (in_set set y) (eqb x y) e

-- bytes that have no run to be squeezed
pub squeezed_apart : (set : Option (List Bool)) (p : ℕ → Bool) (l : Option ℕ) (xs : List ℕ)
    → ((x : ℕ) → x < 256 → p x ≡ false → in_set set x ≡ false)
    → ((k : ℕ) → k < length xs → get_or xs k 0 < 256)
    → (0 < length xs → stays set (l, get_or xs 0 0) ≡ true) → HasNoDouble p xs
    → squeezed set l xs ≡ xs
squeezed_apart set p l [] covers small first h = refl
squeezed_apart set p l (x ∷ []) covers small first h =
    ap (λ (b : Bool). map (λ (q : Option ℕ × ℕ). q.1) (cond b ((l, x) ∷ []) []))
    (first (omega arith))
squeezed_apart set p l (x ∷ y ∷ ys) covers small first h =
    let later = filter (stays set) (with_last (Some x) (y ∷ ys)) in
    let next : stays set (Some x, y) ≡ true =
    stay_next set p x y covers (small 0 (omega arith)) h.0 in
    ap (λ (b : Bool). map (λ (q : Option ℕ × ℕ). q.1) (cond b ((l, x) ∷ later) later))
    (first (omega arith))
    ∙ ap (λ (z : List ℕ). x ∷ z) (squeezed_apart set p (Some x) (y ∷ ys) covers
    (λ k g. small (suc k) (omega (arith, g))) (λ _. next) h.1)

last_of_some : (l : Option ℕ) (xs : List ℕ) (n : ℕ) → length xs ≡ suc n
    → last_of l xs ≡ Some (get_or xs n 0)
last_of_some l [] n h = absurd (omega (arith, h))
last_of_some l (x ∷ []) zero h = refl
last_of_some l (x ∷ []) (suc n) h = absurd (omega (arith, h))
last_of_some l (x ∷ y ∷ ys) zero h = absurd (omega (arith, h))
last_of_some l (x ∷ y ∷ ys) (suc n) h = last_of_some (Some x) (y ∷ ys) n (omega (arith, h))

-- a byte of such a chunk, which fits as those that are kept fit
pub chunk_small : (bs bs' : List ℕ) (kept i : ℕ) → i + 64 ≤ length bs → kept ≤ length bs
    → ((k : ℕ) → get_or bs' k 0 < 256) → take (kept + 64) bs' ≡ take kept bs ++ take 64 (drop i bs)
    → (k : ℕ) → k < length (take 64 (drop i bs)) → get_or (take 64 (drop i bs)) k 0 < 256
chunk_small bs bs' kept i room front bytes moved k h =
    let chunk = take 64 (drop i bs) in
    let long : length chunk ≡ 64 =
    omega (arith, room, length-take 64 (drop i bs), length-drop i bs) in
    let kept_long : length (take kept bs) ≡ kept = omega (arith, length-take kept bs, front) in
    let item : get_or chunk k 0 ≡ get_or bs' (kept + k) 0 =
    sym (get_or-append-add (take kept bs) chunk k 0)
    ∙ (ap (λ (j : ℕ). get_or (take kept bs ++ chunk) (j + k) 0) kept_long
    ∙ (ap (λ (z : List ℕ). get_or z (kept + k) 0) (sym moved)
    ∙ get_or-take (kept + 64) bs' (kept + k) 0 (omega (arith, h, long)))) in
    omega (arith, item, bytes (kept + k))

-- one byte more: it is written, and counts if it stays
pub press : (set' : Option (List Bool)) (l0 : Option ℕ) (xs bs bs' : List ℕ) (kept kept' i : ℕ)
    (l : Option ℕ) → i < length xs → length bs ≡ length xs → Pressed set' l0 xs bs kept i l
    → bs' ≡ set bs kept (get_or bs i 0)
    → kept' ≡ cond (stays set' (l, get_or bs i 0)) (kept + 1) kept
    → Pressed set' l0 xs bs' kept' (i + 1) (Some (get_or bs i 0))
press set' l0 xs bs bs' kept kept' i l within same t put counted =
    let x = get_or bs i 0 in
    let f = first_of_rest xs bs i within (omega arith) t.rest in
    let more : take (i + 1) xs ≡ take i xs ++ x ∷ [] = take_more xs i 0 within
    ∙ ap (λ (y : ℕ). take i xs ++ y ∷ []) (sym f.0) in
    let out : squeezed set' l0 (take (i + 1) xs) ≡ squeezed set' l0 (take i xs) ++ squeezed set' l
    (x ∷ []) =
    ap (squeezed set' l0) more ∙ (squeezed-append set' l0 (take i xs) (x ∷ [])
    ∙ ap (λ (k : Option ℕ). squeezed set' l0 (take i xs) ++ squeezed set' k (x ∷ []))
    (sym t.last)) in
    let front : take kept' bs' ≡ take kept bs ++ squeezed set' l (x ∷ []) =
    ap (λ (n : ℕ). take n bs') counted
    ∙ (ap (take (cond (stays set' (l, x)) (kept + 1) kept)) put
    ∙ placed set' l bs kept x (omega (arith, t.within))) in
    record {
      within = subst (λ (n : ℕ). n ≤ i + 1) (sym counted)
          (at_most_one_more (stays set' (l, x)) kept i t.within);
      made = front ∙ (ap (λ (z : List ℕ). z ++ squeezed set' l (x ∷ [])) t.made ∙ sym out);
      last = sym (ap (last_of l0) more ∙ last_of-append l0 (take i xs) (x ∷ []));
      rest = ap (drop (i + 1)) put
          ∙ (drop-set-lt (i + 1) bs kept x (omega (arith, t.within)) ∙ f.1);
    }

-- a chunk in which nothing is squeezed, moved to the front
pub press_quiet : (set' : Option (List Bool)) (spans : Spans) (l0 : Option ℕ) (xs bs bs' : List ℕ)
    (kept i : ℕ) (l : Option ℕ) → Cover set' spans → i + 64 ≤ length bs → kept ≤ length bs
    → ((k : ℕ) → get_or bs' k 0 < 256) → stays set' (l, get_or bs i 0) ≡ true
    → HasNoDouble (in_all spans) (take 64 (drop i bs))
    → take (kept + 64) bs' ≡ take kept bs ++ take 64 (drop i bs)
    → drop (i + 64) bs' ≡ drop (i + 64) bs → Pressed set' l0 xs bs kept i l
    → Pressed set' l0 xs bs' (kept + 64) (i + 64) (Some (get_or bs (i + 63) 0))
press_quiet set' spans l0 xs bs bs' kept i l covers room front bytes first apart moved rest t =
    let chunk = take 64 (drop i bs) in
    let long : length chunk ≡ 64 =
    omega (arith, room, length-take 64 (drop i bs), length-drop i bs) in
    let item : (k : ℕ) → k < 64 → get_or chunk k 0 ≡ get_or bs (i + k) 0 =
    λ k h. get_or-take 64 (drop i bs) k 0 h ∙ get_or-drop i bs k 0 in
    let n : i + 0 ≡ i = omega arith in
    let begin : get_or chunk 0 0 ≡ get_or bs i 0 = item 0 (omega arith)
    ∙ ap (λ (j : ℕ). get_or bs j 0) n in
    let small = chunk_small bs bs' kept i room front bytes moved in
    let quiet : squeezed set' l chunk ≡ chunk =
    squeezed_apart set' (in_all spans) l chunk covers small
    (λ _. ap (λ (x : ℕ). stays set' (l, x)) begin ∙ first) apart in
    let last : last_of l chunk ≡ Some (get_or bs (i + 63) 0) =
    last_of_some l chunk 63 (omega (arith, long)) ∙ ap Some (item 63 (omega arith)) in
    let more : take (i + 64) xs ≡ take i xs ++ chunk = take-add i 64 xs
    ∙ ap (λ (z : List ℕ). take i xs ++ take 64 z) (sym t.rest) in
    let out : squeezed set' l0 (take (i + 64) xs) ≡ squeezed set' l0 (take i xs) ++ chunk =
    ap (squeezed set' l0) more ∙ (squeezed-append set' l0 (take i xs) chunk
    ∙ ap (λ (z : List ℕ). squeezed set' l0 (take i xs) ++ z)
    (ap (λ (k : Option ℕ). squeezed set' k chunk) (sym t.last) ∙ quiet)) in
    record {
      within = omega (arith, t.within);
      made = moved ∙ (ap (λ (z : List ℕ). z ++ chunk) t.made ∙ sym out);
      last = sym (ap (last_of l0) more
          ∙ (last_of-append l0 (take i xs) chunk
          ∙ (ap (λ (k : Option ℕ). last_of k chunk) (sym t.last) ∙ last)));
      rest = rest ∙ (sym (drop-drop 64 i bs) ∙ (ap (drop 64) t.rest ∙ drop-drop 64 i xs));
    }

-- ---- a chunk of which a few bytes go

singled_by : (s : Bool) (l : Option ℕ) (x : ℕ) (ps : List (Option ℕ × ℕ)) (rest : List ℕ)
    → map (λ (q : Option ℕ × ℕ). q.1) ps ≡ rest
    → map (λ (q : Option ℕ × ℕ). q.1) (cond s ((l, x) ∷ ps) ps) ≡ cond (not s) rest (x ∷ rest)
singled_by true l x ps rest e = ap (λ (z : List ℕ). x ∷ z) e
singled_by false l x ps rest e = e

-- a byte stays unless the one before it is the same, and in a span
stays_next : (set : Option (List Bool)) (p : ℕ → Bool) (x y : ℕ) → p x ≡ in_set set x
    → (p x && eqb x y) ≡ not (stays set (Some x, y))
stays_next set p x y exact = by_case (eqb x y) refl
  where
    twice : (b : Bool) → (b && true) ≡ not (not (b && true))
    twice true = refl
    twice false = refl

    never : (a b : Bool) → (a && false) ≡ not (not (b && false))
    never true true = refl
    never true false = refl
    never false true = refl
    never false false = refl

    by_case : (b : Bool) → eqb x y ≡ b → (p x && eqb x y) ≡ not (stays set (Some x, y))
    by_case true e =
        let same : in_set set x ≡ in_set set y = ap (in_set set) (eqb-true x y e) in
        ap (λ (b : Bool). p x && b) e
        ∙ (ap (λ (a : Bool). a && true) (exact ∙ same)
        ∙ (twice (in_set set y) ∙ ap (λ (b : Bool). not (not (in_set set y && b))) (sym e)))
    by_case false e = ap (λ (b : Bool). p x && b) e
        ∙ (never (p x) (in_set set y) ∙ ap (λ (b : Bool). not (not (in_set set y && b))) (sym e))

pub squeezed_singled : (set : Option (List Bool)) (p : ℕ → Bool) (l : Option ℕ) (gone : Bool)
    (xs : List ℕ) → ((x : ℕ) → x < 256 → p x ≡ in_set set x)
    → ((k : ℕ) → k < length xs → get_or xs k 0 < 256)
    → (0 < length xs → gone ≡ not (stays set (l, get_or xs 0 0)))
    → squeezed set l xs ≡ singled p gone xs
squeezed_singled set p l gone [] exact small first = refl
squeezed_singled set p l gone (x ∷ []) exact small first =
    singled_by (stays set (l, x)) l x [] [] refl
    ∙ ap (λ (b : Bool). cond b [] (x ∷ [])) (sym (first (omega arith)))
squeezed_singled set p l gone (x ∷ y ∷ ys) exact small first =
    let later = filter (stays set) (with_last (Some x) (y ∷ ys)) in
    let rest : squeezed set (Some x) (y ∷ ys) ≡ singled p (p x && eqb x y) (y ∷ ys) =
    squeezed_singled set p (Some x) (p x && eqb x y) (y ∷ ys) exact
    (λ k g. small (suc k) (omega (arith, g)))
    (λ _. stays_next set p x y (exact x (small 0 (omega arith)))) in
    singled_by (stays set (l, x)) l x later (singled p (p x && eqb x y) (y ∷ ys)) rest
    ∙ ap (λ (b : Bool). cond b (singled p (p x && eqb x y) (y ∷ ys))
    (x ∷ singled p (p x && eqb x y) (y ∷ ys))) (sym (first (omega arith)))

-- the first of a few bytes that were put
pub few_put : (bs bs' few : List ℕ) (kept count : ℕ) → kept ≤ length bs → count ≤ 64
    → take (kept + 64) bs' ≡ take kept bs ++ take 64 few
    → take (kept + count) bs' ≡ take kept bs ++ take count few
few_put bs bs' few kept count front short put =
    let long : kept + count ≡ length (take kept bs) + count =
    omega (arith, length-take kept bs, front) in
    sym (take-take (kept + count) (kept + 64) bs' (omega (arith, short)))
    ∙ (ap (take (kept + count)) put
    ∙ (ap (λ (n : ℕ). take n (take kept bs ++ take 64 few)) long
    ∙ (take-append-add (take kept bs) (take 64 few) count
    ∙ ap (λ (z : List ℕ). take kept bs ++ z) (take-take count 64 few short))))

-- what is left of a chunk
pub chunk_singled : (set' : Option (List Bool)) (spans : Spans) (bs few : List ℕ) (i count : ℕ)
    (l : Option ℕ) (gone : Bool) → Exact set' spans → i + 64 ≤ length bs
    → ((k : ℕ) → get_or bs k 0 < 256) → gone ≡ not (stays set' (l, get_or bs i 0))
    → take count few ≡ singled (in_all spans) gone (take 64 (drop i bs))
    → take count few ≡ squeezed set' l (take 64 (drop i bs))
chunk_singled set' spans bs few i count l gone exact room bytes first single =
    let chunk = take 64 (drop i bs) in
    let item : (k : ℕ) → k < 64 → get_or chunk k 0 ≡ get_or bs (i + k) 0 =
    λ k h. get_or-take 64 (drop i bs) k 0 h ∙ get_or-drop i bs k 0 in
    let n : i + 0 ≡ i = omega arith in
    let begin : get_or chunk 0 0 ≡ get_or bs i 0 = item 0 (omega arith)
    ∙ ap (λ (j : ℕ). get_or bs j 0) n in
    let small : (k : ℕ) → k < length chunk → get_or chunk k 0 < 256 =
    λ k h. omega (
      arith,
      item k (omega (arith, h, length-take 64 (drop i bs))),
      bytes (i + k),
    ) in
    single
    ∙ sym (squeezed_singled set' (in_all spans) l gone chunk exact small (λ _. first
    ∙ ap (λ (x : ℕ). not (stays set' (l, x))) (sym begin)))

-- a chunk from which a few bytes go
pub press_few : (set' : Option (List Bool)) (l0 : Option ℕ) (xs bs bs' few : List ℕ)
    (kept i count : ℕ) (l : Option ℕ) → i + 64 ≤ length bs → kept ≤ length bs → count ≤ 64
    → take count few ≡ squeezed set' l (take 64 (drop i bs))
    → take (kept + 64) bs' ≡ take kept bs ++ take 64 few → drop (i + 64) bs' ≡ drop (i + 64) bs
    → kept + count ≤ i + 64 → Pressed set' l0 xs bs kept i l
    → Pressed set' l0 xs bs' (kept + count) (i + 64) (Some (get_or bs (i + 63) 0))
press_few set' l0 xs bs bs' few kept i count l room front short left put rest fits t =
    let chunk = take 64 (drop i bs) in
    let long : length chunk ≡ 64 =
    omega (arith, room, length-take 64 (drop i bs), length-drop i bs) in
    let item : get_or chunk 63 0 ≡ get_or bs (i + 63) 0 =
    get_or-take 64 (drop i bs) 63 0 (omega arith) ∙ get_or-drop i bs 63 0 in
    let last : last_of l chunk ≡ Some (get_or bs (i + 63) 0) =
    last_of_some l chunk 63 (omega (arith, long)) ∙ ap Some item in
    let more : take (i + 64) xs ≡ take i xs ++ chunk = take-add i 64 xs
    ∙ ap (λ (z : List ℕ). take i xs ++ take 64 z) (sym t.rest) in
    let out : squeezed set' l0 (take (i + 64) xs) ≡ squeezed set' l0 (take i xs) ++ take count few =
    ap (squeezed set' l0) more ∙ (squeezed-append set' l0 (take i xs) chunk
    ∙ ap (λ (z : List ℕ). squeezed set' l0 (take i xs) ++ z)
    (ap (λ (k : Option ℕ). squeezed set' k chunk) (sym t.last) ∙ sym left)) in
    record {
      within = fits;
      made = few_put bs bs' few kept count front short put
          ∙ (ap (λ (z : List ℕ). z ++ take count few) t.made ∙ sym out);
      last = sym (ap (last_of l0) more
          ∙ (last_of-append l0 (take i xs) chunk
          ∙ (ap (λ (k : Option ℕ). last_of k chunk) (sym t.last) ∙ last)));
      rest = rest ∙ (sym (drop-drop 64 i bs) ∙ (ap (drop 64) t.rest ∙ drop-drop 64 i xs));
    }

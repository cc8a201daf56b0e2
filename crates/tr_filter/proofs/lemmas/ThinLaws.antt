-- Bytes that tr deletes and translates in place.
use Rattle.std.specs.List.{filter}
use Rattle.std.proofs.Common.{◌≡◌, ℕ, suc, ◌+◌, ◌<◌, ◌≤◌, Bool, true, false, cond, not, set, List}
use Rattle.std.proofs.Common.{[], ◌∷◌, ◌++◌, length, get_or, take, drop, refl, ap, ◌∙◌, sym, subst}
use Rattle.std.proofs.Common.{arith}
use Rattle.std.proofs.lemmas.List.{drop-drop, drop-set-lt, take_more, take_more_set, take-set}
use Rattle.std.proofs.lemmas.List.{append-nil}
use Rattle.std.proofs.Math.Seq.{take-add, take-length}
use Rattle.tr_words.specs.declared.tr_words.TrSpec.{TrSpec}
use Rattle.tr_filter.specs.Covers.{IsPlain}
use Rattle.tr_words.specs.Tr.{translated, in_set}
use Rattle.tr_filter.specs.inner.Progress.{Thinned}
use Rattle.tr_filter.proofs.lemmas.TrLaws.{translated-append, first_of_rest, at_most_one_more}
use Rattle.tr_filter.proofs.lemmas.TrLaws.{kept_byte, deleted_byte}
use Rattle.tr_filter.proofs.lemmas.PressLaws.{translated_plain, chunk_small}

pub thinned_none : (spec : TrSpec) (xs : List ℕ) → Thinned spec xs xs 0 0
thinned_none spec xs = record { within = omega arith; made = refl; rest = refl }

pub thinned_all : (spec : TrSpec) (xs bs : List ℕ) (kept i : ℕ) → i ≡ length xs
    → Thinned spec xs bs kept i → take kept bs ≡ translated spec xs
thinned_all spec xs bs kept i e t = t.made
    ∙ ap (translated spec) (ap (λ (n : ℕ). take n xs) e ∙ take-length xs)

-- what is left of a byte, and how many bytes that is
left_of : (k : Bool) (spec : TrSpec) (x : ℕ) → k ≡ not (in_set spec.deleted x)
    → translated spec (x ∷ []) ≡ cond k (get_or spec.table x 0 ∷ []) []
left_of k spec x e = by_case (in_set spec.deleted x) refl
  where
    by_case : (b : Bool) → in_set spec.deleted x ≡ b
        → translated spec (x ∷ []) ≡ cond k (get_or spec.table x 0 ∷ []) []
    by_case true h = deleted_byte spec x h
        ∙ ap (λ (c : Bool). cond c (get_or spec.table x 0 ∷ []) []) (sym (e ∙ ap not h))
    by_case false h = kept_byte spec x h
        ∙ ap (λ (c : Bool). cond c (get_or spec.table x 0 ∷ []) []) (sym (e ∙ ap not h))

put_by : (k : Bool) (bs : List ℕ) (kept c : ℕ) → kept < length bs
    → take (cond k (kept + 1) kept) (set bs kept c) ≡ take kept bs ++ cond k (c ∷ []) []
put_by true bs kept c within = take_more_set bs kept c within
put_by false bs kept c within = take-set bs kept c ∙ sym (append-nil (take kept bs))

-- one byte more: what it becomes is written, and counts unless it is deleted
pub thin : (k : Bool) (spec : TrSpec) (xs bs bs' : List ℕ) (kept kept' i c : ℕ)
    → c ≡ get_or spec.table (get_or bs i 0) 0 → i < length xs → length bs ≡ length xs
    → Thinned spec xs bs kept i → k ≡ not (in_set spec.deleted (get_or bs i 0))
    → bs' ≡ set bs kept c → kept' ≡ cond k (kept + 1) kept → Thinned spec xs bs' kept' (i + 1)
thin k spec xs bs bs' kept kept' i c becomes within same t is put counted =
    let x = get_or bs i 0 in
    let f = first_of_rest xs bs i within (omega arith) t.rest in
    let more : translated spec (take (i + 1) xs) ≡ translated spec (take i xs) ++ translated spec
    (x ∷ []) =
    ap (translated spec) (take_more xs i 0 within ∙ ap (λ (y : ℕ). take i xs ++ y ∷ []) (sym f.0))
    ∙ translated-append spec (take i xs) (x ∷ []) in
    let left : translated spec (x ∷ []) ≡ cond k (c ∷ []) [] = left_of k spec x is
    ∙ ap (λ (y : ℕ). cond k (y ∷ []) []) (sym becomes) in
    record {
      within = subst (λ (n : ℕ). n ≤ i + 1) (sym counted) (at_most_one_more k kept i t.within);
      made =
          ap (λ (n : ℕ). take n bs') counted
          ∙ (ap (take (cond k (kept + 1) kept)) put
          ∙ (put_by k bs kept c (omega (arith, t.within))
          ∙ (ap (λ (z : List ℕ). z ++ cond k (c ∷ []) []) t.made
          ∙ (ap (λ (z : List ℕ). translated spec (take i xs) ++ z) (sym left) ∙ sym more))));
      rest = ap (drop (i + 1)) put
          ∙ (drop-set-lt (i + 1) bs kept c (omega (arith, t.within)) ∙ f.1);
    }

-- a chunk in which nothing is deleted, moved to the front
pub thin_quiet : (spec : TrSpec) (p : ℕ → Bool) (xs bs bs' : List ℕ) (kept i : ℕ)
    → IsPlain spec.table → ((x : ℕ) → x < 256 → p x ≡ false → in_set spec.deleted x ≡ false)
    → i + 64 ≤ length bs → kept ≤ length bs → ((k : ℕ) → get_or bs' k 0 < 256)
    → ((k : ℕ) → k < length (take 64 (drop i bs)) → p (get_or (take 64 (drop i bs)) k 0) ≡ false)
    → take (kept + 64) bs' ≡ take kept bs ++ take 64 (drop i bs)
    → drop (i + 64) bs' ≡ drop (i + 64) bs → Thinned spec xs bs kept i
    → Thinned spec xs bs' (kept + 64) (i + 64)
thin_quiet spec p xs bs bs' kept i plain covers room front bytes none moved rest t =
    let chunk = take 64 (drop i bs) in
    let small = chunk_small bs bs' kept i room front bytes moved in
    let same : translated spec chunk ≡ chunk =
    translated_plain spec chunk plain small
    (λ k h. covers (get_or chunk k 0) (small k h) (none k h)) in
    let more : take (i + 64) xs ≡ take i xs ++ chunk = take-add i 64 xs
    ∙ ap (λ (z : List ℕ). take i xs ++ take 64 z) (sym t.rest) in
    record {
      within = omega (arith, t.within);
      made = moved ∙ (ap (λ (z : List ℕ). z ++ chunk) t.made
          ∙ (ap (λ (z : List ℕ). translated spec (take i xs) ++ z) (sym same)
          ∙ (sym (translated-append spec (take i xs) chunk) ∙ ap (translated spec) (sym more))));
      rest = rest ∙ (sym (drop-drop 64 i bs) ∙ (ap (drop 64) t.rest ∙ drop-drop 64 i xs));
    }

-- ---- some bytes of which those that are left are put together

kept_before : (k : Bool) (x : ℕ) (rest : List ℕ)
    → cond k (x ∷ []) [] ++ rest ≡ cond k (x ∷ rest) rest
kept_before true x rest = refl
kept_before false x rest = refl

translated_filter : (spec : TrSpec) (p : ℕ → Bool) (xs : List ℕ) → IsPlain spec.table
    → ((x : ℕ) → x < 256 → p x ≡ not (in_set spec.deleted x))
    → ((k : ℕ) → k < length xs → get_or xs k 0 < 256) → translated spec xs ≡ filter p xs
translated_filter spec p [] plain exact small = refl
translated_filter spec p (x ∷ xs) plain exact small =
    let here : x < 256 = small 0 (omega arith) in
    let later : translated spec xs ≡ filter p xs =
    translated_filter spec p xs plain exact (λ k h. small (suc k) (omega (arith, h))) in
    translated-append spec (x ∷ []) xs
    ∙ (ap (λ (z : List ℕ). translated spec (x ∷ []) ++ z) later
    ∙ (ap (λ (z : List ℕ). z ++ filter p xs) (left_of (p x) spec x (exact x here)
    ∙ ap (λ (y : ℕ). cond (p x) (y ∷ []) []) (plain x here))
    ∙ kept_before (p x) x (filter p xs)))

-- n bytes more
pub thin_part : (spec : TrSpec) (p : ℕ → Bool) (xs bs bs' : List ℕ) (kept kept' i n : ℕ)
    → IsPlain spec.table → ((x : ℕ) → x < 256 → p x ≡ not (in_set spec.deleted x))
    → ((k : ℕ) → k < length (take n (drop i bs)) → get_or (take n (drop i bs)) k 0 < 256)
    → take kept' bs' ≡ take kept bs ++ filter p (take n (drop i bs))
    → drop (i + n) bs' ≡ drop (i + n) bs → kept' ≤ kept + n → Thinned spec xs bs kept i
    → Thinned spec xs bs' kept' (i + n)
thin_part spec p xs bs bs' kept kept' i n plain exact small put rest few t =
    let part = take n (drop i bs) in
    let left : translated spec part ≡ filter p part =
    translated_filter spec p part plain exact small in
    let more : take (i + n) xs ≡ take i xs ++ part = take-add i n xs
    ∙ ap (λ (z : List ℕ). take i xs ++ take n z) (sym t.rest) in
    record {
      within = omega (arith, few, t.within);
      made =
          put
          ∙ (ap (λ (z : List ℕ). z ++ filter p part) t.made
          ∙ (ap (λ (z : List ℕ). translated spec (take i xs) ++ z) (sym left)
          ∙ (sym (translated-append spec (take i xs) part) ∙ ap (translated spec) (sym more))));
      rest = rest ∙ (sym (drop-drop n i bs) ∙ (ap (drop n) t.rest ∙ drop-drop n i xs));
    }

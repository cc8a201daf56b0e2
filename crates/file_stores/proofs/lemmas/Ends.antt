-- The end of an input: its lines, and the search for its beginning.
use Rattle.std.proofs.Common.{◌≡◌, ℕ, zero, suc, ◌+◌, ◌-◌, ◌≤◌, ◌⊎◌, inl, inr, Bool, true, false}
use Rattle.std.proofs.Common.{cond, eqb, List, [], ◌∷◌, ◌++◌, length, get_or, take, drop, refl, sym}
use Rattle.std.proofs.Common.{ap, ◌∙◌, subst, length-append, length-drop, arith}
use Rattle.std.specs.Prelude.{max}
use Rattle.std.specs.List.{concat, onto_first}
use Rattle.std.proofs.lemmas.List.{take-append-drop, take-append-le, drop-append-le, drop_at}
use Rattle.std.proofs.lemmas.List.{take_more, take_all}
use Rattle.std.proofs.lemmas.List.Sums.{sum_by-cons, sum_by-drop_more}
use Rattle.machine.specs.Lines.{lines, newline}
use Rattle.machine.proofs.LinesLaws.{concat-lines}
use Rattle.collector.specs.InputEnds.{EndsLine, IsLeftOf, HasNeeded}
use Rattle.collector.specs.declared.needed.NeededEnd.{NeededEnd}
use Rattle.collector.specs.declared.needed.NeededEnd.TheVariants.{Lines, Bytes}
use Rattle.file_stores.specs.declared.ends.Search.TheVariants.{Found, Before}
use Rattle.file_stores.specs.inner.Ends.{end_of, newlines_in, Finds}

-- ---- lines

length-onto : (x : ℕ) (ls : List (List ℕ)) → 1 ≤ length ls → length (onto_first x ls) ≡ length ls
length-onto x [] h = absurd (omega (arith, h))
length-onto x (l ∷ ls) h = refl

onto_append : (x : ℕ) (ls ms : List (List ℕ)) → 1 ≤ length ls
    → onto_first x (ls ++ ms) ≡ onto_first x ls ++ ms
onto_append x [] ms h = absurd (omega (arith, h))
onto_append x (l ∷ ls) ms h = refl

one_line : (b : Bool) (x : ℕ) → length (cond b ((x ∷ []) ∷ []) (onto_first x [])) ≡ 0 + 1
one_line true x = refl
one_line false x = refl

more_lines : (b : Bool) (y : ℕ) (ls : List (List ℕ)) (n : ℕ) → length ls ≡ n + 1
    → length (cond b ((y ∷ []) ∷ ls) (onto_first y ls)) ≡ (cond b 1 0 + n) + 1
more_lines true y ls n h = omega (arith, h)
more_lines false y ls n h = length-onto y ls (omega (arith, h)) ∙ (h ∙ omega arith)

-- there are as many lines as newlines before the last byte, and one more
pub lines_push : (xs : List ℕ) (x : ℕ) → length (lines (xs ++ x ∷ [])) ≡ newlines_in xs + 1
lines_push [] x = one_line (eqb x newline) x
lines_push (y ∷ ys) x =
    more_lines (eqb y newline) y (lines (ys ++ x ∷ [])) (newlines_in ys) (lines_push ys x)
    ∙ ap (λ (n : ℕ). n + 1) (sym (sum_by-cons (λ (z : ℕ). cond (eqb z newline) 1 0) y ys))

cut_by : (b : Bool) (x : ℕ) (ls ms : List (List ℕ)) → 1 ≤ length ls
    → cond b ((x ∷ []) ∷ (ls ++ ms)) (onto_first x (ls ++ ms))
    ≡ cond b ((x ∷ []) ∷ ls) (onto_first x ls) ++ ms
cut_by true x ls ms h = refl
cut_by false x ls ms h = onto_append x ls ms h

-- after a newline begins a line
lines_cut : (before ys : List ℕ) → lines ((before ++ newline ∷ []) ++ ys)
    ≡ lines (before ++ newline ∷ []) ++ lines ys
lines_cut [] ys = refl
lines_cut (x ∷ xs) ys =
    ap (λ (ls : List (List ℕ)). cond (eqb x newline) ((x ∷ []) ∷ ls) (onto_first x ls))
    (lines_cut xs ys)
    ∙ cut_by (eqb x newline) x (lines (xs ++ newline ∷ [])) (lines ys)
    (omega (arith, lines_push xs newline))

-- ---- the end

-- after a front that ends a line, the last lines are those of the rest
end_after : (n : ℕ) (front rest : List ℕ) → EndsLine front → length (lines rest) ≡ max n 1
    → end_of (Lines n) (front ++ rest) ≡ rest
end_after n front rest e many =
    let ls = lines front in
    let ms = lines rest in
    let cut : lines (front ++ rest) ≡ ls ++ ms =
    subst (λ (f : List ℕ). lines (f ++ rest) ≡ lines f ++ lines rest) (sym e.1)
    (lines_cut e.0 rest) in
    let place : length (ls ++ ms) - max n 1 ≡ length ls =
    omega (arith, length-append ls ms, many) in
    ap (λ (xs : List (List ℕ)). concat (drop (length xs - max n 1) xs)) cut
    ∙ (ap concat (ap (λ (k : ℕ). drop k (ls ++ ms)) place ∙ drop_at ls ms (length ls) refl)
    ∙ concat-lines rest)

-- if there are no more lines, all is left
end_whole : (n : ℕ) (bytes : List ℕ) → length (lines bytes) ≤ max n 1
    → end_of (Lines n) bytes ≡ bytes
end_whole n bytes few =
    let place : length (lines bytes) - max n 1 ≡ 0 = omega (arith, few) in
    ap (λ (k : ℕ). concat (drop k (lines bytes))) place ∙ concat-lines bytes

-- What a function says that finds the beginning of the end.
pub record BeginsEnd (needed : NeededEnd) (bytes : List ℕ) (place : ℕ) : Type 0 where
  pub within : place ≤ length bytes
  pub value : drop place bytes ≡ end_of needed bytes
  pub left : IsLeftOf needed bytes (drop place bytes)

-- all is left
begins_at_first : (needed : NeededEnd) (bytes : List ℕ) → end_of needed bytes ≡ bytes
    → BeginsEnd needed bytes 0
begins_at_first needed bytes value =
    record { within = omega arith; value = sym value; left = ([], refl, inl refl) }

pub begins_nil : (n : ℕ) → BeginsEnd (Lines n) [] 0
begins_nil n = begins_at_first (Lines n) [] (end_whole n [] (omega arith))

begins_found : (n place : ℕ) (body : List ℕ) (last : ℕ) → Finds (n - 1) body (Found place)
    → BeginsEnd (Lines n) (body ++ last ∷ []) place
begins_found n place body last f =
    let bytes = body ++ last ∷ [] in
    let front : take place bytes ≡ take place body = take-append-le place body (last ∷ []) f.0 in
    let rest : drop place bytes ≡ drop place body ++ last ∷ [] =
    drop-append-le place body (last ∷ []) f.0 in
    let newline_before = f.1 in
    let ends : EndsLine (take place bytes) = (newline_before.0, front ∙ newline_before.1) in
    let count : newlines_in (drop place body) ≡ n - 1 = f.2 in
    let many : length (lines (drop place bytes)) ≡ max n 1 =
    ap (λ (x : List ℕ). length (lines x)) rest
    ∙ (lines_push (drop place body) last ∙ omega (arith, count)) in
    let joined = take-append-drop place bytes in
    record {
      within = omega (arith, f.0, length-append body (last ∷ []));
      value = sym (ap (end_of (Lines n)) (sym joined)
          ∙ end_after n (take place bytes) (drop place bytes) ends many);
      left = (take place bytes, sym joined, inr (ends, omega (arith, many)));
    }

begins_before : (n left : ℕ) (body : List ℕ) (last : ℕ) → Finds (n - 1) body (Before left)
    → BeginsEnd (Lines n) (body ++ last ∷ []) 0
begins_before n left body last f =
    begins_at_first (Lines n) (body ++ last ∷ [])
    (end_whole n (body ++ last ∷ []) (omega (arith, f, lines_push body last)))

-- all but the last byte, and that
pushed : (bytes : List ℕ) → 1 ≤ length bytes
    → take (length bytes - 1) bytes ++ get_or bytes (length bytes - 1) 0 ∷ [] ≡ bytes
pushed bytes some =
    let n : length bytes - 1 + 1 ≡ length bytes = omega arith in
    sym (take_more bytes (length bytes - 1) 0 (omega arith))
    ∙ (ap (λ (k : ℕ). take k bytes) n ∙ take_all (length bytes) bytes (omega arith))

module _ (n passed : ℕ) (bytes : List ℕ) (some : 1 ≤ length bytes)
    (before_last : passed ≡ n - 1) where
  pub lines_found : (place : ℕ) → Finds passed (take (length bytes - 1) bytes) (Found place)
      → BeginsEnd (Lines n) bytes place
  lines_found place f =
      subst (λ (x : List ℕ). BeginsEnd (Lines n) x place) (pushed bytes some)
      (begins_found n place (take (length bytes - 1) bytes) (get_or bytes (length bytes - 1) 0)
      (subst (λ (k : ℕ). Finds k (take (length bytes - 1) bytes) (Found place)) before_last f))

  pub lines_before : (left : ℕ) → Finds passed (take (length bytes - 1) bytes) (Before left)
      → BeginsEnd (Lines n) bytes 0
  lines_before left f =
      subst (λ (x : List ℕ). BeginsEnd (Lines n) x 0) (pushed bytes some)
      (begins_before n left (take (length bytes - 1) bytes) (get_or bytes (length bytes - 1) 0)
      (subst (λ (k : ℕ). Finds k (take (length bytes - 1) bytes) (Before left)) before_last f))

pub order : (m n : ℕ) → (m ≤ n) ⊎ (n ≤ m)
order zero n = inl (omega arith)
order (suc m) zero = inr (omega arith)
order (suc m) (suc n) = elim (order m n) [
  | inl h ↦ inl (omega (arith, h))
  | inr h ↦
      inr (omega (arith, h))
]

bytes_left : (n : ℕ) (bytes : List ℕ) → (n ≤ length bytes) ⊎ (length bytes ≤ n)
    → (take (length bytes - n) bytes ≡ [])
    ⊎ HasNeeded (Bytes n) (take (length bytes - n) bytes) (drop (length bytes - n) bytes)
bytes_left n bytes (inl h) = inr (omega (arith, length-drop (length bytes - n) bytes, h))
bytes_left n bytes (inr h) =
    let none : length bytes - n ≡ 0 = omega (arith, h) in
    inl (ap (λ (k : ℕ). take k bytes) none)

pub bytes_begin : (n : ℕ) (bytes : List ℕ) → BeginsEnd (Bytes n) bytes (length bytes - n)
bytes_begin n bytes = record {
  within = omega arith;
  value = refl;
  left = (
    take (length bytes - n) bytes,
    sym (take-append-drop (length bytes - n) bytes),
    bytes_left n bytes (order n (length bytes)),
  );
}

-- ---- a search, a byte at a time

-- the newlines from a place on, and from the next one on
pub newlines_from : (bytes : List ℕ) (end : ℕ) → 1 ≤ end → end ≤ length bytes →
    newlines_in (drop (end - 1) bytes)
    ≡ cond (eqb (get_or bytes (end - 1) 0) newline) 1 0 + newlines_in (drop end bytes)
newlines_from bytes end some within =
    let next : end - 1 + 1 ≡ end = omega arith in
    sum_by-drop_more (λ (x : ℕ). cond (eqb x newline) 1 0) bytes (end - 1) 0 (omega arith)
    ∙ ap (λ (k : ℕ). cond (eqb (get_or bytes (end - 1) 0) newline) 1 0 + newlines_in (drop k bytes))
    next

-- a newline before this place
pub ends_here : (bytes : List ℕ) (end : ℕ) → 1 ≤ end → end ≤ length bytes
    → get_or bytes (end - 1) 0 ≡ newline → EndsLine (take end bytes)
ends_here bytes end some within here =
    let next : end - 1 + 1 ≡ end = omega arith in (
      take (end - 1) bytes,
      ap (λ (k : ℕ). take k bytes) (sym next)
          ∙ (take_more bytes (end - 1) 0 (omega arith)
          ∙ ap (λ (x : ℕ). take (end - 1) bytes ++ x ∷ []) here),
    )

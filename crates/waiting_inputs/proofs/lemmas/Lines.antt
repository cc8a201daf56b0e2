-- Lemmas on the steps of a line.
use Rattle.std.proofs.Common.{◌≡◌, ℕ, ◌<◌, ◌≤◌, min, List, [], ◌∷◌, ◌++◌, length, take, drop, sym}
use Rattle.std.proofs.Common.{refl, ap, ◌∙◌, subst, None, Some, arith}
use Rattle.std.specs.Io.KnownBytes.{prepend_known, Keeps, Consumes, IsAtEnd}
use Rattle.std.proofs.Math.Seq.{drop-nil}
use Rattle.std.proofs.lemmas.List.{append_assoc, take-append-drop, nil_from_length, length-take-le}
use Rattle.std.proofs.lemmas.List.{drop_at, take_at}
use Rattle.waiting_inputs.specs.declared.reading.Reading.{Reading}
use Rattle.waiting_inputs.specs.inner.Line.{Left, given, IsEnd, after, IsNext, Follows}

-- one more read at the end
pub follows_snoc : (rs : List Reading) (r : Reading) (before now : Left) → Follows rs before now
    → IsNext r now → Follows (rs ++ r ∷ []) before (after r now)
follows_snoc [] r before now same next =
    (subst (λ left. IsNext r left) (sym same) next, ap (λ left. after r left) same)
follows_snoc (x ∷ xs) r before now way next =
    (way.0, follows_snoc xs r (after x before) now way.1 next)

-- a read of the file took the next of the bytes that were known to be left
pub reads_next : (r : Reading) (left old new : Left) → Keeps left old → Consumes old new (given r)
    → (IsEnd r → IsAtEnd new) → IsNext r left × Keeps (after r left) new
reads_next r None old new keeps took end = (record { bytes = refl; end = λ _. tt }, tt)
reads_next r (Some xs) None new keeps took end = absurd keeps
reads_next r (Some xs) (Some ys) None keeps took end = absurd took
reads_next r (Some xs) (Some ys) (Some zs) keeps took end =
    let parts : xs ≡ given r ++ zs = sym keeps ∙ took in
    let rest : drop (length (given r)) xs ≡ zs = ap (λ l. drop (length (given r)) l) parts
    ∙ drop_at (given r) zs (length (given r)) refl in (
      record {
        bytes = ap (λ l. Some l) (parts ∙ ap (λ l. given r ++ l) (sym rest));
        end = λ e. rest
            ∙ end e;
      },
      sym rest,
    )

-- the first bytes, as many as fit, are the next of those that were left, and none of them only at
-- the end
pub gives_next : (bytes now : List ℕ) (rest : Left) (count : ℕ) (into old : List ℕ)
    → count ≡ min (length bytes) (length old) → into ≡ take count bytes ++ drop count old
    → now ≡ drop count bytes
    → (bytes ≡ [] → IsAtEnd rest)
    → Consumes (prepend_known bytes rest) (prepend_known now rest) (take count into)
    × (count ≡ 0 → 0 < length into → IsAtEnd (prepend_known now rest))
gives_next bytes now None count into old most given after end = (tt, λ _ _. tt)
gives_next bytes now (Some xs) count into old most given after end =
    let short : count ≤ length bytes = omega (arith, most) in
    let front : take count into ≡ take count bytes = ap (λ l. take count l) given
    ∙ take_at (take count bytes) (drop count old) count
    (length-take-le count bytes short) in (
      ap (λ l. l ++ xs) (sym (take-append-drop count bytes))
          ∙ append_assoc (take count bytes) (drop count bytes) xs
          ∙ ap (λ l. l ++ (drop count bytes ++ xs)) (sym front)
          ∙ ap (λ l. take count into ++ (l ++ xs)) (sym after),
      λ none some.
          let same : length into ≡ length old =
          ap length (given ∙ ap (λ n. take n bytes ++ drop n old) none) in
          let nothing : bytes ≡ [] = nil_from_length bytes
          (omega (arith, most, none, some, same)) in
          ap (λ l. l ++ xs) (after ∙ ap (λ l. drop count l) nothing ∙ drop-nil count) ∙ end nothing,
    )

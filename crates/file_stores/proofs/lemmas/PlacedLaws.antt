-- A search of a file, block by block from its end, and the end that is left of it.
use Rattle.std.proofs.Common.{Bool, true, cond, eqb, IsTrue, ◌≡◌, ℕ, ◌+◌, ◌-◌, ◌<◌, ◌≤◌, inl, inr}
use Rattle.std.proofs.Common.{List, [], ◌∷◌, ◌++◌, length, take, drop, Option, None, Some, refl}
use Rattle.std.proofs.Common.{sym, ap, ◌∙◌, subst, append_assoc, length-append, length-drop}
use Rattle.std.proofs.Common.{length-take, arith}
use Rattle.std.specs.Prelude.{IfSome, max}
use Rattle.std.specs.Option.{SomeIff}
use Rattle.std.proofs.lemmas.List.{take-append-le, drop-append-le, take_at, drop_at, drop-drop}
use Rattle.std.proofs.lemmas.List.Sums.{sum_by-append}
use Rattle.std.proofs.Math.Seq.{take-add}
use Rattle.machine.specs.Lines.{newline}
use Rattle.collector.specs.InputEnds.{IsLeftOf, IsHeldLeft}
use Rattle.collector.specs.declared.needed.NeededEnd.{NeededEnd}
use Rattle.collector.specs.declared.needed.NeededEnd.TheVariants.{Lines, Bytes}
use Rattle.file_stores.specs.declared.ends.Search.{Search}
use Rattle.file_stores.specs.declared.ends.Search.TheVariants.{Found, Before}
use Rattle.file_stores.specs.inner.Ends.{newlines_in, Finds}
use Rattle.file_stores.specs.inner.Placed.{Placed, still_in, with_place, GoesTo, HasEndAt}
use Rattle.file_stores.proofs.lemmas.Ends.{BeginsEnd, lines_found, bytes_begin}

-- ---- a search

newlines-append : (xs ys : List ℕ) → newlines_in (xs ++ ys) ≡ newlines_in xs + newlines_in ys
newlines-append xs ys = sum_by-append (λ (x : ℕ). cond (eqb x newline) 1 0) xs ys

-- what is found in a block is found in all
found_within : (pre block post : List ℕ) (left passed place : ℕ) → Finds left block (Found place)
    → newlines_in post + left ≡ passed
    → Finds passed (pre ++ (block ++ post)) (Found (length pre + place))
found_within pre block post left passed place f count =
    let later = block ++ post in
    let all = pre ++ later in
    let newline_before = f.1 in
    let front : take (length pre + place) all ≡ pre ++ take place block =
    take-add (length pre) place all
    ∙ (ap (λ (x : List ℕ). x ++ take place (drop (length pre) all))
    (take_at pre later (length pre) refl)
    ∙ ap (λ (x : List ℕ). pre ++ x)
    (ap (λ (x : List ℕ). take place x) (drop_at pre later (length pre) refl)
    ∙ take-append-le place block post f.0)) in
    let rest : drop (length pre + place) all ≡ drop place block ++ post =
    sym (drop-drop place (length pre) all)
    ∙ (ap (λ (x : List ℕ). drop place x) (drop_at pre later (length pre) refl)
    ∙ drop-append-le place block post f.0) in (
      omega (arith, f.0, length-append pre later, length-append block post),
      (
        pre ++ newline_before.0,
        front
            ∙ (ap (λ (x : List ℕ). pre ++ x) newline_before.1
            ∙ sym (append_assoc pre newline_before.0 (newline ∷ []))),
      ),
      ap newlines_in rest ∙ omega (arith, newlines-append (drop place block) post, f.2, count),
    )

-- The bytes between two places: those of a block, and those after it.
block_first : (bytes block : List ℕ) (at count end : ℕ) → at + count ≤ end
    → block ≡ take count (drop at bytes) →
    take (end - at) (drop at bytes) ≡ block ++ take (end - (at + count)) (drop (at + count) bytes)
block_first bytes block at count end within is =
    let size : end - at ≡ count + (end - (at + count)) = omega (arith, within) in
    ap (λ (k : ℕ). take k (drop at bytes)) size
    ∙ (take-add count (end - (at + count)) (drop at bytes)
    ∙ (ap (λ (x : List ℕ). x ++ take (end - (at + count)) (drop count (drop at bytes))) (sym is)
    ∙ ap (λ (x : List ℕ). block ++ take (end - (at + count)) x) (drop-drop count at bytes)))

before_block : (bytes : List ℕ) (first at end : ℕ) → first ≤ at → at ≤ end
    → take (end - first) (drop first bytes) ≡ take (at - first) (drop first bytes) ++ take
    (end - at) (drop at bytes)
before_block bytes first at end after within =
    let size : end - first ≡ (at - first) + (end - at) = omega (arith, after, within) in
    let place : first + (at - first) ≡ at = omega (arith, after) in
    ap (λ (k : ℕ). take k (drop first bytes)) size
    ∙ (take-add (at - first) (end - at) (drop first bytes)
    ∙ ap (λ (x : List ℕ). take (at - first) (drop first bytes) ++ take (end - at) x)
    (drop-drop (at - first) first bytes ∙ ap (λ (k : ℕ). drop k bytes) place))

-- The bytes from a place up to the end have as many newlines as were passed over.
abbrev pub PassedOver : ℕ → ℕ → ℕ → ℕ → List ℕ → Type 0
PassedOver passed end at left bytes = newlines_in (take (end - at) (drop at bytes)) + left ≡ passed

module _ (bytes block : List ℕ) (passed left first at count end : ℕ) (after : first ≤ at)
    (some : 1 ≤ count) (within : at + count ≤ end)
    (is : block ≡ take count (drop at bytes)) (size : length block ≡ count)
    (so_far : PassedOver passed end (at + count) left bytes) where
  pub found_in_block : (place : ℕ) → Finds left block (Found place)
      → Finds passed (take (end - first) (drop first bytes)) (Found (at - first + place))
  found_in_block place f =
      let pre = take (at - first) (drop first bytes) in
      let post = take (end - (at + count)) (drop (at + count) bytes) in
      let all : take (end - first) (drop first bytes) ≡ pre ++ (block ++ post) =
      before_block bytes first at end after (omega (arith, within))
      ∙ ap (λ (x : List ℕ). pre ++ x) (block_first bytes block at count end within is) in
      let room : count ≤ length bytes - at =
      omega (
        arith,
        size,
        ap length is,
        length-take count (drop at bytes),
        length-drop at bytes,
      ) in
      let long : length pre ≡ at - first =
      omega (
        arith,
        length-take (at - first) (drop first bytes),
        length-drop first bytes,
        room,
        some,
      ) in
      subst (λ (x : List ℕ). Finds passed x (Found (at - first + place))) (sym all)
      (subst (λ (k : ℕ). Finds passed (pre ++ (block ++ post)) (Found (k + place))) long
      (found_within pre block post left passed place f so_far))

  pub none_in_block : (more : ℕ) → Finds left block (Before more)
      → PassedOver passed end at more bytes
  none_in_block more f =
      let post = take (end - (at + count)) (drop (at + count) bytes) in
      omega (
        arith,
        ap newlines_in (block_first bytes block at count end within is),
        newlines-append block post,
        f,
        so_far,
      )

-- the same of a file, if its bytes are known
module _ (block : List ℕ) (passed left first end at count : ℕ) (after : first < at)
    (within : at ≤ end) (some : 1 ≤ count) (fits : count ≤ at - first)
    (size : length block ≡ count) where
  pub found_in_file : (file : Option Placed) (place : ℕ)
      → IfSome file (λ p. PassedOver passed end at left p.bytes)
      → IfSome file (λ p. block ≡ take (length block) (drop (at - count) p.bytes)) →
      Finds left block (Found place)
      → IfSome file (λ p. Finds passed (take (end - first) (drop first p.bytes))
      (Found (at - count - first + place)))
  found_in_file None place so_far is f = tt
  found_in_file (Some p) place so_far is f =
      let next : at - count + count ≡ at = omega (arith, fits) in
      let filled : block ≡ take count (drop (at - count) p.bytes) =
      subst (λ (k : ℕ). block ≡ take k (drop (at - count) p.bytes)) size is in
      found_in_block p.bytes block passed left first (at - count) count end
      (omega (arith, fits, after)) some (omega (arith, within, fits)) filled size
      (subst (λ (k : ℕ). PassedOver passed end k left p.bytes) (sym next) so_far) place f

  pub none_in_file : (file : Option Placed) (more : ℕ)
      → IfSome file (λ p. PassedOver passed end at left p.bytes)
      → IfSome file (λ p. block ≡ take (length block) (drop (at - count) p.bytes)) →
      Finds left block (Before more)
      → IfSome file (λ p. PassedOver passed end (at - count) more p.bytes)
  none_in_file None more so_far is f = tt
  none_in_file (Some p) more so_far is f =
      let next : at - count + count ≡ at = omega (arith, fits) in
      let filled : block ≡ take count (drop (at - count) p.bytes) =
      subst (λ (k : ℕ). block ≡ take k (drop (at - count) p.bytes)) size is in
      none_in_block p.bytes block passed left first (at - count) count end
      (omega (arith, fits, after)) some (omega (arith, within, fits)) filled size
      (subst (λ (k : ℕ). PassedOver passed end k left p.bytes) (sym next) so_far) more f

-- all was looked at
pub none_in_all : (file : Option Placed) (passed left first end at : ℕ) → at ≡ first
    → IfSome file (λ p. PassedOver passed end at left p.bytes)
    → IfSome file (λ p. Finds passed (take (end - first) (drop first p.bytes)) (Before left))
none_in_all None passed left first end at e h = tt
none_in_all (Some p) passed left first end at e h =
    subst (λ (k : ℕ). PassedOver passed end k left p.bytes) e h

-- a slice was filled
pub filled_with : (file : Option Placed) (filled : Bool) (into : List ℕ) (from : ℕ) → filled ≡ true
    → IfSome file (λ p. IsTrue filled → into ≡ take (length into) (drop from p.bytes))
    → IfSome file (λ p. into ≡ take (length into) (drop from p.bytes))
filled_with None filled into from e h = tt
filled_with (Some p) filled into from e h = h e

-- nothing was looked at yet
pub passed_none : (passed end : ℕ) (bytes : List ℕ) → PassedOver passed end end passed bytes
passed_none passed end bytes =
    let none : end - end ≡ 0 = omega arith in
    ap (λ (k : ℕ). newlines_in (take k (drop end bytes)) + passed) none ∙ omega arith

-- ---- an end

left_from : (needed : NeededEnd) (bytes : List ℕ) (first place whole : ℕ) → first + place ≡ whole
    → BeginsEnd needed (drop first bytes) place
    → IsLeftOf needed (drop first bytes) (drop whole bytes)
left_from needed bytes first place whole e b =
    subst (λ (x : List ℕ). IsLeftOf needed (drop first bytes) x) (drop-drop place first bytes
    ∙ ap (λ (k : ℕ). drop k bytes) e) b.left

pub lines_end : (n passed size place : ℕ) (p : Placed) → p.at < size → size ≡ length p.bytes
    → passed ≡ n - 1 → Finds passed (take (size - 1 - p.at) (drop p.at p.bytes)) (Found place)
    → HasEndAt (Lines n) p (p.at + place)
lines_end n passed size place p some long before_last f =
    let rest = drop p.at p.bytes in
    let count : size - 1 - p.at ≡ length rest - 1 = omega (arith, length-drop p.at p.bytes, long) in
    let found : Finds passed (take (length rest - 1) rest) (Found place) =
    subst (λ (k : ℕ). Finds passed (take k rest) (Found place)) count f in
    record {
      after = omega arith;
      left = left_from (Lines n) p.bytes p.at place (p.at + place) refl
          (lines_found n passed rest (omega (arith, length-drop p.at p.bytes, some, long))
          before_last place found);
    }

pub bytes_end : (n size : ℕ) (p : Placed) → p.at < size → size ≡ length p.bytes
    → HasEndAt (Bytes n) p (max p.at (size - n))
bytes_end n size p some long =
    let rest = drop p.at p.bytes in
    record {
      after = omega arith;
      left = left_from (Bytes n) p.bytes p.at (length rest - n) (max p.at (size - n))
          (omega (arith, length-drop p.at p.bytes, some, long)) (bytes_begin n rest);
    }

all_left : (needed : NeededEnd) (file : Option Placed)
    → IsHeldLeft needed (still_in file) (still_in file)
all_left needed None = tt
all_left needed (Some p) = ([], refl, inl refl)

pub stays_all : (needed : NeededEnd) (old new : Option Placed) → new ≡ old
    → IsHeldLeft needed (still_in old) (still_in new)
stays_all needed old new e =
    subst (λ (x : Option Placed). IsHeldLeft needed (still_in old) (still_in x)) (sym e)
    (all_left needed old)

moved_to : (needed : NeededEnd) (old : Option Placed) (place : ℕ)
    → IfSome old (λ p. HasEndAt needed p place)
    → IsHeldLeft needed (still_in old) (still_in (with_place place old))
moved_to needed None place h = tt
moved_to needed (Some p) place h = h.left

-- a file that went to its end, or stayed where it was
pub end_left : (needed : NeededEnd) (old new : Option Placed) (place : ℕ)
    → IfSome old (λ p. HasEndAt needed p place) → GoesTo place old new
    → IsHeldLeft needed (still_in old) (still_in new)
end_left needed old new place h (inl same) = stays_all needed old new same
end_left needed old new place h (inr moved) =
    subst (λ (x : Option Placed). IsHeldLeft needed (still_in old) (still_in x)) (sym moved)
    (moved_to needed old place h)

-- ---- the place to go to

pub bytes_in_file : (file : Option Placed) (n first size : ℕ) → first < size
    → IfSome file (λ p. first ≡ p.at → size ≡ length p.bytes
    → HasEndAt (Bytes n) p (max first (size - n)))
bytes_in_file None n first size some = tt
bytes_in_file (Some p) n first size some = λ at long.
    subst (λ (k : ℕ). HasEndAt (Bytes n) p (max k (size - n))) (sym at)
    (bytes_end n size p (omega (arith, at, some)) long)

-- the file was asked for its place and its size
pub found_in : (needed : NeededEnd) (old mid : Option Placed) (first size begin : ℕ) → mid ≡ old
    → IfSome old (λ p. first ≡ p.at) → IfSome mid (λ p. size ≡ length p.bytes) →
    IfSome mid (λ p. first ≡ p.at → size ≡ length p.bytes → HasEndAt needed p begin)
    → IfSome old (λ p. HasEndAt needed p begin)
found_in needed None mid first size begin same at long h = tt
found_in needed (Some p) mid first size begin same at long h =
    subst (λ (o : Option Placed). IfSome o (λ q. first ≡ q.at → size ≡ length q.bytes
    → HasEndAt needed q begin)) same h at
    (subst (λ (o : Option Placed). IfSome o (λ q. size ≡ length q.bytes)) same long)

checked_end : (n passed first place size : ℕ) (p : Placed) (sum : Option ℕ) (fits : Type 0)
    → first < size → passed ≡ n - 1 → SomeIff sum fits (first + place) →
    Finds passed (take (size - 1 - first) (drop first p.bytes)) (Found place) → first ≡ p.at
    → size ≡ length p.bytes → IfSome sum (HasEndAt (Lines n) p)
checked_end n passed first place size p None fits some before_last is f at long = tt
checked_end n passed first place size p (Some begin) fits some before_last is f at long =
    let found : Finds passed (take (size - 1 - p.at) (drop p.at p.bytes)) (Found place) =
    subst (λ (k : ℕ). Finds passed (take (size - 1 - k) (drop k p.bytes)) (Found place)) at f in
    subst (λ (k : ℕ). HasEndAt (Lines n) p k) (ap (λ (k : ℕ). k + place) (sym at)
    ∙ sym is.1) (lines_end n passed size place p
    (omega (arith, at, some)) long before_last found)

pub lines_in_file : (file : Option Placed) (n passed first place size : ℕ) (found : Option Search)
    (one : Search) (sum : Option ℕ) (fits : Type 0) → first < size → passed ≡ n - 1
    → SomeIff sum fits (first + place) →
    IfSome file (λ p. IfSome found (Finds passed (take (size - 1 - first) (drop first p.bytes))))
    → found ≡ Some one → one ≡ Found place →
    IfSome file (λ p. first ≡ p.at → size ≡ length p.bytes → IfSome sum (HasEndAt (Lines n) p))
lines_in_file None n passed first place size found one sum fits some before_last is f was e = tt
lines_in_file (Some p) n passed first place size found one sum fits some before_last is f was e =
    λ at long.
    checked_end n passed first place size p sum fits some before_last is
    (subst (λ (o : Option Search). IfSome o
    (Finds passed (take (size - 1 - first) (drop first p.bytes)))) (was
    ∙ ap (λ (s : Search). Some s) e) f) at long

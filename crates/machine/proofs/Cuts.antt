-- Pieces that are added to a queue.
use Rattle.std.proofs.Common.{◌≡◌, ℕ, zero, false, suc, ◌+◌, ◌-◌, ◌*◌, ◌<◌, ◌≤◌, List, [], ◌∷◌}
use Rattle.std.proofs.Common.{◌++◌, length, take, drop, Result, Ok, Err, OnOk, OnErr, ◌∙◌, ap, sym}
use Rattle.std.proofs.Common.{subst, refl, arith, append_assoc, length-append}
use Rattle.std.specs.List.{All, concat}
use Rattle.std.specs.Prelude.{slice_range, ◌==◌}
use Rattle.std.proofs.lemmas.List.{append-nil, take-append-drop, length-take-le}
use Rattle.std.proofs.lemmas.List.Edits.{length-between}
use Rattle.std.proofs.lemmas.List.Elements.{All-push}
use Rattle.std.proofs.lemmas.List.Folds.{concat-append}
use Rattle.std.proofs.Math.Nat.{suc-mul}
use Rattle.std.proofs.Math.Seq.{take-add, take-length}
use mathlib.Core.List.{IsPrefix}
use Rattle.machine.specs.Pieces.{Queued, IsPieceLong, Adds, contents, queued}

concat_push : (xs : List (List ℕ)) (x : List ℕ) → concat (xs ++ x ∷ []) ≡ concat xs ++ x
concat_push xs x = concat-append xs (x ∷ []) ∙ ap (λ y. concat xs ++ y) (append-nil x)

-- one piece was added as it is
pub adds_piece : (block : ℕ) (old new : List (List ℕ)) (piece : List ℕ) → 1 ≤ length piece
    → new ≡ old ++ piece ∷ [] → Adds (queued block old) (queued block new) piece
adds_piece block old new piece some e =
    record {
      pieces = piece ∷ [];
      added = e;
      joined = append-nil piece;
      fewest = let one : 1 * block ≡ block = omega arith in omega arith;
      block = refl;
    }

-- of an empty list nothing is added
pub adds_empty : (block : ℕ) (old : List (List ℕ)) (bytes : List ℕ) → 1 ≤ block → [] ≡ bytes
    → Adds (queued block old) (queued block old) bytes
adds_empty block old bytes some e =
    record {
      pieces = [];
      added = sym (append-nil old);
      joined = e;
      fewest = let none : 0 * block ≡ 0 = omega arith in omega arith;
      block = refl;
    }

-- if nothing was added, an error says that a prefix was
pub adds_nothing : {T E : Type 0} (r : Result T E) (block : ℕ) (old new : List (List ℕ))
    (bytes : List ℕ) → 1 ≤ block → new ≡ old
    → OnErr r ((front : List ℕ) × IsPrefix front bytes
    × Adds (queued block old) (queued block new) front)
adds_nothing (Ok x) block old new bytes some e = tt
adds_nothing (Err x) block old new bytes some e = (
  [],
  (bytes, refl),
  record {
    pieces = [];
    added = e ∙ sym (append-nil old);
    joined = refl;
    fewest = let none : 0 * block ≡ 0 = omega arith in omega arith;
    block = refl;
  },
)

-- if an error leaves the queue as it was, a prefix was added
pub adds_none : {T E : Type 0} (r : Result T E) (block : ℕ) (old new : List (List ℕ))
    (bytes : List ℕ) → 1 ≤ block → OnErr r (new ≡ old)
    → OnErr r ((front : List ℕ) × IsPrefix front bytes
    × Adds (queued block old) (queued block new) front)
adds_none (Ok x) block old new bytes some same = tt
adds_none {T = T} {E = E} (Err x) block old new bytes some same =
    adds_nothing {T = T} {E = E} (Err x) block old new bytes some same

-- The first `at` bytes were added in pieces of `block` bytes. Only the last piece of all may be
-- shorter.
pub record CutsUpTo (block : ℕ) (old now : List (List ℕ)) (bytes : List ℕ) (at : ℕ) : Type 0 where
  pub pieces : List (List ℕ)
  pub added : now ≡ old ++ pieces
  pub joined : concat pieces ≡ take at bytes
  pub within : at ≤ length bytes
  pub fewest : length pieces * block < at + block
  pub full : at < length bytes → length pieces * block ≡ at
  pub long : All (IsPieceLong block) old → All (IsPieceLong block) now

pub cuts_none : (block : ℕ) (old : List (List ℕ)) (bytes : List ℕ) → 1 ≤ block
    → CutsUpTo block old old bytes 0
cuts_none block old bytes some =
    record {
      pieces = [];
      added = sym (append-nil old);
      joined = refl;
      within = omega arith;
      fewest = let none : 0 * block ≡ 0 = omega arith in omega arith;
      full = λ h. omega arith;
      long = λ h. h;
    }

minus : (a n : ℕ) → (a + n) - a ≡ n
minus a n = omega arith

-- the next n bytes as a piece more
pub cuts_more : (block : ℕ) (old now now' : List (List ℕ)) (bytes piece : List ℕ) (at n : ℕ)
    → CutsUpTo block old now bytes at → at + n ≤ length bytes → 1 ≤ n → n ≤ block
    → (at + n < length bytes → n ≡ block) → piece ≡ slice_range bytes at (at + n)
    → now' ≡ now ++ piece ∷ [] → CutsUpTo block old now' bytes (at + n)
cuts_more block old now now' bytes piece at n c fits some most last e added =
    let here : at < length bytes = omega arith in
    let long : length piece ≡ (at + n) - at = ap length e ∙ length-between bytes at (at + n) fits in
    let is_long : IsPieceLong block piece = (omega arith, omega arith) in
    let more : length (c.pieces ++ piece ∷ []) * block ≡ length c.pieces * block + block =
    ap (λ (k : ℕ). k * block) (length-append c.pieces (piece ∷ []))
    ∙ (ap (λ (k : ℕ). k * block) (let next : length c.pieces + 1 ≡ suc (length c.pieces) =
    omega arith in next)
    ∙ suc-mul (length c.pieces) block) in
    let so_far : length c.pieces * block ≡ at = c.full here in
    record {
      pieces = c.pieces ++ piece ∷ [];
      added = added ∙ (ap (λ (x : List (List ℕ)). x ++ piece ∷ []) c.added
          ∙ append_assoc old c.pieces (piece ∷ []));
      joined =
          concat_push c.pieces piece
          ∙ (ap (λ (x : List ℕ). x ++ piece) c.joined
          ∙ (ap (λ (x : List ℕ). take at bytes ++ x) (e
          ∙ ap (λ (k : ℕ). take k (drop at bytes)) (minus at n))
          ∙ sym (take-add at n bytes)));
      within = fits;
      fewest = omega arith;
      full = λ h. let whole : n ≡ block = last h in omega arith;
      long = λ h. subst (All (IsPieceLong block)) (sym added)
          (All-push (IsPieceLong block) now piece (c.long h) is_long);
    }

-- all bytes were added
pub cuts_all : (block : ℕ) (old now : List (List ℕ)) (bytes : List ℕ) (at : ℕ)
    → CutsUpTo block old now bytes at → length bytes ≤ at
    → Adds (queued block old) (queued block now) bytes
cuts_all block old now bytes at c end =
    let e : at ≡ length bytes = let w : at ≤ length bytes = c.within in omega arith in
    record {
      pieces = c.pieces;
      added = c.added;
      joined = c.joined ∙ (ap (λ (k : ℕ). take k bytes) e ∙ take-length bytes);
      fewest = subst (λ (k : ℕ). length c.pieces * block < k + block) e c.fewest;
      block = refl;
    }

-- a refusal leaves the first `at` bytes
pub cuts_front : {T E : Type 0} (r : Result T E) (block : ℕ) (old now now' : List (List ℕ))
    (bytes : List ℕ) (at : ℕ) → CutsUpTo block old now bytes at → now' ≡ now
    → OnErr r ((front : List ℕ) × IsPrefix front bytes
    × Adds (queued block old) (queued block now') front)
cuts_front (Ok x) block old now now' bytes at c e = tt
cuts_front (Err x) block old now now' bytes at c e =
    let long : length (take at bytes) ≡ at = length-take-le at bytes c.within in (
      take at bytes,
      (drop at bytes, take-append-drop at bytes),
      record {
        pieces = c.pieces;
        added = e ∙ c.added;
        joined = c.joined;
        fewest = subst (λ (k : ℕ). length c.pieces * block < k + block) (sym long) c.fewest;
        block = refl;
      },
    )

-- a piece that is made of these bytes is added as they are
pub added_as : (piece bytes : List ℕ) (old new : List (List ℕ)) → piece ≡ bytes
    → new ≡ old ++ piece ∷ [] → new ≡ old ++ bytes ∷ []
added_as piece bytes old new e added = added ∙ ap (λ (x : List ℕ). old ++ x ∷ []) e

some_of : (n : ℕ) → false ≡ (n == 0) → 1 ≤ n
some_of zero h = cc
some_of (suc n) h = omega arith

-- if a piece made of these bytes was added, or nothing was, all pieces are as long as they may be
pub long_added : {T E : Type 0} (r : Result T E) (block : ℕ) (old new : List (List ℕ))
    (piece bytes : List ℕ) → OnOk r (new ≡ old ++ piece ∷ []) → OnErr r (new ≡ old) → piece ≡ bytes
    → false ≡ (length bytes == 0) → length bytes ≤ block → All (IsPieceLong block) old
    → All (IsPieceLong block) new
long_added (Ok x) block old new piece bytes added same e some most long =
    subst (All (IsPieceLong block)) (sym added)
    (All-push (IsPieceLong block) old piece long
    (subst (IsPieceLong block) (sym e) (some_of (length bytes) some, most)))
long_added (Err x) block old new piece bytes added same e some most long =
    subst (All (IsPieceLong block)) (sym same) long

-- what a queue holds once bytes were added
pub contents_added : (old new : Queued) (bytes : List ℕ) → Adds old new bytes
    → contents new ≡ contents old ++ bytes
contents_added old new bytes a =
    ap concat a.added ∙ (concat-append old.pieces a.pieces
    ∙ ap (λ (x : List ℕ). contents old ++ x) a.joined)

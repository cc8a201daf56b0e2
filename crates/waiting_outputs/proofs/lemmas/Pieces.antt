-- Pieces that are written one after the other.
use Rattle.std.proofs.Common.{◌≡◌, ℕ, zero, suc, ◌+◌, ◌-◌, ◌*◌, ◌≤◌, List, [], ◌∷◌, ◌++◌, length, take, refl}
use Rattle.std.proofs.Common.{sym, ap, ◌∙◌, subst, Option, None, Some, append_assoc, length-append}
use Rattle.std.proofs.Common.{arith}
use Rattle.std.proofs.Math.Seq.{take-append-add}
use Rattle.std.proofs.lemmas.List.{take-append-le, take_all}
use Rattle.std.specs.List.{concat}
use Rattle.std.specs.Io.KnownBytes.{Appends}

-- the first pieces were written, so many bytes, and these are left
pub record PiecesTaken (pieces left : List (List ℕ)) (taken : ℕ) (before now : Option (List ℕ)) :
    Type 0 where
  pub done : List ℕ
  pub split : done ++ concat left ≡ concat pieces
  pub count : taken ≡ length done
  pub few : taken + 65536 * length left ≤ 65536 * length pieces
  pub held : Appends before now done

-- bytes were appended, and then others
appends_on : (old mid new : Option (List ℕ)) (xs ys : List ℕ) → Appends old mid xs
    → Appends mid new ys → Appends old new (xs ++ ys)
appends_on None mid new xs ys first next = tt
appends_on (Some bs) None new xs ys first next = absurd first
appends_on (Some bs) (Some cs) None xs ys first next = absurd next
appends_on (Some bs) (Some cs) (Some ds) xs ys first next =
    next ∙ (ap (λ l. l ++ ys) first ∙ append_assoc bs xs ys)

module _ (pieces left : List (List ℕ)) (taken : ℕ) (before mid now : Option (List ℕ))
    (piece : List ℕ) (after : List (List ℕ)) (n : ℕ) (is : left ≡ piece ∷ after)
    (w : PiecesTaken pieces left taken before mid) (within : n ≤ length piece)
    (written : Appends mid now (take n piece)) where
  front : take (taken + n) (concat pieces) ≡ w.done ++ take n piece
  front = ap (λ t. take (t + n) (concat pieces)) w.count
      ∙ (ap (take (length w.done + n)) (sym w.split)
      ∙ (take-append-add w.done (concat left) n
      ∙ ap (λ l. w.done ++ l) (ap (λ ls. take n (concat ls)) is
      ∙ take-append-le n piece (concat after) within)))

  -- the first bytes of one piece more were written
  pub front_taken : Appends before now (take (taken + n) (concat pieces))
  front_taken = subst (λ (l : List ℕ). Appends before now l) (sym front)
      (appends_on before mid now w.done (take n piece) w.held written)

  -- one piece more was written
  pub piece_taken : n ≡ length piece → length piece ≤ 65536
      → PiecesTaken pieces after (taken + n) before now
  piece_taken all long = record {
    done = w.done ++ piece;
    split = append_assoc w.done piece (concat after)
        ∙ (ap (λ ls. w.done ++ concat ls) (sym is) ∙ w.split);
    count = (let c = w.count in let l = length-append w.done piece in omega (arith, all, c, l));
    few = (let f = w.few in let l = ap length is in omega (arith, all, long, f, l));
    held = subst (λ (l : List ℕ). Appends before now (w.done ++ l))
        (take_all n piece (omega (arith, all)))
        (appends_on before mid now w.done (take n piece) w.held written);
  }

-- the first bytes of one list, and then of another
take_both : (n : ℕ) (xs ys : List ℕ) → take n (xs ++ ys) ≡ take n xs ++ take (n - length xs) ys
take_both zero [] ys = refl
take_both zero (x ∷ xs) ys =
    let e : 0 ≡ 0 - length (x ∷ xs) = omega arith in
    ap (λ k. take k ys) e
take_both (suc n) [] ys =
    let e : suc n ≡ suc n - length {A = ℕ} [] = omega arith in
    ap (λ k. take k ys) e
take_both (suc n) (x ∷ xs) ys =
    let e : n - length xs ≡ suc n - length (x ∷ xs) = omega arith in
    ap (λ l. x ∷ l) (take_both n xs ys ∙ ap (λ k. take n xs ++ take k ys) e)

-- of one piece more the first bytes were noted
pub noted_more : (passed noted bytes piece all : List ℕ) (left after : List (List ℕ))
    (count rest : ℕ) → left ≡ piece ∷ after → noted ≡ passed ++ bytes → bytes ≡ take count piece
    → rest ≡ count - length piece → passed ++ take count (concat left) ≡ all
    → noted ++ take rest (concat after) ≡ all
noted_more passed noted bytes piece all left after count rest is was front less before =
    ap (λ l. l ++ take rest (concat after)) (was ∙ ap (λ l. passed ++ l) front)
    ∙ (append_assoc passed (take count piece) (take rest (concat after))
    ∙ (ap (λ l. passed ++ l) (ap (λ r. take count piece ++ take r (concat after)) less
    ∙ (sym (take_both count piece (concat after)) ∙ ap (λ ls. take count (concat ls)) (sym is)))
    ∙ before))

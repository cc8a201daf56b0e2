-- tail gathers if it counts from the end.
use Rattle.std.proofs.Common.{◌≡◌, ℕ, zero, suc, ◌+◌, ◌-◌, ◌≤◌, List, [], ◌∷◌, ◌++◌, length, drop}
use Rattle.std.proofs.Common.{refl, ap, ◌∙◌, sym, arith, length-append, inl, inr}
use Rattle.std.specs.Prelude.{max}
use Rattle.std.proofs.Math.Seq.{drop-append-add}
use Rattle.std.proofs.lemmas.Bool.{cases_lt}
use Rattle.std.proofs.lemmas.List.{append-nil, drop-drop, drop-append-le, length-drop}
use Rattle.std.proofs.lemmas.List.Elements.{All-drop}
use Rattle.machine.specs.Lines.{IsLine}
use Rattle.commands.specs.Tail.{last_members, tail_of}
use Rattle.commands.specs.declared.tail_words.Counted.{Counted}
use Rattle.commands.specs.declared.tail_words.Counted.TheVariants.{Lines, Bytes}
use Rattle.commands.specs.declared.tail_words.Origin.{Origin}
use Rattle.commands.specs.declared.tail_words.Origin.TheVariants.{Beginning, End}
use Rattle.commands.specs.declared.tail_words.TailSpec.{TailSpec}
use Rattle.commands.specs.declared.spec.FilterSpec.TheVariants as spec
use Rattle.part_laws.specs.Manners.{GathersParts, GoesIn, made_of}
use Rattle.part_laws.specs.Parts.{IsWholeLines, lines_after}
use Rattle.part_laws.specs.Utilities.{manner_of, tail_manner}
use Rattle.part_laws.proofs.lemmas.CutLines.{are_lines-drop, GathersLines, gathers_by}
use Rattle.part_laws.proofs.lemmas.CutLines.{lines_gather}

-- the last n members are the last n of themselves
last_again : {X : Type 0} (n : ℕ) (xs : List X)
    → last_members n (last_members n xs) ≡ last_members n xs
last_again n xs =
    let long = length-drop (length xs - n) xs in
    let none : length (last_members n xs) - n ≡ 0 = omega (arith, long) in
    ap (λ (k : ℕ). drop k (last_members n xs)) none

-- the last n members are in the second list, if that has as many
last_later : {X : Type 0} (n : ℕ) (xs ys : List X) → n ≤ length ys
    → last_members n (xs ++ ys) ≡ last_members n ys
last_later n xs ys h =
    let long = length-append xs ys in
    let e : length (xs ++ ys) - n ≡ length xs + (length ys - n) = omega (arith, long, h) in
    ap (λ (k : ℕ). drop k (xs ++ ys)) e ∙ drop-append-add xs ys (length ys - n)

-- the last n members, if the second list has that many
last_both_long : {X : Type 0} (n : ℕ) (xs ys : List X) → n ≤ length ys
    → last_members n (xs ++ ys) ≡ last_members n (last_members n xs ++ last_members n ys)
last_both_long n xs ys h =
    let long = length-drop (length ys - n) ys in
    let enough : n ≤ length (last_members n ys) = omega (arith, long, h) in
    last_later n xs ys h
    ∙ (sym (last_again n ys)
    ∙ sym (last_later n (last_members n xs) (last_members n ys) enough))

-- the last n members, if the second list has no more
last_both_short : {X : Type 0} (n : ℕ) (xs ys : List X) → length ys ≤ n
    → last_members n (xs ++ ys) ≡ last_members n (last_members n xs ++ last_members n ys)
last_both_short n xs ys h =
    let from = length xs - n in
    let all : length ys - n ≡ 0 = omega (arith, h) in
    let more = drop-append-le from xs ys (omega arith) in
    let joined : drop from (xs ++ ys) ≡ last_members n xs ++ last_members n ys = more
    ∙ ap (λ (k : ℕ). last_members n xs ++ drop k ys) (sym all) in
    let long : length (drop from (xs ++ ys)) ≡ length (xs ++ ys) - from =
    length-drop from (xs ++ ys) in
    let both = length-append xs ys in
    let places : length (xs ++ ys) - n ≡ from + (length (drop from (xs ++ ys)) - n) =
    omega (arith, long, both, h) in
    ap (λ (k : ℕ). drop k (xs ++ ys)) places
    ∙ (sym (drop-drop (length (drop from (xs ++ ys)) - n) from (xs ++ ys))
    ∙ ap (last_members n) joined)

-- the last members of two lists are the last of the last of each
last_both : {X : Type 0} (n : ℕ) (xs ys : List X)
    → last_members n (xs ++ ys) ≡ last_members n (last_members n xs ++ last_members n ys)
last_both n xs ys =
    elim (cases_lt (length ys) n) [
      | inl less ↦ last_both_short n xs ys (omega (arith, less))
      | inr enough ↦ last_both_long n xs ys enough
    ]

drop_nothing : {X : Type 0} (n : ℕ) → drop {A = X} n [] ≡ []
drop_nothing zero = refl
drop_nothing (suc n) = refl

-- the last lines are gathered
last_gathers : (n : ℕ) → GathersLines (last_members n)
last_gathers n =
    record {
      nothing = drop_nothing (0 - n);
      gathers = λ ls ms. last_both n ls ms;
      again = λ ls. last_again n ls;
      whole = λ ls h. All-drop IsLine (length ls - n) ls h;
      are = λ ls a. are_lines-drop (length ls - n) ls a;
    }

-- whole lines without their first byte are whole lines
whole_shorter : (a : ℕ) (x : List ℕ) → IsWholeLines (a ∷ x) → IsWholeLines x
whole_shorter a x (inl none) = absurd (cc none)
whole_shorter a x (inr ([], e)) = inl (cc e)
whole_shorter a x (inr (b ∷ front, e)) = inr (front, cc e)

-- what is left of whole lines after the first bytes is whole lines
whole_drop : (k : ℕ) (x : List ℕ) → IsWholeLines x → IsWholeLines (drop k x)
whole_drop zero x w = w
whole_drop (suc k) [] w = w
whole_drop (suc k) (a ∷ x) w = whole_drop k x (whole_shorter a x w)

-- the last lines and the last bytes are gathered
ends_gather : (counted : Counted) (n : ℕ) → GathersParts (tail_of counted End n)
ends_gather Lines n = lines_gather (last_members n) (last_gathers n)
ends_gather Bytes n =
    record {
      nothing = drop_nothing (0 - n);
      gathers = λ x y w. last_both n x y;
      again = λ x w. last_again n x;
      keeps = λ x w. whole_drop (length x - n) x w;
    }

-- tail that counts from the end gathers
pub tail_gathers : (s : TailSpec) → s.origin ≡ End → GathersParts (made_of (spec.Tail s))
tail_gathers s h =
    gathers_by (made_of (spec.Tail s)) (tail_of s.counted End s.count)
    (λ x. append-nil (tail_of s.counted s.origin s.count x)
    ∙ ap (λ (o : Origin). tail_of s.counted o s.count x) h)
    (ends_gather s.counted s.count)

-- tail that counts lines from the beginning skips the lines before
tail_skips : (s : TailSpec) → s.origin ≡ Beginning → s.counted ≡ Lines
    → (x : List ℕ) → made_of (spec.Tail s) x ≡ lines_after (max s.count 1 - 1) x
tail_skips s h l x =
    append-nil (tail_of s.counted s.origin s.count x)
    ∙ (ap (λ (o : Origin). tail_of s.counted o s.count x) h
    ∙ ap (λ (c : Counted). tail_of c Beginning s.count x) l)

tail_by : (s : TailSpec) (o : Origin) (c : Counted) → s.origin ≡ o → s.counted ≡ c
    → GoesIn (tail_manner o c) (spec.Tail s)
tail_by s End c e l = tail_gathers s e
tail_by s Beginning Lines e l = (max s.count 1 - 1, tail_skips s e l)
tail_by s Beginning Bytes e l = tt

-- tail goes in its manner
pub tail_goes : (s : TailSpec) → GoesIn (manner_of (spec.Tail s)) (spec.Tail s)
tail_goes s = tail_by s s.origin s.counted refl refl

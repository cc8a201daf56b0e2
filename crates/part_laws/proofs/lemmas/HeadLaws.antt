-- head gathers.
use Rattle.std.proofs.Common.{◌≡◌, ℕ, zero, suc, ◌≤◌, Bool, true, false, cond, List, [], ◌∷◌, ◌++◌}
use Rattle.std.proofs.Common.{length, take, refl, ap, sym, arith, Some}
use Rattle.std.specs.Prelude.{nat_le}
use Rattle.std.specs.List.{filter_map, join_with_byte, zip}
use Rattle.std.proofs.lemmas.Bool.{false≢true}
use Rattle.std.proofs.lemmas.List.{append-nil, take-take}
use Rattle.std.proofs.lemmas.List.Elements.{All-take}
use Rattle.machine.specs.Lines.{newline, IsLine}
use Rattle.commands.specs.Head.{head_of, under_header}
use Rattle.commands.specs.declared.head_words.HeadSpec.{HeadSpec}
use Rattle.commands.specs.declared.spec.FilterSpec.TheVariants as spec
use Rattle.part_laws.specs.Manners.{GathersParts, GoesIn, made_of}
use Rattle.part_laws.specs.Utilities.{manner_of}
use Rattle.part_laws.specs.declared.manner.Manner.TheVariants.{Gathers, Whole}
use Rattle.part_laws.specs.declared.manner.WholeCause.TheVariants as cause
use Rattle.part_laws.proofs.lemmas.CutLines.{are_lines-take, GathersLines, gathers_by, joined_by}
use Rattle.part_laws.proofs.lemmas.CutLines.{lines_gather}

-- the first members of two lists are the first of the first of each
take_both : {X : Type 0} (n m : ℕ) (xs ys : List X) → n ≤ m
    → take n (xs ++ ys) ≡ take n (take n xs ++ take m ys)
take_both zero m xs ys h = refl
take_both (suc n) m [] ys h = sym (take-take (suc n) m ys h)
take_both (suc n) m (x ∷ xs) ys h = ap (λ zs. x ∷ zs) (take_both n m xs ys (omega (arith, h)))

pub take_nothing : {X : Type 0} (n : ℕ) → take {A = X} n [] ≡ []
take_nothing zero = refl
take_nothing (suc n) = refl

-- the first lines are gathered
take_gathers : (n : ℕ) → GathersLines (take n)
take_gathers n =
    record {
      nothing = take_nothing n;
      gathers = λ ls ms. take_both n n ls ms (omega arith);
      again = λ ls. take-take n n ls (omega arith);
      whole = λ ls h. All-take IsLine n ls h;
      are = λ ls a. are_lines-take n ls a;
    }

-- what head writes of its one input
head_out : (b : Bool) (n : ℕ) (names : List (List ℕ)) (x : List ℕ) → b ≡ false
    → cond b (join_with_byte newline (filter_map (under_header n) (zip names (Some x ∷ []))))
    (head_of n x ++ []) ≡ head_of n x
head_out true n names x h = absurd (false≢true (sym h))
head_out false n names x h = append-nil (head_of n x)

-- the same of its standard input
pub head_is : (s : HeadSpec) → nat_le 2 (length s.inputs) ≡ false → (x : List ℕ)
    → made_of (spec.Head s) x ≡ head_of s.count x
head_is s h x = head_out (nat_le 2 (length s.inputs)) s.count s.inputs x h

-- head of one input gathers
pub head_gathers : (s : HeadSpec) → nat_le 2 (length s.inputs) ≡ false → GathersParts (made_of (spec.Head s))
head_gathers s h =
    gathers_by (made_of (spec.Head s)) (joined_by (take s.count))
    (head_is s h) (lines_gather (take s.count) (take_gathers s.count))

head_by : (s : HeadSpec) (b : Bool) → nat_le 2 (length s.inputs) ≡ b
    → GoesIn (cond b (Whole cause.Headers) Gathers) (spec.Head s)
head_by s true e = tt
head_by s false e = head_gathers s e

-- head goes in its manner
pub head_goes : (s : HeadSpec) → GoesIn (manner_of (spec.Head s)) (spec.Head s)
head_goes s = head_by s (nat_le 2 (length s.inputs)) refl

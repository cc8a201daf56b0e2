-- Stages that write the same, one after another.
use Rattle.std.proofs.Common.{◌≡◌, ℕ, ◌-◌, ◌≤◌, List, [], ◌∷◌, ◌++◌, length, take, drop, get_or, refl, ap}
use Rattle.std.proofs.Common.{◌∙◌, sym, arith}
use Rattle.std.specs.Prelude.{IfSome, Option, None, Some}
use Rattle.commands.specs.declared.spec.FilterSpec.{FilterSpec}
use Rattle.part_laws.specs.Divisions.{made_by}
use Rattle.part_laws.specs.Manners.{made_of}
use Rattle.planner.specs.declared.plan.Node.{Node}
use Rattle.planner.specs.declared.plan.Node.TheVariants.{Source, Stage, Sink}
use Rattle.shards.specs.Chains.{filters_of}
use Rattle.shards.specs.inner.Written.{filters_in}

-- the first stage writes, and then those after it
pub made_in_turn : (node : Node) (nodes : List Node) (x : List ℕ)
    → made_by (filters_of (node ∷ nodes)) x ≡ made_by (filters_of nodes)
    (made_by (filters_of (node ∷ [])) x)
made_in_turn (Source name) nodes x = refl
made_in_turn (Stage number f inputs branches) nodes x = refl
made_in_turn (Sink name) nodes x = refl

take_all : {A : Type 0} (xs : List A) → take (length xs) xs ≡ xs
take_all [] = refl
take_all (x ∷ xs) = ap (λ ys. x ∷ ys) (take_all xs)

-- all members after the first
rest_is : (node : Node) (nodes : List Node) → take (length (node ∷ nodes) - 1) nodes ≡ nodes
rest_is node nodes =
    let count : length (node ∷ nodes) - 1 ≡ length nodes = omega arith in
    ap (λ (n : ℕ). take n nodes) count ∙ take_all nodes

-- what members of a list after its first are written as
abbrev pub after_first : List Node → List Node
after_first nodes = take (length nodes - 1) (drop 1 nodes)

-- stages write what others write and then what comes after them, if their first ones write the same
-- and so it is of the stages after these
pub after_alike_of : (stages others rest : List Node) (stage other : Node) → 1 ≤ length stages
    → 1 ≤ length others
    → stage ≡ get_or stages 0 stage → other ≡ get_or others 0 other
    → ((x : List ℕ) → made_by (filters_of (stage ∷ [])) x ≡ made_by (filters_of (other ∷ [])) x)
    → ((x : List ℕ) → made_by (filters_of (after_first stages)) x
    ≡ made_by (filters_of rest) (made_by (filters_of (after_first others)) x))
    → (x : List ℕ) → made_by (filters_of stages) x
    ≡ made_by (filters_of rest) (made_by (filters_of others) x)
after_alike_of [] others rest stage other some any is are first later x =
    absurd (omega (arith, some))
after_alike_of (s ∷ stages) [] rest stage other some any is are first later x =
    absurd (omega (arith, any))
after_alike_of (s ∷ stages) (o ∷ others) rest stage other some any is are first later x =
    let begun = made_by (filters_of (o ∷ [])) x in
    made_in_turn s stages x
    ∙ (ap (made_by (filters_of stages))
    (ap (λ (n : Node). made_by (filters_of (n ∷ [])) x) (sym is)
    ∙ (first x ∙ ap (λ (n : Node). made_by (filters_of (n ∷ [])) x) are))
    ∙ (ap (λ (ns : List Node). made_by (filters_of ns) begun) (sym (rest_is s stages))
    ∙ (later begun
    ∙ ap (made_by (filters_of rest))
    (ap (λ (ns : List Node). made_by (filters_of ns) begun) (rest_is o others)
    ∙ sym (made_in_turn o others x)))))

-- stages write their input as it is, if the first one does and so do those after it
pub copying_of : (stages : List Node) (stage : Node) → 1 ≤ length stages
    → stage ≡ get_or stages 0 stage
    → ((x : List ℕ) → made_by (filters_of (stage ∷ [])) x ≡ x)
    → ((x : List ℕ) → made_by (filters_of (after_first stages)) x ≡ x)
    → (x : List ℕ) → made_by (filters_of stages) x ≡ x
copying_of [] stage some is first later x = absurd (omega (arith, some))
copying_of (s ∷ stages) stage some is first later x =
    let begun = made_by (filters_of (s ∷ [])) x in
    made_in_turn s stages x
    ∙ (ap (λ (ns : List Node). made_by (filters_of ns) begun) (sym (rest_is s stages))
    ∙ (later begun ∙ (ap (λ (n : Node). made_by (filters_of (n ∷ [])) x) (sym is) ∙ first x)))

-- filters after others write what is made of what those write
pub made_append : (fs gs : List FilterSpec) (x : List ℕ)
    → made_by (fs ++ gs) x ≡ made_by gs (made_by fs x)
made_append [] gs x = refl
made_append (f ∷ fs) gs x = made_append fs gs (made_of f x)

-- three rows of stages, one after another
pub rows_alike : (stages first second third later last rest : List Node)
    → ((x : List ℕ) → made_by (filters_of stages) x
    ≡ made_by (filters_of later) (made_by (filters_of first) x))
    → ((x : List ℕ) → made_by (filters_of later) x
    ≡ made_by (filters_of last) (made_by (filters_of second) x))
    → ((x : List ℕ) → made_by (filters_of last) x
    ≡ made_by (filters_of rest) (made_by (filters_of third) x))
    → ((x : List ℕ) → made_by (filters_of rest) x ≡ x)
    → (x : List ℕ) → made_by (filters_of stages) x ≡ made_by (filters_in first second third) x
rows_alike stages first second third later last rest one two three copies x =
    let a = made_by (filters_of first) x in
    let b = made_by (filters_of second) a in
    one x
    ∙ (two a
    ∙ (three b
    ∙ (copies (made_by (filters_of third) b)
    ∙ (sym (made_append (filters_of second) (filters_of third) a)
    ∙ sym (made_append (filters_of first) (filters_of second ++ filters_of third) x)))))

-- what follows of something that is there
pub if_some : {A : Type 0} {P Q : A → Type 0} (found : Option A) → ((a : A) → P a → Q a)
    → IfSome found P → IfSome found Q
if_some None f h = h
if_some (Some a) f h = f a h

-- The places at which a pipeline is divided are those of its halves.
use Rattle.std.proofs.Common.{◌≡◌, ℕ, zero, suc, Bool, true, false, cond, ◌&&◌, List, [], ◌∷◌, ◌++◌}
use Rattle.std.proofs.Common.{Option, Some, None, take, drop, refl, ap, ap₂, ◌∙◌, subst, sym}
use Rattle.commands.specs.declared.spec.FilterSpec.{FilterSpec}
use Rattle.part_laws.specs.Divisions.{after_one as one_after, counted as counting, gathered_with}
use Rattle.part_laws.specs.Divisions.{Halves, halves, halves_from, halves_of_bytes}
use Rattle.part_laws.specs.Divisions.{halves_of_lines, undivided as none_divided}
use Rattle.part_laws.specs.Utilities.{gather_together, keeps_newlines, makes_line_of_line, manner_of}
use Rattle.part_laws.specs.declared.manner.Manner.{Manner}
use Rattle.part_laws.specs.declared.manner.Manner.TheVariants.{ByBytes, ByLines, Counts, Gathers}
use Rattle.part_laws.specs.declared.manner.Manner.TheVariants.{Skips, Squeezes, Whole}
use Rattle.planner.specs.declared.plan.Node.{Node}
use Rattle.planner.specs.declared.plan.Node.TheVariants.{Source, Stage, Sink}
use Rattle.shards.specs.Chains.{chained, filters_of}
use Rattle.shards.specs.declared.division.Division.{Division}
use Rattle.shards.specs.inner.Places.{added, after, after_one, at, before, counted_from, divide}
use Rattle.shards.specs.inner.Places.{divide_from, divide_by_lines, each_in, each_of, gathered}
use Rattle.shards.specs.inner.Places.{gathers_next, joined_in, joined_of, next_place, skipped}
use Rattle.shards.specs.inner.Places.{undivided}

-- the places are those of these halves of a list
record HasPlaces (d : Division) (fs : List FilterSpec) (h : Halves) : Type 0 where
  each : each_of d fs ≡ h.each
  joined : joined_of d fs ≡ h.joined

-- ---- one filter more

each_more : (late : Option ℕ) (f : FilterSpec) (xs more : List FilterSpec)
    → before (next_place late) (f ∷ xs) ++ (after (next_place late) (f ∷ xs) ++ more)
    ≡ f ∷ (before late xs ++ (after late xs ++ more))
each_more None f xs more = refl
each_more (Some place) f xs more = refl

joined_more : (late : Option ℕ) (f : FilterSpec) (xs more : List FilterSpec)
    → at (next_place late) (f ∷ xs) ++ more ≡ at late xs ++ more
joined_more None f xs more = refl
joined_more (Some place) f xs more = refl

one_more : (f : FilterSpec) (fs : List FilterSpec) (d : Division) (h : Halves) → HasPlaces d fs h
    → HasPlaces (after_one d) (f ∷ fs) (one_after f h)
one_more f fs d h p = record {
  each = each_more d.late f (take d.front fs) (added d.last)
      ∙ ap (λ (gs : List FilterSpec). f ∷ gs) p.each;
  joined = joined_more d.late f fs (added d.first ++ drop d.before fs) ∙ p.joined;
}

none_more : (fs : List FilterSpec) → HasPlaces undivided fs (none_divided fs)
none_more fs = record { each = refl; joined = refl }

-- ---- a filter that gathers

with_next : (b : Bool) (f g : FilterSpec) (gs : List FilterSpec)
    → HasPlaces (gathered b) (f ∷ g ∷ gs)
    (record { each = f ∷ cond b (g ∷ []) []; joined = f ∷ g ∷ gs })
with_next true f g gs = record { each = refl; joined = refl }
with_next false f g gs = record { each = refl; joined = refl }

gathers : (f : FilterSpec) (fs : List FilterSpec) → HasPlaces (gathered (gathers_next f fs)) (f ∷ fs)
    (record { each = f ∷ gathered_with f fs; joined = f ∷ fs })
gathers f [] = record { each = refl; joined = refl }
gathers f (g ∷ gs) = with_next (gather_together f g) f g gs

-- ---- filters after one that skips first lines

-- no filter is late, and nothing is added first
record HasPlainPlaces (d : Division) (fs : List FilterSpec) (h : Halves) : Type 0 where
  late : d.late ≡ None
  first : d.first ≡ None
  each : take d.front fs ++ added d.last ≡ h.each
  joined : drop d.before fs ≡ h.joined

plain_counted : (m : Manner) (f : FilterSpec) (fs : List FilterSpec)
    → HasPlainPlaces (counted_from m) (f ∷ fs) (counting m f fs)
plain_counted (Counts a) f fs = record { late = refl; first = refl; each = refl; joined = refl }
plain_counted ByBytes f fs = record { late = refl; first = refl; each = refl; joined = refl }
plain_counted ByLines f fs = record { late = refl; first = refl; each = refl; joined = refl }
plain_counted Gathers f fs = record { late = refl; first = refl; each = refl; joined = refl }
plain_counted (Squeezes c) f fs = record { late = refl; first = refl; each = refl; joined = refl }
plain_counted Skips f fs = record { late = refl; first = refl; each = refl; joined = refl }
plain_counted (Whole why) f fs = record { late = refl; first = refl; each = refl; joined = refl }

plain_by : (b : Bool) (f : FilterSpec) (fs : List FilterSpec)
    → HasPlainPlaces (divide_by_lines fs) fs (halves_of_lines fs)
    → HasPlainPlaces (cond b (after_one (divide_by_lines fs)) (counted_from (manner_of f)))
    (f ∷ fs) (cond b (one_after f (halves_of_lines fs)) (counting (manner_of f) f fs))
plain_by true f fs p = record {
  late = ap next_place p.late;
  first = p.first;
  each = ap (λ (gs : List FilterSpec). f ∷ gs) p.each;
  joined = p.joined;
}
plain_by false f fs p = plain_counted (manner_of f) f fs

plain_places : (fs : List FilterSpec)
    → HasPlainPlaces (divide_by_lines fs) fs (halves_of_lines fs)
plain_places [] = record { late = refl; first = refl; each = refl; joined = refl }
plain_places (f ∷ fs) = plain_by (makes_line_of_line f) f fs (plain_places fs)

skips : (f : FilterSpec) (fs : List FilterSpec)
    → HasPlaces (skipped (divide_by_lines fs)) (f ∷ fs) (record {
      each = (halves_of_lines fs).each;
      joined = f ∷ (halves_of_lines fs).joined;
    })
skips f fs =
    let p = plain_places fs in
    record { each = p.each; joined = ap (λ (gs : List FilterSpec). f ∷ gs) p.joined }

-- ---- every pipeline

at_lines_places : (m : Manner) (f : FilterSpec) (fs : List FilterSpec) (d : Division) (h : Halves)
    → HasPlaces d fs h → HasPlaces (divide_from m true f fs d) (f ∷ fs) (halves_from m f fs h)
at_lines_places ByBytes f fs d h p = one_more f fs d h p
at_lines_places ByLines f fs d h p = one_more f fs d h p
at_lines_places Gathers f fs d h p = gathers f fs
at_lines_places (Counts a) f fs d h p = record { each = refl; joined = refl }
at_lines_places (Squeezes c) f fs d h p = record { each = refl; joined = refl }
at_lines_places Skips f fs d h p = skips f fs
at_lines_places (Whole why) f fs d h p = none_more (f ∷ fs)

anywhere_places : (m : Manner) (f : FilterSpec) (fs : List FilterSpec) (d : Division) (h : Halves)
    → HasPlaces d fs h
    → HasPlaces (divide_from m false f fs d) (f ∷ fs) (halves_of_bytes m f fs h)
anywhere_places ByBytes f fs d h p = one_more f fs d h p
anywhere_places ByLines f fs d h p = none_more (f ∷ fs)
anywhere_places Gathers f fs d h p = none_more (f ∷ fs)
anywhere_places (Counts a) f fs d h p = none_more (f ∷ fs)
anywhere_places (Squeezes c) f fs d h p = none_more (f ∷ fs)
anywhere_places Skips f fs d h p = none_more (f ∷ fs)
anywhere_places (Whole why) f fs d h p = none_more (f ∷ fs)

places : (at_lines : Bool) (fs : List FilterSpec)
    → HasPlaces (divide at_lines fs) fs (halves at_lines fs)
places at_lines [] = none_more []
places true (f ∷ fs) =
    at_lines_places (manner_of f) f fs (divide (true && keeps_newlines f) fs)
    (halves (true && keeps_newlines f) fs) (places (true && keeps_newlines f) fs)
places false (f ∷ fs) =
    anywhere_places (manner_of f) f fs (divide (false && keeps_newlines f) fs)
    (halves (false && keeps_newlines f) fs) (places (false && keeps_newlines f) fs)

-- ---- stages

-- all nodes are stages
abbrev AreStages : List Node → Type 0
AreStages [] = Unit {0}
AreStages (Stage number f inputs branches ∷ nodes) = AreStages nodes
AreStages (Source name ∷ nodes) = ⊥
AreStages (Sink name ∷ nodes) = ⊥

chained_are : (b : ℕ) (fs : List FilterSpec) → AreStages (chained b fs)
chained_are b [] = tt
chained_are b (f ∷ fs) = chained_are (suc b) fs

taken_are : (n : ℕ) (nodes : List Node) → AreStages nodes → AreStages (take n nodes)
taken_are zero nodes h = tt
taken_are (suc n) [] h = tt
taken_are (suc n) (Stage number f inputs branches ∷ nodes) h = taken_are n nodes h
taken_are (suc n) (Source name ∷ nodes) h = absurd h
taken_are (suc n) (Sink name ∷ nodes) h = absurd h

dropped_are : (n : ℕ) (nodes : List Node) → AreStages nodes → AreStages (drop n nodes)
dropped_are zero nodes h = h
dropped_are (suc n) [] h = tt
dropped_are (suc n) (Stage number f inputs branches ∷ nodes) h = dropped_are n nodes h
dropped_are (suc n) (Source name ∷ nodes) h = absurd h
dropped_are (suc n) (Sink name ∷ nodes) h = absurd h

taken_of : (n : ℕ) (nodes : List Node) → AreStages nodes
    → filters_of (take n nodes) ≡ take n (filters_of nodes)
taken_of zero nodes h = refl
taken_of (suc n) [] h = refl
taken_of (suc n) (Stage number f inputs branches ∷ nodes) h =
    ap (λ (gs : List FilterSpec). f ∷ gs) (taken_of n nodes h)
taken_of (suc n) (Source name ∷ nodes) h = absurd h
taken_of (suc n) (Sink name ∷ nodes) h = absurd h

dropped_of : (n : ℕ) (nodes : List Node) → AreStages nodes
    → filters_of (drop n nodes) ≡ drop n (filters_of nodes)
dropped_of zero nodes h = refl
dropped_of (suc n) [] h = refl
dropped_of (suc n) (Stage number f inputs branches ∷ nodes) h = dropped_of n nodes h
dropped_of (suc n) (Source name ∷ nodes) h = absurd h
dropped_of (suc n) (Sink name ∷ nodes) h = absurd h

before_of : (late : Option ℕ) (nodes : List Node) → AreStages nodes
    → filters_of (before late nodes) ≡ before late (filters_of nodes)
before_of None nodes h = refl
before_of (Some place) nodes h = taken_of place nodes h

after_of : (late : Option ℕ) (nodes : List Node) → AreStages nodes
    → filters_of (after late nodes) ≡ after late (filters_of nodes)
after_of None nodes h = refl
after_of (Some place) nodes h = dropped_of (suc place) nodes h

at_of : (late : Option ℕ) (nodes : List Node) → AreStages nodes
    → filters_of (at late nodes) ≡ at late (filters_of nodes)
at_of None nodes h = refl
at_of (Some place) nodes h =
    taken_of 1 (drop place nodes) (dropped_are place nodes h)
    ∙ ap (take 1) (dropped_of place nodes h)

each_is : (d : Division) (nodes : List Node) → AreStages nodes
    → each_in d nodes ≡ each_of d (filters_of nodes)
each_is d nodes h =
    let front = take d.front nodes in
    let are = taken_are d.front nodes h in
    let taken = taken_of d.front nodes h in
    ap₂ (λ (xs ys : List FilterSpec). xs ++ (ys ++ added d.last))
    (before_of d.late front are ∙ ap (before d.late) taken)
    (after_of d.late front are ∙ ap (after d.late) taken)

joined_is : (d : Division) (nodes : List Node) → AreStages nodes
    → joined_in d nodes ≡ joined_of d (filters_of nodes)
joined_is d nodes h =
    ap₂ (λ (xs ys : List FilterSpec). xs ++ (added d.first ++ ys)) (at_of d.late nodes h)
    (dropped_of d.before nodes h)

module _ (nodes : List Node) (in_turn : nodes ≡ chained 0 (filters_of nodes)) where
  are : AreStages nodes
  are = subst AreStages (sym in_turn) (chained_are 0 (filters_of nodes))

  abbrev d : Division
  d = divide true (filters_of nodes)

  -- the stages of a chain that run on each part, and those that run on the joined outputs
  pub each_half : each_in d nodes ≡ (halves true (filters_of nodes)).each
  each_half = each_is d nodes are ∙ (places true (filters_of nodes)).each

  pub joined_half : joined_in d nodes ≡ (halves true (filters_of nodes)).joined
  joined_half = joined_is d nodes are ∙ (places true (filters_of nodes)).joined

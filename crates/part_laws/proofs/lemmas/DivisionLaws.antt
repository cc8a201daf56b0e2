-- A pipeline of filters divides into its halves.
use Rattle.std.proofs.Common.{◌≡◌, ℕ, Bool, true, false, cond, ◌&&◌, List, [], ◌∷◌, ◌++◌}
use Rattle.std.proofs.Common.{map, length, refl, ap, ◌∙◌, sym, arith, length-append, inl, inr}
use Rattle.std.specs.List.{concat}
use Rattle.std.proofs.lemmas.Bool.{and_parts}
use Rattle.std.proofs.lemmas.List.{append-nil, nil_from_length}
use Rattle.commands.specs.declared.spec.FilterSpec.{FilterSpec}
use Rattle.part_laws.specs.Additions.{addition}
use Rattle.part_laws.specs.Divisions.{after_one, counted, gathered_with, Halves, halves, halves_from}
use Rattle.part_laws.specs.Divisions.{halves_of_bytes, halves_of_lines, made_by, undivided}
use Rattle.part_laws.specs.Laws.{EachGoesInItsManner, LinesAreMadeOfLines, NewlinesKeepLines}
use Rattle.part_laws.specs.Laws.{RunsAreGatheredBeforeHeads}
use Rattle.part_laws.specs.Manners.{GathersParts, GoesByBytes, GoesByLines, GoesIn, GoesOn}
use Rattle.part_laws.specs.Manners.{KeepsLines, made_of, SqueezesParts}
use Rattle.part_laws.specs.Parts.{AreCutAtLines, lines_after}
use Rattle.part_laws.specs.Utilities.{gather_together, keeps_newlines, makes_line_of_line, manner_of}
use Rattle.part_laws.specs.declared.manner.Addition.{Addition}
use Rattle.part_laws.specs.declared.manner.Addition.TheVariants.{Squeeze}
use Rattle.part_laws.specs.declared.manner.Manner.{Manner}
use Rattle.part_laws.specs.declared.manner.Manner.TheVariants.{ByBytes, ByLines, Counts, Gathers}
use Rattle.part_laws.specs.declared.manner.Manner.TheVariants.{Skips, Squeezes, Whole}
use Rattle.part_laws.proofs.lemmas.OnceMore.{squeezed_joined}

-- ---- one filter and the parts of its input

-- what is twice itself is empty
twice_itself : (x : List ℕ) → x ≡ x ++ x → x ≡ []
twice_itself x e = nil_from_length x (omega (arith, ap length e, length-append x x))

-- a filter that goes by bytes writes its outputs for the parts
bytes_apart : (f : FilterSpec) → GoesByBytes f → (parts : List (List ℕ))
    → made_of f (concat parts) ≡ concat (map (made_of f) parts)
bytes_apart f goes [] = twice_itself (made_of f []) (goes [] [])
bytes_apart f goes (p ∷ parts) = goes p (concat parts)
    ∙ ap (λ (z : List ℕ). made_of f p ++ z) (bytes_apart f goes parts)

-- lists that are nothing together are nothing each
nothing_first : (p : List ℕ) (z : List ℕ) → p ++ z ≡ [] → p ≡ []
nothing_first p z e = nil_from_length p (omega (arith, ap length e, length-append p z))

nothing_after : (p : List ℕ) (z : List ℕ) → p ++ z ≡ [] → z ≡ []
nothing_after p z e = nil_from_length z (omega (arith, ap length e, length-append p z))

-- nothing is made of parts that are empty
nothing_of : (f : FilterSpec) → made_of f [] ≡ [] → (parts : List (List ℕ)) → concat parts ≡ []
    → concat (map (made_of f) parts) ≡ []
nothing_of f none [] e = refl
nothing_of f none (p ∷ parts) e =
    ap (λ (z : List ℕ). made_of f z ++ concat (map (made_of f) parts))
    (nothing_first p (concat parts) e)
    ∙ (ap (λ (z : List ℕ). z ++ concat (map (made_of f) parts)) none
    ∙ nothing_of f none parts (nothing_after p (concat parts) e))

-- one that goes by lines makes nothing of nothing
lines_of_nothing : (f : FilterSpec) → GoesByLines f → made_of f [] ≡ []
lines_of_nothing f goes = twice_itself (made_of f []) (goes [] [] (inl refl))

-- so does one that goes by lines, if the parts are cut at ends of lines
lines_apart : (f : FilterSpec) → GoesByLines f → (parts : List (List ℕ)) → AreCutAtLines parts
    → made_of f (concat parts) ≡ concat (map (made_of f) parts)
lines_apart f goes [] cut = lines_of_nothing f goes
lines_apart f goes (p ∷ parts) cut =
    elim cut.0 [
      | inl whole ↦ goes p (concat parts) whole
          ∙ ap (λ (z : List ℕ). made_of f p ++ z) (lines_apart f goes parts cut.1)
      | inr none ↦ ap (λ (z : List ℕ). made_of f (p ++ z)) none
          ∙ (ap (made_of f) (append-nil p)
          ∙ (sym (append-nil (made_of f p))
          ∙ ap (λ (z : List ℕ). made_of f p ++ z)
          (sym (nothing_of f (lines_of_nothing f goes) parts none))))
    ]

-- what gathers leaves its outputs as they are
gathered_again : (made : List ℕ → List ℕ) → GathersParts made → (x : List ℕ)
    → made (made x) ≡ made x
gathered_again made g x =
    let none = made [] in
    let once = made x in
    g.gathers [] once (inl refl)
    ∙ (ap (λ (z : List ℕ). made (z ++ made once)) (sym (g.again [] (inl refl)))
    ∙ (sym (g.gathers none once (g.keeps [] (inl refl))) ∙ sym (g.gathers [] x (inl refl))))

-- nothing is gathered of parts that are empty
none_gathered : (made : List ℕ → List ℕ) → made [] ≡ [] → (parts : List (List ℕ))
    → concat parts ≡ [] → concat (map made parts) ≡ []
none_gathered made none [] e = refl
none_gathered made none (p ∷ parts) e =
    ap (λ (z : List ℕ). made z ++ concat (map made parts)) (nothing_first p (concat parts) e)
    ∙ (ap (λ (z : List ℕ). z ++ concat (map made parts)) none
    ∙ none_gathered made none parts (nothing_after p (concat parts) e))

-- what gathers makes its output of its outputs for the parts
gathers_parts : (made : List ℕ → List ℕ) → GathersParts made → (parts : List (List ℕ))
    → AreCutAtLines parts → made (concat parts) ≡ made (concat (map made parts))
gathers_parts made g [] cut = refl
gathers_parts made g (p ∷ parts) cut =
    let later = concat (map made parts) in
    elim cut.0 [
      | inl whole ↦ g.gathers p (concat parts) whole
          ∙ (ap (λ (z : List ℕ). made (made p ++ z)) (gathers_parts made g parts cut.1)
          ∙ (ap (λ (z : List ℕ). made (z ++ made later)) (sym (gathered_again made g p))
          ∙ sym (g.gathers (made p) later (g.keeps p whole))))
      | inr none ↦ ap (λ (z : List ℕ). made (p ++ z)) none
          ∙ (ap made (append-nil p)
          ∙ (sym (gathered_again made g p)
          ∙ ap made (sym (append-nil (made p))
          ∙ ap (λ (z : List ℕ). made p ++ z) (sym (none_gathered made g.nothing parts none)))))
    ]

-- what one that squeezes makes is squeezed once more
squeezed_alone : (c : ℕ) (f : FilterSpec) → SqueezesParts c f → (x : List ℕ)
    → made_of f x ≡ made_of (addition (Squeeze c)) (made_of f x)
squeezed_alone c f q x =
    q.squeezes [] x (inl refl)
    ∙ ap (λ (z : List ℕ). made_of (addition (Squeeze c)) (z ++ made_of f x)) q.nothing

-- the outputs for the parts are squeezed once more
squeezes_all : (c : ℕ) (f : FilterSpec) → SqueezesParts c f → (parts : List (List ℕ))
    → AreCutAtLines parts
    → made_of f (concat parts) ≡ made_of (addition (Squeeze c)) (concat (map (made_of f) parts))
squeezes_all c f q [] cut = q.nothing
squeezes_all c f q (p ∷ parts) cut =
    let once : List ℕ → List ℕ = made_of (addition (Squeeze c)) in
    let later = concat (map (made_of f) parts) in
    elim cut.0 [
      | inl whole ↦ q.squeezes p (concat parts) whole
          ∙ (ap (λ (z : List ℕ). once (made_of f p ++ z)) (squeezes_all c f q parts cut.1)
          ∙ squeezed_joined c (made_of f p) later)
      | inr none ↦ ap (λ (z : List ℕ). made_of f (p ++ z)) none
          ∙ (ap (made_of f) (append-nil p)
          ∙ (squeezed_alone c f q p
          ∙ ap once (sym (append-nil (made_of f p))
          ∙ ap (λ (z : List ℕ). made_of f p ++ z)
          (sym (nothing_of f q.nothing parts none)))))
    ]

-- parts stay cut at ends of lines under a filter that keeps whole lines
stay_cut : (f : FilterSpec) → KeepsLines f → made_of f [] ≡ [] → (parts : List (List ℕ))
    → AreCutAtLines parts → AreCutAtLines (map (made_of f) parts)
stay_cut f keeps nothing [] cut = tt
stay_cut f keeps nothing (p ∷ parts) cut = (
  elim cut.0 [
    | inl whole ↦ inl (keeps p whole)
    | inr none ↦ inr (nothing_of f nothing parts none)
  ],
  stay_cut f keeps nothing parts cut.1,
)

-- a filter that goes on makes nothing of nothing
goes_on_from_nothing : (f : FilterSpec) (m : Manner) → GoesIn m f → GoesOn m → made_of f [] ≡ []
goes_on_from_nothing f ByBytes goes on = twice_itself (made_of f []) (goes [] [])
goes_on_from_nothing f ByLines goes on = lines_of_nothing f goes
goes_on_from_nothing f Gathers goes on = absurd on
goes_on_from_nothing f (Counts a) goes on = absurd on
goes_on_from_nothing f (Squeezes c) goes on = absurd on
goes_on_from_nothing f Skips goes on = absurd on
goes_on_from_nothing f (Whole why) goes on = absurd on

-- ---- pipelines

-- outputs of outputs for the parts
made_in_turn : (f : FilterSpec) (fs : List FilterSpec) (parts : List (List ℕ))
    → map (made_by fs) (map (made_of f) parts) ≡ map (made_by (f ∷ fs)) parts
made_in_turn f fs [] = refl
made_in_turn f fs (p ∷ parts) = ap (λ (z : List (List ℕ)). made_by fs (made_of f p) ∷ z)
    (made_in_turn f fs parts)

made_last : (f : FilterSpec) (parts : List (List ℕ))
    → map (made_of f) parts ≡ map (made_by (f ∷ [])) parts
made_last f [] = refl
made_last f (p ∷ parts) = ap (λ (z : List (List ℕ)). made_of f p ∷ z) (made_last f parts)

made_none : (parts : List (List ℕ)) → parts ≡ map (made_by []) parts
made_none [] = refl
made_none (p ∷ parts) = ap (λ (z : List (List ℕ)). p ∷ z) (made_none parts)

-- the filters divide into these, for these parts
abbrev Divided : List FilterSpec → Halves → List (List ℕ) → Type 0
Divided fs h parts = made_by fs (concat parts)
    ≡ made_by h.joined (concat (map (made_by h.each) parts))

-- all of them run on the joined parts
none_before : (fs : List FilterSpec) (parts : List (List ℕ)) → Divided fs (undivided fs) parts
none_before fs parts = ap (λ (z : List (List ℕ)). made_by fs (concat z)) (made_none parts)

-- a filter that goes on before filters that are divided
one_before : (f : FilterSpec) (fs : List FilterSpec) (h : Halves) (parts : List (List ℕ))
    → made_of f (concat parts) ≡ concat (map (made_of f) parts)
    → Divided fs h (map (made_of f) parts) → Divided (f ∷ fs) (after_one f h) parts
one_before f fs h parts apart later = ap (made_by fs) apart
    ∙ (later ∙ ap (λ (z : List (List ℕ)). made_by h.joined (concat z)) (made_in_turn f h.each parts))

-- ---- a filter that gathers, alone or with the next one

alone_gathers : (f : FilterSpec) (fs : List FilterSpec) (parts : List (List ℕ))
    → GathersParts (made_of f) → AreCutAtLines parts
    → Divided (f ∷ fs) (record { each = f ∷ []; joined = f ∷ fs }) parts
alone_gathers f fs parts g cut =
    ap (made_by fs) (gathers_parts (made_of f) g parts cut
    ∙ ap (λ (z : List (List ℕ)). made_of f (concat z)) (made_last f parts))

made_both : (f g : FilterSpec) (parts : List (List ℕ))
    → map (λ (x : List ℕ). made_of g (made_of f x)) parts ≡ map (made_by (f ∷ g ∷ [])) parts
made_both f g [] = refl
made_both f g (p ∷ parts) =
    ap (λ (z : List (List ℕ)). made_of g (made_of f p) ∷ z) (made_both f g parts)

with_next : (b : Bool) (f g : FilterSpec) (gs : List FilterSpec) (parts : List (List ℕ))
    → gather_together f g ≡ b → RunsAreGatheredBeforeHeads → GathersParts (made_of f)
    → AreCutAtLines parts
    → Divided (f ∷ g ∷ gs)
    (record { each = f ∷ cond b (g ∷ []) []; joined = f ∷ g ∷ gs }) parts
with_next false f g gs parts e runs one cut = alone_gathers f (g ∷ gs) parts one cut
with_next true f g gs parts e runs one cut =
    let both : List ℕ → List ℕ = λ (x : List ℕ). made_of g (made_of f x) in
    ap (made_by gs) (gathers_parts both (runs f g e) parts cut
    ∙ ap (λ (z : List (List ℕ)). both (concat z)) (made_both f g parts))

first_gathers : (f : FilterSpec) (fs : List FilterSpec) (parts : List (List ℕ))
    → RunsAreGatheredBeforeHeads → GathersParts (made_of f) → AreCutAtLines parts
    → Divided (f ∷ fs) (record { each = f ∷ gathered_with f fs; joined = f ∷ fs }) parts
first_gathers f [] parts runs one cut = alone_gathers f [] parts one cut
first_gathers f (g ∷ gs) parts runs one cut =
    with_next (gather_together f g) f g gs parts refl runs one cut

-- ---- a filter that squeezes, counts or skips

first_squeezes : (c : ℕ) (f : FilterSpec) (fs : List FilterSpec) (parts : List (List ℕ))
    → SqueezesParts c f → AreCutAtLines parts
    → Divided (f ∷ fs) (record { each = f ∷ []; joined = addition (Squeeze c) ∷ fs }) parts
first_squeezes c f fs parts q cut =
    ap (made_by fs) (squeezes_all c f q parts cut
    ∙ ap (λ (z : List (List ℕ)). made_of (addition (Squeeze c)) (concat z)) (made_last f parts))

-- the same of a filter that may count, after these first lines are left out
skipped_counted : (m : Manner) (f : FilterSpec) (fs : List FilterSpec) (n : ℕ)
    (parts : List (List ℕ)) → GoesIn m f → AreCutAtLines parts
    → made_by (f ∷ fs) (lines_after n (concat parts))
    ≡ made_by (counted m f fs).joined
    (lines_after n (concat (map (made_by (counted m f fs).each) parts)))
skipped_counted (Counts a) f fs n parts goes cut =
    ap (made_by fs) (goes.same (lines_after n (concat parts))
    ∙ (ap (made_of f) (goes.lines.after n (concat parts)
    ∙ ap (lines_after n) (lines_apart (addition a) goes.lines.by_lines parts cut
    ∙ ap concat (made_last (addition a) parts)))))
skipped_counted ByBytes f fs n parts goes cut =
    ap (λ (z : List (List ℕ)). made_by (f ∷ fs) (lines_after n (concat z))) (made_none parts)
skipped_counted ByLines f fs n parts goes cut =
    ap (λ (z : List (List ℕ)). made_by (f ∷ fs) (lines_after n (concat z))) (made_none parts)
skipped_counted Gathers f fs n parts goes cut =
    ap (λ (z : List (List ℕ)). made_by (f ∷ fs) (lines_after n (concat z))) (made_none parts)
skipped_counted (Squeezes c) f fs n parts goes cut =
    ap (λ (z : List (List ℕ)). made_by (f ∷ fs) (lines_after n (concat z))) (made_none parts)
skipped_counted Skips f fs n parts goes cut =
    ap (λ (z : List (List ℕ)). made_by (f ∷ fs) (lines_after n (concat z))) (made_none parts)
skipped_counted (Whole why) f fs n parts goes cut =
    ap (λ (z : List (List ℕ)). made_by (f ∷ fs) (lines_after n (concat z))) (made_none parts)

first_counts : (a : Addition) (f : FilterSpec) (fs : List FilterSpec) (parts : List (List ℕ))
    → GoesIn (Counts a) f → AreCutAtLines parts
    → Divided (f ∷ fs) (record { each = addition a ∷ []; joined = f ∷ fs }) parts
first_counts a f fs parts goes cut =
    ap (made_by fs) (goes.same (concat parts)
    ∙ ap (made_of f) (lines_apart (addition a) goes.lines.by_lines parts cut
    ∙ ap concat (made_last (addition a) parts)))

module _ (each : EachGoesInItsManner) (lines : LinesAreMadeOfLines) where
  -- filters after first lines are left out
  abbrev SkippedSo : List FilterSpec → Halves → ℕ → List (List ℕ) → Type 0
  SkippedSo fs h n parts = made_by fs (lines_after n (concat parts))
      ≡ made_by h.joined (lines_after n (concat (map (made_by h.each) parts)))

  skipped_by : (b : Bool) (f : FilterSpec) (fs : List FilterSpec) (n : ℕ) (parts : List (List ℕ))
      → makes_line_of_line f ≡ b → AreCutAtLines parts
      → (AreCutAtLines (map (made_of f) parts)
      → SkippedSo fs (halves_of_lines fs) n (map (made_of f) parts))
      → SkippedSo (f ∷ fs)
      (cond b (after_one f (halves_of_lines fs)) (counted (manner_of f) f fs)) n parts
  skipped_by true f fs n parts e cut later =
      let makes = lines f e in
      let h = halves_of_lines fs in
      ap (made_by fs) (makes.after n (concat parts)
      ∙ ap (lines_after n) (lines_apart f makes.by_lines parts cut))
      ∙ (later (stay_cut f makes.keeps (lines_of_nothing f makes.by_lines) parts cut)
      ∙ ap (λ (z : List (List ℕ)). made_by h.joined (lines_after n (concat z)))
      (made_in_turn f h.each parts))
  skipped_by false f fs n parts e cut later =
      skipped_counted (manner_of f) f fs n parts (each f) cut

  skipped : (fs : List FilterSpec) (n : ℕ) (parts : List (List ℕ)) → AreCutAtLines parts
      → SkippedSo fs (halves_of_lines fs) n parts
  skipped [] n parts cut =
      ap (λ (z : List (List ℕ)). lines_after n (concat z)) (made_none parts)
  skipped (f ∷ fs) n parts cut =
      skipped_by (makes_line_of_line f) f fs n parts refl cut
      (λ stay. skipped fs n (map (made_of f) parts) stay)

  first_skips : (f : FilterSpec) (fs : List FilterSpec) (parts : List (List ℕ)) → GoesIn Skips f
      → AreCutAtLines parts
      → Divided (f ∷ fs) (record {
        each = (halves_of_lines fs).each;
        joined = f ∷ (halves_of_lines fs).joined;
      }) parts
  first_skips f fs parts goes cut =
      let h = halves_of_lines fs in
      ap (made_by fs) (goes.1 (concat parts))
      ∙ (skipped fs goes.0 parts cut
      ∙ ap (made_by h.joined) (sym (goes.1 (concat (map (made_by h.each) parts)))))

-- ---- every pipeline

module _ (each : EachGoesInItsManner) (keep : NewlinesKeepLines) (lines : LinesAreMadeOfLines)
    (runs : RunsAreGatheredBeforeHeads) where
  -- the same by the manner of the first filter, if the parts are cut at ends of lines
  at_lines_first : (f : FilterSpec) (fs : List FilterSpec) (m : Manner) (rest : Halves)
      (parts : List (List ℕ)) → GoesIn m f → AreCutAtLines parts
      → (GoesOn m → Divided fs rest (map (made_of f) parts))
      → Divided (f ∷ fs) (halves_from m f fs rest) parts
  at_lines_first f fs ByBytes rest parts goes cut later =
      one_before f fs rest parts (bytes_apart f goes parts) (later tt)
  at_lines_first f fs ByLines rest parts goes cut later =
      one_before f fs rest parts (lines_apart f goes parts cut) (later tt)
  at_lines_first f fs Gathers rest parts goes cut later = first_gathers f fs parts runs goes cut
  at_lines_first f fs (Counts a) rest parts goes cut later = first_counts a f fs parts goes cut
  at_lines_first f fs (Squeezes c) rest parts goes cut later =
      first_squeezes c f fs parts goes cut
  at_lines_first f fs Skips rest parts goes cut later =
      first_skips each lines f fs parts goes cut
  at_lines_first f fs (Whole why) rest parts goes cut later = none_before (f ∷ fs) parts

  -- the same wherever they are cut
  anywhere_first : (f : FilterSpec) (fs : List FilterSpec) (m : Manner) (rest : Halves)
      (parts : List (List ℕ)) → GoesIn m f
      → (GoesOn m → Divided fs rest (map (made_of f) parts))
      → Divided (f ∷ fs) (halves_of_bytes m f fs rest) parts
  anywhere_first f fs ByBytes rest parts goes later =
      one_before f fs rest parts (bytes_apart f goes parts) (later tt)
  anywhere_first f fs ByLines rest parts goes later = none_before (f ∷ fs) parts
  anywhere_first f fs Gathers rest parts goes later = none_before (f ∷ fs) parts
  anywhere_first f fs (Counts a) rest parts goes later = none_before (f ∷ fs) parts
  anywhere_first f fs (Squeezes c) rest parts goes later = none_before (f ∷ fs) parts
  anywhere_first f fs Skips rest parts goes later = none_before (f ∷ fs) parts
  anywhere_first f fs (Whole why) rest parts goes later = none_before (f ∷ fs) parts

  divided_first : (at_lines : Bool) (f : FilterSpec) (fs : List FilterSpec) (rest : Halves)
      (parts : List (List ℕ)) → (at_lines ≡ true → AreCutAtLines parts)
      → (GoesOn (manner_of f) → Divided fs rest (map (made_of f) parts))
      → Divided (f ∷ fs)
      (cond at_lines (halves_from (manner_of f) f fs rest) (halves_of_bytes (manner_of f) f fs rest))
      parts
  divided_first true f fs rest parts cut later =
      at_lines_first f fs (manner_of f) rest parts (each f) (cut refl) later
  divided_first false f fs rest parts cut later =
      anywhere_first f fs (manner_of f) rest parts (each f) later

  divided : (fs : List FilterSpec) (at_lines : Bool) (parts : List (List ℕ))
      → (at_lines ≡ true → AreCutAtLines parts) → Divided fs (halves at_lines fs) parts
  divided [] at_lines parts cut = none_before [] parts
  divided (f ∷ fs) at_lines parts cut =
      divided_first at_lines f fs (halves (at_lines && keeps_newlines f) fs) parts cut
      (λ on. divided fs (at_lines && keeps_newlines f) (map (made_of f) parts)
      (λ t. stay_cut f (keep f on (and_parts at_lines (keeps_newlines f) t).1)
      (goes_on_from_nothing f (manner_of f) (each f) on) parts
      (cut (and_parts at_lines (keeps_newlines f) t).0)))

  -- every pipeline of filters divides into its halves
  pub divides : (fs : List FilterSpec) (parts : List (List ℕ)) → AreCutAtLines parts
      → Divided fs (halves true fs) parts
  divides fs parts cut = divided fs true parts (λ t. cut)

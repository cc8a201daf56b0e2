-- What is left out of the inputs of a plan while its files are opened, and after that.
use Rattle.std.proofs.Common.{◌≡◌, ◌≢◌, ℕ, ◌⊎◌, inl, inr, List, [], ◌∷◌, ◌++◌, length, Option, Some}
use Rattle.std.proofs.Common.{None, Ok, refl, sym, ap, ◌∙◌, subst}
use Rattle.collector.specs.Files.{FilesShown, nothing_read, OpensInput}
use Rattle.collector.specs.InputEnds.{left_out_too}
use Rattle.collector.specs.declared.needed.LeftOut.{LeftOut}
use Rattle.collector.specs.declared.needed.LeftOut.TheVariants.{Nothing, Once}
use Rattle.planner.specs.Planned.{Planned}
use Rattle.planner.specs.declared.plan.InOpening.{InOpening}
use Rattle.openings.specs.Answers.{answer_at}
use Rattle.openings.specs.Fronts.{IsFrontAt, LeavesFronts}
use Rattle.openings.specs.Openings.{OpensFirst, OpensOneInput}
use Rattle.openings.specs.inner.LeftParts.{AreWhole, LeavesParts}
use Rattle.openings.proofs.lemmas.MoreOpenings.{same_or_other, at_last, at_missing, at_none}
use Rattle.openings.proofs.lemmas.MoreOpenings.{at_others}

-- none was opened
pub whole_none : (s : FilesShown) → AreWhole [] s s
whole_none s = record { whole = λ place file is. absurd (cc); others = λ file. inl refl }

-- nothing more was left out
pub whole_still : (answers : List (Option ℕ)) (first mid now : FilesShown)
    → ((file : ℕ) → now.left_out file ≡ mid.left_out file) → AreWhole answers first mid
    → AreWhole answers first now
whole_still answers first mid now same was = record {
  whole = λ place file is. same file ∙ was.whole place file is;
  others = λ file. elim (was.others file) as (λ _. (now.left_out file ≡ first.left_out file)
      ⊎ ((place : ℕ) × (answer_at answers place ≡ Some file))) [
        | inl e ↦ inl (same file ∙ e)
        | inr p ↦ inr p
      ];
}

-- one more was opened
module _ (plan : Planned) (answers : List (Option ℕ)) (o : InOpening) (first mid now : FilesShown)
    (opens : OpensFirst plan answers [] None first mid) (was : AreWhole answers first mid) where
  -- an earlier number is another one
  is_other : (own : ℕ) → OpensInput o.name own mid now → (place file : ℕ)
      → answer_at answers place ≡ Some file → file ≢ own
  is_other own does place file is e =
      let log : mid.inputs own ≡ Some nothing_read =
      subst (λ f. mid.inputs f ≡ Some nothing_read) e (opens.input_logs.log place file is) in
      let none = does.number in absurd (cc)

  still_there : (a : Option ℕ) (place file : ℕ) → answer_at answers place ≡ Some file
      → answer_at (answers ++ a ∷ []) place ≡ Some file
  still_there a place file is =
      at_others answers a place (λ e. let h : answer_at answers place
      ≡ answer_at answers (length answers) = ap (answer_at answers) e in
      let n = at_none answers in absurd (cc)) ∙ is

  whole_at : (own : ℕ) → OpensInput o.name own mid now → (place file : ℕ)
      → answer_at (answers ++ Some own ∷ []) place ≡ Some file → now.left_out file ≡ Nothing
  whole_at own does place file is =
      elim (same_or_other place (length answers)) as (λ _. now.left_out file ≡ Nothing) [
        | inl here ↦ let last : answer_at (answers ++ Some own ∷ []) place ≡ Some own =
            ap (answer_at (answers ++ Some own ∷ [])) here ∙ at_last answers (Some own) in
            let numbered : own ≡ file = cc in
            subst (λ f. now.left_out f ≡ Nothing) numbered does.whole
        | inr there ↦ let before : answer_at answers place ≡ Some file =
            sym (at_others answers (Some own) place there) ∙ is in
            does.left_out file (is_other own does place file before)
            ∙ was.whole place file before
      ]

  others_at : (own : ℕ) → OpensInput o.name own mid now → (file : ℕ)
      → (now.left_out file ≡ first.left_out file)
      ⊎ ((place : ℕ) × (answer_at (answers ++ Some own ∷ []) place ≡ Some file))
  others_at own does file =
      elim (same_or_other file own) as (λ _. (now.left_out file ≡ first.left_out file)
      ⊎ ((place : ℕ) × (answer_at (answers ++ Some own ∷ []) place ≡ Some file))) [
        | inl here ↦ inr (
          length answers,
          at_last answers (Some own) ∙ ap (λ (f : ℕ). Some f) (sym here),
        )
        | inr there ↦ elim (was.others file) as (λ _. (now.left_out file ≡ first.left_out file)
            ⊎ ((place : ℕ) × (answer_at (answers ++ Some own ∷ []) place ≡ Some file))) [
              | inl e ↦ inl (does.left_out file there ∙ e)
              | inr p ↦ inr (p.0, still_there (Some own) p.0 file p.1)
            ]
      ]

  pub whole_more : (a : Option ℕ) → OpensOneInput o mid now (Ok a)
      → AreWhole (answers ++ a ∷ []) first now
  whole_more (Some own) does = record {
    whole = whole_at own does;
    others = others_at own does;
  }
  whole_more None does = record {
    whole = λ place file is. does.1.held.left_out file
        ∙ was.whole place file (sym (at_missing answers place) ∙ is);
    others = λ file. elim (was.others file) as (λ _. (now.left_out file ≡ first.left_out file)
        ⊎ ((place : ℕ) × (answer_at (answers ++ None ∷ []) place ≡ Some file))) [
          | inl e ↦ inl (does.1.held.left_out file ∙ e)
          | inr p ↦ inr (p.0, at_missing answers p.0 ∙ p.1)
        ];
  }

-- what was left out after all openings
pub fronts_left : (plan : Planned) (answers : List (Option ℕ)) (count : ℕ)
    (first mid now : FilesShown) → AreWhole answers first mid
    → LeavesParts plan answers count mid now → LeavesFronts plan answers first now
fronts_left plan answers count first mid now whole parts file =
    elim (parts.fronts file) as (λ _. (now.left_out file ≡ first.left_out file)
    ⊎ ((place : ℕ) × (answer_at answers place ≡ Some file)
    × IsFrontAt plan place (now.left_out file))) [
      | inl same ↦ elim (whole.others file) as (λ _. (now.left_out file ≡ first.left_out file)
          ⊎ ((place : ℕ) × (answer_at answers place ≡ Some file)
          × IsFrontAt plan place (now.left_out file))) [
            | inl e ↦ inl (same ∙ e)
            | inr p ↦ inr (
              p.0,
              p.1,
              subst (IsFrontAt plan p.0) (sym (same ∙ whole.whole p.0 file p.1)) tt,
            )
          ]
      | inr a ↦ let noted : now.left_out file ≡ Once a.needed = a.noted
          ∙ ap (λ (l : LeftOut). left_out_too l a.needed)
          (whole.whole a.place file a.answered) in
          inr (
            a.place,
            a.answered,
            subst (IsFrontAt plan a.place) (sym noted) (a.opening, a.at, (a.node, a.of_node, a.only)),
          )
    ]

-- What the inputs of a plan held while its files are opened.
use Rattle.std.proofs.Common.{◌≡◌, ◌≢◌, ℕ, inl, inr, Result, List, [], ◌∷◌, ◌++◌, length, Option}
use Rattle.std.proofs.Common.{Some, None, Ok, Err, sym, ap, ◌∙◌, subst}
use Rattle.std.specs.Prelude.{IfSome}
use Rattle.std.specs.List.{slice_get}
use Rattle.run_types.specs.declared.names.InName.{InName}
use Rattle.run_types.specs.declared.names.InName.TheVariants as in_names
use Rattle.run_types.specs.Destinations.{FileOf}
use Rattle.collector.specs.Files.{FilesShown, nothing_read, SameLogs, SameHeld, SameContents}
use Rattle.collector.specs.Files.{OpensInput, OpensHeld, content_for}
use Rattle.planner.specs.Planned.{Planned}
use Rattle.planner.specs.declared.plan.InOpening.{InOpening}
use Rattle.planner.specs.declared.plan.OutOpening.{OutOpening}
use Rattle.openings.specs.Answers.{answer_at}
use Rattle.openings.specs.inner.LeftParts.{HoldsWhole}
use Rattle.openings.specs.Openings.{OpensFirst, OpensOneInput, OpensOneOutput}
use Rattle.openings.specs.declared.fault.OpenFault.{OpenFault}
use Rattle.openings.specs.declared.fault.OpenFault.TheVariants as fault
use Rattle.openings.proofs.lemmas.MoreOpenings.{same_or_other, at_last, at_others, at_missing}

-- an output leaves what inputs held
pub output_held : (o : OutOpening) (old new : FilesShown) (result : Result ℕ OpenFault)
    → OpensOneOutput o old new result → SameHeld old new
output_held o old new (Ok file) does = does.held
output_held o old new (Err (fault.InputNotOpened name)) does = absurd does
output_held o old new (Err (fault.OutputNotOpened name)) does = does.1.held
output_held o old new (Err fault.NoMemory) does = does.same.held

-- what an input of a name gives, if the files hold what they held
content_still : (name : InName) (old new : FilesShown) → new.standard_input ≡ old.standard_input
    → SameContents old new → content_for new name ≡ content_for old name
content_still in_names.Standard old new standard same = standard
content_still (in_names.File name) old new standard same = same.contents (FileOf name)

-- none was opened
pub inputs_none : (plan : Planned) (old new : FilesShown) → HoldsWhole plan [] old new
inputs_none plan old new place file o at is = absurd (cc)

-- what inputs held stayed as it was
pub inputs_still : (plan : Planned) (answers : List (Option ℕ)) (first mid now : FilesShown)
    → SameLogs mid.held now.held → HoldsWhole plan answers first mid
    → HoldsWhole plan answers first now
inputs_still plan answers first mid now same was place file o at is =
    let h = was place file o at is in
    record { content = h.content; given = h.given; held = same file ∙ h.held }

-- one more was opened
module _ (plan : Planned) (answers : List (Option ℕ)) (o : InOpening) (first mid now : FilesShown)
    (at : slice_get plan.inputs (length answers) ≡ Some o)
    (opens : OpensFirst plan answers [] None first mid)
    (same : SameContents first mid) (was : HoldsWhole plan answers first mid) where
  -- an earlier number is another one
  is_other : (own : ℕ) → OpensInput o.name own mid now → (place file : ℕ)
      → answer_at answers place ≡ Some file → file ≢ own
  is_other own does place file is e =
      let log : mid.inputs own ≡ Some nothing_read =
      subst (λ f. mid.inputs f ≡ Some nothing_read) e (opens.input_logs.log place file is) in
      let none = does.number in absurd (cc)

  -- it holds what its name gave before all openings
  held_at : (own : ℕ) → OpensHeld o.name own mid now → OpensHeld o.name own first now
  held_at own holds = record {
    content = holds.content;
    given = sym (content_still o.name first mid opens.standard_input same) ∙ holds.given;
    held = holds.held;
  }

  held_here : (own : ℕ) → OpensHeld o.name own mid now → (place file : ℕ) (p : InOpening)
      → place ≡ length answers → slice_get plan.inputs place ≡ Some p
      → answer_at (answers ++ Some own ∷ []) place ≡ Some file →
      OpensHeld p.name file first now
  held_here own holds place file p here got is =
      let there : slice_get plan.inputs place ≡ Some o = ap (slice_get plan.inputs) here ∙ at in
      let last : answer_at (answers ++ Some own ∷ []) place ≡ Some own =
      ap (answer_at (answers ++ Some own ∷ [])) here ∙ at_last answers (Some own) in
      let named : o ≡ p = cc in
      let numbered : own ≡ file = cc in
      subst (λ (q : InOpening). OpensHeld q.name file first now) named
      (subst (λ f. OpensHeld o.name f first now) numbered (held_at own holds))

  held_before : (own : ℕ) → OpensInput o.name own mid now → (place file : ℕ) (p : InOpening)
      → slice_get plan.inputs place ≡ Some p → answer_at answers place ≡ Some file
      → OpensHeld p.name file first now
  held_before own does place file p got is =
      let h = was place file p got is in
      record {
        content = h.content;
        given = h.given;
        held =
            does.held file (is_other own does place file is) ∙ h.held;
      }

  pub inputs_more : (a : Option ℕ) → OpensOneInput o mid now (Ok a)
      → IfSome a (λ file. OpensHeld o.name file mid now)
      → HoldsWhole plan (answers ++ a ∷ []) first now
  inputs_more (Some own) does holds place file p got is =
      elim (same_or_other place (length answers)) as (λ _. OpensHeld p.name file first now) [
        | inl here ↦ held_here own holds place file p here got is
        | inr there ↦ held_before own does place file p got
            (sym (at_others answers (Some own) place there) ∙ is)
      ]
  inputs_more None does holds place file p got is =
      inputs_still plan answers first mid now does.1.held.held was place file p got
      (sym (at_missing answers place) ∙ is)

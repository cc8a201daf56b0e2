-- What destinations hold while the files of a plan are opened.
use Rattle.std.proofs.Common.{◌≡◌, ◌≢◌, ℕ, suc, ◌<◌, inl, inr, List, [], ◌∷◌, ◌++◌, length, Option}
use Rattle.std.proofs.Common.{Some, None, Ok, Err, refl, sym, ap, ◌∙◌, subst, length-append, arith}
use Rattle.std.specs.Prelude.{Bool, false, IfErr, IfSome, IsSome, Result}
use Rattle.std.specs.List.{slice_get}
use Rattle.std.proofs.lemmas.Bool.{false≢true}
use Rattle.collector.specs.Files.{FilesShown, SameLogs, SameContents, OpensOutput, OpensDestination}
use Rattle.collector.specs.Files.{WriteLog, left_of}
use Rattle.collector.proofs.Logs.{places_none, places_on}
use Rattle.collector.specs.declared.names.Opening.{Opening}
use Rattle.collector.specs.declared.names.Opening.TheVariants.{Output}
use Rattle.run_types.specs.declared.names.OutName.{OutName}
use Rattle.run_types.specs.Destinations.{destination_of, is_kept}
use Rattle.planner.specs.Planned.{Planned}
use Rattle.planner.specs.declared.plan.InOpening.{InOpening}
use Rattle.planner.specs.declared.plan.OutOpening.{OutOpening}
use Rattle.openings.specs.Destinations.{IsSoleOpening, OpensDestinations}
use Rattle.openings.specs.inner.Failures.{FailsAhead}
use Rattle.openings.specs.Contents.{FailsLeaving, LeavesContents, AreApart}
use Rattle.openings.specs.Openings.{IsRefused, TriesNoOutput, OpensOneInput, OpensOneOutput}
use Rattle.openings.specs.declared.fault.OpenFault.{OpenFault}
use Rattle.openings.specs.declared.fault.OpenFault.TheVariants as fault
use Rattle.openings.proofs.AnswerLaws.{slice_get_last, slice_get_others}
use Rattle.openings.proofs.lemmas.MoreOpenings.{same_or_other, as_strict}

-- ---- inputs leave what destinations hold

pub contents_none : (s : FilesShown) → SameContents s s
contents_none s = record { targets = λ file. refl; contents = λ d. refl; places = places_none s }

pub contents_on : (a b c : FilesShown) → SameContents a b → SameContents b c → SameContents a c
contents_on a b c g h = record {
  targets = λ file. h.targets file
      ∙ g.targets file;
  contents = λ d. h.contents d ∙ g.contents d;
  places =
      places_on a b c g.places h.places;
}

pub input_contents : (o : InOpening) (old new : FilesShown) (result : Result (Option ℕ) OpenFault)
    → OpensOneInput o old new result → SameContents old new
input_contents o old new (Ok (Some file)) does = does.contents
input_contents o old new (Ok None) does = does.1.contents
input_contents o old new (Err (fault.InputNotOpened name)) does = does.2.contents
input_contents o old new (Err (fault.OutputNotOpened name)) does = absurd does
input_contents o old new (Err fault.NoMemory) does = does.same.contents

-- ---- outputs

-- none was opened
pub destinations_none : (openings : List OutOpening) (s : FilesShown)
    → OpensDestinations openings [] s s
destinations_none openings s = record {
  open_ = λ place file is. absurd (cc);
  targets = λ place file o is at. absurd (cc);
  contents = λ place o below at sole. absurd (omega (arith, below));
  others = λ d no. refl;
}

-- inputs were opened before
pub destinations_from : (openings : List OutOpening) (files : List ℕ) (a b c : FilesShown)
    → SameContents a b → OpensDestinations openings files b c → OpensDestinations openings files a c
destinations_from openings files a b c g h = record {
  open_ = h.open_;
  targets = h.targets;
  contents = λ place o below at sole. h.contents place o below at sole
      ∙ ap (λ (held : Option (List ℕ)). Some (left_of (is_kept o.name) held))
      (g.contents (destination_of o.name));
  others = λ d no. h.others d no ∙ g.contents d;
}

-- an opening that failed came after
pub destinations_still : (openings : List OutOpening) (files : List ℕ) (a b c : FilesShown)
    → OpensDestinations openings files a b → SameContents b c → SameLogs b.outputs c.outputs
    → OpensDestinations openings files a c
destinations_still openings files a b c h same logs = record {
  open_ = λ place file is. subst (λ (l : Option WriteLog). IsSome l) (sym (logs file))
      (h.open_ place file is);
  targets = λ place file o is at. same.targets file ∙ h.targets place file o is at;
  contents = λ place o below at sole. same.contents (destination_of o.name)
      ∙ h.contents place o below at sole;
  others = λ d no. same.contents d ∙ h.others d no;
}

pub failed_output : (openings : List OutOpening) (files : List ℕ) (o : OutOpening) (f : OpenFault)
    (a b c : FilesShown) → OpensDestinations openings files a b → OpensOneOutput o b c (Err f)
    → OpensDestinations openings files a c
failed_output openings files o (fault.InputNotOpened name) a b c h does = absurd does
failed_output openings files o (fault.OutputNotOpened name) a b c h does =
    destinations_still openings files a b c h does.1.contents does.1.outputs
failed_output openings files o fault.NoMemory a b c h does =
    destinations_still openings files a b c h does.same.contents does.same.outputs

-- no output was opened or tried
pub destinations_untried : (openings : List OutOpening) (outputs : List ℕ) (last : Option Opening)
    (a b : FilesShown) → TriesNoOutput outputs last a b → OpensDestinations openings outputs a b
destinations_untried openings outputs last a b untried =
    subst (λ (l : List ℕ). OpensDestinations openings l a b) (sym untried.none)
    (destinations_from openings [] a b b untried.contents (destinations_none openings b))

-- the openings of the inputs failed
pub ahead_leaves : (strict : Bool) (plan : Planned) (first now : FilesShown) (f : OpenFault)
    → FailsAhead plan first now f → FailsLeaving strict plan first now f
ahead_leaves strict plan first now f h = (
  as_strict strict plan first now f h.fails,
  destinations_untried plan.outputs h.fails.outputs h.fails.last first now h.untried,
)

-- what destinations hold after openings that failed, if no operand has to be there
pub leaves_loosely : {T : Type 0} (plan : Planned) (first now : FilesShown)
    (result : Result T OpenFault) → IfErr result (LeavesContents false plan first now)
    → IfErr result (FailsLeaving false plan first now)
leaves_loosely plan first now (Ok o) left = tt
leaves_loosely plan first now (Err f) left =
    elim left as (λ _. FailsLeaving false plan first now f) [
      | inl fails ↦ fails
      | inr lacks ↦
          absurd (false≢true lacks.0)
    ]

-- no answered output writes to the destination of the one that was refused
pub refused_is_kept : (strict : Bool) (plan : Planned) (first now : FilesShown) (name : OutName)
    → FailsLeaving strict plan first now (fault.OutputNotOpened name) → AreApart plan.outputs →
    now.contents (destination_of name) ≡ first.contents (destination_of name)
refused_is_kept strict plan first now name left apart =
    let fails = left.0 in
    let refused : IsRefused plan fails.inputs fails.outputs (Output name None) =
    subst (λ (l : Option Opening). IfSome l (IsRefused plan fails.inputs fails.outputs))
    fails.fails.0 fails.opens.refused in
    left.1.others (destination_of name) (λ place o below at same.
    let here = apart place (length fails.outputs) o refused.2.0 at refused.2.1 (same
    ∙ sym (ap destination_of refused.2.2)) in
    absurd (omega (arith, below, here)))

same_number : (files : List ℕ) (place own file : ℕ) → place ≡ length files
    → slice_get (files ++ own ∷ []) place ≡ Some file → own ≡ file
same_number files place own file here is =
    let e : slice_get (files ++ own ∷ []) place ≡ Some own = ap (slice_get (files ++ own ∷ [])) here
    ∙ slice_get_last files own in
    cc

same_opening : (openings : List OutOpening) (files : List ℕ) (place : ℕ) (o p : OutOpening)
    → place ≡ length files → slice_get openings (length files) ≡ Some o
    → slice_get openings place ≡ Some p → p ≡ o
same_opening openings files place o p here at is =
    let e : slice_get openings place ≡ Some o = ap (slice_get openings) here ∙ at in
    cc

-- one more was opened
module _ (openings : List OutOpening) (files : List ℕ) (own : ℕ) (o : OutOpening)
    (first mid now : FilesShown)
    (at : slice_get openings (length files) ≡ Some o) (opens : OpensOutput o.name own mid now)
    (to : OpensDestination o.name own mid now)
    (was : OpensDestinations openings files first mid) where
  count : length (files ++ own ∷ []) ≡ suc (length files)
  count = omega (arith, length-append files (own ∷ []))

  -- an earlier number is another one
  is_other : (place file : ℕ) → slice_get files place ≡ Some file → file ≢ own
  is_other place file is e =
      let open_ : IsSome (mid.outputs own) =
      subst (λ f. IsSome (mid.outputs f)) e (was.open_ place file is) in
      let none : IsSome {T = WriteLog} None =
      subst (λ (l : Option WriteLog). IsSome l) opens.number open_ in
      absurd (cc)

  is_earlier : (place file : ℕ) → place ≢ length files
      → slice_get (files ++ own ∷ []) place ≡ Some file → slice_get files place ≡ Some file
  is_earlier place file there is = sym (slice_get_others files own place there) ∙ is

  still_open : (place file : ℕ) → slice_get (files ++ own ∷ []) place ≡ Some file
      → IsSome (now.outputs file)
  still_open place file is = elim (same_or_other place (length files)) as
      (λ _. IsSome (now.outputs file)) [
        | inl here ↦ subst (λ f. IsSome (now.outputs f)) (same_number files place own file here is)
            (subst (λ (l : Option WriteLog). IsSome l) (sym opens.log) refl)
        | inr there ↦ let before = is_earlier place file there is in
            subst (λ (l : Option WriteLog). IsSome l)
            (sym (opens.outputs file (is_other place file before))) (was.open_ place file before)
      ]

  targets_are : (place file : ℕ) (p : OutOpening) → slice_get (files ++ own ∷ []) place ≡ Some file
      → slice_get openings place ≡ Some p → now.targets file ≡ Some (destination_of p.name)
  targets_are place file p is also = elim (same_or_other place (length files)) as
      (λ _. now.targets file ≡ Some (destination_of p.name)) [
        | inl here ↦ let same : p ≡ o = same_opening openings files place o p here at also in
            subst (λ f. now.targets f ≡ Some (destination_of p.name))
            (same_number files place own file here is)
            (subst (λ (q : OutOpening). now.targets own ≡ Some (destination_of q.name))
            (sym same) to.target)
        | inr there ↦ let before = is_earlier place file there is in
            opens.targets file (is_other place file before) ∙ was.targets place file p before also
      ]

  -- what this destination holds, if no earlier place has it
  last_contents : IsSoleOpening openings (suc (length files)) (length files) (destination_of o.name)
      → now.contents (destination_of o.name)
      ≡ Some (left_of (is_kept o.name) (first.contents (destination_of o.name)))
  last_contents sole = to.content
      ∙ ap (λ (held : Option (List ℕ)). Some (left_of (is_kept o.name) held))
      (was.others (destination_of o.name) (λ place p below is same. let e =
      sole place p (omega (arith, below)) is same in absurd (omega (arith, below, e))))

  earlier_contents : (place : ℕ) (p : OutOpening) → place < length files
      → slice_get openings place ≡ Some p
      → IsSoleOpening openings (suc (length files)) place (destination_of p.name) →
      now.contents (destination_of p.name)
      ≡ Some (left_of (is_kept p.name) (first.contents (destination_of p.name)))
  earlier_contents place p below is sole =
      to.others (destination_of p.name) (λ same. let e =
      sole (length files) o (omega arith) at (sym same) in absurd (omega (arith, below, e)))
      ∙ was.contents place p below is
      (λ other q less got same. sole other q (omega (arith, less)) got same)

  contents_are : (place : ℕ) (p : OutOpening) → place < suc (length files)
      → slice_get openings place ≡ Some p
      → IsSoleOpening openings (suc (length files)) place (destination_of p.name) →
      now.contents (destination_of p.name)
      ≡ Some (left_of (is_kept p.name) (first.contents (destination_of p.name)))
  contents_are place p below is sole = elim (same_or_other place (length files)) as
      (λ _. now.contents (destination_of p.name)
      ≡ Some (left_of (is_kept p.name) (first.contents (destination_of p.name)))) [
        | inl here ↦ let same : p ≡ o = same_opening openings files place o p here at is in
            subst (λ (q : OutOpening). now.contents (destination_of q.name)
            ≡ Some (left_of (is_kept q.name) (first.contents (destination_of q.name)))) (sym same)
            (last_contents
            (subst (λ (q : OutOpening). IsSoleOpening openings (suc (length files)) (length files)
            (destination_of q.name)) same
            (subst (λ k. IsSoleOpening openings (suc (length files)) k (destination_of p.name)) here
            sole)))
        | inr there ↦ earlier_contents place p (omega (arith, below, there)) is sole
      ]

  pub destinations_more : OpensDestinations openings (files ++ own ∷ []) first now
  destinations_more = record {
    open_ = still_open;
    targets = targets_are;
    contents = λ place p below is sole. contents_are place p (omega (arith, below, count)) is
        (λ other q less got same. sole other q (omega (arith, less, count)) got same);
    others = λ d no. to.others d (λ same. no (length files) o (omega (arith, count)) at (sym same))
        ∙ was.others d (λ place p below is same. no place p (omega (arith, below, count)) is same);
  }

-- One more opening, answered or refused, after the first openings of a plan.
use Rattle.std.proofs.Common.{◌≡◌, ◌≢◌, ℕ, zero, suc, ◌⊎◌, inl, inr, Bool, false, true, Result}
use Rattle.std.proofs.Common.{List, [], ◌∷◌, ◌++◌, length, Option, Some, None, unwrap_or, Ok, Err}
use Rattle.std.proofs.Common.{refl, sym, ap, ◌∙◌, subst, append-nil, length-append, arith}
use Rattle.std.specs.Prelude.{IfSome, IsTrue}
use Rattle.std.specs.List.{slice_get}
use Rattle.std.proofs.lemmas.Bool.{false≢true}
use Rattle.std.proofs.lemmas.Option.{slice_get_within}
use Rattle.collector.specs.Files.{FilesShown, WriteLog, nothing_read, nothing_written, SameLogs}
use Rattle.collector.specs.Files.{OtherLogs, SameContents, SamePlaces, OpensOutput, OpensNothing}
use Rattle.collector.specs.Files.{Refuses, writes_of}
use Rattle.collector.proofs.Logs.{places_none, places_on}
use Rattle.collector.specs.declared.names.Opening.{Opening}
use Rattle.collector.specs.declared.names.Opening.TheVariants.{Input, Output}
use Rattle.planner.specs.Planned.{Planned}
use Rattle.planner.specs.declared.plan.InOpening.{InOpening}
use Rattle.planner.specs.declared.plan.OutOpening.{OutOpening}
use Rattle.openings.specs.Answers.{OpenedFiles, answer_at, missing_places}
use Rattle.openings.specs.Openings.{input_entries, output_entries, OthersKeep, AreOpened}
use Rattle.openings.specs.Openings.{IsOperandAt, IsRefused, KeepsLogs, Opens, OpensAs, OpensFirst}
use Rattle.openings.specs.Openings.{IsInput, TriesNoOutput, FailsWith, FailsToOpen, NamesMissing}
use Rattle.openings.specs.Openings.{LacksOperand, OpensOneInput, OpensOneOutput}
use Rattle.openings.specs.Destinations.{OpensDestinations}
use Rattle.openings.specs.inner.Failures.{FailsAhead, FailsIfKnown}
use Rattle.openings.specs.declared.fault.OpenFault.{OpenFault}
use Rattle.openings.specs.declared.fault.OpenFault.TheVariants as fault
use Rattle.openings.proofs.AnswerLaws.{slice_get_last, slice_get_others, slice_get_none}
use Rattle.openings.proofs.lemmas.EntryLaws.{no_inputs, no_outputs, input_entries_more}
use Rattle.openings.proofs.lemmas.EntryLaws.{output_entries_more, behind_inputs, behind_outputs}
use Rattle.openings.proofs.lemmas.EntryLaws.{behind_all}

-- ---- numbers and places

pub same_or_other : (x y : ℕ) → (x ≡ y) ⊎ (x ≢ y)
same_or_other zero zero = inl refl
same_or_other zero (suc y) = inr (λ e. omega (arith, e))
same_or_other (suc x) zero = inr (λ e. omega (arith, e))
same_or_other (suc x) (suc y) = elim (same_or_other x y) as (λ _. (suc x ≡ suc y) ⊎ (suc x ≢ suc y))
    [ inl e ↦ inl (ap suc e) | inr d ↦ inr (λ e. d (omega (arith, e))) ]

-- ---- what other files have

-- it stayed as it was, and the numbers too
pub others_same : {L : Type 0} (number more : ℕ → Option ℕ) (first old new : ℕ → Option L)
    → ((place : ℕ) → more place ≡ number place) → SameLogs old new → OthersKeep number first old
    → OthersKeep more first new
others_same number more first old new numbers same was file =
    elim (was file) as (λ _. (new file ≡ first file) ⊎ ((place : ℕ) × (more place ≡ Some file))) [
      | inl e ↦ inl (same file ∙ e)
      | inr p ↦ inr (p.0, numbers p.0 ∙ p.1)
    ]

-- one more file was opened, at the place that had no number
pub others_more : {L : Type 0} (at own : ℕ) (number more : ℕ → Option ℕ) (first old new : ℕ
    → Option L) → number at ≡ None → more at ≡ Some own
    → ((place : ℕ) → place ≢ at → more place ≡ number place) → OtherLogs own old new →
    OthersKeep number first old → OthersKeep more first new
others_more at own number more first old new none is others same was file =
    elim (same_or_other file own) as (λ _. (new file ≡ first file)
    ⊎ ((place : ℕ) × (more place ≡ Some file))) [
      | inl here ↦ inr (at, is ∙ ap Some (sym here))
      | inr there ↦ elim (was file) as (λ _. (new file ≡ first file)
          ⊎ ((place : ℕ) × (more place ≡ Some file))) [
            | inl e ↦ inl (same file there ∙ e)
            | inr p ↦
                inr (
                  p.0,
                  others p.0 (λ e. let h : number p.0 ≡ number at = ap number e in let k = p.1 in
                      cc) ∙ p.1,
                )
          ]
    ]

-- ---- the logs of files that are opened

module _ {L : Type 0} (empty : L) where
  -- nothing was opened
  opened_none : (number : ℕ → Option ℕ) → ((place : ℕ) → number place ≡ None) → (s : ℕ → Option L)
      → AreOpened empty number s s
  opened_none number none s = record {
    unopened = λ place file is. absurd (let n = none place in cc);
    log = λ place file is. absurd (let n = none place in cc);
    apart = λ one other file is same. absurd (let n = none one in cc);
    others = λ file. inl refl;
  }

  -- the logs stayed as they were, and the numbers too
  opened_same : (number more : ℕ → Option ℕ) (first old new : ℕ → Option L)
      → ((place : ℕ) → more place ≡ number place) → SameLogs old new
      → AreOpened empty number first old → AreOpened empty more first new
  opened_same number more first old new numbers same a = record {
    unopened = λ place file is. a.unopened place file (sym (numbers place) ∙ is);
    log = λ place file is. same file ∙ a.log place file (sym (numbers place) ∙ is);
    apart = λ one other file is also. a.apart one other file (sym (numbers one)
        ∙ is) (sym (numbers other) ∙ also);
    others = others_same number more first old new numbers same a.others;
  }

  -- one more file was opened, at the place that had no number
  module _ (at own : ℕ) (number more : ℕ → Option ℕ) (first old new : ℕ
      → Option L) (was : number at ≡ None) (is : more at ≡ Some own)
      (others : (place : ℕ) → place ≢ at → more place ≡ number place) (unopened : old own ≡ None)
      (written : new own ≡ Some empty) (same : OtherLogs own old new)
      (a : AreOpened empty number first old) where
    -- the number at that place
    own_at : (place file : ℕ) → place ≡ at → more place ≡ Some file → own ≡ file
    own_at place file here got = let e : more place ≡ more at = ap more here in cc

    -- an earlier number is another one
    is_other : (place file : ℕ) → number place ≡ Some file → file ≢ own
    is_other place file got e =
        let h : old own ≡ Some empty = subst (λ f. old f ≡ Some empty) e (a.log place file got) in
        cc

    -- it was not open at first
    own_unopened : first own ≡ None
    own_unopened = elim (a.others own) as (λ _. first own ≡ None) [
      | inl e ↦ sym e ∙ unopened
      | inr p ↦ absurd (is_other p.0 own p.1 refl)
    ]

    opened_more : AreOpened empty more first new
    opened_more = record {
      unopened = λ place file got. elim (same_or_other place at) as (λ _. first file ≡ None) [
        | inl here ↦ subst (λ f. first f ≡ None) (own_at place file here got) own_unopened
        | inr there ↦ a.unopened place file (sym (others place there) ∙ got)
      ];
      log = λ place file got. elim (same_or_other place at) as (λ _. new file ≡ Some empty) [
        | inl here ↦ subst (λ f. new f ≡ Some empty) (own_at place file here got) written
        | inr there ↦ let before : number place ≡ Some file = sym (others place there) ∙ got in
            same file (is_other place file before) ∙ a.log place file before
      ];
      apart = λ one other file got also. elim (same_or_other one at) as (λ _. one ≡ other) [
        | inl here ↦ elim (same_or_other other at) as (λ _. one ≡ other) [
          | inl there ↦ here ∙ sym there
          | inr there ↦
              absurd (is_other other file (sym (others other there)
              ∙ also) (sym (own_at one file here got)))
        ]
        | inr here ↦ elim (same_or_other other at) as (λ _. one ≡ other) [
          | inl there ↦
              absurd (is_other one file (sym (others one here)
              ∙ got) (sym (own_at other file there also)))
          | inr there ↦ a.apart one other file (sym (others one here)
              ∙ got) (sym (others other there) ∙ also)
        ]
      ];
      others = others_more at own number more first old new was is others same a.others;
    }

-- nothing is written to files that are opened
pub opens_unwritten : (number : ℕ → Option ℕ) (old new : FilesShown)
    → AreOpened nothing_written number old.outputs new.outputs → (file : ℕ)
    → writes_of new file ≡ writes_of old file
opens_unwritten number old new a file = elim (a.others file) as
    (λ _. writes_of new file ≡ writes_of old file) [
      | inl e ↦ ap (λ (o : Option WriteLog). (unwrap_or o nothing_written).bytes) e
      | inr p ↦ ap (λ (o : Option WriteLog). (unwrap_or o nothing_written).bytes) (a.log p.0 file p.1)
          ∙ ap (λ (o : Option WriteLog). (unwrap_or o nothing_written).bytes) (sym (a.unopened p.0 file p.1))
    ]

-- what was open before has the log that it had
kept : {L : Type 0} (empty : L) (number : ℕ → Option ℕ) (old new : ℕ → Option L)
    → AreOpened empty number old new → (file : ℕ) (log : L) → old file ≡ Some log
    → new file ≡ Some log
kept empty number old new a file log was =
    elim (a.others file) as (λ _. new file ≡ Some log) [
      | inl e ↦ e ∙ was
      | inr p ↦
          absurd (let n = a.unopened p.0 file p.1 in cc)
    ]

-- what an input that was open before held is known as before
kept_held : {L : Type 0} (empty : L) (number : ℕ → Option ℕ) (old new : ℕ → Option L) (held now : ℕ
    → Option (List ℕ)) → AreOpened empty number old new → OthersKeep number held now
    → (file : ℕ) (log : L) → old file ≡ Some log → now file ≡ held file
kept_held empty number old new held now a keep file log was =
    elim (keep file) as (λ _. now file ≡ held file) [
      | inl e ↦ e
      | inr p ↦
          absurd (let n = a.unopened p.0 file p.1 in cc)
    ]

pub logs_kept : (plan : Planned) (inputs : List (Option ℕ)) (outputs : List ℕ)
    (last : Option Opening) (old new : FilesShown) → OpensFirst plan inputs outputs last old new
    → KeepsLogs old new
logs_kept plan inputs outputs last old new o = record {
  inputs = kept nothing_read (answer_at inputs) old.inputs new.inputs o.input_logs;
  outputs = kept nothing_written (slice_get outputs) old.outputs new.outputs o.output_logs;
  held = kept_held nothing_read (answer_at inputs) old.inputs new.inputs old.held new.held
      o.input_logs o.held;
}

-- no number, no other log
same_logs : {L : Type 0} (empty : L) (number : ℕ → Option ℕ) (old new : ℕ → Option L)
    → ((place : ℕ) → number place ≡ None) → AreOpened empty number old new → SameLogs old new
same_logs empty number old new none a file =
    elim (a.others file) as (λ _. new file ≡ old file) [
      | inl e ↦ e
      | inr p ↦
          absurd (let n = none p.0 in let k = p.1 in cc)
    ]

-- ---- the openings

-- nothing was opened yet
pub opens_none : (plan : Planned) (s : FilesShown) → OpensFirst plan [] [] None s s
opens_none plan s = record {
  openings = rw (no_inputs plan.inputs, no_outputs plan.outputs) (sym (append-nil s.openings));
  within_inputs = omega arith;
  within_outputs = omega arith;
  in_order = λ h. absurd (omega (arith, h));
  operands = λ place is. absurd (cc);
  refused = tt;
  input_logs = opened_none nothing_read (answer_at []) (λ place. refl) s.inputs;
  output_logs = opened_none nothing_written (slice_get []) (λ place. refl) s.outputs;
  standard_input = refl;
  held = λ file. inl refl;
  failures = refl;
  places = places_none s;
}

-- ---- the answers with one more

-- what is read of one place more
pub at_last : (answers : List (Option ℕ)) (a : Option ℕ)
    → answer_at (answers ++ a ∷ []) (length answers) ≡ a
at_last answers a = ap (λ (x : Option (Option ℕ)). unwrap_or x None) (slice_get_last answers a)

pub at_others : (answers : List (Option ℕ)) (a : Option ℕ) (place : ℕ) → place ≢ length answers
    → answer_at (answers ++ a ∷ []) place ≡ answer_at answers place
at_others answers a place other = ap (λ (x : Option (Option ℕ)). unwrap_or x None)
    (slice_get_others answers a place other)

pub at_none : (answers : List (Option ℕ)) → answer_at answers (length answers) ≡ None
at_none answers = ap (λ (x : Option (Option ℕ)). unwrap_or x None) (slice_get_none answers)

-- a missing answer leaves the numbers
pub at_missing : (answers : List (Option ℕ)) (place : ℕ)
    → answer_at (answers ++ None ∷ []) place ≡ answer_at answers place
at_missing answers place = elim (same_or_other place (length answers)) as
    (λ _. answer_at (answers ++ None ∷ []) place ≡ answer_at answers place) [
      | inl here ↦ ap (answer_at (answers ++ None ∷ [])) here ∙ at_last answers None
          ∙ sym (at_none answers) ∙ ap (answer_at answers) (sym here)
      | inr there ↦ at_others answers None place there
    ]

-- ---- one more opening

module _ (plan : Planned) (first mid now : FilesShown) where
  -- an input was answered
  input_answered : (answers : List (Option ℕ)) (a : Option ℕ) (o : InOpening)
      → slice_get plan.inputs (length answers) ≡ Some o
      → now.openings ≡ mid.openings ++ Input o.name a ∷ [] →
      (a ≡ None → o.operand ≡ true)
      → AreOpened nothing_read (answer_at (answers ++ a ∷ [])) first.inputs now.inputs
      → SameLogs mid.outputs now.outputs → now.standard_input ≡ mid.standard_input →
      OthersKeep (answer_at (answers ++ a ∷ [])) first.held now.held → now.failures ≡ mid.failures
      → SamePlaces mid now →
      OpensFirst plan answers [] None first mid
      → OpensFirst plan (answers ++ a ∷ []) [] None first now
  input_answered answers a o at entry operand logs outputs standard held failures places was =
      record {
        openings = entry ∙ ap (λ l. l ++ Input o.name a ∷ []) was.openings
            ∙ behind_inputs first.openings (input_entries plan.inputs answers)
            (output_entries plan.outputs []) (Input o.name a) (no_outputs plan.outputs)
            ∙ ap (λ l. first.openings ++ (l ++ (output_entries plan.outputs [] ++ [])))
            (sym (input_entries_more plan.inputs answers o a at));
        within_inputs = omega (
          arith,
          length-append answers (a ∷ []),
          slice_get_within plan.inputs (length answers) o at,
        );
        within_outputs = was.within_outputs;
        in_order = λ h. absurd (omega (arith, h));
        operands = λ place is. elim (same_or_other place (length answers)) as
            (λ _. IsOperandAt plan.inputs place) [
              | inl here ↦ let none : slice_get (answers ++ a ∷ []) (length answers) ≡ Some None =
                  ap (slice_get (answers ++ a ∷ [])) (sym here) ∙ is in
                  let last = slice_get_last answers a in
                  let e : a ≡ None = cc in
                  (o, ap (slice_get plan.inputs) here ∙ at, operand e)
              | inr there ↦ was.operands place (sym (slice_get_others answers a place there) ∙ is)
            ];
        refused = tt;
        input_logs = logs;
        output_logs = opened_same nothing_written (slice_get []) (slice_get []) first.outputs mid.outputs now.outputs
            (λ place. refl) outputs was.output_logs;
        standard_input = standard ∙ was.standard_input;
        held = held;
        failures = failures ∙ was.failures;
        places = places_on first mid now was.places places;
      }

  pub input_more : (answers : List (Option ℕ)) (a : Option ℕ) (o : InOpening)
      → slice_get plan.inputs (length answers) ≡ Some o → OpensOneInput o mid now (Ok a) →
      OpensFirst plan answers [] None first mid
      → OpensFirst plan (answers ++ a ∷ []) [] None first now
  input_more answers (Some file) o at does was =
      input_answered answers (Some file) o at does.openings (λ e. absurd (cc))
      (opened_more nothing_read (length answers) file (answer_at answers)
      (answer_at (answers ++ Some file ∷ [])) first.inputs mid.inputs now.inputs
      (at_none answers) (at_last answers (Some file))
      (at_others answers (Some file)) does.number does.log does.inputs was.input_logs)
      does.outputs does.standard_input
      (others_more (length answers) file (answer_at answers)
      (answer_at (answers ++ Some file ∷ [])) first.held mid.held now.held
      (at_none answers) (at_last answers (Some file))
      (at_others answers (Some file)) does.held was.held) does.failures
      (let same = does.contents in same.places) was
  input_more answers None o at does was =
      input_answered answers None o at does.1.openings (λ e. does.0)
      (opened_same nothing_read (answer_at answers)
      (answer_at (answers ++ None ∷ [])) first.inputs mid.inputs now.inputs
      (at_missing answers) does.1.inputs was.input_logs) does.1.outputs
      does.1.held.standard_input
      (others_same (answer_at answers) (answer_at (answers ++ None ∷ [])) first.held mid.held
      now.held (at_missing answers) does.1.held.held was.held) does.1.failures
      does.1.contents.places was

  pub output_more : (inputs : List (Option ℕ)) (files : List ℕ) (file : ℕ) (o : OutOpening)
      → length inputs ≡ length plan.inputs → slice_get plan.outputs (length files) ≡ Some o
      → OpensOutput o.name file mid now →
      OpensFirst plan inputs files None first mid
      → OpensFirst plan inputs (files ++ file ∷ []) None first now
  output_more inputs files file o full at does was = record {
    openings = does.openings ∙ ap (λ l. l ++ Output o.name (Some file) ∷ []) was.openings
        ∙ behind_outputs first.openings (input_entries plan.inputs inputs)
        (output_entries plan.outputs files) (Output o.name (Some file))
        ∙ ap (λ l. first.openings ++ (input_entries plan.inputs inputs ++ (l ++ [])))
        (sym (output_entries_more plan.outputs files o file at));
    within_inputs = was.within_inputs;
    within_outputs = omega (
      arith,
      length-append files (file ∷ []),
      slice_get_within plan.outputs (length files) o at,
    );
    in_order = λ h. full;
    operands = was.operands;
    refused = tt;
    input_logs = opened_same nothing_read (answer_at inputs)
        (answer_at inputs) first.inputs mid.inputs now.inputs
        (λ place. refl) does.inputs was.input_logs;
    output_logs = opened_more nothing_written (length files) file (slice_get files)
        (slice_get (files ++ file ∷ [])) first.outputs mid.outputs now.outputs
        (slice_get_none files) (slice_get_last files file)
        (slice_get_others files file) does.number does.log does.outputs was.output_logs;
    standard_input = does.held.standard_input ∙ was.standard_input;
    held = others_same (answer_at inputs) (answer_at inputs) first.held mid.held now.held
        (λ place. refl) does.held.held was.held;
    failures = does.failures ∙ was.failures;
    places = places_on first mid now was.places does.places;
  }

  -- ---- one opening that failed

  -- it was refused, and ends the openings
  opening_refused : (inputs : List (Option ℕ)) (outputs : List ℕ) (entry : Opening)
      → IsRefused plan inputs outputs entry → Refuses entry mid now →
      OpensFirst plan inputs outputs None first mid
      → OpensFirst plan inputs outputs (Some entry) first now
  opening_refused inputs outputs entry is does was = record {
    openings = does.openings ∙ ap (λ l. l ++ entry ∷ []) was.openings
        ∙ behind_all first.openings (input_entries plan.inputs inputs)
        (output_entries plan.outputs outputs) entry;
    within_inputs = was.within_inputs;
    within_outputs = was.within_outputs;
    in_order = was.in_order;
    operands = was.operands;
    refused = is;
    input_logs = opened_same nothing_read (answer_at inputs)
        (answer_at inputs) first.inputs mid.inputs now.inputs
        (λ place. refl) does.inputs was.input_logs;
    output_logs = opened_same nothing_written (slice_get outputs)
        (slice_get outputs) first.outputs mid.outputs now.outputs
        (λ place. refl) does.outputs was.output_logs;
    standard_input = does.held.standard_input ∙ was.standard_input;
    held = others_same (answer_at inputs) (answer_at inputs) first.held mid.held now.held
        (λ place. refl) does.held.held was.held;
    failures = does.failures ∙ was.failures;
    places = places_on first mid now was.places does.contents.places;
  }

  -- nothing was opened, for want of memory
  nothing_opened : (inputs : List (Option ℕ)) (outputs : List ℕ) → OpensNothing mid now
      → OpensFirst plan inputs outputs None first mid
      → OpensFirst plan inputs outputs None first now
  nothing_opened inputs outputs does was = record {
    openings = does.same.openings ∙ was.openings;
    within_inputs = was.within_inputs;
    within_outputs = was.within_outputs;
    in_order = was.in_order;
    operands = was.operands;
    refused = tt;
    input_logs = opened_same nothing_read (answer_at inputs)
        (answer_at inputs) first.inputs mid.inputs now.inputs
        (λ place. refl) does.same.inputs was.input_logs;
    output_logs = opened_same nothing_written (slice_get outputs)
        (slice_get outputs) first.outputs mid.outputs now.outputs
        (λ place. refl) does.same.outputs was.output_logs;
    standard_input = does.same.held.standard_input ∙ was.standard_input;
    held = others_same (answer_at inputs) (answer_at inputs) first.held mid.held now.held
        (λ place. refl) does.same.held.held was.held;
    failures = does.failures ∙ was.failures;
    places = places_on first mid now was.places does.same.contents.places;
  }

  -- no output was opened or tried
  untried_by : (answers : List (Option ℕ)) (last : Option Opening) → IfSome last IsInput
      → OpensFirst plan answers [] last first now → SameContents first now
      → TriesNoOutput [] last first now
  untried_by answers last is opens same = record {
    none = refl;
    input = is;
    logs = same_logs nothing_written (slice_get []) first.outputs now.outputs (λ place. refl) opens.output_logs;
    contents = same;
  }

  pub input_fails : (answers : List (Option ℕ)) (o : InOpening) (f : OpenFault)
      → slice_get plan.inputs (length answers) ≡ Some o → OpensOneInput o mid now (Err f) →
      OpensFirst plan answers [] None first mid → SameContents first now
      → FailsAhead plan first now f
  input_fails answers o (fault.InputNotOpened name) at does was same =
      let named : Refuses (Input name None) mid now =
      subst (λ n. Refuses (Input n None) mid now) does.1 does.2 in
      let opens = opening_refused answers [] (Input name None)
      (refl, refl, (o, at, does.0, does.1)) named was in
      let untried = untried_by answers (Some (Input name None)) tt opens same in
      record {
        fails = record {
          inputs = answers;
          outputs = [];
          last =
              Some (Input name None);
          opens = opens;
          fails = (refl, untried);
        };
        untried = untried;
      }
  input_fails answers o (fault.OutputNotOpened name) at does was same = absurd does
  input_fails answers o fault.NoMemory at does was same =
      let opens = nothing_opened answers [] does was in
      let untried = untried_by answers None tt opens same in
      record {
        fails = record {
          inputs = answers;
          outputs = [];
          last = None;
          opens = opens;
          fails = (refl, λ t. inr untried);
        };
        untried = untried;
      }

  pub output_fails : (known strict : Bool) (inputs : List (Option ℕ)) (files : List ℕ)
      (o : OutOpening) (f : OpenFault) → length inputs ≡ length plan.inputs
      → (IsTrue strict → missing_places inputs ≡ []) →
      slice_get plan.outputs (length files) ≡ Some o → OpensOneOutput o mid now (Err f)
      → OpensFirst plan inputs files None first mid
      → (IsTrue known → OpensDestinations plan.outputs files first now)
      → FailsIfKnown known strict plan first now f
  output_fails known strict inputs files o (fault.InputNotOpened name) full none at does was holds =
      absurd does
  output_fails known strict inputs files o
      (fault.OutputNotOpened name) full none at does was holds =
      let named : Refuses (Output name None) mid now =
      subst (λ n. Refuses (Output n None) mid now) does.0 does.1 in
      let opens = opening_refused inputs files (Output name None)
      (refl, full, (o, at, does.0)) named was in (
        record {
          inputs = inputs;
          outputs = files;
          last = Some (Output name None);
          opens =
              opens;
          fails = (refl, none);
        },
        holds,
      )
  output_fails known strict inputs files o fault.NoMemory full none at does was holds = (
    record {
      inputs = inputs;
      outputs = files;
      last = None;
      opens = nothing_opened inputs files does was;
      fails = (refl, λ t. inl (none t));
    },
    holds,
  )

-- ---- all openings

-- nothing is written, however the openings went
pub all_unwritten : (strict : Bool) (plan : Planned) (first now : FilesShown) (f : OpenFault)
    → FailsToOpen strict plan first now f → (file : ℕ) → writes_of now file ≡ writes_of first file
all_unwritten strict plan first now f fails =
    opens_unwritten (slice_get fails.outputs) first now fails.opens.output_logs

-- if no output was answered, every output has the log that it had
pub no_output_logs : (old new : ℕ → Option WriteLog)
    → AreOpened nothing_written (slice_get []) old new
    → SameLogs old new
no_output_logs old new a file = elim (a.others file) as (λ _. new file ≡ old file) [
  | inl e ↦ e
  | inr p ↦ absurd (let n = p.1 in cc)
]

-- nothing was opened, for want of memory
pub nothing_tried : (plan : Planned) (s : FilesShown) → SameContents s s
    → FailsAhead plan s s fault.NoMemory
nothing_tried plan s same =
    let untried = untried_by plan s s s [] None tt (opens_none plan s) same in
    record {
      fails = record {
        inputs = [];
        outputs = [];
        last = None;
        opens =
            opens_none plan s;
        fails = (refl, λ t. inr untried);
      };
      untried = untried;
    }

-- every input was answered, and an operand is missing
pub lacks_operand : (plan : Planned) (inputs : List (Option ℕ)) (first now : FilesShown)
    (f : OpenFault) → length inputs ≡ length plan.inputs → OpensFirst plan inputs [] None first now
    → SameContents first now → NamesMissing plan inputs f →
    LacksOperand plan first now f
lacks_operand plan inputs first now f all opens same names = record {
  inputs = inputs;
  all = all;
  opens = opens;
  names = names;
  outputs = no_output_logs first.outputs now.outputs opens.output_logs;
  contents = same;
}

-- what failed though every operand has to be there, fails in the same way if not
pub fails_as : (strict : Bool) (inputs : List (Option ℕ)) (outputs : List ℕ) (last : Option Opening)
    (first now : FilesShown) (f : OpenFault) → FailsWith true inputs outputs last first now f
    → FailsWith strict inputs outputs last first now f
fails_as strict inputs outputs last first now (fault.InputNotOpened name) fails = fails
fails_as strict inputs outputs last first now (fault.OutputNotOpened name) fails =
    (fails.0, λ t. fails.1 refl)
fails_as strict inputs outputs last first now fault.NoMemory fails =
    (fails.0, λ t. fails.1 refl)

abbrev pub as_strict : (strict : Bool) (plan : Planned) (first now : FilesShown) (f : OpenFault)
    → FailsToOpen true plan first now f → FailsToOpen strict plan first now f
as_strict strict plan first now f h = record {
  inputs = h.inputs;
  outputs = h.outputs;
  last = h.last;
  opens = h.opens;
  fails = fails_as strict h.inputs h.outputs h.last first now f h.fails;
}

-- if an operand is missing, no output was opened
missing_untried : (inputs : List (Option ℕ)) (outputs : List ℕ) (last : Option Opening)
    (first now : FilesShown) (f : OpenFault) → FailsWith true inputs outputs last first now f
    → missing_places inputs ≢ [] → SameLogs first.outputs now.outputs × SameContents first now
missing_untried inputs outputs last first now (fault.InputNotOpened name) fails some =
    (fails.1.logs, fails.1.contents)
missing_untried inputs outputs last first now (fault.OutputNotOpened name) fails some =
    absurd (some (fails.1 refl))
missing_untried inputs outputs last first now fault.NoMemory fails some =
    elim (fails.1 refl) as (λ _. SameLogs first.outputs now.outputs × SameContents first now)
    [ inl none ↦ absurd (some none) | inr untried ↦ (untried.logs, untried.contents) ]

pub strict_untried : (plan : Planned) (first now : FilesShown) (f : OpenFault)
    (fails : FailsToOpen true plan first now f) → missing_places fails.inputs ≢ []
    → SameLogs first.outputs now.outputs × SameContents first now
strict_untried plan first now f h some =
    missing_untried h.inputs h.outputs h.last first now f h.fails some

-- what an opening did, if no operand has to be there
pub opens_loosely : (plan : Planned) (first now : FilesShown)
    (result : Result OpenedFiles OpenFault) → OpensAs false plan first now result
    → Opens plan first now result
opens_loosely plan first now (Ok o) does = does.0
opens_loosely plan first now (Err f) does =
    elim does as (λ _. FailsToOpen false plan first now f) [
      | inl fails ↦ fails
      | inr lacks ↦
          absurd (false≢true lacks.0)
    ]

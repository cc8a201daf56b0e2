-- Parts that are left out of the inputs of a plan, one after another.
use Rattle.std.proofs.Common.{◌≡◌, ◌≢◌, ℕ, zero, suc, ◌+◌, ◌<◌, ◌≤◌, ◌⊎◌, inl, inr, Bool, true}
use Rattle.std.proofs.Common.{false, eqb, List, [], ◌∷◌, length, Option, Some, None, refl, sym, ap}
use Rattle.std.proofs.Common.{◌∙◌, subst, arith}
use Rattle.std.specs.Prelude.{IfSome}
use Rattle.std.specs.List.{slice_get}
use Rattle.std.proofs.lemmas.Bool.{eqb-true, eqb-false}
use Rattle.std.proofs.lemmas.Option.{none-some, same_Some}
use Rattle.collector.specs.Files.{FilesShown, nothing_read, nothing_written, SameLogs}
use Rattle.collector.specs.InputEnds.{IsHeldFirst, IsHeldLeft, IsLeftOf, LeavesOut, LeavesRest}
use Rattle.collector.specs.InputEnds.{left_out_too}
use Rattle.collector.specs.declared.needed.LeftOut.{LeftOut}
use Rattle.machine.specs.FrontLines.{first_lines}
use Rattle.collector.specs.declared.needed.NeededEnd.{NeededEnd}
use Rattle.collector.proofs.Logs.{places_on}
use Rattle.planner.specs.Planned.{Planned}
use Rattle.planner.specs.declared.plan.InOpening.{InOpening}
use Rattle.openings.specs.Answers.{answer_at}
use Rattle.openings.specs.Contents.{HoldsInputs}
use Rattle.openings.specs.Needs.{IsLeftFor, IsNeededOnly}
use Rattle.openings.specs.Openings.{AreOpened, OpensFirst, OthersKeep}
use Rattle.openings.specs.inner.LeftParts.{AreUnread, HoldsWhole, Leaves, LeavesFront, LeavesPartFor}
use Rattle.openings.specs.inner.LeftParts.{IsFrontAsked, LeavesParts, LeavesToOthers}
use Rattle.openings.proofs.lemmas.DestinationLaws.{contents_none, contents_on}

-- what is left of an input whose content is known
pub record IsRest (needed : NeededEnd) (whole : List ℕ) (held : Option (List ℕ)) : Type 0 where
  pub rest : List ℕ
  pub held_is : held ≡ Some rest
  pub is_left : IsLeftOf needed whole rest

rest_of : (needed : NeededEnd) (whole : List ℕ) (held : Option (List ℕ))
    → IsHeldLeft needed (Some whole) held → IsRest needed whole held
rest_of needed whole None left = absurd left
rest_of needed whole (Some rest) left = record { rest = rest; held_is = refl; is_left = left }

-- the same of its first lines
front_of : (n : ℕ) (whole : List ℕ) (held : Option (List ℕ)) → IsHeldFirst n (Some whole) held
    → held ≡ Some (first_lines n whole)
front_of n whole None first = absurd first
front_of n whole (Some rest) first = ap (λ (x : List ℕ). Some x) first

-- nothing was left out
pub no_parts : (plan : Planned) (answers : List (Option ℕ)) (s : FilesShown)
    → LeavesParts plan answers 0 s s
no_parts plan answers s = record {
  openings = refl;
  inputs = λ file. refl;
  outputs = λ file. refl;
  contents = contents_none s;
  standard_input = refl;
  others = λ file. inl refl;
  later = λ place file le is. refl;
  left = λ place file o whole below at is held. absurd (omega (arith, below));
  fronts = λ file. inl refl;
  failures = refl;
}

-- a front that was asked for among the first inputs was asked for among one more
asked_more : (plan : Planned) (answers : List (Option ℕ)) (count file : ℕ) (old mid now : LeftOut)
    → now ≡ mid → IsFrontAsked plan answers count file old mid
    → IsFrontAsked plan answers (count + 1) file old now
asked_more plan answers count file old mid now same a = record {
  place = a.place;
  below = omega (arith, a.below);
  answered = a.answered;
  opening = a.opening;
  at = a.at;
  node = a.node;
  of_node = a.of_node;
  needed = a.needed;
  only = a.only;
  noted = same ∙ a.noted;
}

-- what was asked for among the first inputs, if a file has the note that it had
fronts_more : (plan : Planned) (answers : List (Option ℕ)) (count file : ℕ) (old mid now : LeftOut)
    → now ≡ mid → (mid ≡ old) ⊎ IsFrontAsked plan answers count file old mid
    → (now ≡ old) ⊎ IsFrontAsked plan answers (count + 1) file old now
fronts_more plan answers count file old mid now same (inl e) = inl (same ∙ e)
fronts_more plan answers count file old mid now same (inr a) =
    inr (asked_more plan answers count file old mid now same a)

-- nothing was read of inputs that were opened
pub new_unread : (plan : Planned) (answers : List (Option ℕ)) (outputs : List ℕ)
    (first now : FilesShown) → OpensFirst plan answers outputs None first now
    → AreUnread answers now
new_unread plan answers outputs first now opens =
    let logs = opens.input_logs in
    record { unread = logs.log; apart = logs.apart }

-- nothing has been read of the next input
pub still_unread : (plan : Planned) (answers : List (Option ℕ)) (count : ℕ) (old mid : FilesShown)
    → AreUnread answers old → LeavesParts plan answers count old mid
    → (a : Option ℕ) → answer_at answers count ≡ a
    → IfSome a (λ file. mid.inputs file ≡ Some nothing_read)
still_unread plan answers count old mid unread was (Some file) is = was.inputs file
    ∙ unread.unread count file is
still_unread plan answers count old mid unread was None is = tt

module _ (plan : Planned) (answers : List (Option ℕ)) (count : ℕ) (old mid : FilesShown)
    (o : InOpening)
    (at : slice_get plan.inputs count ≡ Some o) (unread : AreUnread answers old)
    (was : LeavesParts plan answers count old mid) where
  -- nothing was left out of the next input
  front_kept : ((file : ℕ) (whole : List ℕ) → answer_at answers count ≡ Some file
      → IsLeftFor plan o.node whole whole) → LeavesParts plan answers (count + 1) old mid
  front_kept kept = record {
    openings = was.openings;
    inputs = was.inputs;
    outputs = was.outputs;
    contents = was.contents;
    standard_input = was.standard_input;
    others = was.others;
    later = λ place file le is. was.later place file (omega (arith, le)) is;
    left = λ place file p whole below there is held. by_place place file p whole below there is held
        (eqb place count) refl;
    fronts = λ file. fronts_more plan answers count file (old.left_out file) (mid.left_out file)
        (mid.left_out file) refl (was.fronts file);
    failures = was.failures;
  }
    where
      by_place : (place file : ℕ) (p : InOpening) (whole : List ℕ) → place < count + 1
          → slice_get plan.inputs place ≡ Some p → answer_at answers place ≡ Some file
          → old.held file ≡ Some whole
          → (b : Bool) → eqb place count ≡ b → (rest : List ℕ) × (mid.held file ≡ Some rest)
          × IsLeftFor plan p.node whole rest
      by_place place file p whole below there is held true e =
          let here = eqb-true place count e in
          let of_p : o ≡ p =
          same_Some o p (sym at ∙ (ap (slice_get plan.inputs) (sym here) ∙ there)) in (
            whole,
            was.later place file (omega (arith, here)) is
                ∙ held,
            subst (λ (q : InOpening). IsLeftFor plan q.node whole whole) of_p
                (kept file whole (ap (answer_at answers) (sym here) ∙ is)),
          )
      by_place place file p whole below there is held false e =
          let apart = eqb-false place count e in
          was.left place file p whole (omega (arith, below, apart)) there is held

  -- of the next input, of which something was left out, this is left
  pub record IsPart (k : ℕ) (whole : List ℕ) (held : Option (List ℕ)) : Type 0 where
    pub rest : List ℕ
    pub held_is : held ≡ Some rest
    pub is_left : IsLeftFor plan (Some k) whole rest

  -- it was asked for nothing more, or for a front that its readers do not need
  abbrev pub IsAsked : ℕ → LeftOut → LeftOut → Type 0
  IsAsked k before after = (after ≡ before)
      ⊎ ((needed : NeededEnd) × IsNeededOnly plan k needed × (after ≡ left_out_too before needed))

  module _ (now : FilesShown) (k own : ℕ) (for_node : o.node ≡ Some k)
      (answered : answer_at answers count ≡ Some own) (out : Leaves own mid now)
      (part : (whole : List ℕ) → mid.held own ≡ Some whole → IsPart k whole (now.held own))
      (asked : IsAsked k (mid.left_out own) (now.left_out own)) where
    -- an input at another place has another number
    is_other : (place file : ℕ) → answer_at answers place ≡ Some file → place ≢ count → file ≢ own
    is_other place file is apart e =
        apart (unread.apart place count own (is ∙ ap (λ (f : ℕ). Some f) e) answered)

    others_keep : OthersKeep (answer_at answers) old.held now.held
    others_keep file = by_case (eqb file own) refl
      where
        by_case : (b : Bool) → eqb file own ≡ b → (now.held file ≡ old.held file)
            ⊎ ((place : ℕ) × (answer_at answers place ≡ Some file))
        by_case true e = inr (count, answered ∙ ap (λ (f : ℕ). Some f) (sym (eqb-true file own e)))
        by_case false e = elim (was.others file) as (λ _. (now.held file ≡ old.held file)
            ⊎ ((place : ℕ) × (answer_at answers place ≡ Some file))) [
              | inl same ↦ inl (out.others file (eqb-false file own e) ∙ same)
              | inr p ↦ inr p
            ]

    here_left : (file : ℕ) (p : InOpening) (whole : List ℕ) → slice_get plan.inputs count ≡ Some p
        → answer_at answers count ≡ Some file → old.held file ≡ Some whole
        → (rest : List ℕ) × (now.held file ≡ Some rest) × IsLeftFor plan p.node whole rest
    here_left file p whole there is held =
        let same : own ≡ file = same_Some own file (sym answered ∙ is) in
        let of_p : o ≡ p = same_Some o p (sym at ∙ there) in
        let before : mid.held own ≡ Some whole = was.later count own (omega arith) answered
        ∙ (ap old.held same ∙ held) in
        let r = part whole before in
        let node_is : p.node ≡ Some k = ap (λ (q : InOpening). q.node) (sym of_p) ∙ for_node in (
          r.rest,
          ap now.held (sym same)
              ∙ r.held_is,
          subst (λ (n : Option ℕ). IsLeftFor plan n whole r.rest) (sym node_is) r.is_left,
        )

    -- nothing was asked of it before
    is_first : (mid.left_out own ≡ old.left_out own)
        ⊎ IsFrontAsked plan answers count own (old.left_out own) (mid.left_out own)
        → mid.left_out own ≡ old.left_out own
    is_first (inl e) = e
    is_first (inr a) =
        absurd (omega (arith, a.below, unread.apart a.place count own a.answered answered))

    own_asked : IsAsked k (mid.left_out own) (now.left_out own)
        → (now.left_out own ≡ old.left_out own)
        ⊎ IsFrontAsked plan answers (count + 1) own (old.left_out own) (now.left_out own)
    own_asked (inl same) = inl (same ∙ is_first (was.fronts own))
    own_asked (inr (needed, only, noted)) = inr (record {
      place = count;
      below = omega arith;
      answered = answered;
      opening = o;
      at = at;
      node = k;
      of_node = for_node;
      needed = needed;
      only = only;
      noted = noted
          ∙ ap (λ (l : LeftOut). left_out_too l needed) (is_first (was.fronts own));
    })

    fronts_left : (file : ℕ) → (now.left_out file ≡ old.left_out file)
        ⊎ IsFrontAsked plan answers (count + 1) file (old.left_out file) (now.left_out file)
    fronts_left file = by_case (eqb file own) refl
      where
        by_case : (b : Bool) → eqb file own ≡ b → (now.left_out file ≡ old.left_out file)
            ⊎ IsFrontAsked plan answers (count + 1) file (old.left_out file) (now.left_out file)
        by_case true e = subst (λ (f : ℕ). (now.left_out f ≡ old.left_out f)
            ⊎ IsFrontAsked plan answers (count + 1) f (old.left_out f) (now.left_out f))
            (sym (eqb-true file own e)) (own_asked asked)
        by_case false e = fronts_more plan answers count file (old.left_out file)
            (mid.left_out file) (now.left_out file) (out.left_out file (eqb-false file own e))
            (was.fronts file)

    front_left : LeavesParts plan answers (count + 1) old now
    front_left = record {
      openings = out.openings ∙ was.openings;
      inputs = λ file. out.inputs file ∙ was.inputs file;
      outputs = λ file. out.outputs file ∙ was.outputs file;
      contents = contents_on old mid now was.contents out.contents;
      standard_input = out.standard_input ∙ was.standard_input;
      others = others_keep;
      later = λ place file le is.
          out.others file (is_other place file is (λ e. absurd (omega (arith, le, e))))
          ∙ was.later place file (omega (arith, le)) is;
      left = λ place file p whole below there is held. by_place place file p whole below there is
          held (eqb place count) refl;
      fronts = fronts_left;
      failures = out.failures ∙ was.failures;
    }
      where
        by_place : (place file : ℕ) (p : InOpening) (whole : List ℕ) → place < count + 1
            → slice_get plan.inputs place ≡ Some p → answer_at answers place ≡ Some file
            → old.held file ≡ Some whole
            → (b : Bool) → eqb place count ≡ b → (rest : List ℕ) × (now.held file ≡ Some rest)
            × IsLeftFor plan p.node whole rest
        by_place place file p whole below there is held true e =
            let here = eqb-true place count e in
            here_left file p whole (ap (slice_get plan.inputs) (sym here)
            ∙ there) (ap (answer_at answers) (sym here) ∙ is) held
        by_place place file p whole below there is held false e =
            let apart = eqb-false place count e in
            let l = was.left place file p whole (omega (arith, below, apart)) there is held in
            (l.0, out.others file (is_other place file is apart) ∙ l.1, l.2)

  same_files : (now : FilesShown) → ((file : ℕ) (whole : List ℕ) → answer_at answers count ≡ Some file
      → IsLeftFor plan o.node whole whole) → now ≡ mid → LeavesParts plan answers (count + 1) old now
  same_files now kept e = subst (λ (s : FilesShown). LeavesParts plan answers (count + 1) old s)
      (sym e) (front_kept kept)

  -- an end of the next input is left, or its first lines
  end_part : (now : FilesShown) (k own : ℕ) (f : LeavesFront plan k own mid now) (whole : List ℕ)
      → mid.held own ≡ Some whole → IsPart k whole (now.held own)
  end_part now k own f whole before =
      let r = rest_of f.needed whole (now.held own)
      (subst (λ (h : Option (List ℕ)). IsHeldLeft f.needed h (now.held own)) before f.out.left) in
      record {
        rest = r.rest;
        held_is = r.held_is;
        is_left =
            inr (inl (record { needed = f.needed; only = f.only; left_of = r.is_left }));
      }

  front_part : (now : FilesShown) (k own : ℕ) (f : LeavesToOthers plan k own mid now)
      (whole : List ℕ) → mid.held own ≡ Some whole → IsPart k whole (now.held own)
  front_part now k own f whole before = record {
    rest = first_lines f.lines whole;
    held_is = front_of f.lines whole (now.held own)
        (subst (λ (h : Option (List ℕ)). IsHeldFirst f.lines h (now.held own)) before f.rest.first);
    is_left = inr (inr (record { lines = f.lines; read = f.read; first = refl }));
  }

  -- nothing but what this input holds changed
  pub ends_leave : (own : ℕ) (needed : NeededEnd) (now : FilesShown) → LeavesOut own needed mid now
      → Leaves own mid now
  ends_leave own needed now out = record {
    openings = out.openings;
    inputs = out.inputs;
    outputs = out.outputs;
    contents = out.contents;
    standard_input = out.standard_input;
    others = out.others;
    left_out = out.left_out;
    failures = out.failures;
  }

  -- it was noted that a front was left out, or none was
  end_asked : (now : FilesShown) (k own : ℕ) (f : LeavesFront plan k own mid now)
      → IsAsked k (mid.left_out own) (now.left_out own)
  end_asked now k own f = by_note f.out.noted
    where
      by_note : (now.left_out own ≡ left_out_too (mid.left_out own) f.needed)
          ⊎ ((now.left_out own ≡ mid.left_out own) × (now.held own ≡ mid.held own))
          → IsAsked k (mid.left_out own) (now.left_out own)
      by_note (inl noted) = inr (f.needed, f.only, noted)
      by_note (inr same) = inl same.0

  pub fronts_leave : (own n : ℕ) (now : FilesShown) → LeavesRest own n mid now → Leaves own mid now
  fronts_leave own n now out = record {
    openings = out.openings;
    inputs = out.inputs;
    outputs = out.outputs;
    contents = out.contents;
    standard_input = out.standard_input;
    others = out.others;
    left_out = λ other apart. out.left_out other;
    failures = out.failures;
  }

  -- one more input
  pub front_more : (now : FilesShown) (n a : Option ℕ) → o.node ≡ n → answer_at answers count ≡ a
      → LeavesPartFor plan n a mid now → LeavesParts plan answers (count + 1) old now
  front_more now (Some k) (Some own) for_node answered does =
      elim does as (λ _. LeavesParts plan answers (count + 1) old now) [
        | inl same ↦
            same_files now
            (λ file whole is. subst (λ (m : Option ℕ). IsLeftFor plan m whole whole) (sym for_node)
            (inl (refl, same.1))) same.0
        | inr some ↦ elim some as (λ _. LeavesParts plan answers (count + 1) old now) [
          | inl f ↦
              front_left now k own for_node answered (ends_leave own f.needed now f.out)
              (end_part now k own f) (end_asked now k own f)
          | inr f ↦
              front_left now k own for_node answered (fronts_leave own f.lines now f.rest)
              (front_part now k own f) (inl (f.rest.left_out own))
        ]
      ]
  front_more now (Some k) None for_node answered does =
      same_files now (λ file whole is. absurd (none-some file (sym answered ∙ is))) does
  front_more now None a for_node answered does =
      same_files now
      (λ file whole is. subst (λ (m : Option ℕ). IsLeftFor plan m whole whole) (sym for_node) refl)
      does

-- ---- the openings of a plan, and then the parts

answered_within : (answers : List (Option ℕ)) (place file : ℕ) → answer_at answers place ≡ Some file
    → place < length answers
answered_within [] place file is = absurd (cc)
answered_within (a ∷ answers) zero file is = omega arith
answered_within (a ∷ answers) (suc place) file is =
    let h = answered_within answers place file is in
    omega (arith, h)

module _ (plan : Planned) (inputs : List (Option ℕ)) (first mid now : FilesShown) (count : ℕ)
    (fronts : LeavesParts plan inputs count mid now) where
  -- what was opened is as it was
  opened_still : {L : Type 0} (empty : L) (number : ℕ → Option ℕ) (a b c : ℕ → Option L)
      → SameLogs b c → AreOpened empty number a b → AreOpened empty number a c
  opened_still empty number a b c same was = record {
    unopened = was.unopened;
    log = λ place file is. same file ∙ was.log place file is;
    apart = was.apart;
    others = λ file. elim (was.others file) as (λ _. (c file ≡ a file)
        ⊎ ((place : ℕ) × (number place ≡ Some file))) [
          | inl e ↦ inl (same file ∙ e)
          | inr p ↦
              inr p
        ];
  }

  pub opens_still : (outputs : List ℕ) → OpensFirst plan inputs outputs None first mid
      → OpensFirst plan inputs outputs None first now
  opens_still outputs was = record {
    openings = fronts.openings ∙ was.openings;
    within_inputs = was.within_inputs;
    within_outputs = was.within_outputs;
    in_order = was.in_order;
    operands = was.operands;
    refused = was.refused;
    input_logs = opened_still nothing_read
        (answer_at inputs) first.inputs mid.inputs now.inputs fronts.inputs was.input_logs;
    output_logs = opened_still nothing_written (slice_get outputs) first.outputs mid.outputs now.outputs
        fronts.outputs was.output_logs;
    standard_input = fronts.standard_input ∙ was.standard_input;
    held = λ file. elim (fronts.others file) as (λ _. (now.held file ≡ first.held file)
        ⊎ ((place : ℕ) × (answer_at inputs place ≡ Some file))) [
          | inl e ↦ elim (was.held file) as (λ _. (now.held file ≡ first.held file)
              ⊎ ((place : ℕ) × (answer_at inputs place ≡ Some file))) [
                | inl f ↦ inl (e ∙ f)
                | inr p ↦
                    inr p
              ]
          | inr p ↦ inr p
        ];
    failures = fronts.failures ∙ was.failures;
    places = let same = fronts.contents in places_on first mid now was.places same.places;
  }

  -- each input has to give what is left of what its file held
  pub inputs_left : length inputs ≤ count → HoldsWhole plan inputs first mid
      → HoldsInputs plan inputs first now
  inputs_left all whole place file o at is =
      let h = whole place file o at is in
      let below = answered_within inputs place file is in
      let l = fronts.left place file o h.content (omega (arith, all, below)) at is h.held in
      record { content = h.content; given = h.given; left = l.0; held = l.1; is_left = l.2 }

-- The plan of stages, put together from its parts.
use Rattle.std.proofs.Common.{◌≡◌, ℕ, suc, ◌<◌, ◌-◌, inl, inr, Bool, List, [], ◌∷◌, length, map}
use Rattle.std.proofs.Common.{Option, Some, None, Result, Ok, Err, MatchOption, IfOk, refl, sym, ap}
use Rattle.std.proofs.Common.{◌∙◌, subst, arith}
use Rattle.std.specs.List.{All}
use Rattle.std.specs.Global.{Vec}
use Rattle.std.proofs.lemmas.List.Elements.{All-cons}
use Rattle.command_words.specs.Texts.{◌>>=◌}
use Rattle.command_words.specs.declared.fault.ArgFault.{ArgFault}
use Rattle.command_words.specs.declared.fault.ArgFault.TheVariants as arg
use Rattle.commands.specs.Filters.{filter_means}
use Rattle.commands.specs.declared.spec.FilterSpec.{FilterSpec}
use Rattle.pipeline_text.specs.declared.script.Script.{Script}
use Rattle.graphs.specs.Orders.{HasNoOrder, IsPlannedOrder}
use Rattle.graphs.specs.Uses.{AreUses}
use Rattle.graphs.specs.declared.uses.Uses.{Uses}
use Rattle.graphs.proofs.OrderLaws.{planned_is_order}
use Rattle.planner.specs.declared.fault.PlanFault.{PlanFault}
use Rattle.planner.specs.declared.fault.PlanFault.TheVariants as fault
use Rattle.planner.specs.declared.place.End.{End}
use Rattle.planner.specs.declared.plan.InOpening.{InOpening}
use Rattle.planner.specs.declared.plan.Node.{Node}
use Rattle.planner.specs.declared.plan.NodeName.{NodeName}
use Rattle.planner.specs.declared.plan.NodeName.TheVariants.{StageAt}
use Rattle.planner.specs.declared.plan.OutOpening.{OutOpening}
use Rattle.planner.specs.declared.plan.Pipe.{Pipe}
use Rattle.planner.specs.Places.{Stage}
use Rattle.planner.specs.Ends.{in_ends, out_ends, stage_pipes}
use Rattle.planner.specs.Faults.{AreAbsent, all_read, all_written, HasCycle, MeetsFaults, IsFirst}
use Rattle.planner.specs.Faults.{fifo_faults, later_faults, the_faults}
use Rattle.planner.specs.Laws.{AreInTurn}
use Rattle.planner.specs.Openings.{opened_inputs, opened_outputs}
use Rattle.planner.specs.Planned.{Planned, plan_of, joined, PlansStages, PlansOrdered, MeetsPlan}
use Rattle.planner.specs.Planned.{MeetsFault}
use Rattle.planner.specs.inner.Reads.{IsArgFault}
use Rattle.planner.specs.Stages.{PlacedCommand, placed, stages, stage_of, stage_with, stages_of}
use Rattle.planner.specs.Stages.{is_negated}
use Rattle.planner.specs.Tables.{names_of, number_of, pipes_of, ends_of, nodes_of}
use Rattle.planner.proofs.lemmas.RankLaws.{absent_append, meets_behind}
use Rattle.planner.proofs.lemmas.RiseLaws.{pipes_rise_of, joined_within}
use Rattle.planner.proofs.lemmas.PlacedCommands.{stages_apart}

-- what holds of an answer, and follows
pub if_ok_more : {A E : Type 0} (P Q : A → Type 0) (r : Result A E) → ((x : A) → P x → Q x)
    → IfOk r P → IfOk r Q
if_ok_more P Q (Ok x) f p = f x p
if_ok_more P Q (Err e) f p = p

module _ (fifos : List (List ℕ)) (ss : List Stage) (order : List ℕ) where
  -- the pipes rise, as their parts were made
  pub rising : (nodes : List Node) (pipes : List Pipe) (names : List NodeName) (ends : List (ℕ × ℕ))
      (ins : List End) (outs : List End) → AreInTurn 0 ss
      → IsPlannedOrder (length ss) (joined fifos ss) order
      → ins ≡ in_ends fifos ss → outs ≡ out_ends fifos ss → names ≡ names_of ins outs order
      → pipes ≡ pipes_of ins outs order → nodes ≡ nodes_of fifos ss ins outs order
      → ends ≡ map (ends_of names) pipes
      → All (λ (e : ℕ × ℕ). (e.0 < e.1) × (e.1 < length nodes)) ends
  rising nodes pipes names ends ins outs turn planned i o n p d e =
      rw (e, d, n, p, i, o) (pipes_rise_of fifos ss order turn planned)

  -- the parts are those of the plan
  pub put_together : (negated : Bool) (nodes : List Node) (pipes : List Pipe)
      (names : List NodeName) (ends : List (ℕ × ℕ)) (inputs : List InOpening)
      (outputs : List OutOpening) (number : ℕ) (ins : List End) (outs : List End)
      → ins ≡ in_ends fifos ss → outs ≡ out_ends fifos ss → names ≡ names_of ins outs order
      → pipes ≡ pipes_of ins outs order → nodes ≡ nodes_of fifos ss ins outs order
      → ends ≡ map (ends_of names) pipes
      → inputs ≡ opened_inputs fifos names ss → outputs ≡ opened_outputs fifos names ss
      → number ≡ number_of names (StageAt (length ss - 1))
      → record {
        nodes = nodes;
        pipes = ends;
        inputs = inputs;
        outputs = outputs;
        result =
            (number, negated);
      } ≡ plan_of fifos ss negated order
  put_together negated nodes pipes names ends inputs outputs number ins outs i o n p d e a b k =
      rw (k, e, a, b, d, n, p, i, o) refl

-- if there is no order there is a cycle, and if there is one there is none
pub cycle_there : (fifos : List (List ℕ)) (ss : List Stage) (n : ℕ) (ins : List End)
    (outs : List End) (found : Option (Vec ℕ)) → ins ≡ in_ends fifos ss → outs ≡ out_ends fifos ss
    → found ≡ None
    → MatchOption found (HasNoOrder (stage_pipes ins outs))
    (λ order. IsPlannedOrder n (stage_pipes ins outs) order.items) → HasCycle fifos ss
cycle_there fifos ss n ins outs found i o e m =
    let P : Option (Vec ℕ) → Type 0 = λ f. MatchOption f (HasNoOrder (stage_pipes ins outs))
    (λ order. IsPlannedOrder n (stage_pipes ins outs) order.items) in
    subst (λ xs. HasNoOrder (stage_pipes xs (out_ends fifos ss))) i
    (subst (λ xs. HasNoOrder (stage_pipes ins xs)) o (subst P e m))

pub order_there : (fifos : List (List ℕ)) (ss : List Stage) (n : ℕ) (ins : List End)
    (outs : List End) (found : Option (Vec ℕ)) (order : Vec ℕ) → ins ≡ in_ends fifos ss
    → outs ≡ out_ends fifos ss → found ≡ Some order
    → MatchOption found (HasNoOrder (stage_pipes ins outs))
    (λ order. IsPlannedOrder n (stage_pipes ins outs) order.items)
    → IsPlannedOrder n (joined fifos ss) order.items
order_there fifos ss n ins outs found order i o e m =
    let P : Option (Vec ℕ) → Type 0 = λ f. MatchOption f (HasNoOrder (stage_pipes ins outs))
    (λ order. IsPlannedOrder n (stage_pipes ins outs) order.items) in
    subst (λ xs. IsPlannedOrder n (stage_pipes xs (out_ends fifos ss)) order.items) i
    (subst (λ xs. IsPlannedOrder n (stage_pipes ins xs) order.items) o (subst P e m))

pub no_cycle : (fifos : List (List ℕ)) (ss : List Stage) (order : List ℕ) → AreInTurn 0 ss
    → IsPlannedOrder (length ss) (joined fifos ss) order → HasCycle fifos ss → ⊥
no_cycle fifos ss order turn planned none =
    let (place, ordered) = planned_is_order (length ss) (joined fifos ss) order
    (joined_within fifos ss order turn planned) planned in
    none place ordered

-- the uses of the names in stages are those in the stages that are lent
pub uses_lent : (fifos : List (List ℕ)) (ss lent : List Stage) (uses taken : List Uses)
    → lent ≡ ss → taken ≡ uses → AreUses fifos (all_read lent) (all_written lent) uses
    → AreUses fifos (all_read ss) (all_written ss) taken
uses_lent fifos ss lent uses taken e f h = rw (← e, f) h

pub uses_kept : (fifos : List (List ℕ)) (lent ss : List Stage) (uses : List Uses) → lent ≡ ss
    → AreUses fifos (all_read ss) (all_written ss) uses
    → AreUses fifos (all_read lent) (all_written lent) uses
uses_kept fifos lent ss uses e h = rw e h

-- the plan of stages, if the FIFOs are used as they must be
pub plans_from : (fifos : List (List ℕ)) (ss : List Stage) (negated : Bool)
    (r : Result Planned PlanFault) → AreAbsent fifos ss fifo_faults
    → PlansOrdered fifos ss negated r → PlansStages fifos ss negated r
plans_from fifos ss negated (Ok plan) a (b, c) =
    (absent_append fifos ss fifo_faults (fault.Cycle ∷ later_faults) a b, c)
plans_from fifos ss negated (Err f) a m =
    meets_behind fifos ss Planned Planned fifo_faults (fault.Cycle ∷ later_faults) f a m

-- the filter of a stage is what its words mean
first_means : (c : PlacedCommand) (s : Stage) → stage_of c ≡ Some s
    → filter_means s.command.words ≡ Some s.filter
first_means c s e = go (filter_means c.command.words) refl
  where
    go : (o : Option FilterSpec) → filter_means c.command.words ≡ o
        → filter_means s.command.words ≡ Some s.filter
    go None a =
        absurd (cc (sym e ∙ ap (λ q. q >>= λ (filter : FilterSpec). Some (stage_with c filter)) a))
    go (Some filter) a =
        let same : stage_with c filter ≡ s =
        cc (sym (ap (λ q. q >>= λ (filter : FilterSpec). Some (stage_with c filter)) a) ∙ e) in
        subst (λ (t : Stage). filter_means t.command.words ≡ Some t.filter) same a

-- words are none of the faults of a graph
abbrev IsOther : PlanFault → Type 0
IsOther (fault.Arg stage f) = ⊥
IsOther _ = Unit {0}

abbrev AreOther : List PlanFault → Type 0
AreOther [] = Unit {0}
AreOther (g ∷ gs) = IsOther g × AreOther gs

no_arg_in : (fifos : List (List ℕ)) (ss : List Stage) (gs : List PlanFault) (stage : ℕ)
    (f : ArgFault) → AreOther gs → IsFirst fifos ss gs (fault.Arg stage f) → ⊥
no_arg_in fifos ss [] stage f a h = h
no_arg_in fifos ss (g ∷ gs) stage f a (inl h) = subst IsOther (sym h.0) a.0
no_arg_in fifos ss (g ∷ gs) stage f a (inr h) = no_arg_in fifos ss gs stage f a.1 h.1

no_arg : (fifos : List (List ℕ)) (ss : List Stage) (stage : ℕ) (f : ArgFault)
    → IsFirst fifos ss the_faults (fault.Arg stage f) → ⊥
no_arg fifos ss stage f h = no_arg_in fifos ss the_faults stage f
    (tt, (tt, (tt, (tt, (tt, (tt, (tt, (tt, (tt, (tt, (tt, tt))))))))))) h

-- the filter of each stage is what its words mean
pub stages_mean : (cs : List PlacedCommand) (ss : List Stage) → stages_of cs ≡ Some ss
    → All (λ (s : Stage). filter_means s.command.words ≡ Some s.filter) ss
stages_mean [] ss e =
    let n : [] ≡ ss = cc e in
    subst (λ (us : List Stage). All (λ (s : Stage). filter_means s.command.words
    ≡ Some s.filter) us) n (λ k d l. absurd (omega (arith, l)))
stages_mean (c ∷ cs) ss e =
    let a = stages_apart c cs ss e in
    subst (λ (us : List Stage). All (λ (s : Stage). filter_means s.command.words
    ≡ Some s.filter) us) (sym a.are)
    (All-cons (λ (s : Stage). filter_means s.command.words ≡ Some s.filter) a.first a.others
    (first_means c a.first a.first_means) (stages_mean cs a.others a.others_mean))

-- why a script is refused
pub refused : (s : Script) (ss : List Stage) (negated : Bool) → stages s ≡ Some ss → (f : PlanFault)
    → MeetsFaults {A = Planned} s.fifos ss the_faults (Err f) → MeetsFault s f
refused s ss negated m fault.NoMemory h = tt
refused s ss negated m (fault.Arg stage f) h = absurd (no_arg s.fifos ss stage f h)
refused s ss negated m _ h = record { ss = ss; means = m; first = h }

pub unread : (s : Script) (f : PlanFault) → IsArgFault 0 (placed s) f → MeetsFault s f
unread s fault.NoMemory h = tt
unread s (fault.Arg stage arg.NoMemory) h = tt
unread s (fault.Arg stage f) (i, e, m) =
    let n : suc i ≡ stage = omega (arith, e) in
    subst (λ k. MeetsFault s (fault.Arg k f)) n m
unread s _ h = absurd h

pub planned_script : (s : Script) (ss : List Stage) (negated : Bool)
    → negated ≡ is_negated s.pipelines → stages s ≡ Some ss → (r : Result Planned PlanFault)
    → PlansStages s.fifos ss negated r → MeetsPlan s r
planned_script s ss negated n m (Ok plan) (a, (order, p, e)) =
    record {
      ss = ss;
      means = m;
      legal = a;
      order = order;
      planned = p;
      is = e
          ∙ ap (λ b. plan_of s.fifos ss b order) n;
    }
planned_script s ss negated n m (Err f) h = refused s ss negated m f h

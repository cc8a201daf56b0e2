-- A sink that settles, takes items and writes them keeps its case.
use Rattle.std.proofs.Common.{◌≡◌, List, [], ◌++◌, refl, sym, ap, ◌∙◌, subst, append_assoc}
use Rattle.std.proofs.Common.{append-nil, ℕ, Bool, true, false}
use Rattle.machine.specs.Items.{bytes_of, has_close}
use Rattle.bounded_pipe.specs.Ends.{ReadsOn}
use Rattle.bounded_pipe.specs.Pipes.{bytes_taken}
use Rattle.collector.specs.Files.{WriteLog, SettlesAll, SettlesSome}
use Rattle.collector.specs.Sources.{SinkKeeps, SinkCase}
use Rattle.collector.specs.Nodes.{SinkShown, SinkFits, IsUnended, IsIdle, SinkSays, sink_part}
use Rattle.collector.specs.inner.Joins.{Took, PassesOn, TakesNext, state_next}
use Rattle.collector.specs.inner.Parts.{SinkGoesOn, IsFinishAnswer, state_settled}
use Rattle.run_types.specs.declared.node_state.NodeFault.TheVariants as faults
use Rattle.run_types.specs.declared.node_state.NodeState.{NodeState}
use Rattle.run_types.specs.declared.node_state.NodeState.TheVariants as states
use Rattle.run_types.specs.declared.step.Step.{Step}
use Rattle.run_types.specs.declared.step.Step.TheVariants as steps

-- a sink that has settled all is as it was
pub settled_same : (x y : SinkShown) (all : Bool) → x.state ≡ states.Running → all ≡ true
    → y ≡ record x { state = state_settled all } → y ≡ x
settled_same x y all running is e = e
    ∙ ap (λ (b : Bool). record x { state = state_settled b }) is
    ∙ ap (λ (s : NodeState). record x { state = s }) (sym running)

-- bytes that were taken were passed on
pub passed_next : (x z : SinkShown) (bytes : List ℕ) (step : Step) (old new : WriteLog)
    → Took x.end z.end bytes false → PassesOn bytes step old new → TakesNext x z step old new
passed_next x z bytes steps.Moved old new took told = (bytes, took, told)
passed_next x z bytes steps.Failed old new took told = (bytes, false, took, told)
passed_next x z bytes _ old new took told = absurd told

-- Close was taken, and the output ended, or that failed
pub finished_next : (x z : SinkShown) (step : Step) (old new : WriteLog) → IsFinishAnswer step
    → Took x.end z.end [] true → new ≡ old → old.out ≡ [] → TakesNext x z step old new
finished_next x z steps.Ended old new says took e settled = (took, e)
finished_next x z steps.Failed old new says took e settled = (
  [],
  true,
  took,
  (
    [],
    ([], refl),
    e ∙ ap (λ (l : List ℕ). record { bytes = l; out = old.out }) (sym (append-nil old.bytes))
        ∙ ap (λ (l : List ℕ). record { bytes = old.bytes ++ []; out = l }) settled,
  ),
)
finished_next x z _ old new says took e settled = absurd says

module _ (x : SinkShown) (running : x.state ≡ states.Running) where
  -- what a sink that runs keeps
  kept : (log : WriteLog) → SinkFits log x → SinkKeeps (sink_part log x) x.end
  kept log f = subst (λ (s : NodeState). SinkCase (sink_part log x) s x.end) running f

  -- all that was out is written
  pub settled_fits : (old new : WriteLog) → SettlesAll old new → SinkFits old x → SinkFits new x
  settled_fits old new all f =
      let settled : WriteLog = record { bytes = old.bytes ++ old.out; out = [] } in
      subst (λ (l : WriteLog). SinkFits l x) (sym all)
      (subst (λ (s : NodeState). SinkCase (sink_part settled x) s x.end) (sym running) (record {
        bytes = append-nil (old.bytes ++ old.out) ∙ (kept old f).bytes;
        stays = (kept old f).stays;
      }))

  -- a write of what was out has failed
  pub failed_fits : (old new : WriteLog) → SettlesSome old new → SinkFits old x
      → SinkFits new (record x { state = states.Failed faults.WriteFault })
  failed_fits old new (front, (tail, is), e) f =
      subst (λ (l : WriteLog). SinkFits l (record x { state = states.Failed faults.WriteFault }))
      (sym e) (
        (
          tail,
          append_assoc old.bytes front tail
              ∙ (ap (λ l. old.bytes ++ l) is ∙ (kept old f).bytes),
        ),
        refl,
      )

  -- nothing was out, and what was next was taken and passed on
  module _ (z : SinkShown) (old new : WriteLog) (settled : old.out ≡ []) where
    -- all that was taken was written
    whole : SinkFits old x → old.bytes ≡ bytes_taken x.end
    whole f = sym (append-nil old.bytes)
        ∙ (ap (λ l. old.bytes ++ l) (sym settled) ∙ (kept old f).bytes)

    pub next_fits : (step : Step) → TakesNext x z step old new
        → z ≡ record x { end = z.end; state = state_next step } → SinkFits old x → SinkFits new z
    next_fits steps.Moved (bytes, took, told) is f =
        subst (λ (s : SinkShown). SinkFits new s) (sym is) (record {
          bytes = told ∙ (ap (λ l. l ++ bytes) (whole f) ∙ sym took.taken);
          stays = took.stays ∙ (kept old f).stays;
        })
    next_fits (steps.Waits pipe) (own, same, on, none, e) is f =
        subst (λ (s : SinkShown). SinkFits new s) (sym is)
        (subst (λ (l : WriteLog). SinkFits l (record x { end = z.end; state = states.Running }))
        (sym e) (record {
          bytes = (kept old f).bytes ∙ sym (ap bytes_of same.taken);
          stays = same.hung_up ∙ (kept old f).stays;
        }))
    next_fits steps.Ended (took, e) is f =
        subst (λ (s : SinkShown). SinkFits new s) (sym is)
        (subst (λ (l : WriteLog). SinkFits l (record x { end = z.end; state = states.Ended }))
        (sym e) (
          record {
            bytes = (kept old f).bytes
                ∙ (sym (append-nil (bytes_taken x.end)) ∙ sym took.taken);
            stays = took.stays ∙ (kept old f).stays;
          },
          took.end,
          settled,
        ))
    next_fits steps.Failed (bytes, last, took, (front, (tail, part), e)) is f =
        subst (λ (s : SinkShown). SinkFits new s) (sym is)
        (subst (λ (l : WriteLog). SinkFits l
        (record x { end = z.end; state = states.Failed faults.WriteFault })) (sym e) (
          (
            tail,
            append_assoc old.bytes front tail
                ∙ (ap (λ l. old.bytes ++ l) part
                ∙ (ap (λ l. l ++ bytes) (whole f) ∙ sym took.taken)),
          ),
          refl,
        ))
    next_fits _ told is f = absurd told

    state_is : (step : Step) → z ≡ record x { end = z.end; state = state_next step }
        → z.state ≡ state_next step
    state_is step is = ap (λ (s : SinkShown). s.state) is

    pub next_unended : (step : Step) → TakesNext x z step old new
        → z ≡ record x { end = z.end; state = state_next step } → IsUnended x → IsUnended z
    next_unended steps.Moved (bytes, took, told) is u = λ _. took.end ∙ u running
    next_unended (steps.Waits pipe) (own, same, on, none, e) is u = λ _.
        ap has_close same.taken ∙ u running
    next_unended steps.Ended told is u = λ r.
        let ended : states.Ended ≡ states.Running = sym (state_is steps.Ended is) ∙ r in
        absurd (cc ended)
    next_unended steps.Failed told is u = λ r.
        let failed : states.Failed faults.WriteFault ≡ states.Running =
        sym (state_is steps.Failed is) ∙ r in
        absurd (cc failed)
    next_unended _ told is u = absurd told

    pub next_says : (step : Step) → TakesNext x z step old new
        → z ≡ record x { end = z.end; state = state_next step } → SinkSays x z step
    next_says steps.Moved (bytes, took, told) is = (state_is steps.Moved is, took.moved)
    next_says (steps.Waits pipe) (own, same, on, none, e) is = record {
      own = own ∙ sym (ap (λ (s : SinkShown). s.pipe) is);
      running = state_is (steps.Waits pipe) is;
      same = same;
      empty = none;
    }
    next_says steps.Ended told is = state_is steps.Ended is
    next_says steps.Failed told is = state_is steps.Failed is
    next_says _ told is = absurd told

    reads_on : (step : Step) → TakesNext x z step old new → ReadsOn x.end z.end
    reads_on steps.Moved (bytes, took, told) = took.goes_on
    reads_on (steps.Waits pipe) (own, same, on, none, e) = on
    reads_on steps.Ended (took, e) = took.goes_on
    reads_on steps.Failed (bytes, last, took, told) = took.goes_on
    reads_on _ told = absurd told

    pub next_goes_on : (step : Step) → TakesNext x z step old new
        → z ≡ record x { end = z.end; state = state_next step } → SinkGoesOn x z
    next_goes_on step told is = record {
      same = record {
        pipe = ap (λ (s : SinkShown). s.pipe) is;
        file = ap (λ (s : SinkShown). s.file) is;
        name = ap (λ (s : SinkShown). s.name) is;
      };
      end = reads_on step told;
    }

    pub next_idle : (step : Step) → TakesNext x z step old new → IsIdle step new.out
    next_idle steps.Moved told = tt
    next_idle (steps.Waits pipe) (own, same, on, none, e) =
        ap (λ (l : WriteLog). l.out) e ∙ settled
    next_idle steps.Ended (took, e) = ap (λ (l : WriteLog). l.out) e ∙ settled
    next_idle steps.Failed (bytes, last, took, (front, part, e)) = ap (λ (l : WriteLog). l.out) e
    next_idle _ told = absurd told

-- The worked scripts.
use Rattle.std.proofs.Common.{◌≡◌, ℕ, zero, suc, ◌<◌, Bool, true, false, List, [], ◌∷◌, map, Some}
use Rattle.std.proofs.Common.{refl, sym, ap, subst, inl, inr, ⊎_elim, append-nil, arith}
use Rattle.std.proofs.lemmas.Bool.{false≢true}
use Rattle.machine.specs.Law.{IsLawful as ObeysLaw}
use Rattle.machine.specs.declared.piece.Item.TheVariants.{Bytes}
use Rattle.bounded_pipe.specs.Ends.{Reading}
use Rattle.bounded_pipe.specs.Names.{PipeName}
use Rattle.bounded_pipe.specs.Pipes.{is_at_end, IsSound}
use Rattle.stages.specs.Stages.{ended_on}
use Rattle.std.specs.List.{AllByRecursion}
use Rattle.graphs.specs.Graph.{node_at, Reads, IsAmong, AreAll, IsPlan}
use Rattle.network_laws.specs.Sequential.{answer}
use Rattle.collector.specs.Sources.{SourceKeeps, SinkKeeps}
use Rattle.network_laws.specs.State.{NodeCase, node_state_of, IsFailed, NoNode, CaseOfSource}
use Rattle.network_laws.specs.State.{CaseOfStage, CaseOfSink}
use Rattle.network_laws.specs.Waits.{WaitsFor, IsStuck, SourceFull, StageFull, StageEmpty}
use Rattle.network_laws.specs.Waits.{SinkEmpty}
use Rattle.network_laws.specs.Outcome.{HasRead, HasWritten, AreWaits, IsNamed}
use Rattle.network_laws.specs.Start.{new_sink}
use Rattle.network_laws.specs.Worked.{upper_graph, head_graph, tee_graph, stall_graph, upper_case}
use Rattle.network_laws.specs.Worked.{upper_setup, upper_put, upper_taken, upper_part, upper_state}
use Rattle.network_laws.specs.Worked.{stall_setup, stall_put, stall_taken, stall_part, stall_state}
use Rattle.network_laws.specs.Worked.{stall_run, stall_waits, writing_of, reading_of, wants_first}
use Rattle.network_laws.specs.Worked.{last_line, pastes, AreWorkedAnswers, WorkedRunIsLawful}
use Rattle.network_laws.specs.Worked.{WorkedStallIsTrue}
use Rattle.run_types.specs.declared.node_state.NodeState.TheVariants.{Running}
use Rattle.network_laws.proofs.lemmas.WireLaws.{source_wired, sink_wired, stage_wired, writes_are}
use Rattle.network_laws.proofs.lemmas.WireLaws.{reads_are, only_write, only_read, plan_from}

pub upper_plan : IsPlan upper_graph
upper_plan = plan_from upper_graph ((omega arith, omega arith), ((omega arith, omega arith), tt)) (
  source_wired upper_graph 0 0 refl refl,
  (
    stage_wired upper_graph 1 (0 ∷ []) (Some 1 ∷ []) refl refl,
    (sink_wired upper_graph 2 1 refl refl, tt),
  ),
)
    (omega arith)

pub head_plan : IsPlan head_graph
head_plan = plan_from head_graph (
  (omega arith, omega arith),
  ((omega arith, omega arith), ((omega arith, omega arith), tt)),
) (
  source_wired head_graph 0 0 refl refl,
  (
    stage_wired head_graph 1 (0 ∷ []) (Some 1 ∷ []) refl refl,
    (
      stage_wired head_graph 2 (1 ∷ []) (Some 2 ∷ []) refl refl,
      (sink_wired head_graph 3 2 refl refl, tt),
    ),
  ),
)
    (omega arith)

pub tee_plan : IsPlan tee_graph
tee_plan = plan_from tee_graph (
  (omega arith, omega arith),
  (
    (omega arith, omega arith),
    (
      (omega arith, omega arith),
      ((omega arith, omega arith), ((omega arith, omega arith), tt)),
    ),
  ),
) (
  source_wired tee_graph 0 0 refl refl,
  (
    stage_wired tee_graph 1 (0 ∷ []) (Some 1 ∷ Some 2 ∷ []) refl refl,
    (
      stage_wired tee_graph 2 (1 ∷ []) (Some 3 ∷ []) refl refl,
      (
        stage_wired tee_graph 3 (2 ∷ []) (Some 4 ∷ []) refl refl,
        (sink_wired tee_graph 4 3 refl refl, (sink_wired tee_graph 5 4 refl refl, tt)),
      ),
    ),
  ),
)
    (omega arith)

-- two pipes in the other order
two_swapped : (P : ℕ → Type 0) (a b : ℕ) → AreAll P (a ∷ b ∷ []) → AreAll P (b ∷ a ∷ [])
two_swapped P a b h = record {
  each = λ p. ((λ x. swapped p a b ((h.each p).0 x)), (λ m. (h.each p).1 (swapped p b a m)));
  once = ((λ m. ⊎_elim (λ e. h.once.0 (inl (sym e))) (λ none. none) m), ((λ m. m), tt));
}
  where
    swapped : (p a b : ℕ) → IsAmong p (a ∷ b ∷ []) → IsAmong p (b ∷ a ∷ [])
    swapped p a b m = ⊎_elim (λ e. inr (inl e)) (λ n. ⊎_elim (λ e. inl e) (λ none. absurd none) n) m

pub stall_plan : IsPlan stall_graph
stall_plan = plan_from stall_graph (
  (omega arith, omega arith),
  (
    (omega arith, omega arith),
    (
      (omega arith, omega arith),
      ((omega arith, omega arith), ((omega arith, omega arith), tt)),
    ),
  ),
) (
  source_wired stall_graph 0 0 refl refl,
  (
    stage_wired stall_graph 1 (0 ∷ []) (Some 1 ∷ Some 2 ∷ []) refl refl,
    (
      stage_wired stall_graph 2 (1 ∷ []) (Some 3 ∷ []) refl refl,
      (
        (
          two_swapped (Reads stall_graph 3) 2 3 (reads_are stall_graph 3 (2 ∷ 3 ∷ []) refl),
          writes_are stall_graph 3 (4 ∷ []) refl,
        ),
        (sink_wired stall_graph 4 4 refl refl, tt),
      ),
    ),
  ),
)
    (omega arith)

pub worked_answers : AreWorkedAnswers
unfolding answer
worked_answers = record {
  upper_plan = upper_plan;
  upper = refl;
  head_plan = head_plan;
  head = refl;
  tee_plan = tee_plan;
  tee_first = refl;
  tee_second = refl;
  tee_status = refl;
  paste_plan = stall_plan;
  paste = refl;
}

-- the machine of a worked stage
first_lawful : (inputs : ℕ) (rest : (ℕ → List ℕ) → List ℕ) → 0 < inputs
    → ObeysLaw (wants_first inputs rest)
first_lawful inputs rest lt = record {
  wants = λ i e. let z : 0 ≡ i = cc e in
      subst (λ (j : ℕ). (j < inputs) × (false ≡ false)) z (lt, refl);
  finished = λ e. absurd (cc e);
}

-- no input has ended on which no Close was taken
none_ended : (ins : List Reading) → AllByRecursion (λ r. is_at_end r ≡ false) ins → (j : ℕ)
    → false ≡ ended_on ins j
none_ended [] a j = refl
none_ended (r ∷ ins) a zero = sym a.0
none_ended (r ∷ ins) a (suc j) = none_ended ins a.1 j

upper_sound : (names : ℕ → PipeName) (p : ℕ) → p < 2
    → IsSound 2 (writing_of (names p) (upper_put p)) (reading_of (names p) (upper_taken p))
upper_sound names zero l = record {
  ends = record {
    pipe = refl;
    order = ([], refl);
    within = omega arith;
    light =
        omega arith;
    noted = λ e. absurd (false≢true e);
  };
  tidy = ((omega arith, omega arith), tt);
}
upper_sound names (suc zero) l = record {
  ends = record {
    pipe = refl;
    order = ([], refl);
    within = omega arith;
    light =
        omega arith;
    noted = λ e. absurd (false≢true e);
  };
  tidy = tt;
}
upper_sound names (suc (suc p)) l = absurd (omega arith)

upper_nodes : (names : ℕ → PipeName) (k : ℕ)
    → NodeCase upper_setup (upper_state names) k (node_at upper_graph k) (upper_part k)
upper_nodes names zero = CaseOfSource (λ p w.
    subst
    (λ q. SourceKeeps 2 false
    (record {
      state = Running;
      read = 97 ∷ 98 ∷ 49 ∷ 10 ∷ [];
      at_end = false;
      held =
          Some (49 ∷ 10 ∷ []);
    }) (writing_of (names q) (upper_put q)))
    (sym (only_write upper_graph 0 0 refl p w))
    (record {
      bytes = refl;
      unread = λ e. absurd (false≢true e);
      close =
          λ e. absurd (false≢true e);
      held = (omega arith, omega arith);
      tidy =
          ((omega arith, omega arith), tt);
    }))
upper_nodes names (suc zero) = CaseOfStage (record {
  made = 65 ∷ 66 ∷ [];
  makes = record {
    splits = λ ys e. ap (λ (l : List ℕ). 65 ∷ 66 ∷ map upper_case l) (append-nil (ys 0));
    counts = λ ys e. omega arith;
    closed = none_ended (reading_of (names 0) (upper_taken 0) ∷ []) (refl, tt);
  };
  lawful = first_lawful 1 (λ ys. map upper_case (ys 0)) (omega arith);
  inputs = refl;
  branches = (record { bytes = refl; noted = refl; close = refl; tidy = tt }, tt);
  front = (omega arith, omega arith);
  owed = λ k d lt. absurd (omega arith);
  together = (refl, tt);
  hung_up = λ e. absurd (false≢true e);
})
upper_nodes names (suc (suc zero)) = CaseOfSink (λ p r.
    subst (λ q. SinkKeeps new_sink (reading_of (names q) (upper_taken q)))
    (sym (only_read upper_graph 2 1 refl p r)) (record { bytes = refl; stays = refl }))
upper_nodes names (suc (suc (suc k))) = NoNode

pub worked_run : WorkedRunIsLawful
worked_run names = record { pipes = upper_sound names; nodes = upper_nodes names }

-- what is so of each of five
five : (P : ℕ → Type 0) → P 0 → P 1 → P 2 → P 3 → P 4 → (p : ℕ) → p < 5 → P p
five P a b c d e zero l = a
five P a b c d e (suc zero) l = b
five P a b c d e (suc (suc zero)) l = c
five P a b c d e (suc (suc (suc zero))) l = d
five P a b c d e (suc (suc (suc (suc zero)))) l = e
five P a b c d e (suc (suc (suc (suc (suc p))))) l = absurd (omega arith)

module _ (names : ℕ → PipeName) where
  SoundAt : ℕ → Type 0
  SoundAt p = IsSound 1 (writing_of (names p) (stall_put p)) (reading_of (names p) (stall_taken p))

  stall_sound : (p : ℕ) → p < 5 → SoundAt p
  unfolding SoundAt
  stall_sound = five SoundAt
      (record {
        ends = record {
          pipe = refl;
          order = (Bytes (98 ∷ []) ∷ [], refl);
          within =
              omega arith;
          light = omega arith;
          noted = λ e. absurd (false≢true e);
        };
        tidy = (
          (omega arith, omega arith),
          ((omega arith, omega arith), ((omega arith, omega arith), tt)),
        );
      })
      (record {
        ends = record {
          pipe = refl;
          order = ([], refl);
          within = omega arith;
          light =
              omega arith;
          noted = λ e. absurd (false≢true e);
        };
        tidy =
            ((omega arith, omega arith), ((omega arith, omega arith), tt));
      })
      (record {
        ends = record {
          pipe = refl;
          order = (Bytes (97 ∷ []) ∷ [], refl);
          within =
              omega arith;
          light = omega arith;
          noted = λ e. absurd (false≢true e);
        };
        tidy =
            ((omega arith, omega arith), tt);
      })
      (record {
        ends = record {
          pipe = refl;
          order = ([], refl);
          within = omega arith;
          light =
              omega arith;
          noted = λ e. absurd (false≢true e);
        };
        tidy = tt;
      })
      (record {
        ends = record {
          pipe = refl;
          order = ([], refl);
          within = omega arith;
          light =
              omega arith;
          noted = λ e. absurd (false≢true e);
        };
        tidy = tt;
      })

  stall_nodes : (k : ℕ) → NodeCase stall_setup (stall_state names) k (node_at stall_graph k)
      (stall_part k)
  stall_nodes zero = CaseOfSource (λ p w.
      subst
      (λ q. SourceKeeps 1 false
      (record {
        state = Running;
        read = 97 ∷ 10 ∷ 98 ∷ 10 ∷ [];
        at_end = false;
        held =
            Some (10 ∷ []);
      }) (writing_of (names q) (stall_put q)))
      (sym (only_write stall_graph 0 0 refl p w))
      (record {
        bytes = refl;
        unread = λ e. absurd (false≢true e);
        close =
            λ e. absurd (false≢true e);
        held = (omega arith, omega arith);
        tidy = (
          (omega arith, omega arith),
          ((omega arith, omega arith), ((omega arith, omega arith), tt)),
        );
      }))
  stall_nodes (suc zero) = CaseOfStage (record {
    made = 97 ∷ 10 ∷ [];
    makes = record {
      splits = λ ys e. ap (λ (l : List ℕ). 97 ∷ 10 ∷ l) (append-nil (ys 0));
      counts = λ ys e. omega arith;
      closed = none_ended (reading_of (names 0) (stall_taken 0) ∷ []) (refl, tt);
    };
    lawful = first_lawful 1 (λ ys. ys 0) (omega arith);
    inputs = refl;
    branches = (
      record {
        bytes = refl;
        noted = refl;
        close = refl;
        tidy =
            ((omega arith, omega arith), ((omega arith, omega arith), tt));
      },
      (
        record { bytes = refl; noted = refl; close = refl; tidy = ((omega arith, omega arith), tt) },
        tt,
      ),
    );
    front = (omega arith, omega arith);
    owed = λ k d lt. absurd (omega arith);
    together = (refl, tt);
    hung_up = λ e. absurd (false≢true e);
  })
  stall_nodes (suc (suc zero)) = CaseOfStage (record {
    made = [];
    makes = record {
      splits = λ ys e. refl;
      counts = λ ys e. omega arith;
      closed = none_ended (reading_of (names 1) (stall_taken 1) ∷ []) (refl, tt);
    };
    lawful = first_lawful 1 (λ ys. (last_line (Some (97 ∷ 10 ∷ ys 0) ∷ [])).out) (omega arith);
    inputs = refl;
    branches = (record { bytes = refl; noted = refl; close = refl; tidy = tt }, tt);
    front = tt;
    owed = λ k d lt. absurd (omega arith);
    together = (refl, tt);
    hung_up = λ e. absurd (false≢true e);
  })
  stall_nodes (suc (suc (suc zero))) = CaseOfStage (record {
    made = [];
    makes = record {
      splits = λ ys e. refl;
      counts = λ ys e. omega arith;
      closed = none_ended (reading_of (names 3) (stall_taken 3) ∷ reading_of (names 2)
          (stall_taken 2) ∷ []) (refl, (refl, tt));
    };
    lawful = first_lawful 2 (λ ys. (pastes (Some (ys 0) ∷ Some (ys 1) ∷ [])).out) (omega arith);
    inputs = refl;
    branches = (record { bytes = refl; noted = refl; close = refl; tidy = tt }, tt);
    front = tt;
    owed = λ k d lt. absurd (omega arith);
    together = (refl, (refl, tt));
    hung_up = λ e. absurd (false≢true e);
  })
  stall_nodes (suc (suc (suc (suc zero)))) = CaseOfSink (λ p r.
      subst (λ q. SinkKeeps new_sink (reading_of (names q) (stall_taken q)))
      (sym (only_read stall_graph 4 4 refl p r)) (record { bytes = refl; stays = refl }))
  stall_nodes (suc (suc (suc (suc (suc k))))) = NoNode

  -- the waits, node by node
  wait_0 : WaitsFor stall_setup (stall_state names) 0 true 0
  wait_0 = SourceFull (omega arith, refl) refl (record { full = inl (omega arith); reader = refl })

  wait_1 : WaitsFor stall_setup (stall_state names) 1 true 2
  wait_1 = StageFull (
    [],
    refl,
    (record { full = inl (omega arith); reader = refl }, tt),
    λ e. absurd (cc e),
  )

  wait_2 : WaitsFor stall_setup (stall_state names) 2 false 1
  wait_2 = StageEmpty (
    0,
    refl,
    refl,
    refl,
    λ h. false≢true h.0,
    record { bare = refl; unclosed = refl },
  )

  wait_3 : WaitsFor stall_setup (stall_state names) 3 false 3
  wait_3 = StageEmpty (
    0,
    refl,
    refl,
    refl,
    λ h. false≢true h.0,
    record { bare = refl; unclosed = refl },
  )

  wait_4 : WaitsFor stall_setup (stall_state names) 4 false 4
  wait_4 = SinkEmpty (omega arith, refl) refl (record { bare = refl; unclosed = refl })

  stall_stuck : IsStuck stall_setup (stall_state names)
  unfolding SoundAt
  stall_stuck = record {
    lawful = record { pipes = stall_sound; nodes = stall_nodes };
    room = λ p is. omega arith;
    bytes = λ p is. omega arith;
    no_fault = λ k is. five (λ k. IsFailed (node_state_of (stall_part k))
        → ⊥) (λ f. f) (λ f. f) (λ f. f) (λ f. f) (λ f. f) k is;
    some = (0, (omega arith, refl));
    each = λ k r. five (λ k. (full : Bool) × (p : ℕ)
        × WaitsFor stall_setup (stall_state names) k full p) (true, 0, wait_0) (true, 2, wait_1)
        (false, 1, wait_2) (false, 3, wait_3) (false, 4, wait_4) k r.0;
  }

  stall_named : AreWaits stall_setup (stall_state names) stall_waits
  stall_named = record {
    each = (
      ((omega arith, refl), wait_0),
      (
        ((omega arith, refl), wait_1),
        (
          ((omega arith, refl), wait_2),
          (((omega arith, refl), wait_3), (((omega arith, refl), wait_4), tt)),
        ),
      ),
    );
    all = λ k r. five (λ k. IsNamed k stall_waits) (inl refl) (inr (inl refl))
        (inr (inr (inl refl))) (inr (inr (inr (inl refl))))
        (inr (inr (inr (inr (inl refl))))) k r.0;
    rising = (omega arith, (omega arith, (omega arith, (omega arith, tt))));
  }

  stall_reads : (k : ℕ) → HasRead (stall_part k) (stall_run.read k) (stall_run.at_end k)
  stall_reads zero = (refl, refl)
  stall_reads (suc zero) = tt
  stall_reads (suc (suc zero)) = tt
  stall_reads (suc (suc (suc zero))) = tt
  stall_reads (suc (suc (suc (suc k)))) = tt

  stall_writes : (k : ℕ) → HasWritten (stall_part k) (stall_run.written k) (stall_run.out k)
  stall_writes zero = tt
  stall_writes (suc zero) = tt
  stall_writes (suc (suc zero)) = tt
  stall_writes (suc (suc (suc zero))) = tt
  stall_writes (suc (suc (suc (suc k)))) = (refl, refl)

pub worked_stall : WorkedStallIsTrue
worked_stall names = (
  stall_stuck names,
  (
    (λ contents agree k p e r. (answer stall_graph contents p, refl)),
    (
      stall_state names,
      record {
        stuck = stall_stuck names;
        capacity = λ p is. refl;
        limits =
            λ p is. refl;
        reads = stall_reads names;
        writes = stall_writes names;
        named =
            stall_named names;
        grown = (
          (λ e. inl refl),
          ((λ e. inl refl), ((λ e. inl refl), ((λ e. inl refl), ((λ e. inl refl), tt)))),
        );
      },
    ),
  ),
)

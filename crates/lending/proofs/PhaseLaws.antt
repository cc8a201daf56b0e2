-- A phase: groups that are out turn, sources and sinks step meanwhile, and then all stages come
-- back.
use Rattle.std.proofs.Common.{◌≡◌, ℕ, List, ap, ◌∙◌, sym, subst}
use Rattle.std.specs.List.{AllZip}
use Rattle.machine.specs.Law.{Shown}
use Rattle.collector.specs.Files.{FilesShown}
use Rattle.network_laws.specs.State.{Setup}
use Rattle.networks.specs.Networks.{Networked, HasOpened, SameNetwork}
use Rattle.networks.specs.Turns.{Reaches, FaultsAreTrue, AnyFailed}
use Rattle.lending.specs.inner.Loans.{Grouped, GroupGoesOn, AreOut, fill, filled, with_nodes}
use Rattle.lending.specs.inner.Loans.{IsWhole, IsSet, NodesGoOn, RunsFiles, Settles}
use Rattle.lending.proofs.KeptNodes.{nodes_trans, sees_goes, goes_whole, goes_set, goes_opened}
use Rattle.lending.proofs.KeptNodes.{tables_same}
use Rattle.std.proofs.Common.{◌≤◌}
use Rattle.graphs.specs.Graph.{Graph}
use Rattle.network_laws.specs.Steps.{progress}
use Rattle.networks.specs.Networks.{network_state}
use Rattle.lending.proofs.ProgressLaws.{goes_further}
use Rattle.lending.proofs.FillLaws.{still_out, fill_goes}
use Rattle.lending.proofs.lemmas.FaultLaws.{fill_faults, left_faults, sees_faults, fill_failed}
use Rattle.lending.proofs.lemmas.FaultLaws.{settles_failed}

module _ {M : Type 0} (shows : M → Shown) (f g : FilesShown) (n m : Networked M)
    (gs hs : List (Grouped M)) (out : AreOut n.nodes gs) (whole : IsWhole (filled n gs))
    (runs : RunsFiles shows f g n m) (all : AllZip (GroupGoesOn shows) gs hs) where
  -- each group still has its places free
  pub phase_out : AreOut m.nodes hs
  phase_out = let s = runs.steps in still_out shows m.nodes gs hs all (s.out gs out)

  -- with all groups put back the nodes go on from those that they were
  pub phase_goes : NodesGoOn shows f g (fill gs n.nodes) (fill hs m.nodes)
  phase_goes =
      let s = runs.steps in
      nodes_trans shows f g g (fill gs n.nodes) (fill gs m.nodes) (fill hs m.nodes)
      (s.go_on gs out whole.apart) (fill_goes shows g gs hs m.nodes all)

  -- so the network with all groups put back is whole
  pub phase_whole : IsWhole (filled m hs)
  phase_whole = subst (λ (x : Networked M). IsWhole (with_nodes x (fill hs m.nodes)))
      (sym runs.tables) (goes_whole shows f g (filled n gs) (fill hs m.nodes) phase_goes whole)

  -- set
  pub phase_set : (s : Setup) → IsSet shows s (filled n gs) f → IsSet shows s (filled m hs) g
  phase_set s set = subst (λ (x : Networked M). IsSet shows s (with_nodes x (fill hs m.nodes)) g)
      (sym runs.tables) (goes_set shows f g (filled n gs) (fill hs m.nodes) phase_goes s set)

  -- open
  pub phase_opened : HasOpened (filled n gs) f → HasOpened (filled m hs) g
  phase_opened opened = goes_opened shows f g (filled n gs) (fill hs m.nodes) phase_goes opened

  -- and true to the counter of failures
  pub phase_faults : (before : ℕ) → Reaches before f.failures
      → FaultsAreTrue before f.failures (fill gs n.nodes)
      → FaultsAreTrue before g.failures (fill hs m.nodes)
  phase_faults before reach true_ =
      let s = runs.steps in
      fill_faults before g.failures hs m.nodes
      ((s.counts before reach).1 (left_faults before f.failures gs n.nodes out true_))

  -- ---- and after all stages are back

  module _ (later : Networked M) (s : Settles (filled m hs) later) where
    pub phase_settled : NodesGoOn shows f g (fill gs n.nodes) later.nodes
    phase_settled = nodes_trans shows f g g (fill gs n.nodes)
        (fill hs m.nodes) later.nodes phase_goes
        (sees_goes shows g m.pipes (fill hs m.nodes) later.nodes s.sees)

    pub phase_tables : later ≡ with_nodes n later.nodes
    phase_tables = s.only ∙ ap (λ (x : Networked M). with_nodes x later.nodes) runs.tables

    -- the network is what it was
    pub phase_same : SameNetwork (filled n gs) later
    phase_same = tables_same shows f g (filled n gs) later phase_tables phase_settled

    -- and as far as it was, at least
    pub phase_on : (graph : Graph)
        → progress graph (network_state shows (filled n gs) f) ≤ progress graph
        (network_state shows later g)
    phase_on graph =
        let same = phase_same in
        goes_further shows f g (filled n gs) later same.pipes phase_settled graph

    pub phase_reaches : (before : ℕ) → Reaches before f.failures → Reaches before g.failures
    phase_reaches before reach = let t = runs.steps in (t.counts before reach).0

    pub phase_true : (before : ℕ) → Reaches before f.failures
        → FaultsAreTrue before f.failures (fill gs n.nodes)
        → FaultsAreTrue before g.failures later.nodes
    phase_true before reach true_ = sees_faults shows before g.failures m.pipes
        (fill hs m.nodes) later.nodes s.sees (phase_faults before reach true_)

    -- and if a node has failed meanwhile, one has
    pub phase_failed : AnyFailed m → AnyFailed later
    phase_failed h = settles_failed shows (filled m hs) later s (fill_failed m hs phase_out h)

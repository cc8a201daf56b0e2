-- A network of a plan's nodes can be made, is for the plan's setup, and is new, if the nodes were
-- made of the plan's.
use Rattle.std.proofs.Common.{◌≡◌, ℕ, zero, suc, ◌<◌, ◌≤◌, ⊎_elim, List, [], ◌∷◌, length, map}
use Rattle.std.proofs.Common.{Option, Some, None, Result, Ok, Err, refl, sym, ap, ◌∙◌, subst}
use Rattle.std.proofs.Common.{subst₂, arith}
use Rattle.std.specs.Prelude.{slice_get, option_map, unwrap_or, is_none, IfOk}
use Rattle.std.proofs.lemmas.Bool.{cases_lt}
use Rattle.std.proofs.lemmas.List.{length-map}
use Rattle.std.proofs.lemmas.Option.{none-some, slice_get-map, slice_get_within, slice_get_past}
use Rattle.std.proofs.lemmas.Option.{unwrap_or-slice_get}
use Rattle.machine.specs.declared.protocol.Presence.{Presence}
use Rattle.collector.specs.Files.{FilesShown}
use Rattle.run_types.specs.declared.names.InName.{InName}
use Rattle.run_types.specs.declared.names.OutName.{OutName}
use Rattle.filters.specs.declared.filter.Filter.{Filter}
use Rattle.commands.specs.declared.spec.FilterSpec.{FilterSpec}
use Rattle.filters.specs.FilterShows.{filter_shows}
use Rattle.graphs.specs.Graph.{Graph, GraphNode, IsPlan, IsWired, node_at, Reads, Writes, AreAll}
use Rattle.graphs.specs.Graph.{present}
use Rattle.network_nodes.specs.declared.actor.Actor.{Actor}
use Rattle.network_nodes.specs.declared.actor.Actor.TheVariants as an
use Rattle.network_nodes.specs.declared.making.NodeSpec as made
use Rattle.network_nodes.specs.declared.making.NodeSpec.TheVariants as pl
use Rattle.network_nodes.specs.inner.Actors.{actor_at}
use Rattle.networks.specs.inner.MadeNetwork.{CanBeMade, HaveOwnFiles, IsSized, shape_of, shape_node}
use Rattle.networks.specs.inner.MadeNetwork.{read_file, written_file, IsPlannedAs, AreFor, IsFresh}
use Rattle.networks.specs.inner.MadeNetwork.{AreFresh, IsNodeOf, PlannedSource, PlannedStage}
use Rattle.networks.specs.inner.MadeNetwork.{PlannedSink}
use Rattle.networks.specs.Networks.{Networked, setup_status, in_file, out_file, in_name, out_name}
use Rattle.networks.specs.Networks.{IsRight}
use Rattle.openings.specs.Answers.{OpenedFiles, own_file}
use Rattle.openings.specs.Openings.{OpensAll}
use Rattle.planner.specs.declared.plan.Node.{Node}
use Rattle.planner.specs.declared.plan.Node.TheVariants as node
use Rattle.planner.specs.Laws.{HasOwnOpenings, HasSizedStages}
use Rattle.planner.specs.Planned.{Planned, graph_of, graph_node}
use Rattle.planner.proofs.Opened.{openings_are_own}
use Rattle.planner.proofs.Plans.{plans_are_wired}
use Rattle.planner.proofs.Sized.{stages_are_sized}
use Rattle.step_scheduler.specs.inner.Nodes.{presences_of, CanBeNode, CanBeNodes, IsMadeOf}
use Rattle.step_scheduler.specs.inner.Nodes.{AreMadeOf}
use Rattle.step_scheduler.specs.Setups.{setup_of, IsOfScript, IsOpening, source_file, source_name}
use Rattle.step_scheduler.specs.Setups.{sink_file, sink_name, HasFilesOf}
use Rattle.step_scheduler.proofs.Answered.{mapped, source_fresh, sources_apart, sink_there}
use Rattle.step_scheduler.proofs.Answered.{sink_fresh, sinks_apart}

-- ---- a node as it was made

-- what holds of each kind of node holds of a node and the one that it was made of
by_kind : (told : List ℕ → List Presence) (own : Option ℕ) (P : Node → made.NodeSpec Filter
    → Type 0)
    → P (node.Source None) (pl.Source None)
    → ((name : InName) → P (node.Source (Some name)) (pl.Source (option_map (λ f. (f, name)) own)))
    → ((number : ℕ) (filter : FilterSpec) (inputs : List ℕ) (branches : List (Option ℕ))
    (machine : Filter) (ins : _) (outs : _)
    → IsMadeOf told own (node.Stage number filter inputs branches) (pl.Stage machine ins outs)
    → P (node.Stage number filter inputs branches) (pl.Stage machine ins outs))
    → ((name : OutName) (file : ℕ) → own ≡ Some file → P (node.Sink name) (pl.Sink file name))
    → (n : Node) (m : made.NodeSpec Filter) → IsMadeOf told own n m → P n m
by_kind told own P empty source stage sink (node.Source None) (pl.Source file) e =
    subst (λ (f : Option (ℕ × InName)). P (node.Source None) (pl.Source f)) (sym e) empty
by_kind told own P empty source stage sink (node.Source (Some name)) (pl.Source file) e =
    subst (λ (f : Option (ℕ × InName)). P (node.Source (Some name)) (pl.Source f)) (sym e)
    (source name)
by_kind told own P empty source stage sink (node.Stage number filter inputs branches)
    (pl.Stage machine ins outs) e = stage number filter inputs branches machine ins outs e
by_kind told own P empty source stage sink (node.Sink name) (pl.Sink file other) e =
    subst (λ (x : OutName). P (node.Sink name) (pl.Sink file x)) (sym e.1) (sink name file e.0)
by_kind told own P empty source stage sink _ _ e = absurd e

-- a file with a name is there if the file is; it has that file, and that name
named_none : (name : InName) (own : Option ℕ)
    → is_none {T = ℕ × InName} (option_map (λ f. (f, name)) own) ≡ is_none own
named_none name None = refl
named_none name (Some file) = refl

named_file : (name : InName) (own : Option ℕ)
    → option_map (λ (f : ℕ × InName). f.0) (option_map (λ f. (f, name)) own) ≡ own
named_file name None = refl
named_file name (Some file) = refl

named_name : (name : InName) (own : Option ℕ)
    → option_map (λ (f : ℕ × InName). f.1) (option_map (λ f. (f, name)) own)
    ≡ option_map (λ file. name) own
named_name name None = refl
named_name name (Some file) = refl

-- a plan of a script has the laws of plans
plan_laws : (plan : Planned) → IsOfScript plan → IsPlan (graph_of plan) × HasOwnOpenings plan
    × HasSizedStages plan
plan_laws plan of = (
  plans_are_wired of.script plan of.body of.is_plan,
  openings_are_own of.script plan of.is_plan,
  stages_are_sized of.script plan of.body of.is_plan,
)

-- each node of the plan can be made
pub can_be_nodes : (plan : Planned) (o : OpenedFiles) → IsOfScript plan → IsOpening plan o
    → CanBeNodes plan o
can_be_nodes plan o of opening = by_case where
  by_case : (k : ℕ) (n : Node) → slice_get plan.nodes k ≡ Some n → CanBeNode n (own_file o k)
  by_case k (node.Source name) e = tt
  by_case k (node.Stage number filter inputs branches) e =
      let laws = (plan_laws plan of).2 in
      let sized = laws.sized k number filter inputs branches e in
      sized.counted
  by_case k (node.Sink name) e = sink_there plan o opening.old opening.new
      (plan_laws plan of).1 opening.opens k name e

-- the node with this number
some_at : {A : Type 0} (xs : List A) (k : ℕ) → k < length xs → (x : A) × (slice_get xs k ≡ Some x)
some_at [] k lt = absurd (let f : ⊥ = omega (arith, lt) in f)
some_at (x ∷ xs) zero lt = (x, refl)
some_at (x ∷ xs) (suc k) lt = some_at xs k (omega (arith, lt))

module _ (plan : Planned) (o : OpenedFiles) (nodes : List (made.NodeSpec Filter))
    (of : IsOfScript plan) (are : AreMadeOf plan o nodes) where
  -- the graph of the nodes, whatever the filters are
  abbrev shape : Graph
  shape = shape_of nodes plan.pipes plan.result

  -- the node of the plan that a node was made of
  record IsFrom (k : ℕ) (m : made.NodeSpec Filter) : Type 0 where
    pub n : Node
    pub there : slice_get plan.nodes k ≡ Some n
    pub is : IsMadeOf (presences_of plan o) (own_file o k) n m

  -- each node was made of one of the plan
  from : (k : ℕ) (m : made.NodeSpec Filter) → slice_get nodes k ≡ Some m → IsFrom k m
  from k m e =
      let h = some_at plan.nodes k (let l = slice_get_within nodes k m e in let c = are.count in
      omega (arith, l, c)) in
      record { n = h.0; there = h.1; is = are.each k h.0 m h.1 e }

  -- the node of the plan's graph with this number
  graph_at : (k : ℕ) (n : Node) → slice_get plan.nodes k ≡ Some n
      → node_at (graph_of plan) k ≡ Some (graph_node n)
  graph_at k n e = slice_get-map graph_node plan.nodes k
      ∙ ap (λ (x : Option Node). option_map graph_node x) e

  -- graph and shape have as many nodes as the lists that they are of
  counts : (length (map graph_node plan.nodes) ≡ length plan.nodes)
      × (length (map shape_node nodes) ≡ length nodes)
  counts = (length-map plan.nodes graph_node, length-map nodes shape_node)

  -- ---- it can be made

  -- a node has the pipes of the one that it was made of
  wired_as : (k : ℕ) (n : Node) (m : made.NodeSpec Filter)
      → IsMadeOf (presences_of plan o) (own_file o k) n m → IsWired (graph_of plan) k (graph_node n)
      → IsWired shape k (shape_node m)
  wired_as k n m is = by_kind (presences_of plan o) (own_file o k)
      (λ n m. IsWired (graph_of plan) k (graph_node n) → IsWired shape k (shape_node m))
      (λ w. w)
      (λ name w. w)
      (λ number filter inputs branches machine ins outs h w. (
        subst (λ (xs : List ℕ). AreAll (Reads shape k) xs) (sym h.0) w.0,
        subst (λ (bs : List (Option ℕ)). AreAll (Writes shape k) (present bs)) (sym h.1) w.1,
      ))
      (λ name file e w. w)
      n m is

  -- the shape of the nodes is a plan, as the plan's graph is
  shape_plan : IsPlan shape
  shape_plan =
      let p = (plan_laws plan of).0 in
      record {
        before = p.before;
        within = λ q lt. (let w = p.within q lt in let c = counts in let d = are.count in
            omega (arith, w, c.0, c.1, d));
        wired = λ k g e. let h = mapped shape_node nodes k g e in let f = from k h.0 h.1 in
            subst (λ (x : GraphNode). IsWired shape k x) h.2
            (wired_as k f.n h.0 f.is (p.wired k (graph_node f.n) (graph_at k f.n f.there)));
        result = (let w = p.result in let c = counts in let d = are.count in
            omega (arith, w, c.0, c.1, d));
      }

  -- a stage has the inputs of its machine, and few branches
  sized_as : (k : ℕ) (n : Node) (m : made.NodeSpec Filter)
      → IsMadeOf (presences_of plan o) (own_file o k) n m → slice_get plan.nodes k ≡ Some n
      → IsSized filter_shows m
  sized_as k n m is = by_kind (presences_of plan o) (own_file o k)
      (λ n m. slice_get plan.nodes k ≡ Some n → IsSized filter_shows m)
      (λ e. tt)
      (λ name e. tt)
      (λ number filter inputs branches machine ins outs h e.
      let laws = (plan_laws plan of).2 in
      let z = laws.sized k number filter inputs branches e in
      let some = z.some in
      let few = z.few in
      let one = ap length h.0 in
      let two = ap length h.1 in
      let new = h.2 in (
        omega (arith, some, one),
        new.inputs
            ∙ (length-map inputs _ ∙ sym one),
        omega (arith, few, two),
      ))
      (λ name file f e. tt)
      n m is

  -- a node that reads a file was made of a source, whose own file that is
  record IsSourceOf (k file : ℕ) : Type 0 where
    pub name : InName
    pub there : slice_get plan.nodes k ≡ Some (node.Source (Some name))
    pub own : own_file o k ≡ Some file

  -- a node that reads a file was made of such a source
  read_is : (k file : ℕ) (n : Node) (m : made.NodeSpec Filter)
      → IsMadeOf (presences_of plan o) (own_file o k) n m → slice_get plan.nodes k ≡ Some n
      → read_file m ≡ Some file → IsSourceOf k file
  read_is k file n m is = by_kind (presences_of plan o) (own_file o k)
      (λ n m. slice_get plan.nodes k ≡ Some n → read_file m ≡ Some file → IsSourceOf k file)
      (λ e r. absurd (none-some file r))
      (λ name e r. record {
        name = name;
        there = e;
        own = sym (named_file name (own_file o k))
            ∙ r;
      })
      (λ number filter inputs branches machine ins outs h e r. absurd (none-some file r))
      (λ name other f e r. absurd (none-some file r))
      n m is

  -- a node that writes a file was made of a sink, whose own file that is
  record IsSinkOf (k file : ℕ) : Type 0 where
    pub name : OutName
    pub there : slice_get plan.nodes k ≡ Some (node.Sink name)
    pub own : own_file o k ≡ Some file

  -- a node that writes a file was made of such a sink
  written_is : (k file : ℕ) (n : Node) (m : made.NodeSpec Filter)
      → IsMadeOf (presences_of plan o) (own_file o k) n m → slice_get plan.nodes k ≡ Some n
      → written_file m ≡ Some file → IsSinkOf k file
  written_is k file n m is = by_kind (presences_of plan o) (own_file o k)
      (λ n m. slice_get plan.nodes k ≡ Some n → written_file m ≡ Some file → IsSinkOf k file)
      (λ e r. absurd (none-some file r))
      (λ name e r. absurd (none-some file r))
      (λ number filter inputs branches machine ins outs h e r. absurd (none-some file r))
      (λ name other f e r. record { name = name; there = e; own = f ∙ r })
      n m is

  -- no two nodes have one file
  own_files : IsOpening plan o → HaveOwnFiles nodes
  own_files opening = record {
    ins = λ j k file a b e f r s.
        let x = from j a e in
        let y = from k b f in
        let p = read_is j file x.n a x.is x.there r in
        let q = read_is k file y.n b y.is y.there s in
        sources_apart plan o opening.old opening.new
        (plan_laws plan of).1 opening.opens j k file p.name q.name p.there q.there p.own q.own;
    outs = λ j k file a b e f r s.
        let x = from j a e in
        let y = from k b f in
        let p = written_is j file x.n a x.is x.there r in
        let q = written_is k file y.n b y.is y.there s in
        sinks_apart plan o opening.old opening.new
        (plan_laws plan of).1 opening.opens j k file p.name q.name p.there q.there p.own q.own;
  }

  -- so a network of them can be made
  pub can_be_made : IsOpening plan o → CanBeMade filter_shows nodes plan.pipes
  can_be_made opening = record {
    result = plan.result;
    plan = shape_plan;
    sized = λ k m e. let f = from k m e in sized_as k f.n m f.is f.there;
    apart = own_files opening;
  }

  -- ---- it is for the setup, and new

  -- a node is the one of the plan's graph
  planned_as : (most limit block k : ℕ) (n : Node) (m : made.NodeSpec Filter)
      → IsMadeOf (presences_of plan o) (own_file o k) n m
      → IsPlannedAs filter_shows (setup_of plan o most limit block) k (Some (graph_node n)) m
  planned_as most limit block k n m is = by_kind (presences_of plan o) (own_file o k)
      (λ n m. IsPlannedAs filter_shows (setup_of plan o most limit block) k (Some (graph_node n)) m)
      (PlannedSource refl)
      (λ name. PlannedSource (named_none name (own_file o k)))
      (λ number filter inputs branches machine ins outs h. PlannedStage (sym h.0, sym h.1, h.2))
      (λ name file f. PlannedSink)
      n m is

  -- they are for the setup of the plan
  pub are_for : (status most limit block : ℕ)
      → status ≡ setup_status (setup_of plan o most limit block)
      → AreFor filter_shows (setup_of plan o most limit block) nodes plan.pipes status most limit
      block
  are_for status most limit block is = record {
    plan = (plan_laws plan of).0;
    count = are.count ∙ sym counts.0;
    pipes_are = refl;
    status_is = is;
    most_is = refl;
    limit_is = refl;
    block_is = refl;
    each = λ k m e. let f = from k m e in
        subst (λ (x : Option GraphNode). IsPlannedAs filter_shows
        (setup_of plan o most limit block) k x m) (sym (graph_at k f.n f.there))
        (planned_as most limit block k f.n m f.is);
  }

  module _ (old new : FilesShown) (all : OpensAll plan o old new) where
    -- nothing was read from a source's file, if it has one
    source_is_fresh : (k : ℕ) (name : InName)
        → slice_get plan.nodes k ≡ Some (node.Source (Some name)) → (own : Option ℕ)
        → own_file o k ≡ own
        → IsFresh {M = Filter} new (pl.Source (option_map (λ f. (f, name)) own))
    source_is_fresh k name e None is = tt
    source_is_fresh k name e (Some file) is =
        source_fresh plan o old new (plan_laws plan of).1 all k file name e is

    -- nothing was read of a node's file or written to it
    fresh_as : (k : ℕ) (n : Node) (m : made.NodeSpec Filter)
        → IsMadeOf (presences_of plan o) (own_file o k) n m → slice_get plan.nodes k ≡ Some n
        → IsFresh new m
    fresh_as k n m is = by_kind (presences_of plan o) (own_file o k)
        (λ n m. slice_get plan.nodes k ≡ Some n → IsFresh new m)
        (λ e. tt)
        (λ name e. source_is_fresh k name e (own_file o k) refl)
        (λ number filter inputs branches machine ins outs h e. tt)
        (λ name file f e. sink_fresh plan o old new (plan_laws plan of).1 all k file name e f)
        n m is

    -- nothing was read of their files or written to them
    pub are_fresh : AreFresh new nodes
    are_fresh k m e = let f = from k m e in fresh_as k f.n m f.is f.there

  -- ---- its files

  -- a node has these files, if this is the node of the plan and its own opening has this answer
  record HasNodeFiles (n : Option Node) (own : Option ℕ) (a : Actor Filter) : Type 0 where
    pub input : in_file a ≡ source_file n own
    pub output : out_file a ≡ sink_file n own
    pub input_name_is : in_name a ≡ source_name n own
    pub output_name_is : out_name a ≡ sink_name n

  -- a node has the files of the one that it was made of
  files_as : (k : ℕ) (a : Actor Filter) (n : Node) (m : made.NodeSpec Filter)
      → IsMadeOf (presences_of plan o) (own_file o k) n m → IsNodeOf m a
      → HasNodeFiles (Some n) (own_file o k) a
  files_as k a n m is = by_kind (presences_of plan o) (own_file o k) (λ n m. IsNodeOf m a
      → HasNodeFiles (Some n) (own_file o k) a)
      (λ h. record {
        input = h.in_file_is;
        output = h.out_file_is;
        input_name_is =
            h.in_name_is;
        output_name_is = h.out_name_is;
      })
      (λ name h. record {
        input = h.in_file_is ∙ named_file name (own_file o k);
        output =
            h.out_file_is;
        input_name_is = h.in_name_is
            ∙ named_name name (own_file o k);
        output_name_is = h.out_name_is;
      })
      (λ number filter inputs branches machine ins outs g h. record {
        input = h.in_file_is;
        output =
            h.out_file_is;
        input_name_is = h.in_name_is;
        output_name_is = h.out_name_is;
      })
      (λ name file f h. record {
        input = h.in_file_is;
        output = h.out_file_is
            ∙ sym f;
        input_name_is = h.in_name_is;
        output_name_is = h.out_name_is;
      })
      n m is

  module _ (n : Networked Filter) (count : length n.nodes ≡ length nodes)
      (each : (k : ℕ) (m : made.NodeSpec Filter) → slice_get nodes k ≡ Some m
      → IsNodeOf m (actor_at n.nodes k)) where
    -- there is no node past the last one
    lent : (k : ℕ) → length nodes ≤ k → actor_at n.nodes k ≡ an.Lent
    lent k le = sym (unwrap_or-slice_get n.nodes k an.Lent)
        ∙ ap (λ (x : Option (Actor Filter)). unwrap_or x an.Lent)
        (slice_get_past n.nodes k (omega (arith, le, count)))

    -- so each node has the files of that node of the plan
    files_at : (k : ℕ) → HasNodeFiles (slice_get plan.nodes k) (own_file o k) (actor_at n.nodes k)
    files_at k = ⊎_elim
        (λ l. let h = some_at nodes k l in let f = from k h.0 h.1 in
        subst (λ (x : Option Node). HasNodeFiles x (own_file o k) (actor_at n.nodes k))
        (sym f.there) (files_as k (actor_at n.nodes k) f.n h.0 f.is (each k h.0 h.1)))
        (λ g. subst₂ (λ (x : Option Node) (a : Actor Filter). HasNodeFiles x (own_file o k) a)
        (sym (slice_get_past plan.nodes k (let c = are.count in omega (arith, g, c))))
        (sym (lent k g))
        (record { input = refl; output = refl; input_name_is = refl; output_name_is = refl }))
        (cases_lt k (length nodes))

    -- and so has the network
    pub has_files : HasFilesOf plan o n
    has_files = record {
      inputs = λ k. let f = files_at k in f.input;
      outputs = λ k. let f = files_at k in f.output;
      input_names = λ k. let f = files_at k in f.input_name_is;
      output_names = λ k. let f = files_at k in f.output_name_is;
    }

  -- a network that was made has them
  pub files_ok : {E : Type 0} (most limit block : ℕ) (files : FilesShown)
      (r : Result (Networked Filter) E)
      → IfOk r (λ n. IsRight filter_shows (setup_of plan o most limit block) n files)
      → IfOk r (λ n. (k : ℕ) (m : made.NodeSpec Filter) → slice_get nodes k ≡ Some m
      → IsNodeOf m (actor_at n.nodes k)) → IfOk r (HasFilesOf plan o)
  files_ok most limit block files (Ok n) right each =
      let g = right.graph in
      has_files n (g.count ∙ (counts.0 ∙ sym are.count)) each
  files_ok most limit block files (Err e) right each = tt

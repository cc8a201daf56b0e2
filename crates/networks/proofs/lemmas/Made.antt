-- A network whose nodes were made of a plan is joined, right and new.
use Rattle.std.proofs.Common.{◌≡◌, ℕ, zero, suc, ◌<◌, ◌≤◌, ⊎_elim, List, [], ◌∷◌, length, get_or}
use Rattle.std.proofs.Common.{map, replicate, Option, Some, None, Bool, false, refl, ap, ◌∙◌, sym}
use Rattle.std.proofs.Common.{subst, subst₂, arith}
use Rattle.std.specs.Prelude.{unwrap_or, slice_get, slice_index, option_map, Contains, IsSome}
use Rattle.std.specs.Prelude.{is_none}
use Rattle.std.proofs.lemmas.Bool.{cases_lt}
use Rattle.std.proofs.lemmas.Option.{slice_get-map, slice_get-get_or, slice_get_past}
use Rattle.std.proofs.lemmas.Option.{slice_get_within, unwrap_or-slice_get, get_or_from_slice_get}
use Rattle.std.proofs.lemmas.List.{length-map}
use Rattle.std.specs.Global.{Vec}
use Rattle.networks.proofs.lemmas.OwnLaws.{are_owned}
use Rattle.machine.specs.Law.{Shown, IsLawful as ObeysLaw, IsNew as IsNewMachine}
use Rattle.bounded_pipe.specs.Ends.{Writing, Reading, Beside}
use Rattle.collector.specs.Files.{FilesShown, ReadLog, WriteLog, nothing_read, nothing_written}
use Rattle.collector.specs.Files.{log_of}
use Rattle.collector.specs.Nodes.{SourceFits, SinkFits, read_by}
use Rattle.collector.specs.Sources.{SourcePart, SinkPart}
use Rattle.run_types.specs.declared.names.InName.{InName}
use Rattle.run_types.specs.declared.names.OutName.{OutName}
use Rattle.run_types.specs.declared.node_state.NodeState.{NodeState}
use Rattle.run_types.specs.declared.node_state.NodeState.TheVariants.{Running}
use Rattle.splice_tee.specs.declared.branches.Served.TheVariants.{Lacks}
use Rattle.graphs.specs.Graph.{GraphNode, node_at, IsAmong, AreDistinct, present}
use Rattle.network_laws.specs.State.{Setup, told}
use Rattle.network_laws.specs.Start.{IsNewPipe, IsNewPart, IsNew, new_source, new_sink, NoPart}
use Rattle.network_laws.specs.Start.{NewPartOfSource, NewPartOfStage, NewPartOfSink}
use Rattle.network_nodes.specs.declared.actor.Actor.{Actor}
use Rattle.network_nodes.specs.declared.actor.Actor.TheVariants as an
use Rattle.network_nodes.specs.declared.actor.Link.{Link}
use Rattle.network_nodes.specs.declared.making.NodeSpec.{NodeSpec}
use Rattle.network_nodes.specs.declared.making.NodeSpec.TheVariants as pl
use Rattle.network_nodes.specs.inner.Actors.{no_writing, no_reading, outs_of, ins_of, out_pipes}
use Rattle.network_nodes.specs.inner.Actors.{in_pipes, out_at, in_at, actor_at}
use Rattle.network_nodes.specs.inner.MadeNodes.{wires_at, own_outs, own_ins, outs_by, ins_by}
use Rattle.network_nodes.specs.inner.MadeNodes.{outs_at, ins_at, IsNewActor, IsOpened, AreOpened}
use Rattle.network_nodes.specs.inner.MadeNodes.{AreWiresOf, AreOwned, AreLinks, link_of, IsMade}
use Rattle.network_nodes.specs.inner.MadeNodes.{AreMade, AreLinked}
use Rattle.networks.specs.Networks.{Networked, networked, joins, writing_by, reading_by, part_of}
use Rattle.networks.specs.Networks.{network_state, IsPlaced, IsNumbered, IsHere, in_file, out_file}
use Rattle.networks.specs.Networks.{in_name, out_name, IsJoined, HasFile, HasOpened, FitsAt}
use Rattle.networks.specs.Networks.{FitsSource, FitsStage, FitsSink, IsRight}
use Rattle.networks.specs.inner.MadeNetwork.{CanBeMade, read_file, written_file, read_name}
use Rattle.networks.specs.inner.MadeNetwork.{written_name, IsNodeOf, IsPlannedAs, AreFor, IsFresh}
use Rattle.networks.specs.inner.MadeNetwork.{AreFresh, PlannedSource, PlannedStage, PlannedSink}
use Rattle.network_nodes.proofs.ShareLaws.{index_among, distinct_index}

some_same : {A : Type 0} (x y : A) → Some x ≡ Some y → x ≡ y
some_same x y e = ap (λ o. unwrap_or o x) e

get_among : (xs : List ℕ) (i p : ℕ) → slice_get xs i ≡ Some p → IsAmong p xs
get_among xs i p e = subst (λ (q : ℕ). IsAmong q xs) (get_or_from_slice_get xs i p 0 e)
    (index_among xs i (slice_get_within xs i p e))

get_once : (xs : List ℕ) → AreDistinct xs → (i j p : ℕ) → slice_get xs i ≡ Some p
    → slice_get xs j ≡ Some p → i ≡ j
get_once xs d i j p a b =
    let same : get_or xs i 0 ≡ get_or xs j 0 = get_or_from_slice_get xs i p 0 a
    ∙ sym (get_or_from_slice_get xs j p 0 b) in
    let li = slice_get_within xs i p a in
    let lj = slice_get_within xs j p b in
    ⊎_elim
    (λ l. absurd (distinct_index xs d i j l lj same))
    (λ g. ⊎_elim
    (λ m. absurd (distinct_index xs d j i m li (sym same)))
    (λ h. omega (arith, g, h))
    (cases_lt j i))
    (cases_lt i j)

same_lists : {A : Type 0} (xs ys : List A) → length xs ≡ length ys
    → ((i : ℕ) → i < length ys → slice_get xs i ≡ slice_get ys i) → xs ≡ ys
same_lists [] [] e h = refl
same_lists (x ∷ xs) (y ∷ ys) e h =
    let head : x ≡ y = some_same x y (h 0 (omega arith)) in
    let tail : xs ≡ ys = same_lists xs ys (let l : length xs ≡ length ys = omega (arith, e) in
    l) (λ i lt. h (suc i) (omega (arith, lt))) in
    ap (λ z. z ∷ xs) head ∙ ap (λ zs. y ∷ zs) tail
same_lists _ _ e h = absurd (let f : ⊥ = omega (arith, e) in f)

pub all_lack : (xs : List ℕ) → replicate (length xs) Lacks ≡ map (λ p. Lacks) xs
all_lack [] = refl
all_lack (x ∷ xs) = ap (λ ys. Lacks ∷ ys) (all_lack xs)

part_new : (state : NodeState) (read : List ℕ) (at_end : Bool) (held : Option (List ℕ))
    → state ≡ Running → read ≡ [] → at_end ≡ false → held ≡ None
    → record { state = state; read = read; at_end = at_end; held = held } ≡ new_source
part_new state read at_end held a b c d =
    let mk : NodeState → List ℕ → Bool → Option (List ℕ)
    → SourcePart = λ st r e h. record { state = st; read = r; at_end = e; held = h } in
    ap (λ (v : NodeState). mk v read at_end held) a
    ∙ (ap (λ (v : List ℕ). mk Running v at_end held) b
    ∙ (ap (λ (v : Bool). mk Running [] v held) c
    ∙ ap (λ (v : Option (List ℕ)). mk Running [] false v) d))

sink_new : (state : NodeState) (log : WriteLog) → state ≡ Running → log ≡ nothing_written
    → record { state = state; held = log.out; written = log.bytes } ≡ new_sink
sink_new state log a b =
    let mk : NodeState → WriteLog → SinkPart =
    λ st l. record { state = st; held = l.out; written = l.bytes } in
    ap (λ (v : NodeState). mk v log) a ∙ ap (λ (v : WriteLog). mk Running v) b

abbrev lent_node : (M : Type 0) → Actor M
lent_node M = an.Lent

-- ---- one node

module _ {M : Type 0} where
  abbrev source_node : Option (ℕ × InName) → NodeSpec M
  source_node file = pl.Source file

  abbrev sink_node : ℕ → OutName → NodeSpec M
  sink_node file name = pl.Sink file name

module _ {M : Type 0} (shows : M → Shown) (block : ℕ) where
  here_of : (node : NodeSpec M) (a : Actor M) → IsNewActor shows block node a → IsHere a
  here_of (pl.Source file) (an.Source x) n = tt
  here_of (pl.Stage machine inputs branches) (an.Stage t) n = tt
  here_of (pl.Sink file name) (an.Sink y) n = tt
  here_of _ _ n = absurd n

  in_file_of : (node : NodeSpec M) (a : Actor M) → IsNewActor shows block node a
      → in_file a ≡ read_file node
  in_file_of (pl.Source file) (an.Source x) n = n.0
  in_file_of (pl.Stage machine inputs branches) (an.Stage t) n = refl
  in_file_of (pl.Sink file name) (an.Sink y) n = refl
  in_file_of _ _ n = absurd n

  out_file_of : (node : NodeSpec M) (a : Actor M) → IsNewActor shows block node a
      → out_file a ≡ written_file node
  out_file_of (pl.Source file) (an.Source x) n = refl
  out_file_of (pl.Stage machine inputs branches) (an.Stage t) n = refl
  out_file_of (pl.Sink file name) (an.Sink y) n = ap Some n.0
  out_file_of _ _ n = absurd n

  in_name_of : (node : NodeSpec M) (a : Actor M) → IsNewActor shows block node a
      → in_name a ≡ read_name node
  in_name_of (pl.Source file) (an.Source x) n = n.1
  in_name_of (pl.Stage machine inputs branches) (an.Stage t) n = refl
  in_name_of (pl.Sink file name) (an.Sink y) n = refl
  in_name_of _ _ n = absurd n

  out_name_of : (node : NodeSpec M) (a : Actor M) → IsNewActor shows block node a
      → out_name a ≡ written_name node
  out_name_of (pl.Source file) (an.Source x) n = refl
  out_name_of (pl.Stage machine inputs branches) (an.Stage t) n = refl
  out_name_of (pl.Sink file name) (an.Sink y) n = ap Some n.1
  out_name_of _ _ n = absurd n

  module _ (files : FilesShown) where
    has_file : (node : NodeSpec M) (a : Actor M) → IsNewActor shows block node a
        → IsFresh files node → HasFile files a
    has_file (pl.Source None) (an.Source x) n f = λ k e. absurd (cc (sym n.0 ∙ e))
    has_file (pl.Source (Some file)) (an.Source x) n f = λ k e.
        let same : k ≡ file.0 = some_same k file.0 (sym e ∙ n.0) in
        subst (λ (i : ℕ). IsSome (files.inputs i)) (sym same)
        (subst (λ (l : Option ReadLog). IsSome l) (sym f) refl)
    has_file (pl.Stage machine inputs branches) (an.Stage t) n f = tt
    has_file (pl.Sink file name) (an.Sink y) n f =
        subst (λ (k : ℕ). IsSome (files.outputs k)) (sym n.0)
        (subst (λ (l : Option WriteLog). IsSome l) (sym f) refl)
    has_file _ _ n f = absurd n

    nothing_by : (file : Option (ℕ × InName)) (o : Option ℕ) → o ≡ option_map (λ f. f.0) file
        → IsFresh {M = M} files (source_node file) → read_by files o ≡ nothing_read
    nothing_by None o e f = ap (λ (p : Option ℕ). read_by files p) e
    nothing_by (Some file) o e f = ap (λ (p : Option ℕ). read_by files p) e
        ∙ ap (λ (l : Option ReadLog). unwrap_or l nothing_read) f

    nothing_to : (file o : ℕ) → o ≡ file → files.outputs file ≡ Some nothing_written
        → log_of files o ≡ nothing_written
    nothing_to file o e f = ap (λ (k : ℕ). log_of files k) e
        ∙ ap (λ (l : Option WriteLog). unwrap_or l nothing_written) f

    missing_by : (file : Option (ℕ × InName)) → is_none (option_map (λ f. f.0) file) ≡ is_none file
    missing_by None = refl
    missing_by (Some file) = refl

    module _ (s : Setup) (k : ℕ) (same : block ≡ s.block) where
      fits_new : (gnode : Option GraphNode) (node : NodeSpec M) (a : Actor M) (wire : List ℕ)
          → out_pipes a ≡ own_outs node wire → in_pipes a ≡ own_ins node wire
          → IsNewActor shows block node a → IsFresh files node → IsPlannedAs shows s k gnode node
          → FitsAt shows s files k gnode a
      fits_new _ (pl.Source file) (an.Source x) wire o i n f (PlannedSource none) =
          FitsSource (ap (λ (o : Option ℕ). is_none o) n.0
          ∙ (missing_by file ∙ none))
          (subst (λ (l : ReadLog). SourceFits l x) (sym (nothing_by file x.file n.0 f)) n.2)
          (n.3 ∙ same)
      fits_new _ (pl.Stage machine inputs branches) (an.Stage t) wire o i n f
          (PlannedStage {filter} {inputs = given} p) =
          FitsStage (i ∙ sym p.0) (o ∙ ap present (sym p.1)) (n.5 filter (told s given) p.2) (n.2
          ∙ same)
      fits_new _ (pl.Sink file name) (an.Sink y) wire o i n f PlannedSink =
          FitsSink (subst (λ (l : WriteLog). SinkFits l y) (sym (nothing_to _ y.file n.0 f)) n.2) n.3
      fits_new _ _ _ wire o i n f p = absurd n

      new_part : ((m : M) → ObeysLaw (shows m))
          → (gnode : Option GraphNode) (node : NodeSpec M) (a : Actor M) (wire : List ℕ)
          → out_pipes a ≡ own_outs node wire → length (outs_of a) ≡ length (own_outs node wire)
          → IsNewActor shows block node a → IsFresh files node → IsPlannedAs shows s k gnode node
          → IsNewPart s k gnode (part_of shows files a)
      new_part law _ (pl.Source file) (an.Source x) wire o c n f (PlannedSource none) =
          NewPartOfSource (part_new x.state (read_by files x.file).bytes x.at_end x.held n.4
          (ap (λ (l : ReadLog). l.bytes) (nothing_by file x.file n.0 f)) n.5 n.6)
      new_part law _ (pl.Stage machine inputs branches) (an.Stage t) wire o c n f
          (PlannedStage {filter} {inputs = given} p) =
          let i = n.3 in
          let u = n.4 in
          NewPartOfStage (record {
            state = n.1;
            machine = subst (λ (m : M). IsNewMachine (shows m) filter (told s given)) (sym n.0) p.2;
            lawful = law t.machine;
            hung_up = i.hung_up;
            served = u.served ∙ (ap (λ (l : ℕ). replicate l Lacks) c
                ∙ (all_lack (present branches.items)
                ∙ ap (λ (bs : List (Option ℕ)). map (λ p. Lacks) (present bs)) (sym p.1)));
            front = u.front;
            owed = u.owed;
          })
      new_part law _ (pl.Sink file name) (an.Sink y) wire o c n f PlannedSink =
          NewPartOfSink (sink_new y.state (log_of files y.file) n.4 (nothing_to _ y.file n.0 f))
      new_part law _ _ _ wire o c n f p = absurd n

-- ---- all nodes

some_at : {A : Type 0} (xs : List A) (k : ℕ) → k < length xs → (x : A) × (slice_get xs k ≡ Some x)
some_at [] k lt = absurd (let f : ⊥ = omega (arith, lt) in f)
some_at (x ∷ xs) zero lt = (x, refl)
some_at (x ∷ xs) (suc k) lt = some_at xs k (omega (arith, lt))

-- what a network was made of, and the nodes and links that were made
pub record Making {M : Type 0} (shows : M → Shown) (nodes : List (NodeSpec M))
    (pipes : List (ℕ × ℕ)) (status capacity most limit block : ℕ) : Type 0 where
  pub positive : 0 < capacity
  pub bounds : (capacity ≤ most) × (most ≤ 4096)
  pub roomy : block ≤ limit
  pub can : CanBeMade shows nodes pipes
  pub wires : List (List ℕ)
  pub wired : AreWiresOf (length nodes) pipes wires
  pub own : AreOwned shows nodes pipes wires
  pub writers : List (Option Writing)
  pub readers : List (Option Reading)
  pub opened : AreOpened (length pipes) capacity limit writers readers
  pub actors : List (Actor M)
  pub links : List Link
  pub linked : AreLinked shows block nodes pipes wires writers readers actors links

-- what is so of a network that was made of these
pub record Makes {M : Type 0} (shows : M → Shown) (nodes : List (NodeSpec M)) (pipes : List (ℕ × ℕ))
    (status capacity most limit block : ℕ) (n : Networked M) : Type 0 where
  pub joined : IsJoined n
  pub opened : (files : FilesShown) → AreFresh files nodes → HasOpened n files
  pub right : (s : Setup) (files : FilesShown) → AreFor shows s nodes pipes status most limit block
      → AreFresh files nodes → IsRight shows s n files
  pub empty : (s : Setup) (files : FilesShown) → AreFor shows s nodes pipes status most limit block
      → AreFresh files nodes → IsNew s (network_state shows n files)
  pub room : (p : ℕ) → p < length pipes → (writing_by n.nodes (slice_get n.pipes p)).capacity
      ≡ capacity
  pub nodes_are : (k : ℕ) (node : NodeSpec M) → slice_get nodes k ≡ Some node
      → IsNodeOf node (actor_at n.nodes k)

module _ {M : Type 0} (shows : M → Shown) (nodes : List (NodeSpec M)) (pipes : List (ℕ × ℕ))
    (status capacity most limit block : ℕ)
    (making : Making shows nodes pipes status capacity most limit block) where
  open making use {
    positive,
    bounds,
    roomy,
    can,
    wires,
    wired,
    own,
    writers,
    readers,
    opened,
    actors,
    links,
    linked,
  }

  abbrev n : Networked M
  n = record { nodes = actors; pipes = links; wires = wires; status = status; most = most }

  abbrev link : ℕ → Link
  link p = link_of pipes linked.branches linked.inputs p

  all_made : AreMade shows block nodes pipes wires writers readers linked.branches linked.inputs
      actors
  all_made = linked.made

  all_links : AreLinks pipes linked.branches linked.inputs links
  all_links = linked.links_are

  made_at : (k : ℕ) (node : NodeSpec M) → slice_get nodes k ≡ Some node
      → IsMade shows block node (own_outs node (wires_at wires k))
      (own_ins node (wires_at wires k)) writers readers (actor_at actors k)
  made_at = all_made.made

  past : (k : ℕ) → length nodes ≤ k → actor_at actors k ≡ an.Lent
  past k le = sym (unwrap_or-slice_get actors k an.Lent)
      ∙ ap (λ (o : Option (Actor M)). unwrap_or o an.Lent)
      (slice_get_past actors k (let c = all_made.count in omega (arith, le, c)))

  pipe_of : (p : ℕ) (l : Link) → slice_get links p ≡ Some l → (p < length pipes) × (l ≡ link p)
  pipe_of p l e =
      let lt : p < length pipes = (let w = slice_get_within links p l e in
      let c = all_links.count in omega (arith, w, c)) in
      (lt, some_same l (link p) (sym e ∙ all_links.each p lt))

  module _ (p : ℕ) (lt : p < length pipes) where
    fresh : IsOpened capacity limit writers readers p
    fresh = opened.each p lt

    from : (node : NodeSpec M) × (slice_get nodes (link p).writer ≡ Some node)
    from = some_at nodes (link p).writer ((own.within p lt).0)

    to : (node : NodeSpec M) × (slice_get nodes (link p).reader ≡ Some node)
    to = some_at nodes (link p).reader ((own.within p lt).1)

    out_listed : slice_get (own_outs from.0 (wires_at wires (link p).writer)) (link p).branch
        ≡ Some p
    out_listed =
        ap (λ (o : Option (NodeSpec M)). slice_get (outs_by o (wires_at wires (link p).writer))
        (link p).branch) (sym from.1) ∙ all_made.out_places p lt

    in_listed : slice_get (own_ins to.0 (wires_at wires (link p).reader)) (link p).input ≡ Some p
    in_listed =
        ap (λ (o : Option (NodeSpec M)). slice_get (ins_by o (wires_at wires (link p).reader))
        (link p).input) (sym to.1) ∙ all_made.in_places p lt

    out_is : out_at actors (link p) ≡ fresh.writing
    out_is =
        let m = made_at (link p).writer from.0 from.1 in
        let t = m.writing in
        let outs = own_outs from.0 (wires_at wires (link p).writer) in
        let at : slice_get writers p
        ≡ Some (slice_get (outs_of (actor_at actors (link p).writer)) (link p).branch) =
        ap (λ (q : ℕ). slice_get writers q)
        (sym (get_or_from_slice_get outs (link p).branch p 0 out_listed))
        ∙ t.each (link p).branch (slice_get_within outs (link p).branch p out_listed) in
        get_or_from_slice_get (outs_of (actor_at actors (link p).writer))
        (link p).branch fresh.writing no_writing (some_same _ _ (sym at ∙ fresh.out))

    in_is : in_at actors (link p) ≡ fresh.reading
    in_is =
        let m = made_at (link p).reader to.0 to.1 in
        let t = m.reading in
        let ins = own_ins to.0 (wires_at wires (link p).reader) in
        let at : slice_get readers p
        ≡ Some (slice_get (ins_of (actor_at actors (link p).reader)) (link p).input) =
        ap (λ (q : ℕ). slice_get readers q)
        (sym (get_or_from_slice_get ins (link p).input p 0 in_listed))
        ∙ t.each (link p).input (slice_get_within ins (link p).input p in_listed) in
        get_or_from_slice_get (ins_of (actor_at actors (link p).reader))
        (link p).input fresh.reading no_reading (some_same _ _ (sym at ∙ fresh.in_))

    placed_at : IsPlaced actors p (link p)
    placed_at =
        let plan = can.plan in
        let m = made_at (link p).writer from.0 from.1 in
        let r = made_at (link p).reader to.0 to.1 in
        record {
          order = plan.before p lt;
          within = (let w = (own.within p lt).1 in let c = all_made.count in omega (arith, w, c));
          out = ap (λ (xs : List ℕ). slice_get xs (link p).branch) m.outs_are ∙ out_listed;
          in_ = ap (λ (xs : List ℕ). slice_get xs (link p).input) r.ins_are ∙ in_listed;
        }

    beside_at : Beside (out_at actors (link p)) (in_at actors (link p))
    beside_at = subst₂ (λ (w : Writing) (r : Reading). Beside w r) (sym out_is)
        (sym in_is) fresh.beside

    new_pipe_at : IsNewPipe (out_at actors (link p)) (in_at actors (link p))
    new_pipe_at = subst₂ (λ (w : Writing) (r : Reading). IsNewPipe w r) (sym out_is) (sym in_is)
        (record {
          pipe = (let b = fresh.beside in let s = b.sees in s.ends);
          put =
              fresh.put;
          noted = fresh.noted;
          taken = fresh.taken;
          hung_up = fresh.hung_up;
        })

  capacity_at : (p : ℕ) (lt : p < length pipes) → (out_at actors (link p)).capacity ≡ capacity
  capacity_at p lt =
      let o = fresh p lt in
      ap (λ (w : Writing). w.capacity) (out_is p lt) ∙ o.capacity_is

  limit_at : (p : ℕ) (lt : p < length pipes) → (out_at actors (link p)).limit ≡ limit
  limit_at p lt = let o = fresh p lt in ap (λ (w : Writing). w.limit) (out_is p lt) ∙ o.limit_is

  numbered_made : (k : ℕ) (node : NodeSpec M) → slice_get nodes k ≡ Some node
      → IsNumbered links k (actor_at actors k)
  numbered_made k node at =
      let m = made_at k node at in
      let t = m.writing in
      let r = m.reading in
      record {
        outs = λ b p e.
            let listed : slice_get (own_outs node (wires_at wires k)) b ≡ Some p =
            ap (λ (xs : List ℕ). slice_get xs b) (sym m.outs_are) ∙ e in
            let all = own.outs k node at in
            let mine = (all.each p).1 (get_among (own_outs node (wires_at wires k)) b p listed) in
            let also : slice_get (own_outs node (wires_at wires k)) (link p).branch ≡ Some p =
            ap (λ (o : Option (NodeSpec M)). slice_get (outs_by o (wires_at wires k))
            (link p).branch) (sym at)
            ∙ (ap (λ (j : ℕ). slice_get (outs_at nodes wires j) (link p).branch) (sym mine.1)
            ∙ all_made.out_places p mine.0) in (
              link p,
              all_links.each p mine.0,
              mine.1,
              get_once (own_outs node (wires_at wires k)) all.once
                  (link p).branch b p also listed,
            );
        ins = λ b p e.
            let listed : slice_get (own_ins node (wires_at wires k)) b ≡ Some p =
            ap (λ (xs : List ℕ). slice_get xs b) (sym m.ins_are) ∙ e in
            let all = own.ins k node at in
            let mine = (all.each p).1 (get_among (own_ins node (wires_at wires k)) b p listed) in
            let also : slice_get (own_ins node (wires_at wires k)) (link p).input ≡ Some p =
            ap (λ (o : Option (NodeSpec M)). slice_get (ins_by o (wires_at wires k))
            (link p).input) (sym at)
            ∙ (ap (λ (j : ℕ). slice_get (ins_at nodes wires j) (link p).input) (sym mine.1)
            ∙ all_made.in_places p mine.0) in (
              link p,
              all_links.each p mine.0,
              mine.1,
              get_once (own_ins node (wires_at wires k)) all.once (link p).input b p also listed,
            );
        out_count = t.count ∙ sym (ap length m.outs_are);
        in_count = r.count ∙ sym (ap length m.ins_are);
      }

  numbered_lent : (k : ℕ) → IsNumbered links k (lent_node M)
  numbered_lent k = record {
    outs = λ b p e. absurd (cc e);
    ins =
        λ b p e. absurd (cc e);
    out_count = refl;
    in_count = refl;
  }

  numbered_at : (k : ℕ) → IsNumbered links k (actor_at actors k)
  numbered_at k = ⊎_elim
      (λ l. let h = some_at nodes k l in numbered_made k h.0 h.1)
      (λ g. subst (λ (a : Actor M). IsNumbered links k a) (sym (past k g)) (numbered_lent k))
      (cases_lt k (length nodes))

  in_file_at : (k file : ℕ) → in_file (actor_at actors k) ≡ Some file
      → (node : NodeSpec M) × (slice_get nodes k ≡ Some node) × (read_file node ≡ Some file)
  in_file_at k file e = ⊎_elim
      (λ l. let h = some_at nodes k l in let m = made_at k h.0 h.1 in
      (h.0, h.1, sym (in_file_of shows block h.0 (actor_at actors k) m.new) ∙ e))
      (λ g. absurd (cc (sym (ap (λ (a : Actor M). in_file a) (past k g)) ∙ e)))
      (cases_lt k (length nodes))

  out_file_at : (k file : ℕ) → out_file (actor_at actors k) ≡ Some file
      → (node : NodeSpec M) × (slice_get nodes k ≡ Some node) × (written_file node ≡ Some file)
  out_file_at k file e = ⊎_elim
      (λ l. let h = some_at nodes k l in let m = made_at k h.0 h.1 in
      (h.0, h.1, sym (out_file_of shows block h.0 (actor_at actors k) m.new) ∙ e))
      (λ g. absurd (cc (sym (ap (λ (a : Actor M). out_file a) (past k g)) ∙ e)))
      (cases_lt k (length nodes))

  made_joined : IsJoined n
  made_joined = record {
    wired = record {
      placed = λ p l e. let h = pipe_of p l e in
          subst (λ (x : Link). IsPlaced actors p x) (sym h.1) (placed_at p h.0);
      numbered = numbered_at;
    };
    beside = λ p l e. let h = pipe_of p l e in
        subst (λ (x : Link). Beside (out_at actors x) (in_at actors x)) (sym h.1) (beside_at p h.0);
    wires = record {
      within = λ k i lt. let o = wired.only k i (slice_index (wires_at wires k) i)
          (slice_get-get_or (wires_at wires k) i 0 lt) in let l = o.0 in let c = all_links.count in
          omega (arith, l, c);
      all = λ p l e. let h = pipe_of p l e in
          subst (λ (x : Link). Contains (wires_at wires x.writer) p
          × Contains (wires_at wires x.reader) p) (sym h.1) (wired.all p h.0);
    };
    lists = wired.lists ∙ sym all_made.count;
    here = λ k lt. let h = some_at nodes k (let c = all_made.count in omega (arith, lt, c)) in
        let m = made_at k h.0 h.1 in here_of shows block h.0 (actor_at actors k) m.new;
    apart = record {
      ins = λ j k file ne a b. let x = in_file_at j file a in let y = in_file_at k file b in
          ne (let own_files = can.apart in own_files.ins j k file x.0 y.0 x.1 y.1 x.2 y.2);
      outs = λ j k file ne a b. let x = out_file_at j file a in let y = out_file_at k file b in
          ne (let own_files = can.apart in own_files.outs j k file x.0 y.0 x.1 y.1 x.2 y.2);
    };
    rooms = record {
      some = λ p l e. let h = pipe_of p l e in
          subst (λ (x : Link). 0 < (out_at actors x).capacity) (sym h.1)
          (subst (λ (m : ℕ). 0 < m) (sym (capacity_at p h.0)) positive);
      within = λ p l e. let h = pipe_of p l e in
          subst (λ (x : Link). (out_at actors x).capacity ≤ most) (sym h.1)
          (subst (λ (m : ℕ). m ≤ most) (sym (capacity_at p h.0)) bounds.0);
      most = bounds.1;
    };
  }

  made_opened : (files : FilesShown) → AreFresh files nodes → HasOpened n files
  made_opened files f k = ⊎_elim
      (λ l. let h = some_at nodes k l in let m = made_at k h.0 h.1 in
      has_file shows block files h.0 (actor_at actors k) m.new (f k h.0 h.1))
      (λ g. subst (λ (a : Actor M). HasFile files a) (sym (past k g)) tt)
      (cases_lt k (length nodes))

  made_nodes : (k : ℕ) (node : NodeSpec M) → slice_get nodes k ≡ Some node
      → IsNodeOf node (actor_at actors k)
  made_nodes k node at =
      let m = made_at k node at in
      record {
        in_file_is = in_file_of shows block node (actor_at actors k) m.new;
        out_file_is = out_file_of shows block node (actor_at actors k) m.new;
        in_name_is = in_name_of shows block node (actor_at actors k) m.new;
        out_name_is = out_name_of shows block node (actor_at actors k) m.new;
      }

  made_room : (p : ℕ) → p < length pipes → (writing_by actors (slice_get links p)).capacity
      ≡ capacity
  made_room p lt = ap (λ (x : Option Link). (writing_by actors x).capacity) (all_links.each p lt)
      ∙ capacity_at p lt

  module _ (s : Setup) (files : FilesShown)
      (for : AreFor shows s nodes pipes status most limit block) (f : AreFresh files nodes) where
    joins_are : map joins links ≡ pipes
    joins_are = same_lists (map joins links) pipes (length-map links joins ∙ all_links.count)
        (λ i lt. slice_get-map joins links i
        ∙ (ap (λ (o : Option Link). option_map joins o) (all_links.each i lt)
        ∙ sym (slice_get-get_or pipes i (0, 0) lt)))

    made_right : IsRight shows s n files
    made_right = record {
      plan = for.plan;
      graph = record { count = all_made.count ∙ for.count; pipes = joins_are ∙ for.pipes_are };
      status = for.status_is;
      most = for.most_is;
      joined = made_joined;
      limits = λ p l e. let h = pipe_of p l e in
          subst (λ (x : Link). (out_at actors x).limit ≡ s.limit) (sym h.1) (limit_at p h.0
          ∙ for.limit_is);
      roomy =
          let limit_is = for.limit_is in
          let block_is = for.block_is in
          omega (arith, roomy, limit_is, block_is);
      fits = λ k lt. let h = some_at nodes k (let c = all_made.count in omega (arith, lt, c)) in
          let m = made_at k h.0 h.1 in
          fits_new shows block files s k for.block_is (node_at s.graph k) h.0 (actor_at actors k)
          (wires_at wires k) m.outs_are m.ins_are m.new (f k h.0 h.1) (for.each k h.0 h.1);
    }

    made_empty : ((m : M) → ObeysLaw (shows m)) → IsNew s (network_state shows n files)
    made_empty law = record {
      pipes = λ p. ⊎_elim
          (λ l. subst (λ (o : Option Link). IsNewPipe (writing_by actors o) (reading_by actors o))
          (sym (all_links.each p l)) (new_pipe_at p l))
          (λ g. subst (λ (o : Option Link). IsNewPipe (writing_by actors o) (reading_by actors o))
          (sym (slice_get_past links p (let c = all_links.count in omega (arith, g, c))))
          (record { pipe = refl; put = refl; noted = refl; taken = refl; hung_up = refl }))
          (cases_lt p (length pipes));
      parts = λ k. ⊎_elim
          (λ l. let h = some_at nodes k l in let m = made_at k h.0 h.1 in let t = m.writing in
          new_part shows block files s k for.block_is law (node_at s.graph k) h.0
          (actor_at actors k) (wires_at wires k) m.outs_are t.count m.new (f k h.0 h.1)
          (for.each k h.0 h.1))
          (λ g. subst (λ (o : Option GraphNode). IsNewPart s k o
          (part_of shows files (actor_at actors k)))
          (sym (slice_get_past s.graph.nodes k (let c = for.count in omega (arith, g, c))))
          NoPart)
          (cases_lt k (length nodes));
    }

  -- what is so of the network
  pub made_network : ((m : M) → ObeysLaw (shows m))
      → Makes shows nodes pipes status capacity most limit block n
  made_network law = record {
    joined = made_joined;
    opened = made_opened;
    right = made_right;
    empty = λ s files for fresh. made_empty s files for fresh law;
    room = made_room;
    nodes_are = made_nodes;
  }

-- ---- the network that is made

module _ {M : Type 0} (shows : M → Shown) (nodes : List (NodeSpec M)) (pipes : List (ℕ × ℕ))
    (can : CanBeMade shows nodes pipes) (count : ℕ) (same : count ≡ length nodes)
    (lists : List (Vec ℕ)) (wired : AreWiresOf count pipes (map (λ v. v.items) lists)) where
  abbrev tables : List (List ℕ)
  tables = map (λ v. v.items) lists

  all_wired : AreWiresOf (length nodes) pipes tables
  all_wired = subst (λ (k : ℕ). AreWiresOf k pipes tables) same wired

  owned : AreOwned shows nodes pipes tables
  owned = are_owned shows nodes pipes can tables all_wired

  pub owned_by : (wires : List (Vec ℕ)) → wires ≡ lists
      → AreOwned shows nodes pipes (map (λ v. v.items) wires)
  owned_by wires e =
      subst (λ (vs : List (Vec ℕ)). AreOwned shows nodes pipes (map (λ v. v.items) vs))
      (sym e) owned

  pub makes : ((m : M) → ObeysLaw (shows m)) → (status capacity most limit block : ℕ) → 0 < capacity
      → (capacity ≤ most) × (most ≤ 4096) → block ≤ limit
      → (writers : List (Option Writing)) (readers : List (Option Reading))
      → AreOpened (length pipes) capacity limit writers readers → (wires : List (Vec ℕ))
      → wires ≡ lists → (actors : List (Actor M)) (links : List Link)
      → AreLinked shows block nodes pipes (map (λ v. v.items) wires) writers readers actors links
      → Makes shows nodes pipes status capacity most limit block
      (networked actors links lists status most)
  makes law status capacity most limit block positive bounds roomy writers readers opened wires e
      actors links given =
      let linked : AreLinked shows block nodes pipes tables writers readers actors links =
      subst (λ (vs : List (Vec ℕ)). AreLinked shows block nodes pipes
      (map (λ v. v.items) vs) writers readers actors links) e given in
      made_network shows nodes pipes status capacity most limit block
      (record {
        positive = positive;
        bounds = bounds;
        roomy = roomy;
        can = can;
        wires = tables;
        wired = all_wired;
        own = owned;
        writers = writers;
        readers = readers;
        opened = opened;
        actors = actors;
        links = links;
        linked = linked;
      })
      law

-- A step of one node and a look at its pipes keep a network joined, opened and right.
use Rattle.std.proofs.Common.{◌≡◌, ◌≢◌, ℕ, ◌<◌, ◌≤◌, List, Option, Some, None, set, length, refl}
use Rattle.std.proofs.Common.{ap, ◌∙◌, sym, subst, subst₂, ⊎_elim, length-set}
use Rattle.std.specs.Prelude.{slice_get, Contains}
use Rattle.std.proofs.lemmas.Bool.{cases_eq}
use Rattle.std.proofs.lemmas.List.{get_or_default}
use Rattle.machine.specs.Law.{Shown}
use Rattle.bounded_pipe.specs.Ends.{Beside}
use Rattle.collector.specs.Files.{FilesShown}
use Rattle.run_types.specs.declared.step.Step.{Step}
use Rattle.graphs.specs.Graph.{node_at}
use Rattle.stages.specs.inner.Steps.{HasState}
use Rattle.network_laws.specs.State.{Part, Setup, node_state_of}
use Rattle.network_nodes.specs.declared.actor.Actor.{Actor}
use Rattle.network_nodes.specs.declared.actor.Actor.TheVariants as an
use Rattle.network_nodes.specs.declared.actor.Link.{Link}
use Rattle.network_nodes.specs.inner.Actors.{out_end, in_end, out_at, in_at, actor_at}
use Rattle.network_nodes.specs.inner.MadeNodes.{wires_at}
use Rattle.networks.specs.Networks.{Networked, FitsAt, HasFile, HasOpened, IsHere, AreBeside}
use Rattle.networks.specs.Networks.{AreApart, in_file, out_file, writing_by, part_of, SameActor}
use Rattle.networks.specs.Networks.{SameNetwork, TouchesOwn, IsJoined, IsRight, Face}
use Rattle.networks.specs.inner.Steps.{Sees, StepsAt}
use Rattle.networks.proofs.SightLaws.{still_wired}
use Rattle.networks.proofs.Same.{same_actor_refl, same_actor_trans, acts_same, acts_own}
use Rattle.networks.proofs.Same.{acts_in_state}
use Rattle.networks.proofs.Acted.{at_same, at_else, each_node, moved_wired}
use Rattle.networks.proofs.ActLaws.{acts_writes, acts_here, acts_opened, own_opened, own_fits}
use Rattle.networks.proofs.ActLaws.{other_fits}

module _ {M : Type 0} where
  module _ (shows : M → Shown) (k : ℕ) (n : Networked M) (later : List (Actor M))
      (old new : FilesShown) (st : Step) (lt : k < length n.nodes)
      (s : StepsAt shows k n.pipes (wires_at n.wires k) n.nodes later old new st) where
    -- the nodes after the step, before the look
    abbrev moved : List (Actor M)
    moved = set n.nodes k s.actor

    abbrev looked : Networked M
    looked = record {
      nodes = later;
      pipes = n.pipes;
      wires = n.wires;
      status = n.status;
      most =
          n.most;
    }

    moved_count : length moved ≡ length n.nodes
    moved_count = length-set n.nodes k s.actor

    later_count : length later ≡ length n.nodes
    later_count = let e = s.sees.sees in e.count ∙ moved_count

    -- an end of another node is as it was
    out_else : (l : Link) → l.writer ≢ k → out_at moved l ≡ out_at n.nodes l
    out_else l ne = ap (λ (a : Actor M). out_end a l.branch) (at_else n.nodes k l.writer s.actor ne)

    in_else : (l : Link) → l.reader ≢ k → in_at moved l ≡ in_at n.nodes l
    in_else l ne = ap (λ (a : Actor M). in_end a l.input) (at_else n.nodes k l.reader s.actor ne)

    sees_all : Sees n.pipes moved later
    sees_all = let e = s.sees in e.sees

    -- a pipe in the node's list was looked at
    beside_listed : (p : ℕ) (l : Link) → slice_get n.pipes p ≡ Some l
        → Contains (wires_at n.wires k) p → Beside (out_at later l) (in_at later l)
    beside_listed p l e c =
        let each = s.sees in
        each.each c.0 c.1 l (ap (λ (q : ℕ). slice_get n.pipes q)
        (get_or_default (wires_at n.wires k) c.0 0 p c.1 ∙ c.2) ∙ e)

    later_beside : IsJoined n → AreBeside later n.pipes
    later_beside j p l e = ⊎_elim
        (λ w. beside_listed p l e (let a = j.wires in
        subst (λ (i : ℕ). Contains (wires_at n.wires i) p) w ((a.all p l e).0)))
        (λ nw. ⊎_elim
        (λ r. beside_listed p l e (let a = j.wires in
        subst (λ (i : ℕ). Contains (wires_at n.wires i) p) r ((a.all p l e).1)))
        (λ nr. sees_all.beside p l e
        (subst₂ Beside (sym (out_else l nw)) (sym (in_else l nr)) (j.beside p l e)))
        (cases_eq l.reader k))
        (cases_eq l.writer k)

    later_here : IsJoined n → (j : ℕ) → j < length later → IsHere (actor_at later j)
    later_here joined j lj =
        let t = sees_all.nodes j in
        t.here (each_node (λ i a. i < length n.nodes → IsHere a) n.nodes k s.actor lt
        (λ _. acts_here shows old new st (actor_at n.nodes k) s.actor s.acts)
        (λ i ne. joined.here i) j (subst (λ (m : ℕ). j < m) later_count lj))

    -- each node is what it was
    pub same_later : (j : ℕ) → SameActor (actor_at n.nodes j) (actor_at later j)
    same_later j =
        let t = sees_all.nodes j in
        same_actor_trans (actor_at n.nodes j) (actor_at moved j) (actor_at later j)
        (each_node (λ i a. SameActor (actor_at n.nodes i) a) n.nodes k s.actor lt
        (acts_same shows old new st (actor_at n.nodes k) s.actor s.acts)
        (λ i ne. same_actor_refl (actor_at n.nodes i)) j)
        t.same

    in_file_later : (j : ℕ) → in_file (actor_at later j) ≡ in_file (actor_at n.nodes j)
    in_file_later j = let e = same_later j in ap (λ (f : Face). f.in_file) e

    out_file_later : (j : ℕ) → out_file (actor_at later j) ≡ out_file (actor_at n.nodes j)
    out_file_later j = let e = same_later j in ap (λ (f : Face). f.out_file) e

    still_apart : AreApart n.nodes → AreApart later
    still_apart apart = record {
      ins = λ i j file ne a b. apart.ins i j file ne (sym (in_file_later i)
          ∙ a) (sym (in_file_later j) ∙ b);
      outs = λ i j file ne a b. apart.outs i j file ne (sym (out_file_later i)
          ∙ a) (sym (out_file_later j) ∙ b);
    }

    -- the capacity of each pipe is what it was
    capacity_later : (l : Link) → (out_at later l).capacity ≡ (out_at n.nodes l).capacity
    capacity_later l =
        let t = sees_all.nodes l.writer in
        let seen = t.writing l.branch in
        seen.capacity
        ∙ each_node (λ i a. (out_end a l.branch).capacity
        ≡ (out_end (actor_at n.nodes i) l.branch).capacity) n.nodes k s.actor lt
        (let on = acts_writes shows old new st (actor_at n.nodes k) s.actor s.acts l.branch in
        on.capacity) (λ i ne. refl) l.writer

    -- and so is its limit in bytes
    limit_later : (l : Link) → (out_at later l).limit ≡ (out_at n.nodes l).limit
    limit_later l =
        let t = sees_all.nodes l.writer in
        let seen = t.writing l.branch in
        seen.limit
        ∙ each_node (λ i a. (out_end a l.branch).limit
        ≡ (out_end (actor_at n.nodes i) l.branch).limit) n.nodes k s.actor lt
        (let on = acts_writes shows old new st (actor_at n.nodes k) s.actor s.acts l.branch in
        on.limit) (λ i ne. refl) l.writer

    pub still_joined : IsJoined n → IsJoined looked
    still_joined j = record {
      wired = still_wired n.pipes moved later sees_all
          (moved_wired shows n.nodes k an.Lent s.actor old new st lt s.acts n.pipes j.wired);
      beside = later_beside j;
      wires = j.wires;
      lists = j.lists ∙ sym later_count;
      here = later_here j;
      apart = still_apart j.apart;
      rooms = let r = j.rooms in record {
        some = λ p l e. subst (λ (m : ℕ). 0 < m) (sym (capacity_later l)) (r.some p l e);
        within = λ p l e. subst (λ (m : ℕ). m ≤ n.most) (sym (capacity_later l)) (r.within p l e);
        most = r.most;
      };
    }

    pub still_opened : HasOpened n old → HasOpened looked new
    still_opened h j =
        let t = sees_all.nodes j in
        t.file new (each_node (λ i a. HasFile new a) n.nodes k s.actor lt
        (own_opened shows old new st (actor_at n.nodes k) s.actor s.acts (h k))
        (λ i ne. acts_opened shows old new st (actor_at n.nodes k) s.actor s.acts
        (actor_at n.nodes i) (h i)) j)

    still_fits : (su : Setup) → AreApart n.nodes
        → ((j : ℕ) → j < length n.nodes
        → FitsAt shows su old j (node_at su.graph j) (actor_at n.nodes j)) → (j : ℕ)
        → j < length later → FitsAt shows su new j (node_at su.graph j) (actor_at later j)
    still_fits su apart fits j lj =
        let see = sees_all.nodes j in
        see.fits shows su new j (node_at su.graph j)
        (each_node (λ i a. i < length n.nodes
        → FitsAt shows su new i (node_at su.graph i) a) n.nodes k s.actor lt
        (λ _. own_fits shows old new st (actor_at n.nodes k) s.actor s.acts su k
        (node_at su.graph k) (fits k lt))
        (λ i ne li. other_fits shows old new st (actor_at n.nodes k) s.actor
        (actor_at n.nodes i) s.acts
        (λ file a b. apart.ins i k file ne b a) (λ file a b. apart.outs i k file ne b a) su i
        (node_at su.graph i) (fits i li))
        j (subst (λ (m : ℕ). j < m) later_count lj))

    pub still_right : (su : Setup) → IsRight shows su n old → IsRight shows su looked new
    still_right su r = record {
      plan = r.plan;
      graph = let g = r.graph in record { count = later_count ∙ g.count; pipes = g.pipes };
      status = r.status;
      most = r.most;
      joined = still_joined r.joined;
      limits = λ p l e. limit_later l ∙ r.limits p l e;
      roomy = r.roomy;
      fits = still_fits su (let j = r.joined in j.apart) r.fits;
    }

    capacity_by : (o : Option Link) → (writing_by later o).capacity
        ≡ (writing_by n.nodes o).capacity
    capacity_by None = refl
    capacity_by (Some l) = capacity_later l

    pub still_same : SameNetwork n looked
    still_same = record {
      pipes = refl;
      wires = refl;
      status = refl;
      most = refl;
      count =
          later_count;
      nodes = same_later;
      rooms = λ p. capacity_by (slice_get n.pipes p);
    }

    pub touches_own : TouchesOwn (actor_at n.nodes k) old new
    touches_own = acts_own shows old new st (actor_at n.nodes k) s.actor s.acts

    pub state_as : HasState (node_state_of (part_of shows new (actor_at later k))) st
    state_as =
        let t = sees_all.nodes k in
        subst (λ (x : Part). HasState (node_state_of x) st)
        (ap (λ (a : Actor M). part_of shows new a) (sym (at_same n.nodes k s.actor lt))
        ∙ sym (t.part_is shows new))
        (acts_in_state shows old new st (actor_at n.nodes k) s.actor s.acts)

-- Nodes that go on while no pipe is looked at: they are what they were, and a network of them stays
-- whole and set.
use Rattle.std.proofs.Common.{◌≡◌, ◌≢◌, ℕ, ◌<◌, ◌≤◌, List, Option, Some, None, set, length, refl}
use Rattle.std.proofs.Common.{ap, ◌∙◌, sym, subst, length-set}
use Rattle.std.specs.Prelude.{slice_get}
use Rattle.std.proofs.lemmas.Slice.Zip.{AllZip-long}
use Rattle.machine.specs.Law.{Shown}
use Rattle.bounded_pipe.specs.Ends.{WritesOn, ReadsOn}
use Rattle.bounded_pipe.proofs.Records.{writes_on_transitive, reads_on_transitive}
use Rattle.collector.specs.Files.{FilesShown}
use Rattle.run_types.specs.declared.step.Step.{Step}
use Rattle.stages.specs.inner.Staged.{Staged}
use Rattle.graphs.specs.Graph.{GraphNode, node_at}
use Rattle.network_laws.specs.State.{Part, Setup, told, answer_of, node_state_of}
use Rattle.network_laws.proofs.StepLaws.{same_writes_on, same_reads_on}
use Rattle.network_nodes.specs.declared.actor.Actor.{Actor}
use Rattle.network_nodes.specs.declared.actor.Actor.TheVariants as an
use Rattle.network_nodes.specs.declared.actor.Link.{Link}
use Rattle.network_nodes.specs.inner.Actors.{no_writing, no_reading, out_end, in_end, actor_at}
use Rattle.network_nodes.specs.inner.Actors.{node_state_at}
use Rattle.run_types.specs.declared.node_state.NodeState.TheVariants.{Running}
use Rattle.collector.specs.Nodes.{SourceShown, SinkShown}
use Rattle.networks.proofs.EndLaws.{state_is}
use Rattle.networks.specs.Networks.{Networked, FitsAt, HasFile, HasOpened, AreEndsOf, AreApart}
use Rattle.networks.specs.Networks.{in_file, out_file, writing_by, SameNetwork, IsJoined, IsRight}
use Rattle.networks.specs.Networks.{FitsStage, Face}
use Rattle.networks.specs.inner.Steps.{Acts, Sees}
use Rattle.networks.proofs.Acted.{each_node}
use Rattle.networks.proofs.ActLaws.{SameTables, same_wired, zip_get, writes_on_refl, reads_on_refl}
use Rattle.networks.proofs.ActLaws.{acts_tables, acts_writes, acts_reads, acts_here, acts_opened}
use Rattle.networks.proofs.ActLaws.{own_opened, own_fits, other_fits}
use Rattle.networks.proofs.Same.{same_actor_refl, same_actor_trans, acts_same}
use Rattle.lending.specs.inner.Loans.{GoesOn, IsWhole, IsSet, NodeGoesOn, NodesGoOn, with_nodes}

module _ {M : Type 0} where
  module _ (shows : M → Shown) where
    -- ---- a node

    -- a node that does nothing goes on
    pub node_refl : (f : FilesShown) (a : Actor M) → NodeGoesOn shows f f a a
    node_refl f a = record {
      same = same_actor_refl a;
      out_count = refl;
      in_count = refl;
      writes = λ k. writes_on_refl (out_end a k);
      reads = λ k. reads_on_refl (in_end a k);
      here = λ h. h;
      halted = λ h. refl;
      file = λ h. h;
      fits = λ s k node h. h;
    }

    -- a node that goes on, and then goes on
    pub node_trans : (f g h : FilesShown) (a b c : Actor M) → NodeGoesOn shows f g a b
        → NodeGoesOn shows g h b c → NodeGoesOn shows f h a c
    node_trans f g h a b c p q = record {
      same = same_actor_trans a b c p.same q.same;
      out_count = q.out_count ∙ p.out_count;
      in_count = q.in_count ∙ p.in_count;
      writes = λ k. writes_on_transitive (out_end a k) (out_end b k) (out_end c k) (p.writes k)
          (q.writes k);
      reads = λ k. reads_on_transitive (in_end a k) (in_end b k) (in_end c k) (p.reads k)
          (q.reads k);
      here = λ x. q.here (p.here x);
      halted = λ h. q.halted (λ e. h (sym (p.halted h) ∙ e)) ∙ p.halted h;
      file = λ x. q.file (p.file x);
      fits = λ s k node x. q.fits s k node (p.fits s k node x);
    }

    stage_fits : (t u : Staged M) → GoesOn shows t u
        → (s : Setup) (f : FilesShown) (k : ℕ) (node : Option GraphNode)
        → FitsAt shows s f k node (an.Stage t) → FitsAt shows s f k node (an.Stage u)
    stage_fits t u g s f k _ (FitsStage {filter} {inputs} ins outs case block) =
        let w = g.writes in
        let r = g.reads in
        FitsStage (r.pipes ∙ ins) (w.pipes ∙ outs) (g.case (answer_of filter (told s inputs)) case)
        (w.block ∙ block)

    -- a stage that goes on
    pub stage_goes : (f : FilesShown) (t u : Staged M) → GoesOn shows t u
        → NodeGoesOn shows f f (an.Stage t) (an.Stage u)
    stage_goes f t u g =
        let w = g.writes in
        let r = g.reads in
        record {
          same = cc (w.pipes, r.pipes, w.block);
          out_count = AllZip-long WritesOn t.outlet.ends u.outlet.ends w.ends;
          in_count = AllZip-long ReadsOn t.inlet.ends u.inlet.ends r.ends;
          writes = zip_get WritesOn no_writing
              (writes_on_refl no_writing) t.outlet.ends u.outlet.ends w.ends;
          reads = zip_get ReadsOn no_reading
              (reads_on_refl no_reading) t.inlet.ends u.inlet.ends r.ends;
          here = λ h. h;
          halted = λ h. ap (λ (x : Staged M). x.state) (g.stays h);
          file = λ h. h;
          fits = λ s k node h. stage_fits t u g s f k node h;
        }

    module _ (f g : FilesShown) (st : Step) where
      -- a node that does not run stays in its state
      acts_halted : (a b : Actor M) → Acts shows a b f g st → node_state_at a ≢ Running
          → node_state_at b ≡ node_state_at a
      acts_halted (an.Source x) (an.Source z) h halts =
          ap (λ (y : SourceShown). y.state) (h.stays halts).0
      acts_halted (an.Stage t) (an.Stage u) h halts =
          ap (λ (x : Staged M). x.state) (h.0.stays halts)
      acts_halted (an.Sink y) (an.Sink z) h halts =
          ap (λ (x : SinkShown). x.state) (h.stays halts).0
      acts_halted a b h halts = absurd h

      -- a node that steps
      pub acts_goes : (a b : Actor M) → Acts shows a b f g st → NodeGoesOn shows f g a b
      acts_goes a b h =
          let t = acts_tables shows f g st a b h in
          record {
            same = acts_same shows f g st a b h;
            out_count = t.out_count;
            in_count = t.in_count;
            writes = acts_writes shows f g st a b h;
            reads = acts_reads shows f g st a b h;
            here = λ x. acts_here shows f g st a b h;
            halted = acts_halted a b h;
            file = own_opened shows f g st a b h;
            fits = λ s k node x. own_fits shows f g st a b h s k node x;
          }

      -- and another one meanwhile
      pub other_goes : (a b c : Actor M) → Acts shows a b f g st
          → ((file : ℕ) → in_file a ≡ Some file → in_file c ≡ Some file → ⊥)
          → ((file : ℕ) → out_file a ≡ Some file → out_file c ≡ Some file → ⊥)
          → NodeGoesOn shows f g c c
      other_goes a b c h ins outs = record {
        same = same_actor_refl c;
        out_count = refl;
        in_count = refl;
        writes = λ k. writes_on_refl (out_end c k);
        reads = λ k. reads_on_refl (in_end c k);
        here = λ x. x;
        halted = λ x. refl;
        file = acts_opened shows f g st a b h c;
        fits = λ s k node x. other_fits shows f g st a b c h ins outs s k node x;
      }

      -- so all nodes go on
      pub step_goes : (nodes : List (Actor M)) (k : ℕ) (actor : Actor M) → k < length nodes
          → Acts shows (actor_at nodes k) actor f g st → AreApart nodes
          → NodesGoOn shows f g nodes (set nodes k actor)
      step_goes nodes k actor lt acts apart = record {
        count = length-set nodes k actor;
        nodes = each_node (λ j a. NodeGoesOn shows f g (actor_at nodes j) a) nodes k actor lt
            (acts_goes (actor_at nodes k) actor acts)
            (λ j ne. other_goes (actor_at nodes k) actor (actor_at nodes j) acts
            (λ file a b. apart.ins j k file ne b a) (λ file a b. apart.outs j k file ne b a));
      }

      -- and each file stays open
      pub step_opened : (nodes : List (Actor M)) (k : ℕ) (actor : Actor M) → k < length nodes
          → Acts shows (actor_at nodes k) actor f g st → ((j : ℕ) → HasFile f (actor_at nodes j))
          → (j : ℕ) → HasFile g (actor_at (set nodes k actor) j)
      step_opened nodes k actor lt acts h =
          each_node (λ j a. HasFile g a) nodes k actor lt
          (own_opened shows f g st (actor_at nodes k) actor acts (h k))
          (λ j ne. acts_opened shows f g st (actor_at nodes k) actor acts (actor_at nodes j) (h j))

    -- ---- all nodes

    -- nodes that do nothing
    pub nodes_refl : (f : FilesShown) (nodes : List (Actor M)) → NodesGoOn shows f f nodes nodes
    nodes_refl f nodes = record { count = refl; nodes = λ k. node_refl f (actor_at nodes k) }

    -- nodes that go on, and then go on
    pub nodes_trans : (f g h : FilesShown) (a b c : List (Actor M)) → NodesGoOn shows f g a b
        → NodesGoOn shows g h b c → NodesGoOn shows f h a c
    nodes_trans f g h a b c p q = record {
      count = q.count ∙ p.count;
      nodes = λ k. node_trans f g h (actor_at a k) (actor_at b k) (actor_at c k) (p.nodes k)
          (q.nodes k);
    }

    -- a look leaves nodes that go on
    pub sees_goes : (f : FilesShown) (pipes : List Link) (a b : List (Actor M)) → Sees pipes a b
        → NodesGoOn shows f f a b
    sees_goes f pipes a b s = record {
      count = s.count;
      nodes = λ k.
          let m = s.nodes k in
          record {
            same = m.same;
            out_count = m.out_count;
            in_count = m.in_count;
            writes = λ j. same_writes_on (out_end (actor_at a k) j) (out_end (actor_at b k) j)
                (m.writing j);
            reads = λ j. same_reads_on (in_end (actor_at a k) j) (in_end (actor_at b k) j)
                (m.reading j);
            here = m.here;
            halted = λ halts. sym (state_is shows f (actor_at b k))
                ∙ (ap (λ (x : Part). node_state_of x) (m.part_is shows f)
                ∙ state_is shows f (actor_at a k));
            file = m.file f;
            fits = λ su i node h. m.fits shows su f i node h;
          };
    }

    -- nodes that go on are still apart
    pub goes_apart : (f g : FilesShown) (a b : List (Actor M)) → NodesGoOn shows f g a b
        → AreApart a → AreApart b
    goes_apart f g a b p apart = record {
      ins = λ i j file ne x y. apart.ins i j file ne
          (sym (let m = p.nodes i in let e = m.same in ap (λ (f : Face). f.in_file) e)
          ∙ x) (sym (let m = p.nodes j in let e = m.same in ap (λ (f : Face). f.in_file) e) ∙ y);
      outs = λ i j file ne x y. apart.outs i j file ne
          (sym (let m = p.nodes i in let e = m.same in ap (λ (f : Face). f.out_file) e)
          ∙ x) (sym (let m = p.nodes j in let e = m.same in ap (λ (f : Face). f.out_file) e) ∙ y);
    }

    module _ (f g : FilesShown) (n : Networked M) (later : List (Actor M))
        (p : NodesGoOn shows f g n.nodes later) where
      tables : (k : ℕ) → SameTables (actor_at n.nodes k) (actor_at later k)
      tables k =
          let m = p.nodes k in
          let e = m.same in
          record {
            outs = ap (λ (f : Face). f.outs) e;
            ins = ap (λ (f : Face). f.ins) e;
            out_count =
                m.out_count;
            in_count = m.in_count;
          }

      ends : AreEndsOf n.nodes n.pipes → AreEndsOf later n.pipes
      ends h q l e =
          let a = p.nodes l.writer in
          let b = p.nodes l.reader in
          let w = a.writes l.branch in
          let r = b.reads l.input in
          w.pipe ∙ (h q l e ∙ sym r.pipe)

      capacity_by : (o : Option Link) → (writing_by later o).capacity
          ≡ (writing_by n.nodes o).capacity
      capacity_by None = refl
      capacity_by (Some l) = let m = p.nodes l.writer in let w = m.writes l.branch in w.capacity

      -- a network whose nodes go on is what it was
      pub goes_same : SameNetwork n (with_nodes n later)
      goes_same = record {
        pipes = refl;
        wires = refl;
        status = refl;
        most = refl;
        count = p.count;
        nodes = λ k. let m = p.nodes k in m.same;
        rooms = λ q. capacity_by (slice_get n.pipes q);
      }

      -- and it stays whole
      pub goes_whole : IsWhole n → IsWhole (with_nodes n later)
      goes_whole w = record {
        wired = same_wired n.pipes n.nodes later p.count tables w.wired;
        ends = ends w.ends;
        wires = w.wires;
        lists = w.lists ∙ sym p.count;
        here = λ k lt. let m = p.nodes k in m.here (w.here k (subst (λ (c : ℕ). k < c) p.count lt));
        apart = goes_apart f g n.nodes later p w.apart;
        rooms = let r = w.rooms in record {
          some = λ q l e. subst (λ (c : ℕ). 0 < c) (sym (capacity_by (Some l))) (r.some q l e);
          within = λ q l e. subst (λ (c : ℕ). c ≤ n.most) (sym (capacity_by (Some l)))
              (r.within q l e);
          most = r.most;
        };
      }

      -- and set
      pub goes_set : (s : Setup) → IsSet shows s n f → IsSet shows s (with_nodes n later) g
      goes_set s r = record {
        plan = r.plan;
        graph = let o = r.graph in record { count = p.count ∙ o.count; pipes = o.pipes };
        status = r.status;
        most = r.most;
        whole = goes_whole r.whole;
        limits = λ q l e. let m = p.nodes l.writer in let w = m.writes l.branch in w.limit
            ∙ r.limits q l e;
        roomy = r.roomy;
        fits = λ k lt. let m = p.nodes k in
            m.fits s k (node_at s.graph k) (r.fits k (subst (λ (c : ℕ). k < c) p.count lt));
      }

      -- and each of its files open
      pub goes_opened : HasOpened n f → HasOpened (with_nodes n later) g
      goes_opened h k = let m = p.nodes k in m.file (h k)

  -- two networks with equal tables, if the nodes of one go on from those of the other, are the same
  -- network
  pub tables_same : (shows : M → Shown) (f g : FilesShown) (n m : Networked M)
      → m ≡ with_nodes n m.nodes → NodesGoOn shows f g n.nodes m.nodes → SameNetwork n m
  tables_same shows f g n m t p = subst (λ (x : Networked M). SameNetwork n x) (sym t)
      (goes_same shows f g n m.nodes p)

  -- ---- a network that was looked at is whole, and set where it is right

  pub whole_of : (n : Networked M) → IsJoined n → IsWhole n
  whole_of n j = record {
    wired = j.wired;
    ends = λ p l e. let b = j.beside p l e in let s = b.sees in s.ends;
    wires = j.wires;
    lists = j.lists;
    here = j.here;
    apart = j.apart;
    rooms = j.rooms;
  }

  pub set_of : (shows : M → Shown) (s : Setup) (n : Networked M) (files : FilesShown)
      → IsRight shows s n files → IsSet shows s n files
  set_of shows s n files r = record {
    plan = r.plan;
    graph = r.graph;
    status = r.status;
    most =
        r.most;
    whole = whole_of n r.joined;
    limits = r.limits;
    roomy = r.roomy;
    fits = r.fits;
  }

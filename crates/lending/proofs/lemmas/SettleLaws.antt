-- A network to which all stages are back, after a look at every pipe from both sides.
use Rattle.std.proofs.Common.{◌≡◌, ℕ, ◌<◌, ◌≤◌, Option, Some, None, refl, ◌∙◌, sym, subst, ap}
use Rattle.std.specs.Prelude.{slice_get}
use Rattle.machine.specs.Law.{Shown}
use Rattle.collector.specs.Files.{FilesShown}
use Rattle.graphs.specs.Graph.{node_at}
use Rattle.network_laws.specs.State.{Setup}
use Rattle.network_nodes.specs.declared.actor.Link.{Link}
use Rattle.networks.specs.Networks.{Networked, HasOpened, AreBeside, SameNetwork, IsJoined, IsRight}
use Rattle.networks.specs.Networks.{writing_by, Face}
use Rattle.networks.proofs.SightLaws.{still_wired}
use Rattle.lending.specs.inner.Loans.{with_nodes, IsWhole, IsSet, Settles}

module _ {M : Type 0} (n m : Networked M) (s : Settles n m) where
  beside : AreBeside m.nodes n.pipes
  beside = subst (λ (x : Networked M). AreBeside m.nodes x.pipes) s.only s.beside

  -- the capacity of each pipe is what it was
  capacity_by : (o : Option Link) → (writing_by m.nodes o).capacity
      ≡ (writing_by n.nodes o).capacity
  capacity_by None = refl
  capacity_by (Some l) =
      let e = s.sees in
      let t = e.nodes l.writer in
      let w = t.writing l.branch in
      w.capacity

  joined : IsWhole n → IsJoined (with_nodes n m.nodes)
  joined w =
      let e = s.sees in
      record {
        wired = still_wired n.pipes n.nodes m.nodes e w.wired;
        beside = beside;
        wires = w.wires;
        lists = w.lists ∙ sym e.count;
        here = λ k lt. let t = e.nodes k in t.here (w.here k (subst (λ (c : ℕ). k < c) e.count lt));
        apart =
            let apart = w.apart in
            record {
              ins = λ i j file ne x y. apart.ins i j file ne
                  (sym (let t = e.nodes i in let a = t.same in ap (λ (f : Face). f.in_file) a)
                  ∙ x) (sym (let t = e.nodes j in let a = t.same in ap (λ (f : Face). f.in_file) a)
                  ∙ y);
              outs = λ i j file ne x y. apart.outs i j file ne
                  (sym (let t = e.nodes i in let a = t.same in ap (λ (f : Face). f.out_file) a)
                  ∙ x) (sym (let t = e.nodes j in let a = t.same in ap (λ (f : Face). f.out_file) a)
                  ∙ y);
            };
        rooms = let r = w.rooms in record {
          some = λ p l at. subst (λ (c : ℕ). 0 < c) (sym (capacity_by (Some l))) (r.some p l at);
          within = λ p l at. subst (λ (c : ℕ). c ≤ n.most) (sym (capacity_by (Some l)))
              (r.within p l at);
          most = r.most;
        };
      }

  -- it is joined
  pub settles_joined : IsWhole n → IsJoined m
  settles_joined w = subst IsJoined (sym s.only) (joined w)

  -- it is the network that it was
  pub settles_same : SameNetwork n m
  settles_same =
      let e = s.sees in
      subst (λ (x : Networked M). SameNetwork n x) (sym s.only)
      (record {
        pipes = refl;
        wires = refl;
        status = refl;
        most = refl;
        count = e.count;
        nodes = λ k. let t = e.nodes k in t.same;
        rooms = λ p. capacity_by (slice_get n.pipes p);
      })

  -- its files are open
  pub settles_opened : (files : FilesShown) → HasOpened n files → HasOpened m files
  settles_opened files h k = let e = s.sees in let t = e.nodes k in t.file files (h k)

  -- and it is right if it was set
  pub settles_right : (shows : M → Shown) (su : Setup) (files : FilesShown) → IsSet shows su n files
      → IsRight shows su m files
  settles_right shows su files r =
      let e = s.sees in
      subst (λ (x : Networked M). IsRight shows su x files) (sym s.only)
      (record {
        plan = r.plan;
        graph = let g = r.graph in record { count = e.count ∙ g.count; pipes = g.pipes };
        status = r.status;
        most = r.most;
        joined = joined r.whole;
        limits = λ p l at. let t = e.nodes l.writer in let w = t.writing l.branch in w.limit
            ∙ r.limits p l at;
        roomy = r.roomy;
        fits = λ k lt. let t = e.nodes k in
            t.fits shows su files k (node_at su.graph k)
            (r.fits k (subst (λ (c : ℕ). k < c) e.count lt));
      })

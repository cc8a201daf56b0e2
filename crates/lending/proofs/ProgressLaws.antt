-- Nodes that go on take no progress back.
use Rattle.std.proofs.Common.{◌≡◌, ◌≢◌, ℕ, zero, suc, ◌+◌, ◌≤◌, List, ◌++◌, Bool, true, false}
use Rattle.std.proofs.Common.{Option, Some, None, length, refl, sym, ap, ◌∙◌, subst, arith}
use Rattle.std.proofs.Common.{length-append}
use Rattle.std.specs.Prelude.{slice_get, if◌then◌else◌}
use Rattle.std.proofs.lemmas.Bool.{false≢true}
use mathlib.Core.List.{IsPrefix}
use Rattle.machine.specs.Law.{Shown}
use Rattle.bounded_pipe.specs.Ends.{Writing, Reading, WritesOn, ReadsOn}
use Rattle.bounded_pipe.specs.Pipes.{items_put, items_taken, events_of_writing, events_of_reading}
use Rattle.collector.specs.Files.{FilesShown}
use Rattle.graphs.specs.Graph.{Graph}
use Rattle.network_laws.specs.State.{State, events_below, node_state_of}
use Rattle.network_laws.specs.Steps.{is_done, done_below, progress}
use Rattle.network_nodes.specs.declared.actor.Link.{Link}
use Rattle.network_nodes.specs.inner.Actors.{actor_at, no_writing, no_reading, node_state_at}
use Rattle.networks.specs.Networks.{Networked, writing_by, reading_by, network_state}
use Rattle.networks.proofs.ActLaws.{writes_on_refl, reads_on_refl}
use Rattle.networks.proofs.EndLaws.{state_is}
use Rattle.run_types.specs.declared.node_state.NodeState.{NodeState}
use Rattle.run_types.specs.declared.node_state.NodeState.TheVariants.{Running, Ended, Broken}
use Rattle.lending.specs.inner.Loans.{NodesGoOn}

prefix_length : {A : Type 0} (xs ys : List A) → IsPrefix xs ys → length xs ≤ length ys
prefix_length xs ys h =
    let e : length (xs ++ h.0) ≡ length ys = ap (λ (l : List _). length l) h.1 in
    let f : length (xs ++ h.0) ≡ length xs + length h.0 = length-append xs h.0 in
    omega arith

mark_on : (a b : Bool) → (a ≡ true → b ≡ true) → (if a then 1 else 0) ≤ (if b then 1 else 0)
mark_on true false h = absurd (false≢true (h refl))
mark_on _ _ h = omega arith

writing_on : (a b : Writing) → WritesOn a b → events_of_writing a ≤ events_of_writing b
writing_on a b on =
    let l : length (items_put a) ≤ length (items_put b) = prefix_length a.put b.put on.put in
    let m : (if a.noted then 1 else 0) ≤ (if b.noted then 1 else 0) =
    mark_on a.noted b.noted on.noted in
    omega arith

reading_on : (a b : Reading) → ReadsOn a b → events_of_reading a ≤ events_of_reading b
reading_on a b on =
    let l : length (items_taken a) ≤ length (items_taken b) =
    prefix_length a.taken b.taken on.taken in
    let m : (if a.hung_up then 1 else 0) ≤ (if b.hung_up then 1 else 0) =
    mark_on a.hung_up b.hung_up on.hung_up in
    omega arith

events_on : (n : ℕ) (a b : State) → ((p : ℕ) → WritesOn (a.writing p) (b.writing p))
    → ((p : ℕ) → ReadsOn (a.reading p) (b.reading p)) → events_below n a ≤ events_below n b
events_on zero a b w r = omega arith
events_on (suc n) a b w r =
    let e : events_below n a ≤ events_below n b = events_on n a b w r in
    let x : events_of_writing (a.writing n) ≤ events_of_writing (b.writing n) =
    writing_on (a.writing n) (b.writing n) (w n) in
    let y : events_of_reading (a.reading n) ≤ events_of_reading (b.reading n) =
    reading_on (a.reading n) (b.reading n) (r n) in
    omega arith

done_on : (n : ℕ) (a b : State) → ((k : ℕ) → is_done (node_state_of (a.part k)) ≡ true
    → is_done (node_state_of (b.part k)) ≡ true) → done_below n a ≤ done_below n b
done_on zero a b h = omega arith
done_on (suc n) a b h =
    let e : done_below n a ≤ done_below n b = done_on n a b h in
    let x : (if is_done (node_state_of (a.part n)) then 1 else 0) ≤ (if is_done
    (node_state_of (b.part n)) then 1 else 0) =
    mark_on (is_done (node_state_of (a.part n))) (is_done (node_state_of (b.part n))) (h n) in
    omega arith

done_halts : (state : NodeState) → is_done state ≡ true → state ≢ Running
done_halts Ended d e = false≢true (ap is_done (sym e))
done_halts Broken d e = false≢true (ap is_done (sym e))
done_halts _ d e = false≢true d

module _ {M : Type 0} (shows : M → Shown) (f g : FilesShown) (n m : Networked M)
    (pipes : m.pipes ≡ n.pipes) (goes : NodesGoOn shows f g n.nodes m.nodes) where
  writes : (p : ℕ) → WritesOn (writing_by n.nodes (slice_get n.pipes p))
      (writing_by m.nodes (slice_get m.pipes p))
  writes p = subst (λ (ls : List Link). WritesOn (writing_by n.nodes (slice_get n.pipes p))
      (writing_by m.nodes (slice_get ls p))) (sym pipes) (by_case (slice_get n.pipes p))
    where
      by_case : (o : Option Link) → WritesOn (writing_by n.nodes o) (writing_by m.nodes o)
      by_case None = writes_on_refl no_writing
      by_case (Some l) = let t = goes.nodes l.writer in t.writes l.branch

  reads : (p : ℕ) → ReadsOn (reading_by n.nodes (slice_get n.pipes p))
      (reading_by m.nodes (slice_get m.pipes p))
  reads p = subst (λ (ls : List Link). ReadsOn (reading_by n.nodes (slice_get n.pipes p))
      (reading_by m.nodes (slice_get ls p))) (sym pipes) (by_case (slice_get n.pipes p))
    where
      by_case : (o : Option Link) → ReadsOn (reading_by n.nodes o) (reading_by m.nodes o)
      by_case None = reads_on_refl no_reading
      by_case (Some l) = let t = goes.nodes l.reader in t.reads l.input

  stays_done : (k : ℕ) → is_done (node_state_of ((network_state shows n f).part k)) ≡ true
      → is_done (node_state_of ((network_state shows m g).part k)) ≡ true
  stays_done k d =
      let was : is_done (node_state_at (actor_at n.nodes k)) ≡ true =
      ap is_done (sym (state_is shows f (actor_at n.nodes k))) ∙ d in
      let t = goes.nodes k in
      ap is_done (state_is shows g (actor_at m.nodes k)
      ∙ t.halted (done_halts (node_state_at (actor_at n.nodes k)) was)) ∙ was

  -- a network whose nodes go on is as far as it was, at least
  pub goes_further : (graph : Graph)
      → progress graph (network_state shows n f) ≤ progress graph (network_state shows m g)
  goes_further graph =
      let a = network_state shows n f in
      let b = network_state shows m g in
      let e : events_below (length graph.pipes) a ≤ events_below (length graph.pipes) b =
      events_on (length graph.pipes) a b writes reads in
      let d : done_below (length graph.nodes) a ≤ done_below (length graph.nodes) b =
      done_on (length graph.nodes) a b stays_done in
      omega (arith, e, d)

-- A step of one node between looks at its pipes, and what it leaves of the waits of the others.
use Rattle.std.proofs.Common.{◌≡◌, ℕ, zero, suc, ◌+◌, ◌<◌, List, [], ◌∷◌, Bool, true, false, Option}
use Rattle.std.proofs.Common.{refl, ap, ◌∙◌, sym, subst, inl, inr, ⊎_elim, arith, length, map}
use Rattle.std.specs.Prelude.{◌||◌, ◌&&◌, not, is_some, ◌==◌, if◌then◌else◌}
use Rattle.std.specs.List.{AllByRecursion}
use Rattle.machine.specs.Items.{has_close}
use Rattle.machine.specs.declared.piece.Item.{Item}
use Rattle.bounded_pipe.specs.Sizes.{size_of}
use Rattle.bounded_pipe.specs.Ends.{Writing, Reading, WritesOn, ReadsOn}
use Rattle.bounded_pipe.specs.Events.{SameWriting, SameReading}
use Rattle.bounded_pipe.proofs.Records.{prefix_reflexive, writes_on_transitive, reads_on_transitive}
use mathlib.Core.List.{IsPrefix}
use Rattle.bounded_pipe.specs.Pipes.{items_put, items_taken, IsFull, IsBare, events_of_writing}
use Rattle.bounded_pipe.specs.Pipes.{events_of_reading}
use Rattle.collector.specs.Sources.{SourcePart, source_owes, held_size}
use Rattle.splice_tee.specs.BranchStates.{is_open, is_lacking}
use Rattle.splice_tee.specs.declared.branches.Served.{Served}
use Rattle.stages.specs.Stages.{StagePart, AllDropped}
use Rattle.stages.specs.Owed.{branch_owed, is_front_owed, is_some_owed, is_finished, owed_size}
use Rattle.run_types.specs.declared.node_state.NodeState.{NodeState}
use Rattle.run_types.specs.declared.step.Step.{Step}
use Rattle.run_types.specs.declared.step.Step.TheVariants as step
use Rattle.collector.specs.Nodes.{failures_after}
use Rattle.graphs.specs.Graph.{Graph, GraphNode, node_at, writer, present}
use Rattle.network_laws.specs.State.{Part, Setup, State, node_state_of, events, events_below}
use Rattle.network_laws.specs.State.{IsFailed}
use Rattle.network_laws.specs.Waits.{owed_to, IsFullAt, FullWait, EmptyWait, WaitsFor, SourceFull}
use Rattle.network_laws.specs.Waits.{StageFull, StageEmpty, SinkEmpty}
use Rattle.network_laws.specs.Steps.{SameEnds, SameState, IsStep, StepIs}

-- ---- an end that only saw more

pub same_writing_refl : (w : Writing) → SameWriting w w
same_writing_refl w = record {
  pipe = refl;
  capacity = refl;
  limit = refl;
  put = refl;
  noted =
      refl;
  counted = λ h. h;
}

pub same_reading_refl : (r : Reading) → SameReading r r
same_reading_refl r = record { pipe = refl; taken = refl; hung_up = refl; told = λ h. h }

pub same_writing_trans : (a b c : Writing) → SameWriting a b → SameWriting b c → SameWriting a c
same_writing_trans a b c s t = record {
  pipe = t.pipe ∙ s.pipe;
  capacity = t.capacity
      ∙ s.capacity;
  limit = t.limit ∙ s.limit;
  put = t.put ∙ s.put;
  noted = t.noted
      ∙ s.noted;
  counted = λ h. t.counted (s.counted h);
}

pub same_reading_trans : (a b c : Reading) → SameReading a b → SameReading b c → SameReading a c
same_reading_trans a b c s t = record {
  pipe = t.pipe ∙ s.pipe;
  taken = t.taken
      ∙ s.taken;
  hung_up = t.hung_up ∙ s.hung_up;
  told = λ h. t.told (s.told h);
}

pub same_writes_on : (a b : Writing) → SameWriting a b → WritesOn a b
same_writes_on a b s = record {
  pipe = s.pipe;
  capacity = s.capacity;
  limit = s.limit;
  put =
      subst (IsPrefix a.put) (sym s.put) (prefix_reflexive a.put);
  noted = λ h. s.noted
      ∙ h;
  counted = s.counted;
}

pub same_reads_on : (a b : Reading) → SameReading a b → ReadsOn a b
same_reads_on a b s = record {
  pipe = s.pipe;
  taken =
      subst (IsPrefix a.taken) (sym s.taken) (prefix_reflexive a.taken);
  hung_up = λ h. s.hung_up
      ∙ h;
  told = s.told;
}

pub same_writing_events : (w v : Writing) → SameWriting w v
    → events_of_writing v ≡ events_of_writing w
same_writing_events w v s =
    ap (λ (q : List Item). length q + (if v.noted then 1 else 0)) s.put
    ∙ ap (λ (b : Bool). length (items_put w) + (if b then 1 else 0)) s.noted

pub same_reading_events : (r q : Reading) → SameReading r q
    → events_of_reading q ≡ events_of_reading r
same_reading_events r q s =
    ap (λ (x : List Item). length x + (if q.hung_up then 1 else 0)) s.taken
    ∙ ap (λ (b : Bool). length (items_taken r) + (if b then 1 else 0)) s.hung_up

-- a full pipe is full for ends that saw more, and so is an empty one empty
pub full_same : (size : ℕ) (w v : Writing) (r q : Reading) → SameWriting w v → SameReading r q
    → IsFull size w r → IsFull size v q
full_same size w v r q s t f =
    let n = ap (λ (x : List Item). length x) s.put in
    let m = ap (λ (x : List Item). length x) t.taken in
    let put = ap (λ (x : List Item). size_of x) s.put in
    let taken = ap (λ (x : List Item). size_of x) t.taken in
    let c = s.capacity in
    let l = s.limit in
    record {
      full = ⊎_elim (λ e. inl (omega (arith, e, n, m, c)))
          (λ h. inr (omega (arith, h, put, taken, l))) f.full;
      reader = t.hung_up ∙ f.reader;
    }

pub bare_same : (w v : Writing) (r q : Reading) → SameWriting w v → SameReading r q → IsBare w r
    → IsBare v q
bare_same w v r q s t f = record {
  bare = t.taken ∙ (f.bare ∙ sym s.put);
  unclosed =
      ap has_close s.put ∙ f.unclosed;
}

pub same_ends_trans : (a b c : State) → SameEnds a b → SameEnds b c → SameEnds a c
same_ends_trans a b c s t =
    record {
      writing = λ p. same_writing_trans (a.writing p) (b.writing p) (c.writing p) (s.writing p)
          (t.writing p);
      reading = λ p. same_reading_trans (a.reading p) (b.reading p) (c.reading p) (s.reading p)
          (t.reading p);
    }

pub same_state_refl : (a : State) → SameState a a
same_state_refl a =
    record {
      ends = record {
        writing = λ p. same_writing_refl (a.writing p);
        reading =
            λ p. same_reading_refl (a.reading p);
      };
      parts = λ k. refl;
    }

pub same_trans : (a b c : State) → SameState a b → SameState b c → SameState a c
same_trans a b c s t = record {
  ends = same_ends_trans a b c s.ends t.ends;
  parts = λ k. t.parts k
      ∙ s.parts k;
}

-- ---- the events

same_events_below : (n : ℕ) (a b : State) → SameEnds a b → events_below n b ≡ events_below n a
same_events_below zero a b s = refl
same_events_below (suc n) a b s =
    let e : events_below n b ≡ events_below n a = same_events_below n a b s in
    let w : events_of_writing (b.writing n) ≡ events_of_writing (a.writing n) =
    same_writing_events (a.writing n) (b.writing n) (s.writing n) in
    let r : events_of_reading (b.reading n) ≡ events_of_reading (a.reading n) =
    same_reading_events (a.reading n) (b.reading n) (s.reading n) in
    omega arith

pub same_events : (g : Graph) (a b : State) → SameEnds a b → events g b ≡ events g a
same_events g a b s = same_events_below (length g.pipes) a b s

-- ---- a wait stays a wait while nothing happens

same_owed : (x : StagePart) (w v : Writing) (s : Served) → SameWriting w v
    → branch_owed x v s ≡ branch_owed x w s
same_owed x w v s e =
    ap (λ (q : List Item). if is_front_owed x then is_lacking s else is_open
    s && (is_some_owed x.owed || (is_finished x.machine.wanted && not (has_close q)))) e.put

same_owed_to : (x : StagePart) (a b : State) (branches : List ℕ) (served : List Served)
    → SameEnds a b → owed_to b x branches served ≡ owed_to a x branches served
same_owed_to x a b [] served e = refl
same_owed_to x a b (p ∷ branches) [] e = refl
same_owed_to x a b (p ∷ branches) (s ∷ served) e =
    ap (λ (o : Bool). if o then p ∷ owed_to b x branches served else owed_to b x branches served)
    (same_owed x (a.writing p) (b.writing p) s (e.writing p))
    ∙ ap (λ (l : List ℕ). if branch_owed x (a.writing p) s then p ∷ l else l)
    (same_owed_to x a b branches served e)

same_full : (a b : State) (size : ℕ) (pipes : List ℕ) → SameEnds a b
    → AllByRecursion (IsFullAt a size) pipes → AllByRecursion (IsFullAt b size) pipes
same_full a b size [] e h = tt
same_full a b size (p ∷ pipes) e h = (
  full_same size (a.writing p) (b.writing p) (a.reading p) (b.reading p) (e.writing p)
      (e.reading p) h.0,
  same_full a b size pipes e h.1,
)

same_dropped : (a b : State) (pipes : List ℕ) → SameEnds a b → AllDropped (map b.writing pipes)
    → AllDropped (map a.writing pipes)
same_dropped a b [] e h = tt
same_dropped a b (p ∷ pipes) e h = (
  let s = e.writing p in sym s.noted
      ∙ h.0,
  same_dropped a b pipes e h.1,
)

same_source_owes : (nothing : Bool) (x : SourcePart) (w v : Writing) → SameWriting w v
    → source_owes nothing x v ≡ source_owes nothing x w
same_source_owes nothing x w v e =
    ap (λ (q : List Item). is_some x.held || ((x.at_end || nothing) && not (has_close q))) e.put

full_wait_same : (s : Setup) (a b : State) (k : ℕ) (node : Option GraphNode) (x : Part) (p : ℕ)
    → SameEnds a b → FullWait s a k node x p → FullWait s b k node x p
full_wait_same s a b k _ _ p e (SourceFull {x = x} own owes full) =
    SourceFull own (same_source_owes _ x (a.writing p) (b.writing p) (e.writing p)
    ∙ owes) (full_same (held_size x.held) (a.writing p) (b.writing p) (a.reading p)
    (b.reading p) (e.writing p) (e.reading p) full)
full_wait_same s a b k _ _ p e (StageFull {branches = branches} {x = x} h) =
    StageFull (
      h.0,
      same_owed_to x a b (present branches) x.served e
          ∙ h.1,
      same_full a b (owed_size x) (p ∷ h.0) e h.2,
      h.3,
    )

empty_wait_same : (s : Setup) (a b : State) (k : ℕ) (node : Option GraphNode) (x : Part) (p : ℕ)
    → SameEnds a b → EmptyWait s a k node x p → EmptyWait s b k node x p
empty_wait_same s a b k _ _ p e (StageEmpty {branches = branches} {x = x} h) = StageEmpty (
  h.0,
  h.1,
  h.2,
  same_owed_to x a b (present branches) x.served e ∙ h.3,
  (λ d. h.4 (same_dropped a b (present branches) e d)),
  bare_same (a.writing p) (b.writing p) (a.reading p) (b.reading p) (e.writing p) (e.reading p) h.5,
)
empty_wait_same s a b k _ _ p e (SinkEmpty own none bare) =
    SinkEmpty own none (bare_same (a.writing p) (b.writing p) (a.reading p) (b.reading p)
    (e.writing p) (e.reading p) bare)

pub wait_same : (s : Setup) (a b : State) (k : ℕ) (full : Bool) (p : ℕ) → SameEnds a b
    → b.part k ≡ a.part k → WaitsFor s a k full p → WaitsFor s b k full p
wait_same s a b k true p e same h = full_wait_same s a b k (node_at s.graph k) (b.part k) p e
    (subst (λ (x : Part). FullWait s a k (node_at s.graph k) x p) (sym same) h)
wait_same s a b k false p e same h = empty_wait_same s a b k (node_at s.graph k) (b.part k) p e
    (subst (λ (x : Part). EmptyWait s a k (node_at s.graph k) x p) (sym same) h)

-- ---- a step between looks

pub step_between : (g : Graph) (k : ℕ) (a b c d : State) (failures more : ℕ) → SameState a b
    → IsStep g k b c failures more → SameState c d → IsStep g k a d failures more
step_between g k a b c d failures more s t u =
    record {
      others = λ j within apart. u.parts j ∙ (t.others j within apart ∙ s.parts j);
      writing = λ p within apart. same_writing_trans (a.writing p) (b.writing p) (d.writing p)
          (s.ends.writing p) (same_writing_trans (b.writing p) (c.writing p) (d.writing p)
          (t.writing p within apart) (u.ends.writing p));
      reading = λ p within apart. same_reading_trans (a.reading p) (b.reading p) (d.reading p)
          (s.ends.reading p) (same_reading_trans (b.reading p) (c.reading p) (d.reading p)
          (t.reading p within apart) (u.ends.reading p));
      writes_on = λ p. writes_on_transitive (a.writing p) (b.writing p) (d.writing p)
          (same_writes_on (a.writing p) (b.writing p) (s.ends.writing p))
          (writes_on_transitive (b.writing p) (c.writing p) (d.writing p) (t.writes_on p)
          (same_writes_on (c.writing p) (d.writing p) (u.ends.writing p)));
      reads_on = λ p. reads_on_transitive (a.reading p) (b.reading p) (d.reading p)
          (same_reads_on (a.reading p) (b.reading p) (s.ends.reading p))
          (reads_on_transitive (b.reading p) (c.reading p) (d.reading p) (t.reads_on p)
          (same_reads_on (c.reading p) (d.reading p) (u.ends.reading p)));
      halted = λ h. same_trans a b d s
          (same_trans b c d (t.halted (λ e. h (sym (ap node_state_of (s.parts k)) ∙ e))) u);
      failures = t.failures
          ∙ (ap (λ (x : NodeState). failures_after x (node_state_of (c.part k)) failures)
          (ap node_state_of (s.parts k))
          ∙ ap (λ (x : NodeState). failures_after (node_state_of (a.part k)) x failures)
          (sym (ap node_state_of (u.parts k))));
    }

pub says_between : (s : Setup) (k : ℕ) (a b c d : State) (st : Step) → SameState a b
    → StepIs s b c k st → SameState c d → StepIs s a d k st
says_between s k a b c d step.Moved x h y =
    let before : events s.graph b ≡ events s.graph a = same_events s.graph a b x.ends in
    let after : events s.graph d ≡ events s.graph c = same_events s.graph c d y.ends in
    let grew : events s.graph b < events s.graph c = h.1 in
    (ap node_state_of (y.parts k) ∙ h.0, omega arith)
says_between s k a b c d (step.Waits p) x h y = (
  ap node_state_of (y.parts k) ∙ h.0,
  same_ends_trans a b d x.ends (same_ends_trans b c d h.1 y.ends),
  wait_same s c d k (writer s.graph p == k) p y.ends (y.parts k) h.2,
)
says_between s k a b c d step.Ended x h y = ap node_state_of (y.parts k) ∙ h
says_between s k a b c d step.Broken x h y = ap node_state_of (y.parts k) ∙ h
says_between s k a b c d step.Failed x h y = subst IsFailed (sym (ap node_state_of (y.parts k))) h

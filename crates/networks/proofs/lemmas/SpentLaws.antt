-- How far a run in rounds comes, with growths counted.
use Rattle.std.proofs.Common.{◌≡◌, ℕ, zero, suc, ◌+◌, ◌≤◌, List, Bool, Option, Some, None, length}
use Rattle.std.proofs.Common.{refl, ap, ◌∙◌, sym, subst, subst₂, arith}
use Rattle.std.specs.Prelude.{slice_get, if◌then◌else◌}
use Rattle.machine.specs.Law.{Shown}
use Rattle.machine.specs.declared.piece.Item.{Item}
use Rattle.bounded_pipe.specs.Ends.{Writing}
use Rattle.bounded_pipe.specs.Events.{StillWriting, StillReading}
use Rattle.bounded_pipe.specs.Pipes.{events_of_writing, events_of_reading}
use Rattle.collector.specs.Files.{FilesShown}
use Rattle.graphs.specs.Graph.{Graph}
use Rattle.network_laws.specs.State.{Part, Setup, State, node_state_of, IsFailed, events_below}
use Rattle.network_laws.specs.Steps.{is_done, done_below, progress}
use Rattle.network_nodes.specs.declared.actor.Link.{Link}
use Rattle.network_nodes.specs.inner.Actors.{actor_at, no_writing, no_reading}
use Rattle.networks.specs.Networks.{Networked, SameNetwork, writing_by, reading_by, rooms}
use Rattle.networks.specs.Networks.{network_state}
use Rattle.networks.specs.Growth.{AreGrown, OneGrew, PipeGrows}
use Rattle.networks.specs.Turns.{NoneFailed, SpendsRounds}
use Rattle.networks.proofs.EndLaws.{state_is}
use Rattle.networks.proofs.Progress.{bit_of}
use Rattle.networks.proofs.StayLaws.{still_are_still}

-- ---- growths, one after another

-- the last growth, or none, up to equal capacities
grown_still : (most n : ℕ) (a b c : ℕ → ℕ) → AreGrown most n a b → ((p : ℕ) → c p ≡ b p)
    → AreGrown most n a c
grown_still most zero a b c h same = λ p. same p ∙ h p
grown_still most (suc n) a b c h same =
    let g = h.2 in (
      h.0,
      h.1,
      record {
        pipe = g.pipe;
        some = g.some;
        less = g.less;
        twice = same g.pipe ∙ g.twice;
        others = λ q ne. same q ∙ g.others q ne;
      },
    )

pub grown_then : (most n m : ℕ) (a b c : ℕ → ℕ) → AreGrown most n a b → AreGrown most m b c
    → AreGrown most (n + m) a c
grown_then most n zero a b c h t = subst (λ (k : ℕ). AreGrown most k a c)
    (let e : n ≡ n + 0 = omega arith in e) (grown_still most n a b c h t)
grown_then most n (suc m) a b c h t =
    let both : AreGrown most (suc (n + m)) a c = (t.0, grown_then most n m a b t.0 h t.1, t.2) in
    subst (λ (k : ℕ). AreGrown most k a c) (let e : suc (n + m) ≡ n + suc m = omega arith in e) both

-- ---- a growth is no event

still_events : (n : ℕ) (a b : State) → ((p : ℕ) → StillWriting (a.writing p) (b.writing p))
    → ((p : ℕ) → StillReading (a.reading p) (b.reading p)) → events_below n b ≡ events_below n a
still_events zero a b w r = refl
still_events (suc n) a b w r =
    let rest : events_below n b ≡ events_below n a = still_events n a b w r in
    let sw = w n in
    let sr = r n in
    let put : events_of_writing (b.writing n) ≡ events_of_writing (a.writing n) =
    same_events sw.put sw.noted in
    let taken : events_of_reading (b.reading n) ≡ events_of_reading (a.reading n) =
    same_events sr.taken sr.hung_up in
    omega (arith, rest, put, taken)
  where
    same_events : {xs ys : List Item} {x y : Bool} → xs ≡ ys → x ≡ y
        → length xs + (if x then 1 else 0) ≡ length ys + (if y then 1 else 0)
    same_events {xs} {ys} {x} {y} e f =
        subst₂ (λ (zs : List Item) (z : Bool). length xs + (if x then 1 else 0)
        ≡ length zs + (if z then 1 else 0)) e f refl

still_done : (n : ℕ) (a b : State) → ((k : ℕ) → b.part k ≡ a.part k)
    → done_below n b ≡ done_below n a
still_done zero a b same = refl
still_done (suc n) a b same =
    let rest : done_below n b ≡ done_below n a = still_done n a b same in
    let here : bit_of (is_done (node_state_of (b.part n)))
    ≡ bit_of (is_done (node_state_of (a.part n))) =
    ap (λ (x : Part). bit_of (is_done (node_state_of x))) (same n) in
    omega (arith, rest, here)

module _ {M : Type 0} (p : ℕ) (old new : Networked M) (g : PipeGrows p old new) where
  pub one_grew : OneGrew old.most (rooms old) (rooms new)
  one_grew = record {
    pipe = p;
    some = g.some;
    less = g.less;
    twice = g.twice;
    others =
        λ q ne. ap (λ (w : Writing). w.capacity) ((g.others q ne).0);
  }

  same_pipes : new.pipes ≡ old.pipes
  same_pipes = let n = g.network in n.pipes

  still_writing : (q : ℕ) → StillWriting (writing_by old.nodes (slice_get old.pipes q))
      (writing_by new.nodes (slice_get new.pipes q))
  still_writing q =
      subst (λ (ls : List Link). StillWriting (writing_by old.nodes (slice_get old.pipes q))
      (writing_by new.nodes (slice_get ls q))) (sym same_pipes) (by_case (slice_get old.pipes q))
    where
      by_case : (o : Option Link) → StillWriting (writing_by old.nodes o) (writing_by new.nodes o)
      by_case None = still_are_still.writing no_writing
      by_case (Some l) = let t = g.nodes l.writer in t.writing l.branch

  still_reading : (q : ℕ) → StillReading (reading_by old.nodes (slice_get old.pipes q))
      (reading_by new.nodes (slice_get new.pipes q))
  still_reading q =
      subst (λ (ls : List Link). StillReading (reading_by old.nodes (slice_get old.pipes q))
      (reading_by new.nodes (slice_get ls q))) (sym same_pipes) (by_case (slice_get old.pipes q))
    where
      by_case : (o : Option Link) → StillReading (reading_by old.nodes o) (reading_by new.nodes o)
      by_case None = still_are_still.reading no_reading
      by_case (Some l) = let t = g.nodes l.reader in t.reading l.input

  -- a growth takes no progress back
  pub growth_progress : (shows : M → Shown) (g' : Graph) (files : FilesShown)
      → progress g' (network_state shows new files) ≡ progress g' (network_state shows old files)
  growth_progress shows g' files =
      let a = network_state shows old files in
      let b = network_state shows new files in
      let e : events_below (length g'.pipes) b ≡ events_below (length g'.pipes) a =
      still_events (length g'.pipes) a b still_writing still_reading in
      let d : done_below (length g'.nodes) b ≡ done_below (length g'.nodes) a =
      still_done (length g'.nodes) a b (λ k. let t = g.nodes k in t.part_is shows files) in
      omega (arith, e, d)

  -- no node fails by it
  pub growth_unfailed : (shows : M → Shown) (files : FilesShown) → NoneFailed old → NoneFailed new
  growth_unfailed shows files sound k within bad =
      let t = g.nodes k in
      let n = g.network in
      sound k (omega (arith, within, n.count))
      (subst IsFailed (sym (state_is shows files (actor_at new.nodes k))
      ∙ (ap (λ (x : Part). node_state_of x) (t.part_is shows files)
      ∙ state_is shows files (actor_at old.nodes k))) bad)

-- ---- rounds

module _ {M : Type 0} (shows : M → Shown) (s : Setup) where
  -- a quiet round, and then a growth
  pub spends_growth : (old mid new : Networked M) (before after : FilesShown) → SameNetwork old mid
      → progress s.graph (network_state shows old before) ≤ progress s.graph
      (network_state shows mid after) → (p : ℕ) → PipeGrows p mid new
      → SpendsRounds shows s 1 old before new after
  spends_growth old mid new before after same on p g =
      let e = growth_progress p mid new g shows s.graph after in (
        1,
        (
          rooms mid,
          same.rooms,
          subst (λ (m : ℕ). OneGrew m (rooms mid) (rooms new)) same.most
              (one_grew p mid new g),
        ),
        omega (arith, on, e),
      )

  -- rounds after rounds
  pub spends_then : (m n : ℕ) (old mid new : Networked M) (before between after : FilesShown)
      → mid.most ≡ old.most → SpendsRounds shows s m old before mid between
      → SpendsRounds shows s n mid between new after
      → SpendsRounds shows s (m + n) old before new after
  spends_then m n old mid new before between after same h t =
      let first : m + progress s.graph (network_state shows old before) ≤ progress s.graph
      (network_state shows mid between) + h.0 = h.2 in
      let second : n + progress s.graph (network_state shows mid between) ≤ progress s.graph
      (network_state shows new after) + t.0 = t.2 in (
        h.0 + t.0,
        grown_then old.most h.0 t.0 (rooms old) (rooms mid) (rooms new) h.1
            (subst (λ (k : ℕ). AreGrown k t.0 (rooms mid) (rooms new)) same t.1),
        omega (arith, first, second),
      )

  -- no round
  pub spends_none : (n : Networked M) (files : FilesShown) → SpendsRounds shows s 0 n files n files
  spends_none n files = (0, (λ p. refl), omega arith)

-- The greatest progress of a lawful state, by the lengths of the lists in the sequential answer.
use Rattle.std.proofs.Common.{◌≡◌, ℕ, zero, suc, ◌+◌, ◌≤◌, Bool, true, false, List, [], ◌∷◌, ◌++◌}
use Rattle.std.proofs.Common.{length, ap, length-append, arith}
use Rattle.std.specs.Prelude.{if◌then◌else◌}
use mathlib.Core.List.{IsPrefix}
use Rattle.machine.specs.Items.{bytes_of, IsTidy}
use Rattle.machine.specs.declared.piece.Item.{Item}
use Rattle.machine.specs.declared.piece.Item.TheVariants.{Bytes, Close}
use Rattle.bounded_pipe.specs.Ends.{Writing, Reading}
use Rattle.bounded_pipe.specs.Pipes.{items_put, items_taken, bytes_put, IsSound, events_of_writing}
use Rattle.bounded_pipe.specs.Pipes.{events_of_reading}
use Rattle.graphs.specs.Graph.{IsPipe, IsPlan}
use Rattle.network_laws.specs.Sequential.{Contents, answer}
use Rattle.network_laws.specs.State.{Setup, State, IsLawful, node_state_of, events_below}
use Rattle.network_laws.specs.Outcome.{Run, HasReads, Agree}
use Rattle.network_laws.specs.Steps.{is_done, done_below}
use Rattle.network_laws.specs.Bounds.{most_events, most_events_below, ProgressIsBounded}
use Rattle.network_laws.proofs.lemmas.DeterminacyLaws.{pipes_determined}

-- each piece has at least one byte, and Close is only last
tidy_count : (block : ℕ) (items : List Item) → IsTidy block items
    → length items ≤ length (bytes_of items) + 1
tidy_count block [] t = omega arith
tidy_count block (Bytes piece ∷ items) t =
    let rest : length items ≤ length (bytes_of items) + 1 = tidy_count block items t.1 in
    let some : 1 ≤ length piece = t.0.0 in
    let both : length (piece ++ bytes_of items) ≡ length piece + length (bytes_of items) =
    length-append piece (bytes_of items) in
    omega (arith, rest, some, both)
tidy_count block (Close ∷ items) t =
    let none : length items ≡ 0 = ap (λ (xs : List Item). length xs) t in
    omega (arith, none)

-- a prefix is no longer than the list
prefix_count : {A : Type 0} (xs ys : List A) → IsPrefix xs ys → length xs ≤ length ys
prefix_count xs ys p =
    let both : length (xs ++ p.0) ≡ length xs + length p.0 = length-append xs p.0 in
    let all : length (xs ++ p.0) ≡ length ys = ap (λ zs. length zs) p.1 in
    omega (arith, both, all)

-- a mark is one event at most
mark_most : (b : Bool) → (if b then 1 else 0) ≤ 1
mark_most true = omega arith
mark_most false = omega arith

-- the events of one pipe
pipe_most : (block : ℕ) (w : Writing) (r : Reading) (list : List ℕ) → IsSound block w r
    → IsPrefix (bytes_put w) list
    → events_of_writing w + events_of_reading r ≤ most_events (length list)
pipe_most block w r list sound begins =
    let puts : length (items_put w) ≤ length (bytes_put w) + 1 =
    tidy_count block (items_put w) sound.tidy in
    let bytes : length (bytes_put w) ≤ length list = prefix_count (bytes_put w) list begins in
    let takes : length (items_taken r) ≤ length (items_put w) =
    prefix_count (items_taken r) (items_put w) sound.ends.order in
    let noted : (if w.noted then 1 else 0) ≤ 1 = mark_most w.noted in
    let hung_up : (if r.hung_up then 1 else 0) ≤ 1 = mark_most r.hung_up in
    omega (arith, puts, bytes, takes, noted, hung_up)

-- the nodes that have ended or broken
done_most : (n : ℕ) (st : State) → done_below n st ≤ n
done_most zero st = omega arith
done_most (suc n) st =
    let rest : done_below n st ≤ n = done_most n st in
    let one : (if is_done (node_state_of (st.part n)) then 1 else 0) ≤ 1 =
    mark_most (is_done (node_state_of (st.part n))) in
    omega (arith, rest, one)

module _
    (s : Setup) (st : State) (run : Run) (contents : Contents) (plan : IsPlan s.graph)
    (lawful : IsLawful s st) (reads : HasReads st run) (agree : Agree s run contents) where
  -- the events of the pipes below a number
  events_most : (n : ℕ) → n ≤ length s.graph.pipes
      → events_below n st ≤ most_events_below n s.graph contents
  events_most zero le = omega arith
  events_most (suc n) le =
      let is : IsPipe s.graph n = omega (arith, le) in
      let rest : events_below n st ≤ most_events_below n s.graph contents =
      events_most n (omega (arith, le)) in
      let begins = (pipes_determined s st run contents plan lawful reads agree n is).0 in
      let here : events_of_writing (st.writing n) + events_of_reading (st.reading n)
      ≤ most_events (length (answer s.graph contents n)) =
      pipe_most s.block (st.writing n) (st.reading n) (answer s.graph contents n)
      (lawful.pipes n is) begins in
      omega (arith, rest, here)

pub progress_bounded : ProgressIsBounded
progress_bounded s st run contents plan lawful reads agree =
    let pipes = length s.graph.pipes in
    let events : events_below pipes st ≤ most_events_below pipes s.graph contents =
    events_most s st run contents plan lawful reads agree pipes (omega arith) in
    let done : done_below (length s.graph.nodes) st ≤ length s.graph.nodes =
    done_most (length s.graph.nodes) st in
    omega (arith, events, done)

-- How many rounds a run can spend.
use Rattle.std.proofs.Common.{◌≡◌, ℕ, ◌+◌, ◌*◌, ◌≤◌, Option, length, refl, ap, arith}
use Rattle.std.specs.Prelude.{IfErr}
use Rattle.std.specs.declared.result.Result.{Result}
use Rattle.std.specs.declared.result.Result.TheVariants.{Ok, Err}
use Rattle.std.proofs.lemmas.Option.{slice_get_past}
use Rattle.machine.specs.Law.{Shown}
use Rattle.collector.specs.Files.{FilesShown}
use Rattle.network_laws.specs.Bounds.{most_progress}
use Rattle.network_laws.specs.Outcome.{Agree}
use Rattle.network_laws.specs.Sequential.{Contents}
use Rattle.network_laws.specs.State.{Setup}
use Rattle.network_laws.specs.Steps.{progress}
use Rattle.network_laws.specs.declared.outcome.Outcome.{Outcome}
use Rattle.network_laws.specs.declared.outcome.RoundsSpent.{RoundsSpent}
use Rattle.network_laws.proofs.BoundLaws.{progress_bounded}
use Rattle.network_nodes.specs.declared.actor.Link.{Link}
use Rattle.networks.specs.Networks.{Networked, IsJoined, IsRight, writing_by, rooms, network_state}
use Rattle.networks.specs.Turns.{SpendsRounds, faults_below, network_run}
use Rattle.networks.specs.Growth.{AreGrown}
use Rattle.networks.specs.inner.KeptNetworks.{SpendsAll}
use Rattle.networks.specs.Bounds.{most_rounds, EndsInTime, NothingSpendsNothing}
use Rattle.networks.proofs.EndLaws.{reads, lawful}
use Rattle.networks.proofs.StateLaws.{pipe_count}
use Rattle.networks.proofs.lemmas.DoublingLaws.{left_below, left_below_most, AreCounted}
use Rattle.networks.proofs.lemmas.DoublingLaws.{growths_counted}

module _ {M : Type 0} where
  -- there is no pipe past the last
  pub none_past : (n : Networked M) (p : ℕ) → length n.pipes ≤ p → rooms n p ≡ 0
  none_past n p past =
      ap (λ (o : Option Link). (writing_by n.nodes o).capacity) (slice_get_past n.pipes p past)

  -- the growths between two networks are no more than those that were left
  growths_few : (growths : ℕ) (old new : Networked M) → IsJoined old
      → AreGrown old.most growths (rooms old) (rooms new)
      → AreCounted old.most (length old.pipes) growths (rooms old) (rooms new)
  growths_few growths old new joined grew =
      let room = joined.rooms in
      growths_counted old.most (length old.pipes) growths (rooms old) (rooms new) room.most grew
      (none_past old)

  -- the rounds that were spent, with the progress before them, are within the bound
  pub rounds_few : (shows : M → Shown) (s : Setup) (count : ℕ) (old new : Networked M)
      (before after : FilesShown) → IsRight shows s old before → IsRight shows s new after
      → SpendsRounds shows s count old before new after
      → (contents : Contents) → Agree s (network_run shows old before new after) contents
      → count + progress s.graph (network_state shows old before) ≤ most_rounds s contents
  rounds_few shows s count old new before after was is spent contents agree =
      let first = network_state shows old before in
      let last = network_state shows new after in
      let faults = faults_below (length old.nodes) first in
      let n = length old.pipes in
      let pipes : length s.graph.pipes ≡ n = pipe_count s.graph old was.graph in
      let growths = growths_few spent.0 old new was.joined spent.1 in
      let fewer : spent.0 + left_below old.most n (rooms new) ≤ left_below old.most n (rooms old) =
      growths.fewer in
      let twelve : left_below old.most n (rooms old) ≤ 12 * n =
      left_below_most old.most n (rooms old) in
      let far : progress s.graph last ≤ most_progress s.graph contents =
      progress_bounded s last (network_run shows old before new after) contents was.plan
      (lawful shows s new after before.failures faults is)
      (reads shows s new after before.failures faults is) agree in
      let on : count + progress s.graph first ≤ progress s.graph last + spent.0 = spent.2 in
      omega (arith, pipes, fewer, twelve, far, on)

  -- a run that was given more rounds than the bound comes to its end
  pub ends_in_time : (shows : M → Shown) (s : Setup) (rounds : ℕ) (old new : Networked M)
      (before after : FilesShown) → IsRight shows s old before → IsRight shows s new after
      → (result : Result Outcome RoundsSpent)
      → IfErr result (λ _. SpendsAll shows rounds old before new after)
      → EndsInTime shows s rounds old before new after result
  ends_in_time shows s rounds old new before after was is (Ok outcome) spent contents agree more =
      refl
  ends_in_time shows s rounds old new before after was is (Err e) spent contents agree more =
      let first = network_state shows old before in
      let few : rounds + progress s.graph first ≤ most_rounds s contents =
      rounds_few shows s rounds old new before after was is (spent.further s was) contents agree in
      absurd (omega (arith, few, more))

  -- a network that is as it was has spent no round
  pub nothing_spent : (shows : M → Shown) → NothingSpendsNothing shows
  nothing_spent shows s count n files right spent =
      let now = network_state shows n files in
      let left = left_below n.most (length n.pipes) (rooms n) in
      let growths = growths_few spent.0 n n right.joined spent.1 in
      let fewer : spent.0 + left ≤ left = growths.fewer in
      let on : count + progress s.graph now ≤ progress s.graph now + spent.0 = spent.2 in
      omega (arith, fewer, on)

use Rattle.std.proofs.Common.{◌≡◌, ℕ, ◌<◌, ◌++◌, ◌↔◌, List, get_or, map, sym, subst, ap, ap₂, ◌∙◌}
use Rattle.std.proofs.Common.{arith}
use Rattle.std.specs.List.{All}
use Rattle.std.proofs.lemmas.List.{take_all}
use Rattle.graphs.specs.Orders.{Joins}
use Rattle.graphs.specs.inner.Rows.{row}
use Rattle.graphs.specs.inner.Meetings.{Meet}
use Rattle.graphs.proofs.lemmas.PairLaws.{pairs_of, pairs_more, joins_meet, pairs_within}
use Rattle.graphs.proofs.pairs.meeting_pairs.Goals as goal

pub loop-channel-preserved : goal.loop-channel-preserved
loop-channel-preserved c =
    let writers = c.args.writers.now in
    let readers = c.args.readers.now in
    let i = c.loop-channel.channel-index in
    let w = get_or writers i (0, 0) in
    let is : c.of.result.now ≡ row readers w.0 = c.of.ensures
    ∙ c.loop-channel.invariant.table w.0 in
    let added : c.append_pairs.new.pairs.items ≡ c.loop-channel.pairs.items ++ map
    (λ t. (w.1, t)) c.of.result.now = c.in_ok-append_pairs.ensures in
    record {
      pairs = added
          ∙ (ap₂ (λ (ps : List (ℕ × ℕ)) (ts : List ℕ). ps ++ map (λ t. (w.1, t)) ts)
          c.loop-channel.invariant.pairs is
          ∙ sym (pairs_more writers readers i c.loop-channel-test.true));
      table = c.loop-channel.invariant.table;
    }

pub returns-clause-meet : goal.returns-clause-meet
returns-clause-meet c s t =
    let writers = c.args.writers.now in
    let readers = c.args.readers.now in
    let e = c.loop-channel.invariant.pairs
    ∙ ap (λ ws. pairs_of ws readers)
    (take_all c.loop-channel.channel-index writers (omega arith)) in
    let P : List (ℕ × ℕ) → Type 0 = λ ps. Joins ps s t ↔ Meet writers readers s t in
    subst P (sym e) (joins_meet writers readers s t)

pub returns-clause-within : goal.returns-clause-within
returns-clause-within c count ws rs =
    let writers = c.args.writers.now in
    let readers = c.args.readers.now in
    let e = c.loop-channel.invariant.pairs
    ∙ ap (λ xs. pairs_of xs readers)
    (take_all c.loop-channel.channel-index writers (omega arith)) in
    let P : List (ℕ × ℕ) → Type 0 = λ ps. All (λ (e : ℕ × ℕ). (e.0 < count) × (e.1 < count)) ps in
    subst P (sym e) (pairs_within writers readers count ws rs)

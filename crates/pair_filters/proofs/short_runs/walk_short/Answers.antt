use Rattle.std.proofs.Common.{◌+◌, ◌++◌, ◌∙◌, [], ap, cond, sym, take, arith}
use Rattle.commands.specs.Uniq.{run_text}
use Rattle.commands.specs.declared.uniq_words.RunsShown.{RunsShown}
use Rattle.pair_filters.specs.UniqSteps.{one_more}
use Rattle.pair_filters.specs.inner.ShortSteps.{are_alike, line_at}
use Rattle.lanes.specs.inner.Walks.{Course}
use Rattle.pair_filters.proofs.lemmas.ShortLaws.{runs_more, still_few, walked_behind}
use Rattle.pair_filters.proofs.short_runs.walk_short.Goals as goal

pub loop-last-preserved : goal.loop-last-preserved
loop-last-preserved c =
    let l = c.loop-last in
    let rules = c.args.rules in
    let bytes = c.args.bytes.now in
    let base = c.args.end + 1 in
    let next = base + c.in-Some.place in
    let t = c.take_short-after in
    let i = l.invariant in
    let alike = are_alike bytes l.last next in
    let line = line_at bytes l.last.start l.last.end in
    let w = c.in-Some.ensures.2 in
    record {
      runs =
          runs_more rules bytes c.args.start c.args.end next l.last t.result.0 c.args.made.now
          (l.made ++ take l.to l.few) c.emptied.new.made (take c.in_ok-to.to l.few)
          (take t.result.1 t.new.few) c.requires.lines i.runs
          (walked_behind bytes l.walk.bytes base l.walk.byte l.walk.from l.last.end c.in-Some.place
          i.bytes i.byte i.place c.in-Some.ensures.0)
          t.ensures.places
          (t.ensures.count ∙ ap (λ (s : RunsShown). cond alike (one_more s l.last.count) 1)
          (sym c.requires.shown))
          c.in_ok-to.ensures.1
          (t.ensures.made
          ∙ ap (λ (s : RunsShown). take c.in_ok-to.to l.few ++ cond alike []
          (run_text s line l.last.count)) (sym c.requires.shown));
      short = omega (arith, t.ensures.places.0, t.ensures.places.1, c.in-Some.ensures.1, i.place);
      count = still_few bytes c.args.shown l.last next t.result.0.count
          (omega (arith, c.loop-last-test.true)) t.ensures.count;
      few = t.ensures.few;
      long = t.ensures.long ∙ i.long;
      bytes = ap (λ (v : Course). v.bytes) w ∙ i.bytes;
      byte = ap (λ (v : Course). v.byte) w ∙ i.byte;
      place = omega (arith, ap (λ (v : Course). v.from) w, t.ensures.places.1);
    }

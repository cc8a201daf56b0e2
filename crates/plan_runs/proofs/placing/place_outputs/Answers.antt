use Rattle.std.proofs.Common.{sym, ◌∙◌, arith}
use Rattle.std.proofs.lemmas.Option.{slice_get-get_or}
use Rattle.plan_runs.proofs.lemmas.PlaceLaws.{places_more, unfailed}
use Rattle.plan_runs.proofs.placing.place_outputs.Goals as goal

pub loop-place-preserved : goal.loop-place-preserved
loop-place-preserved g c =
    let put = unfailed c.put_in_place.result (sym c.is_err.ensures.value
    ∙ c.if-is_err.false) c.put_in_place.ensures.ok in
    record {
      places = places_more c.args.outputs.now c.loop-place.place (g.F.Files.shows c.args.files.now)
          (g.F.Files.shows c.loop-place.files)
          (g.F.Files.shows c.put_in_place.new.self) c.loop-place.invariant.places
          _ (slice_get-get_or c.args.outputs.now c.loop-place.place _
          (omega (arith, c.loop-place-test.true))) put;
      failures = put.failures ∙ c.loop-place.invariant.failures;
    }

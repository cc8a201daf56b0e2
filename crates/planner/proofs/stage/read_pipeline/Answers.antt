use Rattle.std.proofs.Common.{◌≡◌, ℕ, ◌+◌, ◌-◌, Err, List, [], ◌∷◌, length, drop, nat_eq, true, sym}
use Rattle.std.proofs.Common.{ap, ◌∙◌, subst, arith}
use Rattle.std.proofs.lemmas.List.{length_push}
use Rattle.std.proofs.lemmas.Result.{err_from_is_err_and}
use Rattle.planner.specs.Places.{Stage}
use Rattle.planner.specs.inner.Reads.{ReadsOne, IsArgFault}
use Rattle.planner.specs.Stages.{PlacedCommand, stage_of, placed_in}
use Rattle.planner.proofs.lemmas.PlacedCommands.{AreRead, none_read, one_read, placed_step}
use Rattle.planner.proofs.lemmas.PlacedCommands.{refused_one, refused_more}
use Rattle.planner.proofs.stage.read_pipeline.Goals as goal

pub loop-place-init : goal.loop-place-init
loop-place-init c =
    let whole : ℕ → List PlacedCommand =
    λ n. placed_in n c.args.pipeline.now.background true c.as_slice-commands.result.now in
    let n = length c.args.stages.now.items in
    let z : n ≡ n + 0 = omega arith in
    record {
      count = z;
      read =
          subst (λ m. AreRead (whole n) (whole m) c.args.stages.now.items c.args.stages.now.items) z
          (none_read (whole n) c.args.stages.now.items);
    }

pub loop-place-preserved : goal.loop-place-preserved
loop-place-preserved c =
    let old = c.args.stages.now.items in
    let now = c.loop-place.stages.items in
    let n = length old in
    let i = c.loop-place.place in
    let background = c.args.pipeline.now.background in
    let cs = c.as_slice-commands.result.now in
    let count = c.loop-place.invariant.count in
    let whole = placed_in n background true cs in
    let rest = placed_in (n + (i + 1)) background (nat_eq (i + 1) 0) (drop (i + 1) cs) in
    let here : ℕ → PlacedCommand =
    λ k. record {
      index = k;
      background = background;
      is_first = nat_eq i 0;
      is_last =
          nat_eq (length cs - i) 1;
      command = c.index-commands-place.result;
    } in
    let next = subst (λ ds. AreRead whole ds old now)
    (placed_step n i background cs c.index-commands-place.result c.loop-place-test.true
    c.index-commands-place.is) c.loop-place.invariant.read in
    let items = c.in_ok-push.ensures.items in
    let pushed = length_push now c.in_ok-stage.stage in
    let size = ap (λ (us : List Stage). length us) items ∙ pushed in
    let index : c.len.result ≡ n + i = c.len.ensures ∙ (c.loop-place.stages.ok.0 ∙ count) in
    let means = ap stage_of (ap here (sym index)) ∙ c.in_ok-stage.ensures in
    record {
      count = omega (arith, size, count);
      read = one_read whole rest (here (n + i)) old now c.push.new.self.items c.in_ok-stage.stage
          next means items;
    }

pub returns-in_err-stage : goal.returns-in_err-stage
returns-in_err-stage c =
    let r = err_from_is_err_and c.from_residual.result c.from_residual.ensures.1 in
    let old = c.args.stages.now.items in
    let now = c.loop-place.stages.items in
    let n = length old in
    let i = c.loop-place.place in
    let background = c.args.pipeline.now.background in
    let cs = c.as_slice-commands.result.now in
    let count = c.loop-place.invariant.count in
    let whole = placed_in n background true cs in
    let rest = placed_in (n + (i + 1)) background (nat_eq (i + 1) 0) (drop (i + 1) cs) in
    let here : ℕ → PlacedCommand =
    λ k. record {
      index = k;
      background = background;
      is_first = nat_eq i 0;
      is_last =
          nat_eq (length cs - i) 1;
      command = c.index-commands-place.result;
    } in
    let next = subst (λ ds. AreRead whole ds old now)
    (placed_step n i background cs c.index-commands-place.result c.loop-place-test.true
    c.index-commands-place.is) c.loop-place.invariant.read in
    let index : c.len.result ≡ n + i = c.len.ensures ∙ (c.loop-place.stages.ok.0 ∙ count) in
    let f = c.in_err-stage.field-0.0 in
    let why = subst (λ d. ReadsOne d (Err f)) (ap here index) c.in_err-stage.ensures in
    let said = refused_more whole (here (n + i) ∷ []) rest old now next f
    (refused_one (here (n + i)) (length now) count f why) in
    rw (r.1, r.2)
    (subst (λ ds. IsArgFault n (placed_in n background true ds) f) c.as_slice-commands.ensures
    said)

use Rattle.std.proofs.Common.{rules, ◌≢◌, ◌∙◌, ap, List, subst}
use Rattle.std.proofs.lemmas.List.{take_all}
use Rattle.folders.specs.inner.Calls.{after_fault, Stores}
use Rattle.folders.specs.inner.Outputs.{AllStored}
use Rattle.folders.specs.declared.output.Output.{Output}
use Rattle.folders.proofs.Alone.{alone_more}
use Rattle.folders.proofs.Lists.{read_at, all_at}
use Rattle.folders.proofs.lemmas.Loops.{stored_none, stored_more}
use Rattle.folders.proofs.steps.store_all.Goals as goal

pub loop-output-init : goal.loop-output-init
loop-output-init g c known = stored_none c.args.outputs.now (g.F.Folder.shows c.args.folder.now) (g.F.Folder.moments known c.args.folder.now)

pub returns-in-Err-clause-others : goal.returns-in-Err-clause-others
returns-in-Err-clause-others g c known =
    let at = read_at c.args.outputs.now c.loop-output.output c.index-outputs-output.result c.loop-output-test.true c.index-outputs-output.is in
    alone_more (g.F.Folder.moments known c.loop-output.folder) (c.loop-output.invariant known).others (c.store.ensures.touches known) (c.store.ensures.looks known) (c.store.ensures.loses known)
    (λ n none. all_at (λ (o : Output). n ≢ o.new) c.args.outputs.now c.loop-output.output c.index-outputs-output.result at none)

pub returns-in-Err-clause-cause : goal.returns-in-Err-clause-cause
returns-in-Err-clause-cause g c known =
    let at = read_at c.args.outputs.now c.loop-output.output c.index-outputs-output.result c.loop-output-test.true c.index-outputs-output.is in (
      c.index-outputs-output.result,
      at,
      (c.in-Err.ensures.cause known) ∙ ap (after_fault (Stores c.index-outputs-output.result.new) c.in-Err.why) (c.loop-output.invariant known).failures,
    )

pub loop-output-preserved : goal.loop-output-preserved
loop-output-preserved g c known =
    let at = read_at c.args.outputs.now c.loop-output.output c.index-outputs-output.result c.loop-output-test.true c.index-outputs-output.is in
    stored_more c.args.outputs.now c.loop-output.output c.index-outputs-output.result (g.F.Folder.shows c.args.folder.now) (g.F.Folder.shows c.loop-output.folder) (g.F.Folder.shows c.store.new.self) at
    (g.F.Folder.moments known c.loop-output.folder) (c.loop-output.invariant known) (c.in_default.ensures.stored known) (c.in_default.ensures.keeps known) (c.store.ensures.touches known) (c.store.ensures.looks known) (c.store.ensures.loses known) (c.in_default.ensures.cause known)

pub returns-clause-stored : goal.returns-clause-stored
returns-clause-stored g c known = subst (λ (os : List Output). AllStored os (g.F.Folder.shows c.loop-output.folder)) (take_all c.loop-output.output c.args.outputs.now (search rules)) (c.loop-output.invariant known).stored

pub returns-clause-keeps : goal.returns-clause-keeps
returns-clause-keeps g c known = (c.loop-output.invariant known).keeps

pub returns-clause-others : goal.returns-clause-others
returns-clause-others g c known = (c.loop-output.invariant known).others

pub returns-clause-cause : goal.returns-clause-cause
returns-clause-cause g c known = (c.loop-output.invariant known).failures

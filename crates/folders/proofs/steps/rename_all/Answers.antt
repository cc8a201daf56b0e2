use Rattle.std.proofs.Common.{rules, ◌∙◌, ap, ⊎_elim, inl, inr, List, subst}
use Rattle.std.proofs.lemmas.List.{take_all}
use Rattle.folders.specs.inner.Outputs.{AllFiles}
use Rattle.folders.specs.declared.output.Output.{Output}
use Rattle.folders.specs.inner.Calls.{after_fault, MovesFile}
use Rattle.folders.proofs.Lists.{read_at}
use Rattle.folders.proofs.lemmas.Names.{own_apart}
use Rattle.folders.proofs.lemmas.Renaming.{renamed_none, renamed_more, lose_more, look_more, either_front}
use Rattle.folders.proofs.steps.rename_all.Goals as goal

pub rename-requires : goal.rename-requires
rename-requires g c =
    let at = read_at c.args.outputs.now c.loop-output.output c.index-outputs-output.result c.loop-output-test.true c.index-outputs-output.is in
    own_apart c.args.outputs.now c.loop-output.output c.index-outputs-output.result at c.requires.apart

pub returns-in-Err-clause-stopped : goal.returns-in-Err-clause-stopped
returns-in-Err-clause-stopped g c known =
    let at = read_at c.args.outputs.now c.loop-output.output c.index-outputs-output.result c.loop-output-test.true c.index-outputs-output.is in
    ⊎_elim (λ front. inl (λ n none. front n)) (λ front. inr (λ n none. front n))
    (either_front c.args.outputs.now c.loop-output.output c.index-outputs-output.result (g.F.Folder.shows c.args.folder.now) (g.F.Folder.shows c.loop-output.folder) (g.F.Folder.shows c.rename.new.self) at c.requires.apart (c.loop-output.invariant known) (c.in-Err.ensures.either known))

pub returns-in-Err-clause-looks : goal.returns-in-Err-clause-looks
returns-in-Err-clause-looks g c known =
    let at = read_at c.args.outputs.now c.loop-output.output c.index-outputs-output.result c.loop-output-test.true c.index-outputs-output.is in
    look_more c.args.outputs.now c.loop-output.output c.index-outputs-output.result (g.F.Folder.shows c.args.folder.now) (g.F.Folder.shows c.loop-output.folder) (g.F.Folder.shows c.rename.new.self) at c.requires.apart (c.loop-output.invariant known) (c.in-Err.ensures.either known) (c.rename.ensures.looks known)

pub returns-in-Err-clause-cause : goal.returns-in-Err-clause-cause
returns-in-Err-clause-cause g c known =
    let o = c.index-outputs-output.result in
    let at = read_at c.args.outputs.now c.loop-output.output o c.loop-output-test.true c.index-outputs-output.is in
    (o, at, (c.in-Err.ensures.cause known) ∙ ap (after_fault (MovesFile o.new o.place) c.in-Err.why) (c.loop-output.invariant known).failures)

pub returns-in-Err-clause-loses : goal.returns-in-Err-clause-loses
returns-in-Err-clause-loses g c known =
    let at = read_at c.args.outputs.now c.loop-output.output c.index-outputs-output.result c.loop-output-test.true c.index-outputs-output.is in
    lose_more c.args.outputs.now c.loop-output.output c.index-outputs-output.result (g.F.Folder.shows c.args.folder.now) (g.F.Folder.shows c.loop-output.folder) (g.F.Folder.shows c.rename.new.self) at c.requires.apart (c.loop-output.invariant known) (c.rename.ensures.may known) (c.rename.ensures.loses known)

pub loop-output-preserved : goal.loop-output-preserved
loop-output-preserved g c known =
    let at = read_at c.args.outputs.now c.loop-output.output c.index-outputs-output.result c.loop-output-test.true c.index-outputs-output.is in
    renamed_more c.args.outputs.now c.loop-output.output c.index-outputs-output.result (g.F.Folder.shows c.args.folder.now) (g.F.Folder.shows c.loop-output.folder) (g.F.Folder.shows c.rename.new.self) at c.requires.apart (c.loop-output.invariant known)
    (c.in_default.ensures.renames known) (c.rename.ensures.may known) (c.rename.ensures.looks known) (c.rename.ensures.loses known) (c.in_default.ensures.cause known)

pub loop-output-init : goal.loop-output-init
loop-output-init g c known = renamed_none c.args.outputs.now (g.F.Folder.shows c.args.folder.now) (g.F.Folder.moments known c.args.folder.now)

pub returns-clause-files : goal.returns-clause-files
returns-clause-files g c known = subst (λ (os : List Output). AllFiles os (g.F.Folder.shows c.args.folder.now).seen) (take_all c.loop-output.output c.args.outputs.now (search rules)) (c.loop-output.invariant known).files

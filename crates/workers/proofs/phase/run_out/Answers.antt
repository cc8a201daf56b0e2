use Rattle.std.proofs.Common.{rules, ◌≡◌, ◌∙◌, sym, subst}
use Rattle.networks.specs.Networks.{Networked, IsJoined}
use Rattle.workers.specs.inner.Phases.{RunsPhase}
use Rattle.workers.proofs.lemmas.Phases.{here_open, out_after, whole_after, phase_ran}
use Rattle.workers.proofs.phase.run_out.Goals as goal

pub run_beside-requires-after_bounds : goal.run_beside-requires-after_bounds
run_beside-requires-after_bounds g c κs within =
    here_open (g.F.Files.shows c.args.files.now) c.args.network c.lend_all.new.network
    c.in_ok-groups.groups.items (c.in_ok-groups.ensures.back
    ∙ c.new-lent.ensures.same) c.in_ok-groups.ensures.out c.requires.opened

pub settle-requires-clause-out : goal.settle-requires-clause-out
settle-requires-clause-out g c =
    let r = c.in-Ok.ensures.ok in
    let rounds = r.1.1 in
    out_after g.M.Machine.shows (g.F.Files.shows c.args.files.now)
    (g.F.Files.shows c.in-Ok.ran.files.now) c.args.network c.lend_all.new.network
    c.in-Ok.ran.network c.in_ok-groups.groups.items c.in-Ok.groups.items
    (subst (λ (x : Networked g.row.M.Denot). IsJoined x) c.new-lent.ensures.same
    c.new-lent.ensures.joined) (c.in_ok-groups.ensures.back
    ∙ c.new-lent.ensures.same) c.in_ok-groups.ensures.out rounds.runs r.0

pub settle-requires-clause-whole : goal.settle-requires-clause-whole
settle-requires-clause-whole g c =
    let r = c.in-Ok.ensures.ok in
    let rounds = r.1.1 in
    whole_after g.M.Machine.shows (g.F.Files.shows c.args.files.now)
    (g.F.Files.shows c.in-Ok.ran.files.now) c.args.network c.lend_all.new.network
    c.in-Ok.ran.network c.in_ok-groups.groups.items c.in-Ok.groups.items
    (subst (λ (x : Networked g.row.M.Denot). IsJoined x) c.new-lent.ensures.same
    c.new-lent.ensures.joined) (c.in_ok-groups.ensures.back
    ∙ c.new-lent.ensures.same) c.in_ok-groups.ensures.out rounds.runs r.0

pub returns-in-Ok-clause-phase : goal.returns-in-Ok-clause-phase
returns-in-Ok-clause-phase g c =
    let left : c.files-1.given.0 ≡ c.in-Ok.ran.files.now = search rules in
    let r = c.in-Ok.ensures.ok in
    let rounds = r.1.1 in
    subst (λ files. RunsPhase g.M.Machine.shows c.args.network
    (g.F.Files.shows c.args.files.now) c.settle.result (g.F.Files.shows files)) (sym left)
    (phase_ran g.M.Machine.shows (g.F.Files.shows c.args.files.now)
    (g.F.Files.shows c.in-Ok.ran.files.now) c.args.network c.lend_all.new.network
    c.in-Ok.ran.network c.in_ok-groups.groups.items c.in-Ok.groups.items
    (subst (λ (x : Networked g.row.M.Denot). IsJoined x) c.new-lent.ensures.same
    c.new-lent.ensures.joined) (c.in_ok-groups.ensures.back
    ∙ c.new-lent.ensures.same) c.in_ok-groups.ensures.out rounds.runs r.0
    c.requires.opened c.in-Ok.ran.sound rounds.same rounds.failed c.settle.result
    c.settle.ensures.settled c.settle.ensures.opened c.settle.ensures.right)

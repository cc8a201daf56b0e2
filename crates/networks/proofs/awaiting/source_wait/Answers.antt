use Rattle.std.proofs.Common.{◌≡◌, ◌<◌, ℕ, true, Some, Option, length, get_or, sym, ap, ◌∙◌, subst₂}
use Rattle.std.proofs.Common.{arith}
use Rattle.std.proofs.lemmas.Grind.{common_steps}
use Rattle.std.specs.Prelude.{is_none, is_some, unwrap_or}
use Rattle.std.proofs.lemmas.Bool.{false≢true}
use Rattle.std.proofs.lemmas.Option.{slice_get-get_or}
use Rattle.bounded_pipe.specs.Ends.{Writing}
use Rattle.collector.specs.Nodes.{read_by, source_part}
use Rattle.collector.specs.Sources.{source_owes, held_size}
use Rattle.network_nodes.specs.declared.actor.Link.{Link}
use Rattle.network_laws.specs.Waits.{IsFullAt}
use Rattle.networks.specs.Networks.{state_by}
use Rattle.networks.proofs.SightLaws.{has_ends}
use Rattle.networks.proofs.lemmas.AwaitLaws.{owed_some, pipe_of_source, source_writing, source_full}
use Rattle.networks.proofs.awaiting.source_wait.Goals as goal

pub bounds-pipes-pipe : goal.bounds-pipes-pipe
bounds-pipes-pipe g c =
    pipe_of_source c.args.nodes.now c.args.pipes.now c.requires.wired c.args.node c.args.source.now
    c.requires.here c.pipe-pipe.result c.pipe-pipe.ensures

pub is_full_at-requires-clause-ends : goal.is_full_at-requires-clause-ends
is_full_at-requires-clause-ends g c =
    has_ends c.args.pipes.now c.args.nodes.now c.requires.wired
    (λ p l e. let b = c.requires.beside p l e in let s = b.sees in s.ends) c.pipe-pipe.result _
    (slice_get-get_or c.args.pipes.now c.pipe-pipe.result _
    (pipe_of_source c.args.nodes.now c.args.pipes.now c.requires.wired c.args.node
    c.args.source.now c.requires.here c.pipe-pipe.result c.pipe-pipe.ensures))

pub is_full_at-requires-clause-beside : goal.is_full_at-requires-clause-beside
is_full_at-requires-clause-beside g c =
    c.requires.beside c.pipe-pipe.result _
    (slice_get-get_or c.args.pipes.now c.pipe-pipe.result _
    (pipe_of_source c.args.nodes.now c.args.pipes.now c.requires.wired c.args.node
    c.args.source.now c.requires.here c.pipe-pipe.result c.pipe-pipe.ensures))

pub returns-then-is_full_at-clause-full : goal.returns-then-is_full_at-clause-full
returns-then-is_full_at-clause-full g c = λ files p fits running.
    let shows = g.M.Machine.shows in
    let nodes = c.args.nodes.now in
    let pipes = c.args.pipes.now in
    let x = c.args.source.now in
    let q = c.pipe-pipe.result in
    let st = state_by shows nodes pipes files in
    let part = source_part (read_by files x.file).bytes x in
    let l : Link = get_or pipes q (record { writer = 0; branch = 0; reader = 0; input = 0 }) in
    let within : q < length pipes =
    pipe_of_source nodes pipes c.requires.wired c.args.node x c.requires.here q
    c.pipe-pipe.ensures in
    let o = owed_some (source_owes (is_none x.file) part x.end) c.in_ok-size.size
    (held_size part.held) (sym c.in_ok-size.was
    ∙ c.owed.ensures (read_by files x.file) fits running) in
    let owes : source_owes (is_none x.file) part (st.writing x.pipe) ≡ true =
    ap (λ (w : Writing). source_owes (is_none x.file) part w)
    (source_writing nodes pipes c.requires.wired c.args.node x c.requires.here shows files)
    ∙ o.0 in
    let full : IsFullAt st (held_size part.held) x.pipe =
    subst₂ (λ (n i : ℕ). IsFullAt st n i) o.1 c.pipe-pipe.ensures
    ((source_full nodes pipes c.requires.wired c.args.node x c.requires.here shows files q l
    c.in_ok-size.size (slice_get-get_or pipes q _ within)).0
    (c.is_full_at.ensures.0 c.if-is_full_at.true)) in (
      λ e. (sym (ap (λ (r : Option ℕ). unwrap_or r q) e) ∙ c.pipe-pipe.ensures, owes, full),
      λ h. ap (λ (i : ℕ). Some i) (c.pipe-pipe.ensures ∙ sym h.0),
    )

pub returns-else-is_full_at-clause-full : goal.returns-else-is_full_at-clause-full
returns-else-is_full_at-clause-full g c = λ files p fits running.
    let shows = g.M.Machine.shows in
    let nodes = c.args.nodes.now in
    let pipes = c.args.pipes.now in
    let x = c.args.source.now in
    let q = c.pipe-pipe.result in
    let st = state_by shows nodes pipes files in
    let part = source_part (read_by files x.file).bytes x in
    let l : Link = get_or pipes q (record { writer = 0; branch = 0; reader = 0; input = 0 }) in
    let within : q < length pipes =
    pipe_of_source nodes pipes c.requires.wired c.args.node x c.requires.here q
    c.pipe-pipe.ensures in
    let o = owed_some (source_owes (is_none x.file) part x.end) c.in_ok-size.size
    (held_size part.held) (sym c.in_ok-size.was
    ∙ c.owed.ensures (read_by files x.file) fits running) in (
      λ e. absurd (false≢true (ap (λ (r : Option ℕ). is_some r) e)),
      λ h. absurd (false≢true (sym c.if-is_full_at.false ∙ c.is_full_at.ensures.1
          ((source_full nodes pipes c.requires.wired c.args.node x c.requires.here shows files q l
          c.in_ok-size.size (slice_get-get_or pipes q _ within)).1
          (subst₂ (λ (n i : ℕ). IsFullAt st n i) (sym o.1) (sym c.pipe-pipe.ensures) h.2)))),
    )

pub offset_bounds-pipes-pipe : goal.offset_bounds-pipes-pipe
offset_bounds-pipes-pipe g c =
    let within : c.pipe-pipe.result < length c.args.pipes.now =
    pipe_of_source c.args.nodes.now c.args.pipes.now c.requires.wired c.args.node
    c.args.source.now c.requires.here c.pipe-pipe.result c.pipe-pipe.ensures in
    grind (arith, common_steps, within)

pub returns-then-is_full_at-clause-within : goal.returns-then-is_full_at-clause-within
returns-then-is_full_at-clause-within g c =
    pipe_of_source c.args.nodes.now c.args.pipes.now c.requires.wired c.args.node c.args.source.now
    c.requires.here c.pipe-pipe.result c.pipe-pipe.ensures

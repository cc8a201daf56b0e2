use Rattle.std.proofs.Common.{◌∙◌, sym, arith}
use Rattle.std.proofs.lemmas.Bool.{false≢true}
use Rattle.networks.specs.Networks.{state_by}
use Rattle.networks.proofs.lemmas.ChoiceLaws.{candidate_some, candidate_none, link_ends}
use Rattle.networks.proofs.lemmas.ChoiceLaws.{link_beside, link_room, link_holds}
use Rattle.networks.proofs.choosing.candidate_of.Goals as goal
use Rattle.networks.proofs.choosing.candidate_of.Goals.{else-capacity-most-via-then-capacity-most+else-holds_capacity_at}
use Rattle.networks.proofs.choosing.candidate_of.Goals.{else-capacity-most-via-else-capacity-most}

pub capacity_at-capacity-requires : goal.capacity_at-capacity-requires
capacity_at-capacity-requires g c =
    link_ends c.args.nodes.now c.args.pipes.now c.requires.wired c.requires.beside c.in_ok-pipe.pipe
    c.in_ok-pipe.ensures.within (record { writer = 0; branch = 0; reader = 0; input = 0 })

pub holds_capacity_at-requires-clause-ends : goal.holds_capacity_at-requires-clause-ends
holds_capacity_at-requires-clause-ends g c =
    link_ends c.args.nodes.now c.args.pipes.now c.requires.wired c.requires.beside c.in_ok-pipe.pipe
    c.in_ok-pipe.ensures.within (record { writer = 0; branch = 0; reader = 0; input = 0 })

pub holds_capacity_at-requires-clause-beside : goal.holds_capacity_at-requires-clause-beside
holds_capacity_at-requires-clause-beside g c =
    link_beside c.args.nodes.now c.args.pipes.now c.requires.wired c.requires.beside
    c.in_ok-pipe.pipe c.in_ok-pipe.ensures.within
    (record { writer = 0; branch = 0; reader = 0; input = 0 })

pub returns-then-holds_capacity_at-clause-within : goal.returns-then-holds_capacity_at-clause-within
returns-then-holds_capacity_at-clause-within g c =
    let room = link_room c.args.nodes.now c.args.pipes.now c.requires.wired c.requires.beside
    c.in_ok-pipe.pipe c.in_ok-pipe.ensures.within
    (record { writer = 0; branch = 0; reader = 0; input = 0 }) in (
      c.in_ok-pipe.ensures.within,
      omega (
        arith,
        room,
        c.capacity_at-capacity.ensures,
        c.if-capacity-most.true,
      ),
    )

pub returns-then-holds_capacity_at-clause-exact : goal.returns-then-holds_capacity_at-clause-exact
returns-then-holds_capacity_at-clause-exact g c = λ s files n en ep em right.
    let st = state_by g.M.Machine.shows c.args.nodes.now c.args.pipes.now files in
    let room = link_room c.args.nodes.now c.args.pipes.now c.requires.wired c.requires.beside
    c.in_ok-pipe.pipe c.in_ok-pipe.ensures.within
    (record { writer = 0; branch = 0; reader = 0; input = 0 }) in
    let holds = link_holds c.args.nodes.now c.args.pipes.now c.requires.wired c.requires.beside
    c.in_ok-pipe.pipe c.in_ok-pipe.ensures.within
    (record { writer = 0; branch = 0; reader = 0; input = 0 }) in
    let top = right.most in
    candidate_some s st c.args.node c.node_wait.result
    (λ p. c.node_wait.ensures.full s files n p en ep right) c.in_ok-pipe.pipe c.in_ok-pipe.was
    c.capacity_at-capacity.result
    (holds.0 (c.holds_capacity_at.ensures.0 c.if-holds_capacity_at.true))
    (omega (arith, room, top, em, c.capacity_at-capacity.ensures, c.if-capacity-most.true))
    (c.capacity_at-capacity.ensures ∙ sym room)

pub returns-else-capacity-most-clause-exact : goal.returns-else-capacity-most-clause-exact
returns-else-capacity-most-clause-exact g c = λ s files n en ep em right.
    let st = state_by g.M.Machine.shows c.args.nodes.now c.args.pipes.now files in
    let room = link_room c.args.nodes.now c.args.pipes.now c.requires.wired c.requires.beside
    c.in_ok-pipe.pipe c.in_ok-pipe.ensures.within
    (record { writer = 0; branch = 0; reader = 0; input = 0 }) in
    let holds = link_holds c.args.nodes.now c.args.pipes.now c.requires.wired c.requires.beside
    c.in_ok-pipe.pipe c.in_ok-pipe.ensures.within
    (record { writer = 0; branch = 0; reader = 0; input = 0 }) in
    let top = right.most in
    candidate_none s st c.args.node c.node_wait.result
    (λ p. c.node_wait.ensures.full s files n p en ep right) c.in_ok-pipe.pipe c.in_ok-pipe.was
    (λ has less. elim c.else-capacity-most.branch [
      | else-capacity-most-via-then-capacity-most+else-holds_capacity_at w ↦
          absurd (false≢true (sym w.if-holds_capacity_at.false
          ∙ w.holds_capacity_at.ensures.1 (holds.1 has)))
      | else-capacity-most-via-else-capacity-most w ↦
          absurd (omega (
            arith,
            less,
            room,
            top,
            em,
            c.capacity_at-capacity.ensures,
            w.if-capacity-most.false,
          ))
    ])

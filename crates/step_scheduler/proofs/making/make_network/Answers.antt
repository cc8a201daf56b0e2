use Rattle.std.proofs.Common.{◌≡◌, ◌<◌, ℕ, List, length, sym, subst}
use Rattle.std.specs.Prelude.{IfOk, slice_get}
use Rattle.filters.specs.FilterShows.{filter_shows}
use Rattle.networks.specs.inner.MadeNetwork.{CanBeMade, AreFor}
use Rattle.networks.specs.Networks.{writing_by}
use Rattle.step_scheduler.specs.Setups.{setup_of}
use Rattle.step_scheduler.proofs.lemmas.FitLaws.{can_be_nodes, can_be_made, are_for, are_fresh}
use Rattle.step_scheduler.proofs.lemmas.FitLaws.{files_ok}
use Rattle.step_scheduler.proofs.making.make_network.Goals as goal

pub make_nodes-requires : goal.make_nodes-requires
make_nodes-requires c =
    can_be_nodes c.args.plan.now c.args.opened.now c.requires.plan c.requires.opened

pub new-requires : goal.new-requires
new-requires c =
    record {
      plan = subst (λ (ps : List (ℕ × ℕ)). CanBeMade filter_shows c.in_ok-nodes.nodes.items ps)
          (sym c.pipes.ensures.value)
          (can_be_made c.args.plan.now c.args.opened.now c.in_ok-nodes.nodes.items c.requires.plan
          c.in_ok-nodes.ensures c.requires.opened);
    }

pub returns : goal.returns
returns c =
    let plan = c.args.plan.now in
    let o = c.args.opened.now in
    let nodes = c.in_ok-nodes.nodes.items in
    let fits = subst (λ (ps : List (ℕ × ℕ)). AreFor filter_shows
    (setup_of plan o c.args.settings.max_capacity c.args.settings.bytes c.args.settings.block)
    nodes ps c.in_ok-status.status c.args.settings.max_capacity c.args.settings.bytes
    c.args.settings.block) (sym c.pipes.ensures.value)
    (are_for plan o nodes c.requires.plan c.in_ok-nodes.ensures c.in_ok-status.status
    c.args.settings.max_capacity c.args.settings.bytes c.args.settings.block
    (c.in_ok-status.ensures c.args.settings.max_capacity c.args.settings.bytes
    c.args.settings.block)) in
    let opening = c.requires.opened in
    record {
      opened = λ old new all. c.new.ensures.opened new
          (are_fresh plan o nodes c.requires.plan c.in_ok-nodes.ensures old new all);
      right = λ old new all. c.new.ensures.right
          (setup_of plan o c.args.settings.max_capacity c.args.settings.bytes c.args.settings.block)
          new fits (are_fresh plan o nodes c.requires.plan c.in_ok-nodes.ensures old new all);
      empty = λ old new all. c.new.ensures.empty
          (setup_of plan o c.args.settings.max_capacity c.args.settings.bytes c.args.settings.block)
          new fits (are_fresh plan o nodes c.requires.plan c.in_ok-nodes.ensures old new all);
      room = subst (λ (ps : List (ℕ × ℕ)). IfOk c.new.result (λ n. (p : ℕ) → p < length ps
          → (writing_by n.nodes (slice_get n.pipes p)).capacity ≡ c.args.settings.capacity))
          c.pipes.ensures.value c.new.ensures.room;
      files = files_ok plan o nodes c.requires.plan c.in_ok-nodes.ensures
          c.args.settings.max_capacity c.args.settings.bytes c.args.settings.block opening.new
          c.new.result
          (c.new.ensures.right
          (setup_of plan o c.args.settings.max_capacity c.args.settings.bytes
          c.args.settings.block) opening.new fits
          (are_fresh plan o nodes c.requires.plan c.in_ok-nodes.ensures opening.old opening.new
          opening.opens))
          c.new.ensures.nodes;
    }

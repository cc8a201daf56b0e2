use Rattle.calling_tests.proofs.tests.run_alone.Goals as goal

pub run_in_turn-requires : goal.run_in_turn-requires
run_in_turn-requires g c =
    record {
      opened = c.in_ok-network.ensures.opened (g.F.Files.shows c.args.files.now)
          (g.F.Files.shows c.open.new.files) c.in_ok-opened.ensures.opens;
    }

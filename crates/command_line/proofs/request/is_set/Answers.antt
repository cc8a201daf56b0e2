use Rattle.clap.specs.Words.{found_of}
use Rattle.command_line.proofs.lemmas.Readings.{flag_given}
use Rattle.command_line.proofs.request.is_set.Goals as goal

pub returns : goal.returns
returns c = flag_given (found_of c.args.matches.now) c.args.name.now c.get_flag.result
    c.get_flag.ensures.none c.get_flag.ensures.value c.get_flag.ensures.other

use Rattle.clap.specs.Words.{found_of}
use Rattle.command_line.proofs.lemmas.Readings.{text_given}
use Rattle.command_line.proofs.request.name_of.Goals as goal

pub returns : goal.returns
returns c = text_given (found_of c.args.matches.now) c.args.option.now c.get_str.result
    c.get_str.ensures

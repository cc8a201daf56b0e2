use Rattle.std.proofs.Common.{rules, tests}
use Rattle.std.proofs.lemmas.Iterator.{YieldsList-from_slice}
use Rattle.std.proofs.lemmas.Iterator.Search.{any_from_yields_List}
use Rattle.program.specs.Reports.{is_input}
use Rattle.program.proofs.report_file.reads_name.Goals as goal

pub returns : goal.returns
returns c = any_from_yields_List (λ opening. is_input c.args.name.now opening.name) _ _ _
    c.any.ensures.ran
    (YieldsList-from_slice c.args.inputs.now (cc)) (λ x b q k. search (rules, tests))

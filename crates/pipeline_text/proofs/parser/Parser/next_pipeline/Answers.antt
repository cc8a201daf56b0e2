use Rattle.pipeline_text.specs.inner.Parses.{pipelines_left}
use Rattle.pipeline_text.proofs.lemmas.Scripts.{some_before}
use Rattle.pipeline_text.proofs.parser.Parser.next_pipeline.Goals as goal

pub returns-in-Some-clause-reads : goal.returns-in-Some-clause-reads
returns-in-Some-clause-reads c = some_before c.in-Some.pipeline c.in_ok-pipeline.field-0
    (pipelines_left c.args.self.now.lexer)
    (pipelines_left c.pipeline.new.self.lexer) c.in_ok-pipeline.ensures.reads c.in-Some.is

use Rattle.pipeline_text.proofs.lemmas.Refused.{ahead_in, within_in}
use Rattle.pipeline_text.proofs.lexer.Lexer.advance.Goals as goal

pub invariant_of-self : goal.invariant_of-self
invariant_of-self c = record {
  flaw = ahead_in c.args.self.now.scanner.text.now c.scan-self.new.self.text.now c.scan-self.result
      c.scan-self.ensures.text c.scan-self.ensures.flaw;
  start_within = within_in c.args.self.now.scanner.text.now c.scan-self.new.self.text.now
      c.args.self.now.start c.scan-self.ensures.text c.args.self.now.start_within;
}

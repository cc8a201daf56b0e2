use Rattle.std.proofs.Common.{refl}
use Rattle.pipeline_text.specs.declared.fault.TextFaultKind.TheVariants as kind
use Rattle.pipeline_text.specs.inner.Lexemes.{text_of, tokens_left}
use Rattle.pipeline_text.specs.inner.Parses.{name_left, commands_at}
use Rattle.pipeline_text.proofs.lemmas.Adds.{redirect_taken, redirect_refused}
use Rattle.pipeline_text.proofs.lemmas.Refused.{refuses}
use Rattle.pipeline_text.proofs.parser.Parser.redirect.Goals as goal

pub returns-then-twice-2-clause-reads : goal.returns-then-twice-2-clause-reads
returns-then-twice-2-clause-reads c =
    refuses (text_of c.args.self.now.lexer) c.fault-fault.result kind.RedirectedTwice
    (commands_at c.args.command c.args.redirection (tokens_left c.args.self.now.lexer))
    c.fault-fault.ensures.kind refl c.fault-fault.ensures.offset
    (redirect_refused c.args.command c.args.redirection c.in-Ok.name
    (name_left (tokens_left c.args.self.now.lexer))
    (tokens_left c.name.new.self.lexer) c.if-twice-2.ensures c.in-Ok.ensures.reads)

pub returns-clause-reads : goal.returns-clause-reads
returns-clause-reads c =
    redirect_taken c.args.command c.with_redirection.result c.args.redirection c.in-Ok.name
    (name_left (tokens_left c.args.self.now.lexer))
    (tokens_left c.name.new.self.lexer) c.if-twice-2.ensures c.with_redirection.ensures
    c.in-Ok.ensures.reads

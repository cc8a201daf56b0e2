use Rattle.std.proofs.Common.{refl, ap, ◌∙◌}
use Rattle.pipeline_text.specs.declared.fault.TextFaultKind.TheVariants as kind
use Rattle.pipeline_text.specs.Grammar.{may_begin}
use Rattle.pipeline_text.specs.inner.Lexemes.{text_of, tokens_left}
use Rattle.pipeline_text.specs.inner.Parses.{commands_at_word}
use Rattle.pipeline_text.proofs.lemmas.Adds.{first_taken, first_refused}
use Rattle.pipeline_text.proofs.lemmas.Refused.{refuses}
use Rattle.pipeline_text.proofs.parser.Parser.first_word.Goals as goal

pub returns-then-eq-clause-reads : goal.returns-then-eq-clause-reads
returns-then-eq-clause-reads c =
    let l = c.args.self.now.lexer in
    refuses (text_of l) c.fault.result kind.Assignment
    (commands_at_word c.args.command c.args.name c.args.look (tokens_left l))
    c.fault.ensures.kind refl c.fault.ensures.offset
    (first_refused c.args.command c.args.name c.args.look (tokens_left l) c.requires
    (c.if-not-may_begin.ensures ∙ ap (may_begin c.args.look) c.bytes.ensures))

pub returns-then-not-may_begin-clause-reads : goal.returns-then-not-may_begin-clause-reads
returns-then-not-may_begin-clause-reads c =
    let l = c.args.self.now.lexer in
    let f = c.fault-then-not-may_begin in
    refuses (text_of l) f.result kind.UnsupportedOperator
    (commands_at_word c.args.command c.args.name c.args.look (tokens_left l)) f.ensures.kind
    refl f.ensures.offset
    (first_refused c.args.command c.args.name c.args.look (tokens_left l) c.requires
    (c.if-not-may_begin.ensures ∙ ap (may_begin c.args.look) c.bytes.ensures))

pub returns-clause-reads : goal.returns-clause-reads
returns-clause-reads c = first_taken c.args.command _ c.args.name c.args.look
    (tokens_left c.args.self.now.lexer) c.requires c.in_ok-with_first_word.ensures

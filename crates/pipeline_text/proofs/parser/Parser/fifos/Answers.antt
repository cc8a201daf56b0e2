use Rattle.std.proofs.Common.{refl, sym, ◌∙◌}
use Rattle.pipeline_text.specs.declared.fault.TextFaultKind.TheVariants as kind
use Rattle.pipeline_text.specs.inner.Lexemes.{text_of}
use Rattle.pipeline_text.specs.inner.Parses.{pipelines_left, some_left, script_behind}
use Rattle.pipeline_text.proofs.lemmas.Scripts.{script_broken, names_end, names_refused, names_more}
use Rattle.pipeline_text.proofs.lemmas.Refused.{blamed, refuses, refused_in, within_in, goes_from}
use Rattle.pipeline_text.proofs.parser.Parser.fifos.Goals as goal

pub returns-in-Err-clause-reads : goal.returns-in-Err-clause-reads
returns-in-Err-clause-reads c =
    let old = pipelines_left c.commands.self.lexer in
    let total = script_behind c.args.names.now (pipelines_left c.args.self.now.lexer) in
    blamed (text_of c.args.self.now.lexer) c.in-Err.refusal c.blamed.result total
    c.blamed.ensures.blamed
    (refused_in (text_of c.commands.self.lexer) (text_of c.args.self.now.lexer) c.in-Err.refusal
    (some_left old) total c.commands.invariant.on.text (λ n. sym c.commands.invariant.left
    ∙ script_broken c.commands.names old n) c.in-Err.ensures.reads)

pub returns-in_default-clause-reads : goal.returns-in_default-clause-reads
returns-in_default-clause-reads c =
    sym c.commands.invariant.left
    ∙ names_end c.commands.names c.in-Ok.pipeline (pipelines_left c.commands.self.lexer)
    (pipelines_left c.next_pipeline.new.self.lexer) c.in_default.ensures c.in-Ok.ensures.reads

pub returns-then-not-makes_fifos-clause-reads : goal.returns-then-not-makes_fifos-clause-reads
returns-then-not-makes_fifos-clause-reads c =
    let total = script_behind c.args.names.now (pipelines_left c.args.self.now.lexer) in
    let none = sym c.commands.invariant.left
    ∙ names_refused c.commands.names c.in-Some.found.now c.in-Ok.pipeline
    (pipelines_left c.commands.self.lexer)
    (pipelines_left c.next_pipeline.new.self.lexer) c.in-Some.ensures
    c.if-not-makes_fifos.ensures c.in-Ok.ensures.reads in
    let same = c.in-Ok.ensures.on.text ∙ c.commands.invariant.on.text in
    blamed (text_of c.args.self.now.lexer) c.fault.result c.blamed-then-not-makes_fifos.result total
    c.blamed-then-not-makes_fifos.ensures.blamed
    (refuses (text_of c.args.self.now.lexer) c.fault.result kind.EmptyCommand total
    c.fault.ensures.kind refl (within_in (text_of c.next_pipeline.new.self.lexer)
    (text_of c.args.self.now.lexer) c.fault.result.offset (sym same) c.fault.ensures.offset)
    none)

pub commands-preserved : goal.commands-preserved
commands-preserved c = record {
  left = names_more c.commands.names c.append.new.self c.in-Some.found.now c.names_of.result.items
      c.in-Ok.pipeline (pipelines_left c.commands.self.lexer)
      (pipelines_left c.next_pipeline.new.self.lexer)
      c.in-Some.ensures c.if-not-makes_fifos.ensures c.names_of.ensures c.in_ok-append.ensures
      c.in-Ok.ensures.reads
      ∙ c.commands.invariant.left;
  on = goes_from c.args.self.now.lexer c.commands.self.lexer c.commands.self.lexer
      c.next_pipeline.new.self.lexer c.commands.invariant.on refl c.in-Ok.ensures.on;
}

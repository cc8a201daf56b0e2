use Rattle.std.proofs.Common.{Option, IsSome, ap, ◌∙◌, sym, subst, refl}
use Rattle.run_types.specs.declared.names.InName.{InName}
use Rattle.collector.specs.Nodes.{SourceShown}
use Rattle.collector.proofs.lemmas.Faults.{named-running, has_name}
use Rattle.collector.proofs.source.Source.fail.Goals as goal

pub blame-requires-clause-name : goal.blame-requires-clause-name
blame-requires-clause-name c =
    has_name c.self.inside.state c.self.inside.name c.self.inside.fault
    (ap (λ (x : SourceShown). x.state) c.self.view_is ∙ c.requires.running) c.self.invariant.1
    (c.self.invariant.0 (subst (λ (x : SourceShown). IsSome x.file)
    (sym c.self.view_is) c.requires.file))

pub invariant_of-self : goal.invariant_of-self
invariant_of-self c = (
  (λ file. subst (λ (n : Option InName). IsSome n) (sym c.blame.ensures.name)
      (has_name c.self.inside.state c.self.inside.name c.self.inside.fault
      (ap (λ (x : SourceShown). x.state) c.self.view_is
      ∙ c.requires.running) c.self.invariant.1 (c.self.invariant.0 file))),
  c.blame.ensures.faulted,
)

pub returns-clause-state : goal.returns-clause-state
returns-clause-state c =
    let name = c.blame.ensures.name
    ∙ sym (named-running c.self.inside.state c.self.inside.name c.self.inside.fault
    (ap (λ (x : SourceShown). x.state) c.self.view_is
    ∙ c.requires.running) c.self.invariant.1) in
    rw (name, ← c.self.view_is) refl

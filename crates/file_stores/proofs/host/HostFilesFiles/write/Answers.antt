use Rattle.std.proofs.Common.{[], refl, sym, ap, ◌∙◌, subst, append-nil}
use Rattle.collector.specs.Files.{WriteLog, WritesOnly}
use Rattle.file_stores.specs.inner.Host.{HostOutputShown, HostShown, shown_host}
use Rattle.file_stores.proofs.lemmas.HostLaws.{host_took, host_writes, log_before, log_after}
use Rattle.file_stores.proofs.lemmas.HostLaws.{other_failures}
use Rattle.file_stores.proofs.host.HostFilesFiles.write.Goals as goal

pub returns-in-Ok-clause-only : goal.returns-in-Ok-clause-only
returns-in-Ok-clause-only g c =
    host_writes c.args.file _ c.args.self.now _ c.self.view_is c.index_mut-output.result.now
    c.write.new.self c.requires.opened
    c.index_mut-output.ensures.value refl _ c.in-Ok.ensures.told

pub returns-in-Ok-clause-told : goal.returns-in-Ok-clause-told
returns-in-Ok-clause-told g c =
    host_took c.args.file _ c.args.self.now _ c.self.view_is c.index_mut-output.result.now
    c.write.new.self c.requires.opened
    c.index_mut-output.ensures.value refl _ c.in-Ok.ensures.told

pub returns-in-Ok-clause-free : goal.returns-in-Ok-clause-free
returns-in-Ok-clause-free g c =
    λ _. ap (λ (l : WriteLog). l.out)
    (log_before c.args.file _ c.args.self.now _ c.self.view_is c.index_mut-output.result.now
    c.write.new.self c.requires.opened
    c.index_mut-output.ensures.value refl) ∙ c.in-Ok.ensures.home refl

pub returns-in-Ok-clause-out : goal.returns-in-Ok-clause-out
returns-in-Ok-clause-out g c =
    ap (λ (l : WriteLog). l.out)
    (log_after c.args.file _ c.args.self.now _ c.self.view_is c.index_mut-output.result.now
    c.write.new.self c.requires.opened c.index_mut-output.ensures.value refl)
    ∙ c.in-Ok.ensures.out ∙ sym (ap (λ (l : WriteLog). l.out)
    (log_before c.args.file _ c.args.self.now _ c.self.view_is c.index_mut-output.result.now
    c.write.new.self c.requires.opened c.index_mut-output.ensures.value refl))

pub returns-in-Err-clause-only : goal.returns-in-Err-clause-only
returns-in-Err-clause-only g c =
    let writes = host_writes c.args.file _ c.args.self.now _ c.self.view_is c.index_mut-output.result.now
    c.write.new.self c.requires.opened c.index_mut-output.ensures.value refl []
    (ap (λ (o : HostOutputShown). o.log.bytes) c.in-Err.ensures.failed ∙ sym (append-nil _)) in
    subst (λ (s : HostShown _). WritesOnly c.args.file (shown_host c.args.self.now) (shown_host s))
    (sym c.fail_write.ensures) (other_failures c.args.file _ (shown_host c.args.self.now) _ writes)

use Rattle.std.proofs.Common.{refl, sym, subst, arith}
use Rattle.collector.specs.Files.{WritesOnly, SettlesSome, log_of}
use Rattle.file_stores.specs.inner.Host.{HostShown, shown_host}
use Rattle.file_stores.proofs.lemmas.HostLaws.{other_failures}
use Rattle.file_stores.proofs.lemmas.HostSettles.{host_same, host_settles_all, host_settles_some}
use Rattle.file_stores.proofs.lemmas.HostSettles.{host_writes_all, host_writes_some, opened_at}
use Rattle.file_stores.proofs.lemmas.HostSettles.{was_idle}
use Rattle.file_stores.proofs.host.HostFilesFiles.settle.Goals as goal

pub returns-in-Ok-clause-only : goal.returns-in-Ok-clause-only
returns-in-Ok-clause-only g c = λ opened.
    host_writes_all c.args.file _ c.args.self.now _ c.self.view_is c.index_mut-output.result.now
    c.settle.new.self opened c.index_mut-output.ensures.value refl c.in-Ok.ensures.all

pub returns-in-Ok-clause-all : goal.returns-in-Ok-clause-all
returns-in-Ok-clause-all g c =
    host_settles_all c.args.file _ c.args.self.now _ c.self.view_is c.index_mut-output.result.now
    c.settle.new.self (opened_at c.args.file _ c.args.self.now c.self.view_is (omega (arith, c.if-file-len.false, c.len.ensures)))
    c.index_mut-output.ensures.value refl c.in-Ok.ensures.all

pub returns-in-Ok-clause-idle : goal.returns-in-Ok-clause-idle
returns-in-Ok-clause-idle g c = λ none. (
  refl,
  host_same c.args.file _ c.args.self.now _ c.self.view_is c.index_mut-output.result.now
      c.settle.new.self (opened_at c.args.file _ c.args.self.now c.self.view_is (omega (arith, c.if-file-len.false, c.len.ensures)))
      c.index_mut-output.ensures.value refl
      (c.in-Ok.ensures.idle (was_idle c.args.file _ c.args.self.now _ c.self.view_is
      c.index_mut-output.result.now c.settle.new.self
      (opened_at c.args.file _ c.args.self.now c.self.view_is (omega (arith, c.if-file-len.false, c.len.ensures)))
      c.index_mut-output.ensures.value refl none)).1,
)

pub returns-in-Err-clause-only : goal.returns-in-Err-clause-only
returns-in-Err-clause-only g c = λ opened.
    let writes = host_writes_some c.args.file _ c.args.self.now _ c.self.view_is
    c.index_mut-output.result.now c.settle.new.self opened c.index_mut-output.ensures.value refl
    c.in-Err.ensures.some in
    subst (λ (s : HostShown _). WritesOnly c.args.file (shown_host c.args.self.now) (shown_host s))
    (sym c.fail_write.ensures) (other_failures c.args.file _ (shown_host c.args.self.now) _ writes)

pub returns-in-Err-clause-some : goal.returns-in-Err-clause-some
returns-in-Err-clause-some g c =
    subst (λ (s : HostShown _). SettlesSome (log_of (shown_host c.args.self.now) c.args.file)
    (log_of (shown_host s) c.args.file))
    (sym c.fail_write.ensures)
    (host_settles_some c.args.file _ c.args.self.now _ c.self.view_is
    c.index_mut-output.result.now c.settle.new.self
    (opened_at c.args.file _ c.args.self.now c.self.view_is (omega (arith, c.if-file-len.false, c.len.ensures)))
    c.index_mut-output.ensures.value refl c.in-Err.ensures.some)

pub returns-in-Err-clause-idle : goal.returns-in-Err-clause-idle
returns-in-Err-clause-idle g c = λ none.
    absurd (cc (c.in-Err.ensures.idle (was_idle c.args.file _ c.args.self.now _ c.self.view_is
    c.index_mut-output.result.now c.settle.new.self
    (opened_at c.args.file _ c.args.self.now c.self.view_is (omega (arith, c.if-file-len.false, c.len.ensures)))
    c.index_mut-output.ensures.value refl none)).0)

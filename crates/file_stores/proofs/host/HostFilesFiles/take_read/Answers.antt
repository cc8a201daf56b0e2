use Rattle.std.proofs.Common.{refl}
use Rattle.file_stores.proofs.lemmas.HostLaws.{host_gave, host_takes}
use Rattle.file_stores.proofs.host.HostFilesFiles.take_read.Goals as goal

pub returns-clause-only : goal.returns-clause-only
returns-clause-only g c =
    host_takes c.args.file _ c.args.self.now _ c.self.view_is c.index_mut.result.now
    c.take.new.self c.requires.opened c.index_mut.ensures.value refl c.take.result
    (λ v. v.items) c.take.ensures.kept c.take.ensures.told c.take.ensures.none

pub returns-clause-told : goal.returns-clause-told
returns-clause-told g c =
    host_gave c.args.file _ c.args.self.now _ c.self.view_is c.index_mut.result.now
    c.take.new.self c.requires.opened c.index_mut.ensures.value refl c.take.result
    (λ v. v.items) c.take.ensures.told

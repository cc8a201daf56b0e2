use Rattle.std.proofs.Common.{refl}
use Rattle.file_stores.proofs.lemmas.HostLaws.{host_told, host_reads}
use Rattle.file_stores.proofs.host.HostFilesFiles.read.Goals as goal

pub returns-in-Some-clause-only : goal.returns-in-Some-clause-only
returns-in-Some-clause-only g c =
    host_reads c.args.file _ c.args.self.now _ c.self.view_is c.index_mut-input.result.now
    c.read.new.self c.requires.opened
    c.index_mut-input.ensures.value refl c.read.ensures.kept _ _ c.in-Some.ensures.told

pub returns-in-Some-clause-told : goal.returns-in-Some-clause-told
returns-in-Some-clause-told g c =
    host_told c.args.file _ c.args.self.now _ c.self.view_is c.index_mut-input.result.now
    c.read.new.self c.requires.opened
    c.index_mut-input.ensures.value refl _ _ c.in-Some.ensures.told

use Rattle.std.proofs.Common.{refl}
use Rattle.collector.specs.Files.{batch_bytes}
use Rattle.file_stores.proofs.lemmas.HostSettles.{host_hands}
use Rattle.file_stores.proofs.host.HostFilesFiles.hand_over.Goals as goal

pub returns-clause-handed : goal.returns-clause-handed
returns-clause-handed g c =
    host_hands c.args.file _ c.args.self.now _ c.self.view_is c.index_mut.result.now
    c.hand_over.new.self c.requires.opened c.index_mut.ensures.value refl c.hand_over.result
    (batch_bytes c.args.batch) c.hand_over.ensures.free c.hand_over.ensures.handed

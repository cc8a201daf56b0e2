use Rattle.network_nodes.specs.inner.MadeNodes.{AreOpened}
use Rattle.network_nodes.proofs.tables.open_pipes.Given as goal

abbrev pub invariant-loop : goal.invariant-loop
invariant-loop l = AreOpened l.counter l.capacity l.bytes l.writers.items l.readers.items

use Rattle.std.proofs.Common.{drop, subst, sym, ℕ}
use Rattle.collector.specs.InputEnds.{IsLeftOf}
use Rattle.collector.specs.declared.needed.NeededEnd.TheVariants.{Bytes}
use Rattle.file_stores.proofs.lemmas.Ends.{bytes_begin}
use Rattle.file_stores.proofs.ends.last_bytes.Goals as goal

pub returns-clause-left : goal.returns-clause-left
returns-clause-left c =
    let b = bytes_begin c.args.count c.args.bytes.now in
    subst (λ (k : ℕ). IsLeftOf (Bytes c.args.count) c.args.bytes.now (drop k c.args.bytes.now))
    (sym c.saturating_sub.ensures) b.left

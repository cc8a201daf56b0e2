use Rattle.std.proofs.Common.{subst}
use Rattle.machine.specs.declared.piece.Item.{Item}
use Rattle.collector.specs.Nodes.{SourceFits}
use Rattle.collector.specs.inner.Parts.{with_item}
use Rattle.collector.proofs.lemmas.Offers.{piece_fits, close_fits}
use Rattle.collector.proofs.source.Source.offer.Goals as goal

pub returns-in-Bytes-clause-fits : goal.returns-in-Bytes-clause-fits
returns-in-Bytes-clause-fits c =
    λ log fits.
    let old = c.args.self.now in
    piece_fits old c.offer_piece.new.self c.requires.running c.requires.none c.in-Bytes.piece
    c.offer_piece.result c.offer_piece.ensures log
    (subst (λ (x : Item). SourceFits log (with_item x old)) c.in-Bytes.is fits)

pub returns-in-Close-clause-fits : goal.returns-in-Close-clause-fits
returns-in-Close-clause-fits c =
    λ log fits.
    let old = c.args.self.now in
    close_fits old c.offer_close.new.self c.requires.running c.requires.none c.offer_close.result
    (c.requires.owes c.in-Close.is) c.offer_close.ensures log
    (subst (λ (x : Item). SourceFits log (with_item x old)) c.in-Close.is fits)

use Rattle.std.proofs.Common.{ap}
use Rattle.pair_filters.specs.SilentShows.{silent_shows}
use Rattle.pair_filters.specs.PasteShows.{form_shows, paste_shows}
use Rattle.pair_filters.specs.SerialShows.{serial_shows}
use Rattle.pair_filters.specs.TableShows.{table_shows}
use Rattle.pair_filters.proofs.lemmas.TooLarge.{feeds_too_large}
use Rattle.pair_filters.proofs.paste.PasteMachine.feed.Goals as goal

pub returns-in-Table-clause-too_large : goal.returns-in-Table-clause-too_large
returns-in-Table-clause-too_large c = feeds_too_large c.feed.result c.args.input c.args.piece
    (table_shows c.in-Table.machine) (paste_shows c.args.self.now)
    (ap form_shows c.in-Table.is) c.feed.ensures.too_large

pub returns-in-Serial-clause-too_large : goal.returns-in-Serial-clause-too_large
returns-in-Serial-clause-too_large c =
    feeds_too_large c.feed-in-Serial.result c.args.input c.args.piece
    (serial_shows c.in-Serial.machine) (paste_shows c.args.self.now)
    (ap form_shows c.in-Serial.is) c.feed-in-Serial.ensures.too_large

pub returns-in-Silent-clause-too_large : goal.returns-in-Silent-clause-too_large
returns-in-Silent-clause-too_large c =
    feeds_too_large c.feed-in-Silent.result c.args.input c.args.piece
    (silent_shows c.in-Silent.machine) (paste_shows c.args.self.now)
    (ap form_shows c.in-Silent.is) c.feed-in-Silent.ensures.too_large

use Rattle.std.proofs.Common.{ap}
use Rattle.pair_filters.specs.SilentShows.{silent_shows}
use Rattle.pair_filters.specs.PasteShows.{form_shows, paste_shows}
use Rattle.pair_filters.specs.SerialShows.{serial_shows}
use Rattle.pair_filters.specs.TableShows.{table_shows}
use Rattle.pair_filters.proofs.lemmas.TooLarge.{closes_too_large}
use Rattle.pair_filters.proofs.paste.PasteMachine.close.Goals as goal

pub returns-in-Table-clause-too_large : goal.returns-in-Table-clause-too_large
returns-in-Table-clause-too_large c = closes_too_large c.close.result c.args.input
    (table_shows c.in-Table.machine) (paste_shows c.args.self.now)
    (ap form_shows c.in-Table.is) c.close.ensures.too_large

pub returns-in-Serial-clause-too_large : goal.returns-in-Serial-clause-too_large
returns-in-Serial-clause-too_large c = closes_too_large c.close-in-Serial.result c.args.input
    (serial_shows c.in-Serial.machine) (paste_shows c.args.self.now)
    (ap form_shows c.in-Serial.is) c.close-in-Serial.ensures.too_large

pub returns-in-Silent-clause-too_large : goal.returns-in-Silent-clause-too_large
returns-in-Silent-clause-too_large c = closes_too_large c.close-in-Silent.result c.args.input
    (silent_shows c.in-Silent.machine) (paste_shows c.args.self.now)
    (ap form_shows c.in-Silent.is) c.close-in-Silent.ensures.too_large

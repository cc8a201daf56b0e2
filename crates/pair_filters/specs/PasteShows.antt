-- What the machine of paste shows: what the machine of its form does.
use Rattle.machine.specs.Law.{Shown, IsLawful}
use Rattle.pair_filters.specs.SilentShows.{silent_shows, silent_lawful}
use Rattle.pair_filters.specs.SerialShows.{serial_shows, serial_lawful}
use Rattle.pair_filters.specs.TableShows.{table_shows, table_lawful}
use Rattle.pair_filters.specs.declared.paste.Form.{Form}
use Rattle.pair_filters.specs.declared.paste.Form.TheVariants.{Table, Serial, Silent}
use Rattle.pair_filters.specs.declared.paste.Paste.{Paste}

abbrev pub form_shows : Form → Shown
form_shows (Table m) = table_shows m
form_shows (Serial m) = serial_shows m
form_shows (Silent m) = silent_shows m

abbrev pub paste_shows : Paste → Shown
paste_shows m = form_shows m.form

form_lawful : (f : Form) → IsLawful (form_shows f)
form_lawful (Table m) = table_lawful m
form_lawful (Serial m) = serial_lawful m
form_lawful (Silent m) = silent_lawful m

-- it obeys the law
pub paste_lawful : (m : Paste) → IsLawful (paste_shows m)
paste_lawful m = form_lawful m.form

use Rattle.byte_filters.proofs.lemmas.AheadLaws.{all_inside, before_newline}
use Rattle.byte_filters.proofs.ahead.content_len.Goals as goal

pub returns-in-Some : goal.returns-in-Some
returns-in-Some c = before_newline c.args.bytes.now c.in-Some.place c.in-Some.ensures

pub returns-in-None : goal.returns-in-None
returns-in-None c = all_inside c.args.bytes.now c.in-None.ensures
